use Rattle.lagsystem.proofs.Common.{ap, arith, cond, false, subst, sym, ℕ, ◌+◌, ◌∙◌, ◌≡◌, ForcesIfHeld, ForcesIn, SystemValue}
use Rattle.lagsystem.proofs.ForcingLemmas.{one_conversation_more}
use Rattle.lagsystem.proofs.calls.System.force_held_in.Goals.{then-force_if_held, else-force_if_held}
use Rattle.lagsystem.proofs.calls.System.force_held_in.Goals as goal

none : (n : ℕ) → n ≡ n + cond false 1 0
none n = omega arith

pub loop-conv-preserved : goal.loop-conv-preserved
loop-conv-preserved g c = let i = c.loop-conv.invariant in
    let gives : ℕ → ℕ → ℕ → Type 0 = λ conv count place. g.F.Fn.post c.args.self.now.algorithm (conv, (count, tt)) place in
    let one = subst (λ f. ForcesIfHeld (λ conv count place. g.F.Fn.post f (conv, (count, tt)) place) c.args.port c.args.agg c.loop-conv.conv
    c.loop-conv.self.state c.force_if_held.result c.force_if_held.new.self.state) i.algorithm c.force_if_held.ensures.forced in
    elim c.if-force_if_held.branch [
      | then-force_if_held w ↦ record {
        forced = one_conversation_more gives c.args.port c.args.agg c.loop-conv.conv c.args.self.now.state c.loop-conv.self.state
            c.force_if_held.new.self.state c.loop-conv.forced _ c.force_if_held.result i.forced one
            (w.forced-is ∙ ap (λ b. c.loop-conv.forced + cond b 1 0) (sym w.if-force_if_held.true));
        keys = c.force_if_held.ensures.keys ∙ i.keys;
        conversations = c.force_if_held.ensures.conversations ∙ i.conversations;
        few = omega (arith, w.forced-is, i.few);
        algorithm = c.force_if_held.ensures.algorithm ∙ i.algorithm;
      }
      | else-force_if_held w ↦ record {
        forced = one_conversation_more gives c.args.port c.args.agg c.loop-conv.conv c.args.self.now.state c.loop-conv.self.state
            c.force_if_held.new.self.state c.loop-conv.forced _ c.force_if_held.result i.forced one
            (w.forced-is ∙ none c.loop-conv.forced ∙ ap (λ b. c.loop-conv.forced + cond b 1 0) (sym w.if-force_if_held.false));
        keys = c.force_if_held.ensures.keys ∙ i.keys;
        conversations = c.force_if_held.ensures.conversations ∙ i.conversations;
        few = omega (arith, w.forced-is, i.few);
        algorithm = c.force_if_held.ensures.algorithm ∙ i.algorithm;
      }
    ]

pub returns-clause-forced : goal.returns-clause-forced
returns-clause-forced g c =
    let gives : ℕ → ℕ → ℕ → Type 0 = λ conv count place. g.F.Fn.post c.args.self.now.algorithm (conv, (count, tt)) place in
    let count : c.conversations-conv-end.result ≡ c.args.self.now.state.conversations = c.conversations-conv-end.ensures
    ∙ ap (λ (v : SystemValue g.row.F.Denot). v.state.conversations) c.self.view_is in
    let all : c.loop-conv.conv ≡ c.args.self.now.state.conversations =
    omega (arith, count, c.loop-conv-test.false, c.loop-conv.auto.conv-end) in
    subst (λ k. ForcesIn gives c.args.port c.args.agg k c.args.self.now.state c.loop-conv.forced c.loop-conv.self.state) all
    c.loop-conv.invariant.forced
