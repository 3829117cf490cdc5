use Rattle.lagsystem.proofs.Common.{Ok, ap, arith, is_some, length, refl, subst, sym, true, ℕ, ◌+◌, ◌∙◌, ◌≡◌, ForcesFirst, ForcesIn, ForcesPort}
use Rattle.lagsystem.proofs.Common.{count_held_on, inner_state, aggregator_numbered, IsSound, SystemValue, port_index}
use Rattle.lagsystem.proofs.Forced.{counts_held, frees_held, none_is_held}
use Rattle.lagsystem.proofs.ForcingLemmas.{one_aggregator_more}
use Rattle.lagsystem.proofs.HeldLemmas.{forces_none}
use Rattle.lagsystem.proofs.calls.System.force_port.Goals as goal

pub loop-before-preserved : goal.loop-before-preserved
loop-before-preserved g c = let i = c.loop-before.invariant in
    let gives : ℕ → ℕ → ℕ → Type 0 = λ conv count place. g.F.Fn.post c.args.self.now.algorithm (conv, (count, tt)) place in
    let one = subst (λ f. ForcesIn (λ conv count place. g.F.Fn.post f (conv, (count, tt)) place) c.args.port
    (aggregator_numbered (c.loop-before.before + 1)) c.loop-before.self.state.conversations c.loop-before.self.state
    c.force_held_in-forced.result c.force_held_in-forced.new.self.state) i.algorithm c.force_held_in-forced.ensures.forced in
    record {
      forced = one_aggregator_more gives c.args.port c.loop-before.before c.args.self.now.state c.loop-before.self.state
          c.force_held_in-forced.new.self.state c.loop-before.forced c.force_held_in-forced.result _ i.forced one refl;
      keys = c.force_held_in-forced.ensures.keys ∙ i.keys;
      few = omega (arith, i.few, c.force_held_in-forced.ensures.few);
      algorithm = c.force_held_in-forced.ensures.algorithm ∙ i.algorithm;
    }

pub returns-clause-forced : goal.returns-clause-forced
returns-clause-forced g c =
    let gives : ℕ → ℕ → ℕ → Type 0 = λ conv count place. g.F.Fn.post c.args.self.now.algorithm (conv, (count, tt)) place in
    let there : is_some (port_index c.args.port c.self.inside.inner.system_ports.items) ≡ true =
    rw c.in_ok-port_index.ensures.place refl in
    let count : c.count-before-end.result ≡ length c.args.self.now.state.keys = c.count-before-end.ensures.exact
    ∙ ap (λ (v : SystemValue g.row.F.Denot). length v.state.keys) c.self.view_is in
    let all : c.loop-before.before ≡ length c.args.self.now.state.keys =
    omega (arith, count, c.loop-before-test.false, c.loop-before.auto.before-end) in (
      subst (λ (v : SystemValue g.row.F.Denot). is_some (port_index c.args.port v.state.system_ports) ≡ true) c.self.view_is there,
      subst (λ k. ForcesFirst gives c.args.port k c.args.self.now.state c.loop-before.forced c.loop-before.self.state) all
          c.loop-before.invariant.forced,
    )

pub returns-clause-frees : goal.returns-clause-frees
returns-clause-frees g c =
    frees_held (λ conv count place. g.F.Fn.post c.args.self.now.algorithm (conv, (count, tt)) place) c.args.port c.args.self.now.state
    c.loop-before.forced c.loop-before.self.state
    (subst (λ (v : SystemValue g.row.F.Denot). IsSound v.state) c.self.view_is c.self.invariant) (returns-clause-forced g c)

pub returns-clause-none : goal.returns-clause-none
returns-clause-none g c =
    none_is_held (λ conv count place. g.F.Fn.post c.args.self.now.algorithm (conv, (count, tt)) place) c.args.port c.args.self.now.state
    c.loop-before.forced c.loop-before.self.state
    (subst (λ (v : SystemValue g.row.F.Denot). IsSound v.state) c.self.view_is c.self.invariant) (returns-clause-forced g c)

pub returns-clause-counts : goal.returns-clause-counts
returns-clause-counts g c =
    counts_held (λ conv count place. g.F.Fn.post c.args.self.now.algorithm (conv, (count, tt)) place) c.args.port c.args.self.now.state
    c.loop-before.forced c.loop-before.self.state
    (subst (λ (v : SystemValue g.row.F.Denot). IsSound v.state) c.self.view_is c.self.invariant) (returns-clause-forced g c)

-- where nothing is held

pub returns-then-held-eq0-clause-forced : goal.returns-then-held-eq0-clause-forced
returns-then-held-eq0-clause-forced g c =
    let gives : ℕ → ℕ → ℕ → Type 0 = λ conv count place. g.F.Fn.post c.args.self.now.algorithm (conv, (count, tt)) place in
    let there : is_some (port_index c.args.port c.self.inside.inner.system_ports.items) ≡ true =
    rw c.in_ok-port_index.ensures.place refl in
    let none : count_held_on c.args.port (inner_state c.self.inside.inner) ≡ 0 = sym c.held.ensures ∙ c.if-held-eq0.true in
    subst (λ (v : SystemValue g.row.F.Denot). ForcesPort gives c.args.port v.state (Ok 0) v.state) c.self.view_is
    (forces_none gives c.args.port (inner_state c.self.inside.inner) c.self.invariant none there)

pub returns-then-held-eq0-clause-frees : goal.returns-then-held-eq0-clause-frees
returns-then-held-eq0-clause-frees g c =
    frees_held (λ conv count place. g.F.Fn.post c.args.self.now.algorithm (conv, (count, tt)) place) c.args.port c.args.self.now.state
    0 c.args.self.now.state
    (subst (λ (v : SystemValue g.row.F.Denot). IsSound v.state) c.self.view_is c.self.invariant) (returns-then-held-eq0-clause-forced g c)

pub returns-then-held-eq0-clause-none : goal.returns-then-held-eq0-clause-none
returns-then-held-eq0-clause-none g c =
    none_is_held (λ conv count place. g.F.Fn.post c.args.self.now.algorithm (conv, (count, tt)) place) c.args.port c.args.self.now.state
    0 c.args.self.now.state
    (subst (λ (v : SystemValue g.row.F.Denot). IsSound v.state) c.self.view_is c.self.invariant) (returns-then-held-eq0-clause-forced g c)
