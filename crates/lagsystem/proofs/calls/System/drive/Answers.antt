use Rattle.lagsystem.proofs.Common.{arith, map, subst, sym, ℕ, ◌∙◌, PicksIndexes, call_of, CallPromise}
use Rattle.lagsystem.proofs.DriveLemmas.{drives_all, drives_on, driven_runs}
use Rattle.lagsystem.proofs.Windows.{window_law}
use Rattle.lagsystem.proofs.calls.System.drive.Goals as goal

pub call-reply-requires : goal.call-reply-requires
call-reply-requires g c = record {
  usable = subst (λ f. PicksIndexes (λ conv count. g.F.Fn.pre f (conv, (count, tt)))
      (λ conv count place. g.F.Fn.post f (conv, (count, tt)) place)) (sym c.loop-call.invariant.algorithm) c.requires.usable;
}

pub loop-call-preserved : goal.loop-call-preserved
loop-call-preserved g c = let i = c.loop-call.call-index in
    let calls = c.args.calls.now in
    let answer = c.call-reply.result in
    let mid = c.loop-call.self.state in
    let new = c.call-reply.new.self.state in
    let same = c.call-item.is in
    let made = subst (λ f. CallPromise (λ conv count place. g.F.Fn.post f (conv, (count, tt)) place) mid (call_of c.call-item.result) answer
    new) c.loop-call.invariant.algorithm c.call-reply.ensures.answers in record {
      driven = rw c.push_reserved.ensures.items
          (drives_on (λ conv count place. g.F.Fn.post c.args.self.now.algorithm (conv, (count, tt)) place) c.args.self.now.state mid new
          calls c.loop-call.replies.items i c.call-item.result answer c.loop-call-test.true c.loop-call.invariant.driven
          (subst (λ x. CallPromise (λ conv count place. g.F.Fn.post c.args.self.now.algorithm (conv, (count, tt)) place) mid
          (call_of x) answer new) same made));
      algorithm = c.call-reply.ensures.algorithm ∙ c.loop-call.invariant.algorithm;
      count = omega (arith, c.push_reserved.ensures.len, c.loop-call.invariant.count);
      room = omega (arith, c.push_reserved.ensures.capacity, c.loop-call.invariant.room);
    }

pub returns-clause-driven : goal.returns-clause-driven
returns-clause-driven g c =
    drives_all (λ conv count place. g.F.Fn.post c.args.self.now.algorithm (conv, (count, tt)) place) c.args.self.now.state
    c.loop-call.self.state c.args.calls.now c.loop-call.replies.items c.loop-call.call-index c.loop-call-test.false
    c.loop-call.invariant.driven

pub returns-clause-window : goal.returns-clause-window
returns-clause-window g c =
    let gives : ℕ → ℕ → ℕ → Type 0 = λ conv count place. g.F.Fn.post c.args.self.now.algorithm (conv, (count, tt)) place in
    let old = c.args.self.now.state in
    let new = c.loop-call.self.state in
    let calls = map call_of c.args.calls.now in
    window_law gives old new calls c.loop-call.replies.items c.open_invariant.ensures.ages
    (driven_runs gives old new calls c.loop-call.replies.items (returns-clause-driven g c))
