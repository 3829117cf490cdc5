use Rattle.lagtool_jobs.proofs.Common.{List, [], ap, append-nil, append_assoc, refl, rules, subst, sym, ◌++◌, ◌∙◌, ◌≡◌, nil_from_length, chunks_rest}
use Rattle.lagtool_jobs.proofs.Common.{Event, Algorithms, WorldRuns, algorithms_of}
use Rattle.lagtool_jobs.proofs.PlayingLemmas.{piece_stops_for_memory}
use Rattle.lagworld.proofs.Headline.{runs_on}
use Rattle.lagtool_jobs.proofs.running.run_events.Goals as goal

pub run-requires-clause-one : goal.run-requires-clause-one
run-requires-clause-one g c = rw c.loop-piece.invariant.one c.requires.one

pub run-requires-clause-two : goal.run-requires-clause-two
run-requires-clause-two g c = rw c.loop-piece.invariant.two c.requires.two

pub loop-piece-init : goal.loop-piece-init
loop-piece-init g c = record {
  can_next = search rules;
  is_finite = tt;
  ran = ([], search rules, rw c.new-replies.ensures.items refl);
  fixed = refl;
  sound = c.requires.sound;
  one = refl;
  two = refl;
}

pub returns-in-Err-clause-stopped : goal.returns-in-Err-clause-stopped
returns-in-Err-clause-stopped g c =
    let gives : Algorithms = algorithms_of g.F.Fn.post c.args.world.now.one c.args.world.now.two in
    let so_far = c.loop-piece.invariant.ran in
    let old = c.args.world.now.state in
    let mid = c.loop-piece.world.state in
    let new = c.run.new.self.state in
    let piece = c.in-Some.piece.now in
    let stopped = rw (c.loop-piece.invariant.one, c.loop-piece.invariant.two) at c.in-Err.ensures.stopped in
    piece_stops_for_memory gives old mid new c.args.events.now so_far.0 piece (chunks_rest c.next.new.self) c.loop-piece.replies.items
    c.in-Err.stop so_far.2 (so_far.1 ∙ ap (λ (es : List Event). so_far.0 ++ es) c.in-Some.ensures.steps.1.0) c.loop-piece.invariant.fixed
    c.run.ensures.fixed c.requires.acted c.requires.named c.requires.few stopped

pub loop-piece-preserved : goal.loop-piece-preserved
loop-piece-preserved g c = let gives : Algorithms = algorithms_of g.F.Fn.post c.args.world.now.one c.args.world.now.two in
    let so_far = c.loop-piece.invariant.ran in
    let old = c.args.world.now.state in
    let mid = c.loop-piece.world.state in
    let new = c.run.new.self.state in
    let piece = c.in-Some.piece.now in
    let rest = chunks_rest c.next.new.self in
    let replies = c.in-Ok.more.items in
    let ran = rw (c.loop-piece.invariant.one, c.loop-piece.invariant.two) at c.in-Ok.ensures.ran in
    let grown : c.append.new.self.items ≡ c.loop-piece.replies.items ++ replies = search rules in
    record {
      can_next = search rules;
      is_finite = tt;
      ran = (
        so_far.0 ++ piece,
        so_far.1 ∙ ap (λ (es : List Event). so_far.0 ++ es) c.in-Some.ensures.steps.1.0 ∙ sym (append_assoc so_far.0 piece rest),
        rw grown (runs_on gives so_far.0 piece c.loop-piece.replies.items replies old mid new so_far.2 ran),
      );
      fixed = c.run.ensures.fixed ∙ c.loop-piece.invariant.fixed;
      sound = c.run.ensures.sound;
      one = c.run.ensures.algorithm_one ∙ c.loop-piece.invariant.one;
      two = c.run.ensures.algorithm_two ∙ c.loop-piece.invariant.two;
    }

pub returns-clause-ran : goal.returns-clause-ran
returns-clause-ran g c = let so_far = c.loop-piece.invariant.ran in
    let none = nil_from_length _ c.in-None.ensures.steps.1.0 in
    let gives : Algorithms = algorithms_of g.F.Fn.post c.args.world.now.one c.args.world.now.two in
    let all : c.args.events.now ≡ so_far.0 = so_far.1 ∙ ap (λ (es : List Event). so_far.0 ++ es) none ∙ append-nil so_far.0 in
    subst (λ es. WorldRuns gives c.args.world.now.state es c.loop-piece.replies.items c.loop-piece.world.state) (sym all) so_far.2

pub returns-clause-sound : goal.returns-clause-sound
returns-clause-sound g c = c.loop-piece.invariant.sound
