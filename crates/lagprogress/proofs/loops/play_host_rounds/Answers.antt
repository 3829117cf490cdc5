use Rattle.lagprogress.proofs.Common.{arith, refl, ◌∙◌, ◌≡◌, One, BothAreActive, OneIsActive, LateRounds, up_if_both_active, up_if_one_is}
use Rattle.lagprogress.proofs.Bundling.{each_link_agrees, each_link_comes_up, one_meets, both_meet}
use Rattle.lagprogress.proofs.Freeing.{nothing_is_held_by_hosts}
use Rattle.lagprogress.proofs.HostLoops.{draining_are_host}
use Rattle.lagprogress.proofs.Looping.{one_draining_round_more, one_round_more, round_runs, runs_none}
use Rattle.lagprogress.proofs.MadeWorlds.{agree, distribute, free_by_hosts}
use Rattle.lagprogress.proofs.Played.{on_err}
use Rattle.lagprogress.proofs.loops.play_host_rounds.Goals as goal

pub play_host_round-requires-clause-one : goal.play_host_round-requires-clause-one
play_host_round-requires-clause-one g c = rw c.loop-done.invariant.one c.requires.one

pub play_host_round-requires-clause-two : goal.play_host_round-requires-clause-two
play_host_round-requires-clause-two g c = rw c.loop-done.invariant.two c.requires.two

pub loop-done-init : goal.loop-done-init
loop-done-init g c = record { within = omega arith; played = λ steady s agg conv. refl; rounds = refl; events = runs_none _ _; fixed = refl; one = refl; two = refl }

pub loop-done-preserved : goal.loop-done-preserved
loop-done-preserved g c = record {
  within = omega (arith, c.loop-done-test.true);
  played = one_draining_round_more _ c.loop-done.done _ _ _ c.loop-done.invariant.played
      (rw (c.loop-done.invariant.one, c.loop-done.invariant.two) at c.in_ok-play_host_round.ensures.drains);
  rounds = one_round_more _ c.loop-done.done _ _ _ c.loop-done.invariant.rounds
      (rw (c.loop-done.invariant.one, c.loop-done.invariant.two) at c.in_ok-play_host_round.ensures.plays);
  events = round_runs _ _ _ _ c.loop-done.invariant.events
      (rw (c.loop-done.invariant.one, c.loop-done.invariant.two) at c.in_ok-play_host_round.ensures.plays);
  fixed = c.play_host_round.ensures.fixed ∙ c.loop-done.invariant.fixed;
  one = c.play_host_round.ensures.algorithm_one ∙ c.loop-done.invariant.one;
  two = c.play_host_round.ensures.algorithm_two ∙ c.loop-done.invariant.two;
}

pub returns-in_err-play_host_round-clause-stopped : goal.returns-in_err-play_host_round-clause-stopped
returns-in_err-play_host_round-clause-stopped g c =
    on_err _ c.in_err-play_host_round.field-0.0 c.from_residual.result c.from_residual.ensures.1 (record {
      done = c.loop-done.done;
      mid = c.loop-done.world.state;
      within = c.loop-done-test.true;
      plays = c.loop-done.invariant.rounds;
      before = λ steady. draining_are_host _ One 0 0 c.loop-done.done _ _ (c.loop-done.invariant.played steady One 0 0);
      last = rw (c.loop-done.invariant.one, c.loop-done.invariant.two) at c.in_err-play_host_round.ensures.part;
      refused = c.in_err-play_host_round.ensures.refused;
    })

pub returns-clause-plays : goal.returns-clause-plays
returns-clause-plays g c =
    let none_left : c.args.count ≡ c.loop-done.done = omega (arith, c.loop-done-test.false, c.loop-done.invariant.within) in
    rw none_left c.loop-done.invariant.rounds

pub returns-clause-drains : goal.returns-clause-drains
returns-clause-drains g c =
    let none_left : c.args.count ≡ c.loop-done.done = omega (arith, c.loop-done-test.false, c.loop-done.invariant.within) in
    rw none_left c.loop-done.invariant.played

pub returns-clause-rounds : goal.returns-clause-rounds
returns-clause-rounds g c = λ steady. draining_are_host _ One 0 0 c.args.count _ _ (returns-clause-drains g c steady One 0 0)

pub returns-clause-distributes_both : goal.returns-clause-distributes_both
returns-clause-distributes_both g c = distribute g.C.Cable.items g.C.Cable.limit BothAreActive up_if_both_active _
    (each_link_comes_up LateRounds 1 BothAreActive 323 _ (both_meet _)) c.args.count _ _ (returns-clause-rounds g c)

pub returns-clause-agrees_both : goal.returns-clause-agrees_both
returns-clause-agrees_both g c = agree g.C.Cable.items g.C.Cable.limit BothAreActive up_if_both_active _
    (each_link_agrees LateRounds 1 BothAreActive 323 _ (both_meet _)) c.args.count _ _ (returns-clause-rounds g c)

pub returns-clause-distributes_one : goal.returns-clause-distributes_one
returns-clause-distributes_one g c = distribute g.C.Cable.items g.C.Cable.limit OneIsActive up_if_one_is _
    (each_link_comes_up LateRounds 1 OneIsActive 624 _ (one_meets _)) c.args.count _ _ (returns-clause-rounds g c)

pub returns-clause-agrees_one : goal.returns-clause-agrees_one
returns-clause-agrees_one g c = agree g.C.Cable.items g.C.Cable.limit OneIsActive up_if_one_is _
    (each_link_agrees LateRounds 1 OneIsActive 624 _ (one_meets _)) c.args.count _ _ (returns-clause-rounds g c)

pub returns-clause-frees_both : goal.returns-clause-frees_both
returns-clause-frees_both g c = free_by_hosts g.C.Cable.items g.C.Cable.limit BothAreActive up_if_both_active _
    (nothing_is_held_by_hosts BothAreActive 323 _ (both_meet _)) c.args.count _ _ c.loop-done.invariant.events (returns-clause-drains g c)

pub returns-clause-frees_one : goal.returns-clause-frees_one
returns-clause-frees_one g c = free_by_hosts g.C.Cable.items g.C.Cable.limit OneIsActive up_if_one_is _
    (nothing_is_held_by_hosts OneIsActive 624 _ (one_meets _)) c.args.count _ _ c.loop-done.invariant.events (returns-clause-drains g c)
