use Rattle.lagprogress.proofs.Common.{arith, ◌∙◌, ◌≡◌, BothAreActive, OneIsActive, LateRounds, freed_if_both_active, freed_if_one_is}
use Rattle.lagprogress.proofs.Common.{up_if_both_active, up_if_one_is}
use Rattle.lagprogress.proofs.Bundling.{each_link_agrees, each_link_comes_up, one_meets, both_meet}
use Rattle.lagprogress.proofs.Freeing.{nothing_is_held}
use Rattle.lagprogress.proofs.HostLoops.{rounds_are_host_rounds}
use Rattle.lagprogress.proofs.MadeWorlds.{agree, distribute, free}
use Rattle.lagprogress.proofs.Played.{on_err, round_more}
use Rattle.lagprogress.proofs.playing.play_rounds.Goals as goal

pub play_round-requires-clause-one : goal.play_round-requires-clause-one
play_round-requires-clause-one g c = rw c.loop-done.invariant.one c.requires.one

pub play_round-requires-clause-two : goal.play_round-requires-clause-two
play_round-requires-clause-two g c = rw c.loop-done.invariant.two c.requires.two

pub loop-done-preserved : goal.loop-done-preserved
loop-done-preserved g c = record {
  within = omega (arith, c.loop-done-test.true);
  played = round_more _ c.loop-done.done _ _ _ c.loop-done.invariant.played
      (rw (c.loop-done.invariant.one, c.loop-done.invariant.two) at c.in_ok-play_round.ensures.round);
  fixed = c.play_round.ensures.fixed ∙ c.loop-done.invariant.fixed;
  one = c.play_round.ensures.algorithm_one ∙ c.loop-done.invariant.one;
  two = c.play_round.ensures.algorithm_two ∙ c.loop-done.invariant.two;
}

pub returns-in_err-play_round-clause-stopped : goal.returns-in_err-play_round-clause-stopped
returns-in_err-play_round-clause-stopped g c = on_err _ c.in_err-play_round.field-0.0 c.from_residual.result c.from_residual.ensures.1
    (record {
      done = c.loop-done.done;
      mid = c.loop-done.world.state;
      within = c.loop-done-test.true;
      before = c.loop-done.invariant.played;
      last = rw (c.loop-done.invariant.one, c.loop-done.invariant.two) at c.in_err-play_round.ensures.part;
      refused = c.in_err-play_round.ensures.refused;
    })

pub returns-clause-rounds : goal.returns-clause-rounds
returns-clause-rounds g c =
    let none_left : c.args.count ≡ c.loop-done.done = omega (arith, c.loop-done-test.false, c.loop-done.invariant.within) in
    rw none_left c.loop-done.invariant.played

pub returns-clause-distributes_both : goal.returns-clause-distributes_both
returns-clause-distributes_both g c = distribute g.C.Cable.items g.C.Cable.limit BothAreActive up_if_both_active _
    (each_link_comes_up LateRounds 1 BothAreActive 323 _ (both_meet _)) c.args.count _ _
    (λ steady. rounds_are_host_rounds _ c.args.count _ _ steady (returns-clause-rounds g c))

pub returns-clause-agrees_both : goal.returns-clause-agrees_both
returns-clause-agrees_both g c = agree g.C.Cable.items g.C.Cable.limit BothAreActive up_if_both_active _
    (each_link_agrees LateRounds 1 BothAreActive 323 _ (both_meet _)) c.args.count _ _
    (λ steady. rounds_are_host_rounds _ c.args.count _ _ steady (returns-clause-rounds g c))

pub returns-clause-frees_both : goal.returns-clause-frees_both
returns-clause-frees_both g c = free g.C.Cable.items g.C.Cable.limit BothAreActive freed_if_both_active _
    (nothing_is_held BothAreActive 323 _ (both_meet _)) c.args.count _ _ (returns-clause-rounds g c)

pub returns-clause-distributes_one : goal.returns-clause-distributes_one
returns-clause-distributes_one g c = distribute g.C.Cable.items g.C.Cable.limit OneIsActive up_if_one_is _
    (each_link_comes_up LateRounds 1 OneIsActive 624 _ (one_meets _)) c.args.count _ _
    (λ steady. rounds_are_host_rounds _ c.args.count _ _ steady (returns-clause-rounds g c))

pub returns-clause-agrees_one : goal.returns-clause-agrees_one
returns-clause-agrees_one g c = agree g.C.Cable.items g.C.Cable.limit OneIsActive up_if_one_is _
    (each_link_agrees LateRounds 1 OneIsActive 624 _ (one_meets _)) c.args.count _ _
    (λ steady. rounds_are_host_rounds _ c.args.count _ _ steady (returns-clause-rounds g c))

pub returns-clause-frees_one : goal.returns-clause-frees_one
returns-clause-frees_one g c = free g.C.Cable.items g.C.Cable.limit OneIsActive freed_if_one_is _
    (nothing_is_held OneIsActive 624 _ (one_meets _)) c.args.count _ _ (returns-clause-rounds g c)
