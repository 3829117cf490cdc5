use Rattle.lagprogress.proofs.Common.{length, take, ◌-◌, ◌≡◌, ◌≤◌, world_setup, both_algorithms, RunsAll}
use Rattle.lagprogress.proofs.playing.play.Given as goal

abbrev pub invariant-loop-acted : goal.invariant-loop-acted
invariant-loop-acted g l = record {
  within : l.acted ≤ length l.events;
  acts : RunsAll (both_algorithms (λ conv count place. g.F.Fn.post l.fn.world.one (conv, (count, tt)) place)
      (λ conv count place. g.F.Fn.post l.fn.world.two (conv, (count, tt)) place)) (take l.acted l.events) l.fn.world.state l.world.state;
  fixed : world_setup l.world.state ≡ world_setup l.fn.world.state;
  one : l.world.one ≡ l.fn.world.one;
  two : l.world.two ≡ l.fn.world.two;
}

abbrev pub decreases-loop-acted : goal.decreases-loop-acted
decreases-loop-acted g l = length l.events - l.acted
