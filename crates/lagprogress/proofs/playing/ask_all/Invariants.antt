use Rattle.lagprogress.proofs.Common.{take, ◌-◌, ◌≡◌, ◌≤◌, world_setup, both_algorithms, RunsAll, asks_all}
use Rattle.lagprogress.proofs.playing.ask_all.Given as goal

abbrev pub invariant-loop-asked : goal.invariant-loop-asked
invariant-loop-asked g l = record {
  within : l.asked ≤ l.fn.count;
  acts : RunsAll (both_algorithms (λ conv count place. g.F.Fn.post l.fn.world.one (conv, (count, tt)) place)
      (λ conv count place. g.F.Fn.post l.fn.world.two (conv, (count, tt)) place)) (asks_all (take l.asked l.fn.world.state.links)) l.fn.world.state l.world.state;
  fixed : world_setup l.world.state ≡ world_setup l.fn.world.state;
  one : l.world.one ≡ l.fn.world.one;
  two : l.world.two ≡ l.fn.world.two;
}

abbrev pub decreases-loop-asked : goal.decreases-loop-asked
decreases-loop-asked g l = l.fn.count - l.asked
