use Rattle.lagprogress.proofs.Common.{◌-◌, ◌≡◌, ◌≤◌, most_events, world_setup, both_algorithms, AsksEnds}
use Rattle.lagprogress.proofs.loops.ask_ends.Given as goal

abbrev pub invariant-loop-asked : goal.invariant-loop-asked
invariant-loop-asked g l = record {
  within : l.asked ≤ l.fn.count;
  asks : AsksEnds (both_algorithms (λ conv count place. g.F.Fn.post l.fn.world.one (conv, (count, tt)) place)
      (λ conv count place. g.F.Fn.post l.fn.world.two (conv, (count, tt)) place)) l.asked l.fn.world.state l.world.state;
  risen : l.fn.world.state.acted ≤ l.world.state.acted;
  few : l.fn.world.state.acted ≤ most_events → l.world.state.acted ≤ most_events;
  fixed : world_setup l.world.state ≡ world_setup l.fn.world.state;
  one : l.world.one ≡ l.fn.world.one;
  two : l.world.two ≡ l.fn.world.two;
}

abbrev pub decreases-loop-asked : goal.decreases-loop-asked
decreases-loop-asked g l = l.fn.count - l.asked
