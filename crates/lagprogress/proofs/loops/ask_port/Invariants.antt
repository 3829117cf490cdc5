use Rattle.lagprogress.proofs.Common.{◌-◌, ◌≡◌, ◌≤◌, most_events, world_setup, both_algorithms, PlaysBetween}
use Rattle.lagprogress.proofs.loops.ask_port.Given as goal

abbrev pub invariant-loop-reply : goal.invariant-loop-reply
invariant-loop-reply g l = record {
  played : PlaysBetween (both_algorithms (λ conv count place. g.F.Fn.post l.fn.world.one (conv, (count, tt)) place)
      (λ conv count place. g.F.Fn.post l.fn.world.two (conv, (count, tt)) place)) l.fn.world.state l.world.state;
  risen : l.fn.world.state.acted ≤ l.world.state.acted;
  few : l.fn.world.state.acted ≤ most_events → l.world.state.acted ≤ most_events;
  fixed : world_setup l.world.state ≡ world_setup l.fn.world.state;
  one : l.world.one ≡ l.fn.world.one;
  two : l.world.two ≡ l.fn.world.two;
}

abbrev pub decreases-loop-reply : goal.decreases-loop-reply
decreases-loop-reply g l = most_events - l.world.state.acted
