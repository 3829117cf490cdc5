use Rattle.lagprogress.proofs.Common.{◌-◌, ◌≡◌, most_events, world_setup, both_algorithms, Delivers}
use Rattle.lagprogress.proofs.playing.deliver_all.Given as goal

abbrev pub invariant-loop : goal.invariant-loop
invariant-loop g l = record {
  delivers : Delivers (both_algorithms (λ conv count place. g.F.Fn.post l.fn.world.one (conv, (count, tt)) place)
      (λ conv count place. g.F.Fn.post l.fn.world.two (conv, (count, tt)) place)) l.fn.world.state l.world.state;
  fixed : world_setup l.world.state ≡ world_setup l.fn.world.state;
  one : l.world.one ≡ l.fn.world.one;
  two : l.world.two ≡ l.fn.world.two;
}

abbrev pub decreases-loop : goal.decreases-loop
decreases-loop g l = most_events - l.world.state.acted
