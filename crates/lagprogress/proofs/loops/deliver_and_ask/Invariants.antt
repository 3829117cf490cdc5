use Rattle.lagprogress.proofs.Common.{ℕ, ◌-◌, ◌≡◌, most_events, world_setup, both_algorithms, DeliversAndAsks}
use Rattle.lagprogress.proofs.loops.deliver_and_ask.Given as goal

abbrev pub invariant-loop-world : goal.invariant-loop-world
invariant-loop-world g l = record {
  played : (times : ℕ) × DeliversAndAsks (both_algorithms (λ conv count place. g.F.Fn.post l.fn.world.one (conv, (count, tt)) place)
      (λ conv count place. g.F.Fn.post l.fn.world.two (conv, (count, tt)) place)) l.fn.count times l.fn.world.state l.world.state;
  fixed : world_setup l.world.state ≡ world_setup l.fn.world.state;
  one : l.world.one ≡ l.fn.world.one;
  two : l.world.two ≡ l.fn.world.two;
}

abbrev pub decreases-loop-world : goal.decreases-loop-world
decreases-loop-world g l = most_events - l.world.state.acted
