use Rattle.lagprogress.proofs.Common.{ℕ, ◌-◌, ◌≡◌, ◌≤◌, Side, world_setup, both_algorithms, DrainingRounds, PlaysHostRounds, IsSteady}
use Rattle.lagprogress.proofs.Looping.{RunsEvents}
use Rattle.lagprogress.proofs.loops.play_host_rounds.Given as goal

abbrev pub invariant-loop-done : goal.invariant-loop-done
invariant-loop-done g l = record {
  within : l.done ≤ l.fn.count;
  played : IsSteady l.fn.world.state → (s : Side) (agg conv : ℕ) → DrainingRounds s agg conv (both_algorithms (λ conv count place. g.F.Fn.post l.fn.world.one (conv, (count, tt)) place)
      (λ conv count place. g.F.Fn.post l.fn.world.two (conv, (count, tt)) place)) l.done l.fn.world.state l.world.state;
  rounds : PlaysHostRounds (both_algorithms (λ conv count place. g.F.Fn.post l.fn.world.one (conv, (count, tt)) place)
      (λ conv count place. g.F.Fn.post l.fn.world.two (conv, (count, tt)) place)) l.done l.fn.world.state l.world.state;
  events : RunsEvents (both_algorithms (λ conv count place. g.F.Fn.post l.fn.world.one (conv, (count, tt)) place)
      (λ conv count place. g.F.Fn.post l.fn.world.two (conv, (count, tt)) place)) l.fn.world.state l.world.state;
  fixed : world_setup l.world.state ≡ world_setup l.fn.world.state;
  one : l.world.one ≡ l.fn.world.one;
  two : l.world.two ≡ l.fn.world.two;
}

abbrev pub decreases-loop-done : goal.decreases-loop-done
decreases-loop-done g l = l.fn.count - l.done
