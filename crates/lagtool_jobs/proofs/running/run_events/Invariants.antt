use Rattle.lagtool_jobs.proofs.Common.{List, ◌++◌, ◌≡◌, chunks_rest, Event, WorldRuns, world_setup, IsSound, algorithms_of}
use Rattle.lagtool_jobs.proofs.running.run_events.Given as goal

abbrev pub invariant-loop-piece : goal.invariant-loop-piece
invariant-loop-piece g l = record {
  can_next : (goal.iterator-loop-piece g).can_next l.piece-iterator;
  is_finite : (goal.iterator-loop-piece g).is_finite l.piece-iterator;
  ran : (done : List Event) × (l.fn.events ≡ done ++ chunks_rest l.piece-iterator)
      × WorldRuns (algorithms_of g.F.Fn.post l.fn.world.one l.fn.world.two) l.fn.world.state done l.replies.items l.world.state;
  fixed : world_setup l.world.state ≡ world_setup l.fn.world.state;
  sound : IsSound l.world.state;
  one : l.world.one ≡ l.fn.world.one;
  two : l.world.two ≡ l.fn.world.two;
}
