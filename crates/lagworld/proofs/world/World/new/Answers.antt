use Rattle.lagworld.proofs.Common.{world_state}
use Rattle.lagworld.proofs.Starts.{start_sound}
use Rattle.lagworld.proofs.world.World.new.Goals as goal

pub invariant_of-result : goal.invariant_of-result
invariant_of-result g c = start_sound (world_state g.C.Cable.items g.C.Cable.limit c.in_ok-inner.inner) c.in_ok-inner.ensures.start
