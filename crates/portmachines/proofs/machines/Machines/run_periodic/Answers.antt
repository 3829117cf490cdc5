use Rattle.portmachines.proofs.Common.{refl, ◌+◌, periodic_rows}
use Rattle.portmachines.proofs.Runs.{Reaches-more}
use Rattle.portmachines.proofs.machines.Machines.run_periodic.Goals as goal

pub loop-init : goal.loop-init
loop-init c = (0, refl)

pub loop-preserved : goal.loop-preserved
loop-preserved c = let run = c.loop.invariant in
    (run.0 + 1, Reaches-more periodic_rows run.0 c.args.self.now c.loop.self c.fire_periodic.new.self run.1 c.loop-test.ensures.fired)
