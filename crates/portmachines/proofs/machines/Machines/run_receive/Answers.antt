use Rattle.portmachines.proofs.Common.{refl, ◌+◌, receive_rows}
use Rattle.portmachines.proofs.Runs.{Reaches-more}
use Rattle.portmachines.proofs.machines.Machines.run_receive.Goals as goal

pub loop-init : goal.loop-init
loop-init c = (0, refl)

pub loop-preserved : goal.loop-preserved
loop-preserved c = let run = c.loop.invariant in
    (run.0 + 1, Reaches-more receive_rows run.0 c.args.self.now c.loop.self c.fire_receive.new.self run.1 c.loop-test.ensures.fired)

pub returns : goal.returns
returns c = (c.loop.invariant.0, rw c.loop-test.ensures.same c.loop.invariant.1, rw c.loop-test.ensures.same c.loop-test.ensures.rest)
