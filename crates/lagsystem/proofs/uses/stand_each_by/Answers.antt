use Rattle.lagsystem.proofs.Common.{arith, get_or, refl, SoFar-all, SoFar-more, PortChangesBy}
use Rattle.lagsystem.proofs.SettingsKeep.{Reuses}
use Rattle.lagsystem.proofs.uses.stand_each_by.Goals as goal

pub loop-system_port-preserved : goal.loop-system_port-preserved
loop-system_port-preserved c =
    let s = get_or c.loop-system_port.system_ports c.loop-system_port.system_port-index c.system_port-item.result in
    SoFar-more (PortChangesBy (Reuses c.args.agg c.args.in_use)) c.loop-system_port.system_port-index c.args.system_ports.now
    c.loop-system_port.system_ports c.system_port-item.result (record s { port = c.stand_by.new.port })
    (omega arith) c.loop-system_port.invariant (refl, c.stand_by.ensures)

pub returns : goal.returns
returns c = SoFar-all (PortChangesBy (Reuses c.args.agg c.args.in_use)) c.loop-system_port.system_port-index c.args.system_ports.now
    c.loop-system_port.system_ports (omega arith) c.loop-system_port.invariant
