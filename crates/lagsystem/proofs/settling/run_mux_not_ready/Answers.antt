use Rattle.lagsystem.proofs.Common.{arith, false, get_or, refl, SoFar-all, SoFar-more, mux_rows, RunsToRest, PortChangesBy}
use Rattle.lagsystem.proofs.settling.run_mux_not_ready.Goals as goal

pub loop-system_port-preserved : goal.loop-system_port-preserved
loop-system_port-preserved c =
    let s = get_or c.loop-system_port.system_ports c.loop-system_port.system_port-index c.system_port-item.result in
    SoFar-more (PortChangesBy (RunsToRest (mux_rows false))) c.loop-system_port.system_port-index c.args.system_ports.now
    c.loop-system_port.system_ports c.system_port-item.result (record s { port = c.mux-fired.new.self })
    (omega arith) c.loop-system_port.invariant (refl, (c.mux-fired.result, c.mux-fired.ensures.fired, c.mux-fired.ensures.rest))

pub returns : goal.returns
returns c = SoFar-all (PortChangesBy (RunsToRest (mux_rows false))) c.loop-system_port.system_port-index c.args.system_ports.now
    c.loop-system_port.system_ports (omega arith) c.loop-system_port.invariant
