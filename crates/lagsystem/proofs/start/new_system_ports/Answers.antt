use Rattle.lagsystem.proofs.Common.{[], arith, false, get_or, length, take, ◌<◌, take_more, PortConfig, HasJustStarted}
use Rattle.lagsystem.proofs.Lists.{each-push}
use Rattle.lagsystem.proofs.start.new_system_ports.Goals as goal

pub loop-port-preserved : goal.loop-port-preserved
loop-port-preserved c = record {
  new = let i = c.loop-port.port-index in
      let ports = c.args.ports.now in
      let d : PortConfig = record {
        number = 0;
        priority = 0;
        mac = [];
        key = record { 0 = 0 };
        aggregatable = false;
        active = false;
        short = false;
      } in
      let within : i < length ports = omega arith in
      rw (take_more ports i d within, c.in_ok-push.ensures.items)
      (each-push (HasJustStarted c.args.system) (take i ports) c.loop-port.system_ports.items (get_or ports i d) c.new.result
      c.loop-port.invariant.new c.new.ensures);
  count = omega (arith, c.in_ok-push.ensures.len);
}
