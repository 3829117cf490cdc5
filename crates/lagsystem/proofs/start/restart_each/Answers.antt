use Rattle.lagsystem.proofs.Common.{[], arith, false, ◌∙◌, length-set, PortConfig, HasJustStarted}
use Rattle.lagsystem.proofs.Lists.{Begun-more, Begun-all}
use Rattle.lagsystem.proofs.start.restart_each.Goals as goal

pub loop-place-preserved : goal.loop-place-preserved
loop-place-preserved c = let d : PortConfig = record {
  number = 0;
  priority = 0;
  mac = [];
  key = record { 0 = 0 };
  aggregatable = false;
  active = false;
  short = false;
} in
    let l = c.loop-place in record {
      begun = Begun-more (HasJustStarted c.args.system) l.place c.args.ports.now l.system_ports d c.restart.new.self
          (omega arith) l.invariant.same l.invariant.begun c.restart.ensures;
      same = length-set l.system_ports l.place c.restart.new.self ∙ l.invariant.same;
    }

pub returns : goal.returns
returns c = Begun-all (HasJustStarted c.args.system) c.loop-place.place c.args.ports.now c.loop-place.system_ports
    (omega arith) c.loop-place.invariant.same c.loop-place.invariant.begun
