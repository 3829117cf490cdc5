use Rattle.dataplane.proofs.Common.{[], false, get_or, refl, subst, ◌∙◌, PortConfig, Runs, other_starting}
use Rattle.dataplane.proofs.WarmRuns.{flat_all, flat_on}
use Rattle.dataplane.proofs.warming.start_others.Goals as goal

pub loop-config-init : goal.loop-config-init
loop-config-init g c = record { run = ([], refl); algorithm = refl }

pub loop-config-preserved : goal.loop-config-preserved
loop-config-preserved g c = let i = c.loop-config.config-index in
    let none : PortConfig = record { number = 0; priority = 0; mac = []; key = record { 0 = 0 }; aggregatable = false; active = false; short = false } in
    record {
      run =
          flat_on (λ conv count place. g.F.Fn.post c.args.system.now.algorithm (conv, (count, tt)) place) c.args.system.now.state
          c.loop-config.system.state c.start_other.new.system.state (other_starting c.args.saved.now) c.args.ports.now i none c.loop-config-test.true c.loop-config.invariant.run
          (subst (λ f. Runs (λ conv count place. g.F.Fn.post f (conv, (count, tt)) place) c.loop-config.system.state
          (other_starting c.args.saved.now (get_or c.args.ports.now i none)) c.start_other.new.system.state) c.loop-config.invariant.algorithm c.start_other.ensures.run);
      algorithm = c.start_other.ensures.algorithm ∙ c.loop-config.invariant.algorithm;
    }

pub returns-clause-run : goal.returns-clause-run
returns-clause-run g c =
    flat_all (λ conv count place. g.F.Fn.post c.args.system.now.algorithm (conv, (count, tt)) place) c.args.system.now.state
    c.loop-config.system.state (other_starting c.args.saved.now) c.args.ports.now c.loop-config.config-index c.loop-config-test.false c.loop-config.invariant.run
