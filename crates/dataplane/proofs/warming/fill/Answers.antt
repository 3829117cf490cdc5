use Rattle.dataplane.proofs.Common.{[], false, get_or, refl, subst, ◌∙◌, PortConfig, Runs, filled_by}
use Rattle.dataplane.proofs.WarmRuns.{flat_all, flat_on}
use Rattle.dataplane.proofs.warming.fill.Goals as goal

pub loop-config-init : goal.loop-config-init
loop-config-init g c = record { run = ([], refl); algorithm = refl }

pub loop-config-preserved : goal.loop-config-preserved
loop-config-preserved g c = let i = c.loop-config.config-index in
    let none : PortConfig = record { number = 0; priority = 0; mac = []; key = record { 0 = 0 }; aggregatable = false; active = false; short = false } in
    record {
      run =
          flat_on (λ conv count place. g.F.Fn.post c.args.system.now.algorithm (conv, (count, tt)) place) c.args.system.now.state
          c.loop-config.system.state c.fill_by.new.system.state (filled_by c.args.saved.now c.args.below.now c.args.key c.args.agg c.args.ports.now) c.args.ports.now i none c.loop-config-test.true c.loop-config.invariant.run
          (subst (λ f. Runs (λ conv count place. g.F.Fn.post f (conv, (count, tt)) place) c.loop-config.system.state
          (filled_by c.args.saved.now c.args.below.now c.args.key c.args.agg c.args.ports.now (get_or c.args.ports.now i none)) c.fill_by.new.system.state) c.loop-config.invariant.algorithm c.fill_by.ensures.run);
      algorithm = c.fill_by.ensures.algorithm ∙ c.loop-config.invariant.algorithm;
    }

pub returns-clause-run : goal.returns-clause-run
returns-clause-run g c =
    flat_all (λ conv count place. g.F.Fn.post c.args.system.now.algorithm (conv, (count, tt)) place) c.args.system.now.state
    c.loop-config.system.state (filled_by c.args.saved.now c.args.below.now c.args.key c.args.agg c.args.ports.now) c.args.ports.now c.loop-config.config-index c.loop-config-test.false c.loop-config.invariant.run
