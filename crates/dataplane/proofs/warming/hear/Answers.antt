use Rattle.dataplane.proofs.Common.{[], get_or, refl, subst, ◌∙◌, SavedPort, Runs, heard_of}
use Rattle.dataplane.proofs.WarmRuns.{flat_all, flat_on}
use Rattle.dataplane.proofs.warming.hear.Goals as goal

pub loop-one-init : goal.loop-one-init
loop-one-init g c = record { run = ([], refl); algorithm = refl }

pub loop-one-preserved : goal.loop-one-preserved
loop-one-preserved g c = let i = c.loop-one.one-index in
    let none : SavedPort = record { port = 0; aggregator = 0; age = 0; frame = [] } in
    record {
      run =
          flat_on (λ conv count place. g.F.Fn.post c.args.system.now.algorithm (conv, (count, tt)) place) c.args.system.now.state
          c.loop-one.system.state c.hear_one.new.system.state (heard_of c.args.moment c.args.saved.now) c.args.saved.now i none c.loop-one-test.true c.loop-one.invariant.run
          (subst (λ f. Runs (λ conv count place. g.F.Fn.post f (conv, (count, tt)) place) c.loop-one.system.state
          (heard_of c.args.moment c.args.saved.now (get_or c.args.saved.now i none)) c.hear_one.new.system.state) c.loop-one.invariant.algorithm c.hear_one.ensures.run);
      algorithm = c.hear_one.ensures.algorithm ∙ c.loop-one.invariant.algorithm;
    }

pub returns-clause-run : goal.returns-clause-run
returns-clause-run g c =
    flat_all (λ conv count place. g.F.Fn.post c.args.system.now.algorithm (conv, (count, tt)) place) c.args.system.now.state
    c.loop-one.system.state (heard_of c.args.moment c.args.saved.now) c.args.saved.now c.loop-one.one-index c.loop-one-test.false c.loop-one.invariant.run
