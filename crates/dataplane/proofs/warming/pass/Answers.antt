use Rattle.dataplane.proofs.Common.{arith, subst, ◌-◌, ◌∙◌, ◌≡◌, Tick, CallPromise, Before, Runs, heard}
use Rattle.lagsystem.specs.declared.drive.Reply.TheVariants as reply
use Rattle.dataplane.proofs.WarmRuns.{passing_on}
use Rattle.dataplane.proofs.warming.pass.Goals as goal

pub loop-passed-init : goal.loop-passed-init
loop-passed-init g c = record { run = c.hear.ensures.run; algorithm = c.hear.ensures.algorithm }

pub loop-passed-preserved : goal.loop-passed-preserved
loop-passed-preserved g c = let saved = c.args.saved.now in
    let ticks = c.args.ticks in
    let passed = c.loop-passed.passed in
    let before = c.loop-passed.system.state in
    let ticked = c.tick.new.self.state in
    let after = c.hear-in-loop-passed.new.system.state in
    let same = c.tick.ensures.algorithm ∙ c.loop-passed.invariant.algorithm in
    record {
      run =
          passing_on (λ conv count place. g.F.Fn.post c.args.system.now.algorithm (conv, (count, tt)) place) c.args.system.now.state
          before ticked after saved ticks passed c.loop-passed.invariant.run
          (subst (λ f. CallPromise (λ conv count place. g.F.Fn.post f (conv, (count, tt)) place) before Tick reply.Tick ticked)
          c.loop-passed.invariant.algorithm c.tick.ensures.answers)
          (subst (λ f. Runs (λ conv count place. g.F.Fn.post f (conv, (count, tt)) place) ticked
          (heard (Before (ticks - passed - 1)) saved) after) same c.hear-in-loop-passed.ensures.run);
      algorithm = c.hear-in-loop-passed.ensures.algorithm ∙ same;
    }

pub returns-clause-run : goal.returns-clause-run
returns-clause-run g c = grind arith
