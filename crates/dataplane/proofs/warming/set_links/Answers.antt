use Rattle.dataplane.proofs.Common.{[], false, get_or, refl, subst, ◌∙◌, PortConfig, CallPromise, link_up}
use Rattle.lagsystem.specs.declared.drive.Reply.TheVariants as reply
use Rattle.dataplane.proofs.WarmRuns.{runs_all, runs_on}
use Rattle.dataplane.proofs.warming.set_links.Goals as goal

pub loop-config-init : goal.loop-config-init
loop-config-init g c = record { run = ([], refl); algorithm = refl }

pub loop-config-preserved : goal.loop-config-preserved
loop-config-preserved g c = let ports = c.args.ports.now in
    let i = c.loop-config.config-index in
    let none : PortConfig = record { number = 0; priority = 0; mac = []; key = record { 0 = 0 }; aggregatable = false; active = false; short = false } in
    record {
      run =
          runs_on (λ conv count place. g.F.Fn.post c.args.system.now.algorithm (conv, (count, tt)) place) c.args.system.now.state
          c.loop-config.system.state c.set_link-reply.new.self.state link_up ports i none (reply.SetLink c.set_link-reply.result) c.loop-config-test.true c.loop-config.invariant.run
          (subst (λ f. CallPromise (λ conv count place. g.F.Fn.post f (conv, (count, tt)) place) c.loop-config.system.state
          (link_up (get_or ports i none)) (reply.SetLink c.set_link-reply.result) c.set_link-reply.new.self.state) c.loop-config.invariant.algorithm c.set_link-reply.ensures.answers);
      algorithm = c.set_link-reply.ensures.algorithm ∙ c.loop-config.invariant.algorithm;
    }

pub returns-clause-run : goal.returns-clause-run
returns-clause-run g c =
    runs_all (λ conv count place. g.F.Fn.post c.args.system.now.algorithm (conv, (count, tt)) place) c.args.system.now.state
    c.loop-config.system.state link_up c.args.ports.now c.loop-config.config-index c.loop-config-test.false c.loop-config.invariant.run
