use Rattle.dataplane.proofs.Common.{subst, sym, ◌∙◌, Receive, CallPromise, fills, individual_frame}
use Rattle.lagsystem.specs.declared.drive.Reply.TheVariants as reply
use Rattle.dataplane.proofs.WarmRuns.{made_if}
use Rattle.dataplane.proofs.warming.fill_by.Goals as goal

pub returns-clause-run : goal.returns-clause-run
returns-clause-run g c = let saved = c.args.saved.now in
    let number = c.args.config.now.number in
    made_if (λ conv count place. g.F.Fn.post c.args.system.now.algorithm (conv, (count, tt)) place) c.args.system.now.state
    c.receive-reply.new.self.state (fills saved c.args.below.now c.args.key c.args.agg c.args.ports.now c.args.config.now)
    (Receive number (individual_frame saved)) (reply.Receive c.receive-reply.result) (sym c.fills.ensures ∙ c.if-not-fills.false)
    (subst (λ octets. CallPromise (λ conv count place. g.F.Fn.post c.args.system.now.algorithm (conv, (count, tt)) place) c.args.system.now.state
    (Receive number octets) (reply.Receive c.receive-reply.result) c.receive-reply.new.self.state) c.individual_frame-frame.ensures
    c.receive-reply.ensures.answers)
