use Rattle.dataplane.proofs.Common.{sym, ◌∙◌, Receive, is_due}
use Rattle.lagsystem.specs.declared.drive.Reply.TheVariants as reply
use Rattle.dataplane.proofs.WarmRuns.{made_if}
use Rattle.dataplane.proofs.warming.hear_one.Goals as goal

pub returns-clause-run : goal.returns-clause-run
returns-clause-run g c =
    made_if (λ conv count place. g.F.Fn.post c.args.system.now.algorithm (conv, (count, tt)) place) c.args.system.now.state
    c.receive-reply.new.self.state (is_due c.args.moment c.args.saved.now c.args.one.now) (Receive c.args.one.now.port c.args.one.now.frame)
    (reply.Receive c.receive-reply.result) (sym c.is_due.ensures ∙ c.if-not-is_due.false) c.receive-reply.ensures.answers
