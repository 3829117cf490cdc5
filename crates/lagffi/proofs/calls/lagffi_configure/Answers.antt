use Rattle.lagffi.proofs.Common.{subst, Call, CallPromise, by_number_gives}
use Rattle.lagsystem.specs.declared.drive.Reply.{Reply}
use Rattle.lagffi.proofs.AskingLemmas.{called}
use Rattle.lagffi.proofs.calls.lagffi_configure.Goals as goal

pub returns : goal.returns
returns c = let asked = subst (λ change. CallPromise by_number_gives c.in-Some.system.state (Call.Configure c.args.port change)
    (Reply.Configure c.configure-answer.result) c.configure-answer.new.self.state) c.change.ensures
    c.configure-answer.ensures.answers in
    called _ _ c.in-Some.ensures.taken c.put.ensures
    (c.configure-answer.result, asked, c.of.ensures)
