use Rattle.lagsystem.proofs.Common.{ap, ◌∙◌, SystemValue, ticks_until_due}
use Rattle.lagsystem.proofs.calls.System.ticks_until_due.Goals as goal

pub returns : goal.returns
returns g c = c.ticks_until_due.ensures ∙ ap (λ (w : SystemValue g.row.F.Denot). ticks_until_due w.state) c.self.view_is
