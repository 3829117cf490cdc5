use Rattle.lagsystem.proofs.Common.{sym, ◌∙◌, selection_view}
use Rattle.lagsystem.proofs.Choosing.{chosen_not_eligible}
use Rattle.lagsystem.proofs.system_ports.is_eligible.Goals as goal

pub returns-else-is_unselected : goal.returns-else-is_unselected
returns-else-is_unselected c = c.if-is_unselected.false ∙ chosen_not_eligible (selection_view c.args.system_port.now) (sym c.is_unselected.ensures ∙ c.if-is_unselected.false)
