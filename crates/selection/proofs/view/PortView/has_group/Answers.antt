use Rattle.selection.proofs.Common.{sym, ◌∙◌}
use Rattle.selection.proofs.Equal.{group-without_partner}
use Rattle.selection.proofs.view.PortView.has_group.Goals as goal

pub returns-else-has_partner_in : goal.returns-else-has_partner_in
returns-else-has_partner_in c = let none = sym c.has_partner_in.ensures ∙ c.if-has_partner_in.false in
    c.if-has_partner_in.false ∙ sym (group-without_partner c.args.self.now.party c.args.self.now.partner c.args.group.now none)
