use Rattle.lagsystem.proofs.settling.promote_and_choose.Goals as goal

pub returns : goal.returns
returns c = (c.promote_each.new.system_ports, c.promote_each.ensures.promoted, c.choose_each.ensures)
