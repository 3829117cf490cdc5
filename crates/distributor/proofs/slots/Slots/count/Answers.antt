use Rattle.distributor.proofs.Common.{OnFalse_at, passes}
use Rattle.distributor.proofs.FlagLemmas.{none_counted}
use Rattle.distributor.proofs.slots.Slots.count.Goals as goal

pub returns-else-may_pass : goal.returns-else-may_pass
returns-else-may_pass c =
    none_counted (passes c.args.test) c.args.self.now.states.items c.args.self.now.count (OnFalse_at c.if-may_pass.false c.may_pass.ensures)
