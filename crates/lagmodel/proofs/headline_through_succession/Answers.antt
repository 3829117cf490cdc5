use Rattle.lagmodel.proofs.Laws.{agree_holds, in_order_holds, one_partner_holds}
use Rattle.lagmodel.proofs.Succession.{counts_through_succession, lawful_through_succession}
use Rattle.lagmodel.proofs.headline_through_succession.Goals as goal

pub returns-clause-one_partner : goal.returns-clause-one_partner
returns-clause-one_partner c = λ x es w f r. one_partner_holds x w (lawful_through_succession x es w f r)

pub returns-clause-agree : goal.returns-clause-agree
returns-clause-agree c = λ x es w f r. agree_holds x w (lawful_through_succession x es w f r)

pub returns-clause-in_order : goal.returns-clause-in_order
returns-clause-in_order c = λ x es w f r. in_order_holds x w (lawful_through_succession x es w f r)

pub returns-clause-counts_from_zero : goal.returns-clause-counts_from_zero
returns-clause-counts_from_zero c = λ x es w f r. counts_through_succession x es w r
