use Rattle.lagsystem.proofs.StillDueLemmas.{data_changes_nothing, offer_conversation_makes_none_due, offer_makes_none_due}
use Rattle.lagsystem.proofs.laws.offers_and_data_make_none_due.Goals as goal

pub returns-clause-offer : goal.returns-clause-offer
returns-clause-offer g c = λ algorithm. offer_makes_none_due (λ conv count place. g.F.Fn.post algorithm (conv, (count, tt)) place)

pub returns-clause-offer_conversation : goal.returns-clause-offer_conversation
returns-clause-offer_conversation g c = λ algorithm. offer_conversation_makes_none_due (λ conv count place. g.F.Fn.post algorithm (conv, (count, tt)) place)

pub returns-clause-data : goal.returns-clause-data
returns-clause-data g c = λ algorithm. data_changes_nothing (λ conv count place. g.F.Fn.post algorithm (conv, (count, tt)) place)
