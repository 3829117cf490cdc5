use Rattle.distributor.proofs.Common.{ap, nat_lt, ◌∙◌, wants_marker}
use Rattle.distributor.proofs.TableLemmas.{counted_places}
use Rattle.distributor.proofs.table.ConversationTable.find_wanted.Goals as goal

pub returns-clause-found : goal.returns-clause-found
returns-clause-found c = c.find_wanted.ensures.found ∙ ap (nat_lt 0) (counted_places (wants_marker c.args.port) _ c.self.invariant.count c.self.view_is)
