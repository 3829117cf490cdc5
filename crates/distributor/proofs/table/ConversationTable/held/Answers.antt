use Rattle.distributor.proofs.Common.{◌∙◌, is_held_on}
use Rattle.distributor.proofs.TableLemmas.{counted_places}
use Rattle.distributor.proofs.table.ConversationTable.held.Goals as goal

pub returns : goal.returns
returns c = c.count.ensures ∙ counted_places (is_held_on c.args.port) _ c.self.invariant.count c.self.view_is
