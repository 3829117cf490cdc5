use Rattle.distributor.proofs.Common.{◌∙◌, ticks_until_wanted}
use Rattle.distributor.proofs.TableLemmas.{fold_places}
use Rattle.distributor.proofs.WaitLemmas.{soonest_fold}
use Rattle.distributor.proofs.table.ConversationTable.ticks_until_next_wanted.Goals as goal

pub returns : goal.returns
returns c = c.ticks_until_next_wanted.ensures ∙ fold_places soonest_fold ticks_until_wanted _ c.self.invariant.count c.self.view_is
