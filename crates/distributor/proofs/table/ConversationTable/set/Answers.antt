use Rattle.distributor.proofs.Common.{arith, ◌<◌, ◌∙◌}
use Rattle.distributor.proofs.TableLemmas.{set_at}
use Rattle.distributor.proofs.table.ConversationTable.set.Goals as goal

pub returns : goal.returns
returns c = grind (arith, set_at)
