use Rattle.distributor.proofs.PickLemmas.{by_number_below}
use Rattle.distributor.proofs.laws.by_number_picks_indexes.Goals as goal

pub returns : goal.returns
returns c = λ conv count fits few. (tt, λ place some is. by_number_below conv count place some is)
