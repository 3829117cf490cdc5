use Rattle.lagtypes.specs.Group.{pair_of}
use Rattle.lagtypes.proofs.GroupLemmas.{pairs_from_groups, groups_from_pairs}
use Rattle.lagtypes.proofs.laws.equal_groups_are_equal_pairs.Goals as goal

pub returns : goal.returns
returns c = λ a b c d. (pairs_from_groups (pair_of a b) (pair_of c d), groups_from_pairs (pair_of a b) (pair_of c d))
