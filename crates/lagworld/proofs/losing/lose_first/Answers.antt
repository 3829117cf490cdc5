use Rattle.lagworld.proofs.Common.{ap, is_some, map, ◌∙◌, item_value}
use Rattle.lagworld.proofs.LoseLemmas.{first_some, rest_mapped}
use Rattle.lagworld.proofs.losing.lose_first.Goals as goal

pub returns-clause-lost : goal.returns-clause-lost
returns-clause-lost g c = c.is_some.ensures ∙ ap is_some c.pop.ensures.first ∙ first_some item_value (g.C.Cable.items c.args.cable.now)

pub returns-clause-rest : goal.returns-clause-rest
returns-clause-rest g c = ap (map item_value) c.pop.ensures.rest ∙ rest_mapped item_value (g.C.Cable.items c.args.cable.now)
