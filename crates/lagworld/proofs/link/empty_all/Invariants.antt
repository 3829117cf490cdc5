use Rattle.lagworld.proofs.Common.{drop, map, take, ◌++◌, ◌≡◌, link_states, emptied}
use Rattle.lagworld.proofs.link.empty_all.Given as goal

abbrev pub invariant-loop-index : goal.invariant-loop-index
invariant-loop-index g l = link_states g.C.Cable.items g.C.Cable.limit l.links.items
    ≡ map emptied (take l.index (link_states g.C.Cable.items g.C.Cable.limit l.initial.links.items))
    ++ drop l.index (link_states g.C.Cable.items g.C.Cable.limit l.initial.links.items)
