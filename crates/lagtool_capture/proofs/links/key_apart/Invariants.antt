use Rattle.lagtool_capture.proofs.Common.{drop, ◌≡◌, key_apart}
use Rattle.lagtool_capture.proofs.links.key_apart.Given as goal

abbrev pub invariant-loop-other : goal.invariant-loop-other
invariant-loop-other l = key_apart (drop l.other-index l.all) l.near l.far ≡ key_apart l.all l.near l.far
