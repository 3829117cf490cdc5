use Rattle.lagscript.proofs.Common.{take, ◌≡◌, limits_of}
use Rattle.lagscript.proofs.script.limits_of.Given as goal

abbrev pub invariant-loop-cable : goal.invariant-loop-cable
invariant-loop-cable l = l.limits.items ≡ limits_of (take l.cable-index l.cables)
