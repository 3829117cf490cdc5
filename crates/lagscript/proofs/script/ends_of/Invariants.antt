use Rattle.lagscript.proofs.Common.{take, ◌≡◌, ends_of}
use Rattle.lagscript.proofs.script.ends_of.Given as goal

abbrev pub invariant-loop-cable : goal.invariant-loop-cable
invariant-loop-cable l = l.ends.items ≡ ends_of (take l.cable-index l.cables)
