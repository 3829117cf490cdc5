use native.Mathlib.Omega.{arith}
use Rattle.dataplane.proofs.Common.{◌∙◌, false≢true}
use Rattle.slowpdu.specs.declared.pdu.Pdu.TheVariants as pdu
use Rattle.dataplane.proofs.resuming.is_back.Goals as goal

pub returns-in-Some-Some : goal.returns-in-Some-Some
returns-in-Some-Some g c = grind arith

pub returns-in_default : goal.returns-in_default
returns-in_default g c = grind arith
