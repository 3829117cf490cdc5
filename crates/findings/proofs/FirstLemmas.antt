-- The first frame that shows a rule, behind one more frame.
use Rattle.std.proofs.Common.{◌≡◌, Bool, Option}
use Rattle.findings.specs.declared.finding.Shown.{Shown}
use Rattle.findings.specs.Firsts.{earlier_or}

pub next : {result given before : Option Shown} {holds stated : Bool} {now shown : Shown} → result ≡ earlier_or given holds now → given ≡ before
    → holds ≡ stated → now ≡ shown → result ≡ earlier_or before stated shown
next r g h n = cc
