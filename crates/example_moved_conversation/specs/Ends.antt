-- What the example says of the ends of its cables.
use Rattle.std.specs.Prelude.{◌≡◌, [], ◌∷◌}
use Rattle.lagsystem.specs.Readers.{aggregator_numbered, distributing}
use Rattle.lagsystem.specs.State.{SystemState}

-- ports 1 and 2, and no others, distribute in aggregator 1
abbrev pub AreUp : SystemState → Type 0
AreUp s = distributing (aggregator_numbered 1) s.system_ports ≡ 1 ∷ 2 ∷ []
