-- LACPDUs that overtake data, as where a sender or a link has a queue of its own for them (profile).
use Rattle.std.specs.Prelude.{◌≡◌, List, ◌∷◌, ◌++◌}
use Rattle.lagmodel.specs.View.{Lacp, Marker, Response}
use Rattle.lagmodel.specs.World.{Control, Data, Message}

-- the message is an LACPDU
abbrev pub IsLacpdu : Message → Type 0
IsLacpdu (Control (Lacp pdu) stamp) = Unit {0}
IsLacpdu (Control (Marker mac port identifier) stamp) = ⊥
IsLacpdu (Control (Response mac port identifier) stamp) = ⊥
IsLacpdu (Data origin aggregator conversation serial) = ⊥

-- an LACPDU goes by what is right before it on the cable, which is none: both keep their order among their like
pub record Overtakes (old new : List Message) : Type 0 where
  pub front : List Message
  pub other : Message
  pub lacpdu : Message
  pub back : List Message
  pub one_is : IsLacpdu lacpdu
  pub one_is_none : IsLacpdu other → ⊥
  pub before : old ≡ front ++ other ∷ lacpdu ∷ back
  pub after : new ≡ front ++ lacpdu ∷ other ∷ back
