-- What a reader holds of a capture.
use Rattle.std.specs.Prelude.{◌≤◌, ◌<◌, ℕ, List, length}
use Rattle.captures.specs.declared.fault.Stop.{Stop}
use Rattle.captures.specs.declared.fault.Stop.TheVariants.{Wants, Refused}
use Rattle.captures.specs.declared.packet.Packet.{Packet}

-- the captured octets of the packet stand among the octets
pub record IsWithin (b : List ℕ) (packet : Packet) : Type 0 where
  pub start : packet.start ≤ packet.end
  pub end : packet.end ≤ length b

-- the most octets that are wanted at once
abbrev pub most_wanted : ℕ
most_wanted = 262172

-- if octets are wanted, they are more than there are, and no more than are wanted at most
abbrev pub WantsMore : List ℕ → Stop → Type 0
WantsMore b (Wants n) = (length b < n) × (n ≤ most_wanted)
WantsMore b (Refused fault) = Unit {0}
