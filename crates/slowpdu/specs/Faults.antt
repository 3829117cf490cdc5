-- Why a payload is refused: the first fault that holds (profile).
use Rattle.std.specs.Prelude.{◌==◌, ◌&&◌, ◌||◌, ℕ, Bool, not, List, [], ◌∷◌, length, slice_index, nat_lt, Option, Some, None, if◌then◌else◌}
use Rattle.slowpdu.specs.declared.fault.WireFault.{WireFault}
use Rattle.slowpdu.specs.declared.fault.WireFault.TheVariants.{Short, OtherSubtype, BadLength, MarkerTlv}
use Rattle.slowpdu.specs.Layout.{payload_len}

-- a condition, and the fault if it holds
abbrev pub Cause : Type 0
Cause = Bool × WireFault

-- in a payload of this subtype, the length field at this offset does not have this value
abbrev pub wrong_length : List ℕ → ℕ → ℕ → ℕ → Cause
wrong_length b subtype at length = ((slice_index b 0 == subtype) && not (slice_index b at == length), BadLength at (slice_index b at))

-- the conditions in the order of checking
abbrev pub causes : List ℕ → List Cause
causes b =
    (nat_lt (length b) payload_len, Short (length b))
    ∷ (not ((slice_index b 0 == 1) || (slice_index b 0 == 2)), OtherSubtype (slice_index b 0))
    ∷ wrong_length b 1 3 20
    ∷ wrong_length b 1 23 20
    ∷ wrong_length b 1 43 16
    ∷ wrong_length b 2 3 16
    ∷ ((slice_index b 0 == 2) && not ((slice_index b 2 == 1) || (slice_index b 2 == 2)), MarkerTlv (slice_index b 2))
    ∷ []

-- the fault of the first condition that holds
abbrev pub first_cause : List Cause → Option WireFault
first_cause [] = None
first_cause (cause ∷ rest) = if cause.0 then Some cause.1 else first_cause rest

-- the fault of a payload; None if it has none
abbrev pub fault_of : List ℕ → Option WireFault
fault_of b = first_cause (causes b)

-- the number of a fault: its place in the order of checking, from 1
abbrev pub fault_number : WireFault → ℕ
fault_number (Short have) = 1
fault_number (OtherSubtype subtype) = 2
fault_number (BadLength at found) = 3
fault_number (MarkerTlv type) = 4
