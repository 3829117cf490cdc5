-- The fault of a payload, cause by cause.
use Rattle.slowpdu.proofs.Common.{List, None, [], arith, false, length, length-append, not, refl, slice_index, ℕ, ◌&&◌, ◌++◌, ◌<◌, ◌==◌, ◌||◌, ◌∷◌}
use Rattle.slowpdu.proofs.Common.{◌≡◌, ◌≤◌, ◌⊎◌, le-ltb, get_or_append_left, BadLength, MarkerTlv, OtherSubtype, Cause, fault_of, first_cause}
use Rattle.slowpdu.proofs.Common.{payload_len}
use Rattle.std.proofs.lemmas.Bool.Decides.{nat_tests}

pub no_fault_1 : (b : List ℕ) → payload_len ≤ length b → slice_index b 0 ≡ 1 → slice_index b 3 ≡ 20
    → slice_index b 23 ≡ 20 → slice_index b 43 ≡ 16 → fault_of b ≡ None
no_fault_1 b long subtype actor partner collector = grind arith

-- the causes after the length of the payload, from the octets that they look at
abbrev marker_type_causes : ℕ → ℕ → List Cause
marker_type_causes subtype type = ((subtype == 2) && not ((type == 1) || (type == 2)), MarkerTlv type) ∷ []

abbrev marker_causes : ℕ → ℕ → ℕ → List Cause
marker_causes subtype type actor = ((subtype == 2) && not (actor == 16), BadLength 3 actor) ∷ marker_type_causes subtype type

abbrev collector_causes : ℕ → ℕ → ℕ → ℕ → List Cause
collector_causes subtype type actor collector = ((subtype == 1) && not (collector == 16), BadLength 43 collector) ∷ marker_causes subtype type actor

abbrev partner_causes : ℕ → ℕ → ℕ → ℕ → ℕ → List Cause
partner_causes subtype type actor partner collector =
    ((subtype == 1) && not (partner == 20), BadLength 23 partner) ∷ collector_causes subtype type actor collector

abbrev actor_causes : ℕ → ℕ → ℕ → ℕ → ℕ → List Cause
actor_causes subtype type actor partner collector =
    ((subtype == 1) && not (actor == 20), BadLength 3 actor) ∷ partner_causes subtype type actor partner collector

abbrev later_causes : ℕ → ℕ → ℕ → ℕ → ℕ → List Cause
later_causes subtype type actor partner collector =
    (not ((subtype == 1) || (subtype == 2)), OtherSubtype subtype) ∷ actor_causes subtype type actor partner collector

long_fault : (b : List ℕ) → payload_len ≤ length b
    → fault_of b ≡ first_cause (later_causes (slice_index b 0) (slice_index b 2) (slice_index b 3) (slice_index b 23) (slice_index b 43))
long_fault b long = rw (le-ltb (length b) 110 long) refl

octet-append : (b rest : List ℕ) (i : ℕ) → i < length b → slice_index (b ++ rest) i ≡ slice_index b i
octet-append b rest i h = get_or_append_left b rest 0 i h

-- what follows the payload is no cause
pub fault-append : (b rest : List ℕ) → payload_len ≤ length b → fault_of (b ++ rest) ≡ fault_of b
fault-append b rest long = grind (arith, nat_tests, octet-append, length-append)

-- what is looked at in an LACPDU and in a Marker PDU, beside the fields
pub record IsLacpdu (b : List ℕ) : Type 0 where
  pub subtype : slice_index b 0 ≡ 1
  pub actor : slice_index b 3 ≡ 20
  pub partner : slice_index b 23 ≡ 20
  pub collector : slice_index b 43 ≡ 16

pub record IsMarker (b : List ℕ) : Type 0 where
  pub subtype : slice_index b 0 ≡ 2
  pub size : slice_index b 3 ≡ 16
  pub kind : (slice_index b 2 ≡ 1) ⊎ (slice_index b 2 ≡ 2)

one_of : (n : ℕ) → not ((n == 1) || (n == 2)) ≡ false → (n ≡ 1) ⊎ (n ≡ 2)
one_of n h = grind arith

expected : (s t n m : ℕ) → s ≡ t → ((s == t) && not (n == m)) ≡ false → n ≡ m
expected s t n m e h = grind arith

typed : (s n : ℕ) → s ≡ 2 → ((s == 2) && not ((n == 1) || (n == 2))) ≡ false → (n ≡ 1) ⊎ (n ≡ 2)
typed s n e h = grind arith

-- a payload that is not refused
pub accepted : (b : List ℕ) → fault_of b ≡ None → (payload_len ≤ length b) × (IsLacpdu b ⊎ IsMarker b)
accepted b h = grind arith
