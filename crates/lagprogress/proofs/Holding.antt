-- What a healthy round leaves of conversations that are held on a port whose cable is healthy: their markers are answered.
use Rattle.lagprogress.proofs.Common.{List, ap, arith, drop, eqb, false, sym, true, ℕ, ◌+◌, ◌<◌, ◌∙◌, ◌≡◌, ◌≤◌, ◌⊎◌, nat_tests, none-some, Marker}
use Rattle.lagprogress.proofs.Common.{Information, Response, Pdu, no_fault, one_pdu, Side, peer, Assignment, Flushing, Free, On, Wanted, is_among}
use Rattle.lagprogress.proofs.Common.{after_mark, after_release, after_tick, Carries, Data_frame, Faulty, IsFrame, ReceivedFrame, Runt}
use Rattle.lagprogress.proofs.Common.{held_unless_on, ItemValue}
use Rattle.slowpdu.specs.declared.pdu.Pdu.TheVariants as pdu
pub use Rattle.lagprogress.proofs.Linked.{Has, has_last, has_on}

-- the marker that port p of the system with this address sends, and its response
abbrev pub asking : ℕ → List ℕ → ℕ → Marker
asking p mac id = record { kind = Information; port = p; system = mac; id = id }

abbrev pub answering : ℕ → List ℕ → ℕ → Marker
answering p mac id = record { kind = Response; port = p; system = mac; id = id }

-- the item carries this Marker PDU
abbrev pub IsMarker : Marker → ItemValue → Type 0
IsMarker m item = IsFrame item.octets (Carries (pdu.Marker m))

-- the marker of system s, or its response, is on its way
abbrev pub Flights : Side → ℕ → List ℕ → (Side → List ItemValue) → ℕ → Type 0
Flights s p mac fl id = Has (IsMarker (asking p mac id)) (fl (peer s)) ⊎ Has (IsMarker (answering p mac id)) (fl s)

-- conversations

-- What is known of a conversation, if it is held on port p: it is Wanted only if W; and a marker was sent for it at least m
-- ticks ago and fewer than 30 if m is not 0, or its marker or the response is on its way.
abbrev pub Fine : ℕ → ℕ → Type 0 → (ℕ → Type 0) → Assignment → Type 0
Fine p m W F (Free preferred) = Unit {0}
Fine p m W F (On q) = Unit {0}
Fine p m W F (Wanted q preferred) = q ≡ p → W
Fine p m W F (Flushing q id preferred age) = q ≡ p → ((m ≤ age) × (1 ≤ m → age < 30)) ⊎ F id

pub fine_map : (p m : ℕ) (W V : Type 0) (F G : ℕ → Type 0) → (W → V) → ((id : ℕ) → F id → G id) → (a : Assignment) → Fine p m W F a → Fine p m V G a
fine_map p m W V F G k f a h = grind (arith, nat_tests)

pub is_port : (q p : ℕ) → eqb q p ≡ true → q ≡ p
is_port q p e = grind (arith, nat_tests)

pub not_port : (q p : ℕ) → eqb q p ≡ false → q ≡ p → ⊥
not_port q p e f = grind (arith, nat_tests)

-- a marker is sent on another port
pub marked_beside : (p m q id : ℕ) (W : Type 0) (F : ℕ → Type 0) → (q ≡ p → ⊥) → (a : Assignment) → Fine p m W F a → Fine p m W F (after_mark q id a)
marked_beside p m q id W F other a h = grind (arith, nat_tests)

-- a marker is sent on the port, and is on its way
pub marked_here : (p m id : ℕ) (W : Type 0) (F G : ℕ → Type 0) → G id → ((n : ℕ) → F n → G n) → (a : Assignment) → Fine p m W F a
    → Fine p m ⊥ G (after_mark p id a)
marked_here p m id W F G here k a h = grind (arith, nat_tests)

-- a response comes on another port
pub released_beside : (p m q id : ℕ) (W : Type 0) (F : ℕ → Type 0) (a : Assignment) → Fine p m W F a → Fine p m W F (after_release q id a)
released_beside p m q id W F a h = grind (arith, nat_tests)

-- a settling leaves what is On the port
pub settled_fine : (p m : ℕ) (W : Type 0) (F : ℕ → Type 0) (ports : List ℕ) (a : Assignment) → (a ≡ On p → is_among ports p ≡ true)
    → Fine p m W F a → Fine p m W F (held_unless_on ports a)
settled_fine p m W F ports a k h = grind (arith, nat_tests)

-- a tick
pub ticked_fine : (p m : ℕ) (W : Type 0) (F : ℕ → Type 0) (a : Assignment) → Fine p m W F a → Fine p (m + 1) (Unit {0}) F (after_tick a)
ticked_fine p m W F a h = grind (arith, nat_tests)

-- frames

-- octets that carry a PDU are no other kind of frame
pub frame_is : (octets : List ℕ) (v : Pdu) (f : ReceivedFrame) → IsFrame octets (Carries v) → IsFrame octets f → f ≡ Carries v
frame_is octets v Runt h k = absurd (omega (arith, k, h.0.0))
frame_is octets v Data_frame h k = absurd (k.1 h.0.1)
frame_is octets v (Faulty e) h k = absurd (none-some e (sym (no_fault (drop 14 octets) v h.1) ∙ k.1))
frame_is octets v (Carries w) h k = ap Carries (one_pdu (drop 14 octets) v w h.1 k.1)
