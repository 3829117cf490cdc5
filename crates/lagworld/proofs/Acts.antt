-- What an event did to the system or cable that it names.
use Rattle.lagworld.proofs.Common.{Bool, IfOk, None, Result, Some, if◌then◌else◌, is_some, nat_le, true, ℕ, ◌==◌, ◌≡◌, true≢false, Vec, AggId, Event}
use Rattle.lagworld.proofs.Common.{WorldFault, Reply, Algorithms, DoesEvent, WorldEmits, WorldOffers, cause, first_event_cause, has_cable, has_system}
use Rattle.lagworld.proofs.Common.{most_events, side_of, side_numbered, WorldState}
use native.Mathlib.Omega.{arith}
use Rattle.lagscript.specs.declared.event.Event.TheVariants as event

pub second : (a b c : Bool) → first_event_cause a b c ≡ None → (a ≡ true) × (b ≡ true)
second a b c h = grind arith

pub side_there : (n : ℕ) → is_some (side_of n) ≡ true → side_of n ≡ Some (side_numbered n)
side_there n h = grind arith

if_ok : {T E : Type 0} (r : Result T E) (P Q : T → Type 0) → ((x : T) → P x → Q x) → IfOk r P → IfOk r Q
if_ok r P Q f h = grind arith

-- of an event that names a system, and no cable
there : (j : WorldState) (n : ℕ) → first_event_cause (has_cable j None) (has_system (Some n)) (nat_le most_events j.acted) ≡ None → is_some (side_of n) ≡ true
there j n h = (second (has_cable j None) (is_some (side_of n)) (nat_le most_events j.acted) h).1

pub emit_does : (gives : Algorithms) (n p : ℕ) (e : Event) (r : Result Reply WorldFault) (old new : WorldState) → e ≡ event.Emit n p
    → cause old e ≡ None → IfOk r (λ x. WorldEmits gives (side_numbered n) p old x new) → IfOk r (λ x. DoesEvent gives old e x new)
emit_does gives n p e r old new is c = grind arith

pub offer_does : (gives : Algorithms) (n : ℕ) (agg : AggId) (octets : Vec ℕ) (e : Event) (r : Result Reply WorldFault)
    (old new : WorldState) → e ≡ event.Offer n agg octets → cause old e ≡ None
    → IfOk r (λ x. WorldOffers gives (side_numbered n) agg octets.items old x new) → IfOk r (λ x. DoesEvent gives old e x new)
offer_does gives n agg octets e r old new is c = grind arith
