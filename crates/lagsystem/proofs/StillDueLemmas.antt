-- Offers make no frame due, data changes nothing, and a row names what an offer answers.
use Rattle.lagsystem.proofs.Common.{Bool, Err, List, Ok, Result, ap, arith, is_some, nat_lt, option_map, true, ℕ, ◌&&◌, ◌<◌, ◌||◌, ◌∙◌, ◌≡◌}
use Rattle.lagsystem.proofs.Common.{nat_tests, AggId, is_due, Assignment, On, DistFault, Assigns, MaySend, SetsAssignment, marker_due, wants_marker}
use Rattle.lagsystem.proofs.Common.{Table, assignment_of, SystemFault, SystemPort, OffersIf, TakesPort, port_on, would_transmit_at, GivesAssignment}
use Rattle.lagsystem.proofs.Common.{distributing, SystemState, port_index, system_port_at, with_table}
use Rattle.lagsystem.specs.declared.drive.Reply.TheVariants as reply
use Rattle.lagsystem.specs.StillDue.{DataChangesNothing, DueAsBefore, OfferConversationMakesNoneDue, OfferMakesNoneDue, RowIsAnswer, RowIsOffer}
use Rattle.lagsystem.proofs.Conversing.{assigned_may}

-- the same marker is due on each port where the same conversations want one

due_alike : (t u : Table) (p : ℕ) → u.aggs ≡ t.aggs → u.conversations ≡ t.conversations → u.next ≡ t.next
    → ((a c : ℕ) → wants_marker p (assignment_of u a c) ≡ wants_marker p (assignment_of t a c)) → marker_due u p ≡ marker_due t p
due_alike t u p aggs many next e = grind (arith, nat_tests)

transmits_alike : (old new : SystemState) → new ≡ with_table old new.table → ((p : ℕ) → marker_due new.table p ≡ marker_due old.table p) → DueAsBefore old new
transmits_alike old new f m n = ap (would_transmit_at n) f
    ∙ (λ i. option_map (λ (x : SystemPort). x.port.enabled && (is_due x.port || is_some (m x.number i)))
    (system_port_at (port_index n old.system_ports) old.system_ports))

nothing_alike : (old new : SystemState) → new ≡ old → DueAsBefore old new
nothing_alike old new e n = ap (would_transmit_at n) e

-- a conversation that takes a port wanted no marker, and wants none

wished_alike : (t u : Table) (ports : List ℕ) (agg conv port p : ℕ) → SetsAssignment t u agg conv (On port) → MaySend ports (assignment_of t agg conv) port
    → (a c : ℕ) → wants_marker p (assignment_of u a c) ≡ wants_marker p (assignment_of t a c)
wished_alike t u ports agg conv port p h may a c = grind (arith, nat_tests)

given_alike : (gives : ℕ → ℕ → ℕ → Type 0) (agg : AggId) (conv port : ℕ) (old new : SystemState)
    → Assigns gives conv (distributing agg old.system_ports) (assignment_of old.table agg.0 conv) (Ok port)
    → GivesAssignment agg conv (On port) old new → DueAsBefore old new
given_alike gives agg conv port old new a h = let ports = distributing agg old.system_ports in
    let may = assigned_may gives conv ports (assignment_of old.table agg.0 conv) port a in
    transmits_alike old new h.1 (λ p. due_alike old.table new.table p h.0.aggs h.0.conversations h.0.next
    (wished_alike old.table new.table ports agg.0 conv port p h.0 may))

pub offer_makes_none_due : (gives : ℕ → ℕ → ℕ → Type 0) → OfferMakesNoneDue gives
offer_makes_none_due gives old new agg octets i h = grind (arith, nat_tests, given_alike, nothing_alike)

takes_alike : (gives : ℕ → ℕ → ℕ → Type 0) (agg : AggId) (conv : ℕ) (old : SystemState) (answer : Result ℕ SystemFault)
    (new : SystemState) → TakesPort gives agg conv old answer new → DueAsBefore old new
takes_alike gives agg conv old answer new h = grind (arith, nat_tests, given_alike, nothing_alike)

if_alike : (there known : Bool) (gives : ℕ → ℕ → ℕ → Type 0) (agg : AggId) (conv : ℕ) (old : SystemState) (answer : Result ℕ SystemFault)
    (new : SystemState) → OffersIf there known gives agg conv old answer new → DueAsBefore old new
if_alike there known gives agg conv old answer new h = grind (arith, nat_tests, nothing_alike, takes_alike)

pub offer_conversation_makes_none_due : (gives : ℕ → ℕ → ℕ → Type 0) → OfferConversationMakesNoneDue gives
offer_conversation_makes_none_due gives old new agg conv answer h = grind (arith, nat_tests, if_alike)

-- a data frame

pub data_changes_nothing : (gives : ℕ → ℕ → ℕ → Type 0) → DataChangesNothing gives
data_changes_nothing gives old new port octets answer d h = grind (arith, nat_tests)

-- a row that names a port

row_is_on : (a : Assignment) (port : ℕ) → port_on a ≡ port → 0 < port → a ≡ On port
row_is_on a port e l = grind (arith, nat_tests)

abbrev answered : ℕ → Result ℕ DistFault
answered port = Ok port

abbrev refusal_of : DistFault → Result ℕ DistFault
refusal_of cause = Err cause

taken_on : (gives : ℕ → ℕ → ℕ → Type 0) (agg : AggId) (conv port : ℕ) (old : SystemState) (answer : Result ℕ SystemFault)
    (new : SystemState) → assignment_of old.table agg.0 conv ≡ On port → TakesPort gives agg conv old answer new → answer ≡ Ok port
taken_on gives agg conv port old answer new e h = grind (arith, nat_tests)

taken_if : (there known : Bool) (gives : ℕ → ℕ → ℕ → Type 0) (agg : AggId) (conv : ℕ) (old : SystemState) (answer : Result ℕ SystemFault) (new : SystemState)
    → there ≡ true → known ≡ true → OffersIf there known gives agg conv old answer new → TakesPort gives agg conv old answer new
taken_if there known gives agg conv old answer new t k h = grind (arith, nat_tests)

below : (n m : ℕ) → n < m → nat_lt n m ≡ true
below n m l = grind (arith, nat_tests)

pub row_is_answer : (gives : ℕ → ℕ → ℕ → Type 0) → RowIsAnswer gives
row_is_answer gives s new agg conv port answer there known e some h = grind (arith, nat_tests, taken_on, row_is_on, taken_if, below)

pub row_is_offer : (gives : ℕ → ℕ → ℕ → Type 0) → RowIsOffer gives
row_is_offer gives s new agg octets port k there may e some h = grind (arith, nat_tests)
