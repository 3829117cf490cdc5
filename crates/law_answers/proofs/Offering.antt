-- What is offered, moved and freed has an answer.
use native.Mathlib.Omega.{arith}
use Rattle.std.proofs.Common.{Bool, Err, List, MatchOption, None, Ok, Option, Result, Some, [], inl, inr, length, nat_le, nat_lt, refl}
use Rattle.std.proofs.Common.{slice_get, subst, suc, sym, true, zero, ℕ, ◌%◌, ◌<◌, ◌^◌, ◌∷◌, ◌≡◌, ◌≤◌}
use Rattle.std.proofs.Math.Nat.{mod-lt}
use Rattle.std.proofs.lemmas.Bool.{and_parts, cases_Bool}
use Rattle.std.proofs.lemmas.Bool.Decides.{nat_tests}
use Rattle.std.specs.Prelude.{bit_xor}
use Rattle.lagtypes.specs.declared.identifiers.AggId.{AggId}
use Rattle.distributor.specs.declared.assignment.Assignment.{Assignment}
use Rattle.distributor.specs.declared.assignment.Assignment.TheVariants.{Flushing, Free, On, Wanted}
use Rattle.distributor.specs.declared.fault.DistFault.{DistFault}
use Rattle.distributor.specs.declared.fault.DistFault.TheVariants.{Held, NoneDistributing}
use Rattle.distributor.specs.Calls.{Assigns, PicksPort, preferred_among}
use Rattle.distributor.specs.Conversations.{is_conversation_count}
use Rattle.lagsystem.specs.declared.drive.Reply.TheVariants as reply
use Rattle.lagsystem.specs.declared.fault.SystemFault.{SystemFault}
use Rattle.lagsystem.specs.declared.fault.SystemFault.TheVariants.{FrameLength, NoAggregator, SlowFrame}
use Rattle.lagsystem.specs.declared.system_ports.SystemPort.{SystemPort}
use Rattle.lagsystem.specs.Calls.{Force, Move_conversation, Offer}
use Rattle.lagsystem.specs.Faults.{system_fault}
use Rattle.lagsystem.specs.Offers.{GivesAssignment, GivesOrRefuses, MayBeOfferedTo, assignment_of_frame, has_aggregator, in_system, is_frame_length}
use Rattle.lagsystem.specs.Offers.{or_not_assigned, system_force_result, system_move_result}
use Rattle.lagsystem.specs.Readers.{conversation_count, distributing, number_of_conversation, two_octets}
use Rattle.lagsystem.specs.Sound.{IsSound}
use Rattle.lagsystem.specs.State.{SystemState, with_table}
use Rattle.lagsystem.proofs.Keeps.{few_ports}
use Rattle.lagsystem.proofs.Rising.{accepted_count}
use Rattle.law_answers.specs.Answers.{PicksOne}
use Rattle.law_answers.specs.Fits.{NumbersFit}
use Rattle.law_answers.proofs.Changing.{Finds, with_ports_fit}
use Rattle.law_answers.proofs.Receiving.{slow_or_not}
use Rattle.law_answers.proofs.Tables.{gives_state}

-- numbers of conversations and aggregators

some_conversations : (n : ℕ) → is_conversation_count n ≡ true → (0 < n) × (n ≤ 4096)
some_conversations n h = grind (arith, nat_tests)

remainder : (x n : ℕ) → is_conversation_count n ≡ true → (x % n < n) × (n ≤ 4096)
remainder x n h = let c = some_conversations n h in (mod-lt x c.0, c.1)

numbered : (n : ℕ) → nat_lt 0 n ≡ true → 0 < n
numbered n h = grind (arith, nat_tests)

aggregator_there : (s : SystemState) (agg : AggId) → has_aggregator s agg ≡ true → 0 < agg.0
aggregator_there s agg h = numbered agg.0 (and_parts (nat_lt 0 agg.0) (nat_le agg.0 (length s.keys)) h).0

-- a state for a conversation that there is
gives_one : (s : SystemState) (agg : AggId) (conv : ℕ) (a : Assignment) → NumbersFit s → 0 < agg.0 → conv < s.table.conversations
    → (new : SystemState) × GivesAssignment agg conv a s new × NumbersFit new
gives_one s agg conv a fits pos below = let u = gives_state s.table agg.0 conv a pos below in
    (with_table s u.0, (u.1, refl), with_ports_fit s s.system_ports u.0 fits fits.system_ports)

-- an offer

at_index : (l : List ℕ) (i : ℕ) → i < length l → (x : ℕ) × (slice_get l i ≡ Some x)
at_index [] i lt = absurd (omega (arith, lt))
at_index (x ∷ xs) zero lt = (x, refl)
at_index (x ∷ xs) (suc i) lt = at_index xs i (omega (arith, lt))

picks : (gives : ℕ → ℕ → ℕ → Type 0) → PicksOne gives → (conv : ℕ) → conv < 2 ^ 16 → (ports : List ℕ) → length ports ≤ 64
    → (r : Result ℕ DistFault) × PicksPort gives conv ports r
picks gives one conv small [] few = (Err NoneDistributing, refl)
picks gives one conv small (p ∷ ports) few = let x = one conv (length (p ∷ ports)) small (omega arith) few in
    let y = at_index (p ∷ ports) x.0 x.1 in (Ok y.0, (x.0, y.0, x.2, y.1, refl))

assigns : (gives : ℕ → ℕ → ℕ → Type 0) → PicksOne gives → (conv : ℕ) → conv < 2 ^ 16 → (ports : List ℕ) → length ports ≤ 64 → (a : Assignment)
    → (r : Result ℕ DistFault) × Assigns gives conv ports a r
assigns gives one conv small ports few (Free preferred) = by_preference (preferred_among ports preferred)
  where
    by_preference : (o : Option ℕ) → (r : Result ℕ DistFault) × MatchOption o (PicksPort gives conv ports r) (λ p. r ≡ Ok p)
    by_preference None = picks gives one conv small ports few
    by_preference (Some p) = (Ok p, refl)
assigns gives one conv small ports few (On p) = (Ok p, refl)
assigns gives one conv small ports few (Wanted p preferred) = (Err Held, refl)
assigns gives one conv small ports few (Flushing p n preferred age) = (Err Held, refl)

offered : (gives : ℕ → ℕ → ℕ → Type 0) (old : SystemState) (agg : AggId) (octets : List ℕ) → NumbersFit old → MayBeOfferedTo old agg octets
    → number_of_conversation old octets < old.table.conversations → (r : Result ℕ DistFault)
    → Assigns gives (number_of_conversation old octets) (distributing agg old.system_ports) (assignment_of_frame old agg octets) r
    → Finds gives old (Offer agg octets)
offered gives old agg octets fits may below (Err cause) h =
    (reply.Offer (Err (system_fault cause)), old, (inr (inr (cause, (may, h), refl)), refl), fits)
offered gives old agg octets fits may below (Ok port) h =
    let x = gives_one old agg (number_of_conversation old octets) (On port) fits (aggregator_there old agg may.0) below in
    (reply.Offer (Ok port), x.0, (may, h, x.1), x.2)

distributing_few : (agg : AggId) (l : List SystemPort) → length (distributing agg l) ≤ length l
distributing_few agg [] = omega arith
distributing_few agg (x ∷ xs) = grind (arith, nat_tests, distributing_few agg xs)

pub offers : (gives : ℕ → ℕ → ℕ → Type 0) (old : SystemState) (agg : AggId) (octets : List ℕ) → PicksOne gives → IsSound old → NumbersFit old
    → Finds gives old (Offer agg octets)
offers gives old agg octets one sound fits = elim (cases_Bool (has_aggregator old agg)) [
  | inr none ↦ (reply.Offer (Err NoAggregator), old, (inl (none, refl), refl), fits)
  | inl there ↦ elim (cases_Bool (is_frame_length octets)) [
    | inr bad ↦ (reply.Offer (Err FrameLength), old, (inr (inl (there, inl (bad, refl))), refl), fits)
    | inl good ↦ elim (slow_or_not octets) [
      | inl slow ↦ (reply.Offer (Err SlowFrame), old, (inr (inl (there, inr (good, slow, refl))), refl), fits)
      | inr other ↦ (let number = remainder (bit_xor (two_octets octets 4) (two_octets octets 10)) old.conversations
          (accepted_count old.keys old.ports old.max_links old.conversations sound.ports.accepted) in
          let same = sound.conversations in
          let x = assigns gives one (number_of_conversation old octets) (omega (arith, number.0, number.1)) (distributing agg old.system_ports)
          (omega (arith, distributing_few agg old.system_ports, few_ports old sound.ports)) (assignment_of_frame old agg octets) in
          offered gives old agg octets fits (there, (good, other)) (subst (λ m. number_of_conversation old octets < m) (sym same) number.0) x.0 x.1)
    ]
  ]
]

-- a move, and a force

-- it is a state
abbrev Accepted : Result Assignment SystemFault → Type 0
Accepted (Ok a) = Unit {0}
Accepted (Err fault) = ⊥

given_or_refused : (old : SystemState) (agg : AggId) (conv : ℕ) (r : Result Assignment SystemFault) → NumbersFit old
    → (Accepted r → (0 < agg.0) × (conv < old.table.conversations))
    → (answer : Result Unit SystemFault) × (new : SystemState) × GivesOrRefuses agg conv r old answer new × NumbersFit new
given_or_refused old agg conv (Err fault) fits within = (Err fault, old, (refl, refl), fits)
given_or_refused old agg conv (Ok a) fits within = let bounds = within tt in
    let x = gives_one old agg conv a fits bounds.0 bounds.1 in (Ok tt, x.0, (refl, x.1), x.2)

-- what is accepted is a conversation of an aggregator that there is

known : (old : SystemState) (conv : ℕ) (r : Result Assignment DistFault) → Accepted (in_system (or_not_assigned old conv r)) → conv < conversation_count old
known old conv r h = by_test (nat_lt conv (conversation_count old)) refl h
  where
    by_test : (b : Bool) → nat_lt conv (conversation_count old) ≡ b → Accepted (in_system (or_not_assigned old conv r)) → conv < conversation_count old
    by_test b e h = grind (arith, nat_tests)

moved_within : (old : SystemState) (agg : AggId) (conv port : ℕ) → Accepted (system_move_result old agg conv port)
    → (0 < agg.0) × (conv < conversation_count old)
moved_within old agg conv port h = grind (arith, nat_tests)

forced_within : (old : SystemState) (agg : AggId) (conv : ℕ) → Accepted (system_force_result old agg conv)
    → (0 < agg.0) × (conv < conversation_count old)
forced_within old agg conv h = grind (arith, nat_tests)

pub moves : (gives : ℕ → ℕ → ℕ → Type 0) (old : SystemState) (agg : AggId) (conv port : ℕ) → IsSound old → NumbersFit old
    → Finds gives old (Move_conversation agg conv port)
moves gives old agg conv port sound fits = let x = given_or_refused old agg conv (system_move_result old agg conv port) fits
    (λ h. let w = moved_within old agg conv port h in (w.0, subst (λ m. conv < m) (sym sound.conversations) w.1)) in
    (reply.MoveConversation x.0, x.1, x.2, x.3)

pub forces : (gives : ℕ → ℕ → ℕ → Type 0) (old : SystemState) (agg : AggId) (conv : ℕ) → IsSound old → NumbersFit old
    → Finds gives old (Force agg conv)
forces gives old agg conv sound fits = let x = given_or_refused old agg conv (system_force_result old agg conv) fits
    (λ h. let w = forced_within old agg conv h in (w.0, subst (λ m. conv < m) (sym sound.conversations) w.1)) in
    (reply.Force x.0, x.1, x.2, x.3)
