-- Each call changes the conversations of a system by lawful moves of the model.
use Rattle.lagsystem.proofs.Common.{Bool, Err, IsSomeAnd, List, None, Ok, Option, Result, Some, [], ap, arith, eq-eqb, eqb, eqb-true, false}
use Rattle.lagsystem.proofs.Common.{if◌then◌else◌, inl, inr, option_map, refl, slice_get, subst, suc, sym, true, zero, ℕ, ◌&&◌, ◌∙◌, ◌∷◌, ◌≡◌}
use Rattle.lagsystem.proofs.Common.{cases_Bool, false≢true, nat_tests, none-some, AggId, Choice, find_number, Act, ConversationMove, Distributes}
use Rattle.lagsystem.proofs.Common.{DistributorMoves, LawfulMoves, PortFacts, SystemSetup, Told, cond_false, cond_true, flows_weaker, moves_flows}
use Rattle.lagsystem.proofs.Common.{MuxState, CollectingDistributing, partner_synchronized, same_mux_state, selected, has_chosen, Assignment}
use Rattle.lagsystem.proofs.Common.{Flushing, Free, On, Wanted, DistFault, Assigns, MaySend, PicksPort, is_among, Table, NoneDistributes}
use Rattle.lagsystem.proofs.Common.{OnlyListedDistribute, model_distributor, Makes, each_moves, SystemPort, MuxesConsistent, model_port_of}
use Rattle.lagsystem.proofs.Common.{model_view, model_view_at, mux_consistent_of, number_of_port, selected_number, aggregator_numbered}
use Rattle.lagsystem.proofs.Common.{distributes_in, distributing, HoldsConversations, held_unless_on, SystemState, port_numbers}
use Rattle.lagsystem.proofs.Stopped.{from_here, from_rest, none_on, on, on_more}
use Rattle.lagsystem.proofs.Rising.{Rises}

-- moves of the conversations, whatever the ports do
pub table_moves : (u : SystemSetup) (call : Told) (system_ports : List SystemPort) (t new : Table) (seen : List Act)
    → DistributorMoves u.system.mac call NoneDistributes (model_distributor t) seen (model_distributor new)
    → LawfulMoves u call (model_view_at (model_distributor t) system_ports) seen (model_view_at (model_distributor new) system_ports)
table_moves u call system_ports t new seen h = let v = model_view_at (model_distributor t) system_ports in
    moves_flows u call v seen (model_distributor new) (flows_weaker u.system.mac call NoneDistributes (Distributes v.port)
    (model_distributor t) (model_distributor new) seen (λ g p x. absurd x) h)

-- step 6 of settling
leaves_one : (mac : List ℕ) (call : Told) (ports : List ℕ) (g k : ℕ) (a : Assignment) → Makes mac call g k a (held_unless_on ports a)
leaves_one mac call ports g k (Free preferred) = inl refl
leaves_one mac call ports g k (Wanted p preferred) = inl refl
leaves_one mac call ports g k (Flushing p id preferred age) = inl refl
leaves_one mac call ports g k (On p) = either (is_among ports p)
  where
    either : (b : Bool) → Makes mac call g k (On p) (if b then On p else Wanted p None)
    either true = inl refl
    either false = inr (ConversationMove.Want p, refl, refl)

pub leaving_moves : (u : SystemSetup) (call : Told) (old new : SystemState) → HoldsConversations old new
    → LawfulMoves u call (model_view old) [] (model_view new)
leaving_moves u call old new h = let ports : ℕ → List ℕ = λ g. distributing (aggregator_numbered g) old.system_ports in
    let moves = each_moves u.system.mac call old.table new.table (λ g k. held_unless_on (ports g)) (λ g k. refl)
    (λ g k a. leaves_one u.system.mac call (ports g) g k a) h.next h.states in
    subst (λ l. LawfulMoves u call (model_view old) [] (model_view_at (model_distributor new.table) l))
    (sym (ap (λ (s : SystemState). s.system_ports) h.frame)) (table_moves u call old.system_ports old.table new.table [] moves)

-- at rest a port distributes exactly if its mux machine does
pub rest_distributes : (m : MuxState) (x s : Bool) → mux_consistent_of m x s ≡ true
    → (s && (x && same_mux_state CollectingDistributing m)) ≡ same_mux_state CollectingDistributing m
rest_distributes m x s h = grind (arith, nat_tests)

-- a port that distributes in an aggregator is seen to do so
given_number : (agg : AggId) (c : Choice) → has_chosen agg c ≡ true → selected_number c ≡ Some agg.0
given_number agg c h = grind (arith, nat_tests)

seen_there : (agg : AggId) (s : SystemPort) → (mux_consistent_of s.port.mux (selected s.port) (partner_synchronized s.port) ≡ true)
    → distributes_in agg s ≡ true → ((model_port_of s).aggregator ≡ Some agg.0) × ((model_port_of s).distributes ≡ true)
seen_there agg s h d = grind (arith, nat_tests)

flipped : (m n : ℕ) → eqb m n ≡ true → eqb n m ≡ true
flipped m n h = eq-eqb n m (sym (eqb-true m n h))

unflipped : (m n : ℕ) → eqb m n ≡ false → eqb n m ≡ false
unflipped m n h = elim (cases_Bool (eqb n m)) [ inl t ↦ absurd (false≢true (sym h ∙ flipped n m t)) | inr f ↦ f ]

abbrev Sees : AggId → Option SystemPort → Type 0
Sees agg o = IsSomeAnd (option_map model_port_of o) (λ (a : PortFacts). (a.aggregator ≡ Some agg.0) × (a.distributes ≡ true))

pub seen_distributing : (agg : AggId) (p low : ℕ) (system_ports : List SystemPort) → Rises low (port_numbers system_ports)
    → MuxesConsistent system_ports → on agg system_ports p ≡ true → Sees agg (find_number number_of_port system_ports p)
seen_distributing agg p low [] r a h = absurd (false≢true h)
seen_distributing agg p low (s ∷ system_ports) r a h = elim (cases_Bool (eqb s.number p)) [
  | inl t ↦ (let none = none_on agg s.number system_ports p r.1 (let same = eqb-true s.number p t in omega (arith, same)) in
      let here = from_here (distributes_in agg s) (eqb s.number p) (on agg system_ports p) t none
      (sym (on_more agg s system_ports p) ∙ h) in
      subst (Sees agg) (sym (cond_true (eqb p s.number) (Some s) (find_number number_of_port system_ports p) (flipped s.number p t)))
      (seen_there agg s a.0 here))
  | inr f ↦ (let rest = sym (from_rest (distributes_in agg s) (eqb s.number p) (on agg system_ports p) f)
      ∙ sym (on_more agg s system_ports p) ∙ h in
      subst (Sees agg) (sym (cond_false (eqb p s.number) (Some s) (find_number number_of_port system_ports p) (unflipped s.number p f)))
      (seen_distributing agg p s.number system_ports r.1 a.1 rest))
]

-- moves of the conversations, if a port may carry one that distributes in its aggregator
pub carrying_moves : (u : SystemSetup) (call : Told) (agg : AggId) (system_ports : List SystemPort) (t new : Table) (seen : List Act)
    → Rises 0 (port_numbers system_ports) → MuxesConsistent system_ports
    → DistributorMoves u.system.mac call (OnlyListedDistribute agg.0 (distributing agg system_ports)) (model_distributor t) seen (model_distributor new)
    → LawfulMoves u call (model_view_at (model_distributor t) system_ports) seen (model_view_at (model_distributor new) system_ports)
carrying_moves u call agg system_ports t new seen r a h = let v = model_view_at (model_distributor t) system_ports in
    moves_flows u call v seen (model_distributor new)
    (flows_weaker u.system.mac call (OnlyListedDistribute agg.0 (distributing agg system_ports)) (Distributes v.port) (model_distributor t)
    (model_distributor new) seen
    (λ g p x. subst (λ m. Distributes v.port m p) (sym x.0) (seen_distributing agg p 0 system_ports r a x.1)) h)

-- the port that the distributor answers may carry the frame
among : (xs : List ℕ) (i q : ℕ) → slice_get xs i ≡ Some q → is_among xs q ≡ true
among [] i q e = absurd (none-some q e)
among (x ∷ xs) zero q e = grind (arith, nat_tests)
among (x ∷ xs) (suc i) q e = grind (arith, nat_tests, among xs i q e)

abbrev port_answer : ℕ → Result ℕ DistFault
port_answer p = Ok p

same_Ok : (p q : ℕ) → port_answer p ≡ Ok q → p ≡ q
same_Ok p q e = cc

no_Ok : (p : ℕ) (fault : DistFault) → port_answer p ≡ Err fault → ⊥
no_Ok p fault e = cc

picked_may : (gives : ℕ → ℕ → ℕ → Type 0) (conv : ℕ) (ports : List ℕ) (port : ℕ) → PicksPort gives conv ports (Ok port) → is_among ports port ≡ true
picked_may gives conv ports port h = grind (arith, nat_tests, no_Ok, same_Ok, among)

pub assigned_may : (gives : ℕ → ℕ → ℕ → Type 0) (conv : ℕ) (ports : List ℕ) (s : Assignment) (port : ℕ)
    → Assigns gives conv ports s (Ok port) → MaySend ports s port
assigned_may gives conv ports s port h = grind (arith, nat_tests, picked_may, same_Ok, no_Ok)
