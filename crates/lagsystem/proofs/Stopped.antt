-- The conversations that leave stopped ports are those on ports that distributed before the call and no longer do.
use Rattle.lagsystem.proofs.Common.{Bool, List, None, Option, Some, [], ap, arith, cond, eqb, eqb-true, false, filter, if◌then◌else◌, inl, inr}
use Rattle.lagsystem.proofs.Common.{length, map, not, refl, subst, sym, true, ℕ, ◌&&◌, ◌+◌, ◌<◌, ◌||◌, ◌∙◌, ◌∷◌, ◌≡◌, cases_Bool, false≢true}
use Rattle.lagsystem.proofs.Common.{nat_tests, AggId, Choice, CollectingDistributing, same_mux_state, has_chosen, Assignment, On, is_among}
use Rattle.lagsystem.proofs.Common.{ChangesAssignments, assignment_of, SystemPort, WereInUse, after_holding, aggregators_in_use, has_stopped, stopped}
use Rattle.lagsystem.proofs.Common.{aggregator_numbered, collecting, distributes_in, distributing, selected_aggregator, HoldsConversations}
use Rattle.lagsystem.proofs.Common.{held_unless_on, SystemState, port_numbers, with_table}
use Rattle.lagsystem.proofs.Rising.{Rises, ports_rise}

-- whether the port distributes in the aggregator
abbrev pub on : AggId → List SystemPort → ℕ → Bool
on agg system_ports p = is_among (distributing agg system_ports) p

one_more : (b : Bool) (s : SystemPort) (rest : List SystemPort) (p : ℕ)
    → is_among (map (λ (x : SystemPort). x.number) (cond b (s ∷ rest) rest)) p ≡ ((b && eqb s.number p) || is_among (map (λ (x : SystemPort). x.number) rest) p)
one_more b s rest p = grind (arith, nat_tests)

pub on_more : (agg : AggId) (s : SystemPort) (system_ports : List SystemPort) (p : ℕ)
    → on agg (s ∷ system_ports) p ≡ ((distributes_in agg s && eqb s.number p) || on agg system_ports p)
on_more agg s system_ports p = one_more (distributes_in agg s) s (filter (distributes_in agg) system_ports) p

other : (m p : ℕ) → m < p → eqb p m ≡ false
other m p h = grind (arith, nat_tests)

-- none has a number past those of the ports
pub none_on : (agg : AggId) (low : ℕ) (system_ports : List SystemPort) (p : ℕ) → Rises low (port_numbers system_ports) → p < low + 1
    → on agg system_ports p ≡ false
none_on agg low [] p r l = refl
none_on agg low (s ∷ system_ports) p r l =
    grind (arith, nat_tests, none_on agg s.number system_ports p r.1 (omega (arith, l, r.0)))

none_stopped : (low : ℕ) (before : List (Option AggId)) (system_ports : List SystemPort) (p : ℕ) → Rises low (port_numbers system_ports)
    → p < low + 1 → stopped before system_ports p ≡ false
none_stopped low [] system_ports p r l = refl
none_stopped low (was ∷ before) [] p r l = refl
none_stopped low (was ∷ before) (s ∷ system_ports) p r l =
    grind (arith, nat_tests, none_stopped s.number before system_ports p r.1 (omega (arith, l, r.0)))

-- the port was carrying in the aggregator if it distributed in it
given_agg : (agg : AggId) (c : Choice) (b : Bool) → (has_chosen agg c && b) ≡ true → (if b then selected_aggregator c else None) ≡ Some agg
given_agg agg c b h = grind (arith, nat_tests)

where_it_was : (agg : AggId) (s : SystemPort) → distributes_in agg s ≡ true → collecting s.port ≡ Some agg
where_it_was agg s h = given_agg agg s.port.choice (same_mux_state CollectingDistributing s.port.mux) h

pub from_here : (d t rest : Bool) → t ≡ true → rest ≡ false → ((d && t) || rest) ≡ true → d ≡ true
from_here d t rest h k e = grind (arith, nat_tests)

pub from_rest : (d t rest : Bool) → t ≡ false → ((d && t) || rest) ≡ rest
from_rest d t rest h = grind (arith, nat_tests)

only_here : (d t rest : Bool) → t ≡ true → rest ≡ false → ((d && t) || rest) ≡ d
only_here d t rest h k = grind (arith, nat_tests)

same_head : (m n : ℕ) (ms ns : List ℕ) → m ∷ ms ≡ n ∷ ns → (m ≡ n) × (ms ≡ ns)
same_head m n ms ns e = (cc, cc)

stopped_more : (t h : Bool) (rest : Bool) → t ≡ true → rest ≡ false → ((t && h) || rest) ≡ h
stopped_more t h rest e k = grind (arith, nat_tests)

stopped_rest : (t h rest : Bool) → t ≡ false → ((t && h) || rest) ≡ rest
stopped_rest t h rest e = grind (arith, nat_tests)

-- a port that carried a conversation stopped exactly if it no longer distributes in its aggregator
pub stops_where : (agg : AggId) (p low : ℕ) (olds news : List SystemPort) → Rises low (port_numbers olds)
    → port_numbers news ≡ port_numbers olds → on agg olds p ≡ true → stopped (aggregators_in_use olds) news p ≡ not (on agg news p)
stops_where agg p low [] news r e h = absurd (false≢true h)
stops_where agg p low (o ∷ olds) [] r e h = absurd cc
stops_where agg p low (o ∷ olds) (n ∷ news) r e h =
    let same = same_head n.number o.number (port_numbers news) (port_numbers olds) e in
    let rest = stopped (aggregators_in_use olds) news p in
    elim (cases_Bool (eqb n.number p)) [
      | inl t ↦ (let here : p ≡ o.number = sym (eqb-true n.number p t) ∙ same.0 in
          let rn : Rises n.number (port_numbers news) = subst (λ m. Rises m (port_numbers news)) (sym same.0)
          (subst (Rises o.number) (sym same.1) r.1) in
          let old_none = none_on agg o.number olds p r.1 (omega (arith, here)) in
          let new_none = none_on agg n.number news p rn (omega (arith, here, same.0)) in
          let was : distributes_in agg o ≡ true =
          from_here (distributes_in agg o) (eqb o.number p) (on agg olds p) (subst (λ m. eqb m p ≡ true) same.0 t) old_none
          (sym (on_more agg o olds p) ∙ h) in
          stopped_more (eqb n.number p) (has_stopped (collecting o.port) n) rest t
          (none_stopped n.number (aggregators_in_use olds) news p rn (omega (arith, here, same.0)))
          ∙ ap (λ w. has_stopped w n) (where_it_was agg o was)
          ∙ ap not (sym (on_more agg n news p ∙ only_here (distributes_in agg n) (eqb n.number p) (on agg news p) t new_none)))
      | inr f ↦ (let old : on agg olds p ≡ true =
          sym (from_rest (distributes_in agg o) (eqb o.number p) (on agg olds p) (subst (λ m. eqb m p ≡ false) same.0 f))
          ∙ sym (on_more agg o olds p) ∙ h in
          stopped_rest (eqb n.number p) (has_stopped (collecting o.port) n) rest f
          ∙ stops_where agg p o.number olds news r.1 same.1 old
          ∙ ap not (sym (on_more agg n news p ∙ from_rest (distributes_in agg n) (eqb n.number p) (on agg news p) f)))
    ]

-- what leaves these ports is left on the others
left_by : (ports : List ℕ) (leaves : ℕ → Bool) (a : Assignment) → ((p : ℕ) → a ≡ On p → leaves p ≡ not (is_among ports p))
    → after_holding leaves a ≡ held_unless_on ports a
left_by ports leaves a h = grind (arith, nat_tests)

-- step 6 of settling
pub leaves_made : (were : List (Option AggId)) (start mid new : SystemState) → WereInUse were start
    → port_numbers mid.system_ports ≡ port_numbers start.system_ports → mid.table ≡ start.table
    → ChangesAssignments mid.table new.table (after_holding (stopped were mid.system_ports)) → new ≡ with_table mid new.table → HoldsConversations mid new
leaves_made were start mid new w n t h e = record {
  frame = e;
  aggs = h.aggs;
  conversations = h.conversations;
  first = h.first;
  next = h.next;
  states = λ g k. (let a = assignment_of mid.table g k in
      h.states g k ∙ left_by (distributing (aggregator_numbered g) mid.system_ports) (stopped were mid.system_ports) a (λ p x.
      let before : assignment_of w.old.table g k ≡ On p = w.carried g k p (ap (λ t. assignment_of t g k) (sym t) ∙ x) in
      ap (λ l. stopped l mid.system_ports p) w.before
      ∙ stops_where (aggregator_numbered g) p 0 w.old.system_ports mid.system_ports (ports_rise w.old w.sound.ports) (n ∙ w.same)
      (w.sound.carried g k p before)));
}

carriers_many : (system_ports : List SystemPort) → length (aggregators_in_use system_ports) ≡ length (port_numbers system_ports)
carriers_many [] = refl
carriers_many (s ∷ system_ports) = omega (arith, carriers_many system_ports)

numbers_many : (system_ports : List SystemPort) → length (port_numbers system_ports) ≡ length system_ports
numbers_many [] = refl
numbers_many (s ∷ system_ports) = omega (arith, numbers_many system_ports)

pub were_many : (were : List (Option AggId)) (start mid : SystemState) → WereInUse were start
    → port_numbers mid.system_ports ≡ port_numbers start.system_ports → length were ≡ length mid.system_ports
were_many were start mid w n = grind (arith, nat_tests, carriers_many, numbers_many)
