-- The states of the conversations, by their indices in the list.
use Rattle.distributor.proofs.Common.{Bool, List, None, ap, arith, cond, eq-eqb, eqb, eqb-true, get_or, inl, inr, length, ltb, map, set, sym, ℕ, ◌&&◌}
use Rattle.distributor.proofs.Common.{◌*◌, ◌+◌, ◌-◌, ◌<◌, ◌∙◌, ◌≡◌, ◌≤◌, and_from, and_parts, cases_Bool, cond-false, cond-true, false≢true, lt-ltb}
use Rattle.distributor.proofs.Common.{ltb-true, get_or-map, get_or-replicate, get_or-set_other, get_or-set_same, get_or_past, length-map}
use Rattle.distributor.proofs.Common.{length-replicate, same_from_place, Assignment, Free, slot_state, Table, assignment_of, count_conversations}
use Rattle.distributor.proofs.Common.{first_table, slot_index, sum_below}
use Rattle.distributor.proofs.FoldLemmas.{IsFold, fold_rows, fold_same, sum_fold}
use Rattle.distributor.proofs.WalkLemmas.{bit}

-- the state at a place, if the numbers are in range and each aggregator has w conversations
abbrev pub stated : ℕ → List Assignment → ℕ → ℕ → Assignment
stated w states agg conv = cond (ltb 0 agg && ltb conv w) (get_or states (slot_index w agg conv) (Free None)) (Free None)

pub stated_in : (w : ℕ) (states : List Assignment) (agg conv : ℕ) → 0 < agg → conv < w → stated w states agg conv ≡ slot_state states (slot_index w agg conv)
stated_in w states agg conv p l = cond-true (ltb 0 agg && ltb conv w) _ _ (and_from _ _ (lt-ltb 0 agg p) (lt-ltb conv w l))

-- a state that is given to one conversation is given to no other
pub set_at : (w : ℕ) (states : List Assignment) (agg conv : ℕ) (s : Assignment) → 0 < agg → conv < w → slot_index w agg conv < length states
    → (a c : ℕ) → stated w (set states (slot_index w agg conv) s) a c ≡ cond (eqb agg a && eqb conv c) s (stated w states a c)
set_at w states agg conv s p l inside a c = elim (cases_Bool (eqb agg a && eqb conv c)) [
  | inl t ↦ (let both = and_parts (eqb agg a) (eqb conv c) t in
      let here : slot_index w a c ≡ slot_index w agg conv =
      ap (λ n. slot_index w n c) (sym (eqb-true agg a both.0)) ∙ ap (slot_index w agg) (sym (eqb-true conv c both.1)) in
      stated_in w _ a c (omega (arith, eqb-true agg a both.0)) (omega (arith, eqb-true conv c both.1))
      ∙ ap (slot_state (set states (slot_index w agg conv) s)) here ∙ get_or-set_same states (slot_index w agg conv) s (Free None) inside
      ∙ sym (cond-true (eqb agg a && eqb conv c) s (stated w states a c) t))
  | inr f ↦ elim (cases_Bool (ltb 0 a && ltb c w)) [
    | inl e ↦ (let in_range = and_parts (ltb 0 a) (ltb c w) e in
        let pos = ltb-true 0 a in_range.0 in
        let below = ltb-true c w in_range.1 in
        let apart : slot_index w a c ≡ slot_index w agg conv → ⊥ = λ same. (
        let one = same_from_place (a - 1) c (agg - 1) conv w below l same in
        false≢true (sym f ∙ and_from _ _ (eq-eqb agg a (omega (arith, p, pos, one.0))) (eq-eqb conv c (sym one.1)))) in
        stated_in w _ a c pos below ∙ get_or-set_other states (slot_index w agg conv) (slot_index w a c) s (Free None) apart
        ∙ sym (stated_in w states a c pos below) ∙ sym (cond-false (eqb agg a && eqb conv c) s (stated w states a c) f))
    | inr g ↦ (cond-false (ltb 0 a && ltb c w) _ _ g ∙ sym (cond-false (ltb 0 a && ltb c w) _ _ g)
        ∙ sym (cond-false (eqb agg a && eqb conv c) s (stated w states a c) f))
  ]
]

-- the state at a place, if every state is changed alike
pub map_at : (f : Assignment → Assignment) → f (Free None) ≡ Free None → (states : List Assignment) (k : ℕ)
    → get_or (map f states) k (Free None) ≡ f (get_or states k (Free None))
map_at f keeps states k = grind (arith, get_or-map, length-map, get_or_past)

-- at the start every conversation is free
pub first_free : (aggs w first agg conv : ℕ) → assignment_of (first_table aggs w first) agg conv ≡ Free None
first_free aggs w first agg conv = grind (arith, get_or-replicate, length-replicate, get_or_past)

-- a state at a place is that of a conversation
place_state : (t : Table) (a c : ℕ) → c < t.conversations → slot_state t.states (a * t.conversations + c) ≡ assignment_of t (a + 1) c
place_state t a c m = grind arith

-- the values over aggregators and numbers are, put together, those over the places
pub fold_places : {X : Type 0} {join : X → X → X} {unit : X} {fold : (ℕ → X) → ℕ → X} (h : IsFold join unit fold) (g : Assignment → X)
    (t : Table) {count : ℕ} {u : Table} → count ≡ t.aggs * t.conversations → t ≡ u → fold (λ k. g (slot_state t.states k)) count
    ≡ fold (λ a. fold (λ c. g (assignment_of u (a + 1) c)) u.conversations) u.aggs
fold_places {fold} h g t e v =
    ap (fold (λ k. g (slot_state t.states k))) e ∙ sym (fold_rows h (λ k. g (slot_state t.states k)) t.conversations t.aggs)
    ∙ fold_same h _ _ t.aggs (λ a l. fold_same h _ _ t.conversations (λ c m. ap g (place_state t a c m)))
    ∙ ap (λ u. fold (λ a. fold (λ c. g (assignment_of u (a + 1) c)) u.conversations) u.aggs) v

-- the count over aggregators and numbers is that over the places
pub counted_places : (passes : Assignment → Bool) (t : Table) {count : ℕ} {u : Table} → count ≡ t.aggs * t.conversations → t ≡ u
    → sum_below (λ k. bit (passes (slot_state t.states k))) count ≡ count_conversations passes u
counted_places passes = fold_places sum_fold (λ s. bit (passes s))
