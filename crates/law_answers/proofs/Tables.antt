-- Tables of conversations that stand so to another: one conversation changed, each changed alike, each by what its aggregator says.
use Rattle.std.proofs.Common.{List, None, [], ap, arith, cond, eq-eqb, eqb, eqb-true, get_or, inl, inr, ltb, map, refl, suc, sym, zero}
use Rattle.std.proofs.Common.{ℕ, ◌&&◌, ◌+◌, ◌-◌, ◌/◌, ◌<◌, ◌∙◌, ◌∷◌, ◌≡◌}
use Rattle.std.proofs.lemmas.Bool.{and_from, and_parts, cases_Bool, cond-false, cond-true, false≢true, ltb-true}
use Rattle.std.proofs.lemmas.Nat.{div-mul-add, same_from_place}
use Rattle.distributor.specs.declared.assignment.Assignment.{Assignment}
use Rattle.distributor.specs.declared.assignment.Assignment.TheVariants.{Free}
use Rattle.distributor.specs.Changes.{ChangesAssignments, SetsAssignment}
use Rattle.distributor.specs.Conversations.{Table, assignment_of, slot_index}
use Rattle.distributor.proofs.TableLemmas.{map_at, stated, stated_in}

-- the list with this state at a place; where it is shorter, free ones stand before it
abbrev put : ℕ → Assignment → List Assignment → List Assignment
put zero s [] = s ∷ []
put zero s (x ∷ xs) = s ∷ xs
put (suc n) s [] = Free None ∷ put n s []
put (suc n) s (x ∷ xs) = x ∷ put n s xs

put_there : (n : ℕ) (s : Assignment) (xs : List Assignment) → get_or (put n s xs) n (Free None) ≡ s
put_there zero s [] = refl
put_there zero s (x ∷ xs) = refl
put_there (suc n) s [] = put_there n s []
put_there (suc n) s (x ∷ xs) = put_there n s xs

put_other : (n m : ℕ) (s : Assignment) (xs : List Assignment) → (m ≡ n → ⊥) → get_or (put n s xs) m (Free None) ≡ get_or xs m (Free None)
put_other zero zero s xs apart = absurd (apart refl)
put_other zero (suc m) s [] apart = refl
put_other zero (suc m) s (x ∷ xs) apart = refl
put_other (suc n) zero s [] apart = refl
put_other (suc n) zero s (x ∷ xs) apart = refl
put_other (suc n) (suc m) s [] apart = put_other n m s [] (λ e. apart (ap suc e))
put_other (suc n) (suc m) s (x ∷ xs) apart = put_other n m s xs (λ e. apart (ap suc e))

put_at : (w : ℕ) (xs : List Assignment) (agg conv : ℕ) (s : Assignment) → 0 < agg → conv < w → (a c : ℕ)
    → stated w (put (slot_index w agg conv) s xs) a c ≡ cond (eqb agg a && eqb conv c) s (stated w xs a c)
put_at w xs agg conv s p l a c = elim (cases_Bool (eqb agg a && eqb conv c)) [
  | inl t ↦ (let both = and_parts (eqb agg a) (eqb conv c) t in
      let here : slot_index w a c ≡ slot_index w agg conv =
      ap (λ n. slot_index w n c) (sym (eqb-true agg a both.0)) ∙ ap (slot_index w agg) (sym (eqb-true conv c both.1)) in
      stated_in w _ a c (omega (arith, eqb-true agg a both.0)) (omega (arith, eqb-true conv c both.1))
      ∙ ap (λ n. get_or (put (slot_index w agg conv) s xs) n (Free None)) here ∙ put_there (slot_index w agg conv) s xs
      ∙ sym (cond-true (eqb agg a && eqb conv c) s (stated w xs a c) t))
  | inr f ↦ elim (cases_Bool (ltb 0 a && ltb c w)) [
    | inl e ↦ (let in_range = and_parts (ltb 0 a) (ltb c w) e in
        let pos = ltb-true 0 a in_range.0 in
        let below = ltb-true c w in_range.1 in
        let apart : slot_index w a c ≡ slot_index w agg conv → ⊥ = λ same. (
        let one = same_from_place (a - 1) c (agg - 1) conv w below l same in
        false≢true (sym f ∙ and_from _ _ (eq-eqb agg a (omega (arith, p, pos, one.0))) (eq-eqb conv c (sym one.1)))) in
        stated_in w _ a c pos below ∙ put_other (slot_index w agg conv) (slot_index w a c) s xs apart
        ∙ sym (stated_in w xs a c pos below) ∙ sym (cond-false (eqb agg a && eqb conv c) s (stated w xs a c) f))
    | inr g ↦ (cond-false (ltb 0 a && ltb c w) _ _ g ∙ sym (cond-false (ltb 0 a && ltb c w) _ _ g)
        ∙ sym (cond-false (eqb agg a && eqb conv c) s (stated w xs a c) f))
  ]
]

-- one conversation gets a state
pub gives_state : (t : Table) (agg conv : ℕ) (s : Assignment) → 0 < agg → conv < t.conversations → (u : Table) × SetsAssignment t u agg conv s
gives_state t agg conv s p l = (
  record t { states = put (slot_index t.conversations agg conv) s t.states },
  record {
    aggs = refl;
    conversations = refl;
    first = refl;
    next = refl;
    states = put_at t.conversations t.states agg conv s p l;
  },
)

mapped : (w : ℕ) (xs : List Assignment) (f : Assignment → Assignment) → f (Free None) ≡ Free None → (a c : ℕ) → stated w (map f xs) a c ≡ f (stated w xs a c)
mapped w xs f free a c = elim (cases_Bool (ltb 0 a && ltb c w)) [
  | inl e ↦ (cond-true (ltb 0 a && ltb c w) _ _ e ∙ map_at f free xs (slot_index w a c) ∙ ap f (sym (cond-true (ltb 0 a && ltb c w) _ _ e)))
  | inr e ↦ (cond-false (ltb 0 a && ltb c w) _ _ e ∙ sym free ∙ ap f (sym (cond-false (ltb 0 a && ltb c w) _ _ e)))
]

-- each changes alike
pub changes_all : (t : Table) (f : Assignment → Assignment) → f (Free None) ≡ Free None → (u : Table) × ChangesAssignments t u f
changes_all t f free = (
  record t { states = map f t.states },
  record {
    aggs = refl;
    conversations = refl;
    first = refl;
    next = refl;
    states = mapped t.conversations t.states f free;
  },
)

-- each by what its place says
abbrev by_place : (ℕ → Assignment → Assignment) → ℕ → List Assignment → List Assignment
by_place f i [] = []
by_place f i (x ∷ xs) = f i x ∷ by_place f (suc i) xs

at_place : (f : ℕ → Assignment → Assignment) → ((i : ℕ) → f i (Free None) ≡ Free None) → (i : ℕ) (xs : List Assignment) (k : ℕ)
    → get_or (by_place f i xs) k (Free None) ≡ f (i + k) (get_or xs k (Free None))
at_place f free i [] k = sym (free (i + k))
at_place f free i (x ∷ xs) zero = ap (λ n. f n x) (omega arith)
at_place f free i (x ∷ xs) (suc k) = at_place f free (suc i) xs k ∙ ap (λ n. f n (get_or xs k (Free None))) (omega arith)

-- the aggregator whose conversation stands at a place
abbrev owner : ℕ → ℕ → ℕ
owner w place = place / w + 1

owned : (w agg conv : ℕ) → 0 < agg → conv < w → owner w (slot_index w agg conv) ≡ agg
owned w agg conv p l = let quotient = div-mul-add (agg - 1) w conv l in omega (arith, quotient, p)

placed : (w : ℕ) (xs : List Assignment) (f : ℕ → Assignment → Assignment) → ((g : ℕ) → f g (Free None) ≡ Free None) → (a c : ℕ)
    → stated w (by_place (λ i. f (owner w i)) 0 xs) a c ≡ f a (stated w xs a c)
placed w xs f free a c = elim (cases_Bool (ltb 0 a && ltb c w)) [
  | inl e ↦ (let in_range = and_parts (ltb 0 a) (ltb c w) e in
      let here : owner w (0 + slot_index w a c) ≡ a =
      ap (owner w) (omega arith) ∙ owned w a c (ltb-true 0 a in_range.0) (ltb-true c w in_range.1) in
      cond-true (ltb 0 a && ltb c w) _ _ e ∙ at_place (λ i. f (owner w i)) (λ i. free (owner w i)) 0 xs (slot_index w a c)
      ∙ ap (λ g. f g (get_or xs (slot_index w a c) (Free None))) here ∙ ap (f a) (sym (cond-true (ltb 0 a && ltb c w) _ _ e)))
  | inr e ↦ (cond-false (ltb 0 a && ltb c w) _ _ e ∙ sym (free a) ∙ ap (f a) (sym (cond-false (ltb 0 a && ltb c w) _ _ e)))
]

-- the states of a table in which each conversation changes by what its aggregator says
pub changes_each : (t : Table) (f : ℕ → Assignment → Assignment) → ((g : ℕ) → f g (Free None) ≡ Free None)
    → (states : List Assignment) × ((g k : ℕ) → assignment_of (record t { states = states }) g k ≡ f g (assignment_of t g k))
changes_each t f free = (by_place (λ i. f (owner t.conversations i)) 0 t.states, placed t.conversations t.states f free)
