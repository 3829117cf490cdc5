-- What is held on a port is forced: to the law it is one force after another.
use Rattle.laghosts.proofs.Common.{Bool, List, [], ap, arith, cond, eq-eqb, eqb, eqb-true, false, inl, inr, refl, subst, suc, sym, true, zero, ℕ}
use Rattle.laghosts.proofs.Common.{◌&&◌, ◌++◌, ◌<◌, ◌||◌, ◌∙◌, ◌∷◌, ◌≡◌, ◌≤◌, ◌⊎◌, and_parts, cases_Bool, true≢false, nat_tests, Become, Flow, Forced}
use Rattle.laghosts.proofs.Common.{Free, View, at_conversation, CountsChanges, Event, Happens, One, Run, Side, Two, World, WorldSetup, at_side}
use Rattle.laghosts.proofs.Common.{at_two, world_after_all, runs_joined, same_world}

-- the conversations that the list names
abbrev pub among : List (ℕ × ℕ) → ℕ → ℕ → Bool
among [] g k = false
among (x ∷ xs) g k = (eqb g x.0 && eqb k x.1) || among xs g k

-- those conversations are free
abbrev pub freed_view : List (ℕ × ℕ) → View → View
freed_view xs v = record v { flows = record (v.flows) { state = λ g k. cond (among xs g k) Free (v.flows.state g k) } }

-- those of system s are free, and count as forced
abbrev pub freed : Side → List (ℕ × ℕ) → World → World
freed s xs w = record w {
  view = at_side w.view s (freed_view xs (w.view s));
  forced = at_side w.forced s (λ g k. cond (among xs g k) true (w.forced s g k));
}

-- the last of them is forced last
abbrev pub forcing : Side → List (ℕ × ℕ) → List Event
forcing s [] = []
forcing s (x ∷ xs) = forcing s xs ++ Event.Force s x.0 x.1 ∷ []

itself : {X : Type 0} (f : Side → X) (s t : Side) → at_side f s (f s) t ≡ f t
itself f One One = refl
itself f One Two = refl
itself f Two One = refl
itself f Two Two = refl

once_more : {X : Type 0} (a b u : Bool) (c x : X) → cond ((a && b) || u) c x ≡ cond a (cond b c (cond u c x)) (cond u c x)
once_more true true u c x = refl
once_more true false u c x = refl
once_more false b u c x = refl

-- one more is forced
one_more : (x : WorldSetup) (s : Side) (p : ℕ × ℕ) (xs : List (ℕ × ℕ)) (w : World) → Happens x (Event.Force s p.0 p.1) (freed s xs w) (freed s (p ∷ xs) w)
one_more x s p xs w = inr ((Flow (Become p.0 p.1 Forced), true) ∷ [], (refl, tt), (w.count, counts s, same s))
  where
    after : Side → World
    after s = world_after_all x s 0 ((Flow (Become p.0 p.1 Forced), true) ∷ [])
        (record (freed s xs w) { forced = at_side (freed s xs w).forced s (at_two ((freed s xs w).forced s) p.0 p.1 true) })

    counts : (s : Side) → CountsChanges (freed s xs w) (after s) w.count
    counts One One p = inl (refl, refl)
    counts One Two p = inl (refl, refl)
    counts Two One p = inl (refl, refl)
    counts Two Two p = inl (refl, refl)

    view : (v : View) → freed_view (p ∷ xs) v ≡ record v {
      flows = record (v.flows) { state = at_conversation (λ g k. cond (among xs g k) Free (v.flows.state g k)) p.0 p.1 Free };
    }
    view v = λ i. record v { flows = record (v.flows) { state = λ g k. once_more (eqb g p.0) (eqb k p.1) (among xs g k) Free (v.flows.state g k) i } }

    views : (s t : Side) → (freed s (p ∷ xs) w).view t ≡ (after s).view t
    views One One = view (w.view One)
    views One Two = refl
    views Two One = refl
    views Two Two = view (w.view Two)

    forces : (s t : Side) (g k : ℕ) → (freed s (p ∷ xs) w).forced t g k ≡ (after s).forced t g k
    forces One One g k = once_more (eqb g p.0) (eqb k p.1) (among xs g k) true (w.forced One g k)
    forces One Two g k = refl
    forces Two One g k = refl
    forces Two Two g k = once_more (eqb g p.0) (eqb k p.1) (among xs g k) true (w.forced Two g k)

    cables : (s t : Side) (c : ℕ) → (freed s (p ∷ xs) w).on_cable t c ≡ (after s).on_cable t c
    cables One t c = ap (λ f. f c) (sym (itself w.on_cable Two t))
    cables Two t c = ap (λ f. f c) (sym (itself w.on_cable One t))

    same : (s : Side) → freed s (p ∷ xs) w ≡ record (after s) { count = w.count }
    same s = same_world _ _ (views s) (λ c. refl) (cables s) (λ t q. refl) (λ t q. ap (λ f. f q) (sym (itself w.taken s t)))
        (λ t g k. ap (λ f. f g k) (sym (itself w.sent s t))) (λ t g k. refl) (forces s)

-- none is forced
none_freed : (s : Side) (w : World) → freed s [] w ≡ w
none_freed s w = same_world _ _ (λ t. itself w.view s t) (λ c. refl) (λ t c. refl) (λ t p. refl) (λ t p. refl) (λ t g k. refl)
    (λ t g k. refl) (λ t g k. ap (λ f. f g k) (itself w.forced s t))

pub all_forced : (x : WorldSetup) (s : Side) (xs : List (ℕ × ℕ)) (w : World) → Run x (forcing s xs) w (freed s xs w)
all_forced x s [] w = none_freed s w
all_forced x s (p ∷ xs) w = runs_joined x (forcing s xs) (Event.Force s p.0 p.1 ∷ []) w (freed s xs w) (freed s (p ∷ xs) w)
    (all_forced x s xs w) (freed s (p ∷ xs) w, one_more x s p xs w, refl)

-- ---- the conversations that pass a test, of so many aggregators with so many conversations each

row_of : (ℕ → ℕ → Bool) → ℕ → ℕ → List (ℕ × ℕ)
row_of test g zero = []
row_of test g (suc k) = cond (test g k) ((g, k) ∷ row_of test g k) (row_of test g k)

pub passing : (ℕ → ℕ → Bool) → ℕ → ℕ → List (ℕ × ℕ)
passing test zero count = []
passing test (suc g) count = row_of test (suc g) count ++ passing test g count

either : (a b : Bool) → b ≡ true → (a || b) ≡ true
either true b h = refl
either false b h = h

one_of : (a b : Bool) → (a || b) ≡ true → (a ≡ true) ⊎ (b ≡ true)
one_of true b h = inl refl
one_of false b h = inr h

among_append : (xs ys : List (ℕ × ℕ)) (g k : ℕ) → among (xs ++ ys) g k ≡ (among xs g k || among ys g k)
among_append [] ys g k = refl
among_append (x ∷ xs) ys g k = ap (λ b. (eqb g x.0 && eqb k x.1) || b) (among_append xs ys g k)
    ∙ three (eqb g x.0 && eqb k x.1) (among xs g k) (among ys g k)
  where
    three : (a b c : Bool) → (a || (b || c)) ≡ ((a || b) || c)
    three true b c = refl
    three false b c = refl

first_in : (b : Bool) (x : ℕ × ℕ) (xs : List (ℕ × ℕ)) → b ≡ true → among (cond b (x ∷ xs) xs) x.0 x.1 ≡ true
first_in true x xs e = rw (eq-eqb x.0 x.0 refl, eq-eqb x.1 x.1 refl) refl
first_in false x xs e = absurd (true≢false (sym e))

later_in : (b : Bool) (x : ℕ × ℕ) (xs : List (ℕ × ℕ)) (g k : ℕ) → among xs g k ≡ true → among (cond b (x ∷ xs) xs) g k ≡ true
later_in true x xs g k h = either (eqb g x.0 && eqb k x.1) (among xs g k) h
later_in false x xs g k h = h

in_row : (test : ℕ → ℕ → Bool) (g count j : ℕ) → j < count → test g j ≡ true → among (row_of test g count) g j ≡ true
unfolding row_of
in_row test g zero j l h = absurd (omega (arith, l))
in_row test g (suc k) j l h = elim (cases_Bool (eqb j k)) [
  | inl e ↦ (let same : j ≡ k = eqb-true j k e in
      subst (λ j. among (row_of test g (suc k)) g j ≡ true) (sym same)
      (first_in (test g k) (g, k) (row_of test g k) (ap (test g) (sym same) ∙ h)))
  | inr e ↦ (let below : j < k = other j k e l in
      later_in (test g k) (g, k) (row_of test g k) g j (in_row test g k j below h))
]
  where
    other : (j k : ℕ) → eqb j k ≡ false → j < suc k → j < k
    other j k e l = grind (arith, nat_tests)

from_first : (b : Bool) (x : ℕ × ℕ) (xs : List (ℕ × ℕ)) (g k : ℕ) → among (cond b (x ∷ xs) xs) g k ≡ true
    → ((b ≡ true) × (g ≡ x.0) × (k ≡ x.1)) ⊎ (among xs g k ≡ true)
from_first true x xs g k h = elim (one_of (eqb g x.0 && eqb k x.1) (among xs g k) h) [
  | inl e ↦ (let both = and_parts (eqb g x.0) (eqb k x.1) e in inl (refl, eqb-true g x.0 both.0, eqb-true k x.1 both.1))
  | inr e ↦ inr e
]
from_first false x xs g k h = inr h

from_row : (test : ℕ → ℕ → Bool) (g count h j : ℕ) → among (row_of test g count) h j ≡ true → test h j ≡ true
unfolding row_of
from_row test g zero h j e = absurd (true≢false (sym e))
from_row test g (suc k) h j e = elim (from_first (test g k) (g, k) (row_of test g k) h j e) [
  | inl x ↦ (λ i. test (x.1 i) (x.2 i)) ∙ x.0
  | inr x ↦ from_row test g k h j x
]

in_passing : (test : ℕ → ℕ → Bool) (aggs count g k : ℕ) → 0 < g → g ≤ aggs → k < count → test g k ≡ true → among (passing test aggs count) g k ≡ true
unfolding passing
in_passing test zero count g k low high l h = absurd (omega (arith, low, high))
in_passing test (suc a) count g k low high l h = elim (cases_Bool (eqb g (suc a))) [
  | inl e ↦ (let same : g ≡ suc a = eqb-true g (suc a) e in
      among_append (row_of test (suc a) count) (passing test a count) g k
      ∙ ap (λ b. b || among (passing test a count) g k)
      (subst (λ g. among (row_of test (suc a) count) g k ≡ true) (sym same)
      (in_row test (suc a) count k l (ap (λ g. test g k) (sym same) ∙ h))))
  | inr e ↦ among_append (row_of test (suc a) count) (passing test a count) g k
      ∙ either (among (row_of test (suc a) count) g k) (among (passing test a count) g k)
      (in_passing test a count g k low (other g a e high) l h)
]
  where
    other : (g a : ℕ) → eqb g (suc a) ≡ false → g ≤ suc a → g ≤ a
    other g a e l = grind (arith, nat_tests)

from_passing : (test : ℕ → ℕ → Bool) (aggs count g k : ℕ) → among (passing test aggs count) g k ≡ true → test g k ≡ true
unfolding passing
from_passing test zero count g k e = absurd (true≢false (sym e))
from_passing test (suc a) count g k e = elim (one_of (among (row_of test (suc a) count) g k) (among (passing test a count) g k)
    (sym (among_append (row_of test (suc a) count) (passing test a count) g k) ∙ e)) [
      | inl x ↦ from_row test (suc a) count g k x
      | inr x ↦ from_passing test a count g k x
    ]

-- just those that pass are among them, if none passes outside
pub are_passing : (test : ℕ → ℕ → Bool) (aggs count : ℕ)
    → ((g k : ℕ) → test g k ≡ true → (0 < g) × (g ≤ aggs) × (k < count)) → (g k : ℕ) → among (passing test aggs count) g k ≡ test g k
are_passing test aggs count inside g k = elim (cases_Bool (test g k)) [
  | inl e ↦ (let there = inside g k e in in_passing test aggs count g k there.0 there.1 there.2 e ∙ sym e)
  | inr e ↦ elim (cases_Bool (among (passing test aggs count) g k)) [
    | inl h ↦ absurd (true≢false (sym (from_passing test aggs count g k h) ∙ e))
    | inr h ↦ h ∙ sym e
  ]
]
