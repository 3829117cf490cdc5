-- The counts of times give their median.
use Rattle.lagtool_capture.proofs.Common.{Bool, List, None, Option, Some, [], ap, arith, cond, eqb, eqb-true, false, get_or, inl, inr, leb, length}
use Rattle.lagtool_capture.proofs.Common.{refl, replicate, set, subst, suc, sym, true, zero, ℕ, ◌*◌, ◌+◌, ◌-◌, ◌/◌, ◌<◌, ◌^◌, ◌∙◌, ◌∷◌, ◌≡◌, ◌≤◌}
use Rattle.lagtool_capture.proofs.Common.{eqb-false, le-leb, leb-false, leb-true, lt-leb, one_more, IsMedianOf, count_up_to, gaps_of, tenths_of}
use Rattle.lagtool_capture.proofs.Common.{tenths_up_to}
use Rattle.lagtool_capture.specs.Gaps.{gaps_with, median, most_tenths, no_gaps}
use Rattle.lagtool_capture.specs.declared.gaps.Gaps.{Gaps}
use Rattle.std.proofs.Math.Nat.{min-eq_left, min-le_right}
use Rattle.std.proofs.lemmas.Bool.Decides.{leb_tells}
use Rattle.std.proofs.lemmas.List.Sums.{count_by-le-length, sum_by-cons}

-- the sum of the first counts
below : ℕ → List ℕ → ℕ
below zero cs = 0
below (suc n) [] = 0
below (suc n) (c ∷ cs) = c + below n cs

abbrev bumped : List ℕ → ℕ → List ℕ
bumped cs k = set cs k (get_or cs k 0 + 1)

below-in : (cs : List ℕ) (k n : ℕ) → k < length cs → k < n → below n (bumped cs k) ≡ below n cs + 1
unfolding below
below-in [] k n i j = absurd (omega (arith, i))
below-in (c ∷ cs) k zero i j = absurd (omega (arith, j))
below-in (c ∷ cs) zero (suc n) i j = omega arith
below-in (c ∷ cs) (suc k) (suc n) i j = let h = below-in cs k n (omega (arith, i)) (omega (arith, j)) in omega (arith, h)

below-out : (cs : List ℕ) (k n : ℕ) → n ≤ k → below n (bumped cs k) ≡ below n cs
unfolding below
below-out cs k zero j = refl
below-out [] k (suc n) j = refl
below-out (c ∷ cs) zero (suc n) j = absurd (omega (arith, j))
below-out (c ∷ cs) (suc k) (suc n) j = let h = below-out cs k n (omega (arith, j)) in omega (arith, h)

count-below : (cs : List ℕ) (k n : ℕ) → k < n → get_or cs k 0 ≤ below n cs
unfolding below
count-below [] k n j = omega arith
count-below (c ∷ cs) k zero j = absurd (omega (arith, j))
count-below (c ∷ cs) zero (suc n) j = omega arith
count-below (c ∷ cs) (suc k) (suc n) j = let h = count-below cs k n (omega (arith, j)) in omega (arith, h)

below-zeros : (m n : ℕ) → below n (replicate m 0) ≡ 0
unfolding below
below-zeros m zero = refl
below-zeros zero (suc n) = refl
below-zeros (suc m) (suc n) = let h = below-zeros m n in omega (arith, h)

below-none : (n : ℕ) → below n [] ≡ 0
unfolding below
below-none zero = refl
below-none (suc n) = refl

-- what the counts of times have
record Kept (gaps : List ℕ) (g : Gaps) : Type 0 where
  known : g.known ≡ length gaps
  long : length g.counts ≡ 1001
  counts : (n : ℕ) → below (suc n) g.counts ≡ count_up_to n gaps

one_more-small : (n : ℕ) → n + 1 < 2 ^ 64 → one_more n ≡ n + 1
one_more-small n lt = min-eq_left (omega (arith, lt))

length-set : (cs : List ℕ) (k c : ℕ) → length (set cs k c) ≡ length cs
length-set [] k c = refl
length-set (x ∷ cs) zero c = refl
length-set (x ∷ cs) (suc k) c = let h = length-set cs k c in omega (arith, h)

up-in : (gap n : ℕ) (gaps : List ℕ) → tenths_of gap ≤ n → count_up_to n (gap ∷ gaps) ≡ count_up_to n gaps + 1
up-in gap n gaps le = let x = sum_by-cons (λ g. cond (leb (tenths_of g) n) 1 0) gap gaps in
    let y : ◌≡◌ {A = ℕ} (cond (leb (tenths_of gap) n) 1 0) 1 = ap (λ b. cond b 1 0) (le-leb (tenths_of gap) n le) in
    omega (arith, x, y)

up-out : (gap n : ℕ) (gaps : List ℕ) → n < tenths_of gap → count_up_to n (gap ∷ gaps) ≡ count_up_to n gaps
up-out gap n gaps lt = let x = sum_by-cons (λ g. cond (leb (tenths_of g) n) 1 0) gap gaps in
    let y : ◌≡◌ {A = ℕ} (cond (leb (tenths_of gap) n) 1 0) 0 = ap (λ b. cond b 1 0) (lt-leb (tenths_of gap) n lt) in
    omega (arith, x, y)

most : (gap : ℕ) → tenths_of gap ≤ 1000
unfolding most_tenths
most gap = min-le_right (gap / 100000000) 1000

-- no time has more
up-all : (gaps : List ℕ) → count_up_to 1000 gaps ≡ length gaps
up-all [] = refl
up-all (gap ∷ gaps) = let x = up-in gap 1000 gaps (most gap) in let h = up-all gaps in omega (arith, x, h)

kept-none : Kept [] no_gaps
unfolding no_gaps
kept-none = record { known = refl; long = refl; counts = λ n. below-zeros 1001 (suc n) }

kept-more : (gap : ℕ) (gaps : List ℕ) (g : Gaps) → length gaps + 1 < 2 ^ 64 → Kept gaps g → Kept (gap ∷ gaps) (gaps_with (Some gap) g)
unfolding gaps_with
kept-more gap gaps g lt h = let k = tenths_of gap in
    let le = most gap in
    let inside : k < length g.counts = omega (arith, le, h.long) in
    let fits : get_or g.counts k 0 + 1 < 2 ^ 64 =
    (let b = count-below g.counts k (suc k) (omega arith) in let u = count_by-le-length (λ x. leb (tenths_of x) k) gaps in
    let e = h.counts k in omega (arith, b, u, e, lt)) in
    let same : one_more (get_or g.counts k 0) ≡ get_or g.counts k 0 + 1 = one_more-small (get_or g.counts k 0) fits in
    record {
      known = let e = h.known in one_more-small g.known (omega (arith, e, lt)) ∙ omega (arith, e);
      long = length-set g.counts k (one_more (get_or g.counts k 0)) ∙ h.long;
      counts = λ n. ap (λ c. below (suc n) (set g.counts k c)) same ∙ elim (leb_tells k n) [
        | inl t ↦ below-in g.counts k (suc n) inside (let l = t.1 in omega (arith, l)) ∙ (let e = h.counts n in let u = up-in gap n gaps t.1 in omega (arith, e, u))
        | inr f ↦ below-out g.counts k (suc n) (let l = f.1 in omega (arith, l)) ∙ (let e = h.counts n in let u = up-out gap n gaps f.1 in omega (arith, e, u))
      ];
    }

kept : (gaps : List ℕ) → length gaps < 2 ^ 64 → Kept gaps (gaps_of gaps)
kept [] lt = kept-none
kept (gap ∷ gaps) lt = kept-more gap gaps (gaps_of gaps) (omega (arith, lt)) (kept gaps (omega (arith, lt)))

-- where the sum of the first counts reaches a number
record Reaches (from wanted : ℕ) (cs : List ℕ) (at : ℕ) : Type 0 where
  steps : ℕ
  is : at ≡ from + steps
  less : (m : ℕ) → m ≤ steps → below m cs < wanted
  enough : wanted ≤ below (suc steps) cs

Finds : ℕ → ℕ → List ℕ → Option ℕ → Type 0
Finds from wanted cs None = (n : ℕ) → below n cs < wanted
Finds from wanted cs (Some at) = Reaches from wanted cs at

below-start : (m : ℕ) (cs : List ℕ) → m ≤ 0 → below m cs ≡ 0
unfolding below
below-start zero cs le = refl
below-start (suc m) cs le = absurd (omega (arith, le))

here : (from wanted c : ℕ) (cs : List ℕ) → 0 < wanted → wanted ≤ c → Reaches from wanted (c ∷ cs) from
unfolding below
here from wanted c cs p le = record {
  steps = 0;
  is = omega arith;
  less = λ m z. let e = below-start m (c ∷ cs) z in omega (arith, e, p);
  enough = omega (arith, le);
}

less-more : (wanted c : ℕ) (cs : List ℕ) (steps : ℕ) → c < wanted → ((m : ℕ) → m ≤ steps → below m cs < wanted - c)
    → (m : ℕ) → m ≤ suc steps → below m (c ∷ cs) < wanted
unfolding below
less-more wanted c cs steps lt h zero le = omega (arith, lt)
less-more wanted c cs steps lt h (suc m) le = let x = h m (omega (arith, le)) in omega (arith, x, lt)

none-more : (wanted c : ℕ) (cs : List ℕ) → c < wanted → ((n : ℕ) → below n cs < wanted - c) → (n : ℕ) → below n (c ∷ cs) < wanted
unfolding below
none-more wanted c cs lt h zero = omega (arith, lt)
none-more wanted c cs lt h (suc n) = let x = h n in omega (arith, x, lt)

enough-more : (wanted c n : ℕ) (cs : List ℕ) → c < wanted → wanted - c ≤ below n cs → wanted ≤ below (suc n) (c ∷ cs)
unfolding below
enough-more wanted c n cs lt h = omega (arith, lt, h)

further : (from wanted c : ℕ) (cs : List ℕ) (o : Option ℕ) → c < wanted → Finds (from + 1) (wanted - c) cs o → Finds from wanted (c ∷ cs) o
unfolding Finds
further from wanted c cs None lt h = none-more wanted c cs lt h
further from wanted c cs (Some at) lt h = record {
  steps = suc h.steps;
  is = let e = h.is in omega (arith, e);
  less = less-more wanted c cs h.steps lt h.less;
  enough = enough-more wanted c (suc h.steps) cs lt h.enough;
}

chosen : (b : Bool) (from wanted c : ℕ) (cs : List ℕ) → leb wanted c ≡ b → 0 < wanted
    → (c < wanted → Finds (from + 1) (wanted - c) cs (tenths_up_to (from + 1) (wanted - c) cs))
    → Finds from wanted (c ∷ cs) (cond b (Some from) (tenths_up_to (from + 1) (wanted - c) cs))
unfolding Finds
chosen true from wanted c cs e p rest = here from wanted c cs p (leb-true wanted c e)
chosen false from wanted c cs e p rest =
    let lt = leb-false wanted c e in further from wanted c cs (tenths_up_to (from + 1) (wanted - c) cs) lt (rest lt)

finds : (cs : List ℕ) (from wanted : ℕ) → 0 < wanted → Finds from wanted cs (tenths_up_to from wanted cs)
unfolding Finds
finds [] from wanted p = λ n. let e = below-none n in omega (arith, e, p)
finds (c ∷ cs) from wanted p =
    chosen (leb wanted c) from wanted c cs refl p (λ lt. finds cs (from + 1) (wanted - c) (omega (arith, lt)))

found : (gaps : List ℕ) (g : Gaps) (wanted : ℕ) (o : Option ℕ) → Kept gaps g → 0 < length gaps
    → wanted ≡ length gaps - length gaps / 2 → Finds 0 wanted g.counts o → IsMedianOf gaps o
unfolding Finds
found gaps g wanted None k p w h = let a = h 1001 in let b = k.counts 1000 in let c = up-all gaps in
    absurd (omega (arith, a, b, c, p, w))
found gaps g wanted (Some at) k p w h = let is : at ≡ h.steps = h.is ∙ omega arith in (
  p,
  (
    (let a = h.enough in let b = k.counts h.steps in
        subst (λ t. length gaps ≤ 2 * count_up_to t gaps) (sym is) (omega (arith, a, b, w))),
    λ fewer lt. let a = h.less (suc fewer) (omega (arith, lt, is)) in let b = k.counts fewer in omega (arith, a, b, w),
  ),
)

by_known : (b : Bool) (gaps : List ℕ) (g : Gaps) → eqb g.known 0 ≡ b → Kept gaps g
    → IsMedianOf gaps (cond b None (tenths_up_to 0 (g.known - g.known / 2) g.counts))
by_known true gaps g e k = sym k.known ∙ eqb-true g.known 0 e
by_known false gaps g e k = let n = k.known in let z = eqb-false g.known 0 e in
    let p : 0 < g.known = omega (arith, z) in
    found gaps g (g.known - g.known / 2) (tenths_up_to 0 (g.known - g.known / 2) g.counts) k (omega (arith, n, p)) (ap (λ x. x - x / 2) n)
    (finds g.counts 0 (g.known - g.known / 2) (omega (arith, p)))

-- the counts of times give their median
pub median_is : (g : Gaps) (gaps : List ℕ) → length gaps < 2 ^ 64 → g ≡ gaps_of gaps → IsMedianOf gaps (median g)
unfolding median
median_is g gaps lt e = by_known (eqb g.known 0) gaps g refl (subst (Kept gaps) (sym e) (kept gaps lt))
