-- What one collector got is a part of what all got.
use Rattle.lagnetwork.proofs.Common.{List, Option, Some, [], eqb, inl, inr, subst, ℕ, ◌++◌, ◌∷◌, ◌≡◌, ◌⊎◌, and_parts, cases_Bool, IsSubsequence}
use Rattle.lagnetwork.proofs.Common.{at_two, cond_false, cond_true, Network, Place, at_place, at_system, handed_up_from, recabled_all}
use Rattle.lagnetwork.proofs.Common.{EachCollectorInOrder, IsNetworkInvariant}
use native.Mathlib.Omega.{arith}
use Rattle.lagnetwork.proofs.NetworkEvents.{all_fine}
use Rattle.lagnetwork.proofs.NetworkLaws.{in_order_each}
use Rattle.lagnetwork.proofs.NetworkRuns.{always}
use Rattle.lagmodel.proofs.Subsequence.{both_grow, grows}

part_of : (xs ys zs : List ℕ) → IsSubsequence xs ys → IsSubsequence ys zs → IsSubsequence xs zs
part_of [] ys zs h k = tt
part_of (x ∷ xs) [] zs h k = absurd h
part_of (x ∷ xs) (y ∷ ys) [] h k = absurd k
part_of (x ∷ xs) (y ∷ ys) (z ∷ zs) h k = elim k [
  | inl here ↦ elim h [
    | inl first ↦ inl (subst (λ z. x ≡ z) here.0 first.0, part_of xs ys zs first.1 here.1)
    | inr later ↦ inr (part_of (x ∷ xs) ys zs later here.1)
  ]
  | inr later ↦ inr (part_of (x ∷ xs) (y ∷ ys) zs h later)
]

-- each collector's part
abbrev pub Parts : Network → Type 0
Parts w = (t h s g k : ℕ) → IsSubsequence (w.arrived t h s g k) (w.collected s g k)

-- one conversation of one system, in a table of all, gets one serial more
abbrev with_one : (ℕ → ℕ → ℕ → List ℕ) → ℕ → ℕ → ℕ → ℕ → ℕ → ℕ → ℕ → List ℕ
with_one f a g k n = at_system f a (at_two (f a) g k (f a g k ++ n ∷ []))

grew : (f : ℕ → ℕ → ℕ → List ℕ) (a g k n s j l : ℕ)
    → (((s ≡ a) × (j ≡ g) × (l ≡ k)) × (with_one f a g k n s j l ≡ f s j l ++ n ∷ []))
    ⊎ (((s ≡ a) × (j ≡ g) × (l ≡ k) → ⊥) × (with_one f a g k n s j l ≡ f s j l))
grew f a g k n s j l = grind arith

handed : (t : ℕ) (o : Option Place) (up : Option ℕ) (g k n : ℕ) (w : Network) → Parts w → Parts (handed_up_from t o up g k n w)
handed t o up g k n w i = grind (arith, cases_Bool, eqb, and_parts, at_place, with_one, cond_true, grew, both_grow, cond_false, grows)

each_part : IsNetworkInvariant (λ x w. Parts w)
each_part = always (λ x w. Parts w) (record {
  moves = λ x s call stamp m w a h. h;
  apart = λ x w whole towards count forced h. h;
  handed = λ x t a b. handed t (Some a) (Some b);
  viewed = λ x s v w e h. h;
  succeeded = λ x s setup after w h. h;
  pulled = λ x s p w is h. h;
  plugged = λ x f s p t q w is none free h. h;
}) (λ x t h s g k. tt)

pub each_in_order : IsNetworkInvariant (λ x w. EachCollectorInOrder w)
each_in_order x events w f r t h s g k u =
    part_of (w.arrived t h s g k) (w.collected s g k) (w.sent s g k) (each_part x events w f r t h s g k)
    (in_order_each (recabled_all x events) w (all_fine x events w f r).1 s g k u)
