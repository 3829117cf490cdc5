-- Tables and arrays of a document, from the maps and vectors that hold them.
use Rattle.lagscript.proofs.Common.{Bor, Global, List, None, Option, Some, String, [], ap, ap₂, bytes_eq, length, map, option_and_then, option_map}
use Rattle.lagscript.proofs.Common.{refl, string_bytes, ℕ, ◌&&◌, ◌||◌, ◌∷◌, ◌≡◌, items_view, members_view, view, each_in, integer_in, just_two}
use Rattle.lagscript.proofs.Common.{keys_among}
use Rattle.std.specs.List.{list_all, list_any}
use Rattle.toml.specs.declared.value.Value.{Value}

-- a test of what the references point to
any_of : (k : List ℕ) (known : List (Bor (List ℕ))) → list_any (λ name. bytes_eq name.now k) known ≡ list_any (λ name. bytes_eq name k) (map (λ n. n.now) known)
any_of k [] = refl
any_of k (n ∷ ns) = ap (λ b. bytes_eq n.now k || b) (any_of k ns)

-- the keys of a map are those of its members
pub among : (known : List (Bor (List ℕ))) (es : List (String Global × Value))
    → list_all (λ k. list_any (λ name. bytes_eq name.now (string_bytes k)) known) (map (λ e. e.0) es) ≡ keys_among (map (λ n. n.now) known) (members_view es)
among known [] = refl
among known (e ∷ es) = ap₂ (λ a b. a && b) (any_of (string_bytes e.0) known) (among known es)

-- other arrays than those of two have no two ends
pub not_two : (vs : List Value) → (length vs ≡ 2 → ⊥) → just_two (each_in (integer_in 65536) (items_view vs)) ≡ None
not_two [] h = refl
not_two (a ∷ []) h = go (integer_in 65536 (view a))
  where
    go : (o : Option ℕ) → just_two (option_and_then (λ x. option_map (λ xs. x ∷ xs) (Some [])) o) ≡ None
    go None = refl
    go (Some x) = refl
not_two (a ∷ b ∷ []) h = absurd (h refl)
not_two (a ∷ b ∷ c ∷ vs) h =
    go (integer_in 65536 (view a)) (integer_in 65536 (view b)) (integer_in 65536 (view c)) (each_in (integer_in 65536) (items_view vs))
  where
    next : Option ℕ → Option (List ℕ) → Option (List ℕ)
    next o r = option_and_then (λ x. option_map (λ xs. x ∷ xs) r) o

    go : (o p q : Option ℕ) (r : Option (List ℕ)) → just_two (next o (next p (next q r))) ≡ None
    go None p q r = refl
    go (Some x) None q r = refl
    go (Some x) (Some y) None r = refl
    go (Some x) (Some y) (Some z) None = refl
    go (Some x) (Some y) (Some z) (Some zs) = refl
