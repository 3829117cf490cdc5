-- What is put on a cable, in code and as contracts see it.
use Rattle.lagworld.proofs.Common.{Bool, IsSomeAnd, List, None, OnOk, Result, Some, [], ap, arith, cond, false, get_or, length, map, nat_lt, not}
use Rattle.lagworld.proofs.Common.{position, refl, set, slice_get, suc, sym, zero, ℕ, ◌+◌, ◌<◌, ◌∙◌, ◌∷◌, ◌≡◌, ◌≤◌, true≢false, length-map, map-set}
use Rattle.lagworld.proofs.Common.{set-get_or, position_or_len, IfSome, Side, ItemValue, LinkState, accepts, is_accepted, link_index, put_on_port}
use Rattle.lagworld.proofs.Common.{sent_on}
use Rattle.lagworld.proofs.LineLemmas.{seen_at}

first_seen : {X Y : Type 0} (f : X → Y) (q : Y → Bool) (xs : List X) → position_or_len q (map f xs) ≡ position_or_len (λ x. q (f x)) xs
first_seen f q [] = refl
first_seen f q (x ∷ xs) = ap (λ n. cond (not (q (f x))) (1 + n) 0) (first_seen f q xs)

-- a place that is found in a view of a list
pub place_seen : {X Y : Type 0} (f : X → Y) (q : Y → Bool) (xs : List X) → position q (map f xs) ≡ position (λ x. q (f x)) xs
place_seen f q xs = grind (arith, nat_lt, map, first_seen, position_or_len, length-map)

-- the port has no cable
pub put_nowhere : (s : Side) (p : ℕ) (item : ItemValue) (links : List LinkState) → link_index s p links ≡ None
    → (put_on_port s p item links ≡ links) × (is_accepted s p links ≡ false)
put_nowhere s p item links e = grind arith

-- its cable was sent the item
pub put_there : (s : Side) (p : ℕ) (item : ItemValue) (links new : List LinkState) (kept : Bool) (i : ℕ) → link_index s p links ≡ Some i
    → IsSomeAnd (slice_get links i) (λ l. (new ≡ set links i (sent_on s item l)) × (kept ≡ accepts s l))
    → (new ≡ put_on_port s p item links) × (kept ≡ is_accepted s p links)
put_there s p item links new kept i e h = grind arith

-- the cable at a place was sent the item
pub sent_at : {X Y : Type 0} (f : X → Y) (h : Y → Y) (t : Y → Bool) (xs : List X) (i : ℕ) (x new : X) (kept : Bool) → i < length xs → x ≡ get_or xs i x
    → f new ≡ h (f x) → kept ≡ t (f x) → IsSomeAnd (slice_get (map f xs) i) (λ y. (map f (set xs i new) ≡ set (map f xs) i (h y)) × (kept ≡ t y))
sent_at f h t xs i x new kept lt read e k = seen_at f _ xs i x lt read (map-set f xs i new ∙ ap (set (map f xs) i) e, k)

-- a write that is not seen
pub same_at : {X Y : Type 0} (f : X → Y) (xs : List X) (i : ℕ) (x new : X) → x ≡ get_or xs i x → f new ≡ f x → map f (set xs i new) ≡ map f xs
same_at f xs i x new read e =
    map-set f xs i new ∙ ap (set (map f xs) i) e ∙ sym (map-set f xs i x) ∙ ap (map f) (ap (set xs i) read ∙ set-get_or xs i x)

-- what is written is there
pub written_there : {X : Type 0} (P : X → Type 0) (xs : List X) (i : ℕ) (x : X) → P x → IfSome (slice_get (set xs i x) i) P
written_there P [] i x h = tt
written_there P (z ∷ xs) zero x h = h
written_there P (z ∷ xs) (suc i) x h = written_there P xs i x h

pub ok_weaker : {T E A B : Type 0} (r : Result T E) → (A → B) → OnOk r A → OnOk r B
ok_weaker r f h = grind arith

-- what is written leaves what is before it
pub before_written : {X : Type 0} (P : X → Type 0) (xs : List X) (i k : ℕ) (x : X) → k < i → IfSome (slice_get xs k) P → IfSome (slice_get (set xs i x) k) P
before_written P [] i k x lt h = h
before_written P (z ∷ xs) zero k x lt h = absurd (omega (arith, lt))
before_written P (z ∷ xs) (suc i) zero x lt h = h
before_written P (z ∷ xs) (suc i) (suc k) x lt h = before_written P xs i k x (omega (arith, lt)) h

-- one more
pub one_more_below : (P : ℕ → Type 0) (n : ℕ) → ((i : ℕ) → i < n → P i) → P n → (i : ℕ) → i < n + 1 → P i
one_more_below P n h here i lt = grind arith

-- all of a list
pub each_of : {X : Type 0} (P : X → Type 0) (xs : List X) (n : ℕ) → length xs ≤ n → ((i : ℕ) → i < n → IfSome (slice_get xs i) P) → (i : ℕ)
    → IfSome (slice_get xs i) P
each_of P [] n le h i = tt
each_of P (x ∷ xs) n le h zero = h zero (omega (arith, le))
each_of P (x ∷ xs) zero le h (suc i) = absurd (omega (arith, le))
each_of P (x ∷ xs) (suc n) le h (suc i) = each_of P xs n (omega (arith, le)) (λ k lt. h (suc k) (omega (arith, lt))) i
