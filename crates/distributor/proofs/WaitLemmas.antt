-- The soonest of many numbers of ticks, and a walk along a chain in search of it.
use Rattle.distributor.proofs.Common.{Bool, List, None, Option, Some, ap, arith, cond, eq-eqb, false, get_or, refl, subst, suc, sym, true, zero, ℕ}
use Rattle.distributor.proofs.Common.{⊎_elim, ◌+◌, ◌<◌, ◌∙◌, ◌≡◌, cases_eq, false≢true, mod_below, IfSome, Assignment, Flushing, IsChained, IsFlagged}
use Rattle.distributor.proofs.Common.{chain_of, is_in_chain, occurs, slot_state, is_by, sooner, ticks_until_wanted}
use Rattle.distributor.specs.Waiting.{soonest_below}
use Rattle.distributor.proofs.FoldLemmas.{IsFold, fold_same}
use Rattle.distributor.proofs.WalkLemmas.{Standing, less_rest, stand_first, stand_next, walk_below, walk_over}

-- ---- the order of numbers of ticks

pub sooner_none : (a : Option ℕ) → sooner a None ≡ a
sooner_none a = grind arith

pub sooner_assoc : (a b c : Option ℕ) → sooner (sooner a b) c ≡ sooner a (sooner b c)
sooner_assoc a b c = grind arith

pub by_left : (a b x : Option ℕ) → is_by a x ≡ true → is_by (sooner a b) x ≡ true
by_left a b x h = grind arith

pub by_right : (a b x : Option ℕ) → is_by b x ≡ true → is_by (sooner a b) x ≡ true
by_right a b x h = grind arith

pub by_both : (x a b : Option ℕ) → is_by x a ≡ true → is_by x b ≡ true → is_by x (sooner a b) ≡ true
by_both x a b h k = grind arith

by_none : (x : Option ℕ) → is_by x None ≡ true
by_none x = grind arith

-- what is by the sooner one is by both
pub by_first : (x a b : Option ℕ) → is_by x (sooner a b) ≡ true → is_by x a ≡ true
by_first x a b h = grind arith

pub by_second : (x a b : Option ℕ) → is_by x (sooner a b) ≡ true → is_by x b ≡ true
by_second x a b h = grind arith

by_itself : (a : Option ℕ) → is_by a a ≡ true
by_itself a = grind arith

by_each_other : (a b : Option ℕ) → is_by a b ≡ true → is_by b a ≡ true → a ≡ b
by_each_other a b h k = grind arith

-- ---- the soonest of a function

pub soonest_fold : IsFold sooner None soonest_below
unfolding soonest_below
soonest_fold = record { none = λ f. refl; more = λ f n. refl; assoc = sooner_assoc; right = sooner_none }

pub same_soonest : (f h : ℕ → Option ℕ) (n : ℕ) → ((k : ℕ) → k < n → f k ≡ h k) → soonest_below f n ≡ soonest_below h n
same_soonest = fold_same soonest_fold

pub soonest_member : (f : ℕ → Option ℕ) (n k : ℕ) → k < n → is_by (soonest_below f n) (f k) ≡ true
unfolding soonest_below
soonest_member f zero k lt = absurd (omega arith)
soonest_member f (suc n) k lt = ⊎_elim
    (λ (e : k ≡ n). by_right (soonest_below f n) (f n) (f k)
    (subst (λ m. is_by (f n) (f m) ≡ true) (sym e) (by_itself (f n))))
    (λ (a : k ≡ n → ⊥). (let low : k < n = omega (arith, lt, a) in by_left (soonest_below f n) (f n) (f k) (soonest_member f n k low)))
    (cases_eq k n)

pub soonest_all : (f : ℕ → Option ℕ) (n : ℕ) (x : Option ℕ) → ((k : ℕ) → k < n → is_by x (f k) ≡ true) → is_by x (soonest_below f n) ≡ true
unfolding soonest_below
soonest_all f zero x h = by_none x
soonest_all f (suc n) x h = by_both x (soonest_below f n) (f n) (soonest_all f n x (λ k lt. h k (omega arith))) (h n (omega arith))

-- what is by all, and is one of them, is the soonest
pub soonest_is : (f : ℕ → Option ℕ) (n : ℕ) (x : Option ℕ) → IfSome x (λ m. (k : ℕ) × (k < n) × (f k ≡ Some m))
    → ((k : ℕ) → k < n → is_by x (f k) ≡ true) → x ≡ soonest_below f n
soonest_is f n x taken h = grind (arith, by_each_other, soonest_all, soonest_member)

-- ---- a walk

-- one of the conversations is Wanted again in so many ticks
abbrev pub IsTaken : ℕ → List Assignment → Option ℕ → Type 0
IsTaken count states found = IfSome found (λ ticks. (k : ℕ) × (k < count) × (ticks_until_wanted (slot_state states k) ≡ Some ticks))

taken_here : (count : ℕ) (states : List Assignment) (found : Option ℕ) (k : ℕ) → k < count
    → found ≡ ticks_until_wanted (slot_state states k) → IsTaken count states found
taken_here count states found k lt e = grind arith

-- the sooner of two that are taken is taken
pub taken_sooner : (count : ℕ) (states : List Assignment) (a b : Option ℕ) → IsTaken count states a → IsTaken count states b → IsTaken count states (sooner a b)
taken_sooner count states a b h k = grind arith

-- a walk along a chain has found the soonest of what it has seen
pub record Seeking (chain count : ℕ) (states : List Assignment) (next prev : List ℕ) (end at : ℕ) (found : Option ℕ) : Type 0 where
  pub standing : Standing chain count states next prev end at
  pub taken : IsTaken count states found
  pub soonest : (k : ℕ) → occurs k standing.rest ≡ 0 → is_in_chain chain (slot_state states k) ≡ true
      → is_by found (ticks_until_wanted (slot_state states k)) ≡ true

pub seeking_begins : {count : ℕ} {states : List Assignment} {next prev : List ℕ} (h : IsChained count states next prev)
    (chain end at : ℕ) → chain < 64 → end ≡ count + chain → at ≡ get_or next end at → Seeking chain count states next prev end at None
seeking_begins h chain end at lt e read = record {
  standing = stand_first h chain end at lt e read;
  taken = tt;
  soonest = λ k none e. absurd (omega (arith, none, h.homes chain k ∙ ap (λ b. cond b 1 0) e));
}

module _ {chain count : ℕ} {states : List Assignment} {next prev : List ℕ} {end at : ℕ} {found : Option ℕ}
    (h : Seeking chain count states next prev end at found) where
  pub seeking_ends : at ≡ end → (k : ℕ) → is_in_chain chain (slot_state states k) ≡ true → is_by found (ticks_until_wanted (slot_state states k)) ≡ true
  seeking_ends e k = h.soonest k (ap (occurs k) (walk_over h.standing e))

  pub seeking_on : (n : at ≡ end → ⊥) (here found' : Option ℕ) (place : ℕ) → here ≡ ticks_until_wanted (slot_state states at)
      → found' ≡ sooner found here → place ≡ get_or next at place → Seeking chain count states next prev end place found'
  seeking_on n here found' place is e read = subst (λ x. Seeking chain count states next prev end place x) (sym e) (record {
    standing = stand_next h.standing n place read;
    taken = taken_sooner count states found here h.taken (taken_here count states here at (walk_below h.standing n) is);
    soonest = λ k none stands. ⊎_elim
        (λ (m : k ≡ at). by_right found here (ticks_until_wanted (slot_state states k))
        (subst (λ x. is_by here x ≡ true) (is ∙ ap (λ j. ticks_until_wanted (slot_state states j)) (sym m)) (by_itself here)))
        (λ (m : k ≡ at → ⊥). by_left found here (ticks_until_wanted (slot_state states k))
        (h.soonest k (less_rest h.standing n k m ∙ none) stands))
        (cases_eq k at);
  })

-- ---- chain by chain

-- the soonest of the chains below this one was found
pub record SeekingChains (chain count : ℕ) (states : List Assignment) (found : Option ℕ) : Type 0 where
  pub taken : IsTaken count states found
  pub soonest : (c k : ℕ) → c < chain → is_in_chain c (slot_state states k) ≡ true → is_by found (ticks_until_wanted (slot_state states k)) ≡ true

pub chains_walked : (chain count : ℕ) (states : List Assignment) (found here found' : Option ℕ)
    → SeekingChains chain count states found → found' ≡ sooner found here → IsTaken count states here
    → ((k : ℕ) → is_in_chain chain (slot_state states k) ≡ true → is_by here (ticks_until_wanted (slot_state states k)) ≡ true)
    → SeekingChains (chain + 1) count states found'
chains_walked chain count states found here found' h e taken soonest = grind arith

pub chains_passed : (chain count : ℕ) (states : List Assignment) (wanted flushing : List Bool) (found : Option ℕ) → SeekingChains chain count states found
    → IsFlagged states wanted flushing → get_or flushing chain false ≡ false → SeekingChains (chain + 1) count states found
chains_passed chain count states wanted flushing found h f none = grind arith

some_chain : (found : Option ℕ) (s : Assignment)
    → ((c : ℕ) → c < 64 → is_in_chain c s ≡ true → is_by found (ticks_until_wanted s) ≡ true) → is_by found (ticks_until_wanted s) ≡ true
some_chain found (Flushing port id preferred age) h = h (chain_of port) (mod_below port 64 (omega arith))
    (eq-eqb (chain_of port) (chain_of port) refl)
some_chain found s h = by_none found

pub chains_end : (count : ℕ) (states : List Assignment) (found : Option ℕ) → SeekingChains 64 count states found
    → found ≡ soonest_below (λ k. ticks_until_wanted (slot_state states k)) count
chains_end count states found h = soonest_is (λ k. ticks_until_wanted (slot_state states k)) count found h.taken
    (λ k lt. some_chain found (slot_state states k) (λ c low. h.soonest c k low))
