-- Rows that are told one after another.
use Rattle.lagsystem.proofs.Common.{Bool, List, ap, arith, cond, get_or, inl, inr, length, nat_lt, set, subst, sym, ℕ, ◌+◌, ◌<◌, ◌∙◌, ◌≡◌, ◌≤◌, ◌⊎◌}
use Rattle.lagsystem.proofs.Common.{cases_Bool, nat_tests, get_or-set_other, get_or-set_same, length-set, TellsRows}
use mir.Val.{bool_byte}
use Rattle.distributor.specs.Conversations.{sum_below}

pub no_rows : (A : Type 0) (default : A) (value : ℕ → A) (mark : A → A → Bool) (before : List A) (unmarked : List Bool)
    → TellsRows A default value mark 0 before before unmarked unmarked 0
unfolding sum_below
no_rows A default value mark before unmarked = grind (arith, nat_tests)

pub below_or_at : (k n : ℕ) → k < n + 1 → (k < n) ⊎ (k ≡ n)
below_or_at k n l = elim (cases_Bool (nat_lt k n)) [ inl t ↦ inl (grind (arith, nat_tests)) | inr f ↦ inr (grind (arith, nat_tests)) ]

one_counted : (n : ℕ) (f : ℕ → ℕ) (count more : ℕ) → count ≡ sum_below f n → more ≡ f n → count + more ≡ sum_below f (n + 1)
unfolding sum_below
one_counted n f count more h e = grind (arith, nat_tests)

-- one row more: its value and its mark are set
module _ (A : Type 0) (default : A) (value : ℕ → A) (mark : A → A → Bool) (n : ℕ) (before mid : List A) (unmarked marks : List Bool) (count : ℕ)
    (x : A) (b : Bool) where
  pub one_row_more : TellsRows A default value mark n before mid unmarked marks count → n < length before → n < length unmarked → x ≡ value n
      → b ≡ mark (get_or before n default) (value n) → TellsRows A default value mark (n + 1) before (set mid n x) unmarked (set marks n b) (count + cond b 1 0)
  one_row_more h l m e f = grind (arith, nat_tests, length-set, below_or_at, get_or-set_other, get_or-set_same, one_counted)

bool_bit : (b : Bool) → bool_byte b ≡ cond b 1 0
bool_bit b = grind (arith, nat_tests)

bit_few : (b : Bool) → bool_byte b ≤ 1
bit_few b = grind (arith, nat_tests)

-- a count that a row made at most one more
pub few_more : (n count more : ℕ) (b : Bool) → more ≡ bool_byte b → count ≤ n → count + more ≤ n + 1
few_more n count more b e few = let most = bit_few b in omega (arith, e, few, most)

-- the same, by the place at which the row stands in both lists, and what stood there
pub row_told : (A : Type 0) (default : A) (value : ℕ → A) (mark : A → A → Bool) (n i : ℕ) (before mid : List A) (unmarked marks : List Bool)
    (count more : ℕ) (x : A) (b : Bool) → TellsRows A default value mark n before mid unmarked marks count → i ≡ n → n < length before
    → n < length unmarked → x ≡ value n → b ≡ mark (get_or mid i default) x → more ≡ bool_byte b
    → TellsRows A default value mark (n + 1) before (set mid i x) unmarked (set marks i b) (count + more)
row_told A default value mark n i before mid unmarked marks count more x b h at l m e f s =
    let is : b ≡ mark (get_or before n default) (value n) = f ∙ (λ j. mark (get_or mid (at j) default) (e j))
    ∙ ap (λ y. mark y (value n)) (h.behind n (omega arith)) in
    subst (λ k. TellsRows A default value mark (n + 1) before (set mid k x) unmarked (set marks k b) (count + more)) (sym at)
    (subst (λ c. TellsRows A default value mark (n + 1) before (set mid n x) unmarked (set marks n b) (count + c)) (sym (s ∙ bool_bit b))
    (one_row_more A default value mark n before mid unmarked marks count x b h l m e is))
