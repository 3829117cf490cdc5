-- The record of a conversation is at its index, and so are the ports that a cable joins.
use Rattle.lagworld.proofs.Common.{Bool, IsSomeAnd, List, None, Option, Some, ap, arith, false, get_or, is_some, length, map, option_map, refl}
use Rattle.lagworld.proofs.Common.{slice_get, subst, suc, sym, ℕ, ◌+◌, ◌<◌, ◌∙◌, ◌≡◌, ◌≤◌, true≢false, length-map, slice_get-map, slice_get_past}
use Rattle.lagworld.proofs.Common.{slice_get_read, FlowValue, LinkState, element_numbered, flow_at, flow_in_aggregator}

module _ {R X : Type 0} (v : X → FlowValue) (items : R → List X) where
  row_there : (rows : List R) (i k : ℕ) (row : R) → i < length rows → row ≡ get_or rows i row
      → flow_at (map (λ r. map v (items r)) rows) (suc i) k ≡ slice_get (map v (items row)) k
  row_there rows i k row l r = ap (λ o. flow_in_aggregator o k) (slice_get-map (λ r. map v (items r)) rows i
      ∙ ap (option_map (λ r. map v (items r))) (slice_get_read rows (length rows) i row refl l r))

  pub flow_there : (rows : List R) (g i k : ℕ) (row : R) (x : X) → g ≡ suc i → i < length rows → row ≡ get_or rows i row
      → k < length (items row) → x ≡ get_or (items row) k x → flow_at (map (λ r. map v (items r)) rows) g k ≡ Some (v x)
  flow_there rows g i k row x e l r m s = subst (λ g. flow_at (map (λ r. map v (items r)) rows) g k ≡ Some (v x)) (sym e)
      (row_there rows i k row l r ∙ slice_get-map v (items row) k
      ∙ ap (option_map v) (slice_get_read (items row) (length (items row)) k x refl m s))

  pub flow_past : (rows : List R) (g i k : ℕ) (row : R) → g ≡ suc i → i < length rows → row ≡ get_or rows i row → length (items row) ≤ k
      → flow_at (map (λ r. map v (items r)) rows) g k ≡ None
  flow_past rows g i k row e l r m =
      subst (λ g. flow_at (map (λ r. map v (items r)) rows) g k ≡ None) (sym e) (row_there rows i k row l r
      ∙ slice_get_past (map v (items row)) k (rw length-map m))

-- the ports that a cable joins
abbrev pub pair : ℕ → ℕ → ℕ × ℕ
pair a b = (a, b)

-- what is made of the ports that a cable joins
pub ends_there : {X : Type 0} (f : ℕ → ℕ → X) (links : List LinkState) (c i one two : ℕ) (whole : Bool) → c ≡ i + 1
    → IsSomeAnd (slice_get links i) (λ l. (one ≡ l.one) × (two ≡ l.two) × (whole ≡ l.whole))
    → Some (f one two) ≡ option_map (λ (l : LinkState). f l.one l.two) (element_numbered links c)
ends_there f links c i one two whole e h = grind arith

pub no_ends : {X : Type 0} (f : LinkState → X) (o : Option LinkState) → is_some o ≡ false → option_map f o ≡ None
no_ends f o h = grind arith
