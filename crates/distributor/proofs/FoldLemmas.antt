-- The values of a function below a number, put together: their sum, the soonest of them.
use Rattle.distributor.proofs.Common.{ap, arith, refl, suc, sym, zero, ℕ, ◌*◌, ◌+◌, ◌<◌, ◌∙◌, ◌≡◌}
use Rattle.distributor.specs.Conversations.{sum_below}

pub record IsFold {X : Type 0} (join : X → X → X) (unit : X) (fold : (ℕ → X) → ℕ → X) : Type 0 where
  pub none : (f : ℕ → X) → fold f 0 ≡ unit
  pub more : (f : ℕ → X) (n : ℕ) → fold f (suc n) ≡ join (fold f n) (f n)
  pub assoc : (a b c : X) → join (join a b) c ≡ join a (join b c)
  pub right : (a : X) → join a unit ≡ a

module _ {X : Type 0} {join : X → X → X} {unit : X} {fold : (ℕ → X) → ℕ → X} (h : IsFold join unit fold) where
  pub fold_same : (f g : ℕ → X) (n : ℕ) → ((k : ℕ) → k < n → f k ≡ g k) → fold f n ≡ fold g n
  fold_same f g zero e = h.none f ∙ sym (h.none g)
  fold_same f g (suc n) e = h.more f n ∙ ap (λ x. join x (f n)) (fold_same f g n (λ k lt. e k (omega arith)))
      ∙ ap (join (fold g n)) (e n (omega arith)) ∙ sym (h.more g n)

  fold_more : (g : ℕ → X) (m n : ℕ) → fold g (m + n) ≡ join (fold g m) (fold (λ k. g (m + k)) n)
  fold_more g m zero = let e : m + 0 ≡ m = omega arith in
      ap (fold g) e ∙ sym (ap (join (fold g m)) (h.none (λ k. g (m + k))) ∙ h.right (fold g m))
  fold_more g m (suc n) = let e : m + suc n ≡ suc (m + n) = omega arith in
      ap (fold g) e ∙ h.more g (m + n) ∙ ap (λ x. join x (g (m + n))) (fold_more g m n)
      ∙ h.assoc (fold g m) (fold (λ k. g (m + k)) n) (g (m + n)) ∙ sym (ap (join (fold g m)) (h.more (λ k. g (m + k)) n))

  -- rows of w places each
  pub fold_rows : (g : ℕ → X) (w rows : ℕ) → fold (λ a. fold (λ c. g (a * w + c)) w) rows ≡ fold g (rows * w)
  fold_rows g w zero = let e : 0 ≡ 0 * w = grind arith in
      h.none (λ a. fold (λ c. g (a * w + c)) w) ∙ sym (h.none g) ∙ ap (fold g) e
  fold_rows g w (suc rows) = let e : suc rows * w ≡ rows * w + w = suc_times rows w in
      h.more (λ a. fold (λ c. g (a * w + c)) w) rows ∙ ap (λ x. join x (fold (λ c. g (rows * w + c)) w)) (fold_rows g w rows)
      ∙ sym (ap (fold g) e ∙ fold_more g (rows * w) w)
    where
      suc_times : (m n : ℕ) → suc m * n ≡ m * n + n
      suc_times m n = grind arith

pub sum_fold : IsFold (λ m n. m + n) 0 sum_below
unfolding sum_below
sum_fold = record { none = λ f. refl; more = λ f n. refl; assoc = λ a b c. omega arith; right = λ a. omega arith }
