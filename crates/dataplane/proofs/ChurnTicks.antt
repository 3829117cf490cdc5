-- What ticks make of a churn detection machine.
use Rattle.dataplane.proofs.Common.{Bool, List, [], arith, false, if◌then◌else◌, inl, inr, nat_lt, not, refl, sym, true, ℕ, ◌&&◌, ◌+◌, ◌<◌, ◌==◌, ◌∙◌}
use Rattle.dataplane.proofs.Common.{◌∷◌, ◌≡◌, ◌≤◌, ◌⊎◌, eqb_tells, nat_tests, counted}
use Rattle.dataplane.specs.declared.churn.ChurnMachine.{ChurnMachine}
use Rattle.dataplane.specs.declared.churn.ChurnState.{ChurnState}
use Rattle.dataplane.specs.declared.churn.ChurnState.TheVariants.{Monitor, NoChurn, Churn}
use Rattle.dataplane.specs.Churn.{churn_row, monitoring}
use Rattle.dataplane.specs.ChurnHistories.{Found, is_in_sync, machine_after, state_told, ticks_out_of_sync, times_churned}
use Rattle.dataplane.proofs.QueueViews.{counted_is}

-- the state and the timer are those of an end that was out of sync for so many ticks, or that is in sync
abbrev Fits : ChurnState → ℕ → ℕ → Bool → Type 0
Fits Monitor waited ticks synchronized = (waited ≡ ticks) × (ticks < 600) × (synchronized ≡ false)
Fits NoChurn waited ticks synchronized = (ticks ≡ 0) × (synchronized ≡ true)
Fits Churn waited ticks synchronized = (600 ≤ ticks) × (synchronized ≡ false)

abbrev machine : ChurnState → ℕ → ℕ → ℕ → ChurnMachine
machine s w c y = record { state = s; waited = w; churns = c; synchronizations = y }

-- the ticks after one more
abbrev run : Bool → Bool → ℕ → ℕ
run e s n = if e && not s then n + 1 else 0

abbrev FitsMachine : ChurnMachine → ℕ → Bool → Type 0
FitsMachine m n b = Fits m.state m.waited n b

-- whether a number is less, as test and as fact
less_tells : (a b : ℕ) → ((nat_lt a b ≡ true) × (a < b)) ⊎ ((nat_lt a b ≡ false) × (b ≤ a))
less_tells a b = grind (arith, nat_tests)

-- the timer goes on from a machine that is not in CHURN
goes_on : (s : ChurnState) (w c y k : ℕ) → 0 < k → k ≤ 600 → FitsMachine (monitoring k (machine s w c y)) k false
goes_on s w c y k p l = grind (arith, nat_tests)

fits_tick : (st : ChurnState) (w c y n : ℕ) (b e s : Bool) → Fits st w n b → FitsMachine (churn_row e s (machine st w c y)) (run e s n) (e && s)
fits_tick st w c y n b e s f = grind (arith, nat_tests)

-- each list of ticks
fits : (ticks : List Found) → FitsMachine (machine_after ticks) (ticks_out_of_sync ticks) (is_in_sync ticks)
fits [] = (refl, omega arith, refl)
fits (f ∷ earlier) = let m : ChurnMachine = machine_after earlier in
    fits_tick m.state m.waited m.churns m.synchronizations (ticks_out_of_sync earlier) (is_in_sync earlier) f.enabled f.synchronized (fits earlier)

-- what fits has this state
told : (s : ChurnState) (w n : ℕ) (b : Bool) → Fits s w n b → s ≡ (if b then NoChurn else if nat_lt n 600 then Monitor else Churn)
told s w n b f = grind (arith, nat_tests)

pub state : (ticks : List Found) → (machine_after ticks).state ≡ state_told ticks
state ticks = told _ (machine_after ticks).waited _ _ (fits ticks)

-- one more where 600 ticks are full
abbrev full : ℕ → ℕ → ℕ
full n t = if n == 600 then t + 1 else t

counted_more : (t : ℕ) → counted (counted 0 t) 1 ≡ counted 0 (t + 1)
counted_more t = rw (counted_is (counted 0 t) 1, counted_is 0 t, counted_is 0 (t + 1)) (omega arith)

not_full : (n t : ℕ) → (n ≡ 600 → ⊥) → full n t ≡ t
not_full n t d = elim (eqb_tells n 600) [ inl e ↦ absurd (d e.1) | inr e ↦ rw (e.0) refl ]

is_full : (n t : ℕ) → n ≡ 600 → full n t ≡ t + 1
is_full n t d = rw d refl

counts_timer : (s : ChurnState) (w c y k t : ℕ) → k ≤ 600 → c ≡ counted 0 t → (monitoring k (machine s w c y)).churns ≡ counted 0 (full k t)
counts_timer s w c y k t l e = grind (arith, nat_tests, less_tells, not_full, is_full, counted_more)

counts_tick : (st : ChurnState) (w c y n t : ℕ) (b e s : Bool) → Fits st w n b → c ≡ counted 0 t
    → (churn_row e s (machine st w c y)).churns ≡ counted 0 (full (run e s n) t)
counts_tick st w c y n t b false s f q = q
counts_tick Monitor w c y n t b true true f q = q
counts_tick NoChurn w c y n t b true true f q = q
counts_tick Churn w c y n t b true true f q = q
counts_tick Monitor w c y n t b true false f q = rw (← f.0) (counts_timer Monitor w c y (w + 1) t (omega (arith, f.0, f.1)) q)
counts_tick NoChurn w c y n t b true false f q = rw (not_full (n + 1) t (λ d. absurd (omega (arith, d, f.0)))) q
counts_tick Churn w c y n t b true false f q = rw (not_full (n + 1) t (λ d. absurd (omega (arith, d, f.0)))) q

pub churns : (ticks : List Found) → (machine_after ticks).churns ≡ counted 0 (times_churned ticks)
churns [] = sym (counted_is 0 0 ∙ omega arith)
churns (f ∷ earlier) = let m : ChurnMachine = machine_after earlier in
    counts_tick m.state m.waited m.churns m.synchronizations (ticks_out_of_sync earlier) (times_churned earlier) (is_in_sync earlier) f.enabled f.synchronized (fits earlier) (churns earlier)
