-- A machine as a list of rows, and what it means that rows fire (profile).
use Rattle.std.specs.Prelude.{◌≡◌, ℕ, suc, zero, Bool, not, ◌&&◌, ◌||◌, List, [], ◌∷◌, IsTrue, ◌⊎◌}
use Rattle.std.specs.Bool.{IsFalse}
use Rattle.portmachines.specs.Machines.{Machines}

-- one row of a machine: the condition on which it is enabled, and the port after it fired
pub record Row : Type 0 where
  pub enabled : Machines → Bool
  pub effect : Machines → Machines

-- One of the rows is enabled in the first state, and firing it gives the second. Any enabled row may fire; `in_order`
-- makes an order.
abbrev pub Fires : List Row → Machines → Machines → Type 0
Fires [] old new = ⊥
Fires (row ∷ rows) old new = (IsTrue (row.enabled old) × (new ≡ row.effect old)) ⊎ Fires rows old new

-- the machine is at rest: no row is enabled
abbrev pub AtRest : List Row → Machines → Type 0
AtRest [] p = Unit {0}
AtRest (row ∷ rows) p = IsFalse (row.enabled p) × AtRest rows p

-- n rows fire, one after another
abbrev pub FiresTimes : List Row → ℕ → Machines → Machines → Type 0
FiresTimes rows zero old new = new ≡ old
FiresTimes rows (suc n) old new = (mid : Machines) × FiresTimes rows n old mid × Fires rows mid new

-- rows fire until none is enabled
abbrev pub RunsToRest : List Row → Machines → Machines → Type 0
RunsToRest rows old new = (n : ℕ) × FiresTimes rows n old new × AtRest rows new

-- an enabled row fires; or none is enabled and nothing changes
abbrev pub FiresIfEnabled : List Row → Machines → Machines → Type 0
FiresIfEnabled rows old new = Fires rows old new ⊎ (AtRest rows old × (new ≡ old))

-- the rows with an order: each is enabled only if no row before it is
abbrev pub in_order : (Machines → Bool) → List Row → List Row
in_order earlier [] = []
in_order earlier (row ∷ rows) =
    record { enabled = λ p. not (earlier p) && row.enabled p; effect = row.effect }
    ∷ in_order (λ p. earlier p || row.enabled p) rows

-- no two of the rows are enabled together where the test holds: where a row is enabled, no later one is
abbrev pub OneEnabledAtMost : (Machines → Bool) → List Row → Type 0
OneEnabledAtMost test [] = Unit {0}
OneEnabledAtMost test (row ∷ rows) =
    ((p : Machines) → IsTrue (test p) → IsTrue (row.enabled p) → AtRest rows p) × OneEnabledAtMost test rows
