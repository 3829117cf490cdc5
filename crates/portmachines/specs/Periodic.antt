-- The periodic machine (6.4.13).
use Rattle.std.specs.Prelude.{◌≡◌, ℕ, ◌==◌, Bool, true, false, not, ◌&&◌, ◌||◌, List, [], ◌∷◌}
use Rattle.lagtypes.specs.States.{bits_of}
use Rattle.portmachines.specs.declared.periodic.PeriodicState.{PeriodicState}
use Rattle.portmachines.specs.declared.periodic.PeriodicState.TheVariants.{NoPeriodic, Fast, Slow, PeriodicTx}
use Rattle.portmachines.specs.Machines.{Machines}
use Rattle.portmachines.specs.Rows.{Row, RunsToRest, in_order}
use Rattle.portmachines.specs.Mux.{set_ntt}

-- whether the two states are the same
abbrev pub same_periodic_state : PeriodicState → PeriodicState → Bool
same_periodic_state NoPeriodic NoPeriodic = true
same_periodic_state Fast Fast = true
same_periodic_state Slow Slow = true
same_periodic_state PeriodicTx PeriodicTx = true
same_periodic_state _ _ = false

-- the link is down, or both ends are passive
abbrev pub is_silent : Machines → Bool
is_silent p = not p.enabled || (not p.active && not (bits_of p.partner.state).activity)

-- periodic_timer has no ticks left
abbrev pub timer_expired : Machines → Bool
timer_expired p = p.periodic_timer == 0

-- the partner has Short Timeout
abbrev pub partner_short : Machines → Bool
partner_short p = (bits_of p.partner.state).timeout

-- periodic_timer starts with this many ticks
abbrev pub start_periodic : ℕ → Machines → Machines
start_periodic n p = record p { periodic_timer = n }

-- a row: from states that pass the test, if the condition holds, to that state, with the action
abbrev pub periodic_row : (PeriodicState → Bool) → (Machines → Bool) → PeriodicState → (Machines → Machines) → Row
periodic_row from guard to effect =
    record {
      enabled = λ p. from p.periodic && guard p;
      effect = λ p. effect (record p { periodic = to });
    }

-- all rows of the periodic machine
abbrev pub periodic_table : List Row
periodic_table =
    -- any but NO_PERIODIC; link down, or both ends passive; to NO_PERIODIC
    periodic_row (λ s. not (same_periodic_state NoPeriodic s)) is_silent NoPeriodic (λ p. p)
    -- NO_PERIODIC; link up and one end active; to FAST; periodic_timer starts with 10 ticks
    ∷ periodic_row (same_periodic_state NoPeriodic) (λ p. not (is_silent p)) Fast (start_periodic 10)
    -- FAST; periodic_timer expired; to PERIODIC_TX; NTT true
    ∷ periodic_row (same_periodic_state Fast) timer_expired PeriodicTx set_ntt
    -- FAST; partner has Long Timeout; to SLOW; periodic_timer starts with 300 ticks
    ∷ periodic_row (same_periodic_state Fast) (λ p. not (partner_short p)) Slow (start_periodic 300)
    -- SLOW; periodic_timer expired, or partner has Short Timeout; to PERIODIC_TX; NTT true
    ∷ periodic_row (same_periodic_state Slow) (λ p. timer_expired p || partner_short p) PeriodicTx set_ntt
    -- PERIODIC_TX; partner has Short Timeout; to FAST; periodic_timer starts with 10 ticks
    ∷ periodic_row (same_periodic_state PeriodicTx) partner_short Fast (start_periodic 10)
    -- PERIODIC_TX; partner has Long Timeout; to SLOW; periodic_timer starts with 300 ticks
    ∷ periodic_row (same_periodic_state PeriodicTx) (λ p. not (partner_short p)) Slow (start_periodic 300)
    ∷ []

-- the rows are tried in this order (profile)
abbrev pub periodic_rows : List Row
periodic_rows = in_order (λ p. false) periodic_table

-- in NO_PERIODIC, NTT becomes false (profile)
abbrev pub clear_ntt : Machines → Machines
clear_ntt p = record p { ntt = not (same_periodic_state NoPeriodic p.periodic) && p.ntt }

-- the machine runs until no row is enabled; then, in NO_PERIODIC, NTT becomes false
abbrev pub RunsPeriodic : Machines → Machines → Type 0
RunsPeriodic old new = (mid : Machines) × RunsToRest periodic_rows old mid × (new ≡ clear_ntt mid)
