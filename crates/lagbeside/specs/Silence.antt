-- How many ticks an active port can be silent (6.4.13).
use Rattle.std.specs.Prelude.{◌≡◌, ◌≤◌, ◌⊎◌, ℕ, ◌+◌, ◌-◌, true}
use Rattle.portmachines.specs.declared.periodic.PeriodicState.{PeriodicState}
use Rattle.portmachines.specs.declared.periodic.PeriodicState.TheVariants.{NoPeriodic, Fast, Slow, PeriodicTx}
use Rattle.portmachines.specs.Machines.{Machines}
use Rattle.portmachines.specs.Periodic.{RunsPeriodic, periodic_rows}
use Rattle.portmachines.specs.Rows.{AtRest}

-- NTT becomes true in so many ticks at the latest: a port in FAST whose partner turns out to have Long Timeout begins
-- with 300 ticks anew, once
abbrev pub SilentFor : ℕ → PeriodicState → ℕ → Type 0
SilentFor most Fast n = n + 299 ≤ most
SilentFor most Slow n = n ≤ most
SilentFor most NoPeriodic n = ⊥
SilentFor most PeriodicTx n = ⊥

-- NTT is true, or becomes true in so many ticks
abbrev pub Speaks : ℕ → Machines → Type 0
Speaks most p = (p.ntt ≡ true) ⊎ SilentFor most p.periodic p.periodic_timer

-- the link is up and the port is active
abbrev pub IsLoud : Machines → Type 0
IsLoud p = (p.enabled ≡ true) × (p.active ≡ true)

-- Of an active port whose link is up: the periodic machine leaves what is said of its next LACPDU, whatever became of
-- its partner before; a tick brings it nearer by one; and it comes.
pub record SilenceEnds : Type 0 where
  pub settles : (most : ℕ) (p q : Machines) → IsLoud p → Speaks most p → RunsPeriodic p q → IsLoud q × Speaks most q
  pub ticks : (most : ℕ) (p : Machines) → IsLoud p → AtRest periodic_rows p → Speaks (most + 1) p
      → Speaks most (record p { periodic_timer = p.periodic_timer - 1 })
  pub comes : (p : Machines) → IsLoud p → AtRest periodic_rows p → Speaks 0 p → p.ntt ≡ true
