-- The silence of an active port.
use Rattle.lagbeside.proofs.Common.{arith, false, inl, true, ℕ, ◌+◌, ◌-◌, ◌≡◌, bits_of, Machines, RunsPeriodic, periodic_rows, AtRest, IsLoud, Speaks}
use Rattle.lagbeside.proofs.OnePort.{periodic_leaves}
use Rattle.lagbeside.proofs.Hearing.{no}
use Rattle.lagbeside.proofs.Sounding.{Calm, near_comes, not_silent, periodic_near}

pub loud : (p : Machines) → IsLoud p → Calm false p
loud p l = (not_silent p.enabled p.active (bits_of p.partner.state).activity l.0 (inl l.1), λ f. absurd (no f))

pub silence_settles : (most : ℕ) (p q : Machines) → IsLoud p → Speaks most p → RunsPeriodic p q → IsLoud q × Speaks most q
silence_settles most p q l s run = (periodic_leaves IsLoud p q run l, periodic_near false most p q run (loud p l) s)

pub silence_ticks : (most : ℕ) (p : Machines) → IsLoud p → AtRest periodic_rows p → Speaks (most + 1) p
    → Speaks most (record p { periodic_timer = p.periodic_timer - 1 })
silence_ticks most p l rest s = grind arith

pub silence_comes : (p : Machines) → IsLoud p → AtRest periodic_rows p → Speaks 0 p → p.ntt ≡ true
silence_comes p l rest s = near_comes false p rest (loud p l).0 s
