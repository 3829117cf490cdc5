-- No port expires because another LACP_Timeout is set.
use native.Mathlib.Omega.{arith}
use Rattle.std.proofs.Common.{Bool, List, [], inl, inr, refl, subst, suc, sym, true, zero, ℕ, ◌+◌, ◌-◌, ◌<◌, ◌∙◌, ◌∷◌, ◌≡◌, ◌≤◌, false}
use Rattle.std.proofs.lemmas.Bool.{false≢true}
use Rattle.portmachines.specs.declared.receive.ReceiveState.TheVariants.{Current}
use Rattle.portmachines.specs.Calls.{ModeExpiresNone, TicksPass, current_while_with, with_mode}
use Rattle.portmachines.specs.Machines.{Machines}
use Rattle.portmachines.specs.Receive.{receive_rows}
use Rattle.portmachines.specs.Rows.{AtRest, Fires, FiresTimes, Row}
use Rattle.portmachines.specs.Transmit.{count_down}

-- a machine at rest stays

never_fires : (rows : List Row) (p q : Machines) → AtRest rows p → Fires rows p q → ⊥
never_fires [] p q r h = h
never_fires (row ∷ rows) p q r h = elim h [ inl f ↦ false≢true (sym r.0 ∙ f.0) | inr f ↦ never_fires rows p q r.1 f ]

rests_still : (rows : List Row) (n : ℕ) (p q : Machines) → AtRest rows p → FiresTimes rows n p q → q ≡ p
rests_still rows zero p q r run = run
rests_still rows (suc n) p q r run =
    absurd (never_fires rows run.0 q (subst (AtRest rows) (sym (rests_still rows n p run.0 r run.1)) r) run.2)

-- in CURRENT, while the link is up and current_while has ticks left

record Hears (p : Machines) (left : ℕ) : Type 0 where
  current : p.receive ≡ Current
  up : p.enabled ≡ true
  ticks : p.current_while ≡ left

hears_rests : (p : Machines) (left : ℕ) → Hears p (left + 1) → AtRest receive_rows p
hears_rests p left h = grind arith

ticks_pass : (n left : ℕ) (p q : Machines) → Hears p (left + n + 1) → TicksPass n p q → Hears q (left + 1)
ticks_pass zero left p q h run = subst (λ (r : Machines). Hears r (left + 1)) (sym run) (record { current = h.current; up = h.up; ticks = omega (arith, h.ticks) })
ticks_pass (suc n) left p q h run =
    let mid : Hears run.0 (left + 1 + 1) = ticks_pass n (left + 1) p run.0 (record { current = h.current; up = h.up; ticks = omega (arith, h.ticks) }) run.1 in
    let down : Hears (count_down run.0) (left + 1) = record { current = mid.current; up = mid.up; ticks = omega (arith, mid.ticks) } in
    subst (λ (r : Machines). Hears r (left + 1)) (sym (rests_still receive_rows run.2.0 (count_down run.0) q (hears_rests (count_down run.0) left down) run.2.1)) down

longer : (active short : Bool) (p : Machines) → p.current_while ≤ 900 → p.current_while ≤ (with_mode active short p).current_while
longer active short p h = grind arith

starts_long : (p : Machines) → p.receive ≡ Current → p.short ≡ true → current_while_with false p ≡ 900
starts_long p r s = grind arith

stays : (active : Bool) (n : ℕ) (p q : Machines) → p.receive ≡ Current → p.short ≡ true → p.enabled ≡ true → n < 900
    → TicksPass n (with_mode active false p) q → q.receive ≡ Current
stays active n p q r s e h run =
    (ticks_pass n (899 - n) (with_mode active false p) q (record { current = r; up = e; ticks = omega (arith, starts_long p r s, h) }) run).current

pub mode_expires_none : ModeExpiresNone
mode_expires_none = record { longer = longer; stays = stays }
