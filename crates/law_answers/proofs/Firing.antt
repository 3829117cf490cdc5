-- The machines of a port come to rest, and what they hold of numbers fits as before.
use native.Mathlib.Omega.{arith}
use Rattle.std.proofs.Common.{Bool, List, [], false, inl, inr, not, refl, suc, true, zero, ℕ, ◌<◌, ◌∷◌, ◌≡◌, ◌≤◌, ◌⊎◌, ◌||◌}
use Rattle.std.proofs.lemmas.Bool.{and_parts}
use Rattle.std.proofs.lemmas.Bool.Decides.{nat_tests}
use Rattle.portmachines.specs.declared.periodic.PeriodicState.{PeriodicState}
use Rattle.portmachines.specs.declared.periodic.PeriodicState.TheVariants.{Fast, NoPeriodic, PeriodicTx, Slow}
use Rattle.portmachines.specs.declared.receive.ReceiveState.{ReceiveState}
use Rattle.portmachines.specs.declared.receive.ReceiveState.TheVariants.{Current, Defaulted, Expired, Initialize, PortDisabled}
use Rattle.portmachines.specs.Machines.{Machines}
use Rattle.portmachines.specs.Mux.{mux_rows, start_mux}
use Rattle.portmachines.specs.Periodic.{RunsPeriodic, clear_ntt, is_silent, partner_short, periodic_rows, periodic_table, timer_expired}
use Rattle.portmachines.specs.Receive.{current_while_expired, lacpdu_rows, receive_rows, start_receive}
use Rattle.portmachines.specs.Rows.{AtRest, Fires, FiresIfEnabled, FiresTimes, Row, RunsToRest, in_order}
use Rattle.slowpdu.specs.declared.pdu.Lacpdu.{Lacpdu}
use Rattle.portmachines.specs.Start.{Starts}
use Rattle.portmachines.specs.RowsToFire.{mux_rows_to_fire}
use Rattle.portmachines.proofs.Runs.{EachRelates, Fires-relates}

-- a machine is at rest, or one of its rows fires
pub rests_or_fires : (rows : List Row) (p : Machines) → AtRest rows p ⊎ ((q : Machines) × Fires rows p q)
rests_or_fires [] p = inl tt
rests_or_fires (row ∷ rows) p = by_test (row.enabled p) refl (rests_or_fires rows p)
  where
    by_test : (b : Bool) → row.enabled p ≡ b → AtRest rows p ⊎ ((q : Machines) × Fires rows p q)
        → AtRest (row ∷ rows) p ⊎ ((q : Machines) × Fires (row ∷ rows) p q)
    by_test true e more = inr (row.effect p, inl (e, refl))
    by_test false e more = elim more [ inl rest ↦ inl (e, rest) | inr x ↦ inr (x.0, inr x.1) ]

-- each row that fires leaves fewer to fire
abbrev Shrinks : (Machines → ℕ) → List Row → Type 0
Shrinks bound rows = EachRelates (λ p q. bound q < bound p) rows

comes_to_rest : (rows : List Row) (bound : Machines → ℕ) → Shrinks bound rows → (k n : ℕ) (old p : Machines) → FiresTimes rows n old p
    → bound p ≤ k → (q : Machines) × RunsToRest rows old q
comes_to_rest rows bound s zero n old p run le = elim (rests_or_fires rows p) [
  | inl rest ↦ (p, (n, run, rest))
  | inr x ↦ (let less : bound x.0 < bound p = Fires-relates (λ p q. bound q < bound p) rows s p x.0 x.1 in absurd (omega (arith, le, less)))
]
comes_to_rest rows bound s (suc k) n old p run le = elim (rests_or_fires rows p) [
  | inl rest ↦ (p, (n, run, rest))
  | inr x ↦ (let less : bound x.0 < bound p = Fires-relates (λ p q. bound q < bound p) rows s p x.0 x.1 in
      comes_to_rest rows bound s k (suc n) old x.0 (p, run, x.1) (omega (arith, le, less)))
]

rests : (rows : List Row) (bound : Machines → ℕ) → Shrinks bound rows → (p : Machines) → (q : Machines) × RunsToRest rows p q
rests rows bound s p = comes_to_rest rows bound s (bound p) 0 p p refl (omega arith)

-- so many rows of the receive machine may still fire, in any order, by: link up, current_while expired, and the state
abbrev receive_left : Bool → Bool → ReceiveState → ℕ
receive_left false expired PortDisabled = 0
receive_left false expired Initialize = 1
receive_left false expired Defaulted = 1
receive_left false expired Expired = 2
receive_left false expired Current = 3
receive_left true expired Initialize = 2
receive_left true expired PortDisabled = 1
receive_left true expired Defaulted = 0
receive_left true false Expired = 0
receive_left true true Expired = 1
receive_left true false Current = 0
receive_left true true Current = 1

abbrev receive_bound : Machines → ℕ
receive_bound p = receive_left p.enabled (current_while_expired p) p.receive

receive_shrinks : Shrinks receive_bound receive_rows
receive_shrinks = grind (arith, nat_tests)

mux_shrinks : (ready : Bool) → Shrinks (mux_rows_to_fire ready) (mux_rows ready)
mux_shrinks ready = grind arith

-- so many of the periodic machine, by: nothing is to be sent, periodic_timer expired, the partner has Short Timeout, and the state
abbrev periodic_left : Bool → Bool → Bool → PeriodicState → ℕ
periodic_left true expired short NoPeriodic = 0
periodic_left false expired short NoPeriodic = 3
periodic_left silent true short Fast = 3
periodic_left silent false true Fast = 1
periodic_left silent false false Fast = 2
periodic_left silent true short Slow = 3
periodic_left silent false true Slow = 3
periodic_left silent false false Slow = 1
periodic_left silent expired short PeriodicTx = 2

abbrev periodic_bound : Machines → ℕ
periodic_bound p = periodic_left (is_silent p) (timer_expired p) (partner_short p) p.periodic

-- what each row does, the rows in order do
pub in_order_too : (R : Machines → Machines → Type 0) (earlier : Machines → Bool) (rows : List Row) → EachRelates R rows → EachRelates R (in_order earlier rows)
in_order_too R earlier [] h = tt
in_order_too R earlier (row ∷ rows) h =
    (λ p e. h.0 p (and_parts (not (earlier p)) (row.enabled p) e).1, in_order_too R (λ p. earlier p || row.enabled p) rows h.1)

table_shrinks : Shrinks periodic_bound periodic_table
table_shrinks = (
  λ p e. grind (arith, nat_tests),
  (
    λ p e. grind (arith, nat_tests),
    (
      λ p e. grind (arith, nat_tests),
      (λ p e. grind (arith, nat_tests), (λ p e. grind (arith, nat_tests), (λ p e. grind (arith, nat_tests), (λ p e. grind (arith, nat_tests), tt)))),
    ),
  ),
)

periodic_shrinks : Shrinks periodic_bound periodic_rows
periodic_shrinks = in_order_too (λ p q. periodic_bound q < periodic_bound p) (λ p. false) periodic_table table_shrinks

pub receive_rests : (p : Machines) → (q : Machines) × RunsToRest receive_rows p q
receive_rests p = rests receive_rows receive_bound receive_shrinks p

pub mux_rests : (ready : Bool) (p : Machines) → (q : Machines) × RunsToRest (mux_rows ready) p q
mux_rests ready p = rests (mux_rows ready) (mux_rows_to_fire ready) (mux_shrinks ready) p

pub periodic_rests : (p : Machines) → (q : Machines) × RunsPeriodic p q
periodic_rests p = let x = rests periodic_rows periodic_bound periodic_shrinks p in (clear_ntt x.0, (x.0, x.1, refl))

pub lacpdu_taken : (v : Lacpdu) (p : Machines) → (q : Machines) × FiresIfEnabled (lacpdu_rows v) p q
lacpdu_taken v p = elim (rests_or_fires (lacpdu_rows v) p) [ inl rest ↦ (p, inr (rest, refl)) | inr x ↦ (x.0, inl x.1) ]

pub port_starts : (p : Machines) → (q : Machines) × Starts p q
port_starts p = let x = receive_rests (start_receive p) in (start_mux x.0, (x.0, x.1, refl))
