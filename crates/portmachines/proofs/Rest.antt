-- The mux and periodic machines leave the receive machine at rest.
use native.Mathlib.Omega.{arith}
use Rattle.portmachines.proofs.Common.{Bool, refl, subst, sym, ℕ, ◌≡◌, ReceiveState, Machines, mux_rows, RunsPeriodic, periodic_rows, receive_rows}
use Rattle.portmachines.proofs.Common.{AtRest, FiresTimes}
use Rattle.portmachines.proofs.Runs.{EachKeeps, Reaches-keeps}

-- what the receive rows look at
abbrev looked_at : Machines → ReceiveState × Bool × ℕ
looked_at p = (p.receive, p.enabled, p.current_while)

rest-along : (p q : Machines) → looked_at q ≡ looked_at p → AtRest receive_rows p → AtRest receive_rows q
rest-along p q e rest = grind arith

mux-keeps : (ready : Bool) → EachKeeps looked_at (mux_rows ready)
mux-keeps ready = (λ p. refl, (λ p. refl, (λ p. refl, (λ p. refl, (λ p. refl, (λ p. refl, tt))))))

periodic-keeps : EachKeeps looked_at periodic_rows
periodic-keeps = (λ p. refl, (λ p. refl, (λ p. refl, (λ p. refl, (λ p. refl, (λ p. refl, (λ p. refl, tt)))))))

pub rest_after_mux : (ready : Bool) (n : ℕ) (p q : Machines) → FiresTimes (mux_rows ready) n p q → AtRest receive_rows p → AtRest receive_rows q
rest_after_mux ready n p q run rest = rest-along p q (Reaches-keeps looked_at (mux_rows ready) (mux-keeps ready) n p q run) rest

pub rest_after_periodic : (p q : Machines) → RunsPeriodic p q → AtRest receive_rows p → AtRest receive_rows q
rest_after_periodic p q h rest =
    let mid = rest-along p h.0 (Reaches-keeps looked_at periodic_rows periodic-keeps h.1.0 p h.0 h.1.1) rest in
    subst (AtRest receive_rows) (sym h.2) mid
