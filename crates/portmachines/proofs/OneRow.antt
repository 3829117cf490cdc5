-- No two rows of a machine are enabled together.
use Rattle.portmachines.proofs.Common.{Bool, List, [], false, not, refl, true, ◌&&◌, ◌||◌, ◌∷◌, ◌≡◌, and_parts, or_right, Machines, mux_rows}
use Rattle.portmachines.proofs.Common.{periodic_rows, periodic_table, receive_rows, AtRest, OneEnabledAtMost, Row, in_order}
use native.Mathlib.Omega.{arith}

-- rows in order

-- where a row before the list is enabled, none of the list is
rest-after : (earlier : Machines → Bool) (rows : List Row) (p : Machines) → earlier p ≡ true → AtRest (in_order earlier rows) p
rest-after earlier [] p e = tt
rest-after earlier (row ∷ rows) p e = let off : (not (earlier p) && row.enabled p) ≡ false = rw e refl in
    let on : (earlier p || row.enabled p) ≡ true = rw e refl in
    (off, rest-after (λ q. earlier q || row.enabled q) rows p on)

ordered : (test earlier : Machines → Bool) (rows : List Row) → OneEnabledAtMost test (in_order earlier rows)
ordered test earlier [] = tt
ordered test earlier (row ∷ rows) = (
  (λ p t e. rest-after (λ q. earlier q || row.enabled q) rows p
      (or_right (earlier p) (row.enabled p) (and_parts (not (earlier p)) (row.enabled p) e).1)),
  ordered test (λ q. earlier q || row.enabled q) rows,
)

pub one-periodic : OneEnabledAtMost (λ p. true) periodic_rows
one-periodic = ordered (λ p. true) (λ p. false) periodic_table

-- the mux machine

pub one-mux : (ready : Bool) → OneEnabledAtMost (λ p. true) (mux_rows ready)
one-mux ready = grind arith

-- the receive machine, where the link is up

pub one-receive : OneEnabledAtMost (λ p. p.enabled) receive_rows
one-receive = grind arith
