-- The machines are deterministic: each call has exactly one effect.
use Rattle.portmachines.proofs.Common.{Bool, List, [], ap, false, inl, inr, not, refl, subst, suc, sym, true, zero, ℕ, ◌&&◌, ◌∙◌, ◌∷◌, ◌≡◌}
use Rattle.portmachines.proofs.Common.{ReceiveState, Mux, OneEffect, Periodic, Reinit, Select, Set_link, Set_mode, Take, Tick, Transmit, Machines}
use Rattle.portmachines.proofs.Common.{mux_rows, start_mux, RunsPeriodic, clear_ntt, periodic_rows, current_while_expired, receive_rows}
use Rattle.portmachines.proofs.Common.{same_receive_state, start_receive, AtRest, Fires, FiresTimes, OneEnabledAtMost, Row, RunsToRest, count_down}
use native.Mathlib.Omega.{arith}
use Rattle.portmachines.specs.declared.receive.ReceiveState.TheVariants.{Current, Defaulted, Expired, Initialize, PortDisabled}
use Rattle.portmachines.proofs.OneRow.{one-periodic}

-- tests

no : {A : Type 0} (b : Bool) → b ≡ true → b ≡ false → A
no b t f = let e : false ≡ true = sym f ∙ t in cc

-- runs by their first row

abbrev Goes : List Row → ℕ → Machines → Machines → Type 0
Goes rows zero old new = new ≡ old
Goes rows (suc n) old new = (mid : Machines) × Fires rows old mid × Goes rows n mid new

goes-more : (rows : List Row) (n : ℕ) (p q r : Machines) → Goes rows n p q → Fires rows q r → Goes rows (suc n) p r
goes-more rows zero p q r run fired = (r, subst (λ (x : Machines). Fires rows x r) run fired, refl)
goes-more rows (suc n) p q r run fired = (run.0, run.1, goes-more rows n run.0 q r run.2 fired)

goes : (rows : List Row) (n : ℕ) (p q : Machines) → FiresTimes rows n p q → Goes rows n p q
goes rows zero p q run = run
goes rows (suc n) p q run = goes-more rows n p run.0 q (goes rows n p run.0 run.1) run.2

none_fires : (rows : List Row) (p q : Machines) → AtRest rows p → Fires rows p q → ⊥
none_fires [] p q rest fired = fired
none_fires (row ∷ rows) p q rest fired = elim fired [ inl h ↦ no (row.enabled p) h.0 rest.0 | inr h ↦ none_fires rows p q rest.1 h ]

-- if I holds, all rows that are enabled do the same, and I holds afterwards
record OneWay (I : Machines → Type 0) (rows : List Row) : Type 0 where
  same : (p q r : Machines) → I p → Fires rows p q → Fires rows p r → q ≡ r
  stays : (p q : Machines) → I p → Fires rows p q → I q

one_end : (I : Machines → Type 0) (rows : List Row) → OneWay I rows → (n m : ℕ) (p q r : Machines) → I p → Goes rows n p q → Goes rows m p r
    → AtRest rows q → AtRest rows r → q ≡ r
one_end I rows way zero zero p q r i g h a b = g ∙ sym h
one_end I rows way zero (suc m) p q r i g h a b = absurd (none_fires rows p h.0 (subst (AtRest rows) g a) h.1)
one_end I rows way (suc n) zero p q r i g h a b = absurd (none_fires rows p g.0 (subst (AtRest rows) h b) g.1)
one_end I rows way (suc n) (suc m) p q r i g h a b = let e : g.0 ≡ h.0 = way.same p g.0 h.0 i g.1 h.1 in
    one_end I rows way n m g.0 q r (way.stays p g.0 i g.1) g.2 (subst (λ (x : Machines). Goes rows m x r) (sym e) h.2) a b

settles_one : (I : Machines → Type 0) (rows : List Row) → OneWay I rows → (p q r : Machines) → I p → RunsToRest rows p q → RunsToRest rows p r → q ≡ r
settles_one I rows way p q r i g h = one_end I rows way g.0 h.0 p q r i (goes rows g.0 p q g.1) (goes rows h.0 p r h.1) g.2 h.2

-- rows of which at most one is enabled do the same, where the test holds
fires_one : (test : Machines → Bool) (rows : List Row) → OneEnabledAtMost test rows → (p q r : Machines) → test p ≡ true
    → Fires rows p q → Fires rows p r → q ≡ r
fires_one test [] one p q r t f g = absurd f
fires_one test (row ∷ rows) one p q r t f g = elim f [
  | inl x ↦ elim g [ inl y ↦ x.1 ∙ sym y.1 | inr y ↦ absurd (none_fires rows p r (one.0 p t x.0) y) ]
  | inr x ↦ elim g [ inl y ↦ absurd (none_fires rows p q (one.0 p t y.0) x) | inr y ↦ fires_one test rows one.1 p q r t x y ]
]

abbrev Always : Machines → Type 0
Always p = Unit {0}

mux-way : (ready : Bool) → OneWay Always (mux_rows ready)
mux-way ready = grind arith

periodic-way : OneWay Always periodic_rows
periodic-way = grind (arith, fires_one, periodic_rows, one-periodic)

-- the receive rows, if current_while does not expire while the link is down

abbrev safe : ReceiveState → Bool → Bool → Type 0
safe Initialize enabled expired = Unit {0}
safe PortDisabled enabled expired = Unit {0}
safe Expired enabled expired = (expired && not enabled) ≡ false
safe Defaulted enabled expired = Unit {0}
safe Current enabled expired = (expired && not enabled) ≡ false

abbrev IsSafe : Machines → Type 0
IsSafe p = safe p.receive p.enabled (current_while_expired p)

not_current : (s : ReceiveState) (up expired : Bool) → up ≡ false → safe s up expired → (same_receive_state Current s && expired) ≡ true → ⊥
not_current s up expired d i e = grind arith

receive-same : (p q r : Machines) → IsSafe p → Fires receive_rows p q → Fires receive_rows p r → q ≡ r
receive-same p q r i f g = grind arith

receive-stays : (p q : Machines) → IsSafe p → Fires receive_rows p q → IsSafe q
receive-stays p q i f = grind arith

receive-way : OneWay IsSafe receive_rows
receive-way = record { same = receive-same; stays = receive-stays }

-- at rest a port is still so after a tick
rest-counted : (p : Machines) (s : ReceiveState) (expired : Bool) → AtRest receive_rows (record p { receive = s }) → safe s p.enabled expired
rest-counted p s expired rest = grind arith

-- and after a change of the link
rest-linked : (p : Machines) (s : ReceiveState) (enabled : Bool) → AtRest receive_rows (record p { receive = s }) → safe s enabled (current_while_expired p)
rest-linked p s enabled rest = grind arith

pub one_mux : (ready : Bool) (p q r : Machines) → RunsToRest (mux_rows ready) p q → RunsToRest (mux_rows ready) p r → q ≡ r
one_mux ready p q r h k = settles_one Always (mux_rows ready) (mux-way ready) p q r tt h k

pub one_periodic : (p q r : Machines) → RunsPeriodic p q → RunsPeriodic p r → q ≡ r
one_periodic p q r h k = h.2 ∙ ap clear_ntt (settles_one Always periodic_rows periodic-way p h.0 k.0 tt h.1 k.1) ∙ sym k.2

-- each call has one effect
pub one_effect : OneEffect
one_effect Tick old one other rest h k = settles_one IsSafe receive_rows receive-way (count_down old) one other
    (rest-counted old old.receive (current_while_expired (count_down old)) rest) h k
one_effect (Transmit max_delay) old one other rest h k = h ∙ sym k
one_effect (Set_link enabled) old one other rest h k =
    settles_one IsSafe receive_rows receive-way (record old { enabled = enabled }) one other (rest-linked old old.receive enabled rest) h k
one_effect (Take pdu) old one other rest h k = grind arith
one_effect (Mux ready) old one other rest h k = one_mux ready old one other h k
one_effect Periodic old one other rest h k = one_periodic old one other h k
one_effect (Select choice) old one other rest h k = h ∙ sym k
one_effect (Set_mode active short) old one other rest h k = h ∙ sym k
one_effect (Reinit party) old one other rest h k =
    let e : h.0 ≡ k.0 = settles_one IsSafe receive_rows receive-way (start_receive (record old { party = party })) h.0 k.0 tt h.1 k.1 in
    h.2 ∙ ap start_mux e ∙ sym k.2
