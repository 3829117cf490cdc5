-- What a port may send depends on the ages of the LACPDUs that it sent alone: with `reinit` it sends whenever another one with its ages does.
use Rattle.std.proofs.Common.{Bool, List, [], ap, arith, false, if◌then◌else◌, refl, subst, sym, true, ℕ, ◌++◌, ◌+◌, ◌∙◌, ◌∷◌, ◌≡◌}
use Rattle.std.proofs.lemmas.Bool.Decides.{nat_tests}
use Rattle.portmachines.specs.Calls.{Mux, Periodic, PortCall, Reinit, Select, Set_link, Set_mode, Take, Tick, Transmit}
use Rattle.portmachines.specs.Machines.{Machines}
use Rattle.portmachines.specs.Mux.{mux_rows}
use Rattle.portmachines.specs.Start.{Starts}
use Rattle.portmachines.specs.Transmit.{after_sending, aged, count_down, is_due}
use Rattle.portmachines.specs.Window.{SendsAtTicks}
use Rattle.portmachines.proofs.Runs.{Reaches-keeps}
use Rattle.portmachines.proofs.Windows.{ages_of, mux-same, periodic-ages, settles-same, starts-ages, taking-ages}
use Rattle.lagsystem.proofs.Windows.{Good}
use Rattle.law_answers.proofs.Firing.{port_starts, receive_rests}

-- a run of p that sends at these ticks
abbrev CanSend : ℕ → Machines → List ℕ → Type 0
CanSend now p ticks = (calls : List PortCall) × SendsAtTicks now calls p ticks

-- a port that has started sends, if fewer than three were sent in the window
due_again : (p q r : Machines) → r.ages ≡ p.ages → q.ages ≡ p.ages → is_due p ≡ true → r.ntt ≡ true → is_due r ≡ true
due_again p q r e f due ntt = grind (arith, nat_tests)

started_ntt : (p q : Machines) → Starts p q → q.ntt ≡ true
started_ntt p q h = ap (λ (x : Machines). x.ntt) h.2

abbrev All_of : ℕ → List PortCall → Machines → List ℕ → Type 0
All_of now calls q rest = (r : Machines) → r.ages ≡ q.ages → CanSend now r rest

-- the port sends as q does, if it goes on so
sends_too : (now : ℕ) (calls : List PortCall) (p q mid : Machines) (ticks rest : List ℕ) (due : Bool) → is_due q ≡ due → p.ages ≡ q.ages
    → mid ≡ (if due then after_sending q else q) → ticks ≡ (if due then now ∷ rest else rest) → All_of now calls mid rest → CanSend now p ticks
sends_too now calls p q mid ticks rest false due e m t go = subst (CanSend now p) (sym t) (go p (e ∙ sym (ap (λ (x : Machines). x.ages) m)))
sends_too now calls p q mid ticks rest true due e m t go =
    let r = port_starts (record p { party = p.party }) in
    let ages : r.0.ages ≡ p.ages = starts-ages (record p { party = p.party }) r.0 r.1 in
    let ready : is_due r.0 ≡ true = due_again q p r.0 (ages ∙ e) e due (started_ntt (record p { party = p.party }) r.0 r.1) in
    let sent : Machines = after_sending r.0 in
    let more = go sent (ap (λ (a : List ℕ). a ++ 0 ∷ []) (ages ∙ e) ∙ sym (ap (λ (x : Machines). x.ages) m)) in
    let effect : sent ≡ (if is_due r.0 then after_sending r.0 else r.0) = ap (λ b. if b then after_sending r.0 else r.0) (sym ready) in
    let told : ticks ≡ (if is_due r.0 then now ∷ rest else rest) = t ∙ ap (λ b. if b then now ∷ rest else rest) (sym ready) in
    (Reinit p.party ∷ Transmit 0 ∷ more.0, (r.0, ticks, r.1, (sent, rest, effect, more.1, told), refl))

can_send : (now : ℕ) (calls : List PortCall) (p q : Machines) (ticks : List ℕ) → p.ages ≡ q.ages → SendsAtTicks now calls q ticks → CanSend now p ticks
can_send now [] p q ticks e h = ([], h)
can_send now (Tick ∷ calls) p q ticks e h =
    let r = receive_rests (count_down p) in
    let ages : r.0.ages ≡ h.0.ages = settles-same (count_down p) r.0 r.1 ∙ ap aged e ∙ sym (settles-same (count_down q) h.0 h.2) in
    let more = can_send (now + 1) calls r.0 h.0 h.1 ages h.3 in (Tick ∷ more.0, (r.0, h.1, r.1, more.1, h.4))
can_send now (Transmit max_delay ∷ calls) p q ticks e h =
    sends_too now calls p q h.0 ticks h.1 (is_due q) refl e h.2 h.4 (λ r f. can_send now calls r h.0 h.1 f h.3)
can_send now (Set_link enabled ∷ calls) p q ticks e h =
    subst (CanSend now p) (sym h.4) (can_send now calls p h.0 h.1 (e ∙ sym (settles-same (record q { enabled = enabled }) h.0 h.2)) h.3)
can_send now (Take pdu ∷ calls) p q ticks e h = subst (CanSend now p) (sym h.4) (can_send now calls p h.0 h.1 (e ∙ sym (taking-ages pdu q h.0 h.2)) h.3)
can_send now (Mux ready ∷ calls) p q ticks e h =
    let same = Reaches-keeps ages_of (mux_rows ready) (mux-same ready) h.2.0 q h.0 h.2.1 in
    subst (CanSend now p) (sym h.4) (can_send now calls p h.0 h.1 (e ∙ sym same) h.3)
can_send now (Periodic ∷ calls) p q ticks e h = subst (CanSend now p) (sym h.4) (can_send now calls p h.0 h.1 (e ∙ sym (periodic-ages q h.0 h.2)) h.3)
can_send now (Select choice ∷ calls) p q ticks e h =
    subst (CanSend now p) (sym h.4) (can_send now calls p h.0 h.1 (e ∙ sym (ap (λ (x : Machines). x.ages) h.2)) h.3)
can_send now (Set_mode active short ∷ calls) p q ticks e h =
    subst (CanSend now p) (sym h.4) (can_send now calls p h.0 h.1 (e ∙ sym (ap (λ (x : Machines). x.ages) h.2)) h.3)
can_send now (Reinit party ∷ calls) p q ticks e h =
    subst (CanSend now p) (sym h.4) (can_send now calls p h.0 h.1 (e ∙ sym (starts-ages (record q { party = party }) h.0 h.2)) h.3)

-- so another port with the ages of one that keeps the window keeps it
pub good_by_ages : (now : ℕ) (p q : Machines) (before : List ℕ) → q.ages ≡ p.ages → Good now p before → Good now q before
good_by_ages now p q before e good calls ticks run = let x = can_send now calls p q ticks (sym e) run in good x.0 ticks x.1
