-- What a healthy round leaves of a cable: an LACPDU of an end is nearer by a tick, or was heard.
use Rattle.lagprogress.proofs.Common.{Bool, Err, List, None, Ok, Option, Result, Some, [], arith, false, inl, inr, refl, slice_get, subst, suc, sym}
use Rattle.lagprogress.proofs.Common.{true, zero, ℕ, ◌-◌, ◌∙◌, ◌∷◌, ◌≡◌, ◌≤◌, ◌⊎◌, nat_tests, none-some, same_Some, AllByRecursion, Lacpdu, Side}
use Rattle.lagprogress.proofs.Common.{peer, Machines, is_silent, periodic_rows, AtRest, is_due, pdu_of, SystemFault, SystemPort, Step, Transmit}
use Rattle.lagprogress.proofs.Common.{IsLacpduOf, SystemState, port_index, Event, Reply, Algorithms, WorldSteps, side_of, ItemValue, LinkState}
use Rattle.lagprogress.proofs.Common.{WorldState, half, IsTimed, OfEach, no, AtPort, Sounds, now_due, asks_all}
use Rattle.lagprogress.proofs.EndFacts.{Along, CanSound, IsEnd, both_along, nothing_along, sounds_along, constant_along}
use Rattle.lagprogress.proofs.OneCable.{Went}
use Rattle.lagprogress.proofs.Passing.{lacpdu_is_sent, sends_due, sent_carries}
use Rattle.lagprogress.proofs.Linked.{EndIs, Fits, Flying, Link, each_side, emit_link, HasLacpdu, has_last, other_side, push_there, other_ports}
use Rattle.lagprogress.proofs.Linked.{with_ports, both_at, of_end, end_here, at_end, end_with}
use Rattle.slowpdu.specs.declared.pdu.Pdu.TheVariants as pdu
use Rattle.lagsystem.specs.declared.drive.Reply.TheVariants as answer
use Rattle.lagscript.specs.declared.event.Event.TheVariants as event

abbrev pub Nothing : Machines → Type 0
Nothing p = Unit {0}

-- the link without what stands beside it
pub forget : (d : ℕ) (at : Side → ℕ) (w : Side → Lacpdu) (c : Side → ℕ) (x y : Side) (Y : Machines → Type 0) (j : WorldState)
    → Link d at w c x Y j → Link d at w c y Nothing j
forget d at w c x y Y j l = other_ports l (λ s p rest timed a. (a.0, λ f. tt))

-- and with something else at one end
pub join : (d : ℕ) (at : Side → ℕ) (w : Side → Lacpdu) (c : Side → ℕ) (x y : Side) (Y : Machines → Type 0) (j : WorldState)
    → Link d at w c x Nothing j → OfEach (AtPort (at y) Y) (half y j).state.system_ports → Link d at w c y Y j
join d at w c x y Y j l h = with_ports l (each_side (λ s. OfEach (AtPort (at s) (EndIs d w c y Y s)) (half s j).state.system_ports) y
    (both_at (at y) (EndIs d w c x Nothing y) Y (EndIs d w c y Y y) (λ p a b. (a.0, λ f. b)) (half y j).state.system_ports (l.ports y) h)
    (of_end l (peer y) (EndIs d w c y Y (peer y)) (λ p rest timed a. (a.0, λ f. absurd (other_side y f)))))

-- ticks

-- one tick less
abbrev pub ticked : (Side → ℕ) → Side → ℕ
ticked c s = c s - 1

-- an end is asked whose LACPDU comes nearer

-- Z holds of a port of which Y holds and that has no LACPDU due
abbrev pub Asks : ℕ → (Machines → Type 0) → (Machines → Type 0) → Lacpdu → Lacpdu → ℕ → Type 0
Asks d Y Z v u c = (p : Machines) → AtRest periodic_rows p → IsTimed p → IsEnd d v u c p → Y p → is_due p ≡ false → Z p

pub same_ports_then : (gives : ℕ → ℕ → ℕ → Type 0) (n k : ℕ) (z : SystemPort) (a : Result (Option (List ℕ)) SystemFault) (old new : SystemState)
    → port_index n old.system_ports ≡ Some k → slice_get old.system_ports k ≡ Some z → is_due z.port ≡ false
    → Step gives old (Transmit n) (answer.Transmit a) new → new.system_ports ≡ old.system_ports
same_ports_then gives n k z a old new place there due h = grind (arith, nat_tests)

pub flies : (gives : ℕ → ℕ → ℕ → Type 0) (s : Side) (n k : ℕ) (z : SystemPort) (a : Result (Option (List ℕ)) SystemFault)
    (old new : SystemState) (fl now : Side → List ItemValue)
    → port_index n old.system_ports ≡ Some k → slice_get old.system_ports k ≡ Some z → z.port.enabled ≡ true → is_due z.port ≡ true
    → Step gives old (Transmit n) (answer.Transmit a) new → Went s a fl now → Flying (now (peer s))
flies gives s n k z (Err fault) old new fl now place there up due h w = absurd (none-some k (sym h.cause ∙ place))
flies gives s n k z (Ok None) old new fl now place there up due h w = grind (arith, nat_tests)
flies gives s n k z (Ok (Some frame)) old new fl now place there up due h w =
    let sent = sends_due (port_index n old.system_ports) k z old (Some frame) new place there up due h in
    let is : frame ≡ sent.0 = same_Some frame sent.0 sent.2 in
    let lacpdu = subst (IsLacpduOf old.max_delay z) (sym (w.1 ∙ is)) sent.1 in
    let v = pdu_of z.port old.max_delay in
    subst (λ (f : Side → List ItemValue). Flying (f (peer s))) (sym w.2)
    (subst Flying (sym (push_there (peer s) w.0 fl))
    (has_last HasLacpdu (fl (peer s)) w.0 (v, sent_carries w.0.octets (pdu.Lacpdu v) (lacpdu_is_sent old.max_delay z w.0.octets lacpdu))))

-- the end is asked where no LACPDU is due
pub ask_idle : (gives : Algorithms) (n : ℕ) (s : Side) (d : ℕ) (at : Side → ℕ) (w : Side → Lacpdu) (c : Side → ℕ) (Y Z : Machines → Type 0)
    (r : Reply) (old new : WorldState) → Fits d w c → side_of n ≡ Some s → Asks d Y Z (w s) (w (peer s)) (c s) → (l : Link d at w c s Y old)
    → is_due (end_here at w d c s Y old l s).port.port ≡ false → WorldSteps gives old (event.Emit n (at s)) r new → Link d at w c s Z new
ask_idle gives n s d at w c Y Z r old new fits named asks l not h =
    let e = emit_link gives n s d at w c s Nothing r old new fits named (nothing_along (w s) (w (peer s)) (c s) d) (λ f p y. y)
    (forget d at w c s s Y old l) h in
    let z = end_here at w d c s Y old l s in
    let same = same_ports_then (gives s) (at s) z.index z.port e.asks.a (half s old).state (half s new).state z.place z.there not
    e.asks.promise.step in
    let now = of_end l s (λ p. is_due p ≡ false → EndIs d w c s Z s p)
    (λ p rest timed a none. (a.0, λ f. asks p rest timed a.0 (a.1 refl) none)) in
    with_ports e.link (each_side (λ t. OfEach (AtPort (at t) (EndIs d w c s Z t)) (half t new).state.system_ports) s
    (subst (OfEach (AtPort (at s) (EndIs d w c s Z s))) (sym same) (at_end at w d c s old z l.steady (EndIs d w c s Z s)
    (end_with at w d c s old z (λ p. is_due p ≡ false → EndIs d w c s Z s p) now not)))
    (subst (λ (y : SystemState). OfEach (AtPort (at (peer s)) (EndIs d w c s Z (peer s))) y.system_ports) (sym e.asks.peers)
    (of_end l (peer s) (EndIs d w c s Z (peer s)) (λ p rest timed a. (a.0, λ g. absurd (other_side s g))))))

pub ask_peer : (gives : Algorithms) (n : ℕ) (s : Side) (d : ℕ) (at : Side → ℕ) (w : Side → Lacpdu) (c : Side → ℕ) (Y : Machines → Type 0)
    (r : Reply) (old new : WorldState) → Fits d w c → side_of n ≡ Some (peer s) → Along Y (w s) (w (peer s)) (c s) d
    → Link d at w c s Y old → WorldSteps gives old (event.Emit n (at (peer s))) r new → Link d at w c s Y new
ask_peer gives n s d at w c Y r old new fits named along l h =
    (emit_link gives n (peer s) d at w c s Y r old new fits named along (λ e. absurd (other_side s e)) l h).link

pub one_of_both : (s t : Side) → (t ≡ s) ⊎ (t ≡ peer s)
one_of_both s t = each_side (λ t. (t ≡ s) ⊎ (t ≡ peer s)) s (inl refl) (inr refl) t

-- the events of a round

-- the event is that a port is asked for a frame
abbrev pub IsAsk : Event → Type 0
IsAsk (event.Emit n p) = Unit {0}
IsAsk _ = ⊥

pub at_rest : (d : ℕ) (at : Side → ℕ) (w : Side → Lacpdu) (c : Side → ℕ) (s : Side) (V Y : Machines → Type 0) (j : WorldState)
    → ((p : Machines) → AtRest periodic_rows p → IsTimed p → IsEnd d (w s) (w (peer s)) (c s) p → V p → Y p) → Link d at w c s V j → Link d at w c s Y j
at_rest d at w c s V Y j k l = other_ports l (λ t p rest timed a. (
  a.0,
  λ f. k p rest timed (subst (λ t. IsEnd d (w t) (w (peer t)) (c t) p) f a.0) (a.1 f),
))

pub still_sounds : (fast : Bool) (most : ℕ) (p : Machines) → AtRest periodic_rows p → is_silent p ≡ false → is_due p ≡ false → Sounds fast most p → 1 ≤ most
still_sounds fast zero p rest silent not y = absurd (no (sym not ∙ now_due fast p rest silent y))
still_sounds fast (suc m) p rest silent not y = omega arith

-- what stands beside it is so
pub beside_here : (d : ℕ) (at : Side → ℕ) (w : Side → Lacpdu) (c : Side → ℕ) (x : Side) (Y : Machines → Type 0) (j : WorldState)
    → (l : Link d at w c x Y j) → Y (end_here at w d c x Y j l x).port.port
beside_here d at w c x Y j l = end_with at w d c x j (end_here at w d c x Y j l x) Y (of_end l x Y (λ p rest timed a. a.1 refl))

abbrev pub Later : Bool → ℕ → Machines → Type 0
Later fast most p = (1 ≤ most) × Sounds fast most p

pub later_along : (v u : Lacpdu) (fast : Bool) (c d most : ℕ) → CanSound v u fast c → Along (Later fast most) v u c d
later_along v u fast c d most can =
    both_along (λ p. 1 ≤ most) (Sounds fast most) v u c d (constant_along (1 ≤ most) v u c d) (sounds_along v u fast c d most can)
