-- What a Deliver event leaves of a cable and its ends.
use Rattle.lagprogress.proofs.Common.{Err, List, Ok, Result, Some, arith, inl, inr, refl, slice_get, subst, sym, ℕ, ◌∙◌, ◌∷◌, ◌≡◌, ◌≤◌, ◌⊎◌}
use Rattle.lagprogress.proofs.Common.{none-some, same_Some, AllByRecursion, Lacpdu, Side, peer, Machines, SystemFault, Received, SystemPort, Carries}
use Rattle.lagprogress.proofs.Common.{IsFrame, Receive, CallPromise, SystemState, all-get, Reply, Algorithms, WorldSteps, ItemValue, WorldState, half}
use Rattle.lagprogress.proofs.Common.{OfEach, takes_each, AtPort}
use Rattle.slowpdu.specs.declared.pdu.Pdu.TheVariants as pdu
use Rattle.lagsystem.specs.declared.drive.Reply.TheVariants as answer
use Rattle.lagsystem.specs.declared.received.Received.TheVariants as received
use Rattle.lagscript.specs.declared.event.Event.TheVariants as event
use Rattle.lagprogress.proofs.EndFacts.{Along, IsEnd, Learnt, Suits, both_along, end_settles, learnt_along, takes_end, takes_learnt, wait_of}
use Rattle.lagprogress.proofs.Halves.{keeps_timely}
use Rattle.lagprogress.proofs.OneCable.{Arrives, delivers, put, Beside, response}
use Rattle.lagprogress.proofs.Passing.{marker_carries_none}
use Rattle.lagprogress.proofs.Linked.{Arrived, EndIs, Fits, Flying, IsGood, Link, along_if, arrival, each_map, each_side, beside_link, place_kept}
use Rattle.lagprogress.proofs.Linked.{put_other, put_there, gains_has, gains_good, HasLacpdu, AllGood, end_here}

-- what goes back

-- what goes back is no LACPDU
pub responds_none : (gives : ℕ → ℕ → ℕ → Type 0) (n : ℕ) (octets : List ℕ) (a : Result Received SystemFault) (old new : SystemState)
    → CallPromise gives old (Receive n octets) (answer.Receive a) new → (frame : List ℕ) → response a ≡ Some frame → (x : Lacpdu)
    → IsFrame frame (Carries (pdu.Lacpdu x)) → ⊥
responds_none gives n octets (Ok (received.Respond sent)) old new k frame e x c = let m = k.moves.3 in
    marker_carries_none sent x m.0 (subst (λ o. IsFrame o (Carries (pdu.Lacpdu x))) (sym (same_Some sent frame e)) c) m.1
responds_none gives n octets a old new k frame e x c = none-some frame e

-- the port at the end of system s has just heard its partner
abbrev pub Heard : ℕ → (Side → ℕ) → (Side → Lacpdu) → Side → WorldState → Type 0
Heard d at w s j = OfEach (AtPort (at s) (Learnt d (w (peer s)) (wait_of (w s)))) (half s j).state.system_ports

-- what a Deliver event leaves; what was on its way still is, or came
pub record Delivered (d : ℕ) (at : Side → ℕ) (w : Side → Lacpdu) (c : Side → ℕ) (x : Side) (Y : Machines → Type 0)
    (fl : Side → List ItemValue) (new : WorldState) : Type 0 where
  pub link : Link d at w c x Y new
  pub flying : (t : Side) → Flying (fl t) → Flying (link.flying t) ⊎ (1 ≤ d → Heard d at w t new)

-- the ports of the system after an arrival
pub arrived_ports : (d : ℕ) (at : Side → ℕ) (w : Side → Lacpdu) (c : Side → ℕ) (x : Side) (Y : Machines → Type 0) (s : Side) (k : ℕ)
    (z : SystemPort) (octets : List ℕ) (old new : WorldState) → Fits d w c → Along Y (w x) (w (peer x)) (c x) d
    → Link d at w c x Y old → slice_get (half s old).state.system_ports k ≡ Some z → z.number ≡ at s
    → ((v : Lacpdu) → IsFrame octets (Carries (pdu.Lacpdu v)) → Suits d (w s) (w (peer s)) v)
    → Arrived k octets (half s old).state (half s new).state
    → OfEach (AtPort (at s) (EndIs d w c x Y s)) (half s new).state.system_ports
    × ((((v : Lacpdu) → IsFrame octets (Carries (pdu.Lacpdu v)) → ⊥)) ⊎ (1 ≤ d → Heard d at w s new))
arrived_ports d at w c x Y s k z octets old new fits along l there numbered good (inr h) = grind arith
arrived_ports d at w c x Y s k z octets old new fits along l there numbered good (inl h) = let v = h.0 in
    let P = EndIs d w c x Y s in
    let Late : Machines → Type 0 = λ q. 1 ≤ d → Learnt d (w (peer s)) (wait_of (w s)) q in
    let Q : Machines → Type 0 = λ q. IsEnd d (w s) (w (peer s)) (c s) q × ((s ≡ x → Y q) × Late q) in
    let was = all-get (λ (y : SystemPort). AtPort (at s) P y.number y.port) (half s old).state.system_ports k z there (l.ports s) numbered in
    let given = along_if w c d x Y along s in
    let late : Along Late (w s) (w (peer s)) (c s) d = record {
      mux = λ ready p q h y e. (learnt_along (w s) (w (peer s)) (c s) d (wait_of (w s)) (omega arith) e (fits s).3).mux ready p q h (y e);
      periodic = λ p q h a y e. (learnt_along (w s) (w (peer s)) (c s) d (wait_of (w s)) (omega arith) e (fits s).3).periodic p q h a (y e);
      select = λ choice p none y e. y e;
      takes = λ u p q same awake h a y e. takes_learnt (w s) (w (peer s)) u (c s) d p q e (fits s).3 same awake h a;
    } in
    let each = takes_each Q (half s old).state (half s new).state v k z (l.steady s).0 there
    (λ q awake does. (
      takes_end (w s) (w (peer s)) v (c s) d z.port q (good v h.1) (fits s).1 (fits s).2 (fits s).0 awake does was.0,
      (
        given.takes v z.port q (good v h.1) awake does was.0 was.1,
        λ e. takes_learnt (w s) (w (peer s)) v (c s) d z.port q e (fits s).3 (good v h.1) awake does was.0,
      ),
    ))
    (end_settles (λ p. (s ≡ x → Y p) × Late p) (w s) (w (peer s)) (c s) d z.number
    (both_along (λ p. s ≡ x → Y p) Late (w s) (w (peer s)) (c s) d given late)) h.2 in
    let there2 = subst (λ n. OfEach (AtPort n Q) (half s new).state.system_ports) numbered each in (
      each_map (AtPort (at s) Q) (AtPort (at s) P) (λ m p a e. ((a e).0, (a e).1.0)) (half s new).state.system_ports there2,
      inr (λ e. each_map (AtPort (at s) Q) (AtPort (at s) (Learnt d (w (peer s)) (wait_of (w s)))) (λ m p a f. (a f).1.1 e)
          (half s new).state.system_ports there2),
    )

flew : (t : Side) (fl now : Side → List ItemValue) (item : ItemValue) (rest : List ItemValue) (H : Type 0) → fl t ≡ item ∷ rest
    → ((((v : Lacpdu) → IsFrame item.octets (Carries (pdu.Lacpdu v)) → ⊥)) ⊎ H) → (Flying (put t rest fl t) → Flying (now t))
    → Flying (fl t) → Flying (now t) ⊎ H
flew t fl now item rest H first said on f = grind arith

-- what came to the port at an end
pub came_to : (gives : Algorithms) (q : Side) (d : ℕ) (at : Side → ℕ) (w : Side → Lacpdu) (c : Side → ℕ) (x : Side) (Y : Machines → Type 0)
    (old new : WorldState) (l : Link d at w c x Y old) (k : Arrives gives q at l.flying old new)
    → Arrived (end_here at w d c x Y old l q).index k.item.octets (half q old).state (half q new).state
came_to gives q d at w c x Y old new l k = by_answer k.a k.promise
  where
    by_answer : (a : Result Received SystemFault)
        → CallPromise (gives q) (half q old).state (Receive (at q) k.item.octets) (answer.Receive a) (half q new).state
        → Arrived (end_here at w d c x Y old l q).index k.item.octets (half q old).state (half q new).state
    by_answer (Err fault) p = let z = end_here at w d c x Y old l q in absurd (none-some z.index (sym p.step.cause ∙ z.place))
    by_answer (Ok o) p = let z = end_here at w d c x Y old l q in
        arrival (gives q) (at q) z.index z.port k.item.octets o (half q old).state (half q new).state z.place z.there z.is.1.0 p

arrives_link : (gives : Algorithms) (cn n : ℕ) (s : Side) (d : ℕ) (at : Side → ℕ) (w : Side → Lacpdu) (c : Side → ℕ) (x : Side)
    (Y : Machines → Type 0) (r : Reply) (old new : WorldState) → Fits d w c → Along Y (w x) (w (peer x)) (c x) d
    → (l : Link d at w c x Y old) → WorldSteps gives old (event.Deliver cn n) r new → Arrives gives s at l.flying old new
    → Delivered d at w c x Y l.flying new
arrives_link gives cn n s d at w c x Y r old new fits along l h k =
    let steady = keeps_timely gives (event.Deliver cn n) r old new h l.steady in
    let z = end_here at w d c x Y old l s in
    let P = EndIs d w c x Y in
    let good = subst (AllByRecursion (IsGood d w s)) k.first (l.good s) in
    let came = came_to gives s d at w c x Y old new l k in
    let own = arrived_ports d at w c x Y s z.index z.port k.item.octets old new fits along l z.there z.number good.0 came in
    let other = subst (λ (y : SystemState). OfEach (AtPort (at (peer s)) (P (peer s))) y.system_ports) (sym k.peers) (l.ports (peer s)) in
    let less : AllGood d w (put s k.rest l.flying) = each_side (λ t. AllByRecursion (IsGood d w t) (put s k.rest l.flying t)) s
    (subst (AllByRecursion (IsGood d w s)) (sym (put_there s k.rest l.flying)) good.1)
    (subst (AllByRecursion (IsGood d w (peer s))) (sym (put_other s k.rest l.flying)) (l.good (peer s))) in
    let on = gains_has s HasLacpdu (response k.a) (put s k.rest l.flying) k.now k.back in
    record {
      link = record {
        steady = steady;
        flying = k.now;
        index = k.index;
        links = k.links;
        good = gains_good d w s (response k.a) (put s k.rest l.flying) k.now k.back
            (λ frame e v c. absurd (responds_none (gives s) (at s) k.item.octets k.a (half s old).state (half s new).state k.promise
            frame e v c)) less;
        place = λ t. ((l.place t).0, place_kept gives (event.Deliver cn n) r old new h l.steady steady t (at t) ∙ (l.place t).1);
        ports = each_side (λ t. OfEach (AtPort (at t) (P t)) (half t new).state.system_ports) s own.0 other;
      };
      flying = each_side (λ t. Flying (l.flying t) → Flying (k.now t) ⊎ (1 ≤ d → Heard d at w t new)) s
          (flew s l.flying k.now k.item k.rest (1 ≤ d → Heard d at w s new) k.first own.1 (on s))
          (λ f. inl (on (peer s) (subst Flying (sym (put_other s k.rest l.flying)) f)));
    }

-- so it is if the first item towards the end of s came
pub arrives_moves : (gives : Algorithms) (cn n : ℕ) (s : Side) (d : ℕ) (at : Side → ℕ) (w : Side → Lacpdu) (c : Side → ℕ) (x : Side)
    (Y : Machines → Type 0) (r : Reply) (old new : WorldState) → Fits d w c → Along Y (w x) (w (peer x)) (c x) d
    → (l : Link d at w c x Y old) → WorldSteps gives old (event.Deliver cn n) r new → (k : Arrives gives s at l.flying old new)
    → (m : Link d at w c x Y new) × (m.flying ≡ k.now)
unfolding arrives_link
arrives_moves gives cn n s d at w c x Y r old new fits along l h k =
    ((arrives_link gives cn n s d at w c x Y r old new fits along l h k).link, refl)

-- the first item towards an end came, or the event left the cable to itself; then these items are on their way
abbrev pub Moved : Algorithms → (Side → ℕ) → (Side → List ItemValue) → WorldState → WorldState → (Side → List ItemValue) → Type 0
Moved gives at fl old new now =
    ((s : Side) × (k : Arrives gives s at fl old new) × (now ≡ k.now)) ⊎ (Beside gives at fl old new × (now ≡ fl))

pub deliver_moves : (gives : Algorithms) (cn n : ℕ) (d : ℕ) (at : Side → ℕ) (w : Side → Lacpdu) (c : Side → ℕ) (x : Side)
    (Y : Machines → Type 0) (r : Reply) (old new : WorldState) → Fits d w c → Along Y (w x) (w (peer x)) (c x) d
    → (l : Link d at w c x Y old) → WorldSteps gives old (event.Deliver cn n) r new
    → (m : Delivered d at w c x Y l.flying new) × Moved gives at l.flying old new m.link.flying
unfolding arrives_link
deliver_moves gives cn n d at w c x Y r old new fits along l h = elim (delivers gives cn n l.index at l.flying r old new l.links h) [
  | inl k ↦ (arrives_link gives cn n k.0 d at w c x Y r old new fits along l h k.1, inl (k.0, k.1, refl))
  | inr b ↦ (let k = beside_link gives (event.Deliver cn n) d at w c x Y r old new along l h b in (
    record { link = k.link; flying = λ t f. inl (subst (λ (g : Side → List ItemValue). Flying (g t)) (sym k.same) f) },
    inr (b, k.same),
  ))
]

pub deliver_link : (gives : Algorithms) (cn n : ℕ) (d : ℕ) (at : Side → ℕ) (w : Side → Lacpdu) (c : Side → ℕ) (x : Side)
    (Y : Machines → Type 0) (r : Reply) (old new : WorldState) → Fits d w c → Along Y (w x) (w (peer x)) (c x) d
    → (l : Link d at w c x Y old) → WorldSteps gives old (event.Deliver cn n) r new → Delivered d at w c x Y l.flying new
deliver_link gives cn n d at w c x Y r old new fits along l h = (deliver_moves gives cn n d at w c x Y r old new fits along l h).0
