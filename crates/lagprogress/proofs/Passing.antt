-- What a system sends is what it carries; and how an LACPDU goes onto a cable and comes off it.
use Rattle.lagprogress.proofs.Common.{Bool, Err, List, None, Ok, Option, Result, Some, [], ap, arith, drop, refl, slice_get, slice_set, subst, suc}
use Rattle.lagprogress.proofs.Common.{sym, true, ℕ, ◌++◌, ◌∙◌, ◌∷◌, ◌≡◌, nat_tests, same_Some, Lacpdu, Marker, Pdu, written_pdu, One, Side, Two, peer}
use Rattle.lagprogress.proofs.Common.{value_of, is_due, pdu_of, SystemFault, Received, TookLacpdu, SystemPort, Carries, IsFrame, OnlyPortChangesBy}
use Rattle.lagprogress.proofs.Common.{ParsesWhere, Performs, ProcessesLacpdu, ReceivesAt, Step, ThenSettles, Transmit, IsSent, IsLacpduOf}
use Rattle.lagprogress.proofs.Common.{SendsLacpdu, TransmitsAt, TransmitsIf, SystemState, port_index, effect_one, Reply, AfterReceive, AfterTransmit}
use Rattle.lagprogress.proofs.Common.{Algorithms, DeliversFrom, WorldEmits, WorldReceives, WorldSteps, side_of, with_link_at, HalfState, ItemValue}
use Rattle.lagprogress.proofs.Common.{LinkState, WorldState, accepts, half, link_index, port_at, put_on_port, towards, with_half, with_towards}
use Rattle.lagprogress.proofs.Common.{half_there, DeliverProcessesLacpdu, EmitSendsLacpdu, EndIsUp, IsHeardOn, IsSentOn}
use Rattle.lagscript.specs.declared.event.Event.TheVariants as event
use Rattle.slowpdu.specs.declared.pdu.Pdu.TheVariants as pdu
use Rattle.slowpdu.proofs.LacpduLemmas.{one_reading}
use Rattle.slowpdu.proofs.MarkerLemmas.{not_both}
use Rattle.lagsystem.specs.declared.drive.Reply.TheVariants as answer
use Rattle.lagsystem.proofs.Sent.{sent_control, sent_payload}

-- what frames carry

pub sent_carries : (octets : List ℕ) (v : Pdu) → IsSent octets v → IsFrame octets (Carries v)
sent_carries octets v h = (sent_control octets v h, written_pdu (drop 14 octets) v (sent_payload octets v h))

pub lacpdu_is_sent : (d : ℕ) (x : SystemPort) (octets : List ℕ) → IsLacpduOf d x octets → IsSent octets (pdu.Lacpdu (pdu_of x.port d))
lacpdu_is_sent d x octets h = (x.mac, h.0, h.1, h.2, h.3)

pub carries_one : (octets : List ℕ) (v w : Lacpdu) → IsFrame octets (Carries (pdu.Lacpdu v)) → IsFrame octets (Carries (pdu.Lacpdu w)) → w ≡ v
carries_one octets v w h k = one_reading (drop 14 octets) v w h.1 k.1

pub marker_carries_none : (octets : List ℕ) (v : Lacpdu) (m : Marker) → IsFrame octets (Carries (pdu.Lacpdu v)) → IsSent octets (pdu.Marker m) → ⊥
marker_carries_none octets v m h k = not_both (drop 14 octets) v m h.1 (sent_carries octets (pdu.Marker m) k).1

-- an LACPDU is processed

-- the port at the index processes the LACPDU that the octets carry
pub receives_lacpdu : (n k : ℕ) (x : SystemPort) (octets : List ℕ) (v : Lacpdu) (old : SystemState) (o : Received) (new : SystemState)
    → port_index n old.system_ports ≡ Some k → slice_get old.system_ports k ≡ Some x → x.port.enabled ≡ true → IsFrame octets (Carries (pdu.Lacpdu v))
    → ReceivesAt (port_index n old.system_ports) octets old o new → (o ≡ TookLacpdu) × ThenSettles (OnlyPortChangesBy (Some k) (ProcessesLacpdu v)) old new
receives_lacpdu n k x octets v old o new place there up c h = let at = subst (λ i. ReceivesAt i octets old o new) place h in
    let same : at.0 ≡ x = same_Some at.0 x (sym at.2 ∙ there) in
    let parsed = subst (λ b. ParsesWhere b at.0 octets at.1) (ap (λ (y : SystemPort). y.port.enabled) same ∙ up) at.3 in
    let does = effect_one true at.0 octets at.1 _ parsed (Carries (pdu.Lacpdu v), c, refl) in
    subst (λ f. Performs f at.0.number (Some k) old o new) does at.4

-- sending

sends_flagged : (u d : Bool) (k : ℕ) (x : SystemPort) (old : SystemState) (o : Option (List ℕ)) (new : SystemState) → u ≡ true → d ≡ true
    → TransmitsIf u d k x old o new → SendsLacpdu k x old o new
sends_flagged u d k x old o new e f h = grind (arith, nat_tests)

pub sends_due : (i : Option ℕ) (k : ℕ) (x : SystemPort) (old : SystemState) (o : Option (List ℕ)) (new : SystemState) → i ≡ Some k
    → slice_get old.system_ports k ≡ Some x → x.port.enabled ≡ true → is_due x.port ≡ true → TransmitsAt i old o new → SendsLacpdu k x old o new
sends_due i k x old o new place there up due h = grind (arith, nat_tests, sends_flagged)

-- the cable after it
pub put_there : (s : Side) (p i : ℕ) (item : ItemValue) (l : LinkState) (links : List LinkState) → link_index s p links ≡ Some i → slice_get links i ≡ Some l
    → accepts s l ≡ true → put_on_port s p item links ≡ slice_set links i (with_towards (peer s) (towards (peer s) l ++ item ∷ []) l)
put_there s p i item l links e f g = grind (arith, nat_tests)

pub peer_there : (s : Side) (h : HalfState) (j : WorldState) → (half (peer s) (with_half s h j)).state ≡ (half (peer s) j).state
peer_there s h j = grind (arith, nat_tests)

emitted : (gives : Algorithms) (s : Side) (i k : ℕ) (l : LinkState) (x : SystemPort) (a : Result (Option (List ℕ)) SystemFault)
    (old new : WorldState) (mid : HalfState) (r : Reply) → link_index s (port_at s l) old.links ≡ Some i → slice_get old.links i ≡ Some l
    → accepts s l ≡ true → EndIsUp s l k x old → is_due x.port ≡ true
    → Step (gives s) (half s old).state (Transmit (port_at s l)) (answer.Transmit a) mid.state
    → AfterTransmit s (port_at s l) a (with_half s mid old) r new → IsSentOn s i k l x old new
emitted gives s i k l x (Err fault) old new mid r cable there accepted end due h after = grind (arith, nat_tests)
emitted gives s i k l x (Ok None) old new mid r cable there accepted end due h after = grind (arith, nat_tests)
emitted gives s i k l x (Ok (Some frame)) old new mid r cable there accepted end due h after = grind (arith, nat_tests)

pub emit_sends : (gives : Algorithms) → EmitSendsLacpdu gives
emit_sends gives n s i k l x r old new is cable there accepted end due h = let v = value_of (side_of n) _ h.0 in
    let same : v.0 ≡ s = same_Some v.0 s (sym v.1 ∙ is) in
    let e = subst (λ t. WorldEmits gives t (port_at s l) old r (record new { acted = old.acted })) same v.2 in
    let sent = emitted gives s i k l x e.0 old (record new { acted = old.acted }) e.1 r cable there accepted end due e.2.answers.step e.3 in
    record { item = sent.item; lacpdu = sent.lacpdu; last = sent.last; sender = sent.sender; peer = sent.peer }

delivered : (gives : Algorithms) (s : Side) (i k : ℕ) (l : LinkState) (x y : SystemPort) (d : ℕ) (item : ItemValue) (rest : List ItemValue)
    (r : Reply) (old new : WorldState) → slice_get old.links i ≡ Some l → EndIsUp s l k y old → IsLacpduOf d x item.octets
    → WorldReceives gives s (port_at s l) item (with_link_at i (with_towards s rest l) old) r new → IsHeardOn s i k l x d rest old new
delivered gives s i k l x y d item rest r old new there end is (Err fault, mid, h, after) = grind (arith, nat_tests)
delivered gives s i k l x y d item rest r old new there end is (Ok o, mid, h, after) =
    let took = receives_lacpdu (port_at s l) k y item.octets (pdu_of x.port d) (half s old).state o mid.state end.place end.there end.up
    (sent_carries item.octets (pdu.Lacpdu (pdu_of x.port d)) (lacpdu_is_sent d x item.octets is)) h.answers.step in
    let j = with_link_at i (with_towards s rest l) old in
    let next = subst (λ a. AfterReceive s (port_at s l) item (Ok a) (with_half s mid j) r new) took.0 after in
    record {
      processed = subst (ThenSettles (OnlyPortChangesBy (Some k) (ProcessesLacpdu (pdu_of x.port d))) (half s old).state)
          (sym (ap (λ (w : WorldState). (half s w).state) next.1 ∙ (ap (λ (h : HalfState). h.state) (half_there s _ (with_half s mid j))
          ∙ ap (λ (h : HalfState). h.state) (half_there s mid j)))) took.1;
      left = ap (λ (w : WorldState). w.links) next.1;
      peer = ap (λ (w : WorldState). (half (peer s) w).state) next.1 ∙ (peer_there s _ (with_half s mid j) ∙ (peer_there s mid j
          ∙ same_halves s old));
    }
  where
    same_halves : (s : Side) (old : WorldState) → (half (peer s) (with_link_at i (with_towards s rest l) old)).state ≡ (half (peer s) old).state
    same_halves One old = refl
    same_halves Two old = refl

-- what a Deliver event of a cable does with the first item
pub first_delivered : (gives : Algorithms) (n : ℕ) (s : Side) (i : ℕ) (l : LinkState) (item : ItemValue) (rest : List ItemValue) (r : Reply)
    (old new : WorldState) → side_of n ≡ Some s → slice_get old.links i ≡ Some l → towards s l ≡ item ∷ rest
    → WorldSteps gives old (event.Deliver (suc i) n) r new → DeliversFrom gives s i l (item ∷ rest) old r (record new { acted = old.acted })
first_delivered gives n s i l item rest r old new hyp1 hyp2 hyp3 hyp4 = grind (arith, nat_tests, value_of, same_Some, slice_get)

pub deliver_processes : (gives : Algorithms) → DeliverProcessesLacpdu gives
deliver_processes gives n s i k l x y d item rest r old new is there first end lacpdu h =
    let heard = delivered gives s i k l x y d item rest r old (record new { acted = old.acted }) there end lacpdu
    (first_delivered gives n s i l item rest r old new is there first h) in
    record { processed = heard.processed; left = heard.left; peer = heard.peer }
