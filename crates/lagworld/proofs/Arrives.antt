-- What an item that arrives on a port does.
use Rattle.lagworld.proofs.Common.{Bool, IsSome, List, None, Ok, Option, Result, Some, [], ap, arith, cond, eqb, eqb-true, false, if◌then◌else◌, inl}
use Rattle.lagworld.proofs.Common.{inr, map, option_map, refl, slice_get, subst, suc, sym, true, ℕ, ◌++◌, ◌==◌, ◌∙◌, ◌∷◌, ◌≡◌, ◌⊎◌, cases_Bool}
use Rattle.lagworld.proofs.Common.{true≢false, option_to_list, AggId, Lacpdu, Pdu, IsSlowProtocolsFrame, Reads, lacpdu_in, number_at, pdu_read, Act}
use Rattle.lagworld.proofs.Common.{LawfulMoves, Sends, Took, Message_pdu, ModelEvent, CallHappens, Control, Data, DeliversFirst, Happens, IsCabling}
use Rattle.lagworld.proofs.Common.{LosesFirst, Message, One, Receives, RepeatsFirst, Side, Two, WorldSetup, at_side, at_two, handed_up, peer}
use Rattle.lagworld.proofs.Common.{stamp_of, with_messages, same_world, Stamp, SystemFault, Received, Receive, EffectsSeenAs, FrameSeenAs}
use Rattle.lagworld.proofs.Common.{JoinedByLawfulMoves, control_message, model_lacpdu, model_setup, model_view, SystemState, PortHistory}
use Rattle.lagworld.proofs.Common.{StampedLacpdu, Reply, AfterReceive, DeliversFrom, LosesFrom, RepeatsFrom, RepeatsItem, WorldReceives}
use Rattle.lagworld.proofs.Common.{set_last_lacpdu, stamped_in, with_collected_in, with_last_lacpdu, with_link_at, HalfAnswers, set_taken}
use Rattle.lagworld.proofs.Common.{item_message, message_in, payload_in, side_numbered, stamp_count, link_ends, messages, model_taken, model_world}
use Rattle.lagworld.proofs.Common.{world_setup, AreItems, IsItem, HalfState, ItemValue, LinkState, WorldState, change_count_in, collected_in, flow_at}
use Rattle.lagworld.proofs.Common.{forced_in, half, history_at, is_accepted, port_at, put_on_port, sent_in, taken_in, towards, with_collected}
use Rattle.lagworld.proofs.Common.{with_half, with_towards}
use Rattle.slowpdu.specs.Readings.{pdu_in}
use Rattle.lagmodel.specs.World.{Event}
use Rattle.lagworld.proofs.OneSystem.{told_moves, Leaves, after_call, fixed_kept, history_kept, keeping_call, histories_kept, quietly, flows_kept}
use Rattle.cables.specs.declared.item.Stamp.TheVariants as stamp
use Rattle.slowpdu.specs.declared.pdu.Pdu.TheVariants as pdu
use Rattle.lagmodel.proofs.Brings.{moves_bring}
use Rattle.lagsystem.specs.declared.received.Received.TheVariants as received
use Rattle.lagsystem.specs.declared.drive.Reply.TheVariants as answer
use Rattle.lagworld.proofs.Sides.{half_after, kept_at}
use Rattle.lagworld.proofs.Cables.{mapped_set, end_is}
use Rattle.lagworld.proofs.Flows.{read_changed, read_same}
use Rattle.lagworld.proofs.Happens.{popped_world}
use Rattle.lagworld.proofs.Sends.{sent_read, stamped, sends_pdu}

-- what a call brings, by the item that came: a control PDU, or nothing
abbrev pub brought : List ℕ → Stamp → Option Message_pdu
brought octets (stamp.Control count) = Some (control_message (pdu_in (payload_in octets)))
brought octets (stamp.Data system agg conv serial) = None

-- a data frame is no control frame
abbrev pub IsTrue_to : List ℕ → Stamp → Type 0
IsTrue_to octets (stamp.Control count) = Unit {0}
IsTrue_to octets (stamp.Data system agg conv serial) = IsSlowProtocolsFrame octets → ⊥

-- what others see of an answer to an item
abbrev pub act_of : ℕ → List ℕ → Result Received SystemFault → Option Act
act_of p octets (Ok received.TookLacpdu) = Some (Took p (model_lacpdu (lacpdu_in (payload_in octets))))
act_of p octets (Ok (received.Respond frame)) = Some (Sends p (control_message (pdu_in (payload_in frame))))
act_of p octets _ = None

-- the LACPDU that a payload holds
abbrev lacpdu_or : Lacpdu → Pdu → Lacpdu
lacpdu_or v (pdu.Lacpdu w) = w
lacpdu_or v (pdu.Marker m) = v

holds_lacpdu : (b : List ℕ) → number_at b 0 1 ≡ 1 → pdu_in b ≡ pdu.Lacpdu (lacpdu_in b)
unfolding pdu_in
holds_lacpdu b e = rw e refl

pub lacpdu_read : (b : List ℕ) (v : Lacpdu) → Reads b v → lacpdu_in b ≡ v
lacpdu_read b v h = ap (lacpdu_or v) (sym (holds_lacpdu b h.table.fields_hold.0) ∙ pdu_read b (pdu.Lacpdu v) h)

brought_by : (octets : List ℕ) (st : Stamp) (o : Option Message_pdu) → IsTrue_to octets st → FrameSeenAs octets o → (o ≡ None) ⊎ (o ≡ brought octets st)
brought_by octets st o t b = grind (arith, control_message, pdu_read, payload_in)

seen_act : (s : SystemState) (p : ℕ) (octets : List ℕ) (a : Result Received SystemFault) (seen : List Act)
    → EffectsSeenAs s (Receive p octets) (answer.Receive a) seen → seen ≡ option_to_list (act_of p octets a)
seen_act s p octets (Ok received.TookLacpdu) seen h = grind (arith, model_lacpdu, lacpdu_read, payload_in)
seen_act s p octets (Ok (received.Respond frame)) seen h = h.2
    ∙ ap (λ v. Sends p (control_message v) ∷ []) (sym (sent_read frame (pdu.Marker h.0) h.1))
seen_act s p octets a seen h = h

-- What a received item lets a system do, by what it stands for.
pub told_receive : (p : ℕ) (octets : List ℕ) (st : Stamp) (a : Result Received SystemFault) (old new : SystemState) → IsTrue_to octets st
    → JoinedByLawfulMoves old (Receive p octets) (answer.Receive a) new
    → LawfulMoves (model_setup old) (ModelEvent.Receive p (brought octets st)) (model_view old) (option_to_list (act_of p octets a)) (model_view new)
told_receive p octets st a old new t h = let moves = told_moves old new h.2.2 (seen_act old p octets a h.1 h.3) h.4 in
    grind (arith, brought_by, moves_bring, model_setup, brought, model_view, option_to_list, act_of, told_moves)

-- The history of a port, after an LACPDU was recorded for one.
heard : (p : ℕ) (lacpdu : StampedLacpdu) (q : ℕ) (histories : List PortHistory) → history_at (set_last_lacpdu p lacpdu histories) q
    ≡ (if q == p then option_map (set_taken lacpdu) (history_at histories q) else history_at histories q)
heard p lacpdu q [] = elim (cases_Bool (q == p)) [ inl e ↦ rw e refl | inr e ↦ rw e refl ]
heard p lacpdu q (history ∷ histories) = let ih = heard p lacpdu q histories in grind arith

-- what does not read the LACPDU, or reads another port, reads the same
pub read_log : {X : Type 0} (read : Option PortHistory → X) (p : ℕ) (lacpdu : StampedLacpdu) (q : ℕ)
    → ((history : PortHistory) → (q ≡ p → ⊥) ⊎ (read (Some (set_taken lacpdu history)) ≡ read (Some history)))
    → (histories : List PortHistory) → read (history_at (set_last_lacpdu p lacpdu histories) q) ≡ read (history_at histories q)
read_log read p lacpdu q same histories = grind (arith, heard, history_at, option_map, set_taken, eqb-true)

pub count_heard : (p : ℕ) (lacpdu : StampedLacpdu) (q : ℕ) (histories : List PortHistory)
    → change_count_in (history_at (set_last_lacpdu p lacpdu histories) q) ≡ change_count_in (history_at histories q)
count_heard p lacpdu q histories = read_log change_count_in p lacpdu q (λ history. inr refl) histories

-- the LACPDU that a port took last
taken_heard : (p : ℕ) (lacpdu : StampedLacpdu) (histories : List PortHistory) → IsSome (history_at histories p) → (q : ℕ)
    → option_map model_taken (taken_in (history_at (set_last_lacpdu p lacpdu histories) q)) ≡ cond (eqb q p) (Some (model_taken lacpdu))
    (option_map model_taken (taken_in (history_at histories q)))
taken_heard p lacpdu histories h q = grind (arith, option_map, model_taken, taken_in, heard, history_at, eqb-true, set_taken)

-- A call that an item made, in j, from which that item was taken away: no answer but `Up` looks at what the item is.
abbrev ItemCame : Side → ℕ → ItemValue → WorldState → WorldState → Type 0
ItemCame s p item j new = CallHappens (world_setup j) s (ModelEvent.Receive p (brought item.octets item.stamp)) (stamp_count item.stamp)
    (model_world j) (model_world j) (model_world new)

-- A call that an item made, in j, from which that item was taken away: no answer but `Up` looks at what the item is.
came : (gives : ℕ → ℕ → ℕ → Type 0) (s : Side) (p : ℕ) (item : ItemValue) (a : Result Received SystemFault) (mid : HalfState)
    (histories : List PortHistory) (ls : List LinkState) (kept : Bool) (j new : WorldState)
    → new ≡ after_call s (record mid { histories = histories }) ls j → IsTrue_to item.octets item.stamp
    → HalfAnswers gives (Receive p item.octets) (answer.Receive a) (half s j) mid
    → ((q : ℕ) → change_count_in (history_at histories q) ≡ change_count_in (history_at (half s j).histories q))
    → Leaves s (stamp_count item.stamp) kept (act_of p item.octets a) (record mid { histories = histories }) ls j
    → ItemCame s p item j new
came gives s p item a mid histories ls kept j new is t x counts q =
    keeping_call s (ModelEvent.Receive p (brought item.octets item.stamp)) (stamp_count item.stamp) kept (act_of p item.octets a)
    (record mid { histories = histories }) ls j new is (λ e. cc) refl q
    (told_receive p item.octets item.stamp a (half s j).state mid.state t x.answers.moves) counts

silent : (gives : ℕ → ℕ → ℕ → Type 0) (s : Side) (p : ℕ) (item : ItemValue) (a : Result Received SystemFault) (mid : HalfState) (j new : WorldState)
    → IsTrue_to item.octets item.stamp → act_of p item.octets a ≡ None → HalfAnswers gives (Receive p item.octets) (answer.Receive a) (half s j) mid
    → new ≡ with_half s mid j → ItemCame s p item j new
silent gives s p item a mid j new t none x e =
    came gives s p item a mid mid.histories j.links true j new e t x (λ q. ap change_count_in (history_kept x q))
    (subst (λ o. Leaves s (stamp_count item.stamp) true o mid j.links j) (sym none)
    (quietly s (stamp_count item.stamp) mid j (flows_kept x) (λ q. ap taken_in (history_kept x q))))

abbrev is_up : Result Received SystemFault → Bool
is_up (Ok (received.Up agg)) = true
is_up _ = false

-- an item comes and is not handed up
arrived : (gives : ℕ → ℕ → ℕ → Type 0) (s : Side) (p : ℕ) (item : ItemValue) (a : Result Received SystemFault) (mid : HalfState) (r : Reply)
    (j new : WorldState) → IsCabling (world_setup j).cables → IsSome (history_at (half s j).histories p)
    → IsTrue_to item.octets item.stamp → is_up a ≡ false → HalfAnswers gives (Receive p item.octets) (answer.Receive a) (half s j) mid
    → AfterReceive s p item a (with_half s mid j) r new → ItemCame s p item j new
arrived gives s p item (Ok (received.Up agg)) mid r j new one history t u x y = absurd (true≢false u)
arrived gives s p item (Ok received.TookLacpdu) mid r j new one history t u x y =
    came gives s p item (Ok received.TookLacpdu) mid (set_last_lacpdu p (stamped_in item) mid.histories) j.links true j new
    (y.1 ∙ written s (stamped_in item) mid j) t x
    (λ q. count_heard p (stamped_in item) q mid.histories ∙ ap change_count_in (history_kept x q))
    (record {
      away = λ c. refl;
      towards = λ c. refl;
      whole = λ c. refl;
      taken = λ q. ap (λ l. option_map model_taken (taken_in (history_at (set_last_lacpdu p (stamped_in item) l) q))) (histories_kept x)
          ∙ taken_heard p (stamped_in item) (half s j).histories history q;
      sent = λ g k. ap (λ f. sent_in (flow_at f g k)) (flows_kept x);
      collected = λ g k. ap (λ f. collected_in (flow_at f g k)) (flows_kept x);
      forced = λ g k. ap (λ f. forced_in (flow_at f g k)) (flows_kept x);
    })
  where
    written : (s : Side) (lacpdu : StampedLacpdu) (mid : HalfState) (j : WorldState)
        → with_half s (with_last_lacpdu p lacpdu (half s (with_half s mid j))) (with_half s mid j) ≡ with_half s (with_last_lacpdu p lacpdu mid) j
    written One lacpdu mid j = refl
    written Two lacpdu mid j = refl
arrived gives s p item (Ok (received.Respond frame)) mid r j new one history t u x y =
    let reply : ItemValue = record { octets = frame; stamp = stamp.Control 0 } in
    let v = pdu_in (payload_in frame) in
    came gives s p item (Ok (received.Respond frame)) mid mid.histories (put_on_port s p reply j.links) (is_accepted s p j.links) j new y.1
    t x (λ q. ap change_count_in (history_kept x q))
    (sends_pdu s p (control_message v) reply ((model_world j).count s p) mid j x one (answers x) refl (stamp_count item.stamp))
  where
    answers : HalfAnswers gives (Receive p item.octets) (answer.Receive (Ok (received.Respond frame))) (half s j) mid
        → message_in frame (stamp.Control 0) ≡ Control (control_message (pdu_in (payload_in frame)))
        (stamp_of (control_message (pdu_in (payload_in frame))) ((model_world j).count s p))
    answers x = let sees = x.answers.moves.3 in
        let same : pdu_in (payload_in frame) ≡ pdu.Marker sees.0 = sent_read frame (pdu.Marker sees.0) sees.1 in
        stamped frame (pdu.Marker sees.0) ((model_world j).count s p) same
        ∙ ap (λ v. Control (control_message v) (stamp_of (control_message v) ((model_world j).count s p))) (sym same)
arrived gives s p item a mid r j new one history t u x y = silent gives s p item a mid j new t refl x y.1

-- a control frame comes
control_came : (gives : ℕ → ℕ → ℕ → Type 0) (s : Side) (p : ℕ) (octets : List ℕ) (count : ℕ) (a : Result Received SystemFault)
    (mid : HalfState) (r : Reply) (j new : WorldState) → IsCabling (world_setup j).cables → IsSome (history_at (half s j).histories p)
    → HalfAnswers gives (Receive p octets) (answer.Receive a) (half s j) mid
    → AfterReceive s p (record { octets = octets; stamp = stamp.Control count }) a (with_half s mid j) r new
    → ItemCame s p (record { octets = octets; stamp = stamp.Control count }) j new
control_came gives s p octets count (Ok (received.Up agg)) mid r j new one history x y =
    silent gives s p (record { octets = octets; stamp = stamp.Control count }) (Ok (received.Up agg)) mid j new tt refl x y.1
control_came gives s p octets count a mid r j new one history x y =
    arrived gives s p (record { octets = octets; stamp = stamp.Control count }) a mid r j new one history tt refl x y

-- a data frame comes
record IsData (s : Side) (octets : List ℕ) (system agg conv : ℕ) (j : WorldState) : Type 0 where
  origin : side_numbered system ≡ peer s
  there : IsSome (flow_at (half (peer s) j).flows agg conv)
  plain : IsSlowProtocolsFrame octets → ⊥

abbrev after_up : Side → ℕ → ℕ → ℕ → WorldState → WorldState
after_up t agg conv serial j = with_half t (with_collected_in agg conv serial (half t j)) j

handed_world : (t : Side) (agg conv serial : ℕ) (j : WorldState) → IsSome (flow_at (half t j).flows agg conv)
    → model_world (after_up t agg conv serial j) ≡ handed_up true (Data t agg conv serial) (model_world j)
handed_world s agg conv serial j there = let fl = (half s j).flows in
    let h = with_collected_in agg conv serial (half s j) in
    let now : (λ g k. collected_in (flow_at h.flows g k)) ≡ at_two ((model_world j).collected s) agg conv
    ((model_world j).collected s agg conv ++ serial ∷ []) =
    (λ i g k. read_changed collected_in (with_collected serial) (λ l. l ++ serial ∷ []) agg conv fl (λ x. refl) there g k i) in
    same_world _ _ (kept_at (λ x. model_view x.state) s h j refl) (λ c. refl) (λ t c. refl)
    (λ t p. kept_at (λ x. change_count_in (history_at x.histories p)) s h j refl t)
    (λ t p. kept_at (λ x. option_map model_taken (taken_in (history_at x.histories p))) s h j refl t)
    (λ t g k. kept_at (λ x. sent_in (flow_at x.flows g k)) s h j
    (read_same sent_in (with_collected serial) agg conv fl (λ x. refl) g k) t)
    (λ t g k. ap (λ (f : ℕ → ℕ → List ℕ). f g k) (half_after (λ x g k. collected_in (flow_at x.flows g k)) s h j t
    ∙ ap (λ v. at_side (model_world j).collected s v t) now))
    (λ t g k. kept_at (λ x. forced_in (flow_at x.flows g k)) s h j
    (read_same forced_in (with_collected serial) agg conv fl (λ x. refl) g k) t)

-- the moves of a call of s, and then a frame collected at its peer, or the other way round
turned : (s : Side) (mid : HalfState) (agg conv serial : ℕ) (j : WorldState)
    → after_up (peer s) agg conv serial (with_half s mid j) ≡ with_half s mid (after_up (peer s) agg conv serial j)
turned s mid agg conv serial j = grind arith

half_up : (s : Side) (agg conv serial : ℕ) (j : WorldState) → half s (after_up (peer s) agg conv serial j) ≡ half s j
half_up s agg conv serial j = grind arith

up_came : (gives : ℕ → ℕ → ℕ → Type 0) (s : Side) (p : ℕ) (octets : List ℕ) (agg conv serial : ℕ) (up : AggId) (mid : HalfState)
    (j : WorldState) → IsSome (flow_at (half (peer s) j).flows agg conv) → (IsSlowProtocolsFrame octets → ⊥)
    → HalfAnswers gives (Receive p octets) (answer.Receive (Ok (received.Up up))) (half s j) mid
    → CallHappens (world_setup j) s (ModelEvent.Receive p None) 0 (model_world j)
    (handed_up true (Data (peer s) agg conv serial) (model_world j))
    (model_world (after_up (peer s) agg conv serial (with_half s mid j)))
up_came gives s p octets agg conv serial up mid j there plain x = let after = after_up (peer s) agg conv serial j in
    let fixed = fixed_kept (peer s) (with_collected_in agg conv serial (half (peer s) j)) j refl in
    let world = handed_world (peer s) agg conv serial j there in
    let asked : HalfAnswers gives (Receive p octets) (answer.Receive (Ok (received.Up up))) (half s after) mid =
    subst (λ h. HalfAnswers gives (Receive p octets) (answer.Receive (Ok (received.Up up))) h mid)
    (sym (half_up s agg conv serial j)) x in
    subst (λ (X : Type 0). X)
    (λ i. CallHappens (fixed i) s (ModelEvent.Receive p None) 0 (world i) (world i) (model_world (sym (turned s mid agg conv serial j) i)))
    (silent gives s p (record { octets = octets; stamp = stamp.Data 0 0 0 0 }) (Ok (received.Up up)) mid after (with_half s mid after)
    plain refl asked refl)

abbrev DataCame : Side → ℕ → ℕ → ℕ → ℕ → ℕ → WorldState → WorldState → Type 0
DataCame s p system agg conv serial j new =
    (up : Bool) × CallHappens (world_setup j) s (ModelEvent.Receive p None) 0 (model_world j)
    (handed_up up (Data (side_numbered system) agg conv serial) (model_world j)) (model_world new)

data_came : (gives : ℕ → ℕ → ℕ → Type 0) (s : Side) (p : ℕ) (octets : List ℕ) (system agg conv serial : ℕ) (a : Result Received SystemFault)
    (mid : HalfState) (r : Reply) (j new : WorldState) → IsCabling (world_setup j).cables → IsSome (history_at (half s j).histories p)
    → IsData s octets system agg conv j → HalfAnswers gives (Receive p octets) (answer.Receive a) (half s j) mid
    → AfterReceive s p (record { octets = octets; stamp = stamp.Data system agg conv serial }) a (with_half s mid j) r new
    → DataCame s p system agg conv serial j new
data_came gives s p octets system agg conv serial (Ok (received.Up up)) mid r j new one history d x y =
    let here : after_up (peer s) agg conv serial (with_half s mid j) ≡ new =
    ap (λ t. after_up t agg conv serial (with_half s mid j)) (sym d.origin) ∙ sym y.1 in (
      true,
      subst (λ (X : Type 0). X)
          (λ i. CallHappens (world_setup j) s (ModelEvent.Receive p None) 0 (model_world j)
          (handed_up true (Data (sym d.origin i) agg conv serial) (model_world j)) (model_world (here i)))
          (up_came gives s p octets agg conv serial up mid j d.there d.plain x),
    )
data_came gives s p octets system agg conv serial a mid r j new one history d x y = (
  false,
  arrived gives s p (record { octets = octets; stamp = stamp.Data system agg conv serial }) a mid r j new one history d.plain refl x y,
)

popped_fixed : (s : Side) (i : ℕ) (l : LinkState) (rest : List ItemValue) (old : WorldState) → slice_get old.links i ≡ Some l
    → world_setup (with_link_at i (with_towards s rest l) old) ≡ world_setup old
popped_fixed s i l rest old there = grind (arith, world_setup, mapped_set, link_ends, with_towards)

-- the first item of a cable comes, and is taken away
delivered : (gives : Side → ℕ → ℕ → ℕ → Type 0) (s : Side) (i : ℕ) (l : LinkState) (octets : List ℕ) (st : Stamp) (rest : List ItemValue)
    (r : Reply) (old new : WorldState) → slice_get old.links i ≡ Some l → IsCabling (world_setup old).cables
    → IsSome (history_at (half s old).histories (port_at s l)) → IsItem s octets st old
    → WorldReceives gives s (port_at s l) (record { octets = octets; stamp = st }) (with_link_at i (with_towards s rest l) old) r new
    → Receives (world_setup old) s (port_at s l) (message_in octets st) (model_world old)
    (with_messages (model_world old) (suc i) s (map item_message rest)) (model_world new)
delivered gives s i l octets (stamp.Control count) rest r old new there one history t x =
    let j = with_link_at i (with_towards s rest l) old in
    let f = popped_fixed s i l rest old there in
    let c = control_came (gives s) s (port_at s l) octets count x.0 x.1 r j new
    (subst (λ (x : WorldSetup). IsCabling x.cables) (sym f) one) history x.2 x.3 in
    let told : ModelEvent = ModelEvent.Receive (port_at s l) (Some (control_message (pdu_in (payload_in octets)))) in
    subst (λ w. CallHappens (world_setup old) s told count w w (model_world new)) (popped_world s i l rest old there)
    (subst (λ x. CallHappens x s told count (model_world j) (model_world j) (model_world new)) f c)
delivered gives s i l octets (stamp.Data system agg conv serial) rest r old new there one history t x =
    let j = with_link_at i (with_towards s rest l) old in
    let f = popped_fixed s i l rest old there in
    let c = data_came (gives s) s (port_at s l) octets system agg conv serial x.0 x.1 r j new
    (subst (λ (x : WorldSetup). IsCabling x.cables) (sym f) one) history (record { origin = t.0; there = t.1; plain = t.2 }) x.2 x.3 in
    let told : ModelEvent = ModelEvent.Receive (port_at s l) None in (
      c.0,
      subst
          (λ w. CallHappens (world_setup old) s told 0 w (handed_up c.0 (Data (side_numbered system) agg conv serial) w) (model_world new))
          (popped_world s i l rest old there)
          (subst (λ x. CallHappens x s told 0 (model_world j) (handed_up c.0 (Data (side_numbered system) agg conv serial) (model_world j))
          (model_world new)) f c.1),
    )

-- what the law finds on a cable
line_is : (s : Side) (i : ℕ) (l : LinkState) (xs : List ItemValue) (old : WorldState) → slice_get old.links i ≡ Some l → towards s l ≡ xs
    → (model_world old).on_cable s (suc i) ≡ map item_message xs
line_is s i l xs old there e = ap (messages s) there ∙ ap (map item_message) e

pub deliver_happens : (gives : Side → ℕ → ℕ → ℕ → Type 0) (s : Side) (i : ℕ) (l : LinkState) (xs : List ItemValue) (r : Reply) (old new : WorldState)
    → slice_get old.links i ≡ Some l → towards s l ≡ xs → IsCabling (world_setup old).cables → IsSome (history_at (half s old).histories (port_at s l))
    → AreItems s xs old → DeliversFrom gives s i l xs old r new → Happens (world_setup old) (Event.Deliver (suc i) s) (model_world old) (model_world new)
deliver_happens gives s i l xs r old new there e one history t x = subst (λ (X : Type 0). X)
    (λ k. DeliversFirst (world_setup old) (suc i) s (sym (end_is s old.links i l there) k) (sym (line_is s i l xs old there e) k)
    (model_world old) (model_world new)) (first xs t x)
  where
    first : (xs : List ItemValue) → AreItems s xs old → DeliversFrom gives s i l xs old r new
        → DeliversFirst (world_setup old) (suc i) s (Some (port_at s l)) (map item_message xs) (model_world old) (model_world new)
    first [] t x = ap model_world x.1
    first (item ∷ rest) t x = delivered gives s i l item.octets item.stamp rest r old new there one history t.0 x

-- the first item comes and stays
repeated : (gives : Side → ℕ → ℕ → ℕ → Type 0) (s : Side) (i : ℕ) (p : ℕ) (octets : List ℕ) (st : Stamp) (rest : List Message) (r : Reply)
    (old new : WorldState) → IsCabling (world_setup old).cables
    → IsSome (history_at (half s old).histories p) → RepeatsItem gives s p octets st old r new
    → RepeatsFirst (world_setup old) (suc i) s (Some p) (message_in octets st ∷ rest) (model_world old) (model_world new)
repeated gives s i p octets (stamp.Control count) rest r old new one history x = control_came (gives s) s p octets count x.0 x.1 r
    old new one history x.2 x.3
repeated gives s i p octets (stamp.Data system agg conv serial) rest r old new one history x = ap model_world x.1

pub repeat_happens : (gives : Side → ℕ → ℕ → ℕ → Type 0) (s : Side) (i : ℕ) (l : LinkState) (xs : List ItemValue) (r : Reply) (old new : WorldState)
    → slice_get old.links i ≡ Some l → towards s l ≡ xs → IsCabling (world_setup old).cables → IsSome (history_at (half s old).histories (port_at s l))
    → RepeatsFrom gives s l xs old r new → Happens (world_setup old) (Event.Repeat (suc i) s) (model_world old) (model_world new)
repeat_happens gives s i l xs r old new there e one history x = subst (λ (X : Type 0). X)
    (λ k. RepeatsFirst (world_setup old) (suc i) s (sym (end_is s old.links i l there) k) (sym (line_is s i l xs old there e) k)
    (model_world old) (model_world new)) (first xs x)
  where
    first : (xs : List ItemValue) → RepeatsFrom gives s l xs old r new
        → RepeatsFirst (world_setup old) (suc i) s (Some (port_at s l)) (map item_message xs) (model_world old) (model_world new)
    first [] x = ap model_world x.1
    first (item ∷ rest) x = repeated gives s i (port_at s l) item.octets item.stamp (map item_message rest) r old new one history x

-- the first item is lost
pub lose_happens : (s : Side) (i : ℕ) (l : LinkState) (xs : List ItemValue) (r : Reply) (old new : WorldState) → slice_get old.links i ≡ Some l
    → towards s l ≡ xs → LosesFrom s i l xs old r new → Happens (world_setup old) (Event.Lose (suc i) s) (model_world old) (model_world new)
lose_happens s i l [] r old new there e x = grind arith
lose_happens s i l (item ∷ rest) r old new there e x =
    subst (λ ms. LosesFirst (suc i) s ms (model_world old) (model_world new)) (sym (line_is s i l (item ∷ rest) old there e))
    (ap model_world x.1 ∙ popped_world s i l rest old there)
