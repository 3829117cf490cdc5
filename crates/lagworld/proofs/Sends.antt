-- What a system sends goes onto the cable as the model's message for its octets.
use Rattle.lagworld.proofs.Common.{Err, IsSome, List, Ok, Option, Result, Some, [], ap, length, option_map, refl, subst, sym, ℕ, ◌++◌, ◌∙◌, ◌∷◌, ◌≡◌}
use Rattle.lagworld.proofs.Common.{AggId, Pdu, pdu_in, pdu_read, written_pdu, Sends, Sends_frame, Message_pdu, ModelEvent, CallHappens, Control, Data}
use Rattle.lagworld.proofs.Common.{Happens, IsCabling, One, Side, Two, end_at, peer, put_in, stamp_of, Answer, SystemFault, Call, Offer, Transmit}
use Rattle.lagworld.proofs.Common.{IsSent, control_message, number_of_conversation, sent_payload, Reply, AfterOffer, AfterTransmit, WorldEmits}
use Rattle.lagworld.proofs.Common.{WorldOffers, offered_item, stamp_for, transmitted_item, with_frame_counted, with_item_sent, HalfAnswers}
use Rattle.lagworld.proofs.Common.{with_state, item_message, message_in, payload_in, model_taken, model_world, world_setup, HalfState, ItemValue}
use Rattle.lagworld.proofs.Common.{WorldState, change_count_in, change_flow, collected_in, flow_at, forced_in, half, history_at, is_accepted}
use Rattle.lagworld.proofs.Common.{put_on_port, sent_in, taken_in, with_half, with_sent}
use native.Mathlib.Omega.{arith}
use Rattle.lagmodel.specs.World.{Event}
use Rattle.lagworld.proofs.OneSystem.{told_moves, Leaves, after_call, keeping_call, quiet_call, flows_kept, history_kept}
use Rattle.slowpdu.specs.declared.pdu.MarkerKind.TheVariants as kind
use Rattle.slowpdu.specs.declared.pdu.Pdu.TheVariants as pdu
use Rattle.lagsystem.specs.declared.drive.Reply.TheVariants as answer
use Rattle.lagworld.proofs.Cables.{put_away, put_towards, put_whole}
use Rattle.lagworld.proofs.Flows.{read_changed, read_same}
use Rattle.lagworld.proofs.Sides.{half_there, numbered_side}
use Rattle.lagworld.proofs.OfferLemmas.{same_number}

-- what is sent reads as what was sent
pub sent_read : (frame : List ℕ) (v : Pdu) → IsSent frame v → pdu_in (payload_in frame) ≡ v
sent_read frame v h = pdu_read (payload_in frame) v (written_pdu (payload_in frame) v (sent_payload frame v h))

-- the message that goes onto the cable
pub stamped : (octets : List ℕ) (v : Pdu) (n : ℕ) → pdu_in (payload_in octets) ≡ v
    → message_in octets (stamp_for v n) ≡ Control (control_message v) (stamp_of (control_message v) n)
stamped octets v n e = grind arith

-- what a PDU that is sent leaves, where the system alone changed
pub sends_beside : (s : Side) (p : ℕ) (pdu : Message_pdu) (item : ItemValue) (count : ℕ) (h : HalfState) (j : WorldState) → h ≡ with_state h.state (half s j)
    → IsCabling (world_setup j).cables → item_message item ≡ Control pdu (stamp_of pdu count) → count ≡ (model_world j).count s p → (stamp : ℕ)
    → Leaves s stamp (is_accepted s p j.links) (Some (Sends p pdu)) h (put_on_port s p item j.links) j
sends_beside s p pdu item count h j same one e n stamp = record {
  away = λ c. put_away s p item j.links (one s) c
      ∙ ap (λ m. put_in (end_at (world_setup j).cables s) (model_world j).whole (is_accepted s p j.links) p m
      ((model_world j).on_cable (peer s)) c) (e ∙ ap (λ n. Control pdu (stamp_of pdu n)) n);
  towards = put_towards s p item j.links;
  whole = put_whole s p item j.links;
  taken = λ q. ap (λ (h : HalfState). option_map model_taken (taken_in (history_at h.histories q))) same;
  sent = λ g k. ap (λ (h : HalfState). sent_in (flow_at h.flows g k)) same;
  collected = λ g k. ap (λ (h : HalfState). collected_in (flow_at h.flows g k)) same;
  forced = λ g k. ap (λ (h : HalfState). forced_in (flow_at h.flows g k)) same;
}

-- so of a call
pub sends_pdu : {gives : ℕ → ℕ → ℕ → Type 0} {call : Call} {a : Answer} (s : Side) (p : ℕ) (pdu : Message_pdu) (item : ItemValue) (count : ℕ)
    (h : HalfState) (j : WorldState) → HalfAnswers gives call a (half s j) h → IsCabling (world_setup j).cables
    → item_message item ≡ Control pdu (stamp_of pdu count) → count ≡ (model_world j).count s p
    → (stamp : ℕ) → Leaves s stamp (is_accepted s p j.links) (Some (Sends p pdu)) h (put_on_port s p item j.links) j
sends_pdu s p pdu item count h j x one e n stamp = sends_beside s p pdu item count h j x.same one e n stamp

emitted : (gives : ℕ → ℕ → ℕ → Type 0) (s : Side) (p : ℕ) (a : Result (Option (List ℕ)) SystemFault) (mid : HalfState) (r : Reply) (old new : WorldState)
    → IsCabling (world_setup old).cables → HalfAnswers gives (Transmit p) (answer.Transmit a) (half s old) mid → AfterTransmit s p a (with_half s mid old) r new
    → CallHappens (world_setup old) s ModelEvent.Transmit 0 (model_world old) (model_world old) (model_world new)
emitted gives s p (Ok (Some frame)) mid r old new one x y = let v = pdu_in (payload_in frame) in
    let h = half s (with_half s mid old) in
    let item = transmitted_item s p frame h in
    let count = change_count_in (history_at h.histories p) in
    let kept : count ≡ (model_world old).count s p = ap (λ (h : HalfState). change_count_in (history_at h.histories p))
    (half_there s mid old ∙ x.same) in
    let m = x.answers.moves in
    keeping_call s ModelEvent.Transmit 0 (is_accepted s p old.links) (Some (Sends p (control_message v))) mid
    (put_on_port s p item old.links) old new y.1 (λ e. cc) refl
    (sends_pdu s p (control_message v) item count mid old x one (stamped frame v count refl) kept 0)
    (told_moves (half s old).state mid.state m.2 (m.3.2 ∙ ap (λ v. Sends p (control_message v) ∷ []) (sym (sent_read frame m.3.0 m.3.1))) m.4)
    (λ q. ap change_count_in (history_kept x q))
emitted gives s p a mid r old new one x y = let m = x.answers.moves in
    quiet_call gives s (Transmit p) (answer.Transmit a) ModelEvent.Transmit 0 mid old new x y.1 (λ e. cc) refl
    (told_moves (half s old).state mid.state m.2 m.3 m.4)

-- A port sends what is due.
pub emit_happens : (gives : Side → ℕ → ℕ → ℕ → Type 0) (s : Side) (p : ℕ) (r : Reply) (old new : WorldState) → IsCabling (world_setup old).cables
    → WorldEmits gives s p old r new → Happens (world_setup old) (Event.Emit s p) (model_world old) (model_world new)
emit_happens gives s p r old new one x = emitted (gives s) s p x.0 x.1 r old new one x.2 x.3

offered_calls : (gives : ℕ → ℕ → ℕ → Type 0) (s : Side) (agg : AggId) (octets : List ℕ) (a : Result ℕ SystemFault) (mid : HalfState)
    (r : Reply) (old new : WorldState) → IsCabling (world_setup old).cables
    → HalfAnswers gives (Offer agg octets) (answer.Offer a) (half s old) mid → AfterOffer s agg octets a (with_half s mid old) r new
    → CallHappens (world_setup old) s ModelEvent.Offer 0 (model_world old) (model_world old) (model_world new)
offered_calls gives s agg octets (Err fault) mid r old new one x y = let m = x.answers.moves in
    quiet_call gives s (Offer agg octets) (answer.Offer (Err fault)) ModelEvent.Offer 0 mid old new x y.1 (λ e. cc) refl
    (told_moves (half s old).state mid.state m.2 m.3 m.4)
offered_calls gives s agg octets (Ok port) mid r old new one x y = let k = number_of_conversation mid.state octets in
    let item = offered_item s port agg octets mid in
    let flows = flows_kept x in
    let there : IsSome (flow_at (half s old).flows agg.0 k) = subst (λ f. IsSome (flow_at f agg.0 k)) flows
    (subst (λ (h : HalfState). IsSome (flow_at h.flows agg.0 (number_of_conversation h.state octets))) (half_there s mid old) y.0) in
    let m = x.answers.moves in
    keeping_call s ModelEvent.Offer 0 (is_accepted s port old.links) (Some (Sends_frame port agg.0 k)) (with_frame_counted agg octets mid)
    (put_on_port s port item old.links) old new (y.2 ∙ same_joint s agg octets port mid old) (λ e. cc) refl
    (record {
      away = λ c. put_away s port item old.links (one s) c
          ∙ ap (λ m. put_in (end_at (world_setup old).cables s) (model_world old).whole (is_accepted s port old.links) port m
          ((model_world old).on_cable (peer s)) c)
          (ap (λ t. Data t agg.0 k (length (sent_in (flow_at mid.flows agg.0 k)))) (numbered_side s)
          ∙ ap (λ f. Data s agg.0 k (length (sent_in (flow_at f agg.0 k)))) flows);
      towards = put_towards s port item old.links;
      whole = put_whole s port item old.links;
      taken = λ q. ap (λ o. option_map model_taken (taken_in o)) (history_kept x q);
      sent = λ g j. ap (λ f. sent_in (flow_at (change_flow with_sent agg.0 k f) g j)) flows
          ∙ read_changed sent_in with_sent (λ l. l ++ length l ∷ []) agg.0 k (half s old).flows (λ x. refl) there g j;
      collected = λ g j. ap (λ f. collected_in (flow_at (change_flow with_sent agg.0 k f) g j)) flows
          ∙ read_same collected_in with_sent agg.0 k (half s old).flows (λ x. refl) g j;
      forced = λ g j. ap (λ f. forced_in (flow_at (change_flow with_sent agg.0 k f) g j)) flows
          ∙ read_same forced_in with_sent agg.0 k (half s old).flows (λ x. refl) g j;
    })
    (told_moves (half s old).state mid.state m.2
    (m.3 ∙ ap (λ n. Sends_frame port agg.0 n ∷ []) (same_number octets (half s old).state mid.state x.answers.conversations)) m.4)
    (λ q. ap change_count_in (history_kept x q))
  where
    same_joint : (s : Side) (agg : AggId) (octets : List ℕ) (port : ℕ) (mid : HalfState) (old : WorldState)
        → with_item_sent s port (offered_item s port agg octets (half s (with_half s mid old)))
        (with_half s (with_frame_counted agg octets (half s (with_half s mid old))) (with_half s mid old))
        ≡ after_call s (with_frame_counted agg octets mid) (put_on_port s port (offered_item s port agg octets mid) old.links) old
    same_joint One agg octets port mid old = refl
    same_joint Two agg octets port mid old = refl

-- A frame is offered: of a conversation of which serials are kept.
pub offer_happens : (gives : Side → ℕ → ℕ → ℕ → Type 0) (s : Side) (agg : AggId) (octets : List ℕ) (r : Reply) (old new : WorldState)
    → IsCabling (world_setup old).cables → WorldOffers gives s agg octets old r new
    → Happens (world_setup old) (Event.Offer s agg.0 octets) (model_world old) (model_world new)
offer_happens gives s agg octets r old new one x = offered_calls (gives s) s agg octets x.0 x.1 r old new one x.2 x.3
