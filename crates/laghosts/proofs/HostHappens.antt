-- Each of the five calls of hosts is events of the law, and nothing that is kept of a world goes.
use Rattle.laghosts.proofs.Common.{Bool, Err, IsSome, List, None, Ok, Option, Result, Some, [], ap, arith, length, nat_lt, option_map, refl, subst}
use Rattle.laghosts.proofs.Common.{sym, true, ℕ, ◌++◌, ◌<◌, ◌∙◌, ◌∷◌, ◌≡◌, nat_tests, AggId, Sends, Sends_frame, ModelEvent, CallHappens, Data, Event}
use Rattle.laghosts.proofs.Common.{Happens, IsCabling, One, Run, Side, Two, end_at, peer, put_in, SystemFault, OffersIf, frame_of_conversation}
use Rattle.laghosts.proofs.Common.{control_message, has_aggregator, system_force_result, conversation_count, number_of_conversation, Setting}
use Rattle.laghosts.proofs.Common.{SystemState, host_alone, with_sent_in, stamp_for, transmitted_item, with_item_sent, HalfAnswers}
use Rattle.laghosts.proofs.Common.{forced_if_accepted, with_state, item_message, payload_in, model_taken, model_world, world_setup, IsHalfSound}
use Rattle.laghosts.proofs.Common.{HalfState, ItemValue, WorldState, change_count_in, change_flow, collected_in, flow_at, forced_in, half, history_at}
use Rattle.laghosts.proofs.Common.{is_accepted, put_on_port, sent_in, taken_in, with_half, with_sent, read_changed, read_same, control_item, forces}
use Rattle.laghosts.proofs.Common.{peer_twice, half_there, numbered_side, Follows, IsShaped, flow_on, follows_half, follows_put, follows_same}
use Rattle.laghosts.proofs.Common.{follows_then, forced_there, AfterNumberedOffer, AfterProbe, CountsHeldIfOk, HalfSets, HalfTells, forced_if}
use Rattle.laghosts.proofs.Common.{is_held, numbered_item}
use Rattle.slowpdu.specs.declared.pdu.Pdu.{Pdu}
use Rattle.slowpdu.specs.Frames.{IsSlowProtocolsFrame}
use Rattle.slowpdu.specs.Readings.{pdu_in}
use Rattle.lagsystem.specs.Calls.{Force, Offer, Transmit}
use Rattle.lagsystem.specs.Leaving.{system_rest_result}
use Rattle.lagsystem.specs.declared.drive.HostCall.TheVariants as host
use Rattle.lagsystem.specs.declared.drive.HostReply.TheVariants as told
use Rattle.lagsystem.specs.declared.drive.Reply.TheVariants as answer
use Rattle.lagsystem.proofs.AssigningLemmas.{framed}
use Rattle.lagworld.proofs.Cables.{put_away, put_towards, put_whole}
use Rattle.lagworld.proofs.Forced.{forced_by, refused_same, with_itself}
use Rattle.laghosts.proofs.HeldForced.{forcing}
use Rattle.laghosts.proofs.HostCounts.{held_happen, held_in, still_there}
use Rattle.laghosts.proofs.HostHalves.{beside_on, flow_there, offer_refused, offered_there, table_on, setting_on}
use Rattle.lagworld.proofs.OneSystem.{after_call, flows_kept, history_kept, keeping_call, quietly, told_moves}
use Rattle.lagworld.proofs.Sends.{sends_beside, sent_read, stamped}

-- nothing that is kept of the world goes, and some events of the law lead there
pub record IsFollowed (old new : WorldState) : Type 0 where
  pub follows : Follows 0 old new
  pub events : List Event
  pub run : Run (world_setup old) events (model_world old) (model_world new)

one_event : (e : Event) (old new : WorldState) → Follows 0 old new → Happens (world_setup old) e (model_world old) (model_world new) → IsFollowed old new
one_event e old new f h = record { follows = f; events = e ∷ []; run = (model_world new, h, refl) }

-- a refusal leaves the world as it was
half_same : (old mid : HalfState) → mid ≡ with_state mid.state old → mid.state ≡ old.state → mid ≡ old
half_same old mid same e = same ∙ ap (λ (s : SystemState). with_state s old) e

no_event : (s : Side) (mid : HalfState) (old new : WorldState) → IsShaped old → mid ≡ half s old → new ≡ with_half s mid old → IsFollowed old new
no_event s mid old new i e y = let same : new ≡ old = y ∙ ap (λ h. with_half s h old) e ∙ with_itself s old in
    record { follows = follows_same old new i same; events = []; run = ap model_world same }

-- ---- a frame is offered by the number of its conversation

pub offered_joint : (s : Side) (agg : AggId) (conv : ℕ) (octets : List ℕ) (port : ℕ) (mid : HalfState) (old : WorldState)
    → with_item_sent s port (numbered_item s agg conv octets (half s (with_half s mid old)))
    (with_half s (with_sent_in agg.0 conv (half s (with_half s mid old))) (with_half s mid old))
    ≡ after_call s (with_sent_in agg.0 conv mid) (put_on_port s port (numbered_item s agg conv octets mid) old.links) old
offered_joint One agg conv octets port mid old = refl
offered_joint Two agg conv octets port mid old = refl

offer_happens : (gives : ℕ → ℕ → ℕ → Type 0) (s : Side) (agg : AggId) (conv : ℕ) (octets : List ℕ) (port : ℕ) (mid : HalfState)
    (old new : WorldState) → IsCabling (world_setup old).cables → IsHalfSound (half s old)
    → HalfTells gives (host.OfferConversation agg conv) (told.OfferConversation (Ok port)) (half s old) mid
    → AfterNumberedOffer s agg conv octets (Ok port) (with_half s mid old) new
    → Happens (world_setup old) (Event.Offer s agg.0 octets) (model_world old) (model_world new)
offer_happens gives s agg conv octets port mid old new one k x y =
    let known = offered_there (has_aggregator (half s old).state agg) (nat_lt conv (conversation_count (half s old).state)) gives agg conv
    (half s old).state port mid.state x.answers.0 in
    let there = flow_there (half s old) agg conv k known.0 known.1 in
    let small : conv < conversation_count (half s old).state = (let e = known.1 in grind (arith, nat_tests)) in
    let frame = frame_of_conversation conv in
    let named = framed (half s old).state conv small in
    let asked : HalfAnswers gives (Offer agg frame) (answer.Offer (Ok port)) (half s old) mid =
    record { answers = x.answers.1 frame named.0 named.1; same = x.same } in
    let item = numbered_item s agg conv octets mid in
    let flows = flows_kept asked in
    let m = asked.answers.moves in
    keeping_call s ModelEvent.Offer 0 (is_accepted s port old.links) (Some (Sends_frame port agg.0 conv)) (with_sent_in agg.0 conv mid)
    (put_on_port s port item old.links) old new (y ∙ offered_joint s agg conv octets port mid old) (λ e. cc) refl
    (record {
      away = λ c. put_away s port item old.links (one s) c
          ∙ ap (λ m. put_in (end_at (world_setup old).cables s) (model_world old).whole (is_accepted s port old.links) port m
          ((model_world old).on_cable (peer s)) c)
          (ap (λ t. Data t agg.0 conv (length (sent_in (flow_at mid.flows agg.0 conv)))) (numbered_side s)
          ∙ ap (λ f. Data s agg.0 conv (length (sent_in (flow_at f agg.0 conv)))) flows);
      towards = put_towards s port item old.links;
      whole = put_whole s port item old.links;
      taken = λ q. ap (λ o. option_map model_taken (taken_in o)) (history_kept asked q);
      sent = λ g j. ap (λ f. sent_in (flow_at (change_flow with_sent agg.0 conv f) g j)) flows
          ∙ read_changed sent_in with_sent (λ l. l ++ length l ∷ []) agg.0 conv (half s old).flows (λ x. refl) there g j;
      collected = λ g j. ap (λ f. collected_in (flow_at (change_flow with_sent agg.0 conv f) g j)) flows
          ∙ read_same collected_in with_sent agg.0 conv (half s old).flows (λ x. refl) g j;
      forced = λ g j. ap (λ f. forced_in (flow_at (change_flow with_sent agg.0 conv f) g j)) flows
          ∙ read_same forced_in with_sent agg.0 conv (half s old).flows (λ x. refl) g j;
    })
    (told_moves (half s old).state mid.state m.2 (m.3 ∙ ap (λ n. Sends_frame port agg.0 n ∷ []) named.1) m.4)
    (λ q. ap change_count_in (history_kept asked q))

offer_follows : (gives : ℕ → ℕ → ℕ → Type 0) (s : Side) (agg : AggId) (conv : ℕ) (octets : List ℕ) (port : ℕ) (mid : HalfState) (old new : WorldState)
    → IsShaped old → (IsSlowProtocolsFrame octets → ⊥) → HalfTells gives (host.OfferConversation agg conv) (told.OfferConversation (Ok port)) (half s old) mid
    → AfterNumberedOffer s agg conv octets (Ok port) (with_half s mid old) new → Follows 0 old new
offer_follows gives s agg conv octets port mid old new i fast x y = let k = i.kept s in
    let known = offered_there (has_aggregator (half s old).state agg) (nat_lt conv (conversation_count (half s old).state)) gives agg conv
    (half s old).state port mid.state x.answers.0 in
    let alone = host_alone gives (half s old).state (host.OfferConversation agg conv) (told.OfferConversation (Ok port)) mid.state x.answers tt in
    let on = beside_on (half s old) mid alone x.same k in
    let there : IsSome (flow_at mid.flows agg.0 conv) = on.flows agg.0 conv (flow_there (half s old) agg conv k known.0 known.1) in
    let asked = follows_half 0 s mid old i on in
    let j = with_half s mid old in
    let more = flow_on with_sent agg.0 conv (half s j) (asked.shaped.kept s) in
    let sent = follows_half 0 s (with_sent_in agg.0 conv (half s j)) j asked.shaped more in
    let after = with_half s (with_sent_in agg.0 conv (half s j)) j in
    let here : IsSome (flow_at (half s j).flows agg.0 conv) =
    subst (λ (h : HalfState). IsSome (flow_at h.flows agg.0 conv)) (sym (half_there s mid old)) there in
    let last : IsSome (flow_at (half s after).flows agg.0 conv) = subst (λ (h : HalfState). IsSome (flow_at h.flows agg.0 conv))
    (sym (half_there s (with_sent_in agg.0 conv (half s j)) j)) (more.flows agg.0 conv here) in
    follows_then 0 old j new asked (subst (Follows 0 j) (sym y)
    (follows_then 0 j after _ sent (follows_put s port (numbered_item s agg conv octets (half s j)) after sent.shaped (
      numbered_side s ∙ sym (peer_twice s),
      subst (λ t. IsSome (flow_at (half t after).flows agg.0 conv)) (sym (peer_twice s)) last,
      fast,
    ))))

pub offer_followed : (gives : ℕ → ℕ → ℕ → Type 0) (s : Side) (agg : AggId) (conv : ℕ) (octets : List ℕ) (a : Result ℕ SystemFault)
    (mid : HalfState) (old new : WorldState) → IsShaped old → IsCabling (world_setup old).cables → (IsSlowProtocolsFrame octets → ⊥)
    → HalfTells gives (host.OfferConversation agg conv) (told.OfferConversation a) (half s old) mid
    → AfterNumberedOffer s agg conv octets a (with_half s mid old) new → IsFollowed old new
offer_followed gives s agg conv octets (Ok port) mid old new i one fast x y = one_event (Event.Offer s agg.0 octets) old new
    (offer_follows gives s agg conv octets port mid old new i fast x y)
    (offer_happens gives s agg conv octets port mid old new one (i.kept s) x y)
offer_followed gives s agg conv octets (Err fault) mid old new i one fast x y =
    no_event s mid old new i (half_same (half s old) mid x.same (offer_refused (has_aggregator (half s old).state agg)
    (nat_lt conv (conversation_count (half s old).state)) gives agg conv (half s old).state fault mid.state x.answers.0)) y

-- ---- a conversation leaves its port

pub leave_followed : (gives : ℕ → ℕ → ℕ → Type 0) (s : Side) (agg : AggId) (conv : ℕ) (a : Result Unit SystemFault) (mid : HalfState)
    (old new : WorldState) → IsShaped old → HalfTells gives (host.LeaveConversation agg conv) (told.LeaveConversation a) (half s old) mid
    → new ≡ with_half s mid old → IsFollowed old new
leave_followed gives s agg conv a mid old new i x y = one_event (Event.Move_conversation s agg.0 conv 0) old new
    (subst (Follows 0 old) (sym y) (follows_half 0 s mid old i (beside_on (half s old) mid x.answers.1.others x.same (i.kept s))))
    (keeping_call s ModelEvent.Move_conversation 0 true None mid old.links old new y (λ e. cc) refl
    (quietly s 0 mid old (ap (λ (h : HalfState). h.flows) x.same) (λ p. ap (λ (h : HalfState). taken_in (history_at h.histories p)) x.same))
    x.answers.1.moves (λ p. ap (λ (h : HalfState). change_count_in (history_at h.histories p)) x.same))

-- ---- a port is probed

silent_probe : (gives : ℕ → ℕ → ℕ → Type 0) (s : Side) (port : ℕ) (a : Result (Option (List ℕ)) SystemFault) (mid : HalfState)
    (old new : WorldState) → IsShaped old → (x : HalfTells gives (host.Probe port) (told.Probe a) (half s old) mid)
    → x.answers.1.0 ≡ [] → new ≡ with_half s mid old → IsFollowed old new
silent_probe gives s port a mid old new i x none y = one_event (Event.Emit s port) old new
    (subst (Follows 0 old) (sym y) (follows_half 0 s mid old i (beside_on (half s old) mid x.answers.1.2.others x.same (i.kept s))))
    (keeping_call s ModelEvent.Transmit 0 true None mid old.links old new y (λ e. cc) refl
    (quietly s 0 mid old (ap (λ (h : HalfState). h.flows) x.same) (λ p. ap (λ (h : HalfState). taken_in (history_at h.histories p)) x.same))
    (told_moves (half s old).state mid.state refl none x.answers.1.2.moves)
    (λ p. ap (λ (h : HalfState). change_count_in (history_at h.histories p)) x.same))

marker_probe : (gives : ℕ → ℕ → ℕ → Type 0) (s : Side) (port : ℕ) (frame : List ℕ) (mid : HalfState) (old new : WorldState) → IsShaped old
    → IsCabling (world_setup old).cables → HalfTells gives (host.Probe port) (told.Probe (Ok (Some frame))) (half s old) mid
    → AfterProbe s port (Ok (Some frame)) (with_half s mid old) new → IsFollowed old new
marker_probe gives s port frame mid old new i one x y = let v = pdu_in (payload_in frame) in
    let j = with_half s mid old in
    let h = half s j in
    let item = transmitted_item s port frame h in
    let count = change_count_in (history_at h.histories port) in
    let kept : count ≡ (model_world old).count s port = ap (λ (h : HalfState). change_count_in (history_at h.histories port))
    (half_there s mid old ∙ x.same) in
    let asked = follows_half 0 s mid old i (beside_on (half s old) mid x.answers.1.2.others x.same (i.kept s)) in
    let seen = x.answers.1.1 in
    one_event (Event.Emit s port) old new
    (follows_then 0 old j new asked (subst (Follows 0 j) (sym y) (follows_put s port item j asked.shaped (control_item (peer s) frame v count j))))
    (keeping_call s ModelEvent.Transmit 0 (is_accepted s port old.links) (Some (Sends port (control_message v))) mid
    (put_on_port s port item old.links) old new y (λ e. cc) refl
    (sends_beside s port (control_message v) item count mid old x.same one (stamped frame v count refl) kept 0)
    (told_moves (half s old).state mid.state refl
    (seen.2 ∙ ap (λ v. Sends port (control_message v) ∷ []) (sym (sent_read frame seen.0 seen.1))) x.answers.1.2.moves)
    (λ q. ap (λ (h : HalfState). change_count_in (history_at h.histories q)) x.same))

pub probe_followed : (gives : ℕ → ℕ → ℕ → Type 0) (s : Side) (port : ℕ) (a : Result (Option (List ℕ)) SystemFault) (mid : HalfState)
    (old new : WorldState) → IsShaped old → IsCabling (world_setup old).cables
    → HalfTells gives (host.Probe port) (told.Probe a) (half s old) mid → AfterProbe s port a (with_half s mid old) new → IsFollowed old new
probe_followed gives s port (Ok (Some frame)) mid old new i one x y = marker_probe gives s port frame mid old new i one x y
probe_followed gives s port (Ok None) mid old new i one x y = silent_probe gives s port (Ok None) mid old new i x x.answers.1.1 y
probe_followed gives s port (Err fault) mid old new i one x y = silent_probe gives s port (Err fault) mid old new i x x.answers.1.1 y

-- ---- a conversation rests

pub rest_followed : (gives : ℕ → ℕ → ℕ → Type 0) (s : Side) (agg : AggId) (conv : ℕ) (a : Result Unit SystemFault) (mid : HalfState)
    (old new : WorldState) → IsShaped old → HalfTells gives (host.Rest agg conv) (told.Rest a) (half s old) mid
    → new ≡ with_half s (forced_if_accepted a agg conv mid) old → IsFollowed old new
rest_followed gives s agg conv (Ok done) mid old new i x y =
    let asked : HalfAnswers gives (Force agg conv) (answer.Force (Ok tt)) (half s old) mid = record { answers = x.answers.1; same = x.same } in
    let alone = host_alone gives (half s old).state (host.Rest agg conv) (told.Rest (Ok done)) mid.state x.answers tt in
    let on = beside_on (half s old) mid alone x.same (i.kept s) in
    one_event (Event.Force s agg.0 conv) old new
    (subst (Follows 0 old) (sym y) (forces s agg conv (Ok done) mid old i on))
    (subst (λ j. Happens (world_setup old) (Event.Force s agg.0 conv) (model_world old) (model_world j)) (sym y)
    (forced_by gives s agg conv (Ok tt) mid old (λ done e. forced_there (half s old) agg conv tt mid.state (i.kept s) asked.answers.step) asked))
rest_followed gives s agg conv (Err fault) mid old new i x y = no_event s mid old new i (half_same (half s old) mid x.same
    (refused_same agg conv (system_rest_result (half s old).state agg conv) fault (half s old).state mid.state x.answers.0)) y

-- ---- what is held on a port is forced

pub force_port_followed : (gives : ℕ → ℕ → ℕ → Type 0) (s : Side) (port : ℕ) (a : Result ℕ SystemFault) (mid last : HalfState)
    (old new : WorldState) → IsShaped old → HalfTells gives (host.ForcePort port) (told.ForcePort a) (half s old) mid
    → CountsHeldIfOk a port (half s old).state mid last → new ≡ with_half s last old → IsFollowed old new
force_port_followed gives s port (Ok count) mid last old new i x c y = let frees = x.answers.2 in
    let flows : (g k : ℕ) → IsSome (flow_at (half s old).flows g k) → IsSome (flow_at last.flows g k) =
    λ g k h. subst IsSome (sym (c.flows g k
    ∙ ap (λ (h : HalfState). option_map (forced_if (is_held port (half s old).state g k)) (flow_at h.flows g k)) x.same))
    (still_there (is_held port (half s old).state g k) (flow_at (half s old).flows g k) h) in
    let alone = subst (λ (t : SystemState). t ≡ record (half s old).state { table = t.table }) (sym c.state) frees.others in
    let on = table_on (half s old) last alone (c.histories ∙ ap (λ (h : HalfState). h.histories) x.same) flows (i.kept s) in
    record {
      follows = subst (Follows 0 old) (sym y) (follows_half 0 s last old i on);
      events = forcing s (held_in port (half s old).state);
      run = subst (λ j. Run (world_setup old) (forcing s (held_in port (half s old).state)) (model_world old) (model_world j)) (sym y)
          (held_happen s port mid last old (i.kept s) x.answers.0 x.same frees c);
    }
force_port_followed gives s port (Err fault) mid last old new i x c y =
    no_event s last old new i (c ∙ half_same (half s old) mid x.same x.answers.1.same) y

-- ---- a setting

pub set_followed : (s : Side) (setting : Setting) (a : Result Unit SystemFault) (mid : HalfState) (old new : WorldState) → IsShaped old
    → HalfSets setting a (half s old) mid → new ≡ with_half s mid old → IsFollowed old new
set_followed s setting a mid old new i x y = one_event (Event.Tick s 1) old new
    (subst (Follows 0 old) (sym y) (follows_half 0 s mid old i (setting_on setting a (half s old) mid x (i.kept s))))
    (keeping_call s ModelEvent.Tick 0 true None mid old.links old new y (λ e. cc) refl
    (quietly s 0 mid old (ap (λ (h : HalfState). h.flows) x.same) (λ p. ap (λ (h : HalfState). taken_in (history_at h.histories p)) x.same))
    x.answers.moves (λ p. ap (λ (h : HalfState). change_count_in (history_at h.histories p)) x.same))
