-- Each event preserves the invariant of a world.
use Rattle.lagworld.proofs.Common.{Bool, Err, IsSome, List, None, Ok, Option, Result, Some, [], arith, false, map, nat_le, refl, subst, sym, true, ℕ}
use Rattle.lagworld.proofs.Common.{◌++◌, ◌+◌, ◌∙◌, ◌∷◌, ◌≡◌, ◌≤◌, nat_tests, AggId, Pdu, IsSlowProtocolsFrame, pdu_in, Happens, IsCabling, Run, Side}
use Rattle.lagworld.proofs.Common.{WorldSetup, first_world, peer, runs_joined, Stamp, Answer, SystemFault, Received, Call, Configure, Offer, Receive}
use Rattle.lagworld.proofs.Common.{Restart, Transmit, number_of_conversation, Event, Reply, AfterOffer, AfterReceive, AfterTransmit, Algorithms}
use Rattle.lagworld.proofs.Common.{DoesEvent, InHalf, WorldReceives, WorldSteps, cause, first_event_cause, model_event, most_events, offered_item}
use Rattle.lagworld.proofs.Common.{stamp_for, stamped_in, transmitted_item, with_frame_counted, with_item_sent, with_link_at, with_stamp_collected}
use Rattle.lagworld.proofs.Common.{HalfAnswers, forced_if_accepted, payload_in, side_numbered, model_world, world_setup, IsItem, IsReached, IsSound}
use Rattle.lagworld.proofs.Common.{HalfState, ItemValue, LinkState, WorldState, emptied, flow_at, half, port_at, towards, with_collected, with_forced}
use Rattle.lagworld.proofs.Common.{with_half, with_links, with_sent}
use Rattle.lagmodel.specs.World.{Event as ModelEvent}
use Rattle.lagworld.proofs.Effects.{ChangesNoParty, DoesEffect, Effect, HalfAsked, Recording, Shrinks, answer_to_force, asks, changes_counted}
use Rattle.lagworld.proofs.Effects.{delivers, does_effect, emits, if_forced, no_record, offers, receives, recorded, restarts, nothing, shrinks, ticks}
use Rattle.cables.specs.declared.item.Stamp.TheVariants as stamp
use Rattle.slowpdu.specs.declared.pdu.Pdu.TheVariants as pdu
use Rattle.lagsystem.specs.declared.received.Received.TheVariants as received
use Rattle.lagsystem.specs.declared.drive.Reply.TheVariants as answer
use Rattle.lagworld.proofs.Sides.{half_there, numbered_side}
use Rattle.lagworld.proofs.Soundness.{IsShaped, GoesOn, goes_on, Follows, follows_then, follows_same, follows_half, items_weaker, follows_set}
use Rattle.lagworld.proofs.Soundness.{follows_emptied, follows_put, asked_on, ticks_on, counted_on, heard_on, flow_on}
use Rattle.lagworld.proofs.Whole.{steps_happen}

-- counts may rise by one
pub up_to_one : (a b : WorldState) → Follows 0 a b → Follows 1 a b
up_to_one a b x = record { shaped = x.shaped; fixed = x.fixed; counts = λ s n m le h. x.counts s n m (omega arith) h }

-- a call of a system, and no party can change
asked : (gives : ℕ → ℕ → ℕ → Type 0) (s : Side) (call : Call) (a : _) (mid : HalfState) (j : WorldState) → IsShaped j → (call ≡ Restart → ⊥)
    → ((n : ℕ) (c : _) → call ≡ Configure n c → ⊥) → HalfAnswers gives call a (half s j) mid → Follows 0 j (with_half s mid j)
asked gives s call a mid j i r c x = follows_half 0 s mid j i (asked_on gives call a (half s j) mid (i.kept s) r c x)

pub control_item : (s : Side) (octets : List ℕ) (v : Pdu) (n : ℕ) (j : WorldState) → IsItem s octets (stamp_for v n) j
control_item s octets v n j = grind (arith, nat_tests)

emitted : (s : Side) (p : ℕ) (a : Result (Option (List ℕ)) SystemFault) (j new : WorldState) (r : Reply) → IsShaped j
    → AfterTransmit s p a j r new → Follows 0 j new
emitted s p (Ok (Some frame)) j new r i x = subst (Follows 0 j) (sym x.1)
    (follows_put s p (transmitted_item s p frame (half s j)) j i (control_item (peer s) frame (pdu_in (payload_in frame)) _ j))
emitted s p a j new r i x = follows_same j new i x.1

collected_on : (st : Stamp) (j : WorldState) → IsShaped j → Follows 0 j (with_stamp_collected st j)
collected_on (stamp.Control count) j i = follows_same j j i refl
collected_on (stamp.Data system agg conv serial) j i = follows_half 0 (side_numbered system) _ j i
    (flow_on (with_collected serial) agg conv (half (side_numbered system) j) (i.kept (side_numbered system)))

arrived : (s : Side) (p : ℕ) (item : ItemValue) (a : Result Received SystemFault) (j new : WorldState) (r : Reply) → IsShaped j
    → AfterReceive s p item a j r new → Follows 0 j new
arrived s p item (Ok received.TookLacpdu) j new r i x = subst (Follows 0 j) (sym x.1)
    (follows_half 0 s _ j i (heard_on p (stamped_in item) (half s j) (i.kept s)))
arrived s p item (Ok (received.Respond frame)) j new r i x = subst (Follows 0 j) (sym x.1)
    (follows_put s p (record { octets = frame; stamp = stamp.Control 0 }) j i tt)
arrived s p item (Ok (received.Up agg)) j new r i x = subst (Follows 0 j) (sym x.1) (collected_on item.stamp j i)
arrived s p item a j new r i x = follows_same j new i x.1

arrives : (gives : Algorithms) (s : Side) (p : ℕ) (item : ItemValue) (j new : WorldState) (r : Reply) → IsShaped j
    → WorldReceives gives s p item j r new → Follows 0 j new
arrives gives s p item j new r i x =
    let mid = asked (gives s) s (Receive p item.octets) (answer.Receive x.0) x.1 j i (λ e. cc) (λ n c e. cc) x.2 in
    follows_then 0 j (with_half s x.1 j) new mid (arrived s p item x.0 (with_half s x.1 j) new r mid.shaped x.3)

-- a cable becomes one with no more items
shrunk : (i : ℕ) (l m : LinkState) (j : WorldState) → IsShaped j → Shrinks i l m j.links → Follows 0 j (with_link_at i m j)
shrunk i l m j h k = follows_set i l m j h k.there k.ends k.ports (λ s. k.items s j (h.items s i l k.there))

-- a frame is offered
pub peer_twice : (s : Side) → peer (peer s) ≡ s
peer_twice s = grind (arith, nat_tests)

offered_on : (gives : ℕ → ℕ → ℕ → Type 0) (s : Side) (agg : AggId) (octets : List ℕ) (a : Result ℕ SystemFault) (j mid new : WorldState) (r : Reply)
    → IsShaped mid → ((port : ℕ) → a ≡ Ok port → IsSlowProtocolsFrame octets → ⊥) → AfterOffer s agg octets a mid r new → Follows 0 mid new
offered_on gives s agg octets (Err fault) j mid new r i p x = follows_same mid new i x.1
offered_on gives s agg octets (Ok port) j mid new r i p x = let k = number_of_conversation (half s mid).state octets in
    let sent = follows_half 0 s (with_frame_counted agg octets (half s mid)) mid i (flow_on with_sent agg.0 k (half s mid) (i.kept s)) in
    let after = with_half s (with_frame_counted agg octets (half s mid)) mid in
    let there : IsSome (flow_at (half s after).flows agg.0 k) = subst (λ (h : HalfState). IsSome (flow_at h.flows agg.0 k))
    (sym (half_there s (with_frame_counted agg octets (half s mid)) mid))
    ((flow_on with_sent agg.0 k (half s mid) (i.kept s)).flows agg.0 k x.0) in
    subst (Follows 0 mid) (sym x.2)
    (follows_then 0 mid after (with_item_sent s port (offered_item s port agg octets (half s mid)) after) sent
    (follows_put s port (offered_item s port agg octets (half s mid)) after sent.shaped (
      numbered_side s ∙ sym (peer_twice s),
      subst (λ t. IsSome (flow_at (half t after).flows agg.0 k)) (sym (peer_twice s)) there,
      p port refl,
    )))

-- a conversation is forced
pub forces : (s : Side) (agg : AggId) (conv : ℕ) (a : Result Unit SystemFault) (mid : HalfState) (j : WorldState) → IsShaped j
    → GoesOn 0 (half s j) mid → Follows 0 j (with_half s (forced_if_accepted a agg conv mid) j)
forces s agg conv (Ok done) mid j i g = follows_half 0 s _ j i (goes_on (half s j) mid _ g (flow_on with_forced agg.0 conv mid g.kept))
forces s agg conv (Err fault) mid j i g = follows_half 0 s mid j i g

-- a system is asked
noted : (gives : ℕ → ℕ → ℕ → Type 0) (s : Side) (call : Call) (kept : Recording) (a : Answer) (mid : HalfState) (j : WorldState) → IsShaped j
    → ChangesNoParty kept call → HalfAnswers gives call a (half s j) mid → Follows 1 j (with_half s (recorded kept a mid) j)
noted gives s call no_record a mid j i q x = up_to_one j _ (asked gives s call a mid j i q.0 q.1 x)
noted gives s call changes_counted a mid j i q x = follows_half 1 s _ j i (counted_on gives call a (half s j) mid (i.kept s) x)
noted gives s call (if_forced agg conv) a mid j i q x =
    up_to_one j _ (forces s agg conv (answer_to_force a) mid j i (asked_on gives call a (half s j) mid (i.kept s) q.0 q.1 x))

half_asked : (gives : ℕ → ℕ → ℕ → Type 0) (s : Side) (call : Call) (kept : Recording) (up : Bool) (r : Reply) (j new : WorldState)
    → IsShaped j → ChangesNoParty kept call → InHalf s (λ h k. HalfAsked gives call kept up h r k) j new → Follows 1 j new
half_asked gives s call kept up r j new i q x = subst (Follows 1 j) (sym x.1)
    (subst (λ h. Follows 1 j (with_half s h j)) (sym x.0.4) (noted gives s call kept x.0.0 x.0.1 j i q x.0.2))

effect_follows : (gives : Algorithms) (e : Event) (d : Effect) (r : Reply) (old new : WorldState) → IsShaped old
    → DoesEffect gives e old d r new → Follows 1 old new
effect_follows gives e (nothing a) r old new i x = up_to_one old new (follows_same old new i x.1)
effect_follows gives e (shrinks n l m a) r old new i x = subst (Follows 1 old) (sym x.2) (up_to_one old _ (shrunk n l m old i x.0))
effect_follows gives e (ticks s count) r old new i x = subst (Follows 1 old) (sym x.0.1)
    (up_to_one old _ (follows_half 0 s (half s new) old i (ticks_on (gives s) count (half s old) (half s new) (i.kept s) x.0.0)))
effect_follows gives e (asks s call kept up) r old new i x = half_asked (gives s) s call kept up r old new i x.0 x.1
effect_follows gives e (restarts s) r old new i x = let j = with_links old (map emptied old.links) in
    let off = follows_emptied old i in
    follows_then 1 old j new off (half_asked (gives s) s Restart changes_counted true r j new off.shaped tt x)
effect_follows gives e (receives s p item) r old new i x = up_to_one old new (arrives gives s p item old new r i x)
effect_follows gives e (delivers s n l m item) r old new i x = let off = shrunk n l m old i x.0 in
    let j = with_link_at n m old in
    up_to_one old new (follows_then 0 old j new off (arrives gives s (port_at s l) item j new r off.shaped x.1))
effect_follows gives e (emits s p) r old new i x =
    let mid = asked (gives s) s (Transmit p) (answer.Transmit x.0) x.1 old i (λ e. cc) (λ n c e. cc) x.2 in
    up_to_one old new (follows_then 0 old (with_half s x.1 old) new mid (emitted s p x.0 (with_half s x.1 old) new r mid.shaped x.3))
effect_follows gives e (offers s agg octets) r old new i (n, frame, named, same, x) =
    let mid = asked (gives s) s (Offer agg octets) (answer.Offer x.0) x.1 old i (λ e. cc) (λ n c e. cc) x.2 in
    up_to_one old new (follows_then 0 old (with_half s x.1 old) new mid
    (offered_on (gives s) s agg octets x.0 old (with_half s x.1 old) new r mid.shaped
    (λ port e. (subst (λ a. HalfAnswers (gives s) (Offer agg octets) (answer.Offer a) (half s old) x.1) e x.2).answers.step.0.1.1) x.3))

pub does_follow : (gives : Algorithms) (e : Event) (r : Reply) (old new : WorldState) → IsShaped old → DoesEvent gives old e r new → Follows 1 old new
does_follow gives e r old new i x = grind (arith, nat_tests, does_effect, effect_follows)

pub shaped_of : (j : WorldState) → IsSound j → IsShaped j
shaped_of j i = record { kept = i.kept; items = i.items; ends = i.ends }

-- one event more
reached_more : (e : ModelEvent) (old new : WorldState) → world_setup new ≡ world_setup old
    → Happens (world_setup old) e (model_world old) (model_world new) → IsReached old → IsReached new
reached_more e old new f h r = subst (λ x. (events : List ModelEvent) × Run x events (first_world x) (model_world new)) (sym f) (
  r.0 ++ e ∷ [],
  runs_joined (world_setup old) r.0 (e ∷ []) (first_world (world_setup old)) (model_world old) (model_world new) r.1
      (model_world new, h, refl),
)

not_spent : (c s b : Bool) → first_event_cause c s b ≡ None → b ≡ false
not_spent c s b h = grind (arith, nat_tests)

-- Every event that acts keeps a world sound, and what it has for good.
pub steps_fixed : (gives : Algorithms) (e : Event) (r : Reply) (old new : WorldState) → IsSound old → WorldSteps gives old e r new
    → world_setup new ≡ world_setup old
steps_fixed gives e r old new i x = (does_follow gives e r old (record new { acted = old.acted }) (shaped_of old i) x.0).fixed

pub steps_sound : (gives : Algorithms) (e : Event) (r : Reply) (old new : WorldState) → IsSound old → cause old e ≡ None
    → WorldSteps gives old e r new → IsSound new
steps_sound gives e r old new i c x =
    let f = does_follow gives e r old (record new { acted = old.acted }) (shaped_of old i) x.0 in
    let room : nat_le most_events old.acted ≡ false = not_spent _ _ _ c in
    record {
      kept = f.shaped.kept;
      cabling = subst (λ (y : WorldSetup). IsCabling y.cables) (sym f.fixed) i.cabling;
      items = λ s n l h. items_weaker s (towards s l) (record new { acted = old.acted }) new (λ g k y. y) (f.shaped.items s n l h);
      ends = f.shaped.ends;
      few = below old.acted new.acted room x.1;
      counts = λ s. f.counts s old.acted new.acted (omega (arith, x.1)) (i.counts s);
      reached = reached_more (model_event e) old new f.fixed (steps_happen gives e r old new i x) i.reached;
    }
  where
    below : (a b : ℕ) → nat_le most_events a ≡ false → b ≡ a + 1 → b ≤ most_events
    below a b h e = rw e (grind (arith, nat_tests))
