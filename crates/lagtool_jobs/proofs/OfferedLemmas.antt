-- An aggregator that no event offers a frame to sends none.
use Rattle.lagtool_jobs.proofs.Common.{Bool, Err, List, None, Ok, Option, Result, Some, [], ap, arith, eq-eqb, false, get_or, length, map, refl}
use Rattle.lagtool_jobs.proofs.Common.{subst, suc, sym, true, zero, ℕ, ◌&&◌, ◌++◌, ◌+◌, ◌<◌, ◌==◌, ◌∙◌, ◌∷◌, ◌≡◌, or_parts, true≢false, get_or_read}
use Rattle.lagtool_jobs.proofs.Common.{range_with_len, flat_map, One, Side, Two, HasSentNothing, IsSentWhereOffered, is_offered, offers_to}
use Rattle.lagtool_jobs.proofs.Common.{aggregator_flows_text, flow_line, Event, Reply, AfterOffer, AfterReceive, AfterTransmit, Algorithms, DoesEvent}
use Rattle.lagtool_jobs.proofs.Common.{InHalf, WorldReceives, WorldRuns, side_of, stamped_in, transmitted_item, with_collected_in, with_frame_counted}
use Rattle.lagtool_jobs.proofs.Common.{with_item_sent, with_last_lacpdu, with_link_at, with_stamp_collected, side_number, side_numbered}
use Rattle.lagtool_jobs.proofs.Common.{flow_of_system, IsStart, FlowValue, HalfState, ItemValue, WorldState, emptied, flow_at, half, port_at, sent_in}
use Rattle.lagtool_jobs.proofs.Common.{with_collected, with_forced, with_half, with_links, with_sent}
use Rattle.cables.specs.declared.item.Stamp.{Stamp}
use Rattle.cables.specs.declared.item.Stamp.TheVariants as stamp
use Rattle.lagtypes.specs.declared.identifiers.AggId.{AggId}
use Rattle.lagmodel.proofs.Base.{cond_true}
use Rattle.lagsystem.specs.declared.received.Received.{Received}
use Rattle.lagsystem.specs.declared.received.Received.TheVariants as received
use Rattle.lagsystem.specs.declared.drive.Reply.{Reply as Answer}
use Rattle.lagsystem.specs.declared.drive.Reply.TheVariants as answer
use Rattle.lagsystem.specs.declared.fault.SystemFault.{SystemFault}
use Rattle.lagsystem.specs.Calls.{Call, Receive, Restart, Transmit, Offer}
use Rattle.lagsystem.specs.Readers.{number_of_conversation}
use Rattle.lagworld.specs.HalfCalls.{HalfAnswers, HalfTicks, forced_if_accepted}
use Rattle.lagworld.proofs.Flows.{flow_other_row, read_same}
use Rattle.lagworld.proofs.Effects.{DoesEffect, Effect, HalfAsked, Recording, answer_to_force, asks, changes_counted, delivers, does_effect, emits}
use Rattle.lagworld.proofs.Effects.{if_forced, no_record, offers, receives, recorded, restarts, nothing, shrinks, ticks}
use Rattle.lagtool_jobs.proofs.ReplayLemmas.{append_none, appended_both, empties, range_more}

-- what a conversation of a system sent
abbrev sent_of : Side → ℕ → ℕ → WorldState → List ℕ
sent_of t g k j = sent_in (flow_at (half t j).flows g k)

-- a system sent no more
abbrev SameSent : HalfState → HalfState → Type 0
SameSent old new = (g k : ℕ) → sent_in (flow_at new.flows g k) ≡ sent_in (flow_at old.flows g k)

-- neither system did
abbrev NoneSent : WorldState → WorldState → Type 0
NoneSent old new = (t : Side) → SameSent (half t old) (half t new)

followed : (a b c : WorldState) → NoneSent a b → NoneSent b c → NoneSent a c
followed a b c x y = λ t g k. y t g k ∙ x t g k

same : (old new : WorldState) → new ≡ old → NoneSent old new
same old new e = λ t g k. ap (sent_of t g k) e

of_half : (s : Side) (h : HalfState) (j : WorldState) → SameSent (half s j) h → NoneSent j (with_half s h j)
of_half One h j x One = x
of_half One h j x Two = λ g k. refl
of_half Two h j x One = λ g k. refl
of_half Two h j x Two = x

same_flows : (old new : HalfState) → new.flows ≡ old.flows → SameSent old new
same_flows old new e = λ g k. ap (λ xs. sent_in (flow_at xs g k)) e

asked : (gives : ℕ → ℕ → ℕ → Type 0) (call : Call) (a : Answer) (s : Side) (mid : HalfState) (j : WorldState)
    → HalfAnswers gives call a (half s j) mid → NoneSent j (with_half s mid j)
asked gives call a s mid j x = of_half s mid j (same_flows (half s j) mid (ap (λ (h : HalfState). h.flows) x.same))

ticked : (gives : ℕ → ℕ → ℕ → Type 0) (n : ℕ) (old new : HalfState) → HalfTicks gives n old new → new.flows ≡ old.flows
ticked gives zero old new x = ap (λ (h : HalfState). h.flows) x
ticked gives (suc n) old new x = ap (λ (h : HalfState). h.flows) x.2.same ∙ ticked gives n old x.0 x.1

emitted : (s : Side) (p : ℕ) (a : Result (Option (List ℕ)) SystemFault) (j new : WorldState) (r : Reply) → AfterTransmit s p a j r new → NoneSent j new
emitted s p (Ok (Some frame)) j new r x = same (with_item_sent s p (transmitted_item s p frame (half s j)) j) new x.1
emitted s p a j new r x = same j new x.1

collected_on : (st : Stamp) (j : WorldState) → NoneSent j (with_stamp_collected st j)
collected_on (stamp.Control count) j = λ t g k. refl
collected_on (stamp.Data system agg conv serial) j =
    of_half (side_numbered system) (with_collected_in agg conv serial (half (side_numbered system) j)) j
    (read_same sent_in (with_collected serial) agg conv (half (side_numbered system) j).flows (λ x. refl))

arrived : (s : Side) (p : ℕ) (item : ItemValue) (a : Result Received SystemFault) (j new : WorldState) (r : Reply)
    → AfterReceive s p item a j r new → NoneSent j new
arrived s p item (Ok received.TookLacpdu) j new r x =
    let took = with_half s (with_last_lacpdu p (stamped_in item) (half s j)) j in
    followed j took new (of_half s (with_last_lacpdu p (stamped_in item) (half s j)) j (λ g k. refl)) (same took new x.1)
arrived s p item (Ok (received.Respond frame)) j new r x =
    same (with_item_sent s p (record { octets = frame; stamp = stamp.Control 0 }) j) new x.1
arrived s p item (Ok (received.Up agg)) j new r x = followed j (with_stamp_collected item.stamp j) new (collected_on item.stamp j)
    (same (with_stamp_collected item.stamp j) new x.1)
arrived s p item a j new r x = same j new x.1

arrives : (gives : Algorithms) (s : Side) (p : ℕ) (item : ItemValue) (j new : WorldState) (r : Reply) → WorldReceives gives s p item j r new → NoneSent j new
arrives gives s p item j new r x =
    followed j (with_half s x.1 j) new (asked (gives s) (Receive p item.octets) (answer.Receive x.0) s x.1 j x.2)
    (arrived s p item x.0 (with_half s x.1 j) new r x.3)

forced_where_sent : (a : Result Unit SystemFault) (agg : AggId) (conv : ℕ) (h : HalfState) → SameSent h (forced_if_accepted a agg conv h)
forced_where_sent (Ok done) agg conv h = read_same sent_in with_forced agg.0 conv h.flows (λ x. refl)
forced_where_sent (Err fault) agg conv h = λ g k. refl

-- a frame is sent of one aggregator alone
counted : (s : Side) (agg : AggId) (octets : List ℕ) (j : WorldState) (t : Side) (g k : ℕ) → (t ≡ s → g ≡ agg.0 → ⊥)
    → sent_of t g k (with_half s (with_frame_counted agg octets (half s j)) j) ≡ sent_of t g k j
counted One agg octets j One g k free =
    ap sent_in (flow_other_row with_sent agg.0 (number_of_conversation j.one.state octets) g k j.one.flows (λ e. free refl e))
counted One agg octets j Two g k free = refl
counted Two agg octets j One g k free = refl
counted Two agg octets j Two g k free =
    ap sent_in (flow_other_row with_sent agg.0 (number_of_conversation j.two.state octets) g k j.two.flows (λ e. free refl e))

offered_on : (s : Side) (agg : AggId) (octets : List ℕ) (a : Result ℕ SystemFault) (j new : WorldState) (r : Reply) → AfterOffer s agg octets a j r new
    → (t : Side) (g k : ℕ) → (t ≡ s → g ≡ agg.0 → ⊥) → sent_of t g k new ≡ sent_of t g k j
offered_on s agg octets (Err fault) j new r x t g k free = ap (sent_of t g k) x.1
offered_on s agg octets (Ok port) j new r x t g k free = ap (sent_of t g k) x.2 ∙ counted s agg octets j t g k free

-- a number that names a system is that system's
number_named : (n : ℕ) (s : Side) → side_of n ≡ Some s → n ≡ side_number s
number_named n s e = grind arith

-- an offer to another aggregator
other : (n : ℕ) (s t : Side) (agg : AggId) (g : ℕ) → n ≡ side_number s → ((n == side_number t) && (agg.0 == g)) ≡ false → t ≡ s → g ≡ agg.0 → ⊥
other n s t agg g name free same_side same_agg =
    let here : (n == side_number t) ≡ true = eq-eqb n (side_number t) (name ∙ ap side_number (sym same_side)) in
    let there : (agg.0 == g) ≡ true = eq-eqb agg.0 g (sym same_agg) in
    true≢false (sym (ap (λ b. b && (agg.0 == g)) here ∙ there) ∙ free)

-- what is recorded of a system is no sent frame
noted : (kept : Recording) (a : Answer) (h : HalfState) → SameSent h (recorded kept a h)
noted no_record a h = λ g k. refl
noted changes_counted a h = λ g k. refl
noted (if_forced agg conv) a h = forced_where_sent (answer_to_force a) agg conv h

half_asked : (gives : ℕ → ℕ → ℕ → Type 0) (s : Side) (call : Call) (kept : Recording) (up : Bool) (r : Reply) (j new : WorldState)
    → InHalf s (λ h k. HalfAsked gives call kept up h r k) j new → NoneSent j new
half_asked gives s call kept up r j new x = let mid = with_half s (half s new) j in
    followed j mid new
    (of_half s (half s new) j (λ g k. ap (λ (h : HalfState). sent_in (flow_at h.flows g k)) x.0.4 ∙ noted kept x.0.0 x.0.1 g k
    ∙ ap (λ (h : HalfState). sent_in (flow_at h.flows g k)) x.0.2.same))
    (same mid new x.1)

effect_keeps : (gives : Algorithms) (e : Event) (d : Effect) (r : Reply) (old new : WorldState) → DoesEffect gives e old d r new
    → (t : Side) (g k : ℕ) → offers_to (side_number t) g e ≡ false → sent_of t g k new ≡ sent_of t g k old
effect_keeps gives e (nothing a) r old new x t g k free = ap (sent_of t g k) x.1
effect_keeps gives e (shrinks i l m a) r old new x t g k free = ap (sent_of t g k) x.2
effect_keeps gives e (ticks s count) r old new x t g k free = let mid = with_half s (half s new) old in
    followed old mid new
    (of_half s (half s new) old (same_flows (half s old) (half s new) (ticked (gives s) count (half s old) (half s new) x.0.0)))
    (same mid new x.0.1) t g k
effect_keeps gives e (asks s call kept up) r old new x t g k free = half_asked (gives s) s call kept up r old new x.1 t g k
effect_keeps gives e (restarts s) r old new x t g k free =
    half_asked (gives s) s Restart changes_counted true r (with_links old (map emptied old.links)) new x t g k
effect_keeps gives e (receives s p item) r old new x t g k free = arrives gives s p item old new r x t g k
effect_keeps gives e (delivers s i l m item) r old new x t g k free =
    arrives gives s (port_at s l) item (with_link_at i m old) new r x.1 t g k
effect_keeps gives e (emits s p) r old new x t g k free = let mid = with_half s x.1 old in
    followed old mid new (asked (gives s) (Transmit p) (answer.Transmit x.0) s x.1 old x.2) (emitted s p x.0 mid new r x.3) t g k
effect_keeps gives e (offers s agg octets) r old new (n, frame, named, is_offer, x) t g k free = let mid = with_half s x.1 old in
    offered_on s agg octets x.0 mid new r x.3 t g k
    (other n s t agg g (number_named n s named) (subst (λ e. offers_to (side_number t) g e ≡ false) is_offer free))
    ∙ asked (gives s) (Offer agg octets) (answer.Offer x.0) s x.1 old x.2 t g k

does_keep : (gives : Algorithms) (e : Event) (r : Reply) (old new : WorldState) → DoesEvent gives old e r new
    → (t : Side) (g k : ℕ) → offers_to (side_number t) g e ≡ false → sent_of t g k new ≡ sent_of t g k old
does_keep gives e r old new x t g k free = let v = does_effect gives e r old new x in effect_keeps gives e v.0 r old new v.2 t g k free

runs_keep : (gives : Algorithms) (es : List Event) (rs : List Reply) (old new : WorldState) → WorldRuns gives old es rs new
    → (t : Side) (g k : ℕ) → is_offered (side_number t) g es ≡ false → sent_of t g k new ≡ sent_of t g k old
runs_keep gives [] [] old new x t g k free = ap (sent_of t g k) x
runs_keep gives [] (r ∷ rs) old new x t g k free = absurd x
runs_keep gives (e ∷ es) [] old new x t g k free = absurd x
runs_keep gives (e ∷ es) (r ∷ rs) old new (mid, step, rest) t g k free =
    let parts = or_parts (offers_to (side_number t) g e) (is_offered (side_number t) g es) free in
    runs_keep gives es rs mid new rest t g k parts.1 ∙ does_keep gives e r old (record mid { acted = old.acted }) step.0 t g k parts.0

first_sent : (j : WorldState) (t : Side) (g k : ℕ) → IsStart j → sent_of t g k j ≡ []
first_sent j t g k start = none_sent (flow_at (half t j).flows g k) (λ x e. (start.flows t g k x e).0)
  where
    none_sent : (o : Option FlowValue) → ((x : FlowValue) → o ≡ Some x → x.sent ≡ []) → sent_in o ≡ []
    none_sent None h = refl
    none_sent (Some x) h = h x refl

-- after a run from the start only aggregators sent that frames were offered to
pub sent_where_offered : (gives : Algorithms) (from to : WorldState) (es : List Event) (rs : List Reply) → IsStart from
    → WorldRuns gives from es rs to → IsSentWhereOffered es to
sent_where_offered gives from to es rs start ran s g free k = by_side (side_of s) refl
  where
    by_side : (o : Option Side) → side_of s ≡ o → sent_in (flow_of_system (side_of s) g k to) ≡ []
    by_side None e = ap (λ o. sent_in (flow_of_system o g k to)) e
    by_side (Some t) e = ap (λ o. sent_in (flow_of_system o g k to)) e
        ∙ runs_keep gives es rs from to ran t g k (subst (λ n. is_offered n g es ≡ false) (number_named s t e) free)
        ∙ first_sent from t g k start

no_line : (s agg conv : ℕ) (x : Option FlowValue) → sent_in x ≡ [] → flow_line s agg conv x ≡ []
no_line s agg conv x e = cond_true (length (sent_in x) == 0) [] _ (ap (λ xs. length xs == 0) e)

-- an aggregator that sent nothing has no lines
pub no_row : (j : WorldState) (s n agg : ℕ) → HasSentNothing j s agg → aggregator_flows_text j s n agg ≡ []
no_row j s n agg quiet = empties (λ conv. flow_line s agg conv (flow_of_system (side_of s) agg conv j)) 0 n
    (λ c le. no_line s agg c (flow_of_system (side_of s) agg c j) (quiet c))

-- and is left out
pub row_skipped : (t u v : List ℕ) (j : WorldState) (s n i : ℕ) → u ≡ t ++ flat_map (aggregator_flows_text j s n) (range_with_len 1 i) → v ≡ u
    → HasSentNothing j s (i + 1) → v ≡ t ++ flat_map (aggregator_flows_text j s n) (range_with_len 1 (i + 1))
row_skipped t u v j s n i before same quiet = appended_both t u v (flat_map (aggregator_flows_text j s n) (range_with_len 1 i)) []
    (flat_map (aggregator_flows_text j s n) (range_with_len 1 (i + 1))) before
    (same ∙ sym (append_none u))
    (ap (λ x. flat_map (aggregator_flows_text j s n) (range_with_len 1 i) ++ x) (sym (no_row j s n (i + 1) quiet))
    ∙ range_more (aggregator_flows_text j s n) 1 i (i + 1) (i + 1) (omega arith) refl)

-- a flag that was read and is not set
pub unset : (flags : List Bool) (at i : ℕ) (r : Bool) → at ≡ i → i < length flags → r ≡ get_or flags at r → r ≡ false → get_or flags i false ≡ false
unset flags at i r same inside read off = sym (get_or_read flags i r inside (subst (λ k. r ≡ get_or flags k r) same read) false) ∙ off
