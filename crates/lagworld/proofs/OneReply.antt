-- An event has one reply and leads to one world.
use Rattle.lagworld.proofs.Common.{Bool, Err, IsSomeAnd, List, Ok, Option, Result, Some, [], ap, arith, length, map, refl, slice_set, subst, suc, sym}
use Rattle.lagworld.proofs.Common.{true, zero, ℕ, ◌+◌, ◌∙◌, ◌∷◌, ◌≡◌, AggId, One, Side, Two, Stamp, Answer, SystemFault, Received, Call, Offer}
use Rattle.lagworld.proofs.Common.{Receive, Restart, Tick, Transmit, number_of_conversation, PortsAgree, SystemState, Event, StampedLacpdu, Reply}
use Rattle.lagworld.proofs.Common.{AfterOffer, AfterReceive, AfterTransmit, Algorithms, DoesEvent, WorldEmits, WorldOffers, WorldReceives}
use Rattle.lagworld.proofs.Common.{offered_item, set_last_lacpdu, stamped_in, with_collected_in, with_frame_counted, with_item_sent, with_last_lacpdu}
use Rattle.lagworld.proofs.Common.{with_link_at, with_stamp_collected, HalfAnswers, HalfTicks, side_number, side_numbered, both_algorithms, FlowValue}
use Rattle.lagworld.proofs.Common.{HalfState, ItemValue, LinkState, WorldState, change_flow, emptied, flow_at, half, is_accepted, port_at, sent_in}
use Rattle.lagworld.proofs.Common.{with_collected, with_half, with_links, with_sent}
use Rattle.lagworld.proofs.Effects.{DoesEffect, Effect, HalfAsked, Recording, asks, changes_counted, delivers, does_some, effect, emits, offers}
use Rattle.lagworld.proofs.Effects.{receives, recorded, restarts, nothing, shrinks, ticks, told}
use Rattle.cables.specs.declared.item.Stamp.TheVariants as stamp
use Rattle.lagsystem.specs.declared.drive.Reply.TheVariants as answer
use Rattle.lagsystem.specs.declared.received.Received.TheVariants as received
use Rattle.lagsystem.specs.OneAnswer.{IsFunction, SameState}
use Rattle.lagsystem.proofs.OneAnswer.{one_answer}
use Rattle.lagworld.specs.declared.reply.Reply.TheVariants as reply
use Rattle.lagworld.specs.OneReply.{AreFunctions, OneHistory, OneReply, SameHalf, SameWorld}
use Rattle.lagworld.proofs.Headline.{accepted, rises}
use Rattle.lagworld.proofs.Keeping.{steps_sound}

-- of what two relations say of one thing
some_both : {A : Type 0} {C : Type 0} (o : Option A) (P Q : A → Type 0) → IsSomeAnd o P → IsSomeAnd o Q → ((x : A) → P x → Q x → C) → C
some_both o P Q h k f = grind arith

-- parts of worlds that are the same
put_half : (s : Side) (j k : WorldState) (h g : HalfState) → SameWorld j k → SameHalf h g → SameWorld (with_half s h j) (with_half s g k)
put_half s j k h g same part = record { halves = λ t. at s t; links = same.links; acted = same.acted }
  where
    at : (s t : Side) → SameHalf (half t (with_half s h j)) (half t (with_half s g k))
    at One One = part
    at One Two = same.halves Two
    at Two One = same.halves One
    at Two Two = part

put_links : (j k : WorldState) (ls ms : List LinkState) → SameWorld j k → ms ≡ ls → SameWorld (with_links j ls) (with_links k ms)
put_links j k ls ms same e = record { halves = λ s. same.halves s; links = e; acted = same.acted }

same_by : (a b new last : WorldState) → new ≡ a → last ≡ b → SameWorld a b → SameWorld new last
same_by a b new last h k same = subst (λ x. SameWorld x last) (sym h) (subst (λ x. SameWorld a x) (sym k) same)

half_by : (a b new last : HalfState) → new ≡ a → last ≡ b → SameHalf a b → SameHalf new last
half_by a b new last h k same = subst (λ x. SameHalf x last) (sym h) (subst (λ x. SameHalf a x) (sym k) same)

put_flows : (h k : HalfState) (f : List (List FlowValue) → List (List FlowValue)) → SameHalf h k
    → SameHalf (record h { flows = f h.flows }) (record k { flows = f k.flows })
put_flows h k f same = record { state = same.state; histories = same.histories; flows = ap f same.flows }

link_same : (j k : WorldState) (i : ℕ) (l : LinkState) → SameWorld j k → SameWorld (with_link_at i l j) (with_link_at i l k)
link_same j k i l same = put_links j k (slice_set j.links i l) (slice_set k.links i l) same (ap (λ ls. slice_set ls i l) same.links)

sent_same : (s : Side) (p : ℕ) (x y : ItemValue) (j k : WorldState) → y ≡ x → SameWorld j k → SameWorld (with_item_sent s p x j) (with_item_sent s p y k)
sent_same s p x y j k e same = grind arith

accepted_same : (s : Side) (p : ℕ) (j k : WorldState) → SameWorld j k → is_accepted s p k.links ≡ is_accepted s p j.links
accepted_same s p j k same = ap (is_accepted s p) same.links

conversation_same : (octets : List ℕ) (s t : SystemState) → SameState s t → number_of_conversation t octets ≡ number_of_conversation s octets
conversation_same octets s t same = ap (λ x. number_of_conversation x octets) same.others

-- one system answers
abbrev Gives : Type 1
Gives = ℕ → ℕ → ℕ → Type 0

answers_one : (gives : Gives) → IsFunction gives → (call : Call) (a b : Answer) (h k new last : HalfState) → PortsAgree h.state → SameHalf h k
    → HalfAnswers gives call a h new → HalfAnswers gives call b k last → (b ≡ a) × SameHalf new last
answers_one gives one call a b h k new last agrees same x y = grind (arith, one_answer)

ticked : (gives : Gives) (n : ℕ) (old new : HalfState) → PortsAgree old.state → HalfTicks gives n old new → PortsAgree new.state
ticked gives zero old new p h = subst (λ (x : HalfState). PortsAgree x.state) (sym h) p
ticked gives (suc n) old new p h = h.2.answers.agrees

ticks_one : (gives : Gives) → IsFunction gives → (n : ℕ) (h k new last : HalfState) → PortsAgree h.state → SameHalf h k
    → HalfTicks gives n h new → HalfTicks gives n k last → SameHalf new last
ticks_one gives one zero h k new last agrees same x y = half_by h k new last x y same
ticks_one gives one (suc n) h k new last agrees same x y = let mid = ticks_one gives one n h k x.0 y.0 agrees same x.1 y.1 in
    (answers_one gives one Tick answer.Tick answer.Tick x.0 y.0 new last (ticked gives n h x.0 agrees x.1) mid x.2 y.2).1

recorded_same : (kept : Recording) (a : Answer) (h k : HalfState) → SameHalf h k → SameHalf (recorded kept a h) (recorded kept a k)
recorded_same kept a h k same = grind arith

asked_one : (gives : Gives) → IsFunction gives → (call : Call) (kept : Recording) (up : Bool) (h k new last : HalfState) (r q : Reply) → PortsAgree h.state
    → SameHalf h k → HalfAsked gives call kept up h r new → HalfAsked gives call kept up k q last → (q ≡ r) × SameHalf new last
asked_one gives one call kept up h k new last r q agrees same x y = grind (arith, answers_one, told, half_by, recorded, recorded_same)

-- a change of one system in the world
in_half : (s : Side) (old twin new last : WorldState) → SameWorld old twin → new ≡ with_half s (half s new) old
    → last ≡ with_half s (half s last) twin → SameHalf (half s new) (half s last) → SameWorld new last
in_half s old twin new last same h k part = same_by _ _ new last h k (put_half s old twin (half s new) (half s last) same part)

-- emitting
transmits_one : (s : Side) (p : ℕ) (a : Result (Option (List ℕ)) SystemFault) (old twin : WorldState) (r q : Reply) (new last : WorldState)
    → SameWorld old twin → AfterTransmit s p a old r new → AfterTransmit s p a twin q last → (q ≡ r) × SameWorld new last
transmits_one s p (Ok (Some frame)) old twin r q new last same x y = grind arith
transmits_one s p a old twin r q new last same x y = (y.0 ∙ sym x.0, same_by old twin new last x.1 y.1 same)

emits_one : (gives : Algorithms) → AreFunctions gives → (s : Side) (p : ℕ) (old twin : WorldState) (r q : Reply) (new last : WorldState)
    → PortsAgree (half s old).state → SameWorld old twin → WorldEmits gives s p old r new → WorldEmits gives s p twin q last → (q ≡ r) × SameWorld new last
emits_one gives one s p old twin r q new last agrees same x y =
    let t = answers_one (gives s) (one s) (Transmit p) (answer.Transmit x.0) (answer.Transmit y.0) (half s old) (half s twin) x.1 y.1
    agrees (same.halves s) x.2 y.2 in
    let e : y.0 ≡ x.0 = let d = t.0 in cc in
    transmits_one s p x.0 (with_half s x.1 old) (with_half s y.1 twin) r q new last (put_half s old twin x.1 y.1 same t.1) x.3
    (subst (λ a. AfterTransmit s p a (with_half s y.1 twin) q last) e y.3)

-- what came is collected, recorded or answered
collected_same : (st : Stamp) (j k : WorldState) → SameWorld j k → SameWorld (with_stamp_collected st j) (with_stamp_collected st k)
collected_same (stamp.Control count) j k same = same
collected_same (stamp.Data system agg conv serial) j k same = let s = side_numbered system in
    put_half s j k (with_collected_in agg conv serial (half s j)) (with_collected_in agg conv serial (half s k)) same
    (put_flows (half s j) (half s k) (λ f. change_flow (with_collected serial) agg conv f) (same.halves s))

taken_same : (p : ℕ) (v : StampedLacpdu) (h k : HalfState) → SameHalf h k → SameHalf (with_last_lacpdu p v h) (with_last_lacpdu p v k)
taken_same p v h k same = record { state = same.state; histories = ap (set_last_lacpdu p v) same.histories; flows = same.flows }

received_one : (s : Side) (p : ℕ) (item : ItemValue) (a : Result Received SystemFault) (old twin : WorldState) (r q : Reply) (new last : WorldState)
    → SameWorld old twin → AfterReceive s p item a old r new → AfterReceive s p item a twin q last → (q ≡ r) × SameWorld new last
received_one s p item (Ok received.TookLacpdu) old twin r q new last same x y = (
  y.0 ∙ sym x.0,
  same_by _ _ new last x.1 y.1
      (put_half s old twin (with_last_lacpdu p (stamped_in item) (half s old)) (with_last_lacpdu p (stamped_in item) (half s twin)) same
      (taken_same p (stamped_in item) (half s old) (half s twin) (same.halves s))),
)
received_one s p item (Ok (received.Respond frame)) old twin r q new last same x y = grind arith
received_one s p item (Ok (received.Up agg)) old twin r q new last same x y = grind (arith, same_by, collected_same)
received_one s p item a old twin r q new last same x y = (y.0 ∙ sym x.0, same_by old twin new last x.1 y.1 same)

receives_one : (gives : Algorithms) → AreFunctions gives → (s : Side) (p : ℕ) (item : ItemValue) (old twin : WorldState) (r q : Reply)
    (new last : WorldState) → PortsAgree (half s old).state → SameWorld old twin → WorldReceives gives s p item old r new
    → WorldReceives gives s p item twin q last → (q ≡ r) × SameWorld new last
receives_one gives one s p item old twin r q new last agrees same x y =
    let t = answers_one (gives s) (one s) (Receive p item.octets) (answer.Receive x.0) (answer.Receive y.0) (half s old) (half s twin)
    x.1 y.1 agrees (same.halves s) x.2 y.2 in
    let e : y.0 ≡ x.0 = let d = t.0 in cc in
    received_one s p item x.0 (with_half s x.1 old) (with_half s y.1 twin) r q new last (put_half s old twin x.1 y.1 same t.1) x.3
    (subst (λ a. AfterReceive s p item a (with_half s y.1 twin) q last) e y.3)

-- offering
offered_one : (s : Side) (agg : AggId) (octets : List ℕ) (a : Result ℕ SystemFault) (old twin : WorldState) (r q : Reply) (new last : WorldState)
    → SameWorld old twin → AfterOffer s agg octets a old r new → AfterOffer s agg octets a twin q last → (q ≡ r) × SameWorld new last
offered_one s agg octets (Err fault) old twin r q new last same x y = (y.0 ∙ sym x.0, same_by old twin new last x.1 y.1 same)
offered_one s agg octets (Ok port) old twin r q new last same x y = let part = same.halves s in
    let conv : number_of_conversation (half s twin).state octets ≡ number_of_conversation (half s old).state octets =
    conversation_same octets (half s old).state (half s twin).state part.state in
    let sent : length (sent_in (flow_at (half s twin).flows agg.0 (number_of_conversation (half s twin).state octets)))
    ≡ length (sent_in (flow_at (half s old).flows agg.0 (number_of_conversation (half s old).state octets))) =
    (λ i. length (sent_in (flow_at (part.flows i) agg.0 (conv i)))) in
    let item : offered_item s port agg octets (half s twin) ≡ offered_item s port agg octets (half s old) =
    (λ i. record { octets = octets; stamp = stamp.Data (side_number s) agg.0 (conv i) (sent i) }) in
    let counted : SameHalf (with_frame_counted agg octets (half s old)) (with_frame_counted agg octets (half s twin)) =
    record { state = part.state; histories = part.histories; flows = λ i. change_flow with_sent agg.0 (conv i) (part.flows i) } in
    let mine = with_half s (with_frame_counted agg octets (half s old)) old in
    let theirs = with_half s (with_frame_counted agg octets (half s twin)) twin in (
      y.1 ∙ (λ i. reply.Port port (sent i) (accepted_same s port old twin same i)) ∙ sym x.1,
      same_by _ _ new last x.2 y.2
          (sent_same s port (offered_item s port agg octets (half s old)) (offered_item s port agg octets (half s twin)) mine theirs item
          (put_half s old twin (with_frame_counted agg octets (half s old)) (with_frame_counted agg octets (half s twin)) same counted)),
    )

offers_one : (gives : Algorithms) → AreFunctions gives → (s : Side) (agg : AggId) (octets : List ℕ) (old twin : WorldState) (r q : Reply)
    (new last : WorldState) → PortsAgree (half s old).state → SameWorld old twin → WorldOffers gives s agg octets old r new
    → WorldOffers gives s agg octets twin q last → (q ≡ r) × SameWorld new last
offers_one gives one s agg octets old twin r q new last agrees same x y =
    let t = answers_one (gives s) (one s) (Offer agg octets) (answer.Offer x.0) (answer.Offer y.0) (half s old) (half s twin) x.1 y.1
    agrees (same.halves s) x.2 y.2 in
    let e : y.0 ≡ x.0 = let d = t.0 in cc in
    offered_one s agg octets x.0 (with_half s x.1 old) (with_half s y.1 twin) r q new last (put_half s old twin x.1 y.1 same t.1) x.3
    (subst (λ a. AfterOffer s agg octets a (with_half s y.1 twin) q last) e y.3)

-- each effect
effect_one : (gives : Algorithms) → AreFunctions gives → (e : Event) (d : Effect) (old twin : WorldState) (r q : Reply) (new last : WorldState)
    → ((s : Side) → PortsAgree (half s old).state) → SameWorld old twin → DoesEffect gives e old d r new → DoesEffect gives e twin d q last
    → (q ≡ r) × SameWorld new last
effect_one gives one e (nothing a) old twin r q new last agrees same x y = (y.0 ∙ sym x.0, same_by old twin new last x.1 y.1 same)
effect_one gives one e (shrinks i l m a) old twin r q new last agrees same x y = grind arith
effect_one gives one e (ticks s count) old twin r q new last agrees same x y = (
  y.1 ∙ sym x.1,
  in_half s old twin new last same x.0.1 y.0.1
      (ticks_one (gives s) (one s) count (half s old) (half s twin) (half s new) (half s last) (agrees s) (same.halves s) x.0.0 y.0.0),
)
effect_one gives one e (asks s call kept up) old twin r q new last agrees same x y =
    let t = asked_one (gives s) (one s) call kept up (half s old) (half s twin) (half s new) (half s last) r q (agrees s) (same.halves s)
    x.1.0 y.1.0 in (t.0, in_half s old twin new last same x.1.1 y.1.1 t.1)
effect_one gives one e (restarts s) old twin r q new last agrees same x y =
    let t = asked_one (gives s) (one s) Restart changes_counted true (half s old) (half s twin) (half s new) (half s last) r q (agrees s)
    (same.halves s) x.0 y.0 in
    let off = put_links old twin (map emptied old.links) (map emptied twin.links) same (ap (map emptied) same.links) in
    (t.0, in_half s (with_links old (map emptied old.links)) (with_links twin (map emptied twin.links)) new last off x.1 y.1 t.1)
effect_one gives one e (receives s p item) old twin r q new last agrees same x y =
    receives_one gives one s p item old twin r q new last (agrees s) same x y
effect_one gives one e (delivers s i l m item) old twin r q new last agrees same x y =
    receives_one gives one s (port_at s l) item (with_link_at i m old) (with_link_at i m twin) r q new last (agrees s)
    (link_same old twin i m same) x.1 y.1
effect_one gives one e (emits s p) old twin r q new last agrees same x y = emits_one gives one s p old twin r q new last (agrees s) same x y
effect_one gives one e (offers s agg octets) old twin r q new last agrees same x y =
    offers_one gives one s agg octets old twin r q new last (agrees s) same x.4 y.4

-- so each event, whose effect is the same in both worlds
does_one : (gives : Algorithms) → AreFunctions gives → (e : Event) (old twin : WorldState) (r q : Reply) (new last : WorldState)
    → ((s : Side) → PortsAgree (half s old).state) → SameWorld old twin → DoesEvent gives old e r new → DoesEvent gives twin e q last
    → (q ≡ r) × SameWorld new last
does_one gives one e old twin r q new last agrees same h k =
    some_both (effect old.links e) (λ d. DoesEffect gives e old d r new) (λ d. DoesEffect gives e twin d q last)
    (does_some gives e r old new h)
    (subst (λ ls. IsSomeAnd (effect ls e) (λ d. DoesEffect gives e twin d q last)) same.links (does_some gives e q twin last k))
    (λ d x y. effect_one gives one e d old twin r q new last agrees same x y)

pub one_reply : (gives : Algorithms) → AreFunctions gives → OneReply gives
one_reply gives one old twin e r q new last sound same h k =
    let t = does_one gives one e old twin r q (record new { acted = old.acted }) (record last { acted = twin.acted })
    (λ s. (sound.kept s).agrees) same h.0 k.0 in (
      t.0,
      record { halves = λ s. t.1.halves s; links = t.1.links; acted = k.1 ∙ ap (λ n. n + 1) same.acted ∙ sym h.1 },
    )

-- and of a list of events
pub one_history : (gives : Algorithms) → AreFunctions gives → OneHistory gives
one_history gives one old twin [] [] [] new last sound few same h k = (refl, same_by old twin new last h k same)
one_history gives one old twin [] [] (q ∷ qs) new last sound few same h k = absurd k
one_history gives one old twin [] (r ∷ rs) others new last sound few same h k = absurd h
one_history gives one old twin (e ∷ es) [] others new last sound few same h k = absurd h
one_history gives one old twin (e ∷ es) (r ∷ rs) [] new last sound few same h k = absurd k
one_history gives one old twin (e ∷ es) (r ∷ rs) (q ∷ qs) new last sound few same h k =
    let above = rises gives es rs h.0 new h.2 in
    let mid = steps_sound gives e r old h.0 sound (accepted gives e r old h.0 h.1 (omega (arith, above, few))) h.1 in
    let first = one_reply gives one old twin e r q h.0 k.0 sound same h.1 k.1 in
    let rest = one_history gives one h.0 k.0 es rs qs new last mid few first.1 h.2 k.2 in
    ((λ i. first.0 i ∷ rest.0 i), rest.1)

-- of two algorithms
pub both_functions : (a b : ℕ → ℕ → ℕ → Type 0) → IsFunction a → IsFunction b → AreFunctions (both_algorithms a b)
both_functions a b h k One = h
both_functions a b h k Two = k
