-- A conversation number stays in one aggregator.
use Rattle.dataplane.proofs.Common.{Bool, Err, IfOk, List, Ok, Option, Result, [], ap, arith, eqb, eqb-true, false, if◌then◌else◌, inl, inr, length}
use Rattle.dataplane.proofs.Common.{nat_lt, refl, slice_get, subst, suc, sym, true, zero, ℕ, ◌-◌, ◌<◌, ◌^◌, ◌∷◌, ◌≡◌, ◌≢◌, ◌⊎◌, cases_Bool, eqb-false}
use Rattle.dataplane.proofs.Common.{nat_tests, none-some, AggId, Key, OnItsCable, Act, LawfulMoves, Sends_frame, Conversation, ModelCall, SystemSetup}
use Rattle.dataplane.proofs.Common.{View, Side, World, WorldSetup, Assignment, Reply, SystemFault, OffersConversation, OffersIf}
use Rattle.dataplane.proofs.Common.{frame_of_conversation, Call, Force, Move_conversation, Offer, Transmit, IsFirst, EffectsSeenAs}
use Rattle.dataplane.proofs.Common.{JoinedByLawfulMoves, model_setup, model_view, GivesOrRefuses, MayBeOffered, MayBeOfferedTo, has_aggregator}
use Rattle.dataplane.proofs.Common.{is_frame_length, aggregator_numbered, conversation_count, conversation_in, number_of_conversation, CallPromise}
use Rattle.dataplane.proofs.Common.{SystemState, framed, IsAggregator, IsElsewhere, IsHeldElsewhere, IsInOneAggregator, IsNoOffer, IsNumberElsewhere}
use Rattle.dataplane.proofs.Common.{FreeElsewhere, NoneOnItsWayElsewhere, SendsNoFrame}
use Rattle.lagmodel.specs.View.{Free}
use Rattle.lagsystem.specs.declared.drive.Reply.TheVariants as reply
use Rattle.lagsystem.specs.Forcing.{ForcesFirst, ForcesIfHeld, ForcesIn, ForcesPort}
use Rattle.lagsystem.specs.Probing.{ProbesLawfully}
use Rattle.lagsystem.specs.Promises.{TablePromise}
use Rattle.lagsystem.proofs.FirstView.{first_shows}
use Rattle.dataplane.proofs.Staying as staying

-- lists of keys that have the same elements are of one length
as_many : (ks ls : List Key) (n : ℕ) → ((i : ℕ) → slice_get ls i ≡ slice_get ks i) → n < length ks → n < length ls
as_many [] ls n e l = absurd (omega (arith, l))
as_many (k ∷ ks) [] n e l = absurd (none-some k (e 0))
as_many (k ∷ ks) (m ∷ ls) zero e l = omega arith
as_many (k ∷ ks) (m ∷ ls) (suc n) e l = let rest = as_many ks ls n (λ i. e (suc i)) (omega (arith, l)) in omega (arith, rest)

still_there : (old new : SystemState) (agg : AggId) → model_setup new ≡ model_setup old → IsAggregator old agg → IsAggregator new agg
still_there old new agg same is =
    let keys : (i : ℕ) → slice_get new.keys i ≡ slice_get old.keys i = λ i. ap (λ (u : SystemSetup). u.key (suc i)) same in
    grind (arith, nat_tests, as_many)

none : {n : List Act} → n ≡ [] → SendsNoFrame n
none e = subst SendsNoFrame (sym e) tt

-- a call that is no offer sends no frame
no_frame : (s : SystemState) (call : Call) (answer : Reply) (acts : List Act) → IsNoOffer call → EffectsSeenAs s call answer acts → SendsNoFrame acts
no_frame s call answer acts x e = grind (arith, nat_tests)

-- moves that send no frame
quietly : (old new : SystemState) (call : ModelCall) (acts : List Act) → SendsNoFrame acts
    → LawfulMoves (model_setup old) call (model_view old) acts (model_view new) → model_setup new ≡ model_setup old
    → IsInOneAggregator old → IsInOneAggregator new
quietly old new call acts n moves same i = record {
  there = λ g k busy. still_there old new (aggregator_numbered g) same (i.there g k
      (staying.was_not_free (model_setup old) call (model_view old) (model_view new) acts g k moves (staying.none_sent g k acts n) busy));
  one = staying.kept (model_setup old) call (model_view old) (model_view new) acts moves n i.one;
}

pub kept : (gives : ℕ → ℕ → ℕ → Type 0) (old : SystemState) (call : Call) (answer : Reply) (new : SystemState)
    → CallPromise gives old call answer new → IsNoOffer call → IsInOneAggregator old → IsInOneAggregator new
kept gives old call answer new p n i = let m = p.moves in
    quietly old new m.0 m.1 (no_frame old call answer m.1 n m.3) m.4 p.configured i

pub left : (old new : SystemState) → TablePromise ModelCall.Move_conversation [] old new → IsInOneAggregator old → IsInOneAggregator new
left old new p i = quietly old new ModelCall.Move_conversation [] tt p.moves p.configured i

pub probed : (port : ℕ) (old : SystemState) (answer : Result (Option (List ℕ)) SystemFault) (new : SystemState)
    → ProbesLawfully port old answer new → IsInOneAggregator old → IsInOneAggregator new
probed port old answer new p i = quietly old new ModelCall.Transmit p.0
    (no_frame old (Transmit port) (reply.Transmit answer) p.0 tt p.1) p.2.moves p.2.configured i

pub first : (s : SystemState) → IsFirst s → IsInOneAggregator s
first s h =
    let free : (g k : ℕ) → (model_view s).flows.state g k ≡ Free = λ g k. ap (λ (v : View). v.flows.state g k) (first_shows s h) in
    record { there = λ g k busy. absurd (busy (free g k)); one = λ g h k a b. absurd (a (free g k)) }

free_or_not : (c : Conversation) → (c ≡ Free) ⊎ (c ≢ Free)
free_or_not c = grind (arith, nat_tests)

pub free_elsewhere : (s : SystemState) (agg : AggId) (conv : ℕ) → IsInOneAggregator s → (IsElsewhere s agg conv → ⊥) → FreeElsewhere (model_view s) agg.0 conv
free_elsewhere s agg conv i not = λ h apart. elim (free_or_not ((model_view s).flows.state h conv)) [
  | inl e ↦ e
  | inr busy ↦ absurd (not (record { other = aggregator_numbered h; is = i.there h conv busy; differs = apart; busy = busy }))
]

pub behind : (x : WorldSetup) (w : World) (s : Side) (t : SystemState) (agg : AggId) (conv : ℕ) → OnItsCable x w
    → w.view s ≡ model_view t → IsInOneAggregator t → (IsElsewhere t agg conv → ⊥) → NoneOnItsWayElsewhere w s agg.0 conv
behind x w s t agg conv on e i not =
    staying.behind x w s agg.0 conv on (subst (λ v. FreeElsewhere v agg.0 conv) (sym e) (free_elsewhere t agg conv i not))

long_enough : (s : SystemState) (agg : AggId) (octets : List ℕ) → is_frame_length octets ≡ true
    → (IsHeldElsewhere s agg (conversation_in s octets) → ⊥) → IsElsewhere s agg (number_of_conversation s octets) → ⊥
long_enough s agg octets l not = grind (arith, nat_tests)

there : (s : SystemState) (agg : AggId) → agg.0 < 2 ^ 16 → has_aggregator s agg ≡ true → IsAggregator s agg
there s agg l h = grind (arith, nat_tests)

pub offered : (gives : ℕ → ℕ → ℕ → Type 0) (old : SystemState) (agg : AggId) (octets : List ℕ) (answer : Result ℕ SystemFault)
    (new : SystemState) → agg.0 < 2 ^ 16 → CallPromise gives old (Offer agg octets) (reply.Offer answer) new
    → (IsHeldElsewhere old agg (conversation_in old octets) → ⊥) → IsInOneAggregator old → IsInOneAggregator new
offered gives old agg octets (Err fault) new l p not i = grind (arith, nat_tests)
offered gives old agg octets (Ok port) new l p not i = record {
  there = stands;
  one = staying.sent u m.0 (model_view old) (model_view new) port agg.0 conv moves
      (free_elsewhere old agg conv i (long_enough old agg octets may.1.0 not)) i.one;
}
  where
    u : SystemSetup
    u = model_setup old

    conv : ℕ
    conv = number_of_conversation old octets

    m : JoinedByLawfulMoves old (Offer agg octets) (reply.Offer (Ok port)) new
    m = p.moves

    may : MayBeOfferedTo old agg octets
    may = p.step.0

    moves : LawfulMoves u m.0 (model_view old) (Sends_frame port agg.0 conv ∷ []) (model_view new)
    moves = subst (λ acts. LawfulMoves u m.0 (model_view old) acts (model_view new)) m.3 m.4

    other : (g k : ℕ) → ((agg.0 ≡ g) × (conv ≡ k) → ⊥) → (model_view new).flows.state g k ≢ Free → IsAggregator new (aggregator_numbered g)
    other g k apart busy = still_there old new (aggregator_numbered g) p.configured (i.there g k
        (staying.was_not_free u m.0 (model_view old) (model_view new) (Sends_frame port agg.0 conv ∷ []) g k moves (apart, tt) busy))

    stands : (g k : ℕ) → (model_view new).flows.state g k ≢ Free → IsAggregator new (aggregator_numbered g)
    stands g k busy = elim (cases_Bool (eqb agg.0 g)) [
      | inl t ↦ subst (λ z. IsAggregator new (aggregator_numbered z)) (eqb-true agg.0 g t) (still_there old new agg p.configured (there old agg l may.0))
      | inr f ↦ other g k (λ z. eqb-false agg.0 g f z.0) busy
    ]

-- the conversation of a number that there is has a frame
pub frame_elsewhere : (s : SystemState) (agg : AggId) (conv : ℕ) → conv < conversation_count s
    → IsHeldElsewhere s agg (conversation_in s (frame_of_conversation conv)) → IsNumberElsewhere s agg conv
frame_elsewhere s agg conv l z = (l, subst (λ k. IsElsewhere s agg k) (framed s conv l).1 z)

-- a number from the count on is refused
nothing : (gives : ℕ → ℕ → ℕ → Type 0) (old : SystemState) (agg : AggId) (conv : ℕ) (answer : Result ℕ SystemFault)
    (new : SystemState) (there : Bool) → OffersIf there false gives agg conv old answer new → new ≡ old
nothing gives old agg conv answer new there h = grind (arith, nat_tests)

pub offered_by_number : (gives : ℕ → ℕ → ℕ → Type 0) (old : SystemState) (agg : AggId) (conv : ℕ) (answer : Result ℕ SystemFault) (new : SystemState)
    → agg.0 < 2 ^ 16 → OffersConversation gives agg conv old answer new
    → ((octets : List ℕ) → MayBeOffered octets → number_of_conversation old octets ≡ conv → CallPromise gives old (Offer agg octets) (reply.Offer answer) new)
    → (IsNumberElsewhere old agg conv → ⊥) → IsInOneAggregator old → IsInOneAggregator new
offered_by_number gives old agg conv answer new l h each not i = by_number (nat_lt conv (conversation_count old)) refl
  where
    by_number : (t : Bool) → nat_lt conv (conversation_count old) ≡ t → IsInOneAggregator new
    by_number true e = let within : conv < conversation_count old = grind (arith, nat_tests) in
        let frame = framed old conv within in
        offered gives old agg (frame_of_conversation conv) answer new l (each (frame_of_conversation conv) frame.0 frame.1)
        (λ z. not (frame_elsewhere old agg conv within z)) i
    by_number false e = subst IsInOneAggregator (sym (nothing gives old agg conv answer new (has_aggregator old agg)
        (subst (λ t. OffersIf (has_aggregator old agg) t gives agg conv old answer new) e h))) i

forced_one : (gives : ℕ → ℕ → ℕ → Type 0) (port : ℕ) (agg : AggId) (conv : ℕ) (old : SystemState) (held : Bool) (new : SystemState)
    → ForcesIfHeld gives port agg conv old held new → IsInOneAggregator old → IsInOneAggregator new
forced_one gives port agg conv old true new h i = kept gives old (Force agg conv) (reply.Force (Ok tt)) new h.1 tt i
forced_one gives port agg conv old false new h i = subst IsInOneAggregator (sym h.1) i

forced_in : (gives : ℕ → ℕ → ℕ → Type 0) (port : ℕ) (agg : AggId) (k : ℕ) (old : SystemState) (n : ℕ) (new : SystemState)
    → ForcesIn gives port agg k old n new → IsInOneAggregator old → IsInOneAggregator new
forced_in gives port agg zero old n new h i = subst IsInOneAggregator (sym h.0) i
forced_in gives port agg (suc k) old n new h i = forced_one gives port agg k h.0 h.2 new h.4 (forced_in gives port agg k old h.1 h.0 h.3 i)

forced_first : (gives : ℕ → ℕ → ℕ → Type 0) (port g : ℕ) (old : SystemState) (n : ℕ) (new : SystemState)
    → ForcesFirst gives port g old n new → IsInOneAggregator old → IsInOneAggregator new
forced_first gives port zero old n new h i = subst IsInOneAggregator (sym h.0) i
forced_first gives port (suc g) old n new h i = forced_in gives port (aggregator_numbered (suc g)) h.0.conversations h.0 h.2 new h.4
    (forced_first gives port g old h.1 h.0 h.3 i)

pub forced : (gives : ℕ → ℕ → ℕ → Type 0) (port : ℕ) (old : SystemState) (answer : Result ℕ SystemFault) (new : SystemState)
    → ForcesPort gives port old answer new → IsInOneAggregator old → IsInOneAggregator new
forced gives port old answer new h i = grind (arith, nat_tests, forced_first)

-- a rest is a force, or is refused and changes nothing
pub rested : (gives : ℕ → ℕ → ℕ → Type 0) (agg : AggId) (conv : ℕ) (old : SystemState) (answer : Result Unit SystemFault) (new : SystemState)
    (result : Result Assignment SystemFault) → GivesOrRefuses agg conv result old answer new
    → IfOk answer (λ done. CallPromise gives old (Force agg conv) (reply.Force (Ok tt)) new) → IsInOneAggregator old → IsInOneAggregator new
rested gives agg conv old answer new (Ok state) h p i = kept gives old (Force agg conv) (reply.Force (Ok tt)) new
    (subst (λ a. IfOk a (λ (done : Unit {0}). CallPromise gives old (Force agg conv) (reply.Force (Ok tt)) new)) h.0 p) tt i
rested gives agg conv old answer new (Err fault) h p i = subst IsInOneAggregator (sym h.1) i
