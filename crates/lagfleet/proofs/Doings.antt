-- What is done to a system is lawful moves with at most one visible act.
use Rattle.std.proofs.Common.{Bool, Err, List, None, Ok, Option, Result, Some, [], ap, arith, inl, inr, nat_lt, refl, subst, sym, true, ℕ, ◌<◌, ◌∙◌}
use Rattle.std.proofs.Common.{◌∷◌, ◌≡◌}
use Rattle.lagtypes.specs.declared.identifiers.AggId.{AggId}
use Rattle.lagmodel.specs.Move.{Act, LawfulMoves, Sends, Sends_frame, Took}
use Rattle.lagmodel.specs.View.{ControlMessage, ModelCall, SystemSetup, View}
use Rattle.lagnetwork.specs.Network.{freed_view}
use Rattle.lagsystem.specs.declared.fault.SystemFault.{SystemFault}
use Rattle.lagsystem.specs.Calls.{Call}
use Rattle.lagsystem.specs.HostCalls.{HasConversations}
use Rattle.lagsystem.specs.ModelView.{FrameSeenAs, control_message, lacp_message, marker_message, model_setup, model_view}
use Rattle.lagsystem.specs.Offers.{GivesOrRefuses, MayBeOffered, has_aggregator}
use Rattle.lagsystem.specs.Sound.{CallPromise}
use Rattle.lagsystem.specs.State.{SystemState}
use Rattle.lagfleet.specs.Doing.{Does, Doing, Forces, IsTold, Leaves, Makes, Offers, Probes, Rests, Sets, offered}
use Rattle.lagfleet.specs.Fleet.{ShowsOneAct, is_held}
use Rattle.std.proofs.lemmas.Bool.Decides.{nat_tests}
use Rattle.std.specs.Prelude.{drop}
use Rattle.slowpdu.proofs.PduInLemmas.{pdu_read}
use Rattle.distributor.specs.declared.assignment.Assignment.{Assignment}
use Rattle.lagmodel.proofs.Brings.{moves_bring}
use Rattle.lagsystem.specs.declared.drive.Reply.TheVariants as reply
use Rattle.lagsystem.specs.declared.received.Received.TheVariants.{TookLacpdu, Respond}
use Rattle.lagsystem.specs.Assigning.{OffersConversation, OffersIf, frame_of_conversation}
use Rattle.lagsystem.specs.Forcing.{FreesHeld}
use Rattle.lagsystem.specs.Readers.{conversation_count, number_of_conversation}
use Rattle.lagsystem.proofs.AssigningLemmas.{framed}

-- ---- lawful moves

-- the law is told what the contract shows
told_lawful : (u : SystemSetup) (seen law : ModelCall) (old new : View) (acts : List Act) → IsTold seen law
    → LawfulMoves u seen old acts new → LawfulMoves u law old acts new
told_lawful u seen law old new acts h m = elim h [
  | inl e ↦ subst (λ c. LawfulMoves u c old acts new) e m
  | inr y ↦ subst (λ c. LawfulMoves u c old acts new) (sym y.3)
      (moves_bring u y.0 y.1 old new acts (subst (λ c. LawfulMoves u c old acts new) y.2 m))
]

moved : {c d : ModelCall} {seen shown : List Act} (old new : SystemState) → d ≡ c → shown ≡ seen
    → LawfulMoves (model_setup old) d (model_view old) shown (model_view new) → LawfulMoves (model_setup old) c (model_view old) seen (model_view new)
moved {c} {d} {seen} {shown} old new e f h = grind (arith, nat_tests)

abbrev IsLawful : ModelCall → List Act → SystemState → SystemState → Type 0
IsLawful law acts old new =
    LawfulMoves (model_setup old) law (model_view old) acts (model_view new) × (model_setup new ≡ model_setup old)

-- an offer that is answered with a port names an aggregator and a conversation that there are; one that is refused changes nothing
offered_there : (there known : Bool) (gives : ℕ → ℕ → ℕ → Type 0) (agg : AggId) (conv : ℕ) (old : SystemState) (port : ℕ)
    (new : SystemState) → OffersIf there known gives agg conv old (Ok port) new → known ≡ true
offered_there there known gives agg conv old port new h = grind (arith, nat_tests)

offer_lawful : (gives : ℕ → ℕ → ℕ → Type 0) (agg : AggId) (conv : ℕ) (answer : Result ℕ SystemFault) (old new : SystemState)
    → OffersConversation gives agg conv old answer new
    → ((octets : List ℕ) → MayBeOffered octets → number_of_conversation old octets ≡ conv
    → CallPromise gives old (Call.Offer agg octets) (reply.Offer answer) new)
    → IsLawful ModelCall.Offer (offered agg conv answer) old new
offer_lawful gives agg conv (Ok port) old new h asked =
    let e = offered_there (has_aggregator old agg) (nat_lt conv (conversation_count old)) gives agg conv old port new h in
    let small : conv < conversation_count old = grind (arith, nat_tests) in
    let named = framed old conv small in
    let promise = asked (frame_of_conversation conv) named.0 named.1 in
    let m = promise.moves in
    (moved old new m.2 (m.3 ∙ ap (λ n. Sends_frame port agg.0 n ∷ []) named.1) m.4, promise.configured)
offer_lawful gives agg conv (Err fault) old new h asked = grind (arith, nat_tests)

pub does_lawfully : (gives : ℕ → ℕ → ℕ → Type 0) (doing : Doing) (law : ModelCall) (acts : List Act) (old new : SystemState) → Does gives doing law acts old new
    → LawfulMoves (model_setup old) law (model_view old) acts (model_view new) × (model_setup new ≡ model_setup old)
does_lawfully gives (Makes call answer) law acts old new x = let m = x.0.moves in (
  told_lawful (model_setup old) m.0 law (model_view old) (model_view new) acts x.1 (moved old new refl x.2 m.4),
  x.0.configured,
)
does_lawfully gives (Forces agg conv) law acts old new x = grind (arith, nat_tests)
does_lawfully gives (Offers agg conv answer) law acts old new x = grind (arith, nat_tests, offer_lawful, moved)
does_lawfully gives (Leaves agg conv answer) law acts old new x = (moved old new (sym x.1) (sym x.2) x.0.1.moves, x.0.1.configured)
does_lawfully gives (Probes port answer) law acts old new x = (moved old new (sym x.1) (sym x.2) x.0.1.2.moves, x.0.1.2.configured)
does_lawfully gives (Rests agg conv) law acts old new x = grind (arith, nat_tests)
does_lawfully gives (Sets setting answer) law acts old new x = (moved old new (sym x.1) (sym x.2) x.0.moves, x.0.configured)

-- ---- at most one visible act

pub one_act : ShowsOneAct
one_act s (Call.Receive n octets) (reply.Receive (Ok TookLacpdu)) acts h = (Some (Took n (lacp_message h.0)), h.2)
one_act s (Call.Receive n octets) (reply.Receive (Ok (Respond frame))) acts h = (Some (Sends n (marker_message h.0.kind h.0)), h.2)
one_act s (Call.Transmit n) (reply.Transmit (Ok (Some frame))) acts h = (Some (Sends n (control_message h.0)), h.2)
one_act s (Call.Offer agg octets) (reply.Offer (Ok port)) acts h = (Some (Sends_frame port agg.0 (number_of_conversation s octets)), h)
one_act s call answer acts h = (None, h)

-- what came is told as it was read
pub told_received : (n : ℕ) (octets : List ℕ) (seen : ModelCall) (o : Option ControlMessage) (pdu : ControlMessage) → FrameSeenAs octets o
    → seen ≡ ModelCall.Receive n o → FrameSeenAs octets (Some pdu) → IsTold seen (ModelCall.Receive n (Some pdu))
told_received n octets seen o pdu x e h = grind (arith, nat_tests, pdu_read, drop, control_message)

-- ---- what is held on a port is forced

-- what the law sees of the system
pub held_freed : (port : ℕ) (old new : SystemState) → HasConversations old → FreesHeld port old new
    → (model_view new ≡ freed_view (is_held port old) (model_view old)) × (model_setup new ≡ model_setup old)
held_freed port old new c f = grind (arith, nat_tests)

-- ---- refusals

pub refused_same : (agg : AggId) (conv : ℕ) (what : Result Assignment SystemFault) (fault : SystemFault) (old new : SystemState)
    → GivesOrRefuses agg conv what old (Err fault) new → new ≡ old
refused_same agg conv what fault old new h = grind (arith, nat_tests)
