-- What becomes of a frame that is offered, and of a conversation that is forced.
use Rattle.lagworld.proofs.Common.{Bool, Err, IsSome, List, Ok, Option, Result, ap, arith, length, nat_le, refl, subst, sym, ℕ, ◌%◌, ◌<◌, ◌∙◌, ◌≡◌}
use Rattle.lagworld.proofs.Common.{◌≤◌, and_parts, true≢false, nat_tests, bit_xor, AggId, Side, SystemFault, Offer, conversation_count}
use Rattle.lagworld.proofs.Common.{number_of_conversation, two_octets, PortsAgree, SystemState, Cabled, Reply, HalfAsksForce, WorldAsksOffer}
use Rattle.lagworld.proofs.Common.{with_sent_in, AfterOffer, Algorithms, WorldOffers, HalfAnswers, HalfForces, side_number, AreReserved, IsReservedAt}
use Rattle.lagworld.proofs.Common.{IsHalfSound, HalfState, LinkState, WorldState, change_flow, flow_at, half, is_accepted, put_on_port, sent_in}
use Rattle.lagworld.proofs.Common.{with_forced, with_half, with_links}
use Rattle.lagsystem.specs.declared.drive.Reply.TheVariants as answer
use Rattle.lagworld.proofs.EmitLemmas.{made}
use Rattle.cables.specs.declared.item.Stamp.TheVariants as stamp
use Rattle.lagworld.specs.declared.reply.Reply.TheVariants as reply

-- a place is reserved on any cable
pub any_reserved : {C : Type 0} (reserved : C → Bool) (s : Side) (ls : List (Cabled C)) → AreReserved reserved s ls → (o : Option ℕ)
    → IsReservedAt reserved s o ls
any_reserved reserved s ls h o = grind (arith, nat_tests)

-- what is done with an answer of a system is what the event does
pub offers_of : (gives : Algorithms) (s : Side) (agg : AggId) (octets : List ℕ) (a b : Result ℕ SystemFault) (old mid new : WorldState) (r : Reply) → a ≡ b
    → WorldAsksOffer gives s agg octets a old mid → AfterOffer s agg octets b mid r new → WorldOffers gives s agg octets old r new
offers_of gives s agg octets a b old mid new r e x y = grind (arith, nat_tests)

-- every system has a conversation, which has number 0
pub first_conversation : (s : SystemState) → PortsAgree s → 0 < conversation_count s
first_conversation s agrees = grind (arith, nat_tests)

-- a frame has the same conversation as long as there are as many
pub same_number : (octets : List ℕ) (old new : SystemState) → new.conversations ≡ old.conversations
    → number_of_conversation old octets ≡ number_of_conversation new octets
same_number octets old new same = ap (λ n. bit_xor (two_octets octets 4) (two_octets octets 10) % n) (sym same)

-- a frame that a system takes is long enough for a conversation
pub long_enough : {gives : ℕ → ℕ → ℕ → Type 0} {agg : AggId} {octets : List ℕ} {port : ℕ} {old new : HalfState}
    → HalfAnswers gives (Offer agg octets) (answer.Offer (Ok port)) old new → 14 ≤ length octets
long_enough {octets = octets} x = let test = (and_parts (nat_le 14 (length octets)) _ x.answers.step.0.1.0).0 in grind (arith, nat_tests)

-- and its conversation has its lists
pub taken_there : {gives : ℕ → ℕ → ℕ → Type 0} {agg : AggId} {octets : List ℕ} {port : ℕ} {old new : HalfState}
    → HalfAnswers gives (Offer agg octets) (answer.Offer (Ok port)) old new → IsHalfSound old → (conv : ℕ)
    → conv < conversation_count old.state → IsSome (flow_at new.flows agg.0 conv)
taken_there {agg = agg} {old = old} x kept conv below = grind (arith, nat_tests)

-- the frame goes out as the next of its conversation
pub frame_offered : (s : Side) (agg : AggId) (octets : List ℕ) (port conv serial number : ℕ) (kept : Bool) (links : List LinkState) (j new : WorldState)
    → conv ≡ number_of_conversation (half s j).state octets → IsSome (flow_at (half s j).flows agg.0 conv)
    → serial ≡ length (sent_in (flow_at (half s j).flows agg.0 conv)) → number ≡ side_number s
    → links ≡ put_on_port s port (made octets (stamp.Data number agg.0 conv serial)) j.links → kept ≡ is_accepted s port j.links
    → new ≡ with_links (with_half s (with_sent_in agg.0 conv (half s j)) j) links → AfterOffer s agg octets (Ok port) j (reply.Port port serial kept) new
frame_offered s agg octets port conv serial number kept links j new a b c d e f h = grind (arith, nat_tests)

-- what is done with an answer to force
pub freed : (gives : ℕ → ℕ → ℕ → Type 0) (agg : AggId) (conv : ℕ) (a : Result Unit SystemFault) (done : Unit) (old mid new : HalfState)
    → a ≡ Ok done → HalfAsksForce gives agg conv a old mid
    → new ≡ record mid { flows = change_flow with_forced agg.0 conv mid.flows } → HalfForces gives agg conv old reply.Forced new
freed gives agg conv a done old mid new e x h = (Ok done, mid, subst (λ a. HalfAsksForce gives agg conv a old mid) e x, refl, h)

pub not_freed : (gives : ℕ → ℕ → ℕ → Type 0) (agg : AggId) (conv : ℕ) (a : Result Unit SystemFault) (fault : SystemFault) (old mid : HalfState) → a ≡ Err fault
    → HalfAsksForce gives agg conv a old mid → HalfForces gives agg conv old (reply.Refused fault) mid
not_freed gives agg conv a fault old mid e x = (Err fault, mid, subst (λ a. HalfAsksForce gives agg conv a old mid) e x, refl, refl)
