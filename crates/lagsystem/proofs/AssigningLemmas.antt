-- What offer_conversation does is what `offer` does for each frame of the conversation.
use Rattle.lagsystem.proofs.Common.{Bool, Err, List, Ok, Result, ap, arith, refl, subst, sym, true, ℕ, ◌%◌, ◌*◌, ◌+◌, ◌/◌, ◌<◌, ◌∙◌, ◌≡◌, nat_tests}
use Rattle.lagsystem.proofs.Common.{AllByRecursion, bit_xor, AggId, On, assignment_of, is_conversation_count, SystemFault, OffersConversation}
use Rattle.lagsystem.proofs.Common.{OffersIf, TakesPort, frame_of_conversation, Offer, MayBeOffered, Offers, conversation_count, distributing}
use Rattle.lagsystem.proofs.Common.{number_of_conversation, CallPromise, IsSound, SystemState}
use Rattle.lagsystem.specs.Offers.{longest_frame}
use Rattle.std.proofs.Math.Nat.{mod-eq_of_lt}
use Rattle.std.specs.Int.Bits.{xor_zero_r}
use Rattle.lagsystem.specs.declared.drive.Reply.TheVariants as reply
use Rattle.lagsystem.proofs.Conversing.{assigned_may}
use Rattle.lagsystem.proofs.OnPorts.{may_carry, sets_carried}
use Rattle.lagsystem.proofs.PromiseLemmas.{table_sound}
use Rattle.lagsystem.proofs.Rising.{accepted_count}
use Rattle.lagsystem.proofs.Sound.{answers}

-- and the conversation of a frame is one that there is
pub offered_alike : (gives : ℕ → ℕ → ℕ → Type 0) (agg : AggId) (octets : List ℕ) (old : SystemState) (answer : Result ℕ SystemFault)
    (new : SystemState) → is_conversation_count old.conversations ≡ true → MayBeOffered octets
    → OffersConversation gives agg (number_of_conversation old octets) old answer new → Offers gives agg octets old answer new
offered_alike gives agg octets old answer new c may h = grind (arith, nat_tests)

-- the invariant stays
takes_sound : (gives : ℕ → ℕ → ℕ → Type 0) (agg : AggId) (conv : ℕ) (old : SystemState) (answer : Result ℕ SystemFault)
    (new : SystemState) → TakesPort gives agg conv old answer new → IsSound old → IsSound new
takes_sound gives agg conv old (Ok port) new h s = let was = assignment_of old.table agg.0 conv in
    let may = assigned_may gives conv (distributing agg old.system_ports) was port h.0 in
    table_sound old new h.1.1 h.1.0.aggs h.1.0.conversations
    (sets_carried agg conv (On port) old new h.1.0 h.1.1 s.carried (λ p e. may_carry old agg.0 p port was may e)) s
takes_sound gives agg conv old (Err fault) new h s = subst IsSound (sym h.1) s

if_sound : (gives : ℕ → ℕ → ℕ → Type 0) (agg : AggId) (conv : ℕ) (old : SystemState) (answer : Result ℕ SystemFault)
    (new : SystemState) (there known : Bool) → OffersIf there known gives agg conv old answer new → IsSound old → IsSound new
if_sound gives agg conv old answer new there known h s = grind (arith, nat_tests, takes_sound)

pub offers_sound : (gives : ℕ → ℕ → ℕ → Type 0) (agg : AggId) (conv : ℕ) (old : SystemState) (answer : Result ℕ SystemFault)
    (new : SystemState) → OffersConversation gives agg conv old answer new → IsSound old → IsSound new
offers_sound gives agg conv old answer new h s = grind (arith, nat_tests, if_sound)

pub offers_promise : (gives : ℕ → ℕ → ℕ → Type 0) (agg : AggId) (conv : ℕ) (old : SystemState) (answer : Result ℕ SystemFault)
    (new : SystemState) → OffersConversation gives agg conv old answer new → IsSound old → (octets : List ℕ) → MayBeOffered octets
    → number_of_conversation old octets ≡ conv → CallPromise gives old (Offer agg octets) (reply.Offer answer) new
offers_promise gives agg conv old answer new h s octets may e = answers gives old (Offer agg octets) (reply.Offer answer) new
    (offered_alike gives agg octets old answer new
    (accepted_count old.keys old.ports old.max_links old.conversations s.ports.accepted) may
    (subst (λ c. OffersConversation gives agg c old answer new) (sym e) h)) s

-- there is a frame of each conversation
pub framed : (s : SystemState) (conv : ℕ) → conv < conversation_count s
    → MayBeOffered (frame_of_conversation conv) × (number_of_conversation s (frame_of_conversation conv) ≡ conv)
unfolding longest_frame
framed s conv l = (
  (refl, λ slow. absurd (not_slow slow.0)),
  ap (λ n. n % conversation_count s) (ap (λ n. bit_xor n 0) (two conv) ∙ xor_zero_r conv) ∙ small conv (conversation_count s) l,
)
  where
    not_slow : ◌≡◌ {A = ℕ} 8 136 → ⊥
    not_slow e = omega (arith, e)

    two : (n : ℕ) → n / 256 * 256 + n % 256 ≡ n
    two n = omega arith

    small : (n m : ℕ) → n < m → n % m ≡ n
    small n m l = mod-eq_of_lt l

pub frame_is_octets : (conv : ℕ) → conv < 65536 → AllByRecursion (λ octet. octet < 256) (frame_of_conversation conv)
frame_is_octets conv l = grind (arith, nat_tests)
