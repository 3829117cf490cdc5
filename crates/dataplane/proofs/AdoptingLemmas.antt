-- Adopting: a free conversation comes onto its port by calls that a system has.
use Rattle.dataplane.proofs.Common.{ap, arith, refl, subst, ◌∙◌, nat_tests, is_none, AggId, LawfulMoves, Sends_frame, ModelCall, Assignment, Free, On}
use Rattle.dataplane.proofs.Common.{Wanted, is_among, Table, assignment_of, next_identifier, model_distributor, SystemFault, OffersConversation}
use Rattle.dataplane.proofs.Common.{TakesPort, frame_of_conversation, Offer, JoinedByLawfulMoves, model_setup, model_view, model_view_at}
use Rattle.dataplane.proofs.Common.{GivesAssignment, GivesOrRefuses, MayBeOffered, has_aggregator, system_force_result, system_move_result}
use Rattle.dataplane.proofs.Common.{conversation_count, distributing, number_of_conversation, CallPromise, SystemState, port_index, with_table}
use Rattle.dataplane.proofs.Common.{framed, IsFreeIn, IsPlaced, adopt_result}
use Rattle.std.specs.Prelude.{Bool, true, false, ◌&&◌, ◌≡◌, ◌^◌, ℕ, cond, if◌then◌else◌, is_some, nat_lt, List, [], ◌∷◌, Option, Some}
use Rattle.std.specs.Prelude.{Result, Ok, Err}
use Rattle.distributor.specs.Changes.{SetsAssignment}
use Rattle.lagsystem.specs.declared.drive.Reply.TheVariants as reply

-- what there has to be for a free conversation to come onto the port
pub record Fits (s : SystemState) (agg : AggId) (conv port : ℕ) : Type 0 where
  pub there : has_aggregator s agg ≡ true
  pub known : is_some (port_index port s.system_ports) ≡ true
  pub within : nat_lt conv (conversation_count s) ≡ true
  pub among : is_among (distributing agg s.system_ports) port ≡ true
  pub left : is_none (next_identifier s.table) ≡ false

abbrev Tests : Bool → Bool → Bool → Bool → Bool → Type 0
Tests a b c d m = (a ≡ true) × (b ≡ true) × (c ≡ true) × (d ≡ true) × (m ≡ false)

pub fits : (s : SystemState) (agg : AggId) (conv port : ℕ) → IsFreeIn s agg conv → adopt_result s agg conv port ≡ Ok (On port) → Fits s agg conv port
fits s agg conv port free e = grind (arith, nat_tests)

-- with other conversations, and the same next marker
still_fits : (s t : SystemState) (agg : AggId) (conv port c : ℕ) (a : Assignment) → GivesAssignment agg c a s t → Fits s agg conv port → Fits t agg conv port
still_fits s t agg conv port c a h f = grind (arith, nat_tests)

pub now_in : (s t : SystemState) (agg : AggId) (conv : ℕ) (a : Assignment) → GivesAssignment agg conv a s t → assignment_of t.table agg.0 conv ≡ a
now_in s t agg conv a h = grind (arith, nat_tests)

twice : (x : Bool) (a b r : Assignment) → cond x b (cond x a r) ≡ cond x b r
twice x a b r = grind (arith, nat_tests)

pub both : (s t u : SystemState) (agg : AggId) (conv : ℕ) (a b : Assignment) → GivesAssignment agg conv a s t → GivesAssignment agg conv b t u
    → GivesAssignment agg conv b s u
both s t u agg conv a b h k = grind (arith, nat_tests)

taken : (gives : ℕ → ℕ → ℕ → Type 0) (agg : AggId) (conv port : ℕ) (s : SystemState) (answer : Result ℕ SystemFault) (t : SystemState)
    → Fits s agg conv port → OffersConversation gives agg conv s answer t → TakesPort gives agg conv s answer t
taken gives agg conv port s answer t f h = grind (arith, nat_tests)

pub is_answered : (gives : ℕ → ℕ → ℕ → Type 0) (agg : AggId) (conv port : ℕ) (s : SystemState) (fault : SystemFault) (t : SystemState)
    → Fits s agg conv port → IsFreeIn s agg conv → OffersConversation gives agg conv s (Err fault) t → ⊥
is_answered gives agg conv port s fault t f free h = grind (arith, nat_tests)

pub is_given : (gives : ℕ → ℕ → ℕ → Type 0) (agg : AggId) (conv port p : ℕ) (s t : SystemState)
    → Fits s agg conv port → OffersConversation gives agg conv s (Ok p) t → GivesAssignment agg conv (On p) s t
is_given gives agg conv port p s t f h = (taken gives agg conv port s (Ok p) t f h).1

-- an offer of a conversation that prefers the port goes there
pub as_preferred : (gives : ℕ → ℕ → ℕ → Type 0) (agg : AggId) (conv port p : ℕ) (s t : SystemState)
    → Fits s agg conv port → assignment_of s.table agg.0 conv ≡ Free (Some port) → OffersConversation gives agg conv s (Ok p) t → p ≡ port
as_preferred gives agg conv port p s t f free h = grind (arith, nat_tests)

-- a move from another port is accepted
pub is_moved : (agg : AggId) (conv port p : ℕ) (s : SystemState) (answer : Result Unit SystemFault) (t : SystemState) → Fits s agg conv port
    → assignment_of s.table agg.0 conv ≡ On p → (p ≡ port → ⊥) → GivesOrRefuses agg conv (system_move_result s agg conv port) s answer t
    → (answer ≡ Ok tt) × GivesAssignment agg conv (Wanted p (Some port)) s t
is_moved agg conv port p s answer t f on differs h = grind (arith, nat_tests)

-- a force of what waits is accepted
pub is_forced : (agg : AggId) (conv port p : ℕ) (s : SystemState) (answer : Result Unit SystemFault) (t : SystemState) → Fits s agg conv port
    → assignment_of s.table agg.0 conv ≡ Wanted p (Some port) → GivesOrRefuses agg conv (system_force_result s agg conv) s answer t
    → (answer ≡ Ok tt) × GivesAssignment agg conv (Free (Some port)) s t
is_forced agg conv port p s answer t f on h = grind (arith, nat_tests)

-- what is free in both is the same to the model
same_flows : (t u : Table) (agg conv : ℕ) (p q : Option ℕ) → SetsAssignment t u agg conv (Free q) → assignment_of t agg conv ≡ Free p
    → model_distributor u ≡ model_distributor t
same_flows t u agg conv p q h free = grind (arith, nat_tests)

abbrev OffersEach : (ℕ → ℕ → ℕ → Type 0) → AggId → ℕ → SystemState → Result ℕ SystemFault → SystemState → Type 0
OffersEach gives agg conv old answer new = (octets : List ℕ) → MayBeOffered octets → number_of_conversation old octets ≡ conv
    → CallPromise gives old (Offer agg octets) (reply.Offer answer) new

-- the last offer is lawful, and the state before it looks to the model as the first one
pub placed : (gives : ℕ → ℕ → ℕ → Type 0) (agg : AggId) (conv port : ℕ) (old mid new : SystemState) → mid ≡ with_table old mid.table
    → model_distributor mid.table ≡ model_distributor old.table → Fits mid agg conv port → GivesAssignment agg conv (On port) old new
    → OffersEach gives agg conv mid (Ok port) new → IsPlaced agg conv port old new
placed gives agg conv port old mid new stays alike f h each = record {
  gives = h;
  promise = record {
    others = h.1;
    moves = subst (λ v. LawfulMoves (model_setup old) ModelCall.Offer v (Sends_frame port agg.0 conv ∷ []) (model_view new)) looks lawful;
    agrees = p.agrees;
    configured = p.configured ∙ ap model_setup stays;
    conversations = p.conversations ∙ ap (λ (s : SystemState). s.conversations) stays;
    max_links = p.max_links ∙ ap (λ (s : SystemState). s.max_links) stays;
  };
}
  where
    frame : MayBeOffered (frame_of_conversation conv) × (number_of_conversation mid (frame_of_conversation conv) ≡ conv)
    frame = let within = f.within in framed mid conv (grind (arith, nat_tests))

    p : CallPromise gives mid (Offer agg (frame_of_conversation conv)) (reply.Offer (Ok port)) new
    p = each (frame_of_conversation conv) frame.0 frame.1

    m : JoinedByLawfulMoves mid (Offer agg (frame_of_conversation conv)) (reply.Offer (Ok port)) new
    m = p.moves

    looks : model_view mid ≡ model_view old
    looks = ap model_view stays ∙ ap (λ d. model_view_at d old.system_ports) alike

    lawful : LawfulMoves (model_setup old) ModelCall.Offer (model_view mid) (Sends_frame port agg.0 conv ∷ []) (model_view new)
    lawful = subst (λ u. LawfulMoves u ModelCall.Offer (model_view mid) (Sends_frame port agg.0 conv ∷ []) (model_view new)) (ap model_setup stays)
        (subst (λ c. LawfulMoves (model_setup mid) c (model_view mid) (Sends_frame port agg.0 conv ∷ []) (model_view new)) m.2
        (subst (λ k. LawfulMoves (model_setup mid) m.0 (model_view mid) (Sends_frame port agg.0 k ∷ []) (model_view new)) frame.1
        (subst (λ acts. LawfulMoves (model_setup mid) m.0 (model_view mid) acts (model_view new)) m.3 m.4)))

-- The calls of an adoption, up to each of them: none is refused, and the conversation comes to its port.
abbrev Offered : (ℕ → ℕ → ℕ → Type 0) → AggId → ℕ → ℕ → ℕ → SystemState → SystemState → Type 0
Offered gives agg conv port p s t = IsFreeIn s agg conv × (adopt_result s agg conv port ≡ Ok (On port))
    × OffersConversation gives agg conv s (Ok p) t × (p ≡ port → ⊥)

abbrev Moved : AggId → ℕ → ℕ → SystemState → Result Unit SystemFault → SystemState → Type 0
Moved agg conv port s answer t = GivesOrRefuses agg conv (system_move_result s agg conv port) s answer t

abbrev Forced : AggId → ℕ → SystemState → Result Unit SystemFault → SystemState → Type 0
Forced agg conv s answer t = GivesOrRefuses agg conv (system_force_result s agg conv) s answer t

first_given : (gives : ℕ → ℕ → ℕ → Type 0) (agg : AggId) (conv port p : ℕ) (s t : SystemState) → Offered gives agg conv port p s t
    → GivesAssignment agg conv (On p) s t
first_given gives agg conv port p s t o = is_given gives agg conv port p s t (fits s agg conv port o.0 o.1) o.2

first_fits : (gives : ℕ → ℕ → ℕ → Type 0) (agg : AggId) (conv port p : ℕ) (s t : SystemState) → Offered gives agg conv port p s t → Fits t agg conv port
first_fits gives agg conv port p s t o = grind (arith, nat_tests)

then_moved : (gives : ℕ → ℕ → ℕ → Type 0) (agg : AggId) (conv port p : ℕ) (s t u : SystemState) (moved : Result Unit SystemFault)
    → Offered gives agg conv port p s t → Moved agg conv port t moved u → (moved ≡ Ok tt) × GivesAssignment agg conv (Wanted p (Some port)) t u
then_moved gives agg conv port p s t u moved o m = grind (arith, nat_tests, is_moved, first_fits, now_in, first_given)

then_forced : (gives : ℕ → ℕ → ℕ → Type 0) (agg : AggId) (conv port p : ℕ) (s t u v : SystemState) (moved forced : Result Unit SystemFault)
    → Offered gives agg conv port p s t → Moved agg conv port t moved u → Forced agg conv u forced v
    → (forced ≡ Ok tt) × GivesAssignment agg conv (Free (Some port)) u v × Fits v agg conv port
then_forced gives agg conv port p s t u v moved forced o m h = let a = then_moved gives agg conv port p s t u moved o m in
    grind (arith, nat_tests, still_fits, first_fits, is_forced, now_in)

not_done : (fault : SystemFault) → ◌≡◌ {A = Result Unit SystemFault} (Err fault) (Ok tt) → ⊥
not_done fault e = absurd cc

pub move_is_accepted : (gives : ℕ → ℕ → ℕ → Type 0) (agg : AggId) (conv port p : ℕ) (s t u : SystemState) (fault : SystemFault)
    → Offered gives agg conv port p s t → Moved agg conv port t (Err fault) u → ⊥
move_is_accepted gives agg conv port p s t u fault o m = not_done fault (then_moved gives agg conv port p s t u (Err fault) o m).0

pub force_is_accepted : (gives : ℕ → ℕ → ℕ → Type 0) (agg : AggId) (conv port p : ℕ) (s t u v : SystemState) (moved : Result Unit SystemFault)
    (fault : SystemFault) → Offered gives agg conv port p s t → Moved agg conv port t moved u → Forced agg conv u (Err fault) v → ⊥
force_is_accepted gives agg conv port p s t u v moved fault o m h =
    not_done fault (then_forced gives agg conv port p s t u v moved (Err fault) o m h).0

pub offer_is_accepted : (gives later : ℕ → ℕ → ℕ → Type 0) (agg : AggId) (conv port p : ℕ) (s t u v w : SystemState)
    (moved forced : Result Unit SystemFault) (fault : SystemFault) → Offered gives agg conv port p s t → Moved agg conv port t moved u
    → Forced agg conv u forced v → OffersConversation later agg conv v (Err fault) w → ⊥
offer_is_accepted gives later agg conv port p s t u v w moved forced fault o m h l =
    let b = then_forced gives agg conv port p s t u v moved forced o m h in
    is_answered later agg conv port v fault w b.2 (Some port, now_in u v agg conv (Free (Some port)) b.1) l

pub first_refused : (gives : ℕ → ℕ → ℕ → Type 0) (agg : AggId) (conv port : ℕ) (s t : SystemState) (fault : SystemFault) → IsFreeIn s agg conv
    → adopt_result s agg conv port ≡ Ok (On port) → OffersConversation gives agg conv s (Err fault) t → ⊥
first_refused gives agg conv port s t fault free e o = is_answered gives agg conv port s fault t (fits s agg conv port free e) free o

pub placed_at_once : (gives : ℕ → ℕ → ℕ → Type 0) (agg : AggId) (conv port p : ℕ) (s t : SystemState) → IsFreeIn s agg conv
    → adopt_result s agg conv port ≡ Ok (On port) → OffersConversation gives agg conv s (Ok p) t → OffersEach gives agg conv s (Ok p) t
    → p ≡ port → IsPlaced agg conv port s t
placed_at_once gives agg conv port p s t free e o each same = let f = fits s agg conv port free e in
    placed gives agg conv port s s t refl refl f
    (subst (λ q. GivesAssignment agg conv (On q) s t) same (is_given gives agg conv port p s t f o))
    (subst (λ q. OffersEach gives agg conv s (Ok q) t) same each)

pub placed_behind : (gives later : ℕ → ℕ → ℕ → Type 0) (agg : AggId) (conv port p q : ℕ) (s t u v w : SystemState) (moved forced : Result Unit SystemFault)
    → Offered gives agg conv port p s t → Moved agg conv port t moved u → Forced agg conv u forced v → OffersConversation later agg conv v (Ok q) w
    → OffersEach later agg conv v (Ok q) w → IsPlaced agg conv port s w
placed_behind gives later agg conv port p q s t u v w moved forced o m h l each =
    let a = then_moved gives agg conv port p s t u moved o m in
    let b = then_forced gives agg conv port p s t u v moved forced o m h in
    let there : q ≡ port = as_preferred later agg conv port q v w b.2 (now_in u v agg conv (Free (Some port)) b.1) l in
    let freed : GivesAssignment agg conv (Free (Some port)) s v =
    both s u v agg conv (Wanted p (Some port)) (Free (Some port))
    (both s t u agg conv (On p) (Wanted p (Some port)) (first_given gives agg conv port p s t o) a.1) b.1 in
    let given = subst (λ n. GivesAssignment agg conv (On n) v w) there (is_given later agg conv port q v w b.2 l) in
    placed later agg conv port s v w freed.1 (same_flows s.table v.table agg.0 conv o.0.0 (Some port) freed.0 o.0.1) b.2
    (both s v w agg conv (Free (Some port)) (On port) freed given)
    (subst (λ n. OffersEach later agg conv v (Ok n) w) there each)
