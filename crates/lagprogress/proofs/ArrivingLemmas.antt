-- How a data frame gets a port, and how it is handed up at the other end of its cable.
use Rattle.lagprogress.proofs.Common.{Err, List, Ok, Result, Some, ap, arith, refl, slice_get, subst, true, ℕ, ◌∙◌, ◌≡◌, and_parts, nat_tests}
use Rattle.lagprogress.proofs.Common.{same_Some, AggId, One, Side, Two, value_of, Assignment, On, MaySend, is_among, SystemFault, Received, Up}
use Rattle.lagprogress.proofs.Common.{SystemPort, Data_frame, IsFrame, Offer, ReceivesAt, Step, MayBeOffered, assignment_of_frame, collecting}
use Rattle.lagprogress.proofs.Common.{distributing, number_of_conversation, IsSound, SystemState, port_index, effect_one, Reply, AfterOffer}
use Rattle.lagprogress.proofs.Common.{AfterReceive, Algorithms, WorldReceives, offered_item, with_frame_counted, with_link_at, HalfState, ItemValue}
use Rattle.lagprogress.proofs.Common.{LinkState, WorldState, half, port_at, with_half, with_towards, half_there, DeliverHandsUp, GetsPort, IsHandedUp}
use Rattle.lagprogress.proofs.Common.{OfferGetsPort, TakesFrame, EndIsUp}
use Rattle.lagprogress.proofs.Passing.{first_delivered}
use Rattle.lagsystem.specs.declared.drive.Reply.TheVariants as answer
use Rattle.lagsystem.proofs.Conversing.{assigned_may}
use Rattle.lagprogress.proofs.OneCable.{collected_links, collected_states, with_half_states}

-- the answer to an offer

pub is_data : (octets : List ℕ) → MayBeOffered octets → IsFrame octets Data_frame
is_data octets h = grind (arith, nat_tests, and_parts)

-- the port that it gives distributes
given : (ports : List ℕ) (a : Assignment) (port : ℕ) → ((p : ℕ) → a ≡ On p → is_among ports p ≡ true) → MaySend ports a port → is_among ports port ≡ true
given ports a port hyp1 hyp2 = grind (arith, nat_tests, true)

-- what the world does with it

pub same_ports : (s t : Side) (h k : HalfState) (j : WorldState) → h.state.system_ports ≡ (half s j).state.system_ports
    → k.state.system_ports ≡ h.state.system_ports → (half t (with_half s k (with_half s h j))).state.system_ports ≡ (half t j).state.system_ports
same_ports s t h k j hyp1 hyp2 = grind (arith, nat_tests)

offered : (gives : Algorithms) (s : Side) (agg : AggId) (octets : List ℕ) (a : Result ℕ SystemFault) (old new : WorldState) (mid : HalfState) (r : Reply)
    → IsSound (half s old).state → TakesFrame agg octets (half s old).state → Step (gives s) (half s old).state (Offer agg octets) (answer.Offer a) mid.state
    → AfterOffer s agg octets a (with_half s mid old) r (record new { acted = old.acted }) → GetsPort s agg octets old r new
offered gives s agg octets (Err fault) old new mid r sound takes h after = grind (arith, nat_tests)
offered gives s agg octets (Ok port) old new mid r sound takes h after = let st = (half s old).state in
    let conv = number_of_conversation st octets in
    let ports = distributing agg st.system_ports in
    let j = with_half s mid old in
    record {
      port = port;
      serial = _;
      item = offered_item s port agg octets (half s j);
      distributes = given ports (assignment_of_frame st agg octets) port (λ p e. sound.carried agg.0 conv p e)
          (assigned_may (gives s) conv ports (assignment_of_frame st agg octets) port h.1);
      replied = after.1;
      frame = refl;
      sent = ap (λ (w : WorldState). w.links) after.2;
      same = λ t. ap (λ (w : WorldState). (half t w).state.system_ports) after.2
          ∙ same_ports s t mid (with_frame_counted agg octets (half s j)) old
          (ap (λ (z : SystemState). z.system_ports) h.2.1) (ap (λ (k : HalfState). k.state.system_ports) (half_there s mid old));
    }

pub offer_gets_port : (gives : Algorithms) → OfferGetsPort gives
offer_gets_port gives = grind (arith, nat_tests, value_of, same_Some, offered)

-- a data frame comes off its cable

receives_data : (n k : ℕ) (x : SystemPort) (octets : List ℕ) (agg : AggId) (old : SystemState) (o : Received) (new : SystemState)
    → port_index n old.system_ports ≡ Some k → slice_get old.system_ports k ≡ Some x → x.port.enabled ≡ true → IsFrame octets Data_frame
    → collecting x.port ≡ Some agg → ReceivesAt (port_index n old.system_ports) octets old o new → (o ≡ Up agg) × (new ≡ old)
receives_data n k x octets agg old o new place there up plain collects h = grind (arith, nat_tests, effect_one)

handed : (gives : Algorithms) (s : Side) (i k : ℕ) (l : LinkState) (x : SystemPort) (agg : AggId) (item : ItemValue) (rest : List ItemValue)
    (r : Reply) (old new : WorldState) → EndIsUp s l k x old → IsFrame item.octets Data_frame → collecting x.port ≡ Some agg
    → WorldReceives gives s (port_at s l) item (with_link_at i (with_towards s rest l) old) r new → IsHandedUp s i l agg rest old r new
handed gives s i k l x agg item rest r old new end plain collects (Err fault, mid, h, after) = grind (arith, nat_tests)
handed gives s i k l x agg item rest r old new end plain collects (Ok o, mid, h, after) =
    let took = receives_data (port_at s l) k x item.octets agg (half s old).state o mid.state end.place end.there end.up plain collects
    h.answers.step in
    let j = with_link_at i (with_towards s rest l) old in
    let next = subst (λ a. AfterReceive s (port_at s l) item (Ok a) (with_half s mid j) r new) took.0 after in
    record {
      up = next.0;
      left = ap (λ (w : WorldState). w.links) next.1 ∙ collected_links item.stamp (with_half s mid j);
      same = λ t. ap (λ (w : WorldState). (half t w).state) next.1 ∙ (collected_states item.stamp (with_half s mid j) t
          ∙ (with_half_states s mid j took.1 t ∙ kept t));
    }
  where
    kept : (t : Side) → (half t (with_link_at i (with_towards s rest l) old)).state ≡ (half t old).state
    kept One = refl
    kept Two = refl

pub deliver_hands_up : (gives : Algorithms) → DeliverHandsUp gives
deliver_hands_up gives n s i k l x agg item rest r old new is there first end plain collects h =
    let up = handed gives s i k l x agg item rest r old (record new { acted = old.acted }) end plain collects
    (first_delivered gives n s i l item rest r old new is there first h) in
    record { up = up.up; left = up.left; same = λ t. up.same t }
