-- How an item arrives on a port, step by step.
use Rattle.std.specs.Prelude.{◌≡◌, ◌==◌, ◌<◌, ℕ, Bool, true, false, List, [], ◌∷◌, Option, Some, None, IsSomeAnd, Result, Ok, Err}
use Rattle.std.specs.Prelude.{map, position, slice_get, vec_len, vec_capacity}
use Rattle.std.specs.Global.{Vec}
use Rattle.cables.specs.declared.item.Item.{Item}
use Rattle.cables.specs.declared.item.Stamp.{Stamp}
use Rattle.cables.specs.declared.item.Stamp.TheVariants as stamp
use Rattle.slowpdu.specs.declared.pdu.Lacpdu.{Lacpdu}
use Rattle.slowpdu.specs.declared.pdu.Pdu.TheVariants as pdu
use Rattle.lagmodel.specs.World.{Side}
use Rattle.lagsystem.specs.declared.received.Received.{Received}
use Rattle.lagsystem.specs.declared.received.Received.TheVariants as received
use Rattle.lagsystem.specs.declared.drive.Reply.TheVariants as answer
use Rattle.lagsystem.specs.declared.fault.SystemFault.{SystemFault}
use Rattle.lagsystem.specs.Calls.{Carries, IsFrame, Receive}
use Rattle.lagworld.specs.declared.delivering.Head.{Head}
use Rattle.lagworld.specs.declared.inner.Inner.{Inner}
use Rattle.lagworld.specs.declared.histories.Flow.{Flow}
use Rattle.lagworld.specs.declared.histories.StampedLacpdu.{StampedLacpdu}
use Rattle.lagworld.specs.declared.histories.PortHistory.{PortHistory}
use Rattle.lagworld.specs.declared.reply.Reply.{Reply}
use Rattle.lagworld.specs.declared.reply.Reply.TheVariants as reply
use Rattle.lagworld.specs.State.{ItemValue, HalfState, LinkState, WorldState, FlowValue, by_side, element_numbered, port_at, towards}
use Rattle.lagworld.specs.State.{is_accepted}
use Rattle.lagworld.specs.HalfCalls.{HalfAnswers, with_state}
use Rattle.lagworld.specs.Events.{Algorithms, InHalf, OnLink, DeliversFrom, RepeatsFrom, stamped_in, set_last_lacpdu, with_last_lacpdu}
use Rattle.lagworld.specs.Events.{with_item_sent, with_stamp_collected}
use Rattle.lagworld.specs.Inner.{flow_value}
use Rattle.lagworld.specs.Messages.{side_numbered}
use Rattle.lagworld.specs.Places.{IsReserved}

-- if the item was an LACPDU and was received, it is recorded with its stamp; else nothing is
abbrev pub with_lacpdu_recorded : Result Received SystemFault → ℕ → ItemValue → HalfState → HalfState
with_lacpdu_recorded (Ok received.TookLacpdu) p item h = with_last_lacpdu p (stamped_in item) h
with_lacpdu_recorded _ p item h = h

-- this item arrives on port p of one of the two systems, which answers a; an LACPDU that it took is recorded
abbrev pub HalfReceives : (ℕ → ℕ → ℕ → Type 0) → ℕ → ItemValue → Result Received SystemFault → HalfState → HalfState → Type 0
HalfReceives gives p item a old new =
    HalfAnswers gives (Receive p item.octets) (answer.Receive a) old (with_state new.state old)
    × (new ≡ with_lacpdu_recorded a p item (with_state new.state old))

-- the frame contains this LACPDU
abbrev pub CarriesLacpdu : List ℕ → Lacpdu → Type 0
CarriesLacpdu octets v = IsFrame octets (Carries (pdu.Lacpdu v))

-- what is to be recorded for an item with this answer
abbrev pub IsToRecord : Result Received SystemFault → ItemValue → Option StampedLacpdu → Type 0
IsToRecord (Ok received.TookLacpdu) item lacpdu = (v : Lacpdu) → CarriesLacpdu item.octets v → lacpdu ≡ Some (stamped_in item)
IsToRecord _ item lacpdu = lacpdu ≡ None

-- the index of the history of a port
abbrev pub history_index : ℕ → List PortHistory → Option ℕ
history_index p histories = position (λ history. history.number == p) histories

-- the histories, with this LACPDU as the one that port p took last; unchanged if there is none
abbrev pub last_lacpdu_recorded : ℕ → Option StampedLacpdu → List PortHistory → List PortHistory
last_lacpdu_recorded p None histories = histories
last_lacpdu_recorded p (Some lacpdu) histories = set_last_lacpdu p lacpdu histories

-- The first item of the list arrives on port p of one of the two systems, which answers a; without an item, a is None
-- and nothing changes.
abbrev pub HalfReceivesFirst : (ℕ → ℕ → ℕ → Type 0) → ℕ → List ItemValue → Option (Result Received SystemFault)
    → HalfState → HalfState → Type 0
HalfReceivesFirst gives p [] a old new = (a ≡ None) × (new ≡ old)
HalfReceivesFirst gives p (item ∷ rest) a old new = IsSomeAnd a (λ a. HalfReceives gives p item a old new)

-- The first item of the list arrives on port p of system s, which answers a; without an item, a is None and nothing
-- changes.
abbrev pub WorldReceivesFirst : Algorithms → Side → ℕ → List ItemValue → Option (Result Received SystemFault)
    → WorldState → WorldState → Type 0
WorldReceivesFirst gives s p [] a old new = (a ≡ None) × (new ≡ old)
WorldReceivesFirst gives s p (item ∷ rest) a old new = IsSomeAnd a (λ a. InHalf s (HalfReceives (gives s) p item a) old new)

-- What the answer asks for outside of the system: a response goes onto the cable of the port that the marker came on,
-- and a data frame counts as collected.
abbrev pub Concludes : Side → ℕ → Stamp → Result Received SystemFault → WorldState → Reply → WorldState → Type 0
Concludes s p st (Err fault) old r new = (r ≡ reply.Refused fault) × (new ≡ old)
Concludes s p st (Ok received.Disabled) old r new = (r ≡ reply.Disabled) × (new ≡ old)
Concludes s p st (Ok received.Dropped) old r new = (r ≡ reply.Dropped) × (new ≡ old)
Concludes s p st (Ok (received.Ignored fault)) old r new = (r ≡ reply.Ignored) × (new ≡ old)
Concludes s p st (Ok received.TookLacpdu) old r new = (r ≡ reply.Took) × (new ≡ old)
Concludes s p st (Ok (received.Respond frame)) old r new =
    (r ≡ reply.Responded (is_accepted s p old.links)) × (new ≡ with_item_sent s p (record { octets = frame; stamp = stamp.Control 0 }) old)
Concludes s p st (Ok (received.Released n)) old r new = (r ≡ reply.Released n) × (new ≡ old)
Concludes s p st (Ok (received.Up agg)) old r new = (r ≡ reply.Up agg) × (new ≡ with_stamp_collected st old)

-- the port p that the first item of the list will arrive on, and its stamp; None without an item
abbrev pub first_head : ℕ → List ItemValue → Option Head
first_head p [] = None
first_head p (item ∷ rest) = Some (record { port = p; stamp = item.stamp })

-- the port that the first item towards system s on this cable will arrive on, and its stamp; None without an item
abbrev pub head_in : Side → LinkState → Option Head
head_in s l = first_head (port_at s l) (towards s l)

-- the stamp is that of a data frame
abbrev pub is_data : Stamp → Bool
is_data (stamp.Control count) = false
is_data (stamp.Data system agg conv serial) = true

-- the conversations of an aggregator, as contracts see them
abbrev pub aggregator_flow_values : Vec Flow → List FlowValue
aggregator_flow_values conversations = map flow_value conversations.items

-- a place is reserved in the conversation's list of collected serial numbers, if it exists
abbrev pub CanCollect : Option Flow → Type 0
CanCollect None = Unit {0}
CanCollect (Some flow) = vec_len flow.collected < vec_capacity flow.collected

-- a place is reserved in the list of collected serial numbers of conversation k of an aggregator, if both exist
abbrev pub CanCollectIn : ℕ → Option (Vec Flow) → Type 0
CanCollectIn k None = Unit {0}
CanCollectIn k (Some conversations) = CanCollect (slice_get conversations.items k)

-- A place is reserved in the list of collected serial numbers of this conversation of the aggregator with this
-- number, if both exist.
abbrev pub CanCollectAt : ℕ → ℕ → List (Vec Flow) → Type 0
CanCollectAt agg conv flows = CanCollectIn conv (element_numbered flows agg)

-- A place is reserved in the list of collected serial numbers of the conversation that a stamp names, among the
-- conversations of systems 1 and 2; nothing is asked for a control frame.
abbrev pub CanCollectFor : Stamp → List (Vec Flow) → List (Vec Flow) → Type 0
CanCollectFor (stamp.Control count) one two = Unit {0}
CanCollectFor (stamp.Data system agg conv serial) one two = CanCollectAt agg conv (by_side (side_numbered system) one two)

-- The places that an item may need that arrives on a port of a system: one on the cable of that port, and one for a
-- serial number.
pub record HasPlacesForItem {C F : Type 0} (items : C → List Item) (limit : C → Option ℕ) (reserved : C
    → Bool) (s : Side) (head : Head) (inner : Inner C F) : Type 0 where
  pub place : IsReserved items limit reserved s head.port inner.links.items
  pub serial : CanCollectFor head.stamp inner.one.flows.items inner.two.flows.items

-- a Deliver event does this: the first item on cable c towards system s is taken off and arrives
abbrev pub WorldDelivers : Algorithms → Side → ℕ → WorldState → Reply → WorldState → Type 0
WorldDelivers gives s c old r new = OnLink c (λ i l. DeliversFrom gives s i l (towards s l) old r new) old.links

-- a Repeat event does this: the first item on cable c towards s arrives but stays, unless it is a data frame
abbrev pub WorldRepeats : Algorithms → Side → ℕ → WorldState → Reply → WorldState → Type 0
WorldRepeats gives s c old r new = OnLink c (λ i l. RepeatsFrom gives s l (towards s l) old r new) old.links
