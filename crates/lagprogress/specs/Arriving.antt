-- A data frame that a bundle is offered gets a port, and is handed up at the other end of its cable (6.2.3, 6.2.4; profile).
use Rattle.std.specs.Prelude.{◌≡◌, ◌≤◌, ◌⊎◌, ℕ, suc, true, false, List, [], ◌∷◌, None, Some, slice_get, slice_set}
use Rattle.std.specs.Global.{Vec}
use Rattle.lagtypes.specs.declared.identifiers.AggId.{AggId}
use Rattle.portmachines.specs.declared.receive.ReceiveState.TheVariants.{PortDisabled}
use Rattle.portmachines.specs.Mux.{partner_synchronized}
use Rattle.distributor.specs.Calls.{is_among}
use Rattle.lagmodel.specs.World.{Side, peer}
use Rattle.lagsystem.specs.declared.config.Config.{Config}
use Rattle.lagsystem.specs.declared.system_ports.SystemPort.{SystemPort}
use Rattle.lagsystem.specs.Calls.{IsFrame, Data_frame}
use Rattle.lagsystem.specs.Offers.{MayBeOfferedTo, assignment_of_frame}
use Rattle.lagsystem.specs.Readers.{collecting, distributing}
use Rattle.lagsystem.specs.Sound.{IsSound}
use Rattle.lagsystem.specs.State.{SystemState}
use Rattle.lagscript.specs.declared.event.Event.{Event}
use Rattle.lagscript.specs.declared.event.Event.TheVariants as event
use Rattle.lagworld.specs.declared.reply.Reply.{Reply}
use Rattle.lagworld.specs.declared.reply.Reply.TheVariants as reply
use Rattle.lagworld.specs.Events.{Algorithms, WorldSteps, side_of}
use Rattle.lagworld.specs.Making.{AreFirst}
use Rattle.lagworld.specs.Sound.{IsStart}
use Rattle.lagworld.specs.State.{ItemValue, LinkState, WorldState, half, is_accepted, port_at, put_on_port, towards, with_towards}
use Rattle.lagprogress.specs.Bundle.{IsBundle}
use Rattle.lagprogress.specs.Freed.{held_on}
use Rattle.laghosts.specs.HostEvents.{HostEvent, HostRuns, Plays}
use Rattle.lagprogress.specs.HostRounds.{IsHostRound, RunReplies}
use Rattle.lagprogress.specs.LateRounds.{LateRounds}
use Rattle.lagprogress.specs.Passing.{EndIsUp}
use Rattle.lagprogress.specs.Rounds.{AtEnd, NothingInFlight}

-- The frame and the aggregator are such as `offer` takes, a port distributes in the aggregator, and the conversation of the
-- frame is not held.
pub record TakesFrame (agg : AggId) (octets : List ℕ) (s : SystemState) : Type 0 where
  pub may : MayBeOfferedTo s agg octets
  pub distributor : (p : ℕ) × (is_among (distributing agg s.system_ports) p ≡ true)
  pub free : held_on (assignment_of_frame s agg octets) ≡ None

-- system s has given the frame a port that distributes in the aggregator, and has sent it there; no port has changed
pub record GetsPort (s : Side) (agg : AggId) (octets : List ℕ) (old : WorldState) (r : Reply) (new : WorldState) : Type 0 where
  pub port : ℕ
  pub serial : ℕ
  pub item : ItemValue
  pub distributes : is_among (distributing agg (half s old).state.system_ports) port ≡ true
  pub replied : r ≡ reply.Port port serial (is_accepted s port old.links)
  pub frame : item.octets ≡ octets
  pub sent : new.links ≡ put_on_port s port item old.links
  pub same : (t : Side) → (half t new).state.system_ports ≡ (half t old).state.system_ports

-- An Offer event gives a frame that a sound system takes a port that distributes in the aggregator.
abbrev pub OfferGetsPort : Algorithms → Type 0
OfferGetsPort gives = (n : ℕ) (s : Side) (agg : AggId) (octets : Vec ℕ) (r : Reply) (old new : WorldState) → side_of n ≡ Some s
    → IsSound (half s old).state → TakesFrame agg octets.items (half s old).state
    → WorldSteps gives old (event.Offer n agg octets) r new → GetsPort s agg octets.items old r new

-- the first item towards system s on the cable at index i is handed up in the aggregator; the rest is left, and both systems
-- stay
pub record IsHandedUp (s : Side) (i : ℕ) (l : LinkState) (agg : AggId) (rest : List ItemValue) (old : WorldState) (r : Reply)
    (new : WorldState) : Type 0 where
  pub up : r ≡ reply.Up agg
  pub left : new.links ≡ slice_set old.links i (with_towards s rest l)
  pub same : (t : Side) → (half t new).state ≡ (half t old).state

-- A Deliver event of a cable whose first item is a data frame hands it up in the aggregator in which the port there collects,
-- if the link of that port is up.
abbrev pub DeliverHandsUp : Algorithms → Type 0
DeliverHandsUp gives = (n : ℕ) (s : Side) (i k : ℕ) (l : LinkState) (x : SystemPort) (agg : AggId) (item : ItemValue)
    (rest : List ItemValue) (r : Reply) (old new : WorldState) → side_of n ≡ Some s → slice_get old.links i ≡ Some l
    → towards s l ≡ item ∷ rest → EndIsUp s l k x old → IsFrame item.octets Data_frame → collecting x.port ≡ Some agg
    → WorldSteps gives old (event.Deliver (suc i) n) r new → IsHandedUp s i l agg rest old r new

-- In this world, this event takes this item, the first one, off the cable at index i, and the port there of system s hands it
-- up in the aggregator in which it collects.
pub record HandsUp (s : Side) (i : ℕ) (item : ItemValue) (j : WorldState) (e : Event) (r : Reply) : Type 0 where
  pub number : ℕ
  pub named : side_of number ≡ Some s
  pub delivers : e ≡ event.Deliver (suc i) number
  pub link : LinkState
  pub there : slice_get j.links i ≡ Some link
  pub rest : List ItemValue
  pub first : towards s link ≡ item ∷ rest
  pub agg : AggId
  pub collects : AtEnd (λ p. collecting p ≡ Some agg) s link j
  pub up : r ≡ reply.Up agg

-- it is an event, of which this holds
abbrev pub IsEventWhere : (P : WorldState → Event → Reply → Type 0) → WorldState → HostEvent → Reply → Type 0
IsEventWhere P j (Plays e) r = P j e r
IsEventWhere P j e r = ⊥

-- at some event of a run of hosts this holds of the world before it, of the event and of its reply
abbrev pub SometimePlayed : (P : WorldState → Event → Reply → Type 0) (gives : Algorithms) (es : List HostEvent) (rs : List Reply)
    (old new : WorldState) → RunReplies gives old es rs new → Type 0
SometimePlayed P gives [] [] old new run = ⊥
SometimePlayed P gives (e ∷ es) (r ∷ rs) old new run = IsEventWhere P old e r ⊎ SometimePlayed P gives es rs run.0 new run.2
SometimePlayed P gives [] (r ∷ rs) old new run = ⊥
SometimePlayed P gives (e ∷ es) [] old new run = ⊥

-- The frame that system s was offered got a port that distributes in the aggregator, its cable accepted it and has nothing else
-- on it in that direction, and at some event of the run that follows it is handed up at the other end.
pub record Arrives (s : Side) (agg : AggId) (octets : List ℕ) (old : WorldState) (r : Reply) (sent : WorldState)
    (AtSomeEvent : (WorldState → Event → Reply → Type 0) → Type 0) : Type 0 where
  pub port : ℕ
  pub serial : ℕ
  pub distributes : is_among (distributing agg (half s old).state.system_ports) port ≡ true
  pub replied : r ≡ reply.Port port serial true
  pub index : ℕ
  pub link : LinkState
  pub there : slice_get sent.links index ≡ Some link
  pub joins : port_at s link ≡ port
  pub item : ItemValue
  pub frame : item.octets ≡ octets
  pub flies : towards (peer s) link ≡ item ∷ []
  pub up : AtSomeEvent (HandsUp (peer s) index item)

-- each recorded partner of a port in PORT_DISABLED has Synchronization FALSE (6.4.12)
abbrev pub DisabledAreUnsynchronized : SystemState → Type 0
DisabledAreUnsynchronized s = (k : ℕ) (x : SystemPort) → slice_get s.system_ports k ≡ Some x → x.port.receive ≡ PortDisabled
    → partner_synchronized x.port ≡ false

-- so it is in both systems of each world that events, calls of hosts and settings lead to from a start
abbrev pub EachHostReachedHasUnsynchronized : Algorithms → Type 0
EachHostReachedHasUnsynchronized gives = (configs : List Config) (es : List HostEvent) (start new : WorldState) (s : Side)
    → IsStart start → AreFirst configs start → HostRuns gives start es new → DisabledAreUnsynchronized (half s new).state

-- After so many late rounds of a bundle or more, whatever was before them, if nothing is on any cable then, a frame that a system takes
-- arrives within one healthy round of hosts, whatever else is offered or called in it.
abbrev pub EachFrameArrivesByHosts : (LinkState → WorldState → Type 0) → ℕ → Algorithms → Type 0
EachFrameArrivesByHosts Holds least gives = (n number : ℕ) (s : Side) (agg : AggId) (octets : Vec ℕ) (r : Reply)
    (old mid sent new : WorldState) → IsBundle Holds old → DisabledAreUnsynchronized (half s old).state → least ≤ n
    → LateRounds gives n old mid → NothingInFlight mid → side_of number ≡ Some s → TakesFrame agg octets.items (half s mid).state
    → WorldSteps gives mid (event.Offer number agg octets) r sent → (q : IsHostRound gives sent new)
    → Arrives s agg octets.items mid r sent (λ P. SometimePlayed P gives q.events q.replies sent new q.acts)
