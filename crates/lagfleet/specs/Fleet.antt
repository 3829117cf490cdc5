-- Any number of systems of lagsystem, cabled in any way: what each contract promises of its calls, and frames on cables.
use Rattle.std.specs.Prelude.{◌≡◌, ℕ, Bool, ◌&&◌, true, false, cond, nat_lt, Option, Some, None, option_to_list, List, [], ◌∷◌, Result, Ok, Err}
use Rattle.lagtypes.specs.declared.identifiers.AggId.{AggId}
use Rattle.distributor.specs.Chains.{is_held_on}
use Rattle.distributor.specs.Conversations.{assignment_of}
use Rattle.lagmodel.specs.View.{ControlMessage, ModelCall, PortFacts, SystemSetup}
use Rattle.lagmodel.specs.Move.{Act}
use Rattle.lagmodel.specs.World.{Message, Control, Data, at_two}
use Rattle.lagsystem.specs.declared.drive.HostCall.{HostCall}
use Rattle.lagsystem.specs.declared.drive.HostCall.TheVariants as host
use Rattle.lagsystem.specs.declared.drive.HostReply.{HostReply}
use Rattle.lagsystem.specs.declared.drive.HostReply.TheVariants as told
use Rattle.lagsystem.specs.declared.drive.Reply.{Reply}
use Rattle.lagsystem.specs.declared.drive.Reply.TheVariants as reply
use Rattle.lagsystem.specs.declared.fault.SystemFault.{SystemFault}
use Rattle.lagsystem.specs.declared.received.Received.TheVariants.{Up}
use Rattle.lagsystem.specs.Calls.{Call}
use Rattle.lagsystem.specs.First.{IsFirst}
use Rattle.lagsystem.specs.HostCalls.{HostPromise}
use Rattle.lagsystem.specs.ModelView.{CallSeenAs, EffectsSeenAs, FrameSeenAs, model_setup, model_view}
use Rattle.lagsystem.specs.Offers.{has_aggregator}
use Rattle.lagsystem.specs.Readers.{aggregator_numbered, conversation_count}
use Rattle.lagsystem.specs.Settings.{Setting, SettingPromise}
use Rattle.lagsystem.specs.Sound.{CallPromise}
use Rattle.lagsystem.specs.State.{SystemState}
use Rattle.lagnetwork.specs.Network.{Place, NetworkSetup, Network, NetworkEvent, NetworkHappens, CountsNetworkChanges}
use Rattle.lagnetwork.specs.Network.{network_after_acts, at_system, ends_at, without_first, handed_up_from, first_network, also_forced}
use Rattle.lagnetwork.specs.Network.{Lose, Cut, Join, Overtake, Succeed, Pull, Plug, recabled}
use Rattle.lagnetwork.specs.NetworkLaw.{CablesStay}
use Rattle.lagfleet.specs.Doing.{Doing, Does, IsRefused, Makes, Forces, Offers, Leaves, Probes, Rests, Sets}

-- the systems, and the records of their network, in which a message stands for the frame that carries it
pub record Fleet : Type 0 where
  pub systems : ℕ → SystemState
  pub net : Network

-- the network of these systems, on these cables: far has the port at the other end of the cable of each port
abbrev pub fleet_setup : (ℕ → ℕ → Option Place) → (ℕ → SystemState) → NetworkSetup
fleet_setup far systems = record { setup = λ s. model_setup (systems s); far = far }

-- for each system, what its distribution algorithm may return
abbrev pub FleetAlgorithms : Type 1
FleetAlgorithms = ℕ → ℕ → ℕ → ℕ → Type 0

-- System s does this, and what it shows goes onto its cable, if that accepts it. before: the network as it began; after: as it ended.
pub record Answers (gives : FleetAlgorithms) (far : ℕ → ℕ → Option Place) (s : ℕ) (doing : Doing) (law : ModelCall) (stamp : ℕ)
    (accepts : Act → Bool) (old : Fleet) (before : Network) (systems : ℕ → SystemState) (after : Network) : Type 0 where
  pub acts : List Act
  pub does : Does (gives s) doing law acts (old.systems s) (systems s)
  pub others : systems ≡ at_system old.systems s (systems s)
  pub count : ℕ → ℕ → ℕ
  pub counts : CountsNetworkChanges old.net
      (network_after_acts (fleet_setup far old.systems) s stamp accepts acts (model_view (systems s)) before) count
  pub leaves : after
      ≡ record (network_after_acts (fleet_setup far old.systems) s stamp accepts acts (model_view (systems s)) before) { count = count }

-- the aggregator at whose client a frame is handed up, as the reply says; None: at none
abbrev pub handed_up_in : Reply → Option ℕ
handed_up_in (reply.Receive (Ok (Up agg))) = Some agg.0
handed_up_in answer = None

-- Octets come on a port. Without a cable of the fleet they may be any; else they carry what came first on it, which is then taken away.
-- A frame of a client is handed up where the reply says so.
abbrev pub FleetReceives : FleetAlgorithms → (ℕ → ℕ → Option Place) → ℕ → ℕ → List ℕ → Reply → (Act → Bool) → Option Place → List Message
    → Fleet → Fleet → Type 0
FleetReceives gives far s p octets answer accepts None line old new =
    (pdu : Option ControlMessage) × (stamp : ℕ) × FrameSeenAs octets pdu
    × Answers gives far s (Makes (Call.Receive p octets) answer) (ModelCall.Receive p pdu) stamp accepts old old.net new.systems new.net
FleetReceives gives far s p octets answer accepts (Some place) [] old new = ⊥
FleetReceives gives far s p octets answer accepts (Some place) (Control pdu stamp ∷ ms) old new =
    (mid : Network) × FrameSeenAs octets (Some pdu)
    × Answers gives far s (Makes (Call.Receive p octets) answer) (ModelCall.Receive p (Some pdu)) stamp accepts old old.net new.systems mid
    × (new.net ≡ without_first s p mid)
FleetReceives gives far s p octets answer accepts (Some place) (Data origin g k serial ∷ ms) old new =
    (mid : Network)
    × Answers gives far s (Makes (Call.Receive p octets) answer) (ModelCall.Receive p None) 0 accepts old old.net new.systems mid
    × (new.net ≡ handed_up_from s (Some place) (handed_up_in answer) g k serial (without_first s p mid))

-- the first message on a cable is received, in a frame that carries it, but stays; a frame of a client is never repeated
abbrev pub FleetRepeats : FleetAlgorithms → (ℕ → ℕ → Option Place) → ℕ → ℕ → List ℕ → Reply → (Act → Bool) → List Message → Fleet → Fleet
    → Type 0
FleetRepeats gives far s p octets answer accepts [] old new = ⊥
FleetRepeats gives far s p octets answer accepts (Data origin g k serial ∷ ms) old new = ⊥
FleetRepeats gives far s p octets answer accepts (Control pdu stamp ∷ ms) old new = FrameSeenAs octets (Some pdu)
    × Answers gives far s (Makes (Call.Receive p octets) answer) (ModelCall.Receive p (Some pdu)) stamp accepts old old.net new.systems new.net

-- a conversation is forced, and counts as forced from then on
abbrev pub FleetForces : FleetAlgorithms → (ℕ → ℕ → Option Place) → ℕ → AggId → ℕ → Doing → (Act → Bool) → Fleet → Fleet → Type 0
FleetForces gives far s agg conv doing accepts old new = Answers gives far s doing (ModelCall.Force agg.0 conv) 0 accepts old
    (record old.net { forced = at_system old.net.forced s (at_two (old.net.forced s) agg.0 conv true) }) new.systems new.net

-- that is refused, and nothing changes
abbrev pub FleetRefuses : FleetAlgorithms → ℕ → Doing → SystemFault → Fleet → Fleet → Type 0
FleetRefuses gives s doing fault old new = IsRefused (gives s) doing fault (old.systems s) × (new ≡ old)

-- a restart loses what is on the cables of the system, and on no other
pub record Restarts (gives : FleetAlgorithms) (far : ℕ → ℕ → Option Place) (s : ℕ) (old new : Fleet) : Type 0 where
  pub promise : CallPromise (gives s) (old.systems s) Call.Restart reply.Restart (new.systems s)
  pub others : new.systems ≡ at_system old.systems s (new.systems s)
  pub count : ℕ → ℕ → ℕ
  pub counts : CountsNetworkChanges old.net (record old.net {
    view = at_system old.net.view s (model_view (new.systems s));
    towards = λ t q. cond (ends_at (fleet_setup far old.systems) s t q) [] (old.net.towards t q);
  }) count
  pub leaves : new.net ≡ record old.net {
    view = at_system old.net.view s (model_view (new.systems s));
    towards = λ t q. cond (ends_at (fleet_setup far old.systems) s t q) [] (old.net.towards t q);
    count = count;
  }

-- System s makes this call of `drive`, and answers so; `accepts`: whether the cable accepts what an act sends.
abbrev pub FleetCalls : FleetAlgorithms → (ℕ → ℕ → Option Place) → ℕ → Call → Reply → (Act → Bool) → Fleet → Fleet → Type 0
FleetCalls gives far s (Call.Receive p octets) answer accepts old new =
    FleetReceives gives far s p octets answer accepts (far s p) (old.net.towards s p) old new
-- a link is said to be as its cable is
FleetCalls gives far s (Call.Set_link p up) answer accepts old new = (up ≡ old.net.whole s p)
    × Answers gives far s (Makes (Call.Set_link p up) answer) (ModelCall.Set_link p up) 0 accepts old old.net new.systems new.net
FleetCalls gives far s Call.Restart reply.Restart accepts old new = Restarts gives far s old new
FleetCalls gives far s Call.Restart answer accepts old new = ⊥
FleetCalls gives far s (Call.Force agg k) (reply.Force (Ok done)) accepts old new = FleetForces gives far s agg k (Forces agg k) accepts old new
FleetCalls gives far s (Call.Force agg k) (reply.Force (Err fault)) accepts old new = FleetRefuses gives s (Forces agg k) fault old new
FleetCalls gives far s (Call.Force agg k) answer accepts old new = ⊥
FleetCalls gives far s call answer accepts old new =
    (law : ModelCall) × CallSeenAs call law × Answers gives far s (Makes call answer) law 0 accepts old old.net new.systems new.net

-- conversation k of aggregator g is there, and held on the port
abbrev pub is_held : ℕ → SystemState → ℕ → ℕ → Bool
is_held port s g k = has_aggregator s (aggregator_numbered g)
    && (nat_lt k (conversation_count s) && is_held_on port (assignment_of s.table g k))

-- just what was held on the port is forced
pub record ForcesHeld (gives : FleetAlgorithms) (s port count : ℕ) (old new : Fleet) : Type 0 where
  pub promise : HostPromise (gives s) (old.systems s) (host.ForcePort port) (told.ForcePort (Ok count)) (new.systems s)
  pub others : new.systems ≡ at_system old.systems s (new.systems s)
  pub leaves : new.net ≡ record old.net {
    view = at_system old.net.view s (model_view (new.systems s));
    forced = at_system old.net.forced s (also_forced (is_held port (old.systems s)) (old.net.forced s));
  }

-- there is no such port: nothing changes
abbrev pub RefusesPort : FleetAlgorithms → ℕ → ℕ → SystemFault → Fleet → Fleet → Type 0
RefusesPort gives s port fault old new =
    HostPromise (gives s) (old.systems s) (host.ForcePort port) (told.ForcePort (Err fault)) (old.systems s) × (new ≡ old)

-- System s makes this call of a host, none of those of `drive`, and answers so.
abbrev pub FleetAsks : FleetAlgorithms → (ℕ → ℕ → Option Place) → ℕ → HostCall → HostReply → (Act → Bool) → Fleet → Fleet → Type 0
FleetAsks gives far s (host.OfferConversation agg conv) (told.OfferConversation answer) accepts old new =
    Answers gives far s (Offers agg conv answer) ModelCall.Offer 0 accepts old old.net new.systems new.net
FleetAsks gives far s (host.LeaveConversation agg conv) (told.LeaveConversation answer) accepts old new =
    Answers gives far s (Leaves agg conv answer) ModelCall.Move_conversation 0 accepts old old.net new.systems new.net
FleetAsks gives far s (host.Probe port) (told.Probe answer) accepts old new =
    Answers gives far s (Probes port answer) ModelCall.Transmit 0 accepts old old.net new.systems new.net
FleetAsks gives far s (host.Rest agg conv) (told.Rest (Ok done)) accepts old new = FleetForces gives far s agg conv (Rests agg conv) accepts old new
FleetAsks gives far s (host.Rest agg conv) (told.Rest (Err fault)) accepts old new = FleetRefuses gives s (Rests agg conv) fault old new
FleetAsks gives far s (host.ForcePort port) (told.ForcePort (Ok count)) accepts old new = ForcesHeld gives s port count old new
FleetAsks gives far s (host.ForcePort port) (told.ForcePort (Err fault)) accepts old new = RefusesPort gives s port fault old new
FleetAsks gives far s call answer accepts old new = ⊥

-- A call of `drive`, a call of a host that is none of those, or a setting, of system s, with what it answers and what cables accept of what
-- that sends; the first message on the cable of its port is received, but stays; another system takes its place; or what happens on cables.
pub data FleetEvent : Type 0 where
  Makes_call : (s : ℕ) (call : Call) (answer : Reply) (accepts : Act → Bool) → FleetEvent
  Asks_call : (s : ℕ) (call : HostCall) (answer : HostReply) (accepts : Act → Bool) → FleetEvent
  Changes_setting : (s : ℕ) (setting : Setting) (answer : Result Unit SystemFault) → FleetEvent
  Hears_again : (s p : ℕ) (octets : List ℕ) (answer : Reply) (accepts : Act → Bool) → FleetEvent
  Gives_way : (s : ℕ) (setup : SystemSetup) → FleetEvent
  Befalls : (e : NetworkEvent) → FleetEvent

-- it happens on cables alone
abbrev pub IsOnCables : NetworkEvent → Type 0
IsOnCables (Lose s p) = Unit {0}
IsOnCables (Cut s p) = Unit {0}
IsOnCables (Join s p) = Unit {0}
IsOnCables (Overtake s p line) = Unit {0}
IsOnCables (Pull s p) = Unit {0}
IsOnCables (Plug s p t q) = Unit {0}
IsOnCables e = ⊥

-- From old, the event may lead to new.
abbrev pub FleetSteps : FleetAlgorithms → (ℕ → ℕ → Option Place) → FleetEvent → Fleet → Fleet → Type 0
FleetSteps gives far (Makes_call s call answer accepts) old new = FleetCalls gives far s call answer accepts old new
FleetSteps gives far (Asks_call s call answer accepts) old new = FleetAsks gives far s call answer accepts old new
FleetSteps gives far (Changes_setting s setting answer) old new =
    Answers gives far s (Sets setting answer) ModelCall.Tick 0 (λ a. true) old old.net new.systems new.net
FleetSteps gives far (Hears_again s p octets answer accepts) old new =
    FleetRepeats gives far s p octets answer accepts (old.net.towards s p) old new
-- a system gives way to one with this configuration, as after a warm start
FleetSteps gives far (Gives_way s setup) old new =
    (model_setup (new.systems s) ≡ setup)
    × (new.systems ≡ at_system old.systems s (new.systems s))
    × NetworkHappens (fleet_setup far old.systems) (Succeed s setup (model_view (new.systems s))) old.net new.net
FleetSteps gives far (Befalls e) old new =
    IsOnCables e × (new.systems ≡ old.systems) × NetworkHappens (fleet_setup far old.systems) e old.net new.net

-- the cables and the configurations after an event
abbrev pub recabled_by : NetworkSetup → FleetEvent → NetworkSetup
recabled_by x (Gives_way s setup) = record x { setup = at_system x.setup s setup }
recabled_by x (Befalls e) = recabled x e
recabled_by x e = x

abbrev pub recabled_by_all : NetworkSetup → List FleetEvent → NetworkSetup
recabled_by_all x [] = x
recabled_by_all x (e ∷ es) = recabled_by_all (recabled_by x e) es

-- events one after another, from these cables
abbrev pub FleetRun : FleetAlgorithms → NetworkSetup → List FleetEvent → Fleet → Fleet → Type 0
FleetRun gives x [] old new = new ≡ old
FleetRun gives x (e ∷ es) old new = (mid : Fleet) × FleetSteps gives x.far e old mid × FleetRun gives (recabled_by x e) es mid new

-- all systems are in their first states, and nothing has happened
abbrev pub IsFirstFleet : (ℕ → ℕ → Option Place) → Fleet → Type 0
IsFirstFleet far f = ((s : ℕ) → IsFirst (f.systems s)) × (f.net ≡ first_network (fleet_setup far f.systems))

-- a cable joins two ports, whichever of them is named first
abbrev pub IsCabled : (ℕ → ℕ → Option Place) → Type 0
IsCabled far = (s p t q : ℕ) → far s p ≡ Some (record { system = t; port = q }) → far t q ≡ Some (record { system = s; port = p })

-- The statement holds of the network after each event of each schedule, on the cables as they are then, from the start of any systems on any
-- cables; and the views in it are those of the systems.
abbrev pub IsFleetInvariant : FleetAlgorithms → (NetworkSetup → Network → Type 0) → Type 0
IsFleetInvariant gives P = (far : ℕ → ℕ → Option Place) (events : List FleetEvent) (start end : Fleet)
    → IsCabled far → IsFirstFleet far start → FleetRun gives (fleet_setup far start.systems) events start end
    → P (recabled_by_all (fleet_setup far start.systems) events) end.net × ((s : ℕ) → end.net.view s ≡ model_view (end.systems s))

-- no cable is moved
abbrev pub StaysBy : FleetEvent → Type 0
StaysBy (Befalls e) = CablesStay (e ∷ [])
StaysBy e = Unit {0}

abbrev pub FleetCablesStay : List FleetEvent → Type 0
FleetCablesStay [] = Unit {0}
FleetCablesStay (e ∷ es) = StaysBy e × FleetCablesStay es

-- where no cable is moved, every port that is not on defaults took its last LACPDU from the port at the other end of its cable
abbrev pub FleetTookFromFixedEnd : FleetAlgorithms → Type 0
FleetTookFromFixedEnd gives = (far : ℕ → ℕ → Option Place) (events : List FleetEvent) (start end : Fleet) → IsCabled far
    → IsFirstFleet far start → FleetCablesStay events → FleetRun gives (fleet_setup far start.systems) events start end
    → (s p : ℕ) (a : PortFacts) → (model_view (end.systems s)).port p ≡ Some a → a.defaulted ≡ false → end.net.source s p ≡ far s p

-- what a reply shows of a call is one act, or none
abbrev pub ShowsOneAct : Type 0
ShowsOneAct = (s : SystemState) (call : Call) (answer : Reply) (acts : List Act) → EffectsSeenAs s call answer acts
    → (act : Option Act) × (acts ≡ option_to_list act)

-- the octets carry what came first on the cable of this port, if it has one: a control PDU, or a frame of a client, which is none
abbrev pub CarriesFirst : Option Place → List Message → List ℕ → Type 0
CarriesFirst None line octets = Unit {0}
CarriesFirst (Some place) [] octets = ⊥
CarriesFirst (Some place) (Control pdu stamp ∷ ms) octets = FrameSeenAs octets (Some pdu)
CarriesFirst (Some place) (Data origin g k serial ∷ ms) octets = (message : ControlMessage) → FrameSeenAs octets (Some message) → ⊥

-- the call says what is so of the cables
abbrev pub IsTrueOf : (ℕ → ℕ → Option Place) → ℕ → Network → Call → Type 0
IsTrueOf far s w (Call.Receive p octets) = CarriesFirst (far s p) (w.towards s p) octets
IsTrueOf far s w (Call.Set_link p up) = up ≡ w.whole s p
IsTrueOf far s w call = Unit {0}

-- the call is none of those of `drive`
abbrev pub IsOther : HostCall → Type 0
IsOther (host.Call call) = ⊥
IsOther call = Unit {0}

-- System s may go on as the system after, in this event of the fleet. What that leaves of the network is what the answer shows.
abbrev pub GoesOn : FleetAlgorithms → (ℕ → ℕ → Option Place) → ℕ → Fleet → FleetEvent → SystemState → Type 0
GoesOn gives far s old e after = (new : Fleet) × FleetSteps gives far e old new × (new.systems ≡ at_system old.systems s after)

-- Each call that a contract allows, and that says what is so of the cables, is an event of the fleet, whatever the cables accept, and so is
-- each call of a host and each setting.
abbrev pub EachCallIsAnEvent : FleetAlgorithms → Type 0
EachCallIsAnEvent gives = (far : ℕ → ℕ → Option Place) (s : ℕ) (old : Fleet) (call : Call) (answer : Reply) (accepts : Act → Bool)
    (after : SystemState) → IsTrueOf far s old.net call → CallPromise (gives s) (old.systems s) call answer after
    → GoesOn gives far s old (Makes_call s call answer accepts) after

abbrev pub EachHostCallIsAnEvent : FleetAlgorithms → Type 0
EachHostCallIsAnEvent gives = (far : ℕ → ℕ → Option Place) (s : ℕ) (old : Fleet) (call : HostCall) (answer : HostReply)
    (accepts : Act → Bool) (after : SystemState) → IsOther call → HostPromise (gives s) (old.systems s) call answer after
    → GoesOn gives far s old (Asks_call s call answer accepts) after

abbrev pub EachSettingIsAnEvent : FleetAlgorithms → Type 0
EachSettingIsAnEvent gives = (far : ℕ → ℕ → Option Place) (s : ℕ) (old : Fleet) (setting : Setting) (answer : Result Unit SystemFault)
    (after : SystemState) → SettingPromise (old.systems s) setting answer after
    → GoesOn gives far s old (Changes_setting s setting answer) after
