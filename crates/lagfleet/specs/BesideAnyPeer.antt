-- One system of lagsystem on its cables, and whatever is at their other ends: what each contract promises of its calls, octets received.
use Rattle.std.specs.Prelude.{◌≡◌, ◌≢◌, ℕ, Bool, true, Option, Some, List, [], ◌∷◌, Result, Ok, Err}
use Rattle.lagtypes.specs.declared.identifiers.AggId.{AggId}
use Rattle.lagmodel.specs.View.{ModelCall, On, conversation_port}
use Rattle.lagmodel.specs.Move.{Act, Move}
use Rattle.lagmodel.specs.World.{at_two}
use Rattle.lagmodel.specs.Succession.{IsAlikeSetup, IsSuccessor}
use Rattle.lagmodel.specs.AnyPeer.{Calls, Comes, Fits, Forces, Happening}
use Rattle.lagmodel.specs.AnyPeer.{Restarts, Scene, first_scene, scene_after_acts}
use Rattle.lagsystem.specs.declared.drive.HostCall.{HostCall}
use Rattle.lagsystem.specs.declared.drive.HostCall.TheVariants as host
use Rattle.lagsystem.specs.declared.drive.HostReply.{HostReply}
use Rattle.lagsystem.specs.declared.drive.HostReply.TheVariants as told
use Rattle.lagsystem.specs.declared.drive.Reply.{Reply}
use Rattle.lagsystem.specs.declared.drive.Reply.TheVariants as reply
use Rattle.lagsystem.specs.declared.fault.SystemFault.{SystemFault}
use Rattle.lagsystem.specs.Calls.{Call}
use Rattle.lagsystem.specs.First.{IsFirst}
use Rattle.lagsystem.specs.HostCalls.{HostPromise}
use Rattle.lagsystem.specs.ModelView.{CallSeenAs, EffectsSeenAs, model_setup, model_view}
use Rattle.lagsystem.specs.Settings.{Setting, SettingPromise}
use Rattle.lagsystem.specs.Sound.{CallPromise}
use Rattle.lagsystem.specs.State.{SystemState}
use Rattle.lagnetwork.specs.Network.{also_forced}
use Rattle.lagfleet.specs.Doing.{Doing, Does, IsRefused, offered}
use Rattle.lagfleet.specs.Fleet.{IsOther, is_held}

-- the system, and what is on its cables, in which a message stands for the frame that carries it
pub record Stage : Type 0 where
  pub system : SystemState
  pub scene : Scene

-- The system does this, and what it shows goes onto its cable, if that accepts it. before: the scene as it began. `fits`: of octets that
-- are read as a control PDU, that PDU stands first on the cable of the port, if it has one; a link that is said to be down has its cable
-- cut.
pub record Acts (gives : ℕ → ℕ → ℕ → Type 0) (ends : ℕ → Option ℕ) (doing : Doing) (law : ModelCall) (stamp : ℕ)
    (accepts : Act → Bool) (old : Stage) (before : Scene) (new : Stage) : Type 0 where
  pub acts : List Act
  pub does : Does gives doing law acts old.system new.system
  pub fits : Fits law stamp ends before
  pub leaves : new.scene ≡ scene_after_acts ends stamp accepts acts (model_view new.system) before

-- A call of `drive` but a restart and a force, with what is answered and what cables accept of what that sends; those two; a call of a host
-- that is none of them; a setting; a takeover; or what happens on the cables and at their other ends.
pub data StageEvent : Type 0 where
  Makes_call : (call : Call) (answer : Reply) (accepts : Act → Bool) (stamp : ℕ) → StageEvent
  Starts_again : StageEvent
  Forces_conversation : (agg : AggId) (conv : ℕ) (answer : Result Unit SystemFault) → StageEvent
  Offers_conversation : (agg : AggId) (conv : ℕ) (answer : Result ℕ SystemFault) (accepts : Act → Bool) → StageEvent
  Leaves_conversation : (agg : AggId) (conv : ℕ) (answer : Result Unit SystemFault) → StageEvent
  Probes_port : (port : ℕ) (answer : Result (Option (List ℕ)) SystemFault) (accepts : Act → Bool) → StageEvent
  Rests_conversation : (agg : AggId) (conv : ℕ) (answer : Result Unit SystemFault) → StageEvent
  Forces_port : (port : ℕ) (answer : Result ℕ SystemFault) → StageEvent
  Changes_setting : (setting : Setting) (answer : Result Unit SystemFault) → StageEvent
  Gives_way : StageEvent
  Befalls : (e : Happening) → StageEvent

-- it happens without the system
abbrev pub IsOutside : Happening → Type 0
IsOutside (Calls call stamp moves) = ⊥
IsOutside Restarts = ⊥
IsOutside (Forces g k) = ⊥
IsOutside e = Unit {0}

-- a cable that takes all that is sent on it
abbrev pub takes_all : Act → Bool
takes_all a = true

-- a conversation is forced, and counts as forced from then on; or that is refused, and nothing changes
abbrev pub StageForces : (ℕ → ℕ → ℕ → Type 0) → (ℕ → Option ℕ) → AggId → ℕ → Doing → Result Unit SystemFault → Stage → Stage → Type 0
StageForces gives ends agg conv doing (Ok done) old new = Acts gives ends doing (ModelCall.Force agg.0 conv) 0 takes_all old
    (record old.scene { forced = at_two old.scene.forced agg.0 conv true }) new
StageForces gives ends agg conv doing (Err fault) old new = IsRefused gives doing fault old.system × (new ≡ old)

-- just what was held on the port is forced
pub record StageForcesHeld (gives : ℕ → ℕ → ℕ → Type 0) (port count : ℕ) (old new : Stage) : Type 0 where
  pub promise : HostPromise gives old.system (host.ForcePort port) (told.ForcePort (Ok count)) new.system
  pub leaves : new.scene ≡ record old.scene {
    view = model_view new.system;
    forced = also_forced (is_held port old.system) old.scene.forced;
  }

-- From old, the event may lead to new.
abbrev pub StageSteps : (ℕ → ℕ → ℕ → Type 0) → (ℕ → Option ℕ) → StageEvent → Stage → Stage → Type 0
StageSteps gives ends (Makes_call call answer accepts stamp) old new =
    (law : ModelCall) × CallSeenAs call law × Acts gives ends (Doing.Makes call answer) law stamp accepts old old.scene new
StageSteps gives ends Starts_again old new = CallPromise gives old.system Call.Restart reply.Restart new.system
    × (new.scene ≡ record old.scene { view = model_view new.system; out = λ c. []; back = λ c. [] })
StageSteps gives ends (Forces_conversation agg conv answer) old new =
    StageForces gives ends agg conv (Doing.Forces agg conv) answer old new
StageSteps gives ends (Offers_conversation agg conv answer accepts) old new =
    Acts gives ends (Doing.Offers agg conv answer) ModelCall.Offer 0 accepts old old.scene new
StageSteps gives ends (Leaves_conversation agg conv answer) old new =
    Acts gives ends (Doing.Leaves agg conv answer) ModelCall.Move_conversation 0 takes_all old old.scene new
StageSteps gives ends (Probes_port port answer accepts) old new =
    Acts gives ends (Doing.Probes port answer) ModelCall.Transmit 0 accepts old old.scene new
StageSteps gives ends (Rests_conversation agg conv answer) old new =
    StageForces gives ends agg conv (Doing.Rests agg conv) answer old new
StageSteps gives ends (Forces_port port (Ok count)) old new = StageForcesHeld gives port count old new
StageSteps gives ends (Forces_port port (Err fault)) old new =
    HostPromise gives old.system (host.ForcePort port) (told.ForcePort (Err fault)) old.system × (new ≡ old)
StageSteps gives ends (Changes_setting setting answer) old new =
    Acts gives ends (Doing.Sets setting answer) ModelCall.Tick 0 takes_all old old.scene new
StageSteps gives ends Gives_way old new =
    IsSuccessor (model_setup old.system) old.scene.view old.scene.taken (model_view new.system)
    × IsAlikeSetup (model_setup old.system) (model_setup new.system)
    × (new.scene ≡ record old.scene { view = model_view new.system })
StageSteps gives ends (Befalls e) old new =
    IsOutside e × (new.system ≡ old.system) × Comes (model_setup old.system) ends e old.scene new.scene

abbrev pub StageRun : (ℕ → ℕ → ℕ → Type 0) → (ℕ → Option ℕ) → List StageEvent → Stage → Stage → Type 0
StageRun gives ends [] old new = new ≡ old
StageRun gives ends (e ∷ es) old new = (mid : Stage) × StageSteps gives ends e old mid × StageRun gives ends es mid new

-- The statement holds after each event of each schedule, from the start of any system on any cables, of which no port has two.
abbrev pub IsStageInvariant : (ℕ → ℕ → ℕ → Type 0) → ((ℕ → Option ℕ) → Stage → Type 0) → Type 0
IsStageInvariant gives P = (ends : ℕ → Option ℕ) (events : List StageEvent) (start end : Stage)
    → ((c d p : ℕ) → ends c ≡ Some p → ends d ≡ Some p → c ≡ d) → IsFirst start.system
    → start.scene ≡ first_scene (model_setup start.system) → StageRun gives ends events start end → P ends end

-- it holds of the scene, and the view in that is the system's
abbrev pub HoldsBesideAnyPeer : (ℕ → ℕ → ℕ → Type 0) → (Scene → Type 0) → Type 0
HoldsBesideAnyPeer gives P = IsStageInvariant gives (λ ends st. P st.scene × (st.scene.view ≡ model_view st.system))

-- Each call that a contract allows is an event, whatever the cables accept, if what the contract shows of it fits the cables; and it leaves
-- what the answer shows, frames on the cables with it.
abbrev pub EachCallBesideAnyPeer : (ℕ → ℕ → ℕ → Type 0) → Type 0
EachCallBesideAnyPeer gives = (ends : ℕ → Option ℕ) (old : Stage) (call : Call) (answer : Reply) (accepts : Act → Bool)
    (after : SystemState) (stamp : ℕ) (promise : CallPromise gives old.system call answer after) → Fits promise.moves.0 stamp ends old.scene
    → (new : Stage) × StageSteps gives ends (Makes_call call answer accepts stamp) old new × (new.system ≡ after)
    × (new.scene ≡ scene_after_acts ends stamp accepts promise.moves.1 (model_view after) old.scene)

-- The event may lead to this system, and leave this scene.
abbrev pub LeadsTo : (ℕ → ℕ → ℕ → Type 0) → (ℕ → Option ℕ) → Stage → StageEvent → SystemState → Scene → Type 0
LeadsTo gives ends old e after scene = StageSteps gives ends e old (record { system = after; scene = scene })

-- A restart that the contract allows is an event, and loses what is on the cables.
abbrev pub EachRestartBesideAnyPeer : (ℕ → ℕ → ℕ → Type 0) → Type 0
EachRestartBesideAnyPeer gives = (ends : ℕ → Option ℕ) (old : Stage) (after : SystemState)
    → CallPromise gives old.system Call.Restart reply.Restart after
    → LeadsTo gives ends old Starts_again after (record old.scene { view = model_view after; out = λ c. []; back = λ c. [] })

-- what a force or a rest leaves: the conversation counts as forced; refused, it leaves all as it was
abbrev pub scene_after_force : AggId → ℕ → Result Unit SystemFault → SystemState → Scene → Scene
scene_after_force agg conv (Ok done) after w = record w { view = model_view after; forced = at_two w.forced agg.0 conv true }
scene_after_force agg conv (Err fault) after w = w

-- a force that the contract allows is an event, as it is answered
abbrev pub EachForceBesideAnyPeer : (ℕ → ℕ → ℕ → Type 0) → Type 0
EachForceBesideAnyPeer gives = (ends : ℕ → Option ℕ) (old : Stage) (agg : AggId) (conv : ℕ) (answer : Result Unit SystemFault)
    (after : SystemState) → CallPromise gives old.system (Call.Force agg conv) (reply.Force answer) after
    → LeadsTo gives ends old (Forces_conversation agg conv answer) after (scene_after_force agg conv answer after old.scene)

-- what `force_port` leaves
abbrev pub scene_after_force_port : ℕ → Result ℕ SystemFault → SystemState → SystemState → Scene → Scene
scene_after_force_port port (Ok count) old after w =
    record w { view = model_view after; forced = also_forced (is_held port old) w.forced }
scene_after_force_port port (Err fault) old after w = w

-- this call of a host, with this answer, is an event, whatever the cables accept, and leaves what the answer shows
abbrev pub IsHostEvent : (ℕ → ℕ → ℕ → Type 0) → (ℕ → Option ℕ) → Stage → (Act → Bool) → SystemState → HostCall → HostReply → Type 0
IsHostEvent gives ends old accepts after (host.OfferConversation agg conv) (told.OfferConversation answer) =
    LeadsTo gives ends old (Offers_conversation agg conv answer accepts) after
    (scene_after_acts ends 0 accepts (offered agg conv answer) (model_view after) old.scene)
IsHostEvent gives ends old accepts after (host.LeaveConversation agg conv) (told.LeaveConversation answer) =
    LeadsTo gives ends old (Leaves_conversation agg conv answer) after (record old.scene { view = model_view after })
IsHostEvent gives ends old accepts after (host.Probe port) (told.Probe answer) =
    (acts : List Act) × EffectsSeenAs old.system (Call.Transmit port) (reply.Transmit answer) acts
    × LeadsTo gives ends old (Probes_port port answer accepts) after (scene_after_acts ends 0 accepts acts (model_view after) old.scene)
IsHostEvent gives ends old accepts after (host.Rest agg conv) (told.Rest answer) =
    LeadsTo gives ends old (Rests_conversation agg conv answer) after (scene_after_force agg conv answer after old.scene)
IsHostEvent gives ends old accepts after (host.ForcePort port) (told.ForcePort answer) =
    LeadsTo gives ends old (Forces_port port answer) after (scene_after_force_port port answer old.system after old.scene)
IsHostEvent gives ends old accepts after call answer = ⊥

-- So is each call of a host that a contract allows, but those of `drive`, and each setting.
abbrev pub EachHostCallBesideAnyPeer : (ℕ → ℕ → ℕ → Type 0) → Type 0
EachHostCallBesideAnyPeer gives = (ends : ℕ → Option ℕ) (old : Stage) (call : HostCall) (answer : HostReply) (accepts : Act → Bool)
    (after : SystemState) → IsOther call → HostPromise gives old.system call answer after
    → IsHostEvent gives ends old accepts after call answer

abbrev pub EachSettingBesideAnyPeer : (ℕ → ℕ → ℕ → Type 0) → Type 0
EachSettingBesideAnyPeer gives = (ends : ℕ → Option ℕ) (old : Stage) (setting : Setting) (answer : Result Unit SystemFault)
    (after : SystemState) → SettingPromise old.system setting answer after
    → LeadsTo gives ends old (Changes_setting setting answer) after (record old.scene { view = model_view after })

-- All that may happen without the system is an event.
abbrev pub EachHappeningBesideAnyPeer : (ℕ → ℕ → ℕ → Type 0) → Type 0
EachHappeningBesideAnyPeer gives = (ends : ℕ → Option ℕ) (old : Stage) (e : Happening) (scene : Scene)
    → ((call : ModelCall) (stamp : ℕ) (moves : List (Move × Bool)) → e ≢ Calls call stamp moves) → e ≢ Restarts
    → ((g k : ℕ) → e ≢ Forces g k) → Comes (model_setup old.system) ends e old.scene scene
    → LeadsTo gives ends old (Befalls e) old.system scene

-- A system of which no conversation waits may give way to itself: so takeovers are possible.
abbrev pub MayGiveWayToItself : (ℕ → ℕ → ℕ → Type 0) → Type 0
MayGiveWayToItself gives = IsStageInvariant gives (λ ends st.
    ((g k p : ℕ) → conversation_port (st.scene.view.flows.state g k) ≡ Some p → st.scene.view.flows.state g k ≡ On p)
    → StageSteps gives ends Gives_way st st)
