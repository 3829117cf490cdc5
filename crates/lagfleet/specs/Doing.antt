-- What is done to a system of lagsystem in one step, as the contracts promise it, and what others see of it.
use Rattle.std.specs.Prelude.{◌≡◌, ◌⊎◌, ℕ, Option, None, List, [], ◌∷◌, Result, Ok, Err}
use Rattle.lagtypes.specs.declared.identifiers.AggId.{AggId}
use Rattle.lagmodel.specs.View.{ControlMessage, ModelCall}
use Rattle.lagmodel.specs.Move.{Act, Sends_frame}
use Rattle.lagsystem.specs.declared.drive.HostCall.TheVariants as host
use Rattle.lagsystem.specs.declared.drive.HostReply.TheVariants as told
use Rattle.lagsystem.specs.declared.drive.Reply.{Reply}
use Rattle.lagsystem.specs.declared.drive.Reply.TheVariants as reply
use Rattle.lagsystem.specs.declared.fault.SystemFault.{SystemFault}
use Rattle.lagsystem.specs.Calls.{Call}
use Rattle.lagsystem.specs.HostCalls.{HostPromise}
use Rattle.lagsystem.specs.Settings.{Setting, SettingPromise}
use Rattle.lagsystem.specs.Sound.{CallPromise}
use Rattle.lagsystem.specs.State.{SystemState}

-- a call of `drive`, a force or a rest that is accepted, an offer by number, a leave, a probe, or a setting; and what is answered
pub data Doing : Type 0 where
  Makes : (call : Call) (answer : Reply) → Doing
  Forces : (agg : AggId) (conv : ℕ) → Doing
  Offers : (agg : AggId) (conv : ℕ) (answer : Result ℕ SystemFault) → Doing
  Leaves : (agg : AggId) (conv : ℕ) (answer : Result Unit SystemFault) → Doing
  Probes : (port : ℕ) (answer : Result (Option (List ℕ)) SystemFault) → Doing
  Rests : (agg : AggId) (conv : ℕ) → Doing
  Sets : (setting : Setting) (answer : Result Unit SystemFault) → Doing

-- what the contract shows of a call, and what the law is told: the same; or it shows a receive of nothing, and something came
abbrev pub IsTold : ModelCall → ModelCall → Type 0
IsTold seen told =
    (seen ≡ told) ⊎ ((p : ℕ) × (came : Option ControlMessage) × (seen ≡ ModelCall.Receive p None) × (told ≡ ModelCall.Receive p came))

-- the frame that is sent after an offer
abbrev pub offered : AggId → ℕ → Result ℕ SystemFault → List Act
offered agg conv (Ok port) = Sends_frame port agg.0 conv ∷ []
offered agg conv (Err fault) = []

-- The system does so as its contract promises; to the law it is this call, and others see these acts.
abbrev pub Does : (ℕ → ℕ → ℕ → Type 0) → Doing → ModelCall → List Act → SystemState → SystemState → Type 0
Does gives (Makes call answer) law acts old new =
    (promise : CallPromise gives old call answer new) × IsTold promise.moves.0 law × (promise.moves.1 ≡ acts)
Does gives (Forces agg conv) law acts old new =
    CallPromise gives old (Call.Force agg conv) (reply.Force (Ok tt)) new × (law ≡ ModelCall.Force agg.0 conv) × (acts ≡ [])
Does gives (Offers agg conv answer) law acts old new =
    HostPromise gives old (host.OfferConversation agg conv) (told.OfferConversation answer) new
    × (law ≡ ModelCall.Offer) × (acts ≡ offered agg conv answer)
Does gives (Leaves agg conv answer) law acts old new =
    HostPromise gives old (host.LeaveConversation agg conv) (told.LeaveConversation answer) new
    × (law ≡ ModelCall.Move_conversation) × (acts ≡ [])
Does gives (Probes port answer) law acts old new =
    (promise : HostPromise gives old (host.Probe port) (told.Probe answer) new) × (law ≡ ModelCall.Transmit) × (acts ≡ promise.1.0)
Does gives (Rests agg conv) law acts old new =
    HostPromise gives old (host.Rest agg conv) (told.Rest (Ok tt)) new × (law ≡ ModelCall.Force agg.0 conv) × (acts ≡ [])
Does gives (Sets setting answer) law acts old new = SettingPromise old setting answer new × (law ≡ ModelCall.Tick) × (acts ≡ [])

-- a force, or a rest, that is refused: nothing changes
abbrev pub IsRefused : (ℕ → ℕ → ℕ → Type 0) → Doing → SystemFault → SystemState → Type 0
IsRefused gives (Forces agg conv) fault s = CallPromise gives s (Call.Force agg conv) (reply.Force (Err fault)) s
IsRefused gives (Rests agg conv) fault s = HostPromise gives s (host.Rest agg conv) (told.Rest (Err fault)) s
IsRefused gives doing fault s = ⊥
