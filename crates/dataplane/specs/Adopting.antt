-- What it is to adopt a conversation: its first port is the one on which a data plane has it (profile).
use Rattle.std.specs.Prelude.{◌≡◌, ◌≤◌, ℕ, eqb, if◌then◌else◌, is_none, is_some, List, [], ◌∷◌, Option, Some, Result, Ok, Err, drop, Contains}
use Rattle.std.specs.List.{AllByRecursion}
use Rattle.lagtypes.specs.declared.identifiers.AggId.{AggId}
use Rattle.slowpdu.specs.declared.pdu.Lacpdu.{Lacpdu}
use Rattle.slowpdu.specs.declared.pdu.Pdu.TheVariants as pdu
use Rattle.slowpdu.specs.Pdus.{ReadsPdu}
use Rattle.distributor.specs.declared.assignment.Assignment.{Assignment}
use Rattle.distributor.specs.declared.assignment.Assignment.TheVariants.{Free, On, Wanted, Flushing}
use Rattle.distributor.specs.declared.fault.DistFault.{DistFault}
use Rattle.distributor.specs.declared.fault.DistFault.TheVariants.{Held, MarkersSpent, NotDistributing}
use Rattle.distributor.specs.Calls.{is_among}
use Rattle.distributor.specs.Conversations.{assignment_of, next_identifier}
use Rattle.lagmodel.specs.Move.{Sends_frame}
use Rattle.lagmodel.specs.View.{ModelCall, View, conversation_port}
use Rattle.lagmodel.specs.World.{TakenLacpdu}
use Rattle.lagsystem.specs.declared.config.Config.{Config}
use Rattle.lagsystem.specs.declared.fault.SystemFault.{SystemFault}
use Rattle.lagsystem.specs.declared.fault.SystemFault.TheVariants as fault
use Rattle.lagsystem.specs.ModelView.{lacp_message}
use Rattle.lagsystem.specs.Offers.{GivesAssignment, GivesOrRefuses, has_aggregator, in_system, or_not_assigned}
use Rattle.lagsystem.specs.Promises.{TablePromise}
use Rattle.lagsystem.specs.Readers.{distributing}
use Rattle.lagsystem.specs.State.{SystemState, machines_of}
use Rattle.dataplane.specs.declared.resuming.SavedPort.{SavedPort}
use Rattle.dataplane.specs.Resuming.{IsResumed}

-- The state of a conversation after a port adopted it, or the first reason to refuse; `next` is the next marker's identifier, and
-- `ports` those that distribute. One that is on another port, or held, is not adopted.
abbrev pub adopted : Option ℕ → List ℕ → ℕ → Assignment → Result Assignment DistFault
adopted next ports port (Free preferred) =
    if is_among ports port then (if is_none next then Err MarkersSpent else Ok (On port)) else Err NotDistributing
adopted next ports port (On p) = if eqb p port then Ok (On port) else Err Held
adopted next ports port (Wanted p preferred) = Err Held
adopted next ports port (Flushing p n preferred age) = Err Held

-- so it is in a system, or there is no such aggregator, port or conversation
abbrev pub adopt_result : SystemState → AggId → ℕ → ℕ → Result Assignment SystemFault
adopt_result s agg conv port =
    if has_aggregator s agg
    then (if is_some (machines_of port s)
    then in_system (or_not_assigned s conv (adopted (next_identifier s.table) (distributing agg s.system_ports) port
    (assignment_of s.table agg.0 conv)))
    else Err fault.NoPort)
    else Err fault.NoAggregator

-- the conversation is free, whatever port it prefers
abbrev pub IsFreeIn : SystemState → AggId → ℕ → Type 0
IsFreeIn s agg conv = (preferred : Option ℕ) × (assignment_of s.table agg.0 conv ≡ Free preferred)

-- The conversation is on the port; every other one, the ports and the next marker stay; and to the model it is an offer of a frame of
-- the conversation, which goes on that port.
pub record IsPlaced (agg : AggId) (conv port : ℕ) (old new : SystemState) : Type 0 where
  pub gives : GivesAssignment agg conv (On port) old new
  pub promise : TablePromise ModelCall.Offer (Sends_frame port agg.0 conv ∷ []) old new

-- a conversation, and the port on which a data plane has it
pub record Adoption : Type 0 where
  pub agg : AggId
  pub conv : ℕ
  pub port : ℕ

-- `adopt` was called for each of these, one after another, and refused none
abbrev pub Adopts : SystemState → List Adoption → SystemState → Type 0
Adopts old [] new = new ≡ old
Adopts old (a ∷ more) new = (mid : SystemState)
    × GivesOrRefuses a.agg a.conv (adopt_result old a.agg a.conv a.port) old (Ok tt) mid × Adopts mid more new

-- the LACPDU in the saved frame is the one that its port took last
abbrev pub WasTakenLast : (ℕ → Option TakenLacpdu) → SavedPort → Type 0
WasTakenLast taken saved = (heard : Lacpdu) → ReadsPdu (drop 14 saved.frame) (pdu.Lacpdu heard)
    → (m : TakenLacpdu) × (taken saved.port ≡ Some m) × (m.pdu ≡ lacp_message heard)

-- A warm start after a system with the view `before`, whose ports took these LACPDUs last: they were saved, and `resume` made a system of
-- them; its first marker is the next one of the system before, or a higher one; and each conversation that had a port was adopted on
-- that port.
pub record IsWarmStart (gives : ℕ → ℕ → ℕ → Type 0) (before : View) (taken : ℕ → Option TakenLacpdu) (new : SystemState) : Type 0 where
  pub config : Config
  pub saved : List SavedPort
  pub resumed : SystemState
  pub adoptions : List Adoption
  pub resumes : IsResumed gives config saved resumed
  pub adopts : Adopts resumed adoptions new
  pub last : AllByRecursion (WasTakenLast taken) saved
  pub marker : before.flows.next ≤ config.first_marker
  pub each : (g k p : ℕ) → conversation_port (before.flows.state g k) ≡ Some p
      → Contains adoptions (record { agg = record { 0 = g }; conv = k; port = p })
