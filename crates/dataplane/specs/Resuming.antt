-- A warm start: a system that looks to its peers as the one before it did (profile).
use Rattle.std.specs.Prelude.{◌≡◌, ◌⊎◌, ℕ, ◌==◌, ◌&&◌, ◌||◌, ◌+◌, not, Bool, true, false, List, [], ◌∷◌, drop, nat_le, if◌then◌else◌}
use Rattle.std.specs.Prelude.{◌<◌, get_or, length, take, Option, Some, None}
use Rattle.std.specs.Bool.{beq}
use Rattle.std.specs.List.{AllByRecursion, list_any}
use Rattle.lagtypes.specs.Choices.{is_unselected}
use Rattle.lagtypes.specs.declared.identifiers.SystemId.{SystemId}
use Rattle.lagtypes.specs.declared.party.Choice.{Choice}
use Rattle.lagtypes.specs.declared.party.Choice.TheVariants.{Selected, Standby, Unselected}
use Rattle.lagtypes.specs.declared.party.Party.{Party}
use Rattle.lagtypes.specs.Same.{same_party}
use Rattle.lagtypes.specs.States.{bits_of}
use Rattle.lagtypes.specs.declared.state.StateBits.{StateBits}
use Rattle.slowpdu.specs.declared.pdu.Lacpdu.{Lacpdu}
use Rattle.slowpdu.specs.declared.pdu.Pdu.TheVariants as pdu
use Rattle.slowpdu.specs.Parties.{party_of}
use Rattle.slowpdu.specs.Pdus.{ReadsPdu}
use Rattle.portmachines.specs.Machines.{Machines}
use Rattle.portmachines.specs.Mux.{same_mux_state}
use Rattle.portmachines.specs.Transmit.{actor_state}
use Rattle.portmachines.specs.Receive.{same_receive_state}
use Rattle.portmachines.specs.declared.mux.MuxState.TheVariants.{CollectingDistributing, Detached}
use Rattle.portmachines.specs.declared.receive.ReceiveState.TheVariants.{PortDisabled}
use Rattle.distributor.specs.declared.assignment.Assignment.TheVariants.{Free}
use Rattle.distributor.specs.Conversations.{assignment_of}
use Rattle.lagsystem.specs.declared.config.Config.{Config}
use Rattle.lagsystem.specs.declared.config.PortConfig.{PortConfig}
use Rattle.lagsystem.specs.declared.drive.Reply.{Reply}
use Rattle.lagsystem.specs.Calls.{Call}
use Rattle.lagsystem.specs.Drives.{Drives}
use Rattle.lagsystem.specs.First.{IsConfigured, IsFirst, config_refusal, fault_or_no_memory}
use Rattle.lagsystem.specs.ModelView.{configured_party}
use Rattle.lagsystem.specs.State.{SystemState, machines_of}
use Rattle.dataplane.specs.declared.resuming.ResumeFault.{ResumeFault}
use Rattle.dataplane.specs.declared.resuming.ResumeFault.TheVariants.{Stale, New, NotDistributing}
use Rattle.dataplane.specs.declared.resuming.SavedPort.{SavedPort}
use Rattle.dataplane.specs.Warming.{is_saved, warm_calls}

-- the ticks of current_while after an LACPDU: Short Timeout or Long Timeout (6.4.4)
abbrev pub timeout : Bool → ℕ
timeout short = if short then 30 else 900

-- one of these ports is the saved one, and its LACPDU came as long ago as the port's timeout, or longer
abbrev pub is_stale : List PortConfig → SavedPort → Bool
is_stale ports saved = list_any (λ c. (c.number == saved.port) && nat_le (timeout c.short) saved.age) ports

-- these calls, made one after another, lead from the first state to the last
abbrev pub Runs : (ℕ → ℕ → ℕ → Type 0) → SystemState → List Call → SystemState → Type 0
Runs gives old calls new = (replies : List Reply) × Drives gives old calls replies new

-- Synchronization, Collecting and Distributing, neither Defaulted nor Expired (6.4.2.3)
abbrev pub is_in_service : StateBits → Bool
is_in_service b = not (b.defaulted || b.expired) && (b.synchronization && (b.collecting && b.distributing))

-- both have one Activity and one Timeout (6.4.2.3)
abbrev pub same_modes : StateBits → StateBits → Bool
same_modes a b = beq a.activity b.activity && beq a.timeout b.timeout

-- The port distributes, and its Actor_State says so; the peer that sent this LACPDU knows it by the parameters that it has, with its
-- Activity and Timeout; and the recorded partner is that peer, in the state that it told. What the peer knew of its Synchronization,
-- Collecting and Distributing is not asked: it may have taken later LACPDUs without an answer (6.4.2.3).
abbrev pub know_each_other : Machines → Lacpdu → Bool
know_each_other p heard =
    (same_mux_state CollectingDistributing p.mux && is_in_service (bits_of (actor_state p)))
    && ((same_party (party_of heard.partner) p.party && same_modes (bits_of heard.partner.state) (bits_of (actor_state p)))
    && (same_party (party_of p.partner) (party_of heard.actor) && (p.partner.state.0 == heard.actor.state.0)))

-- Selected is SELECTED, with the aggregator of this number
abbrev pub is_given : ℕ → Choice → Bool
is_given agg (Selected given) = given.0 == agg
is_given agg Unselected = false
is_given agg (Standby given) = false

-- the port has the aggregator with this number; 0 is any
abbrev pub is_in : ℕ → Machines → Bool
is_in agg p = (agg == 0) || is_given agg p.choice

-- current_while has what is left of the timeout so many ticks after an LACPDU came (6.4.4)
abbrev pub has_rest : ℕ → Machines → Bool
has_rest age p = p.current_while + age == timeout p.short

-- So it is with the LACPDU that was saved; the port is in the aggregator that it was in, and its timeout ends when it would have ended.
abbrev pub is_as_saved : SavedPort → Lacpdu → Machines → Bool
is_as_saved saved heard p = know_each_other p heard && (is_in saved.aggregator p && has_rest saved.age p)

-- so is the port
pub record IsBack (s : SystemState) (saved : SavedPort) : Type 0 where
  pub port : Machines
  pub heard : Lacpdu
  pub there : machines_of saved.port s ≡ Some port
  pub reads : ReadsPdu (drop 14 saved.frame) (pdu.Lacpdu heard)
  pub same : is_as_saved saved heard port ≡ true

-- The port is as its start leaves it: its link is down, it knows no partner and has no aggregator, no timer runs, and it has nothing to
-- send.
abbrev pub is_at_start : Machines → Bool
is_at_start p =
    (not p.enabled && (same_receive_state PortDisabled p.receive && p.defaulted))
    && ((same_mux_state Detached p.mux && is_unselected p.choice)
    && ((p.current_while == 0) && ((p.wait_while == 0) && not p.ntt)))

-- the port has the configured parameters; it was saved, or is as its start leaves it
abbrev pub is_left_with : Bool → Party → Machines → Bool
is_left_with saved own p = same_party p.party own && (saved || is_at_start p)

-- so is the configured port, if there is one
abbrev pub is_left_at : List SavedPort → SystemId → PortConfig → Option Machines → Bool
is_left_at saved system c None = false
is_left_at saved system c (Some p) = is_left_with (is_saved saved c.number) (configured_party system c) p

-- the number of the first configured port that is not so
abbrev pub first_touched : SystemState → SystemId → List SavedPort → List PortConfig → Option ℕ
first_touched s system saved [] = None
first_touched s system saved (c ∷ cs) =
    if is_left_at saved system c (machines_of c.number s) then first_touched s system saved cs else Some c.number

-- this is the first of the saved ports of which the property does not hold
pub record IsFirstWithout (P : SavedPort → Type 0) (saved : List SavedPort) (port : ℕ) : Type 0 where
  pub place : ℕ
  pub one : SavedPort
  pub there : (place < length saved) × (get_or saved place one ≡ one)
  pub named : one.port ≡ port
  pub before : AllByRecursion P (take place saved)
  pub without : P one → ⊥

-- these calls lead to the state; each saved port is back, and each configured port is left
pub record IsWarmed (gives : ℕ → ℕ → ℕ → Type 0) (old : SystemState) (calls : List Call) (system : SystemId) (ports : List PortConfig)
    (saved : List SavedPort) (s : SystemState) : Type 0 where
  pub run : Runs gives old calls s
  pub back : AllByRecursion (IsBack s) saved
  pub left : first_touched s system saved ports ≡ None

-- These calls lead to a state in which this is the first of the saved ports that is not back; or each is, and it is the first configured
-- port that is not left.
abbrev pub IsNotWarmed : (ℕ → ℕ → ℕ → Type 0) → SystemState → List Call → SystemId → List PortConfig → List SavedPort → ResumeFault → Type 0
IsNotWarmed gives old calls system ports saved fault =
    (port : ℕ) × (fault ≡ NotDistributing port) × ((s : SystemState) × Runs gives old calls s
    × (IsFirstWithout (IsBack s) saved port
    ⊎ (AllByRecursion (IsBack s) saved × (first_touched s system saved ports ≡ Some port))))

-- every conversation is free and prefers no port, and the next marker is the first of the configuration
pub record IsUnused (config : Config) (s : SystemState) : Type 0 where
  pub free : (agg conv : ℕ) → assignment_of s.table agg conv ≡ Free None
  pub marker : s.table.next ≡ config.first_marker

-- none of the LACPDUs is stale
abbrev pub AreFresh : Config → List SavedPort → Type 0
AreFresh config saved = AllByRecursion (λ x. is_stale config.ports.items x ≡ false) saved

-- the calls of a warm start of this configuration
abbrev pub calls_of : Config → List SavedPort → List Call
calls_of config saved = warm_calls config.aggregators.items config.ports.items saved

-- A warm start: no LACPDU is stale; the state is one that the calls of a warm start lead to from the first of the configuration, and nothing
-- was sent meanwhile; each port is back, or as its start leaves it.
pub record IsResumed (gives : ℕ → ℕ → ℕ → Type 0) (config : Config) (saved : List SavedPort) (s : SystemState) : Type 0 where
  pub fresh : AreFresh config saved
  pub first : SystemState
  pub made : IsFirst first
  pub configured : IsConfigured config first
  pub warmed : IsWarmed gives first (calls_of config saved) config.system config.ports.items saved s
  pub unused : IsUnused config s

-- Why there is no warm start: the first LACPDU that is stale; and where none is, the reason of `new`; or the first port that is not back or
-- not left.
abbrev pub MayRefuse : (ℕ → ℕ → ℕ → Type 0) → Config → List SavedPort → ResumeFault → Type 0
MayRefuse gives config saved (Stale port) = IsFirstWithout (λ x. is_stale config.ports.items x ≡ false) saved port
MayRefuse gives config saved (New fault) = AreFresh config saved × (fault ≡ fault_or_no_memory (config_refusal config))
MayRefuse gives config saved (NotDistributing port) = AreFresh config saved
    × ((first : SystemState) × IsFirst first × IsConfigured config first
    × IsNotWarmed gives first (calls_of config saved) config.system config.ports.items saved (NotDistributing port))
