-- What each status of a port says of the port and its system (6.4.7, 6.4.8, 6.4.10, 6.4.12, 6.4.14, 6.4.15; profile).
use Rattle.std.specs.Prelude.{◌≡◌, ◌<◌, ◌⊎◌, ℕ, true, false, length, Some, None, slice_get}
use Rattle.lagtypes.specs.declared.identifiers.AggId.{AggId}
use Rattle.lagtypes.specs.declared.party.Choice.TheVariants.{Unselected, Selected, Standby}
use Rattle.portmachines.specs.declared.mux.MuxState.TheVariants.{Waiting, Attached, CollectingDistributing}
use Rattle.portmachines.specs.declared.receive.ReceiveState.TheVariants.{Expired, Defaulted, Current}
use Rattle.portmachines.specs.Machines.{Machines}
use Rattle.portmachines.specs.Mux.{partner_synchronized, selected}
use Rattle.selection.specs.Choice.{chosen_aggregator, has_occupant, occupants_share_group, ports_that_chose}
use Rattle.selection.specs.Limits.{is_in_use}
use Rattle.lagsystem.specs.declared.port_status.PortStatus.{PortStatus}
use Rattle.lagsystem.specs.declared.port_status.PortStatus.TheVariants as status
use Rattle.lagsystem.specs.declared.system_ports.SystemPort.{SystemPort}
use Rattle.lagsystem.specs.ModelView.{key_of}
use Rattle.lagsystem.specs.PortStatus.{status_of_port}
use Rattle.lagsystem.specs.Sound.{IsSound}
use Rattle.lagsystem.specs.State.{SystemState}
use Rattle.lagsystem.specs.Views.{may_choose, selection_view, views}

-- in each sound system, this holds of each port with this status
abbrev pub Says : PortStatus → (SystemState → SystemPort → Type 0) → Type 0
Says status Holds = (s : SystemState) (i : ℕ) (x : SystemPort) → IsSound s → slice_get s.system_ports i ≡ Some x
    → status_of_port x ≡ status → Holds s x

-- the port is SELECTED, its partner is synchronized, and its mux machine is in COLLECTING_DISTRIBUTING
pub record IsDistributing (s : SystemState) (x : SystemPort) : Type 0 where
  pub mux : x.port.mux ≡ CollectingDistributing
  pub chosen : selected x.port ≡ true
  pub synchronized : partner_synchronized x.port ≡ true

-- the link is down
abbrev pub IsDown : SystemState → SystemPort → Type 0
IsDown s x = x.port.enabled ≡ false

-- the link is up, and the host holds the port, which is UNSELECTED
pub record IsHeld (s : SystemState) (x : SystemPort) : Type 0 where
  pub up : x.port.enabled ≡ true
  pub held : x.held ≡ true
  pub chosen : x.port.choice ≡ Unselected

-- the link is up, and the receive machine is EXPIRED
abbrev pub HearsNoPartner : SystemState → SystemPort → Type 0
HearsNoPartner s x = (x.port.enabled ≡ true) × (x.port.receive ≡ Expired)

-- the link is up, and the receive machine is DEFAULTED
abbrev pub RunsOnDefaults : SystemState → SystemPort → Type 0
RunsOnDefaults s x = (x.port.enabled ≡ true) × (x.port.receive ≡ Defaulted)

-- the link is up, and the receive machine is CURRENT
abbrev pub HearsPartner : Machines → Type 0
HearsPartner p = (p.enabled ≡ true) × (p.receive ≡ Current)

-- the port hears its own system
pub record HearsItself (s : SystemState) (x : SystemPort) : Type 0 where
  pub hears : HearsPartner x.port
  pub own : x.port.partner.system ≡ x.port.party.system

-- The port is eligible and not held, and the Selection Logic finds no aggregator for it: each with its key has an occupant, and some
-- occupant has another group (LAG ID), or the link of the port is Individual.
pub record FindsNoAggregator (s : SystemState) (x : SystemPort) : Type 0 where
  pub hears : HearsPartner x.port
  pub eligible : may_choose x ≡ true
  pub none : chosen_aggregator s.keys (views s.system_ports) x.number ≡ None
  pub occupied : (agg : AggId) → key_of s.keys agg.0 ≡ Some x.port.party.key → has_occupant (views s.system_ports) agg ≡ true
  pub closed : (agg : AggId) → key_of s.keys agg.0 ≡ Some x.port.party.key
      → occupants_share_group (views s.system_ports) (selection_view x) agg ≡ false

-- the aggregator has as many members as the limit of links
abbrev pub IsFull : SystemState → AggId → Type 0
IsFull s agg = (most : ℕ) × (s.max_links ≡ Some most) × (length (ports_that_chose agg (views s.system_ports)) ≡ most)

-- the aggregator is not in use, or is full
abbrev pub HasNoRoom : SystemState → AggId → Type 0
HasNoRoom s agg = (is_in_use s.in_use agg ≡ false) ⊎ IsFull s agg

-- the port is STANDBY with this aggregator, which is not in use, or has as many members as the limit of links
pub record FindsNoRoom (agg : AggId) (s : SystemState) (x : SystemPort) : Type 0 where
  pub hears : HearsPartner x.port
  pub chosen : x.port.choice ≡ Standby agg
  pub room : HasNoRoom s agg

-- a member of this aggregator in WAITING that has this many ticks of wait_while left
pub record WaitsIn (agg : AggId) (ticks : ℕ) (x : SystemPort) : Type 0 where
  pub chosen : x.port.choice ≡ Selected agg
  pub mux : x.port.mux ≡ Waiting
  pub wait_while : x.port.wait_while ≡ ticks

-- wait_while of the port runs, with this many ticks left
pub record Waits (ticks : ℕ) (s : SystemState) (x : SystemPort) : Type 0 where
  pub hears : HearsPartner x.port
  pub agg : AggId
  pub waits : WaitsIn agg ticks x
  pub runs : 0 < ticks

-- wait_while of the port has expired; that of another member of its aggregator, which is in WAITING too, runs
pub record WaitsForMember (s : SystemState) (x : SystemPort) : Type 0 where
  pub hears : HearsPartner x.port
  pub agg : AggId
  pub waited : WaitsIn agg 0 x
  pub index : ℕ
  pub other : SystemPort
  pub there : slice_get s.system_ports index ≡ Some other
  pub ticks : ℕ
  pub waits : WaitsIn agg ticks other
  pub runs : 0 < ticks

-- the port is SELECTED and in ATTACHED, and its recorded partner is not synchronized
pub record WaitsForPartner (s : SystemState) (x : SystemPort) : Type 0 where
  pub hears : HearsPartner x.port
  pub chosen : selected x.port ≡ true
  pub mux : x.port.mux ≡ Attached
  pub apart : partner_synchronized x.port ≡ false

-- what each status says
abbrev pub meaning : PortStatus → SystemState → SystemPort → Type 0
meaning status.Distributing = IsDistributing
meaning status.LinkDown = IsDown
meaning status.NoLacpdu = HearsNoPartner
meaning status.OnDefaults = RunsOnDefaults
meaning status.OwnSystem = HearsItself
meaning status.NoAggregator = FindsNoAggregator
meaning (status.Standby agg) = FindsNoRoom agg
meaning (status.Waiting ticks) = Waits ticks
meaning status.WaitingForMembers = WaitsForMember
meaning status.PartnerNotSynchronized = WaitsForPartner
meaning status.Held = IsHeld
