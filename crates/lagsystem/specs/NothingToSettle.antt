-- A system in which one more settling changes nothing.
use Rattle.std.specs.Prelude.{◌≡◌, ℕ, Bool, true, false, List, Some, None, slice_get, slice_set}
use Rattle.std.specs.Bool.{OnTrue}
use Rattle.slowpdu.specs.declared.pdu.Lacpdu.{Lacpdu}
use Rattle.std.specs.List.{AllByRecursion}
use Rattle.lagtypes.specs.declared.identifiers.Key.{Key}
use Rattle.portmachines.specs.Mux.{mux_rows}
use Rattle.portmachines.specs.Periodic.{clear_ntt, periodic_rows}
use Rattle.portmachines.specs.Rows.{AtRest, RunsToRest}
use Rattle.portmachines.specs.Receive.{same_receive_state}
use Rattle.portmachines.specs.declared.receive.ReceiveState.TheVariants.{Current}
use Rattle.lagtypes.specs.Same.{same_party}
use Rattle.slowpdu.specs.Parties.{party_of}
use Rattle.slowpdu.specs.declared.pdu.Info.{Info}
use Rattle.lagsystem.specs.declared.system_ports.SystemPort.{SystemPort}
use Rattle.lagsystem.specs.Calls.{ProcessesLacpdu}
use Rattle.lagsystem.specs.Settling.{PortChangesBy, ready_of, aggregator_for}
use Rattle.lagsystem.specs.Views.{selection_view, views}

-- no row of the mux machine is enabled, the port has no aggregator to choose, and its own aggregator is not Ready
pub record MuxIsSettled (keys : List Key) (system_ports : List SystemPort) (s : SystemPort) : Type 0 where
  pub mux : AtRest (mux_rows false) s.port
  pub apart : aggregator_for keys system_ports s ≡ None
  pub unready : ready_of keys (views system_ports) s.port.choice ≡ false

-- no row of the periodic machine is enabled, and NTT is false in NO_PERIODIC
pub record PeriodicIsSettled (s : SystemPort) : Type 0 where
  pub rows : AtRest periodic_rows s.port
  pub cleared : s.port ≡ clear_ntt s.port

-- no port has a mux row to fire or an aggregator to choose
abbrev pub MuxesAreSettled : List Key → List SystemPort → Type 0
MuxesAreSettled keys system_ports = AllByRecursion (MuxIsSettled keys system_ports) system_ports

-- the periodic machine of every port is at rest
abbrev pub PeriodicsAreSettled : List SystemPort → Type 0
PeriodicsAreSettled system_ports = AllByRecursion PeriodicIsSettled system_ports

-- two ports that look the same to the Selection Logic
abbrev pub LooksUnchanged : SystemPort → SystemPort → Type 0
LooksUnchanged s t = selection_view t ≡ selection_view s

-- A port processes an LACPDU, and its mux machine runs with Ready false; if the answer is true, it looks the same after each.
pub record ProcessesLacpduAndRunsMux (v : Lacpdu) (old : SystemPort) (alike : Bool) (new : SystemPort) : Type 0 where
  pub mid : SystemPort
  pub processes : PortChangesBy (ProcessesLacpdu v) old mid
  pub runs : PortChangesBy (RunsToRest (mux_rows false)) mid new
  pub same : OnTrue alike (LooksUnchanged old mid × LooksUnchanged old new)

-- the port at this index does so, and the other ports stay
pub record ProcessesLacpduAt (v : Lacpdu) (i : ℕ) (old : List SystemPort) (alike : Bool) (new : List SystemPort) : Type 0 where
  pub before : SystemPort
  pub after : SystemPort
  pub there : slice_get old i ≡ Some before
  pub changes : ProcessesLacpduAndRunsMux v before alike after
  pub others : new ≡ slice_set old i after

-- the port is in CURRENT, and the actor of the LACPDU is the partner that it has recorded
abbrev pub HasRecordedActor : Lacpdu → SystemPort → Type 0
HasRecordedActor v s = (same_receive_state Current s.port.receive ≡ true) × (same_party (party_of v.actor) (party_of s.port.partner) ≡ true)

-- both name one party
abbrev pub IsSamePartner : Info → Info → Type 0
IsSamePartner was new = party_of new ≡ party_of was
