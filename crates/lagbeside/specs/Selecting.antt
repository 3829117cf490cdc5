-- Which ports are SELECTED where there is an aggregator for each (6.4.14).
use Rattle.std.specs.Prelude.{◌≡◌, ◌≢◌, ◌≤◌, ◌==◌, ◌⊎◌, ℕ, true, false, length, filter, Some, slice_get}
use Rattle.lagtypes.specs.declared.identifiers.AggId.{AggId}
use Rattle.lagtypes.specs.declared.identifiers.Key.{Key}
use Rattle.lagtypes.specs.declared.party.Choice.TheVariants.{Standby, Unselected}
use Rattle.lagtypes.specs.Group.{individual}
use Rattle.slowpdu.specs.Parties.{party_of}
use Rattle.selection.specs.Choice.{has_group_of}
use Rattle.lagsystem.specs.Views.{selection_view}
use Rattle.portmachines.specs.declared.receive.ReceiveState.TheVariants.{Current, Defaulted}
use Rattle.portmachines.specs.Machines.{Machines}
use Rattle.portmachines.specs.Mux.{selected}
use Rattle.lagsystem.specs.declared.system_ports.SystemPort.{SystemPort}
use Rattle.lagsystem.specs.Sound.{IsSound}
use Rattle.lagsystem.specs.State.{SystemState}
use Rattle.lagsystem.specs.StatusMeaning.{HasNoRoom}

-- how many aggregators have this key
abbrev pub aggregators_with : Key → SystemState → ℕ
aggregators_with key s = length (filter (λ (k : Key). k.0 == key.0) s.keys)

-- how many ports have this key, whether their links are up or not
abbrev pub ports_with : Key → SystemState → ℕ
ports_with key s = length (filter (λ (x : SystemPort). x.port.party.key.0 == key.0) s.system_ports)

-- the link is up, the receive machine is in CURRENT or DEFAULTED, and the partner is not the port's own system
pub record WantsAggregator (p : Machines) : Type 0 where
  pub up : p.enabled ≡ true
  pub known : (p.receive ≡ Current) ⊎ (p.receive ≡ Defaulted)
  pub apart : p.partner.system ≢ p.party.system

-- the port is STANDBY with an aggregator that has no room: it is not in use, or has as many members as the limit of links
abbrev pub StandsByFull : SystemState → Machines → Type 0
StandsByFull s p = (agg : AggId) × (p.choice ≡ Standby agg) × HasNoRoom s agg

-- in a sound system, each port that wants an aggregator, and that the host does not hold, is SELECTED, or STANDBY with one that has no room,
-- if there are at least as many aggregators of its key as ports of its key
abbrev pub FindsAggregator : Type 0
FindsAggregator = (s : SystemState) (i : ℕ) (x : SystemPort) → IsSound s → slice_get s.system_ports i ≡ Some x
    → WantsAggregator x.port → x.held ≡ false
    → ports_with x.port.party.key s ≤ aggregators_with x.port.party.key s → (selected x.port ≡ true) ⊎ StandsByFull s x.port

-- in a sound system, each port that is STANDBY with an aggregator is so with one that has no room
abbrev pub WaitsForRoom : Type 0
WaitsForRoom = (s : SystemState) (i : ℕ) (x : SystemPort) (agg : AggId) → IsSound s → slice_get s.system_ports i ≡ Some x
    → x.port.choice ≡ Standby agg → HasNoRoom s agg

-- the link of the port is not Individual, and the links of all ports of its key that are not UNSELECTED have its group (LAG ID)
pub record SharesGroup (s : SystemState) (x : SystemPort) : Type 0 where
  pub together : individual x.port.party (party_of x.port.partner) ≡ false
  pub group : (k : ℕ) (y : SystemPort) → slice_get s.system_ports k ≡ Some y → y.port.party.key ≡ x.port.party.key
      → y.port.choice ≢ Unselected → has_group_of (selection_view x) (selection_view y) ≡ true

-- There are as many aggregators of the port's key as ports of that key; or there is one, and the ports of the key share one group.
abbrev pub HasPlace : SystemState → SystemPort → Type 0
HasPlace s x = (ports_with x.port.party.key s ≤ aggregators_with x.port.party.key s)
    ⊎ ((1 ≤ aggregators_with x.port.party.key s) × SharesGroup s x)

-- in a sound system, each port that wants an aggregator, and that the host does not hold, is SELECTED, or STANDBY with a full one,
-- if there is an aggregator of its key, and the ports of that key share one group
abbrev pub SharesAggregator : Type 0
SharesAggregator = (s : SystemState) (i : ℕ) (x : SystemPort) → IsSound s → slice_get s.system_ports i ≡ Some x
    → WantsAggregator x.port → x.held ≡ false → 1 ≤ aggregators_with x.port.party.key s → SharesGroup s x
    → (selected x.port ≡ true) ⊎ StandsByFull s x.port
