-- Ports of one key that share aggregators, of which there may be fewer than ports (6.4.14).
use Rattle.std.specs.Prelude.{◌≡◌, ◌≤◌, ◌⊎◌, ℕ, true, false, Some, slice_get}
use Rattle.lagtypes.specs.declared.identifiers.Key.{Key}
use Rattle.lagtypes.specs.declared.identifiers.SystemId.{SystemId}
use Rattle.lagtypes.specs.declared.party.Choice.TheVariants.{Unselected}
use Rattle.lagtypes.specs.States.{bits_of}
use Rattle.portmachines.specs.Machines.{Machines}
use Rattle.lagmodel.specs.World.{Side, peer}
use Rattle.lagsystem.specs.declared.system_ports.SystemPort.{SystemPort}
use Rattle.lagbeside.specs.Selecting.{aggregators_with, ports_with}
use Rattle.lagworld.specs.State.{LinkState, WorldState, half}
use Rattle.lagprogress.specs.Rounds.{AtEnd, IsHealthyAt}

-- the port is aggregatable, and has recorded as its partner a port of the system with this identifier, with the key `far`, that is
-- aggregatable too
pub record IsLinkedTo (identifier : SystemId) (far : Key) (p : Machines) : Type 0 where
  pub own : p.party.aggregatable ≡ true
  pub system : p.partner.system ≡ identifier
  pub key : p.partner.key ≡ far
  pub partner : (bits_of p.partner.state).aggregation ≡ true

-- each healthy cable of a port of system s with this key leads to a port with the key `far`, and both are aggregatable
abbrev pub LeadToKey : Side → Key → Key → WorldState → Type 0
LeadToKey s key far j = (i : ℕ) (l : LinkState) → IsHealthyAt i l j
    → AtEnd (λ p. p.party.key ≡ key → (p.party.aggregatable ≡ true)
    × AtEnd (λ q. (q.party.key ≡ far) × (q.party.aggregatable ≡ true)) (peer s) l j) s l j

-- each port of system s with this key whose link is down is UNSELECTED, or was linked to a port of the other system with the key
-- `far`
abbrev pub DownWereLinkedTo : Side → Key → Key → WorldState → Type 0
DownWereLinkedTo s key far j = (k : ℕ) (x : SystemPort) → slice_get (half s j).state.system_ports k ≡ Some x → x.port.enabled ≡ false
    → x.port.party.key ≡ key → (x.port.choice ≡ Unselected) ⊎ IsLinkedTo (half (peer s) j).state.system far x.port

-- system s has an aggregator with this key, and the ports with it lead to ports of one key at the other system, all of
-- them aggregatable
pub record AreOneGroup (s : Side) (key : Key) (j : WorldState) : Type 0 where
  pub aggregator : 1 ≤ aggregators_with key (half s j).state
  pub far : Key
  pub up : LeadToKey s key far j
  pub down : DownWereLinkedTo s key far j

-- Of the key of each port whose link is up, system s has at least as many aggregators as ports, whether their links are up or
-- not, or the ports with that key are one group.
abbrev pub HasAggregators : Side → WorldState → Type 0
HasAggregators s j = (k : ℕ) (x : SystemPort) → slice_get (half s j).state.system_ports k ≡ Some x → x.port.enabled ≡ true
    → (ports_with x.port.party.key (half s j).state ≤ aggregators_with x.port.party.key (half s j).state)
    ⊎ AreOneGroup s x.port.party.key j
