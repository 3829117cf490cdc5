-- One system as contracts see it.
use Rattle.std.specs.Prelude.{ℕ, ◌==◌, Bool, List, map, Option, Some, None, slice_get, position, option_map}
use Rattle.lagtypes.specs.declared.identifiers.Key.{Key}
use Rattle.lagtypes.specs.declared.identifiers.SystemId.{SystemId}
use Rattle.portmachines.specs.Machines.{Machines}
use Rattle.selection.specs.Limits.{AggregatorsValue}
use Rattle.distributor.specs.Conversations.{Table}
use Rattle.lagsystem.specs.declared.config.PortConfig.{PortConfig}
use Rattle.lagsystem.specs.declared.system_ports.SystemPort.{SystemPort}

-- the configuration: system identifier, CollectorMaxDelay, first marker identifier, how many conversations each
-- aggregator has, keys of the aggregators, how many links each may have, whether each is in use, and the ports as they were configured; then
-- the ports as they are now, in the same order; and the conversations
pub record SystemState : Type 0 where
  pub system : SystemId
  pub max_delay : ℕ
  pub first_marker : ℕ
  pub conversations : ℕ
  pub keys : List Key
  pub max_links : Option ℕ
  pub in_use : List Bool
  pub ports : List PortConfig
  pub system_ports : List SystemPort
  pub table : Table

-- the aggregators, as the Selection Logic has them
abbrev pub aggregators_value : SystemState → AggregatorsValue
aggregators_value s = record { keys = s.keys; max_links = s.max_links; in_use = s.in_use }

-- what contracts see of a system: its state, and the algorithm that picks the ports of conversations
pub record SystemValue (F : Type 0) : Type 0 where
  pub state : SystemState
  pub algorithm : F

-- the state, but with these ports
abbrev pub with_system_ports : SystemState → List SystemPort → SystemState
with_system_ports s system_ports = record s { system_ports = system_ports }

-- the state, but with these conversations
abbrev pub with_table : SystemState → Table → SystemState
with_table s table = record s { table = table }

-- the numbers of the ports, in their order
abbrev pub port_numbers : List SystemPort → List ℕ
port_numbers system_ports = map (λ s. s.number) system_ports

-- the index of the port with this number
abbrev pub port_index : ℕ → List SystemPort → Option ℕ
port_index n system_ports = position (λ s. s.number == n) system_ports

-- the port at this index, if there is one
abbrev pub system_port_at : Option ℕ → List SystemPort → Option SystemPort
system_port_at None system_ports = None
system_port_at (Some i) system_ports = slice_get system_ports i

-- the machines of the port with this number
abbrev pub machines_of : ℕ → SystemState → Option Machines
machines_of n s = option_map (λ x. x.port) (system_port_at (port_index n s.system_ports) s.system_ports)
