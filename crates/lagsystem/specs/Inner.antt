-- The fields of a system as a state.
use Rattle.lagsystem.specs.declared.inner.Inner.{Inner}
use Rattle.lagsystem.specs.State.{SystemState, SystemValue}

-- the state of a system, from its fields
abbrev pub inner_state : {F : Type 0} → Inner F → SystemState
inner_state c = record {
  system = c.system;
  max_delay = c.max_delay;
  first_marker = c.distributor.table.first;
  conversations = c.distributor.table.conversations;
  keys = c.aggregators.keys;
  max_links = c.aggregators.max_links;
  in_use = c.aggregators.in_use;
  ports = c.ports.items;
  system_ports = c.system_ports.items;
  table = c.distributor.table;
}

-- the state and the algorithm of a system, from its fields
abbrev pub inner_value : {F : Type 0} → Inner F → SystemValue F
inner_value c = record { state = inner_state c; algorithm = c.distributor.algorithm }
