-- What a program in C is told of a port, of a conversation, of the next marker, and of how long nothing happens by itself.
use Rattle.std.specs.Prelude.{ℕ, true, false, List, [], ◌∷◌, Option, None, Some}
use Rattle.distributor.specs.declared.assignment.Assignment.{Assignment}
use Rattle.distributor.specs.declared.assignment.Assignment.TheVariants.{Free, On, Wanted, Flushing}
use Rattle.lagtypes.specs.Choices.{is_standby}
use Rattle.lagtypes.specs.declared.group.End.{End}
use Rattle.lagtypes.specs.declared.group.Group.{Group}
use Rattle.lagtypes.specs.declared.identifiers.PortId.{PortId}
use Rattle.lagtypes.specs.declared.party.Choice.{Choice}
use Rattle.lagtypes.specs.declared.party.Choice.TheVariants.{Unselected, Selected, Standby}
use Rattle.lagtypes.specs.declared.party.Party.{Party}
use Rattle.lagtypes.specs.declared.state.State.{State}
use Rattle.lagtypes.specs.Group.{lower, upper}
use Rattle.lagsystem.specs.declared.port_status.PortStatus.{PortStatus}
use Rattle.lagsystem.specs.PortStatus.{status_number}
use Rattle.portmachines.specs.declared.mux.MuxState.{MuxState}
use Rattle.portmachines.specs.declared.mux.MuxState.TheVariants as mux
use Rattle.portmachines.specs.declared.receive.ReceiveState.{ReceiveState}
use Rattle.portmachines.specs.declared.receive.ReceiveState.TheVariants as receive
use Rattle.slowpdu.specs.declared.pdu.Info.{Info}
use Rattle.lagffi.specs.Numbers.{number, number_refused, truth, truth_refused}
use Rattle.lagffi.specs.declared.reader_values.LagAssignment.{LagAssignment}
use Rattle.lagffi.specs.declared.reader_values.LagEnd.{LagEnd}
use Rattle.lagffi.specs.declared.reader_values.LagGroup.{LagGroup}
use Rattle.lagffi.specs.declared.reader_values.LagInfo.{LagInfo}
use Rattle.lagffi.specs.declared.reader_values.LagMarker.{LagMarker}
use Rattle.lagffi.specs.declared.reader_values.LagParty.{LagParty}
use Rattle.lagffi.specs.declared.reader_values.LagWait.{LagWait}
use Rattle.lagffi.specs.declared.values.LagNumber.{LagNumber}
use Rattle.lagffi.specs.declared.values.LagTruth.{LagTruth}

-- the states of the receive machine, in the order of the standard
abbrev pub receive_state_number : ReceiveState → ℕ
receive_state_number receive.Initialize = 0
receive_state_number receive.PortDisabled = 1
receive_state_number receive.Expired = 2
receive_state_number receive.Defaulted = 3
receive_state_number receive.Current = 4

-- the states of the mux machine, in the order of the standard
abbrev pub mux_state_number : MuxState → ℕ
mux_state_number mux.Detached = 0
mux_state_number mux.Waiting = 1
mux_state_number mux.Attached = 2
mux_state_number mux.CollectingDistributing = 3

-- the aggregator that a port is SELECTED or STANDBY with, or 0
abbrev pub choice_number : Choice → ℕ
choice_number Unselected = 0
choice_number (Selected agg) = agg.0
choice_number (Standby agg) = agg.0

-- the number of the state of the receive machine of a port, or that there is no such port
abbrev pub receive_state_or_no_port : Option ReceiveState → LagNumber
receive_state_or_no_port (Some state) = number (receive_state_number state)
receive_state_or_no_port None = number_refused 1

-- likewise of the mux machine
abbrev pub mux_state_or_no_port : Option MuxState → LagNumber
mux_state_or_no_port (Some state) = number (mux_state_number state)
mux_state_or_no_port None = number_refused 1

-- likewise of the status of a port
abbrev pub port_status_or_no_port : Option PortStatus → LagNumber
port_status_or_no_port (Some status) = number (status_number status)
port_status_or_no_port None = number_refused 1

-- likewise of Selected: the aggregator that the port is SELECTED or STANDBY with, or 0
abbrev pub choice_or_no_port : Option Choice → LagNumber
choice_or_no_port (Some choice) = number (choice_number choice)
choice_or_no_port None = number_refused 1

-- whether the port is STANDBY, or that there is no such port
abbrev pub standby_or_no_port : Option Choice → LagTruth
standby_or_no_port (Some choice) = truth (is_standby choice)
standby_or_no_port None = truth_refused 1

-- the state octet of a port, or that there is no such port
abbrev pub state_or_no_port : Option State → LagNumber
state_or_no_port (Some state) = number state.0
state_or_no_port None = number_refused 1

-- all zero, in place of a MAC address
abbrev pub no_mac : List ℕ
no_mac = 0 ∷ 0 ∷ 0 ∷ 0 ∷ 0 ∷ 0 ∷ []

-- the own parameters of a port, refused with this number
abbrev pub party_refused : ℕ → LagParty
party_refused why = record {
  status = why;
  system_priority = 0;
  system_mac = no_mac;
  key = 0;
  port_priority = 0;
  port =
      0;
  aggregatable = false;
}

-- the own parameters of a port
abbrev pub lag_party : Party → LagParty
lag_party p =
    record {
      status = 0;
      system_priority = p.system.priority;
      system_mac = p.system.mac;
      key = p.key.0;
      port_priority = p.port.priority;
      port = p.port.number;
      aggregatable = p.aggregatable;
    }

-- the own parameters of a port, or that there is no such port
abbrev pub party_or_no_port : Option Party → LagParty
party_or_no_port (Some p) = lag_party p
party_or_no_port None = party_refused 1

-- the partner of a port, refused with this number
abbrev pub info_refused : ℕ → LagInfo
info_refused why = record { status = why; system_priority = 0; system_mac = no_mac; key = 0; port_priority = 0; port = 0; state = 0 }

-- the partner of a port
abbrev pub lag_info : Info → LagInfo
lag_info i =
    record {
      status = 0;
      system_priority = i.system.priority;
      system_mac = i.system.mac;
      key = i.key.0;
      port_priority = i.port.priority;
      port = i.port.number;
      state = i.state.0;
    }

-- the partner of a port, or that there is no such port
abbrev pub info_or_no_port : Option Info → LagInfo
info_or_no_port (Some i) = lag_info i
info_or_no_port None = info_refused 1

-- an end names its port only where the link is individual
abbrev pub lag_end_with_port : End → Option PortId → LagEnd
lag_end_with_port e (Some port) =
    record {
      system_priority = e.system.priority;
      system_mac = e.system.mac;
      key = e.key.0;
      individual = true;
      port_priority =
          port.priority;
      port = port.number;
    }
lag_end_with_port e None =
    record {
      system_priority = e.system.priority;
      system_mac = e.system.mac;
      key = e.key.0;
      individual =
          false;
      port_priority = 0;
      port = 0;
    }

-- an end of a group
abbrev pub lag_end : End → LagEnd
lag_end e = lag_end_with_port e e.port

-- an end of a group that is not told
abbrev pub no_end : LagEnd
no_end = record { system_priority = 0; system_mac = no_mac; key = 0; individual = false; port_priority = 0; port = 0 }

-- the group of a port, refused with this number
abbrev pub group_refused : ℕ → LagGroup
group_refused why = record { status = why; lower = no_end; upper = no_end }

-- the group of a port, its lower end first
abbrev pub lag_group : Group → LagGroup
lag_group g = record { status = 0; lower = lag_end (lower g); upper = lag_end (upper g) }

-- the group of a port, or that there is no such port
abbrev pub group_or_no_port : Option Group → LagGroup
group_or_no_port (Some g) = lag_group g
group_or_no_port None = group_refused 1

-- the state of a conversation, refused with this number
abbrev pub assignment_refused : ℕ → LagAssignment
assignment_refused why = record { status = why; what = 0; port = 0; prefers = false; preferred = 0; id = 0; age = 0 }

-- the state with this number, the port of the conversation or 0, and its preferred port, if it has one
abbrev pub lag_assignment_on : ℕ → ℕ → Option ℕ → LagAssignment
lag_assignment_on what port (Some preferred) = record {
  status = 0;
  what = what;
  port = port;
  prefers = true;
  preferred =
      preferred;
  id = 0;
  age = 0;
}
lag_assignment_on what port None = record { status = 0; what = what; port = port; prefers = false; preferred = 0; id = 0; age = 0 }

-- the state of a conversation: 0 Free, 1 On, 2 Wanted, 3 Flushing
abbrev pub lag_assignment : Assignment → LagAssignment
lag_assignment (Free preferred) = lag_assignment_on 0 0 preferred
lag_assignment (On port) = lag_assignment_on 1 port None
lag_assignment (Wanted port preferred) = lag_assignment_on 2 port preferred
lag_assignment (Flushing port id preferred age) = record (lag_assignment_on 3 port preferred) { id = id; age = age }

-- the state of a conversation, or that there is no such conversation
abbrev pub assignment_or_refused : Option Assignment → LagAssignment
assignment_or_refused (Some a) = lag_assignment a
assignment_or_refused None = assignment_refused 9

-- the next marker, refused with this number
abbrev pub marker_refused : ℕ → LagMarker
marker_refused why = record { status = why; left = false; id = 0 }

-- the identifier of the next marker, if one is left
abbrev pub lag_marker : Option ℕ → LagMarker
lag_marker (Some id) = record { status = 0; left = true; id = id }
lag_marker None = record { status = 0; left = false; id = 0 }

-- in how many ticks something happens by itself, refused with this number
abbrev pub wait_refused : ℕ → LagWait
wait_refused why = record { status = why; ever = false; ticks = 0 }

-- so many ticks; None for never
abbrev pub lag_wait : Option ℕ → LagWait
lag_wait (Some ticks) = record { status = 0; ever = true; ticks = ticks }
lag_wait None = record { status = 0; ever = false; ticks = 0 }
