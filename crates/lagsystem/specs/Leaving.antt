-- What leave_conversation and rest do (profile).
use Rattle.std.specs.Prelude.{ℕ, if◌then◌else◌, Result, Err}
use Rattle.lagtypes.specs.declared.identifiers.AggId.{AggId}
use Rattle.distributor.specs.declared.assignment.Assignment.{Assignment}
use Rattle.distributor.specs.Calls.{leave_result, rest_result}
use Rattle.distributor.specs.Conversations.{assignment_of, next_identifier}
use Rattle.lagsystem.specs.declared.fault.SystemFault.{SystemFault}
use Rattle.lagsystem.specs.declared.fault.SystemFault.TheVariants.{NoAggregator}
use Rattle.lagsystem.specs.Offers.{has_aggregator, in_system, or_not_assigned}
use Rattle.lagsystem.specs.State.{SystemState}

-- the state of a conversation that is to leave its port for no other, or why that is refused
abbrev pub system_leave_result : SystemState → AggId → ℕ → Result Assignment SystemFault
system_leave_result s agg conv = if has_aggregator s agg then in_system
    (or_not_assigned s conv (leave_result (next_identifier s.table) (assignment_of s.table agg.0 conv))) else Err NoAggregator

-- the state of a conversation of which nothing is on its way, or why that is refused
abbrev pub system_rest_result : SystemState → AggId → ℕ → Result Assignment SystemFault
system_rest_result s agg conv = if has_aggregator s agg then in_system
    (or_not_assigned s conv (rest_result (assignment_of s.table agg.0 conv))) else Err NoAggregator
