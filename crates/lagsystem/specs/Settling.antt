-- Settling (profile): six steps after a call. Each is a relation between the states before and after it.
use Rattle.std.specs.Prelude.{◌≡◌, ℕ, zero, suc, Bool, true, false, List, [], ◌∷◌, length, if◌then◌else◌, Option, Some, None, ◌&&◌, ◌||◌}
use Rattle.std.specs.Prelude.{slice_get, slice_set, option_map}
use Rattle.std.specs.List.{AllZip}
use Rattle.lagtypes.specs.Choices.{is_selected, is_unselected}
use Rattle.lagtypes.specs.declared.identifiers.AggId.{AggId}
use Rattle.lagtypes.specs.declared.identifiers.Key.{Key}
use Rattle.lagtypes.specs.declared.party.Choice.{Choice}
use Rattle.lagtypes.specs.declared.party.Choice.TheVariants.{Unselected, Selected, Standby}
use Rattle.portmachines.specs.Machines.{Machines}
use Rattle.portmachines.specs.Rows.{RunsToRest}
use Rattle.portmachines.specs.Mux.{mux_rows}
use Rattle.portmachines.specs.Periodic.{RunsPeriodic}
use Rattle.selection.specs.declared.view.PortView.{PortView}
use Rattle.selection.specs.Views.{has_waited}
use Rattle.selection.specs.Choice.{chosen_aggregator}
use Rattle.selection.specs.Limits.{AggregatorsValue, has_room, next_standby_index}
use Rattle.selection.specs.Ready.{is_ready}
use Rattle.lagsystem.specs.declared.system_ports.SystemPort.{SystemPort}
use Rattle.distributor.specs.declared.assignment.Assignment.{Assignment}
use Rattle.distributor.specs.declared.assignment.Assignment.TheVariants.{On, Wanted}
use Rattle.distributor.specs.Calls.{is_among}
use Rattle.distributor.specs.Conversations.{assignment_of}
use Rattle.lagsystem.specs.Readers.{aggregator_numbered, distributing}
use Rattle.lagsystem.specs.Views.{may_choose, selection_view, views}
use Rattle.lagsystem.specs.State.{SystemState, aggregators_value, with_system_ports, with_table}

-- the port keeps its number, its MAC address and whether it is held, and its machines change by the relation
abbrev pub PortChangesBy : (Machines → Machines → Type 0) → SystemPort → SystemPort → Type 0
PortChangesBy R old new = (new ≡ record old { port = new.port }) × R old.port new.port

-- in the list, the machines of every port change by the relation
abbrev pub PortsChangeBy : (Machines → Machines → Type 0) → List SystemPort → List SystemPort → Type 0
PortsChangeBy R old new = AllZip (PortChangesBy R) old new

-- every port changes by the relation, and nothing else changes
abbrev pub OnlyPortsChangeBy : (Machines → Machines → Type 0) → SystemState → SystemState → Type 0
OnlyPortsChangeBy R old new = PortsChangeBy R old.system_ports new.system_ports × (new ≡ with_system_ports old new.system_ports)

-- 1. every mux machine runs with Ready false
abbrev pub RunsMuxNotReady : SystemState → SystemState → Type 0
RunsMuxNotReady old new = OnlyPortsChangeBy (RunsToRest (mux_rows false)) old new

-- the port with this value of Selected, if there is one
abbrev pub with_choice : SystemPort → Option Choice → SystemPort
with_choice system_port None = system_port
with_choice system_port (Some choice) = record system_port { port = record system_port.port { choice = choice } }

-- the STANDBY port that comes next in the aggregator becomes SELECTED
abbrev pub PromotesNext : AggregatorsValue → AggId → List SystemPort → List SystemPort → Type 0
PromotesNext aggs agg old new =
    (i : ℕ) × (system_port : SystemPort) × (next_standby_index aggs (views old) agg ≡ Some i) × (slice_get old i ≡ Some system_port)
    × (new ≡ slice_set old i (with_choice system_port (Some (Selected agg))))

-- n STANDBY ports of the aggregator become SELECTED, one after another
abbrev pub PromotesTimes : AggregatorsValue → AggId → ℕ → List SystemPort → List SystemPort → Type 0
PromotesTimes aggs agg zero old new = new ≡ old
PromotesTimes aggs agg (suc n) old new = (mid : List SystemPort) × PromotesTimes aggs agg n old mid × PromotesNext aggs agg mid new

-- STANDBY ports of the aggregator become SELECTED until none comes next: it has no room, or no STANDBY port
abbrev pub PromotesAll : AggregatorsValue → AggId → List SystemPort → List SystemPort → Type 0
PromotesAll aggs agg old new = (n : ℕ) × PromotesTimes aggs agg n old new × (next_standby_index aggs (views new) agg ≡ None)

-- promise: first, aggregators ascending, the STANDBY port that comes next becomes SELECTED, until none comes next
-- contract: `step` (`PromotesFirst`, `PromotesAll`, `PromotesNext`)
-- so in the first n aggregators, ascending
abbrev pub PromotesFirst : AggregatorsValue → ℕ → List SystemPort → List SystemPort → Type 0
PromotesFirst aggs zero old new = new ≡ old
PromotesFirst aggs (suc n) old new =
    (mid : List SystemPort) × PromotesFirst aggs n old mid × PromotesAll aggs (aggregator_numbered (suc n)) mid new

-- the aggregator that a port chooses, if it may choose one
abbrev pub aggregator_for : List Key → List SystemPort → SystemPort → Option AggId
aggregator_for keys system_ports system_port = if may_choose system_port then chosen_aggregator keys (views system_ports)
    system_port.number else None

-- SELECTED with the aggregator if that has room, else STANDBY
abbrev pub choice_if : Bool → AggId → Choice
choice_if true agg = Selected agg
choice_if false agg = Standby agg

-- what a port becomes that takes the aggregator
abbrev pub choice_in : AggregatorsValue → List PortView → AggId → Choice
choice_in aggs seen agg = choice_if (has_room aggs seen agg) agg

-- what a port becomes that chooses an aggregator, if it may choose one
abbrev pub choice_for : AggregatorsValue → List SystemPort → SystemPort → Option Choice
choice_for aggs system_ports system_port = option_map (choice_in aggs (views system_ports)) (aggregator_for aggs.keys system_ports system_port)

-- the ports after the one at this index has chosen an aggregator, if it may choose one
abbrev pub after_choice_at : AggregatorsValue → List SystemPort → ℕ → Option SystemPort → List SystemPort
after_choice_at aggs system_ports index None = system_ports
after_choice_at aggs system_ports index (Some system_port) = slice_set system_ports index (with_choice system_port (choice_for aggs system_ports system_port))

-- the first n ports have chosen their aggregators, one after another; each sees the choices made before it
abbrev pub after_choices : AggregatorsValue → ℕ → List SystemPort → List SystemPort
after_choices aggs zero system_ports = system_ports
after_choices aggs (suc n) system_ports = after_choice_at aggs (after_choices aggs n system_ports) n (slice_get (after_choices aggs n system_ports) n)

-- promise: then eligible ports that are not held choose; each sees the promotions and the choices before it. It becomes SELECTED exactly if the aggregator
--    has room, else STANDBY; a port becomes STANDBY in no other way
-- contract: `step` (`ChoosesIn`, `choice_for`, `choice_in`)
-- STANDBY ports become SELECTED where there is room; then each port that may choose, ascending, chooses its aggregator
abbrev pub ChoosesIn : AggregatorsValue → List SystemPort → List SystemPort → Type 0
ChoosesIn aggs old new =
    (mid : List SystemPort) × PromotesFirst aggs (length aggs.keys) old mid × (new ≡ after_choices aggs (length mid) mid)

-- 2. so the ports change, and nothing else changes
abbrev pub Chooses : SystemState → SystemState → Type 0
Chooses old new = ChoosesIn (aggregators_value old) old.system_ports new.system_ports × (new ≡ with_system_ports old new.system_ports)

-- Ready of the aggregator of which the port is a member; false if it is of none
abbrev pub ready_of : List Key → List PortView → Choice → Bool
ready_of keys seen Unselected = false
ready_of keys seen (Selected agg) = is_ready keys seen agg
ready_of keys seen (Standby agg) = false

-- 3. Ready is worked out for each aggregator in this state; step 4 uses these values; nothing changes in
-- this step
abbrev pub WorksOutReady : SystemState → SystemState → Type 0
WorksOutReady old new = new ≡ old

-- 4. every mux machine runs with Ready as step 3 worked it out
abbrev pub RunsMux : SystemState → SystemState → Type 0
RunsMux old new = OnlyPortsChangeBy (λ p q. RunsToRest (mux_rows (ready_of old.keys (views old.system_ports) p.choice)) p q) old new

-- the port is UNSELECTED, or it is a member that waits and wait_while has expired
abbrev pub is_restless : SystemPort → Bool
is_restless s = is_unselected s.port.choice || (is_selected s.port.choice && has_waited (selection_view s).stage)

-- steps 2 to 4 of the ports alone
abbrev pub ChoosesAndRunsMux : AggregatorsValue → List SystemPort → List SystemPort → Type 0
ChoosesAndRunsMux aggs old new = (mid : List SystemPort) × ChoosesIn aggs old mid
    × PortsChangeBy (λ p q. RunsToRest (mux_rows (ready_of aggs.keys (views mid) p.choice)) p q) mid new

-- 5. every periodic machine runs
abbrev pub RunsAllPeriodic : SystemState → SystemState → Type 0
RunsAllPeriodic old new = OnlyPortsChangeBy RunsPeriodic old new

-- a conversation that is On a port that is not in the list becomes Wanted on it
abbrev pub held_unless_on : List ℕ → Assignment → Assignment
held_unless_on ports (On p) = if is_among ports p then On p else Wanted p None
held_unless_on ports s = s

-- promise: last, each conversation On a port that does not distribute in its aggregator becomes Wanted there; no other changes then
-- contract: `step` (`HoldsConversations`)
-- 6. each conversation On a port that does not distribute in its aggregator becomes Wanted on that port, and nothing
-- else changes
pub record HoldsConversations (old new : SystemState) : Type 0 where
  pub frame : new ≡ with_table old new.table
  pub aggs : new.table.aggs ≡ old.table.aggs
  pub conversations : new.table.conversations ≡ old.table.conversations
  pub first : new.table.first ≡ old.table.first
  pub next : new.table.next ≡ old.table.next
  pub states : (g k : ℕ) → assignment_of new.table g k ≡ held_unless_on (distributing (aggregator_numbered g) old.system_ports)
      (assignment_of old.table g k)

-- these steps follow one another, from the first state to the last
abbrev pub Follows : List (SystemState → SystemState → Type 0) → SystemState → SystemState → Type 0
Follows [] old new = new ≡ old
Follows (step ∷ steps) old new = (mid : SystemState) × step old mid × Follows steps mid new

-- steps 1 to 5, which read and change ports only
abbrev pub SettlesPorts : SystemState → SystemState → Type 0
SettlesPorts old new = Follows (RunsMuxNotReady ∷ Chooses ∷ WorksOutReady ∷ RunsMux ∷ RunsAllPeriodic ∷ []) old new

-- promise: a settling is seven states; its six steps lead from each to the next
-- contract: `step` (`six_steps`)
-- the steps of a settling, in their order
abbrev pub six_steps : List (SystemState → SystemState → Type 0)
six_steps = RunsMuxNotReady ∷ Chooses ∷ WorksOutReady ∷ RunsMux ∷ RunsAllPeriodic ∷ HoldsConversations ∷ []

-- one settling: seven states, each of which follows from the one before it by one of the six steps
abbrev pub Settling : SystemState → SystemState → Type 0
Settling old new = Follows six_steps old new
