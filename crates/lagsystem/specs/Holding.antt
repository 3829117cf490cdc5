-- Which ports their conversations leave in a settling; that depends on the aggregators in which ports distributed
-- before it.
use Rattle.std.specs.Prelude.{◌≡◌, ℕ, ◌==◌, ◌||◌, ◌&&◌, Bool, false, not, List, [], ◌∷◌, map, if◌then◌else◌, Option, Some, None}
use Rattle.lagtypes.specs.declared.identifiers.AggId.{AggId}
use Rattle.distributor.specs.declared.assignment.Assignment.{Assignment}
use Rattle.distributor.specs.declared.assignment.Assignment.TheVariants.{On, Wanted}
use Rattle.distributor.specs.Conversations.{assignment_of}
use Rattle.lagsystem.specs.declared.system_ports.SystemPort.{SystemPort}
use Rattle.lagsystem.specs.Readers.{collecting, distributes_in}
use Rattle.lagsystem.specs.Sound.{IsSound}
use Rattle.lagsystem.specs.State.{SystemState, port_numbers}

-- for each port, in order: the aggregator in which it distributes, or None
abbrev pub aggregators_in_use : List SystemPort → List (Option AggId)
aggregators_in_use system_ports = map (λ s. collecting s.port) system_ports

-- the port distributed in an aggregator, and no longer does
abbrev pub has_stopped : Option AggId → SystemPort → Bool
has_stopped None s = false
has_stopped (Some agg) s = not (distributes_in agg s)

-- the port with this number is one of those that stopped
abbrev pub stopped : List (Option AggId) → List SystemPort → ℕ → Bool
stopped [] system_ports p = false
stopped (was ∷ before) [] p = false
stopped (was ∷ before) (s ∷ system_ports) p = ((s.number == p) && has_stopped was s) || stopped before system_ports p

-- a conversation that is On one of these ports becomes Wanted on it
abbrev pub after_holding : (ℕ → Bool) → Assignment → Assignment
after_holding leaves (On p) = if leaves p then Wanted p None else On p
after_holding leaves s = s

-- the list has the aggregators in which the ports of a sound state distributed; since then the ports kept their
-- numbers, and no conversation was put on a port
pub record WereInUse (were : List (Option AggId)) (s : SystemState) : Type 0 where
  pub old : SystemState
  pub sound : IsSound old
  pub before : were ≡ aggregators_in_use old.system_ports
  pub same : port_numbers s.system_ports ≡ port_numbers old.system_ports
  pub carried : (g k p : ℕ) → assignment_of s.table g k ≡ On p → assignment_of old.table g k ≡ On p
