use Rattle.lagsystem.proofs.Common.{length, ◌≤◌}
use Rattle.lagsystem.proofs.NextLemmas.{NoRoomUpTo}
use Rattle.lagsystem.proofs.promoting.some_may_have_room.Given as goal

abbrev pub invariant-loop-place : goal.invariant-loop-place
invariant-loop-place l = record { none : NoRoomUpTo l.aggregators l.place l.system_ports; within : l.place ≤ length l.system_ports }
