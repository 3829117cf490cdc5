-- Until the ticks of `ticks_until_due` have passed, a tick only counts (profile).
use Rattle.std.specs.Prelude.{◌≡◌, ◌<◌, ℕ, zero, suc, ◌+◌, ◌-◌, true, List, map, replicate, Option, Some, None}
use Rattle.portmachines.specs.Transmit.{count_down}
use Rattle.distributor.specs.declared.assignment.Assignment.{Assignment}
use Rattle.distributor.specs.declared.assignment.Assignment.TheVariants.{Free, On, Wanted, Flushing}
use Rattle.distributor.specs.Conversations.{IsConversation, assignment_of}
use Rattle.lagtypes.specs.declared.identifiers.AggId.{AggId}
use Rattle.lagsystem.specs.declared.drive.Reply.TheVariants as reply
use Rattle.lagsystem.specs.declared.system_ports.SystemPort.{SystemPort}
use Rattle.lagsystem.specs.Calls.{Tick, TableRun}
use Rattle.lagsystem.specs.Hosts.{would_transmit_at}
use Rattle.lagsystem.specs.Readers.{distributing}
use Rattle.lagsystem.specs.Sound.{IsSound}
use Rattle.lagsystem.specs.State.{SystemState, with_system_ports, with_table}
use Rattle.lagsystem.specs.Waiting.{ticks_until_due}

-- there are more than m ticks; None is never
abbrev pub IsBeyond : ℕ → Option ℕ → Type 0
IsBeyond m None = Unit {0}
IsBeyond m (Some ticks) = m < ticks

-- a frame is due on no port
abbrev pub NothingIsDue : SystemState → Type 0
NothingIsDue s = (n : ℕ) → would_transmit_at n s ≡ Some true → ⊥

-- the port after a tick that only counts its timers down and makes each age one tick older
abbrev pub counted : SystemPort → SystemPort
counted system_port = record system_port { port = count_down system_port.port }

-- the ports after m such ticks
abbrev pub counted_times : ℕ → List SystemPort → List SystemPort
counted_times zero system_ports = system_ports
counted_times (suc m) system_ports = counted_times m (map counted system_ports)

-- the conversation m ticks later: one that is Flushing has waited m ticks more for its response
abbrev pub waited : ℕ → Assignment → Assignment
waited m (Free preferred) = Free preferred
waited m (On port) = On port
waited m (Wanted port preferred) = Wanted port preferred
waited m (Flushing port id preferred age) = Flushing port id preferred (age + m)

-- m ticks fewer; None stays never
abbrev pub fewer : ℕ → Option ℕ → Option ℕ
fewer m None = None
fewer m (Some n) = Some (n - m)

-- m ticks only counted: no frame is due; of each port only timers and ages changed; the same ports distribute in each
-- aggregator; each conversation is as it was, but for the ticks since its marker; the ticks until something happens are m
-- fewer; and nothing else changed
pub record OnlyCounted (m : ℕ) (old new : SystemState) : Type 0 where
  pub due : NothingIsDue new
  pub frame : new ≡ with_table (with_system_ports old new.system_ports) new.table
  pub ports : new.system_ports ≡ counted_times m old.system_ports
  pub distributing : (agg : AggId) → distributing agg new.system_ports ≡ distributing agg old.system_ports
  pub table : new.table ≡ record old.table { states = new.table.states }
  pub conversations : (g k : ℕ) → IsConversation old.table g k → assignment_of new.table g k ≡ waited m (assignment_of old.table g k)
  pub left : ticks_until_due new ≡ fewer m (ticks_until_due old)

-- so it is of every system, if there are more ticks until something happens by itself, and no other call comes
abbrev pub QuietUntilDue : (ℕ → ℕ → ℕ → Type 0) → Type 0
QuietUntilDue gives =
    (m : ℕ) (old new : SystemState) → IsSound old → IsBeyond m (ticks_until_due old)
    → TableRun gives old (replicate m Tick) (replicate m reply.Tick) new → OnlyCounted m old new
