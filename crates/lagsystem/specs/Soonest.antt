-- What happens in a system by itself, without a call but ticks, and in how many (profile).
use Rattle.std.specs.Prelude.{◌≡◌, ◌⊎◌, ◌≤◌, ◌<◌, ℕ, ◌-◌, true, Option, Some, None, slice_get}
use Rattle.portmachines.specs.Machines.{Machines}
use Rattle.distributor.specs.declared.assignment.Assignment.TheVariants.{Flushing}
use Rattle.distributor.specs.Conversations.{IsConversation, Table, assignment_of}
use Rattle.lagsystem.specs.declared.system_ports.SystemPort.{SystemPort}
use Rattle.lagsystem.specs.Hosts.{would_transmit}
use Rattle.lagsystem.specs.State.{SystemState}
use Rattle.lagsystem.specs.Waiting.{ticks_until_due}

-- a timer of the port has so many ticks left, and has not expired (6.4.10)
abbrev pub TimerHas : ℕ → Machines → Type 0
TimerHas n p = (0 < n) × ((p.current_while ≡ n) ⊎ ((p.periodic_timer ≡ n) ⊎ (p.wait_while ≡ n)))

-- the link is up, an LACPDU is to be sent, and one of those sent leaves the transmit window in so many ticks (6.4.16)
abbrev pub WindowHas : ℕ → Machines → Type 0
WindowHas n p = (p.enabled ≡ true) × (p.ntt ≡ true) × (i a : ℕ) × (slice_get p.ages i ≡ Some a) × (n ≡ 11 - a)

-- a frame of the port is due, and no tick is left
abbrev pub FrameHas : ℕ → SystemState → SystemPort → Type 0
FrameHas n s x = (would_transmit s x ≡ true) × (n ≡ 0)

-- a conversation that is Flushing is Wanted again in so many ticks
abbrev pub ConversationHas : ℕ → Table → Type 0
ConversationHas n t =
    (g k port id age : ℕ) × (preferred : Option ℕ) × IsConversation t g k × (assignment_of t g k ≡ Flushing port id preferred age)
    × (n ≡ 30 - age)

-- one of these is of some port, or of a conversation
abbrev pub HappensIn : ℕ → SystemState → Type 0
HappensIn n s =
    ((i : ℕ) × (x : SystemPort) × (slice_get s.system_ports i ≡ Some x) × (FrameHas n s x ⊎ (TimerHas n x.port ⊎ WindowHas n x.port)))
    ⊎ ConversationHas n s.table

-- these are the ticks of what happens first; None where nothing happens
abbrev pub IsFirstToHappen : SystemState → Option ℕ → Type 0
IsFirstToHappen s None = (m : ℕ) → HappensIn m s → ⊥
IsFirstToHappen s (Some n) = HappensIn n s × ((m : ℕ) → HappensIn m s → n ≤ m)

-- so it is with what is told of each state
abbrev pub TellsTheFirst : Type 0
TellsTheFirst = (s : SystemState) → IsFirstToHappen s (ticks_until_due s)
