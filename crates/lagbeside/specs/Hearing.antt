-- A port that hears nothing does not stay CURRENT (6.4.12).
use Rattle.std.specs.Prelude.{◌≡◌, ◌≢◌, ◌≤◌, ◌==◌, ℕ, ◌+◌, Bool, true, false, List, Some, Ok, slice_get}
use Rattle.portmachines.specs.declared.receive.ReceiveState.TheVariants.{Current, Defaulted}
use Rattle.lagsystem.specs.declared.drive.Reply.{Reply}
use Rattle.lagsystem.specs.declared.drive.Reply.TheVariants as reply
use Rattle.lagsystem.specs.declared.received.Received.TheVariants.{TookLacpdu}
use Rattle.lagsystem.specs.declared.system_ports.SystemPort.{SystemPort}
use Rattle.lagsystem.specs.Calls.{Call, Receive, Configure}
use Rattle.lagsystem.specs.Sound.{IsSound}
use Rattle.lagsystem.specs.State.{SystemState}
use Rattle.lagbeside.specs.Heartbeat.{EachCall, takes_down, tick_count}
use Rattle.lagbeside.specs.Runs.{LeavesPort, Runs}
use Rattle.lagbeside.specs.Timers.{KeepsTimeout, PortsAreTimed, timeout_time}

-- the call takes the link of port n down, or changes the port's parameters
abbrev pub starts_again : ℕ → Call → Bool
starts_again n (Configure m change) = m == n
starts_again n call = takes_down n call

-- port n processed an LACPDU in the call with this reply
abbrev pub processed_on : ℕ → Call → Reply → Bool
processed_on n (Receive m octets) (reply.Receive (Ok TookLacpdu)) = m == n
processed_on n call reply = false

-- the call neither starts port n again nor brings it an LACPDU that it processed
abbrev pub LeavesUnheard : ℕ → Call → Reply → Type 0
LeavesUnheard n call reply = (starts_again n call ≡ false) × (processed_on n call reply ≡ false)

-- The link of a port is up, in a sound system whose timers are within their bounds, and its timer within its time-out. After any calls that
-- leave it up and the port as it is configured, in which it processed no LACPDU, and what may stand between them, the port is not CURRENT if
-- the ticks among them are as many as current_while starts with; and it is DEFAULTED if they are 30 more.
abbrev pub IsNoticed : (ℕ → ℕ → ℕ → Type 0) → Type 0
IsNoticed gives = (old new : SystemState) (calls : List Call) (replies : List Reply) (states : List SystemState) (i : ℕ) (x y : SystemPort)
    → IsSound old → PortsAreTimed old → slice_get old.system_ports i ≡ Some x → KeepsTimeout x.port → x.port.enabled ≡ true
    → Runs (LeavesPort x.number) gives old calls replies states new → EachCall (LeavesUnheard x.number) calls replies → slice_get new.system_ports i ≡ Some y
    → (timeout_time x.port.short ≤ tick_count calls → y.port.receive ≢ Current)
    × (timeout_time x.port.short + 30 ≤ tick_count calls → y.port.receive ≡ Defaulted)
