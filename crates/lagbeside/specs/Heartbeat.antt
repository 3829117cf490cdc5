-- An active port whose link stays up is heard: after 309 ticks in which it sent no LACPDU, one is due (6.4.13, 6.4.16).
use Rattle.std.specs.Prelude.{◌≡◌, ◌≤◌, ◌==◌, ◌&&◌, ℕ, ◌+◌, Bool, true, false, not, List, [], ◌∷◌, Some, slice_get}
use Rattle.portmachines.specs.Transmit.{is_due}
use Rattle.lagsystem.specs.declared.drive.Reply.{Reply}
use Rattle.lagsystem.specs.declared.system_ports.SystemPort.{SystemPort}
use Rattle.lagsystem.specs.Calls.{Call, Tick, Restart, Set_link}
use Rattle.lagsystem.specs.Sound.{IsSound}
use Rattle.lagsystem.specs.State.{SystemState}
use Rattle.lagsystem.specs.Windows.{reply_has_lacpdu}
use Rattle.lagbeside.specs.Runs.{LeavesPort, Runs}
use Rattle.lagbeside.specs.Silence.{IsLoud}
use Rattle.lagbeside.specs.Timers.{PortsAreTimed}

-- the call takes the link of port n down, as a restart does with every link
abbrev pub takes_down : ℕ → Call → Bool
takes_down n Restart = true
takes_down n (Set_link m up) = (m == n) && not up
takes_down n call = false

-- how many of the calls are ticks
abbrev pub tick_count : List Call → ℕ
tick_count [] = 0
tick_count (Tick ∷ calls) = tick_count calls + 1
tick_count (call ∷ calls) = tick_count calls

-- so it is with each of these calls and its reply
abbrev pub EachCall : (Call → Reply → Type 0) → List Call → List Reply → Type 0
EachCall Is [] replies = Unit {0}
EachCall Is (call ∷ calls) [] = Unit {0}
EachCall Is (call ∷ calls) (reply ∷ replies) = Is call reply × EachCall Is calls replies

-- the call does not take the link of port n down, and its reply is no LACPDU of the port
abbrev pub LeavesUpAndSilent : ℕ → Call → Reply → Type 0
LeavesUpAndSilent n call reply = (takes_down n call ≡ false) × (reply_has_lacpdu n call reply ≡ false)

-- A port of a sound system whose timers are within their bounds is active, and its link is up. After any calls that leave its link up, with
-- 309 ticks or more among them, and without an LACPDU of the port, and what may stand between them, an LACPDU is due on it.
abbrev pub IsHeard : (ℕ → ℕ → ℕ → Type 0) → Type 0
IsHeard gives = (old new : SystemState) (calls : List Call) (replies : List Reply) (states : List SystemState) (i : ℕ) (x y : SystemPort)
    → IsSound old → PortsAreTimed old → slice_get old.system_ports i ≡ Some x → IsLoud x.port
    → Runs (LeavesPort x.number) gives old calls replies states new → EachCall (LeavesUpAndSilent x.number) calls replies
    → 309 ≤ tick_count calls → slice_get new.system_ports i ≡ Some y → is_due y.port ≡ true

-- So while no LACPDU is due on it, after such calls, at most 308 ticks are among them.
abbrev pub IsSilentShortly : (ℕ → ℕ → ℕ → Type 0) → Type 0
IsSilentShortly gives = (old new : SystemState) (calls : List Call) (replies : List Reply) (states : List SystemState) (i : ℕ) (x y : SystemPort)
    → IsSound old → PortsAreTimed old → slice_get old.system_ports i ≡ Some x → IsLoud x.port
    → Runs (LeavesPort x.number) gives old calls replies states new → EachCall (LeavesUpAndSilent x.number) calls replies
    → slice_get new.system_ports i ≡ Some y → is_due y.port ≡ false → tick_count calls ≤ 308
