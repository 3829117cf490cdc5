-- The most ticks that each timer of a port has (6.4.4).
use Rattle.std.specs.Prelude.{ℕ, ◌≤◌, ◌<◌, Bool, true, false, Result}
use Rattle.std.specs.List.{AllByRecursion}
use Rattle.portmachines.specs.declared.receive.ReceiveState.{ReceiveState}
use Rattle.portmachines.specs.declared.receive.ReceiveState.TheVariants.{Initialize, PortDisabled, Expired, Defaulted, Current}
use Rattle.portmachines.specs.declared.periodic.PeriodicState.{PeriodicState}
use Rattle.portmachines.specs.declared.periodic.PeriodicState.TheVariants.{NoPeriodic, Fast, Slow, PeriodicTx}
use Rattle.portmachines.specs.Machines.{Machines}
use Rattle.lagsystem.specs.declared.drive.HostCall.{HostCall}
use Rattle.lagsystem.specs.declared.drive.HostReply.{HostReply}
use Rattle.lagsystem.specs.declared.drive.Reply.{Reply}
use Rattle.lagsystem.specs.declared.fault.SystemFault.{SystemFault}
use Rattle.lagsystem.specs.declared.system_ports.SystemPort.{SystemPort}
use Rattle.lagsystem.specs.Calls.{Call, Step}
use Rattle.lagsystem.specs.First.{IsFirst}
use Rattle.lagsystem.specs.HostCalls.{HostPromise}
use Rattle.lagsystem.specs.Settings.{Setting, SettingStep}
use Rattle.lagsystem.specs.State.{SystemState}

-- current_while: Short_Timeout_Time in EXPIRED; else Long_Timeout_Time, since `set_mode` may shorten the time-out of a timer that runs
abbrev pub most_current_while : ReceiveState → ℕ
most_current_while Expired = 30
most_current_while Initialize = 900
most_current_while PortDisabled = 900
most_current_while Defaulted = 900
most_current_while Current = 900

-- Short_Timeout_Time or Long_Timeout_Time: the ticks with which current_while starts in CURRENT
abbrev pub timeout_time : Bool → ℕ
timeout_time true = 30
timeout_time false = 900

-- periodic_timer: Fast_Periodic_Time in FAST, else Slow_Periodic_Time
abbrev pub most_periodic_timer : PeriodicState → ℕ
most_periodic_timer Fast = 10
most_periodic_timer Slow = 300
most_periodic_timer NoPeriodic = 300
most_periodic_timer PeriodicTx = 300

-- No timer of the port has more ticks than it can start with, wait_while at most Aggregate_Wait_Time; and no age of its
-- transmit window is above 10.
abbrev pub IsTimed : Machines → Type 0
IsTimed p = (p.current_while ≤ most_current_while p.receive) × (p.periodic_timer ≤ most_periodic_timer p.periodic)
    × (p.wait_while ≤ 20) × AllByRecursion (λ a. a < 11) p.ages

-- so it is with every port
abbrev pub PortsAreTimed : SystemState → Type 0
PortsAreTimed s = AllByRecursion (λ (x : SystemPort). IsTimed x.port) s.system_ports

-- current_while has no more ticks than the time-out of the port, Short_Timeout_Time or Long_Timeout_Time
abbrev pub KeepsTimeout : Machines → Type 0
KeepsTimeout p = p.current_while ≤ timeout_time p.short

-- so it is with every port
abbrev pub PortsKeepTimeout : SystemState → Type 0
PortsKeepTimeout s = AllByRecursion (λ (x : SystemPort). KeepsTimeout x.port) s.system_ports

-- so it is in each first state
abbrev pub FirstIsTimed : Type 0
FirstIsTimed = (s : SystemState) → IsFirst s → PortsAreTimed s × PortsKeepTimeout s

-- and each call keeps it
abbrev pub EachCallKeepsTimed : (ℕ → ℕ → ℕ → Type 0) → Type 0
EachCallKeepsTimed gives = (old new : SystemState) (call : Call) (reply : Reply) → Step gives old call reply new
    → (PortsAreTimed old → PortsAreTimed new) × (PortsKeepTimeout old → PortsKeepTimeout new)

-- and so does each call of a host with a data plane
abbrev pub EachHostCallKeepsTimed : (ℕ → ℕ → ℕ → Type 0) → Type 0
EachHostCallKeepsTimed gives = (old new : SystemState) (call : HostCall) (reply : HostReply) → HostPromise gives old call reply new
    → (PortsAreTimed old → PortsAreTimed new) × (PortsKeepTimeout old → PortsKeepTimeout new)

-- Each setting keeps the bounds, too. `set_mode` to Short Timeout may leave more ticks than the time-out, until an LACPDU starts the timer
-- anew, or it expires.
abbrev pub EachSettingKeepsTimed : Type 0
EachSettingKeepsTimed = (old new : SystemState) (setting : Setting) (answer : Result Unit SystemFault) → SettingStep old setting answer new
    → PortsAreTimed old → PortsAreTimed new
