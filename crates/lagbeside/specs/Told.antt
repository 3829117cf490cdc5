-- How many ticks `ticks_until_due` of a system tells (profile).
use Rattle.std.specs.Prelude.{◌≡◌, ◌≤◌, ℕ, true, Some, slice_get}
use Rattle.lagsystem.specs.declared.system_ports.SystemPort.{SystemPort}
use Rattle.lagsystem.specs.Hosts.{would_transmit}
use Rattle.lagsystem.specs.State.{SystemState}
use Rattle.lagsystem.specs.Waiting.{ticks_until_due}
use Rattle.lagbeside.specs.Timers.{PortsAreTimed}
use Rattle.lagbeside.specs.Waits.{WaitsAreShort}

-- a frame is due on some port
abbrev pub SomeFrameIsDue : SystemState → Type 0
SomeFrameIsDue s = (i : ℕ) × (x : SystemPort) × (slice_get s.system_ports i ≡ Some x) × (would_transmit s x ≡ true)

-- In each state whose timers and waits are within their bounds, at most 900 ticks are told, and none exactly where a frame
-- is due.
pub record TellsAtMost900 : Type 0 where
  pub most : (s : SystemState) (n : ℕ) → PortsAreTimed s → WaitsAreShort s → ticks_until_due s ≡ Some n → n ≤ 900
  pub only_if_due : (s : SystemState) → PortsAreTimed s → WaitsAreShort s → ticks_until_due s ≡ Some 0 → SomeFrameIsDue s
  pub if_due : (s : SystemState) → SomeFrameIsDue s → ticks_until_due s ≡ Some 0
