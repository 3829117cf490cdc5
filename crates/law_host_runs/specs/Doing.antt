-- What a host does: calls and settings, in any order.
use Rattle.std.specs.Prelude.{◌≡◌, ℕ, List, [], ◌∷◌, Result}
use Rattle.portmachines.specs.Window.{KeepsWindow}
use Rattle.lagsystem.specs.declared.drive.HostCall.{HostCall}
use Rattle.lagsystem.specs.declared.drive.HostReply.{HostReply}
use Rattle.lagsystem.specs.declared.fault.SystemFault.{SystemFault}
use Rattle.lagsystem.specs.HostCalls.{HostPromise, sends_after_host, tick_after_host}
use Rattle.lagsystem.specs.Settings.{Setting, SettingPromise}
use Rattle.lagsystem.specs.Sound.{PortsAgree}
use Rattle.lagsystem.specs.State.{SystemState, machines_of}
use Rattle.lagsystem.specs.Windows.{AgesSince, EachAtMostThreeAges, remembered_sends}

-- a call with its reply, or a setting with its answer
pub data Doing : Type 0 where
  Calls : (call : HostCall) (reply : HostReply) → Doing
  Sets : (setting : Setting) (answer : Result Unit SystemFault) → Doing

-- it leads from the first state to the second, as its contract has it
abbrev pub Does : (ℕ → ℕ → ℕ → Type 0) → SystemState → Doing → SystemState → Type 0
Does gives old (Calls call reply) new = HostPromise gives old call reply new
Does gives old (Sets setting answer) new = SettingPromise old setting answer new

-- these, one after another, lead from the first state to the last
abbrev pub DoesAll : (ℕ → ℕ → ℕ → Type 0) → SystemState → List Doing → SystemState → Type 0
DoesAll gives old [] new = new ≡ old
DoesAll gives old (doing ∷ doings) new = (mid : SystemState) × Does gives old doing mid × DoesAll gives mid doings new

-- the number of the current tick after it, if it is this one before
abbrev pub tick_after_doing : Doing → ℕ → ℕ
tick_after_doing (Calls call reply) now = tick_after_host call now
tick_after_doing (Sets setting answer) now = now

-- the ticks at which the port with the number n sent an LACPDU, after it
abbrev pub sends_after_doing : ℕ → ℕ → Doing → List ℕ → List ℕ
sends_after_doing n now (Calls call reply) before = sends_after_host n now call reply before
sends_after_doing n now (Sets setting answer) before = before

-- Before each of these, and after the last one, any eleven consecutive ticks since the last start hold at most three LACPDUs of the port
-- with the number n. The arguments: n, the tick of the first, and the ticks before it at which the port sent.
abbrev pub StaysInWindow : ℕ → ℕ → List ℕ → List Doing → Type 0
StaysInWindow n now before [] = KeepsWindow before
StaysInWindow n now before (doing ∷ doings) = KeepsWindow before
    × StaysInWindow n (tick_after_doing doing now) (sends_after_doing n now doing before) doings

-- each port keeps its transmit limit over every list of calls and settings, whatever indices the algorithm returns (6.4.16)
abbrev pub WindowOfDoings : (ℕ → ℕ → ℕ → Type 0) → Type 0
WindowOfDoings gives = (old new : SystemState) (doings : List Doing) → EachAtMostThreeAges old → DoesAll gives old doings new
    → (n now : ℕ) → AgesSince now (machines_of n old) → StaysInWindow n now (remembered_sends now (machines_of n old)) doings

-- ports that agree do so after every list of calls and settings
abbrev pub AgreementOfDoings : (ℕ → ℕ → ℕ → Type 0) → Type 0
AgreementOfDoings gives = (old new : SystemState) (doings : List Doing) → PortsAgree old → DoesAll gives old doings new → PortsAgree new
