-- The transmit limit of each port over lists of calls (6.4.16). Ticks are counted from the last start of the system.
use Rattle.std.specs.Prelude.{◌≡◌, ℕ, ◌+◌, ◌≤◌, ◌==◌, ◌&&◌, Bool, false, slice_index, List, [], ◌∷◌, ◌++◌, length, if◌then◌else◌, Option}
use Rattle.std.specs.Prelude.{Some, None, Ok}
use Rattle.std.specs.List.{AllByRecursion}
use Rattle.portmachines.specs.Machines.{Machines}
use Rattle.portmachines.specs.Window.{KeepsWindow, sent_before}
use Rattle.lagsystem.specs.State.{SystemState, machines_of}
use Rattle.lagsystem.specs.First.{IsFirst}
use Rattle.lagsystem.specs.declared.drive.Reply.{Reply}
use Rattle.lagsystem.specs.declared.drive.Reply.TheVariants as reply
use Rattle.lagsystem.specs.Calls.{Call, Tick, Restart, Transmit, TableRun}

-- the subtype of the payload of a control frame: 1 in an LACPDU, 2 in a Marker PDU
abbrev pub subtype : List ℕ → ℕ
subtype frame = slice_index frame 14

-- the reply to this call is an LACPDU of the port with the number n
abbrev pub reply_has_lacpdu : ℕ → Call → Reply → Bool
reply_has_lacpdu n (Transmit port) (reply.Transmit (Ok (Some frame))) = (port == n) && (subtype frame == 1)
reply_has_lacpdu n call answer = false

-- the number of the current tick after the call, if it is this one before
abbrev pub tick_after : Call → ℕ → ℕ
tick_after Tick now = now + 1
tick_after Restart now = 0
tick_after call now = now

-- the ticks at which the port sent, after a call at this tick; a restart forgets them
abbrev pub sends_after : ℕ → ℕ → Call → Reply → List ℕ → List ℕ
sends_after n now Restart reply before = []
sends_after n now call reply before = if reply_has_lacpdu n call reply then before ++ now ∷ [] else before

-- Before each of these calls with these replies, and after the last one, any eleven consecutive ticks since the last
-- start hold at most three LACPDUs of the port with the number n. The arguments: n, the tick of the first call, and the
-- ticks before it at which the port sent.
abbrev pub StaysWindowed : ℕ → ℕ → List ℕ → List Call → List Reply → Type 0
StaysWindowed n now before [] replies = KeepsWindow before
StaysWindowed n now before (call ∷ calls) [] = KeepsWindow before
StaysWindowed n now before (call ∷ calls) (reply ∷ replies) = KeepsWindow before
    × StaysWindowed n (tick_after call now) (sends_after n now call reply before) calls replies

-- the ticks at which the kept ages of a port were sent, if this is the current tick
abbrev pub remembered_sends : ℕ → Option Machines → List ℕ
remembered_sends now None = []
remembered_sends now (Some p) = sent_before now p.ages

-- the port keeps no age from before the start, which was this many ticks ago
abbrev pub AgesSince : ℕ → Option Machines → Type 0
AgesSince now None = Unit {0}
AgesSince now (Some p) = AllByRecursion (λ a. a ≤ now) p.ages

-- the port keeps at most three ages
abbrev pub AtMostThreeAges : Option Machines → Type 0
AtMostThreeAges None = Unit {0}
AtMostThreeAges (Some p) = length p.ages ≤ 3

-- every port keeps at most three ages
abbrev pub EachAtMostThreeAges : SystemState → Type 0
EachAtMostThreeAges s = (n : ℕ) → AtMostThreeAges (machines_of n s)

-- each port keeps its transmit limit over these calls with these replies, from this state on
abbrev pub KeepsTransmitLimit : SystemState → List Call → List Reply → Type 0
KeepsTransmitLimit old calls replies = (n now : ℕ) → AgesSince now (machines_of n old)
    → StaysWindowed n now (remembered_sends now (machines_of n old)) calls replies

-- every list of calls keeps the limit, whatever indices the algorithm returns
abbrev pub SystemWindowLaw : (ℕ → ℕ → ℕ → Type 0) → Type 0
SystemWindowLaw gives = (old new : SystemState) (calls : List Call) (replies : List Reply) → EachAtMostThreeAges old
    → TableRun gives old calls replies new
    → KeepsTransmitLimit old calls replies

-- a state that has just started keeps no age
abbrev pub StartsWithoutAges : Type 0
StartsWithoutAges = (n : ℕ) (s : SystemState) → IsFirst s → AgesSince 0 (machines_of n s) × (remembered_sends 0 (machines_of n s) ≡ [])

-- every list of calls from a start keeps the limit
abbrev pub WindowFromStart : (ℕ → ℕ → ℕ → Type 0) → Type 0
WindowFromStart gives =
    (n : ℕ) (old new : SystemState) (calls : List Call) (replies : List Reply)
    → IsFirst old → TableRun gives old calls replies new → StaysWindowed n 0 [] calls replies
