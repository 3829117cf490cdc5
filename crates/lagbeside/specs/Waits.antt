-- How long a conversation waits for a response (profile).
use Rattle.std.specs.Prelude.{ℕ, ◌<◌}
use Rattle.distributor.specs.declared.assignment.Assignment.{Assignment}
use Rattle.distributor.specs.declared.assignment.Assignment.TheVariants.{Free, On, Wanted, Flushing}
use Rattle.distributor.specs.Conversations.{assignment_of}
use Rattle.lagsystem.specs.declared.drive.HostCall.{HostCall}
use Rattle.lagsystem.specs.declared.drive.HostReply.{HostReply}
use Rattle.lagsystem.specs.declared.drive.Reply.{Reply}
use Rattle.lagsystem.specs.Calls.{Call, Step}
use Rattle.lagsystem.specs.First.{IsFirst}
use Rattle.lagsystem.specs.HostCalls.{HostPromise}
use Rattle.lagsystem.specs.State.{SystemState}

-- if the conversation is Flushing, its age is below 30 ticks
abbrev pub IsAwaited : Assignment → Type 0
IsAwaited (Flushing port id preferred age) = age < 30
IsAwaited (Free preferred) = Unit {0}
IsAwaited (On port) = Unit {0}
IsAwaited (Wanted port preferred) = Unit {0}

-- so it is with every conversation
abbrev pub WaitsAreShort : SystemState → Type 0
WaitsAreShort s = (agg conv : ℕ) → IsAwaited (assignment_of s.table agg conv)

-- so it is in each first state
abbrev pub FirstWaitsAreShort : Type 0
FirstWaitsAreShort = (s : SystemState) → IsFirst s → WaitsAreShort s

-- and each call keeps it
abbrev pub EachCallKeepsWaits : (ℕ → ℕ → ℕ → Type 0) → Type 0
EachCallKeepsWaits gives = (old new : SystemState) (call : Call) (reply : Reply) → Step gives old call reply new → WaitsAreShort old
    → WaitsAreShort new

-- and so does each call of a host with a data plane
abbrev pub EachHostCallKeepsWaits : (ℕ → ℕ → ℕ → Type 0) → Type 0
EachHostCallKeepsWaits gives = (old new : SystemState) (call : HostCall) (reply : HostReply) → HostPromise gives old call reply new
    → WaitsAreShort old → WaitsAreShort new
