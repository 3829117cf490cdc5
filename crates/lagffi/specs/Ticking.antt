-- Ticks in turn (profile).
use Rattle.std.specs.Prelude.{◌≡◌, ℕ, zero, suc}
use Rattle.lagsystem.specs.declared.drive.Reply.TheVariants as reply
use Rattle.lagsystem.specs.Calls.{Tick}
use Rattle.lagsystem.specs.Sound.{CallPromise}
use Rattle.lagsystem.specs.State.{SystemState}

-- the system ticks so many times, one after another, and each is a tick with all that a call promises
abbrev pub TicksInTurn : (ℕ → ℕ → ℕ → Type 0) → ℕ → SystemState → SystemState → Type 0
TicksInTurn gives zero old new = new ≡ old
TicksInTurn gives (suc n) old new = (mid : SystemState) × TicksInTurn gives n old mid × CallPromise gives mid Tick reply.Tick new
