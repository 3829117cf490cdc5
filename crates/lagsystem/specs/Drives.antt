-- A list of calls of a system, made one after another by `drive`.
use Rattle.std.specs.Prelude.{◌≡◌, ℕ, List, [], ◌∷◌}
use Rattle.lagsystem.specs.declared.drive.Call.{Call as Asked}
use Rattle.lagsystem.specs.declared.drive.Call.TheVariants as asked
use Rattle.lagsystem.specs.declared.drive.Reply.{Reply}
use Rattle.lagsystem.specs.Calls.{Call, Receive, Tick, Set_link, Configure, Restart, Transmit, Offer, Move_conversation, Force}
use Rattle.lagsystem.specs.Sound.{CallPromise}
use Rattle.lagsystem.specs.State.{SystemState}

-- an argument of `drive` as a call
abbrev pub call_of : Asked → Call
call_of (asked.Receive port octets) = Receive port octets.items
call_of asked.Tick = Tick
call_of (asked.SetLink port up) = Set_link port up
call_of (asked.Configure port change) = Configure port change
call_of asked.Restart = Restart
call_of (asked.Transmit port) = Transmit port
call_of (asked.Offer agg octets) = Offer agg octets.items
call_of (asked.MoveConversation agg conv port) = Move_conversation agg conv port
call_of (asked.Force agg conv) = Force agg conv

-- These calls may have these replies, and each call keeps what every call promises.
abbrev pub Drives : (ℕ → ℕ → ℕ → Type 0) → SystemState → List Call → List Reply → SystemState → Type 0
Drives gives old [] [] new = new ≡ old
Drives gives old (call ∷ calls) (answer ∷ answers) new =
    (mid : SystemState) × CallPromise gives old call answer mid × Drives gives mid calls answers new
Drives gives old [] (answer ∷ answers) new = ⊥
Drives gives old (call ∷ calls) [] new = ⊥
