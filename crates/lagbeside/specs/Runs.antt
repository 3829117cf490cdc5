-- Lists of calls of one system, with what stands between them: settings, and the calls of a host with a data plane.
use Rattle.std.specs.Prelude.{◌≡◌, ◌≢◌, ◌⊎◌, ℕ, zero, suc, Bool, true, List, [], ◌∷◌, Result}
use Rattle.lagsystem.specs.declared.drive.Reply.{Reply}
use Rattle.lagsystem.specs.declared.fault.SystemFault.{SystemFault}
use Rattle.lagsystem.specs.Calls.{Call, Step, Tick}
use Rattle.lagsystem.specs.Settings.{Hold_port, Set_in_use, Set_mode, Setting, SettingStep}
use Rattle.lagsystem.specs.Sound.{IsSound}
use Rattle.lagsystem.specs.State.{SystemState, with_table}

-- the setting neither holds port n, nor lets it go, nor changes its mode, nor puts an aggregator out of use
abbrev pub LeavesPort : ℕ → Setting → Type 0
LeavesPort n (Hold_port m held) = m ≢ n
LeavesPort n (Set_mode m active short) = m ≢ n
LeavesPort n (Set_in_use agg now) = now ≡ true
LeavesPort n setting = Unit {0}

-- the setting makes port n active only if it may be that; it may make it passive
abbrev pub ActiveOnlyIf : Bool → ℕ → Setting → Type 0
ActiveOnlyIf may n (Set_mode m active short) = m ≡ n → active ≡ true → may ≡ true
ActiveOnlyIf may n setting = Unit {0}

-- a setting of this kind is made, with any answer
abbrev pub IsSet : (Setting → Type 0) → SystemState → SystemState → Type 0
IsSet Sets old new = (setting : Setting) × (answer : Result Unit SystemFault) × Sets setting × SettingStep old setting answer new

-- Nothing happens, or the conversations alone change, and the system is sound: so it is with any number of calls of a host with a
-- data plane that are none of `Call` (`offer_conversation`, `leave_conversation`, `probe`, `rest`, `force_port`). Or a setting of this
-- kind is made, and the system is sound.
abbrev pub IsAside : (Setting → Type 0) → SystemState → SystemState → Type 0
IsAside Sets old new = IsSound new × ((new ≡ with_table old new.table) ⊎ IsSet Sets old new)

-- so it is n times more than once
abbrev pub AsideTimes : (Setting → Type 0) → ℕ → SystemState → SystemState → Type 0
AsideTimes Sets zero old new = IsAside Sets old new
AsideTimes Sets (suc n) old new = (mid : SystemState) × IsAside Sets old mid × AsideTimes Sets n mid new

-- what may stand between two calls
abbrev pub Asides : (Setting → Type 0) → SystemState → SystemState → Type 0
Asides Sets old new = (n : ℕ) × AsideTimes Sets n old new

-- Such calls, and what stands between them, lead from the one state to the other, by these states just before each call.
abbrev pub Runs : (Setting → Type 0) → (ℕ → ℕ → ℕ → Type 0) → SystemState → List Call → List Reply → List SystemState → SystemState → Type 0
Runs Sets gives old [] [] [] new = Asides Sets old new
Runs Sets gives old (call ∷ calls) (answer ∷ answers) (before ∷ states) new =
    (mid : SystemState) × Asides Sets old before × Step gives before call answer mid × Runs Sets gives mid calls answers states new
Runs Sets gives old calls answers states new = ⊥

-- The state just before each of these calls is so, and the last one, once a tick has gone: before them, if the flag says that, or
-- among them.
abbrev pub OnceTicked : (SystemState → Type 0) → Bool → List Call → List SystemState → SystemState → Type 0
OnceTicked Is ticked [] states new = ticked ≡ true → Is new
OnceTicked Is ticked (call ∷ calls) [] new = Unit {0}
OnceTicked Is ticked (Tick ∷ calls) (before ∷ states) new = (ticked ≡ true → Is before) × OnceTicked Is true calls states new
OnceTicked Is ticked (call ∷ calls) (before ∷ states) new = (ticked ≡ true → Is before) × OnceTicked Is ticked calls states new
