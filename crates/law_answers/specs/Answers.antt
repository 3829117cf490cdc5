-- Each call has an answer: no law over calls speaks of nothing.
use Rattle.std.specs.Prelude.{◌≡◌, ◌<◌, ◌≤◌, ◌^◌, ℕ, List, None, Result}
use Rattle.std.specs.List.{AllByRecursion}
use Rattle.lagsystem.specs.declared.config.Config.{Config}
use Rattle.lagsystem.specs.declared.drive.Reply.{Reply}
use Rattle.lagsystem.specs.declared.fault.SystemFault.{SystemFault}
use Rattle.lagsystem.specs.Calls.{Call}
use Rattle.lagsystem.specs.Drives.{Drives}
use Rattle.lagsystem.specs.First.{config_refusal}
use Rattle.lagsystem.specs.Settings.{Setting, SettingPromise}
use Rattle.lagsystem.specs.Sound.{CallPromise, IsMade, IsSound}
use Rattle.lagsystem.specs.State.{SystemState}
use Rattle.law_answers.specs.Fits.{CallFits, ConfigFits, NumbersFit, SettingFits}

-- each configuration that is accepted, whose numbers fit, has a system as `new` makes it
abbrev pub EachConfigurationBegins : Type 0
EachConfigurationBegins =
    (config : Config) → config_refusal config ≡ None → ConfigFits config → (s : SystemState) × IsMade config s × NumbersFit s

-- for each conversation and count of ports the algorithm returns an index below the count
abbrev pub PicksOne : (ℕ → ℕ → ℕ → Type 0) → Type 0
PicksOne gives = (conv count : ℕ) → conv < 2 ^ 16 → 0 < count → count ≤ 64 → (place : ℕ) × (place < count) × gives conv count place

-- a call has an answer, with all that every call promises; the system is sound after it, and its numbers fit
pub record HasAnswer (gives : ℕ → ℕ → ℕ → Type 0) (old : SystemState) (call : Call) : Type 0 where
  pub answer : Reply
  pub new : SystemState
  pub promise : CallPromise gives old call answer new
  pub sound : IsSound new
  pub fits : NumbersFit new

-- each call of a sound system whose numbers fit has an answer
abbrev pub EachCallHasAnAnswer : (ℕ → ℕ → ℕ → Type 0) → Type 0
EachCallHasAnAnswer gives =
    (old : SystemState) (call : Call) → PicksOne gives → IsSound old → NumbersFit old → CallFits call → HasAnswer gives old call

-- so has a setting
pub record HasSettingAnswer (old : SystemState) (setting : Setting) : Type 0 where
  pub answer : Result Unit SystemFault
  pub new : SystemState
  pub promise : SettingPromise old setting answer new
  pub sound : IsSound new
  pub fits : NumbersFit new

-- each setting of a sound system whose numbers fit has an answer
abbrev pub EachSettingHasAnAnswer : Type 0
EachSettingHasAnAnswer = (old : SystemState) (setting : Setting) → IsSound old → NumbersFit old → SettingFits setting → HasSettingAnswer old setting

-- so a list of calls has answers
pub record HaveAnswers (gives : ℕ → ℕ → ℕ → Type 0) (old : SystemState) (calls : List Call) : Type 0 where
  pub answers : List Reply
  pub new : SystemState
  pub run : Drives gives old calls answers new
  pub sound : IsSound new
  pub fits : NumbersFit new

-- each list of calls of such a system has answers
abbrev pub EachListHasAnswers : (ℕ → ℕ → ℕ → Type 0) → Type 0
EachListHasAnswers gives = (old : SystemState) (calls : List Call) → PicksOne gives → IsSound old → NumbersFit old
    → AllByRecursion CallFits calls → HaveAnswers gives old calls
