-- What a reading stands for: the octets that were read of a capture, and the text that was written of them.
use Rattle.std.specs.Prelude.{◌≡◌, ◌≤◌, ◌+◌, ◌++◌, ◌⊎◌, ℕ, List, [], Option, Some, None, drop, length, min}
use Rattle.captures.specs.Whole.{Captured, behind, capture_from, capture_in}
use Rattle.captures.specs.declared.fault.Fault.{Fault}
use Rattle.lagtool_capture.specs.CaptureReadings.{ReadingState, refused_at}
use Rattle.lagtool_capture.specs.Counting.{sum_of}
use Rattle.lagtool_capture.specs.Noticing.{Agrees, logged_all, nothing_logged}
use Rattle.lagtool_capture.specs.Reporting.{ReportState, after_all, nothing_seen}
use Rattle.lagtool_capture.specs.Taking.{Stops}
use Rattle.lagtool_capture.specs.declared.fault.ReadFault.{ReadFault}
use Rattle.lagtool_capture.specs.declared.settings.Settings.{Settings}

-- with this text in front of what is not written yet
abbrev pub preceded : List ℕ → ReportState → ReportState
preceded out s = record s { to_write = out ++ s.to_write }

-- the octets in which the next step is taken, if just these follow, and their place
abbrev pub next_octets : ReadingState → List ℕ → List ℕ
next_octets w more = drop w.skip (w.rest ++ more)

abbrev pub next_place : ℕ → ReadingState → List ℕ → ℕ
next_place at w more = at + min w.skip (length (w.rest ++ more))

-- why no step is taken in what is left
abbrev pub Waits : ReadingState → Option ReadFault → Type 0
Waits w None = Stops (next_octets w []) w.reader None
Waits w (Some fault) = (w.skip ≡ 0) × ((f : Fault) × ((fault ≡ refused_at w.at f) × Stops w.rest w.reader (Some f)))

abbrev pub IsClear : ReadingState → Type 0
IsClear w = (w.skip ≡ 0) ⊎ (w.rest ≡ [])

-- these octets were read and this text is written: whatever follows, the reading says the rest
pub record Stands (settings : Settings) (octets out : List ℕ) (w : ReadingState) : Type 0 where
  pub found : List (Option Captured)
  pub at : ℕ
  pub at_is : w.at ≡ sum_of 0 at
  pub seen : after_all found (nothing_seen settings) ≡ preceded out w.report
  pub noticed : Agrees (logged_all found nothing_logged) w.report.number w.noticed
  pub clear : IsClear w
  pub goes : (more : List ℕ) → (left : ℕ) × (length (next_octets w more) ≤ left)
      × (capture_in (octets ++ more) ≡ behind found (capture_from left (next_place at w more) w.reader (next_octets w more)))
  pub waits : Waits w w.fault
