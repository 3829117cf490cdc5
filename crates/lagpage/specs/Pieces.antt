-- A capture that is explained in pieces: what was done with it, and what is told of that.
use Rattle.std.specs.Prelude.{◌≡◌, ℕ, ◌++◌, Bool, true, false, List, [], Option, Some, None, Result, IfErr, IfOk, IsTrue, is_some, length}
use Rattle.std.specs.Prelude.{nat_lt, if◌then◌else◌}
use Rattle.std.specs.declared.alloc.AllocError.{AllocError}
use Rattle.lagtool_capture.specs.CaptureReadings.{ReadingState, summary_of}
use Rattle.lagtool_capture.specs.Reports.{lines, report, summary}
use Rattle.lagtool_capture.specs.Standing.{Stands}
use Rattle.lagtool_capture.specs.declared.settings.Settings.{Settings}
use Rattle.lagtool_capture.specs.declared.summary.CaptureSummary.{CaptureSummary}
use Rattle.lagpage.specs.Answers.{Tells, answer_of, buffer_after}
use Rattle.lagpage.specs.Captures.{said_of_capture, status_of_summary}
use Rattle.lagpage.specs.declared.answer.Answer.{Answer}
use Rattle.lagpage.specs.declared.pieces.Pieces.{Pieces}
use Rattle.lagpage.specs.declared.told.Told.{Told}

-- the options, the octets that were fed, whether the capture is ended, and the text that was handed out
pub record History : Type 0 where
  pub settings : Settings
  pub fed : List ℕ
  pub ended : Bool
  pub out : List ℕ

-- a capture is opened
abbrev pub opened : Settings → History
opened settings = record { settings = settings; fed = []; ended = false; out = [] }

-- octets are fed; behind the end none are
abbrev pub fed_with : List ℕ → History → History
fed_with piece h = record h { fed = if h.ended then h.fed else h.fed ++ piece }

-- it is ended
abbrev pub ended_at : History → History
ended_at h = record h { ended = true }

-- a text is handed out, where there is room for so much
abbrev pub handed : ℕ → ℕ → List ℕ → History → History
handed room count text h = record h { out = if nat_lt room count then h.out else h.out ++ text }

-- all that is printed so far: the lines of what was fed, and once the capture is ended its report
abbrev pub printed_of : Bool → Settings → List ℕ → List ℕ
printed_of false settings fed = lines settings fed
printed_of true settings fed = report settings fed

-- the status and what is said, which are the end's
abbrev pub status_at : Bool → CaptureSummary → ℕ
status_at false s = 0
status_at true s = status_of_summary s

abbrev pub said_at : Bool → CaptureSummary → List ℕ
said_at false s = []
said_at true s = said_of_capture s.fault

-- what is printed and not handed out yet is the text of the reading, whatever is fed next
abbrev pub Explains : Bool → Settings → List ℕ → List ℕ → ReadingState → Type 0
Explains false settings fed out w = Stands settings fed out w
Explains true settings fed out w = (report settings fed ≡ out ++ w.report.to_write) × (summary_of w ≡ summary settings fed)

-- a capture in pieces is as this history makes it
pub record IsBy (h : History) (p : Pieces) : Type 0 where
  pub ended : p.is_ended ≡ h.ended
  pub explains : Explains h.ended h.settings h.fed h.out p.reading

abbrev pub IsHeldBy : History → Option Pieces → Type 0
IsHeldBy h None = ⊥
IsHeldBy h (Some p) = IsBy h p

-- what a change of the history makes of a capture in pieces
abbrev pub Turns : (History → History) → Pieces → Pieces → Type 0
Turns change old new = (h : History) → IsBy h old → IsBy (change h) new

-- with this history, the rest of what is printed is told; where the buffer has room for it, it is handed out
pub record Continues (h : History) (room : ℕ) (after : Option Pieces) (t : Told) : Type 0 where
  pub rest : List ℕ
  pub all : printed_of h.ended h.settings h.fed ≡ h.out ++ rest
  pub tells : Tells (status_at h.ended (summary h.settings h.fed)) rest (said_at h.ended (summary h.settings h.fed)) t
  pub held : IsHeldBy (handed room (length t.octets.items) rest h) after

-- What a call does to a capture that the handle holds, whatever was done before. Where memory is refused, or the handle holds none,
-- nothing is told, and it holds none from then on.
pub record Advances (change : History → History) (before after : Option Pieces) (old new : List ℕ) (a : Answer) : Type 0 where
  pub told : Result Told AllocError
  pub answer : a ≡ answer_of (length old) told
  pub buffer : new ≡ buffer_after old told
  pub holds : IfOk told (λ t. IsTrue (is_some before))
  pub refused : IfErr told (λ e. after ≡ None)
  pub continues : (h : History) → IsHeldBy h before → IfOk told (λ t. Continues (change h) (length old) after t)
