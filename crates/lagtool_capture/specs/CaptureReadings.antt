-- A capture that is read in pieces.
use Rattle.std.specs.Prelude.{◌≡◌, ◌≤◌, ◌<◌, ◌-◌, ◌++◌, ◌⊎◌, ℕ, Bool, true, false, List, [], Option, Some, None, Result, Ok, Err, drop, length}
use Rattle.captures.specs.Steps.{ReaderState, end_of}
use Rattle.captures.specs.declared.fault.Fault.{Fault}
use Rattle.captures.specs.Whole.{at_start}
use Rattle.lagtool_capture.specs.Counting.{sum_of}
use Rattle.lagtool_capture.specs.Reporting.{ReportState, nothing_seen, with_ends}
use Rattle.findings.specs.Knows.{ends_of}
use Rattle.lagtool_capture.specs.Noticing.{Follows, Log, findings_in, nothing_logged}
use Rattle.lagtool_capture.specs.Taking.{StepsThrough}
use Rattle.lagtool_capture.specs.declared.noticing.Noticed.{Noticed}
use Rattle.lagtool_capture.specs.declared.fault.ReadFault.{ReadFault}
use Rattle.lagtool_capture.specs.declared.settings.Settings.{Settings}
use Rattle.lagtool_capture.specs.declared.taking.Taken.{Taken}
use Rattle.lagtool_capture.specs.declared.summary.CaptureSummary.{CaptureSummary}

-- The reader; what was seen; what is found; the octets that were read and are not taken yet; how many octets behind them are taken
-- already; their offset in the capture; and why the capture is not read on.
pub record ReadingState : Type 0 where
  pub reader : ReaderState
  pub report : ReportState
  pub noticed : Noticed
  pub rest : List ℕ
  pub skip : ℕ
  pub at : ℕ
  pub fault : Option ReadFault

-- before the beginning of a capture
pub record IsBefore (settings : Settings) (w : ReadingState) : Type 0 where
  pub reader : w.reader ≡ at_start
  pub report : w.report ≡ nothing_seen settings
  pub noticed : Follows nothing_logged w.noticed
  pub rest : w.rest ≡ []
  pub skip : w.skip ≡ 0
  pub at : w.at ≡ 0
  pub fault : w.fault ≡ None

-- no fault was found
abbrev pub is_free : Option ReadFault → Bool
is_free None = true
is_free (Some fault) = false

abbrev pub is_read_on : ReadingState → Bool
is_read_on w = is_free w.fault

-- a fault at an offset from the first octet that is not taken, as one of the capture, where that octet has this offset
abbrev pub refused_at : ℕ → Fault → ReadFault
refused_at at fault = record { at = sum_of at fault.at; cause = fault.cause }

abbrev pub refused_if_any : ℕ → Option Fault → Option ReadFault
refused_if_any at None = None
refused_if_any at (Some fault) = Some (refused_at at fault)

-- octets that follow were read, and explained as far as they are whole
pub record Takes (octets : List ℕ) (old new : ReadingState) : Type 0 where
  pub taken : Taken
  pub steps : StepsThrough (old.rest ++ octets) old.reader new.reader old.report new.report old.noticed new.noticed taken
  pub rest : new.rest ≡ drop taken.count (old.rest ++ octets)
  pub skip : new.skip ≡ taken.skip
  pub at : new.at ≡ sum_of old.at taken.count
  pub fault : new.fault ≡ refused_if_any new.at taken.fault

-- after the octets that are taken already are skipped, so many
abbrev pub skipped : ℕ → ReadingState → ReadingState
skipped n w = record w { skip = w.skip - n; at = sum_of w.at n }

-- A piece of the capture was read: all of it is taken already, or what follows that is explained.
abbrev pub Feeds : List ℕ → ReadingState → ReadingState → Type 0
Feeds piece old new =
    ((length piece < old.skip) × (new ≡ skipped (length piece) old))
    ⊎ ((old.skip ≤ length piece) × Takes (drop old.skip piece) (skipped old.skip old) new)

-- why a capture may not end there; an earlier fault stands
abbrev pub refused_end : Option ReadFault → ℕ → Result (Unit {0}) Fault → Option ReadFault
refused_end (Some fault) at r = Some fault
refused_end None at (Ok x) = None
refused_end None at (Err fault) = Some (refused_at at fault)

-- after the end of a capture of which this is logged
abbrev pub ended : Log → ReadingState → ReadingState
ended l w = record w {
  report = with_ends (findings_in l (ends_of w.noticed.findings.kept.items)) w.report;
  fault = refused_end w.fault w.at (end_of w.reader.format (length w.rest));
}

-- what was read
abbrev pub summary_of : ReadingState → CaptureSummary
summary_of w = record { packets = w.report.number; slow = w.report.slow; findings = w.report.findings; fault = w.fault }
