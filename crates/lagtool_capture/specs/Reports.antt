-- What is written of a capture, as a function of all its octets, and what `report_capture` returns.
use Rattle.std.specs.Prelude.{◌≡◌, ◌⊎◌, ℕ, List, Option, option_map}
use Rattle.std.specs.Io.KnownBytes.{Consumes, IsAtEnd}
use Rattle.captures.specs.Whole.{Capture, IsSettled, capture_in}
use Rattle.findings.specs.Knows.{first_ends}
use Rattle.findings.specs.declared.finding.Finding.{Finding}
use Rattle.lagstreams.specs.Sinks.{SinkState, WritesWhole}
use Rattle.lagstreams.specs.Sources.{SourceState}
use Rattle.lagtool_capture.specs.Reporting.{ReportState, after_all, nothing_seen, with_ends}
use Rattle.lagtool_capture.specs.Noticing.{Log, findings_in, logged_all, nothing_logged}
use Rattle.lagtool_capture.specs.CaptureReadings.{refused_at}
use Rattle.lagtool_capture.specs.declared.settings.Settings.{Settings}
use Rattle.lagtool_capture.specs.declared.summary.CaptureSummary.{CaptureSummary}

-- what is found in a capture of which this is logged
abbrev pub found_in : Log → List Finding
found_in l = findings_in l (first_ends l.frames)

-- what is said of a capture: of each thing that has a number, then of the ends and what is found, and the counts
abbrev pub reported : Settings → Capture → ReportState
reported settings c = with_ends (found_in (logged_all c.numbered nothing_logged)) (after_all c.numbered (nothing_seen settings))

-- what is said of the packets of a capture of just these octets, before its end
abbrev pub lines : Settings → List ℕ → List ℕ
lines settings b = (after_all (capture_in b).numbered (nothing_seen settings)).to_write

-- the report on a capture of just these octets
abbrev pub report : Settings → List ℕ → List ℕ
report settings b = (reported settings (capture_in b)).to_write

-- the counts of what is said, and why the capture is not read on
abbrev pub counts_of : ReportState → Capture → CaptureSummary
counts_of e c = record { packets = e.number; slow = e.slow; findings = e.findings; fault = option_map (refused_at 0) c.fault }

abbrev pub summary : Settings → List ℕ → CaptureSummary
summary settings b = counts_of (reported settings (capture_in b)) (capture_in b)

module _ {R W : Type 0} (remaining : R → Option (List ℕ)) (contents : W → Option (List ℕ)) where
  -- All that there is to read was read, or so much that whatever follows changes nothing; and its whole report is written.
  pub record Completes (settings : Settings) (from to : SourceState R) (old new : SinkState W) (s : CaptureSummary) : Type 0 where
    pub octets : List ℕ
    pub read : Consumes (remaining from.reader) (remaining to.reader) octets
    pub unfailed : to.failed ≡ from.failed
    pub end : IsAtEnd (remaining to.reader) ⊎ IsSettled octets
    pub written : WritesWhole contents old new (report settings octets)
    pub summary_is : s ≡ summary settings octets
