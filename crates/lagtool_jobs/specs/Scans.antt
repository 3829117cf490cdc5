-- The state of a check, and what it will still write.
use Rattle.std.specs.Prelude.{◌≡◌, ◌++◌, ℕ, List, take}
use Rattle.lagstreams.specs.Lines.{continue_line, lines_of, newline_count}
use Rattle.lagtool_jobs.specs.CheckReport.{summary_from, check_report_from, verdicts_from}
use Rattle.lagtool_jobs.specs.declared.summary.Summary.{Summary}

-- how many lines were read, how many of them are faults, the octets of the line being read, and the part of the report
-- that is not written yet
pub record ScanState : Type 0 where
  pub lines : ℕ
  pub faults : ℕ
  pub line : List ℕ
  pub to_write : List ℕ

-- what is still to be written, if just these octets follow
abbrev pub unwritten : ScanState → List ℕ → List ℕ
unwritten s rest = s.to_write ++ check_report_from s.lines s.faults (continue_line s.line (lines_of rest))

-- the part of the report that is not written yet, after the lines that these octets end are added
abbrev pub to_write_after : ScanState → List ℕ → List ℕ
to_write_after s rest = s.to_write ++ verdicts_from s.lines (take (newline_count rest) (continue_line s.line (lines_of rest)))

-- the counts at the end, if just these octets follow
abbrev pub summary_after : ScanState → List ℕ → Summary
summary_after s rest = summary_from s.lines s.faults (continue_line s.line (lines_of rest))

-- These octets were read: whatever follows them, the report and the counts are the same as before.
pub record ReadsOctets (old new : ScanState) (octets : List ℕ) : Type 0 where
  pub report : (rest : List ℕ) → unwritten old (octets ++ rest) ≡ unwritten new rest
  pub to_write : (rest : List ℕ) → to_write_after old (octets ++ rest) ≡ to_write_after new rest
  pub counts : (rest : List ℕ) → summary_after old (octets ++ rest) ≡ summary_after new rest
