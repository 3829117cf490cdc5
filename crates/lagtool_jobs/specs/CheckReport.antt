-- The report of `check`, as a function of all octets that it reads (profile).
use Rattle.std.specs.Prelude.{ℕ, ◌+◌, ◌++◌, List, [], ◌∷◌, codes, decimal, if◌then◌else◌}
use Rattle.lagstreams.specs.Lines.{ended_lines, lines_of}
use Rattle.lagtool_jobs.specs.declared.summary.Summary.{Summary}
use Rattle.lagtool_jobs.specs.Verdicts.{is_fault, line_verdict, verdict_text}

-- 1 if the line is a fault, else 0
abbrev pub fault_count : List ℕ → ℕ
fault_count line = if is_fault (line_verdict line) then 1 else 0

-- the number of a line and its verdict
abbrev pub verdict_line : ℕ → List ℕ → List ℕ
verdict_line n line = decimal n ++ 32 ∷ (verdict_text (line_verdict line) ++ 10 ∷ [])

-- checked N faults N
abbrev pub summary_text : Summary → List ℕ
summary_text s = codes "checked " ++ (decimal s.checked ++ (codes " faults " ++ (decimal s.faults ++ 10 ∷ [])))

-- the counts after these lines, if these were the counts before them
abbrev pub summary_from : ℕ → ℕ → List (List ℕ) → Summary
summary_from n k [] = record { checked = n; faults = k }
summary_from n k (line ∷ lines) = summary_from (n + 1) (k + fault_count line) lines

-- a verdict for each line, and then the counts
abbrev pub check_report_from : ℕ → ℕ → List (List ℕ) → List ℕ
check_report_from n k [] = summary_text (record { checked = n; faults = k })
check_report_from n k (line ∷ lines) = verdict_line (n + 1) line ++ check_report_from (n + 1) (k + fault_count line) lines

-- the report of `check` on these octets
abbrev pub check_report : List ℕ → List ℕ
check_report octets = check_report_from 0 0 (lines_of octets)

-- a verdict for each line, if this many lines came before them
abbrev pub verdicts_from : ℕ → List (List ℕ) → List ℕ
verdicts_from n [] = []
verdicts_from n (line ∷ lines) = verdict_line (n + 1) line ++ verdicts_from (n + 1) lines

-- the report on the lines that a newline ends
abbrev pub ended_lines_text : List ℕ → List ℕ
ended_lines_text octets = verdicts_from 0 (ended_lines octets)

-- how many lines, and how many of them are faults
abbrev pub summary : List ℕ → Summary
summary octets = summary_from 0 0 (lines_of octets)
