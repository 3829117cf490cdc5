-- What is said of findings.
use Rattle.std.specs.Prelude.{◌++◌, ℕ, List, [], ◌∷◌, Option, Some, None, codes, decimal, flat_map}
use Rattle.findings.specs.declared.finding.Finding.{Finding}
use Rattle.findings.specs.declared.finding.Shown.{Shown}
use Rattle.findings.specs.declared.slow_frame.LinkEnd.{LinkEnd}
use Rattle.findings.specs.declared.rule.Rule.{Rule}
use Rattle.findings.specs.Rules.{rule_advice, rule_clause, rule_name, rule_number}
use Rattle.lagtypes.specs.Texts.{mac_text}
use Rattle.lagtool_capture.specs.LineTexts.{interface_part, since_text}

-- the port of an end, if its frames name one
abbrev pub port_part : Option ℕ → List ℕ
port_part None = []
port_part (Some port) = codes " port " ++ decimal port

-- the number of a rule
unfoldable pub number_text : Rule → List ℕ
number_text rule = decimal (rule_number rule)

-- what is found by a rule, the section that has it, and what to do
unfoldable pub rule_text : Rule → List ℕ
rule_text rule = rule_name rule ++ (codes " (" ++ (rule_clause rule ++ (codes "). " ++ rule_advice rule)))

-- an end: its source address, its interface if that isn't the first, and its port if its frames name one
unfoldable pub end_text : LinkEnd → List ℕ
end_text e = mac_text e.source ++ (interface_part e.interface ++ port_part e.port)

-- where and when it is shown first, with the time from the first of the capture
unfoldable pub shown_text : Option ℕ → Shown → List ℕ
shown_text first s = codes "packet " ++ (decimal s.number ++ (codes " at " ++ since_text first (Some s.nanoseconds)))

-- the line of a finding, with its time from the first of the capture: rule, end, packet, what is found, section, advice
unfoldable pub finding_line : Option ℕ → Finding → List ℕ
finding_line first x =
    codes "finding " ++ (number_text x.rule ++ (codes " end " ++ (end_text x.end ++ 32 ∷ (shown_text first x.shown
    ++ (codes ": " ++ (rule_text x.rule ++ codes "\n"))))))

-- the lines of findings
abbrev pub findings_text : Option ℕ → List Finding → List ℕ
findings_text first xs = flat_map (finding_line first) xs
