-- The rules by number, name, section of IEEE 802.1AX-2014 and advice. Each text stands once, in the table of the source.
use Rattle.std.specs.Prelude.{ℕ, ◌-◌, List, [], map, slice_index_or}
use Rattle.findings.specs.declared.rule.Rule.{Rule}
use Rattle.findings.specs.declared.rule.Rule.TheVariants as variants
use Rattle.findings.specs.declared.rule.TheConstants.{ROWS}
use Rattle.findings.specs.declared.rule.TheConstants.Rule.{ALL}

-- the number of a rule, from 1
abbrev pub rule_number : Rule → ℕ
rule_number variants.Rate = 1
rule_number variants.System = 2
rule_number variants.Port = 3
rule_number variants.Key = 4
rule_number variants.Passive = 5
rule_number variants.Version = 6
rule_number variants.Length = 7
rule_number variants.Reserved = 8
rule_number variants.Destination = 9
rule_number variants.Tag = 10
rule_number variants.Silence = 11
rule_number variants.Unheard = 12
rule_number variants.Desynchronized = 13
rule_number variants.Individual = 14
rule_number variants.Keys = 15
rule_number variants.Segment = 16
rule_number variants.Discarded = 17
rule_number variants.OneWay = 18
rule_number variants.Unanswered = 19
rule_number variants.Unasked = 20
rule_number variants.Late = 21
rule_number variants.Attached = 22
rule_number variants.Relapsing = 23
rule_number variants.Types = 24
rule_number variants.Source = 25
rule_number variants.Third = 26
rule_number variants.Hasty = 27
rule_number variants.Backward = 28
rule_number variants.Split = 29
rule_number variants.OwnSystem = 30

-- the text of a rule among those of all rows
abbrev text_among : List (List ℕ) → Rule → List ℕ
text_among texts rule = slice_index_or texts (rule_number rule - 1) []

-- what is found; the section that has the rule; what to do
abbrev pub rule_name : Rule → List ℕ
rule_name = text_among (map (λ row. row.name.now) ROWS)

abbrev pub rule_clause : Rule → List ℕ
rule_clause = text_among (map (λ row. row.clause.now) ROWS)

abbrev pub rule_advice : Rule → List ℕ
rule_advice = text_among (map (λ row. row.advice.now) ROWS)

-- all rules, in the order of their numbers
abbrev pub all_rules : List Rule
all_rules = ALL

-- the numbers of all rules, in their order
abbrev pub all_numbers : List ℕ
all_numbers = map rule_number all_rules
