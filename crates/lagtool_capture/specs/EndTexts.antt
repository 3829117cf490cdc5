-- What is said of the ends of links, and the counts.
use Rattle.std.specs.Prelude.{◌==◌, ◌++◌, ◌/◌, ◌%◌, ℕ, List, [], ◌∷◌, Option, Some, None, codes, decimal, flat_map, if◌then◌else◌}
use Rattle.findings.specs.declared.slow_frame.LinkEnd.{LinkEnd}
use Rattle.slowpdu.specs.declared.pdu.Info.{Info}
use Rattle.lagtool_capture.specs.declared.ends.LacpduSender.{LacpduSender}
use Rattle.lagtool_capture.specs.declared.ends.Phase.{Phase}
use Rattle.lagtool_capture.specs.declared.names.Identity.{Identity}
use Rattle.lagtool_capture.specs.Ends.{named_by}
use Rattle.lagtool_capture.specs.FindingTexts.{end_text}
use Rattle.lagtool_capture.specs.Gaps.{median}
use Rattle.lagtool_capture.specs.LineTexts.{seconds_text, since_text}
use Rattle.lagtool_capture.specs.Names.{identity_of, name_text, number_of}

-- the shortest and the longest time between two LACPDUs, if they are known
abbrev pub gaps_part : Option ℕ → Option ℕ → List ℕ
gaps_part (Some shortest) (Some longest) = codes " gaps " ++ (seconds_text shortest ++ (codes " to " ++ seconds_text longest))
gaps_part (Some shortest) None = []
gaps_part None longest = []

-- tenths of a second as seconds
unfoldable pub tenths_text : ℕ → List ℕ
tenths_text tenths = decimal (tenths / 10) ++ 46 ∷ decimal (tenths % 10)

-- the median of these times, if there is one
abbrev pub median_part : Option ℕ → List ℕ
median_part (Some tenths) = codes " median " ++ tenths_text tenths
median_part None = []

-- a word, and the short name of the end with this information
unfoldable pub name_part : List ℕ → List Identity → Info → List ℕ
name_part word names info = 32 ∷ (word ++ 32 ∷ name_text (number_of names (identity_of info)) (identity_of info))

-- the end that names it, if there is one
abbrev pub named_by_part : Option LinkEnd → List ℕ
named_by_part (Some x) = codes " named by " ++ end_text x
named_by_part None = []

-- when a bit began and ended to be 1, if it ever was
abbrev pub phase_text : List ℕ → Option ℕ → Option ℕ → Option ℕ → List ℕ
phase_text word first None ended = []
phase_text word first (Some began) None = 32 ∷ (word ++ 32 ∷ since_text first (Some began))
phase_text word first (Some began) (Some ended) =
    32 ∷ (word ++ 32 ∷ (since_text first (Some began) ++ (codes " ended " ++ since_text first (Some ended))))

abbrev pub phase_part : List ℕ → Option ℕ → Phase → List ℕ
phase_part word first phase = phase_text word first phase.began phase.ended

-- who it is, who it names and who names it, among all ends, which have these short names
unfoldable pub who_text : List Identity → List LacpduSender → LacpduSender → List ℕ
who_text names all e =
    end_text e.sender ++ (name_part (codes "is") names e.last.actor
    ++ (name_part (codes "names") names e.last.partner ++ named_by_part (named_by all e)))

-- the line of an end among all ends, with times from the first of the capture
unfoldable pub end_line : Option ℕ → List Identity → List LacpduSender → LacpduSender → List ℕ
end_line first names all e =
    codes "end " ++ (who_text names all e
    ++ (codes " lacpdus " ++ (decimal e.count ++ (codes " first " ++ (since_text first e.first ++ (codes " last "
    ++ (since_text first e.latest ++ (gaps_part e.shortest e.longest ++ (median_part (median e.gaps)
    ++ (phase_part (codes "synchronized") first e.synchronized ++ (phase_part (codes "collecting") first e.collecting
    ++ (phase_part (codes "distributing") first e.distributing ++ codes "\n"))))))))))))

-- the lines of ends among all ends
abbrev pub ends_text : Option ℕ → List Identity → List LacpduSender → List LacpduSender → List ℕ
ends_text first names all ends = flat_map (end_line first names all) ends

-- how many LACPDUs are of no end that is told of, if there is one
abbrev pub beyond_part : ℕ → List ℕ
beyond_part beyond = if beyond == 0 then [] else codes " beyond " ++ decimal beyond

-- the counts: packets, frames of the slow protocols, ends, findings
abbrev pub counts_text : ℕ → ℕ → ℕ → ℕ → ℕ → List ℕ
counts_text packets slow ends findings beyond =
    codes "packets " ++ (decimal packets ++ (codes " slow " ++ (decimal slow ++ (codes " ends " ++ (decimal ends
    ++ (codes " findings " ++ (decimal findings ++ (beyond_part beyond ++ codes "\n"))))))))
