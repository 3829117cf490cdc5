-- What is found in a capture, by its frames.
use Rattle.std.specs.Prelude.{◌≡◌, ℕ, List, [], ◌∷◌, Option, Some, None, flat_map, option_and_then, unwrap_or}
use Rattle.std.specs.List.{cons_option}
use Rattle.captures.specs.declared.packet.Packet.{Packet}
use Rattle.captures.specs.Whole.{Captured}
use Rattle.findings.specs.declared.finding.Finding.{Finding}
use Rattle.findings.specs.declared.slow_frame.LinkEnd.{LinkEnd}
use Rattle.findings.specs.declared.slow_frame.SlowFrame.{SlowFrame}
use Rattle.findings.specs.declared.observing.Findings.{Findings}
use Rattle.findings.specs.declared.rule.Rule.{Rule}
use Rattle.findings.specs.Firsts.{found}
use Rattle.findings.specs.Knows.{Knows}
use Rattle.findings.specs.Rules.{all_rules}
use Rattle.lagtool_capture.specs.Counting.{one_more}
use Rattle.lagtool_capture.specs.SlowFrames.{frame_in}
use Rattle.lagtool_capture.specs.declared.noticing.Noticed.{Noticed}

-- how many packets there were, the time of the last one that has one, and the frames of the slow protocols that have one, the
-- latest first
pub record Log : Type 0 where
  pub number : ℕ
  pub until : ℕ
  pub frames : List SlowFrame

-- before the first packet
abbrev pub nothing_logged : Log
nothing_logged = record { number = 0; until = 0; frames = [] }

-- a frame, if it has a time
abbrev pub if_timed : Option SlowFrame → Option ℕ → Option SlowFrame
if_timed None time = None
if_timed (Some frame) None = None
if_timed (Some frame) (Some time) = Some frame

-- after a packet with these captured octets
abbrev pub logged : Packet → List ℕ → Log → Log
logged packet b l = record {
  number = one_more l.number;
  until = unwrap_or packet.time l.until;
  frames = cons_option (if_timed (frame_in (one_more l.number) packet b) packet.time) l.frames;
}

-- after what has a number in a capture: a packet, or a record without one
abbrev pub logged_next : Option Captured → Log → Log
logged_next None l = record l { number = one_more l.number }
logged_next (Some c) l = logged c.packet c.octets l

-- after all of these
abbrev pub logged_all : List (Option Captured) → Log → Log
logged_all [] l = l
logged_all (x ∷ xs) l = logged_all xs (logged_next x l)

-- what is kept is by these frames
abbrev pub IsKnown : List SlowFrame → Findings → Type 0
IsKnown h x = Knows h x.kept.items x.order x.left_out

-- what is kept is by what is logged
pub record Follows (l : Log) (x : Noticed) : Type 0 where
  pub until : x.until ≡ l.until
  pub frames : IsKnown l.frames x.findings

-- and so many packets were counted
pub record Agrees (l : Log) (number : ℕ) (x : Noticed) : Type 0 where
  pub number_is : number ≡ l.number
  pub follows : Follows l x

-- what is found of an end by a rule; nothing where there is no end
abbrev pub finding_by : ℕ → List SlowFrame → Option LinkEnd → Rule → List Finding
finding_by until h end rule = cons_option (option_and_then (λ e. found rule until e h) end) []

-- what is found of an end by these rules
abbrev pub findings_by : ℕ → List SlowFrame → List Rule → Option LinkEnd → List Finding
findings_by until h rules end = flat_map (finding_by until h end) rules

-- what is found of these ends, end by end, and of each rule by rule
abbrev pub findings_in : Log → List LinkEnd → List Finding
findings_in l es = flat_map (λ e. findings_by l.until l.frames all_rules (Some e)) es
