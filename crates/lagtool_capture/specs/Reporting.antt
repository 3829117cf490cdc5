-- What was read of a capture so far, and what a packet more adds to it.
use Rattle.std.specs.Prelude.{◌+◌, ◌++◌, ◌||◌, ℕ, Bool, false, not, List, [], ◌∷◌, Option, Some, None, codes, decimal, length}
use Rattle.std.specs.Prelude.{nat_lt, if◌then◌else◌}
use Rattle.captures.specs.declared.packet.Packet.{Packet}
use Rattle.captures.specs.Whole.{Captured}
use Rattle.findings.specs.declared.finding.Finding.{Finding}
use Rattle.findings.specs.declared.slow_frame.LinkEnd.{LinkEnd}
use Rattle.findings.specs.declared.slow_frame.SlowFrame.{SlowFrame}
use Rattle.findings.specs.declared.slow_frame.What.{What}
use Rattle.findings.specs.declared.slow_frame.What.TheVariants as held
use Rattle.findings.specs.Ends.{end_of}
use Rattle.slowpdu.specs.declared.pdu.Lacpdu.{Lacpdu}
use Rattle.lagtool_capture.specs.declared.ends.LacpduSender.{LacpduSender}
use Rattle.lagtool_capture.specs.declared.line.WhatText.{WhatText}
use Rattle.lagtool_capture.specs.declared.line.WhatText.TheVariants as what
use Rattle.lagtool_capture.specs.declared.names.Identity.{Identity}
use Rattle.lagtool_capture.specs.declared.settings.Settings.{Settings}
use Rattle.lagtool_capture.specs.Counting.{one_more}
use Rattle.lagtool_capture.specs.EndTexts.{counts_text, ends_text}
use Rattle.lagtool_capture.specs.Ends.{end_index, ends_after, is_beyond, last_of}
use Rattle.lagtool_capture.specs.SlowFrames.{frame_in}
use Rattle.lagtool_capture.specs.FindingTexts.{findings_text}
use Rattle.lagtool_capture.specs.Json.{counts_record, ends_records, findings_records, frame_record}
use Rattle.lagtool_capture.specs.LacpduTexts.{shown_of}
use Rattle.lagtool_capture.specs.LineTexts.{line_text}
use Rattle.lagtool_capture.specs.Links.{link_counts, until_of}
use Rattle.lagtool_capture.specs.LinkForms.{links_lines, links_records}
use Rattle.lagtool_capture.specs.LinkTexts.{link_counts_text}
use Rattle.lagtool_capture.specs.Names.{identity_of, identity_text, names_text, number_of}

-- How many packets there were; the time of the first that has one; how many packets are frames of the slow protocols; how
-- many LACPDUs are of no end that is told of; the ends with short names; the ends that sent LACPDUs; how many findings
-- are told; and the part of the explanation that is not written yet.
pub record ReportState : Type 0 where
  pub settings : Settings
  pub number : ℕ
  pub first : Option ℕ
  pub slow : ℕ
  pub beyond : ℕ
  pub names : List Identity
  pub ends : List LacpduSender
  pub findings : ℕ
  pub to_write : List ℕ

-- before the first packet
abbrev pub nothing_seen : Settings → ReportState
nothing_seen settings = record {
  settings = settings;
  number = 0;
  first = None;
  slow = 0;
  beyond = 0;
  names = [];
  ends = [];
  findings = 0;
  to_write = [];
}

-- the first time that is known
abbrev pub first_time : Option ℕ → Option ℕ → Option ℕ
first_time (Some first) time = Some first
first_time None time = time

-- a packet more
abbrev pub counted : Option ℕ → ReportState → ReportState
counted time s = record s { number = one_more s.number; first = first_time s.first time }

-- the most ends that get a short name
abbrev pub most_names : ℕ
most_names = 64

-- the line of the legend for an end with this number
abbrev pub legend_line : ℕ → Identity → List ℕ
legend_line n a = codes "P" ++ (decimal n ++ (codes " = " ++ (identity_text a ++ codes "\n")))

-- a text with the line of the legend for an end with this number; records have no legend, and where frames have no lines it
-- stands behind the links
abbrev pub legend_added : Settings → ℕ → Identity → List ℕ → List ℕ
legend_added o n a text = if o.json || not o.frames then text else text ++ legend_line n a

-- an end gets a short name: it has none, and there is one left
abbrev pub is_new : Option ℕ → List Identity → Bool
is_new (Some n) names = false
is_new None names = nat_lt (length names) most_names

-- after an end is named: if it gets a short name, with a line of the legend
abbrev pub named : Identity → ReportState → ReportState
named a s = record s {
  names = if is_new (number_of s.names a) s.names then s.names ++ a ∷ [] else s.names;
  to_write = if is_new (number_of s.names a) s.names then legend_added s.settings (length s.names + 1) a s.to_write else s.to_write;
}

-- the number of an end's short name once it is named
abbrev pub number_once_named : Option ℕ → List Identity → Option ℕ
number_once_named (Some n) names = Some n
number_once_named None names = if nat_lt (length names) most_names then Some (length names + 1) else None

abbrev pub name_number : Identity → ReportState → Option ℕ
name_number a s = number_once_named (number_of s.names a) s.names

-- the line of a frame: a record, or a text
abbrev pub frame_line : Bool → Option ℕ → Option ℕ → SlowFrame → WhatText → List ℕ
frame_line json first time f t = if json then frame_record first time f t else line_text first time f t

-- after the line of a frame, if frames have lines
abbrev pub with_line : Option ℕ → SlowFrame → WhatText → ReportState → ReportState
with_line time f t s = record s {
  to_write = if s.settings.frames then s.to_write ++ frame_line s.settings.json s.first time f t else s.to_write;
}

-- after an LACPDU of an end with this index
abbrev pub with_end : Option ℕ → LinkEnd → Option ℕ → Lacpdu → ReportState → ReportState
with_end index sender time v s = record s {
  ends = ends_after s.ends index sender time v;
  beyond = if is_beyond s.ends index then one_more s.beyond else s.beyond;
}

-- the last LACPDU of the end with this index, unless every field is to be shown
abbrev pub last_shown : ReportState → Option ℕ → Option Lacpdu
last_shown s index = if s.settings.all then None else last_of s.ends index

-- what the line of an LACPDU says, where its ends have short names with these numbers, and its sender this index
abbrev pub lacpdu_line : Option ℕ → Option ℕ → Option ℕ → Lacpdu → ReportState → WhatText
lacpdu_line actor partner index v s =
    what.Lacpdu (record { lacpdu = v; shown = shown_of (last_shown s index) v; actor = actor; partner = partner })

-- after an LACPDU in this frame whose ends have short names with these numbers, and its sender this index
abbrev pub after_indexed : Option ℕ → Option ℕ → Option ℕ → Option ℕ → SlowFrame → Lacpdu → ReportState → ReportState
after_indexed index actor partner time f v s =
    with_end index (end_of f) time v (with_line time f (lacpdu_line actor partner index v s) s)

-- after an LACPDU whose ends have short names with these numbers
unfoldable pub after_named : Option ℕ → Option ℕ → Option ℕ → SlowFrame → Lacpdu → ReportState → ReportState
after_named actor partner time f v s = after_indexed (end_index s.ends (end_of f)) actor partner time f v s

-- after an LACPDU: its actor is named first, then its partner
unfoldable pub after_lacpdu : Option ℕ → SlowFrame → Lacpdu → ReportState → ReportState
after_lacpdu time f v s =
    let t = named (identity_of v.actor) s in
    after_named (name_number (identity_of v.actor) s) (name_number (identity_of v.partner) t) time f v (named (identity_of v.partner) t)

-- after what a frame of the slow protocols holds
abbrev pub after_what : Option ℕ → SlowFrame → What → ReportState → ReportState
after_what time f (held.Lacpdu v) s = after_lacpdu time f v s
after_what time f (held.Marker m) s = with_line time f (what.Marker m) s
after_what time f (held.Refused e) s = with_line time f (what.Refused e) s

-- after a frame of the slow protocols
unfoldable pub after_frame : Option ℕ → SlowFrame → ReportState → ReportState
after_frame time f s = after_what time f f.what (record s { slow = one_more s.slow })

-- after a frame of the slow protocols, if there is one
abbrev pub after_any : Option ℕ → Option SlowFrame → ReportState → ReportState
after_any time None s = s
after_any time (Some f) s = after_frame time f s

-- after a packet with these captured octets
unfoldable pub observed : Packet → List ℕ → ReportState → ReportState
observed packet b s = after_any packet.time (frame_in (one_more s.number) packet b) (counted packet.time s)

-- after what has a number in a capture: a packet, or a record without one, which is counted alone
abbrev pub after : Option Captured → ReportState → ReportState
after None s = counted None s
after (Some c) s = observed c.packet c.octets s

-- after all of these
abbrev pub after_all : List (Option Captured) → ReportState → ReportState
after_all [] s = s
after_all (x ∷ xs) s = after_all xs (after x s)

-- a line for each end and for each finding, and the counts
abbrev pub ends_findings_counts : List Finding → ReportState → List ℕ
ends_findings_counts fs s =
    ends_text s.first s.names s.ends s.ends ++ (findings_text s.first fs ++ counts_text s.number s.slow (length s.ends) (length fs) s.beyond)

-- the legend, where frames have no lines
abbrev pub legend_behind : ReportState → List ℕ
legend_behind s = if s.settings.frames then [] else names_text s.names s.names

-- how many links carry, a line for each link, for each end that sent LACPDUs and for each finding, and the counts: as texts
abbrev pub closing_texts : List Finding → ReportState → List ℕ
closing_texts fs s =
    link_counts_text (link_counts s.ends) ++ (links_lines s.first s.ends (until_of s.ends) s.ends ++ (legend_behind s ++ ends_findings_counts fs s))

-- the same as records
abbrev pub closing_records : List Finding → ReportState → List ℕ
closing_records fs s =
    links_records s.first s.ends (until_of s.ends) s.ends
    ++ (ends_records s.first s.ends s.ends ++ (findings_records s.first fs ++ counts_record s.number s.slow (length s.ends) (length fs) s.beyond))

-- after the last packet: the lines of the ends, of the findings, and of the counts
abbrev pub with_ends : List Finding → ReportState → ReportState
with_ends fs s = record s {
  findings = length fs;
  to_write = s.to_write ++ (if s.settings.json then closing_records fs s else closing_texts fs s);
}
