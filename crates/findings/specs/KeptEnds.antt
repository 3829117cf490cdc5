-- What is kept of one end, by its frames.
use Rattle.std.specs.Prelude.{List, slice_get}
use Rattle.findings.specs.declared.frame_rules.FrameRules.{FrameRules}
use Rattle.findings.specs.declared.lacpdu_rules.LacpduRules.{LacpduRules}
use Rattle.findings.specs.declared.recent.Heard.{Heard}
use Rattle.findings.specs.declared.slow_frame.LinkEnd.{LinkEnd}
use Rattle.findings.specs.declared.slow_frame.SlowFrame.{SlowFrame}
use Rattle.findings.specs.declared.recent.Recent.{Recent}
use Rattle.findings.specs.declared.kept_end.KeptEnd.{KeptEnd}
use Rattle.findings.specs.Ends.{frames_of, lacpdus, others, said}
use Rattle.findings.specs.Firsts.{first, shown_heard, shown_frame}
use Rattle.findings.specs.Holds.{is_rushed, is_passive, is_late, lasts, twice, since, is_attached, has_relapsed, is_relapsing, is_unheard, is_discarded, is_desynchronized, is_individual, seconds}
use Rattle.findings.specs.Holds.{has_other_system, has_other_port, has_other_key, has_other_keys, has_rival, has_third, is_alone, is_alone_short, is_hasty, is_one_way, is_split, names_own_system, no_wait}
use Rattle.findings.specs.Markers.{asking}
use Rattle.findings.specs.Responses.{responding}
use Rattle.findings.specs.Holds.{has_other_version, has_other_length, has_reserved, has_other_destination, has_tag, has_other_types, has_other_source}

-- the latest three LACPDUs, and since when the latest ones have a property
abbrev pub recent_of : List Heard → Recent
recent_of l = record {
  last = slice_get l 0;
  second = slice_get l 1;
  third = slice_get l 2;
  unheard_since = since is_unheard l;
  discarded_since = since is_discarded l;
  alone_since = since is_alone l;
  alone_short_since = since is_alone_short l;
  attached_since = since is_attached l;
  split_since = since is_split l;
  relapsed = has_relapsed l;
  no_wait = no_wait l;
}

-- the first LACPDU that shows each rule
abbrev pub lacpdu_rules : List Heard → LacpduRules
lacpdu_rules l = record {
  rate = first shown_heard is_rushed l;
  system = first shown_heard (twice has_other_system) l;
  port = first shown_heard (twice has_other_port) l;
  key = first shown_heard (twice has_other_key) l;
  passive = first shown_heard is_passive l;
  silence = first shown_heard is_late l;
  unheard = first shown_heard (lasts is_unheard (seconds 6)) l;
  desynchronized = first shown_heard is_desynchronized l;
  individual = first shown_heard is_individual l;
  keys = first shown_heard (twice has_other_keys) l;
  segment = first shown_heard has_rival l;
  discarded = first shown_heard (lasts is_discarded (seconds 3)) l;
  one_way = first shown_heard is_one_way l;
  attached = first shown_heard (lasts is_attached (seconds 6)) l;
  relapsing = first shown_heard is_relapsing l;
  third = first shown_heard (twice has_third) l;
  hasty = first shown_heard is_hasty l;
  split = first shown_heard (lasts is_split (seconds 6)) l;
  own_system = first shown_heard names_own_system l;
}

-- the first frame that shows each rule
abbrev pub frame_rules : List SlowFrame → FrameRules
frame_rules l = record {
  version = first shown_frame has_other_version l;
  length = first shown_frame has_other_length l;
  reserved = first shown_frame has_reserved l;
  destination = first shown_frame has_other_destination l;
  tag = first shown_frame has_tag l;
  types = first shown_frame has_other_types l;
  source = first shown_frame has_other_source l;
}

-- what is kept of an end behind these frames, the latest first
abbrev pub kept_end : LinkEnd → List SlowFrame → KeptEnd
kept_end e h = record {
  end = e;
  said = said e h;
  asking = asking e h;
  responding = responding e h;
  others = others e h;
  recent = recent_of (lacpdus e h);
  lacpdus = lacpdu_rules (lacpdus e h);
  frames = frame_rules (frames_of e h);
}
