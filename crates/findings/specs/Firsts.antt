-- The first frame that shows a rule, among the frames of one end.
use Rattle.std.specs.Prelude.{ℕ, Bool, List, [], ◌∷◌, Option, Some, None, option_map, slice_get, if◌then◌else◌}
use Rattle.std.specs.Option.{option_or}
use Rattle.findings.specs.declared.finding.Finding.{Finding}
use Rattle.findings.specs.declared.finding.Shown.{Shown}
use Rattle.findings.specs.declared.recent.Heard.{Heard}
use Rattle.findings.specs.declared.slow_frame.LinkEnd.{LinkEnd}
use Rattle.findings.specs.declared.slow_frame.SlowFrame.{SlowFrame}
use Rattle.findings.specs.declared.others.Other.{Other}
use Rattle.findings.specs.declared.rule.Rule.{Rule}
use Rattle.findings.specs.declared.rule.Rule.TheVariants as variants
use Rattle.findings.specs.Ends.{faces, frames_of, lacpdus, latest}
use Rattle.findings.specs.Holds.{is_rushed, is_passive, is_late, lasts, twice, is_attached, is_relapsing, is_unheard, is_discarded, is_desynchronized, is_individual, seconds}
use Rattle.findings.specs.Holds.{has_other_system, has_other_port, has_other_key, has_other_keys, has_rival, has_third, is_hasty, is_one_way, is_silent, is_split, names_own_system}
use Rattle.findings.specs.Markers.{first_unanswered}
use Rattle.findings.specs.Orders.{first_back, if_of, unless_back}
use Rattle.findings.specs.Responses.{first_late, first_unasked}
use Rattle.findings.specs.Holds.{has_other_version, has_other_length, has_reserved, has_other_destination, has_tag, has_other_types, has_other_source}

-- the earlier one if there is one; else this one if it shows the rule
abbrev pub earlier_or : Option Shown → Bool → Shown → Option Shown
earlier_or (Some s) holds now = Some s
earlier_or None holds now = if holds then Some now else None

-- the first that shows a rule
abbrev pub first : {A : Type 0} → (A → Shown) → (A → List A → Bool) → List A → Option Shown
first shown holds [] = None
first shown holds (x ∷ before) = earlier_or (first shown holds before) (holds x before) (shown x)

-- an LACPDU that shows a rule, with the end that answers its sender
abbrev pub shown_heard : Heard → Shown
shown_heard a = record { number = a.number; nanoseconds = a.nanoseconds; partner = option_map (λ x. x.end) a.others.answer }

-- a frame that shows a rule
abbrev pub shown_frame : SlowFrame → Shown
shown_frame o = record { number = o.number; nanoseconds = o.nanoseconds; partner = None }

-- the latest LACPDU, if none comes behind it in time
abbrev pub last_silent : ℕ → Option Heard → Option Shown
last_silent until None = None
last_silent until (Some a) = if is_silent until a then Some (shown_heard a) else None

-- the first LACPDU of an end that shows a rule
abbrev pub first_heard : (Heard → List Heard → Bool) → LinkEnd → List SlowFrame → Option Shown
first_heard holds e h = first shown_heard holds (lacpdus e h)

-- the first frame of an end that shows a rule
abbrev pub first_frame : (SlowFrame → List SlowFrame → Bool) → LinkEnd → List SlowFrame → Option Shown
first_frame holds e h = first shown_frame holds (frames_of e h)

-- the first LACPDU of an end behind which there is silence, up to this time
abbrev pub first_silent : ℕ → LinkEnd → List SlowFrame → Option Shown
first_silent until e h = option_or (first_heard is_late e h) (last_silent until (slice_get (lacpdus e h) 0))

-- a finding, unless an LACPDU of another end has come on the interface
abbrev pub unless_faced : Option Other → Option Shown → Option Shown
unless_faced None shown = shown
unless_faced (Some x) shown = None

-- The first LACPDU of an end that shows that LACPDUs go in one direction only, unless the partner's come later: one that
-- starts late, or begins behind the capture, is heard then.
abbrev pub first_one_way : LinkEnd → List SlowFrame → Option Shown
first_one_way e h = unless_faced (latest faces e h) (first_heard is_one_way e h)

-- what is found of an end where the frames of both directions are in their order; nothing where a frame steps back
abbrev pub in_order : (LinkEnd → List SlowFrame → Option Shown) → LinkEnd → List SlowFrame → Option Shown
in_order of e h = unless_back (first_back h) (of e h)

-- the first frame of a capture that is more than a second earlier than the one before it, if an end sent it
abbrev pub first_backward : LinkEnd → List SlowFrame → Option Shown
first_backward e h = if_of e (first_back h)

-- the first frame of an end that shows a rule, where the capture goes up to this time
abbrev pub first_of : Rule → ℕ → LinkEnd → List SlowFrame → Option Shown
first_of variants.Rate until = first_heard is_rushed
first_of variants.System until = first_heard (twice has_other_system)
first_of variants.Port until = first_heard (twice has_other_port)
first_of variants.Key until = first_heard (twice has_other_key)
first_of variants.Passive until = first_heard is_passive
first_of variants.Version until = first_frame has_other_version
first_of variants.Length until = first_frame has_other_length
first_of variants.Reserved until = first_frame has_reserved
first_of variants.Destination until = first_frame has_other_destination
first_of variants.Tag until = first_frame has_tag
first_of variants.Silence until = first_silent until
first_of variants.Unheard until = first_heard (lasts is_unheard (seconds 6))
first_of variants.Desynchronized until = first_heard is_desynchronized
first_of variants.Individual until = first_heard is_individual
first_of variants.Keys until = first_heard (twice has_other_keys)
first_of variants.Segment until = first_heard has_rival
first_of variants.Discarded until = first_heard (lasts is_discarded (seconds 3))
first_of variants.OneWay until = in_order first_one_way
first_of variants.Unanswered until = in_order (first_unanswered until)
first_of variants.Unasked until = in_order first_unasked
first_of variants.Late until = in_order first_late
first_of variants.Attached until = first_heard (lasts is_attached (seconds 6))
first_of variants.Relapsing until = first_heard is_relapsing
first_of variants.Types until = first_frame has_other_types
first_of variants.Source until = first_frame has_other_source
first_of variants.Third until = first_heard (twice has_third)
first_of variants.Hasty until = first_heard is_hasty
first_of variants.Backward until = first_backward
first_of variants.Split until = first_heard (lasts is_split (seconds 6))
first_of variants.OwnSystem until = first_heard names_own_system

-- what is found of an end by a rule
abbrev pub finding_of : Rule → LinkEnd → Option Shown → Option Finding
finding_of rule end None = None
finding_of rule end (Some s) = Some (record { rule = rule; end = end; shown = s })

-- what is found of an end by a rule, behind these frames of a capture that goes up to this time
abbrev pub found : Rule → ℕ → LinkEnd → List SlowFrame → Option Finding
found rule until end h = finding_of rule end (first_of rule until end h)
