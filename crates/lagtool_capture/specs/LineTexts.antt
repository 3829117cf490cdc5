-- What the line of a frame says besides its LACPDU.
use Rattle.std.specs.Prelude.{◌==◌, ◌/◌, ◌%◌, ◌-◌, ◌++◌, ℕ, List, [], ◌∷◌, Option, Some, None, codes, decimal, nat_lt, if◌then◌else◌}
use Rattle.std.specs.Str.{bytes_eq}
use Rattle.lagtypes.specs.Texts.{mac_text}
use Rattle.slowpdu.specs.Frames.{slow_group}
use Rattle.slowpdu.specs.declared.pdu.Marker.{Marker}
use Rattle.slowpdu.specs.declared.pdu.MarkerKind.{MarkerKind}
use Rattle.slowpdu.specs.declared.pdu.MarkerKind.TheVariants.{Information, Response}
use Rattle.slowpdu.specs.Texts.{fault_text}
use Rattle.findings.specs.declared.slow_frame.SlowFrame.{SlowFrame}
use Rattle.lagtool_capture.specs.declared.line.WhatText.{WhatText}
use Rattle.lagtool_capture.specs.declared.line.WhatText.TheVariants as what
use Rattle.lagtool_capture.specs.LacpduTexts.{lacpdu_text}

-- six decimal digits of a number below 1,000,000
abbrev pub six_digits : ℕ → List ℕ
six_digits n =
    decimal (n / 100000 % 10) ++ (decimal (n / 10000 % 10) ++ (decimal (n / 1000 % 10)
    ++ (decimal (n / 100 % 10) ++ (decimal (n / 10 % 10) ++ decimal (n % 10)))))

-- nanoseconds as seconds with six digits, the rest cut off
abbrev pub seconds_text : ℕ → List ℕ
seconds_text n = decimal (n / 1000 / 1000000) ++ 46 ∷ six_digits (n / 1000 % 1000000)

-- the seconds from the first time to another
abbrev pub signed_seconds : ℕ → ℕ → List ℕ
signed_seconds first time = if nat_lt time first then 45 ∷ seconds_text (first - time) else seconds_text (time - first)

-- a dash if one of the times is not known
abbrev pub since_text : Option ℕ → Option ℕ → List ℕ
since_text (Some first) (Some time) = signed_seconds first time
since_text (Some first) None = codes "-"
since_text None time = codes "-"

-- the interface, if it isn't the first
abbrev pub interface_part : ℕ → List ℕ
interface_part n = if n == 0 then [] else codes " interface " ++ decimal n

-- a destination address, if it isn't the Slow_Protocols_Multicast address
abbrev pub destination_part : Option (List ℕ) → List ℕ
destination_part None = []
destination_part (Some mac) = if bytes_eq mac slow_group then [] else codes " to " ++ mac_text mac

-- how many tags there are, if there is one
abbrev pub tags_part : ℕ → List ℕ
tags_part n = if n == 0 then [] else codes " tags " ++ decimal n

-- NUMBER SECONDS SOURCE, with interface, destination and tags where they are told, and a blank
abbrev pub head_text : Option ℕ → Option ℕ → SlowFrame → List ℕ
head_text first time e =
    decimal e.number ++ 32 ∷ (since_text first time ++ (interface_part e.interface ++ 32 ∷ (mac_text e.source
    ++ (destination_part e.destination ++ (tags_part e.tags ++ codes " ")))))

abbrev pub marker_word : MarkerKind → List ℕ
marker_word Information = codes "marker"
marker_word Response = codes "marker-response"

-- marker or marker-response, the requester's port and system, and the number of the transaction (6.5.3.3)
abbrev pub marker_text : Marker → List ℕ
marker_text m =
    marker_word m.kind ++ (codes " port " ++ (decimal m.port ++ (codes " system "
    ++ (mac_text m.system ++ (codes " id " ++ decimal m.id)))))

-- what the line of a frame says behind its head
abbrev pub what_text : WhatText → List ℕ
what_text (what.Lacpdu t) = lacpdu_text t.shown t.actor t.partner t.lacpdu
what_text (what.Marker m) = marker_text m
what_text (what.Refused e) = codes "refused " ++ fault_text e

-- the line of a frame
abbrev pub line_text : Option ℕ → Option ℕ → SlowFrame → WhatText → List ℕ
line_text first time e t = head_text first time e ++ (what_text t ++ codes "\n")
