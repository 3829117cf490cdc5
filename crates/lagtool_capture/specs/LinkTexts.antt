-- What is said of links before all else.
use Rattle.std.specs.Prelude.{◌++◌, ℕ, List, [], Option, Some, None, codes, decimal}
use Rattle.findings.specs.declared.slow_frame.LinkEnd.{LinkEnd}
use Rattle.lagtypes.specs.Texts.{mac_text}
use Rattle.lagtool_capture.specs.declared.links.Apart.{Apart}
use Rattle.lagtool_capture.specs.declared.links.Apart.TheVariants as as_apart
use Rattle.lagtool_capture.specs.declared.links.KeyApart.{KeyApart}
use Rattle.lagtool_capture.specs.declared.links.LastSent.{LastSent}
use Rattle.lagtool_capture.specs.declared.links.Link.{Link}
use Rattle.lagtool_capture.specs.declared.links.LinkCounts.{LinkCounts}
use Rattle.lagtool_capture.specs.declared.links.LinkState.{LinkState}
use Rattle.lagtool_capture.specs.declared.links.LinkState.TheVariants as is
use Rattle.lagtool_capture.specs.FindingTexts.{port_part}
use Rattle.lagtool_capture.specs.LineTexts.{interface_part, since_text}

-- MAC has key K here, and K on a link in use
unfoldable pub key_part : KeyApart → List ℕ
key_part k =
    mac_text k.end.source ++ (codes " has key " ++ (decimal k.here.0 ++ (codes " here, and " ++ (decimal k.there.0 ++ codes " on a link in use"))))

abbrev pub apart_part : Apart → List ℕ
apart_part (as_apart.Key k) = key_part k
apart_part (as_apart.Individual e) = mac_text e.source ++ codes " is individual"

-- whether a link carries, and why not, with times from the first of the capture
abbrev pub state_text : Option ℕ → LinkState → List ℕ
state_text first is.Carries = codes "carries, both ways"
state_text first (is.CarriesApart a) = codes "carries, both ways, apart: " ++ apart_part a
state_text first (is.OtherGroup a) = codes "does not carry: " ++ apart_part a
state_text first is.OneSystem = codes "does not carry: both ends have one system address, a loop or a copied identifier"
state_text first is.BothPassive = codes "does not carry: both ends are passive"
state_text first is.Quiet = codes "does not carry: neither end sends any more"
state_text first (is.Silent s) = codes "does not carry: " ++ (mac_text s.sender.source ++ (codes " sends nothing after " ++ since_text first s.time))
state_text first (is.HearsNobody s) = codes "does not carry: " ++ (mac_text s.source ++ codes " hears nobody")
state_text first is.BothDeaf = codes "does not carry: neither end hears the other"
state_text first (is.OtherPartner s) = codes "does not carry: " ++ (mac_text s.source ++ codes " has another partner")
state_text first (is.Unattached s) =
    codes "does not carry: " ++ (mac_text s.source ++ codes " has not attached it: it uses another aggregator, or has links enough")
state_text first is.Waiting = codes "does not carry: its ends do not collect and distribute"
state_text first is.Alone = codes "not seen: its other end is not in the capture"
state_text first is.PassiveAlone = codes "not seen: nobody answers, and its end is passive: one end has to be active"
state_text first is.Unanswered = codes "not seen: nobody answers, and its end may use it alone"

-- an end of a link: its source address and its port
unfoldable pub place_text : LinkEnd → List ℕ
place_text e = mac_text e.source ++ port_part e.port

abbrev pub far_part : Option LastSent → List ℕ
far_part None = []
far_part (Some x) = codes " - " ++ place_text x.sender

-- the line of a link
unfoldable pub link_line : Option ℕ → Link → List ℕ
link_line first l =
    codes "link " ++ (place_text l.near.sender ++ (far_part l.far ++ (interface_part l.near.sender.interface
    ++ (codes ": " ++ (state_text first l.state ++ codes "\n")))))

-- how many links there are, and how many of them carry
unfoldable pub link_counts_text : LinkCounts → List ℕ
link_counts_text c = codes "links " ++ (decimal c.links ++ (codes " carrying " ++ (decimal c.carrying ++ codes "\n")))
