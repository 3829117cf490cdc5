-- The link types that are read, by their numbers in the registry of draft-ietf-opsawg-pcaplinktype.
use Rattle.std.specs.Prelude.{◌==◌, ℕ, Result, Ok, Err, if◌then◌else◌}
use Rattle.captures.specs.declared.fault.Cause.TheVariants as causes
use Rattle.captures.specs.declared.fault.Stop.{Stop}
use Rattle.captures.specs.declared.link.LinkType.{LinkType}
use Rattle.captures.specs.declared.link.LinkType.TheVariants as links
use Rattle.captures.specs.Faults.{refused}

-- the link type with this number (second number); refused at this offset if it is another
abbrev pub link_at : ℕ → ℕ → Result LinkType Stop
link_at at number =
    if number == 1 then Ok links.Ethernet
    else if number == 113 then Ok links.Cooked
    else if number == 276 then Ok links.Cooked2
    else Err (refused at (causes.LinkType number))
