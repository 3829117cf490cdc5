-- The ends of links by the identifiers that LACPDUs name them by (6.4.2.3), and their short names.
use Rattle.std.specs.Prelude.{◌==◌, ◌&&◌, ◌+◌, ◌++◌, ℕ, Bool, List, [], ◌∷◌, Option, Some, None, codes, decimal, flat_map, if◌then◌else◌}
use Rattle.lagtypes.specs.Same.{same_port, same_system}
use Rattle.lagtypes.specs.Texts.{port_text, system_text}
use Rattle.slowpdu.specs.declared.pdu.Info.{Info}
use Rattle.lagtool_capture.specs.declared.names.Identity.{Identity}

-- the identifiers in participant information
abbrev pub identity_of : Info → Identity
identity_of info = record { system = info.system; key = info.key; port = info.port }

-- equal systems, keys and ports
abbrev pub same_identity : Identity → Identity → Bool
same_identity a b = same_system a.system b.system && (a.key.0 == b.key.0) && same_port a.port b.port

-- SYSTEM key KEY port PORT
abbrev pub identity_text : Identity → List ℕ
identity_text a = system_text a.system ++ (codes " key " ++ (decimal a.key.0 ++ (codes " port " ++ port_text a.port)))

-- the number of an end among these, the first of which has the number n + 1
abbrev pub number_from : ℕ → List Identity → Identity → Option ℕ
number_from n [] a = None
number_from n (x ∷ xs) a = if same_identity x a then Some (n + 1) else number_from (n + 1) xs a

-- the number of an end among those that have short names, from 1
abbrev pub number_of : List Identity → Identity → Option ℕ
number_of names a = number_from 0 names a

-- P and the number; the identifiers of an end without a short name
abbrev pub name_text : Option ℕ → Identity → List ℕ
name_text (Some n) a = codes "P" ++ decimal n
name_text None a = identity_text a

-- the line of the legend for an end among those that have short names
unfoldable pub named_line : List Identity → Identity → List ℕ
named_line names a = name_text (number_of names a) a ++ (codes " = " ++ (identity_text a ++ codes "\n"))

-- their lines
abbrev pub names_text : List Identity → List Identity → List ℕ
names_text names xs = flat_map (named_line names) xs
