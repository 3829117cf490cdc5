-- The texts of identifiers and states (profile).
use Rattle.std.specs.Prelude.{ℕ, ◌/◌, ◌%◌, ◌++◌, ◌==◌, List, [], ◌∷◌, Option, None, Some, slice_index, map, filter, false, codes, decimal}
use Rattle.std.specs.Fmt.{digit_glyph}
use Rattle.std.specs.Int.RustNames.{bit_and}
use Rattle.std.specs.List.{join_with_byte}
use Rattle.lagtypes.specs.declared.identifiers.SystemId.{SystemId}
use Rattle.lagtypes.specs.declared.identifiers.PortId.{PortId}
use Rattle.lagtypes.specs.declared.group.End.{End}
use Rattle.lagtypes.specs.declared.group.Group.{Group}

-- two lower-case hexadecimal digits
abbrev pub hex_text : ℕ → List ℕ
hex_text n = digit_glyph false (n / 16) ∷ digit_glyph false (n % 16) ∷ []

-- the six octets, with dashes between
abbrev pub mac_text : List ℕ → List ℕ
mac_text mac =
    hex_text (slice_index mac 0) ++ 45 ∷ (hex_text (slice_index mac 1) ++ 45 ∷ (hex_text (slice_index mac 2)
    ++ 45 ∷ (hex_text (slice_index mac 3) ++ 45 ∷ (hex_text (slice_index mac 4) ++ 45 ∷ hex_text (slice_index mac 5)))))

-- PRIORITY/MAC
abbrev pub system_text : SystemId → List ℕ
system_text s = decimal s.priority ++ 47 ∷ mac_text s.mac

-- PRIORITY/NUMBER
abbrev pub port_text : PortId → List ℕ
port_text p = decimal p.priority ++ 47 ∷ decimal p.number

-- the bits of the state: each as a number in which only that bit is 1, with its name
abbrev pub state_words : List (ℕ × List ℕ)
state_words =
    (1, codes "active") ∷ (2, codes "short") ∷ (4, codes "aggregatable") ∷ (8, codes "synchronized")
    ∷ (16, codes "collecting") ∷ (32, codes "distributing") ∷ (64, codes "defaulted") ∷ (128, codes "expired") ∷ []

-- the names of the bits that are 1, in the order of the table
abbrev pub set_words : ℕ → List (ℕ × List ℕ) → List (List ℕ)
set_words n rows = map (λ row. row.1) (filter (λ row. bit_and n row.0 == row.0) rows)

-- the names joined by commas, or `none`
abbrev pub joined_words : List (List ℕ) → List ℕ
joined_words [] = codes "none"
joined_words (word ∷ words) = join_with_byte 44 (word ∷ words)

-- HH WORDS
abbrev pub state_text : ℕ → List ℕ
state_text n = hex_text n ++ 32 ∷ joined_words (set_words n state_words)

-- ` port PORT` if the end has a port, else nothing
abbrev pub named_port_text : Option PortId → List ℕ
named_port_text None = []
named_port_text (Some port) = codes " port " ++ port_text port

-- SYSTEM key KEY, and for an Individual link the port
abbrev pub end_text : End → List ℕ
end_text e = system_text e.system ++ (codes " key " ++ (decimal e.key.0 ++ named_port_text e.port))

-- both ends, the lower first
abbrev pub group_text : Group → List ℕ
group_text g = end_text g.lower ++ (codes " <> " ++ end_text g.upper)
