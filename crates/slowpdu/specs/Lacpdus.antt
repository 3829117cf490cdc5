-- The layout of the LACPDU (6.4.2.3; profile: which fields a receiver reads).
use Rattle.std.specs.Prelude.{ℕ, ◌+◌, ◌++◌, List, [], ◌∷◌}
use Rattle.byteorder.specs.Endian.{big_number}
use Rattle.lagtypes.specs.Octet.{octet}
use Rattle.slowpdu.specs.declared.pdu.Info.{Info}
use Rattle.slowpdu.specs.declared.pdu.Lacpdu.{Lacpdu}
use Rattle.slowpdu.specs.Layout.{Field, read_field, ignored_field, IsAddress, ReadsTable, WritesTable}

-- the fields of one end, from this offset on: system priority, system, key, port priority, port, state
abbrev pub info_fields : ℕ → Info → List Field
info_fields at info =
    read_field at 2 info.system.priority
    ∷ read_field (at + 2) 6 (big_number 6 info.system.mac)
    ∷ read_field (at + 8) 2 info.key.0
    ∷ read_field (at + 10) 2 info.port.priority
    ∷ read_field (at + 12) 2 info.port.number
    ∷ read_field (at + 14) 1 (octet info.state)
    ∷ []

-- The table of an LACPDU, in order: subtype and version; type and length of the Actor TLV, and the Actor; the same of
-- the Partner; type and length of the Collector TLV, and CollectorMaxDelay; type and length of the Terminator.
abbrev pub lacpdu_table : Lacpdu → List Field
lacpdu_table v =
    read_field 0 1 1 ∷ ignored_field 1 1 1
    ∷ ignored_field 2 1 1 ∷ read_field 3 1 20 ∷ (info_fields 4 v.actor
    ++ ignored_field 22 1 2 ∷ read_field 23 1 20 ∷ (info_fields 24 v.partner
    ++ ignored_field 42 1 3 ∷ read_field 43 1 16 ∷ read_field 44 2 v.max_delay
    ∷ ignored_field 58 1 0 ∷ ignored_field 59 1 0 ∷ []))

-- the System MACs of Actor and Partner are MAC addresses
abbrev pub HasAddresses : Lacpdu → Type 0
HasAddresses v = IsAddress v.actor.system.mac × IsAddress v.partner.system.mac

-- the payload b reads as the LACPDU v
pub record Reads (b : List ℕ) (v : Lacpdu) : Type 0 where
  pub addresses : HasAddresses v
  pub table : ReadsTable b (lacpdu_table v)

-- b is the payload that is sent for the LACPDU v
pub record Writes (b : List ℕ) (v : Lacpdu) : Type 0 where
  pub addresses : HasAddresses v
  pub table : WritesTable b (lacpdu_table v)
