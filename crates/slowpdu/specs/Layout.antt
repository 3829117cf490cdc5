-- Payloads as tables of fields. A number has its most significant octet first (6.4.2.1, 6.5.3.1).
use Rattle.std.specs.Prelude.{◌≡◌, ◌≤◌, ◌<◌, ◌+◌, ◌&&◌, ℕ, Bool, true, false, List, length, drop, filter, slice_index, nat_le, nat_lt}
use Rattle.std.specs.List.{AllByRecursion, list_any}
use Rattle.byteorder.specs.Endian.{big_number}

-- a row of a table: offset, width in octets, the number that a sender writes there, and whether a receiver reads it
pub record Field : Type 0 where
  pub offset : ℕ
  pub width : ℕ
  pub number : ℕ
  pub is_read : Bool

-- a field that a receiver reads
abbrev pub read_field : ℕ → ℕ → ℕ → Field
read_field offset width number = record { offset = offset; width = width; number = number; is_read = true }

-- a field that a receiver ignores
abbrev pub ignored_field : ℕ → ℕ → ℕ → Field
ignored_field offset width number = record { offset = offset; width = width; number = number; is_read = false }

-- the fields that a receiver reads
abbrev pub read_fields : List Field → List Field
read_fields fields = filter (λ p. p.is_read) fields

-- the octets of the field have its number
abbrev pub HoldsNumber : List ℕ → Field → Type 0
HoldsNumber b p = big_number p.width (drop p.offset b) ≡ p.number

-- whether the octet at offset i belongs to the field
abbrev pub is_within : ℕ → Field → Bool
is_within i p = nat_le p.offset i && nat_lt i (p.offset + p.width)

-- whether the octet at offset i belongs to one of the fields
abbrev pub is_covered : List Field → ℕ → Bool
is_covered fields i = list_any (is_within i) fields

-- the length of a payload in octets
abbrev pub payload_len : ℕ
payload_len = 110

-- every number is below 256
abbrev pub AreOctets : List ℕ → Type 0
AreOctets b = (i : ℕ) → slice_index b i < 256

-- six octets
abbrev pub IsAddress : List ℕ → Type 0
IsAddress mac = (length mac ≡ 6) × AreOctets mac

-- The list is long enough, and each field that a receiver reads has its number there; nothing else matters.
pub record ReadsTable (b : List ℕ) (fields : List Field) : Type 0 where
  pub long_enough : payload_len ≤ length b
  pub fields_hold : AllByRecursion (HoldsNumber b) (read_fields fields)

-- The list is a whole payload: each field has its number there, and every other octet is 0.
pub record WritesTable (b : List ℕ) (fields : List Field) : Type 0 where
  pub whole : length b ≡ payload_len
  pub octets : AreOctets b
  pub fields_hold : AllByRecursion (HoldsNumber b) fields
  pub others : (i : ℕ) → i < payload_len → is_covered fields i ≡ false → slice_index b i ≡ 0
