-- Numbers in a capture: the fields of a header by their offset and width.
use Rattle.std.specs.Prelude.{ℕ, List, drop}
use Rattle.byteorder.specs.Endian.{big_number, little_number}
use Rattle.captures.specs.declared.number.Order.{Order}
use Rattle.captures.specs.declared.number.Order.TheVariants.{Big, Little}

-- the number in this many octets (last number) from this offset on
abbrev pub number_at : Order → List ℕ → ℕ → ℕ → ℕ
number_at Big b at width = big_number width (drop at b)
number_at Little b at width = little_number width (drop at b)
