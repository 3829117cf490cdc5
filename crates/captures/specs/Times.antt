-- Times in nanoseconds since the beginning of 1970.
use Rattle.std.specs.Prelude.{◌+◌, ◌-◌, ◌*◌, ◌/◌, ◌^◌, ◌&&◌, ◌==◌, ℕ, not, true, false, nat_lt, nat_le, Option, Some, None, if◌then◌else◌}
use Rattle.captures.specs.declared.time.Shift.{Shift}
use Rattle.captures.specs.declared.time.Unit.{Unit}
use Rattle.captures.specs.declared.time.Unit.TheVariants.{Micro, Nano}

-- how many nanoseconds a unit has
abbrev pub nanoseconds_of_unit : Unit → ℕ
nanoseconds_of_unit Micro = 1000
nanoseconds_of_unit Nano = 1

-- the nanoseconds of so many seconds (first number) and units (second number)
abbrev pub nanoseconds : Unit → ℕ → ℕ → ℕ
nanoseconds unit seconds fraction = seconds * 1000000000 + fraction * nanoseconds_of_unit unit

-- How many units of time a second has, by the octet of if_tsresol: its highest bit tells a power of 2 from one of 10,
-- and the other seven bits are the exponent. None if that is no number below 2^64.
abbrev pub units_of_resolution : ℕ → Option ℕ
units_of_resolution r =
    if nat_lt r 20 then Some (10 ^ r)
    else if nat_le 128 r && nat_lt r 192 then Some (2 ^ (r - 128))
    else None

-- The seconds of the option if_tsoffset, whose eight octets are a number in two's complement: one from 2^63 on stands for
-- as many seconds less as its bits turned round, and one.
abbrev pub shift_of : ℕ → Shift
shift_of n =
    if nat_lt n (2 ^ 63) then record { seconds = n; is_earlier = false } else record { seconds = 2 ^ 64 - 1 - n + 1; is_earlier = true }

-- the nanoseconds that a shift moves a time by
abbrev pub distance : Shift → ℕ
distance shift = shift.seconds * 1000000000

-- a time that is moved; None if that is before the beginning of 1970
abbrev pub moved : Shift → ℕ → Option ℕ
moved shift time =
    if not shift.is_earlier then Some (time + distance shift)
    else if nat_lt time (distance shift) then None
    else Some (time - distance shift)

-- a time, if it is below 2^64
abbrev pub kept : Option ℕ → Option ℕ
kept None = None
kept (Some time) = if nat_lt time (2 ^ 64) then Some time else None

-- the nanoseconds of so many units (last number), of which a second has the first number, once they are moved; None if they
-- are 2^64 or more, or before the beginning of 1970, or if a second has no units
abbrev pub stamp_time : ℕ → Shift → ℕ → Option ℕ
stamp_time units shift stamp = if units == 0 then None else kept (moved shift (stamp * 1000000000 / units))
