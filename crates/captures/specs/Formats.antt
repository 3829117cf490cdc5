-- The head of a file, which tells its format.
use Rattle.std.specs.Prelude.{◌==◌, ◌&&◌, ◌-◌, ℕ, List, slice_index, Result, Ok, Err, if◌then◌else◌}
use Rattle.captures.specs.declared.fault.Cause.TheVariants as causes
use Rattle.captures.specs.declared.fault.Stop.{Stop}
use Rattle.captures.specs.declared.number.Order.{Order}
use Rattle.captures.specs.declared.number.Order.TheVariants.{Big, Little}
use Rattle.captures.specs.declared.format.Format.{Format}
use Rattle.captures.specs.declared.format.Format.TheVariants as formats
use Rattle.captures.specs.declared.time.Unit.{Unit}
use Rattle.captures.specs.declared.time.Unit.TheVariants.{Micro, Nano}
use Rattle.captures.specs.Faults.{refused}
use Rattle.captures.specs.Numbers.{number_at}
use Rattle.captures.specs.Pcap.{link_of_file}
use Rattle.captures.specs.Pcapng.{section_in}
use Rattle.captures.specs.Reading.{◌>>=◌, with_octets}

-- a file of pcap: packets behind its header
abbrev pub packets_behind : Order → Unit → List ℕ → Result (Format × ℕ) Stop
packets_behind order unit b = link_of_file order b >>= λ link. Ok (formats.Packet order unit link, 24)

-- a file of pcapng: its first block begins a section
abbrev pub first_section : List ℕ → Result (Format × ℕ) Stop
first_section b = section_in b >>= λ x. Ok (formats.SecondLength x.0 x.1, x.1 - 4)

-- the format with this first number, the first octet the most significant
abbrev pub format_of_number : ℕ → List ℕ → Result (Format × ℕ) Stop
format_of_number first b =
    if first == 0xa1b2c3d4 then packets_behind Big Micro b
    else if first == 0xa1b23c4d then packets_behind Big Nano b
    else if first == 0xd4c3b2a1 then packets_behind Little Micro b
    else if first == 0x4d3cb2a1 then packets_behind Little Nano b
    else if first == 0x0a0d0d0a then first_section b
    else Err (refused 0 (causes.Format first))

-- what comes behind the head of a file, and how many octets the head has; gzip begins with 0x1f and 0x8b
abbrev pub format_in : List ℕ → Result (Format × ℕ) Stop
format_in b = with_octets 4 b
    (if (slice_index b 0 == 0x1f) && (slice_index b 1 == 0x8b) then Err (refused 0 causes.Gzip)
    else format_of_number (number_at Big b 0 4) b)
