-- A file of pcap as it is written (draft-ietf-opsawg-pcap).
use Rattle.std.specs.Prelude.{ℕ, ◌++◌, List, length}
use Rattle.byteorder.specs.Endian.{big_bytes, little_bytes}
use Rattle.captures.specs.declared.link.LinkType.{LinkType}
use Rattle.captures.specs.declared.link.LinkType.TheVariants as links
use Rattle.captures.specs.declared.number.Order.{Order}
use Rattle.captures.specs.declared.number.Order.TheVariants.{Big, Little}
use Rattle.captures.specs.declared.time.Unit.{Unit}
use Rattle.captures.specs.declared.time.Unit.TheVariants.{Micro, Nano}

-- a number (second number) in so many octets
abbrev pub number_octets : Order → ℕ → ℕ → List ℕ
number_octets Big width n = big_bytes width n
number_octets Little width n = little_bytes width n

-- the number that begins a file with this unit
abbrev pub magic : Unit → ℕ
magic Micro = 0xa1b2c3d4
magic Nano = 0xa1b23c4d

abbrev pub link_number : LinkType → ℕ
link_number links.Ethernet = 1
link_number links.Cooked = 113
link_number links.Cooked2 = 276

-- the header of a file: its first number, version 2.4, two reserved numbers, the largest snapshot length, the link type
abbrev pub file_header : Order → Unit → LinkType → List ℕ
file_header order unit link =
    number_octets order 4 (magic unit) ++ number_octets order 2 2 ++ number_octets order 2 4 ++ number_octets order 4 0
    ++ number_octets order 4 0 ++ number_octets order 4 262144 ++ number_octets order 4 (link_number link)

-- a packet: seconds, units, how many octets are captured, how many there were, the captured octets
abbrev pub packet_octets : Order → ℕ → ℕ → ℕ → List ℕ → List ℕ
packet_octets order seconds fraction original octets =
    number_octets order 4 seconds ++ number_octets order 4 fraction ++ number_octets order 4 (length octets)
    ++ number_octets order 4 original ++ octets
