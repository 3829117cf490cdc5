-- The format pcap (draft-ietf-opsawg-pcap): a header of 24 octets, then packets, each with a header of 16 octets. The
-- header of the file: a number of four octets that tells the order of octets and the unit of time, major and minor
-- version, two reserved numbers, the snapshot length, and the link type in the lowest 16 bits of the last number. The
-- header of a packet: seconds, units, how many octets are captured, and how many there were.
use Rattle.std.specs.Prelude.{◌==◌, ◌&&◌, ◌+◌, ◌%◌, ℕ, List, nat_lt, Some, Result, Ok, Err, if◌then◌else◌}
use Rattle.captures.specs.declared.fault.Cause.TheVariants as causes
use Rattle.captures.specs.declared.fault.Stop.{Stop}
use Rattle.captures.specs.declared.link.LinkType.{LinkType}
use Rattle.captures.specs.declared.number.Order.{Order}
use Rattle.captures.specs.declared.packet.Packet.{Packet}
use Rattle.captures.specs.declared.time.Unit.{Unit}
use Rattle.captures.specs.Faults.{refused}
use Rattle.captures.specs.Links.{link_at}
use Rattle.captures.specs.Numbers.{number_at}
use Rattle.captures.specs.Reading.{◌>>=◌, with_octets}
use Rattle.captures.specs.Times.{nanoseconds}

abbrev pub major_version : Order → List ℕ → ℕ
major_version order b = number_at order b 4 2

abbrev pub minor_version : Order → List ℕ → ℕ
minor_version order b = number_at order b 6 2

-- the link type that the header of a file names
abbrev pub link_of_file : Order → List ℕ → Result LinkType Stop
link_of_file order b = with_octets 24 b
    (if (major_version order b == 2) && (minor_version order b == 4) then link_at 20 (number_at order b 20 4 % 65536)
    else Err (refused 4 (causes.Version (major_version order b) (minor_version order b))))

-- the most captured octets of one packet
abbrev pub most_captured : ℕ
most_captured = 262144

-- The offset behind the captured octets, which begin at the offset start. More octets than are allowed are refused at
-- the offset at.
abbrev pub whole : List ℕ → ℕ → ℕ → ℕ → Result ℕ Stop
whole b start captured at =
    if nat_lt most_captured captured then Err (refused at (causes.Captured captured))
    else with_octets (start + captured) b (Ok (start + captured))

-- the packet at the beginning, with its header
abbrev pub packet_in : Order → Unit → LinkType → List ℕ → Result Packet Stop
packet_in order unit link b = with_octets 16 b do
  end ← whole b 16 (number_at order b 8 4) 8
  Ok (record {
    interface = 0;
    link = link;
    time = Some (nanoseconds unit (number_at order b 0 4) (number_at order b 4 4));
    original = number_at order b 12 4;
    start = 16;
    end = end;
  })
