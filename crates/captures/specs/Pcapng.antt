-- The format pcapng (draft-ietf-opsawg-pcapng): blocks, each with its type and its length in four octets each, what it
-- holds, and its length again. A section header block, which has the same type in both orders of octets, tells the order
-- of the blocks behind it.
use Rattle.std.specs.Prelude.{◌==◌, ◌||◌, ◌+◌, ◌-◌, ◌*◌, ◌%◌, not, ℕ, Bool, List, Option, min, slice_get, nat_lt, Some, None, Result, Ok, Err, if◌then◌else◌}
use Rattle.captures.specs.declared.fault.Cause.TheVariants as causes
use Rattle.captures.specs.declared.fault.Stop.{Stop}
use Rattle.captures.specs.declared.interface.Interface.{Interface}
use Rattle.captures.specs.declared.number.Order.{Order}
use Rattle.captures.specs.declared.number.Order.TheVariants.{Big, Little}
use Rattle.captures.specs.declared.packet.Packet.{Packet}
use Rattle.captures.specs.Faults.{refused}
use Rattle.captures.specs.Numbers.{number_at}
use Rattle.captures.specs.Pcap.{whole}
use Rattle.captures.specs.Reading.{◌>>=◌, with_octets}
use Rattle.captures.specs.Times.{stamp_time}

-- the length of the block, a multiple of 4 and at least so much
abbrev pub length_in : Order → List ℕ → ℕ → Result ℕ Stop
length_in order b least =
    let length = number_at order b 4 4 in
    if not (length % 4 == 0) || nat_lt length least then Err (refused 4 (causes.Length length)) else Ok length

-- the order of octets that a section header block tells at the offset 8
abbrev pub order_of_section : List ℕ → Result Order Stop
order_of_section b =
    let found = number_at Big b 8 4 in
    if found == 0x1a2b3c4d then Ok Big
    else if found == 0x4d3c2b1a then Ok Little
    else Err (refused 8 (causes.SectionOrder found))

-- The order of octets and the length of a section header block: type, length, order, major and minor version, length of
-- the section, options.
abbrev pub section_in : List ℕ → Result (Order × ℕ) Stop
section_in b = with_octets 16 b do
  order ← order_of_section b
  length ← length_in order b 28
  if number_at order b 12 2 == 1 then Ok (order, length)
      else Err (refused 12 (causes.Version (number_at order b 12 2) (number_at order b 14 2)))

-- a value, or a refusal if there is none
abbrev pub or_refused : {A : Type 0} → Option A → Stop → Result A Stop
or_refused (Some x) e = Ok x
or_refused None e = Err e

-- the interface with this number (first number)
abbrev pub described : List Interface → ℕ → ℕ → Result Interface Stop
described interfaces number at = or_refused (slice_get interfaces number) (refused at (causes.Interface number))

-- the captured octets, if a block of this length (third number) has room for them between header and second length
abbrev pub room : ℕ → ℕ → ℕ → ℕ → Result ℕ Stop
room captured header length at =
    if nat_lt (length - header - 4) captured then Err (refused at (causes.Length captured)) else Ok captured

-- the number of a packet's interface: two octets in the older block
abbrev pub interface_number : Order → List ℕ → Bool → ℕ
interface_number order b is_older = if is_older then number_at order b 8 2 else number_at order b 8 4

-- The packet of an enhanced packet block or of the older packet block, and the block's length: type, length, interface,
-- upper and lower half of the time in the interface's units, how many octets are captured and how many there were, the
-- captured octets.
abbrev pub stamped_packet : Order → List Interface → List ℕ → Bool → Result (Packet × ℕ) Stop
stamped_packet order interfaces b is_older = do
  length ← length_in order b 32
  with_octets 28 b do
    interface ← described interfaces (interface_number order b is_older) 8
    time ← or_refused (stamp_time interface.timing.units interface.timing.shift (number_at order b 12 4 * 4294967296 + number_at order b 16 4)) (refused 12 causes.Time)
    captured ← room (number_at order b 20 4) 28 length 20
    end ← whole b 28 captured 20
    Ok (
      record {
        interface = interface_number order b is_older;
        link = interface.link;
        time = Some time;
        original = number_at order b 24 4;
        start = 28;
        end = end;
      },
      length,
    )

-- how many octets are captured of so many (second number) under a limit; 0 is no limit
abbrev pub limited : ℕ → ℕ → ℕ
limited limit original = if limit == 0 then original else min original limit

-- the packet of a simple packet block, and the block's length: type, length, how many octets there were, the captured octets
abbrev pub simple_packet : Order → List Interface → List ℕ → Result (Packet × ℕ) Stop
simple_packet order interfaces b = do
  length ← length_in order b 16
  with_octets 12 b do
    interface ← described interfaces 0 0
    captured ← room (limited interface.snapshot (number_at order b 8 4)) 12 length 8
    end ← whole b 12 captured 8
    Ok (record { interface = 0; link = interface.link; time = None; original = number_at order b 8 4; start = 12; end = end }, length)
