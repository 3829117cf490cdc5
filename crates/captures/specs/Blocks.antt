-- The blocks of pcapng by their types (draft-ietf-opsawg-pcapng).
use Rattle.std.specs.Prelude.{◌==◌, ◌||◌, ℕ, Bool, true, false, List, Result, Ok, if◌then◌else◌}
use Rattle.captures.specs.declared.fault.Stop.{Stop}
use Rattle.captures.specs.declared.interface.Interface.{Interface}
use Rattle.captures.specs.declared.number.Order.{Order}
use Rattle.captures.specs.declared.block.Block.{Block}
use Rattle.captures.specs.declared.block.Block.TheVariants as blocks
use Rattle.captures.specs.Descriptions.{interface_in}
use Rattle.captures.specs.Numbers.{number_at}
use Rattle.captures.specs.Pcapng.{length_in, section_in, simple_packet, stamped_packet}
use Rattle.captures.specs.Wanted.{IsWithin}
use Rattle.captures.specs.Reading.{◌>>=◌, with_octets}

-- a packet that the block holds lies within the octets
abbrev pub HoldsWithin : List ℕ → Block → Type 0
HoldsWithin b (blocks.Section order) = Unit {0}
HoldsWithin b (blocks.Interface interface) = Unit {0}
HoldsWithin b (blocks.Packet packet) = IsWithin b packet
HoldsWithin b blocks.Record = Unit {0}
HoldsWithin b blocks.Other = Unit {0}

-- what was read of a block, as what the block says
abbrev pub as_block : {A : Type 0} → (A → Block) → Result (A × ℕ) Stop → Result (Block × ℕ) Stop
as_block of read = read >>= λ x. Ok (of x.0, x.1)

-- blocks that Wireshark gives numbers as it does packets: custom blocks, entries of the journal of systemd, events of sysdig
abbrev pub is_record : ℕ → Bool
is_record type =
    (type == 9) || (type == 0xbad) || (type == 0x40000bad) || (type == 0x204) || (type == 0x216) || (type == 0x221)

-- what a block of this type says that holds no packet
abbrev pub without_packet : ℕ → Block
without_packet type = if is_record type then blocks.Record else blocks.Other

-- What a block says, and its length: 0x0a0d0d0a begins a section, 1 describes an interface, 2, 3 and 6 hold a packet; every
-- other block is skipped.
abbrev pub block_of_type : ℕ → Order → List Interface → List ℕ → Result (Block × ℕ) Stop
block_of_type type order interfaces b =
    if type == 0x0a0d0d0a then as_block blocks.Section (section_in b)
    else if type == 1 then as_block blocks.Interface (interface_in order b)
    else if type == 2 then as_block blocks.Packet (stamped_packet order interfaces b true)
    else if type == 3 then as_block blocks.Packet (simple_packet order interfaces b)
    else if type == 6 then as_block blocks.Packet (stamped_packet order interfaces b false)
    else (length_in order b 12 >>= λ length. Ok (without_packet type, length))

-- the block at the beginning
abbrev pub block_in : Order → List Interface → List ℕ → Result (Block × ℕ) Stop
block_in order interfaces b = with_octets 8 b (block_of_type (number_at order b 0 4) order interfaces b)
