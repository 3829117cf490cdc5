-- The steps in which a capture is read.
use Rattle.std.specs.Prelude.{◌==◌, ◌-◌, ◌++◌, ℕ, true, false, List, [], ◌∷◌, length, nat_lt, Option, Some, None, Result, Ok, Err, if◌then◌else◌}
use Rattle.captures.specs.declared.block.Block.{Block}
use Rattle.captures.specs.declared.block.Block.TheVariants as blocks
use Rattle.captures.specs.declared.fault.Cause.TheVariants as causes
use Rattle.captures.specs.declared.fault.Fault.{Fault}
use Rattle.captures.specs.declared.fault.Stop.{Stop}
use Rattle.captures.specs.declared.format.Format.{Format}
use Rattle.captures.specs.declared.format.Format.TheVariants as formats
use Rattle.captures.specs.declared.interface.Interface.{Interface}
use Rattle.captures.specs.declared.number.Order.{Order}
use Rattle.captures.specs.declared.packet.Packet.{Packet}
use Rattle.captures.specs.declared.reader.Step.{Step}
use Rattle.captures.specs.Blocks.{block_in}
use Rattle.captures.specs.Faults.{refused}
use Rattle.captures.specs.Formats.{format_in}
use Rattle.captures.specs.Numbers.{number_at}
use Rattle.captures.specs.Pcap.{packet_in}
use Rattle.captures.specs.Reading.{◌>>=◌, with_octets}

-- what comes next in a capture, and the interfaces of the section
pub record ReaderState : Type 0 where
  pub format : Format
  pub interfaces : List Interface

-- a step, and the state of the reader behind it
abbrev pub Stepped : Type 0
Stepped = Result (Step × ReaderState) Stop

-- so many octets are taken, and these formats and interfaces are known behind them
abbrev pub taking : ℕ → Option Packet → Format → List Interface → Stepped
taking n packet format interfaces =
    Ok (record { taken = n; packet = packet; is_record = false }, record { format = format; interfaces = interfaces })

-- the same of a record that holds no packet
abbrev pub taking_record : ℕ → Format → List Interface → Stepped
taking_record n format interfaces =
    Ok (record { taken = n; packet = None; is_record = true }, record { format = format; interfaces = interfaces })

-- the head of a file
abbrev pub head_step : ReaderState → List ℕ → Stepped
head_step s b = format_in b >>= λ x. taking x.1 None x.0 s.interfaces

-- the most interfaces of a section
abbrev pub most_interfaces : ℕ
most_interfaces = 64

-- what is known behind a block with this length, up to its second length; a section begins with no interface
abbrev pub behind_block : Order → List Interface → ℕ → Block → Stepped
behind_block order interfaces length (blocks.Section next) = taking (length - 4) None (formats.SecondLength next length) []
behind_block order interfaces size (blocks.Interface interface) =
    if nat_lt (length interfaces) most_interfaces
    then taking (size - 4) None (formats.SecondLength order size) (interfaces ++ interface ∷ [])
    else Err (refused 0 causes.Interfaces)
behind_block order interfaces length (blocks.Packet packet) = taking (length - 4) (Some packet) (formats.SecondLength order length) interfaces
behind_block order interfaces length blocks.Record = taking_record (length - 4) (formats.SecondLength order length) interfaces
behind_block order interfaces length blocks.Other = taking (length - 4) None (formats.SecondLength order length) interfaces

-- a block of pcapng, up to its second length
abbrev pub block_step : Order → ReaderState → List ℕ → Stepped
block_step order s b = block_in order s.interfaces b >>= λ x. behind_block order s.interfaces x.1 x.0

-- the second length of a block, which is the first one
abbrev pub second_length : Order → ℕ → List ℕ → Result (Unit {0}) Stop
second_length order length b = with_octets 4 b
    (if number_at order b 0 4 == length then Ok tt else Err (refused 0 (causes.SecondLength (number_at order b 0 4))))

-- what stands at the beginning of the octets, where this comes next
abbrev pub step_in : Format → ReaderState → List ℕ → Stepped
step_in formats.Start s b = head_step s b
step_in (formats.Packet order unit link) s b = packet_in order unit link b >>= λ p. taking p.end (Some p) s.format s.interfaces
step_in (formats.Block order) s b = block_step order s b
step_in (formats.SecondLength order length) s b = second_length order length b >>= λ _. taking 4 None (formats.Block order) s.interfaces

-- the step that a reader takes over octets
abbrev pub step : ReaderState → List ℕ → Stepped
step s b = step_in s.format s b

-- a refusal of the end, with so many octets left
abbrev pub cut_short : ℕ → Result (Unit {0}) Fault
cut_short left = Err (record { at = left; cause = causes.CutShort })

-- whether a capture may end where this comes next and so many octets are left
abbrev pub end_of : Format → ℕ → Result (Unit {0}) Fault
end_of formats.Start left = cut_short left
end_of (formats.Packet order unit link) left = if left == 0 then Ok tt else cut_short left
end_of (formats.Block order) left = if left == 0 then Ok tt else cut_short left
end_of (formats.SecondLength order length) left = cut_short left
