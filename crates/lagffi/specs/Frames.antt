-- What a program in C is told of frames, and what stands in its buffer afterwards.
use Rattle.std.specs.Prelude.{ℕ, Bool, true, false, List, Option, None, Some, Result, Ok, Err}
use Rattle.lagsystem.specs.declared.received.Received.{Received}
use Rattle.lagsystem.specs.declared.received.Received.TheVariants.{Disabled, Dropped, Ignored, TookLacpdu, Respond, Released, Up}
use Rattle.lagsystem.specs.declared.fault.SystemFault.{SystemFault}
use Rattle.lagsystem.specs.Faults.{fault_number}
use Rattle.lagsystem.specs.Windows.{subtype}
use Rattle.slowpdu.specs.Faults.{fault_number as wire_number}
use Rattle.lagffi.specs.declared.values.LagReceived.{LagReceived}
use Rattle.lagffi.specs.declared.values.LagSent.{LagSent}
use Rattle.lagffi.specs.Lists.{put_first}
use Rattle.lagffi.specs.Numbers.{received_refused}

-- the octets of a frame that a system makes: 14 of header, 110 of payload
abbrev pub control_frame_length : ℕ
control_frame_length = 124

-- what became of a frame, by its number, and the number that belongs to it
abbrev pub received_as : ℕ → ℕ → LagReceived
received_as what number = record { status = 0; what = what; number = number }

-- what a receive answers
abbrev pub received_of : Result Received SystemFault → LagReceived
received_of (Ok Disabled) = received_as 0 0
received_of (Ok Dropped) = received_as 1 0
received_of (Ok (Ignored fault)) = received_as 2 (wire_number fault)
received_of (Ok TookLacpdu) = received_as 3 0
received_of (Ok (Respond octets)) = received_as 4 control_frame_length
received_of (Ok (Released count)) = received_as 5 count
received_of (Ok (Up agg)) = received_as 6 agg.0
received_of (Err fault) = received_refused (fault_number fault)

-- the buffer after a receive: the response at its front, where there is one
abbrev pub buffer_after_receive : List ℕ → Result Received SystemFault → List ℕ
buffer_after_receive old (Ok (Respond octets)) = put_first octets old
buffer_after_receive old answer = old

-- whether a frame is due, the subtype of its PDU (1 LACPDU, 2 Marker PDU) and its octets
abbrev pub sent_as : Bool → ℕ → ℕ → LagSent
sent_as is what octets = record { status = 0; is = is; what = what; octets = octets }

-- a transmit that is refused with this number
abbrev pub sent_refused : ℕ → LagSent
sent_refused why = record { status = why; is = false; what = 0; octets = 0 }

-- what a transmit answers
abbrev pub sent_of : Result (Option (List ℕ)) SystemFault → LagSent
sent_of (Ok (Some frame)) = sent_as true (subtype frame) control_frame_length
sent_of (Ok None) = sent_as false 0 0
sent_of (Err fault) = sent_refused (fault_number fault)

-- the buffer after a transmit: the frame at its front, where one is due
abbrev pub buffer_after_transmit : List ℕ → Result (Option (List ℕ)) SystemFault → List ℕ
buffer_after_transmit old (Ok (Some octets)) = put_first octets old
buffer_after_transmit old answer = old
