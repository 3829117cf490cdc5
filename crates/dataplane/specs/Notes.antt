-- Whether the peers of the ports answer markers: the notes, one for each port, in the order of the port numbers (profile).
use Rattle.std.specs.Prelude.{ℕ, ◌==◌, Bool, List, [], ◌∷◌, Option, None, Some, option_map, Result, Ok, Err, if◌then◌else◌, codes, get_or, replicate}
use Rattle.std.specs.Prelude.{drop, slice_set, take}
use Rattle.std.specs.Str.{bytes_eq}
use Rattle.lagsystem.specs.Calls.{Call, Receive, Set_link, Transmit, Restart}
use Rattle.lagsystem.specs.State.{port_index}
use Rattle.lagsystem.specs.Windows.{subtype}
use Rattle.lagsystem.specs.declared.drive.Reply.{Reply}
use Rattle.lagsystem.specs.declared.drive.Reply.TheVariants as reply
use Rattle.lagsystem.specs.declared.fault.SystemFault.{SystemFault}
use Rattle.lagsystem.specs.declared.received.Received.{Received}
use Rattle.lagsystem.specs.declared.received.Received.TheVariants.{Released}
use Rattle.lagsystem.specs.declared.system_ports.SystemPort.{SystemPort}
use Rattle.dataplane.specs.declared.answering.marker_note.MarkerNote.{MarkerNote}
use Rattle.dataplane.specs.declared.answering.marker_note.MarkerNote.TheVariants.{NeverAsked, Asked, Answered}

-- the number of a note
abbrev pub answers_number : MarkerNote → ℕ
answers_number NeverAsked = 0
answers_number (Asked marker) = 1
answers_number Answered = 2

-- the word of a note
abbrev pub answers_text : MarkerNote → List ℕ
answers_text NeverAsked = codes "never-asked"
answers_text (Asked marker) = codes "asked"
answers_text Answered = codes "answered"

-- Requester_Port, Requester_System and Requester_Transaction_ID of the marker or response in a frame: 12 octets, behind 14 octets of
-- header, and subtype, version, type and length of the TLV (6.5.3.3)
abbrev pub requester : List ℕ → List ℕ
requester frame = take 12 (drop 18 frame)

-- the response in the frame is one to the marker with these Requester_Port, Requester_System and Requester_Transaction_ID (6.5.4)
abbrev pub is_to_marker : List ℕ → List ℕ → Bool
is_to_marker marker frame = bytes_eq (requester frame) marker

-- the marker in this frame went out; a peer that answered has answered still
abbrev pub after_marker : List ℕ → MarkerNote → MarkerNote
after_marker frame NeverAsked = Asked (requester frame)
after_marker frame (Asked marker) = Asked (requester frame)
after_marker frame Answered = Answered

-- the response in this frame came: it answers if it is one to the last marker that went out
abbrev pub after_response : List ℕ → MarkerNote → MarkerNote
after_response frame NeverAsked = NeverAsked
after_response frame (Asked marker) = if is_to_marker marker frame then Answered else Asked marker
after_response frame Answered = Answered

-- no peer was asked
abbrev pub nobody_asked : List MarkerNote
nobody_asked = replicate 64 NeverAsked

-- the note for the port at this index
abbrev pub note_at : List MarkerNote → ℕ → MarkerNote
note_at notes place = get_or notes place NeverAsked

-- the note of the port with this number, of a system with these ports; none if there is no such port
abbrev pub note_of : ℕ → List SystemPort → List MarkerNote → Option MarkerNote
note_of n ports notes = option_map (note_at notes) (port_index n ports)

-- the note for the port at this index changes by the function, and no other note
abbrev pub noted : Option ℕ → (MarkerNote → MarkerNote) → List MarkerNote → List MarkerNote
noted None change notes = notes
noted (Some place) change notes = slice_set notes place (change (note_at notes place))

-- after a receive of these octets: they are a Marker Response
abbrev pub notes_after_receive : Option ℕ → List ℕ → Result Received SystemFault → List MarkerNote → List MarkerNote
notes_after_receive place octets (Ok (Released count)) notes = noted place (after_response octets) notes
notes_after_receive place octets answer notes = notes

-- after a transmit or a probe: a marker, which is a frame of subtype 2, is sent (6.5.3.3)
abbrev pub notes_after_transmit : Option ℕ → Result (Option (List ℕ)) SystemFault → List MarkerNote → List MarkerNote
notes_after_transmit place (Ok (Some frame)) notes = if subtype frame == 2 then noted place (after_marker frame) notes else notes
notes_after_transmit place answer notes = notes

-- after a link changed: down, and the next peer is another one
abbrev pub notes_after_set_link : Option ℕ → Bool → Result Unit SystemFault → List MarkerNote → List MarkerNote
notes_after_set_link place up (Ok done) notes = if up then notes else noted place (λ note. NeverAsked) notes
notes_after_set_link place up (Err fault) notes = notes

-- after a call and its reply, of a system with these ports: what a marker, a response and a link tell; a restart forgets
abbrev pub notes_after : Call → Reply → List SystemPort → List MarkerNote → List MarkerNote
notes_after (Receive port octets) (reply.Receive answer) ports notes = notes_after_receive (port_index port ports) octets answer notes
notes_after (Set_link port up) (reply.SetLink answer) ports notes = notes_after_set_link (port_index port ports) up answer notes
notes_after (Transmit port) (reply.Transmit answer) ports notes = notes_after_transmit (port_index port ports) answer notes
notes_after Restart reply.Restart ports notes = nobody_asked
notes_after call answer ports notes = notes

-- after calls and their replies, one after another
abbrev pub notes_after_all : List Call → List Reply → List SystemPort → List MarkerNote → List MarkerNote
notes_after_all (call ∷ calls) (answer ∷ answers) ports notes = notes_after_all calls answers ports (notes_after call answer ports notes)
notes_after_all [] answers ports notes = notes
notes_after_all (call ∷ calls) [] ports notes = notes
