-- The texts that the program prints (profile).
use Rattle.std.specs.Prelude.{ℕ, ◌++◌, List, [], ◌∷◌, Option, None, Some, codes, decimal}
use Rattle.lagtypes.specs.Texts.{mac_text, system_text, port_text, state_text}
use Rattle.lagtypes.specs.Octet.{octet}
use Rattle.slowpdu.specs.declared.pdu.Info.{Info}
use Rattle.slowpdu.specs.declared.pdu.Lacpdu.{Lacpdu}
use Rattle.slowpdu.specs.declared.pdu.MarkerKind.{MarkerKind}
use Rattle.slowpdu.specs.declared.pdu.MarkerKind.TheVariants.{Information, Response}
use Rattle.slowpdu.specs.declared.pdu.Marker.{Marker}
use Rattle.slowpdu.specs.declared.pdu.Pdu.{Pdu}
use Rattle.slowpdu.specs.declared.pdu.Pdu.TheVariants as pdu
use Rattle.slowpdu.specs.declared.fault.WireFault.{WireFault}
use Rattle.slowpdu.specs.declared.fault.WireFault.TheVariants.{Short, OtherSubtype, BadLength, MarkerTlv}
use Rattle.lagtool_jobs.specs.declared.fault.ToolFault.{ToolFault}
use Rattle.lagtool_jobs.specs.declared.fault.ToolFault.TheVariants.{Read, Write, NoMemory, Script, NotHex, NotMac}
use Rattle.lagscript.specs.declared.fault.ScriptFault.{ScriptFault}
use Rattle.lagscript.specs.declared.fault.ScriptFault.TheVariants as script

-- SYSTEM key K port PORT state HH WORDS
abbrev pub info_text : Info → List ℕ
info_text info =
    system_text info.system ++ (codes " key " ++ (decimal info.key.0
    ++ (codes " port " ++ (port_text info.port ++ (codes " state " ++ state_text (octet info.state))))))

-- the four lines of an LACPDU
abbrev pub lacpdu_text : Lacpdu → List ℕ
lacpdu_text v =
    codes "lacpdu\nactor " ++ (info_text v.actor ++ (codes "\npartner "
    ++ (info_text v.partner ++ (codes "\nmax-delay " ++ (decimal v.max_delay ++ 10 ∷ [])))))

-- the two lines of a Marker PDU
abbrev pub marker_kind_text : MarkerKind → List ℕ
marker_kind_text Information = codes "marker"
marker_kind_text Response = codes "marker-response"

-- the lines of a Marker PDU
abbrev pub marker_text : Marker → List ℕ
marker_text m =
    marker_kind_text m.kind ++ (codes "\nport " ++ (decimal m.port ++ (codes " system "
    ++ (mac_text m.system ++ (codes " id " ++ (decimal m.id ++ 10 ∷ []))))))

-- the lines of an LACPDU or Marker PDU
abbrev pub pdu_text : Pdu → List ℕ
pdu_text (pdu.Lacpdu v) = lacpdu_text v
pdu_text (pdu.Marker m) = marker_text m

-- why a payload is refused
abbrev pub refusal_text : WireFault → List ℕ
refusal_text (Short have) = codes "refused 1 short have " ++ decimal have
refusal_text (OtherSubtype n) = codes "refused 2 subtype " ++ decimal n
refusal_text (BadLength at found) = codes "refused 3 length at " ++ (decimal at ++ (codes " found " ++ decimal found))
refusal_text (MarkerTlv n) = codes "refused 4 marker-tlv " ++ decimal n

-- the line of a refusal
abbrev pub wire_fault_text : WireFault → List ℕ
wire_fault_text e = refusal_text e ++ 10 ∷ []

-- Why a command line could not be done, as standard error says it after `lagtool: `. The text of a script's fault is
-- not stated.
abbrev pub tool_fault_text : ToolFault → Option (List ℕ)
tool_fault_text Read = Some (codes "cannot read")
tool_fault_text Write = Some (codes "cannot write")
tool_fault_text NoMemory = Some (codes "out of memory")
tool_fault_text (Script fault) = None
tool_fault_text NotHex = Some (codes "not hex")
tool_fault_text NotMac = Some (codes "not a mac")

-- a fault in reading names the file, as the command line has it
abbrev pub fault_with_file_text : ToolFault → List ℕ → Option (List ℕ)
fault_with_file_text Read file = Some (codes "cannot read " ++ file)
fault_with_file_text fault file = tool_fault_text fault

-- the number of a fault of the program
abbrev pub tool_fault_number : ToolFault → ℕ
tool_fault_number Read = 1
tool_fault_number Write = 2
tool_fault_number NoMemory = 3
tool_fault_number (Script fault) = 4
tool_fault_number NotHex = 5
tool_fault_number NotMac = 6

-- the fault of a script as one of the program; out of memory has a number of its own
abbrev pub of_script : ScriptFault → ToolFault
of_script script.NoMemory = NoMemory
of_script fault = Script fault
