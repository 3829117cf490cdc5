-- The texts of the faults (profile).
use Rattle.std.specs.Prelude.{ℕ, ◌++◌, List, codes, decimal}
use Rattle.slowpdu.specs.declared.fault.WireFault.{WireFault}
use Rattle.slowpdu.specs.declared.fault.WireFault.TheVariants.{Short, OtherSubtype, BadLength, MarkerTlv}

-- what is wrong, and after a colon what stands there
abbrev pub fault_text : WireFault → List ℕ
fault_text (Short have) = codes "fewer than 110 octets: " ++ decimal have
fault_text (OtherSubtype subtype) = codes "octet 0 names neither LACP (1) nor the Marker protocol (2): " ++ decimal subtype
fault_text (BadLength at found) = codes "the length field at " ++ (decimal at ++ (codes " is wrong: " ++ decimal found))
fault_text (MarkerTlv type) = codes "octet 2 of a Marker PDU is neither 1 nor 2: " ++ decimal type
