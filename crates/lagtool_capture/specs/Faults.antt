-- Where a capture is not read on, and why.
use Rattle.std.specs.Prelude.{◌≡◌, ◌++◌, ℕ, Bool, true, false, List, ◌∷◌, codes, decimal}
use Rattle.captures.specs.declared.fault.Cause.{Cause}
use Rattle.captures.specs.declared.fault.Cause.TheVariants as causes
use Rattle.lagtool_capture.specs.declared.fault.CaptureFault.{CaptureFault}
use Rattle.lagtool_capture.specs.declared.fault.CaptureFault.TheVariants.{Read, Write, NoMemory}

-- what is wrong
abbrev pub cause_text : Cause → List ℕ
cause_text causes.Gzip = codes "packed by gzip: unpack it first"
cause_text (causes.Format found) = codes "neither pcap nor pcapng: " ++ decimal found
cause_text (causes.SectionOrder found) = codes "no order of octets: " ++ decimal found
cause_text (causes.Version major minor) = codes "unknown version: " ++ (decimal major ++ 46 ∷ decimal minor)
cause_text (causes.LinkType found) = codes "unknown link type: " ++ decimal found
cause_text (causes.Length found) = codes "wrong length: " ++ decimal found
cause_text (causes.SecondLength found) = codes "wrong second length: " ++ decimal found
cause_text (causes.Captured found) = codes "too long a packet: " ++ decimal found
cause_text (causes.Description found) = codes "too long a description: " ++ decimal found
cause_text (causes.Interface found) = codes "unknown interface: " ++ decimal found
cause_text causes.Interfaces = codes "more than 64 interfaces"
cause_text (causes.Resolution found) = codes "unknown resolution of time: " ++ decimal found
cause_text causes.Time = codes "a time before 1970 or after the year 2554"
cause_text causes.CutShort = codes "cut short"

-- octet AT: CAUSE
abbrev pub read_fault_text : ℕ → Cause → List ℕ
read_fault_text at cause = codes "octet " ++ (decimal at ++ (codes ": " ++ cause_text cause))

-- for `Read` the source has failed, for `Write` the sink, and the other has not; for `NoMemory` neither has
abbrev pub HasCause : Bool → Bool → CaptureFault → Type 0
HasCause source sink Read = (source ≡ true) × (sink ≡ false)
HasCause source sink Write = (source ≡ false) × (sink ≡ true)
HasCause source sink NoMemory = (source ≡ false) × (sink ≡ false)
