-- The numbers, the names and the texts of the refusals (profile).
use Rattle.std.specs.Prelude.{ℕ, List, ◌++◌, codes, decimal}
use Rattle.distributor.specs.declared.fault.DistFault.{DistFault}
use Rattle.distributor.specs.declared.fault.DistFault.TheVariants as dist
use Rattle.lagsystem.specs.declared.fault.BadConfig.{BadConfig as Reason}
use Rattle.lagsystem.specs.declared.fault.BadConfig.TheVariants.{Ports, Aggregators, PortNumber, MaxLinks, Conversations}
use Rattle.lagsystem.specs.declared.fault.SystemFault.{SystemFault}
use Rattle.lagsystem.specs.declared.fault.SystemFault.TheVariants.{NoPort, NoAggregator, FrameLength, SlowFrame, Held, NoneDistributing}
use Rattle.lagsystem.specs.declared.fault.SystemFault.TheVariants.{NotDistributing, SamePort, NotAssigned, MarkersSpent, BadConfig}
use Rattle.lagsystem.specs.declared.fault.SystemFault.TheVariants.{NoMemory, OverLimit}

-- the number of a reason to refuse a configuration, in the order of checking
abbrev pub reason_number : Reason → ℕ
reason_number Ports = 1
reason_number Aggregators = 2
reason_number (PortNumber place) = 3
reason_number MaxLinks = 4
reason_number Conversations = 5

-- the number of a fault of a system
abbrev pub fault_number : SystemFault → ℕ
fault_number NoPort = 1
fault_number NoAggregator = 2
fault_number FrameLength = 3
fault_number SlowFrame = 4
fault_number Held = 5
fault_number NoneDistributing = 6
fault_number NotDistributing = 7
fault_number SamePort = 8
fault_number NotAssigned = 9
fault_number MarkersSpent = 10
fault_number (BadConfig reason) = 11
fault_number NoMemory = 12
fault_number OverLimit = 24

-- the text of a reason to refuse a configuration, as Display writes it
abbrev pub reason_text : Reason → List ℕ
reason_text Ports = codes "the configuration has not 1 to 64 ports"
reason_text Aggregators = codes "the configuration has not 1 to 64 aggregators"
reason_text (PortNumber place) = codes "the port at place " ++ (decimal place
    ++ codes " has the number 0 or one that is not above the number before it")
reason_text MaxLinks = codes "the limit of links of an aggregator is not 1 to 64"
reason_text Conversations = codes "the configuration has not 1, 256 or 4096 conversations"

-- the text of a fault of a system, as Display writes it
abbrev pub fault_text : SystemFault → List ℕ
fault_text NoPort = codes "the system has no port of this number"
fault_text NoAggregator = codes "the system has no such aggregator"
fault_text FrameLength = codes "an offered frame has not 14 to 1518 octets"
fault_text SlowFrame = codes "an offered frame is one of the slow protocols"
fault_text Held = codes "the conversation is Wanted or Flushing"
fault_text NoneDistributing = codes "the conversation is free, and no port distributes in the aggregator"
fault_text NotDistributing = codes "the port to move to does not distribute in the aggregator"
fault_text SamePort = codes "the port to move to is the one that the conversation is on"
fault_text NotAssigned = codes "the conversation is free, or there is no such conversation"
fault_text MarkersSpent = codes "no marker identifier is left"
fault_text (BadConfig reason) = reason_text reason
fault_text NoMemory = codes "out of memory"
fault_text OverLimit = codes "an aggregator has more links than this limit"

-- the name of a fault of a system, in one word
abbrev pub fault_name : SystemFault → List ℕ
fault_name NoPort = codes "no-port"
fault_name NoAggregator = codes "no-aggregator"
fault_name FrameLength = codes "frame-length"
fault_name SlowFrame = codes "slow-frame"
fault_name Held = codes "held"
fault_name NoneDistributing = codes "none-distributing"
fault_name NotDistributing = codes "not-distributing"
fault_name SamePort = codes "same-port"
fault_name NotAssigned = codes "not-assigned"
fault_name MarkersSpent = codes "markers-spent"
fault_name (BadConfig reason) = codes "bad-config"
fault_name NoMemory = codes "no-memory"
fault_name OverLimit = codes "over-limit"

-- a refusal of the distributor as a fault of the system
abbrev pub system_fault : DistFault → SystemFault
system_fault dist.Held = Held
system_fault dist.NoneDistributing = NoneDistributing
system_fault dist.NotDistributing = NotDistributing
system_fault dist.SamePort = SamePort
system_fault dist.NotAssigned = NotAssigned
system_fault dist.MarkersSpent = MarkersSpent
