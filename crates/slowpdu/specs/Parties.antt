-- The six parameters of an end that are compared (6.4.2.3, 6.4.9).
use Rattle.lagtypes.specs.declared.party.Party.{Party}
use Rattle.lagtypes.specs.States.{bits_of}
use Rattle.slowpdu.specs.declared.pdu.Info.{Info}

-- the six parameters, one of them the Aggregation bit of the state
abbrev pub party_of : Info → Party
party_of info = record { system = info.system; key = info.key; port = info.port; aggregatable = (bits_of info.state).aggregation }
