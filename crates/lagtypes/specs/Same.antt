-- Equality of identifiers, ends and groups as Boolean functions, for use in filters and conditions (6.3).
use Rattle.std.specs.Prelude.{◌==◌, ◌&&◌, Bool, true, false}
use Rattle.std.specs.Option.{option_eq}
use Rattle.std.specs.Str.{bytes_eq}
use Rattle.lagtypes.specs.declared.identifiers.PortId.{PortId}
use Rattle.lagtypes.specs.declared.identifiers.SystemId.{SystemId}
use Rattle.lagtypes.specs.declared.party.Party.{Party}
use Rattle.lagtypes.specs.declared.group.End.{End}
use Rattle.lagtypes.specs.declared.group.Group.{Group}

-- both bits are 1, or both are 0
abbrev pub same_bit : Bool → Bool → Bool
same_bit true true = true
same_bit false false = true
same_bit true false = false
same_bit false true = false

-- equal priorities and equal MAC addresses
abbrev pub same_system : SystemId → SystemId → Bool
same_system s t = (s.priority == t.priority) && bytes_eq s.mac t.mac

-- equal priorities and equal numbers
abbrev pub same_port : PortId → PortId → Bool
same_port p q = (p.priority == q.priority) && (p.number == q.number)

-- all six parameters are equal (6.4.9, recordPDU)
abbrev pub same_party : Party → Party → Bool
same_party a b =
    same_system a.system b.system
    && (a.key.0 == b.key.0)
    && same_port a.port b.port
    && same_bit a.aggregatable b.aggregatable

-- equal systems and keys; and the same port, or none
abbrev pub same_end : End → End → Bool
same_end e f = same_system e.system f.system && ((e.key.0 == f.key.0) && option_eq same_port e.port f.port)

-- equal lower ends and equal upper ends
abbrev pub same_group : Group → Group → Bool
same_group g h = same_end g.lower h.lower && same_end g.upper h.upper
