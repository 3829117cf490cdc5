-- How identifiers compare: as unsigned numbers, in which an earlier field is more significant (6.3.2, 6.3.4).
use Rattle.std.specs.declared.cmp.Ordering.{Ordering}
use Rattle.std.specs.Ordering.{nat_cmp, on, then_cmp}
use Rattle.std.specs.Cmp.Lexicographic.{slice_cmp}
use Rattle.std.specs.Option.{option_cmp}
use Rattle.lagtypes.specs.declared.identifiers.SystemId.{SystemId}
use Rattle.lagtypes.specs.declared.identifiers.PortId.{PortId}
use Rattle.lagtypes.specs.declared.group.End.{End}

-- priority, then MAC address
abbrev pub system_cmp : SystemId → SystemId → Ordering
system_cmp = then_cmp (on (λ s. s.priority) nat_cmp) (on (λ s. s.mac) (slice_cmp nat_cmp))

-- priority, then number
abbrev pub port_cmp : PortId → PortId → Ordering
port_cmp = then_cmp (on (λ p. p.priority) nat_cmp) (on (λ p. p.number) nat_cmp)

-- system, key, and the port if the end has one (profile)
abbrev pub end_cmp : End → End → Ordering
end_cmp = then_cmp (on (λ e. e.system) system_cmp) (then_cmp (on (λ e. e.key.0) nat_cmp) (on (λ e. e.port) (option_cmp port_cmp)))
