-- The Boolean tests of equality hold exactly of equal values.
use Rattle.std.proofs.Common.{arith, ◌≡◌, ◌==◌, ℕ, Bool, true, ◌&&◌, refl, Option, bytes_eq, eqb-true}
use Rattle.std.specs.Option.{option_eq}
use Rattle.std.proofs.lemmas.Bool.{and_from, and_parts}
use Rattle.std.proofs.lemmas.Bool.Decides.{Decides-eqb}
use Rattle.std.proofs.lemmas.Slice.Eq.{bytes_eq-Decides}
use Rattle.lagtypes.specs.declared.identifiers.Key.{Key}
use Rattle.lagtypes.specs.declared.identifiers.PortId.{PortId}
use Rattle.lagtypes.specs.declared.identifiers.SystemId.{SystemId}
use Rattle.lagtypes.specs.declared.party.Party.{Party}
use Rattle.lagtypes.specs.declared.group.End.{End}
use Rattle.lagtypes.specs.declared.group.Group.{Group}
use Rattle.lagtypes.specs.Same.{same_bit, same_end, same_group, same_party, same_port, same_system}

-- equal by test is equal

exact_bit : (a b : Bool) → same_bit a b ≡ true → a ≡ b
exact_bit a b h = grind arith

pub exact_system : (s t : SystemId) → same_system s t ≡ true → s ≡ t
exact_system s t h = grind (arith, bytes_eq, eqb-true, bytes_eq-Decides)

exact_port : (p q : PortId) → same_port p q ≡ true → p ≡ q
exact_port p q h = grind arith

exact_ports : (o p : Option PortId) → option_eq same_port o p ≡ true → o ≡ p
exact_ports o p h = grind arith

pub exact_key : (k l : Key) → (k.0 == l.0) ≡ true → k ≡ l
exact_key k l h = λ i. record { 0 = eqb-true k.0 l.0 h i }

pub exact_party : (a b : Party) → same_party a b ≡ true → a ≡ b
exact_party a b h = let three = and_parts ((same_system a.system b.system && (a.key.0 == b.key.0)) && same_port a.port b.port)
    (same_bit a.aggregatable b.aggregatable) h in
    let two = and_parts (same_system a.system b.system && (a.key.0 == b.key.0)) (same_port a.port b.port) three.0 in
    let one = and_parts (same_system a.system b.system) (a.key.0 == b.key.0) two.0 in
    λ i. record {
      system = exact_system a.system b.system one.0 i;
      key = exact_key a.key b.key one.1 i;
      port = exact_port a.port b.port two.1 i;
      aggregatable = exact_bit a.aggregatable b.aggregatable three.1 i;
    }

exact_end : (e f : End) → same_end e f ≡ true → e ≡ f
exact_end e f h =
    let all = and_parts (same_system e.system f.system) ((e.key.0 == f.key.0) && option_eq same_port e.port f.port) h in
    let rest = and_parts (e.key.0 == f.key.0) (option_eq same_port e.port f.port) all.1 in
    λ i. record { system = exact_system e.system f.system all.0 i; key = exact_key e.key f.key rest.0 i; port = exact_ports e.port f.port rest.1 i }

pub exact_group : (g h : Group) → same_group g h ≡ true → g ≡ h
exact_group g h t = let both = and_parts (same_end g.lower h.lower) (same_end g.upper h.upper) t in
    λ i. record { lower = exact_end g.lower h.lower both.0 i; upper = exact_end g.upper h.upper both.1 i }

-- each is equal to itself by test

pub itself : (n : ℕ) → (n == n) ≡ true
itself n = (Decides-eqb n n).1 refl

pub system-itself : (s : SystemId) → same_system s s ≡ true
system-itself s = rw (itself s.priority, (bytes_eq-Decides s.mac s.mac).1 refl) refl

pub party_itself : (a : Party) → same_party a a ≡ true
party_itself a = grind (arith, system-itself)

ports-themselves : (o : Option PortId) → option_eq same_port o o ≡ true
ports-themselves o = grind arith

end-itself : (e : End) → same_end e e ≡ true
end-itself e = and_from _ _ (system-itself e.system) (and_from _ _ (itself e.key.0) (ports-themselves e.port))

pub group-itself : (g : Group) → same_group g g ≡ true
group-itself g = and_from _ _ (end-itself g.lower) (end-itself g.upper)
