-- Two link ends are the same by test exactly if they are equal.
use Rattle.std.proofs.Common.{◌≡◌, ◌==◌, ◌≤◌, ◌<◌, ℕ, true, false, arith, refl, ap, Option, Some, None, ◌&&◌, bytes_eq}
use Rattle.std.specs.Option.{option_eq}
use Rattle.std.proofs.lemmas.Bool.{and_parts}
use Rattle.std.proofs.lemmas.Bool.Decides.{Decides-eqb, nat_tests}
use Rattle.std.proofs.lemmas.Slice.Eq.{bytes_eq-Decides}
use Rattle.findings.specs.declared.slow_frame.LinkEnd.{LinkEnd}
use Rattle.findings.specs.Ends.{same_end}

pub exact_number : (m n : ℕ) → (m == n) ≡ true → m ≡ n
exact_number m n h = (Decides-eqb m n).0 h

exact_port : (p q : Option ℕ) → option_eq ◌==◌ p q ≡ true → p ≡ q
exact_port None None h = refl
exact_port None (Some q) h = absurd cc
exact_port (Some p) None h = absurd cc
exact_port (Some p) (Some q) h = ap Some (exact_number p q h)

pub exact_end : (e f : LinkEnd) → same_end e f ≡ true → e ≡ f
exact_end e f h =
    let both = and_parts ((e.interface == f.interface) && bytes_eq e.source f.source) (option_eq ◌==◌ e.port f.port) h in
    let two = and_parts (e.interface == f.interface) (bytes_eq e.source f.source) both.0 in
    λ i. record {
      interface = exact_number e.interface f.interface two.0 i;
      source = (bytes_eq-Decides e.source f.source).0 two.1 i;
      port = exact_port e.port f.port both.1 i;
    }

same_port : (p : Option ℕ) → option_eq ◌==◌ p p ≡ true
same_port None = refl
same_port (Some p) = (Decides-eqb p p).1 refl

pub itself : (e : LinkEnd) → same_end e e ≡ true
itself e = rw ((Decides-eqb e.interface e.interface).1 refl, (bytes_eq-Decides e.source e.source).1 refl, same_port e.port) refl

pub below : (m n : ℕ) → (m == n) ≡ false → m ≤ n → m < n
below m n h le = grind (arith, nat_tests)
