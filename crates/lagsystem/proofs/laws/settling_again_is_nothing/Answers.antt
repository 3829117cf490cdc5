use Rattle.lagsystem.proofs.Common.{Bool, List, None, ap, arith, if◌then◌else◌, refl, sym, ℕ, ◌∙◌, ◌≡◌, nat_tests, Assignment, On, Wanted, is_among}
use Rattle.lagsystem.proofs.Common.{assignment_of, aggregator_numbered, distributing, HoldsConversations, held_unless_on, SystemState}
use Rattle.lagsystem.proofs.Keeps.{settling_joined, settling_parts}
use Rattle.lagsystem.proofs.Quieting.{paced_runs, settling_none, settling_quiet, still_settles}
use Rattle.lagsystem.proofs.Rising.{ports_rise}
use Rattle.lagsystem.proofs.laws.settling_again_is_nothing.Goals as goal

still_on : (ports : List ℕ) (p : ℕ) (b : Bool) → is_among ports p ≡ b
    → held_unless_on ports (if b then On p else Wanted p None) ≡ (if b then On p else Wanted p None)
still_on ports p b e = grind (arith, nat_tests)

left_once : (ports : List ℕ) (a : Assignment) → held_unless_on ports (held_unless_on ports a) ≡ held_unless_on ports a
left_once ports a = grind (arith, nat_tests)

leaves_once : (old new : SystemState) → HoldsConversations old new → HoldsConversations new new
leaves_once old new h = record {
  frame = refl;
  aggs = refl;
  conversations = refl;
  first = refl;
  next = refl;
  states = λ g k.
      let ports = distributing (aggregator_numbered g) old.system_ports in
      let same : distributing (aggregator_numbered g) new.system_ports ≡ ports =
      ap (λ (s : SystemState). distributing (aggregator_numbered g) s.system_ports) h.frame in
      h.states g k ∙ sym (left_once ports (assignment_of old.table g k)) ∙ ap (held_unless_on ports) (sym (h.states g k))
      ∙ ap (λ l. held_unless_on l (assignment_of new.table g k)) (sym same);
}

pub returns : goal.returns
returns c old new ports h = let k = settling_quiet old new (ports_rise old ports) h in
    settling_joined new new new (still_settles new new.system_ports k.0 (settling_none old new h) (paced_runs new.system_ports k.1))
    (leaves_once (settling_parts old new h).0 new (settling_parts old new h).2)
