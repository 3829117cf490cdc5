-- From the first LACPDU on.
use Rattle.lagbeside.proofs.Common.{Bool, Ok, ap, arith, false, inl, inr, refl, subst, sym, true, ℕ, ◌∙◌, ◌≡◌, ◌≤◌, ◌⊎◌, AggId, Choice, Selected}
use Rattle.lagbeside.proofs.Common.{Party, is_selected, Machines, TookLacpdu, SystemPort, Receive, SystemState, port_index, Step-frame, all-get}
use Rattle.lagbeside.proofs.Common.{ports_rise, EachCall, LeavesPort, OnceTicked, Runs, StandsByFull, WantsAggregator, CarriesBeside, Fed, IsServed}
use Rattle.lagbeside.proofs.Common.{LeavesServed, NoneBegins, Service, WaitsAreBounded, timeout_time}
use Rattle.lagsystem.proofs.Sound.{Step-sound}
use Rattle.lagsystem.specs.declared.drive.Reply.TheVariants as reply
use Rattle.lagbeside.proofs.Beside.{comes_up, same_number}
use Rattle.lagbeside.proofs.EachPort.{Step-each, took}
use Rattle.lagbeside.proofs.OnePort.{AtPort, at_number, settling_leaves}
use Rattle.lagbeside.proofs.Selecting.{finds_aggregator, shares_aggregator}
use Rattle.lagbeside.proofs.Serving.{served_first, takes_at}
use Rattle.lagbeside.proofs.Others.{bounded_settles, bounded_takes}

place_of : (c : Choice) → is_selected c ≡ true → (agg : AggId) × (c ≡ Selected agg)
place_of c h = grind arith

abbrev Ready-for : Service → Machines → Type 0
Ready-for u p = (p.enabled ≡ true) × (p.party ≡ u.own) × (p.active ≡ u.active) × (p.short ≡ u.short)

pub carries_beside : (gives : ℕ → ℕ → ℕ → Type 0) → CarriesBeside gives
carries_beside gives u old mid octets i x w s timed at up same step serves there free apart room limit =
    let z = took (port_index x.number old.system_ports) octets old mid step in
    let t = Step-sound gives old (Receive x.number octets) (reply.Receive (Ok TookLacpdu)) mid step s in
    let first = at_number (Ready-for u) 0 old.system_ports i x (ports_rise old s.ports) at (up, same.0, same.1, same.2) in
    let served = takes_at (Ready-for u) (IsServed u (timeout_time u.short)) x.number old mid z.0 (port_index x.number old.system_ports) s refl
    (λ p q awake a h. served_first u z.0 p q a.0 a.1 a.2 a.3 awake (serves z.0 z.1) h)
    (settling_leaves (AtPort x.number (IsServed u (timeout_time u.short)))) z.2 first in
    let number = same_number old mid i x w s t
    (ap (λ (c : SystemState). c.ports) (Step-frame gives old (Receive x.number octets) (reply.Receive (Ok TookLacpdu)) mid step)) at there in
    let here = all-get (λ (c : SystemPort). AtPort x.number (IsServed u (timeout_time u.short)) c.number c.port) mid.system_ports i w there served number in
    let wants : WantsAggregator w.port = record {
      up = here.0;
      known = inl here.4;
      apart = λ e. apart (sym (ap (λ (p : Party). p.system) here.5) ∙ (e ∙ ap (λ (p : Party). p.system) here.1));
    } in
    let found : (is_selected w.port.choice ≡ true) ⊎ StandsByFull mid w.port = elim room [
      | inl many ↦ finds_aggregator mid i w t there wants free many
      | inr r ↦ shares_aggregator mid i w t there wants free r.0 r.1
    ] in
    let chosen : is_selected w.port.choice ≡ true = elim found [ inl c ↦ c | inr f ↦ absurd (limit f) ] in
    let agg = place_of w.port.choice chosen in
    let time : WaitsAreBounded mid = Step-each (λ n p. p.wait_while ≤ 20) bounded_settles gives old (Receive x.number octets)
    (reply.Receive (Ok TookLacpdu)) mid (λ v p q e f h a. bounded_takes v p q h a) step timed in (
      agg.0,
      agg.1,
      λ new calls replies states y run none each fed many end.
          comes_up gives u (timeout_time u.short) agg.0 mid new calls replies states i w y t time there here (some u.short) agg.1
          (subst (λ n. Runs (LeavesPort n) gives mid calls replies states new) (sym number) run)
          (subst (λ n. OnceTicked (NoneBegins agg.0 n) false calls states new) (sym number) none)
          (subst (λ n. EachCall (LeavesServed u n) calls replies) (sym number) each)
          (subst (λ n. Fed u.short n (timeout_time u.short) calls replies) (sym number) fed) many end,
    )
  where
    some : (short : Bool) → 1 ≤ timeout_time short
    some true = omega arith
    some false = omega arith
