-- One port beside any peer.
use Rattle.lagbeside.proofs.Common.{Bool, List, Some, [], ap, arith, false, inl, inr, not, refl, slice_get, subst, sym, true, ℕ, ◌&&◌, ◌-◌, ◌∙◌, ◌∷◌}
use Rattle.lagbeside.proofs.Common.{◌≡◌, ◌≤◌, nat_tests, AggId, Choice, Selected, is_selected, is_unselected, MuxState, Attached}
use Rattle.lagbeside.proofs.Common.{CollectingDistributing, Detached, Waiting, is_synchronized, mux_rows, partner_synchronized, same_mux_state}
use Rattle.lagbeside.proofs.Common.{AtRest, Reply, SystemPort, Call, configured_numbers, MuxIsSettled, Setting, IsSound, SystemState, port_numbers}
use Rattle.lagbeside.proofs.Common.{Step-frame, all-get, ports_rise, EachCall, tick_count, LeavesPort, Runs, ComesUp, Fed, IsServed, LeavesServed}
use Rattle.lagbeside.proofs.Common.{Service, StaysUp}
use Rattle.lagbeside.proofs.EachPort.{OfEach}
use Rattle.lagbeside.proofs.EachSetting.{runs_ports}
use Rattle.lagbeside.proofs.Hearing.{no}
use Rattle.lagbeside.proofs.OnePort.{AtPort, at_number, same_place}
use Rattle.lagbeside.proofs.Serving.{Climbs, Comes, run_served}
use Rattle.lagbeside.proofs.Others.{Beside, Hard, never_waits, others_run, timed_soft}

comes_first : (m : MuxState) (un : Bool) (n t : ℕ) → un ≡ false → (same_mux_state Detached m && not un) ≡ false → n ≤ t → Comes true t m n
comes_first m un n t e h l = grind (arith, nat_tests)

chosen : (c : Choice) (agg : AggId) → c ≡ Selected agg → (is_selected c ≡ true) × (is_unselected c ≡ false)
chosen c agg e = rw e (refl, refl)

distributing_now : (m : MuxState) (sel sync : Bool) → is_synchronized m ≡ true → sel ≡ true → sync ≡ true
    → (same_mux_state Attached m && (sel && sync)) ≡ false → m ≡ CollectingDistributing
distributing_now m sel sync h e f g = grind (arith, nat_tests)

pub same_number : (old new : SystemState) (i : ℕ) (x y : SystemPort) → IsSound old → IsSound new → new.ports ≡ old.ports
    → slice_get old.system_ports i ≡ Some x → slice_get new.system_ports i ≡ Some y → y.number ≡ x.number
same_number old new i x y s t e at there = grind (arith, nat_tests, port_numbers, configured_numbers, same_place)

-- the port after the calls
after : (gives : ℕ → ℕ → ℕ → Type 0) (u : Service) (left : ℕ) (agg : AggId) (old new : SystemState) (calls : List Call) (replies : List Reply)
    (states : List SystemState) (i : ℕ) (x : SystemPort) (may : Bool) (t : ℕ) → IsSound old → slice_get old.system_ports i ≡ Some x → IsServed u left x.port → 1 ≤ left
    → x.port.choice ≡ Selected agg → Comes may t x.port.mux x.port.wait_while → Runs (LeavesPort x.number) gives old calls replies states new
    → EachCall (LeavesServed u x.number) calls replies → Fed u.short x.number left calls replies
    → IsSound new × OfEach (AtPort x.number (Climbs u (Selected agg) may 1 (t - tick_count calls))) new.system_ports
after gives u left agg old new calls replies states i x may t s at served l c comes run each fed =
    run_served u (Selected agg) refl x.number gives may left t l old new calls replies states
    (at_number (Climbs u (Selected agg) may left t) 0 old.system_ports i x (ports_rise old s.ports) at ((served, c), comes)) run each fed

rested : (s : SystemState) (i : ℕ) (x : SystemPort) → IsSound s → slice_get s.system_ports i ≡ Some x → AtRest (mux_rows false) x.port
rested s i x h at = (all-get (MuxIsSettled s.keys s.system_ports) s.system_ports i x at h.quiet.0).mux

pub stays_up : (gives : ℕ → ℕ → ℕ → Type 0) → StaysUp gives
stays_up gives u left agg old new calls replies states i x y s at served l c run each fed there =
    let rest = rested old i x s at in
    let first : Comes true x.port.wait_while x.port.mux x.port.wait_while =
    comes_first x.port.mux (is_unselected x.port.choice) x.port.wait_while x.port.wait_while (chosen x.port.choice agg c).1 rest.0 (omega arith) in
    let end = after gives u left agg old new calls replies states i x true x.port.wait_while s at served l c first run each fed in
    let number = same_number old new i x y s end.0 (runs_ports (LeavesPort x.number) gives old new calls replies states run) at there in
    let b = all-get (λ (z : SystemPort). AtPort x.number (Climbs u (Selected agg) true 1 (x.port.wait_while - tick_count calls)) z.number z.port)
    new.system_ports i y there end.1 number in (
      b.0.0,
      b.0.1,
      λ m. (let last = after gives u left agg old new calls replies states i x false 0 s at served l c (inl (ap is_synchronized m)) run each fed in
          let d = all-get (λ (z : SystemPort). AtPort x.number (Climbs u (Selected agg) false 1 (0 - tick_count calls)) z.number z.port)
          new.system_ports i y there last.1 number in
          elim d.1 [
            | inl sync ↦ distributing_now y.port.mux (is_selected y.port.choice) (partner_synchronized y.port) sync (chosen y.port.choice agg b.0.1).0
                b.0.0.6 (rested new i y last.0 there).1.1.1.1.0
            | inr w ↦ absurd (no w.0)
          ]),
    )

wait_only : (n : ℕ) (u : Service) (c : Choice) (t : ℕ) (ports : List SystemPort) → OfEach (AtPort n (Climbs u c true 1 t)) ports
    → OfEach (AtPort n (λ p. p.mux ≡ Waiting → p.wait_while ≤ t)) ports
wait_only n u c t [] a = tt
wait_only n u c t (x ∷ xs) a = (λ e w. elim (a.0 e).1 [ inl s ↦ absurd (not_synced x.port.mux w s) | inr r ↦ r.2 ], wait_only n u c t xs a.1)
  where
    not_synced : (m : MuxState) → m ≡ Waiting → is_synchronized m ≡ true → ⊥
    not_synced m e h = grind (arith, nat_tests)

pub comes_up : (gives : ℕ → ℕ → ℕ → Type 0) → ComesUp gives
comes_up gives u left agg old new calls replies states i x y s timed at served l c run none each fed many there =
    let rest = rested old i x s at in
    let time = all-get (λ (z : SystemPort). z.port.wait_while ≤ 20) old.system_ports i x at timed in
    let first : Comes true 20 x.port.mux x.port.wait_while =
    comes_first x.port.mux (is_unselected x.port.choice) x.port.wait_while 20 (chosen x.port.choice agg c).1 rest.0 time in
    let end = after gives u left agg old new calls replies states i x true 20 s at served l c first run each fed in
    let number = same_number old new i x y s end.0 (runs_ports (LeavesPort x.number) gives old new calls replies states run) at there in
    let t = 20 - tick_count calls in
    let b = all-get (λ (z : SystemPort). AtPort x.number (Climbs u (Selected agg) true 1 t) z.number z.port) new.system_ports i y there end.1 number in
    let others = others_run (LeavesPort x.number) x.number agg gives false 20 old new calls replies states (λ e. refl)
    (timed_soft x.number agg old.system_ports timed) run none in
    elim b.1 [
      | inl sync ↦ distributing_now y.port.mux (is_selected y.port.choice) (partner_synchronized y.port) sync (chosen y.port.choice agg b.0.1).0
          b.0.0.6 (rested new i y end.0 there).1.1.1.1.0
      | inr w ↦ absurd (never_waits u (Selected agg) new i y agg t t (omega (arith, many)) (omega (arith, many)) end.0 there b.0.1
          (subst (λ n. OfEach (AtPort n (λ p. p.mux ≡ Waiting → p.wait_while ≤ t)) new.system_ports) (sym number)
          (wait_only x.number u (Selected agg) t new.system_ports end.1))
          (subst (λ n. OfEach (Beside n (Hard agg t)) new.system_ports) (sym number) others) w.1)
    ]
