-- Of one port, what each call keeps and each tick moves on, over a list of calls.
use Rattle.lagbeside.proofs.Common.{Bool, List, Some, [], ap, arith, false, option_map, refl, slice_get, subst, suc, sym, zero, ℕ, ◌+◌, ◌-◌, ◌<◌, ◌∙◌}
use Rattle.lagbeside.proofs.Common.{◌∷◌, ◌≡◌, ◌≤◌, nat_tests, none-some, same_Some, slice_get-map, AllByRecursion, Unselected, Detached, NoPeriodic}
use Rattle.lagbeside.proofs.Common.{Machines, mux_rows, RunsPeriodic, periodic_rows, receive_rows, AtRest, RunsToRest, count_down, Reply, SystemPort}
use Rattle.lagbeside.proofs.Common.{Call, Step, TableRun, Tick, configured_numbers, PeriodicIsSettled, Setting, IsSound, SystemState, port_numbers}
use Rattle.lagbeside.proofs.Common.{Step-frame, Rises, all-get, ports_rise, EachCall, tick_count, Asides, LeavesPort, Runs}
use Rattle.lagbeside.proofs.EachPort.{KeptByCall, KeptBySettling, OfEach, Step-each, Tick-each}
use Rattle.lagbeside.proofs.EachSetting.{KeptBySetting, asides_each, asides_sound, runs_ports, used_port}
use Rattle.lagbeside.proofs.Timers.{runs_keep}

-- the port with number n is so
abbrev pub AtPort : ℕ → (Machines → Type 0) → ℕ → Machines → Type 0
AtPort n P m p = m ≡ n → P p

-- what the mux and the periodic machine leave, and settling

abbrev without_mux : Machines → Machines
without_mux p = record p { mux = Detached; wait_while = 0; ntt = false }

-- a property that does not read what the mux machine changes
pub mux_leaves : (P : Machines → Type 0) (ready : Bool) (p q : Machines) → RunsToRest (mux_rows ready) p q → P (without_mux p) → P (without_mux q)
mux_leaves P ready p q h a = runs_keep (λ r. P (without_mux r)) (mux_rows ready)
    (λ p a. a, (λ p a. a, (λ p a. a, (λ p a. a, (λ p a. a, (λ p a. a, tt)))))) p q h a

abbrev without_periodic : Machines → Machines
without_periodic p = record p { periodic = NoPeriodic; periodic_timer = 0; ntt = false }

pub periodic_leaves : (P : Machines → Type 0) (p q : Machines) → RunsPeriodic p q → P (without_periodic p) → P (without_periodic q)
periodic_leaves P p q h a = subst (λ r. P (without_periodic r)) (sym h.2) (runs_keep (λ r. P (without_periodic r)) periodic_rows
    (λ p a. a, (λ p a. a, (λ p a. a, (λ p a. a, (λ p a. a, (λ p a. a, (λ p a. a, tt))))))) p h.0 h.1 a)

abbrev without_both : Machines → Machines
without_both p = record (without_mux (without_periodic p)) { choice = Unselected }

-- nor the periodic machine, nor the Selection Logic
pub settling_leaves : (P : ℕ → Machines → Type 0) → KeptBySettling (λ n p. P n (without_both p))
settling_leaves P = record {
  mux = λ n ready. mux_leaves (λ p. P n (without_both p)) ready;
  periodic = λ n. periodic_leaves (λ p. P n (without_both p));
  select = λ n choice p none may a. a;
}

-- P of port n, with so many ticks to go and so many gone, goes on over calls that are so
pub record GoesOn (Is : Call → Reply → Type 0) (P : ℕ → ℕ → Machines → Type 0) (n : ℕ) : Type 0 where
  pub settles : (most k : ℕ) → KeptBySettling (AtPort n (P most k))
  pub ticks : (most k : ℕ) (p q : Machines) → RunsToRest receive_rows (count_down p) q → AtRest periodic_rows p → P most k p → P (most - 1) (k + 1) q
  pub calls : (most k : ℕ) (call : Call) (answer : Reply) → Is call answer → (call ≡ Tick → ⊥) → KeptByCall (AtPort n (P most k)) call answer
  pub choice : (most k : ℕ) (p : Machines) → P most k p → P most k (record p { choice = Unselected })

pub with_rest : (P : ℕ → Machines → Type 0) (ports : List SystemPort) → OfEach P ports → AllByRecursion PeriodicIsSettled ports
    → OfEach (λ m p. P m p × AtRest periodic_rows p) ports
with_rest P [] a s = tt
with_rest P (x ∷ xs) a s = ((a.0, s.0.rows), with_rest P xs a.1 s.1)

abbrev Ends : (ℕ → ℕ → Machines → Type 0) → ℕ → ℕ → ℕ → ℕ → SystemState → Type 0
Ends P n most k ticks new = IsSound new × OfEach (AtPort n (P (most - ticks) (k + ticks))) new.system_ports

none_passed : (P : ℕ → ℕ → Machines → Type 0) (n most k : ℕ) (ports : List SystemPort) → OfEach (AtPort n (P most k)) ports
    → OfEach (AtPort n (P (most - 0) (k + 0))) ports
none_passed P n most k ports a = grind (arith, nat_tests)

one_more : (P : ℕ → ℕ → Machines → Type 0) (n most k ticks : ℕ) (ports : List SystemPort) → OfEach (AtPort n (P (most - 1 - ticks) (k + 1 + ticks))) ports
    → OfEach (AtPort n (P (most - (ticks + 1)) (k + (ticks + 1)))) ports
one_more P n most k ticks ports a = grind (arith, nat_tests)

-- what other ports are set to, and what leaves all ports, leaves it, too
setting_leaves : (P : Machines → Type 0) (n : ℕ) → ((p : Machines) → P p → P (record p { choice = Unselected })) → (setting : Setting)
    → LeavesPort n setting → KeptBySetting (AtPort n P) setting
setting_leaves P n c (Setting.Hold_port m held) other = λ p a e. absurd (other e)
setting_leaves P n c (Setting.Set_mode m active short) other = λ p a e. absurd (other e)
setting_leaves P n c (Setting.Set_max_links max_links) other = λ m p down a e. c p (a e)
setting_leaves P n c (Setting.Set_max_delay max_delay) other = tt
setting_leaves P n c (Setting.Set_in_use agg now) other = λ m p a e. subst P (sym (used_port agg now p other)) (a e)

module _ (Is : Call → Reply → Type 0) (P : ℕ → ℕ → Machines → Type 0) (n : ℕ) (g : GoesOn Is P n) (gives : ℕ → ℕ → ℕ → Type 0) where
  beside : (most k : ℕ) (old new : SystemState) → Asides (LeavesPort n) old new → OfEach (AtPort n (P most k)) old.system_ports
      → OfEach (AtPort n (P most k)) new.system_ports
  beside most k = asides_each (LeavesPort n) (AtPort n (P most k)) (g.settles most k) (setting_leaves (P most k) n (g.choice most k))

  ends : (most k : ℕ) (old new : SystemState) (calls : List Call) (replies : List Reply) (states : List SystemState)
      → OfEach (AtPort n (P most k)) old.system_ports → Runs (LeavesPort n) gives old calls replies states new → EachCall Is calls replies
      → Ends P n most k (tick_count calls) new
  ends most k old new [] [] [] a h u =
      (asides_sound (LeavesPort n) old new h, none_passed P n most k new.system_ports (beside most k old new h a))
  ends most k old new (Tick ∷ calls) (answer ∷ answers) (before ∷ states) a h u =
      let s = asides_sound (LeavesPort n) old before h.1 in
      let rest = with_rest (AtPort n (P most k)) before.system_ports (beside most k old before h.1 a) s.quiet.1 in
      let mid = Tick-each (λ m p. AtPort n (P most k) m p × AtRest periodic_rows p) (AtPort n (P (most - 1) (k + 1)))
      (g.settles (most - 1) (k + 1)) (λ m p q r b e. g.ticks most k p q r b.1 (b.0 e)) gives before answer h.0 h.2 rest in
      let end = ends (most - 1) (k + 1) h.0 new calls answers states mid h.3 u.1 in
      (end.0, one_more P n most k (tick_count calls) new.system_ports end.1)
  ends most k old new (call ∷ calls) (answer ∷ answers) (before ∷ states) a h u =
      ends most k h.0 new calls answers states (Step-each (AtPort n (P most k)) (g.settles most k) gives before call answer h.0
      (g.calls most k call answer u.0 (λ e. cc)) h.2 (beside most k old before h.1 a)) h.3 u.1
  ends most k old new calls replies states a h u = absurd h

-- the port at a place, by its number

wrong_number : (m n : ℕ) → m < n → m ≡ n → ⊥
wrong_number m n l e = omega (arith, l, e)

above : (S : Machines → Type 0) (low n : ℕ) (xs : List SystemPort) → Rises low (port_numbers xs) → n ≤ low → OfEach (λ m p. m ≡ n → S p) xs
above S low n [] r l = tt
above S low n (y ∷ ys) r l = grind (arith, nat_tests, wrong_number, above S y.number n ys r.1 (omega (arith, r.0, l)))

pub higher : (low : ℕ) (xs : List SystemPort) (i : ℕ) (x : SystemPort) → Rises low (port_numbers xs) → slice_get xs i ≡ Some x → low < x.number
higher low [] i x r e = absurd (none-some x e)
higher low (y ∷ ys) zero x r e = subst (λ (z : SystemPort). low < z.number) (same_Some y x e) r.0
higher low (y ∷ ys) (suc i) x r e = omega (arith, higher y.number ys i x r.1 e, r.0)

pub at_number : (S : Machines → Type 0) (low : ℕ) (xs : List SystemPort) (i : ℕ) (x : SystemPort) → Rises low (port_numbers xs)
    → slice_get xs i ≡ Some x → S x.port → OfEach (λ m p. m ≡ x.number → S p) xs
at_number S low [] i x r e s = absurd (none-some x e)
at_number S low (y ∷ ys) zero x r e s = let same : x ≡ y = sym (same_Some y x e) in (
  λ _. subst (λ (z : SystemPort). S z.port) same s,
  above S y.number x.number ys r.1 (subst (λ (z : SystemPort). z.number ≤ y.number) (sym same) (omega arith)),
)
at_number S low (y ∷ ys) (suc i) x r e s =
    (λ f. absurd (wrong_number y.number x.number (higher y.number ys i x r.1 e) f), at_number S y.number ys i x r.1 e s)

pub same_place : (xs ys : List SystemPort) (i : ℕ) (x y : SystemPort) → port_numbers ys ≡ port_numbers xs → slice_get xs i ≡ Some x
    → slice_get ys i ≡ Some y → y.number ≡ x.number
same_place xs ys i x y e f g = same_Some y.number x.number (sym (number_at ys i y g) ∙ (ap (λ l. slice_get l i) e ∙ number_at xs
    i x f))
  where
    number_at : (zs : List SystemPort) (j : ℕ) (z : SystemPort) → slice_get zs j ≡ Some z → slice_get (port_numbers zs) j ≡ Some z.number
    number_at zs j z h = slice_get-map (λ (v : SystemPort). v.number) zs j ∙ ap (option_map (λ (v : SystemPort). v.number)) h

-- what each call keeps, a list of them keeps
pub calls_each : (gives : ℕ → ℕ → ℕ → Type 0) (P : SystemState → Type 0)
    → ((old new : SystemState) (call : Call) (answer : Reply) → Step gives old call answer new → P old → P new)
    → (old new : SystemState) (calls : List Call) (replies : List Reply) → TableRun gives old calls replies new → P old → P new
calls_each gives P k old new [] [] h p = subst P (sym h) p
calls_each gives P k old new (call ∷ calls) (answer ∷ answers) h p =
    calls_each gives P k h.0 new calls answers h.2 (k old h.0 call answer h.1 p)
calls_each gives P k old new calls replies h p = absurd h

pub same_ports : (gives : ℕ → ℕ → ℕ → Type 0) (old new : SystemState) (calls : List Call) (replies : List Reply)
    → TableRun gives old calls replies new → new.ports ≡ old.ports
same_ports gives old new calls replies h = calls_each gives (λ s. s.ports ≡ old.ports)
    (λ s t call answer step e. ap (λ (u : SystemState). u.ports) (Step-frame gives s call answer t step) ∙ e) old new calls replies h refl

-- the port at a place, after the calls
pub goes_on : (Is : Call → Reply → Type 0) (P : ℕ → ℕ → Machines → Type 0) (gives : ℕ → ℕ → ℕ → Type 0) (most : ℕ) (old new : SystemState)
    (calls : List Call) (replies : List Reply) (states : List SystemState) (i : ℕ) (x y : SystemPort) → GoesOn Is P x.number → IsSound old
    → slice_get old.system_ports i ≡ Some x → P most 0 x.port → Runs (LeavesPort x.number) gives old calls replies states new
    → EachCall Is calls replies → slice_get new.system_ports i ≡ Some y → IsSound new × P (most - tick_count calls) (0 + tick_count calls) y.port
goes_on Is P gives most old new calls replies states i x y g s at p h u there =
    let first = at_number (P most 0) 0 old.system_ports i x (ports_rise old s.ports) at p in
    let end = ends Is P x.number g gives most 0 old new calls replies states first h u in
    let kept = runs_ports (LeavesPort x.number) gives old new calls replies states h in
    grind (arith, nat_tests, port_numbers, configured_numbers, same_place, tick_count, all-get, AtPort)
