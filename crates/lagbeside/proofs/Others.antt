-- The other ports of an aggregator wait no longer, if none begins to.
use Rattle.lagbeside.proofs.Common.{Bool, List, Option, Some, [], ap, arith, eqb-true, false, if◌then◌else◌, inl, inr, not, refl, slice_get, subst}
use Rattle.lagbeside.proofs.Common.{sym, true, ℕ, ◌&&◌, ◌+◌, ◌-◌, ◌==◌, ◌∙◌, ◌∷◌, ◌≡◌, ◌≤◌, ◌⊎◌, cases_Bool, nat_tests, AllByRecursion, AggId, Key}
use Rattle.lagbeside.proofs.Common.{Choice, Selected, Standby, Unselected, is_unselected, same_party, Lacpdu, party_of, MuxState, Detached, Waiting}
use Rattle.lagbeside.proofs.Common.{Machines, mux_rows, same_mux_state, default_partner, lacpdu_rows, receive_rows, RunsToRest, Starts, before_start}
use Rattle.lagbeside.proofs.Common.{count_down, has_chosen, has_waited, is_detached_or_waiting, occupies, Reply, SystemPort, Call, Configure}
use Rattle.lagbeside.proofs.Common.{ProcessesLacpdu, Receive, Restart, Set_link, Tick, Transmit, changed_party, choice_with_link, MuxIsSettled}
use Rattle.lagbeside.proofs.Common.{Setting, IsSound, SystemState, stage_of, tick_count, Asides, OnceTicked, Runs, NoneBegins, Service, begins_in}
use Rattle.lagbeside.proofs.EachPort.{KeptByCall, KeptBySettling, OfEach, Step-each, Tick-each}
use Rattle.lagbeside.proofs.Hearing.{no}
use Rattle.lagbeside.proofs.OnePort.{AtPort, periodic_leaves}
use Rattle.lagbeside.proofs.Timers.{RowsKeep, runs_keep, takes_keep}
use Rattle.lagbeside.proofs.EachSetting.{KeptBySetting, asides_each}
use Rattle.lagbeside.proofs.ReadyMembers.{Fine, no_member_waits}

-- an occupant in WAITING has so many ticks left at the most
abbrev pub Hard : AggId → ℕ → Machines → Type 0
Hard agg t p = occupies agg p.choice ≡ true → p.mux ≡ Waiting → p.wait_while ≤ t

-- so it has, or it begins
abbrev pub Soft : AggId → ℕ → Machines → Type 0
Soft agg t p = occupies agg p.choice ≡ true → p.mux ≡ Waiting → (p.wait_while ≤ t) ⊎ (p.wait_while ≡ 20)

abbrev pub Beside : ℕ → (Machines → Type 0) → ℕ → Machines → Type 0
Beside n P m p = (m == n) ≡ false → P p

detached_waits : {A : Type 0} → Detached ≡ Waiting → A
detached_waits e = absurd cc

soft_rows : (agg : AggId) (t : ℕ) (ready : Bool) → RowsKeep (Soft agg t) (mux_rows ready)
soft_rows agg t ready = grind (arith, nat_tests)

promoted : (agg given : AggId) (c d : Choice) → c ≡ Standby given → d ≡ Selected given → occupies agg d ≡ true → occupies agg c ≡ true
promoted agg given c d e f h = rw e (subst (λ x. occupies agg x ≡ true) f h)

soft_settles : (n : ℕ) (agg : AggId) (t : ℕ) → KeptBySettling (Beside n (Soft agg t))
soft_settles n agg t = record {
  mux = λ m ready p q h a e. runs_keep (Soft agg t) (mux_rows ready) (soft_rows agg t ready) p q h (a e);
  periodic = λ m p q h a. periodic_leaves (λ r. (m == n) ≡ false → Soft agg t r) p q h a;
  select = λ m choice p none may a e o w. elim may.0 [
    | inl x ↦ detached_waits (sym x.1 ∙ w)
    | inr x ↦ a e (promoted agg x.0 p.choice choice x.1 x.2 o) w
  ];
}

if_occupies : (agg : AggId) (b : Bool) (c : Choice) → occupies agg (if b then c else Unselected) ≡ true → occupies agg c ≡ true
if_occupies agg b c h = grind (arith, nat_tests)

link_occupies : (agg : AggId) (o : Option ℕ) (up : Bool) (c : Choice) → occupies agg (choice_with_link o up c) ≡ true → occupies agg c ≡ true
link_occupies agg o up c h = grind (arith, nat_tests)

receive_soft : (agg : AggId) (t : ℕ) → RowsKeep (Soft agg t) receive_rows
receive_soft agg t = grind (arith, nat_tests, if_occupies, same_party, party_of, default_partner)

take_soft : (agg : AggId) (t : ℕ) (v : Lacpdu) → RowsKeep (Soft agg t) (lacpdu_rows v)
take_soft agg t v = (λ p a o w. a (if_occupies agg (same_party (party_of v.actor) (party_of p.partner)) p.choice o) w, tt)

soft_ticks : (agg : AggId) (t : ℕ) (p q : Machines) → RunsToRest receive_rows (count_down p) q → Hard agg t p → Soft agg (t - 1) q
soft_ticks agg t p q h a = runs_keep (Soft agg (t - 1)) receive_rows (receive_soft agg (t - 1)) (count_down p) q h
    (λ o w. let l = a o w in inl (omega (arith, l)))

starts_soft : (agg : AggId) (t : ℕ) (p q : Machines) → Starts p q → Soft agg t q
starts_soft agg t p q h o w = detached_waits (sym (ap (λ (r : Machines). r.mux) h.2) ∙ w)

soft_calls : (n : ℕ) (agg : AggId) (t : ℕ) (call : Call) (answer : Reply) → (call ≡ Tick → ⊥) → KeptByCall (Beside n (Soft agg t)) call answer
soft_calls n agg t Tick answer none = absurd (none refl)
soft_calls n agg t (Set_link m up) answer none = λ max_links p q h a e. runs_keep (Soft agg t) receive_rows (receive_soft agg t)
    (record p { enabled = up; choice = choice_with_link max_links up p.choice }) q h (λ o w. a e (link_occupies agg max_links up p.choice o) w)
soft_calls n agg t (Receive m octets) answer none = λ v p q took f h a e. takes_keep (Soft agg t) v (take_soft agg t v) p q h (a e)
soft_calls n agg t (Configure m change) answer none = λ p q h a e. starts_soft agg t (record p { party = changed_party change p.party }) q h.1
soft_calls n agg t Restart answer none = λ m s q h e. starts_soft agg t (before_start s) q h
soft_calls n agg t (Transmit m) answer none = λ p told a e. a e
soft_calls n agg t call answer none = tt

soft_sets : (n : ℕ) (agg : AggId) (t : ℕ) (setting : Setting) → KeptBySetting (Beside n (Soft agg t)) setting
soft_sets n agg t setting = grind (arith, nat_tests)

-- where none begins

not_begun : (agg : AggId) (c : Choice) (m : MuxState) (w : ℕ) → occupies agg c ≡ true → m ≡ Waiting → w ≡ 20
    → (occupies agg c && (same_mux_state Waiting m && (w == 20))) ≡ false → ⊥
not_begun agg c m w o e f h = grind (arith, nat_tests)

harden : (n : ℕ) (agg : AggId) (t : ℕ) (ports : List SystemPort) → AllByRecursion (λ (y : SystemPort). (y.number == n) ≡ false → begins_in agg y ≡ false) ports
    → OfEach (Beside n (Soft agg t)) ports → OfEach (Beside n (Hard agg t)) ports
harden n agg t [] k a = tt
harden n agg t (x ∷ xs) k a = (
  λ e o w. elim (a.0 e o w) [ inl l ↦ l | inr f ↦ absurd (not_begun agg x.port.choice x.port.mux x.port.wait_while o w f (k.0 e)) ],
  harden n agg t xs k.1 a.1,
)

pub timed_soft : (n : ℕ) (agg : AggId) (ports : List SystemPort) → AllByRecursion (λ (y : SystemPort). y.port.wait_while ≤ 20) ports
    → OfEach (Beside n (Soft agg 20)) ports
timed_soft n agg [] a = tt
timed_soft n agg (x ∷ xs) a = (λ e o w. inl a.0, timed_soft n agg xs a.1)

all_hard : (n : ℕ) (agg : AggId) (ports : List SystemPort) → OfEach (Beside n (Soft agg 20)) ports → OfEach (Beside n (Hard agg 20)) ports
all_hard n agg [] a = tt
all_hard n agg (x ∷ xs) a = (λ e o w. elim (a.0 e o w) [ inl l ↦ l | inr f ↦ omega (arith, f) ], all_hard n agg xs a.1)

-- wait_while has at most 20 ticks

abbrev Bounded : Machines → Type 0
Bounded p = p.wait_while ≤ 20

pub bounded_settles : KeptBySettling (λ n p. Bounded p)
bounded_settles = record {
  mux = λ n ready p q h a. runs_keep Bounded (mux_rows ready)
      (λ p a. omega arith, (λ p a. a, (λ p a. a, (λ p a. a, (λ p a. a, (λ p a. a, tt)))))) p q h a;
  periodic = λ n p q h a. periodic_leaves Bounded p q h a;
  select = λ n choice p none may a. a;
}

pub bounded_takes : (v : Lacpdu) (p q : Machines) → ProcessesLacpdu v p q → Bounded p → Bounded q
bounded_takes v p q h a = takes_keep Bounded v (λ p a. a, tt) p q h a

module _ (Sets : Setting → Type 0) (n : ℕ) (agg : AggId) (gives : ℕ → ℕ → ℕ → Type 0) where
  aside_soft : (t : ℕ) (old new : SystemState) → Asides Sets old new → OfEach (Beside n (Soft agg t)) old.system_ports
      → OfEach (Beside n (Soft agg t)) new.system_ports
  aside_soft t old new h a =
      asides_each Sets (Beside n (Soft agg t)) (soft_settles n agg t) (λ setting v. soft_sets n agg t setting) old new h a

  more_gone : (t ticks : ℕ) (ports : List SystemPort) → OfEach (Beside n (Hard agg (t - 1 - ticks))) ports
      → OfEach (Beside n (Hard agg (t - (ticks + 1)))) ports
  more_gone t ticks ports a = subst (λ m. OfEach (Beside n (Hard agg m)) ports) (omega arith) a

  -- before the first tick no port has more ticks left than it starts with
  now_hard : (ticked : Bool) (t : ℕ) (s : SystemState) → (ticked ≡ false → t ≡ 20) → (ticked ≡ true → NoneBegins agg n s)
      → OfEach (Beside n (Soft agg t)) s.system_ports → OfEach (Beside n (Hard agg t)) s.system_ports
  now_hard true t s e none a = harden n agg t s.system_ports (none refl) a
  now_hard false t s e none a = subst (λ m. OfEach (Beside n (Hard agg m)) s.system_ports) (sym (e refl))
      (all_hard n agg s.system_ports (subst (λ m. OfEach (Beside n (Soft agg m)) s.system_ports) (e refl) a))

  pub others_run : (ticked : Bool) (t : ℕ) (old new : SystemState) (calls : List Call) (replies : List Reply) (states : List SystemState)
      → (ticked ≡ false → t ≡ 20) → OfEach (Beside n (Soft agg t)) old.system_ports → Runs Sets gives old calls replies states new
      → OnceTicked (NoneBegins agg n) ticked calls states new → OfEach (Beside n (Hard agg (t - tick_count calls))) new.system_ports
  others_run ticked t old new [] [] [] e a h none = subst (λ m. OfEach (Beside n (Hard agg m)) new.system_ports) (omega arith)
      (now_hard ticked t new e none (aside_soft t old new h a))
  others_run ticked t old new (Tick ∷ calls) (answer ∷ answers) (before ∷ states) e a h none =
      let mid = Tick-each (Beside n (Hard agg t)) (Beside n (Soft agg (t - 1))) (soft_settles n agg (t - 1))
      (λ m p q r b f. soft_ticks agg t p q r (b f)) gives before answer h.0 h.2
      (now_hard ticked t before e none.0 (aside_soft t old before h.1 a)) in
      more_gone t (tick_count calls) new.system_ports
      (others_run true (t - 1) h.0 new calls answers states (λ f. absurd (no (sym f))) mid h.3 none.1)
  others_run ticked t old new (call ∷ calls) (answer ∷ answers) (before ∷ states) e a h none =
      others_run ticked t h.0 new calls answers states e
      (Step-each (Beside n (Soft agg t)) (soft_settles n agg t) gives before call answer h.0 (soft_calls n agg t call answer (λ f. cc)) h.2
      (aside_soft t old before h.1 a)) h.3 none.1
  others_run ticked t old new calls replies states e a h none = absurd h

-- a member at rest that has not waited is synchronized

chosen_occupies : (agg : AggId) (c : Choice) → has_chosen agg c ≡ true → (occupies agg c ≡ true) × (is_unselected c ≡ false)
chosen_occupies agg c h = grind (arith, nat_tests)

lag_waits : (m : MuxState) (n : ℕ) (un : Bool) → un ≡ false → (same_mux_state Detached m && not un) ≡ false → (m ≡ Waiting → n ≤ 0)
    → is_detached_or_waiting (stage_of m n) ≡ true → has_waited (stage_of m n) ≡ true
lag_waits m n un e h w l = grind (arith, nat_tests)

fine_ports : (u : Service) (c : Choice) (n : ℕ) (agg : AggId) (keys : List Key) (all : List SystemPort) (t r : ℕ) → t ≡ 0 → r ≡ 0
    → (ports : List SystemPort) → AllByRecursion (MuxIsSettled keys all) ports
    → OfEach (AtPort n (λ p. p.mux ≡ Waiting → p.wait_while ≤ t)) ports → OfEach (Beside n (Hard agg r)) ports → AllByRecursion (Fine agg) ports
fine_ports u c n agg keys all t r e f [] q a b = tt
fine_ports u c n agg keys all t r e f (x ∷ xs) q a b = (
  λ chosen lags. (let o = chosen_occupies agg x.port.choice chosen in
      lag_waits x.port.mux x.port.wait_while (is_unselected x.port.choice) o.1 q.0.mux.0
      (λ w. elim (cases_Bool (x.number == n)) [
        | inl is ↦ (let l = a.0 (eqb-true x.number n is) w in omega (arith, e, l))
        | inr other ↦ (let l = b.0 other o.0 w in omega (arith, f, l))
      ]) lags),
  fine_ports u c n agg keys all t r e f xs q.1 a.1 b.1,
)

-- so a member does not wait
pub never_waits : (u : Service) (c : Choice) (s : SystemState) (i : ℕ) (x : SystemPort) (agg : AggId) (t r : ℕ) → t ≡ 0 → r ≡ 0 → IsSound s
    → slice_get s.system_ports i ≡ Some x → x.port.choice ≡ Selected agg → OfEach (AtPort x.number (λ p. p.mux ≡ Waiting → p.wait_while ≤ t)) s.system_ports
    → OfEach (Beside x.number (Hard agg r)) s.system_ports → x.port.mux ≡ Waiting → ⊥
never_waits u c s i x agg t r e0 f0 h at e a b m =
    no_member_waits s i x agg h at e (fine_ports u c x.number agg s.keys s.system_ports t r e0 f0 s.system_ports h.quiet.0 a b) m
