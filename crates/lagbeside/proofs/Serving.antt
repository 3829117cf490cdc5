-- A port that is served stays so, and climbs.
use Rattle.lagbeside.proofs.Common.{Bool, List, None, Ok, Option, Some, [], ap, arith, eqb-true, false, if◌then◌else◌, inl, inr, refl, subst, sym}
use Rattle.lagbeside.proofs.Common.{true, ℕ, ◌&&◌, ◌+◌, ◌-◌, ◌==◌, ◌∙◌, ◌∷◌, ◌≡◌, ◌≤◌, ◌⊎◌, cases_Bool, nat_tests, Choice, Unselected, StateBits}
use Rattle.lagbeside.proofs.Common.{is_selected, is_unselected, same_party, party_itself, Lacpdu, party_of, MuxState, Waiting, Current, Machines}
use Rattle.lagbeside.proofs.Common.{is_synchronized, mux_rows, same_mux_state, receive_rows, recorded_synchronization, AtRest, RunsToRest, count_down}
use Rattle.lagbeside.proofs.Common.{Reply, TookLacpdu, SystemPort, Call, Configure, OnlyPortChangesBy, ProcessesLacpdu, Receive, Restart, Set_link}
use Rattle.lagbeside.proofs.Common.{Step, ThenSettles, Tick, Transmit, choice_with_link, can_receive, can_receive_in, Setting, IsSound, SystemState}
use Rattle.lagbeside.proofs.Common.{port_index, named, all-get, found_place, processed_on, EachCall, tick_count, Asides, LeavesPort, Runs, Fed}
use Rattle.lagbeside.proofs.Common.{IsServed, LeavesServed, Serves, Service, in_sync, timeout_time}
use Rattle.lagsystem.specs.declared.drive.Reply.TheVariants as reply
use Rattle.lagbeside.proofs.EachSetting.{KeptBySetting, asides_each, asides_sound, used_port}
use Rattle.lagbeside.proofs.EachPort.{KeptByCall, KeptBySettling, OfEach, Step-each, Tick-each, took}
use Rattle.lagbeside.proofs.Hearing.{EnabledKeep, both, is_number, no, stays_up, times_keep}
use Rattle.lagbeside.proofs.Knowing.{asleep, decoded, rests_still, starts_with, takes_each}
use Rattle.lagbeside.proofs.OnePort.{AtPort, mux_leaves, periodic_leaves}

-- SELECTED so, and served
abbrev pub Held : Service → Choice → ℕ → Machines → Type 0
Held u c left p = IsServed u left p × (p.choice ≡ c)

-- in ATTACHED or beyond, or, if it may wait, in WAITING for so many ticks at the most
abbrev pub Comes : Bool → ℕ → MuxState → ℕ → Type 0
Comes may t m n = (is_synchronized m ≡ true) ⊎ ((may ≡ true) × (m ≡ Waiting) × (n ≤ t))

abbrev pub Climbs : Service → Choice → Bool → ℕ → ℕ → Machines → Type 0
Climbs u c may left t p = (IsServed u left p × (p.choice ≡ c)) × (Comes may t p.mux p.wait_while)

-- the mux machine

abbrev Rises-so : Bool → ℕ → Machines → Type 0
Rises-so may t p = (is_selected p.choice ≡ true) × Comes may t p.mux p.wait_while

not_attached : (m : MuxState) (g : Bool) (from : MuxState) → is_synchronized from ≡ false → (same_mux_state from m && g) ≡ true → is_synchronized m ≡ true → ⊥
not_attached m g from f h e = grind (arith, nat_tests)

both_not : (c : Choice) → is_selected c ≡ true → is_unselected c ≡ true → ⊥
both_not c h k = grind (arith, nat_tests)

not_waiting : (m : MuxState) (g : Bool) (s : MuxState) → same_mux_state s Waiting ≡ false → (same_mux_state s m && g) ≡ true → m ≡ Waiting → ⊥
not_waiting m g s f h e = no (sym (ap (λ b. b && g) f) ∙ subst (λ x. (same_mux_state s x && g) ≡ true) e h)

pub and_right : (a b : Bool) → (a && b) ≡ true → b ≡ true
and_right a b h = grind (arith, nat_tests)

rises_rows : (may : Bool) (t : ℕ) (ready : Bool) → EnabledKeep (Rises-so may t) (mux_rows ready)
rises_rows may t ready = grind (arith, nat_tests)

pub climbs_settles : (n : ℕ) (u : Service) (c : Choice) (may : Bool) (left t : ℕ) → is_selected c ≡ true → KeptBySettling (AtPort n (Climbs u c may left t))
climbs_settles n u c may left t sel = record {
  mux = λ m ready p q h a e. (let b = a e in (
    mux_leaves (Held u c left) ready p q h b.0,
    (times_keep (Rises-so may t) (mux_rows ready) (rises_rows may t ready) h.0 p q h.1 (ap is_selected b.0.1 ∙ sel, b.1)).1,
  ));
  periodic = λ m p q h a e. periodic_leaves (Climbs u c may left t) p q h (a e);
  select = λ m choice p none may a e. absurd (no (sym none ∙ (ap is_selected (a e).0.1 ∙ sel)));
}

-- the receive machine rests

served_rests : (p : Machines) → p.enabled ≡ true → p.receive ≡ Current → (p.current_while == 0) ≡ false → AtRest receive_rows p
served_rests p up current some = rw (current, up, some) (refl, (refl, (refl, (refl, (refl, tt)))))

some_left : (n left : ℕ) → 1 ≤ left → left ≤ n → (n == 0) ≡ false
some_left n left l m = grind (arith, nat_tests)

come_nearer : (may : Bool) (t n : ℕ) (m : MuxState) → Comes may t m n → Comes may (t - 1) m (n - 1)
come_nearer may t n m h = elim h [ inl s ↦ inl s | inr w ↦ inr (w.0, w.1, omega (arith, w.2)) ]

pub climbs_ticks : (u : Service) (c : Choice) (may : Bool) (left t : ℕ) (p q : Machines) → 2 ≤ left → RunsToRest receive_rows (count_down p) q
    → Climbs u c may left t p → Climbs u c may (left - 1) (t - 1) q
climbs_ticks u c may left t p q l h a = grind (arith, nat_tests, served_rests, count_down, some_left, Climbs, rests_still, receive_rows, come_nearer)

-- an LACPDU that serves it

pub served_first : (u : Service) (v : Lacpdu) (p q : Machines) → p.enabled ≡ true → p.party ≡ u.own → p.active ≡ u.active → p.short ≡ u.short
    → can_receive p ≡ true → Serves u v → ProcessesLacpdu v p q → IsServed u (timeout_time u.short) q
served_first u v p q up own active short awake serves h = elim h [
  | inl f ↦ elim f [
    | inl g ↦ (let t = recorded_synchronization v p in
        let sync : t ≡ true = subst (λ a. in_sync p.party a v ≡ true) (sym active) (subst (λ o. in_sync o u.active v ≡ true) (sym own) serves.1) in
        subst (IsServed u (timeout_time u.short)) (sym g.1) (
          up,
          own,
          active,
          short,
          refl,
          ap (named v.actor) (decoded t v.actor) ∙ serves.0,
          ap (λ (b : StateBits). b.synchronization) (decoded t v.actor) ∙ sync,
          subst (λ b. timeout_time b ≤ (if p.short then 30 else 900)) short (starts_with p.short),
        ))
    | inr g ↦ absurd g
  ]
  | inr r ↦ absurd (asleep (can_receive_in p.receive) p.enabled up awake r.0.0)
]

-- what a port keeps that knows this party already
keeps_choice : (u : Service) (v : Lacpdu) (p q : Machines) → party_of p.partner ≡ u.who → Serves u v → ProcessesLacpdu v p q
    → (q.choice ≡ p.choice) × (q.mux ≡ p.mux) × (q.wait_while ≡ p.wait_while)
keeps_choice u v p q who serves h = elim h [
  | inl f ↦ elim f [
    | inl g ↦ (let same : same_party (party_of v.actor) (party_of p.partner) ≡ true =
        subst (λ y. same_party y (party_of p.partner) ≡ true) (who ∙ sym serves.0) (party_itself (party_of p.partner)) in (
          ap (λ (r : Machines). r.choice) g.1 ∙ ap (λ b. if b then p.choice else Unselected) same,
          ap (λ (r : Machines). r.mux) g.1,
          ap (λ (r : Machines). r.wait_while) g.1,
        ))
    | inr g ↦ absurd g
  ]
  | inr r ↦ (ap (λ (r : Machines). r.choice) r.1, ap (λ (r : Machines). r.mux) r.1, ap (λ (r : Machines). r.wait_while) r.1)
]

climbs_takes : (u : Service) (c : Choice) (may : Bool) (left t : ℕ) (v : Lacpdu) (p q : Machines) → Serves u v → can_receive p ≡ true
    → Climbs u c may left t p → ProcessesLacpdu v p q → Climbs u c may (timeout_time u.short) t q
climbs_takes u c may left t v p q serves awake a h = let s = a.0.0 in
    let k = keeps_choice u v p q s.5 serves h in (
      (served_first u v p q s.0 s.1 s.2 s.3 awake serves h, k.0 ∙ a.0.1),
      subst (λ m. Comes may t m q.wait_while) (sym k.1) (subst (λ n. Comes may t p.mux n) (sym k.2) a.1),
    )

-- so of the port with this number
pub takes_at : (P Q : Machines → Type 0) (m : ℕ) (old new : SystemState) (v : Lacpdu) (o : Option ℕ) → IsSound old → port_index m old.system_ports ≡ o
    → ((p q : Machines) → can_receive p ≡ true → P p → ProcessesLacpdu v p q → Q q) → KeptBySettling (AtPort m Q)
    → ThenSettles (OnlyPortChangesBy o (ProcessesLacpdu v)) old new → OfEach (AtPort m P) old.system_ports → OfEach (AtPort m Q) new.system_ports
takes_at P Q m old new v None sound e does settles h a = absurd h.1.0
takes_at P Q m old new v (Some k) sound e does settles h a = let z = h.1.0.0 in
    let at = h.1.0.2 in
    let number : z.number ≡ m = found_place m old.system_ports k z e at in
    let was : P z.port = all-get (λ (c : SystemPort). AtPort m P c.number c.port) old.system_ports k z at a number in
    subst (λ j. OfEach (AtPort j Q) new.system_ports) number
    (takes_each Q old new v k z sound at (λ q awake d. does z.port q awake was d)
    (subst (λ j. KeptBySettling (AtPort j Q)) (sym number) settles) h)

-- the calls

link_choice : (o : Option ℕ) (up : Bool) (c : Choice) → up ≡ true → choice_with_link o up c ≡ c
link_choice o up c e = grind (arith, nat_tests)

module _ (u : Service) (c : Choice) (sel : is_selected c ≡ true) (n : ℕ) (gives : ℕ → ℕ → ℕ → Type 0) where
  kept : (may : Bool) (left t : ℕ) → 1 ≤ left → (call : Call) (answer : Reply) → LeavesServed u n call answer → (call ≡ Tick → ⊥)
      → processed_on n call answer ≡ false → KeptByCall (AtPort n (Climbs u c may left t)) call answer
  kept may left t l Tick answer v none f = absurd (none refl)
  kept may left t l (Set_link m up) answer v none f = λ max_links p q h a e.
      let b = a e in
      let s = b.0.0 in
      let is : up ≡ true = stays_up (m == n) up v.0 (is_number m n e) in
      let r : Machines = record p { enabled = up; choice = choice_with_link max_links up p.choice } in
      subst (Climbs u c may left t) (sym (rests_still receive_rows h.0 r q (served_rests r is s.4 (some_left p.current_while left l s.7)) h.1))
      (((is, s.1, s.2, s.3, s.4, s.5, s.6, s.7), link_choice max_links up p.choice is ∙ b.0.1), b.1)
  kept may left t l (Receive m octets) answer v none f = λ w p q took g h a e.
      both (m == n) (is_number m n e) (sym (ap (λ (r : Reply). processed_on n (Receive m octets) r) took) ∙ f)
  kept may left t l (Configure m change) answer v none f = λ p q h a e. both (m == n) (is_number m n e) v.0
  kept may left t l Restart answer v none f = absurd (no (sym v.0))
  kept may left t l (Transmit m) answer v none f = λ p told a e. a e
  kept may left t l call answer v none f = tt

  set_kept : (may : Bool) (left t : ℕ) (setting : Setting) → LeavesPort n setting → KeptBySetting (AtPort n (Climbs u c may left t)) setting
  set_kept may left t (Setting.Hold_port m held) v = λ p a e. absurd (v e)
  set_kept may left t (Setting.Set_mode m active short) v = λ p a e. absurd (v e)
  set_kept may left t (Setting.Set_max_delay max_delay) v = tt
  set_kept may left t (Setting.Set_max_links max_links) v = λ m p down a e. let s = (a e).0.0 in absurd (no (sym down ∙ s.0))
  set_kept may left t (Setting.Set_in_use agg now) v = λ m p a e. subst (Climbs u c may left t) (sym (used_port agg now p v)) (a e)

  aside_kept : (may : Bool) (left t : ℕ) (old new : SystemState) → Asides (LeavesPort n) old new
      → OfEach (AtPort n (Climbs u c may left t)) old.system_ports → OfEach (AtPort n (Climbs u c may left t)) new.system_ports
  aside_kept may left t old new h a =
      asides_each (LeavesPort n) (AtPort n (Climbs u c may left t)) (climbs_settles n u c may left t sel) (set_kept may left t) old new h a

  fed_kept : (left : ℕ) (call : Call) (answer : Reply) → 1 ≤ left → 1 ≤ (if processed_on n call answer then timeout_time u.short else left)
  fed_kept left call answer l = at_least (processed_on n call answer) u.short left l
    where
      at_least : (b short : Bool) (left : ℕ) → 1 ≤ left → 1 ≤ (if b then timeout_time short else left)
      at_least b short left l = grind (arith, nat_tests)

  climbs_to : (may : Bool) (a b t : ℕ) (s : SystemState) → a ≡ b → OfEach (AtPort n (Climbs u c may a t)) s.system_ports
      → OfEach (AtPort n (Climbs u c may b t)) s.system_ports
  climbs_to may a b t s e h = subst (λ l. OfEach (AtPort n (Climbs u c may l t)) s.system_ports) e h

  -- the port processes an LACPDU
  processed : (may : Bool) (left t : ℕ) (call : Call) (answer : Reply) (old mid : SystemState) → IsSound old → LeavesServed u n call answer
      → processed_on n call answer ≡ true → Step gives old call answer mid → OfEach (AtPort n (Climbs u c may left t)) old.system_ports
      → OfEach (AtPort n (Climbs u c may (timeout_time u.short) t)) mid.system_ports
  processed may left t (Receive m octets) (reply.Receive (Ok TookLacpdu)) old mid sound v is h a =
      let z = took (port_index m old.system_ports) octets old mid h in
      let e : m ≡ n = eqb-true m n is in
      let serves = v.1 e z.0 z.1 in
      let b = takes_at (Climbs u c may left t) (Climbs u c may (timeout_time u.short) t) m old mid z.0 (port_index m old.system_ports) sound refl
      (λ p q awake was d. climbs_takes u c may left t z.0 p q serves awake was d)
      (climbs_settles m u c may (timeout_time u.short) t sel) z.2
      (subst (λ j. OfEach (AtPort j (Climbs u c may left t)) old.system_ports) (sym e) a) in
      subst (λ j. OfEach (AtPort j (Climbs u c may (timeout_time u.short) t)) mid.system_ports) e b
  processed may left t call answer old mid sound v is h a = absurd (no is)

  if_so : (b : Bool) (x y : ℕ) → b ≡ true → x ≡ (if b then x else y)
  if_so b x y e = grind (arith, nat_tests)

  if_not : (b : Bool) (x y : ℕ) → b ≡ false → y ≡ (if b then x else y)
  if_not b x y e = grind (arith, nat_tests)

  -- a call that is no tick
  served_call : (may : Bool) (left t : ℕ) → 1 ≤ left → (call : Call) (answer : Reply) (old mid : SystemState) → IsSound old
      → LeavesServed u n call answer → (call ≡ Tick → ⊥) → Step gives old call answer mid → OfEach (AtPort n (Climbs u c may left t)) old.system_ports
      → OfEach (AtPort n (Climbs u c may (if processed_on n call answer then timeout_time u.short else left) t)) mid.system_ports
  served_call may left t l call answer old mid sound v none h a = let b = processed_on n call answer in elim (cases_Bool b) [
    | inl is ↦ climbs_to may (timeout_time u.short) (if b then timeout_time u.short else left) t mid (if_so b (timeout_time u.short) left is)
        (processed may left t call answer old mid sound v is h a)
    | inr f ↦ climbs_to may left (if b then timeout_time u.short else left) t mid (if_not b (timeout_time u.short) left f)
        (Step-each (AtPort n (Climbs u c may left t)) (climbs_settles n u c may left t sel) gives old call answer mid
        (kept may left t l call answer v none f) h a)
  ]

  weaker : (may : Bool) (left t : ℕ) → 1 ≤ left → (ports : List SystemPort) → OfEach (AtPort n (Climbs u c may left t)) ports
      → OfEach (AtPort n (Climbs u c may 1 t)) ports
  weaker may left t l [] a = tt
  weaker may left t l (x ∷ xs) a = (
    λ e. (let b = a.0 e in let s = b.0.0 in (((s.0, s.1, s.2, s.3, s.4, s.5, s.6, omega (arith, l, s.7)), b.0.1), b.1)),
    weaker may left t l xs a.1,
  )

  one_more : (may : Bool) (t ticks : ℕ) (ports : List SystemPort) → OfEach (AtPort n (Climbs u c may 1 (t - 1 - ticks))) ports
      → OfEach (AtPort n (Climbs u c may 1 (t - (ticks + 1)))) ports
  one_more may t ticks ports a = subst (λ m. OfEach (AtPort n (Climbs u c may 1 m)) ports) (omega arith) a

  pub run_served : (may : Bool) (left t : ℕ) → 1 ≤ left → (old new : SystemState) (calls : List Call) (replies : List Reply)
      (states : List SystemState) → OfEach (AtPort n (Climbs u c may left t)) old.system_ports
      → Runs (LeavesPort n) gives old calls replies states new → EachCall (LeavesServed u n) calls replies
      → Fed u.short n left calls replies → IsSound new × OfEach (AtPort n (Climbs u c may 1 (t - tick_count calls))) new.system_ports
  run_served may left t l old new [] [] [] a h v f = (
    asides_sound (LeavesPort n) old new h,
    aside_kept may 1 (t - 0) old new h
        (subst (λ m. OfEach (AtPort n (Climbs u c may 1 m)) old.system_ports) (omega arith) (weaker may left t l old.system_ports a)),
  )
  run_served may left t l old new (Tick ∷ calls) (answer ∷ answers) (before ∷ states) a h v f =
      let mid = Tick-each (AtPort n (Climbs u c may left t)) (AtPort n (Climbs u c may (left - 1) (t - 1)))
      (climbs_settles n u c may (left - 1) (t - 1) sel) (λ m p q r b e. climbs_ticks u c may left t p q f.0 r (b e)) gives before answer h.0 h.2
      (aside_kept may left t old before h.1 a) in
      let end = run_served may (left - 1) (t - 1) (omega (arith, f.0)) h.0 new calls answers states mid h.3 v.1 f.1 in
      (end.0, one_more may t (tick_count calls) new.system_ports end.1)
  run_served may left t l old new (call ∷ calls) (answer ∷ answers) (before ∷ states) a h v f =
      run_served may (if processed_on n call answer then timeout_time u.short else left) t (fed_kept left call answer l) h.0 new calls answers states
      (served_call may left t l call answer before h.0 (asides_sound (LeavesPort n) old before h.1) v.0 (λ e. cc) h.2
      (aside_kept may left t old before h.1 a)) h.3 v.1 f
  run_served may left t l old new calls replies states a h v f = absurd h
