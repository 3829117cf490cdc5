-- Ports that have joined, or whose link is down, do not begin to wait.
use Rattle.lagbeside.proofs.Common.{Bool, List, None, Option, Some, [], ap, arith, false, if◌then◌else◌, inl, inr, not, refl, slice_get, subst, suc}
use Rattle.lagbeside.proofs.Common.{sym, true, zero, ℕ, ◌&&◌, ◌+◌, ◌-◌, ◌<◌, ◌==◌, ◌∙◌, ◌∷◌, ◌≡◌, ◌≢◌, ◌≤◌, ◌⊎◌, nat_tests, AllByRecursion, AggId}
use Rattle.lagbeside.proofs.Common.{Key, Choice, Unselected, Party, is_selected, is_unselected, same_party, party_itself, Lacpdu, party_of, MuxState}
use Rattle.lagbeside.proofs.Common.{Detached, Waiting, ReceiveState, Current, Defaulted, Expired, Initialize, PortDisabled, with_mode, Machines}
use Rattle.lagbeside.proofs.Common.{is_synchronized, mux_rows, same_mux_state, RunsPeriodic, default_partner, receive_rows, recorded_synchronization}
use Rattle.lagbeside.proofs.Common.{same_receive_state, AtRest, RunsToRest, after_sending, count_down, occupies, Reply, SystemPort, Call, Configure}
use Rattle.lagbeside.proofs.Common.{ProcessesLacpdu, Receive, Restart, Set_link, Step, Tick, Transmit, choice_with_link, key_of, none_enabled}
use Rattle.lagbeside.proofs.Common.{MuxIsSettled, occupied, Setting, IsSound, SystemState, named, EachCall, tick_count, Asides, LeavesPort}
use Rattle.lagbeside.proofs.Common.{OnceTicked, Runs, NoneBegins, WaitsAreBounded, begins_in}
use Rattle.lagbeside.specs.Joining.{LetsNoneJoin, NoneBeginsToWait, OthersStandApart, SetsNoneFree, StandsApart}
use Rattle.lagbeside.proofs.Alone.{begins_not}
use Rattle.lagbeside.proofs.EachPort.{KeptByCall, KeptBySettling, MayBeGiven, OfEach, Step-each, Tick-each}
use Rattle.lagbeside.proofs.EachSetting.{KeptBySetting, asides_each, asides_sound, kept_key, key_after, runs_weaken, used_port}
use Rattle.lagbeside.proofs.Hearing.{EnabledKeep, both, is_number, no, times_keep}
use Rattle.lagbeside.proofs.Knowing.{decoded}
use Rattle.lagbeside.proofs.Never.{timed_bits}
use Rattle.lagbeside.proofs.OnePort.{mux_leaves, periodic_leaves}
use Rattle.lagbeside.proofs.Serving.{and_right}
use Rattle.lagbeside.proofs.Timers.{RowsKeep, runs_keep, takes_keep}

-- what the mux machine of a port is like that is not UNSELECTED

abbrev Clear : ℕ → Choice → MuxState → ℕ → Type 0
Clear w c m n = is_unselected c ≡ false
    → (same_mux_state Detached m ≡ false) × (is_selected c ≡ false → is_synchronized m ≡ false) × (m ≡ Waiting → n ≤ w)

-- for so many ticks the port is not DEFAULTED anew
abbrev Lasts : ℕ → ReceiveState → ℕ → Type 0
Lasts t Current n = t ≤ n + 29
Lasts t Expired n = t + 1 ≤ n
Lasts t Defaulted n = Unit {0}
Lasts t Initialize n = ⊥
Lasts t PortDisabled n = ⊥

abbrev Holds : Party → ℕ → Machines → Type 0
Holds who t p = (p.enabled ≡ false) ⊎ ((is_unselected p.choice ≡ false) × Lasts t p.receive p.current_while × (party_of p.partner ≡ who))

abbrev Joined : Party → ℕ → ℕ → Machines → Type 0
Joined who t w p = Clear w p.choice p.mux p.wait_while × Holds who t p

-- settling

not_so : (b : Bool) → not b ≡ true → b ≡ false
not_so b h = grind (arith, nat_tests)

joined_rows : (who : Party) (t w : ℕ) (ready : Bool) → EnabledKeep (Joined who t w) (mux_rows ready)
joined_rows who t w ready = grind (arith, nat_tests)

-- the receive machine

abbrev one_of : Bool → Choice → Choice
one_of b c = if b then c else Unselected

clear_one : (b : Bool) (w : ℕ) (c : Choice) (m : MuxState) (n : ℕ) → Clear w c m n → Clear w (one_of b c) m n
clear_one b w c m n a = grind (arith, nat_tests)

not_initial : (t n : ℕ) (r : ReceiveState) (g : Bool) → (same_receive_state Initialize r && g) ≡ true → Lasts t r n → ⊥
not_initial t n r g h l = grind (arith, nat_tests)

not_disabled : (t n : ℕ) (r : ReceiveState) (g : Bool) → (same_receive_state PortDisabled r && g) ≡ true → Lasts t r n → ⊥
not_disabled t n r g h l = grind (arith, nat_tests)

not_run_out : (t n : ℕ) (r : ReceiveState) → (same_receive_state Expired r && (n == 0)) ≡ true → Lasts t r n → ⊥
not_run_out t n r h l = grind (arith, nat_tests)

runs_out : (t n : ℕ) (r : ReceiveState) → (same_receive_state Current r && (n == 0)) ≡ true → Lasts t r n → t + 1 ≤ 30
runs_out t n r h l = grind (arith, nat_tests)

receive_joined : (who : Party) (t w : ℕ) → EnabledKeep (Joined who t w) receive_rows
receive_joined who t w = (
  λ p h a. (a.0, elim a.1 [ inl down ↦ inl down | inr s ↦ absurd (not_initial t p.current_while p.receive true h s.1) ]),
  (
    λ p h a. (a.0, inl (not_so p.enabled (and_right _ (not p.enabled) h))),
    (
      λ p h a. (
        a.0,
        elim a.1 [
          | inl down ↦ absurd (both p.enabled (and_right _ p.enabled h) down)
          | inr s ↦ absurd (not_disabled t p.current_while p.receive p.enabled h s.1)
        ],
      ),
      (
        λ p h a. (
          clear_one (same_party (party_of default_partner) (party_of p.partner)) w p.choice p.mux p.wait_while a.0,
          elim a.1 [ inl down ↦ inl down | inr s ↦ absurd (not_run_out t p.current_while p.receive h s.1) ],
        ),
        (
          λ p h a. (
            a.0,
            elim a.1 [
              | inl down ↦ inl down
              | inr s ↦ inr (
                s.0,
                runs_out t p.current_while p.receive h s.1,
                ap (named p.partner) (timed_bits p.partner) ∙ ap (named p.partner) (decoded false p.partner) ∙ s.2,
              )
            ],
          ),
          tt,
        ),
      ),
    ),
  ),
)

pub joined_receives : (who : Party) (t w : ℕ) (p q : Machines) → RunsToRest receive_rows p q → Joined who t w p → Joined who t w q
joined_receives who t w p q h a = times_keep (Joined who t w) receive_rows (receive_joined who t w) h.0 p q h.1 a

counts : (t n : ℕ) (r : ReceiveState) → 1 ≤ t → Lasts t r n → Lasts (t - 1) r (n - 1)
counts t n r l a = grind (arith, nat_tests)

ticked : (who : Party) (t w v : ℕ) (p q : Machines) → 1 ≤ t → w ≤ v + 1 → RunsToRest receive_rows (count_down p) q → Joined who t w p → Joined who (t - 1) v q
ticked who t w v p q l m h a = joined_receives who (t - 1) v (count_down p) q h (
  λ f. (let b = a.0 f in (b.0, b.1, λ e. (let k = b.2 e in omega (arith, m, k)))),
  elim a.1 [ inl down ↦ inl down | inr s ↦ inr (s.0, counts t p.current_while p.receive l s.1, s.2) ],
)

link_clear : (o : Option ℕ) (w : ℕ) (c : Choice) (m : MuxState) (n : ℕ) → Clear w c m n → Clear w (choice_with_link o false c) m n
link_clear o w c m n a = grind (arith, nat_tests)

-- an LACPDU of the party that is recorded

takes_long : (t : ℕ) (short : Bool) → t ≤ 30 → t ≤ (if short then 30 else 900) + 29
takes_long t short l = grind (arith, nat_tests)

one_true : (b : Bool) (c : Choice) → b ≡ true → one_of b c ≡ c
one_true b c e = grind (arith, nat_tests)

joined_takes : (who : Party) (t w : ℕ) → t ≤ 30 → (v : Lacpdu) (p q : Machines) → party_of v.actor ≡ who → ProcessesLacpdu v p q
    → Joined who t w p → Joined who t w q
joined_takes who t w l v p q same h a = elim h [
  | inl f ↦ elim f [
    | inl g ↦ subst (Joined who t w) (sym g.1) (
      clear_one (same_party (party_of v.actor) (party_of p.partner)) w p.choice p.mux p.wait_while a.0,
      elim a.1 [
        | inl down ↦ inl down
        | inr s ↦ (let k : same_party (party_of v.actor) (party_of p.partner) ≡ true =
            subst (λ y. same_party y (party_of p.partner) ≡ true) (s.2 ∙ sym same) (party_itself (party_of p.partner)) in
            inr (
              ap is_unselected (one_true (same_party (party_of v.actor) (party_of p.partner)) p.choice k) ∙ s.0,
              takes_long t p.short l,
              ap (named v.actor) (decoded (recorded_synchronization v p) v.actor) ∙ same,
            ))
      ],
    )
    | inr g ↦ absurd g
  ]
  | inr r ↦ subst (Joined who t w) (sym r.1) a
]

-- another mode
lasts_moded : (t n : ℕ) (r : ReceiveState) (b : Bool) → t ≤ 30 → Lasts t r n → Lasts t r (if same_receive_state Current r && b then 900 else n)
lasts_moded t n Current true l a = omega (arith, l)
lasts_moded t n Current false l a = a
lasts_moded t n Expired b l a = a
lasts_moded t n Defaulted b l a = a
lasts_moded t n Initialize b l a = a
lasts_moded t n PortDisabled b l a = a

-- of either kind of port

abbrev Kind : Key → ℕ → ℕ → Option Party → Machines → Type 0
Kind key t w None p = p.party.key ≢ key
Kind key t w (Some who) p = Joined who t w p

abbrev OtherKey : Key → Machines → Type 0
OtherKey key p = p.party.key ≢ key

kind_mux : (key : Key) (t w : ℕ) (o : Option Party) (ready : Bool) (p q : Machines) → RunsToRest (mux_rows ready) p q → Kind key t w o p → Kind key t w o q
kind_mux key t w None ready p q h a = mux_leaves (OtherKey key) ready p q h a
kind_mux key t w (Some who) ready p q h a = times_keep (Joined who t w) (mux_rows ready) (joined_rows who t w ready) h.0 p q h.1 a

kind_periodic : (key : Key) (t w : ℕ) (o : Option Party) (p q : Machines) → RunsPeriodic p q → Kind key t w o p → Kind key t w o q
kind_periodic key t w None p q h a = periodic_leaves (OtherKey key) p q h a
kind_periodic key t w (Some who) p q h a = periodic_leaves (Joined who t w) p q h a

kind_given : (key : Key) (t w : ℕ) (o : Option Party) (choice : Choice) (p : Machines) → MayBeGiven choice p → Kind key t w o p
    → Kind key t w o (record p { choice = choice })
kind_given key t w o choice p may a = grind (arith, nat_tests)

key_rows : (key : Key) → RowsKeep (OtherKey key) receive_rows
key_rows key = (λ p a. a, (λ p a. a, (λ p a. a, (λ p a. a, (λ p a. a, tt)))))

kind_ticks : (key : Key) (t w v : ℕ) (o : Option Party) (p q : Machines) → 1 ≤ t → w ≤ v + 1 → RunsToRest receive_rows (count_down p) q
    → Kind key t w o p → Kind key (t - 1) v o q
kind_ticks key t w v None p q l m h a = runs_keep (OtherKey key) receive_rows (key_rows key) (count_down p) q h a
kind_ticks key t w v (Some who) p q l m h a = ticked who t w v p q l m h a

kind_link : (key : Key) (t w : ℕ) (o : Option Party) (up : Bool) → ((who : Party) → o ≡ Some who → up ≡ false) → (most : Option ℕ) (p q : Machines)
    → RunsToRest receive_rows (record p { enabled = up; choice = choice_with_link most up p.choice }) q → Kind key t w o p → Kind key t w o q
kind_link key t w None up down most p q h a =
    runs_keep (OtherKey key) receive_rows (key_rows key) (record p { enabled = up; choice = choice_with_link most up p.choice }) q h a
kind_link key t w (Some who) up down most p q h a = let f = down who refl in
    let r = subst (λ b. RunsToRest receive_rows (record p { enabled = b; choice = choice_with_link most b p.choice }) q) f h in
    joined_receives who t w (record p { enabled = false; choice = choice_with_link most false p.choice }) q r
    (link_clear most w p.choice p.mux p.wait_while a.0, inl refl)

kind_takes : (key : Key) (t w : ℕ) → t ≤ 30 → (o : Option Party) (v : Lacpdu) (p q : Machines)
    → ((who : Party) → o ≡ Some who → party_of v.actor ≡ who) → ProcessesLacpdu v p q → Kind key t w o p → Kind key t w o q
kind_takes key t w l None v p q same h a = takes_keep (OtherKey key) v (λ p b. b, tt) p q h a
kind_takes key t w l (Some who) v p q same h a = joined_takes who t w l v p q (same who refl) h a

-- where they start

stays_there : (m : MuxState) (un : Bool) → (same_mux_state Detached m && not un) ≡ false → un ≡ false → same_mux_state Detached m ≡ false
stays_there m un d e = grind (arith, nat_tests)

first_kind : (key : Key) (t : ℕ) → t ≤ 30 → (o : Option Party) (p : Machines) → AtRest (mux_rows false) p
    → none_enabled receive_rows p ≡ true → p.wait_while ≤ 20 → StandsApart t key o p → Kind key t 20 o p
first_kind key t l o p m r w a = grind (arith, nat_tests)

-- the ports but n

module _ (key : Key) (hears : ℕ → Option Party) (n : ℕ) where
  abbrev Others : ℕ → ℕ → ℕ → Machines → Type 0
  Others t w m p = m ≢ n → Kind key t w (hears m) p

  others_settle : (t w : ℕ) → KeptBySettling (Others t w)
  others_settle t w = record {
    mux = λ m ready p q h a other. kind_mux key t w (hears m) ready p q h (a other);
    periodic = λ m p q h a other. kind_periodic key t w (hears m) p q h (a other);
    select = λ m choice p none may a other. kind_given key t w (hears m) choice p may (a other);
  }

  others_called : (t w : ℕ) → t ≤ 30 → (call : Call) (answer : Reply) → LetsNoneJoin hears n call answer → (call ≡ Tick → ⊥)
      → KeptByCall (Others t w) call answer
  others_called t w l Tick answer u none = absurd (none refl)
  others_called t w l (Set_link m up) answer u none = λ most p q h a other. kind_link key t w (hears m) up (u other) most p q h (a other)
  others_called t w l (Receive m octets) answer u none = λ v p q took f h a other.
      let v' = subst (λ (r : Reply). LetsNoneJoin hears n (Receive m octets) r) took u in
      kind_takes key t w l (hears m) v p q (λ who is. v' other who is v f) h (a other)
  others_called t w l (Configure m change) answer u none = λ p q h a other. absurd (other u)
  others_called t w l Restart answer u none = absurd u
  others_called t w l (Transmit m) answer u none = λ p told a other. kind_sent (hears m) p (a other)
    where
      kind_sent : (o : Option Party) (p : Machines) → Kind key t w o p → Kind key t w o (after_sending p)
      kind_sent None p a = a
      kind_sent (Some who) p a = a
  others_called t w l call answer u none = tt

  others_set : (t w : ℕ) → t ≤ 30 → (setting : Setting) → SetsNoneFree hears n setting → KeptBySetting (Others t w) setting
  others_set t w l (Setting.Hold_port m held) u = λ p a other.
      subst (λ o. Kind key t w o (record p { choice = Unselected })) (sym u.1) (subst (λ o. Kind key t w o p) u.1 (a other))
  others_set t w l (Setting.Set_mode m active short) u = λ p a other. kind_moded (hears m) p (a other)
    where
      kind_moded : (o : Option Party) (p : Machines) → Kind key t w o p → Kind key t w o (with_mode active short p)
      kind_moded None p a = a
      kind_moded (Some who) p a = (
        a.0,
        elim a.1 [
          | inl down ↦ inl down
          | inr s ↦ inr (s.0, lasts_moded t p.current_while p.receive (p.short && not short) l s.1, s.2)
        ],
      )
  others_set t w l (Setting.Set_max_delay max_delay) u = tt
  others_set t w l (Setting.Set_max_links max_links) u = λ m p down a other. kind_freed (hears m) p down (a other)
    where
      kind_freed : (o : Option Party) (p : Machines) → p.enabled ≡ false → Kind key t w o p → Kind key t w o (record p { choice = Unselected })
      kind_freed None p down a = a
      kind_freed (Some who) p down a = (λ f. absurd (no (sym f)), inl down)
  others_set t w l (Setting.Set_in_use agg now) u = λ m p a other. subst (Kind key t w (hears m)) (sym (used_port agg now p u)) (a other)

  -- none of them begins

  begins_not_joined : (agg : AggId) (c : Choice) (m : MuxState) (k : ℕ) (b : Bool) → Clear 19 c m k
      → (occupies agg c && (same_mux_state Waiting m && (k == 20))) ≡ b → b ≡ false
  begins_not_joined agg c m k false a e = refl
  begins_not_joined agg c m k true a e = let f = begun agg c m k e in absurd (too_long k ((a f.0).2 f.1) f.2)
    where
      begun : (agg : AggId) (c : Choice) (m : MuxState) (k : ℕ) → (occupies agg c && (same_mux_state Waiting m && (k == 20))) ≡ true
          → (is_unselected c ≡ false) × (m ≡ Waiting) × (k ≡ 20)
      begun agg c m k h = grind (arith, nat_tests)

      too_long : (k : ℕ) → k ≤ 19 → k ≡ 20 → ⊥
      too_long k l e = omega (arith, l, e)

  begins_no_kind : (agg : AggId) (keys : List Key) (y : SystemPort) (t : ℕ) (o : Option Party) → key_of keys agg.0 ≡ Some key
      → (occupied y.port.choice ≡ Some agg.0 → key_of keys agg.0 ≡ Some y.port.party.key) → Kind key t 19 o y.port → begins_in agg y ≡ false
  begins_no_kind agg keys y t None k agree a = begins_not agg key keys y (begins_in agg y) refl k agree a
  begins_no_kind agg keys y t (Some who) k agree a =
      begins_not_joined agg y.port.choice y.port.mux y.port.wait_while (begins_in agg y) a.0 refl

  other_number : (m : ℕ) → (m == n) ≡ false → m ≢ n
  other_number m f e = both (m == n) (is_number m n e) f

  none_begin : (agg : AggId) (keys : List Key) (t : ℕ) (ports : List SystemPort) → key_of keys agg.0 ≡ Some key
      → ((j : ℕ) (y : SystemPort) → slice_get ports j ≡ Some y → occupied y.port.choice ≡ Some agg.0 → key_of keys agg.0 ≡ Some y.port.party.key)
      → OfEach (Others t 19) ports → AllByRecursion (λ (y : SystemPort). (y.number == n) ≡ false → begins_in agg y ≡ false) ports
  none_begin agg keys t [] k agree a = tt
  none_begin agg keys t (y ∷ ys) k agree a = (
    λ e. begins_no_kind agg keys y t (hears y.number) k (agree zero y refl) (a.0 (other_number y.number e)),
    none_begin agg keys t ys k (λ j z f. agree (suc j) z f) a.1,
  )

  at_state : (agg : AggId) (t : ℕ) (s : SystemState) → IsSound s → key_of s.keys agg.0 ≡ Some key → OfEach (Others t 19) s.system_ports → NoneBegins agg n s
  at_state agg t s h k a = none_begin agg s.keys t s.system_ports k (λ j y e o. h.occupants.key j agg.0 y e o) a

  -- where they start

  at_first : (t : ℕ) → t ≤ 30 → (s : SystemState) → IsSound s → WaitsAreBounded s → OthersStandApart t key hears n s → OfEach (Others t 20) s.system_ports
  at_first t l s h waits others = each s.keys s.system_ports s.system_ports h.quiet.0 h.rested.0 waits others
    where
      each : (keys : List Key) (all ports : List SystemPort) → AllByRecursion (MuxIsSettled keys all) ports
          → AllByRecursion (λ (x : SystemPort). none_enabled receive_rows x.port ≡ true) ports
          → AllByRecursion (λ (x : SystemPort). x.port.wait_while ≤ 20) ports
          → AllByRecursion (λ (y : SystemPort). y.number ≢ n → StandsApart t key (hears y.number) y.port) ports → OfEach (Others t 20) ports
      each keys all [] m r w a = tt
      each keys all (x ∷ xs) m r w a =
          (λ other. first_kind key t l (hears x.number) x.port m.0.mux r.0 w.0 (a.0 other), each keys all xs m.1 r.1 w.1 a.1)

  -- the calls

  module _ (agg : AggId) (gives : ℕ → ℕ → ℕ → Type 0) where
    abbrev Sets : Setting → Type 0
    Sets = SetsNoneFree hears n

    aside : (t w : ℕ) → t ≤ 30 → (old new : SystemState) → Asides Sets old new → OfEach (Others t w) old.system_ports
        → OfEach (Others t w) new.system_ports
    aside t w l old new h a = asides_each Sets (Others t w) (others_settle t w) (others_set t w l) old new h a

    set_less : (setting : Setting) → Sets setting → LeavesPort n setting
    set_less (Setting.Hold_port m held) u = u.0
    set_less (Setting.Set_mode m active short) u = u
    set_less (Setting.Set_max_delay max_delay) u = tt
    set_less (Setting.Set_max_links max_links) u = tt
    set_less (Setting.Set_in_use agg now) u = u

    call_keeps : (t w : ℕ) → t ≤ 30 → (before mid : SystemState) (call : Call) (answer : Reply) → LetsNoneJoin hears n call answer → (call ≡ Tick → ⊥)
        → Step gives before call answer mid → OfEach (Others t w) before.system_ports → OfEach (Others t w) mid.system_ports
    call_keeps t w l before mid call answer u none h a =
        Step-each (Others t w) (others_settle t w) gives before call answer mid (others_called t w l call answer u none) h a

    tick_keeps : (t w v : ℕ) → 1 ≤ t → w ≤ v + 1 → (before mid : SystemState) (answer : Reply) → Step gives before Tick answer mid
        → OfEach (Others t w) before.system_ports → OfEach (Others (t - 1) v) mid.system_ports
    tick_keeps t w v l m before mid answer h a = Tick-each (Others t w) (Others (t - 1) v) (others_settle (t - 1) v)
        (λ k p q r b other. kind_ticks key t w v (hears k) p q l m r (b other)) gives before answer mid h a

    -- a port that begins to wait has 20 ticks left: before the first tick each may have as many
    abbrev most_left : Bool → ℕ
    most_left ticked = if ticked then 19 else 20

    most_before : (ticked : Bool) → most_left ticked ≤ 19 + 1
    most_before true = omega arith
    most_before false = omega arith

    none_at : (ticked : Bool) (t : ℕ) (old new : SystemState) → key_of old.keys agg.0 ≡ Some key → Asides Sets old new
        → OfEach (Others t (most_left ticked)) new.system_ports → ticked ≡ true → NoneBegins agg n new
    none_at ticked t old new k h a e = at_state agg t new (asides_sound Sets old new h) (kept_key Sets key agg old new h k)
        (subst (λ b. OfEach (Others t (most_left b)) new.system_ports) e a)

    none_run : (ticked : Bool) (t : ℕ) (old new : SystemState) (calls : List Call) (replies : List Reply) (states : List SystemState) → t ≤ 30
        → tick_count calls ≤ t → key_of old.keys agg.0 ≡ Some key → OfEach (Others t (most_left ticked)) old.system_ports
        → Runs Sets gives old calls replies states new → EachCall (LetsNoneJoin hears n) calls replies → OnceTicked (NoneBegins agg n) ticked calls states new
    none_run ticked t old new [] [] [] l c k a r u = none_at ticked t old new k r (aside t (most_left ticked) l old new r a)
    none_run ticked t old new (Tick ∷ calls) (answer ∷ answers) (before ∷ states) l c k a r u =
        let b = aside t (most_left ticked) l old before r.1 a in (
          none_at ticked t old before k r.1 b,
          none_run true (t - 1) r.0 new calls answers states (omega (arith, l)) (omega (arith, c))
              (key_after Sets key agg gives old before r.0 Tick answer r.1 r.2 k)
              (tick_keeps t (most_left ticked) 19 (omega (arith, c)) (most_before ticked) before r.0 answer r.2 b) r.3 u.1,
        )
    none_run ticked t old new (call ∷ calls) (answer ∷ answers) (before ∷ states) l c k a r u =
        let b = aside t (most_left ticked) l old before r.1 a in (
          none_at ticked t old before k r.1 b,
          none_run ticked t r.0 new calls answers states l c (key_after Sets key agg gives old before r.0 call answer r.1 r.2 k)
              (call_keeps t (most_left ticked) l before r.0 call answer u.0 (λ e. cc) r.2 b) r.3 u.1,
        )
    none_run ticked t old new calls replies states l c k a r u = absurd r

pub none_begins_to_wait : (gives : ℕ → ℕ → ℕ → Type 0) → NoneBeginsToWait gives
none_begins_to_wait gives hears agg key n old new calls replies states s waits k others r u l = (
  runs_weaken (SetsNoneFree hears n) (LeavesPort n) (set_less key hears n agg gives) gives old new calls replies states r,
  none_run key hears n agg gives false (tick_count calls) old new calls replies states l (omega arith) k
      (at_first key hears n (tick_count calls) l old s waits others) r u,
)
