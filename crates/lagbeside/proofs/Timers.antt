-- What happens to a port leaves no timer above the ticks that it can start with.
use Rattle.lagsystem.specs.Uses.{choice_with_use}
use Rattle.lagbeside.proofs.Common.{Bool, List, Result, [], arith, cond, if◌then◌else◌, inl, inr, nat_lt, refl, subst, suc, sym, zero, ℕ, ◌++◌, ◌+◌}
use Rattle.lagbeside.proofs.Common.{◌-◌, ◌<◌, ◌∷◌, ◌≡◌, ◌≤◌, nat_tests, AllByRecursion, Choice, Unselected, Lacpdu, PeriodicState, Setup}
use Rattle.lagbeside.proofs.Common.{ReceiveState, Current, Defaulted, Initialize, PortDisabled, with_mode, Machines, mux_rows, periodic_rows}
use Rattle.lagbeside.proofs.Common.{lacpdu_rows, receive_rows, start_receive, Fires, FiresTimes, Row, RunsToRest, Starts, before_start, aged}
use Rattle.lagbeside.proofs.Common.{count_down, Reply, SystemFault, Call, Configure, ProcessesLacpdu, Receive, Restart, Set_link, Tick, Transmit}
use Rattle.lagbeside.proofs.Common.{changed_party, choice_with_link, Setting, SettingStep, SystemState, EachSettingKeepsTimed, IsTimed, KeepsTimeout}
use Rattle.lagbeside.proofs.Common.{Expired, false, true, most_current_while, most_periodic_timer, not, same_receive_state, timeout_time, ◌&&◌}
use Rattle.lagbeside.proofs.EachPort.{KeptByCall, KeptBySettling, OfEach}
use Rattle.lagbeside.proofs.EachSetting.{KeptBySetting, Setting-each}

-- what each row keeps, its machine keeps

abbrev pub RowsKeep : (Machines → Type 0) → List Row → Type 0
RowsKeep P [] = Unit {0}
RowsKeep P (row ∷ rows) = ((p : Machines) → P p → P (row.effect p)) × RowsKeep P rows

pub fires_keep : (P : Machines → Type 0) (rows : List Row) → RowsKeep P rows → (p q : Machines) → Fires rows p q → P p → P q
fires_keep P [] k p q h a = absurd h
fires_keep P (row ∷ rows) k p q h a = elim h [ inl f ↦ subst P (sym f.1) (k.0 p a) | inr f ↦ fires_keep P rows k.1 p q f a ]

times_keep : (P : Machines → Type 0) (rows : List Row) → RowsKeep P rows → (n : ℕ) (p q : Machines) → FiresTimes rows n p q → P p → P q
times_keep P rows k zero p q h a = subst P (sym h) a
times_keep P rows k (suc n) p q h a = fires_keep P rows k h.0 q h.2 (times_keep P rows k n p h.0 h.1 a)

pub runs_keep : (P : Machines → Type 0) (rows : List Row) → RowsKeep P rows → (p q : Machines) → RunsToRest rows p q → P p → P q
runs_keep P rows k p q h a = times_keep P rows k h.0 p q h.1 a

-- an LACPDU is processed only by its row
pub takes_keep : (P : Machines → Type 0) (v : Lacpdu) → RowsKeep P (lacpdu_rows v) → (p q : Machines) → ProcessesLacpdu v p q → P p → P q
takes_keep P v k p q h a = elim h [ inl f ↦ fires_keep P (lacpdu_rows v) k p q f a | inr r ↦ subst P (sym r.1) a ]

-- current_while

-- the bound is the least in EXPIRED, and the highest in other states
rises : (r : ReceiveState) (n : ℕ) → n ≤ most_current_while r → (n ≤ most_current_while Initialize)
    × (n ≤ most_current_while PortDisabled) × (n ≤ most_current_while Defaulted)
rises r n h = grind (arith, nat_tests)

starts_with : (short : Bool) → (if short then 30 else 900) ≤ most_current_while Current
starts_with short = grind (arith, nat_tests)

receive_keeps : RowsKeep IsTimed receive_rows
receive_keeps = grind (arith, nat_tests, rises)

take_keeps : (v : Lacpdu) → RowsKeep IsTimed (lacpdu_rows v)
take_keeps v = (λ p a. (starts_with p.short, a.1, a.2, a.3), tt)

-- periodic_timer

pub most_fast : (s : PeriodicState) → most_periodic_timer s ≤ 300
most_fast s = grind (arith, nat_tests)

periodic_keeps : RowsKeep IsTimed periodic_rows
periodic_keeps = grind (arith, nat_tests)

-- wait_while

mux_keeps : (ready : Bool) → RowsKeep IsTimed (mux_rows ready)
mux_keeps ready = grind (arith, nat_tests)

-- the ages

kept_age : (b : Bool) (n : ℕ) (rest : List ℕ) → nat_lt n 11 ≡ b → AllByRecursion (λ a. a < 11) rest → AllByRecursion (λ a. a < 11) (cond b (n ∷ rest) rest)
kept_age b n rest e h = grind (arith, nat_tests)

recent : (ages : List ℕ) → AllByRecursion (λ a. a < 11) (aged ages)
recent [] = tt
recent (a ∷ ages) = kept_age (nat_lt (a + 1) 11) (a + 1) (aged ages) refl (recent ages)

sent : (ages : List ℕ) → AllByRecursion (λ a. a < 11) ages → AllByRecursion (λ a. a < 11) (ages ++ 0 ∷ [])
sent [] h = (omega arith, tt)
sent (a ∷ ages) h = (h.0, sent ages h.1)

counts : (p : Machines) → IsTimed p → IsTimed (count_down p)
counts p a = (omega (arith, a.0), omega (arith, a.1), omega (arith, a.2), recent p.ages)

starts : (p q : Machines) → Starts p q → IsTimed p → IsTimed q
starts p q h a = subst IsTimed (sym h.2) (runs_keep IsTimed receive_rows receive_keeps (start_receive p) h.0 h.1
    ((rises p.receive p.current_while a.0).0, a.1, a.2, a.3))

abbrev pub TimedAt : ℕ → Machines → Type 0
TimedAt n p = IsTimed p

pub timed_settles : KeptBySettling TimedAt
timed_settles = record {
  mux = λ n ready p q h a. runs_keep IsTimed (mux_rows ready) (mux_keeps ready) p q h a;
  periodic = λ n p q h a. subst IsTimed (sym h.2) (runs_keep IsTimed periodic_rows periodic_keeps p h.0 h.1 a);
  select = λ n choice p none may a. a;
}

pub timed_starts : (n : ℕ) (u : Setup) (q : Machines) → Starts (before_start u) q → TimedAt n q
timed_starts n u q h = starts (before_start u) q h (omega arith, omega arith, omega arith, tt)

pub timed_kept : (call : Call) (answer : Reply) → KeptByCall TimedAt call answer
timed_kept Tick answer = λ n p q h a. runs_keep IsTimed receive_rows receive_keeps (count_down p) q h (counts p a)
timed_kept (Set_link n up) answer = λ max_links p q h a. runs_keep IsTimed receive_rows receive_keeps
    (record p { enabled = up; choice = choice_with_link max_links up p.choice }) q h a
timed_kept (Receive n octets) answer = λ v p q t f h a. takes_keep IsTimed v (take_keeps v) p q h a
timed_kept (Configure n change) answer = λ p q h a. starts (record p { party = changed_party change p.party }) q h.1 a
timed_kept Restart answer = timed_starts
timed_kept (Transmit n) answer = λ p e a. (a.0, a.1, a.2, sent p.ages a.3)
timed_kept call answer = tt

-- the time-out of the port

short_most : (short : Bool) → 30 ≤ timeout_time short
short_most short = grind (arith, nat_tests)

starts_most : (short : Bool) → (if short then 30 else 900) ≤ timeout_time short
starts_most short = grind (arith, nat_tests)

receive_rows_within : RowsKeep KeepsTimeout receive_rows
receive_rows_within = grind (arith, nat_tests, short_most)

periodic_rows_within : RowsKeep KeepsTimeout periodic_rows
periodic_rows_within = grind (arith, nat_tests)

mux_rows_within : (ready : Bool) → RowsKeep KeepsTimeout (mux_rows ready)
mux_rows_within ready = grind (arith, nat_tests)

within_starts : (p q : Machines) → Starts p q → KeepsTimeout p → KeepsTimeout q
within_starts p q h a = subst KeepsTimeout (sym h.2) (runs_keep KeepsTimeout receive_rows receive_rows_within (start_receive p) h.0 h.1 a)

abbrev pub WithinTimeout : ℕ → Machines → Type 0
WithinTimeout n p = KeepsTimeout p

pub within_settles : KeptBySettling WithinTimeout
within_settles = record {
  mux = λ n ready p q h a. runs_keep KeepsTimeout (mux_rows ready) (mux_rows_within ready) p q h a;
  periodic = λ n p q h a. subst KeepsTimeout (sym h.2) (runs_keep KeepsTimeout periodic_rows periodic_rows_within p h.0 h.1 a);
  select = λ n choice p none may a. a;
}

zero_within : (short : Bool) → 0 ≤ timeout_time short
zero_within short = omega arith

pub within_first : (n : ℕ) (u : Setup) (q : Machines) → Starts (before_start u) q → WithinTimeout n q
within_first n u q h = within_starts (before_start u) q h (zero_within u.short)

fewer : (n most : ℕ) → n ≤ most → n - 1 ≤ most
fewer n most h = omega (arith, h)

pub within_kept : (call : Call) (answer : Reply) → KeptByCall WithinTimeout call answer
within_kept Tick answer = λ n p q h a. runs_keep KeepsTimeout receive_rows receive_rows_within (count_down p) q h
    (fewer p.current_while (timeout_time p.short) a)
within_kept (Set_link n up) answer = λ max_links p q h a. runs_keep KeepsTimeout receive_rows receive_rows_within
    (record p { enabled = up; choice = choice_with_link max_links up p.choice }) q h a
within_kept (Receive n octets) answer = λ v p q t f h a. takes_keep KeepsTimeout v ((λ m b. starts_most m.short), tt) p q h a
within_kept (Configure n change) answer = λ p q h a. within_starts (record p { party = changed_party change p.party }) q h.1 a
within_kept Restart answer = within_first
within_kept (Transmit n) answer = λ p e a. a
within_kept call answer = tt

-- a setting keeps the bounds

-- what each settling keeps, whatever the choice and the mode of the port, each setting keeps
pub setting_each : (P : ℕ → Machines → Type 0) → KeptBySettling P → ((n : ℕ) (p : Machines) (choice : Choice) → P n p → P n (record p { choice = choice }))
    → ((n : ℕ) (p : Machines) (active short : Bool) → P n p → P n (with_mode active short p))
    → (old new : SystemState) (setting : Setting) (answer : Result Unit SystemFault) → SettingStep old setting answer new → OfEach P old.system_ports
    → OfEach P new.system_ports
setting_each P k chosen moded old new setting answer = Setting-each P k old new setting answer (kept setting)
  where
    kept : (setting : Setting) → KeptBySetting P setting
    kept (Setting.Hold_port n held) = λ p a. chosen n p Unselected a
    kept (Setting.Set_mode n active short) = λ p a. moded n p active short a
    kept (Setting.Set_max_delay max_delay) = tt
    kept (Setting.Set_max_links max_links) = λ n p down a. chosen n p Unselected a
    kept (Setting.Set_in_use agg now) = λ n p a. chosen n p (choice_with_use agg now p.choice) a

-- current_while of a port with another mode
moded : (r : ReceiveState) (n : ℕ) (b : Bool) → n ≤ most_current_while r → (if same_receive_state Current r && b then 900 else n) ≤ most_current_while r
moded Current n true a = omega arith
moded Current n false a = a
moded Expired n b a = a
moded Defaulted n b a = a
moded Initialize n b a = a
moded PortDisabled n b a = a

pub setting_timed : EachSettingKeepsTimed
setting_timed = setting_each TimedAt timed_settles (λ n p choice a. a)
    (λ n p active short a. (moded p.receive p.current_while (p.short && not short) a.0, a.1, a.2, a.3))
