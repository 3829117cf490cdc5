-- In how many ticks an LACPDU of a port is due that neither its own end nor its partner keeps silent.
use Rattle.lagbeside.proofs.Common.{Bool, List, [], arith, cond, false, length, nat_lt, not, refl, subst, sym, true, ℕ, ◌&&◌, ◌+◌, ◌-◌, ◌<◌, ◌==◌}
use Rattle.lagbeside.proofs.Common.{◌||◌, ◌∷◌, ◌≡◌, ◌≤◌, ◌⊎◌, nat_tests, AllByRecursion, PeriodicState, Fast, NoPeriodic, PeriodicTx, Slow, Machines}
use Rattle.lagbeside.proofs.Common.{mux_rows, RunsPeriodic, is_silent, partner_short, periodic_rows, periodic_table, same_periodic_state}
use Rattle.lagbeside.proofs.Common.{timer_expired, AtRest, Row, in_order, aged, count_down, is_due, SilentFor, IsTimed, most_periodic_timer}
use Rattle.lagbeside.proofs.Hearing.{EnabledKeep, no, times_keep}
use Rattle.lagbeside.proofs.Timers.{RowsKeep}
use Rattle.portmachines.proofs.Windows.{periodic-ages}

-- NTT becomes true in so many ticks at the latest; the second argument: the partner has Short Timeout all the while
abbrev pub NextIn : PeriodicState → Bool → ℕ → ℕ → Type 0
NextIn st false most n = SilentFor most st n
NextIn Fast true most n = n ≤ most
NextIn st true most n = ⊥

-- NTT is true, or becomes true in so many ticks
abbrev pub Near : Bool → ℕ → Machines → Type 0
Near fast most p = (p.ntt ≡ true) ⊎ NextIn p.periodic fast most p.periodic_timer

-- an age is 11 in so many ticks
abbrev pub Leaves : ℕ → ℕ → Type 0
Leaves most a = (11 ≤ a + most) × (a < 11)

-- NTT is true in so many ticks, and the transmit window then empty, if nothing is sent
abbrev pub Sounds : Bool → ℕ → Machines → Type 0
Sounds fast most p = Near fast most p × AllByRecursion (Leaves most) p.ages

-- the periodic machine is not kept silent, and the partner has Short Timeout if that is said
abbrev pub Calm : Bool → Machines → Type 0
Calm fast p = (is_silent p ≡ false) × (fast ≡ true → partner_short p ≡ true)

pub not_silent : (e a b : Bool) → e ≡ true → (a ≡ true) ⊎ (b ≡ true) → (not e || (not a && not b)) ≡ false
not_silent e a b up h = grind (arith, nat_tests)

-- the rows of the periodic machine

last_false : (a b : Bool) → (a || b) ≡ false → b ≡ false
last_false a b h = grind (arith, nat_tests)

unordered : (a b : Bool) → (not a && b) ≡ true → (a ≡ false) × (b ≡ true)
unordered a b h = grind (arith, nat_tests)

-- rows that are tried in their order, each where none before it is enabled
abbrev OrderedKeep : (Machines → Type 0) → (Machines → Bool) → List Row → Type 0
OrderedKeep P earlier [] = Unit {0}
OrderedKeep P earlier (row ∷ rows) = ((p : Machines) → earlier p ≡ false → row.enabled p ≡ true → P p → P (row.effect p))
    × OrderedKeep P (λ p. earlier p || row.enabled p) rows

ordered : (P : Machines → Type 0) (earlier : Machines → Bool) (rows : List Row) → OrderedKeep P earlier rows → EnabledKeep P (in_order earlier rows)
ordered P earlier [] k = tt
ordered P earlier (row ∷ rows) k = grind (arith, nat_tests, unordered, ordered P (λ p. earlier p || row.enabled p) rows k.1)

pub not_gone : (n : ℕ) → (n == 0) ≡ false → 1 ≤ n
not_gone n h = grind (arith, nat_tests)

abbrev CalmNear : Bool → ℕ → Machines → Type 0
CalmNear fast most p = Calm fast p × Near fast most p

table_near : (fast : Bool) (most : ℕ) → OrderedKeep (CalmNear fast most) (λ p. false) periodic_table
table_near fast most = grind (arith, nat_tests)

-- what a periodic machine at rest that is not kept silent shows: its timer has not expired, and it is in FAST if the
-- partner has Short Timeout, else in SLOW
abbrev pub Resting : PeriodicState → Bool → Bool → Type 0
Resting NoPeriodic expired short = ⊥
Resting PeriodicTx expired short = ⊥
Resting Fast expired short = (expired ≡ false) × (short ≡ true)
Resting Slow expired short = (expired ≡ false) × (short ≡ false)

pub rests : (st : PeriodicState) (p : Machines) → AtRest periodic_rows (record p { periodic = st }) → is_silent p ≡ false
    → Resting st (timer_expired p) (partner_short p)
rests st p r e = grind (arith, nat_tests)

-- the machine runs
pub unclear : (st : PeriodicState) (expired short b : Bool) → Resting st expired short → (not (same_periodic_state NoPeriodic st) && b) ≡ b
unclear st expired short b h = grind (arith, nat_tests)

pub periodic_near : (fast : Bool) (most : ℕ) (p q : Machines) → RunsPeriodic p q → Calm fast p → Near fast most p → Near fast most q
periodic_near fast most p q h c s =
    let mid = times_keep (CalmNear fast most) periodic_rows (ordered (CalmNear fast most) (λ p. false) periodic_table (table_near fast most))
    h.1.0 p h.0 h.1.1 (c, s) in
    grind (arith, nat_tests, rests, Near, NextIn, unclear, timer_expired, partner_short)

pub periodic_runs : (fast : Bool) (most : ℕ) (p q : Machines) → RunsPeriodic p q → Calm fast p → Sounds fast most p → Sounds fast most q
periodic_runs fast most p q h c s =
    (periodic_near fast most p q h c s.0, subst (AllByRecursion (Leaves most)) (sym (periodic-ages p q h)) s.1)

pub mux_sounds : (fast : Bool) (most : ℕ) (ready : Bool) → RowsKeep (Sounds fast most) (mux_rows ready)
mux_sounds fast most ready = grind (arith, nat_tests)

-- a tick

nearer : (st : PeriodicState) (fast b short : Bool) (most n : ℕ) → Resting st (n == 0) short → (b ≡ true) ⊎ NextIn st fast most n
    → (b ≡ true) ⊎ NextIn st fast (most - 1) (n - 1)
nearer st fast b short most n r h = grind (arith, nat_tests)

pub near_ticks : (fast : Bool) (most : ℕ) (p : Machines) → AtRest periodic_rows p → is_silent p ≡ false → Near fast most p
    → Near fast (most - 1) (record p { periodic_timer = p.periodic_timer - 1 })
near_ticks fast most p rest e s = nearer p.periodic fast p.ntt (partner_short p) most p.periodic_timer (rests p.periodic p rest e) s

older : (b : Bool) (most a : ℕ) (rest : List ℕ) → nat_lt (a + 1) 11 ≡ b → 11 ≤ a + most → AllByRecursion (Leaves (most - 1)) rest
    → AllByRecursion (Leaves (most - 1)) (cond b ((a + 1) ∷ rest) rest)
older b most a rest e l h = grind (arith, nat_tests)

all_older : (most : ℕ) (ages : List ℕ) → AllByRecursion (Leaves most) ages → AllByRecursion (Leaves (most - 1)) (aged ages)
all_older most [] h = tt
all_older most (a ∷ ages) h = older (nat_lt (a + 1) 11) most a (aged ages) refl h.0.0 (all_older most ages h.1)

pub counts_sounds : (fast : Bool) (most : ℕ) (p : Machines) → AtRest periodic_rows p → is_silent p ≡ false → Sounds fast most p
    → Sounds fast (most - 1) (count_down p)
counts_sounds fast most p rest e s = (near_ticks fast most p rest e s.0, all_older most p.ages s.1)

-- no ticks are left

still : (st : PeriodicState) (fast b short : Bool) (n : ℕ) → Resting st (n == 0) short → (b ≡ true) ⊎ NextIn st fast 0 n → b ≡ true
still st fast b short n r h = grind (arith, nat_tests)

pub near_comes : (fast : Bool) (p : Machines) → AtRest periodic_rows p → is_silent p ≡ false → Near fast 0 p → p.ntt ≡ true
near_comes fast p rest e s = still p.periodic fast p.ntt (partner_short p) p.periodic_timer (rests p.periodic p rest e) s

none_left : (ages : List ℕ) → AllByRecursion (Leaves 0) ages → length ages ≡ 0
none_left [] h = refl
none_left (a ∷ ages) h = absurd (omega (arith, h.0.0, h.0.1))

pub now_due : (fast : Bool) (p : Machines) → AtRest periodic_rows p → is_silent p ≡ false → Sounds fast 0 p → is_due p ≡ true
now_due fast p rest e s = rw (near_comes fast p rest e s.0, none_left p.ages s.1) refl

-- where it begins

abbrev pub silence_of : Bool → ℕ
silence_of true = 11
silence_of false = 309

begins_in : (st : PeriodicState) (fast short expired : Bool) (n : ℕ) → Resting st expired short → (fast ≡ true → short ≡ true)
    → n ≤ most_periodic_timer st → NextIn st fast (silence_of fast) n
begins_in st fast short expired n r c l = grind (arith, nat_tests)

leave_in : (most : ℕ) (ages : List ℕ) → 11 ≤ most → AllByRecursion (λ a. a < 11) ages → AllByRecursion (Leaves most) ages
leave_in most [] l h = tt
leave_in most (a ∷ ages) l h = ((omega (arith, l), h.0), leave_in most ages l h.1)

pub all_leave : (fast : Bool) (ages : List ℕ) → AllByRecursion (λ a. a < 11) ages → AllByRecursion (Leaves (silence_of fast)) ages
all_leave fast ages h = grind (arith, nat_tests, leave_in)

pub sounds_first : (fast : Bool) (p : Machines) → AtRest periodic_rows p → IsTimed p → Calm fast p → Sounds fast (silence_of fast) p
sounds_first fast p rest t c = grind (arith, nat_tests, begins_in, partner_short, timer_expired, rests, all_leave)

-- a port whose partner has Long Timeout is in SLOW
slow_in : (st : PeriodicState) (expired : Bool) (n : ℕ) → Resting st expired false → n ≤ most_periodic_timer st → NextIn st false 300 n
slow_in st expired n r l = grind (arith, nat_tests)

pub sounds_in_slow : (p : Machines) → AtRest periodic_rows p → IsTimed p → Calm false p → partner_short p ≡ false → Sounds false 300 p
sounds_in_slow p rest t c long = grind (arith, nat_tests, slow_in, timer_expired, Resting, rests, leave_in)
