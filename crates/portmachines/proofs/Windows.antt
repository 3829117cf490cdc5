-- Any eleven consecutive ticks hold at most three LACPDUs.
use Rattle.portmachines.proofs.Common.{Bool, List, [], ap, append-nil, append_assoc, arith, cond, false, if◌then◌else◌, length, nat_le, nat_lt, refl}
use Rattle.portmachines.proofs.Common.{subst, suc, sym, true, zero, ℕ, ◌&&◌, ◌++◌, ◌+◌, ◌-◌, ◌<◌, ◌∙◌, ◌∷◌, ◌≡◌, ◌≤◌, and_parts, le-leb, leb-true}
use Rattle.portmachines.proofs.Common.{lt-leb, ltb-true, Mux, Periodic, PortCall, Reinit, Select, Set_link, Set_mode, Take, Tick, Transmit, Machines}
use Rattle.portmachines.proofs.Common.{mux_rows, RunsPeriodic, periodic_rows, lacpdu_rows, receive_rows, start_receive, FiresIfEnabled, RunsToRest}
use Rattle.portmachines.proofs.Common.{after_sending, aged, count_down, is_due}
use Rattle.slowpdu.specs.declared.pdu.Lacpdu.{Lacpdu}
use Rattle.std.specs.List.{AllByRecursion}
use Rattle.std.proofs.lemmas.Bool.Decides.{nat_tests}
use Rattle.portmachines.specs.Start.{Starts}
use Rattle.portmachines.proofs.Runs.{EachKeeps, Reaches-keeps}
use Rattle.portmachines.specs.Window.{SendsAtTicks, sent_before, within_eleven, count_passing, KeepsWindow, WindowLaw}

-- rows leave the ages as they are

abbrev pub ages_of : Machines → List ℕ
ages_of p = p.ages

receive-same : EachKeeps ages_of receive_rows
receive-same = (λ p. refl, (λ p. refl, (λ p. refl, (λ p. refl, (λ p. refl, tt)))))

pub settles-same : (p q : Machines) → RunsToRest receive_rows p q → q.ages ≡ p.ages
settles-same p q h = Reaches-keeps ages_of receive_rows receive-same h.0 p q h.1

pub mux-same : (ready : Bool) → EachKeeps ages_of (mux_rows ready)
mux-same ready = (λ p. refl, (λ p. refl, (λ p. refl, (λ p. refl, (λ p. refl, (λ p. refl, tt))))))

periodic-same : EachKeeps ages_of periodic_rows
periodic-same = (λ p. refl, (λ p. refl, (λ p. refl, (λ p. refl, (λ p. refl, (λ p. refl, (λ p. refl, tt)))))))

-- counts

count-last : (p : ℕ → Bool) (xs : List ℕ) (x : ℕ) → count_passing p (xs ++ x ∷ []) ≡ count_passing p xs + cond (p x) 1 0
count-last p [] x = omega arith
count-last p (y ∷ ys) x = omega (arith, count-last p ys x)

abbrev bit : Bool → ℕ
bit b = cond b 1 0

bit-weaker : (b c : Bool) → (b ≡ true → c ≡ true) → cond b 1 0 ≤ cond c 1 0
bit-weaker b c h = grind (arith, nat_tests)

-- if each element that passes the one test passes the other
count-weaker : (p q : ℕ → Bool) (xs : List ℕ) → AllByRecursion (λ x. p x ≡ true → q x ≡ true) xs → count_passing p xs ≤ count_passing q xs
count-weaker p q [] h = omega arith
count-weaker p q (x ∷ xs) h = omega (arith, count-weaker p q xs h.1, bit-weaker (p x) (q x) h.0)

count-length : (p : ℕ → Bool) (xs : List ℕ) → count_passing p xs ≤ length xs
count-length p [] = omega arith
count-length p (x ∷ xs) = omega (arith, count-length p xs, bit-weaker (p x) true (λ _. refl))

-- the ages that are at most k + 1 after the tick were at most k before it
aged-one : (k a : ℕ) (rest : List ℕ) (b : Bool) → k + 1 ≤ 10 → nat_lt (a + 1) 11 ≡ b
    → count_passing (λ x. nat_le x (k + 1)) (cond b ((a + 1) ∷ rest) rest) ≡ cond (nat_le a k) 1 0 + count_passing (λ x. nat_le x (k + 1)) rest
aged-one k a rest b h e = grind (arith, nat_tests)

count-aged : (k : ℕ) (ages : List ℕ) → k + 1 ≤ 10 → count_passing (λ a. nat_le a (k + 1)) (aged ages) ≡ count_passing (λ a. nat_le a k) ages
count-aged k [] h = refl
count-aged k (a ∷ more) h = aged-one k a (aged more) (nat_lt (a + 1) 11) h refl ∙ ap (λ n. cond (nat_le a k) 1 0 + n) (count-aged k more h)

-- what holds of the ages at the tick now and all sends so far
pub record Inv (now : ℕ) (ages ticks : List ℕ) : Type 0 where
  pub past : AllByRecursion (λ s. s ≤ now) ticks
  pub recent : (k : ℕ) → k ≤ 10 → count_passing (λ s. nat_le now (s + k)) ticks ≤ count_passing (λ a. nat_le a k) ages
  pub window : KeepsWindow ticks

all-weaker : (P Q : ℕ → Type 0) (xs : List ℕ) → ((x : ℕ) → P x → Q x) → AllByRecursion P xs → AllByRecursion Q xs
all-weaker P Q [] w h = tt
all-weaker P Q (x ∷ xs) w h = (w x h.0, all-weaker P Q xs w h.1)

all-last : (P : ℕ → Type 0) (xs : List ℕ) (x : ℕ) → AllByRecursion P xs → P x → AllByRecursion P (xs ++ x ∷ [])
all-last P [] x h p = (p, tt)
all-last P (y ∷ ys) x h p = (h.0, all-last P ys x h.1 p)

none : (p : ℕ → Bool) (xs : List ℕ) → AllByRecursion (λ x. p x ≡ false) xs → count_passing p xs ≡ 0
none p [] h = refl
none p (x ∷ xs) h = let here : bit (p x) ≡ 0 = ap bit h.0 in omega (arith, here, none p xs h.1)

later-recent : (now : ℕ) (ages ticks : List ℕ) → Inv now ages ticks → (k : ℕ) → k ≤ 10
    → count_passing (λ s. nat_le (now + 1) (s + k)) ticks ≤ count_passing (λ a. nat_le a k) (aged ages)
later-recent now ages ticks i zero h =
    let no = none (λ s. nat_le (now + 1) (s + 0)) ticks (all-weaker (λ s. s ≤ now) (λ s. nat_le (now + 1) (s + 0) ≡ false) ticks
    (λ s e. lt-leb (now + 1) (s + 0) (omega (arith, e))) i.past) in
    omega (arith, no)
later-recent now ages ticks i (suc k) h =
    let fewer = count-weaker (λ s. nat_le (now + 1) (s + suc k)) (λ s. nat_le now (s + k)) ticks
    (all-weaker (λ s. s ≤ now) (λ s. nat_le (now + 1) (s + suc k) ≡ true → nat_le now (s + k) ≡ true) ticks
    (λ s e t. let l = leb-true (now + 1) (s + suc k) t in le-leb now (s + k) (omega (arith, l))) i.past) in
    let old = i.recent k (omega (arith, h)) in
    let e : suc k ≡ k + 1 = omega arith in
    let same : count_passing (λ a. nat_le a (suc k)) (aged ages) ≡ count_passing (λ a. nat_le a k) ages =
    rw e (count-aged k ages (omega (arith, h))) in
    omega (arith, fewer, old, same)

Inv-tick : (now : ℕ) (ages ticks : List ℕ) → Inv now ages ticks → Inv (now + 1) (aged ages) ticks
Inv-tick now ages ticks i = record {
  past = all-weaker (λ s. s ≤ now) (λ s. s ≤ now + 1) ticks (λ s h. omega (arith, h)) i.past;
  recent = later-recent now ages ticks i;
  window = i.window;
}

sent-window : (now : ℕ) (ages ticks : List ℕ) → length ages < 3 → Inv now ages ticks → (first : ℕ) (b : Bool)
    → (nat_le first now && nat_lt now (first + 11)) ≡ b → within_eleven first ticks + cond b 1 0 ≤ 3
sent-window now ages ticks few i first true e = let below = ltb-true now (first + 11) (and_parts (nat_le first now) _ e).1 in
    let some = count-weaker (λ s. nat_le first s && nat_lt s (first + 11)) (λ s. nat_le now (s + 10)) ticks
    (all-weaker (λ s. s ≤ now) (λ s. (nat_le first s && nat_lt s (first + 11)) ≡ true → nat_le now (s + 10) ≡ true) ticks
    (λ s h t. let l = leb-true first s (and_parts _ _ t).0 in le-leb now (s + 10) (omega (arith, l, below))) i.past) in
    omega (arith, some, i.recent 10 (omega arith), count-length (λ a. nat_le a 10) ages)
sent-window now ages ticks few i first false e = omega (arith, i.window first)

Inv-send : (now : ℕ) (ages ticks : List ℕ) → length ages < 3 → Inv now ages ticks → Inv now (ages ++ 0 ∷ []) (ticks ++ now ∷ [])
Inv-send now ages ticks few i = grind (arith, nat_tests, all-last, count-last, nat_le, bit, le-leb, nat_lt, sent-window)

pub taking-ages : (pdu : Lacpdu) (p q : Machines) → FiresIfEnabled (lacpdu_rows pdu) p q → q.ages ≡ p.ages
taking-ages pdu p q h = grind (arith, nat_tests)

pub periodic-ages : (p q : Machines) → RunsPeriodic p q → q.ages ≡ p.ages
periodic-ages p q h = ap (λ (x : Machines). x.ages) h.2 ∙ Reaches-keeps ages_of periodic_rows periodic-same h.1.0 p h.0 h.1.1

pub starts-ages : (p q : Machines) → Starts p q → q.ages ≡ p.ages
starts-ages p q h = ap (λ (x : Machines). x.ages) h.2 ∙ settles-same (start_receive p) h.0 h.1

abbrev Continues : ℕ → List PortCall → Machines → Type 0
Continues now calls mid = (before rest : List ℕ) → Inv now mid.ages before → SendsAtTicks now calls mid rest → KeepsWindow (before ++ rest)

transmit-window : (now : ℕ) (calls : List PortCall) (old mid : Machines) (before ticks rest : List ℕ) (due : Bool) → is_due old ≡ due
    → Continues now calls mid → Inv now old.ages before → mid ≡ (if due then after_sending old else old) → SendsAtTicks now calls mid rest
    → ticks ≡ (if due then now ∷ rest else rest) → KeepsWindow (before ++ ticks)
transmit-window now calls old mid before ticks rest true due go i e run t =
    let few = ltb-true (length old.ages) 3 (and_parts old.ntt _ due).1 in
    let next : Inv now mid.ages (before ++ now ∷ []) = subst (λ (p : Machines). Inv now p.ages (before ++ now ∷ [])) (sym e)
    (Inv-send now old.ages before few i) in
    subst KeepsWindow (append_assoc before (now ∷ []) rest ∙ ap (λ xs. before ++ xs) (sym t)) (go (before ++ now ∷ []) rest next run)
transmit-window now calls old mid before ticks rest false due go i e run t = grind (arith, nat_tests)

quiet-window : (now : ℕ) (calls : List PortCall) (old mid : Machines) (before ticks rest : List ℕ) → Continues now calls mid
    → mid.ages ≡ old.ages → Inv now old.ages before → SendsAtTicks now calls mid rest → ticks ≡ rest → KeepsWindow (before ++ ticks)
quiet-window now calls old mid before ticks rest go e i run t = grind (arith, nat_tests)

run-window : (now : ℕ) (calls : List PortCall) (old : Machines) (before ticks : List ℕ) → Inv now old.ages before
    → SendsAtTicks now calls old ticks → KeepsWindow (before ++ ticks)
run-window now [] old before ticks i h = subst KeepsWindow (sym (ap (λ xs. before ++ xs) h ∙ append-nil before)) i.window
run-window now (Tick ∷ calls) old before ticks i h =
    let ages : h.0.ages ≡ aged old.ages = settles-same (count_down old) h.0 h.2 in
    let next : Inv (now + 1) h.0.ages before = subst (λ a. Inv (now + 1) a before) (sym ages) (Inv-tick now old.ages before i) in
    subst KeepsWindow (ap (λ xs. before ++ xs) (sym h.4)) (run-window (now + 1) calls h.0 before h.1 next h.3)
run-window now (Transmit max_delay ∷ calls) old before ticks i h =
    transmit-window now calls old h.0 before ticks h.1 (is_due old) refl (λ b r. run-window now calls h.0 b r) i h.2 h.3 h.4
run-window now (Set_link enabled ∷ calls) old before ticks i h =
    quiet-window now calls old h.0 before ticks h.1 (λ b r. run-window now calls h.0 b r)
    (settles-same (record old { enabled = enabled }) h.0 h.2) i h.3 h.4
run-window now (Take pdu ∷ calls) old before ticks i h =
    quiet-window now calls old h.0 before ticks h.1 (λ b r. run-window now calls h.0 b r) (taking-ages pdu old h.0 h.2) i h.3 h.4
run-window now (Mux ready ∷ calls) old before ticks i h =
    quiet-window now calls old h.0 before ticks h.1 (λ b r. run-window now calls h.0 b r)
    (Reaches-keeps ages_of (mux_rows ready) (mux-same ready) h.2.0 old h.0 h.2.1) i h.3 h.4
run-window now (Periodic ∷ calls) old before ticks i h =
    quiet-window now calls old h.0 before ticks h.1 (λ b r. run-window now calls h.0 b r) (periodic-ages old h.0 h.2) i h.3 h.4
run-window now (Select choice ∷ calls) old before ticks i h =
    quiet-window now calls old h.0 before ticks h.1 (λ b r. run-window now calls h.0 b r) (ap (λ (x : Machines). x.ages) h.2) i h.3 h.4
run-window now (Set_mode active short ∷ calls) old before ticks i h =
    quiet-window now calls old h.0 before ticks h.1 (λ b r. run-window now calls h.0 b r) (ap (λ (x : Machines). x.ages) h.2) i h.3 h.4
run-window now (Reinit party ∷ calls) old before ticks i h =
    quiet-window now calls old h.0 before ticks h.1 (λ b r. run-window now calls h.0 b r)
    (starts-ages (record old { party = party }) h.0 h.2) i h.3 h.4

-- the start

past-before : (now : ℕ) (ages : List ℕ) → AllByRecursion (λ s. s ≤ now) (sent_before now ages)
past-before now [] = tt
past-before now (a ∷ more) = (omega arith, past-before now more)

recent-before : (now k : ℕ) (ages : List ℕ) → AllByRecursion (λ a. a ≤ now) ages
    → count_passing (λ s. nat_le now (s + k)) (sent_before now ages) ≤ count_passing (λ a. nat_le a k) ages
recent-before now k [] h = omega arith
recent-before now k (a ∷ more) h = omega (
  arith,
  recent-before now k more h.1,
  bit-weaker (nat_le now (now - a + k)) (nat_le a k)
      (λ t. let l = leb-true now (now - a + k) t in le-leb a k (omega (arith, l, h.0))),
)

length-before : (now : ℕ) (ages : List ℕ) → length (sent_before now ages) ≡ length ages
length-before now [] = refl
length-before now (a ∷ more) = omega (arith, length-before now more)

-- any eleven consecutive ticks hold at most three sends
pub window_law : WindowLaw
window_law now calls old ticks kept few h = grind (arith, nat_tests, run-window, sent_before, past-before, recent-before, count-length, nat_le, nat_lt, length-before)
