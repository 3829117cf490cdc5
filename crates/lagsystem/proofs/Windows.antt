-- Any eleven consecutive ticks hold at most three LACPDUs of a port, over lists of calls of a system.
use Rattle.lagsystem.proofs.Common.{Bool, List, None, Ok, Option, Some, [], ap, append-nil, append_assoc, arith, cond, eqb-true, false, find, get_or}
use Rattle.lagsystem.proofs.Common.{if◌then◌else◌, length, length-append, nat_lt, option_map, refl, slice_get, slice_set, subst, suc, sym, true, zero}
use Rattle.lagsystem.proofs.Common.{ℕ, ◌&&◌, ◌++◌, ◌+◌, ◌<◌, ◌==◌, ◌∙◌, ◌∷◌, ◌≡◌, ◌≤◌, and_parts, nat_tests, position-Some, get_or_from_slice_get}
use Rattle.lagsystem.proofs.Common.{slice_get_past, AllByRecursion, AllZip, position_or_len, SystemId, Choice, Lacpdu, read_field, Setup, Machines}
use Rattle.lagsystem.proofs.Common.{mux_rows, RunsPeriodic, receive_rows, RunsToRest, Starts, before_start, after_sending, aged, count_down, is_due}
use Rattle.lagsystem.proofs.Common.{Reaches-keeps, PortChange, PortConfig, Reply, SystemPort, Call, ChangesParty, OnlyPortChangesBy, PortAtChangesBy}
use Rattle.lagsystem.proofs.Common.{ProcessesLacpdu, SetsLink, SetsPortEnabled, Step, TableRun, ThenSettles, Transmit, changed_party}
use Rattle.lagsystem.proofs.Common.{choice_with_link, HasJustStarted, IsFirst, setup_of, PortsChangeBy, Settling, ready_of, with_choice, SystemState}
use Rattle.lagsystem.proofs.Common.{aggregators_value, machines_of, port_index, system_port_at, with_system_ports, views, AgesSince, AtMostThreeAges}
use Rattle.lagsystem.proofs.Common.{EachAtMostThreeAges, StartsWithoutAges, StaysWindowed, SystemWindowLaw, WindowFromStart, remembered_sends}
use Rattle.lagsystem.proofs.Common.{sends_after, tick_after}
use Rattle.portmachines.specs.Window.{KeepsWindow, sent_before}
use Rattle.std.proofs.lemmas.List.Folds.{find_at}
use Rattle.portmachines.specs.Calls as port
use Rattle.portmachines.specs.Window as window
use Rattle.portmachines.proofs.Windows.{ages_of, mux-same, periodic-ages, settles-same, starts-ages, taking-ages, window_law as port_window}
use Rattle.lagsystem.specs.declared.drive.Reply.TheVariants as reply
use Rattle.lagsystem.proofs.Preserves.{Step-preserves_ports, lacpdu_subtype}
use Rattle.lagsystem.proofs.PromotionLemmas.{KeptByChoices, choosing_keeps}
use Rattle.lagsystem.proofs.Keeps.{given_number, settling_in}
use Rattle.lagsystem.proofs.SettlingLemmas.{RunsReady}

-- one port

-- after these sends the port keeps the window, whatever calls of it follow
abbrev pub Good : ℕ → Machines → List ℕ → Type 0
Good now p before = (calls : List port.PortCall) (ticks : List ℕ) → window.SendsAtTicks now calls p ticks → KeepsWindow (before ++ ticks)

good_ages : (now : ℕ) (p : Machines) → AllByRecursion (λ a. a ≤ now) p.ages → length p.ages ≤ 3 → Good now p (sent_before now p.ages)
good_ages now p kept few calls ticks run = port_window now calls p ticks kept few run

joined : (b : Bool) (now : ℕ) (before ticks : List ℕ) → (before ++ (if b then now ∷ ticks else ticks)) ≡ ((if b then before ++ now ∷ [] else before) ++ ticks)
joined b now before ticks = grind (arith, nat_tests, append_assoc)

good_call : (now : ℕ) (call : port.PortCall) (p q : Machines) (before : List ℕ) → port.CallEffect call p q → Good now p before
    → Good (window.tick_after_port_call call now) q (if window.returns_lacpdu call p then before ++ now ∷ [] else before)
good_call now call p q before does g calls ticks run = let b = window.returns_lacpdu call p in
    subst KeepsWindow (joined b now before ticks) (g (call ∷ calls) (if b then now ∷ ticks else ticks) (q, ticks, does, run, refl))

none_sent : KeepsWindow []
none_sent first = omega arith

-- the port with the number n among those of a system

abbrev pub port_in : Option SystemPort → Option Machines
port_in o = option_map (λ x. x.port) o

abbrev pub is_numbered : ℕ → SystemPort → Bool
is_numbered n s = s.number == n

-- P holds of the port, and N where there is none
abbrev pub At : (Machines → Type 0) → Type 0 → Option Machines → Type 0
At P N None = N
At P N (Some p) = P p

abbrev pub In : (Machines → Type 0) → Type 0 → ℕ → List SystemPort → Type 0
In P N n system_ports = At P N (port_in (find (is_numbered n) system_ports))

abbrev pub GoodAt : ℕ → List ℕ → Option Machines → Type 0
GoodAt now before o = At (λ p. Good now p before) (KeepsWindow before) o

abbrev pub GoodIn : ℕ → ℕ → List ℕ → List SystemPort → Type 0
GoodIn n now before system_ports = In (λ p. Good now p before) (KeepsWindow before) n system_ports

pub good_end : (now : ℕ) (before : List ℕ) (o : Option Machines) → GoodAt now before o → KeepsWindow before
good_end now before None g = g
good_end now before (Some p) g = subst KeepsWindow (append-nil before) (g [] [] refl)

at_first : (P Q : Machines → Type 0) (N : Type 0) (b : Bool) (x y : SystemPort) (o u : Option SystemPort) → (P x.port → Q y.port)
    → (At P N (port_in o) → At Q N (port_in u)) → At P N (port_in (cond b (Some x) o)) → At Q N (port_in (cond b (Some y) u))
at_first P Q N b x y o u here rest g = grind (arith, nat_tests)

-- the same, if y has the number of x
at_number : (P Q : Machines → Type 0) (N : Type 0) (n : ℕ) (x y : SystemPort) (o u : Option SystemPort) → y.number ≡ x.number → (P x.port → Q y.port)
    → (At P N (port_in o) → At Q N (port_in u)) → At P N (port_in (cond (x.number == n) (Some x) o)) → At Q N (port_in (cond (y.number == n) (Some y) u))
at_number P Q N n x y o u e here rest g = grind (arith, nat_tests)

in_each : (P Q : Machines → Type 0) (N : Type 0) (R : Machines → Machines → Type 0) (n : ℕ) → ((p q : Machines) → R p q → P p → Q q)
    → (xs ys : List SystemPort) → PortsChangeBy R xs ys → In P N n xs → In Q N n ys
in_each P Q N R n move [] [] h g = g
in_each P Q N R n move [] (y ∷ ys) h g = absurd h
in_each P Q N R n move (x ∷ xs) [] h g = absurd h
in_each P Q N R n move (x ∷ xs) (y ∷ ys) h g =
    at_number P Q N n x y (find (is_numbered n) xs) (find (is_numbered n) ys) (ap (λ (s : SystemPort). s.number) h.0.0)
    (move x.port y.port h.0.1) (in_each P Q N R n move xs ys h.1) g

in_set : (P : Machines → Type 0) (N : Type 0) (n : ℕ) (xs : List SystemPort) (i : ℕ) (s t : SystemPort) → slice_get xs i ≡ Some s
    → t.number ≡ s.number → (P s.port → P t.port) → In P N n xs → In P N n (slice_set xs i t)
in_set P N n [] i s t e k move g = g
in_set P N n (x ∷ xs) zero s t e k move g = grind (arith, nat_tests)
in_set P N n (x ∷ xs) (suc i) s t e k move g =
    at_number P P N n x x (find (is_numbered n) xs) (find (is_numbered n) (slice_set xs i t)) refl (λ h. h)
    (in_set P N n xs i s t e k move) g

-- settling

-- the machines keep P, but for a tick and a send
record IsKept (P : Machines → Type 0) : Type 0 where
  mux : (ready : Bool) (p q : Machines) → RunsToRest (mux_rows ready) p q → P p → P q
  periodic : (p q : Machines) → RunsPeriodic p q → P p → P q
  select : (choice : Choice) (p : Machines) → P p → P (record p { choice = choice })
  link : (up : Bool) (p q : Machines) → RunsToRest receive_rows (record p { enabled = up }) q → P p → P q
  take : (v : Lacpdu) (p q : Machines) → ProcessesLacpdu v p q → P p → P q
  party : (change : PortChange) (p q : Machines) → ChangesParty change p q → P p → P q

in_given : (P : Machines → Type 0) → IsKept P → (s : SystemPort) (o : Option Choice) → P s.port → P (with_choice s o).port
in_given P kept s o g = grind (arith, nat_tests)

in_select : (P : Machines → Type 0) (N : Type 0) (n : ℕ) → IsKept P → KeptByChoices (In P N n)
in_select P N n kept l i s o e g = in_set P N n l i s (with_choice s o) e (given_number s o) (in_given P kept s o) g

in_same : (P : Machines → Type 0) (N : Type 0) (n : ℕ) (old new : SystemState) → new.system_ports ≡ old.system_ports
    → In P N n old.system_ports → In P N n new.system_ports
in_same P N n old new e g = subst (In P N n) (sym e) g

in_settling : (P : Machines → Type 0) (N : Type 0) (n : ℕ) → IsKept P → (old new : SystemState) → Settling old new
    → In P N n old.system_ports → In P N n new.system_ports
in_settling P N n kept old new h g = let s = settling_in old new h in
    let ready = λ (p : Machines). ready_of old.keys (views s.two) p.choice in
    in_each P P N RunsPeriodic n kept.periodic s.four new.system_ports s.paces
    (in_each P P N (RunsReady old.keys (views s.two)) n (λ p q d. kept.mux (ready p) p q d) s.two s.four s.runs
    (choosing_keeps (In P N n) (in_select P N n kept) (aggregators_value old) s.one s.two s.chooses
    (in_each P P N (RunsToRest (mux_rows false)) n (kept.mux false) old.system_ports s.one s.stops g)))

good_kept : (now : ℕ) (before : List ℕ) → IsKept (λ p. Good now p before)
good_kept now before = record {
  mux = λ ready p q d. good_call now (port.Mux ready) p q before d;
  periodic = λ p q d. good_call now port.Periodic p q before d;
  select = λ choice p. good_call now (port.Select choice) p (record p { choice = choice }) before refl;
  link = λ up p q d. good_call now (port.Set_link up) p q before d;
  take = λ v p q d. good_call now (port.Take v) p q before d;
  party = λ change p q d. good_call now (port.Reinit (changed_party change p.party)) p q before d.1;
}

-- the calls' own effects

in_place : (P : Machines → Type 0) (N : Type 0) (n : ℕ) (R : Machines → Machines → Type 0) → ((p q : Machines) → R p q → P p → P q)
    → (o : Option ℕ) (old new : List SystemPort) → PortAtChangesBy R o old new → In P N n old → In P N n new
in_place P N n R move None old new h g = absurd h
in_place P N n R move (Some i) old new h g =
    subst (In P N n) (sym h.4) (in_set P N n old i h.0 (record h.0 { port = h.1 }) h.2 refl (move h.0.port h.1 h.3) g)

in_on_port : (P : Machines → Type 0) (N : Type 0) (n : ℕ) → IsKept P → (R : Machines → Machines → Type 0) → ((p q : Machines) → R p q → P p → P q)
    → (o : Option ℕ) (old new : SystemState) → ThenSettles (OnlyPortChangesBy o R) old new → In P N n old.system_ports → In P N n new.system_ports
in_on_port P N n kept R move o old new h g = in_settling P N n kept h.0 new h.2
    (in_place P N n R move o old.system_ports h.0.system_ports h.1.0 g)

in_link : (P : Machines → Type 0) (N : Type 0) (n : ℕ) → IsKept P → (m : ℕ) (up : Bool) (old new : SystemState)
    → ThenSettles (SetsLink m up) old new → In P N n old.system_ports → In P N n new.system_ports
in_link P N n kept m up old new h g = in_settling P N n kept h.0 new h.2 (in_place P N n (SetsPortEnabled old.max_links up)
    (λ p q r g. let c = choice_with_link old.max_links up p.choice in kept.link up (record p { choice = c }) q r (kept.select c p g))
    (port_index m old.system_ports) old.system_ports h.0.system_ports h.1.0 g)

good_settling : (n now : ℕ) (before : List ℕ) (old new : SystemState) → Settling old new → GoodIn n now before old.system_ports
    → GoodIn n now before new.system_ports
good_settling n now before old new h g = in_settling (λ p. Good now p before) (KeepsWindow before) n (good_kept now before) old new h g

-- sending

-- the place of a number is that of the first port with it
at_place : (n : ℕ) (xs : List SystemPort) (b : Bool) (k : ℕ) → nat_lt k (length xs) ≡ b → system_port_at (cond b (Some k) None) xs ≡ slice_get xs k
at_place n xs b k e = grind (arith, nat_tests, slice_get_past)

pub found : (n : ℕ) (xs : List SystemPort) → system_port_at (port_index n xs) xs ≡ find (is_numbered n) xs
found n xs = let k = position_or_len (is_numbered n) xs in at_place n xs (nat_lt k (length xs)) k refl ∙ sym (find_at (is_numbered n) xs)

found_set : (p : SystemPort → Bool) (xs : List SystemPort) (i : ℕ) (s t : SystemPort) → slice_get xs i ≡ Some s
    → ((k : ℕ) → k < i → p (get_or xs k s) ≡ false) → p t ≡ true → find p (slice_set xs i t) ≡ Some t
found_set p [] i s t e h k = absurd cc
found_set p (x ∷ xs) zero s t e h k = ap (λ b. cond b (Some t) (find p xs)) k
found_set p (x ∷ xs) (suc i) s t e h k = ap (λ b. cond b (Some x) (find p (slice_set xs i t))) (h zero (omega arith))
    ∙ found_set p xs i s t e (λ j l. h (suc j) (omega (arith, l))) k

found_other : (p : SystemPort → Bool) (xs : List SystemPort) (i : ℕ) (s t : SystemPort) → slice_get xs i ≡ Some s → p s ≡ false
    → p t ≡ false → find p (slice_set xs i t) ≡ find p xs
found_other p [] i s t e h k = refl
found_other p (x ∷ xs) zero s t e h k = grind (arith, nat_tests)
found_other p (x ∷ xs) (suc i) s t e h k = ap (λ o. cond (p x) (Some x) o) (found_other p xs i s t e h k)

good_sent : (m n now : ℕ) (before : List ℕ) (b : Bool) (xs : List SystemPort) (i : ℕ) (s t : SystemPort) → (m == n) ≡ b → port_index m xs ≡ Some i
    → slice_get xs i ≡ Some s → t.number ≡ s.number → (Good now s.port before → Good now t.port (before ++ now ∷ [])) → GoodIn n now before xs
    → GoodIn n now (if b then before ++ now ∷ [] else before) (slice_set xs i t)
good_sent m n now before true xs i s t b read_field at k send g = let same : m ≡ n = eqb-true m n b in
    let first = position-Some (is_numbered m) xs i s read_field in
    let numbered : (s.number == m) ≡ true = ap (is_numbered m) (sym (get_or_from_slice_get xs i s s at)) ∙ first.1 in
    let old : find (is_numbered m) xs ≡ Some s = sym (found m xs) ∙ ap (λ o. system_port_at o xs) read_field ∙ at in
    let new : find (is_numbered m) (slice_set xs i t) ≡ Some t = found_set (is_numbered m) xs i s t at first.2
    (ap (λ j. j == m) k ∙ numbered) in
    let g' : GoodIn m now before xs = subst (λ j. GoodIn j now before xs) (sym same) g in
    subst (λ j. GoodIn j now (before ++ now ∷ []) (slice_set xs i t)) same
    (subst (λ o. GoodAt now (before ++ now ∷ []) (port_in o)) (sym new) (send (subst (λ o. GoodAt now before (port_in o)) old g')))
good_sent m n now before false xs i s t b read_field at k send g = let first = position-Some (is_numbered m) xs i s read_field in
    let numbered : s.number ≡ m = eqb-true s.number m (ap (is_numbered m) (sym (get_or_from_slice_get xs i s s at)) ∙ first.1) in
    let other : (s.number == n) ≡ false = ap (λ j. j == n) numbered ∙ b in
    subst (λ o. GoodAt now before (port_in o)) (sym (found_other (is_numbered n) xs i s t at other (ap (λ j. j == n) k ∙ other))) g

good_sends : (now : ℕ) (before : List ℕ) (p : Machines) → is_due p ≡ true → Good now p before → Good now (after_sending p) (before ++ now ∷ [])
good_sends now before p due g = subst (λ b. Good now (after_sending p) (if b then before ++ now ∷ [] else before)) due
    (good_call now (port.Transmit 0) p (after_sending p) before (sym (ap (λ b. if b then after_sending p else p) due)) g)

-- a call that answers nothing, or a frame with this subtype
abbrev after_frame : ℕ → ℕ → List ℕ → ℕ → ℕ → List ℕ
after_frame m n before now k = if (m == n) && (k == 1) then before ++ now ∷ [] else before

abbrev after_transmit : ℕ → ℕ → ℕ → List ℕ → Option (List ℕ) → List ℕ
after_transmit m n now before answer = sends_after n now (Transmit m) (reply.Transmit (Ok answer)) before

first_kind : (m n now : ℕ) (before : List ℕ) → after_frame m n before now 1 ≡ (if m == n then before ++ now ∷ [] else before)
first_kind m n now before = grind (arith, nat_tests)

-- a start

-- only a tick and a send change the ages
ages_kept : (Q : List ℕ → Type 0) → IsKept (λ p. Q p.ages)
ages_kept Q = record {
  mux = λ ready p q d g. subst Q (sym (Reaches-keeps ages_of (mux_rows ready) (mux-same ready) d.0 p q d.1)) g;
  periodic = λ p q d g. subst Q (sym (periodic-ages p q d)) g;
  select = λ agg p g. g;
  link = λ up p q d g. subst Q (sym (settles-same (record p { enabled = up }) q d)) g;
  take = λ v p q d g. subst Q (sym (taking-ages v p q d)) g;
  party = λ change p q d g. subst Q (sym (starts-ages (record p { party = changed_party change p.party }) q d.1)) g;
}

abbrev IsEmpty : Machines → Type 0
IsEmpty p = p.ages ≡ []

empty_kept : IsKept IsEmpty
empty_kept = ages_kept (λ ages. ages ≡ [])

empty_start : (s : Setup) (p : Machines) → Starts (before_start s) p → IsEmpty p
empty_start s p h = starts-ages (before_start s) p h

empty_new : (n : ℕ) (system : SystemId) (ports : List PortConfig) (system_ports : List SystemPort)
    → AllZip (HasJustStarted system) ports system_ports → In IsEmpty Unit n system_ports
empty_new n system [] [] h = tt
empty_new n system [] (s ∷ ss) h = absurd h
empty_new n system (c ∷ cs) [] h = absurd h
empty_new n system (c ∷ cs) (s ∷ ss) h = let o = find (is_numbered n) ss in
    at_first (λ _. Unit) IsEmpty Unit (s.number == n) s s o o (λ _. empty_start (setup_of system c) s.port h.0.2)
    (λ _. empty_new n system cs ss h.1) (at_unit (port_in (cond (s.number == n) (Some s) o)))
  where
    at_unit : (o : Option Machines) → At (λ _. Unit) Unit o
    at_unit o = grind (arith, nat_tests)

empty_first : (n : ℕ) (s : SystemState) → IsFirst s → In IsEmpty Unit n s.system_ports
empty_first n s h = in_settling IsEmpty Unit n empty_kept (with_system_ports s h.0) s h.2 (empty_new n s.system s.ports h.0 h.1)

since_empty : (o : Option Machines) → At IsEmpty Unit o → AgesSince 0 o
since_empty o h = grind (arith, nat_tests)

three_empty : (o : Option Machines) → At IsEmpty Unit o → AtMostThreeAges o
three_empty o h = grind (arith, nat_tests)

pub good_few : (now : ℕ) (o : Option Machines) → AgesSince now o → AtMostThreeAges o → GoodAt now (remembered_sends now o) o
good_few now o h k = grind (arith, nat_tests, none_sent, good_ages)

none_kept : (o : Option Machines) → At IsEmpty Unit o → remembered_sends 0 o ≡ []
none_kept o h = grind (arith, nat_tests)

good_first : (n : ℕ) (s : SystemState) → IsFirst s → GoodIn n 0 [] s.system_ports
good_first n s h = let o = port_in (find (is_numbered n) s.system_ports) in
    let e = empty_first n s h in subst (λ before. GoodAt 0 before o) (none_kept o e) (good_few 0 o (since_empty o e) (three_empty o e))

-- runs

pub good_step : (gives : ℕ → ℕ → ℕ → Type 0) (n now : ℕ) (before : List ℕ) (old : SystemState) (call : Call) (answer : Reply)
    (new : SystemState) → Step gives old call answer new
    → GoodIn n now before old.system_ports → GoodIn n (tick_after call now) (sends_after n now call answer before) new.system_ports
good_step gives n now before old call answer new h g = let Q : Machines → Type 0 = λ p. Good now p before in
    let N = KeepsWindow before in
    let kept : IsKept Q = good_kept now before in
    Step-preserves_ports gives old (λ call answer new. GoodIn n (tick_after call now) (sends_after n now call answer before) new.system_ports)
    (λ call answer new none e.
    subst (λ t. GoodIn n t (sends_after n now call answer before) new.system_ports) (sym (none n now before).0)
    (subst (λ b. GoodIn n now b new.system_ports) (sym (none n now before).1) (in_same Q N n old new e g))) (record {
      tick = λ new h. good_settling n (now + 1) before h.0 new h.2
          (in_each Q (λ p. Good (now + 1) p before) N (λ p q. RunsToRest receive_rows (count_down p) q)
          n (λ p q d. good_call now port.Tick p q before d) old.system_ports h.0.system_ports h.1.0 g);
      link = λ m up done new h. in_link Q N n kept m up old new h g;
      take = λ m octets v answer new told h. in_on_port Q N n kept (ProcessesLacpdu v) (kept.take v) (port_index m old.system_ports) old new h g;
      change = λ m change new h. in_on_port Q N n kept (ChangesParty change) (kept.party change) (port_index m old.system_ports) old new h g;
      restart = λ new e first. good_first n new first;
      send = λ m i x answer octets new at e due is told set.
          let sent : SystemPort = record x { port = after_sending x.port } in
          let one : after_transmit m n now before (Some octets) ≡ (if m == n then before ++ now ∷ [] else before) =
          ap (after_frame m n before now) (lacpdu_subtype old.max_delay x octets is) ∙ first_kind m n now before in
          subst (λ a. GoodIn n now (after_transmit m n now before a) new.system_ports) (sym told)
          (subst (λ sends. GoodIn n now sends new.system_ports) (sym one)
          (subst (GoodIn n now (if m == n then before ++ now ∷ [] else before)) (sym (ap (λ (s : SystemState). s.system_ports) set))
          (good_sent m n now before (m == n) old.system_ports i x sent refl at e refl (good_sends now before x.port due) g)));
    }) call answer new h

good_run : (gives : ℕ → ℕ → ℕ → Type 0) (n now : ℕ) (before : List ℕ) (old new : SystemState) (calls : List Call) (replies : List Reply)
    → TableRun gives old calls replies new → GoodIn n now before old.system_ports → StaysWindowed n now before calls replies
good_run gives n now before old new [] [] h g = good_end now before (port_in (find (is_numbered n) old.system_ports)) g
good_run gives n now before old new [] (r ∷ rs) h g = absurd h
good_run gives n now before old new (c ∷ cs) [] h g = absurd h
good_run gives n now before old new (c ∷ cs) (r ∷ rs) h g = (
  good_end now before (port_in (find (is_numbered n) old.system_ports)) g,
  good_run gives n (tick_after c now) (sends_after n now c r before) h.0 new cs rs h.2
      (good_step gives n now before old c r h.0 h.1 g),
)

pub window_law : (gives : ℕ → ℕ → ℕ → Type 0) → SystemWindowLaw gives
window_law gives old new calls replies three run n now since = grind (arith, nat_tests, good_few, good_run, found)

pub window_from_start : (gives : ℕ → ℕ → ℕ → Type 0) → WindowFromStart gives
window_from_start gives n old new calls replies first run = good_run gives n 0 [] old new calls replies run (good_first n old first)

empty_of : (n : ℕ) (s : SystemState) → IsFirst s → At IsEmpty Unit (machines_of n s)
empty_of n s h = subst (λ x. At IsEmpty Unit (port_in x)) (sym (found n s.system_ports)) (empty_first n s h)

pub starts_empty : StartsWithoutAges
starts_empty n s h = let e = empty_of n s h in (since_empty (machines_of n s) e, none_kept (machines_of n s) e)

-- each port keeps at most three ages

abbrev IsFew : Machines → Type 0
IsFew p = length p.ages ≤ 3

aged_first : (b : Bool) (a n : ℕ) (more : List ℕ) → length more ≤ n → length (cond b (a ∷ more) more) ≤ n + 1
aged_first b a n more h = grind (arith, nat_tests)

aged_few : (ages : List ℕ) → length (aged ages) ≤ length ages
aged_few [] = omega arith
aged_few (a ∷ more) = omega (arith, aged_first (nat_lt (a + 1) 11) (a + 1) (length more) (aged more) (aged_few more))

tick_few : (p q : Machines) → RunsToRest receive_rows (count_down p) q → IsFew p → IsFew q
tick_few p q d h = subst (λ ages. length ages ≤ 3) (sym (settles-same (count_down p) q d)) (omega (arith, aged_few p.ages, h))

sent_few : (p : Machines) → is_due p ≡ true → IsFew (after_sending p)
sent_few p due = grind (arith, nat_tests, and_parts, length-append)

abbrev FewIn : ℕ → List SystemPort → Type 0
FewIn n system_ports = In IsFew Unit n system_ports

at_few : (o : Option Machines) → At IsEmpty Unit o → At IsFew Unit o
at_few o h = grind (arith, nat_tests)

few_kept : IsKept IsFew
few_kept = ages_kept (λ ages. length ages ≤ 3)

few_step : (n : ℕ) (gives : ℕ → ℕ → ℕ → Type 0) (old : SystemState) (call : Call) (answer : Reply) (new : SystemState)
    → Step gives old call answer new → FewIn n old.system_ports → FewIn n new.system_ports
few_step n gives old call answer new h g =
    Step-preserves_ports gives old (λ call answer new. FewIn n new.system_ports) (λ call answer new none e. in_same IsFew Unit n old new e g)
    (record {
      tick = λ new h. in_settling IsFew Unit n few_kept h.0 new h.2
          (in_each IsFew IsFew Unit (λ p q. RunsToRest receive_rows (count_down p) q) n tick_few old.system_ports h.0.system_ports h.1.0 g);
      link = λ m up done new h. in_link IsFew Unit n few_kept m up old new h g;
      take = λ m octets v answer new told h.
          in_on_port IsFew Unit n few_kept (ProcessesLacpdu v) (few_kept.take v) (port_index m old.system_ports) old new h g;
      change = λ m change new h.
          in_on_port IsFew Unit n few_kept (ChangesParty change) (few_kept.party change) (port_index m old.system_ports) old new h g;
      restart = λ new e first. at_few (port_in (find (is_numbered n) new.system_ports)) (empty_first n new first);
      send = λ m i x answer octets new at e due is told set.
          let sent : SystemPort = record x { port = after_sending x.port } in
          subst (FewIn n) (sym (ap (λ (s : SystemState). s.system_ports) set))
          (in_set IsFew Unit n old.system_ports i x sent e refl (λ _. sent_few x.port due) g);
    }) call answer new h

three_from : (o : Option Machines) → At IsFew Unit o → AtMostThreeAges o
three_from o h = grind (arith, nat_tests)

few_from : (o : Option Machines) → AtMostThreeAges o → At IsFew Unit o
few_from o h = grind (arith, nat_tests)

pub first_three : (s : SystemState) → IsFirst s → EachAtMostThreeAges s
first_three s h n = three_empty (machines_of n s) (empty_of n s h)

pub Step-three : (gives : ℕ → ℕ → ℕ → Type 0) (old : SystemState) (call : Call) (answer : Reply) (new : SystemState)
    → Step gives old call answer new → EachAtMostThreeAges old → EachAtMostThreeAges new
Step-three gives old call answer new h three n =
    let before : FewIn n old.system_ports = subst (λ x. At IsFew Unit (port_in x)) (found n old.system_ports)
    (few_from (machines_of n old) (three n)) in
    grind (arith, nat_tests, three_from, machines_of, At, IsFew, port_in, found, few_step)
