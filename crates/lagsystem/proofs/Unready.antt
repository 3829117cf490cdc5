-- After mux machines ran with Ready as worked out before, no aggregator is Ready.
use Rattle.lagsystem.proofs.Common.{Bool, List, [], ap, arith, cond, false, filter, if◌then◌else◌, inl, inr, not, refl, subst, suc, sym, true, zero}
use Rattle.lagsystem.proofs.Common.{ℕ, ◌&&◌, ◌∙◌, ◌∷◌, ◌≡◌, and_from, and_left, nat_tests, list_all, list_any, AggId, Key, Choice, Selected, Standby}
use Rattle.lagsystem.proofs.Common.{Unselected, is_selected, is_unselected, MuxState, Detached, Waiting, Machines, is_synchronized, mux_rows}
use Rattle.lagsystem.proofs.Common.{same_mux_state, Fires, FiresTimes, Row, RunsToRest, Reaches-keeps, PortView, is_aggregator, ports_that_chose}
use Rattle.lagsystem.proofs.Common.{is_ready, has_chosen, has_waited, is_detached_or_waiting, SystemPort, PortsChangeBy, ready_of, selection_view}
use Rattle.lagsystem.proofs.Common.{stage_of, views}
use Rattle.lagsystem.proofs.SettlingLemmas.{RunsReady}

-- what rows keep if they are enabled
abbrev KeptBy : (Machines → Bool) → List Row → Type 0
KeptBy holds [] = Unit {0}
KeptBy holds (row ∷ rows) = ((p : Machines) → holds p ≡ true → row.enabled p ≡ true → holds (row.effect p) ≡ true) × KeptBy holds rows

fires_kept : (holds : Machines → Bool) (rows : List Row) → KeptBy holds rows → (p q : Machines) → holds p ≡ true → Fires rows p q → holds q ≡ true
fires_kept holds [] k p q h f = absurd f
fires_kept holds (row ∷ rows) k p q h f = elim f [ inl x ↦ ap holds x.1 ∙ k.0 p h x.0 | inr x ↦ fires_kept holds rows k.1 p q h x ]

reaches_kept : (holds : Machines → Bool) (rows : List Row) → KeptBy holds rows → (n : ℕ) (p q : Machines) → holds p ≡ true
    → FiresTimes rows n p q → holds q ≡ true
reaches_kept holds rows k zero p q h run = ap holds run ∙ h
reaches_kept holds rows k (suc n) p q h run = fires_kept holds rows k run.0 q (reaches_kept holds rows k n p run.0 h run.1) run.2

-- a member that is ATTACHED or COLLECTING_DISTRIBUTING stays one without Ready
abbrev joined : Machines → Bool
joined p = is_selected p.choice && is_synchronized p.mux

joined_kept : KeptBy joined (mux_rows false)
joined_kept = grind (arith, nat_tests)

-- a member that waits and has not waited long enough stays one without Ready
abbrev open_of : MuxState → ℕ → Bool
open_of m w = is_detached_or_waiting (stage_of m w) && not (has_waited (stage_of m w))

abbrev is_open : Machines → Bool
is_open p = is_selected p.choice && open_of p.mux p.wait_while

open_kept : KeptBy is_open (mux_rows false)
open_kept = grind (arith, nat_tests)

-- a member of a Ready aggregator does not stay DETACHED or WAITING
joined_at_rest : (m : MuxState) (w : ℕ) (c : Choice) → is_selected c ≡ true → (same_mux_state Detached m && not (is_unselected c)) ≡ false
    → (same_mux_state Waiting m && (is_selected c && true)) ≡ false → is_detached_or_waiting (stage_of m w) ≡ false
joined_at_rest m w c s h k = grind (arith, nat_tests)

waits_not : (m : MuxState) (w : ℕ) (x : Bool) → (x && is_synchronized m) ≡ true → is_detached_or_waiting (stage_of m w) ≡ false
waits_not m w x h = grind (arith, nat_tests)

joined_where : (m : MuxState) (w : ℕ) (x : Bool) → x ≡ true → is_detached_or_waiting (stage_of m w) ≡ false → (x && is_synchronized m) ≡ true
joined_where m w x s h = grind (arith, nat_tests)

-- choices

pub mux_choice : (b : Bool) (p q : Machines) → RunsToRest (mux_rows b) p q → q.choice ≡ p.choice
mux_choice b p q h = Reaches-keeps (λ (p : Machines). p.choice) (mux_rows b) (
  (λ p. refl),
  ((λ p. refl), ((λ p. refl), ((λ p. refl), ((λ p. refl), ((λ p. refl), tt))))),
) h.0 p q h.1

given_selected : (agg : AggId) (c : Choice) → has_chosen agg c ≡ true → is_selected c ≡ true
given_selected agg c h = grind (arith, nat_tests)

ready_given : (keys : List Key) (seen : List PortView) (agg : AggId) (c : Choice) → has_chosen agg c ≡ true → ready_of keys seen c ≡ is_ready keys seen agg
ready_given keys seen agg c h = grind (arith, nat_tests)

-- lists

any_here : (test : PortView → Bool) (b : Bool) (w : PortView) (rest : List PortView) → (b ≡ true → test w ≡ false)
    → list_any test rest ≡ false → list_any test (cond b (w ∷ rest) rest) ≡ false
any_here test b w rest f h = grind (arith, nat_tests)

any_next : (test : PortView → Bool) (b : Bool) (w v : PortView) (rest more : List PortView) → list_any test (cond b (w ∷ rest) rest) ≡ false
    → (b ≡ true → test w ≡ false → test v ≡ false) → (list_any test rest ≡ false → list_any test more ≡ false) → list_any test (cond b (v ∷ more) more) ≡ false
any_next test b w v rest more h f g = grind (arith, nat_tests)

abbrev W : PortView → Bool
W v = is_detached_or_waiting v.stage

abbrev E : PortView → Bool
E v = has_waited v.stage

abbrev all_waited : List PortView → Bool
all_waited seen = list_all E (filter W seen)

all_next : (b : Bool) (w v : PortView) (rest more : List PortView) → all_waited (cond b (w ∷ rest) rest) ≡ false
    → (b ≡ true → (W w && not (E w)) ≡ true → (W v && not (E v)) ≡ true)
    → (all_waited rest ≡ false → all_waited more ≡ false) → all_waited (cond b (v ∷ more) more) ≡ false
all_next b w v rest more h f g = grind (arith, nat_tests)

-- the mux step

-- with Ready
none_wait : (keys : List Key) (seen : List PortView) (agg : AggId) → is_ready keys seen agg ≡ true → (xs ys : List SystemPort)
    → PortsChangeBy (RunsReady keys seen) xs ys → list_any W (ports_that_chose agg (views ys)) ≡ false
none_wait keys seen agg r [] [] h = refl
none_wait keys seen agg r [] (y ∷ ys) h = absurd h
none_wait keys seen agg r (x ∷ xs) [] h = absurd h
none_wait keys seen agg r (x ∷ xs) (y ∷ ys) h =
    any_here W (has_chosen agg y.port.choice) (selection_view y) (ports_that_chose agg (views ys))
    (λ g.
    let same = mux_choice (ready_of keys seen x.port.choice) x.port y.port h.0.1 in
    let mine : has_chosen agg x.port.choice ≡ true = sym (ap (has_chosen agg) same) ∙ g in
    let s : RunsToRest (mux_rows true) x.port y.port = subst (λ b. RunsToRest (mux_rows b) x.port y.port)
    (ready_given keys seen agg x.port.choice mine ∙ r) h.0.1 in
    joined_at_rest y.port.mux y.port.wait_while y.port.choice (given_selected agg y.port.choice g) s.2.0 s.2.1.1.0)
    (none_wait keys seen agg r xs ys h.1)

-- without
unready_step : (keys : List Key) (seen : List PortView) (agg : AggId) (x y : SystemPort) → is_ready keys seen agg ≡ false
    → RunsReady keys seen x.port y.port → has_chosen agg x.port.choice ≡ true → RunsToRest (mux_rows false) x.port y.port
unready_step keys seen agg x y r h g = subst (λ b. RunsToRest (mux_rows b) x.port y.port) (ready_given keys seen agg x.port.choice g ∙ r) h

any_stays : (keys : List Key) (seen : List PortView) (agg : AggId) → is_ready keys seen agg ≡ false → (xs ys : List SystemPort)
    → PortsChangeBy (RunsReady keys seen) xs ys → list_any W (ports_that_chose agg (views xs)) ≡ false → list_any W (ports_that_chose agg (views ys)) ≡ false
any_stays keys seen agg r [] [] h k = refl
any_stays keys seen agg r [] (y ∷ ys) h k = absurd h
any_stays keys seen agg r (x ∷ xs) [] h k = absurd h
any_stays keys seen agg r (x ∷ xs) (y ∷ ys) h k = let same = mux_choice (ready_of keys seen x.port.choice) x.port y.port h.0.1 in
    ap (λ c. list_any W (cond (has_chosen agg c) (selection_view y ∷ ports_that_chose agg (views ys)) (ports_that_chose agg (views ys))))
    same
    ∙ any_next W (has_chosen agg x.port.choice) (selection_view x) (selection_view y) (ports_that_chose agg (views xs))
    (ports_that_chose agg (views ys)) k
    (λ g w.
    let s = unready_step keys seen agg x y r h.0.1 g in
    let j : joined x.port ≡ true = joined_where x.port.mux x.port.wait_while (is_selected x.port.choice)
    (given_selected agg x.port.choice g) w in
    waits_not y.port.mux y.port.wait_while (is_selected y.port.choice)
    (reaches_kept joined (mux_rows false) joined_kept s.0 x.port y.port j s.1))
    (any_stays keys seen agg r xs ys h.1)

open_is : (x o : Bool) → (x && o) ≡ true → o ≡ true
open_is x o h = grind (arith, nat_tests)

all_stay : (keys : List Key) (seen : List PortView) (agg : AggId) → is_ready keys seen agg ≡ false → (xs ys : List SystemPort)
    → PortsChangeBy (RunsReady keys seen) xs ys → all_waited (ports_that_chose agg (views xs)) ≡ false → all_waited (ports_that_chose agg (views ys)) ≡ false
all_stay keys seen agg r [] [] h k = k
all_stay keys seen agg r [] (y ∷ ys) h k = absurd h
all_stay keys seen agg r (x ∷ xs) [] h k = absurd h
all_stay keys seen agg r (x ∷ xs) (y ∷ ys) h k = let same = mux_choice (ready_of keys seen x.port.choice) x.port y.port h.0.1 in
    ap (λ c. all_waited (cond (has_chosen agg c) (selection_view y ∷ ports_that_chose agg (views ys)) (ports_that_chose agg (views ys))))
    same
    ∙ all_next (has_chosen agg x.port.choice) (selection_view x) (selection_view y) (ports_that_chose agg (views xs))
    (ports_that_chose agg (views ys)) k
    (λ g w.
    let s = unready_step keys seen agg x y r h.0.1 g in
    let o : is_open x.port ≡ true = and_from (is_selected x.port.choice) (open_of x.port.mux x.port.wait_while)
    (given_selected agg x.port.choice g) w in
    open_is (is_selected y.port.choice) (open_of y.port.mux y.port.wait_while)
    (reaches_kept is_open (mux_rows false) open_kept s.0 x.port y.port o s.1))
    (all_stay keys seen agg r xs ys h.1)

-- no aggregator is Ready

none_of : (k : Bool) (g : List PortView) → (list_any W g && all_waited g) ≡ false
    → (list_any W (if k then g else []) && all_waited (if k then g else [])) ≡ false
none_of k g h = grind (arith, nat_tests)

one_false : (a b c d : Bool) → (a && b) ≡ false → (a ≡ false → c ≡ false) → (b ≡ false → d ≡ false) → (c && d) ≡ false
one_false a b c d h f g = grind (arith, nat_tests)

unready_cases : (keys : List Key) (agg : AggId) (xs ys : List SystemPort) → PortsChangeBy (RunsReady keys (views xs)) xs ys → (r : Bool)
    → is_ready keys (views xs) agg ≡ r → (k : Bool) → is_aggregator keys agg ≡ k → is_ready keys (views ys) agg ≡ false
unready_cases keys agg xs ys h r e k i = grind (arith, nat_tests, none_of, and_left, none_wait, one_false, any_stays, all_stay)

pub none_ready : (keys : List Key) (xs ys : List SystemPort) → PortsChangeBy (RunsReady keys (views xs)) xs ys → (c : Choice)
    → ready_of keys (views ys) c ≡ false
none_ready keys xs ys h Unselected = refl
none_ready keys xs ys h (Standby agg) = refl
none_ready keys xs ys h (Selected agg) = unready_cases keys agg xs ys h (is_ready keys (views xs) agg) refl (is_aggregator keys agg) refl
