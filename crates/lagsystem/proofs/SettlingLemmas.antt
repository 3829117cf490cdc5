-- What settling does, from what its loops do.
use Rattle.lagsystem.proofs.Common.{Bool, List, None, Option, Some, [], ap, arith, cond, false, filter, if◌then◌else◌, option_map, refl, slice_get}
use Rattle.lagsystem.proofs.Common.{slice_set, subst, suc, sym, true, zero, ℕ, ◌&&◌, ◌||◌, ◌∙◌, ◌∷◌, ◌≡◌, or_parts, nat_tests, list_all, list_any}
use Rattle.lagsystem.proofs.Common.{AggId, Key, Choice, is_selected, is_unselected, Machines, mux_rows, RunsPeriodic, RunsToRest, PortView}
use Rattle.lagsystem.proofs.Common.{chosen_aggregator, ports_that_chose, AggregatorsValue, has_chosen, has_waited, is_detached_or_waiting, SystemPort}
use Rattle.lagsystem.proofs.Common.{ChoosesIn, PortChangesBy, PortsChangeBy, SettlesPorts, after_choice_at, aggregator_for, choice_for, choice_in}
use Rattle.lagsystem.proofs.Common.{is_restless, ready_of, with_choice, SystemState, aggregators_value, with_system_ports, may_choose, selection_view}
use Rattle.lagsystem.proofs.Common.{views}
use Rattle.lagsystem.proofs.Lists.{AllZip-weaker}

abbrev one_expired : List PortView → Bool
one_expired seen = list_any (λ v. has_waited v.stage) seen

-- one of them waits, and each that does has waited long enough
abbrev have_waited : List PortView → Bool
have_waited seen = list_any (λ v. is_detached_or_waiting v.stage) seen
    && list_all (λ v. has_waited v.stage) (filter (λ v. is_detached_or_waiting v.stage) seen)

-- a SELECTED port in WAITING with wait_while expired
abbrev pub member_has_waited : SystemPort → Bool
member_has_waited s = is_selected s.port.choice && has_waited (selection_view s).stage

none_filtered : (agg : AggId) (c : Choice) (v : PortView) (rest : List PortView) → (is_selected c && has_waited v.stage) ≡ false
    → one_expired rest ≡ false → one_expired (cond (has_chosen agg c) (v ∷ rest) rest) ≡ false
none_filtered agg c v rest h k = grind (arith, nat_tests)

none_given : (agg : AggId) (system_ports : List SystemPort) → list_any (λ s. member_has_waited s) system_ports ≡ false
    → one_expired (ports_that_chose agg (views system_ports)) ≡ false
none_given agg [] h = refl
none_given agg (s ∷ ss) h = let both = or_parts (member_has_waited s) (list_any (λ s. member_has_waited s) ss) h in
    none_filtered agg s.port.choice (selection_view s) (ports_that_chose agg (views ss)) both.0 (none_given agg ss both.1)

none_known : (b : Bool) (xs : List PortView) → one_expired xs ≡ false → one_expired (if b then xs else []) ≡ false
none_known b xs h = grind (arith, nat_tests)

first_has_not : (b : Bool) (v : PortView) (rest : List PortView) → has_waited v.stage ≡ false → have_waited rest ≡ false
    → ((b || list_any (λ w. is_detached_or_waiting w.stage) rest)
    && list_all (λ w. has_waited w.stage)
    (cond b (v ∷ filter (λ w. is_detached_or_waiting w.stage) rest) (filter (λ w. is_detached_or_waiting w.stage) rest))) ≡ false
first_has_not b v rest h k = grind (arith, nat_tests)

none_has_waited : (seen : List PortView) → one_expired seen ≡ false → have_waited seen ≡ false
none_has_waited [] h = refl
none_has_waited (v ∷ vs) h = let both = or_parts (has_waited v.stage) (one_expired vs) h in
    first_has_not (is_detached_or_waiting v.stage) v vs both.0 (none_has_waited vs both.1)

-- if no member has waited long enough, no aggregator is Ready
pub no_ready : (keys : List Key) (system_ports : List SystemPort) → list_any (λ s. member_has_waited s) system_ports ≡ false
    → (c : Choice) → ready_of keys (views system_ports) c ≡ false
no_ready keys system_ports h c = grind (arith, nat_tests, none_has_waited, none_known, none_given)

pub runs_unready : (keys : List Key) (olds news : List SystemPort) → list_any (λ s. member_has_waited s) olds ≡ false
    → PortsChangeBy (RunsToRest (mux_rows false)) olds news → PortsChangeBy (λ p q. RunsToRest (mux_rows (ready_of keys (views olds) p.choice)) p q) olds news
runs_unready keys olds news none h = AllZip-weaker (PortChangesBy (RunsToRest (mux_rows false)))
    (PortChangesBy (λ p q. RunsToRest (mux_rows (ready_of keys (views olds) p.choice)) p q))
    (λ x y m. (m.0, subst (λ b. RunsToRest (mux_rows b) x.port y.port) (sym (no_ready keys olds none x.port.choice)) m.1)) olds news h

-- what has run to rest stays as it is when it runs again
pub runs_again : (olds news : List SystemPort) → PortsChangeBy (RunsToRest (mux_rows false)) olds news → PortsChangeBy (RunsToRest (mux_rows false)) news news
runs_again [] [] h = h
runs_again [] (y ∷ ys) h = absurd h
runs_again (x ∷ xs) [] h = absurd h
runs_again (x ∷ xs) (y ∷ ys) h = ((refl, (0, refl, h.0.1.2)), runs_again xs ys h.1)

-- where no port is restless, none is UNSELECTED
pub none_restless_unselected : (l : List SystemPort) → list_any (λ s. is_restless s) l ≡ false → list_any (λ s. is_unselected s.port.choice) l ≡ false
none_restless_unselected [] h = refl
none_restless_unselected (s ∷ ss) h = let both = or_parts (is_restless s) (list_any (λ s. is_restless s) ss) h in
    let one = or_parts (is_unselected s.port.choice) (member_has_waited s) both.0 in
    ap (λ b. b || list_any (λ s. is_unselected s.port.choice) ss) one.0 ∙ none_restless_unselected ss both.1

-- and none has waited
pub none_restless_has_waited : (l : List SystemPort) → list_any (λ s. is_restless s) l ≡ false → list_any (λ s. member_has_waited s) l ≡ false
none_restless_has_waited [] h = refl
none_restless_has_waited (s ∷ ss) h = let both = or_parts (is_restless s) (list_any (λ s. is_restless s) ss) h in
    let one = or_parts (is_unselected s.port.choice) (member_has_waited s) both.0 in
    ap (λ b. b || list_any (λ s. member_has_waited s) ss) one.1 ∙ none_restless_has_waited ss both.1

pub settling_made : (base : SystemState) (aggs : AggregatorsValue) (system_ports one two four five : List SystemPort) → aggregators_value base ≡ aggs
    → base.system_ports ≡ system_ports → PortsChangeBy (RunsToRest (mux_rows false)) system_ports one → ChoosesIn aggs one two
    → PortsChangeBy (λ p q. RunsToRest (mux_rows (ready_of aggs.keys (views two) p.choice)) p q) two four → PortsChangeBy RunsPeriodic four five
    → SettlesPorts base (with_system_ports base five)
settling_made base aggs system_ports one two four five ek es h1 h2 h4 h5 =
    let k1 : PortsChangeBy (RunsToRest (mux_rows false)) base.system_ports one =
    subst (λ l. PortsChangeBy (RunsToRest (mux_rows false)) l one) (sym es) h1 in
    let k2 : ChoosesIn (aggregators_value base) one two = subst (λ a. ChoosesIn a one two) (sym ek) h2 in
    let k4 : PortsChangeBy (λ p q. RunsToRest (mux_rows (ready_of base.keys (views two) p.choice)) p q) two four =
    subst (λ (a : AggregatorsValue). PortsChangeBy (λ p q. RunsToRest (mux_rows (ready_of a.keys (views two) p.choice)) p q) two four)
    (sym ek) h4 in (
      with_system_ports base one,
      (k1, refl),
      (
        with_system_ports base two,
        (k2, refl),
        (with_system_ports base two, refl, (with_system_ports base four, (k4, refl), (with_system_ports base five, (h5, refl), refl))),
      ),
    )

-- with Ready as it is worked out for these ports
abbrev pub RunsReady : List Key → List PortView → Machines → Machines → Type 0
RunsReady keys seen p q = RunsToRest (mux_rows (ready_of keys seen p.choice)) p q

-- the steps that change ports, as relations between lists of ports
pub record SettlesIn (aggs : AggregatorsValue) (old new : List SystemPort) : Type 0 where
  pub one : List SystemPort
  pub two : List SystemPort
  pub four : List SystemPort
  pub stops : PortsChangeBy (RunsToRest (mux_rows false)) old one
  pub chooses : ChoosesIn aggs one two
  pub runs : PortsChangeBy (RunsReady aggs.keys (views two)) two four
  pub paces : PortsChangeBy RunsPeriodic four new

pub settles_in : (old new : SystemState) → SettlesPorts old new → SettlesIn (aggregators_value old) old.system_ports new.system_ports
settles_in old new h = let two = h.2.0 in
    let four = h.2.2.2.0 in
    let keys : aggregators_value two ≡ aggregators_value old = ap aggregators_value h.2.1.1 ∙ ap aggregators_value h.1.1 in
    let runs : PortsChangeBy (RunsReady two.keys (views two.system_ports)) two.system_ports four.system_ports =
    subst (λ (s : SystemState). PortsChangeBy (RunsReady s.keys (views s.system_ports)) s.system_ports four.system_ports) h.2.2.1 h.2.2.2.1.0 in
    grind (arith, nat_tests, aggregators_value, RunsReady, views)

-- and they change nothing else
pub ports_frame : (old new : SystemState) → SettlesPorts old new → new ≡ with_system_ports old new.system_ports
ports_frame old new h = grind (arith, nat_tests)

pub set_same : (system_ports : List SystemPort) (i : ℕ) (s : SystemPort) → slice_get system_ports i ≡ Some s → slice_set system_ports i s ≡ system_ports
set_same [] i s e = refl
set_same (x ∷ xs) zero s e = let same : x ≡ s = cc in cc
set_same (x ∷ xs) (suc i) s e = ap (λ ys. x ∷ ys) (set_same xs i s e)

-- a port that takes no aggregator stays
pub none_for : (aggs : AggregatorsValue) (system_ports : List SystemPort) (s : SystemPort)
    → aggregator_for aggs.keys system_ports s ≡ None → choice_for aggs system_ports s ≡ None
none_for aggs system_ports s h = ap (option_map (choice_in aggs (views system_ports))) h

pub none_taken : (aggs : AggregatorsValue) (system_ports : List SystemPort) (i : ℕ) (s : SystemPort) → slice_get system_ports i ≡ Some s
    → may_choose s ≡ false → system_ports ≡ after_choice_at aggs system_ports i (slice_get system_ports i)
none_taken aggs system_ports i s e h = grind (arith, nat_tests, none_for, set_same)

pub one_taken : (aggs : AggregatorsValue) (system_ports : List SystemPort) (i : ℕ) (s t : SystemPort) (o : Option AggId)
    → slice_get system_ports i ≡ Some s → slice_get system_ports i ≡ Some t → may_choose s ≡ true
    → o ≡ chosen_aggregator aggs.keys (views system_ports) t.number
    → slice_set system_ports i (with_choice t (option_map (choice_in aggs (views system_ports)) o)) ≡ after_choice_at aggs system_ports i
    (slice_get system_ports i)
one_taken aggs system_ports i s t o e f h k = grind (arith, nat_tests)
