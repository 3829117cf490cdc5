-- A settling leaves the ages of the LACPDUs that each port sent.
use Rattle.lagsystem.proofs.Common.{Bool, List, Option, Some, [], ap, arith, cond, false, find, map, option_map, refl, slice_get, slice_set, suc}
use Rattle.lagsystem.proofs.Common.{zero, ℕ, ◌==◌, ◌∙◌, ◌∷◌, ◌≡◌, nat_tests, Choice, Machines, mux_rows, RunsPeriodic, periodic_rows, RunsToRest}
use Rattle.lagsystem.proofs.Common.{Reaches-keeps, AggregatorsValue, SystemPort, ages_at, ChoosesIn, PortsChangeBy, Settling, ready_of, with_choice}
use Rattle.lagsystem.proofs.Common.{SystemState, aggregators_value, port_numbers, views, AtMostThreeAges}
use Rattle.lagsystem.proofs.Keeps.{settling_in}
use Rattle.lagsystem.proofs.PromotionLemmas.{KeptByChoices, choosing_keeps}
use Rattle.lagsystem.proofs.SettlingLemmas.{RunsReady}
use Rattle.lagsystem.proofs.Windows.{found, is_numbered, port_in}

abbrev pub ages_of : Machines → List ℕ
ages_of p = p.ages

abbrev pub ages_in : List SystemPort → List (List ℕ)
ages_in system_ports = map (λ s. s.port.ages) system_ports

pub zip_ages : (R : Machines → Machines → Type 0) → ((p q : Machines) → R p q → q.ages ≡ p.ages) → (xs ys : List SystemPort)
    → PortsChangeBy R xs ys → ages_in ys ≡ ages_in xs
zip_ages R k [] [] h = refl
zip_ages R k [] (y ∷ ys) h = absurd h
zip_ages R k (x ∷ xs) [] h = absurd h
zip_ages R k (x ∷ xs) (y ∷ ys) h = λ i. k x.port y.port h.0.1 i ∷ zip_ages R k xs ys h.1 i

pub ages_set : (system_ports : List SystemPort) (i : ℕ) (s t : SystemPort) → slice_get system_ports i ≡ Some s → t.port.ages ≡ s.port.ages
    → ages_in (slice_set system_ports i t) ≡ ages_in system_ports
ages_set [] i s t e n = refl
ages_set (x ∷ xs) zero s t e n = grind (arith, nat_tests)
ages_set (x ∷ xs) (suc i) s t e n = ap (λ more. x.port.ages ∷ more) (ages_set xs i s t e n)

given_ages : (s : SystemPort) (o : Option Choice) → (with_choice s o).port.ages ≡ s.port.ages
given_ages s o = grind (arith, nat_tests)

selects_ages : (ages : List (List ℕ)) → KeptByChoices (λ l. ages_in l ≡ ages)
selects_ages ages l i s o e h = ages_set l i s (with_choice s o) e (given_ages s o) ∙ h

choosing_ages : (aggs : AggregatorsValue) (old new : List SystemPort) → ChoosesIn aggs old new → ages_in new ≡ ages_in old
choosing_ages aggs old new h = choosing_keeps (λ l. ages_in l ≡ ages_in old) (selects_ages (ages_in old)) aggs old new h refl

mux_ages : (ready : Bool) (p q : Machines) → RunsToRest (mux_rows ready) p q → q.ages ≡ p.ages
mux_ages ready p q h = Reaches-keeps ages_of (mux_rows ready)
    ((λ p. refl), ((λ p. refl), ((λ p. refl), ((λ p. refl), ((λ p. refl), ((λ p. refl), tt)))))) h.0 p q h.1

periodic_ages : (p q : Machines) → RunsPeriodic p q → q.ages ≡ p.ages
periodic_ages p q h = ap ages_of h.2
    ∙ Reaches-keeps ages_of periodic_rows (
      (λ p. refl),
      ((λ p. refl), ((λ p. refl), ((λ p. refl), ((λ p. refl), ((λ p. refl), ((λ p. refl), tt)))))),
    ) h.1.0 p h.0 h.1.1

pub settling_ages : (old new : SystemState) → Settling old new → ages_in new.system_ports ≡ ages_in old.system_ports
settling_ages old new h = let s = settling_in old new h in
    zip_ages RunsPeriodic periodic_ages s.four new.system_ports s.paces
    ∙ zip_ages (RunsReady old.keys (views s.two)) (λ p q x. mux_ages (ready_of old.keys (views s.two) p.choice) p q x) s.two s.four s.runs
    ∙ choosing_ages (aggregators_value old) s.one s.two s.chooses
    ∙ zip_ages (RunsToRest (mux_rows false)) (mux_ages false) old.system_ports s.one s.stops

-- the ages of the port with a number

next_ages : (b c : Bool) (x y : SystemPort) (o p : Option SystemPort) → c ≡ b → y.port.ages ≡ x.port.ages
    → option_map ages_of (port_in p) ≡ option_map ages_of (port_in o)
    → option_map ages_of (port_in (cond c (Some y) p)) ≡ option_map ages_of (port_in (cond b (Some x) o))
next_ages b c x y o p e a h = grind (arith, nat_tests)

ages_found : (n : ℕ) (xs ys : List SystemPort) → port_numbers ys ≡ port_numbers xs → ages_in ys ≡ ages_in xs
    → option_map ages_of (port_in (find (is_numbered n) ys)) ≡ option_map ages_of (port_in (find (is_numbered n) xs))
ages_found n [] [] e a = refl
ages_found n [] (y ∷ ys) e a = absurd cc
ages_found n (x ∷ xs) [] e a = absurd cc
ages_found n (x ∷ xs) (y ∷ ys) e a = let number : y.number ≡ x.number = cc in
    let numbers : port_numbers ys ≡ port_numbers xs = cc in
    let here : y.port.ages ≡ x.port.ages = cc in
    let rest : ages_in ys ≡ ages_in xs = cc in
    next_ages (x.number == n) (y.number == n) x y (find (is_numbered n) xs) (find (is_numbered n) ys) (ap (λ k. k == n) number) here
    (ages_found n xs ys numbers rest)

pub same_ages : (old new : SystemState) → port_numbers new.system_ports ≡ port_numbers old.system_ports
    → ages_in new.system_ports ≡ ages_in old.system_ports → (n : ℕ) → ages_at n new ≡ ages_at n old
same_ages old new e a n = grind (arith, nat_tests, option_map, ages_of, port_in, found, ages_found)

pub few_by : (o p : Option Machines) → option_map ages_of p ≡ option_map ages_of o → AtMostThreeAges o → AtMostThreeAges p
few_by o p e h = grind (arith, nat_tests)
