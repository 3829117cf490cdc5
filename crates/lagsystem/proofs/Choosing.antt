-- Ports choose one after another, and the list of views stays equal to their views.
use Rattle.lagsystem.proofs.Common.{Bool, List, Option, Some, [], ap, arith, false, get_or, length, not, refl, slice_get, slice_set, suc, sym, zero}
use Rattle.lagsystem.proofs.Common.{ℕ, ◌&&◌, ◌<◌, ◌||◌, ◌∙◌, ◌∷◌, ◌≡◌, or_parts, nat_tests, list_any, Choice, is_selected, is_unselected, PortView}
use Rattle.lagsystem.proofs.Common.{AggregatorsValue, is_eligible, SystemPort, after_choice_at, after_choices, with_choice, may_choose}
use Rattle.lagsystem.proofs.Common.{selection_view, views}
use Rattle.lagsystem.proofs.SettlingLemmas.{none_taken}

abbrev one_may_choose : List SystemPort → Bool
one_may_choose system_ports = list_any (λ s. may_choose s) system_ports

seen_given : (system_ports : List SystemPort) (i : ℕ) (d : PortView) (t : SystemPort) (c : Choice) → i < length system_ports
    → slice_set (views system_ports) i (record (get_or (views system_ports) i d) { choice = c }) ≡ views
    (slice_set system_ports i (with_choice (get_or system_ports i t) (Some c)))
seen_given [] i d t c l = absurd (omega arith)
seen_given (x ∷ xs) zero d t c l = refl
seen_given (x ∷ xs) (suc i) d t c l = ap (λ vs. selection_view x ∷ vs) (seen_given xs i d t c (omega arith))

-- if the port at a place gets this value of Selected, its view gets it too
pub seen_taken : (seen : List PortView) (system_ports : List SystemPort) (i : ℕ) (d : PortView) (t : SystemPort) (c : Choice) → seen ≡ views system_ports
    → i < length system_ports
    → slice_set seen i (record (get_or seen i d) { choice = c }) ≡ views (slice_set system_ports i (with_choice (get_or system_ports i t) (Some c)))
seen_taken seen system_ports i d t c e l = grind (arith, nat_tests, seen_given)

not_here : (system_ports : List SystemPort) (i : ℕ) (s : SystemPort) → one_may_choose system_ports ≡ false → slice_get system_ports i ≡ Some s
    → may_choose s ≡ false
not_here [] i s h e = cc
not_here (x ∷ xs) zero s h e = grind (arith, nat_tests)
not_here (x ∷ xs) (suc i) s h e = not_here xs i s (or_parts (may_choose x) (one_may_choose xs) h).1 e

stays_at : (aggs : AggregatorsValue) (system_ports : List SystemPort) (i : ℕ) (o : Option SystemPort) → one_may_choose system_ports ≡ false
    → slice_get system_ports i ≡ o → system_ports ≡ after_choice_at aggs system_ports i o
stays_at aggs system_ports i o h e = grind (arith, nat_tests, none_taken, not_here, after_choice_at)

-- if no port may choose, none takes an aggregator
pub none_chosen : (aggs : AggregatorsValue) (n : ℕ) (system_ports : List SystemPort) → one_may_choose system_ports ≡ false
    → system_ports ≡ after_choices aggs n system_ports
none_chosen aggs zero system_ports h = refl
none_chosen aggs (suc n) system_ports h = grind (arith, nat_tests, stays_at, none_chosen aggs n system_ports h)

-- a port that is not UNSELECTED is not eligible
pub chosen_not_eligible : (v : PortView) → is_unselected v.choice ≡ false → false ≡ is_eligible v
chosen_not_eligible v h = grind (arith, nat_tests)

selected_not_eligible : (v : PortView) → not (is_selected v.choice) ≡ false → is_eligible v ≡ false
selected_not_eligible v h = grind (arith, nat_tests)

-- where each port is SELECTED, none may choose
pub selected_chooses_none : (s : SystemPort) → not (is_selected s.port.choice) ≡ false → may_choose s ≡ false
selected_chooses_none s h = ap (λ b. b && not s.held) (selected_not_eligible (selection_view s) h)

pub none_left_to_choose : (l : List SystemPort) → list_any (λ s. not (is_selected s.port.choice)) l ≡ false → one_may_choose l ≡ false
none_left_to_choose [] h = refl
none_left_to_choose (s ∷ ss) h =
    let both = or_parts (not (is_selected s.port.choice)) (list_any (λ s. not (is_selected s.port.choice)) ss) h in
    ap (λ b. b || one_may_choose ss) (selected_chooses_none s both.0) ∙ none_left_to_choose ss both.1

-- where no port is UNSELECTED, none may choose either
pub none_free_to_choose : (l : List SystemPort) → list_any (λ s. is_unselected s.port.choice) l ≡ false → one_may_choose l ≡ false
none_free_to_choose [] h = refl
none_free_to_choose (s ∷ ss) h =
    let both = or_parts (is_unselected s.port.choice) (list_any (λ s. is_unselected s.port.choice) ss) h in
    ap (λ b. (b && not s.held) || one_may_choose ss) (sym (chosen_not_eligible (selection_view s) both.0)) ∙ none_free_to_choose ss both.1
