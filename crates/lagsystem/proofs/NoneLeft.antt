-- When all ports have chosen, none that is still eligible finds an aggregator.
use Rattle.lagsystem.proofs.Common.{Bool, List, None, Option, Some, [], ap, arith, false, if◌then◌else◌, inl, inr, length, not, option_map, refl}
use Rattle.lagsystem.proofs.Common.{slice_get, slice_set, subst, suc, sym, true, zero, ℕ, ◌&&◌, ◌<◌, ◌∙◌, ◌∷◌, ◌≡◌, ◌⊎◌, nat_tests, same_Some}
use Rattle.lagsystem.proofs.Common.{AllByRecursion, AggId, Key, Choice, Unselected, is_unselected, PortView, chosen_aggregator, chosen_for_view}
use Rattle.lagsystem.proofs.Common.{chosen_if_eligible, AggregatorsValue, has_room, is_eligible, SystemPort, after_choice_at, after_choices}
use Rattle.lagsystem.proofs.Common.{aggregator_for, choice_for, choice_if, choice_in, with_choice, port_numbers, may_choose, selection_view, views}
use Rattle.lagsystem.proofs.Keeps.{chosen_numbers, numbers_set}
use Rattle.lagsystem.proofs.NoneStays.{none_after}
use Rattle.lagsystem.proofs.Rising.{Rises, all-get, find_here}
use Rattle.lagsystem.proofs.SettlingLemmas.{set_same}

-- places of a list

get_other : (system_ports : List SystemPort) (n j : ℕ) (x : SystemPort) → j < n → slice_get (slice_set system_ports n x) j ≡ slice_get system_ports j
get_other [] n j x l = refl
get_other (s ∷ ss) zero j x l = absurd (omega (arith, l))
get_other (s ∷ ss) (suc n) zero x l = refl
get_other (s ∷ ss) (suc n) (suc j) x l = get_other ss n j x (omega (arith, l))

get_here : (system_ports : List SystemPort) (n : ℕ) (x t : SystemPort) → slice_get (slice_set system_ports n x) n ≡ Some t → t ≡ x
get_here [] n x t e = absurd cc
get_here (s ∷ ss) zero x t e = sym (same_Some x t e)
get_here (s ∷ ss) (suc n) x t e = get_here ss n x t e

get_within : (system_ports : List SystemPort) (j : ℕ) (t : SystemPort) → slice_get system_ports j ≡ Some t → j < length system_ports
get_within [] j t e = absurd cc
get_within (s ∷ ss) zero t e = omega arith
get_within (s ∷ ss) (suc j) t e = omega (arith, get_within ss j t e)

length_set : (system_ports : List SystemPort) (i : ℕ) (x : SystemPort) → length (slice_set system_ports i x) ≡ length system_ports
length_set [] i x = refl
length_set (s ∷ ss) zero x = refl
length_set (s ∷ ss) (suc i) x = omega (arith, length_set ss i x)

length_choose : (aggs : AggregatorsValue) (system_ports : List SystemPort) (i : ℕ) (o : Option SystemPort)
    → length (after_choice_at aggs system_ports i o) ≡ length system_ports
length_choose aggs system_ports i o = grind (arith, nat_tests, length_set, with_choice, choice_for)

length_chosen : (aggs : AggregatorsValue) (n : ℕ) (system_ports : List SystemPort) → length (after_choices aggs n system_ports) ≡ length system_ports
length_chosen aggs zero system_ports = refl
length_chosen aggs (suc n) system_ports = grind (arith, nat_tests, length_choose, length_chosen aggs n system_ports)

below_or_at : (j n : ℕ) → j < suc n → (j < n) ⊎ (j ≡ n)
below_or_at j zero l = inr (omega (arith, l))
below_or_at zero (suc n) l = inl (omega arith)
below_or_at (suc j) (suc n) l = grind (arith, nat_tests, below_or_at j n (omega (arith, l)))

-- what is taken

pub when_still : (b : Bool) (x y : Option AggId) → (if b then x else None) ≡ None → (x ≡ None → y ≡ None) → (if b then y else None) ≡ None
when_still b x y h f = grind (arith, nat_tests)

pub not_when : (b : Bool) (x : Option AggId) → b ≡ false → (if b then x else None) ≡ None
not_when b x h = grind (arith, nat_tests)

-- what the port at a place takes, by its own view
pub takes_is : (keys : List Key) (system_ports : List SystemPort) (j : ℕ) (t : SystemPort) → Rises 0 (port_numbers system_ports)
    → slice_get system_ports j ≡ Some t
    → aggregator_for keys system_ports t
    ≡ (if may_choose t then (if is_eligible (selection_view t) then chosen_if_eligible keys (views system_ports)
    (selection_view t) else None) else None)
takes_is keys system_ports j t r e = ap (λ o. if may_choose t then chosen_for_view keys (views system_ports) o else None)
    (find_here 0 system_ports j t r e)

none_then : (keys : List Key) (system_ports : List SystemPort) (i j : ℕ) (s t : SystemPort) (a : Choice) → Rises 0 (port_numbers system_ports)
    → slice_get system_ports i ≡ Some s → s.port.choice ≡ Unselected → slice_get system_ports j ≡ Some t → j < i → aggregator_for keys system_ports t ≡ None
    → aggregator_for keys (slice_set system_ports i (with_choice s (Some a))) t ≡ None
none_then keys system_ports i j s t a r e u g l h =
    let later : List SystemPort = slice_set system_ports i (with_choice s (Some a)) in
    let rise : Rises 0 (port_numbers later) = subst (λ ns. Rises 0 ns)
    (sym (numbers_set system_ports i s (with_choice s (Some a)) e refl)) r in
    let b : Bool = is_eligible (selection_view t) in
    let x : Option AggId = chosen_if_eligible keys (views system_ports) (selection_view t) in
    let y : Option AggId = chosen_if_eligible keys (views later) (selection_view t) in
    takes_is keys later j t rise (get_other system_ports i j (with_choice s (Some a)) l ∙ g)
    ∙ when_still (may_choose t) (if b then x else None) (if b then y else None) (sym (takes_is keys system_ports j t r g) ∙ h)
    (λ k. when_still b x y k (none_after keys system_ports i s a (selection_view t) e u))

pub may_then : (b : Bool) (x : Option AggId) (a : AggId) → (if b then x else None) ≡ Some a → b ≡ true
may_then b x a e = grind (arith, nat_tests)

pub unselected : (c : Choice) (b d e : Bool) → (((b && is_unselected c) && d) && e) ≡ true → c ≡ Unselected
unselected c b d e h = grind (arith, nat_tests)

not_unselected : (room : Bool) (agg : AggId) (b d e : Bool) → (((b && is_unselected (choice_if room agg)) && d) && e) ≡ false
not_unselected room agg b d e = grind (arith, nat_tests)

-- each of the first n finds none
abbrev Found_none : List Key → ℕ → List SystemPort → Type 0
Found_none keys n system_ports = (j : ℕ) (t : SystemPort) → j < n → slice_get system_ports j ≡ Some t
    → aggregator_for keys system_ports t ≡ None

one_taken : (aggs : AggregatorsValue) (system_ports : List SystemPort) (n : ℕ) (s : SystemPort) (o : Option AggId) → aggregator_for aggs.keys system_ports s ≡ o
    → slice_get system_ports n ≡ Some s → Rises 0 (port_numbers system_ports) → Found_none aggs.keys n system_ports
    → Found_none aggs.keys (suc n) (slice_set system_ports n (with_choice s (option_map (choice_in aggs (views system_ports)) o)))
one_taken aggs system_ports n s None w e r k j t l g = let keys = aggs.keys in
    let same : slice_set system_ports n s ≡ system_ports = set_same system_ports n s e in
    let there : slice_get system_ports j ≡ Some t = ap (λ (l : List SystemPort). slice_get l j) (sym same) ∙ g in
    let none : aggregator_for keys system_ports t ≡ None = elim (below_or_at j n l) [
      | inl h ↦ k j t h there
      | inr h ↦ subst (λ (x : SystemPort). aggregator_for keys system_ports x ≡ None)
          (same_Some s t (sym e ∙ ap (slice_get system_ports) (sym h) ∙ there)) w
    ] in
    ap (λ (l : List SystemPort). aggregator_for keys l t) same ∙ none
one_taken aggs system_ports n s (Some a) w e r k j t l g = let keys = aggs.keys in
    let room = has_room aggs (views system_ports) a in
    let c = choice_if room a in
    let can : may_choose s ≡ true = may_then (may_choose s) (chosen_aggregator keys (views system_ports) s.number) a w in
    let u : s.port.choice ≡ Unselected = unselected s.port.choice _ _ _ can in
    let later : List SystemPort = slice_set system_ports n (with_choice s (Some c)) in
    elim (below_or_at j n l) [
      | inl h ↦ let there : slice_get system_ports j ≡ Some t = sym (get_other system_ports n j (with_choice s (Some c)) h)
          ∙ g in none_then keys system_ports n j s t c r e u there h (k j t h there)
      | inr h ↦ let is : t ≡ with_choice s (Some c) = get_here system_ports n (with_choice s (Some c)) t
          (ap (slice_get later) (sym h) ∙ g) in
          subst (λ (x : SystemPort). aggregator_for keys later x ≡ None) (sym is)
          (not_when (may_choose (with_choice s (Some c)))
          (chosen_aggregator keys (views later) s.number) (not_unselected room a _ _ _))
    ]

one_chosen : (aggs : AggregatorsValue) (system_ports : List SystemPort) (n : ℕ) (o : Option SystemPort) → slice_get system_ports n ≡ o
    → Rises 0 (port_numbers system_ports) → Found_none aggs.keys n system_ports → Found_none aggs.keys (suc n) (after_choice_at aggs system_ports n o)
one_chosen aggs system_ports n o e r k j t l g = grind (arith, nat_tests, one_taken)

all_chosen : (aggs : AggregatorsValue) (n : ℕ) (system_ports : List SystemPort) → Rises 0 (port_numbers system_ports)
    → Found_none aggs.keys n (after_choices aggs n system_ports)
all_chosen aggs zero system_ports r j t l g = absurd (omega (arith, l))
all_chosen aggs (suc n) system_ports r j t l g =
    one_chosen aggs (after_choices aggs n system_ports) n (slice_get (after_choices aggs n system_ports) n) refl
    (subst (λ ns. Rises 0 ns) (sym (chosen_numbers aggs n system_ports)) r) (all_chosen aggs n system_ports r) j t l g

pub each_place : (P : SystemPort → Type 0) (system_ports : List SystemPort)
    → ((j : ℕ) (t : SystemPort) → slice_get system_ports j ≡ Some t → P t) → AllByRecursion P system_ports
each_place P [] k = tt
each_place P (s ∷ ss) k = (k 0 s refl, each_place P ss (λ j t e. k (suc j) t e))

-- a port that is seen so, beside these, takes no aggregator; the last argument: it is held
abbrev pub TakesNone : List Key → List PortView → PortView → Bool → Type 0
TakesNone keys seen v held = (if is_eligible v && not held then chosen_if_eligible keys seen v else None) ≡ None

when_twice : (b d : Bool) (x : Option AggId) → (if b && d then (if b then x else None) else None) ≡ None → (if b && d then x else None) ≡ None
when_twice b d x h = grind (arith, nat_tests)

when_again : (b d : Bool) (x : Option AggId) → (if b && d then x else None) ≡ None → (if b && d then (if b then x else None) else None) ≡ None
when_again b d x h = grind (arith, nat_tests)

pub taken_none : (keys : List Key) (system_ports : List SystemPort) → Rises 0 (port_numbers system_ports)
    → AllByRecursion (λ t. TakesNone keys (views system_ports) (selection_view t) t.held) system_ports
    → (j : ℕ) (t : SystemPort) → slice_get system_ports j ≡ Some t → aggregator_for keys system_ports t ≡ None
taken_none keys system_ports r all j t e = takes_is keys system_ports j t r e
    ∙ when_again (is_eligible (selection_view t)) (not t.held) (chosen_if_eligible keys (views system_ports) (selection_view t))
    (all-get (λ t. TakesNone keys (views system_ports) (selection_view t) t.held) system_ports j t e all)

-- each port, when all have chosen
pub none_takes : (aggs : AggregatorsValue) (system_ports : List SystemPort) → Rises 0 (port_numbers system_ports)
    → AllByRecursion (λ t. TakesNone aggs.keys (views (after_choices aggs (length system_ports) system_ports)) (selection_view t) t.held)
    (after_choices aggs (length system_ports) system_ports)
none_takes aggs system_ports r = let keys = aggs.keys in
    let last : List SystemPort = after_choices aggs (length system_ports) system_ports in
    let rise : Rises 0 (port_numbers last) = subst (λ ns. Rises 0 ns) (sym (chosen_numbers aggs (length system_ports) system_ports)) r in
    each_place (λ t. TakesNone keys (views last) (selection_view t) t.held) last
    (λ j t e. when_twice (is_eligible (selection_view t)) (not t.held) (chosen_if_eligible keys (views last) (selection_view t))
    (sym (takes_is keys last j t rise e)
    ∙ all_chosen aggs (length system_ports) system_ports r j t
    (subst (λ m. j < m) (length_chosen aggs (length system_ports) system_ports) (get_within last j t e)) e))
