-- A port that found no aggregator finds none after another port chose one, nor after mux machines ran.
use Rattle.lagsystem.proofs.Common.{Bool, List, None, Option, Some, [], ap, arith, cond, false, find, not, option_map, refl, slice_get, slice_set}
use Rattle.lagsystem.proofs.Common.{suc, true, zero, ℕ, ◌&&◌, ◌==◌, ◌||◌, ◌∙◌, ◌∷◌, ◌≡◌, not-false, not_from_true, nat_tests, enumerate_from}
use Rattle.lagsystem.proofs.Common.{list_all, AggId, Key, Choice, Unselected, individual, PortView, aggregator_of_entry, chosen_if_eligible}
use Rattle.lagsystem.proofs.Common.{has_group_of, has_no_occupant, has_occupant, lowest, occupants, occupants_share_group, or_else, occupies}
use Rattle.lagsystem.proofs.Common.{SystemPort, with_choice, selection_view, views}

none_or : (x y : Option AggId) → or_else x y ≡ None → (x ≡ None) × (y ≡ None)
none_or x y e = grind (arith, nat_tests)

none_mapped : (o : Option (ℕ × Key)) → option_map aggregator_of_entry o ≡ None → o ≡ None
none_mapped o e = grind (arith, nat_tests)

first_fails : (b : Bool) (row : ℕ × Key) (rest : Option (ℕ × Key)) → cond b (Some row) rest ≡ None → (b ≡ false) × (rest ≡ None)
first_fails b row rest e = grind (arith, nat_tests)

fails_here : (b : Bool) (row : ℕ × Key) (rest : Option (ℕ × Key)) → b ≡ false → rest ≡ None → cond b (Some row) rest ≡ None
fails_here b row rest h e = grind (arith, nat_tests)

both_false : (k t u : Bool) → (k && t) ≡ false → (t ≡ false → u ≡ false) → (k && u) ≡ false
both_false k t u h f = grind (arith, nat_tests)

two_false : (k s t u : Bool) → (k && s) ≡ false → (k && t) ≡ false → (s ≡ false → t ≡ false → u ≡ false) → (k && u) ≡ false
two_false k s t u h g f = grind (arith, nat_tests)

-- the first aggregator with this key that passes the test
abbrev passing : Key → (AggId → Bool) → List (ℕ × Key) → Option (ℕ × Key)
passing key test rows = find (λ (row : ℕ × Key). (row.1.0 == key.0) && test (aggregator_of_entry row)) rows

still_none : (key : Key) (empty join later_empty later_join : AggId → Bool) → ((agg : AggId) → empty agg ≡ false → later_empty agg ≡ false)
    → ((agg : AggId) → empty agg ≡ false → join agg ≡ false → later_join agg ≡ false) → (rows : List (ℕ × Key)) → passing key empty rows ≡ None
    → passing key join rows ≡ None → (passing key later_empty rows ≡ None) × (passing key later_join rows ≡ None)
still_none key empty join later_empty later_join f g [] e j = (refl, refl)
still_none key empty join later_empty later_join f g (row ∷ rows) e j = let agg : AggId = aggregator_of_entry row in
    let same : Bool = row.1.0 == key.0 in
    let he = first_fails (same && empty agg) row (passing key empty rows) e in
    let hj = first_fails (same && join agg) row (passing key join rows) j in
    let rest = still_none key empty join later_empty later_join f g rows he.1 hj.1 in (
      fails_here (same && later_empty agg) row (passing key later_empty rows)
          (both_false same (empty agg) (later_empty agg) he.0 (f agg)) rest.0,
      fails_here (same && later_join agg) row (passing key later_join rows)
          (two_false same (empty agg) (join agg) (later_join agg) he.0 hj.0 (g agg)) rest.1,
    )

-- if no aggregator becomes empty, and none that is occupied becomes joinable
pub none_stays : (keys : List Key) (seen later : List PortView) (v : PortView)
    → ((agg : AggId) → has_no_occupant seen agg ≡ false → has_no_occupant later agg ≡ false)
    → ((agg : AggId) → has_no_occupant seen agg ≡ false → occupants_share_group seen v agg ≡ false → occupants_share_group later v agg ≡ false)
    → chosen_if_eligible keys seen v ≡ None → chosen_if_eligible keys later v ≡ None
none_stays keys seen later v f g e =
    let both = none_or (lowest keys v.party.key (occupants_share_group seen v)) (lowest keys v.party.key (has_no_occupant seen)) e in
    let rows : List (ℕ × Key) = enumerate_from 1 keys in
    let h = still_none v.party.key (has_no_occupant seen) (occupants_share_group seen v) (has_no_occupant later)
    (occupants_share_group later v) f g rows
    (none_mapped (passing v.party.key (has_no_occupant seen) rows) both.1)
    (none_mapped (passing v.party.key (occupants_share_group seen v) rows) both.0) in
    grind (arith, nat_tests, or_else, option_map, aggregator_of_entry, lowest, has_no_occupant)

-- one more occupant

or_still : (b c d : Bool) → (b || c) ≡ true → (c ≡ true → d ≡ true) → (b || d) ≡ true
or_still b c d h f = grind (arith, nat_tests)

pub not_given : (agg : AggId) (s x : SystemPort) → x ≡ s → s.port.choice ≡ Unselected → occupies agg x.port.choice ≡ false
not_given agg s x same u = ap (λ (y : SystemPort). occupies agg y.port.choice) same ∙ ap (occupies agg) u

occupant_stays : (agg : AggId) (a : Choice) (system_ports : List SystemPort) (i : ℕ) (s : SystemPort) → slice_get system_ports i ≡ Some s
    → s.port.choice ≡ Unselected
    → has_occupant (views system_ports) agg ≡ true → has_occupant (views (slice_set system_ports i (with_choice s (Some a)))) agg ≡ true
occupant_stays agg a [] i s e u h = absurd cc
occupant_stays agg a (x ∷ xs) zero s e u h = grind (arith, nat_tests)
occupant_stays agg a (x ∷ xs) (suc i) s e u h =
    or_still (occupies agg x.port.choice) (has_occupant (views xs) agg) (has_occupant (views (slice_set xs i (with_choice s (Some a)))) agg) h
    (occupant_stays agg a xs i s e u)

all_later : (test : PortView → Bool) (b : Bool) (w : PortView) (rest : List PortView) → list_all test rest ≡ false
    → list_all test (cond b (w ∷ rest) rest) ≡ false
all_later test b w rest h = grind (arith, nat_tests)

all_skipped : (test : PortView → Bool) (b : Bool) (w : PortView) (rest : List PortView) → b ≡ false
    → list_all test (cond b (w ∷ rest) rest) ≡ false → list_all test rest ≡ false
all_skipped test b w rest n h = grind (arith, nat_tests)

all_still : (test : PortView → Bool) (b : Bool) (w : PortView) (rest more : List PortView) → list_all test (cond b (w ∷ rest) rest) ≡ false
    → (list_all test rest ≡ false → list_all test more ≡ false) → list_all test (cond b (w ∷ more) more) ≡ false
all_still test b w rest more h f = grind (arith, nat_tests)

others_stay : (agg : AggId) (a : Choice) (v : PortView) (system_ports : List SystemPort) (i : ℕ) (s : SystemPort) → slice_get system_ports i ≡ Some s
    → s.port.choice ≡ Unselected → list_all (has_group_of v) (occupants agg (views system_ports)) ≡ false
    → list_all (has_group_of v) (occupants agg (views (slice_set system_ports i (with_choice s (Some a))))) ≡ false
others_stay agg a v [] i s e u h = absurd cc
others_stay agg a v (x ∷ xs) zero s e u h = grind (arith, nat_tests, all_later, all_skipped, not_given)
others_stay agg a v (x ∷ xs) (suc i) s e u h =
    all_still (has_group_of v) (occupies agg x.port.choice) (selection_view x) (occupants agg (views xs))
    (occupants agg (views (slice_set xs i (with_choice s (Some a))))) h
    (others_stay agg a v xs i s e u)

join_stays : (n m a later all : Bool) → m ≡ true → later ≡ true → ((n && m) && a) ≡ false → (a ≡ false → all ≡ false) → ((n && later) && all) ≡ false
join_stays n m a later all p q h f = grind (arith, nat_tests)

-- a port that found none finds none after another port took an aggregator
pub none_after : (keys : List Key) (system_ports : List SystemPort) (i : ℕ) (s : SystemPort) (a : Choice) (v : PortView) → slice_get system_ports i ≡ Some s
    → s.port.choice ≡ Unselected → chosen_if_eligible keys (views system_ports) v ≡ None
    → chosen_if_eligible keys (views (slice_set system_ports i (with_choice s (Some a)))) v ≡ None
none_after keys system_ports i s a v e u h = grind (arith, nat_tests, views, slice_set, with_choice, none_stays, not_from_true, has_occupant, occupant_stays, not-false, join_stays, not, individual, list_all, has_group_of, occupants, others_stay)

-- the same occupants in the same groups
pub none_alike : (keys : List Key) (seen later : List PortView) (v : PortView) → ((agg : AggId) → has_occupant later agg ≡ has_occupant seen agg)
    → ((agg : AggId) → list_all (has_group_of v) (occupants agg later) ≡ list_all (has_group_of v) (occupants agg seen)) → chosen_if_eligible keys seen v ≡ None
    → chosen_if_eligible keys later v ≡ None
none_alike keys seen later v f g h = grind (arith, nat_tests)
