-- When an aggregator is Ready: each of its members that is not attached has waited (6.4.14.1).
use Rattle.lagbeside.proofs.Common.{Bool, List, Some, [], ap, arith, cond, filter, refl, slice_get, suc, true, zero, ℕ, ◌&&◌, ◌||◌, ◌∙◌, ◌∷◌, ◌≡◌}
use Rattle.lagbeside.proofs.Common.{◌⊎◌, nat_tests, none-some, AllByRecursion, list_all, list_any, AggId, Key, Selected, itself, Waiting, PortView}
use Rattle.lagbeside.proofs.Common.{is_aggregator, ports_that_chose, has_chosen, has_waited, is_detached_or_waiting, SystemPort, occupied, ready_of}
use Rattle.lagbeside.proofs.Common.{IsSound, SystemState, selection_view, stage_of, views, all-get}
use Rattle.selection.specs.Ready.{is_ready}
use Rattle.lagbeside.proofs.Hearing.{no}
use Rattle.lagbeside.proofs.Selecting.{known_number}

abbrev pub Lags : PortView → Bool
Lags v = is_detached_or_waiting v.stage

abbrev pub Waited : PortView → Bool
Waited v = has_waited v.stage

-- a member of the aggregator that has not attached has waited
abbrev pub Fine : AggId → SystemPort → Type 0
Fine agg y = has_chosen agg y.port.choice ≡ true → Lags (selection_view y) ≡ true → Waited (selection_view y) ≡ true

member_waited : (c : Bool) (v : PortView) (xs : List PortView) → (c ≡ true → Lags v ≡ true → Waited v ≡ true)
    → list_all Waited (filter Lags xs) ≡ true → list_all Waited (filter Lags (cond c (v ∷ xs) xs)) ≡ true
member_waited c v xs k rest = grind (arith, nat_tests)

all_waited : (agg : AggId) (ports : List SystemPort) → AllByRecursion (Fine agg) ports
    → list_all Waited (filter Lags (ports_that_chose agg (views ports))) ≡ true
all_waited agg [] a = refl
all_waited agg (y ∷ ys) a = member_waited (has_chosen agg y.port.choice) (selection_view y) (ports_that_chose agg (views ys)) a.0
    (all_waited agg ys a.1)

either_true : (a b : Bool) → (a ≡ true) ⊎ (b ≡ true) → (a || b) ≡ true
either_true a b h = grind (arith, nat_tests)

both_true : (a b : Bool) → a ≡ true → b ≡ true → (a && b) ≡ true
both_true a b e f = grind (arith, nat_tests)

some_lags : (agg : AggId) (ports : List SystemPort) (i : ℕ) (x : SystemPort) → slice_get ports i ≡ Some x
    → has_chosen agg x.port.choice ≡ true → Lags (selection_view x) ≡ true → list_any Lags (ports_that_chose agg (views ports)) ≡ true
some_lags agg [] i x e c d = absurd (none-some x e)
some_lags agg (y ∷ ys) zero x e c d = grind (arith, nat_tests, either_true)
some_lags agg (y ∷ ys) (suc i) x e c d = grind (arith, nat_tests, either_true, some_lags agg ys i x e c d)

all_ready : (keys : List Key) (ports : List SystemPort) (agg : AggId) → is_aggregator keys agg ≡ true
    → list_any Lags (ports_that_chose agg (views ports)) ≡ true
    → list_all Waited (filter Lags (ports_that_chose agg (views ports))) ≡ true → is_ready keys (views ports) agg ≡ true
all_ready keys ports agg known some all = grind (arith, nat_tests, both_true)

-- so none of them waits in a system at rest
pub no_member_waits : (s : SystemState) (i : ℕ) (x : SystemPort) (agg : AggId) → IsSound s → slice_get s.system_ports i ≡ Some x
    → x.port.choice ≡ Selected agg → AllByRecursion (Fine agg) s.system_ports → x.port.mux ≡ Waiting → ⊥
no_member_waits s i x agg h at e fine m = let key = h.occupants.key i agg.0 x at (ap occupied e) in
    grind (arith, nat_tests, is_aggregator, known_number, all-get, is_ready, views, ready_of, Lags, selection_view, is_detached_or_waiting, stage_of, no, all_ready, some_lags, has_chosen, itself, all_waited)
