-- What promoting the STANDBY port that comes next does.
use Rattle.lagsystem.proofs.Common.{Bool, List, None, Option, Some, [], ap, arith, cond, false, filter, length, not, refl, slice_get, slice_set}
use Rattle.lagsystem.proofs.Common.{subst, suc, sym, true, zero, ℕ, ◌+◌, ◌<◌, ◌||◌, ◌∙◌, ◌∷◌, ◌≡◌, ◌≤◌, false≢true, or_parts, nat_tests, none-some}
use Rattle.lagsystem.proofs.Common.{same_Some, list_any, AggId, Choice, Selected, Standby, is_selected, is_standby, itself, PortView}
use Rattle.lagsystem.proofs.Common.{ports_that_chose, AggregatorsValue, has_room, is_below, next_standby_index, has_chosen, stands_by, is_next}
use Rattle.lagsystem.proofs.Common.{SystemPort, count_standby, aggregator_numbered, PromotesAll, PromotesFirst, PromotesNext, with_choice}
use Rattle.lagsystem.proofs.Common.{selection_view, views}
use Rattle.lagsystem.proofs.Limiting.{next_stands}

within_views : (l : List SystemPort) (i : ℕ) (v : PortView) → slice_get (views l) i ≡ Some v → i < length l
within_views [] i v e = absurd (none-some v e)
within_views (x ∷ xs) zero v e = omega arith
within_views (x ∷ xs) (suc i) v e = omega (arith, within_views xs i v e)

-- there is such a port
pub next_within : (aggs : AggregatorsValue) (l : List SystemPort) (agg : AggId) (i : ℕ) → next_standby_index aggs (views l) agg ≡ Some i → i < length l
next_within aggs l agg i e = let n = is_next aggs (views l) agg i e in within_views l i n.port n.there

one_less : (b : Bool) (n : ℕ) → b ≡ true → n + 1 ≡ cond b (suc n) n
one_less b n h = grind (arith, nat_tests)

fewer_standby : (agg : AggId) (l : List SystemPort) (i : ℕ) (s : SystemPort) → slice_get l i ≡ Some s
    → stands_by agg s.port.choice ≡ true → count_standby agg (slice_set l i (with_choice s (Some (Selected agg)))) + 1 ≡ count_standby agg l
fewer_standby agg [] i s e h = absurd (none-some s e)
fewer_standby agg (x ∷ xs) zero s e h = grind (arith, nat_tests)
fewer_standby agg (x ∷ xs) (suc i) s e h = grind (arith, nat_tests, fewer_standby agg xs i s e h)

-- one STANDBY port of the aggregator fewer
pub promoted_fewer : (aggs : AggregatorsValue) (agg : AggId) (l m : List SystemPort) → PromotesNext aggs agg l m → count_standby agg m + 1 ≡ count_standby agg l
promoted_fewer aggs agg l m h = subst (λ x. count_standby agg x + 1 ≡ count_standby agg l) (sym h.4)
    (fewer_standby agg l h.0 h.1 h.3 (ap (stands_by agg) (next_stands aggs agg l m h) ∙ itself agg.0))

-- so in one aggregator more
pub promoted_more : (aggs : AggregatorsValue) (n : ℕ) (start l m : List SystemPort) → PromotesFirst aggs n start l
    → PromotesAll aggs (aggregator_numbered (n + 1)) l m → PromotesFirst aggs (n + 1) start m
promoted_more aggs n start l m h k = grind (arith, nat_tests)

-- a view is that of a port
seen_port : (l : List SystemPort) (i : ℕ) (v : PortView) → slice_get (views l) i ≡ Some v
    → (s : SystemPort) × (slice_get l i ≡ Some s) × (s.port.choice ≡ v.choice)
seen_port [] i v e = absurd (none-some v e)
seen_port (x ∷ xs) zero v e = (x, refl, ap (λ (w : PortView). w.choice) (same_Some (selection_view x) v e))
seen_port (x ∷ xs) (suc i) v e = seen_port xs i v e

-- the members of an aggregator, counted among the ports
pub members_counted : (agg : AggId) (l : List SystemPort) → length (filter (λ s. has_chosen agg s.port.choice) l) ≡ length (ports_that_chose agg (views l))
members_counted agg [] = refl
members_counted agg (s ∷ ss) = grind (arith, nat_tests, members_counted agg ss)

-- each of the first ports that is STANDBY has an aggregator without room
abbrev pub NoRoomUpTo : AggregatorsValue → ℕ → List SystemPort → Type 0
NoRoomUpTo aggs n l = (k : ℕ) (s : SystemPort) (agg : AggId) → k < n → slice_get l k ≡ Some s → s.port.choice ≡ Standby agg
    → has_room aggs (views l) agg ≡ false

-- then none comes next, if those are all
pub none_next : (aggs : AggregatorsValue) (l : List SystemPort) (n : ℕ) → length l ≤ n → NoRoomUpTo aggs n l → (agg : AggId)
    → next_standby_index aggs (views l) agg ≡ None
none_next aggs l n long h agg = by_index (next_standby_index aggs (views l) agg) refl
  where
    by_index : (o : Option ℕ) → next_standby_index aggs (views l) agg ≡ o → o ≡ None
    by_index None e = refl
    by_index (Some i) e = let x = is_next aggs (views l) agg i e in
        grind (arith, nat_tests, seen_port, next_within)

-- so for one port more
pub no_room_more : (aggs : AggregatorsValue) (l : List SystemPort) (n : ℕ) (t : SystemPort) → slice_get l n ≡ Some t → NoRoomUpTo aggs n l
    → ((agg : AggId) → t.port.choice ≡ Standby agg → has_room aggs (views l) agg ≡ false) → NoRoomUpTo aggs (n + 1) l
no_room_more aggs l n t there h here k s agg lt e stands = grind (arith, nat_tests)

-- as many members as the limit leave no room
pub full_no_room : (aggs : AggregatorsValue) (l : List SystemPort) (agg : AggId)
    → is_below aggs.max_links (length (filter (λ s. has_chosen agg s.port.choice) l)) ≡ false → has_room aggs (views l) agg ≡ false
full_no_room aggs l agg full = grind (arith, nat_tests, members_counted)

-- the aggregator of a STANDBY port
pub same_standby : (a b : AggId) → Standby a ≡ Standby b → a ≡ b
same_standby a b e = cc

-- without STANDBY ports none comes next
pub none_stands : (aggs : AggregatorsValue) (l : List SystemPort) → list_any (λ s. is_standby s.port.choice) l ≡ false → (agg : AggId)
    → next_standby_index aggs (views l) agg ≡ None
none_stands aggs l h = none_next aggs l (length l) (omega arith)
    (λ k s agg lt e stands. absurd (false≢true (sym (each l k s h e) ∙ ap is_standby stands)))
  where
    each : (l : List SystemPort) (k : ℕ) (s : SystemPort) → list_any (λ s. is_standby s.port.choice) l ≡ false → slice_get l k ≡ Some s
        → is_standby s.port.choice ≡ false
    each [] k s e there = absurd (none-some s there)
    each (x ∷ xs) zero s e there = grind (arith, nat_tests)
    each (x ∷ xs) (suc k) s e there = each xs k s (or_parts _ _ e).1 there

-- a port that is SELECTED is not STANDBY
pub selected_not_standby : (c : Choice) → not (is_selected c) ≡ false → is_standby c ≡ false
selected_not_standby c e = grind (arith, nat_tests)

-- where each port is SELECTED, none comes next
pub none_left_standby : (aggs : AggregatorsValue) (l : List SystemPort) → list_any (λ s. not (is_selected s.port.choice)) l ≡ false
    → (agg : AggId) → next_standby_index aggs (views l) agg ≡ None
none_left_standby aggs l h = none_stands aggs l (none_standby l h)
  where
    none_standby : (l : List SystemPort) → list_any (λ s. not (is_selected s.port.choice)) l ≡ false → list_any (λ s. is_standby s.port.choice) l ≡ false
    none_standby [] e = refl
    none_standby (x ∷ xs) e =
        let both = or_parts (not (is_selected x.port.choice)) (list_any (λ s. not (is_selected s.port.choice)) xs) e in
        ap (λ b. b || list_any (λ s. is_standby s.port.choice) xs) (selected_not_standby x.port.choice both.0) ∙ none_standby xs both.1
