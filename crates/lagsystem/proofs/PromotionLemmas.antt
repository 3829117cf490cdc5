-- Step 2 of settling keeps what each value of Selected keeps that a port gets.
use Rattle.lagsystem.proofs.Common.{List, Option, Some, arith, length, slice_get, slice_set, subst, suc, sym, zero, ℕ, ◌≡◌, nat_tests, AggId, Choice}
use Rattle.lagsystem.proofs.Common.{Selected, AggregatorsValue, SystemPort, aggregator_numbered, ChoosesIn, PromotesAll, PromotesFirst, PromotesNext}
use Rattle.lagsystem.proofs.Common.{PromotesTimes, after_choices, choice_for, with_choice}

-- what each promotion keeps, all promotions keep
times_keep : (aggs : AggregatorsValue) (agg : AggId) (P : List SystemPort → Type 0) → ((l m : List SystemPort) → PromotesNext aggs agg l m → P l → P m)
    → (n : ℕ) (old new : List SystemPort) → PromotesTimes aggs agg n old new → P old → P new
times_keep aggs agg P k zero old new h p = subst P (sym h) p
times_keep aggs agg P k (suc n) old new h p = k h.0 new h.2 (times_keep aggs agg P k n old h.0 h.1 p)

pub all_keep : (aggs : AggregatorsValue) (agg : AggId) (P : List SystemPort → Type 0) → ((l m : List SystemPort) → PromotesNext aggs agg l m → P l → P m)
    → (old new : List SystemPort) → PromotesAll aggs agg old new → P old → P new
all_keep aggs agg P k old new h p = times_keep aggs agg P k h.0 old new h.1 p

pub promotions_keep : (aggs : AggregatorsValue) (P : List SystemPort → Type 0) → ((agg : AggId) (l m : List SystemPort) → PromotesNext aggs agg l m → P l → P m)
    → (n : ℕ) (old new : List SystemPort) → PromotesFirst aggs n old new → P old → P new
promotions_keep aggs P k zero old new h p = subst P (sym h) p
promotions_keep aggs P k (suc n) old new h p =
    let agg = aggregator_numbered (suc n) in all_keep aggs agg P (k agg) h.0 new h.2 (promotions_keep aggs P k n old h.0 h.1 p)

-- what each choice keeps, all choices keep
pub choices_keep : (aggs : AggregatorsValue) (P : List SystemPort → Type 0)
    → ((l : List SystemPort) (i : ℕ) (s : SystemPort) → slice_get l i ≡ Some s → P l → P (slice_set l i (with_choice s (choice_for aggs l s))))
    → (n : ℕ) (l : List SystemPort) → P l → P (after_choices aggs n l)
choices_keep aggs P k zero l p = p
choices_keep aggs P k (suc n) l p = grind (arith, nat_tests, choices_keep aggs P k n l p)

-- what each value of Selected keeps that a port gets, or none, the whole step keeps
abbrev pub KeptByChoices : (List SystemPort → Type 0) → Type 0
KeptByChoices P = (l : List SystemPort) (i : ℕ) (s : SystemPort) (o : Option Choice) → slice_get l i ≡ Some s → P l
    → P (slice_set l i (with_choice s o))

pub choosing_keeps : (P : List SystemPort → Type 0) → KeptByChoices P → (aggs : AggregatorsValue) (old new : List SystemPort)
    → ChoosesIn aggs old new → P old → P new
choosing_keeps P k aggs old new h p = subst P (sym h.2)
    (choices_keep aggs P (λ l i s e q. k l i s (choice_for aggs l s) e q) (length h.0) h.0
    (promotions_keep aggs P (λ agg l m x q. subst P (sym x.4) (k l x.0 x.1 (Some (Selected agg)) x.3 q)) (length aggs.keys) old h.0 h.1 p))
