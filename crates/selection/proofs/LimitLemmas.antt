-- Which STANDBY port comes next in an aggregator.
use Rattle.selection.proofs.Common.{Bool, List, None, Option, Some, [], ap, arith, false, if◌then◌else◌, inl, inr, nat_lt, option_map, refl}
use Rattle.selection.proofs.Common.{slice_get, subst, suc, sym, true, ℕ, ◌&&◌, ◌+◌, ◌==◌, ◌||◌, ◌∙◌, ◌∷◌, ◌≡◌, ◌⊎◌, and_parts, nat_tests}
use Rattle.selection.proofs.Common.{AllByRecursion, is_lt, IfSome, AggId, Standby, port_cmp, itself, PortView, AggregatorsValue, IsNext, better_row}
use Rattle.selection.proofs.Common.{has_room, is_before, lowest_standby_from, next_standby_index, next_standby_row, row_index, stands_by}
use Rattle.lagtypes.specs.declared.party.Choice.{Choice}
use Rattle.std.proofs.lemmas.Option.{same_Some}
use Rattle.lagtypes.specs.declared.identifiers.PortId.{PortId}
use Rattle.selection.specs.declared.limits.StandbyRow.{StandbyRow}
use Rattle.selection.proofs.Joining.{all-from_each}

-- identifiers

abbrev lower : PortId → PortId → Bool
lower p q = is_lt (port_cmp p q)

-- of two pairs of numbers, the first is the lower
abbrev less : ℕ → ℕ → ℕ → ℕ → Bool
less a x b y = nat_lt a b || ((a == b) && nat_lt x y)

-- the lowest

clash : {A : Type 0} (b : Bool) → b ≡ true → b ≡ false → A
clash b t f = let e : true ≡ false = sym t ∙ f in absurd cc

no_row : {A : Type 0} (r : StandbyRow) → None ≡ Some r → A
no_row r e = absurd cc

abbrev row_at : ℕ → PortView → StandbyRow
row_at index v = record { index = index; port = v }

-- where it comes from
record Among (agg : AggId) (index : ℕ) (views : List PortView) (r : StandbyRow) : Type 0 where
  place : ℕ
  counted : r.index ≡ index + place
  there : slice_get views place ≡ Some r.port
  stands : stands_by agg r.port.choice ≡ true

later : (agg : AggId) (index : ℕ) (v : PortView) (vs : List PortView) (r : StandbyRow) → Among agg (index + 1) vs r → Among agg index (v ∷ vs) r
later agg index v vs r a = record { place = suc a.place; counted = omega (arith, a.counted); there = a.there; stands = a.stands }

taken_or_later : (agg : AggId) (index : ℕ) (best : Option StandbyRow) (v : PortView) (vs : List PortView) (r : StandbyRow) (t : Bool)
    → (stands_by agg v.choice && is_before v best) ≡ t → ((if t then Some (row_at index v) else best) ≡ Some r) ⊎ Among agg (index + 1) vs r
    → (best ≡ Some r) ⊎ Among agg index (v ∷ vs) r
taken_or_later agg index best v vs r t e h = grind (arith, nat_tests, row_at, same_Some, stands_by, and_parts, is_before, later)

lowest_among : (agg : AggId) (index : ℕ) (best : Option StandbyRow) (views : List PortView) (r : StandbyRow)
    → lowest_standby_from agg index best views ≡ Some r → (best ≡ Some r) ⊎ Among agg index views r
lowest_among agg index best [] r e = inl e
lowest_among agg index best (v ∷ vs) r e = taken_or_later agg index best v vs r (stands_by agg v.choice && is_before v best) refl
    (lowest_among agg (index + 1) (better_row agg best (row_at index v)) vs r e)

-- none is lower
abbrev NotLower : AggId → StandbyRow → PortView → Type 0
NotLower agg r w = stands_by agg w.choice ≡ true → lower w.party.port r.port.party.port ≡ false

abbrev BestNotLower : StandbyRow → Option StandbyRow → Type 0
BestNotLower r best = IfSome best (λ b. lower b.port.party.port r.port.party.port ≡ false)

best_itself : (best : Option StandbyRow) (r : StandbyRow) → best ≡ Some r → BestNotLower r best
best_itself best r e = grind (arith, nat_tests)

kept_low : (agg : AggId) (index : ℕ) (best : Option StandbyRow) (v : PortView) (r : StandbyRow) (t : Bool) → (stands_by agg v.choice && is_before v best) ≡ t
    → BestNotLower r (if t then Some (row_at index v) else best) → NotLower agg r v × BestNotLower r best
kept_low agg index best v r t e h = grind (arith, nat_tests)

lowest_low : (agg : AggId) (index : ℕ) (best : Option StandbyRow) (views : List PortView) (r : StandbyRow)
    → lowest_standby_from agg index best views ≡ Some r → AllByRecursion (NotLower agg r) views × BestNotLower r best
lowest_low agg index best [] r e = (tt, best_itself best r e)
lowest_low agg index best (v ∷ vs) r e = let rest = lowest_low agg (index + 1) (better_row agg best (row_at index v)) vs r e in
    let here = kept_low agg index best v r (stands_by agg v.choice && is_before v best) refl rest.1 in
    ((here.0, rest.0), here.1)

-- where there is none
abbrev pub NoneStandsBy : AggId → List PortView → Type 0
NoneStandsBy agg views = AllByRecursion (λ w. stands_by agg w.choice ≡ false) views

nobody_here : (agg : AggId) (index : ℕ) (best : Option StandbyRow) (v : PortView) (t : Bool) → (stands_by agg v.choice && is_before v best) ≡ t
    → (if t then Some (row_at index v) else best) ≡ None → (best ≡ None) × (stands_by agg v.choice ≡ false)
nobody_here agg index best v t e h = grind (arith, nat_tests)

lowest_none : (agg : AggId) (index : ℕ) (best : Option StandbyRow) (views : List PortView)
    → lowest_standby_from agg index best views ≡ None → (best ≡ None) × NoneStandsBy agg views
lowest_none agg index best [] e = (e, tt)
lowest_none agg index best (v ∷ vs) e = let rest = lowest_none agg (index + 1) (better_row agg best (row_at index v)) vs e in
    let here = nobody_here agg index best v (stands_by agg v.choice && is_before v best) refl rest.0 in
    (here.0, (here.1, rest.1))

none_lowest : (agg : AggId) (index : ℕ) (views : List PortView) → NoneStandsBy agg views → lowest_standby_from agg index None views ≡ None
none_lowest agg index [] h = refl
none_lowest agg index (v ∷ vs) h =
    ap (λ b. lowest_standby_from agg (index + 1) (if b && true then Some (row_at index v) else None) vs) h.0
    ∙ none_lowest agg (index + 1) vs h.1

-- the next one

row_of : (o : Option StandbyRow) (index : ℕ) → option_map row_index o ≡ Some index → (r : StandbyRow) × (o ≡ Some r) × (r.index ≡ index)
row_of o index e = grind (arith, nat_tests)

with_room : (b : Bool) (o : Option StandbyRow) (r : StandbyRow) → (if b then o else None) ≡ Some r → (b ≡ true) × (o ≡ Some r)
with_room b o r e = grind (arith, nat_tests)

stands_there : (agg : AggId) (c : Choice) → stands_by agg c ≡ true → c ≡ Standby agg
stands_there agg c h = grind (arith, nat_tests)

stands_is : (agg : AggId) (c : Choice) → c ≡ Standby agg → stands_by agg c ≡ true
stands_is agg c e = rw e (itself agg.0)

pub row_is_next : (aggs : AggregatorsValue) (views : List PortView) (agg : AggId) (r : StandbyRow)
    → next_standby_row aggs views agg ≡ Some r → (next : IsNext aggs views agg r.index) × (next.port ≡ r.port)
row_is_next aggs views agg r e = let both = with_room (has_room aggs views agg) (lowest_standby_from agg 0 None views) r e in
    let low = lowest_low agg 0 None views r both.1 in
    elim (lowest_among agg 0 None views r both.1) [
      | inl x ↦ no_row r x
      | inr a ↦ (let same : r.index ≡ a.place = omega (arith, a.counted) in (
        record {
          port = r.port;
          room = both.0;
          there = subst (λ i. slice_get views i ≡ Some r.port) (sym same) a.there;
          standby = stands_there agg r.port.choice a.stands;
          lowest = all-from_each (λ w. w.choice ≡ Standby agg → lower w.party.port r.port.party.port ≡ false) views
              (standby_low views low.0);
        },
        refl,
      ))
    ]
  where
    standby_low : (views : List PortView) → AllByRecursion (NotLower agg r) views
        → AllByRecursion (λ w. w.choice ≡ Standby agg → lower w.party.port r.port.party.port ≡ false) views
    standby_low [] h = tt
    standby_low (w ∷ ws) h = (λ s. h.0 (stands_is agg w.choice s), standby_low ws h.1)

pub is_next : (aggs : AggregatorsValue) (views : List PortView) (agg : AggId) (index : ℕ) → next_standby_index aggs views agg ≡ Some index
    → IsNext aggs views agg index
is_next aggs views agg index e = grind (arith, nat_tests, row_of, next_standby_row, row_is_next)

-- none comes next

when_none : (b : Bool) (o : Option StandbyRow) → (if b then o else None) ≡ None → (b ≡ false) ⊎ (o ≡ None)
when_none b o e = grind (arith, nat_tests)

no_index : (o : Option StandbyRow) → option_map row_index o ≡ None → o ≡ None
no_index o e = grind (arith, nat_tests)

-- so it is where there is no room, or no port stands by
pub none_is_next : (aggs : AggregatorsValue) (views : List PortView) (agg : AggId) → next_standby_index aggs views agg ≡ None
    → (has_room aggs views agg ≡ false) ⊎ NoneStandsBy agg views
none_is_next aggs views agg e = grind (arith, nat_tests, lowest_standby_from, when_none, has_room, no_index, next_standby_row, lowest_none)

pub nothing_is_next : (aggs : AggregatorsValue) (views : List PortView) (agg : AggId)
    → (has_room aggs views agg ≡ false) ⊎ NoneStandsBy agg views → next_standby_index aggs views agg ≡ None
nothing_is_next aggs views agg h = grind (arith, nat_tests, option_map, row_index, lowest_standby_from, has_room, none_lowest)
