-- The choice of a port leads to an aggregator that it may join.
use Rattle.selection.proofs.Common.{All, Bool, IsSomeAnd, List, None, Option, Some, [], arith, cond, false, find, if◌then◌else◌, inl, inr, not}
use Rattle.selection.proofs.Common.{option_map, refl, slice_get, subst, suc, sym, true, zero, ℕ, ◌&&◌, ◌+◌, ◌-◌, ◌==◌, ◌∙◌, ◌∷◌, ◌≡◌, ◌≢◌, ◌⊎◌}
use Rattle.selection.proofs.Common.{and_parts, not-true, or_parts, AllByRecursion, enumerate_from, list_all, IfSome, AggId, Unselected, SamePair}
use Rattle.selection.proofs.Common.{individual, same_system, itself, system-itself, PortView, aggregator_of_entry, chosen_for_view}
use Rattle.selection.proofs.Common.{chosen_if_eligible, has_group_of, has_no_occupant, has_occupant, lowest_from, occupants, occupants_share_group}
use Rattle.selection.proofs.Common.{or_else, HasNoOccupant, IsOccupant, MayJoin, OccupantsShareGroup, ends, is_detached, is_eligible, occupies}
use Rattle.lagtypes.specs.declared.identifiers.Key.{Key}
use Rattle.selection.proofs.Equal.{group-test}
use Rattle.lagtypes.specs.Choices.{is_unselected}

-- tests

-- occupants

given-occupant : (agg : AggId) (w : PortView) → IsOccupant agg w → occupies agg w.choice ≡ true
given-occupant agg w e = elim e [ inl x ↦ rw x (itself agg.0) | inr x ↦ rw x (itself agg.0) ]

pub all-from_each : (P : PortView → Type 0) (views : List PortView) → AllByRecursion P views → All P views
all-from_each P [] h k d within = absurd (omega arith)
all-from_each P (w ∷ ws) h zero d within = h.0
all-from_each P (w ∷ ws) h (suc k) d within = all-from_each P ws h.1 k d (omega arith)

not_both : (b : Bool) → b ≡ true → b ≡ false → ⊥
not_both b h k = grind arith

none_occupies : (agg : AggId) (views : List PortView) → has_occupant views agg ≡ false → AllByRecursion (λ w. IsOccupant agg w → ⊥) views
none_occupies agg [] h = tt
none_occupies agg (w ∷ ws) h = (
  λ e. not_both (occupies agg w.choice) (given-occupant agg w e) (or_parts (occupies agg w.choice) (has_occupant ws agg) h).0,
  none_occupies agg ws (or_parts (occupies agg w.choice) (has_occupant ws agg) h).1,
)

-- what all that are kept pass, the first passes if it is kept
kept_passes : (test : PortView → Bool) (b : Bool) (w : PortView) (rest : List PortView) → list_all test (cond b (w ∷ rest) rest) ≡ true
    → (b ≡ true → test w ≡ true) × (list_all test rest ≡ true)
kept_passes test b w rest h = grind arith

occupants_share : (agg : AggId) (v : PortView) (views : List PortView) → list_all (has_group_of v) (occupants agg views) ≡ true
    → AllByRecursion (λ w. IsOccupant agg w → SamePair (ends w) (ends v)) views
occupants_share agg v [] h = tt
occupants_share agg v (w ∷ ws) h = let both = kept_passes (has_group_of v) (occupies agg w.choice) w (occupants agg ws) h in (
  λ e. (group-test v w).0 (both.0 (given-occupant agg w e)),
  occupants_share agg v ws both.1,
)

-- the lowest aggregator

-- one with this key passes the test, at this place
record Found (first : ℕ) (keys : List Key) (key : Key) (test : AggId → Bool) (agg : AggId) : Type 0 where
  place : ℕ
  counted : agg.0 ≡ first + place
  has_key : slice_get keys place ≡ Some key
  passes : test agg ≡ true

here : (first : ℕ) (k key : Key) (keys : List Key) (test : AggId → Bool) (agg : AggId) (rest : Option (ℕ × Key))
    → (option_map aggregator_of_entry rest ≡ Some agg → Found (first + 1) keys key test agg)
    → (b t : Bool) → (k.0 == key.0) ≡ b → test (aggregator_of_entry (first, k)) ≡ t
    → option_map aggregator_of_entry (cond (b && t) (Some (first, k)) rest) ≡ Some agg → Found first (k ∷ keys) key test agg
here first k key keys test agg rest later true true same passed e = grind arith
here first k key keys test agg rest later true false same passed e = let found = later e in record {
  place = suc found.place;
  counted = omega (arith, found.counted);
  has_key = found.has_key;
  passes = found.passes;
}
here first k key keys test agg rest later false t same passed e = let found = later e in record {
  place = suc found.place;
  counted = omega (arith, found.counted);
  has_key = found.has_key;
  passes = found.passes;
}

lowest-found : (first : ℕ) (keys : List Key) (key : Key) (test : AggId → Bool) (agg : AggId) → lowest_from first keys key test ≡ Some agg
    → Found first keys key test agg
lowest-found first [] key test agg e = absurd cc
lowest-found first (k ∷ ks) key test agg e =
    here first k key ks test agg (find (λ row. (row.1.0 == key.0) && test (aggregator_of_entry row)) (enumerate_from (first + 1) ks))
    (lowest-found (first + 1) ks key test agg) (k.0 == key.0) (test (aggregator_of_entry (first, k))) refl refl e

-- eligible

eligible-apart : (v : PortView) → is_eligible v ≡ true → v.partner.system ≢ v.party.system
eligible-apart v h e = grind (arith, and_parts, is_detached, is_unselected, not, same_system, not_both, system-itself, not-true)

eligible-outside : (v : PortView) → is_eligible v ≡ true → v.choice ≡ Unselected
eligible-outside v h = grind arith

-- the choice

joins-by : (keys : List Key) (views : List PortView) (v : PortView) (agg : AggId) (test : AggId → Bool) → is_eligible v ≡ true
    → Found 1 keys v.party.key test agg → (test agg ≡ true → HasNoOccupant views agg ⊎ OccupantsShareGroup views agg v) → MayJoin keys views agg v
joins-by keys views v agg test ok found others = grind (arith, eligible-outside, eligible-apart, slice_get, occupants)

shared-occupants : (views : List PortView) (v : PortView) (agg : AggId) → occupants_share_group views v agg ≡ true → OccupantsShareGroup views agg v
shared-occupants views v agg h = let some = (and_parts (not (individual v.party v.partner) && has_occupant views agg)
    (list_all (has_group_of v) (occupants agg views)) h).0 in
    record {
      aggregatable = not-true (individual v.party v.partner)
          ((and_parts (not (individual v.party v.partner)) (has_occupant views agg) some).0);
      one_group = all-from_each _ views
          (occupants_share agg v views
          ((and_parts (not (individual v.party v.partner) && has_occupant views agg)
          (list_all (has_group_of v) (occupants agg views)) h).1));
    }

chosen : (keys : List Key) (views : List PortView) (v : PortView) (agg : AggId) → is_eligible v ≡ true → (o : Option AggId)
    → lowest_from 1 keys v.party.key (occupants_share_group views v) ≡ o
    → or_else o (lowest_from 1 keys v.party.key (has_no_occupant views)) ≡ Some agg → MayJoin keys views agg v
chosen keys views v agg ok None none e =
    joins-by keys views v agg (has_no_occupant views) ok (lowest-found 1 keys v.party.key (has_no_occupant views) agg e)
    (λ t. inl (all-from_each _ views (none_occupies agg views (not-true (has_occupant views agg) t))))
chosen keys views v agg ok (Some a) is e =
    joins-by keys views v agg (occupants_share_group views v) ok (lowest-found 1 keys v.party.key (occupants_share_group views v) agg (is ∙ e))
    (λ t. inr (shared-occupants views v agg t))

pub if-some : (b : Bool) (o : Option AggId) (agg : AggId) → (if b then o else None) ≡ Some agg → (b ≡ true) × (o ≡ Some agg)
if-some b o agg e = grind arith

-- the port joins what it takes
pub choice-joins : (keys : List Key) (views : List PortView) (v : PortView) (agg : AggId) → chosen_for_view keys views (Some v) ≡ Some agg
    → MayJoin keys views agg v
choice-joins keys views v agg e = let both = if-some (is_eligible v) (chosen_if_eligible keys views v) agg e in
    chosen keys views v agg both.0 (lowest_from 1 keys v.party.key (occupants_share_group views v)) refl both.1

-- the same of what a call answers for the port that it has seen
pub answer-joins : (keys : List Key) (views : List PortView) (seen : Option PortView) (v : PortView) (answer : Option AggId) → seen ≡ Some v
    → is_eligible v ≡ true → answer ≡ chosen_if_eligible keys views v → IfSome answer (λ agg. IsSomeAnd seen (MayJoin keys views agg))
answer-joins keys views seen v None is ok e = tt
answer-joins keys views seen v (Some agg) is ok e = subst (λ o. IsSomeAnd o (MayJoin keys views agg)) (sym is)
    (chosen keys views v agg ok (lowest_from 1 keys v.party.key (occupants_share_group views v)) refl (sym e))
