-- To force what is held on a port frees just that, and counts it.
use Rattle.lagsystem.proofs.Common.{Bool, Err, Ok, Result, ap, arith, cond, eqb, false, if◌then◌else◌, inl, inr, length, nat_lt, suc, true, zero, ℕ}
use Rattle.lagsystem.proofs.Common.{◌&&◌, ◌+◌, ◌<◌, ◌∙◌, ◌≡◌, ◌≤◌, ◌⊎◌, cases_Bool, nat_tests, AggId, itself, Assignment, DistFault, force_result}
use Rattle.lagsystem.proofs.Common.{is_held_on, Table, assignment_of, same_sum, SystemFault, NoAggregator, ForcesFirst, ForcesIfHeld, ForcesIn}
use Rattle.lagsystem.proofs.Common.{ForcesPort, FreesHeld, NoneIsHeldOn, after_forcing, count_held_on, GivesAssignment, GivesOrRefuses, in_system}
use Rattle.lagsystem.proofs.Common.{IsSound, SystemState, with_table}
use Rattle.distributor.specs.Conversations.{sum_below}
use Rattle.distributor.specs.declared.fault.DistFault.TheVariants as dist

-- The conversations that the test names are forced on the port; every other keeps its state, and nothing else changes.
record Forced (port : ℕ) (Named : ℕ → ℕ → Type 0) (old new : SystemState) : Type 0 where
  others : new ≡ with_table old new.table
  aggs : new.table.aggs ≡ old.table.aggs
  conversations : new.table.conversations ≡ old.table.conversations
  first : new.table.first ≡ old.table.first
  next : new.table.next ≡ old.table.next
  named : (a c : ℕ) → Named a c → assignment_of new.table a c ≡ after_forcing port (assignment_of old.table a c)
  rest : (a c : ℕ) → (Named a c → ⊥) → assignment_of new.table a c ≡ assignment_of old.table a c

-- none is forced
none_forced : (port : ℕ) (Named : ℕ → ℕ → Type 0) (old new : SystemState) → ((a c : ℕ) → Named a c → ⊥) → new ≡ old → Forced port Named old new
none_forced port Named old new never e = grind (arith, nat_tests)

-- those of the one test and those of the other are forced, one after another
both_forced : (port : ℕ) (One More Named : ℕ → ℕ → Type 0) (old mid new : SystemState) → Forced port One old mid → Forced port More mid new
    → ((a c : ℕ) → One a c → More a c → ⊥) → ((a c : ℕ) → Named a c → One a c ⊎ More a c)
    → ((a c : ℕ) → One a c → Named a c) → ((a c : ℕ) → More a c → Named a c) → Forced port Named old new
both_forced port One More Named old mid new h k apart split left right = grind (arith, nat_tests)

-- what `force` does to a conversation that is held

freed : (port : ℕ) (a : Assignment) (state : Assignment) → is_held_on port a ≡ true → force_result a ≡ Ok state → state ≡ after_forcing port a
freed port a state h e = grind (arith, nat_tests)

free_after : (port : ℕ) (a : Assignment) → is_held_on port (after_forcing port a) ≡ false
free_after port a = grind (arith, nat_tests)

-- what the call `force` says where it does not refuse

given_state : (r : Result Assignment SystemFault) (agg : AggId) (conv : ℕ) (old new : SystemState) → GivesOrRefuses agg conv r old (Ok tt) new
    → (state : Assignment) × (r ≡ Ok state) × GivesAssignment agg conv state old new
given_state r agg conv old new h = grind (arith, nat_tests)

through : (b c : Bool) (r : Result Assignment DistFault) (state : Assignment)
    → (if b then in_system (if c then r else Err dist.NotAssigned) else Err NoAggregator) ≡ Ok state → r ≡ Ok state
through b c r state e = grind (arith, nat_tests)

at_place : (g k a c : ℕ) → a ≡ g → c ≡ k → (eqb g a && eqb k c) ≡ true
at_place g k a c e f = (λ i. eqb g (e i) && eqb k (f i)) ∙ (λ i. itself g i && itself k i)

not_at : (g k a c : ℕ) → ((a ≡ g) × (c ≡ k) → ⊥) → (eqb g a && eqb k c) ≡ false
not_at g k a c never = grind (arith, nat_tests)

-- one conversation, those of an aggregator, and those of all

abbrev IsOne : ℕ → ℕ → ℕ → ℕ → Type 0
IsOne g k a c = (a ≡ g) × (c ≡ k)

one_forced : (gives : ℕ → ℕ → ℕ → Type 0) (port : ℕ) (agg : AggId) (conv : ℕ) (old : SystemState) (b : Bool) (new : SystemState)
    → ForcesIfHeld gives port agg conv old b new → Forced port (IsOne agg.0 conv) old new × (b ≡ is_held_on port (assignment_of old.table agg.0 conv))
one_forced gives port agg conv old b new h = grind (arith, nat_tests, given_state, freed, through, at_place, not_at)

-- how many of the first conversations of an aggregator are held on the port
abbrev held_in : ℕ → Table → ℕ → ℕ → ℕ
held_in port t g k = sum_below (λ c. cond (is_held_on port (assignment_of t g c)) 1 0) k

abbrev IsBelow : ℕ → ℕ → ℕ → ℕ → Type 0
IsBelow g k a c = (a ≡ g) × (c < k)

below_or_at : (c k : ℕ) → c < suc k → (c < k) ⊎ (c ≡ k)
below_or_at c k l = elim (cases_Bool (nat_lt c k)) [ inl t ↦ inl (grind (arith, nat_tests)) | inr f ↦ inr (grind (arith, nat_tests)) ]

in_forced : (gives : ℕ → ℕ → ℕ → Type 0) (port : ℕ) (agg : AggId) (k : ℕ) (old : SystemState) (n : ℕ) (new : SystemState)
    → ForcesIn gives port agg k old n new → Forced port (IsBelow agg.0 k) old new × (n ≡ held_in port old.table agg.0 k)
unfolding sum_below
in_forced gives port agg zero old n new h = (none_forced port (IsBelow agg.0 0) old new (λ a c d. omega (arith, d.1)) h.0, h.1)
in_forced gives port agg (suc k) old n new h = let before = in_forced gives port agg k old h.1 h.0 h.3 in
    let one = one_forced gives port agg k h.0 h.2 new h.4 in
    let same : h.2 ≡ is_held_on port (assignment_of old.table agg.0 k) = one.1
    ∙ ap (is_held_on port) (before.0.rest agg.0 k (λ d. omega (arith, d.1))) in (
      both_forced port (IsBelow agg.0 k) (IsOne agg.0 k) (IsBelow agg.0 (suc k)) old h.0 new before.0 one.0
          (λ a c d e. omega (arith, d.1, e.1))
          (λ a c d. elim (below_or_at c k d.1) [ inl l ↦ inl (d.0, l) | inr e ↦ inr (d.0, e) ])
          (λ a c d. (d.0, omega (arith, d.1)))
          (λ a c d. (d.0, omega (arith, d.1))),
      h.5 ∙ (λ i. before.1 i + cond (same i) 1 0),
    )

abbrev IsAmongFirst : ℕ → ℕ → ℕ → ℕ → Type 0
IsAmongFirst many g a c = (0 < a) × (a ≤ g) × (c < many)

up_to : (a g : ℕ) → a ≤ suc g → (a ≤ g) ⊎ (a ≡ suc g)
up_to a g l = elim (cases_Bool (nat_lt g a)) [ inl t ↦ inr (grind (arith, nat_tests)) | inr f ↦ inl (grind (arith, nat_tests)) ]

next_number : (g : ℕ) → suc g ≡ g + 1
next_number g = omega arith

first_forced : (gives : ℕ → ℕ → ℕ → Type 0) (port g : ℕ) (old : SystemState) (n : ℕ) (new : SystemState) → ForcesFirst gives port g old n new
    → Forced port (IsAmongFirst old.conversations g) old new × (n ≡ sum_below (λ a. held_in port old.table (a + 1) old.conversations) g)
unfolding sum_below
first_forced gives port zero old n new h = grind (arith, nat_tests)
first_forced gives port (suc g) old n new h =
    grind (arith, nat_tests, in_forced, same_sum, next_number, both_forced, up_to, first_forced gives port g old h.1 h.0 h.3)

all_forced : (gives : ℕ → ℕ → ℕ → Type 0) (port : ℕ) (old : SystemState) (n : ℕ) (new : SystemState) → ForcesPort gives port old (Ok n) new
    → Forced port (IsAmongFirst old.conversations (length old.keys)) old new
    × (n ≡ sum_below (λ a. held_in port old.table (a + 1) old.conversations) (length old.keys))
all_forced gives port old n new h = first_forced gives port (length old.keys) old n new h.1

pub frees_held : (gives : ℕ → ℕ → ℕ → Type 0) (port : ℕ) (old : SystemState) (n : ℕ) (new : SystemState) → IsSound old
    → ForcesPort gives port old (Ok n) new → FreesHeld port old new
frees_held gives port old n new s h = grind (arith, nat_tests, all_forced)

pub none_is_held : (gives : ℕ → ℕ → ℕ → Type 0) (port : ℕ) (old : SystemState) (n : ℕ) (new : SystemState) → IsSound old
    → ForcesPort gives port old (Ok n) new → NoneIsHeldOn port new
none_is_held gives port old n new s h a c d = grind (arith, nat_tests, frees_held, free_after)

pub counts_held : (gives : ℕ → ℕ → ℕ → Type 0) (port : ℕ) (old : SystemState) (n : ℕ) (new : SystemState) → IsSound old
    → ForcesPort gives port old (Ok n) new → n ≡ count_held_on port old
counts_held gives port old n new s h = grind (arith, nat_tests, all_forced)
