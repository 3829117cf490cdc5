-- The flags of the chains in which a conversation is Wanted or Flushing.
use Rattle.distributor.proofs.Common.{Bool, List, None, ap, arith, false, get_or, length, map, nat_lt, set, suc, sym, true, zero, ℕ, ⊎_elim, ◌<◌}
use Rattle.distributor.proofs.Common.{◌||◌, ◌∙◌, ◌≡◌, cases_eq, false≢true, ext_get_or, get_or-map, get_or-set_other, get_or-set_same, length-map}
use Rattle.distributor.proofs.Common.{length-set, Assignment, Flushing, Free, Wanted, Change, IsFlagged, chain_of, changed_in_chain, is_flagged}
use Rattle.distributor.proofs.Common.{is_in_chain, passes, slot_state, tested_port, after_change, wants_marker}
use Rattle.distributor.specs.declared.change.Change.TheVariants.{Mark, Release}
use Rattle.distributor.specs.declared.slots.ConversationTest.{ConversationTest}
use Rattle.distributor.specs.declared.slots.ConversationTest.TheVariants.{HeldOn, WantsMarker}
use Rattle.std.proofs.lemmas.Bool.Decides.{nat_tests}
use Rattle.distributor.specs.Conversations.{sum_below}
use Rattle.distributor.proofs.WalkLemmas.{bit, none_sum, same_sum}

-- flags that are set allow what they allowed
pub flagged_more : (w w' f f' : Bool) → (w ≡ true → w' ≡ true) → (f ≡ true → f' ≡ true) → (s : Assignment) → is_flagged w f s ≡ true → is_flagged w' f' s ≡ true
flagged_more w w' f f' h k s e = grind arith

-- what a change of one chain leaves in another is as it was
elsewhere : (change : Change) (c d : ℕ) (s : Assignment) → (d ≡ c → ⊥) → is_in_chain d (changed_in_chain c (after_change change) s) ≡ true
    → changed_in_chain c (after_change change) s ≡ s
elsewhere change c d s n h = grind arith

-- a chain is changed, and its flags say what was found there
pub change_flagged : (change : Change) (chain : ℕ) (olds states : List Assignment) (wanted flushing : List Bool) (w f : Bool) → chain < 64
    → IsFlagged olds wanted flushing → ((k : ℕ) → slot_state states k ≡ changed_in_chain chain (after_change change) (slot_state olds k))
    → ((k : ℕ) → is_in_chain chain (slot_state states k) ≡ true → is_flagged w f (slot_state states k) ≡ true)
    → IsFlagged states (set wanted chain w) (set flushing chain f)
change_flagged change chain olds states wanted flushing w f lt h changed finds = grind (arith, length-set, get_or-set_same, get_or-set_other)

-- what the flags of its chain rule out passes nowhere
pub none_passes : {states : List Assignment} {wanted flushing : List Bool} (f : IsFlagged states wanted flushing) (test : ConversationTest)
    → ((s : Assignment) → is_flagged (get_or wanted (chain_of (tested_port test)) false) (get_or flushing (chain_of (tested_port test)) false) s
    ≡ true → passes test s ≡ false) → (k : ℕ) → passes test (slot_state states k) ≡ false
none_passes {states} f test h k = grind arith

-- where the flag 'Wanted' is clear, no conversation is Wanted
pub none_wanted : (port : ℕ) (w f : Bool) → w ≡ false → (s : Assignment) → is_flagged w f s ≡ true → passes (WantsMarker port) s ≡ false
none_wanted port w f none s h = grind arith

-- if neither flag is set, no conversation is held
pub none_held : (port : ℕ) (w f : Bool) → w ≡ false → f ≡ false → (s : Assignment) → is_flagged w f s ≡ true → passes (HeldOn port) s ≡ false
none_held port w f clear none s h = grind arith

-- a flag that was read clear is clear
pub flag_clear : (flags : List Bool) (chain d : ℕ) (flag : Bool) → chain < 64 → length flags ≡ 64 → flag ≡ get_or flags chain flag
    → chain ≡ d → flag ≡ false → get_or flags d false ≡ false
flag_clear flags chain d flag lt long read same e = grind arith

-- what passes nowhere is counted 0 times
pub none_counted : (p : Assignment → Bool) (states : List Assignment) (count : ℕ) → ((k : ℕ) → p (slot_state states k) ≡ false)
    → 0 ≡ sum_below (λ k. bit (p (slot_state states k))) count
none_counted p states count none = sym (same_sum (λ k. bit (p (slot_state states k))) (λ k. 0) count (λ k lt. ap bit (none k))
    ∙ none_sum count)

-- where the flag 'Flushing' of a chain is clear, a response changes nothing in it
released_none : (chain port n : ℕ) (w f : Bool) → f ≡ false → (s : Assignment) → (is_in_chain chain s ≡ true → is_flagged w f s ≡ true)
    → s ≡ changed_in_chain chain (after_change (Release port n)) s
released_none chain port n w f none s h = grind arith

pub release_passed : (chain port n : ℕ) (states : List Assignment) (wanted flushing : List Bool) → IsFlagged states wanted flushing
    → get_or flushing chain false ≡ false → states ≡ map (changed_in_chain chain (after_change (Release port n))) states
release_passed chain port n states wanted flushing h none =
    ext_get_or (Free None) states (map change states) (sym (length-map states change))
    (λ k lt. released_none chain port n (get_or wanted chain false) (get_or flushing chain false) none (slot_state states k)
    (h.flagged chain k)
    ∙ sym (get_or-map change states k (Free None) (Free None) lt))
  where
    change : Assignment → Assignment
    change = changed_in_chain chain (after_change (Release port n))

-- where no conversation is Wanted on the port, a marker that is sent there changes nothing
marked_none : (chain port n : ℕ) (s : Assignment) → wants_marker port s ≡ false → s ≡ changed_in_chain chain (after_change (Mark port n)) s
marked_none chain port n s h = grind arith

none_below : (f : ℕ → ℕ) (n k : ℕ) → k < n → sum_below f n ≡ 0 → f k ≡ 0
unfolding sum_below
none_below f zero k lt e = absurd (omega arith)
none_below f (suc n) k lt e = ⊎_elim (λ (m : k ≡ n). ap f m ∙ omega (arith, e))
    (λ (o : k ≡ n → ⊥). none_below f n k (omega (arith, lt, o)) (omega (arith, e))) (cases_eq k n)

no_bit : (b : Bool) → bit b ≡ 0 → b ≡ false
no_bit b e = grind arith

pub marked_passed : (chain port n count : ℕ) (states : List Assignment) → length states ≡ count
    → sum_below (λ k. bit (wants_marker port (slot_state states k))) count ≡ 0 → map (changed_in_chain chain (after_change (Mark port n))) states ≡ states
marked_passed chain port n count states long none =
    sym (ext_get_or (Free None) states (map change states) (sym (length-map states change))
    (λ k lt. marked_none chain port n (slot_state states k)
    (no_bit (wants_marker port (slot_state states k))
    (none_below (λ j. bit (wants_marker port (slot_state states j))) count k (omega (arith, lt, long)) none))
    ∙ sym (get_or-map change states k (Free None) (Free None) lt)))
  where
    change : Assignment → Assignment
    change = changed_in_chain chain (after_change (Mark port n))

-- where one passes, some are counted
pub some_counted : (p : Assignment → Bool) (states : List Assignment) (count k : ℕ) → k < count → p (slot_state states k) ≡ true
    → true ≡ nat_lt 0 (sum_below (λ j. bit (p (slot_state states j))) count)
some_counted p states count k lt e = above (sum_below (λ j. bit (p (slot_state states j))) count)
    (λ none. false≢true (sym (no_bit (p (slot_state states k)) (none_below (λ j. bit (p (slot_state states j))) count k lt none)) ∙ e))
  where
    above : (n : ℕ) → (n ≡ 0 → ⊥) → true ≡ nat_lt 0 n
    above n h = let lt : 0 < n = omega (arith, h) in grind (arith, nat_tests)

pub none_above : (n : ℕ) → nat_lt 0 n ≡ false → n ≡ 0
none_above n e = grind arith
