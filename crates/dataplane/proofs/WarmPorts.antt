-- The saved ports one after another, and whether one is back.
use Rattle.dataplane.proofs.Common.{List, None, Some, [], ap, arith, drop, false, get_or, if◌then◌else◌, length, refl, subst, suc, sym, take, true}
use Rattle.dataplane.proofs.Common.{zero, ℕ, ◌+◌, ◌<◌, ◌∙◌, ◌∷◌, ◌≡◌, ◌≤◌, drop_all, drop_more, take_all, take_more, AllByRecursion, SystemId}
use Rattle.dataplane.proofs.Common.{all-append, PortConfig, SystemState, machines_of, SavedPort, IsFirstWithout, first_touched, is_left_at}
use Rattle.slowpdu.specs.declared.pdu.Pdu.TheVariants as pdu

module _ (P : SavedPort → Type 0) (saved : List SavedPort) (i : ℕ) (d : SavedPort) where
  -- it holds of one more
  pub holds_on : i < length saved → AllByRecursion P (take i saved) → P (get_or saved i d) → AllByRecursion P (take (i + 1) saved)
  holds_on l h one = subst (AllByRecursion P) (sym (take_more saved i d l)) (all-append P (take i saved) (get_or saved i d ∷ []) h (one, tt))

  -- it does not hold of the next one
  pub found : i < length saved → AllByRecursion P (take i saved) → (P (get_or saved i d) → ⊥) → IsFirstWithout P saved (get_or saved i d).port
  found l h none = record { place = i; one = get_or saved i d; there = (l, get_or_same saved i l d); named = refl; before = h; without = none }
    where
      get_or_same : (xs : List SavedPort) (i : ℕ) → i < length xs → (d : SavedPort) → get_or xs i (get_or xs i d) ≡ get_or xs i d
      get_or_same [] i l d = absurd (omega (arith, l))
      get_or_same (x ∷ xs) zero l d = refl
      get_or_same (x ∷ xs) (suc i) l d = get_or_same xs i (omega (arith, l)) d

-- it holds of all
pub holds_of_all : (P : SavedPort → Type 0) (saved : List SavedPort) (i : ℕ) → length saved ≤ i → AllByRecursion P (take i saved) → AllByRecursion P saved
holds_of_all P saved i l h = subst (AllByRecursion P) (take_all i saved l) h

-- what a search gives where there is none
abbrev pub no_port : PortConfig
no_port = record { number = 0; priority = 0; mac = []; key = record { 0 = 0 }; aggregatable = false; active = false; short = false }

module _ (s : SystemState) (system : SystemId) (saved : List SavedPort) (ports : List PortConfig) (i : ℕ) where
  -- the search goes on from this port
  at_place : i < length ports → first_touched s system saved ports ≡ first_touched s system saved (drop i ports)
      → first_touched s system saved ports ≡ first_touched s system saved (get_or ports i no_port ∷ drop (i + 1) ports)
  at_place l h = h ∙ ap (first_touched s system saved) (drop_more ports i no_port l)

  pub touched_on : i < length ports → first_touched s system saved ports ≡ first_touched s system saved (drop i ports)
      → is_left_at saved system (get_or ports i no_port) (machines_of (get_or ports i no_port).number s) ≡ true
      → first_touched s system saved ports ≡ first_touched s system saved (drop (i + 1) ports)
  touched_on l h left = at_place l h
      ∙ ap (λ b. if b then first_touched s system saved (drop (i + 1) ports) else Some (get_or ports i no_port).number) left

  pub touched_next : i < length ports → first_touched s system saved ports ≡ first_touched s system saved (drop i ports)
      → is_left_at saved system (get_or ports i no_port) (machines_of (get_or ports i no_port).number s) ≡ false
      → first_touched s system saved ports ≡ Some (get_or ports i no_port).number
  touched_next l h left = at_place l h
      ∙ ap (λ b. if b then first_touched s system saved (drop (i + 1) ports) else Some (get_or ports i no_port).number) left

  pub touched_none : length ports ≤ i → first_touched s system saved ports ≡ first_touched s system saved (drop i ports)
      → first_touched s system saved ports ≡ None
  touched_none l h = h ∙ ap (first_touched s system saved) (drop_all i ports l)
