-- How an aggregator stands after one view more.
use native.Mathlib.Omega.{arith}
use Rattle.selection.proofs.Common.{Bool, List, [], ap, cond, false, filter, get_or, if◌then◌else◌, length, not, refl, take, true, ℕ, ◌&&◌, ◌+◌, ◌<◌}
use Rattle.selection.proofs.Common.{◌||◌, ◌∙◌, ◌∷◌, ◌≡◌, list_all, list_any, AggId, individual, Empty, Joinable, Taken, PortView, has_group_of}
use Rattle.selection.proofs.Common.{standing, with_occupant, with_port, occupies}
use Rattle.std.proofs.lemmas.List.Folds.{list_all-append, list_any_more}
use Rattle.std.proofs.lemmas.List.Elements.{filter_more}
use Rattle.selection.specs.declared.standings.Standing.{Standing}

-- tests

none_first : (f : PortView → Bool) (w : PortView) (rest : List PortView) (b any : Bool) → (b || any) ≡ false → (any ≡ false → list_all f rest ≡ true)
    → list_all f (cond b (w ∷ rest) rest) ≡ true
none_first f w rest b any h k = grind arith

-- where none is kept, all that are kept pass
none_differs : (p f : PortView → Bool) (views : List PortView) → list_any p views ≡ false → list_all f (filter p views) ≡ true
none_differs p f [] h = refl
none_differs p f (w ∷ ws) h = none_first f w (filter p ws) (p w) (list_any p ws) h (none_differs p f ws)

-- a list of one or none
of_one : (f : PortView → Bool) (w : PortView) (b : Bool) → list_all f (cond b (w ∷ []) []) ≡ cond b (f w) true
of_one f w b = grind arith

-- how an aggregator stands: whether the port is in no Individual link, there is an occupant, and all occupants have its group
abbrev stands : Bool → Bool → Bool → Standing
stands shared some all = if not some then Empty else (if (shared && some) && all then Joinable else Taken)

stands-same : (shared some other_some all other_all : Bool) → some ≡ other_some → all ≡ other_all → stands shared some all ≡ stands shared other_some other_all
stands-same shared some other_some all other_all e h = rw (e, h) refl

-- one more port, which occupies it or not
stands-more : (shared some all occupies same : Bool) → (some ≡ false → all ≡ true)
    → stands shared (some || occupies) (all && cond occupies same true) ≡ (if occupies then with_occupant (shared && same)
    (stands shared some all) else stands shared some all)
stands-more shared some all occupies same h = grind arith

-- the same of views: which of them are occupants, and which have the port's group
abbrev stands_in : (PortView → Bool) → (PortView → Bool) → Bool → List PortView → Standing
stands_in p f shared views = stands shared (list_any p views) (list_all f (filter p views))

all-next : (p f : PortView → Bool) (views : List PortView) (i : ℕ) (d : PortView) → i < length views
    → list_all f (filter p (take (i + 1) views)) ≡ (list_all f (filter p (take i views)) && cond (p (get_or views i d)) (f (get_or views i d)) true)
all-next p f views i d within = ap (λ l. list_all f l) (filter_more p views i d within)
    ∙ list_all-append f (filter p (take i views)) (cond (p (get_or views i d)) (get_or views i d ∷ []) [])
    ∙ ap (λ b. list_all f (filter p (take i views)) && b) (of_one f (get_or views i d) (p (get_or views i d)))

stands-next : (p f : PortView → Bool) (shared : Bool) (views : List PortView) (i : ℕ) (d : PortView) → i < length views
    → stands_in p f shared (take (i + 1) views)
    ≡ (if p (get_or views i d) then with_occupant (shared && f (get_or views i d)) (stands_in p f shared (take i views)) else stands_in p
    f shared (take i views))
stands-next p f shared views i d within =
    stands-same shared _ _ _ _ (list_any_more p views i d within) (all-next p f views i d within)
    ∙ stands-more shared (list_any p (take i views)) (list_all f (filter p (take i views))) (p (get_or views i d)) (f (get_or views i d))
    (none_differs p f (take i views))

pub standing-more : (v : PortView) (agg : AggId) (views : List PortView) (i : ℕ) (d : PortView) → i < length views
    → standing (take (i + 1) views) v agg ≡ with_port agg v (get_or views i d) (standing (take i views) v agg)
standing-more v agg views i d within =
    stands-next (λ w. occupies agg w.choice) (has_group_of v) (not (individual v.party v.partner)) views i d within
