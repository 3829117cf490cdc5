-- Rows that fire one after another.
use Rattle.portmachines.proofs.Common.{IsTrue, List, [], add-one, ap, inl, inr, subst, suc, sym, zero, ℕ, ◌+◌, ◌∙◌, ◌∷◌, ◌≡◌, Machines, Fires}
use Rattle.portmachines.proofs.Common.{FiresTimes, Row, RunsToRest}

-- one more row fires
pub Reaches-more : (rows : List Row) (n : ℕ) (old mid new : Machines) → FiresTimes rows n old mid → Fires rows mid new → FiresTimes rows (n + 1) old new
Reaches-more rows n old mid new run fired = rw add-one (mid, run, fired)

-- no row changes what f reads
abbrev pub EachKeeps : {A : Type 0} → (Machines → A) → List Row → Type 0
EachKeeps f [] = Unit {0}
EachKeeps f (row ∷ rows) = ((p : Machines) → f (row.effect p) ≡ f p) × EachKeeps f rows

pub Fires-keeps : {A : Type 0} (f : Machines → A) (rows : List Row) → EachKeeps f rows → (p q : Machines) → Fires rows p q → f q ≡ f p
Fires-keeps f [] k p q h = absurd h
Fires-keeps f (row ∷ rows) k p q h = elim h [ inl fired ↦ ap f fired.1 ∙ k.0 p | inr later ↦ Fires-keeps f rows k.1 p q later ]

pub Reaches-keeps : {A : Type 0} (f : Machines → A) (rows : List Row) → EachKeeps f rows → (n : ℕ) (p q : Machines) → FiresTimes rows n p q → f q ≡ f p
Reaches-keeps f rows k zero p q run = ap f run
Reaches-keeps f rows k (suc n) p q run = Fires-keeps f rows k run.0 q run.2 ∙ Reaches-keeps f rows k n p run.0 run.1

-- each row leads from a port to one that stands in the relation to it
abbrev pub EachRelates : (Machines → Machines → Type 0) → List Row → Type 0
EachRelates R [] = Unit {0}
EachRelates R (row ∷ rows) = ((p : Machines) → IsTrue (row.enabled p) → R p (row.effect p)) × EachRelates R rows

pub Fires-relates : (R : Machines → Machines → Type 0) (rows : List Row) → EachRelates R rows → (p q : Machines) → Fires rows p q → R p q
Fires-relates R [] k p q h = absurd h
Fires-relates R (row ∷ rows) k p q h = elim h [ inl f ↦ subst (R p) (sym f.1) (k.0 p f.0) | inr f ↦ Fires-relates R rows k.1 p q f ]

-- a relation that a port has to itself, and that joins
pub record Joins (R : Machines → Machines → Type 0) : Type 0 where
  pub same : (p q : Machines) → q ≡ p → R p q
  pub both : (p q r : Machines) → R p q → R q r → R p r

pub Reaches-relates : (R : Machines → Machines → Type 0) → Joins R → (rows : List Row) → EachRelates R rows → (n : ℕ) (p q : Machines)
    → FiresTimes rows n p q → R p q
Reaches-relates R j rows k zero p q run = j.same p q run
Reaches-relates R j rows k (suc n) p q run =
    j.both p run.0 q (Reaches-relates R j rows k n p run.0 run.1) (Fires-relates R rows k run.0 q run.2)

pub Rests-relates : (R : Machines → Machines → Type 0) → Joins R → (rows : List Row) → EachRelates R rows → (p q : Machines) → RunsToRest rows p q → R p q
Rests-relates R j rows k p q h = Reaches-relates R j rows k h.0 p q h.1
