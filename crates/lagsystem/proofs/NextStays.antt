-- Where ports only leave, a STANDBY port comes next only if one has left.
use native.Mathlib.Omega.{arith}
use Rattle.lagsystem.proofs.Common.{Bool, List, None, Option, Some, [], ap, false, inl, inr, refl, slice_get, slice_set, subst, suc, sym, zero, ℕ}
use Rattle.lagsystem.proofs.Common.{◌||◌, ◌∙◌, ◌∷◌, ◌≡◌, false≢true, or_parts, none-some, same_Some, AllZip, list_any, is_unselected, Machines}
use Rattle.lagsystem.proofs.Common.{receive_rows, RunsToRest, count_down, AggregatorsValue, none_is_next, nothing_is_next, SystemPort}
use Rattle.lagsystem.proofs.Common.{OnlyPortChangesBy, PortAtChangesBy, SetsLink, SetsPortEnabled, Ticks, NextOnlyIfUnselected, OnlyPortBecomes}
use Rattle.lagsystem.proofs.Common.{PortChangesBy, PortsChangeBy, IsSound, SystemState, aggregators_value, port_index, views}
use Rattle.lagsystem.proofs.Limiting.{SameChoices, same_none}
use Rattle.lagsystem.proofs.Lists.{AllZip-weaker}
use Rattle.lagsystem.proofs.Occupying.{LeavesOrStays, link_stays, stays, tick_stays}

-- each port becomes UNSELECTED, or keeps Selected
abbrev EachLeaves : List SystemPort → List SystemPort → Type 0
EachLeaves old new = AllZip (λ (x y : SystemPort). LeavesOrStays x.port y.port) old new

abbrev one_unselected : List SystemPort → Bool
one_unselected l = list_any (λ s. is_unselected s.port.choice) l

kept : (p q : Machines) → LeavesOrStays p q → is_unselected q.choice ≡ false → q.choice ≡ p.choice
kept p q h e = elim h [ inl u ↦ absurd (false≢true (sym e ∙ ap is_unselected u)) | inr s ↦ s.0 ]

all_kept : (xs ys : List SystemPort) → EachLeaves xs ys → one_unselected ys ≡ false → SameChoices xs ys
all_kept [] [] h e = tt
all_kept [] (y ∷ ys) h e = absurd h
all_kept (x ∷ xs) [] h e = absurd h
all_kept (x ∷ xs) (y ∷ ys) h e = let both = or_parts (is_unselected y.port.choice) (one_unselected ys) e in
    (kept x.port y.port h.0 both.0, all_kept xs ys h.1 both.1)

none_before : (xs ys : List SystemPort) → SameChoices xs ys → one_unselected ys ≡ false → one_unselected xs ≡ false
none_before [] [] h e = refl
none_before [] (y ∷ ys) h e = absurd h
none_before (x ∷ xs) [] h e = absurd h
none_before (x ∷ xs) (y ∷ ys) h e = let both = or_parts (is_unselected y.port.choice) (one_unselected ys) e in
    ap (λ c. is_unselected c || one_unselected xs) (sym h.0) ∙ ap (λ b. b || one_unselected xs) both.0 ∙ none_before xs ys h.1 both.1

next_kept : (aggs : AggregatorsValue) (xs ys : List SystemPort) → EachLeaves xs ys → NextOnlyIfUnselected aggs xs → NextOnlyIfUnselected aggs ys
next_kept aggs xs ys h k none a = grind (arith, all_kept, nothing_is_next, views, same_none, none_is_next, none_before)

-- each port changes
pub zip_next : (aggs : AggregatorsValue) (R : Machines → Machines → Type 0) → ((p q : Machines) → R p q → LeavesOrStays p q)
    → (xs ys : List SystemPort) → PortsChangeBy R xs ys → NextOnlyIfUnselected aggs xs → NextOnlyIfUnselected aggs ys
zip_next aggs R k xs ys h = next_kept aggs xs ys
    (AllZip-weaker (PortChangesBy R) (λ (x y : SystemPort). LeavesOrStays x.port y.port) (λ x y m. k x.port y.port m.1) xs ys h)

-- one port changes
same_each : (xs : List SystemPort) → EachLeaves xs xs
same_each [] = tt
same_each (x ∷ xs) = (stays x.port, same_each xs)

set_each : (xs : List SystemPort) (i : ℕ) (s t : SystemPort) → slice_get xs i ≡ Some s → LeavesOrStays s.port t.port → EachLeaves xs (slice_set xs i t)
set_each [] i s t e h = absurd (none-some s e)
set_each (x ∷ xs) zero s t e h = grind (arith, same_Some, same_each)
set_each (x ∷ xs) (suc i) s t e h = (stays x.port, set_each xs i s t e h)

set_next : (s : SystemState) (i : ℕ) (x y : SystemPort) (news : List SystemPort) → IsSound s → slice_get s.system_ports i ≡ Some x
    → LeavesOrStays x.port y.port → news ≡ slice_set s.system_ports i y → NextOnlyIfUnselected (aggregators_value s) news
set_next s i x y news k e h w = subst (NextOnlyIfUnselected (aggregators_value s)) (sym w)
    (next_kept (aggregators_value s) s.system_ports (slice_set s.system_ports i y) (set_each s.system_ports i x y e h) (λ none. k.promoted))

at_next : (R : Machines → Machines → Type 0) → ((p q : Machines) → R p q → LeavesOrStays p q) → (o : Option ℕ) (s : SystemState)
    (news : List SystemPort) → IsSound s → PortAtChangesBy R o s.system_ports news → NextOnlyIfUnselected (aggregators_value s) news
at_next R k None s news sound h = absurd h
at_next R k (Some i) s news sound h =
    let x : SystemPort = h.0 in set_next s i x (record x { port = h.1 }) news sound h.2 (k x.port h.1 h.3) h.4

-- the calls
pub tick_next : (old mid : SystemState) → IsSound old → Ticks old mid → NextOnlyIfUnselected (aggregators_value old) mid.system_ports
tick_next old mid s h = zip_next (aggregators_value old) (λ p q. RunsToRest receive_rows (count_down p) q) tick_stays old.system_ports
    mid.system_ports h.0 (λ none. s.promoted)

pub link_next : (n : ℕ) (up : Bool) (old mid : SystemState) → IsSound old → SetsLink n up old mid
    → NextOnlyIfUnselected (aggregators_value old) mid.system_ports
link_next n up old mid s h =
    at_next (SetsPortEnabled old.max_links up) (link_stays old.max_links up) (port_index n old.system_ports) old mid.system_ports s h.0

pub place_next : (R : Machines → Machines → Type 0) → ((p q : Machines) → R p q → LeavesOrStays p q) → (o : Option ℕ)
    (old mid : SystemState) → IsSound old → OnlyPortChangesBy o R old mid → NextOnlyIfUnselected (aggregators_value old) mid.system_ports
place_next R k o old mid s h = at_next R k o old mid.system_ports s h.0

pub becomes_next : (already : SystemPort → Bool) (change : SystemPort → SystemPort) (i : ℕ) (old mid : SystemState)
    → ((x : SystemPort) → LeavesOrStays x.port (change x).port) → IsSound old → OnlyPortBecomes already change i old mid
    → NextOnlyIfUnselected (aggregators_value old) mid.system_ports
becomes_next already change i old mid k s h = set_next old i h.0.0 (change h.0.0) mid.system_ports s h.0.1 (k h.0.0) h.0.3
