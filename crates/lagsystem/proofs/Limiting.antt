-- How many members an aggregator has, and that no STANDBY port comes next after step 2 of settling.
use Rattle.selection.specs.Limits.{is_in_use}
use Rattle.lagsystem.proofs.Common.{Bool, List, None, Option, Some, [], ap, arith, cond, eqb-true, false, inl, inr, length, nat_le, nat_lt}
use Rattle.lagsystem.proofs.Common.{option_map, refl, slice_get, slice_set, subst, suc, sym, true, zero, ℕ, ◌&&◌, ◌+◌, ◌<◌, ◌==◌, ◌∙◌, ◌∷◌, ◌≡◌, ◌≤◌}
use Rattle.lagsystem.proofs.Common.{◌⊎◌, cases_Bool, nat_tests, none-some, same_Some, AllByRecursion, AllZip, AggId, Choice, Selected, Standby}
use Rattle.lagsystem.proofs.Common.{Unselected, Machines, PortView, is_aggregator, ports_that_chose, AggregatorsValue, has_room, is_below, has_chosen}
use Rattle.lagsystem.proofs.Common.{stands_by, NoneStandsBy, is_next, none_is_next, nothing_is_next, SystemPort, NoneIsNext, WithinLimit}
use Rattle.lagsystem.proofs.Common.{aggregator_numbered, ChoosesIn, PortChangesBy, PortsChangeBy, PromotesFirst, PromotesNext, aggregator_for}
use Rattle.lagsystem.proofs.Common.{choice_if, choice_in, with_choice, selection_view, views}
use Rattle.lagsystem.proofs.Lists.{AllZip-weaker}
use Rattle.lagsystem.proofs.NoneLeft.{may_then, unselected}
use Rattle.lagsystem.proofs.Occupying.{LeavesOrStays}
use Rattle.lagsystem.proofs.PromotionLemmas.{all_keep, choices_keep, promotions_keep}

-- counts

abbrev pub count : AggId → List SystemPort → ℕ
count agg [] = zero
count agg (s ∷ ss) = cond (has_chosen agg s.port.choice) (suc (count agg ss)) (count agg ss)

one_counted : (b : Bool) (v : PortView) (rest : List PortView) (n : ℕ) → length rest ≡ n → length (cond b (v ∷ rest) rest) ≡ cond b (suc n) n
one_counted b v rest n h = grind (arith, nat_tests)

pub counted : (agg : AggId) (l : List SystemPort) → length (ports_that_chose agg (views l)) ≡ count agg l
counted agg [] = refl
counted agg (s ∷ ss) = grind (arith, nat_tests, counted agg ss)

-- no aggregator has more members than before
abbrev pub Fewer : List SystemPort → List SystemPort → Type 0
Fewer old new = (agg : AggId) → count agg new ≤ count agg old

same_bit : (b : Bool) (m n : ℕ) → m ≤ n → cond b (suc m) m ≤ cond b (suc n) n
same_bit b m n h = grind (arith, nat_tests)

no_bit : (b : Bool) (m n : ℕ) → m ≤ n → m ≤ cond b (suc n) n
no_bit b m n h = grind (arith, nat_tests)

bit_less : (agg : AggId) (c d : Choice) (m n : ℕ) → (d ≡ Unselected) ⊎ (d ≡ c) → m ≤ n → cond (has_chosen agg d) (suc m) m ≤ cond (has_chosen agg c) (suc n) n
bit_less agg c d m n h l = grind (arith, nat_tests)

pub zip_fewer : (R : Machines → Machines → Type 0) → ((p q : Machines) → R p q → LeavesOrStays p q) → (xs ys : List SystemPort)
    → PortsChangeBy R xs ys → Fewer xs ys
zip_fewer R k [] [] h agg = omega arith
zip_fewer R k [] (y ∷ ys) h agg = absurd h
zip_fewer R k (x ∷ xs) [] h agg = absurd h
zip_fewer R k (x ∷ xs) (y ∷ ys) h agg = grind (arith, nat_tests, zip_fewer R k xs ys h.1 agg)

pub set_fewer : (xs : List SystemPort) (i : ℕ) (s t : SystemPort) → slice_get xs i ≡ Some s → LeavesOrStays s.port t.port → Fewer xs (slice_set xs i t)
set_fewer [] i s t e h agg = absurd (none-some s e)
set_fewer (x ∷ xs) zero s t e h agg = grind (arith, nat_tests)
set_fewer (x ∷ xs) (suc i) s t e h agg = grind (arith, nat_tests, set_fewer xs i s t e h agg)

-- one port gets a value of Selected

one_more : (b h : Bool) (n : ℕ) → cond b (suc n) n ≤ cond h (suc n) n + cond b 1 0
one_more b h n = grind (arith, nat_tests)

later_more : (h : Bool) (m n k : ℕ) → m ≤ n + k → cond h (suc m) m ≤ cond h (suc n) n + k
later_more h m n k l = grind (arith, nat_tests)

set_more : (agg : AggId) (l : List SystemPort) (i : ℕ) (s : SystemPort) (c : Choice)
    → count agg (slice_set l i (with_choice s (Some c))) ≤ count agg l + cond (has_chosen agg c) 1 0
set_more agg [] i s c = omega arith
set_more agg (x ∷ xs) zero s c = one_more (has_chosen agg c) (has_chosen agg x.port.choice) (count agg xs)
set_more agg (x ∷ xs) (suc i) s c = grind (arith, nat_tests, set_more agg xs i s c)

set_grows : (agg : AggId) (l : List SystemPort) (i : ℕ) (s : SystemPort) (c : Choice) → slice_get l i ≡ Some s
    → has_chosen agg s.port.choice ≡ false → count agg l ≤ count agg (slice_set l i (with_choice s (Some c)))
set_grows agg [] i s c e h = absurd (none-some s e)
set_grows agg (x ∷ xs) zero s c e h = grind (arith, nat_tests)
set_grows agg (x ∷ xs) (suc i) s c e h = grind (arith, nat_tests, set_grows agg xs i s c e h)

-- the limit

pub within_fewer : (max_links : Option ℕ) (old new : List SystemPort) → Fewer old new → WithinLimit max_links (views old) → WithinLimit max_links (views new)
within_fewer None old new h w = tt
within_fewer (Some most) old new h w = λ agg. omega (arith, h agg, w agg, counted agg old, counted agg new)

below_most : (k : Bool) (n most : ℕ) → (k && nat_lt n most) ≡ true → n < most
below_most k n most h = grind (arith, nat_tests)

fits_one : (agg a : AggId) (l : List SystemPort) (i : ℕ) (s : SystemPort) (most : ℕ) (k b : Bool) → (agg.0 == a.0) ≡ b
    → (k && nat_lt (length (ports_that_chose agg (views l))) most) ≡ true → length (ports_that_chose a (views l)) ≤ most
    → length (ports_that_chose a (views (slice_set l i (with_choice s (Some (Selected agg)))))) ≤ most
fits_one agg a l i s most k true e room w = let m : List SystemPort = slice_set l i (with_choice s (Some (Selected agg))) in
    let number : agg.0 ≡ a.0 = eqb-true agg.0 a.0 e in
    let same : count agg l ≡ count a l = λ j. count (record { 0 = number j }) l in
    let more : count a m ≤ count a l + 1 = subst (λ b. count a m ≤ count a l + cond b 1 0) e (set_more a l i s (Selected agg)) in
    omega (arith, more, counted a m, counted agg l, same, below_most k (length (ports_that_chose agg (views l))) most room)
fits_one agg a l i s most k false e room w = grind (arith, nat_tests, set_more, counted)

selected_within : (max_links : Option ℕ) (l : List SystemPort) (i : ℕ) (s : SystemPort) (agg : AggId) (k : Bool)
    → (k && is_below max_links (length (ports_that_chose agg (views l)))) ≡ true → WithinLimit max_links (views l)
    → WithinLimit max_links (views (slice_set l i (with_choice s (Some (Selected agg)))))
selected_within max_links l i s agg k room w = grind (arith, nat_tests, fits_one)

standby_within : (max_links : Option ℕ) (l : List SystemPort) (i : ℕ) (s : SystemPort) (agg : AggId) → WithinLimit max_links (views l)
    → WithinLimit max_links (views (slice_set l i (with_choice s (Some (Standby agg)))))
standby_within max_links l i s agg w = grind (arith, nat_tests, within_fewer, set_more)

taken_within : (aggs : AggregatorsValue) (l : List SystemPort) (i : ℕ) (s : SystemPort) (agg : AggId) (room : Bool) → has_room aggs (views l) agg ≡ room
    → WithinLimit aggs.max_links (views l) → WithinLimit aggs.max_links (views (slice_set l i (with_choice s (Some (choice_if room agg)))))
taken_within aggs l i s agg room e w = grind (arith, nat_tests, selected_within, is_aggregator, standby_within)

choice_within : (aggs : AggregatorsValue) (l : List SystemPort) (i : ℕ) (s : SystemPort) (o : Option AggId) → slice_get l i ≡ Some s → (slice_set l i s ≡ l)
    → WithinLimit aggs.max_links (views l) → WithinLimit aggs.max_links (views (slice_set l i (with_choice s (option_map (choice_in aggs (views l)) o))))
choice_within aggs l i s o e same w = grind (arith, nat_tests, views, taken_within, has_room)

set_itself : (l : List SystemPort) (i : ℕ) (s : SystemPort) → slice_get l i ≡ Some s → slice_set l i s ≡ l
set_itself [] i s e = refl
set_itself (x ∷ xs) zero s e = λ j. sym (same_Some x s e) j ∷ xs
set_itself (x ∷ xs) (suc i) s e = ap (λ ys. x ∷ ys) (set_itself xs i s e)

pub choosing_within : (aggs : AggregatorsValue) (old new : List SystemPort) → ChoosesIn aggs old new → WithinLimit aggs.max_links (views old)
    → WithinLimit aggs.max_links (views new)
choosing_within aggs old new h w = let P : List SystemPort → Type 0 = λ l. WithinLimit aggs.max_links (views l) in
    subst P (sym h.2)
    (choices_keep aggs P (λ l i s e q. choice_within aggs l i s (aggregator_for aggs.keys l s) e (set_itself l i s e) q) (length h.0) h.0
    (promotions_keep aggs P (λ agg l m x q. subst P (sym x.4)
    (selected_within aggs.max_links l x.0 x.1 agg (is_aggregator aggs.keys agg && is_in_use aggs.in_use agg) ((is_next aggs (views l) agg x.0 x.2).room) q))
    (length aggs.keys) old h.0 h.1 w))

none_counted : (agg : AggId) (l : List SystemPort) → AllByRecursion (λ s. s.port.choice ≡ Unselected) l → count agg l ≡ 0
none_counted agg [] h = refl
none_counted agg (s ∷ ss) h = ap (λ c. cond (has_chosen agg c) (suc (count agg ss)) (count agg ss)) h.0 ∙ none_counted agg ss h.1

-- where all are UNSELECTED
pub none_within : (max_links : Option ℕ) (l : List SystemPort) → AllByRecursion (λ s. s.port.choice ≡ Unselected) l → WithinLimit max_links (views l)
none_within max_links l h = grind (arith, nat_tests, counted, none_counted)

-- which aggregator has none that comes next

abbrev pub NoneNext : AggregatorsValue → AggId → List SystemPort → Type 0
NoneNext aggs agg l = (has_room aggs (views l) agg ≡ false) ⊎ NoneStandsBy agg (views l)

below_less : (max_links : Option ℕ) (k : Bool) (m n : ℕ) → m ≤ n → (k && is_below max_links m) ≡ false → (k && is_below max_links n) ≡ false
below_less max_links k m n l h = grind (arith, nat_tests)

room_less : (aggs : AggregatorsValue) (agg : AggId) (l m : List SystemPort) → count agg l ≤ count agg m
    → has_room aggs (views l) agg ≡ false → has_room aggs (views m) agg ≡ false
room_less aggs agg l m h r = grind (arith, nat_tests, below_less, counted)

stands_set : (agg : AggId) (l : List SystemPort) (i : ℕ) (t : SystemPort) → stands_by agg t.port.choice ≡ false
    → NoneStandsBy agg (views l) → NoneStandsBy agg (views (slice_set l i t))
stands_set agg [] i t e h = tt
stands_set agg (x ∷ xs) zero t e h = (e, h.1)
stands_set agg (x ∷ xs) (suc i) t e h = (h.0, stands_set agg xs i t e h.1)

-- a promotion keeps it in every aggregator
pub next_stands : (aggs : AggregatorsValue) (agg : AggId) (l m : List SystemPort) (h : PromotesNext aggs agg l m) → h.1.port.choice ≡ Standby agg
next_stands aggs agg l m h = let n = is_next aggs (views l) agg h.0 h.2 in
    ap (λ (v : PortView). v.choice) (same_Some (selection_view h.1) n.port (sym (seen l h.0 h.1 h.3) ∙ n.there)) ∙ n.standby
  where
    seen : (l : List SystemPort) (i : ℕ) (s : SystemPort) → slice_get l i ≡ Some s → slice_get (views l) i ≡ Some (selection_view s)
    seen [] i s e = absurd (none-some s e)
    seen (x ∷ xs) zero s e = ap (λ y. Some (selection_view y)) (same_Some x s e)
    seen (x ∷ xs) (suc i) s e = seen xs i s e

promotion_none : (aggs : AggregatorsValue) (agg : AggId) (l m : List SystemPort) → PromotesNext aggs agg l m → (a : AggId)
    → NoneNext aggs a l → NoneNext aggs a m
promotion_none aggs agg l m h a q = let s = h.1 in
    let t : SystemPort = with_choice s (Some (Selected agg)) in
    let more = set_grows a l h.0 s (Selected agg) h.3 (ap (has_chosen a) (next_stands aggs agg l m h)) in
    subst (NoneNext aggs a) (sym h.4) (elim q [
      | inl r ↦ inl (room_less aggs a l (slice_set l h.0 t) more r)
      | inr n ↦ inr (stands_set a l h.0 t refl n)
    ])

abbrev NoneUpTo : AggregatorsValue → ℕ → List SystemPort → Type 0
NoneUpTo aggs n l = (a : AggId) → 0 < a.0 → a.0 ≤ n → NoneNext aggs a l

up_to : (a n : ℕ) → a ≤ suc n → (a ≤ n) ⊎ (a ≡ suc n)
up_to zero n h = inl (omega arith)
up_to (suc a) zero h = inr (omega (arith, h))
up_to (suc a) (suc n) h = elim (up_to a n (omega (arith, h))) [ inl l ↦ inl (omega (arith, l)) | inr e ↦ inr (omega (arith, e)) ]

promotions_none : (aggs : AggregatorsValue) (n : ℕ) (old new : List SystemPort) → PromotesFirst aggs n old new → NoneUpTo aggs n new
promotions_none aggs zero old new h a low high = absurd (omega (arith, low, high))
promotions_none aggs (suc n) old new h a low high = let agg = aggregator_numbered (suc n) in elim (up_to a.0 n high) [
  | inl l ↦ all_keep aggs agg (NoneUpTo aggs n) (λ x y p q b lo hi. promotion_none aggs agg x y p b (q b lo hi)) h.0 new h.2
      (promotions_none aggs n old h.0 h.1) a low l
  | inr e ↦ subst (λ k. NoneNext aggs (aggregator_numbered k) new) (sym e) (none_is_next aggs (views new) agg h.2.2)
]

known_parts : (a n : ℕ) → (nat_le 1 a && nat_le a n) ≡ true → (0 < a) × (a ≤ n)
known_parts a n h = grind (arith, nat_tests)

all_promoted : (aggs : AggregatorsValue) (old new : List SystemPort) → PromotesFirst aggs (length aggs.keys) old new → (a : AggId) → NoneNext aggs a new
all_promoted aggs old new h a = grind (arith, nat_tests, cases_Bool, known_parts, promotions_none)

-- a choice keeps it in every aggregator
taken_none : (aggs : AggregatorsValue) (l : List SystemPort) (i : ℕ) (s : SystemPort) (agg : AggId) (room : Bool)
    → has_room aggs (views l) agg ≡ room → slice_get l i ≡ Some s → s.port.choice ≡ Unselected → (a : AggId) → NoneNext aggs a l
    → NoneNext aggs a (slice_set l i (with_choice s (Some (choice_if room agg))))
taken_none aggs l i s agg true e g u a q = let more = set_grows a l i s (Selected agg) g (ap (has_chosen a) u) in elim q [
  | inl r ↦ inl (room_less aggs a l (slice_set l i (with_choice s (Some (Selected agg)))) more r)
  | inr n ↦ inr (stands_set a l i (with_choice s (Some (Selected agg))) refl n)
]
taken_none aggs l i s agg false e g u a q = let t : SystemPort = with_choice s (Some (Standby agg)) in
    let more = set_grows a l i s (Standby agg) g (ap (has_chosen a) u) in elim q [
      | inl r ↦ inl (room_less aggs a l (slice_set l i t) more r)
      | inr n ↦ elim (cases_Bool (agg.0 == a.0)) [
        | inl same ↦ (let number : agg.0 ≡ a.0 = eqb-true agg.0 a.0 same in
            inl (room_less aggs a l (slice_set l i t) more
            (subst (λ k. has_room aggs (views l) (aggregator_numbered k) ≡ false) number e)))
        | inr other ↦ inr (stands_set a l i t other n)
      ]
    ]

choice_none : (aggs : AggregatorsValue) (l : List SystemPort) (i : ℕ) (s : SystemPort) (o : Option AggId) → aggregator_for aggs.keys l s ≡ o
    → slice_get l i ≡ Some s → (a : AggId) → NoneNext aggs a l → NoneNext aggs a (slice_set l i (with_choice s (option_map (choice_in aggs (views l)) o)))
choice_none aggs l i s None k e a q = subst (NoneNext aggs a) (sym (set_itself l i s e)) q
choice_none aggs l i s (Some agg) k e a q = grind (arith, nat_tests, may_then, taken_none, unselected)

pub choosing_none : (aggs : AggregatorsValue) (old new : List SystemPort) → ChoosesIn aggs old new → (a : AggId) → NoneNext aggs a new
choosing_none aggs old new h a = subst (NoneNext aggs a) (sym h.2)
    (choices_keep aggs (NoneNext aggs a) (λ l i s e q. choice_none aggs l i s (aggregator_for aggs.keys l s) refl e a q) (length h.0) h.0
    (all_promoted aggs old h.0 h.1 a))

-- lists whose ports have the same values of Selected, place by place
abbrev pub SameChoices : List SystemPort → List SystemPort → Type 0
SameChoices old new = AllZip (λ (x y : SystemPort). y.port.choice ≡ x.port.choice) old new

same_count : (agg : AggId) (xs ys : List SystemPort) → SameChoices xs ys → count agg xs ≤ count agg ys
same_count agg [] [] h = omega arith
same_count agg [] (y ∷ ys) h = absurd h
same_count agg (x ∷ xs) [] h = absurd h
same_count agg (x ∷ xs) (y ∷ ys) h = subst (λ c. count agg (x ∷ xs) ≤ cond (has_chosen agg c) (suc (count agg ys)) (count agg ys))
    (sym h.0) (same_bit (has_chosen agg x.port.choice) (count agg xs) (count agg ys) (same_count agg xs ys h.1))

same_stands : (agg : AggId) (xs ys : List SystemPort) → SameChoices xs ys → NoneStandsBy agg (views xs) → NoneStandsBy agg (views ys)
same_stands agg [] [] h n = tt
same_stands agg [] (y ∷ ys) h n = absurd h
same_stands agg (x ∷ xs) [] h n = absurd h
same_stands agg (x ∷ xs) (y ∷ ys) h n = (ap (stands_by agg) h.0 ∙ n.0, same_stands agg xs ys h.1 n.1)

pub same_none : (aggs : AggregatorsValue) (xs ys : List SystemPort) → SameChoices xs ys → (a : AggId) → NoneNext aggs a xs → NoneNext aggs a ys
same_none aggs xs ys h a q = elim q [ inl r ↦ inl (room_less aggs a xs ys (same_count a xs ys h) r) | inr n ↦ inr (same_stands a xs ys h n) ]

-- steps that leave Selected
zip_none : (aggs : AggregatorsValue) (R : Machines → Machines → Type 0) → ((p q : Machines) → R p q → q.choice ≡ p.choice)
    → (xs ys : List SystemPort) → PortsChangeBy R xs ys → (a : AggId) → NoneNext aggs a xs → NoneNext aggs a ys
zip_none aggs R k xs ys h = same_none aggs xs ys
    (AllZip-weaker (PortChangesBy R) (λ (x y : SystemPort). y.port.choice ≡ x.port.choice) (λ x y m. k x.port y.port m.1) xs ys h)

pub settled_none : (aggs : AggregatorsValue) (R S : Machines → Machines → Type 0) → ((p q : Machines) → R p q → q.choice ≡ p.choice)
    → ((p q : Machines) → S p q → q.choice ≡ p.choice) → (one two four five : List SystemPort) → ChoosesIn aggs one two
    → PortsChangeBy R two four → PortsChangeBy S four five → NoneIsNext aggs (views five)
settled_none aggs R S k m one two four five h r s a = nothing_is_next aggs (views five) a
    (zip_none aggs S m four five s a (zip_none aggs R k two four r a (choosing_none aggs one two h a)))

-- where none comes next, step 2 promotes none
pub nothing_promoted : (aggs : AggregatorsValue) (n : ℕ) (l : List SystemPort) → NoneIsNext aggs (views l) → PromotesFirst aggs n l l
nothing_promoted aggs zero l h = refl
nothing_promoted aggs (suc n) l h = grind (arith, nat_tests, nothing_promoted aggs n l h)
