-- Facts about tables of fields, for any table.
use Rattle.slowpdu.proofs.Common.{Bool, List, [], ap, arith, cond, drop, inl, inr, length, length-append, length-drop, map, nat_le, refl, slice_index}
use Rattle.slowpdu.proofs.Common.{suc, sym, take, true, zero, ℕ, ◌*◌, ◌++◌, ◌+◌, ◌-◌, ◌<◌, ◌^◌, ◌∙◌, ◌∷◌, ◌≡◌, ◌≤◌, and_parts, cases_Bool, cases_lt}
use Rattle.slowpdu.proofs.Common.{leb-true, or_cases, drop-append-le, ext_get_or, get_or-drop, get_or-take, get_or_past, length-take, AllByRecursion}
use Rattle.slowpdu.proofs.Common.{list_all, big_from, big_number, AreOctets, Field, HoldsNumber, ReadsTable, WritesTable, is_covered, is_within}
use Rattle.slowpdu.proofs.Common.{payload_len, read_fields}
use Rattle.byteorder.specs.Numbers.{big_from-append, big_from-cons, big_from-lt, big_from-take}
use Rattle.std.proofs.lemmas.Nat.{same_from_place}

-- what stands in a payload stands in it whatever follows
pub stands-append : (b rest : List ℕ) (p : Field) → p.offset + p.width ≤ length b
    → big_number p.width (drop p.offset (b ++ rest)) ≡ big_number p.width (drop p.offset b)
stands-append b rest p h = grind (arith, drop, length-drop, drop-append-le, big_from-append)

-- the place ends in a payload
abbrev pub fits : Field → Bool
fits p = nat_le (p.offset + p.width) 110

-- what stands in a payload stands in it with what follows, and the other way round
pub all_stand-append : (b rest : List ℕ) (places : List Field) → payload_len ≤ length b → list_all fits places ≡ true
    → AllByRecursion (HoldsNumber b) places → AllByRecursion (HoldsNumber (b ++ rest)) places
all_stand-append b rest [] long fit h = tt
all_stand-append b rest (p ∷ places) long fit h = let parts = and_parts (fits p) (list_all fits places) fit in
    let within : p.offset + p.width ≤ 110 = leb-true (p.offset + p.width) 110 parts.0 in
    (stands-append b rest p (omega arith) ∙ h.0, all_stand-append b rest places long parts.1 h.1)

all_stood : (b rest : List ℕ) (places : List Field) → payload_len ≤ length b → list_all fits places ≡ true
    → AllByRecursion (HoldsNumber (b ++ rest)) places → AllByRecursion (HoldsNumber b) places
all_stood b rest [] long fit h = tt
all_stood b rest (p ∷ places) long fit h = let parts = and_parts (fits p) (list_all fits places) fit in
    let within : p.offset + p.width ≤ 110 = leb-true (p.offset + p.width) 110 parts.0 in
    (sym (stands-append b rest p (omega arith)) ∙ h.0, all_stood b rest places long parts.1 h.1)

-- a table is read in a payload exactly if it is read with what follows
pub table-append : (b rest : List ℕ) (places : List Field) → payload_len ≤ length b → list_all fits (read_fields places) ≡ true
    → ReadsTable b places → ReadsTable (b ++ rest) places
table-append b rest places long fit h = grind (arith, length-append, all_stand-append)

pub table_of_append : (b rest : List ℕ) (places : List Field) → payload_len ≤ length b → list_all fits (read_fields places) ≡ true
    → ReadsTable (b ++ rest) places → ReadsTable b places
table_of_append b rest places long fit h = record { long_enough = long; fields_hold = all_stood b rest (read_fields places) long fit h.fields_hold }

choose_all : {X : Type 0} (P : X → Type 0) (t : Bool) (x : X) (xs : List X) → P x → AllByRecursion P xs → AllByRecursion P (cond t (x ∷ xs) xs)
choose_all h t x xs i rest = grind arith

-- a quotient and a remainder are those of one number alone
tail_octets : (x : ℕ) (xs : List ℕ) → AreOctets (x ∷ xs) → AreOctets xs
tail_octets x xs h i = h (suc i)

-- octets with one number are equal
pub one_number : (n : ℕ) (xs ys : List ℕ) → length xs ≡ n → length ys ≡ n → AreOctets xs → AreOctets ys → big_number n xs ≡ big_number n ys → xs ≡ ys
one_number zero [] [] lx ly ox oy e = refl
one_number zero [] (y ∷ ys) lx ly ox oy e = absurd (omega arith)
one_number zero (x ∷ xs) ys lx ly ox oy e = absurd (omega arith)
one_number (suc n) [] ys lx ly ox oy e = absurd (omega arith)
one_number (suc n) (x ∷ xs) [] lx ly ox oy e = absurd (omega arith)
one_number (suc n) (x ∷ xs) (y ∷ ys) lx ly ox oy e = let ax = big_from-cons 0 n x xs in
    let ay = big_from-cons 0 n y ys in
    let numbers : x * 256 ^ n + big_from 0 n xs ≡ y * 256 ^ n + big_from 0 n ys =
    ap (λ (r : ℕ). x * 256 ^ n + r) (sym ax) ∙ e ∙ ap (λ (r : ℕ). y * 256 ^ n + r) ay in
    let tx = tail_octets x xs ox in
    let ty = tail_octets y ys oy in
    let parts = same_from_place x (big_from 0 n xs) y (big_from 0 n ys) (256 ^ n) (big_from-lt 0 n xs tx) (big_from-lt 0 n ys ty) numbers in
    let rest = one_number n xs ys (omega arith) (omega arith) tx ty parts.1 in
    cc (parts.0, rest)

-- the offsets and widths of a table
abbrev pub shapes : List Field → List (ℕ × ℕ)
shapes places = map (λ p. (p.offset, p.width)) places

abbrev pub numbers : List Field → List ℕ
numbers places = map (λ p. p.number) places

same_parts : {X : Type 0} (x y : X) (xs ys : List X) → x ∷ xs ≡ y ∷ ys → (x ≡ y) × (xs ≡ ys)
same_parts x y xs ys e = (cc, cc)

-- two tables of one shape that stand in one payload have the same numbers
pub one_table : (b : List ℕ) (ps qs : List Field) → shapes ps ≡ shapes qs
    → AllByRecursion (HoldsNumber b) ps → AllByRecursion (HoldsNumber b) qs → numbers ps ≡ numbers qs
one_table b [] [] e hp hq = refl
one_table b [] (q ∷ qs) e hp hq = absurd cc
one_table b (p ∷ ps) [] e hp hq = absurd cc
one_table b (p ∷ ps) (q ∷ qs) e hp hq =
    let parts = same_parts (p.offset, p.width) (q.offset, q.width) (shapes ps) (shapes qs) e in
    let there : big_number p.width (drop p.offset b) ≡ big_number q.width (drop q.offset b) =
    ap (λ (s : ℕ × ℕ). big_number s.1 (drop s.0 b)) parts.0 in
    let first : p.number ≡ q.number = sym hp.0 ∙ there ∙ hq.0 in
    let others = one_table b ps qs parts.1 hp.1 hq.1 in
    ap (λ (n : ℕ). n ∷ numbers ps) first ∙ ap (λ (ns : List ℕ). q.number ∷ ns) others

-- one octet is a number of its own
pub octet_stands : (b : List ℕ) (i : ℕ) → big_number 1 (drop i b) ≡ slice_index b i
octet_stands b i = grind (arith, get_or-drop)

-- a number does not look past its end
pub number_of_taken : (n : ℕ) (b : List ℕ) → big_number n (take n b) ≡ big_number n b
number_of_taken n b = big_from-take 0 n n b (omega arith)

pub all-append : {X : Type 0} (P : X → Type 0) (xs ys : List X) → AllByRecursion P xs → AllByRecursion P ys → AllByRecursion P (xs ++ ys)
all-append P [] ys hx hy = hy
all-append P (x ∷ xs) ys hx hy = (hx.0, all-append P xs ys hx.1 hy)

-- the octets of one place
abbrev pub cut : List ℕ → Field → List ℕ
cut b p = take p.width (drop p.offset b)

pub octets-cut : (b : List ℕ) (p : Field) → AreOctets b → AreOctets (cut b p)
octets-cut b p h i = grind (arith, cases_lt, cut, get_or-take, drop, get_or-drop, get_or_past, length-take)

-- the same number stands in two payloads, so the same octets do
same_cut : (b c : List ℕ) (p : Field) → length b ≡ payload_len → length c ≡ payload_len → AreOctets b
    → AreOctets c → p.offset + p.width ≤ 110 → HoldsNumber b p → HoldsNumber c p → cut b p ≡ cut c p
same_cut b c p lb lc ob oc within hb hc =
    one_number p.width (cut b p) (cut c p) (omega (arith, length-take p.width (drop p.offset b), length-drop p.offset b))
    (omega (arith, length-take p.width (drop p.offset c), length-drop p.offset c)) (octets-cut b p ob)
    (octets-cut c p oc) (number_of_taken p.width (drop p.offset b) ∙ hb ∙ sym hc ∙ sym (number_of_taken p.width (drop p.offset c)))

in_cut : (b : List ℕ) (p : Field) (i : ℕ) → p.offset ≤ i → i < p.offset + p.width → slice_index b i ≡ slice_index (cut b p) (i - p.offset)
in_cut b p i low high = grind (arith, get_or-take, drop, get_or-drop)

within_of_test : (i : ℕ) (p : Field) → is_within i p ≡ true → (p.offset ≤ i) × (i < p.offset + p.width)
within_of_test i p h = grind arith

-- a covered octet is the same in both
covered_same : (b c : List ℕ) (places : List Field) (i : ℕ) → length b ≡ payload_len → length c ≡ payload_len → AreOctets b → AreOctets c
    → list_all fits places ≡ true → AllByRecursion (HoldsNumber b) places → AllByRecursion (HoldsNumber c) places
    → is_covered places i ≡ true → slice_index b i ≡ slice_index c i
covered_same b c [] i lb lc ob oc fit hb hc h = absurd cc
covered_same b c (p ∷ places) i lb lc ob oc fit hb hc h = let fit_parts = and_parts (fits p) (list_all fits places) fit in
    elim (or_cases (is_within i p) (is_covered places i) h) [
      | inl here ↦
          let bounds = within_of_test i p here in
          in_cut b p i bounds.0 bounds.1 ∙ ap (λ (xs : List ℕ). slice_index xs (i - p.offset))
          (same_cut b c p lb lc ob oc (leb-true (p.offset + p.width) 110 fit_parts.0) hb.0 hc.0) ∙ sym (in_cut c p i bounds.0 bounds.1)
      | inr later ↦ covered_same b c places i lb lc ob oc fit_parts.1 hb.1 hc.1 later
    ]

-- one payload is written by a table
pub one_payload : (b c : List ℕ) (places : List Field) → list_all fits places ≡ true → WritesTable b places → WritesTable c places → b ≡ c
one_payload b c places fit hb hc = ext_get_or 0 b c (hb.whole ∙ sym hc.whole) (λ i small.
    let within : i < payload_len = omega (arith, hb.whole) in
    elim (cases_Bool (is_covered places i)) [
      | inl covered ↦ covered_same b c places i hb.whole hc.whole hb.octets hc.octets fit hb.fields_hold hc.fields_hold covered
      | inr uncovered ↦ hb.others i within uncovered ∙ sym (hc.others i within uncovered)
    ])
