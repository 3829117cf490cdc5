-- Octets put into a payload, one after the other.
use Rattle.slowpdu.proofs.Common.{Bool, List, [], ap, append-nil, append_assoc, arith, drop, false, length, length-append, refl, slice_index, suc}
use Rattle.slowpdu.proofs.Common.{sym, take, true, zero, zero-add, ℕ, ◌&&◌, ◌++◌, ◌+◌, ◌<◌, ◌==◌, ◌||◌, ◌∙◌, ◌∷◌, ◌≡◌, ◌≤◌, and_parts, drop-drop}
use Rattle.slowpdu.proofs.Common.{drop_all, drop_at, length-take, take_at, Field, is_covered, payload_len, replaced}
use Rattle.slowpdu.specs.Frames.{IsSlowProtocolsFrame, frame_octets}

-- what is put right behind other octets is put with them
pub then_put : (b p q xs ys : List ℕ) (o m : ℕ) → p ≡ replaced b o xs → q ≡ replaced p m ys → m ≡ o + length xs → m + length ys ≤ length b
    → q ≡ replaced b o (xs ++ ys)
then_put b p q xs ys o m ep eq em room = let front : List ℕ = take o b ++ xs in
    let back : List ℕ = drop (o + length xs) b in
    let front_length : length front ≡ m = omega (arith, length-append (take o b) xs, length-take o b) in
    let whole : p ≡ front ++ back = ep ∙ sym (append_assoc (take o b) xs back) in
    let taken : take m p ≡ front = ap (take m) whole ∙ take_at front back m front_length in
    let dropped : drop m p ≡ back = ap (drop m) whole ∙ drop_at front back m front_length in
    let sum : o + length xs + length ys ≡ o + length (xs ++ ys) = omega (arith, length-append xs ys) in
    let rest : drop (m + length ys) p ≡ drop (o + length (xs ++ ys)) b = sym (drop-drop (length ys) m p)
    ∙ ap (drop (length ys)) dropped ∙ drop-drop (length ys) (o + length xs) b ∙ ap (λ (n : ℕ). drop n b) sum in
    eq ∙ rw (taken, rest) (append_assoc (take o b) xs (ys ++ drop (o + length (xs ++ ys)) b)
    ∙ ap (λ (t : List ℕ). take o b ++ t) (sym (append_assoc xs ys (drop (o + length (xs ++ ys)) b))))

-- whether every octet from place k on that belongs to no place of the table is 0
abbrev pub others_are_zero : List Field → ℕ → List ℕ → Bool
others_are_zero places k [] = true
others_are_zero places k (x ∷ xs) = (is_covered places k || x == 0) && others_are_zero places (suc k) xs

second : (a b : Bool) → (a || b) ≡ true → a ≡ false → b ≡ true
second a b h e = grind arith

pub other_is_zero : (places : List Field) (k : ℕ) (b : List ℕ) → others_are_zero places k b ≡ true
    → (i : ℕ) → is_covered places (k + i) ≡ false → slice_index b i ≡ 0
other_is_zero places k [] h i e = refl
other_is_zero places k (x ∷ xs) h zero e = grind arith
other_is_zero places k (x ∷ xs) h (suc i) e =
    let parts = and_parts (is_covered places k || x == 0) (others_are_zero places (suc k) xs) h in
    let moved : suc k + i ≡ k + suc i = omega arith in
    other_is_zero places (suc k) xs parts.1 i (ap (is_covered places) moved ∙ e)

pub others_zero : (places : List Field) (b : List ℕ) → others_are_zero places 0 b ≡ true
    → (i : ℕ) → i < payload_len → is_covered places i ≡ false → slice_index b i ≡ 0
others_zero places b h i small e = other_is_zero places 0 b h i (ap (is_covered places) (zero-add i) ∙ e)

-- what is put in the place of everything
pub all_put : (b q xs : List ℕ) → q ≡ replaced b 0 xs → length xs ≡ length b → q ≡ xs
all_put b q xs e len = grind (arith, drop_all, append-nil)

-- a list of six
pub six : (mac : List ℕ) → length mac ≡ 6 → (a : ℕ) × (b : ℕ) × (c : ℕ) × (d : ℕ) × (e : ℕ) × (f : ℕ) × (mac ≡ a ∷ b ∷ c ∷ d ∷ e ∷ f ∷ [])
six [] h = absurd (omega arith)
six (a ∷ []) h = absurd (omega arith)
six (a ∷ b ∷ []) h = absurd (omega arith)
six (a ∷ b ∷ c ∷ []) h = absurd (omega arith)
six (a ∷ b ∷ c ∷ d ∷ []) h = absurd (omega arith)
six (a ∷ b ∷ c ∷ d ∷ e ∷ []) h = absurd (omega arith)
six (a ∷ b ∷ c ∷ d ∷ e ∷ f ∷ []) h = (a, b, c, d, e, f, refl)
six (a ∷ b ∷ c ∷ d ∷ e ∷ f ∷ g ∷ rest) h = absurd (omega arith)

-- a control frame, octet by octet
pub framed_slow : (source payload : List ℕ) → length source ≡ 6 → IsSlowProtocolsFrame (frame_octets source payload)
framed_slow source payload h = grind (arith, six)

pub framed_payload : (source payload : List ℕ) → length source ≡ 6 → drop 14 (frame_octets source payload) ≡ payload
framed_payload source payload h = grind (arith, six)
