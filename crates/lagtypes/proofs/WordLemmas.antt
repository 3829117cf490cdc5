-- The names of the bits that are 1, row by row.
use Rattle.std.proofs.Common.{arith, Bor, ◌≡◌, ◌<◌, ◌+◌, ℕ, Bool, true, false, List, [], ◌∷◌, ◌++◌, length, take, get_or, map, refl, sym, ap, ◌∙◌}
use Rattle.std.proofs.Common.{append_assoc, append-nil, ◌==◌, if◌then◌else◌}
use Rattle.std.specs.Prelude.{bit_and}
use Rattle.std.specs.List.{join_with_byte}
use Rattle.std.proofs.lemmas.List.{take_more, map-append}
use Rattle.std.proofs.lemmas.List.Elements.{filter-append}
use Rattle.lagtypes.specs.declared.state.State.{State}
use Rattle.lagtypes.specs.Texts.{set_words}

abbrev pub row_of : State × Bor (List ℕ) → ℕ × List ℕ
row_of w = (w.0.0, w.1.now)

abbrev pub words_of : ℕ → List (State × Bor (List ℕ)) → List (List ℕ)
words_of n rows = set_words n (map row_of rows)

abbrev pub added : Bool → List ℕ → List (List ℕ)
added set word = if set then word ∷ [] else []

abbrev pub is_set : ℕ → ℕ → Bool
is_set n bit = bit_and n bit == bit

one_row : (n : ℕ) (row : State × Bor (List ℕ)) → words_of n (row ∷ []) ≡ added (is_set n row.0.0) row.1.now
one_row n row = grind arith

words_append : (n : ℕ) (xs ys : List (State × Bor (List ℕ))) → words_of n (xs ++ ys) ≡ words_of n xs ++ words_of n ys
words_append n xs ys = simp (map-append, filter-append)

-- one row more
pub words_more : (n : ℕ) (rows : List (State × Bor (List ℕ))) (i : ℕ) (row : State × Bor (List ℕ)) → i < length rows
    → words_of n (take (i + 1) rows) ≡ words_of n (take i rows) ++ added (is_set n (get_or rows i row).0.0) (get_or rows i row).1.now
words_more n rows i row h = ap (words_of n) (take_more rows i row h) ∙ words_append n (take i rows)
    (get_or rows i row ∷ []) ∙ ap (λ t. words_of n (take i rows) ++ t) (one_row n (get_or rows i row))

abbrev pub is_empty : List (List ℕ) → Bool
is_empty [] = true
is_empty (word ∷ words) = false

pub is_empty-append : (words : List (List ℕ)) (word : List ℕ) → is_empty (words ++ word ∷ []) ≡ false
is_empty-append [] word = refl
is_empty-append (x ∷ words) word = refl

-- one word more
pub join_more : (words : List (List ℕ)) (word : List ℕ) → join_with_byte 44 (words ++ word ∷ []) ≡ join_with_byte 44 words
    ++ (if is_empty words then word else (44 ∷ word))
join_more [] word = refl
join_more (x ∷ []) word = refl
join_more (x ∷ y ∷ words) word =
    ap (λ t. x ++ (44 ∷ t)) (join_more (y ∷ words) word) ∙ sym (append_assoc x (44 ∷ join_with_byte 44 (y ∷ words)) (44 ∷ word))

-- a row whose bit is 1 adds its word
pub word_set : (n : ℕ) (rows : List (State × Bor (List ℕ))) (i : ℕ) (d : State × Bor (List ℕ)) (b : Bool) → i < length rows
    → b ≡ is_set n (get_or rows i d).0.0 → b ≡ true → words_of n (take (i + 1) rows) ≡ words_of n (take i rows) ++ (get_or rows i d).1.now ∷ []
word_set n rows i d b h e t = words_more n rows i d h ∙ ap (λ s. words_of n (take i rows) ++ added s (get_or rows i d).1.now) (sym e ∙ t)

-- another adds none
pub word_unset : (n : ℕ) (rows : List (State × Bor (List ℕ))) (i : ℕ) (d : State × Bor (List ℕ)) (b : Bool) → i < length rows
    → b ≡ is_set n (get_or rows i d).0.0 → b ≡ false → words_of n (take (i + 1) rows) ≡ words_of n (take i rows)
word_unset n rows i d b h e t = words_more n rows i d h ∙ ap (λ s. words_of n (take i rows) ++ added s (get_or rows i d).1.now)
    (sym e ∙ t) ∙ append-nil (words_of n (take i rows))
