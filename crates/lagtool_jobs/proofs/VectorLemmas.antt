-- The lines of the vectors, one after another.
use Rattle.lagtool_jobs.proofs.Common.{Bool, List, [], ap, append_assoc, arith, get_or, length, suc, sym, take, zero, ℕ, ◌++◌, ◌+◌, ◌<◌, ◌∙◌, ◌∷◌}
use Rattle.lagtool_jobs.proofs.Common.{◌≡◌, vector_line, vector_lines_from}
use Rattle.lagtool_jobs.proofs.ReplayLemmas.{append_none, appended_both}

lines_next : (n i : ℕ) (xs : List Bool) (d : Bool) → i < length xs → vector_lines_from n (take i xs)
    ++ vector_line (n + i) (get_or xs i d) ≡ vector_lines_from n (take (suc i) xs)
lines_next n i [] d lt = absurd (omega arith)
lines_next n zero (x ∷ xs) d lt = let here : n + 0 ≡ n = omega arith in ap (λ k. vector_line k x) here ∙ sym (append_none (vector_line n x))
lines_next n (suc i) (x ∷ xs) d lt = let there : n + suc i ≡ (n + 1) + i = omega arith in
    append_assoc (vector_line n x) (vector_lines_from (n + 1) (take i xs)) (vector_line (n + suc i) (get_or xs i d))
    ∙ ap (λ k. vector_line n x ++ (vector_lines_from (n + 1) (take i xs) ++ vector_line k (get_or xs i d))) there
    ∙ ap (λ t. vector_line n x ++ t) (lines_next (n + 1) i xs d (omega arith))

-- the lines of some vectors, and of one more
pub lines_more : (n i : ℕ) (xs : List Bool) (d : Bool) → i < length xs → vector_lines_from n (take i xs)
    ++ vector_line (n + i) (get_or xs i d) ≡ vector_lines_from n (take (i + 1) xs)
lines_more n i xs d lt = let on : i + 1 ≡ suc i = omega arith in lines_next n i xs d lt ∙ ap (λ k. vector_lines_from n (take k xs)) (sym on)

-- one more line
pub lines_grow : (t u v : List ℕ) (i : ℕ) (xs : List Bool) (d : Bool) → i < length xs → u ≡ t ++ vector_lines_from 1 (take i xs)
    → v ≡ u ++ vector_line (i + 1) (get_or xs i d) → v ≡ t ++ vector_lines_from 1 (take (i + 1) xs)
lines_grow t u v i xs d lt before said = let place : i + 1 ≡ 1 + i = omega arith in
    appended_both t u v (vector_lines_from 1 (take i xs)) (vector_line (1 + i) (get_or xs i d)) _ before (said
    ∙ ap (λ k. u ++ vector_line k (get_or xs i d)) place) (lines_more 1 i xs d lt)
