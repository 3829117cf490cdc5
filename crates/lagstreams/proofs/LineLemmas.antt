-- The lines of octets that arrive in several reads.
use Rattle.std.proofs.Common.{ℕ, ◌+◌, ◌<◌, ◌≡◌, ◌++◌, ◌==◌, List, [], ◌∷◌, length, refl, sym, ap, ◌∙◌, append_assoc, arith, append-nil}
use Rattle.lagstreams.specs.Lines.{line_if_any, continue_line}

pub prepend_none : (ls : List (List ℕ)) → continue_line [] ls ≡ ls
prepend_none [] = refl
prepend_none (l ∷ ls) = refl

pub prepend_both : (line xs : List ℕ) (ls : List (List ℕ)) → continue_line line (continue_line xs ls) ≡ continue_line (line ++ xs) ls
prepend_both line [] [] = ap line_if_any (sym (append-nil line))
prepend_both [] (x ∷ xs) [] = refl
prepend_both (y ∷ ys) (x ∷ xs) [] = refl
prepend_both line xs (l ∷ ls) = ap (λ m. m ∷ ls) (sym (append_assoc line xs l))

-- a line that ends here
pub closed : (line : List ℕ) → 0 < length line → line_if_any line ≡ line ∷ []
closed [] h = absurd (omega arith)
closed (x ∷ xs) h = refl
