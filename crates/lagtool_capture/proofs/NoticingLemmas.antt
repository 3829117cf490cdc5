-- Findings that were added so far, and those of one element more.
use Rattle.lagtool_capture.proofs.Common.{List, None, Some, [], ap, get_or, length, slice_get, sym, take, ℕ, ◌++◌, ◌+◌, ◌<◌, ◌∙◌, ◌≡◌, flat_map_more}
use Rattle.lagtool_capture.proofs.Common.{take_more, flat_map, Finding, LinkEnd, Log, findings_by, findings_in}
use Rattle.std.proofs.lemmas.Option.{slice_get-get_or}
use Rattle.findings.specs.Rules.{all_rules}

-- what one element more adds
pub one_added : {A B : Type 0} (f : A → List B) (xs : List A) (i : ℕ) (d : A) (before now next : List B) → i < length xs
    → now ≡ before ++ flat_map f (take i xs) → next ≡ now ++ f (get_or xs i d) → next ≡ before ++ flat_map f (take (i + 1) xs)
one_added f xs i d before now next lt p q =
    q ∙ ap (λ k. k ++ f (get_or xs i d)) p ∙ flat_map_more f before (take i xs) (get_or xs i d)
    ∙ ap (λ k. before ++ flat_map f k) (sym (take_more xs i d lt))

-- an end to read a list of ends with
some_end : LinkEnd
some_end = record { interface = 0; source = []; port = None }

-- what the end with this index adds
pub end_added : (l : Log) (until i : ℕ) (es : List LinkEnd) (now next : List Finding) → until ≡ l.until → i < length es → now ≡ findings_in l (take i es)
    → next ≡ now ++ findings_by until l.frames all_rules (slice_get es i) → next ≡ findings_in l (take (i + 1) es)
end_added l until i es now next e lt p q =
    one_added (λ x. findings_by l.until l.frames all_rules (Some x)) es i some_end [] now next lt p
    (q ∙ ap (λ k. now ++ findings_by k l.frames all_rules (slice_get es i)) e
    ∙ ap (λ o. now ++ findings_by l.until l.frames all_rules o) (slice_get-get_or es i some_end lt))
