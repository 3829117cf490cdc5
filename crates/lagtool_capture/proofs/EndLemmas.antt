-- What an end keeps of the times between its LACPDUs.
use Rattle.lagtool_capture.proofs.Common.{List, None, Option, Some, [], ap, arith, length, refl, ℕ, ◌+◌, ◌<◌, ◌^◌, ◌∙◌, ◌∷◌, ◌≡◌, ◌≤◌, cons_option}
use Rattle.lagtool_capture.proofs.Common.{LinkEnd, Sent, gap_between, gaps_between, latest_time, IsMedianOf, gaps_of, median}
use Rattle.lagtool_capture.specs.Ends.{end_of}
use Rattle.lagtool_capture.specs.Gaps.{gaps_with}
use Rattle.lagtool_capture.specs.declared.ends.LacpduSender.{LacpduSender}
use Rattle.lagtool_capture.proofs.GapLemmas.{median_is}

latest_is : (s : LinkEnd) (first : Sent) (later : List Sent) → (end_of s first later).latest ≡ latest_time first later
latest_is s first [] = refl
latest_is s first (x ∷ later) = refl

-- one time more, if it is known
one_more_of : (gap : Option ℕ) (gaps : List ℕ) → gaps_with gap (gaps_of gaps) ≡ gaps_of (cons_option gap gaps)
unfolding gaps_with
one_more_of None gaps = refl
one_more_of (Some gap) gaps = refl

gaps_are : (s : LinkEnd) (first : Sent) (later : List Sent) → (end_of s first later).gaps ≡ gaps_of (gaps_between first later)
gaps_are s first [] = refl
gaps_are s first (x ∷ later) = ap (λ t. gaps_with (gap_between t x.time) (end_of s first later).gaps) (latest_is s first later)
    ∙ ap (gaps_with (gap_between (latest_time first later) x.time)) (gaps_are s first later)
    ∙ one_more_of (gap_between (latest_time first later) x.time) (gaps_between first later)

one_longer : (gap : Option ℕ) (gaps : List ℕ) → length (cons_option gap gaps) ≤ length gaps + 1
one_longer None gaps = omega arith
one_longer (Some gap) gaps = omega arith

no_longer : (first : Sent) (later : List Sent) → length (gaps_between first later) ≤ length later
no_longer first [] = omega arith
no_longer first (x ∷ later) =
    let h = no_longer first later in let l = one_longer (gap_between (latest_time first later) x.time) (gaps_between first later) in
    omega (arith, h, l)

-- the median of the times between the LACPDUs of an end
pub end_median : (e : LacpduSender) (s : LinkEnd) (first : Sent) (later : List Sent) → length later < 2 ^ 64 → e ≡ end_of s first later
    → IsMedianOf (gaps_between first later) (median e.gaps)
end_median e s first later lt same = let l = no_longer first later in
    median_is e.gaps (gaps_between first later) (omega (arith, l, lt)) (ap (λ x. x.gaps) same ∙ gaps_are s first later)
