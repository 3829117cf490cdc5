-- The median of the times between LACPDUs that follow one another, in tenths of a second, and the counts that give it.
use Rattle.std.specs.Prelude.{◌≡◌, ◌==◌, ◌+◌, ◌-◌, ◌*◌, ◌/◌, ◌<◌, ◌≤◌, ℕ, List, [], ◌∷◌, Option, Some, None, length, min, nat_le, replicate, slice_index, slice_set, if◌then◌else◌}
use Rattle.std.specs.List.{count_by}
use Rattle.lagtool_capture.specs.declared.gaps.Gaps.{Gaps}
use Rattle.lagtool_capture.specs.Counting.{one_more}

-- the tenths of a second from which on times are not told apart
unfoldable pub most_tenths : ℕ
most_tenths = 1000

-- the whole tenths of a second in a time in nanoseconds; 1000 stands for 100 seconds and more
abbrev pub tenths_of : ℕ → ℕ
tenths_of gap = min (gap / 100000000) most_tenths

-- how many of these times have at most so many tenths
abbrev pub count_up_to : ℕ → List ℕ → ℕ
count_up_to tenths gaps = count_by (λ gap. nat_le (tenths_of gap) tenths) gaps

-- The median of these times: the least number of tenths that at least half of them have at most. So of an odd number of
-- times it is the middle one, of an even number the lower of the two in the middle.
abbrev pub IsMedian : List ℕ → ℕ → Type 0
IsMedian gaps tenths =
    (length gaps ≤ 2 * count_up_to tenths gaps) × ((fewer : ℕ) → fewer < tenths → 2 * count_up_to fewer gaps < length gaps)

-- the median where there is a time; None stands for no time
abbrev pub IsMedianOf : List ℕ → Option ℕ → Type 0
IsMedianOf gaps None = length gaps ≡ 0
IsMedianOf gaps (Some tenths) = (0 < length gaps) × IsMedian gaps tenths

-- before the first time
unfoldable pub no_gaps : Gaps
no_gaps = record { known = 0; counts = replicate 1001 0 }

-- one more at the entry of so many tenths
abbrev pub counted_at : ℕ → List ℕ → List ℕ
counted_at tenths counts = slice_set counts tenths (one_more (slice_index counts tenths))

-- one time more, if it is known
unfoldable pub gaps_with : Option ℕ → Gaps → Gaps
gaps_with None g = g
gaps_with (Some gap) g = record { known = one_more g.known; counts = counted_at (tenths_of gap) g.counts }

-- the counts of these times, the latest first
abbrev pub gaps_of : List ℕ → Gaps
gaps_of [] = no_gaps
gaps_of (gap ∷ gaps) = gaps_with (Some gap) (gaps_of gaps)

-- The tenths of a second that so many times (second number) have at most, by these counts, the first of which is that of
-- so many tenths (first number).
abbrev pub tenths_up_to : ℕ → ℕ → List ℕ → Option ℕ
tenths_up_to tenths wanted [] = None
tenths_up_to tenths wanted (count ∷ counts) =
    if nat_le wanted count then Some tenths else tenths_up_to (tenths + 1) (wanted - count) counts

-- the median by counts, as the times that are counted have it; None without a time
unfoldable pub median : Gaps → Option ℕ
median g = if g.known == 0 then None else tenths_up_to 0 (g.known - g.known / 2) g.counts
