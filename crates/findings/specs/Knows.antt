-- What is known behind a list of frames, the latest first.
use Rattle.std.specs.Prelude.{◌≡◌, ◌++◌, ℕ, Bool, List, [], ◌∷◌, not, map, filter, length, take, if◌then◌else◌}
use Rattle.std.specs.List.{AllByRecursion, list_any}
use Rattle.findings.specs.declared.slow_frame.LinkEnd.{LinkEnd}
use Rattle.findings.specs.declared.slow_frame.SlowFrame.{SlowFrame}
use Rattle.findings.specs.declared.kept_end.KeptEnd.{KeptEnd}
use Rattle.findings.specs.declared.order.Order.{Order}
use Rattle.findings.specs.Counts.{counted}
use Rattle.findings.specs.Ends.{end_of, same_end}
use Rattle.findings.specs.KeptEnds.{kept_end}
use Rattle.findings.specs.Orders.{order_of}

-- the ends that are kept
abbrev pub ends_of : List KeptEnd → List LinkEnd
ends_of = map (λ w. w.end)

-- the end is one of them
abbrev pub has_end : LinkEnd → List KeptEnd → Bool
has_end e = list_any (λ w. same_end w.end e)

-- what is kept of this end is what the frames give
abbrev pub IsExact : List SlowFrame → KeptEnd → Type 0
IsExact h w = w ≡ kept_end w.end h

-- one frame is taken: the end is the same, and what is kept of it stays exact
pub record Takes (now : SlowFrame) (old new : KeptEnd) : Type 0 where
  pub end : new.end ≡ old.end
  pub exact : (h : List SlowFrame) → IsExact h old → IsExact (now ∷ h) new

-- the end is one of these
abbrev pub is_among : LinkEnd → List LinkEnd → Bool
is_among e = list_any (λ f. same_end f e)

-- one more end, behind these, unless it is one of them
abbrev pub with_end : LinkEnd → List LinkEnd → List LinkEnd
with_end e es = if is_among e es then es else es ++ e ∷ []

-- the ends that sent these frames, each once, in the order of their first frames
abbrev pub firsts : List SlowFrame → List LinkEnd
firsts [] = []
firsts (o ∷ h) = with_end (end_of o) (firsts h)

-- the ends that may be kept: the first 64
abbrev pub first_ends : List SlowFrame → List LinkEnd
first_ends h = take 64 (firsts h)

-- the frames of other ends than these
abbrev pub frames_beyond : List LinkEnd → List SlowFrame → List SlowFrame
frames_beyond es = filter (λ o. not (is_among (end_of o) es))

-- What is kept behind these frames, in what order they are, and how many of them were left out.
pub record Knows (h : List SlowFrame) (kept : List KeptEnd) (order : Order) (left_out : ℕ) : Type 0 where
  -- what is kept of their order is by all frames
  pub sequence : order ≡ order_of h
  -- what is kept of each end is by all frames
  pub exact : AllByRecursion (IsExact h) kept
  -- the first 64 ends are kept, in the order of their first frames
  pub ends : ends_of kept ≡ first_ends h
  -- the frames of all other ends are counted
  pub counts : left_out ≡ counted (length (frames_beyond (first_ends h) h))
