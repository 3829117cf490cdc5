-- The order of the frames of a capture by their times.
use Rattle.std.specs.Prelude.{ℕ, Bool, List, [], ◌∷◌, Option, Some, None, if◌then◌else◌}
use Rattle.std.specs.Option.{option_or}
use Rattle.findings.specs.declared.finding.Shown.{Shown}
use Rattle.findings.specs.declared.order.Order.{Order}
use Rattle.findings.specs.declared.order.StepBack.{StepBack}
use Rattle.findings.specs.declared.slow_frame.LinkEnd.{LinkEnd}
use Rattle.findings.specs.declared.slow_frame.SlowFrame.{SlowFrame}
use Rattle.findings.specs.Ends.{end_of, same_end}
use Rattle.findings.specs.Holds.{and_if, is_over, seconds}

-- the time of the latest frame
abbrev pub latest_time : List SlowFrame → Option ℕ
latest_time [] = None
latest_time (o ∷ h) = Some o.nanoseconds

-- a frame is more than a second earlier than the one before it in the capture, of any end: rules count in seconds (6.4.4), and what
-- several interfaces receive at once is out of order by less
abbrev pub steps_back : SlowFrame → Option ℕ → Bool
steps_back o before = and_if (λ t. is_over (seconds 1) o.nanoseconds t) before

-- such a frame, with the end that sent it
abbrev pub step_of : SlowFrame → StepBack
step_of o = record { end = end_of o; shown = record { number = o.number; nanoseconds = o.nanoseconds; partner = None } }

-- the first frame of a capture that steps back
abbrev pub first_back : List SlowFrame → Option StepBack
first_back [] = None
first_back (o ∷ h) = option_or (first_back h) (if steps_back o (latest_time h) then Some (step_of o) else None)

-- the frame that steps back, if an end sent it
abbrev pub if_of : LinkEnd → Option StepBack → Option Shown
if_of e None = None
if_of e (Some s) = if same_end s.end e then Some s.shown else None

-- a finding that wants the frames of both directions in their order, unless a frame steps back
abbrev pub unless_back : Option StepBack → Option Shown → Option Shown
unless_back None shown = shown
unless_back (Some s) shown = None

-- the time of the latest frame, and the first frame that steps back
abbrev pub order_of : List SlowFrame → Order
order_of h = record { latest = latest_time h; back = first_back h }
