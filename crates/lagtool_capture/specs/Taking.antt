-- How octets of a capture are read: step by step, as far as they go.
use Rattle.std.specs.Prelude.{◌≡◌, ◌≤◌, ◌<◌, ◌⊎◌, ◌+◌, ℕ, List, Option, Some, None, Err, drop, length}
use Rattle.captures.specs.Steps.{ReaderState, step}
use Rattle.captures.specs.Whole.{Captured, ReadsTo}
use Rattle.captures.specs.declared.fault.Fault.{Fault}
use Rattle.captures.specs.declared.fault.Stop.{Stop}
use Rattle.captures.specs.declared.fault.Stop.TheVariants.{Refused, Wants}
use Rattle.lagtool_capture.specs.Reporting.{ReportState, after_all}
use Rattle.lagtool_capture.specs.Noticing.{Agrees, Log, logged_all}
use Rattle.lagtool_capture.specs.declared.noticing.Noticed.{Noticed}
use Rattle.lagtool_capture.specs.declared.taking.Taken.{Taken}

-- so many octets are taken, and this is why no more are
abbrev pub stopped_at : ℕ → Stop → Taken
stopped_at n (Wants m) = record { count = n; skip = 0; fault = None }
stopped_at n (Refused fault) = record { count = n; skip = 0; fault = Some fault }

-- No step is taken in these octets: there are none, or more of them are wanted; or there is this fault.
abbrev pub Stops : List ℕ → ReaderState → Option Fault → Type 0
Stops b s None = (length b ≡ 0) ⊎ ((n : ℕ) × (step s b ≡ Err (Wants n)))
Stops b s (Some fault) = (0 < length b) × (step s b ≡ Err (Refused fault))

-- All steps that can be taken in these octets are taken: what has a number in them is seen, findings are by it, and no step is
-- taken in the octets that are left. Where octets behind these are taken already, these all are.
pub record StepsThrough (b : List ℕ) (old new : ReaderState) (before after : ReportState) (earlier later : Noticed) (taken : Taken) : Type 0 where
  pub found : List (Option Captured)
  pub reads : ReadsTo b old found (taken.count + taken.skip) new
  pub seen : after ≡ after_all found before
  pub noticed : (l : Log) → Agrees l before.number earlier → Agrees (logged_all found l) after.number later
  pub count : taken.count ≤ length b
  pub skip : (taken.skip ≡ 0) ⊎ ((taken.count ≡ length b) × (taken.fault ≡ None))
  pub stops : Stops (drop (taken.count + taken.skip) b) new taken.fault
