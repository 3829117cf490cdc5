-- Why a capture is not read on.
use Rattle.std.specs.Prelude.{ℕ}
use Rattle.captures.specs.declared.fault.Cause.{Cause}
use Rattle.captures.specs.declared.fault.Cause.TheVariants as causes
use Rattle.captures.specs.declared.fault.Stop.{Stop}
use Rattle.captures.specs.declared.fault.Stop.TheVariants.{Refused}

-- a refusal at this offset
abbrev pub refused : ℕ → Cause → Stop
refused at cause = Refused (record { at = at; cause = cause })

-- the number of a cause, from 1
abbrev pub cause_number : Cause → ℕ
cause_number causes.Gzip = 1
cause_number (causes.Format found) = 2
cause_number (causes.SectionOrder found) = 3
cause_number (causes.Version major minor) = 4
cause_number (causes.LinkType found) = 5
cause_number (causes.Length found) = 6
cause_number (causes.SecondLength found) = 7
cause_number (causes.Captured found) = 8
cause_number (causes.Description found) = 9
cause_number (causes.Interface found) = 10
cause_number causes.Interfaces = 11
cause_number (causes.Resolution found) = 12
cause_number causes.Time = 13
cause_number causes.CutShort = 14
