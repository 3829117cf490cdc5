-- What a program in C is told, as numbers.
use Rattle.std.specs.Prelude.{ℕ, Bool, false, Option, None, Some, Result, Ok, Err}
use Rattle.lagsystem.specs.declared.config.PortChange.{PortChange}
use Rattle.lagsystem.specs.declared.fault.SystemFault.{SystemFault}
use Rattle.lagsystem.specs.declared.fault.SystemFault.TheVariants.{NoPort}
use Rattle.lagsystem.specs.Faults.{fault_number}
use Rattle.lagffi.specs.declared.values.LagChange.{LagChange}
use Rattle.lagffi.specs.declared.values.LagNumber.{LagNumber}
use Rattle.lagffi.specs.declared.values.LagReceived.{LagReceived}
use Rattle.lagffi.specs.declared.values.LagTruth.{LagTruth}

-- The next two are no refusals of a system: the handle holds no system; a buffer has another length than is asked.
abbrev pub no_system : ℕ
no_system = 13

abbrev pub wrong_buffer_length : ℕ
wrong_buffer_length = 15

-- 0, or the number of the refusal
abbrev pub status_of : {A : Type 0} → Result A SystemFault → ℕ
status_of (Ok answer) = 0
status_of (Err fault) = fault_number fault

-- it is told whether something is so
abbrev pub truth : Bool → LagTruth
truth is = record { status = 0; is = is }

-- refused with this number
abbrev pub truth_refused : ℕ → LagTruth
truth_refused why = record { status = why; is = false }

-- the answer of a call, or the number of its refusal
abbrev pub truth_of : Result Bool SystemFault → LagTruth
truth_of (Ok is) = truth is
truth_of (Err fault) = truth_refused (fault_number fault)

-- what a reader tells of a port, or that there is no such port
abbrev pub truth_or_no_port : Option Bool → LagTruth
truth_or_no_port (Some is) = truth is
truth_or_no_port None = truth_refused (fault_number NoPort)

-- a number is told
abbrev pub number : ℕ → LagNumber
number n = record { status = 0; number = n }

-- refused with this number
abbrev pub number_refused : ℕ → LagNumber
number_refused why = record { status = why; number = 0 }

-- the answer of a call, or the number of its refusal
abbrev pub number_of : Result ℕ SystemFault → LagNumber
number_of (Ok n) = number n
number_of (Err fault) = number_refused (fault_number fault)

-- the number, if there is one, and else this refusal
abbrev pub number_or_refused : ℕ → Option ℕ → LagNumber
number_or_refused why (Some n) = number n
number_or_refused why None = number_refused why

-- a receive that is refused with this number
abbrev pub received_refused : ℕ → LagReceived
received_refused why = record { status = why; what = 0; number = 0 }

-- a change as the system takes it
abbrev pub change_of : LagChange → PortChange
change_of c = record { key = record { 0 = c.key }; priority = c.priority; aggregatable = c.aggregatable }
