-- What is told of a capture: the text of the job of `lagtool`.
use Rattle.std.specs.Prelude.{ℕ, ◌++◌, ◌==◌, List, [], Option, Some, None, codes, nat_lt, if◌then◌else◌}
use Rattle.lagtool_capture.specs.Faults.{read_fault_text}
use Rattle.lagtool_capture.specs.declared.fault.ReadFault.{ReadFault}
use Rattle.lagtool_capture.specs.declared.settings.Settings.{Settings}
use Rattle.lagtool_capture.specs.declared.summary.CaptureSummary.{CaptureSummary}

-- the options of a capture, each on where its number is above 0
abbrev pub settings_with : ℕ → ℕ → ℕ → Settings
settings_with all no_frames json = record { all = nat_lt 0 all; frames = no_frames == 0; json = nat_lt 0 json }

-- what is said of a capture that is not read on
abbrev pub said_of_capture : Option ReadFault → List ℕ
said_of_capture None = []
said_of_capture (Some fault) = codes "cannot read: " ++ read_fault_text fault.at fault.cause

-- 2 for a capture that is not read on, 1 where something is found, 0 else
abbrev pub status_in : ℕ → Option ReadFault → ℕ
status_in findings None = if findings == 0 then 0 else 1
status_in findings (Some fault) = 2

abbrev pub status_of_summary : CaptureSummary → ℕ
status_of_summary s = status_in s.findings s.fault
