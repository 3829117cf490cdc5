-- The numbers of the faults (profile).
use Rattle.std.specs.Prelude.{ℕ}
use Rattle.lagworld.specs.declared.fault.WorldFault.{WorldFault}
use Rattle.lagworld.specs.declared.fault.WorldFault.TheVariants.{NoCable, NoSystem, Spent, NoMemory, BadConfig}

-- the number of a fault of a world
abbrev pub world_fault_number : WorldFault → ℕ
world_fault_number NoCable = 1
world_fault_number NoSystem = 2
world_fault_number Spent = 4
world_fault_number NoMemory = 5
world_fault_number (BadConfig reason) = 6
