-- Numbers and texts of the reasons for which a cable with a limit cannot be made (profile).
use Rattle.std.specs.Prelude.{ℕ, List, codes}
use Rattle.cables.specs.declared.ring.CableFault.{CableFault}
use Rattle.cables.specs.declared.ring.CableFault.TheVariants.{Limit, NoMemory}

-- the number of a fault
abbrev pub fault_number : CableFault → ℕ
fault_number Limit = 1
fault_number NoMemory = 2

-- the text of a fault, as Display writes it
abbrev pub fault_text : CableFault → List ℕ
fault_text Limit = codes "the limit is 0"
fault_text NoMemory = codes "out of memory"
