-- What comes on a port is an LACPDU that it processes, or it changes no port; and what it changes of conversations.
use Rattle.lagsystem.proofs.Common.{Bool, Option, ap, arith, false, inl, inr, true, ℕ, ◌≡◌, ◌⊎◌, nat_tests, Lacpdu, Marker, ChangesAssignments}
use Rattle.lagsystem.proofs.Common.{after_release, FrameEffect, Received, TookLacpdu, OnlyPortChangesBy, Performs, ProcessesLacpdu, Releases}
use Rattle.lagsystem.proofs.Common.{ThenSettles, is_own_response, SystemState}

-- the port at the index processes an LACPDU, which a settling follows; or all ports stay
abbrev pub ProcessesOrStays : Option ℕ → SystemState → Received → SystemState → Type 0
ProcessesOrStays index old answer new =
    ((v : Lacpdu) × (answer ≡ TookLacpdu) × ThenSettles (OnlyPortChangesBy index (ProcessesLacpdu v)) old new)
    ⊎ (new.system_ports ≡ old.system_ports)

pub processes_or_stays : (effect : FrameEffect) (port : ℕ) (index : Option ℕ) (old : SystemState) (answer : Received) (new : SystemState)
    → Performs effect port index old answer new → ProcessesOrStays index old answer new
processes_or_stays effect port index old answer new h = grind (arith, nat_tests)

-- an LACPDU is processed, and a settling follows; or each conversation that waits for a response is released; or the
-- conversations stay
abbrev pub TableChanges : Option ℕ → SystemState → SystemState → Type 0
TableChanges index old new = ((v : Lacpdu) × ThenSettles (OnlyPortChangesBy index (ProcessesLacpdu v)) old new)
    ⊎ (((port : ℕ) × (id : ℕ) × ChangesAssignments old.table new.table (after_release port id)) ⊎ (new.table ≡ old.table))

releases : (b : Bool) (port : ℕ) (m : Marker) (old : SystemState) (answer : Received) (new : SystemState) → Releases b port m old answer new
    → ((port : ℕ) × (id : ℕ) × ChangesAssignments old.table new.table (after_release port id)) ⊎ (new.table ≡ old.table)
releases false port m old answer new h = inr (ap (λ (s : SystemState). s.table) h.1)
releases true port m old answer new h = inl (port, m.id, h.1)

pub table_changes : (effect : FrameEffect) (port : ℕ) (index : Option ℕ) (old : SystemState) (answer : Received) (new : SystemState)
    → Performs effect port index old answer new → TableChanges index old new
table_changes effect port index old answer new h = grind (arith, nat_tests, releases, is_own_response)
