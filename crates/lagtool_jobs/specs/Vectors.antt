-- What `vectors` prints (profile).
use Rattle.std.specs.Prelude.{◌≡◌, ℕ, ◌+◌, ◌++◌, Bool, List, [], ◌∷◌, Option, Result, Ok, Err, codes, count_by, decimal, length, not}
use Rattle.std.specs.Prelude.{if◌then◌else◌}
use Rattle.lagstreams.specs.Sinks.{WritesPart, SinkState, WritesWhole}
use Rattle.lagtool_jobs.specs.declared.fault.ToolFault.{ToolFault}
use Rattle.lagtool_jobs.specs.declared.fault.ToolFault.TheVariants.{Read, Write, NoMemory, Script, NotHex, NotMac}
use Rattle.lagtool_jobs.specs.declared.summary.Summary.{Summary}

-- how many of these failed
abbrev pub failures : List Bool → ℕ
failures passed = count_by (λ pass. not pass) passed

-- VN ok, or VN failed
abbrev pub vector_line : ℕ → Bool → List ℕ
vector_line n pass = 86 ∷ (decimal n ++ (if pass then codes " ok\n" else codes " failed\n"))

-- a line for each vector; the first has this number
abbrev pub vector_lines_from : ℕ → List Bool → List ℕ
vector_lines_from n [] = []
vector_lines_from n (pass ∷ passed) = vector_line n pass ++ vector_lines_from (n + 1) passed

-- all that `vectors` prints: a line for each vector, and then the counts
abbrev pub vectors_text : List Bool → List ℕ
vectors_text passed = vector_lines_from 1 passed ++ (codes "vectors "
    ++ (decimal (length passed) ++ (codes " failed " ++ (decimal (failures passed) ++ 10 ∷ []))))

-- what `run_vectors` returns and has written for so many vectors, if as many answers say whether each of them passes
abbrev pub RunsVectors : {W : Type 0} → (W → Option (List ℕ)) → ℕ → SinkState W → SinkState W → Result Summary ToolFault → Type 0
RunsVectors contents count old new (Ok summary) =
    (passed : List Bool) × (length passed ≡ count) × WritesWhole contents old new (vectors_text passed)
    × (summary ≡ record { checked = count; faults = failures passed })
RunsVectors contents count old new (Err Write) = (passed : List Bool) × (length passed ≡ count) × WritesPart contents old new (vectors_text passed)
RunsVectors contents count old new (Err NoMemory) = new ≡ old
RunsVectors contents count old new (Err Read) = ⊥
RunsVectors contents count old new (Err (Script fault)) = ⊥
RunsVectors contents count old new (Err NotHex) = ⊥
RunsVectors contents count old new (Err NotMac) = ⊥
