use Rattle.lagtool_jobs.proofs.Common.{decimal, string_bytes, take, ◌++◌, ◌∷◌, ◌≡◌, flat_map}
use Rattle.lagtool_jobs.proofs.flows.push_collected.Given as goal

abbrev pub invariant-loop-serial : goal.invariant-loop-serial
invariant-loop-serial l = string_bytes l.text ≡ string_bytes l.initial.text
    ++ flat_map (λ serial. 32 ∷ decimal serial) (take l.serial-index l.serials)
