use Rattle.lagtool_jobs.proofs.Common.{string_bytes, ◌++◌, ◌≡◌, range_with_len, flat_map, agreement_line, agreement_at}
use Rattle.lagtool_jobs.proofs.replaying.push_agreements.Given as goal

abbrev pub invariant-loop-place : goal.invariant-loop-place
invariant-loop-place g l = string_bytes l.text ≡ string_bytes l.initial.text
    ++ flat_map (λ c. agreement_line c (agreement_at l.world.state c)) (range_with_len 1 l.place)
