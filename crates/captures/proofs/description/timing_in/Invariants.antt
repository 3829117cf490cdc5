-- The options that are left give what all options give.
use Rattle.std.proofs.Common.{◌≡◌, ◌-◌}
use Rattle.captures.specs.Descriptions.{timing_from, timing_in}
use Rattle.captures.proofs.description.timing_in.Given as goal

abbrev pub invariant-loop : goal.invariant-loop
invariant-loop l = timing_from l.order l.octets l.end (l.end - l.counter) l.timing l.at ≡ timing_in l.order l.octets l.end
