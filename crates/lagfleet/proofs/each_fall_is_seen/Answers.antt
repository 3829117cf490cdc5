use Rattle.lagfleet.proofs.Falls.{falls_seen}
use Rattle.lagfleet.proofs.each_fall_is_seen.Goals as goal

pub returns : goal.returns
returns g c = λ algorithm. falls_seen (λ a b k. g.F.Fn.post algorithm (a, (b, tt)) k)
