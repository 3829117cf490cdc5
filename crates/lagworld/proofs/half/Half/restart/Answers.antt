use Rattle.lagworld.proofs.Common.{ap, refl, with_state, half_state, HalfState}
use Rattle.lagworld.proofs.half.Half.restart.Goals as goal

pub returns-clause-restarts : goal.returns-clause-restarts
returns-clause-restarts g c = let e = c.restart.ensures in
    let mid : HalfState = with_state c.restart.new.self.state (half_state c.args.self.now) in
    (mid, record { answers = e.answers; same = refl }, ap (λ l. record mid { histories = l }) c.count_changes.ensures)
