use Rattle.lagworld.proofs.Common.{Err, Ok, ap, refl, with_state, half_state, HalfState}
use Rattle.lagworld.proofs.half.Half.configure.Goals as goal

pub returns-in-Ok-clause-configures : goal.returns-in-Ok-clause-configures
returns-in-Ok-clause-configures g c = let e = c.in-Ok.ensures in
    let mid : HalfState = with_state c.configure-answer.new.self.state (half_state c.args.self.now) in (
      Ok c.in-Ok.changed,
      mid,
      record { answers = e.answers; same = refl },
      refl,
      ap (λ l. record mid { histories = l }) c.count_changes.ensures,
    )

pub returns-in-Err-clause-configures : goal.returns-in-Err-clause-configures
returns-in-Err-clause-configures g c = let e = c.in-Err.ensures in
    let mid : HalfState = with_state c.configure-answer.new.self.state (half_state c.args.self.now) in (
      Err c.in-Err.fault,
      mid,
      record { answers = e.answers; same = refl },
      refl,
      ap (λ l. record mid { histories = l }) c.count_changes.ensures,
    )
