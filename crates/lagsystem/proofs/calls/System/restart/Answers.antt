use Rattle.lagsystem.proofs.Common.{subst, ◌≡◌, first_view, Reply, Call, inner_state, model_setup, model_view, SystemValue}
use Rattle.lagsystem.proofs.FirstView.{restarted_shows}
use Rattle.lagsystem.proofs.Sound.{Step-sound, answers}
use Rattle.lagsystem.proofs.calls.System.restart.Goals as goal

pub invariant_of-self : goal.invariant_of-self
invariant_of-self g c =
    Step-sound (λ conv count place. g.F.Fn.post c.self.inside.inner.distributor.algorithm (conv, (count, tt)) place)
    _ Call.Restart Reply.Restart _ c.restart.ensures.step c.self.invariant

pub returns-clause-answers : goal.returns-clause-answers
returns-clause-answers g c = rw (← c.self.view_is) (answers _ _ _ _ _ c.restart.ensures.step c.self.invariant)

pub returns-clause-shows : goal.returns-clause-shows
returns-clause-shows g c = let new = inner_state c.restart.new.self in
    subst (λ (w : SystemValue g.row.F.Denot). model_view new ≡ first_view (model_setup w.state)) c.self.view_is
    (restarted_shows (inner_state c.self.inside.inner) new c.restart.ensures.step.0 c.restart.ensures.step.1)
