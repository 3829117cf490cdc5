use Rattle.lagsystem.proofs.Common.{[], subst, ModelCall, inner_state, system_leave_result, GivesOrRefuses, TablePromise, SystemValue}
use Rattle.lagsystem.proofs.LeavingLemmas.{leaves_promise, leaves_sound}
use Rattle.lagsystem.proofs.calls.System.leave_conversation.Goals as goal

pub invariant_of-self : goal.invariant_of-self
invariant_of-self g c = leaves_sound c.args.agg c.args.conv (inner_state c.self.inside.inner) c.leave_conversation.result
    (inner_state c.leave_conversation.new.self) c.leave_conversation.ensures.gives c.self.invariant

pub returns-clause-gives : goal.returns-clause-gives
returns-clause-gives g c =
    subst (λ (w : SystemValue g.row.F.Denot). GivesOrRefuses c.args.agg c.args.conv (system_leave_result w.state c.args.agg c.args.conv)
    w.state c.leave_conversation.result (inner_state c.leave_conversation.new.self)) c.self.view_is c.leave_conversation.ensures.gives

pub returns-clause-promise : goal.returns-clause-promise
returns-clause-promise g c = subst (λ (w : SystemValue g.row.F.Denot). TablePromise ModelCall.Move_conversation [] w.state
    (inner_state c.leave_conversation.new.self)) c.self.view_is
    (leaves_promise c.args.agg c.args.conv (inner_state c.self.inside.inner) c.leave_conversation.result
    (inner_state c.leave_conversation.new.self) c.leave_conversation.ensures.gives c.self.invariant)
