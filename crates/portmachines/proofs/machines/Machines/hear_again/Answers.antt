use Rattle.portmachines.proofs.Common.{subst, sym, Machines}
use Rattle.portmachines.proofs.HearingLemmas.{heard_again}
use Rattle.portmachines.specs.Hearing.{HearsAgain}
use Rattle.portmachines.proofs.machines.Machines.hear_again.Goals as goal

pub returns-clause-heard : goal.returns-clause-heard
returns-clause-heard c = subst (λ (q : Machines). HearsAgain c.args.pdu.now c.args.self.now q) (sym c.start_current_while.ensures)
    (heard_again c.args.pdu.now c.args.self.now c.if-not-distributes_at_rest.ensures c.if-not-says_what_is_recorded.ensures)
