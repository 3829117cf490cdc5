use Rattle.lagsystem.proofs.Common.{OnFalse_at, OnTrue_at, ap, subst, ◌≡◌, Machines, SystemPort, ProcessesLacpduAndRunsMux}
use Rattle.lagsystem.proofs.Skipping.{heard_and_rests}
use Rattle.portmachines.specs.Hearing.{HearsAgain}
use Rattle.lagsystem.proofs.process_lacpdu.process_lacpdu_on.Goals as goal

pub returns-then-hear_again : goal.returns-then-hear_again
returns-then-hear_again c = let s = c.args.system_port.now in
    let q = c.hear_again.new.self in
    heard_and_rests c.args.pdu.now s q
    (OnTrue_at {P = HearsAgain c.args.pdu.now s.port q} c.if-hear_again.true c.hear_again.ensures.heard)

pub returns : goal.returns
returns c = let s = c.args.system_port.now in
    let q = c.hear_again.new.self in
    let same : q ≡ s.port = OnFalse_at {P = q ≡ s.port} c.if-hear_again.false c.hear_again.ensures.other in
    subst (λ (x : SystemPort). ProcessesLacpduAndRunsMux c.args.pdu.now x c.process_and_compare.result c.process_and_compare.new.system_port)
    (ap (λ (p : Machines). record s { port = p }) same) c.process_and_compare.ensures
