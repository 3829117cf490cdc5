use Rattle.lagffi.proofs.Common.{subst, sym, inr}
use Rattle.lagffi.specs.Resuming.{IsResumedOf}
use Rattle.lagffi.proofs.resuming.resumed.Goals as goal

pub returns-in-Ok-resume-clause-resumed : goal.returns-in-Ok-resume-clause-resumed
returns-in-Ok-resume-clause-resumed c =
    subst (IsResumedOf c.args.config.now c.args.keys.now c.args.ports.now c.args.saved.now) (sym c.with_algorithm.ensures.state) (record {
      accepted = c.requires.accepted;
      algorithm = c.requires.algorithm;
      taken = c.in-Ok.config;
      same = c.in-Ok.ensures;
      resumed = c.in-Ok-resume.ensures.resumed;
    })

pub returns-in-Err-clause-refused : goal.returns-in-Err-clause-refused
returns-in-Err-clause-refused c = inr (record {
  accepted = c.requires.accepted;
  algorithm = c.requires.algorithm;
  taken = c.in-Ok.config;
  same = c.in-Ok.ensures;
  fault = c.in-Err.fault;
  refused = c.in-Err.ensures.refused;
  told = c.not_resumed.ensures;
})
