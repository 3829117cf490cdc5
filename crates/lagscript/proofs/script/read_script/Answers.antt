use Rattle.lagscript.proofs.Common.{plan_value}
use Rattle.lagscript.proofs.ScriptLemmas.{has_script}
use Rattle.lagscript.proofs.script.read_script.Goals as goal

pub returns-clause-reads : goal.returns-clause-reads
returns-clause-reads c = has_script c.args.text.now (plan_value c.in_ok-plan.plan) c.in_ok-plan.ensures.reads
