use Rattle.law_answers.proofs.Changing.{configuration_begins}
use Rattle.law_answers.proofs.each_configuration_begins.Goals as goal

pub returns : goal.returns
returns c = configuration_begins
