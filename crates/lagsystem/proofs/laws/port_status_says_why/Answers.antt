use Rattle.lagsystem.proofs.StatusLemmas.{says_why}
use Rattle.lagsystem.proofs.laws.port_status_says_why.Goals as goal

pub returns : goal.returns
returns c = says_why
