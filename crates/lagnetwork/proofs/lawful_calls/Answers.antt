use Rattle.lagnetwork.proofs.NetworkCalls.{calls_from}
use Rattle.lagnetwork.proofs.lawful_calls.Goals as goal

pub returns : goal.returns
returns c = λ x s call stamp old mid new v seen accepts count h k e. calls_from x s call stamp old mid new v seen accepts count h k e
