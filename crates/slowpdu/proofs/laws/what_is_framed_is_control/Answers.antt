use Rattle.slowpdu.proofs.WritingLemmas.{framed_slow, framed_payload}
use Rattle.slowpdu.proofs.laws.what_is_framed_is_control.Goals as goal

pub returns-clause-slow : goal.returns-clause-slow
returns-clause-slow c = λ source payload six. framed_slow source payload six

pub returns-clause-payload : goal.returns-clause-payload
returns-clause-payload c = λ source payload six. framed_payload source payload six
