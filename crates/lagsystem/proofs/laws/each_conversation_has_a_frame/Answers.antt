use Rattle.lagsystem.proofs.AssigningLemmas.{frame_is_octets, framed}
use Rattle.lagsystem.proofs.laws.each_conversation_has_a_frame.Goals as goal

pub returns-clause-frame : goal.returns-clause-frame
returns-clause-frame c = framed

pub returns-clause-octets : goal.returns-clause-octets
returns-clause-octets c = frame_is_octets
