use Rattle.lagbeside.proofs.Selecting.{waits_for_room}
use Rattle.lagbeside.proofs.standby_ports_wait_for_room.Goals as goal

pub returns : goal.returns
returns c = waits_for_room
