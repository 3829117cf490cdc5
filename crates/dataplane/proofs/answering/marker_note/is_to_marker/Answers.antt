use Rattle.dataplane.proofs.NotedResponses.{too_short}
use Rattle.dataplane.proofs.answering.marker_note.is_to_marker.Goals as goal

pub returns-else-frame-ge30 : goal.returns-else-frame-ge30
returns-else-frame-ge30 c = too_short c.args.marker.now c.args.frame.now c.told-marker c.if-frame-ge30.false
