use Rattle.lagworld.proofs.ArrivingLemmas.{heard_is, none_heard}
use Rattle.lagworld.proofs.delivering.stamped_in.Goals as goal

pub returns-in-Some : goal.returns-in-Some
returns-in-Some c = λ v h. heard_is c.args.item.now.bytes.items c.deref.result.now c.args.item.now.stamp c.in-Some.pdu v
    c.stamp_count-stamp.result h c.deref.ensures.value c.in-Some.ensures c.stamp_count-stamp.ensures

pub returns-in-None : goal.returns-in-None
returns-in-None c = λ v h. absurd (none_heard c.args.item.now.bytes.items c.deref.result.now v h c.deref.ensures.value c.in-None.ensures)
