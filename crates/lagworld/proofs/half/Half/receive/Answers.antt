use Rattle.lagworld.proofs.Common.{half_state, item_value}
use Rattle.lagworld.proofs.Sides.{gives_of}
use Rattle.lagworld.proofs.ArrivingLemmas.{comes_from}
use Rattle.lagworld.proofs.half.Half.receive.Goals as goal

pub returns-clause-comes : goal.returns-clause-comes
returns-clause-comes g c = comes_from (gives_of g.F.Fn.post c.args.self.now.system.algorithm) c.args.port
    (item_value c.args.item.now) c.receive-answer.result c.deref.result.now c.lacpdu_to_record-lacpdu.result
    (half_state c.args.self.now) c.receive-answer.new.self.state c.record_last_lacpdu.new.histories.items
    c.deref.ensures.value c.receive-answer.ensures.answers c.lacpdu_to_record-lacpdu.ensures c.record_last_lacpdu.ensures
