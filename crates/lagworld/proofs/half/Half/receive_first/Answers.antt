use Rattle.lagworld.proofs.Common.{half_state}
use Rattle.lagworld.proofs.Sides.{gives_of}
use Rattle.lagworld.proofs.ArrivingLemmas.{first_comes, none_comes}
use Rattle.lagworld.proofs.half.Half.receive_first.Goals as goal

pub returns-in-Some-clause-comes : goal.returns-in-Some-clause-comes
returns-in-Some-clause-comes g c = first_comes (gives_of g.F.Fn.post c.args.self.now.system.algorithm) c.args.port
    (g.C.Cable.items c.args.cable.now) c.in-Some.item.now c.receive.result
    (half_state c.args.self.now) (half_state c.receive.new.self) c.in-Some.ensures c.receive.ensures.comes

pub returns-in-None-clause-comes : goal.returns-in-None-clause-comes
returns-in-None-clause-comes g c = none_comes (gives_of g.F.Fn.post c.args.self.now.system.algorithm) c.args.port
    (g.C.Cable.items c.args.cable.now) (half_state c.args.self.now) c.in-None.ensures
