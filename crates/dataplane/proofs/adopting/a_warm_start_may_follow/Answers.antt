use Rattle.dataplane.proofs.WarmSuccessors.{is_possible, keeps_parties, may_follow, stays_apart}
use Rattle.dataplane.proofs.adopting.a_warm_start_may_follow.Goals as goal

pub returns-clause-follows : goal.returns-clause-follows
returns-clause-follows g c = λ algorithm setup before taken new alike w.
    may_follow (λ conv count place. g.F.Fn.post algorithm (conv, (count, tt)) place) before taken new w setup alike

pub returns-clause-parties : goal.returns-clause-parties
returns-clause-parties g c = λ algorithm before taken new w own.
    keeps_parties (λ conv count place. g.F.Fn.post algorithm (conv, (count, tt)) place) before taken new w own

pub returns-clause-apart : goal.returns-clause-apart
returns-clause-apart g c = λ algorithm before taken new p a w e some.
    stays_apart (λ conv count place. g.F.Fn.post algorithm (conv, (count, tt)) place) before taken new w p a e some

pub returns-clause-possible : goal.returns-clause-possible
returns-clause-possible g c = λ algorithm config saved resumed new adoptions r a.
    is_possible (λ conv count place. g.F.Fn.post algorithm (conv, (count, tt)) place) config saved resumed new adoptions r a
