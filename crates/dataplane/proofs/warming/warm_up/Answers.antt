use Rattle.dataplane.proofs.Common.{length, map, subst, ◌++◌, ◌∙◌, Runs, duration, link_up, occupied, others_starting, passing}
use Rattle.dataplane.proofs.WarmRuns.{runs_joined}
use Rattle.dataplane.proofs.warming.warm_up.Goals as goal

pub returns-clause-run : goal.returns-clause-run
returns-clause-run g c = let saved = c.args.saved.now in
    let keys = c.args.keys.now in
    let ports = c.args.ports.now in
    let old = c.args.system.now.state in
    let up = c.set_links.new.system.state in
    let full = c.occupy.new.system.state in
    let left = c.start_others.new.system.state in
    let warm = c.pass.new.system.state in
    let same_1 = c.set_links.ensures.algorithm in
    let same_2 = c.occupy.ensures.algorithm ∙ same_1 in
    let same_3 = c.start_others.ensures.algorithm ∙ same_2 in
    let taking = occupied saved keys ports (length keys) in
    let starting = others_starting saved ports in
    let time = passing saved (duration ports) (duration ports) in
    runs_joined (λ conv count place. g.F.Fn.post c.args.system.now.algorithm (conv, (count, tt)) place) old up warm (map link_up ports) (taking ++ (starting ++ time)) c.set_links.ensures.run
    (runs_joined (λ conv count place. g.F.Fn.post c.args.system.now.algorithm (conv, (count, tt)) place) up full warm taking (starting ++ time)
    (subst (λ f. Runs (λ conv count place. g.F.Fn.post f (conv, (count, tt)) place) up taking full) same_1 c.occupy.ensures.run)
    (runs_joined (λ conv count place. g.F.Fn.post c.args.system.now.algorithm (conv, (count, tt)) place) full left warm starting time
    (subst (λ f. Runs (λ conv count place. g.F.Fn.post f (conv, (count, tt)) place) full starting left) same_2 c.start_others.ensures.run)
    (subst (λ n. Runs (λ conv count place. g.F.Fn.post c.args.system.now.algorithm (conv, (count, tt)) place) left (passing saved n n) warm) c.duration.ensures
    (subst (λ f. Runs (λ conv count place. g.F.Fn.post f (conv, (count, tt)) place) left
    (passing saved c.duration.result c.duration.result) warm) same_3 c.pass.ensures.run))))
