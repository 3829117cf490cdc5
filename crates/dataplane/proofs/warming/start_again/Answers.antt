use Rattle.dataplane.proofs.Common.{false, not, subst, ◌∙◌, Configure, Set_link, CallPromise, change_to}
use Rattle.lagsystem.specs.declared.config.PortChange.{PortChange}
use Rattle.lagsystem.specs.declared.drive.Reply.TheVariants as reply
use Rattle.dataplane.proofs.WarmRuns.{three_calls}
use Rattle.dataplane.proofs.warming.start_again.Goals as goal

pub returns-clause-run : goal.returns-clause-run
returns-clause-run g c = let config = c.args.config.now in
    let number = config.number in
    let down = c.set_link-down.new.self.state in
    let other = c.configure-other.new.self.state in
    let own = c.configure-own.new.self.state in
    three_calls (λ conv count place. g.F.Fn.post c.args.system.now.algorithm (conv, (count, tt)) place) c.args.system.now.state down other own
    (Set_link number false) (Configure number (change_to (not config.aggregatable) config)) (Configure number (change_to config.aggregatable config))
    (reply.SetLink c.set_link-down.result) (reply.Configure c.configure-other.result) (reply.Configure c.configure-own.result)
    c.set_link-down.ensures.answers
    (subst (λ (change : PortChange). CallPromise (λ conv count place. g.F.Fn.post c.args.system.now.algorithm (conv, (count, tt)) place) down
    (Configure number change) (reply.Configure c.configure-other.result) other) c.change_to.ensures
    (subst (λ f. CallPromise (λ conv count place. g.F.Fn.post f (conv, (count, tt)) place) down (Configure number c.change_to.result)
    (reply.Configure c.configure-other.result) other) c.set_link-down.ensures.algorithm c.configure-other.ensures.answers))
    (subst (λ (change : PortChange). CallPromise (λ conv count place. g.F.Fn.post c.args.system.now.algorithm (conv, (count, tt)) place) other
    (Configure number change) (reply.Configure c.configure-own.result) own) c.change_to-2.ensures
    (subst (λ f. CallPromise (λ conv count place. g.F.Fn.post f (conv, (count, tt)) place) other (Configure number c.change_to-2.result)
    (reply.Configure c.configure-own.result) own) (c.configure-other.ensures.algorithm ∙ c.set_link-down.ensures.algorithm)
    c.configure-own.ensures.answers))
