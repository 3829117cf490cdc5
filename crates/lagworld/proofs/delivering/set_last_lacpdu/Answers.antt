use Rattle.lagworld.proofs.Common.{ap, ◌∙◌, history_index}
use Rattle.lagworld.proofs.ArrivingLemmas.{heard_found, heard_nowhere}
use Rattle.lagworld.proofs.delivering.set_last_lacpdu.Goals as goal

pub returns-in-Some : goal.returns-in-Some
returns-in-Some c = heard_found c.args.port c.args.lacpdu c.args.histories.now.items c.in-Some.index c.index_mut.result.now
    (c.in-Some.ensures.index ∙ ap (history_index c.args.port) c.deref.ensures.value) c.index_mut.ensures.value

pub returns-in-None : goal.returns-in-None
returns-in-None c = heard_nowhere c.args.port c.args.lacpdu c.args.histories.now.items (c.in-None.ensures.index
    ∙ ap (history_index c.args.port) c.deref.ensures.value)
