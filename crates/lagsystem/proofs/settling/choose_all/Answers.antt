use Rattle.lagsystem.proofs.Common.{length, sym, ◌∙◌}
use Rattle.lagsystem.proofs.Choosing.{none_chosen, none_left_to_choose}
use Rattle.lagsystem.proofs.FrontLemmas.{none_unselected}
use Rattle.lagsystem.proofs.Limiting.{nothing_promoted}
use Rattle.lagsystem.proofs.NextLemmas.{none_left_standby}
use Rattle.lagsystem.proofs.settling.choose_all.Goals as goal

pub returns-in-None : goal.returns-in-None
returns-in-None c = let l = c.args.system_ports.now in
    let aggs = c.args.aggregators.now in
    let none = none_unselected l (sym c.first_not_selected.ensures ∙ c.in-None.is) in (
      l,
      nothing_promoted aggs (length aggs.keys) l (none_left_standby aggs l none),
      none_chosen aggs (length l) l (none_left_to_choose l none),
    )
