use Rattle.lagsystem.proofs.Common.{length, sym, ◌∙◌, OnFalse_at}
use Rattle.lagsystem.proofs.Choosing.{none_chosen, none_free_to_choose}
use Rattle.lagsystem.proofs.Limiting.{nothing_promoted}
use Rattle.lagsystem.proofs.SettlingLemmas.{none_restless_has_waited, none_restless_unselected, runs_unready}
use Rattle.lagsystem.proofs.settling.choose_and_run_mux.Goals as goal

pub returns-else-any_restless : goal.returns-else-any_restless
returns-else-any_restless c = let l = c.args.system_ports.now in
    let aggs = c.args.aggregators.now in
    let none = sym c.any_restless.ensures ∙ c.if-any_restless.false in
    let unselected = none_restless_unselected l none in (
      l,
      (
        l,
        nothing_promoted aggs (length aggs.keys) l (OnFalse_at c.if-more_room.false c.requires.next unselected),
        none_chosen aggs (length l) l (none_free_to_choose l unselected),
      ),
      runs_unready aggs.keys l l (none_restless_has_waited l none) c.requires.ran,
    )

pub returns-then-more_room : goal.returns-then-more_room
returns-then-more_room c = (c.choose_all.new.system_ports, c.choose_all.ensures, c.run_mux.ensures)
