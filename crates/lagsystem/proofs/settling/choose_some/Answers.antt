use Rattle.lagsystem.proofs.Common.{length, sym, ◌∙◌, OnFalse_at}
use Rattle.lagsystem.proofs.Choosing.{none_chosen}
use Rattle.lagsystem.proofs.Limiting.{nothing_promoted}
use Rattle.lagsystem.proofs.settling.choose_some.Goals as goal

pub returns-then-any_may_choose_from : goal.returns-then-any_may_choose_from
returns-then-any_may_choose_from c = let system_ports = c.args.system_ports.now in (
  system_ports,
  nothing_promoted c.args.aggregators.now (length c.args.aggregators.now.keys) system_ports
      (OnFalse_at c.if-may_promote.false c.may_promote.ensures),
  c.choose_only.ensures,
)

pub returns-else-any_may_choose_from : goal.returns-else-any_may_choose_from
returns-else-any_may_choose_from c = let system_ports = c.args.system_ports.now in
    let aggs = c.args.aggregators.now in (
      system_ports,
      nothing_promoted aggs (length aggs.keys) system_ports (OnFalse_at c.if-may_promote.false c.may_promote.ensures),
      none_chosen aggs (length system_ports) system_ports (sym c.any_may_choose_from.ensures ∙ c.if-any_may_choose_from.false),
    )
