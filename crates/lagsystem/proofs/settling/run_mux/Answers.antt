use Rattle.lagsystem.proofs.Common.{sym, ◌∙◌}
use Rattle.lagsystem.proofs.SettlingLemmas.{runs_unready}
use Rattle.lagsystem.proofs.settling.run_mux.Goals as goal

pub returns-else-any_member_has_waited : goal.returns-else-any_member_has_waited
returns-else-any_member_has_waited c = runs_unready c.args.aggregators.now.keys c.args.system_ports.now c.run_mux_not_ready.new.system_ports
    (sym c.any_member_has_waited.ensures ∙ c.if-any_member_has_waited.false) c.run_mux_not_ready.ensures
