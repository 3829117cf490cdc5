use Rattle.lagscript.proofs.Common.{All, None, Ok, Some, ap, arith, inr, length, map, option_and_then, rules, subst, sym, true, ◌∙◌, ◌≡◌, ◌≢◌}
use Rattle.lagscript.proofs.Common.{table_view, config_value, refusal_of_all, event_values, keys_among, cables_in, ends_of, events_in, limits_of}
use Rattle.lagscript.proofs.Common.{script_fault_for, systems_in, top_keys}
use Rattle.lagscript.proofs.LimitLemmas.{limits_are}
use Rattle.lagscript.proofs.ScriptLemmas.{not_refused, steps_all}
use Rattle.lagscript.proofs.script.plan_in.Goals as goal

pub returns-clause-reads : goal.returns-clause-reads
returns-clause-reads c = let ms = table_view c.args.top.now in
    let systems = map config_value c.in_ok-systems.systems in
    let cables = c.in_ok-cables.cables.items in
    let events = event_values c.in_ok-events.events.items in
    let known : keys_among top_keys ms ≡ true = search rules in
    let read_systems : systems_in ms ≡ Ok systems = search rules in
    let read_cables : cables_in ms ≡ Ok cables = search rules in
    let counted : events_in c.len.result ms ≡ Ok events = search rules in
    let count : c.len.result ≡ length cables = omega arith in
    let read_acts : events_in (length cables) ms ≡ Ok events = subst (λ n. events_in n ms ≡ Ok events) count counted in
    let fault : option_and_then script_fault_for (refusal_of_all systems c.in_ok-ends.ends.items) ≡ Some c.in-Some.fault = search rules in
    let same_fault : option_and_then script_fault_for (refusal_of_all systems (ends_of cables)) ≡ Some c.in-Some.fault =
    subst (λ ends. option_and_then script_fault_for (refusal_of_all systems ends) ≡ Some c.in-Some.fault) (c.in_ok-ends.ensures
    ∙ ap ends_of c.deref-2.ensures.value) fault in
    inr (steps_all (keys_among top_keys ms) (systems_in ms) (cables_in ms) (λ n. events_in n ms) systems cables events
    (Some c.in-Some.fault) known read_systems read_cables read_acts same_fault)

pub returns-in-None-clause-accepted : goal.returns-in-None-clause-accepted
returns-in-None-clause-accepted c = let systems = map config_value c.in_ok-systems.systems in
    let fault : option_and_then script_fault_for (refusal_of_all systems c.in_ok-ends.ends.items) ≡ None = search rules in
    not_refused systems c.in_ok-ends.ends.items fault

pub returns-in-None-clause-from_one : goal.returns-in-None-clause-from_one
returns-in-None-clause-from_one c =
    subst (All (λ limit. limit ≢ Some 0)) (sym (c.in_ok-limits.ensures ∙ ap limits_of c.deref.ensures.value))
    (limits_are (table_view c.args.top.now) c.in_ok-cables.cables.items c.in_ok-cables.ensures)
