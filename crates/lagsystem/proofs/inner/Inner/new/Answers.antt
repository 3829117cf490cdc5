use Rattle.lagsystem.proofs.Common.{List, None, ap, arith, length, subst, sym, ◌∙◌, ◌≡◌, ◌≤◌, AllZip, Key, first_table, PortConfig, HasJustStarted}
use Rattle.lagsystem.proofs.Common.{config_refusal, inner_state}
use Rattle.lagsystem.proofs.Keeps.{accepted_keys_few, configured_made, first_made, ports_made, started_by}
use Rattle.lagsystem.proofs.Rising.{accepted_count}
use Rattle.lagsystem.proofs.HeldPorts.{first_free}
use Rattle.lagsystem.proofs.Sound.{first_sound}
use Rattle.lagsystem.proofs.inner.Inner.new.Goals as goal

pub aggregator_count-requires : goal.aggregator_count-requires
aggregator_count-requires g c = let config = c.args.config in
    let accepted : config_refusal config ≡ None = sym {b = config_refusal config} c.refusal.ensures ∙ c.in-None.is in
    let few = accepted_keys_few config.aggregators.items config.ports.items config.max_links config.conversations accepted in
    subst (λ (l : List Key). length l ≤ 64) (sym c.deref-3.ensures.value) few

pub with_conversations-requires-clause-count : goal.with_conversations-requires-clause-count
with_conversations-requires-clause-count g c = let config = c.args.config in
    let accepted : config_refusal config ≡ None = sym {b = config_refusal config} c.refusal.ensures ∙ c.in-None.is in
    accepted_count config.aggregators.items config.ports.items config.max_links config.conversations accepted

pub returns-clause-made : goal.returns-clause-made
returns-clause-made g c = let config = c.args.config in
    let aggs = c.in_ok-aggregators.aggregators in
    let accepted : config_refusal config ≡ None = sym {b = config_refusal config} c.refusal.ensures ∙ c.in-None.is in
    let few = accepted_keys_few config.aggregators.items config.ports.items config.max_links config.conversations accepted in
    let keys : aggs.keys ≡ config.aggregators.items =
    let within = subst (λ (l : List Key). length l ≤ 65535) (sym c.deref.ensures.value) (omega (arith, few)) in
    c.in_ok-aggregators.ensures.all within ∙ c.deref.ensures.value in
    let system_ports = c.in_ok-system_ports.system_ports.items in
    let new : AllZip (HasJustStarted config.system) config.ports.items system_ports =
    subst (λ (l : List PortConfig). AllZip (HasJustStarted config.system) l system_ports) c.deref-2.ensures.value
    c.in_ok-system_ports.ensures.new in
    let t = c.in_ok-distributor.distributor.table in
    let count = c.aggregator_count.ensures ∙ ap (λ (l : List Key). length l) c.deref-3.ensures.value
    ∙ ap (λ (l : List Key). length l) (sym keys) in
    let table : t ≡ first_table (length aggs.keys) config.conversations config.first_marker = c.in_ok-distributor.ensures.table
    ∙ ap (λ n. first_table n config.conversations config.first_marker) count in
    let limit = c.in_ok-aggregators.ensures.limit in
    let last = inner_state c.settle_ports.new.self in
    let settles = started_by config aggs.keys aggs.max_links aggs.in_use system_ports t last table c.in_ok-aggregators.ensures.used
    c.settle_ports.ensures.settled in
    let first = first_made config aggs.keys aggs.max_links system_ports last new settles in record {
      first = first;
      configured = configured_made config aggs.keys aggs.max_links system_ports last keys limit settles;
      sound = first_sound last (ports_made config aggs.keys aggs.max_links system_ports last keys limit accepted new settles) first;
      held = first_free last first;
    }
