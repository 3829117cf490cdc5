-- The faults of a document are others than that its text is not TOML.
use Rattle.lagscript.proofs.Common.{Bool, Err, List, None, Ok, Option, Result, Some, [], ap, codes, false, length, option_and_then, option_map, true}
use Rattle.lagscript.proofs.Common.{ℕ, ◌+◌, ◌∷◌, ◌≡◌, Members, as_table, ConfigValue, BadWorld, ScriptFault, CablePlan, refusal_of_all, at_entry}
use Rattle.lagscript.proofs.Common.{event_at, event_in, events_from, ends_in, flag_in, integer_in, just_two, key_in, keys_among, limit_in, list_in}
use Rattle.lagscript.proofs.Common.{mac_in, value_at, each_at_place, if_or_fault, or_fault, ◌>>=◌, PlanValue, cables_in, ends_of, entries_in}
use Rattle.lagscript.proofs.Common.{events_in, no_fault, plan_in, planned, script_fault_for, systems_in, top_keys, two_systems, aggregators_in}
use Rattle.lagscript.proofs.Common.{cable_keys, cable_of, conversations_in, limit_of, max_links_in, port_config_of, port_keys, ports_in, system_keys}
use Rattle.lagscript.proofs.Common.{system_of, system_values_in}
use Rattle.lagtypes.specs.declared.identifiers.Key.{Key}
use Rattle.lagsystem.specs.declared.config.PortConfig.{PortConfig}
use Rattle.lagsystem.specs.declared.fault.BadConfig.TheVariants as bad
use Rattle.lagscript.specs.declared.config.BadWorld.TheVariants as refused
use Rattle.lagscript.specs.declared.fault.EntryFault.{EntryFault}
use Rattle.lagscript.specs.declared.fault.PortKey.TheVariants as port_key
use Rattle.lagscript.specs.declared.fault.ScriptFault.TheVariants as fault
use Rattle.lagscript.specs.declared.fault.SystemKey.TheVariants as system_key
use Rattle.lagscript.specs.declared.tables.SystemValues.{SystemValues}

abbrev Fine : {A : Type 0} → Result A ScriptFault → Type 0
Fine r = r ≡ Err fault.NotToml → ⊥

-- ---- steps

then_fine : {A B : Type 0} (r : Result A ScriptFault) (f : A → Result B ScriptFault) → Fine r → ((x : A) → Fine (f x)) → Fine (r >>= f)
then_fine (Ok x) f h g e = g x e
then_fine (Err w) f h g e = let same : w ≡ fault.NotToml = cc in
    h (ap Err same)

or_fine : {A : Type 0} (w : ScriptFault) (o : Option A) → (w ≡ fault.NotToml → ⊥) → Fine (or_fault w o)
or_fine w None h e = let same : w ≡ fault.NotToml = cc in
    h same
or_fine w (Some x) h e = cc

unless_fine : {A : Type 0} (b : Bool) (w : ScriptFault) (r : Result A ScriptFault) → (w ≡ fault.NotToml → ⊥) → Fine r → Fine (if_or_fault b w r)
unless_fine true w r h g e = g e
unless_fine false w r h g e = let same : w ≡ fault.NotToml = cc in
    h same

in_place_fine : {A X : Type 0} (f : ℕ → X → Result A ScriptFault) → ((place : ℕ) (x : X) → Fine (f place x)) → (place : ℕ) (xs : List X)
    → Fine (each_at_place f place xs)
in_place_fine f h place [] e = cc
in_place_fine f h place (x ∷ xs) e = then_fine (f place x) (λ y. each_at_place f (place + 1) xs >>= λ ys. Ok (y ∷ ys)) (h place x)
    (λ y. then_fine (each_at_place f (place + 1) xs) (λ ys. Ok (y ∷ ys)) (in_place_fine f h (place + 1) xs) (λ ys d. cc)) e

-- three steps, one after another
three_fine : {A B C D : Type 0} (r : Result A ScriptFault) (s : A → Result B ScriptFault) (t : A → B → Result C ScriptFault) (last : A → B
    → C → Result D ScriptFault) → Fine r → ((x : A) → Fine (s x)) → ((x : A) (y : B) → Fine (t x y))
    → ((x : A) (y : B) (z : C) → Fine (last x y z)) → Fine (r >>= λ x. s x >>= λ y. t x y >>= λ z. last x y z)
three_fine (Ok x) s t last hr hs ht hl e = then_fine (s x) (λ y. t x y >>= λ z. last x y z) (hs x)
    (λ y. then_fine (t x y) (last x y) (ht x y) (hl x y)) e
three_fine (Err w) s t last hr hs ht hl e = let same : w ≡ fault.NotToml = cc in
    hr (ap Err same)

-- ---- ports

port_steps : (system place : ℕ) (known : Bool) (number priority : Option ℕ) (mac : Option (List ℕ)) (key : Option ℕ)
    (aggregatable active short : Option Bool) (make : ℕ → ℕ → List ℕ → ℕ → Bool → Bool → Bool → PortConfig)
    → Fine (
    if_or_fault known (fault.PortExtraKey system place) (
    or_fault (fault.PortValue system place port_key.Number) number >>= λ number.
    or_fault (fault.PortValue system place port_key.Priority) priority >>= λ priority.
    or_fault (fault.PortValue system place port_key.Mac) mac >>= λ mac.
    or_fault (fault.PortValue system place port_key.Key) key >>= λ key.
    or_fault (fault.PortValue system place port_key.Aggregatable) aggregatable >>= λ aggregatable.
    or_fault (fault.PortValue system place port_key.Active) active >>= λ active.
    or_fault (fault.PortValue system place port_key.Short) short >>= λ short.
    Ok (make number priority mac key aggregatable active short)
    )
    )
port_steps system place true (Some n) (Some p) (Some m) (Some y) (Some g) (Some t) (Some u) make e = cc
port_steps system place known a b c d i j k make e = cc

port_fine : (system : ℕ) (own : List ℕ) (place : ℕ) (ms : Members) → Fine (port_config_of system own place ms)
port_fine system own place ms =
    port_steps system place (keys_among port_keys ms) (value_at (codes "number") (integer_in 65536) None ms)
    (value_at (codes "priority") (integer_in 65536) (Some 128) ms) (value_at (codes "mac") mac_in (Some own) ms)
    (value_at (codes "key") (integer_in 65536) None ms) (value_at (codes "aggregatable") flag_in (Some true) ms)
    (value_at (codes "active") flag_in (Some true) ms) (value_at (codes "short") flag_in (Some true) ms)
    (λ number priority mac key aggregatable active short. record {
      number = number;
      priority = priority;
      mac = mac;
      key = record { 0 = key };
      aggregatable = aggregatable;
      active = active;
      short = short;
    })

-- ---- systems

numbers_steps : (system : ℕ) (known : Bool) (priority : Option ℕ) (mac : Option (List ℕ)) (max_delay first_marker : Option ℕ) (make : ℕ
    → List ℕ → ℕ → ℕ → SystemValues)
    → Fine (
    if_or_fault known (fault.SystemExtraKey system) (
    or_fault (fault.SystemValue system system_key.Priority) priority >>= λ priority.
    or_fault (fault.SystemValue system system_key.Mac) mac >>= λ mac.
    or_fault (fault.SystemValue system system_key.MaxDelay) max_delay >>= λ max_delay.
    or_fault (fault.SystemValue system system_key.FirstMarker) first_marker >>= λ first_marker.
    Ok (make priority mac max_delay first_marker)
    )
    )
numbers_steps system true (Some p) (Some m) (Some x) (Some y) make e = cc
numbers_steps system known a b c d make e = cc

numbers_fine : (system : ℕ) (ms : Members) → Fine (system_values_in system ms)
numbers_fine system ms =
    numbers_steps system (keys_among system_keys ms) (value_at (codes "priority") (integer_in 65536) (Some 32768) ms)
    (value_at (codes "mac") mac_in None ms) (value_at (codes "max_delay") (integer_in 65536) (Some 0) ms)
    (value_at (codes "first_marker") (integer_in 4294967296) (Some 1) ms)
    (λ priority mac max_delay first_marker. record {
      id = record { priority = priority; mac = mac };
      max_delay = max_delay;
      first_marker = first_marker;
    })

aggregators_fine : (system : ℕ) (ms : Members) → Fine (aggregators_in system ms)
aggregators_fine system ms = or_fine (fault.SystemValue system system_key.Aggregators)
    (value_at (codes "aggregators") (list_in key_in) None ms) (λ e. cc)

max_links_fine : (system : ℕ) (ms : Members) → Fine (max_links_in system ms)
max_links_fine system ms = or_fine (fault.SystemValue system system_key.MaxLinks)
    (value_at (codes "max_links") (λ d. option_map Some (integer_in 65536 d)) (Some None) ms) (λ e. cc)

conversations_fine : (system : ℕ) (ms : Members) → Fine (conversations_in system ms)
conversations_fine system ms = or_fine (fault.SystemValue system system_key.Conversations)
    (value_at (codes "conversations") (integer_in 65536) (Some 256) ms) (λ e. cc)

ports_fine : (system : ℕ) (own : List ℕ) (ms : Members) → Fine (ports_in system own ms)
ports_fine system own ms =
    then_fine _ _ (or_fine (fault.SystemValue system system_key.Port) (value_at (codes "port") (list_in as_table) None ms) (λ e. cc))
    (in_place_fine (port_config_of system own) (port_fine system own) 1)

abbrev configured : SystemValues → List Key → Option ℕ → ℕ → List PortConfig → ConfigValue
configured n aggregators max_links conversations ports = record {
  system = n.id;
  max_delay = n.max_delay;
  first_marker = n.first_marker;
  conversations = conversations;
  aggregators = aggregators;
  max_links = max_links;
  ports = ports;
}

system_fine : (system : ℕ) (ms : Members) → Fine (system_of system ms)
system_fine system ms = three_fine _ _ _ _
    (numbers_fine system ms) (λ n. aggregators_fine system ms) (λ n a. max_links_fine system ms)
    (λ n a most. then_fine (conversations_in system ms) (λ c. ports_in system n.id.mac ms >>= λ ports. Ok (configured n a most c ports))
    (conversations_fine system ms)
    (λ c. then_fine (ports_in system n.id.mac ms) (λ ports. Ok (configured n a most c ports)) (ports_fine system n.id.mac ms) (λ p e. cc)))

two_fine : (mss : List Members) → Fine (two_systems mss)
two_fine mss = three_fine _ _ _ _ (or_fine fault.Systems (just_two (Some mss)) (λ e. cc))
    (λ p. system_fine 1 p.0) (λ p first. system_fine 2 p.1) (λ p first second e. cc)

systems_fine : (ms : Members) → Fine (systems_in ms)
systems_fine ms = then_fine _ _ (or_fine fault.Systems (value_at (codes "system") (list_in as_table) None ms) (λ e. cc)) two_fine

-- ---- cables and entries

limit_fine : (place : ℕ) (ms : Members) → Fine (limit_of place ms)
limit_fine place ms = or_fine (fault.CableLimit place) (value_at (codes "limit") (λ d. option_map Some (limit_in d)) (Some None) ms)
    (λ e. cc)

abbrev joined : ℕ × ℕ → Option ℕ → CablePlan
joined ends limit = record { ends = ends; limit = limit }

cable_fine : (place : ℕ) (ms : Members) → Fine (cable_of place ms)
cable_fine place ms = unless_fine _ (fault.CableExtraKey place) _ (λ e. cc)
    (then_fine _ _ (or_fine (fault.CableEnds place) (value_at (codes "ends") ends_in None ms) (λ e. cc))
    (λ ends. then_fine (limit_of place ms) (λ limit. Ok (joined ends limit)) (limit_fine place ms) (λ limit e. cc)))

cables_fine : (ms : Members) → Fine (cables_in ms)
cables_fine ms = then_fine _ _ (or_fine fault.Cables (value_at (codes "cable") (list_in as_table) (Some []) ms) (λ e. cc))
    (in_place_fine cable_of cable_fine 1)

entry_fine : {A : Type 0} (place : ℕ) (r : Result A EntryFault) → Fine (at_entry place r)
entry_fine place (Ok x) e = cc
entry_fine place (Err w) e = cc

acts_fine : (cables : ℕ) (ms : Members) → Fine (events_in cables ms)
acts_fine cables ms = then_fine _ _ (or_fine fault.Events (value_at (codes "events") entries_in (Some []) ms) (λ e. cc))
    (in_place_fine (event_at cables) (λ place text. entry_fine place (event_in cables text)) 1)

-- ---- the configuration and the whole

config_fine : {A : Type 0} (refusal : Option BadWorld) (x : A) → Fine (no_fault (option_and_then script_fault_for refusal) x)
config_fine (Some (refused.System side bad.Ports)) x e = cc
config_fine refusal x e = cc

pub plan_fine : (ms : Members) → plan_in ms ≡ Err fault.NotToml → ⊥
plan_fine ms = unless_fine _ fault.ExtraKey _ (λ e. cc)
    (three_fine _ _ _ _ (systems_fine ms) (λ systems. cables_fine ms)
    (λ systems cables. acts_fine (length cables) ms)
    (λ systems cables events. config_fine {A = PlanValue} (refusal_of_all systems (ends_of cables)) (planned systems cables events)))
