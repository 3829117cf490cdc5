-- The tables of a script: their keys, in the order in which they are read (profile).
use Rattle.std.specs.Prelude.{ℕ, true, List, [], ◌∷◌, codes, Option, Some, None, option_map, Result, Ok}
use Rattle.toml.specs.Data.{Members, as_table}
use Rattle.lagtypes.specs.declared.identifiers.Key.{Key}
use Rattle.lagsystem.specs.declared.config.PortConfig.{PortConfig}
use Rattle.lagsystem.specs.First.{ConfigValue}
use Rattle.lagscript.specs.Keys.{ends_in, flag_in, key_in, keys_among, limit_in, list_in, mac_in, integer_in, value_at}
use Rattle.lagscript.specs.Readings.{◌>>=◌, each_at_place, or_fault, if_or_fault}
use Rattle.lagscript.specs.declared.fault.PortKey.TheVariants as port_key
use Rattle.lagscript.specs.declared.fault.ScriptFault.{ScriptFault}
use Rattle.lagscript.specs.declared.fault.ScriptFault.TheVariants as fault
use Rattle.lagscript.specs.declared.fault.SystemKey.TheVariants as system_key
use Rattle.lagscript.specs.declared.tables.CablePlan.{CablePlan}
use Rattle.lagscript.specs.declared.tables.SystemValues.{SystemValues}

-- ---- ports

-- the keys in the table of a port
abbrev pub port_keys : List (List ℕ)
port_keys = codes "number" ∷ codes "priority" ∷ codes "mac" ∷ codes "key" ∷ codes "aggregatable" ∷ codes "active" ∷ codes "short" ∷ []

-- the port of a table; if its MAC address is left out, it is that of the system
abbrev pub port_config_of : ℕ → List ℕ → ℕ → Members → Result PortConfig ScriptFault
port_config_of system own place ms =
    let wrong = fault.PortValue system place in
    if_or_fault (keys_among port_keys ms) (fault.PortExtraKey system place) (
    or_fault (wrong port_key.Number) (value_at (codes "number") (integer_in 65536) None ms) >>= λ number.
    or_fault (wrong port_key.Priority) (value_at (codes "priority") (integer_in 65536) (Some 128) ms) >>= λ priority.
    or_fault (wrong port_key.Mac) (value_at (codes "mac") mac_in (Some own) ms) >>= λ mac.
    or_fault (wrong port_key.Key) (value_at (codes "key") (integer_in 65536) None ms) >>= λ key.
    or_fault (wrong port_key.Aggregatable) (value_at (codes "aggregatable") flag_in (Some true) ms) >>= λ aggregatable.
    or_fault (wrong port_key.Active) (value_at (codes "active") flag_in (Some true) ms) >>= λ active.
    or_fault (wrong port_key.Short) (value_at (codes "short") flag_in (Some true) ms) >>= λ short.
    Ok (record {
      number = number;
      priority = priority;
      mac = mac;
      key = record { 0 = key };
      aggregatable = aggregatable;
      active = active;
      short = short;
    })
    )

-- ---- systems

-- the keys in the table of a system
abbrev pub system_keys : List (List ℕ)
system_keys = codes "priority" ∷ codes "mac" ∷ codes "max_delay" ∷ codes "first_marker" ∷ codes "aggregators" ∷ codes "max_links"
    ∷ codes "conversations" ∷ codes "port" ∷ []

-- the values of a system that come before its lists
abbrev pub system_values_in : ℕ → Members → Result SystemValues ScriptFault
system_values_in system ms =
    let wrong = fault.SystemValue system in
    if_or_fault (keys_among system_keys ms) (fault.SystemExtraKey system) (
    or_fault (wrong system_key.Priority) (value_at (codes "priority") (integer_in 65536) (Some 32768) ms) >>= λ priority.
    or_fault (wrong system_key.Mac) (value_at (codes "mac") mac_in None ms) >>= λ mac.
    or_fault (wrong system_key.MaxDelay) (value_at (codes "max_delay") (integer_in 65536) (Some 0) ms) >>= λ max_delay.
    or_fault (wrong system_key.FirstMarker) (value_at (codes "first_marker") (integer_in 4294967296) (Some 1) ms) >>= λ first_marker.
    Ok (record { id = record { priority = priority; mac = mac }; max_delay = max_delay; first_marker = first_marker })
    )

-- the operational keys of a system's aggregators
abbrev pub aggregators_in : ℕ → Members → Result (List Key) ScriptFault
aggregators_in system ms = or_fault (fault.SystemValue system system_key.Aggregators)
    (value_at (codes "aggregators") (list_in key_in) None ms)

-- promise: the limit of links and the count of conversations are those of the table; left out: none, and 256
-- contract: both (`reads`: `max_links_in`, `conversations_in`)
-- how many links each aggregator may have; None if it is left out
abbrev pub max_links_in : ℕ → Members → Result (Option ℕ) ScriptFault
max_links_in system ms = or_fault (fault.SystemValue system system_key.MaxLinks)
    (value_at (codes "max_links") (λ d. option_map Some (integer_in 65536 d)) (Some None) ms)

-- how many conversations each aggregator has; 256 if it is left out
abbrev pub conversations_in : ℕ → Members → Result ℕ ScriptFault
conversations_in system ms = or_fault (fault.SystemValue system system_key.Conversations)
    (value_at (codes "conversations") (integer_in 65536) (Some 256) ms)

-- every element is a table, and each is read as the port at its place
abbrev pub ports_in : ℕ → List ℕ → Members → Result (List PortConfig) ScriptFault
ports_in system own ms = or_fault (fault.SystemValue system system_key.Port) (value_at (codes "port") (list_in as_table) None ms)
    >>= each_at_place (port_config_of system own) 1

-- the configuration of the system in a table, or the first fault
abbrev pub system_of : ℕ → Members → Result ConfigValue ScriptFault
system_of system ms =
    system_values_in system ms >>= λ n.
    aggregators_in system ms >>= λ aggregators.
    max_links_in system ms >>= λ max_links.
    conversations_in system ms >>= λ conversations.
    ports_in system n.id.mac ms >>= λ ports.
    Ok (record {
      system = n.id;
      max_delay = n.max_delay;
      first_marker = n.first_marker;
      conversations = conversations;
      aggregators = aggregators;
      max_links = max_links;
      ports = ports;
    })

-- ---- cables

-- the keys in the table of a cable
abbrev pub cable_keys : List (List ℕ)
cable_keys = codes "ends" ∷ codes "limit" ∷ []

-- the limit of both directions; None if it is left out
abbrev pub limit_of : ℕ → Members → Result (Option ℕ) ScriptFault
limit_of cable ms = or_fault (fault.CableLimit cable) (value_at (codes "limit") (λ d. option_map Some (limit_in d)) (Some None) ms)

-- the cable in a table, or the first fault
abbrev pub cable_of : ℕ → Members → Result CablePlan ScriptFault
cable_of cable ms =
    if_or_fault (keys_among cable_keys ms) (fault.CableExtraKey cable) (
    or_fault (fault.CableEnds cable) (value_at (codes "ends") ends_in None ms) >>= λ ends.
    limit_of cable ms >>= λ limit.
    Ok (record { ends = ends; limit = limit })
    )
