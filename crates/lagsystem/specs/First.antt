-- The first state of a system, and why a configuration is refused.
use Rattle.std.specs.Prelude.{◌≡◌, ℕ, Bool, true, false, ◌+◌, ◌&&◌, List, [], ◌∷◌, length, map, nat_le, nat_lt, if◌then◌else◌, Option}
use Rattle.std.specs.Prelude.{Some, None, option_map, replicate}
use Rattle.std.specs.List.{AllZip}
use Rattle.lagtypes.specs.declared.identifiers.Key.{Key}
use Rattle.lagtypes.specs.declared.identifiers.SystemId.{SystemId}
use Rattle.portmachines.specs.declared.port.Setup.{Setup}
use Rattle.portmachines.specs.Start.{Starts, before_start}
use Rattle.lagsystem.specs.declared.config.Config.{Config}
use Rattle.lagsystem.specs.declared.config.PortConfig.{PortConfig}
use Rattle.lagsystem.specs.declared.fault.BadConfig.{BadConfig}
use Rattle.lagsystem.specs.declared.fault.BadConfig.TheVariants.{Ports, Aggregators, PortNumber, MaxLinks, Conversations}
use Rattle.lagsystem.specs.declared.fault.SystemFault.{SystemFault}
use Rattle.lagsystem.specs.declared.fault.SystemFault.TheVariants.{NoMemory, BadConfig as Bad}
use Rattle.lagsystem.specs.declared.system_ports.SystemPort.{SystemPort}
use Rattle.distributor.specs.Conversations.{first_table, is_conversation_count}
use Rattle.lagsystem.specs.Settling.{Settling}
use Rattle.lagsystem.specs.State.{SystemState, with_system_ports}

-- the start values of a port's machines, from its configuration
abbrev pub setup_of : SystemId → PortConfig → Setup
setup_of system c =
    record {
      party = record {
        system = system;
        key = c.key;
        port = record { priority = c.priority; number = c.number };
        aggregatable = c.aggregatable;
      };
      active = c.active;
      short = c.short;
    }

-- a port that has just started, with its link down; the host does not hold it
abbrev pub HasJustStarted : SystemId → PortConfig → SystemPort → Type 0
HasJustStarted system c system_port = (system_port.number ≡ c.number) × (system_port.mac ≡ c.mac)
    × Starts (before_start (setup_of system c)) system_port.port × (system_port.held ≡ false)

-- every port has just started, and one settling followed; every conversation is free, and the next marker is the first
abbrev pub IsFirst : SystemState → Type 0
IsFirst s =
    (start : List SystemPort) × AllZip (HasJustStarted s.system) s.ports start × Settling (with_system_ports s start) s
    × (s.table ≡ first_table (length s.keys) s.conversations s.first_marker)

-- the configuration of a system, with lists in the place of its Vecs
pub record ConfigValue : Type 0 where
  pub system : SystemId
  pub max_delay : ℕ
  pub first_marker : ℕ
  pub conversations : ℕ
  pub aggregators : List Key
  pub max_links : Option ℕ
  pub ports : List PortConfig

-- the configuration, as a value of the logic
abbrev pub config_value : Config → ConfigValue
config_value c =
    record {
      system = c.system;
      max_delay = c.max_delay;
      first_marker = c.first_marker;
      conversations = c.conversations;
      aggregators = c.aggregators.items;
      max_links = c.max_links;
      ports = c.ports.items;
    }

-- the state has this configuration, and each aggregator is in use
pub record IsConfigured (config : Config) (s : SystemState) : Type 0 where
  pub system : s.system ≡ config.system
  pub max_delay : s.max_delay ≡ config.max_delay
  pub first_marker : s.first_marker ≡ config.first_marker
  pub conversations : s.conversations ≡ config.conversations
  pub keys : s.keys ≡ config.aggregators.items
  pub max_links : s.max_links ≡ config.max_links
  pub in_use : s.in_use ≡ replicate (length config.aggregators.items) true
  pub ports : s.ports ≡ config.ports.items

-- the number of a configured port
abbrev pub configured_number : PortConfig → ℕ
configured_number c = c.number

-- the numbers of the configured ports, in their order
abbrev pub configured_numbers : List PortConfig → List ℕ
configured_numbers ports = map configured_number ports

-- the place, counted from the first argument, of the first number that is not above the one before it; the second
-- argument is the number before the list
abbrev pub first_bad_port_number : ℕ → ℕ → List ℕ → Option ℕ
first_bad_port_number place low [] = None
first_bad_port_number place low (n ∷ ns) = if nat_lt low n then first_bad_port_number (place + 1) n ns else Some place

-- 1 to 64
abbrev pub is_count : ℕ → Bool
is_count n = nat_le 1 n && nat_le n 64

-- the first of two values, if there is one, else the second
abbrev pub or_first : {A : Type 0} → Option A → Option A → Option A
or_first None other = other
or_first (Some x) other = Some x

-- a limit of links is 1 to 64; None is no limit
abbrev pub is_limit : Option ℕ → Bool
is_limit None = true
is_limit (Some most) = is_count most

-- the first reason to refuse this limit of links and this many conversations
abbrev pub refusal_of_limits : Option ℕ → ℕ → Option BadConfig
refusal_of_limits max_links conversations =
    if is_limit max_links then (if is_conversation_count conversations then None else Some Conversations) else Some MaxLinks

-- the first reason to refuse these ports, this limit of links and this many conversations, if there are 1 to 64 ports and
-- aggregators
abbrev pub refusal_of_numbers : List PortConfig → Option ℕ → ℕ → Option BadConfig
refusal_of_numbers ports max_links conversations =
    or_first (option_map PortNumber (first_bad_port_number 1 0 (configured_numbers ports))) (refusal_of_limits max_links conversations)

-- the first reason to refuse a configuration with these aggregators and ports, this limit of links and this many
-- conversations
abbrev pub refusal : List Key → List PortConfig → Option ℕ → ℕ → Option BadConfig
refusal keys ports max_links conversations =
    if is_count (length ports) then (if is_count (length keys) then refusal_of_numbers ports max_links conversations else Some Aggregators) else Some Ports

-- the first reason to refuse this configuration; None if it is accepted
abbrev pub config_refusal : Config → Option BadConfig
config_refusal config = refusal config.aggregators.items config.ports.items config.max_links config.conversations

-- the fault of `new` if this is the reason to refuse its configuration; without a reason, memory was refused
abbrev pub fault_or_no_memory : Option BadConfig → SystemFault
fault_or_no_memory None = NoMemory
fault_or_no_memory (Some reason) = Bad reason
