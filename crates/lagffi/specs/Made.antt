-- What lag_new makes of a configuration, and what it tells.
use Rattle.std.specs.Prelude.{◌≡◌, ℕ, ◌==◌, if◌then◌else◌, true, List, Option, None, Some, length, map, replicate}
use Rattle.lagtypes.specs.declared.identifiers.Key.{Key}
use Rattle.lagsystem.specs.declared.config.Config.{Config}
use Rattle.lagsystem.specs.declared.config.PortConfig.{PortConfig}
use Rattle.lagsystem.specs.declared.fault.BadConfig.{BadConfig}
use Rattle.lagsystem.specs.declared.fault.BadConfig.TheVariants.{Ports, Aggregators, PortNumber, MaxLinks, Conversations}
use Rattle.lagsystem.specs.declared.fault.SystemFault.{SystemFault}
use Rattle.lagsystem.specs.declared.fault.SystemFault.TheVariants.{BadConfig as Bad, NoMemory}
use Rattle.lagsystem.specs.Faults.{fault_number}
use Rattle.lagmodel.specs.View.{first_view}
use Rattle.lagsystem.specs.First.{IsFirst, refusal}
use Rattle.lagsystem.specs.ModelView.{model_setup, model_view}
use Rattle.lagsystem.specs.Sound.{PortsAgree}
use Rattle.lagsystem.specs.State.{SystemState}
use Rattle.lagffi.specs.Algorithms.{is_algorithm}
use Rattle.lagffi.specs.declared.made.LagConfig.{LagConfig}
use Rattle.lagffi.specs.declared.made.LagMade.{LagMade}
use Rattle.lagffi.specs.declared.made.LagPort.{LagPort}

-- the status that lagffi_new answers for a handle that holds a system already
abbrev pub holds_system_already : ℕ
holds_system_already = 14

-- a key as the system takes it
abbrev pub lag_key : ℕ → Key
lag_key k = record { 0 = k }

-- a port as the system takes it
abbrev pub lag_port_config : LagPort → PortConfig
lag_port_config p =
    record {
      number = p.number;
      priority = p.priority;
      mac = p.mac;
      key = lag_key p.key;
      aggregatable = p.aggregatable;
      active = p.active;
      short = p.short_timeout;
    }

-- a limit of links as the system takes it: 0 is no limit
abbrev pub lag_limit : ℕ → Option ℕ
lag_limit n = if n == 0 then None else Some n

-- the first reason to refuse this configuration
abbrev pub refusal_of : LagConfig → List ℕ → List LagPort → Option BadConfig
refusal_of config keys ports = refusal (map lag_key keys) (map lag_port_config ports) (lag_limit config.max_links) config.conversations

-- the configuration as the system takes it
pub record IsConfigOf (config : LagConfig) (of_keys : List ℕ) (of_ports : List LagPort) (taken : Config) : Type 0 where
  pub priority : taken.system.priority ≡ config.priority
  pub mac : taken.system.mac ≡ config.mac
  pub max_delay : taken.max_delay ≡ config.max_delay
  pub first_marker : taken.first_marker ≡ config.first_marker
  pub conversations : taken.conversations ≡ config.conversations
  pub keys : taken.aggregators.items ≡ map lag_key of_keys
  pub max_links : taken.max_links ≡ lag_limit config.max_links
  pub ports : taken.ports.items ≡ map lag_port_config of_ports

-- The first state of a system with this configuration, which is accepted: its ports agree, and its view is the first
-- view of the two-system theorem (lagmodel). Each aggregator is in use.
pub record IsMadeOfLagConfig (config : LagConfig) (of_keys : List ℕ) (of_ports : List LagPort) (s : SystemState) : Type 0 where
  pub first : IsFirst s
  pub agrees : PortsAgree s
  pub shows : model_view s ≡ first_view (model_setup s)
  pub accepted : refusal_of config of_keys of_ports ≡ None
  pub priority : s.system.priority ≡ config.priority
  pub mac : s.system.mac ≡ config.mac
  pub max_delay : s.max_delay ≡ config.max_delay
  pub first_marker : s.first_marker ≡ config.first_marker
  pub conversations : s.conversations ≡ config.conversations
  pub keys : s.keys ≡ map lag_key of_keys
  pub max_links : s.max_links ≡ lag_limit config.max_links
  pub in_use : s.in_use ≡ replicate (length s.keys) true
  pub ports : s.ports ≡ map lag_port_config of_ports

-- a status alone, without a reason to refuse a configuration; with status 0, the system was made
abbrev pub made_with_status : ℕ → LagMade
made_with_status status = record { status = status; reason = 0; place = 0 }

-- a refusal, with the reason to refuse a configuration
abbrev pub made_refused : SystemFault → LagMade
made_refused (Bad Ports) = record { status = 11; reason = 1; place = 0 }
made_refused (Bad Aggregators) = record { status = 11; reason = 2; place = 0 }
made_refused (Bad (PortNumber place)) = record { status = 11; reason = 3; place = place }
made_refused (Bad MaxLinks) = record { status = 11; reason = 4; place = 0 }
made_refused (Bad Conversations) = record { status = 11; reason = 5; place = 0 }
made_refused fault = made_with_status (fault_number fault)

-- a refusal of an algorithm that there is not
abbrev pub no_algorithm : LagMade
no_algorithm = record { status = 11; reason = 6; place = 0 }

-- this reason; else, that the algorithm with this number is none; else, that memory was refused
abbrev pub refused_for : Option BadConfig → ℕ → LagMade
refused_for (Some reason) algorithm = made_refused (Bad reason)
refused_for None algorithm = if is_algorithm algorithm then made_refused NoMemory else no_algorithm

-- why none is made
abbrev pub why_refused : LagConfig → List ℕ → List LagPort → LagMade
why_refused config keys ports = refused_for (refusal_of config keys ports) config.algorithm
