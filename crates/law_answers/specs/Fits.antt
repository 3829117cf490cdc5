-- The numbers of a system fit into the octets that carry them (6.4.2.3, 6.5.3.3).
use Rattle.std.specs.Prelude.{◌<◌, ◌^◌}
use Rattle.std.specs.List.{AllByRecursion}
use Rattle.lagtypes.specs.Octet.{octet}
use Rattle.lagtypes.specs.declared.party.Party.{Party}
use Rattle.slowpdu.specs.declared.pdu.Info.{Info}
use Rattle.slowpdu.specs.Layout.{AreOctets, IsAddress}
use Rattle.slowpdu.specs.Writing.{InfoFits}
use Rattle.portmachines.specs.Machines.{Machines}
use Rattle.lagsystem.specs.declared.config.Config.{Config}
use Rattle.lagsystem.specs.declared.config.PortConfig.{PortConfig}
use Rattle.lagsystem.specs.declared.system_ports.SystemPort.{SystemPort}
use Rattle.lagsystem.specs.Calls.{Call, Configure, Receive}
use Rattle.lagsystem.specs.Settings.{Set_max_delay, Setting}
use Rattle.lagsystem.specs.State.{SystemState}

-- each number of the own parameters of a port fits into its field
pub record PartyFits (party : Party) : Type 0 where
  pub address : IsAddress party.system.mac
  pub system_priority : party.system.priority < 2 ^ 16
  pub key : party.key.0 < 2 ^ 16
  pub port_priority : party.port.priority < 2 ^ 16
  pub port : party.port.number < 2 ^ 16

-- so does each that a port recorded of its partner, with the state octet
pub record PartnerFits (partner : Info) : Type 0 where
  pub numbers : InfoFits partner
  pub state : octet partner.state < 256

-- so of the machines of a port
pub record MachinesFit (p : Machines) : Type 0 where
  pub own : PartyFits p.party
  pub partner : PartnerFits p.partner

-- so of a port, with its number and its MAC address
pub record PortFits (x : SystemPort) : Type 0 where
  pub address : IsAddress x.mac
  pub number : x.number < 2 ^ 16
  pub machines : MachinesFit x.port

-- so of a port as it was configured
pub record PortConfigFits (c : PortConfig) : Type 0 where
  pub address : IsAddress c.mac
  pub number : c.number < 2 ^ 16
  pub priority : c.priority < 2 ^ 16
  pub key : c.key.0 < 2 ^ 16

-- so of a configuration
pub record ConfigFits (config : Config) : Type 0 where
  pub address : IsAddress config.system.mac
  pub priority : config.system.priority < 2 ^ 16
  pub max_delay : config.max_delay < 2 ^ 16
  pub ports : AllByRecursion PortConfigFits config.ports.items

-- so of a system: its identifier, CollectorMaxDelay, its ports as they were configured and as they are now
pub record NumbersFit (s : SystemState) : Type 0 where
  pub address : IsAddress s.system.mac
  pub priority : s.system.priority < 2 ^ 16
  pub max_delay : s.max_delay < 2 ^ 16
  pub ports : AllByRecursion PortConfigFits s.ports
  pub system_ports : AllByRecursion PortFits s.system_ports

-- so of a call: what is received are octets, and a key and a priority that are given fit into two
abbrev pub CallFits : Call → Type 0
CallFits (Receive port octets) = AreOctets octets
CallFits (Configure port change) = (change.key.0 < 2 ^ 16) × (change.priority < 2 ^ 16)
CallFits call = Unit {0}

-- so of a setting: CollectorMaxDelay fits into two octets
abbrev pub SettingFits : Setting → Type 0
SettingFits (Set_max_delay max_delay) = max_delay < 2 ^ 16
SettingFits setting = Unit {0}
