-- The invariant of a system, and what every call of `drive` promises.
use Rattle.std.specs.Prelude.{◌≡◌, ℕ, Bool, true, false, if◌then◌else◌, List, [], ◌∷◌, length, None}
use Rattle.std.specs.List.{AllByRecursion}
use Rattle.portmachines.specs.declared.mux.MuxState.TheVariants.{CollectingDistributing}
use Rattle.portmachines.specs.Mux.{same_mux_state}
use Rattle.lagtypes.specs.Choices.{is_unselected}
use Rattle.lagmodel.specs.Law.{Members, OnePartner}
use Rattle.distributor.specs.declared.assignment.Assignment.TheVariants.{On}
use Rattle.distributor.specs.Calls.{is_among}
use Rattle.distributor.specs.Conversations.{assignment_of}
use Rattle.lagsystem.specs.declared.system_ports.SystemPort.{SystemPort}
use Rattle.lagsystem.specs.declared.config.Config.{Config}
use Rattle.lagsystem.specs.declared.drive.Reply.{Reply}
use Rattle.lagsystem.specs.Calls.{Call, Step}
use Rattle.lagsystem.specs.First.{IsConfigured, IsFirst, configured_numbers, refusal}
use Rattle.lagsystem.specs.ModelView.{PortsConsistent, ReceivesAtRest, JoinedByLawfulMoves, model_setup, model_port, model_view}
use Rattle.lagsystem.specs.NothingToSettle.{PeriodicsAreSettled, MuxesAreSettled}
use Rattle.lagsystem.specs.Occupants.{NoneIsNext, OccupantsAgree, WithinLimit}
use Rattle.lagsystem.specs.Readers.{aggregator_numbered, distributing}
use Rattle.lagsystem.specs.State.{SystemState, aggregators_value, port_numbers}
use Rattle.lagsystem.specs.Views.{views}
use Rattle.lagsystem.specs.Windows.{KeepsTransmitLimit, EachAtMostThreeAges}

-- the configuration is one that is accepted, and the system has just its ports, in their order
pub record HasPorts (s : SystemState) : Type 0 where
  pub accepted : refusal s.keys s.ports s.max_links s.conversations ≡ None
  pub same : port_numbers s.system_ports ≡ configured_numbers s.ports

-- a conversation is On a port only while the port distributes in its aggregator
abbrev pub OnlyOnDistributing : SystemState → Type 0
OnlyOnDistributing s = (g k p : ℕ) → assignment_of s.table g k ≡ On p
    → is_among (distributing (aggregator_numbered g) s.system_ports) p ≡ true

-- the host holds no port
abbrev pub NoneHeld : SystemState → Type 0
NoneHeld s = AllByRecursion (λ x. x.held ≡ false) s.system_ports

-- the port is UNSELECTED if the host holds it
abbrev pub held_apart : SystemPort → Bool
held_apart x = if x.held then is_unselected x.port.choice else true

-- so is each port that the host holds (profile)
abbrev pub HeldUnselected : List SystemPort → Type 0
HeldUnselected system_ports = AllByRecursion (λ x. held_apart x ≡ true) system_ports

-- what holds of every system: the invariant of `System`
pub record IsSound (s : SystemState) : Type 0 where
  pub ports : HasPorts s
  pub aggregators : s.table.aggs ≡ length s.keys
  pub conversations : s.table.conversations ≡ s.conversations
  pub carried : OnlyOnDistributing s
  pub rested : PortsConsistent s.system_ports
  pub windowed : EachAtMostThreeAges s
  pub members : Members (model_setup s) (model_view s).port
  pub quiet : MuxesAreSettled s.keys s.system_ports × PeriodicsAreSettled s.system_ports
  pub occupants : OccupantsAgree s.keys s.system_ports
  pub limited : WithinLimit s.max_links (views s.system_ports)
  pub promoted : NoneIsNext (aggregators_value s) (views s.system_ports)
  pub held : HeldUnselected s.system_ports

-- the state that `new` makes of a configuration: the host holds no port
pub record IsMade (config : Config) (s : SystemState) : Type 0 where
  pub first : IsFirst s
  pub configured : IsConfigured config s
  pub sound : IsSound s
  pub held : NoneHeld s

-- a port distributes in the model's view exactly if its mux machine does
abbrev pub DistributeAsMuxDoes : List SystemPort → Type 0
DistributeAsMuxDoes system_ports = AllByRecursion (λ x. (model_port x.port).distributes ≡ same_mux_state CollectingDistributing x.port.mux)
    system_ports

-- The members of an aggregator have its key and one group (LAG ID), which is not Individual if they are two or more;
-- ports that distribute in one aggregator name one partner system and key (6.4.14.1). No aggregator has more members than
-- the limit of links (profile). The ports are those of an accepted configuration, the receive machine of each is at rest,
-- and each keeps at most three ages of its transmit window (6.4.16).
pub record PortsAgree (s : SystemState) : Type 0 where
  pub ports : HasPorts s
  pub rested : ReceivesAtRest s.system_ports
  pub windowed : EachAtMostThreeAges s
  pub members : Members (model_setup s) (model_view s).port
  pub one_partner : OnePartner (model_view s)
  pub limited : WithinLimit s.max_links (views s.system_ports)
  pub distribute : DistributeAsMuxDoes s.system_ports

-- What every call promises. It is a `Step`; the model allows it, with the visible acts that its reply has; each port
-- keeps its transmit limit; the ports agree after it (`PortsAgree`); the configuration stays, with the count of
-- conversations and the limit of links; and if the host holds no port before it, it holds none after it.
pub record CallPromise (gives : ℕ → ℕ → ℕ → Type 0) (old : SystemState) (call : Call) (reply : Reply) (new : SystemState) : Type 0 where
  pub step : Step gives old call reply new
  pub moves : JoinedByLawfulMoves old call reply new
  pub window : KeepsTransmitLimit old (call ∷ []) (reply ∷ [])
  pub agrees : PortsAgree new
  pub configured : model_setup new ≡ model_setup old
  pub conversations : new.conversations ≡ old.conversations
  pub max_links : new.max_links ≡ old.max_links
  pub held : NoneHeld old → NoneHeld new
