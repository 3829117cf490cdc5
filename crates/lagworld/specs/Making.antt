-- What a world is made of, and why it cannot be made.
use Rattle.std.specs.Prelude.{◌≡◌, ◌⊎◌, ℕ, ◌==◌, ◌&&◌, Bool, true, false, List, [], ◌∷◌, length, map, replicate, Option, Some, None}
use Rattle.std.specs.Prelude.{if◌then◌else◌}
use Rattle.std.specs.List.{list_all}
use Rattle.cables.specs.declared.item.Item.{Item}
use Rattle.lagtypes.specs.declared.identifiers.SystemId.{SystemId}
use Rattle.lagsystem.specs.declared.config.Config.{Config}
use Rattle.lagsystem.specs.declared.config.PortConfig.{PortConfig}
use Rattle.lagsystem.specs.First.{IsConfigured, IsFirst, or_first, setup_of}
use Rattle.lagscript.specs.declared.config.BadWorld.{BadWorld}
use Rattle.lagscript.specs.declared.config.BadWorld.TheVariants.{Lines}
use Rattle.lagscript.specs.declared.config.WorldConfig.{WorldConfig}
use Rattle.lagscript.specs.Configs.{world_refusal}
use Rattle.lagworld.specs.declared.fault.WorldFault.{WorldFault}
use Rattle.lagworld.specs.declared.fault.WorldFault.TheVariants.{NoMemory, BadConfig}
use Rattle.lagworld.specs.declared.histories.PortHistory.{PortHistory}
use Rattle.lagworld.specs.State.{HalfState, WorldState, LinkState, FlowValue}
use Rattle.lagworld.specs.Messages.{item_value}

-- the history of a port before any event
abbrev pub first_history : SystemId → PortConfig → PortHistory
first_history system c = record { number = c.number; party = (setup_of system c).party; count = 0; taken = None }

-- the histories of all ports before any event, in order
abbrev pub first_histories : SystemId → List PortConfig → List PortHistory
first_histories system ports = map (first_history system) ports

-- the record of a conversation before any event
abbrev pub empty_flow : FlowValue
empty_flow = record { sent = []; collected = []; forced = false }

-- the records of an aggregator's conversations, of this many, before any event
abbrev pub first_aggregator_flows : ℕ → List FlowValue
first_aggregator_flows conversations = replicate conversations empty_flow

-- the records of this many aggregators with this many conversations each, before any event
abbrev pub first_flows : ℕ → ℕ → List (List FlowValue)
first_flows aggs conversations = replicate aggs (first_aggregator_flows conversations)

-- a system in its first state, with this configuration
pub record IsFirstHalf (config : Config) (h : HalfState) : Type 0 where
  pub first : IsFirst h.state
  pub configured : IsConfigured config h.state
  pub histories : h.histories ≡ first_histories config.system config.ports.items
  pub flows : h.flows ≡ first_flows (length config.aggregators.items) config.conversations

-- both systems are in their first state
abbrev pub AreFirst : List Config → WorldState → Type 0
AreFirst (a ∷ b ∷ []) j = IsFirstHalf a j.one × IsFirstHalf b j.two
AreFirst _ j = ⊥

module _ {C : Type 0} (items : C → List Item) (limit : C → Option ℕ) where
  -- a cable at the start: whole, with what is on its lines
  abbrev pub first_link : ℕ × ℕ → C × C → LinkState
  first_link ends directions = record {
    one = ends.0;
    two = ends.1;
    whole = true;
    to_one = map item_value (items directions.0);
    to_two = map item_value (items directions.1);
    limit_one = limit directions.0;
    limit_two = limit directions.1;
  }

  -- the cables at the start, each with the two ports that it joins and its two directions
  abbrev pub first_links : List (ℕ × ℕ) → List (C × C) → List LinkState
  first_links [] lines = []
  first_links (ends ∷ rest) [] = []
  first_links (ends ∷ rest) (directions ∷ lines) = first_link ends directions ∷ first_links rest lines

  -- what is made of a configuration and lines
  pub record IsMade (config : WorldConfig) (given : List (C × C)) (j : WorldState) : Type 0 where
    pub systems : AreFirst config.systems j
    pub links : j.links ≡ first_links config.cables.items given
    pub acted : j.acted ≡ 0

module _ {C : Type 0} (items : C → List Item) where
  -- both directions of a cable are empty
  abbrev pub has_empty_directions : C × C → Bool
  has_empty_directions directions = (length (items directions.0) == 0) && (length (items directions.1) == 0)

  -- there are as many lines as cables, and all are empty
  abbrev pub are_empty_lines : List (ℕ × ℕ) → List (C × C) → Bool
  are_empty_lines cables lines = (length lines == length cables) && list_all has_empty_directions lines

  -- the first reason to refuse a configuration and lines
  abbrev pub refusal_with : WorldConfig → List (C × C) → Option BadWorld
  refusal_with config lines = or_first (world_refusal config) (if are_empty_lines config.cables.items lines then None else Some Lines)

-- memory was refused, or this is the first reason to refuse
abbrev pub RefusesToMake : Option BadWorld → WorldFault → Type 0
RefusesToMake reason fault = (fault ≡ NoMemory) ⊎ ((bad : BadWorld) × (reason ≡ Some bad) × (fault ≡ BadConfig bad))
