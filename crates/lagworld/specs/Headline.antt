-- The headline of one world, and of each world on the way of a run.
use Rattle.std.specs.Prelude.{◌≤◌, List, [], ◌∷◌}
use Rattle.lagmodel.specs.World.{Side}
use Rattle.lagmodel.specs.Law.{OnePartner, EndsAgree, InOrder}
use Rattle.lagsystem.specs.Occupants.{WithinLimit}
use Rattle.lagsystem.specs.Views.{views}
use Rattle.lagscript.specs.declared.event.Event.{Event}
use Rattle.lagworld.specs.declared.reply.Reply.{Reply}
use Rattle.lagworld.specs.State.{WorldState, half}
use Rattle.lagworld.specs.Events.{Algorithms, WorldRuns, most_events}
use Rattle.lagworld.specs.ModelWorld.{world_setup, model_world}
use Rattle.lagworld.specs.Sound.{IsSound}

-- What `World::run` promises of the last world, of any world: ports of one system that distribute in one aggregator name one
-- partner system and key; the two distributing ends of a cable name the same group; what is collected of a conversation that
-- was never forced is a subsequence of what was sent. And in each system no aggregator has more members than the limit of links.
pub record Headline (j : WorldState) : Type 0 where
  pub one_partner : (s : Side) → OnePartner ((model_world j).view s)
  pub agree : EndsAgree (world_setup j) (model_world j)
  pub in_order : InOrder (model_world j)
  pub limited : (s : Side) → WithinLimit (half s j).state.max_links (views (half s j).state.system_ports)

-- the headline holds of the world before each event of a run, and of the last world
abbrev pub HoldsAllTheWay : (gives : Algorithms) (es : List Event) (rs : List Reply) (old new : WorldState)
    → WorldRuns gives old es rs new → Type 0
HoldsAllTheWay gives [] [] old new run = Headline old
HoldsAllTheWay gives (e ∷ es) (r ∷ rs) old new run = Headline old × HoldsAllTheWay gives es rs run.0 new run.2
HoldsAllTheWay gives [] (r ∷ rs) old new run = ⊥
HoldsAllTheWay gives (e ∷ es) [] old new run = ⊥

-- So no aggregator of either system has more members than its limit of links, in each world that a run from a sound one goes
-- through: some events lead there, and others on.
abbrev pub LimitsHoldOnTheWay : Algorithms → Type 0
LimitsHoldOnTheWay gives = (es fs : List Event) (rs qs : List Reply) (old mid new : WorldState) → WorldRuns gives old es rs mid
    → WorldRuns gives mid fs qs new → IsSound old → new.acted ≤ most_events → (s : Side)
    → WithinLimit (half s mid).state.max_links (views (half s mid).state.system_ports)
