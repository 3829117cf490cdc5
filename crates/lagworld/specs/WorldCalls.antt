-- A world as contracts see it, and what five of its events do.
use Rattle.std.specs.Prelude.{◌≡◌, ℕ, List, map, Option}
use Rattle.cables.specs.declared.item.Item.{Item}
use Rattle.lagtypes.specs.declared.identifiers.AggId.{AggId}
use Rattle.lagmodel.specs.World.{Side}
use Rattle.lagsystem.specs.declared.config.PortChange.{PortChange}
use Rattle.lagworld.specs.declared.reply.Reply.{Reply}
use Rattle.lagworld.specs.declared.reply.Reply.TheVariants as reply
use Rattle.lagworld.specs.declared.inner.Inner.{Inner}
use Rattle.lagworld.specs.State.{WorldState, WorldValue, emptied, port_at, with_links}
use Rattle.lagworld.specs.HalfCalls.{HalfTicks, HalfMoves, HalfSenses, HalfConfigures, HalfRestarts}
use Rattle.lagworld.specs.Events.{Algorithms, InHalf, OnLink}
use Rattle.lagworld.specs.Inner.{half_state, link_states}

module _ {C F : Type 0} (items : C → List Item) (limit : C → Option ℕ) where
  -- the state of a world, from its fields
  abbrev pub world_state : Inner C F → WorldState
  world_state c = record { one = half_state c.one; two = half_state c.two; links = link_states items limit c.links.items; acted = c.acted }

  -- the state of a world and both distribution algorithms, from its fields
  abbrev pub world_value : Inner C F → WorldValue F
  world_value c = record { state = world_state c; one = c.one.system.algorithm; two = c.two.system.algorithm }

-- a Tick event does this: system s ticks this many times
abbrev pub WorldTicks : Algorithms → Side → ℕ → WorldState → Reply → WorldState → Type 0
WorldTicks gives s count old r new = InHalf s (HalfTicks (gives s) count) old new × (r ≡ reply.Ticked)

-- a Move event does this: system s is asked to move a conversation to a port
abbrev pub WorldMoves : Algorithms → Side → AggId → ℕ → ℕ → WorldState → Reply → WorldState → Type 0
WorldMoves gives s agg conv port old r new = InHalf s (λ h k. HalfMoves (gives s) agg conv port h r k) old new

-- a Sense event does this: the port of system s at cable c learns whether the cable is whole
abbrev pub WorldSenses : Algorithms → Side → ℕ → WorldState → Reply → WorldState → Type 0
WorldSenses gives s c old r new = OnLink c (λ i l. InHalf s (λ h k. HalfSenses (gives s) (port_at s l) l.whole h r k) old new) old.links

-- a Restart event does this: system s restarts, and all that is on the cables is lost
abbrev pub WorldRestarts : Algorithms → Side → WorldState → Reply → WorldState → Type 0
WorldRestarts gives s old r new = (r ≡ reply.Restarted) × InHalf s (HalfRestarts (gives s)) (with_links old (map emptied old.links)) new

-- a Configure event does this: port p of system s gets other values
abbrev pub WorldConfigures : Algorithms → Side → ℕ → PortChange → WorldState → Reply → WorldState → Type 0
WorldConfigures gives s p change old r new = InHalf s (λ h k. HalfConfigures (gives s) p change h r k) old new
