-- What the readers of a world return.
use Rattle.std.specs.Prelude.{ℕ, Option, Some, None, option_map}
use Rattle.lagmodel.specs.World.{Side}
use Rattle.lagsystem.specs.State.{SystemValue as System}
use Rattle.lagworld.specs.State.{WorldState, FlowValue, LinkState, WorldValue, half, by_side, element_numbered, flow_at}

-- the record of a conversation of an aggregator of a system, if it exists
abbrev pub flow_of_system : Option Side → ℕ → ℕ → WorldState → Option FlowValue
flow_of_system None g k j = None
flow_of_system (Some s) g k j = flow_at (half s j).flows g k

-- the system of the world with this number, if there is one
abbrev pub system_at : {F : Type 0} → Option Side → WorldValue F → Option (System F)
system_at None w = None
system_at (Some s) w = Some (record { state = (half s w.state).state; algorithm = by_side s w.one w.two })

-- the ports that a cable joins
abbrev pub ports_joined : LinkState → ℕ × ℕ
ports_joined l = (l.one, l.two)

-- the ports that the cable with this number joins, if it exists
abbrev pub ends_of_cable : ℕ → WorldState → Option (ℕ × ℕ)
ends_of_cable c j = option_map ports_joined (element_numbered j.links c)
