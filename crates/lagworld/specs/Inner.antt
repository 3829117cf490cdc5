-- The fields of a world as contracts see them.
use Rattle.std.specs.Prelude.{ℕ, List, map, Option}
use Rattle.cables.specs.declared.item.Item.{Item}
use Rattle.lagworld.specs.declared.half.Half.{Half}
use Rattle.lagworld.specs.declared.link.Link.{Link as Cabled}
use Rattle.lagworld.specs.declared.histories.Flow.{Flow}
use Rattle.lagworld.specs.State.{HalfState, LinkState, FlowValue}
use Rattle.lagworld.specs.Messages.{item_value}

-- the record of a conversation, as contracts see it
abbrev pub flow_value : Flow → FlowValue
flow_value f = record { sent = f.sent.items; collected = f.collected.items; forced = f.forced }

-- a half, as contracts see it
abbrev pub half_state : {F : Type 0} → Half F → HalfState
half_state e = record { state = e.system.state; histories = e.histories.items; flows = map (λ xs. map flow_value xs.items) e.flows.items }

module _ {C : Type 0} (items : C → List Item) (limit : C → Option ℕ) where
  -- a cable with its ports, as contracts see it
  abbrev pub link_state : Cabled C → LinkState
  link_state l = record {
    one = l.one;
    two = l.two;
    whole = l.whole;
    to_one = map item_value (items l.to_one);
    to_two = map item_value (items l.to_two);
    limit_one = limit l.to_one;
    limit_two = limit l.to_two;
  }

  -- the cables with their ports, as contracts see them
  abbrev pub link_states : List (Cabled C) → List LinkState
  link_states ls = map link_state ls
