-- A world as the two-system theorem (lagmodel) sees it.
use Rattle.std.specs.Prelude.{Bool, true, List, [], map, Option, Some, None, option_map}
use Rattle.lagmodel.specs.World.{Side, Message, Ends, TakenLacpdu, World, WorldSetup}
use Rattle.lagsystem.specs.ModelView.{model_setup, lacp_message as model_lacpdu, model_view}
use Rattle.lagworld.specs.declared.histories.StampedLacpdu.{StampedLacpdu}
use Rattle.lagworld.specs.State.{WorldState, LinkState, half, towards, element_numbered, history_at, change_count_in, taken_in, flow_at}
use Rattle.lagworld.specs.State.{sent_in, collected_in, forced_in}
use Rattle.lagworld.specs.Messages.{item_message}

-- the two ports that a cable joins
abbrev pub link_ends : LinkState → Ends
link_ends l = record { one = l.one; two = l.two }

-- what never changes: both configurations, and the ports that the cables join
abbrev pub world_setup : WorldState → WorldSetup
world_setup j = record { setup = λ s. model_setup (half s j).state; cables = map link_ends j.links }

-- a cable that does not exist counts as whole and empty
abbrev pub is_whole : Option LinkState → Bool
is_whole None = true
is_whole (Some l) = l.whole

-- the messages on the cable towards system s, in order; none if there is no such cable
abbrev pub messages : Side → Option LinkState → List Message
messages s None = []
messages s (Some l) = map item_message (towards s l)

-- the LACPDU that a port took last, with its stamp, as the theorem has it
abbrev pub model_taken : StampedLacpdu → TakenLacpdu
model_taken lacpdu = record { pdu = model_lacpdu lacpdu.pdu; stamp = lacpdu.stamp }

-- the world, as the theorem sees it
abbrev pub model_world : WorldState → World
model_world j = record {
  view = λ s. model_view (half s j).state;
  whole = λ c. is_whole (element_numbered j.links c);
  on_cable = λ s c. messages s (element_numbered j.links c);
  count = λ s p. change_count_in (history_at (half s j).histories p);
  taken = λ s p. option_map model_taken (taken_in (history_at (half s j).histories p));
  sent = λ s g k. sent_in (flow_at (half s j).flows g k);
  collected = λ s g k. collected_in (flow_at (half s j).flows g k);
  forced = λ s g k. forced_in (flow_at (half s j).flows g k);
}
