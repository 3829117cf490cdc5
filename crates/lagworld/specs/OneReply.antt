-- An event has one reply and leads to one world (profile).
use Rattle.std.specs.Prelude.{◌≡◌, ◌≤◌, List}
use Rattle.lagmodel.specs.World.{Side}
use Rattle.lagsystem.specs.OneAnswer.{IsFunction, SameState}
use Rattle.lagscript.specs.declared.event.Event.{Event}
use Rattle.lagworld.specs.declared.reply.Reply.{Reply}
use Rattle.lagworld.specs.State.{HalfState, WorldState, half}
use Rattle.lagworld.specs.Events.{Algorithms, WorldRuns, WorldSteps, most_events}
use Rattle.lagworld.specs.Sound.{IsSound}

-- each system's algorithm returns one index for each conversation and count of ports
abbrev pub AreFunctions : Algorithms → Type 0
AreFunctions gives = (s : Side) → IsFunction (gives s)

-- the same state of the system, the same histories and the same records
pub record SameHalf (h k : HalfState) : Type 0 where
  pub state : SameState h.state k.state
  pub histories : k.histories ≡ h.histories
  pub flows : k.flows ≡ h.flows

-- both systems, with their histories and records, are the same; the cables and what is on them; and the count of events
pub record SameWorld (j k : WorldState) : Type 0 where
  pub halves : (s : Side) → SameHalf (half s j) (half s k)
  pub links : k.links ≡ j.links
  pub acted : k.acted ≡ j.acted

-- one event in two worlds that are the same: the replies are equal, and the worlds after it are the same
abbrev pub OneReply : Algorithms → Type 0
OneReply gives =
    (old twin : WorldState) (e : Event) (r other : Reply) (new last : WorldState)
    → IsSound old → SameWorld old twin → WorldSteps gives old e r new → WorldSteps gives twin e other last
    → (other ≡ r) × SameWorld new last

-- so of a list of events
abbrev pub OneHistory : Algorithms → Type 0
OneHistory gives =
    (old twin : WorldState) (es : List Event) (rs others : List Reply) (new last : WorldState)
    → IsSound old → new.acted ≤ most_events → SameWorld old twin → WorldRuns gives old es rs new → WorldRuns gives twin es others last
    → (others ≡ rs) × SameWorld new last
