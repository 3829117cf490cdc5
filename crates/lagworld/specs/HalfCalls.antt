-- What an event does to one system, and to its histories and records.
use Rattle.std.specs.Prelude.{◌≡◌, ℕ, zero, suc, ◌+◌, Bool, false, map, Option, Some, None, option_map, Result, Ok, Err, if◌then◌else◌}
use Rattle.lagtypes.specs.declared.identifiers.AggId.{AggId}
use Rattle.lagtypes.specs.declared.party.Party.{Party}
use Rattle.lagtypes.specs.Same.{same_party}
use Rattle.lagsystem.specs.declared.config.PortChange.{PortChange}
use Rattle.lagsystem.specs.declared.drive.Reply.{Reply as Answer}
use Rattle.lagsystem.specs.declared.drive.Reply.TheVariants as answer
use Rattle.lagsystem.specs.declared.fault.SystemFault.{SystemFault}
use Rattle.lagsystem.specs.Calls.{Call, Tick, Set_link, Configure, Restart, Move_conversation, Force}
use Rattle.lagsystem.specs.Sound.{CallPromise}
use Rattle.lagsystem.specs.State.{SystemState, machines_of}
use Rattle.lagworld.specs.declared.reply.Reply.{Reply}
use Rattle.lagworld.specs.declared.reply.Reply.TheVariants as reply
use Rattle.lagworld.specs.declared.histories.StampedLacpdu.{StampedLacpdu}
use Rattle.lagworld.specs.declared.histories.PortHistory.{PortHistory}
use Rattle.lagworld.specs.State.{HalfState, change_flow, with_forced}

-- the half, with this state of its system
abbrev pub with_state : SystemState → HalfState → HalfState
with_state s h = record h { state = s }

-- The system of this half answers a call, and keeps what every call promises. Nothing else changes.
pub record HalfAnswers (gives : ℕ → ℕ → ℕ → Type 0) (call : Call) (a : Answer) (old new : HalfState) : Type 0 where
  pub answers : CallPromise gives old.state call a new.state
  pub same : new ≡ with_state new.state old

-- One of the two systems (a half of the world) ticks this many times; gives is what its distribution algorithm may
-- return.
abbrev pub HalfTicks : (ℕ → ℕ → ℕ → Type 0) → ℕ → HalfState → HalfState → Type 0
HalfTicks gives zero old new = new ≡ old
HalfTicks gives (suc n) old new = (mid : HalfState) × HalfTicks gives n old mid × HalfAnswers gives Tick answer.Tick mid new

-- the own parameters of a port
abbrev pub party_of_port : SystemState → ℕ → Option Party
party_of_port s p = option_map (λ x. x.party) (machines_of p s)

-- the port has exactly these own parameters
abbrev pub is_party : Party → Option Party → Bool
is_party a None = false
is_party a (Some b) = same_party b a

-- the second value, or the first if there is none
abbrev pub party_or : Party → Option Party → Party
party_or a None = a
party_or a (Some b) = b

-- The history of a port after an event: its own parameters, and its change count, which is one more if they differ.
abbrev pub with_party_recorded : Option Party → PortHistory → PortHistory
with_party_recorded party history =
    record history {
      party = party_or history.party party;
      count = if is_party history.party party then history.count
          else history.count + 1;
    }

-- the history of a port, with the own parameters that it has in this state, and its changes counted
abbrev pub change_counted : SystemState → PortHistory → PortHistory
change_counted s history = with_party_recorded (party_of_port s history.number) history

-- the half, with the changes of every port's own parameters counted
abbrev pub with_changes_counted : HalfState → HalfState
with_changes_counted h = record h { histories = map (change_counted h.state) h.histories }

-- the history, with this LACPDU as the one that the port took last
abbrev pub set_taken : StampedLacpdu → PortHistory → PortHistory
set_taken lacpdu history = record history { taken = Some lacpdu }

-- the reply for an Ok, or Refused with the fault
abbrev pub or_refused : {X : Type 0} → (X → Reply) → Result X SystemFault → Reply
or_refused f (Ok x) = f x
or_refused f (Err fault) = reply.Refused fault

-- the port at an end of a cable learns whether the cable is whole
abbrev pub HalfSenses : (ℕ → ℕ → ℕ → Type 0) → ℕ → Bool → HalfState → Reply → HalfState → Type 0
HalfSenses gives p up old r new =
    (a : Result Unit SystemFault) × HalfAnswers gives (Set_link p up) (answer.SetLink a) old new
    × (r ≡ or_refused (λ done. reply.Sensed up) a)

-- a port gets another key, priority or Aggregation bit, and changes are counted
abbrev pub HalfConfigures : (ℕ → ℕ → ℕ → Type 0) → ℕ → PortChange → HalfState → Reply → HalfState → Type 0
HalfConfigures gives p change old r new =
    (a : Result Bool SystemFault) × (mid : HalfState) × HalfAnswers gives (Configure p change) (answer.Configure a) old mid
    × (r ≡ or_refused (λ done. reply.Configured done) a) × (new ≡ with_changes_counted mid)

-- one of the two systems restarts, and changes are counted
abbrev pub HalfRestarts : (ℕ → ℕ → ℕ → Type 0) → HalfState → HalfState → Type 0
HalfRestarts gives old new = (mid : HalfState) × HalfAnswers gives Restart answer.Restart old mid × (new ≡ with_changes_counted mid)

-- one of the two systems is asked to move a conversation to a port
abbrev pub HalfMoves : (ℕ → ℕ → ℕ → Type 0) → AggId → ℕ → ℕ → HalfState → Reply → HalfState → Type 0
HalfMoves gives agg conv port old r new =
    (a : Result Unit SystemFault) × HalfAnswers gives (Move_conversation agg conv port) (answer.MoveConversation a) old new
    × (r ≡ or_refused (λ done. reply.Moved) a)

-- the conversation counts as forced, unless the system refused
abbrev pub forced_if_accepted : Result Unit SystemFault → AggId → ℕ → HalfState → HalfState
forced_if_accepted (Ok done) agg conv h = record h { flows = change_flow with_forced agg.0 conv h.flows }
forced_if_accepted (Err fault) agg conv h = h

-- one of the two systems is asked to free a conversation by force, which then counts as forced
abbrev pub HalfForces : (ℕ → ℕ → ℕ → Type 0) → AggId → ℕ → HalfState → Reply → HalfState → Type 0
HalfForces gives agg conv old r new =
    (a : Result Unit SystemFault) × (mid : HalfState) × HalfAnswers gives (Force agg conv) (answer.Force a) old mid
    × (r ≡ or_refused (λ done. reply.Forced) a) × (new ≡ forced_if_accepted a agg conv mid)
