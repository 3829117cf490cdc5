-- A healthy round of a world as hosts play it: in any order, each system ticks once, is asked, is offered frames, and is called as hosts
-- with a data plane do (profile).
use Rattle.std.specs.Prelude.{◌≡◌, ◌⊎◌, ℕ, zero, suc, Bool, true, false, List, [], ◌∷◌, ◌++◌, map, Some}
use Rattle.lagmodel.specs.World.{Side, One, peer}
use Rattle.portmachines.specs.Transmit.{is_due}
use Rattle.lagscript.specs.declared.event.Event.{Event}
use Rattle.lagscript.specs.declared.event.Event.TheVariants as event
use Rattle.lagworld.specs.declared.reply.Reply.{Reply}
use Rattle.lagworld.specs.Events.{Algorithms, WorldRuns, WorldSteps, side_of}
use Rattle.lagworld.specs.State.{LinkState, WorldState, half, port_at}
use Rattle.lagsystem.specs.Settings.{Set_max_delay}
use Rattle.lagsystem.specs.Sound.{IsSound}
use Rattle.lagbeside.specs.Timers.{PortsAreTimed}
use Rattle.laghosts.specs.HostEvents.{HostEvent, HostRuns, HostSteps, Plays, Sets}
use Rattle.lagprogress.specs.Rounds.{AtEnd, IsHealthyAt, IsRound, NothingInFlight, Rounds, asks_all, ticks_of_both}
use Rattle.lagprogress.specs.Steady.{IsSteady}

-- the event is one tick of system s
abbrev pub IsTickOf : Side → HostEvent → Type 0
IsTickOf s e = (n : ℕ) × (side_of n ≡ Some s) × (e ≡ Plays (event.Tick n 1))

-- It moves no port: a frame is offered, by itself or by the number of its conversation; a conversation is moved, leaves its port, rests or
-- is forced; what is held on a port is forced; a port is probed; CollectorMaxDelay is set.
abbrev pub IsQuiet : HostEvent → Type 0
IsQuiet (Plays (event.Offer n agg octets)) = Unit {0}
IsQuiet (Plays (event.Move n agg conv p)) = Unit {0}
IsQuiet (Plays (event.Force n agg conv)) = Unit {0}
IsQuiet (Plays e) = ⊥
IsQuiet (Sets s (Set_max_delay max_delay)) = Unit {0}
IsQuiet (Sets s setting) = ⊥
IsQuiet e = Unit {0}

-- what hosts do between ticks: a port is asked, something on a cable arrives, or it moves no port
abbrev pub IsBetweenTicks : HostEvent → Type 0
IsBetweenTicks (Plays (event.Emit n p)) = Unit {0}
IsBetweenTicks (Plays (event.Deliver c n)) = Unit {0}
IsBetweenTicks e = IsQuiet e

-- each event is a tick of system s or of its peer, or is one that may come between ticks; and each of the two ticks once, if it has still
-- to tick
abbrev pub TickOnceAmong : (HostEvent → Type 0) → Side → (own other : Bool) → List HostEvent → Type 0
TickOnceAmong May s own other [] = (own ≡ false) × (other ≡ false)
TickOnceAmong May s own other (e ∷ es) =
    (IsTickOf s e × (own ≡ true) × TickOnceAmong May s false other es)
    ⊎ ((IsTickOf (peer s) e × (other ≡ true) × TickOnceAmong May s own false es) ⊎ (May e × TickOnceAmong May s own other es))

-- so it is, where these events come between ticks
abbrev pub TickOnce : Side → (own other : Bool) → List HostEvent → Type 0
TickOnce s own other es = TickOnceAmong IsBetweenTicks s own other es

-- From old, the event, call or setting of a host may lead to new; r is the reply to an event, and of no account else.
abbrev pub StepReplies : Algorithms → WorldState → HostEvent → Reply → WorldState → Type 0
StepReplies gives old (Plays e) r new = WorldSteps gives old e r new
StepReplies gives old e r new = HostSteps gives old e new

-- so one after another
abbrev pub RunReplies : Algorithms → WorldState → List HostEvent → List Reply → WorldState → Type 0
RunReplies gives old [] [] new = new ≡ old
RunReplies gives old (e ∷ es) (r ∷ rs) new = (mid : WorldState) × StepReplies gives old e r mid × RunReplies gives mid es rs new
RunReplies gives old [] (r ∷ rs) new = ⊥
RunReplies gives old (e ∷ es) [] new = ⊥

-- A run of events is such a run, with the same replies and the same worlds.
unfoldable pub as_played : (gives : Algorithms) (es : List Event) (rs : List Reply) (old new : WorldState) → WorldRuns gives old es rs new
    → RunReplies gives old (map Plays es) rs new
as_played gives [] [] old new run = run
as_played gives (e ∷ es) (r ∷ rs) old new run = (run.0, run.1, as_played gives es rs run.0 new run.2)
as_played gives es rs old new run = absurd run

-- at some world of the run this holds
abbrev pub AtSomeWorld : (P : WorldState → Type 0) (gives : Algorithms) (es : List HostEvent) (rs : List Reply) (old new : WorldState)
    → RunReplies gives old es rs new → Type 0
AtSomeWorld P gives [] [] old new run = P old
AtSomeWorld P gives (e ∷ es) (r ∷ rs) old new run = P old ⊎ AtSomeWorld P gives es rs run.0 new run.2
AtSomeWorld P gives [] (r ∷ rs) old new run = ⊥
AtSomeWorld P gives (e ∷ es) [] old new run = ⊥

-- at some world after a tick of system s
abbrev pub AfterTick : (s : Side) (P : WorldState → Type 0) (gives : Algorithms) (es : List HostEvent) (rs : List Reply) (old new : WorldState)
    → RunReplies gives old es rs new → Type 0
AfterTick s P gives (e ∷ es) (r ∷ rs) old new run = (IsTickOf s e × AtSomeWorld P gives es rs run.0 new run.2) ⊎ AfterTick s P gives es rs run.0 new run.2
AfterTick s P gives [] rs old new run = ⊥
AfterTick s P gives (e ∷ es) [] old new run = ⊥

-- what becomes of what is on the cables in a round: the events, and the worlds before and after them
abbrev pub Clearing : Type 1
Clearing = List HostEvent → WorldState → WorldState → Type 0

-- These events act, each system ticks once among events that may come, at each end of a healthy cable no LACPDU is due at some time after
-- its system's tick, and the cables are cleared so far.
pub record IsPlayedAmong (May : HostEvent → Type 0) (Clears : Clearing) (gives : Algorithms) (old new : WorldState) : Type 0 where
  pub events : List HostEvent
  pub replies : List Reply
  pub ticks : TickOnceAmong May One true true events
  pub acts : RunReplies gives old events replies new
  pub asked : (s : Side) (i : ℕ) (l : LinkState) → IsHealthyAt i l old
      → AfterTick s (λ j. AtEnd (λ p. is_due p ≡ false) s l j) gives events replies old new acts
  pub empties : Clears events old new

-- a run of hosts from old to new: its events, their replies, and its worlds
abbrev pub Run : Algorithms → WorldState → WorldState → Type 0
Run gives old new = (events : List HostEvent) × (replies : List Reply) × RunReplies gives old events replies new

-- the run of a round
abbrev pub run_of : (May : HostEvent → Type 0) (Clears : Clearing) (gives : Algorithms) (old new : WorldState)
    → IsPlayedAmong May Clears gives old new → Run gives old new
run_of May Clears gives old new q = (q.events, q.replies, q.acts)

-- so this run is a round, with just its events, replies and worlds
abbrev pub RunIsPlayed : (HostEvent → Type 0) → Clearing → (gives : Algorithms) (old new : WorldState) → Run gives old new → Type 0
RunIsPlayed May Clears gives old new run =
    (q : IsPlayedAmong May Clears gives old new) × (run_of May Clears gives old new q ≡ run)

-- so many of them lead from one world to the other
abbrev pub PlayedAmong : (HostEvent → Type 0) → Clearing → Algorithms → ℕ → WorldState → WorldState → Type 0
PlayedAmong May Clears gives zero old new = new ≡ old
PlayedAmong May Clears gives (suc n) old new =
    (mid : WorldState) × PlayedAmong May Clears gives n old mid × IsPlayedAmong May Clears gives mid new

-- so it is, where these events come between ticks
abbrev pub IsPlayed : Clearing → Algorithms → WorldState → WorldState → Type 0
IsPlayed Clears gives old new = IsPlayedAmong IsBetweenTicks Clears gives old new

abbrev pub PlayedRounds : Clearing → Algorithms → ℕ → WorldState → WorldState → Type 0
PlayedRounds Clears gives n old new = PlayedAmong IsBetweenTicks Clears gives n old new

-- in the end nothing is on any cable
abbrev pub NoneIsLeft : Clearing
NoneIsLeft events old new = NothingInFlight new

-- a healthy round of hosts
abbrev pub IsHostRound : Algorithms → WorldState → WorldState → Type 0
IsHostRound gives old new = IsPlayed NoneIsLeft gives old new

-- and so many of them
abbrev pub HostRounds : Algorithms → ℕ → WorldState → WorldState → Type 0
HostRounds gives n old new = PlayedRounds NoneIsLeft gives n old new

-- an Emit event asks this port of system s
abbrev pub Asks : Side → ℕ → HostEvent → Type 0
Asks s p e = (n : ℕ) × (side_of n ≡ Some s) × (e ≡ Plays (event.Emit n p))

-- one of the events does
abbrev pub AsksIn : Side → ℕ → List HostEvent → Type 0
AsksIn s p [] = ⊥
AsksIn s p (e ∷ es) = Asks s p e ⊎ AsksIn s p es

-- one of the events after a tick of system s does
abbrev pub AsksAfterTick : Side → ℕ → List HostEvent → Type 0
AsksAfterTick s p [] = ⊥
AsksAfterTick s p (e ∷ es) = (IsTickOf s e × AsksIn s p es) ⊎ AsksAfterTick s p es

-- Each run of hosts has replies.
abbrev pub RunsHaveReplies : Algorithms → Type 0
RunsHaveReplies gives = (events : List HostEvent) (old new : WorldState) → HostRuns gives old events new
    → (replies : List Reply) × RunReplies gives old events replies new

-- A run of events, which may come, is a round of this kind if each end of a healthy cable is asked after its system's tick, once at least, and
-- the cables are cleared so far: whatever else they are, and in what order. Both systems are sound, their timers within their bounds.
abbrev pub AskingIsPlayed : (HostEvent → Type 0) → Clearing → Algorithms → Type 0
AskingIsPlayed May Clears gives = (events : List HostEvent) (replies : List Reply) (old new : WorldState)
    → ((s : Side) → IsSound (half s old).state × PortsAreTimed (half s old).state) → TickOnceAmong May One true true events
    → (acts : RunReplies gives old events replies new)
    → ((s : Side) (i : ℕ) (l : LinkState) → IsHealthyAt i l old → AsksAfterTick s (port_at s l) events) → Clears events old new
    → RunIsPlayed May Clears gives old new (events, replies, acts)

-- A list of events that acts is a run of hosts, so what is said of runs of hosts holds of events.
abbrev pub EventsAreOfHosts : Algorithms → Type 0
EventsAreOfHosts gives = (events : List Event) (replies : List Reply) (old new : WorldState) → WorldRuns gives old events replies new
    → HostRuns gives old (map Plays events) new

-- Each healthy round is a healthy round of hosts, with its own events, replies and worlds. Both systems tick first in it, and each end is
-- asked twice before anything is delivered.
abbrev pub RoundIsHostRound : Algorithms → Type 0
RoundIsHostRound gives = (old new : WorldState) → IsSteady old → (q : IsRound gives old new)
    → let events = ticks_of_both ++ (asks_all old.links ++ q.delivers) in
    RunIsPlayed IsBetweenTicks NoneIsLeft gives old new (map Plays events, q.replies, as_played gives events q.replies old new q.acts)

-- and so many of them are as many
abbrev pub RoundsAreHostRounds : Algorithms → Type 0
RoundsAreHostRounds gives = (n : ℕ) (old new : WorldState) → IsSteady old → Rounds gives n old new → HostRounds gives n old new
