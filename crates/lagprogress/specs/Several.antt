-- Late rounds in which hosts make up ticks: each system ticks several times, as often as the other (6.4.4; profile).
use Rattle.std.specs.Prelude.{◌≡◌, ◌≤◌, ◌⊎◌, ℕ, zero, suc, false, List, [], ◌∷◌, Some}
use Rattle.lagmodel.specs.World.{Side, One, peer}
use Rattle.portmachines.specs.Transmit.{is_due}
use Rattle.laghosts.specs.HostEvents.{HostEvent}
use Rattle.lagworld.specs.declared.reply.Reply.{Reply}
use Rattle.lagworld.specs.declared.agreement.Agreement.TheVariants.{Same}
use Rattle.lagworld.specs.Agreement.{agreement_at}
use Rattle.lagworld.specs.Events.{Algorithms}
use Rattle.lagworld.specs.Sound.{IsSound as IsSoundWorld}
use Rattle.lagworld.specs.State.{LinkState, WorldState, half, port_at}
use Rattle.lagsystem.specs.Sound.{IsSound}
use Rattle.lagbeside.specs.Timers.{PortsAreTimed}
use Rattle.lagprogress.specs.Beside.{LeavesPorts}
use Rattle.lagprogress.specs.Bundle.{IsBundle}
use Rattle.lagprogress.specs.HostRounds.{AsksIn, AtSomeWorld, Clearing, IsBetweenTicks, IsTickOf, RunReplies}
use Rattle.lagprogress.specs.LateRounds.{LateRounds, OldArrive}
use Rattle.lagprogress.specs.Progress.{Distributes}
use Rattle.lagprogress.specs.Rounds.{AtEnd, IsHealthyAt}

-- So many ticks of each system a round may have, at the most. With N of them, LACPDUs that are due 10 ticks apart come 3 N + 9 apart at the most:
-- N before the first is due, N - 1 until the second is asked for, and N until it arrives. That has to be less than 30, a short timeout.
abbrev pub most_ticks : ℕ
most_ticks = 6

-- Each event is a tick of system s or of its peer, or is one that may come. If so many ticks of each were before, each has ticked so many
-- times in the end.
abbrev pub TicksAmong : (HostEvent → Type 0) → (ticks : ℕ) → Side → (own other : ℕ) → List HostEvent → Type 0
TicksAmong May ticks s own other [] = (own ≡ ticks) × (other ≡ ticks)
TicksAmong May ticks s own other (e ∷ es) =
    (IsTickOf s e × TicksAmong May ticks s (suc own) other es)
    ⊎ ((IsTickOf (peer s) e × TicksAmong May ticks s own (suc other) es) ⊎ (May e × TicksAmong May ticks s own other es))

-- at some world after so many ticks of system s
abbrev pub AfterTicks : (s : Side) (P : WorldState → Type 0) (ticks : ℕ) (gives : Algorithms) (es : List HostEvent) (rs : List Reply)
    (old new : WorldState) → RunReplies gives old es rs new → Type 0
AfterTicks s P zero gives es rs old new run = AtSomeWorld P gives es rs old new run
AfterTicks s P (suc n) gives (e ∷ es) (r ∷ rs) old new run =
    (IsTickOf s e × AfterTicks s P n gives es rs run.0 new run.2) ⊎ AfterTicks s P (suc n) gives es rs run.0 new run.2
AfterTicks s P (suc n) gives [] rs old new run = ⊥
AfterTicks s P (suc n) gives (e ∷ es) [] old new run = ⊥

-- These events act, each system ticks so many times among events that may come, at each end of a healthy cable no LACPDU is due at some time
-- after the last tick of its system, and the cables are cleared so far.
pub record IsPlayedTicks (May : HostEvent → Type 0) (Clears : Clearing) (ticks : ℕ) (gives : Algorithms) (old new : WorldState) : Type 0 where
  pub events : List HostEvent
  pub replies : List Reply
  pub turns : TicksAmong May ticks One 0 0 events
  pub acts : RunReplies gives old events replies new
  pub asked : (s : Side) (i : ℕ) (l : LinkState) → IsHealthyAt i l old
      → AfterTicks s (λ j. AtEnd (λ p. is_due p ≡ false) s l j) ticks gives events replies old new acts
  pub empties : Clears events old new

-- A late round among events that may come so: each system ticks once at the least, as often as the other, and so often at the most.
abbrev pub IsTickedRound : (May : HostEvent → Type 0) → (most : ℕ) → Algorithms → WorldState → WorldState → Type 0
IsTickedRound May most gives old new = (ticks : ℕ) × (1 ≤ ticks) × (ticks ≤ most) × IsPlayedTicks May OldArrive ticks gives old new

-- and so many of them
abbrev pub TickedRounds : (May : HostEvent → Type 0) → (most : ℕ) → Algorithms → ℕ → WorldState → WorldState → Type 0
TickedRounds May most gives zero old new = new ≡ old
TickedRounds May most gives (suc n) old new = (mid : WorldState) × TickedRounds May most gives n old mid × IsTickedRound May most gives mid new

-- so many late rounds of several ticks beside the ends of this cable
abbrev pub SeveralBeside : LinkState → Algorithms → ℕ → WorldState → WorldState → Type 0
SeveralBeside l gives n old new = TickedRounds (LeavesPorts (λ s. port_at s l)) most_ticks gives n old new

-- so many late rounds of several ticks
abbrev pub SeveralRounds : Algorithms → ℕ → WorldState → WorldState → Type 0
SeveralRounds gives n old new = TickedRounds IsBetweenTicks most_ticks gives n old new

-- After so many of these rounds the ends of healthy cables know each other, if both are active, and if one is.
abbrev pub known_in_several_if_both_active : ℕ
known_in_several_if_both_active = 365

abbrev pub known_in_several_if_one_is : ℕ
known_in_several_if_one_is = 649

-- And they distribute and agree.
abbrev pub up_in_several_if_both_active : ℕ
up_in_several_if_both_active = 408

abbrev pub up_in_several_if_one_is : ℕ
up_in_several_if_one_is = 692

-- one of the events after so many ticks of system s asks this port
abbrev pub AsksAfterTicks : Side → ℕ → (ticks : ℕ) → List HostEvent → Type 0
AsksAfterTicks s p zero es = AsksIn s p es
AsksAfterTicks s p (suc n) [] = ⊥
AsksAfterTicks s p (suc n) (e ∷ es) = (IsTickOf s e × AsksAfterTicks s p n es) ⊎ AsksAfterTicks s p (suc n) es

-- Events, which may come so, are such a round if each system ticks so many times in them, at once or not, each end of a healthy cable is asked
-- after the last tick of its system, once at least, and what was on it arrives: in whatever order. Both systems are sound, their timers within
-- their bounds.
abbrev pub AskingIsSeveral : (HostEvent → Type 0) → Algorithms → Type 0
AskingIsSeveral May gives = (ticks : ℕ) (events : List HostEvent) (replies : List Reply) (old new : WorldState)
    → ((s : Side) → IsSound (half s old).state × PortsAreTimed (half s old).state) → TicksAmong May ticks One 0 0 events
    → RunReplies gives old events replies new
    → ((s : Side) (i : ℕ) (l : LinkState) → IsHealthyAt i l old → AsksAfterTicks s (port_at s l) ticks events) → OldArrive events old new
    → IsPlayedTicks May OldArrive ticks gives old new

-- So they are beside the ends of any cable.
abbrev pub AskingIsSeveralBeside : Algorithms → Type 0
AskingIsSeveralBeside gives = (l : LinkState) → AskingIsSeveral (LeavesPorts (λ s. port_at s l)) gives

-- So many late rounds, in which each system ticks once, are as many of these.
abbrev pub LateRoundsAreSeveral : Algorithms → Type 0
LateRoundsAreSeveral gives = (n : ℕ) (old new : WorldState) → LateRounds gives n old new → SeveralRounds gives n old new

-- A healthy link of a bundle distributes at both ends behind so many late rounds or more, and then after any number of these rounds.
abbrev pub EachLinkStaysUpInSeveral : (LinkState → WorldState → Type 0) → ℕ → Algorithms → Type 0
EachLinkStaysUpInSeveral Holds least gives = (n m i : ℕ) (l : LinkState) (old mid new : WorldState) → IsBundle Holds old → IsHealthyAt i l old
    → least ≤ n → LateRounds gives n old mid → SeveralBeside l gives m mid new → (s : Side) → AtEnd Distributes s l new

-- And in a sound world its agreement is Same still.
abbrev pub EachLinkStaysAgreedInSeveral : (LinkState → WorldState → Type 0) → ℕ → Algorithms → Type 0
EachLinkStaysAgreedInSeveral Holds least gives = (n m i : ℕ) (l : LinkState) (old mid new : WorldState) → IsSoundWorld old → IsBundle Holds old
    → IsHealthyAt i l old → least ≤ n → LateRounds gives n old mid → SeveralBeside l gives m mid new → agreement_at new (suc i) ≡ Some Same

-- So it is behind so many rounds of several ticks or more.
abbrev pub EachLinkStaysUpThroughout : (LinkState → WorldState → Type 0) → ℕ → Algorithms → Type 0
EachLinkStaysUpThroughout Holds least gives = (n m i : ℕ) (l : LinkState) (old mid new : WorldState) → IsBundle Holds old → IsHealthyAt i l old
    → least ≤ n → SeveralRounds gives n old mid → SeveralBeside l gives m mid new → (s : Side) → AtEnd Distributes s l new

abbrev pub EachLinkStaysAgreedThroughout : (LinkState → WorldState → Type 0) → ℕ → Algorithms → Type 0
EachLinkStaysAgreedThroughout Holds least gives = (n m i : ℕ) (l : LinkState) (old mid new : WorldState) → IsSoundWorld old → IsBundle Holds old
    → IsHealthyAt i l old → least ≤ n → SeveralRounds gives n old mid → SeveralBeside l gives m mid new → agreement_at new (suc i) ≡ Some Same
