-- Late rounds in which hosts set other ports: a link that is up stays up (6.4.2.3, 6.4.7, 6.4.8; profile).
use Rattle.std.specs.Prelude.{◌≡◌, ◌≢◌, ◌≤◌, ℕ, suc, true, Some}
use Rattle.lagmodel.specs.World.{Side}
use Rattle.lagsystem.specs.Settings.{Hold_port, Set_in_use, Set_mode}
use Rattle.laghosts.specs.HostEvents.{HostEvent, Sets}
use Rattle.lagworld.specs.declared.agreement.Agreement.TheVariants.{Same}
use Rattle.lagworld.specs.Agreement.{agreement_at}
use Rattle.lagworld.specs.Events.{Algorithms}
use Rattle.lagworld.specs.Sound.{IsSound}
use Rattle.lagworld.specs.State.{LinkState, WorldState, port_at}
use Rattle.lagprogress.specs.Bundle.{IsBundle}
use Rattle.lagprogress.specs.Progress.{Distributes}
use Rattle.lagprogress.specs.HostRounds.{AskingIsPlayed, IsBetweenTicks, PlayedAmong}
use Rattle.lagprogress.specs.LateRounds.{LateRounds, OldArrive}
use Rattle.lagprogress.specs.Rounds.{AtEnd, IsHealthyAt}

-- What may come between ticks beside the ports with these numbers, one of each system: what hosts do between ticks, and any setting that
-- neither holds these ports, nor lets them go, nor sets their modes, nor puts an aggregator out of use. So other ports are held, let go and set, and limits of links are set.
abbrev pub LeavesPorts : (Side → ℕ) → HostEvent → Type 0
LeavesPorts at (Sets s (Hold_port port held)) = port ≢ at s
LeavesPorts at (Sets s (Set_mode port active short)) = port ≢ at s
LeavesPorts at (Sets s (Set_in_use agg now)) = now ≡ true
LeavesPorts at (Sets s setting) = Unit {0}
LeavesPorts at e = IsBetweenTicks e

-- so many late rounds in which such events come, beside the ends of this cable
abbrev pub RoundsBeside : LinkState → Algorithms → ℕ → WorldState → WorldState → Type 0
RoundsBeside l gives n old new = PlayedAmong (LeavesPorts (λ s. port_at s l)) OldArrive gives n old new

-- These events are such a round if each end of a healthy cable is asked after its system's tick, and what was on it arrives.
abbrev pub AskingIsRoundBeside : Algorithms → Type 0
AskingIsRoundBeside gives = (l : LinkState) → AskingIsPlayed (LeavesPorts (λ s. port_at s l)) OldArrive gives

-- A healthy link of a bundle distributes at both ends behind so many late rounds or more, and then after any number of these rounds. Other
-- ports may be held then, or have come up or not; and any limit of links may have been set.
abbrev pub EachLinkStaysUp : (LinkState → WorldState → Type 0) → ℕ → Algorithms → Type 0
EachLinkStaysUp Holds least gives = (n m i : ℕ) (l : LinkState) (old mid new : WorldState) → IsBundle Holds old → IsHealthyAt i l old
    → least ≤ n → LateRounds gives n old mid → RoundsBeside l gives m mid new → (s : Side) → AtEnd Distributes s l new

-- And in a sound world its agreement is Same still.
abbrev pub EachLinkStaysAgreed : (LinkState → WorldState → Type 0) → ℕ → Algorithms → Type 0
EachLinkStaysAgreed Holds least gives = (n m i : ℕ) (l : LinkState) (old mid new : WorldState) → IsSound old → IsBundle Holds old
    → IsHealthyAt i l old → least ≤ n → LateRounds gives n old mid → RoundsBeside l gives m mid new → agreement_at new (suc i) ≡ Some Same
