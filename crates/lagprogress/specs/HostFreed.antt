-- A conversation does not stay held in healthy rounds of hosts that do not move it, and ask until nothing is due (profile).
use Rattle.std.specs.Prelude.{◌≡◌, ◌≤◌, ◌⊎◌, ℕ, zero, suc, Bool, false, true, List, [], ◌∷◌, None, Some}
use Rattle.std.specs.List.{AllByRecursion}
use Rattle.distributor.specs.Changes.{marker_due}
use Rattle.lagmodel.specs.World.{One, Side}
use Rattle.portmachines.specs.Transmit.{is_due}
use Rattle.lagscript.specs.declared.event.Event.TheVariants as event
use Rattle.lagworld.specs.declared.reply.Reply.{Reply}
use Rattle.lagworld.specs.declared.reply.Reply.TheVariants as reply
use Rattle.lagworld.specs.Events.{Algorithms, side_of}
use Rattle.laghosts.specs.HostEvents.{HostEvent, Leaves, Plays, Rests}
use Rattle.lagworld.specs.State.{LinkState, WorldState, half, port_at}
use Rattle.lagprogress.specs.Bundle.{IsBundle}
use Rattle.lagprogress.specs.CutOff.{IsBundleBesideCutOffs}
use Rattle.lagprogress.specs.Freed.{CarriersAreUp, HasIdentifierLeft, IsNotHeld, IsNotHeldOn}
use Rattle.lagprogress.specs.HostRounds.{AfterTick, Asks, HostRounds, IsHostRound, IsTickOf, RunReplies, TickOnce}
use Rattle.lagprogress.specs.LateRounds.{LateRounds}
use Rattle.lagprogress.specs.Rounds.{AtEnd, IsHealthyAt, IsRound, NothingInFlight}
use Rattle.lagprogress.specs.Steady.{IsSteady}

-- the event neither moves nor forces conversation k of aggregator g of system s, and lets it neither leave its port nor rest
abbrev pub IsNoMoveOf : Side → (g k : ℕ) → HostEvent → Type 0
IsNoMoveOf s g k (Plays (event.Move n agg conv p)) = side_of n ≡ Some s → agg.0 ≡ g → conv ≡ k → ⊥
IsNoMoveOf s g k (Plays (event.Force n agg conv)) = side_of n ≡ Some s → agg.0 ≡ g → conv ≡ k → ⊥
IsNoMoveOf s g k (Leaves t agg conv) = t ≡ s → agg.0 ≡ g → conv ≡ k → ⊥
IsNoMoveOf s g k (Rests t agg conv) = t ≡ s → agg.0 ≡ g → conv ≡ k → ⊥
IsNoMoveOf s g k e = Unit {0}

-- no LACPDU and no marker is due at the end of the cable at system s
abbrev pub NothingIsDue : Side → LinkState → WorldState → Type 0
NothingIsDue s l j = AtEnd (λ p. is_due p ≡ false) s l j × (marker_due (half s j).state.table (port_at s l) ≡ None)

-- A healthy round of hosts that does not move this conversation, and in which at each end of a healthy cable nothing is due at some
-- time after its system's tick.
pub record IsDrainingRound (t : Side) (g k : ℕ) (gives : Algorithms) (old new : WorldState) : Type 0 where
  pub round : IsHostRound gives old new
  pub still : AllByRecursion (IsNoMoveOf t g k) round.events
  pub drained : (s : Side) (i : ℕ) (l : LinkState) → IsHealthyAt i l old
      → AfterTick s (NothingIsDue s l) gives round.events round.replies old new round.acts

-- so many of them lead from one world to the other
abbrev pub DrainingRounds : Side → (g k : ℕ) → Algorithms → ℕ → WorldState → WorldState → Type 0
DrainingRounds s g k gives zero old new = new ≡ old
DrainingRounds s g k gives (suc n) old new =
    (mid : WorldState) × DrainingRounds s g k gives n old mid × IsDrainingRound s g k gives mid new

-- After so many late rounds of a bundle or more, and 30 of these or more, the conversation is not held on an end of a healthy cable, if its
-- system has an identifier left in the end.
abbrev pub NoneIsHeldOnEndsByHosts : (LinkState → WorldState → Type 0) → ℕ → Algorithms → Type 0
NoneIsHeldOnEndsByHosts Holds least gives = (n m i : ℕ) (l : LinkState) (old mid new : WorldState) (s : Side) (g k : ℕ)
    → IsBundle Holds old → IsHealthyAt i l old → least ≤ n → LateRounds gives n old mid → 30 ≤ m → DrainingRounds s g k gives m mid new
    → HasIdentifierLeft (half s new).state → IsNotHeldOn (port_at s l) g k (half s new).state

-- And it is not held at all, if in the end the links of the ports are up that carry a conversation of its system, or on which one is
-- held.
abbrev pub NothingIsHeldByHosts : (LinkState → WorldState → Type 0) → ℕ → Algorithms → Type 0
NothingIsHeldByHosts Holds least gives = (n m : ℕ) (old mid new : WorldState) (s : Side) (g k : ℕ) → IsBundle Holds old → least ≤ n
    → LateRounds gives n old mid → 30 ≤ m → DrainingRounds s g k gives m mid new → HasIdentifierLeft (half s new).state
    → CarriersAreUp (half s new).state → IsNotHeld g k (half s new).state

-- Beside ports that are cut off: after 964 and 30 it is not held on an end of a healthy cable, if its system has an identifier left in
-- the end.
abbrev pub NoneIsHeldBesideCutOffsByHosts : Algorithms → Type 0
NoneIsHeldBesideCutOffsByHosts gives = (n m i : ℕ) (l : LinkState) (old mid new : WorldState) (s : Side) (g k : ℕ)
    → IsBundleBesideCutOffs old → IsHealthyAt i l old → 964 ≤ n → HostRounds gives n old mid → 30 ≤ m
    → DrainingRounds s g k gives m mid new → HasIdentifierLeft (half s new).state → IsNotHeldOn (port_at s l) g k (half s new).state

-- each healthy round is one, for any conversation
abbrev pub RoundIsDraining : Algorithms → Type 0
RoundIsDraining gives = (s : Side) (g k : ℕ) (old new : WorldState) → IsSteady old → IsRound gives old new
    → IsDrainingRound s g k gives old new

-- an Emit event with this reply sent nothing
abbrev pub sent_nothing : Reply → Bool
sent_nothing (reply.Lacpdu state accepted) = false
sent_nothing (reply.Marker id accepted) = false
sent_nothing r = true

-- one of these events asks this port of system s, and its reply is that nothing was sent
abbrev pub AsksInVain : Side → ℕ → List HostEvent → List Reply → Type 0
AsksInVain s p [] rs = ⊥
AsksInVain s p (e ∷ es) [] = ⊥
AsksInVain s p (e ∷ es) (r ∷ rs) = (Asks s p e × (sent_nothing r ≡ true)) ⊎ AsksInVain s p es rs

-- one of these events after a tick of system s does
abbrev pub AsksInVainAfterTick : Side → ℕ → List HostEvent → List Reply → Type 0
AsksInVainAfterTick s p [] rs = ⊥
AsksInVainAfterTick s p (e ∷ es) [] = ⊥
AsksInVainAfterTick s p (e ∷ es) (r ∷ rs) = (IsTickOf s e × AsksInVain s p es rs) ⊎ AsksInVainAfterTick s p es rs

-- And the loop of hosts is one: each system ticks once, each end of a healthy cable is asked after that until it sends nothing, and nothing
-- is on any cable in the end, whatever else they are, and in what order. The conversation is neither moved nor forced, and the world is
-- steady.
abbrev pub AskingInVainIsDraining : Algorithms → Type 0
AskingInVainIsDraining gives = (t : Side) (g k : ℕ) (events : List HostEvent) (replies : List Reply) (old new : WorldState) → IsSteady old
    → TickOnce One true true events → AllByRecursion (IsNoMoveOf t g k) events → RunReplies gives old events replies new
    → ((s : Side) (i : ℕ) (l : LinkState) → IsHealthyAt i l old → AsksInVainAfterTick s (port_at s l) events replies)
    → NothingInFlight new → IsDrainingRound t g k gives old new
