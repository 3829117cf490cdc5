-- A healthy round of a world: one tick of each system, each end of each cable is asked for what it has to send, and what is
-- on the cables arrives (profile).
use Rattle.std.specs.Prelude.{◌≡◌, ℕ, zero, suc, true, List, [], ◌∷◌, ◌++◌, Option, None, Some, slice_get}
use Rattle.std.specs.List.{AllByRecursion}
use Rattle.portmachines.specs.Machines.{Machines}
use Rattle.lagmodel.specs.World.{Side}
use Rattle.lagsystem.specs.State.{machines_of}
use Rattle.lagscript.specs.declared.event.Event.{Event}
use Rattle.lagscript.specs.declared.event.Event.TheVariants as event
use Rattle.lagworld.specs.declared.reply.Reply.{Reply}
use Rattle.lagworld.specs.Events.{Algorithms, WorldRuns}
use Rattle.lagworld.specs.State.{LinkState, WorldState, half, limit_towards, port_at, towards}

-- one tick of each system
abbrev pub ticks_of_both : List Event
ticks_of_both = event.Tick 1 1 ∷ event.Tick 2 1 ∷ []

-- both ends of a cable are asked twice: an LACPDU goes before a marker
abbrev pub asks_ends : LinkState → List Event
asks_ends l = event.Emit 1 l.one ∷ event.Emit 1 l.one ∷ event.Emit 2 l.two ∷ event.Emit 2 l.two ∷ []

-- the ends of all cables are asked
abbrev pub asks_all : List LinkState → List Event
asks_all [] = []
asks_all (l ∷ links) = asks_ends l ++ asks_all links

-- the event is that something on a cable arrives
abbrev pub IsDeliver : Event → Type 0
IsDeliver (event.Deliver c n) = Unit {0}
IsDeliver _ = ⊥

-- nothing is on any cable
abbrev pub NothingInFlight : WorldState → Type 0
NothingInFlight j = (s : Side) (i : ℕ) (l : LinkState) → slice_get j.links i ≡ Some l → towards s l ≡ []

-- A healthy round: these events act, and then nothing is on any cable. An event that was refused, for want of memory, is
-- none of them.
pub record IsRound (gives : Algorithms) (old new : WorldState) : Type 0 where
  pub delivers : List Event
  pub replies : List Reply
  pub arrives : AllByRecursion IsDeliver delivers
  pub acts : WorldRuns gives old (ticks_of_both ++ (asks_all old.links ++ delivers)) replies new
  pub empties : NothingInFlight new

-- so many rounds lead from one world to the other
abbrev pub Rounds : Algorithms → ℕ → WorldState → WorldState → Type 0
Rounds gives zero old new = new ≡ old
Rounds gives (suc n) old new = (mid : WorldState) × Rounds gives n old mid × IsRound gives mid new

-- how rounds are played: the algorithms, how many rounds, and the worlds before and after them
abbrev pub Playing : Type 1
Playing = Algorithms → ℕ → WorldState → WorldState → Type 0

-- there is a port, and so its machines are
abbrev pub OfPort : (Machines → Type 0) → Option Machines → Type 0
OfPort P None = ⊥
OfPort P (Some p) = P p

-- so the port is that the cable joins at system s
abbrev pub AtEnd : (Machines → Type 0) → Side → LinkState → WorldState → Type 0
AtEnd P s l j = OfPort P (machines_of (port_at s l) (half s j).state)

-- the cable at index i of the world is whole and has no limit, and the links of the ports at both of its ends are up
pub record IsHealthyAt (i : ℕ) (l : LinkState) (j : WorldState) : Type 0 where
  pub there : slice_get j.links i ≡ Some l
  pub whole : l.whole ≡ true
  pub unlimited : (s : Side) → limit_towards s l ≡ None
  pub up : (s : Side) → AtEnd (λ p. p.enabled ≡ true) s l j

-- After so many rounds, whatever was before them, this holds of healthy cables: their ends know each other, if both are active, and if
-- one is; they distribute and agree; and no conversation is held on them.
abbrev pub known_if_both_active : ℕ
known_if_both_active = 323

abbrev pub known_if_one_is : ℕ
known_if_one_is = 624

abbrev pub up_if_both_active : ℕ
up_if_both_active = 356

abbrev pub up_if_one_is : ℕ
up_if_one_is = 657

abbrev pub freed_if_both_active : ℕ
freed_if_both_active = 386

abbrev pub freed_if_one_is : ℕ
freed_if_one_is = 687
