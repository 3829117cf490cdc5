-- What holds after each event of two systems, in every schedule. The law of which moves are allowed is in Move.
use Rattle.std.specs.Prelude.{◌≡◌, ℕ, ◌<◌, Bool, true, false, ◌&&◌, cond, eqb, ◌⊎◌, Option, Some, IsSome, is_some, List, [], ◌∷◌, ◌++◌}
use Rattle.std.specs.Prelude.{Contains, length, slice_index}
use Rattle.lagtypes.specs.Group.{individual, SamePair, pair_of}
use Rattle.lagmodel.specs.View.{PortFacts, Flushing, conversation_port, View, SystemSetup, ModelCall, LacpMessage, Lacp, Marker, Response}
use Rattle.lagmodel.specs.Move.{Act, LawfulMoves, pair_at}
use Rattle.lagmodel.specs.World.{Side, One, Two, peer, Message, Control, Data, end_at, party_at, TakenLacpdu, World, WorldSetup}
use Rattle.lagmodel.specs.World.{IsWorldSetup, first_world, Event, Run}

-- xs is ys with some elements left out
abbrev pub IsSubsequence : List ℕ → List ℕ → Type 0
IsSubsequence [] ys = Unit {0}
IsSubsequence (x ∷ xs) [] = ⊥
IsSubsequence (x ∷ xs) (y ∷ ys) = ((x ≡ y) × IsSubsequence xs ys) ⊎ IsSubsequence (x ∷ xs) ys

-- both are the same system
abbrev pub same_side : Side → Side → Bool
same_side One One = true
same_side One Two = false
same_side Two One = false
same_side Two Two = true

-- the serial numbers of a conversation's frames among these messages, in their order
abbrev pub serials : Side → ℕ → ℕ → List Message → List ℕ
serials s g k [] = []
serials s g k (Control pdu stamp ∷ ms) = serials s g k ms
serials s g k (Data origin h j serial ∷ ms) =
    cond (same_side origin s && (eqb h g && eqb j k)) (serial ∷ serials s g k ms) (serials s g k ms)

-- What holds of the ports of one system: they are those of its configuration; each port's own parameters name the
-- system and that port; the members of an aggregator have its key and one group, which is not Individual if they are
-- two or more (6.4.14.1); and a port that distributes is a member whose partner is synchronized (6.4.15).
pub record Members (u : SystemSetup) (ports : ℕ → Option PortFacts) : Type 0 where
  pub configured : (p : ℕ) → is_some (ports p) ≡ is_some (u.party p)
  pub number : (p : ℕ) (a : PortFacts) → ports p ≡ Some a → a.party.port.number ≡ p
  pub own : (p : ℕ) (a : PortFacts) → ports p ≡ Some a → a.party.system ≡ u.system
  pub key : (p g : ℕ) (a : PortFacts) → ports p ≡ Some a → a.aggregator ≡ Some g → u.key g ≡ Some a.party.key
  pub group : (g p q : ℕ) (a b : PortFacts) → (p ≡ q → ⊥) → ports p ≡ Some a → ports q ≡ Some b → a.aggregator ≡ Some g
      → b.aggregator ≡ Some g → SamePair (pair_at a) (pair_at b) × (individual a.party a.partner ≡ false)
  pub member : (p : ℕ) (a : PortFacts) → ports p ≡ Some a → a.distributes ≡ true → IsSome a.aggregator × (a.synchronized ≡ true)

-- Ports of one system that distribute in one aggregator have one partner system and key (6.3.6, 6.4.14.1).
abbrev pub OnePartner : View → Type 0
OnePartner v =
    (g p q : ℕ) (a b : PortFacts) → v.port p ≡ Some a → v.port q ≡ Some b
    → a.aggregator ≡ Some g → b.aggregator ≡ Some g → a.distributes ≡ true → b.distributes ≡ true
    → (a.partner.system ≡ b.partner.system) × (a.partner.key ≡ b.partner.key)

-- Port p of system s, with the view a, distributes and does not have a defaulted partner, and port q of the peer did
-- not change since it sent the LACPDU that port p took last.
pub record LastLacpduIsUpToDate (w : World) (s : Side) (p q : ℕ) (a : PortFacts) : Type 0 where
  pub is : (w.view s).port p ≡ Some a
  pub distributes : a.distributes ≡ true
  pub defaulted : a.defaulted ≡ false
  pub taken : (m : TakenLacpdu) × (w.taken s p ≡ Some m) × (m.stamp ≡ w.count (peer s) q)

-- The two ends of a cable have the same group (6.3.6), the same unordered pair of ends, if both distribute, neither
-- changed since it sent the LACPDU that its peer took last, and neither has a defaulted partner.
abbrev pub EndsAgree : WorldSetup → World → Type 0
EndsAgree x w =
    (c p q : ℕ) (a b : PortFacts) → end_at x.cables One c ≡ Some p → end_at x.cables Two c ≡ Some q
    → LastLacpduIsUpToDate w One p q a → LastLacpduIsUpToDate w Two q p b
    → SamePair (pair_at a) (pair_at b)

-- What a conversation collected, if it was never forced, is a subsequence of what it sent: nothing is reordered, and
-- nothing comes twice (6.2.4).
abbrev pub InOrder : World → Type 0
InOrder w = (s : Side) (g k : ℕ) → w.forced s g k ≡ false → IsSubsequence (w.collected s g k) (w.sent s g k)

-- If a port distributes and its partner is not defaulted, the LACPDU that it took last said IN_SYNC. If that
-- LACPDU's Actor is aggregatable, its Actor and Partner are the two ends of the port's present group.
abbrev pub LastLacpduSaysInSync : World → Type 0
LastLacpduSaysInSync w =
    (s : Side) (p : ℕ) (a : PortFacts) → (w.view s).port p ≡ Some a → a.distributes ≡ true → a.defaulted ≡ false
    → (m : TakenLacpdu) × (w.taken s p ≡ Some m) × (m.pdu.synchronized ≡ true)
    × (m.pdu.actor.aggregatable ≡ true → SamePair (pair_of m.pdu.actor m.pdu.partner) (pair_at a))

-- If an LACPDU in flight, or one that was taken last, has a stamp that equals its sender's change count, its Actor
-- is the sender as it is now.
abbrev pub UpToDateLacpdusNameSender : WorldSetup → World → Type 0
UpToDateLacpdusNameSender x w =
    (s : Side) (c p : ℕ) → end_at x.cables s c ≡ Some p
    → ((pdu : LacpMessage) (stamp : ℕ) → Contains (w.on_cable (peer s) c) (Control (Lacp pdu) stamp) → stamp ≡ w.count s p
    → party_at (w.view s) p ≡ Some pdu.actor)
    × ((q : ℕ) (m : TakenLacpdu) → end_at x.cables (peer s) c ≡ Some q → w.taken (peer s) q ≡ Some m → m.stamp ≡ w.count s p
    → party_at (w.view s) p ≡ Some m.pdu.actor)

-- All frames in flight of a conversation that was never forced are on the cable of its port; if it is free, none is in
-- flight. All frames travel away from the system that sent them.
abbrev pub OnItsCable : WorldSetup → World → Type 0
OnItsCable x w =
    (s : Side) (g k c : ℕ) → w.forced s g k ≡ false
    → ((serials s g k (w.on_cable (peer s) c) ≡ []) ⊎ ((p : ℕ) × (end_at x.cables s c ≡ Some p)
    × (conversation_port ((w.view s).flows.state g k) ≡ Some p)))
    × (serials s g k (w.on_cable s c) ≡ [])

-- While a conversation that was never forced waits on a port for the response to a marker: none of its frames was sent
-- after that marker on the port's cable; and while the response is in flight on that cable, none of its frames is in
-- flight on any cable.
abbrev pub FlushedByMarker : WorldSetup → World → Type 0
FlushedByMarker x w =
    (s : Side) (g k p n c : ℕ) → w.forced s g k ≡ false → (w.view s).flows.state g k ≡ Flushing p n → end_at x.cables s c ≡ Some p
    → ((front back : List Message) (stamp : ℕ) → w.on_cable (peer s) c ≡ front ++ Control (Marker (x.setup s).system.mac p n) stamp ∷ back
    → serials s g k back ≡ [])
    × ((d stamp : ℕ) → Contains (w.on_cable s c) (Control (Response (x.setup s).system.mac p n) stamp)
    → serials s g k (w.on_cable (peer s) d) ≡ [])

-- Every marker identifier in flight is below its requester's next one.
abbrev pub BelowNext : World → Type 0
BelowNext w =
    (s : Side) (c p n stamp : ℕ) (mac : List ℕ)
    → (Contains (w.on_cable (peer s) c) (Control (Marker mac p n) stamp) → n < (w.view s).flows.next)
    × (Contains (w.on_cable s c) (Control (Response mac p n) stamp) → n < (w.view s).flows.next)

-- What a conversation collected, followed by its frames in flight on any one cable, is a subsequence of what it sent,
-- if it was never forced.
abbrev pub CollectedThenInFlight : World → Type 0
CollectedThenInFlight w =
    (s : Side) (g k c : ℕ) → w.forced s g k ≡ false
    → IsSubsequence (w.collected s g k ++ serials s g k (w.on_cable (peer s) c)) (w.sent s g k)

-- The serial numbers that a conversation sent are 0, 1, 2 and so on, so no two of its frames have the same one.
abbrev pub CountsFromZero : World → Type 0
CountsFromZero w = (s : Side) (g k i : ℕ) → i < length (w.sent s g k) → slice_index (w.sent s g k) i ≡ i

-- One system makes these calls one after another, each by moves that `MoveAllowed` allows, with any visible acts.
abbrev pub LawfulRun : SystemSetup → List ModelCall → View → View → Type 0
LawfulRun u [] old new = new ≡ old
LawfulRun u (call ∷ calls) old new = (seen : List Act) × (mid : View) × LawfulMoves u call old seen mid × LawfulRun u calls mid new

-- The statement holds after each event of each schedule, from the start of any two systems on cables.
abbrev pub IsInvariant : (WorldSetup → World → Type 0) → Type 0
IsInvariant P = (x : WorldSetup) (events : List Event) (w : World) → IsWorldSetup x → Run x events (first_world x) w → P x w

-- There is a run in which both ends of cable 1 come to distribute and to have the same group, as in `EndsAgree`, and a
-- frame arrives of conversation 48, which was never forced.
abbrev pub SomethingArrives : Type 0
SomethingArrives =
    (x : WorldSetup) × (events : List Event) × (w : World) × (a b : PortFacts)
    × IsWorldSetup x
    × Run x events (first_world x) w
    × (end_at x.cables One 1 ≡ Some 1)
    × (end_at x.cables Two 1 ≡ Some 1)
    × LastLacpduIsUpToDate w One 1 1 a
    × LastLacpduIsUpToDate w Two 1 1 b
    × (w.forced One 1 48 ≡ false)
    × (w.sent One 1 48 ≡ 0 ∷ [])
    × (w.collected One 1 48 ≡ 0 ∷ [])
