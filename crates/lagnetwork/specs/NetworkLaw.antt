-- What holds after each event of any number of systems, in every schedule.
use Rattle.std.specs.Prelude.{◌≡◌, ◌≢◌, ◌⊎◌, ◌<◌, ℕ, true, false, Some, IsSome, List, [], ◌∷◌, ◌++◌, Contains, length, slice_index}
use Rattle.lagtypes.specs.Group.{SamePair}
use Rattle.std.specs.Prelude.{Bool, None, Option}
use Rattle.lagmodel.specs.View.{ModelCall, SystemSetup, View, PortFacts, Flushing, On, conversation_port, first_view, Marker, Response}
use Rattle.lagmodel.specs.Move.{Act, LawfulMoves, pair_at}
use Rattle.lagmodel.specs.World.{One, Message, Control, TakenLacpdu}
use Rattle.lagmodel.specs.Law.{IsSubsequence, OnePartner, serials}
use Rattle.lagmodel.specs.Succession.{IsAlikeSetup}
use Rattle.lagnetwork.specs.Network.{Network, NetworkSetup, IsNetworkSetup, NetworkEvent, NetworkRun, first_network}
use Rattle.lagmodel.specs.AnyPeer.{Scene, TookInSync}
use Rattle.lagnetwork.specs.Network.{Place, NetworkCall, NetworkHappens, CountsNetworkChanges, network_after_acts}
use Rattle.lagnetwork.specs.Network.{Moved, Unmoved, Moved_down, Moved_up, Pull, Plug, Restart, Succeed, recabled_all}

-- Ports of each system that distribute in one aggregator have one partner system and key.
abbrev pub EachOnePartner : Network → Type 0
EachOnePartner w = (s : ℕ) → OnePartner (w.view s)

-- Port p of system s, with the view a, distributes and does not have a defaulted partner; the LACPDU that it took last came from port q of
-- system t, which did not change since it sent that.
pub record IsUpToDate (w : Network) (s p t q : ℕ) (a : PortFacts) : Type 0 where
  pub is : (w.view s).port p ≡ Some a
  pub distributes : a.distributes ≡ true
  pub defaulted : a.defaulted ≡ false
  pub taken : (m : TakenLacpdu) × (w.taken s p ≡ Some m) × (m.stamp ≡ w.count t q)
  pub source : w.source s p ≡ Some (record { system = t; port = q })

-- Two ports that took their last LACPDUs from each other, as the two ends of a cable do (`TookFromFarEnd`), have the same group, if both
-- distribute, neither changed since it sent the LACPDU that its peer took last, and neither has a defaulted partner.
abbrev pub CablesAgree : Network → Type 0
CablesAgree w =
    (s p t q : ℕ) (a b : PortFacts) → IsUpToDate w s p t q a → IsUpToDate w t q s p b → SamePair (pair_at a) (pair_at b)

-- the cable that the port a has is the one that it goes by: it was never moved; or the port was down when it last was, and distributes
abbrev pub GoesByItsCable : Moved → PortFacts → Type 0
GoesByItsCable Unmoved a = Unit {0}
GoesByItsCable Moved_down a = a.distributes ≡ true
GoesByItsCable Moved_up a = ⊥

-- The LACPDU that such a port took last, if it is not on defaults, came from the port at the other end of its cable.
abbrev pub TookFromFarEnd : NetworkSetup → Network → Type 0
TookFromFarEnd x w = (s p : ℕ) (a : PortFacts) → (w.view s).port p ≡ Some a → a.defaulted ≡ false → GoesByItsCable (w.moved s p) a
    → w.source s p ≡ x.far s p

-- What a port that is not on defaults names as its partner is the system and the port that the LACPDU came from which it took last.
abbrev pub NamesFarEnd : NetworkSetup → Network → Type 0
NamesFarEnd x w =
    (s p t q : ℕ) (a : PortFacts) → w.source s p ≡ Some (record { system = t; port = q }) → (w.view s).port p ≡ Some a → a.defaulted ≡ false
    → (a.partner.system ≡ (x.setup t).system) × (a.partner.port.number ≡ q)

-- Ports of a system that distribute in one aggregator, none of them on defaults, took their last LACPDUs from one system, if no other
-- claims its identifier.
abbrev pub OneDevice : NetworkSetup → Network → Type 0
OneDevice x w =
    (s g p q t r i j : ℕ) (a b : PortFacts) → ((x.setup t).system ≡ (x.setup r).system → t ≡ r)
    → w.source s p ≡ Some (record { system = t; port = i }) → w.source s q ≡ Some (record { system = r; port = j })
    → (w.view s).port p ≡ Some a → (w.view s).port q ≡ Some b → a.aggregator ≡ Some g → b.aggregator ≡ Some g
    → a.distributes ≡ true → b.distributes ≡ true → a.defaulted ≡ false → b.defaulted ≡ false → t ≡ r

-- What all systems together collected of a conversation, in the order of time, is a subsequence of what it sent, if it was
-- never forced.
abbrev pub NetworkInOrder : Network → Type 0
NetworkInOrder w = (s g k : ℕ) → w.forced s g k ≡ false → IsSubsequence (w.collected s g k) (w.sent s g k)

-- What one aggregator of one system collected of a conversation of an aggregator of a system is a subsequence of what that
-- sent, if it was never forced.
abbrev pub EachCollectorInOrder : Network → Type 0
EachCollectorInOrder w =
    (t h s g k : ℕ) → w.forced s g k ≡ false → IsSubsequence (w.arrived t h s g k) (w.sent s g k)

-- A port that is in an aggregator, not on defaults, took its last LACPDU from a system of another identifier: not from its own, and not
-- from one that claims its own.
abbrev pub NotWithItself : NetworkSetup → Network → Type 0
NotWithItself x w =
    (s p t q : ℕ) (a : PortFacts) → w.source s p ≡ Some (record { system = t; port = q }) → (w.view s).port p ≡ Some a
    → IsSome a.aggregator → a.defaulted ≡ false → (x.setup t).system ≢ (x.setup s).system

-- All frames in flight of a conversation that was never forced are on the cable of its port.
abbrev pub FlyOnItsCable : NetworkSetup → Network → Type 0
FlyOnItsCable x w =
    (s g k p t q : ℕ) → w.forced s g k ≡ false → x.far s p ≡ Some (record { system = t; port = q })
    → (serials One g k (w.towards t q) ≡ []) ⊎ (conversation_port ((w.view s).flows.state g k) ≡ Some p)

-- While a conversation that was never forced waits on a port for the response to a marker: none of its frames was sent after
-- that marker on the port's cable, and none is in flight there while the response is.
abbrev pub FlushedBehindMarker : NetworkSetup → Network → Type 0
FlushedBehindMarker x w =
    (s g k p n t q : ℕ) → w.forced s g k ≡ false → (w.view s).flows.state g k ≡ Flushing p n
    → x.far s p ≡ Some (record { system = t; port = q })
    → ((front back : List Message) (stamp : ℕ) → w.towards t q ≡ front ++ Control (Marker (x.setup s).system.mac p n) stamp ∷ back
    → serials One g k back ≡ [])
    × ((stamp : ℕ) → Contains (w.towards s p) (Control (Response (x.setup s).system.mac p n) stamp) → serials One g k (w.towards t q) ≡ [])

-- Every marker identifier in flight on a cable is below its requester's next one.
abbrev pub AllBelowNext : NetworkSetup → Network → Type 0
AllBelowNext x w =
    (s p t q r n stamp : ℕ) (mac : List ℕ) → x.far s p ≡ Some (record { system = t; port = q })
    → (Contains (w.towards t q) (Control (Marker mac r n) stamp) → n < (w.view s).flows.next)
    × (Contains (w.towards s p) (Control (Response mac r n) stamp) → n < (w.view s).flows.next)

-- What a conversation collected, followed by its frames in flight on any one cable, is a subsequence of what it sent, if it
-- was never forced.
abbrev pub CollectedThenFlying : NetworkSetup → Network → Type 0
CollectedThenFlying x w =
    (s g k p t q : ℕ) → w.forced s g k ≡ false → x.far s p ≡ Some (record { system = t; port = q })
    → IsSubsequence (w.collected s g k ++ serials One g k (w.towards t q)) (w.sent s g k)

-- The serial numbers that a conversation sent are 0, 1, 2 and so on, so no two of its frames have the same one.
abbrev pub AllCountFromZero : Network → Type 0
AllCountFromZero w = (s g k i : ℕ) → i < length (w.sent s g k) → slice_index (w.sent s g k) i ≡ i

-- what is on its way to this place
abbrev pub on_line_to : Option Place → Network → List Message
on_line_to None w = []
on_line_to (Some a) w = w.towards a.system a.port

-- system s of the network, seen alone: the rest is at the other ends of its cables
abbrev pub scene_of : NetworkSetup → Network → ℕ → Scene
scene_of x w s = record {
  view = w.view s;
  whole = w.whole s;
  out = λ p. on_line_to (x.far s p) w;
  back = w.towards s;
  taken = w.taken s;
  sent = w.sent s;
  collected = w.collected s;
  forced = w.forced s;
}

-- A port of any system that distributes, not on defaults, took an LACPDU, and the last one said IN_SYNC, and names it or is of an individual link.
abbrev pub EachTookInSync : NetworkSetup → Network → Type 0
EachTookInSync x w = (s : ℕ) → TookInSync (scene_of x w s)

-- A configuration with another first marker is alike.
abbrev pub FirstMarkersAreAlike : NetworkSetup → Type 0
FirstMarkersAreAlike x = (s n : ℕ) → IsAlikeSetup (x.setup s) (record (x.setup s) { first_marker = n })

-- A system of which no conversation waits may take its own place, with any configuration that is alike: so takeovers are possible.
abbrev pub MaySucceedItself : NetworkSetup → Network → Type 0
MaySucceedItself x w =
    (s : ℕ) (setup : SystemSetup) → IsAlikeSetup (x.setup s) setup
    → ((g k p : ℕ) → conversation_port ((w.view s).flows.state g k) ≡ Some p → (w.view s).flows.state g k ≡ On p)
    → (new : Network) × NetworkHappens x (Succeed s setup (w.view s)) w new

-- A system may begin anew, whatever waits, with any configuration that is alike: it restarts, takes its own place with that, and restarts
-- again.
abbrev pub MayBeginAnew : NetworkSetup → Network → Type 0
MayBeginAnew x w =
    (s : ℕ) (setup : SystemSetup) → IsAlikeSetup (x.setup s) setup
    → (new : Network) × NetworkRun x (Restart s ∷ Succeed s setup (first_view (x.setup s)) ∷ Restart s ∷ []) w new
    × (new.view s ≡ first_view setup)

-- The statement holds after each event of each schedule, from the start of any systems on any cables; it is of the cables as they are then.
abbrev pub IsNetworkInvariant : (NetworkSetup → Network → Type 0) → Type 0
IsNetworkInvariant P = (x : NetworkSetup) (events : List NetworkEvent) (w : Network) → IsNetworkSetup x
    → NetworkRun x events (first_network x) w → P (recabled_all x events) w

-- no cable is moved
abbrev pub CablesStay : List NetworkEvent → Type 0
CablesStay [] = Unit {0}
CablesStay (Pull s p ∷ es) = ⊥
CablesStay (Plug s p t q ∷ es) = ⊥
CablesStay (e ∷ es) = CablesStay es

-- Where no cable is moved, every port that is not on defaults took its last LACPDU from the port at the other end of its cable: so what is
-- said above of ports that took theirs from one another is said of the ends of each cable.
abbrev pub TookFromFixedEnd : Type 0
TookFromFixedEnd = (x : NetworkSetup) (events : List NetworkEvent) (w : Network) → IsNetworkSetup x → CablesStay events
    → NetworkRun x events (first_network x) w
    → ((recabled_all x events).far ≡ x.far)
    × ((s p : ℕ) (a : PortFacts) → (w.view s).port p ≡ Some a → a.defaulted ≡ false → w.source s p ≡ x.far s p)

-- What the contract of each call of a system promises, lawful moves with these visible acts, is a call of the network, whatever cables
-- accept; and it leaves what the acts leave, frames on the cables with them.
abbrev pub LawfulCallsAreCalls : Type 0
LawfulCallsAreCalls =
    (x : NetworkSetup) (s : ℕ) (call : ModelCall) (stamp : ℕ) (old mid new : Network) (v : View) (seen : List Act) (accepts : Act → Bool)
    (count : ℕ → ℕ → ℕ)
    → LawfulMoves (x.setup s) call (mid.view s) seen v
    → CountsNetworkChanges old (network_after_acts x s stamp accepts seen v mid) count
    → new ≡ record (network_after_acts x s stamp accepts seen v mid) { count = count } → NetworkCall x s call stamp old mid new

-- There is a run of three systems, of which systems 2 and 3 have one identifier: both ports of system 1 distribute in its
-- aggregator 1, one towards each of them, and so does each port at the other end, none on defaults; and conversation 48, never
-- forced, had its first frame handed up at system 2, moved, and had its second handed up at system 3.
abbrev pub OneAggregatorReachesTwo : Type 0
OneAggregatorReachesTwo =
    (x : NetworkSetup) × (events : List NetworkEvent) × (w : Network) × (a b c d : PortFacts)
    × IsNetworkSetup x
    × NetworkRun x events (first_network x) w
    × (x.far 1 1 ≡ Some (record { system = 2; port = 1 }))
    × (x.far 1 2 ≡ Some (record { system = 3; port = 2 }))
    × IsUpToDate w 1 1 2 1 a
    × IsUpToDate w 1 2 3 2 b
    × IsUpToDate w 2 1 1 1 c
    × IsUpToDate w 3 2 1 2 d
    × (a.aggregator ≡ Some 1)
    × (b.aggregator ≡ Some 1)
    × (w.forced 1 1 48 ≡ false)
    × (w.sent 1 1 48 ≡ 0 ∷ 1 ∷ [])
    × (w.collected 1 1 48 ≡ 0 ∷ 1 ∷ [])
    × (w.arrived 2 1 1 1 48 ≡ 0 ∷ [])
    × (w.arrived 3 1 1 1 48 ≡ 1 ∷ [])

-- There is a run in which port 1 of system 1 and port 1 of system 2 are up with each other, the cable between them is taken out, port 1 of
-- system 1 sees that, and it is put in between this and port 1 of system 3: and these two come up with each other.
abbrev pub EndsMeetAfterMove : Type 0
EndsMeetAfterMove =
    (x : NetworkSetup) × (before after : List NetworkEvent) × (v w : Network) × (a b c d : PortFacts)
    × IsNetworkSetup x
    × NetworkRun x before (first_network x) v
    × (x.far 1 1 ≡ Some (record { system = 2; port = 1 }))
    × (recabled_all x before ≡ x)
    × IsUpToDate v 1 1 2 1 a
    × IsUpToDate v 2 1 1 1 b
    × NetworkRun x after v w
    × ((recabled_all x after).far 1 1 ≡ Some (record { system = 3; port = 1 }))
    × (w.moved 1 1 ≡ Moved_down)
    × (w.moved 3 1 ≡ Moved_down)
    × IsUpToDate w 1 1 3 1 c
    × IsUpToDate w 3 1 1 1 d
