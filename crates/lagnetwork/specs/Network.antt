-- Any number of systems, cabled in any way, and what can happen to them (profile; links are point-to-point). Systems have
-- numbers; a network of n systems is one in which the others have no cable and no event. Cables may be moved.
use Rattle.std.specs.Prelude.{◌≡◌, ◌≢◌, ℕ, suc, Bool, true, false, ◌&&◌, cond, eqb, ◌⊎◌, Option, Some, None, IsSome, List, [], ◌∷◌, ◌++◌, length, drop}
use Rattle.lagmodel.specs.View.{PartyChange, PortFacts, View, SystemSetup, IsSystemSetup, first_view, ControlMessage, ModelCall}
use Rattle.lagmodel.specs.View.{Free}
use Rattle.lagmodel.specs.Overtaking.{Overtakes}
use Rattle.lagmodel.specs.Succession.{IsAlikeSetup, IsSuccessor, KeepsParties}
use Rattle.lagmodel.specs.Move.{Act, Sends, Sends_frame, Took, Move, MoveAllowed, view_after, act}
use Rattle.lagmodel.specs.World.{One, Message, Control, Data, party_at, stamp_of, at_two, TakenLacpdu, sent_after, taken_after}

-- a port of a system
pub record Place : Type 0 where
  pub system : ℕ
  pub port : ℕ

-- each system's configuration; and which port is at the other end of the cable of a port, if it has one
pub record NetworkSetup : Type 0 where
  pub setup : ℕ → SystemSetup
  pub far : ℕ → ℕ → Option Place

-- What the theorem requires of them: the own parameters of each port name its system and that port; and a cable joins two
-- ports whichever of them is named first. Systems may have one identifier, and a cable may join two ports of one system.
pub record IsNetworkSetup (x : NetworkSetup) : Type 0 where
  pub setup : (s : ℕ) → IsSystemSetup (x.setup s)
  pub cables : (s p t q : ℕ) → x.far s p ≡ Some (record { system = t; port = q }) → x.far t q ≡ Some (record { system = s; port = p })

-- Whether the cable of a port was ever moved, and how the port was when it last was: down, that is, out of sync or on defaults; or up. If
-- it was, one that takes the place of the port is noted anew (`moved_again`).
pub data Moved : Type 0 where
  Unmoved : Moved
  Moved_down : Moved
  Moved_up : Moved

-- the systems and their cables, with what has happened so far
pub record Network : Type 0 where
  pub view : ℕ → View
  pub whole : ℕ → ℕ → Bool  -- whether the cable of a port is whole
  pub towards : ℕ → ℕ → List Message  -- what is on its way to a port, the next to come first
  pub count : ℕ → ℕ → ℕ  -- the change count of a port
  pub taken : ℕ → ℕ → Option TakenLacpdu  -- the LACPDU that a port took last
  pub source : ℕ → ℕ → Option Place  -- the port that this came from, at the other end of the cable then; None: it came from outside
  pub moved : ℕ → ℕ → Moved
  pub sent : ℕ → ℕ → ℕ → List ℕ  -- the serials that a conversation of a system sent
  pub collected : ℕ → ℕ → ℕ → List ℕ  -- those of them that were handed up, at whatever systems, in the order of time
  pub arrived : ℕ → ℕ → ℕ → ℕ → ℕ → List ℕ  -- those that were handed up at one system (the first) in one aggregator (the second)
  pub forced : ℕ → ℕ → ℕ → Bool  -- whether a conversation was ever forced

-- all systems have just started, and every cable is whole and empty
abbrev pub first_network : NetworkSetup → Network
first_network x = record {
  view = λ s. first_view (x.setup s);
  whole = λ s p. true;
  towards = λ s p. [];
  count = λ s p. 0;
  taken = λ s p. None;
  source = λ s p. None;
  moved = λ s p. Unmoved;
  sent = λ s g k. [];
  collected = λ s g k. [];
  arrived = λ t h s g k. [];
  forced = λ s g k. false;
}

-- the function f, with the value x at s
abbrev pub at_system : {X : Type 0} → (ℕ → X) → ℕ → X → ℕ → X
at_system f s x t = cond (eqb t s) x (f t)

-- the function f, with the value x at port p of system s
abbrev pub at_place : {X : Type 0} → (ℕ → ℕ → X) → ℕ → ℕ → X → ℕ → ℕ → X
at_place f s p x t q = cond (eqb t s && eqb q p) x (f t q)

-- the place is port q of system t
abbrev pub is_place : Option Place → ℕ → ℕ → Bool
is_place None t q = false
is_place (Some a) t q = eqb t a.system && eqb q a.port

-- the place is at system s
abbrev pub is_at : ℕ → Option Place → Bool
is_at s None = false
is_at s (Some a) = eqb a.system s

-- port q of system t is an end of the cable of port p of system s
abbrev pub is_end : NetworkSetup → ℕ → ℕ → ℕ → ℕ → Bool
is_end x s p t q = cond (eqb t s && eqb q p) true (is_place (x.far s p) t q)

-- the cable of port q of system t ends at system s
abbrev pub ends_at : NetworkSetup → ℕ → ℕ → ℕ → Bool
ends_at x s t q = cond (eqb t s) true (is_at s (x.far t q))

-- m joins what is on its way to the other end of the cable of port p of system s, if there is a cable, if it is whole and if
-- it accepts m (`accepted`); else m is lost
abbrev pub put_on_line : NetworkSetup → (ℕ → ℕ → Bool) → Bool → ℕ → ℕ → Message → (ℕ → ℕ → List Message) → ℕ → ℕ → List Message
put_on_line x whole accepted s p m towards t q =
    cond (accepted && (whole s p && is_place (x.far s p) t q)) (towards t q ++ m ∷ []) (towards t q)

-- what is on the cables after a visible act of system s. A frame comes from the other end of the line that it is on, so
-- the origin in it says nothing: it is One throughout.
abbrev pub towards_after : NetworkSetup → ℕ → (ℕ → ℕ → Bool) → (ℕ → ℕ) → (ℕ → ℕ → List ℕ) → Bool → Option Act
    → (ℕ → ℕ → List Message) → ℕ → ℕ → List Message
towards_after x s whole count sent accepted None towards = towards
towards_after x s whole count sent accepted (Some (Sends p pdu)) towards =
    put_on_line x whole accepted s p (Control pdu (stamp_of pdu (count p))) towards
towards_after x s whole count sent accepted (Some (Sends_frame p g k)) towards =
    put_on_line x whole accepted s p (Data One g k (length (sent g k))) towards
towards_after x s whole count sent accepted (Some (Took p pdu)) towards = towards

-- the port that the LACPDU came from which each port took last: if one takes one in this act, the port at the other end of its cable
abbrev pub source_after : (ℕ → Option Place) → Option Act → (ℕ → Option Place) → ℕ → Option Place
source_after far None source = source
source_after far (Some (Sends p pdu)) source = source
source_after far (Some (Sends_frame p g k)) source = source
source_after far (Some (Took p pdu)) source = λ q. cond (eqb q p) (far p) (source q)

-- The network after a visible act of system s, but for its view. `accepted`: whether the cable accepts what it sends. `stamp`: the stamp
-- of what came in this call.
abbrev pub network_after_act : NetworkSetup → ℕ → ℕ → Bool → Option Act → Network → Network
network_after_act x s stamp accepted seen w = record w {
  towards = towards_after x s w.whole (w.count s) (w.sent s) accepted seen w.towards;
  sent = at_system w.sent s (sent_after seen (w.sent s));
  taken = at_system w.taken s (taken_after stamp seen (w.taken s));
  source = at_system w.source s (source_after (x.far s) seen (w.source s));
}

-- the network after one move of system s
abbrev pub network_after : NetworkSetup → ℕ → ℕ → Move × Bool → Network → Network
network_after x s stamp m w = record (network_after_act x s stamp m.1 (act (x.setup s) m.0 (w.view s)) w) {
  view = at_system w.view s (view_after (x.setup s) m.0 (w.view s));
}

-- moves of system s one after another are allowed; each says whether the cable accepts what it sends
abbrev pub AllNetworkMoves : NetworkSetup → ℕ → ModelCall → ℕ → List (Move × Bool) → Network → Type 0
AllNetworkMoves x s call stamp [] w = Unit {0}
AllNetworkMoves x s call stamp (m ∷ ms) w =
    MoveAllowed (x.setup s) call (w.view s) m.0 × AllNetworkMoves x s call stamp ms (network_after x s stamp m w)

-- the network after these moves
abbrev pub network_after_all : NetworkSetup → ℕ → ℕ → List (Move × Bool) → Network → Network
network_after_all x s stamp [] w = w
network_after_all x s stamp (m ∷ ms) w = network_after_all x s stamp ms (network_after x s stamp m w)

-- the change counts after an event: one more for each port whose own parameters differ
abbrev pub CountsNetworkChanges : Network → Network → (ℕ → ℕ → ℕ) → Type 0
CountsNetworkChanges old new count =
    (s p : ℕ) →
    ((party_at (new.view s) p ≡ party_at (old.view s) p) × (count s p ≡ old.count s p))
    ⊎ ((party_at (new.view s) p ≢ party_at (old.view s) p) × (count s p ≡ suc (old.count s p)))

-- a call of system s, within an event that began in the network old
abbrev pub NetworkCall : NetworkSetup → ℕ → ModelCall → ℕ → Network → Network → Network → Type 0
NetworkCall x s call stamp old mid new =
    (moves : List (Move × Bool)) × AllNetworkMoves x s call stamp moves mid
    × ((count : ℕ → ℕ → ℕ) × CountsNetworkChanges old (network_after_all x s stamp moves mid) count
    × (new ≡ record (network_after_all x s stamp moves mid) { count = count }))

-- An event: those of two systems, with a port in the place of a cable and its end; Cut and Join name either end. Frees: each
-- conversation of the system that passes the test is forced. Overtake: an LACPDU on its way to the port goes by what is before it.
-- Succeed: another system, with this configuration, takes the place of the system, as after a warm start. Hear: a port without a cable of this network hears
-- anything at all (None: what is no control PDU), as from a system that keeps no law. Pull: the cable of the port is taken out, at both
-- ends. Plug: two ports that have none get a cable. Both may happen at any time, whether the ports see it or not.
pub data NetworkEvent : Type 0 where
  Tick : (s : ℕ) (ticks : ℕ) → NetworkEvent
  Emit : (s port : ℕ) → NetworkEvent
  Deliver : (s port : ℕ) → NetworkEvent
  Lose : (s port : ℕ) → NetworkEvent
  Repeat : (s port : ℕ) → NetworkEvent
  Cut : (s port : ℕ) → NetworkEvent
  Join : (s port : ℕ) → NetworkEvent
  Sense : (s port : ℕ) → NetworkEvent
  Restart : (s : ℕ) → NetworkEvent
  Configure : (s port : ℕ) (change : PartyChange) → NetworkEvent
  Offer : (s aggregator : ℕ) (frame : List ℕ) → NetworkEvent
  Move_conversation : (s aggregator conversation port : ℕ) → NetworkEvent
  Force : (s aggregator conversation : ℕ) → NetworkEvent
  Frees : (s : ℕ) (test : ℕ → ℕ → Bool) → NetworkEvent
  Overtake : (s port : ℕ) (line : List Message) → NetworkEvent
  Succeed : (s : ℕ) (setup : SystemSetup) (after : View) → NetworkEvent
  Hear : (s port : ℕ) (pdu : Option ControlMessage) (stamp : ℕ) → NetworkEvent
  Pull : (s port : ℕ) → NetworkEvent
  Plug : (s port t other : ℕ) → NetworkEvent

-- the cables and the configurations after an event: Pull and Plug change cables, Succeed the configuration of a system
abbrev pub recabled : NetworkSetup → NetworkEvent → NetworkSetup
recabled x (Pull s p) = record x { far = λ t q. cond (is_end x s p t q) None (x.far t q) }
recabled x (Plug s p t q) = record x {
  far = at_place (at_place x.far s p (Some (record { system = t; port = q }))) t q (Some (record { system = s; port = p }));
}
recabled x (Succeed s setup after) = record x { setup = at_system x.setup s setup }
recabled x e = x

abbrev pub recabled_all : NetworkSetup → List NetworkEvent → NetworkSetup
recabled_all x [] = x
recabled_all x (e ∷ es) = recabled_all (recabled x e) es

-- how a port is when its cable is moved
abbrev pub moved_of : Option PortFacts → Moved
moved_of None = Moved_down
moved_of (Some a) = cond a.defaulted Moved_down (cond a.synchronized Moved_up Moved_down)

-- how a port is that follows one whose cable was moved while it was down, and which is so now: if it is up, it came up by that cable
abbrev pub follows_down : Moved → Moved → Moved
follows_down Moved_up next = Unmoved
follows_down now next = next

-- how one is that takes the place of a port, of which this is known, with what the port is now, and what it is then
abbrev pub moved_again : Moved → Option PortFacts → Option PortFacts → Moved
moved_again Unmoved now next = Unmoved
moved_again Moved_down now next = follows_down (moved_of now) (moved_of next)
moved_again Moved_up now next = moved_of next

-- the cable of port p of system s is moved: nothing is on it, and it is whole or not
abbrev pub with_cable_moved : NetworkSetup → Bool → ℕ → ℕ → Network → Network
with_cable_moved x whole s p w = record w {
  whole = λ t q. cond (is_end x s p t q) whole (w.whole t q);
  towards = λ t q. cond (is_end x s p t q) [] (w.towards t q);
  moved = λ t q. cond (is_end x s p t q) (moved_of ((w.view t).port q)) (w.moved t q);
}

-- the first message on its way to port p of system s is taken away
abbrev pub without_first : ℕ → ℕ → Network → Network
without_first s p w = record w { towards = at_place w.towards s p (drop 1 (w.towards s p)) }

-- A frame with this serial, of conversation k of aggregator g of the system at the other end of the cable, is handed up at
-- system t in this aggregator, or dropped.
abbrev pub handed_up_from : ℕ → Option Place → Option ℕ → ℕ → ℕ → ℕ → Network → Network
handed_up_from t None up g k serial w = w
handed_up_from t (Some a) None g k serial w = w
handed_up_from t (Some a) (Some h) g k serial w = record w {
  collected = at_system w.collected a.system (at_two (w.collected a.system) g k (w.collected a.system g k ++ serial ∷ []));
  arrived = at_place w.arrived t h
      (at_system (w.arrived t h) a.system (at_two (w.arrived t h a.system) g k (w.arrived t h a.system g k ++ serial ∷ [])));
}

-- the first message is received, and then taken away
abbrev pub DeliversFirstAt : NetworkSetup → ℕ → ℕ → List Message → Network → Network → Type 0
DeliversFirstAt x s p [] old new = new ≡ old
DeliversFirstAt x s p (Control pdu stamp ∷ ms) old new =
    (mid : Network) × NetworkCall x s (ModelCall.Receive p (Some pdu)) stamp old old mid × (new ≡ without_first s p mid)
DeliversFirstAt x s p (Data origin g k serial ∷ ms) old new =
    (up : Option ℕ) × (mid : Network) × NetworkCall x s (ModelCall.Receive p None) 0 old old mid
    × (new ≡ handed_up_from s (x.far s p) up g k serial (without_first s p mid))

-- the first message is received, but stays; a frame is never repeated
abbrev pub RepeatsFirstAt : NetworkSetup → ℕ → ℕ → List Message → Network → Network → Type 0
RepeatsFirstAt x s p [] old new = new ≡ old
RepeatsFirstAt x s p (Data origin g k serial ∷ ms) old new = new ≡ old
RepeatsFirstAt x s p (Control pdu stamp ∷ ms) old new = NetworkCall x s (ModelCall.Receive p (Some pdu)) stamp old old new

-- the conversations that pass the test are free, and count as forced
abbrev pub freed_view : (ℕ → ℕ → Bool) → View → View
freed_view test v = record v { flows = record (v.flows) { state = λ g k. cond (test g k) Free (v.flows.state g k) } }

abbrev pub also_forced : (ℕ → ℕ → Bool) → (ℕ → ℕ → Bool) → ℕ → ℕ → Bool
also_forced test forced g k = cond (test g k) true (forced g k)

-- The system with this view may take the place of system s, as in lagmodel; its ports have the own parameters that they had, and none that
-- is in an aggregator has its own system as its partner.
pub record IsNetworkSuccessor (x : NetworkSetup) (w : Network) (s : ℕ) (after : View) : Type 0 where
  pub follows : IsSuccessor (x.setup s) (w.view s) (w.taken s) after
  pub parties : KeepsParties (w.view s) after
  pub apart : (p : ℕ) (a : PortFacts) → after.port p ≡ Some a → IsSome a.aggregator → a.partner.system ≢ a.party.system

-- From old, the event may lead to new.
abbrev pub NetworkHappens : NetworkSetup → NetworkEvent → Network → Network → Type 0
NetworkHappens x (Tick s n) old new = NetworkCall x s ModelCall.Tick 0 old old new
NetworkHappens x (Emit s p) old new = NetworkCall x s ModelCall.Transmit 0 old old new
NetworkHappens x (Deliver s p) old new = DeliversFirstAt x s p (old.towards s p) old new
NetworkHappens x (Lose s p) old new = new ≡ without_first s p old
NetworkHappens x (Repeat s p) old new = RepeatsFirstAt x s p (old.towards s p) old new
-- a cut loses what is on the cable
NetworkHappens x (Cut s p) old new = new ≡ record old {
  whole = λ t q. cond (is_end x s p t q) false (old.whole t q);
  towards = λ t q. cond (is_end x s p t q) [] (old.towards t q);
}
NetworkHappens x (Join s p) old new = new ≡ record old { whole = λ t q. cond (is_end x s p t q) true (old.whole t q) }
NetworkHappens x (Sense s p) old new = NetworkCall x s (ModelCall.Set_link p (old.whole s p)) 0 old old new
-- a restart loses what is on the cables of the system, and on no other
NetworkHappens x (Restart s) old new =
    (count : ℕ → ℕ → ℕ)
    × CountsNetworkChanges old (record old {
      view = at_system old.view s (first_view (x.setup s));
      towards = λ t q. cond (ends_at x s t q) [] (old.towards t q);
    }) count
    × (new ≡ record old {
      view = at_system old.view s (first_view (x.setup s));
      towards = λ t q. cond (ends_at x s t q) [] (old.towards t q);
      count = count;
    })
NetworkHappens x (Configure s p change) old new = NetworkCall x s ModelCall.Configure 0 old old new
NetworkHappens x (Offer s g frame) old new = NetworkCall x s ModelCall.Offer 0 old old new
NetworkHappens x (Move_conversation s g k p) old new = NetworkCall x s ModelCall.Move_conversation 0 old old new
NetworkHappens x (Force s g k) old new =
    (new ≡ old)
    ⊎ NetworkCall x s (ModelCall.Force g k) 0 old (record old { forced = at_system old.forced s (at_two (old.forced s) g k true) }) new
NetworkHappens x (Frees s test) old new = new ≡ record old {
  view = at_system old.view s (freed_view test (old.view s));
  forced = at_system old.forced s (also_forced test (old.forced s));
}
NetworkHappens x (Overtake s p line) old new =
    Overtakes (old.towards s p) line × (new ≡ record old { towards = at_place old.towards s p line })
NetworkHappens x (Succeed s setup after) old new = IsAlikeSetup (x.setup s) setup × IsNetworkSuccessor x old s after × (new ≡ record old {
  view = at_system old.view s after;
  moved = at_system old.moved s (λ p. moved_again (old.moved s p) ((old.view s).port p) (after.port p));
})
NetworkHappens x (Hear s p pdu stamp) old new = (x.far s p ≡ None) × NetworkCall x s (ModelCall.Receive p pdu) stamp old old new
NetworkHappens x (Pull s p) old new = new ≡ with_cable_moved x false s p old
NetworkHappens x (Plug s p t q) old new =
    (x.far s p ≡ None) × (x.far t q ≡ None) × (new ≡ with_cable_moved (recabled x (Plug s p t q)) true s p old)

-- a run: events one after another, from these cables
abbrev pub NetworkRun : NetworkSetup → List NetworkEvent → Network → Network → Type 0
NetworkRun x [] old new = new ≡ old
NetworkRun x (e ∷ es) old new = (mid : Network) × NetworkHappens x e old mid × NetworkRun (recabled x e) es mid new

-- The network after these visible acts of a call of system s that ended in the view v. `accepts`: whether the cable accepts what an act
-- sends.
abbrev pub network_after_acts : NetworkSetup → ℕ → ℕ → (Act → Bool) → List Act → View → Network → Network
network_after_acts x s stamp accepts [] v w = record w { view = at_system w.view s v }
network_after_acts x s stamp accepts (a ∷ more) v w =
    network_after_acts x s stamp accepts more v (network_after_act x s stamp (accepts a) (Some a) w)
