-- Two systems joined by cables, and what can happen to them (profile; links are point-to-point: LACP_Enabled of 6.4.8).
use Rattle.std.specs.Prelude.{◌≡◌, ◌≢◌, ℕ, zero, suc, Bool, true, false, ◌&&◌, cond, eqb, ◌⊎◌, Option, Some, None, option_map, List, []}
use Rattle.std.specs.Prelude.{◌∷◌, ◌++◌, length, slice_get}
use Rattle.lagtypes.specs.declared.party.Party.{Party}
use Rattle.lagmodel.specs.View.{PortFacts, PartyChange, View, SystemSetup, IsSystemSetup, first_view, LacpMessage, ControlMessage, Lacp}
use Rattle.lagmodel.specs.View.{Marker, Response, ModelCall}
use Rattle.lagmodel.specs.Move.{Act, Sends, Sends_frame, Took, Move, MoveAllowed, view_after, act}

-- the two systems
pub data Side : Type 0 where
  One : Side
  Two : Side

-- the other one of the two systems
abbrev pub peer : Side → Side
peer One = Two
peer Two = One

-- the function f, with the value x at s
abbrev pub at_side : {X : Type 0} → (Side → X) → Side → X → Side → X
at_side f One x One = x
at_side f One x Two = f Two
at_side f Two x One = f One
at_side f Two x Two = x

-- the function f, with the value x at g and k
abbrev pub at_two : {X : Type 0} → (ℕ → ℕ → X) → ℕ → ℕ → X → ℕ → ℕ → X
at_two f g k x h j = cond (eqb h g) (cond (eqb j k) x (f h j)) (f h j)

-- A message on a cable: a control PDU with a stamp, which for an LACPDU is its sender's change count and else 0; or a
-- frame, with the system that sent it, its aggregator, conversation and serial number (6.2.4).
pub data Message : Type 0 where
  Control : (pdu : ControlMessage) (stamp : ℕ) → Message
  Data : (origin : Side) (aggregator conversation serial : ℕ) → Message

-- the ports that a cable joins, of system One and of system Two
pub record Ends : Type 0 where
  pub one : ℕ
  pub two : ℕ

-- the port at system s
abbrev pub port_on : Side → Ends → ℕ
port_on One e = e.one
port_on Two e = e.two

-- the port of system s on cable c; cables are numbered from 1
abbrev pub end_at : List Ends → Side → ℕ → Option ℕ
end_at cables s zero = None
end_at cables s (suc c) = option_map (port_on s) (slice_get cables c)

-- no port has two cables
abbrev pub IsCabling : List Ends → Type 0
IsCabling cables = (s : Side) (c d p : ℕ) → end_at cables s c ≡ Some p → end_at cables s d ≡ Some p → c ≡ d

-- an LACPDU that a port took (received and processed), with its stamp
pub record TakenLacpdu : Type 0 where
  pub pdu : LacpMessage
  pub stamp : ℕ

-- two systems and their cables, with what has happened so far
pub record World : Type 0 where
  pub view : Side → View
  pub whole : ℕ → Bool  -- whether a cable is whole, that is, not cut
  pub on_cable : Side → ℕ → List Message  -- what is on a cable towards a system, the next to come first
  pub count : Side → ℕ → ℕ  -- the change count of a port
  pub taken : Side → ℕ → Option TakenLacpdu  -- the LACPDU that a port took last
  pub sent : Side → ℕ → ℕ → List ℕ  -- the serials that a conversation of a system sent
  pub collected : Side → ℕ → ℕ → List ℕ  -- those of them that were handed up at the other system
  pub forced : Side → ℕ → ℕ → Bool  -- whether a conversation was ever forced

-- what never changes: both configurations, and the cables
pub record WorldSetup : Type 0 where
  pub setup : Side → SystemSetup
  pub cables : List Ends

-- What the theorem requires of them: the own parameters of each port name its system and that port, and no port has two
-- cables. The systems may be equal, and a cable may end at a port that does not exist.
pub record IsWorldSetup (x : WorldSetup) : Type 0 where
  pub setup : (s : Side) → IsSystemSetup (x.setup s)
  pub cables : IsCabling x.cables

-- both systems have just started, and every cable is whole and empty
abbrev pub first_world : WorldSetup → World
first_world x = record {
  view = λ s. first_view (x.setup s);
  whole = λ c. true;
  on_cable = λ s c. [];
  count = λ s p. 0;
  taken = λ s p. None;
  sent = λ s g k. [];
  collected = λ s g k. [];
  forced = λ s g k. false;
}

-- the own parameters of a port
abbrev pub party_at : View → ℕ → Option Party
party_at v p = option_map (λ (a : PortFacts). a.party) (v.port p)

-- the stamp of a control PDU whose sender has this change count: that count for an LACPDU, else 0
abbrev pub stamp_of : ControlMessage → ℕ → ℕ
stamp_of (Lacp pdu) count = count
stamp_of (Marker mac port identifier) count = 0
stamp_of (Response mac port identifier) count = 0

-- this end of a cable is port p
abbrev pub is_port : ℕ → Option ℕ → Bool
is_port p None = false
is_port p (Some q) = eqb q p

-- m joins the messages on the cable of port p, if there is one, if it is whole and if it accepts m (`accepted`); else m is
-- lost
abbrev pub put_on_cable : (ℕ → Option ℕ) → (ℕ → Bool) → Bool → ℕ → Message → (ℕ → List Message) → ℕ → List Message
put_on_cable ends whole accepted p m lines c = cond (accepted && (whole c && is_port p (ends c))) (lines c ++ m ∷ []) (lines c)

-- The next three: the messages on the cables, the serial numbers sent and the LACPDUs taken last, after a visible
-- act of system s.
-- `accepted`: whether the cable accepts what is sent. `stamp`: the stamp of what came in this call.
abbrev pub on_cable_after : Side → (ℕ → Option ℕ) → (ℕ → Bool) → (ℕ → ℕ) → (ℕ → ℕ → List ℕ) → Bool → Option Act → (ℕ → List Message) → ℕ
    → List Message
on_cable_after s ends whole count sent accepted None lines = lines
on_cable_after s ends whole count sent accepted (Some (Sends p pdu)) lines = put_on_cable ends whole accepted p
    (Control pdu (stamp_of pdu (count p))) lines
on_cable_after s ends whole count sent accepted (Some (Sends_frame p g k)) lines = put_on_cable ends whole accepted p
    (Data s g k (length (sent g k))) lines
on_cable_after s ends whole count sent accepted (Some (Took p pdu)) lines = lines

-- the serial numbers that each conversation sent: one more for a conversation that sends a frame
abbrev pub sent_after : Option Act → (ℕ → ℕ → List ℕ) → ℕ → ℕ → List ℕ
sent_after None sent = sent
sent_after (Some (Sends p pdu)) sent = sent
sent_after (Some (Sends_frame p g k)) sent = at_two sent g k (sent g k ++ length (sent g k) ∷ [])
sent_after (Some (Took p pdu)) sent = sent

-- the LACPDU that each port took last: if a port takes one in this act, that one with the stamp of what came
abbrev pub taken_after : ℕ → Option Act → (ℕ → Option TakenLacpdu) → ℕ → Option TakenLacpdu
taken_after stamp None taken = taken
taken_after stamp (Some (Sends p pdu)) taken = taken
taken_after stamp (Some (Sends_frame p g k)) taken = taken
taken_after stamp (Some (Took p pdu)) taken = λ q. cond (eqb q p) (Some (record { pdu = pdu; stamp = stamp })) (taken q)

-- the world after one move of system s
abbrev pub world_after : WorldSetup → Side → ℕ → Move × Bool → World → World
world_after x s stamp m w = record w {
  view = at_side w.view s (view_after (x.setup s) m.0 (w.view s));
  on_cable = at_side w.on_cable (peer s) (on_cable_after s (end_at x.cables s) w.whole (w.count s) (w.sent s) m.1
      (act (x.setup s) m.0 (w.view s))
      (w.on_cable (peer s)));
  sent = at_side w.sent s (sent_after (act (x.setup s) m.0 (w.view s)) (w.sent s));
  taken = at_side w.taken s (taken_after stamp (act (x.setup s) m.0 (w.view s)) (w.taken s));
}

-- moves of system s one after another are allowed; each says whether the cable accepts what it sends
abbrev pub AllMoves : WorldSetup → Side → ModelCall → ℕ → List (Move × Bool) → World → Type 0
AllMoves x s call stamp [] w = Unit {0}
AllMoves x s call stamp (m ∷ ms) w = MoveAllowed (x.setup s) call (w.view s) m.0 × AllMoves x s call stamp ms (world_after x s stamp m w)

-- the world after these moves
abbrev pub world_after_all : WorldSetup → Side → ℕ → List (Move × Bool) → World → World
world_after_all x s stamp [] w = w
world_after_all x s stamp (m ∷ ms) w = world_after_all x s stamp ms (world_after x s stamp m w)

-- the change counts after an event: one more for each port whose own parameters differ
abbrev pub CountsChanges : World → World → (Side → ℕ → ℕ) → Type 0
CountsChanges old new count =
    (s : Side) (p : ℕ) →
    ((party_at (new.view s) p ≡ party_at (old.view s) p) × (count s p ≡ old.count s p))
    ⊎ ((party_at (new.view s) p ≢ party_at (old.view s) p) × (count s p ≡ suc (old.count s p)))

-- The event that began in the world old led to mid; with the change counts worked out, that is new.
abbrev pub AfterCounting : World → World → World → Type 0
AfterCounting old mid new = (count : Side → ℕ → ℕ) × CountsChanges old mid count × (new ≡ record mid { count = count })

-- A call of system s, made in the world mid, within an event that began in the world old.
abbrev pub CallHappens : WorldSetup → Side → ModelCall → ℕ → World → World → World → Type 0
CallHappens x s call stamp old mid new =
    (moves : List (Move × Bool)) × AllMoves x s call stamp moves mid × AfterCounting old (world_after_all x s stamp moves mid) new

-- An event. Some arguments matter only to code: the moves of the call do not depend on them, so the theorem covers more
-- runs than code can make.
pub data Event : Type 0 where
  Tick : (s : Side) (ticks : ℕ) → Event
  Emit : (s : Side) (port : ℕ) → Event
  Deliver : (cable : ℕ) (to : Side) → Event
  Lose : (cable : ℕ) (to : Side) → Event
  Repeat : (cable : ℕ) (to : Side) → Event
  Cut : (cable : ℕ) → Event
  Join : (cable : ℕ) → Event
  Sense : (cable : ℕ) (s : Side) → Event
  Restart : (s : Side) → Event
  Configure : (s : Side) (port : ℕ) (change : PartyChange) → Event
  Offer : (s : Side) (aggregator : ℕ) (frame : List ℕ) → Event
  Move_conversation : (s : Side) (aggregator conversation port : ℕ) → Event
  Force : (s : Side) (aggregator conversation : ℕ) → Event

-- the function f, with the value x at cable c
abbrev pub at_cable : {X : Type 0} → (ℕ → X) → ℕ → X → ℕ → X
at_cable f c x d = cond (eqb d c) x (f d)

-- the messages on cable c towards a system become ms
abbrev pub with_messages : World → ℕ → Side → List Message → World
with_messages w c to ms = record w { on_cable = at_side w.on_cable to (at_cable (w.on_cable to) c ms) }

-- a frame is handed up, or dropped
abbrev pub handed_up : Bool → Message → World → World
handed_up up (Control pdu stamp) w = w
handed_up up (Data origin g k serial) w =
    cond up (record w { collected = at_side w.collected origin (at_two (w.collected origin) g k (w.collected origin g k ++ serial ∷ [])) })
    w

-- the message m is received on port p of system s
abbrev pub Receives : WorldSetup → Side → ℕ → Message → World → World → World → Type 0
Receives x s p (Control pdu stamp) old mid new = CallHappens x s (ModelCall.Receive p (Some pdu)) stamp old mid new
Receives x s p (Data origin g k serial) old mid new =
    (up : Bool) × CallHappens x s (ModelCall.Receive p None) 0 old (handed_up up (Data origin g k serial) mid) new

-- the first message of a list is taken off and received at the cable's end
abbrev pub DeliversFirst : WorldSetup → ℕ → Side → Option ℕ → List Message → World → World → Type 0
DeliversFirst x c to port [] old new = new ≡ old
DeliversFirst x c to None (m ∷ ms) old new = ⊥
DeliversFirst x c to (Some p) (m ∷ ms) old new = Receives x to p m old (with_messages old c to ms) new

-- the first message of a list is received at the cable's end, but stays on the cable; a frame is never repeated
abbrev pub RepeatsFirst : WorldSetup → ℕ → Side → Option ℕ → List Message → World → World → Type 0
RepeatsFirst x c to port [] old new = new ≡ old
RepeatsFirst x c to port (Data origin g k serial ∷ ms) old new = new ≡ old
RepeatsFirst x c to None (Control pdu stamp ∷ ms) old new = ⊥
RepeatsFirst x c to (Some p) (Control pdu stamp ∷ ms) old new = Receives x to p (Control pdu stamp) old old new

-- the first message of a list is lost
abbrev pub LosesFirst : ℕ → Side → List Message → World → World → Type 0
LosesFirst c to [] old new = new ≡ old
LosesFirst c to (m ∷ ms) old new = new ≡ with_messages old c to ms

-- system s learns whether its cable is whole
abbrev pub SensesCable : WorldSetup → Side → Option ℕ → Bool → World → World → Type 0
SensesCable x s None up old new = ⊥
SensesCable x s (Some p) up old new = CallHappens x s (ModelCall.Set_link p up) 0 old old new

-- From old, the event may lead to new.
abbrev pub Happens : WorldSetup → Event → World → World → Type 0
-- several ticks are one list of moves
Happens x (Tick s n) old new = CallHappens x s ModelCall.Tick 0 old old new
Happens x (Emit s p) old new = CallHappens x s ModelCall.Transmit 0 old old new
Happens x (Deliver c to) old new = DeliversFirst x c to (end_at x.cables to c) (old.on_cable to c) old new
Happens x (Lose c to) old new = LosesFirst c to (old.on_cable to c) old new
Happens x (Repeat c to) old new = RepeatsFirst x c to (end_at x.cables to c) (old.on_cable to c) old new
-- a cut loses what is on the cable
Happens x (Cut c) old new =
    new ≡ record old { whole = at_cable old.whole c false; on_cable = λ s. at_cable (old.on_cable s) c [] }
Happens x (Join c) old new = new ≡ record old { whole = at_cable old.whole c true }
Happens x (Sense c s) old new = SensesCable x s (end_at x.cables s c) (old.whole c) old new
-- every cable joins both systems, so a restart of either loses what is on all cables
Happens x (Restart s) old new =
    AfterCounting old (record old { view = at_side old.view s (first_view (x.setup s)); on_cable = λ t c. [] }) new
Happens x (Configure s p change) old new = CallHappens x s ModelCall.Configure 0 old old new
Happens x (Offer s g frame) old new = CallHappens x s ModelCall.Offer 0 old old new
Happens x (Move_conversation s g k p) old new = CallHappens x s ModelCall.Move_conversation 0 old old new
-- the force is refused, or the conversation counts as forced from now on
Happens x (Force s g k) old new =
    (new ≡ old)
    ⊎ CallHappens x s (ModelCall.Force g k) 0 old (record old { forced = at_side old.forced s (at_two (old.forced s) g k true) }) new

-- a run: events one after another
abbrev pub Run : WorldSetup → List Event → World → World → Type 0
Run x [] old new = new ≡ old
Run x (e ∷ es) old new = (mid : World) × Happens x e old mid × Run x es mid new
