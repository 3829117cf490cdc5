-- The lawful moves of a system in the model. One call of a system is a list of moves (profile). The model has no timers
-- and no machine states: a port may stop, leave its aggregator or fall back to defaults at any moment. Restricted are
-- only which LACPDU a port believes, when it joins an aggregator, when it starts to distribute, on which port a
-- conversation sends, and when a conversation becomes free.
use Rattle.std.specs.Prelude.{◌≡◌, ◌≢◌, ℕ, ◌+◌, ◌<◌, ◌^◌, Bool, true, false, ◌&&◌, cond, eqb, ◌⊎◌, Option, Some, None, option_to_list}
use Rattle.std.specs.Prelude.{IsSome, IsSomeAnd, List, [], ◌∷◌, ◌++◌}
use Rattle.lagtypes.specs.declared.party.Party.{Party}
use Rattle.lagtypes.specs.Group.{individual, Pair, SamePair, pair_of}
use Rattle.lagmodel.specs.View.{zero_party, PortFacts, Conversation, Free, On, Wanted, Flushing, conversation_port, DistributorFacts}
use Rattle.lagmodel.specs.View.{View, SystemSetup, first_view, LacpMessage, ControlMessage, Lacp, Marker, Response, ModelCall, Receive}
use Rattle.lagmodel.specs.View.{Set_link, Force, replies_frame, is_restart, at_port, at_conversation}

-- a visible act of a move: a control PDU or a frame of a conversation that goes out on a port, or an LACPDU that a port
-- received (profile)
pub data Act : Type 0 where
  Sends : (port : ℕ) (pdu : ControlMessage) → Act
  Sends_frame : (port aggregator conversation : ℕ) → Act
  Took : (port : ℕ) (pdu : LacpMessage) → Act

-- the moves of one port
pub data PortMove : Type 0 where
  Stop : PortMove  -- 6.4.15
  Leave : PortMove  -- 6.4.8, Selected; 6.4.15, DETACHED
  Desynchronize : PortMove  -- 6.4.12, EXPIRED and PORT_DISABLED
  Reconfigure : (party : Party) → PortMove  -- 6.4.7; 6.4.12, INITIALIZE
  Default : PortMove  -- 6.4.9, recordDefault; 6.4.12, DEFAULTED
  Take : (pdu : LacpMessage) (synchronized : Bool) → PortMove  -- 6.4.9, recordPDU and update_Selected; 6.4.12, CURRENT
  Join : (aggregator : ℕ) → PortMove  -- 6.4.14
  Distribute : PortMove  -- 6.4.15, COLLECTING_DISTRIBUTING
  Announce : (synchronized : Bool) → PortMove  -- 6.4.16
  Respond : (mac : List ℕ) (port identifier : ℕ) → PortMove  -- 6.2.6, 6.5.4

-- the port's group, as a pair of ends: its own parameters and its recorded partner's (6.3.6)
abbrev pub pair_at : PortFacts → Pair
pair_at a = pair_of a.party a.partner

-- the moves that the port a may make; p is its number, and the function gives all ports of the system
abbrev pub PortAllowed : SystemSetup → ModelCall → (ℕ → Option PortFacts) → ℕ → PortMove → PortFacts → Type 0
-- at any moment it stops distributing, leaves its aggregator, or records that its partner is not synchronized
PortAllowed u call ports p Stop a = Unit {0}
PortAllowed u call ports p Leave a = Unit {0}
PortAllowed u call ports p Desynchronize a = Unit {0}
-- outside every aggregator, and only in a configure, it gets other parameters and a defaulted partner
PortAllowed u call ports p (Reconfigure party) a =
    (call ≡ ModelCall.Configure) × (a.aggregator ≡ None) × (party.system ≡ a.party.system) × (party.port.number ≡ a.party.port.number)
-- its partner is defaulted, outside every aggregator or if its partner is all zero already
PortAllowed u call ports p Default a = (a.aggregator ≡ None) ⊎ (a.partner ≡ zero_party)
-- It receives the LACPDU that comes on it; outside every aggregator if its Actor is another partner. The partner is
-- recorded as synchronized only if the LACPDU says so, and either names this port as its Partner or has an Individual
-- Actor.
PortAllowed u call ports p (Take pdu synchronized) a =
    (call ≡ Receive p (Some (Lacp pdu)))
    × ((pdu.actor ≡ a.partner) ⊎ (a.aggregator ≡ None))
    × (synchronized ≡ true → (pdu.synchronized ≡ true) × ((pdu.partner ≡ a.party) ⊎ (pdu.actor.aggregatable ≡ false)))
-- It joins an aggregator that has its key and either no member or only members of its group, which is not Individual. A
-- system is not aggregated with itself (profile).
PortAllowed u call ports p (Join g) a =
    (a.aggregator ≡ None)
    × (a.partner.system ≢ a.party.system)
    × (u.key g ≡ Some a.party.key)
    × (((q : ℕ) (b : PortFacts) → ports q ≡ Some b → b.aggregator ≢ Some g)
    ⊎ (((q : ℕ) (b : PortFacts) → ports q ≡ Some b → b.aggregator ≡ Some g → SamePair (pair_at b) (pair_at a))
    × (individual a.party a.partner ≡ false)))
-- a member whose partner is recorded as synchronized starts to distribute
PortAllowed u call ports p Distribute a = IsSome a.aggregator × (a.synchronized ≡ true)
-- it sends an LACPDU with its own and its partner's parameters as they are now; this says IN_SYNC only if the port is a
-- member
PortAllowed u call ports p (Announce synchronized) a = (replies_frame call ≡ true) × (synchronized ≡ true → IsSome a.aggregator)
-- it answers the marker that comes on it
PortAllowed u call ports p (Respond mac port identifier) a = call ≡ Receive p (Some (Marker mac port identifier))

-- the port after its move
abbrev pub port_after : PortMove → PortFacts → PortFacts
port_after Stop a = record a { distributes = false }
port_after Leave a = record a { aggregator = None; distributes = false }
port_after Desynchronize a = record a { synchronized = false; distributes = false }
port_after (Reconfigure party) a = record a { party = party; partner = zero_party; synchronized = true; defaulted = true }
port_after Default a = record a { partner = zero_party; synchronized = true; defaulted = true }
port_after (Take pdu synchronized) a =
    record a { partner = pdu.actor; synchronized = synchronized; defaulted = false; distributes = synchronized && a.distributes }
port_after (Join g) a = record a { aggregator = Some g }
port_after Distribute a = record a { distributes = true }
port_after (Announce synchronized) a = a
port_after (Respond mac port identifier) a = a

-- the visible act of a move of port p: an LACPDU or a Marker Response that it sends, or an LACPDU that it receives
abbrev pub port_act : ℕ → PortMove → PortFacts → Option Act
port_act p (Announce synchronized) a = Some (Sends p (Lacp (record { actor = a.party; partner = a.partner; synchronized = synchronized })))
port_act p (Respond mac port identifier) a = Some (Sends p (Response mac port identifier))
port_act p (Take pdu synchronized) a = Some (Took p pdu)
port_act p _ a = None

-- the changes of one conversation, other than sending a frame (profile; 6.5.2 says what markers are for)
pub data ConversationMove : Type 0 where
  Want : (port : ℕ) → ConversationMove  -- it is to leave its port, so a marker is wanted there
  Retry : (port identifier : ℕ) → ConversationMove  -- no response came, so another marker is wanted
  Answered : (port identifier : ℕ) → ConversationMove  -- the response came (6.5.3.3)
  Down : (port : ℕ) → ConversationMove  -- the link of its port went down
  Forced : ConversationMove  -- it was freed by force

-- the changes that the conversation c may make; it is conversation k of aggregator g, in a system with this MAC address
abbrev pub ConversationMoveAllowed : List ℕ → ModelCall → ℕ → ℕ → ConversationMove → Conversation → Type 0
ConversationMoveAllowed mac call g k (Want p) c = c ≡ On p
ConversationMoveAllowed mac call g k (Retry p n) c = c ≡ Flushing p n
-- It becomes free if the response that it waits for comes on the port that the response names, if its port goes down,
-- or by force.
ConversationMoveAllowed mac call g k (Answered p n) c = (call ≡ Receive p (Some (Response mac p n))) × (c ≡ Flushing p n)
ConversationMoveAllowed mac call g k (Down p) c = (call ≡ Set_link p false) × (conversation_port c ≡ Some p)
ConversationMoveAllowed mac call g k Forced c = call ≡ Force g k

-- the conversation after the change
abbrev pub conversation_after : ConversationMove → Conversation
conversation_after (Want p) = Wanted p
conversation_after (Retry p n) = Wanted p
conversation_after (Answered p n) = Free
conversation_after (Down p) = Free
conversation_after Forced = Free

-- the moves of the conversations
pub data DistributorMove : Type 0 where
  Send : (aggregator conversation port : ℕ) → DistributorMove  -- 6.2.4
  Mark : (port : ℕ) → DistributorMove  -- 6.2.5, 6.5.3.3
  Become : (aggregator conversation : ℕ) (change : ConversationMove) → DistributorMove  -- the state of one conversation changes, without a frame

-- the moves that the conversations of a system with this MAC address may make; the relation says which port may
-- distribute in which aggregator
abbrev pub DistributorMoveAllowed : List ℕ → ModelCall → (ℕ → ℕ → Type 0) → DistributorFacts → DistributorMove → Type 0
-- a free conversation sends on any port that distributes in its aggregator; another one only on the port that it is On
DistributorMoveAllowed mac call Distributes f (Send g k p) =
    (replies_frame call ≡ true) × (((f.state g k ≡ Free) × Distributes g p) ⊎ (f.state g k ≡ On p))
-- a marker gets the next identifier; none follows 4294967295
DistributorMoveAllowed mac call Distributes f (Mark p) = (replies_frame call ≡ true) × (f.next < 2 ^ 32)
DistributorMoveAllowed mac call Distributes f (Become g k m) = ConversationMoveAllowed mac call g k m (f.state g k)

-- a conversation that is Wanted on p becomes Flushing with the marker n
abbrev pub flushed : ℕ → ℕ → Conversation → Conversation
flushed p n Free = Free
flushed p n (On q) = On q
flushed p n (Wanted q) = cond (eqb q p) (Flushing q n) (Wanted q)
flushed p n (Flushing q m) = Flushing q m

-- the conversations after the move; a marker uses up one Requester_Transaction_ID
abbrev pub distributor_after : DistributorMove → DistributorFacts → DistributorFacts
distributor_after (Send g k p) f = record f { state = at_conversation f.state g k (On p) }
distributor_after (Mark p) f = record { state = λ g k. flushed p f.next (f.state g k); next = f.next + 1 }
distributor_after (Become g k m) f = record f { state = at_conversation f.state g k (conversation_after m) }

-- the visible act of a move: a frame of a conversation, or a Marker PDU, that goes out on a port
abbrev pub distributor_act : List ℕ → DistributorMove → DistributorFacts → Option Act
distributor_act mac (Send g k p) f = Some (Sends_frame p g k)
distributor_act mac (Mark p) f = Some (Sends p (Marker mac p f.next))
distributor_act mac (Become g k m) f = None

-- each move is allowed in the state that those before it left
abbrev pub DistributorMovesAllowed : List ℕ → ModelCall → (ℕ → ℕ → Type 0) → DistributorFacts → List DistributorMove → Type 0
DistributorMovesAllowed mac call Distributes f [] = Unit {0}
DistributorMovesAllowed mac call Distributes f (m ∷ ms) = DistributorMoveAllowed mac call Distributes f m
    × DistributorMovesAllowed mac call Distributes (distributor_after m f) ms

-- the conversations after a list of moves
abbrev pub distributor_after_all : List DistributorMove → DistributorFacts → DistributorFacts
distributor_after_all [] f = f
distributor_after_all (m ∷ ms) f = distributor_after_all ms (distributor_after m f)

-- the visible acts of a list of moves
abbrev pub distributor_acts : List ℕ → List DistributorMove → DistributorFacts → List Act
distributor_acts mac [] f = []
distributor_acts mac (m ∷ ms) f = option_to_list (distributor_act mac m f) ++ distributor_acts mac ms (distributor_after m f)

-- moves of the conversations one after another, with just these visible acts: what a distributor does in one call
abbrev pub DistributorMoves : List ℕ → ModelCall → (ℕ → ℕ → Type 0) → DistributorFacts → List Act → DistributorFacts → Type 0
DistributorMoves mac call Distributes old seen new =
    (moves : List DistributorMove) × DistributorMovesAllowed mac call Distributes old moves × (distributor_acts mac moves old ≡ seen)
    × (new ≡ distributor_after_all moves old)

-- a move of a system: of the port with this number, of the conversations, or a restart
pub data Move : Type 0 where
  Port : (port : ℕ) (move : PortMove) → Move
  Flow : (move : DistributorMove) → Move
  Restart : Move

-- port p distributes in aggregator g
abbrev pub Distributes : (ℕ → Option PortFacts) → ℕ → ℕ → Type 0
Distributes ports g p = IsSomeAnd (ports p) (λ a. (a.aggregator ≡ Some g) × (a.distributes ≡ true))

-- the law: in this view, a system with this configuration may make this move during this call
abbrev pub MoveAllowed : SystemSetup → ModelCall → View → Move → Type 0
MoveAllowed u call v (Port p m) = IsSomeAnd (v.port p) (PortAllowed u call v.port p m)
MoveAllowed u call v (Flow m) = DistributorMoveAllowed u.system.mac call (Distributes v.port) v.flows m
MoveAllowed u call v Restart = is_restart call ≡ true

-- the view of a system after a move
abbrev pub view_after : SystemSetup → Move → View → View
view_after u (Port p m) v = record v { port = at_port v.port p (port_after m) }
view_after u (Flow m) v = record v { flows = distributor_after m v.flows }
view_after u Restart v = first_view u

-- the visible act of a move of port p; none if there is no such port
abbrev pub act_of_port : ℕ → PortMove → Option PortFacts → Option Act
act_of_port p m None = None
act_of_port p m (Some a) = port_act p m a

-- the visible act of a move in this view, if it has one
abbrev pub act : SystemSetup → Move → View → Option Act
act u (Port p m) v = act_of_port p m (v.port p)
act u (Flow m) v = distributor_act u.system.mac m v.flows
act u Restart v = None

-- a list of moves is allowed, one after another
abbrev pub AllAllowed : SystemSetup → ModelCall → View → List Move → Type 0
AllAllowed u call v [] = Unit {0}
AllAllowed u call v (m ∷ ms) = MoveAllowed u call v m × AllAllowed u call (view_after u m v) ms

-- the view after a list of moves
abbrev pub view_after_all : SystemSetup → List Move → View → View
view_after_all u [] v = v
view_after_all u (m ∷ ms) v = view_after_all u ms (view_after u m v)

-- the visible acts of a list of moves, in their order
abbrev pub acts : SystemSetup → List Move → View → List Act
acts u [] v = []
acts u (m ∷ ms) v = option_to_list (act u m v) ++ acts u ms (view_after u m v)

-- A call leads from the view old to the view new by lawful moves, with just these visible acts.
abbrev pub LawfulMoves : SystemSetup → ModelCall → View → List Act → View → Type 0
LawfulMoves u call old seen new = (moves : List Move) × AllAllowed u call old moves × (acts u moves old ≡ seen)
    × (new ≡ view_after_all u moves old)
