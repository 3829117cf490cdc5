-- A system and its calls, as the model has them. There are no timers, machine states, octets or preferred ports.
use Rattle.std.specs.Prelude.{◌≡◌, ℕ, Bool, true, false, cond, eqb, Option, Some, None, option_map, List, [], ◌∷◌}
use Rattle.lagtypes.specs.declared.identifiers.SystemId.{SystemId}
use Rattle.lagtypes.specs.declared.party.Party.{Party}
use Rattle.lagtypes.specs.declared.identifiers.Key.{Key}

-- a defaulted partner: all zero (profile; 6.4.9, recordDefault)
abbrev pub zero_party : Party
zero_party = record {
  system = record { priority = 0; mac = 0 ∷ 0 ∷ 0 ∷ 0 ∷ 0 ∷ 0 ∷ [] };
  key = record { 0 = 0 };
  port = record { priority = 0; number = 0 };
  aggregatable = false;
}

-- A port (6.4.7, 6.4.8): its own parameters, its recorded partner's, whether the partner is recorded as synchronized,
-- whether it is defaulted, the aggregator that the port was given, and whether the port distributes.
pub record PortFacts : Type 0 where
  pub party : Party
  pub partner : Party
  pub synchronized : Bool
  pub defaulted : Bool
  pub aggregator : Option ℕ
  pub distributes : Bool

-- a conversation of an aggregator (6.2.4; the four states are of the profile)
pub data Conversation : Type 0 where
  Free : Conversation
  On : (port : ℕ) → Conversation
  Wanted : (port : ℕ) → Conversation
  Flushing : (port identifier : ℕ) → Conversation

-- the port that the latest frames of a conversation went to
abbrev pub conversation_port : Conversation → Option ℕ
conversation_port Free = None
conversation_port (On p) = Some p
conversation_port (Wanted p) = Some p
conversation_port (Flushing p n) = Some p

-- The state of a Frame Distributor (6.2.4, 6.2.5): each conversation, by aggregator and number, and the identifier of
-- the next marker, which is one above the last that was sent, or the configured first one.
pub record DistributorFacts : Type 0 where
  pub state : ℕ → ℕ → Conversation
  pub next : ℕ

-- a system: its ports by number, if the configuration has them, and its conversations
pub record View : Type 0 where
  pub port : ℕ → Option PortFacts
  pub flows : DistributorFacts

-- The configuration of a system: its identifier (6.3.2), its own parameters at each of its ports (6.3.4), the key of
-- each of its aggregators (6.3.5), and the identifier of its first marker (profile).
pub record SystemSetup : Type 0 where
  pub system : SystemId
  pub party : ℕ → Option Party
  pub key : ℕ → Option Key
  pub first_marker : ℕ

-- the own parameters at each port name the system and that port
pub record IsSystemSetup (u : SystemSetup) : Type 0 where
  pub system : (p : ℕ) (a : Party) → u.party p ≡ Some a → a.system ≡ u.system
  pub number : (p : ℕ) (a : Party) → u.party p ≡ Some a → a.port.number ≡ p

-- a port with its link down: its partner is defaulted and not synchronized (6.4.12, PORT_DISABLED)
abbrev pub first_port : Party → PortFacts
first_port party = record {
  party = party;
  partner = zero_party;
  synchronized = false;
  defaulted = true;
  aggregator = None;
  distributes = false;
}

-- a system that has just started: all links down, all conversations free
abbrev pub first_view : SystemSetup → View
first_view u = record {
  port = λ p. option_map first_port (u.party p);
  flows = record { state = λ g k. Free; next = u.first_marker };
}

-- an LACPDU, as far as the model reads it: Actor, Partner, and the Actor's Synchronization bit (6.4.2.3)
pub record LacpMessage : Type 0 where
  pub actor : Party
  pub partner : Party
  pub synchronized : Bool

-- a control PDU: an LACPDU, or a marker or its response with requester system, requester port and transaction
-- identifier (6.5.3.3)
pub data ControlMessage : Type 0 where
  Lacp : (pdu : LacpMessage) → ControlMessage
  Marker : (mac : List ℕ) (port identifier : ℕ) → ControlMessage
  Response : (mac : List ℕ) (port identifier : ℕ) → ControlMessage

-- what a configure may change of a port (6.4.7): its key, its priority, and its Aggregation bit
pub record PartyChange : Type 0 where
  pub key : Key
  pub priority : ℕ
  pub aggregatable : Bool

-- a call of a system, with the arguments that its moves depend on; a receive has a control PDU, or something else
pub data ModelCall : Type 0 where
  Receive : (port : ℕ) (pdu : Option ControlMessage) → ModelCall
  Tick : ModelCall
  Set_link : (port : ℕ) (up : Bool) → ModelCall
  Configure : ModelCall
  Restart : ModelCall
  Transmit : ModelCall
  Offer : ModelCall
  Move_conversation : ModelCall
  Force : (aggregator conversation : ℕ) → ModelCall

-- Whether the reply of the call can contain a frame to send; the other calls send nothing. Were a configure able to
-- send, an LACPDU might be sent with a change count for which it names parameters that the port had only for a moment.
abbrev pub replies_frame : ModelCall → Bool
replies_frame (Receive p pdu) = true
replies_frame Transmit = true
replies_frame Offer = true
replies_frame Tick = false
replies_frame (Set_link p up) = false
replies_frame Configure = false
replies_frame Restart = false
replies_frame Move_conversation = false
replies_frame (Force g k) = false

-- the call is a restart, the only one that leads back to the first view
abbrev pub is_restart : ModelCall → Bool
is_restart Restart = true
is_restart _ = false

-- ports, with f applied to the port p, if there is one
abbrev pub at_port : (ℕ → Option PortFacts) → ℕ → (PortFacts → PortFacts) → ℕ → Option PortFacts
at_port ports p f q = cond (eqb q p) (option_map f (ports q)) (ports q)

-- conversations, with the state c at conversation k of aggregator g
abbrev pub at_conversation : (ℕ → ℕ → Conversation) → ℕ → ℕ → Conversation → ℕ → ℕ → Conversation
at_conversation state g k c h j = cond (eqb h g) (cond (eqb j k) c (state h j)) (state h j)
