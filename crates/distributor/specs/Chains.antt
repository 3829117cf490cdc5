-- How the slots of conversations are chained: each that is not free is in the chain of its port number modulo 64.
use Rattle.std.specs.Prelude.{ℕ, ◌+◌, ◌%◌, ◌<◌, ◌^◌, ◌≡◌, ◌==◌, Bool, true, false, cond, eqb, List, [], ◌∷◌, length, get_or, Option}
use Rattle.std.specs.Prelude.{None, Some}
use Rattle.distributor.specs.declared.assignment.Assignment.{Assignment}
use Rattle.distributor.specs.declared.assignment.Assignment.TheVariants.{Free, On, Wanted, Flushing}
use Rattle.distributor.specs.declared.slots.ConversationTest.{ConversationTest}
use Rattle.distributor.specs.declared.slots.ConversationTest.TheVariants.{WantsMarker, AwaitsResponse, NamesPort, HeldOn}
use Rattle.distributor.specs.Changes.{wants_marker, awaits_response}

-- the port on which a conversation is On, Wanted or Flushing
abbrev pub assignment_port : Assignment → Option ℕ
assignment_port (Free preferred) = None
assignment_port (On port) = Some port
assignment_port (Wanted port preferred) = Some port
assignment_port (Flushing port id preferred age) = Some port

-- the number of a port's chain
abbrev pub chain_of : ℕ → ℕ
chain_of port = port % 64

-- whether a conversation in this state is in the chain
abbrev pub is_in_chain : ℕ → Assignment → Bool
is_in_chain chain (Free preferred) = false
is_in_chain chain (On port) = eqb (chain_of port) chain
is_in_chain chain (Wanted port preferred) = eqb (chain_of port) chain
is_in_chain chain (Flushing port id preferred age) = eqb (chain_of port) chain

-- whether the conversation waits for a Marker Response
abbrev pub is_flushing : Assignment → Bool
is_flushing (Free preferred) = false
is_flushing (On port) = false
is_flushing (Wanted port preferred) = false
is_flushing (Flushing port id preferred age) = true

-- whether the conversation waits for a marker to be sent on its port
abbrev pub is_wanted : Assignment → Bool
is_wanted (Free preferred) = false
is_wanted (On port) = false
is_wanted (Wanted port preferred) = true
is_wanted (Flushing port id preferred age) = false

-- whether a conversation in this state may be in a chain with these two flags, 'one may be Wanted' and 'one may be Flushing'
abbrev pub is_flagged : Bool → Bool → Assignment → Bool
is_flagged wanted flushing (Free preferred) = true
is_flagged wanted flushing (On port) = true
is_flagged wanted flushing (Wanted port preferred) = wanted
is_flagged wanted flushing (Flushing port id preferred age) = flushing

-- whether the conversation is On, Wanted or Flushing on the port
abbrev pub names_port : ℕ → Assignment → Bool
names_port port (Free preferred) = false
names_port port (On p) = eqb p port
names_port port (Wanted p preferred) = eqb p port
names_port port (Flushing p id preferred age) = eqb p port

-- the conversation is held on this port: it is Wanted or Flushing there
abbrev pub is_held_on : ℕ → Assignment → Bool
is_held_on port (Free preferred) = false
is_held_on port (On given) = false
is_held_on port (Wanted given preferred) = given == port
is_held_on port (Flushing given id preferred age) = given == port

-- whether the test counts a conversation in this state
abbrev pub passes : ConversationTest → Assignment → Bool
passes (WantsMarker port) s = wants_marker port s
passes (AwaitsResponse port id) s = awaits_response port id s
passes (NamesPort port) s = names_port port s
passes (HeldOn port) s = is_held_on port s

-- the port of a test; every conversation that the test counts is on that port
abbrev pub tested_port : ConversationTest → ℕ
tested_port (WantsMarker port) = port
tested_port (AwaitsResponse port id) = port
tested_port (NamesPort port) = port
tested_port (HeldOn port) = port

-- the state after a change that applies only to the conversations in this chain
abbrev pub changed_in_chain : ℕ → (Assignment → Assignment) → Assignment → Assignment
changed_in_chain chain change s = cond (is_in_chain chain s) (change s) s

-- how often a slot number occurs in the list
abbrev pub occurs : ℕ → List ℕ → ℕ
occurs k [] = 0
occurs k (x ∷ xs) = cond (eqb k x) 1 0 + occurs k xs

-- the slot b comes right after the slot a: `next` leads from a to b, and `prev` from b to a
abbrev pub AreNeighbours : List ℕ → List ℕ → ℕ → ℕ → Type 0
AreNeighbours next prev a b = (get_or next a 0 ≡ b) × (get_or prev b 0 ≡ a)

-- `next` leads from a through these slots to b, and `prev` leads back
abbrev pub Path : List ℕ → List ℕ → ℕ → List ℕ → ℕ → Type 0
Path next prev a [] b = AreNeighbours next prev a b
Path next prev a (x ∷ xs) b = AreNeighbours next prev a x × Path next prev x xs b

-- the state of a slot; free if there is no such slot
abbrev pub slot_state : List Assignment → ℕ → Assignment
slot_state states slot = get_or states slot (Free None)

-- The links of 64 chains through the slots. Chain c is a ring that begins and ends at entry c after the slots. A slot
-- is once in the chain of its state, and in no other.
pub record IsChained (count : ℕ) (states : List Assignment) (next prev : List ℕ) : Type 0 where
  pub few : count + 64 < 2 ^ 32
  pub states_len : length states ≡ count
  pub next_len : length next ≡ count + 64
  pub prev_len : length prev ≡ count + 64
  pub chains : ℕ → List ℕ
  pub joined : (c : ℕ) → c < 64 → Path next prev (count + c) (chains c) (count + c)
  pub homes : (c k : ℕ) → occurs k (chains c) ≡ cond (is_in_chain c (slot_state states k)) 1 0

-- The flags of a chain allow each conversation in it: one flag is set if one is Wanted, the other if one is Flushing.
pub record IsFlagged (states : List Assignment) (wanted flushing : List Bool) : Type 0 where
  pub wanted_len : length wanted ≡ 64
  pub flushing_len : length flushing ≡ 64
  pub flagged : (c k : ℕ) → is_in_chain c (slot_state states k) ≡ true
      → is_flagged (get_or wanted c false) (get_or flushing c false) (slot_state states k) ≡ true
