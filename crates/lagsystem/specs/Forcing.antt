-- What it is to force the conversations that are held on a port (profile).
use Rattle.std.specs.Prelude.{◌≡◌, ℕ, zero, suc, ◌+◌, ◌==◌, Bool, true, false, cond, length, Ok, Err, Result, is_some, if◌then◌else◌}
use Rattle.lagtypes.specs.declared.identifiers.AggId.{AggId}
use Rattle.distributor.specs.declared.assignment.Assignment.{Assignment}
use Rattle.distributor.specs.declared.assignment.Assignment.TheVariants.{Free, On, Wanted, Flushing}
use Rattle.distributor.specs.Chains.{is_held_on}
use Rattle.distributor.specs.Conversations.{IsConversation, assignment_of, count_conversations}
use Rattle.lagsystem.specs.declared.drive.Reply.TheVariants as reply
use Rattle.lagsystem.specs.declared.fault.SystemFault.{SystemFault}
use Rattle.lagsystem.specs.Calls.{Force, RefusesNoPort}
use Rattle.lagsystem.specs.Readers.{aggregator_numbered}
use Rattle.lagsystem.specs.Sound.{CallPromise}
use Rattle.lagsystem.specs.State.{SystemState, port_index, with_table}

-- one conversation: if it is held on the port, it is forced, by the call `force`; else nothing changes
abbrev pub ForcesIfHeld : (ℕ → ℕ → ℕ → Type 0) → ℕ → AggId → ℕ → SystemState → Bool → SystemState → Type 0
ForcesIfHeld gives port agg conv old true new =
    (is_held_on port (assignment_of old.table agg.0 conv) ≡ true) × CallPromise gives old (Force agg conv) (reply.Force (Ok tt)) new
ForcesIfHeld gives port agg conv old false new = (is_held_on port (assignment_of old.table agg.0 conv) ≡ false) × (new ≡ old)

-- so the first k conversations of an aggregator, ascending; n of them are forced
abbrev pub ForcesIn : (ℕ → ℕ → ℕ → Type 0) → ℕ → AggId → ℕ → SystemState → ℕ → SystemState → Type 0
ForcesIn gives port agg zero old n new = (new ≡ old) × (n ≡ 0)
ForcesIn gives port agg (suc k) old n new =
    (mid : SystemState) × (before : ℕ) × (forced : Bool) × ForcesIn gives port agg k old before mid
    × ForcesIfHeld gives port agg k mid forced new
    × (n ≡ before + cond forced 1 0)

-- so all conversations of the first g aggregators, ascending; n of them are forced
abbrev pub ForcesFirst : (ℕ → ℕ → ℕ → Type 0) → ℕ → ℕ → SystemState → ℕ → SystemState → Type 0
ForcesFirst gives port zero old n new = (new ≡ old) × (n ≡ 0)
ForcesFirst gives port (suc g) old n new =
    (mid : SystemState) × (before : ℕ) × (more : ℕ) × ForcesFirst gives port g old before mid
    × ForcesIn gives port (aggregator_numbered (suc g)) mid.conversations mid more new
    × (n ≡ before + more)

-- each conversation that is held on the port is forced, and the answer is how many; or there is no such port
abbrev pub ForcesPort : (ℕ → ℕ → ℕ → Type 0) → ℕ → SystemState → Result ℕ SystemFault → SystemState → Type 0
ForcesPort gives port old (Ok n) new =
    (is_some (port_index port old.system_ports) ≡ true) × ForcesFirst gives port (length old.keys) old n new
ForcesPort gives port old (Err fault) new = RefusesNoPort (port_index port old.system_ports) fault old new

-- a conversation that is held on the port becomes free, and prefers the port that it preferred
abbrev pub after_forcing : ℕ → Assignment → Assignment
after_forcing port (Free preferred) = Free preferred
after_forcing port (On given) = On given
after_forcing port (Wanted given preferred) = if given == port then Free preferred else Wanted given preferred
after_forcing port (Flushing given id preferred age) = if given == port then Free preferred else Flushing given id preferred age

-- each conversation that was held on the port is free; every other has the state that it had, and nothing else changes
pub record FreesHeld (port : ℕ) (old new : SystemState) : Type 0 where
  pub others : new ≡ with_table old new.table
  pub aggs : new.table.aggs ≡ old.table.aggs
  pub conversations : new.table.conversations ≡ old.table.conversations
  pub first : new.table.first ≡ old.table.first
  pub next : new.table.next ≡ old.table.next
  pub forced : (agg conv : ℕ) → IsConversation old.table agg conv → assignment_of new.table agg conv ≡ after_forcing port
      (assignment_of old.table agg conv)
  pub outside : (agg conv : ℕ) → (IsConversation old.table agg conv → ⊥) → assignment_of new.table agg conv ≡ assignment_of old.table agg conv

-- no conversation is held on the port, in any aggregator
abbrev pub NoneIsHeldOn : ℕ → SystemState → Type 0
NoneIsHeldOn port s = (agg conv : ℕ) → IsConversation s.table agg conv → is_held_on port (assignment_of s.table agg conv) ≡ false

-- how many conversations are held on the port, of all aggregators
abbrev pub count_held_on : ℕ → SystemState → ℕ
count_held_on port s = count_conversations (is_held_on port) s.table
