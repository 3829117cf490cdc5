-- A call of a system has one answer and one state after it.
use Rattle.std.specs.Prelude.{◌≡◌, ℕ, List, Result}
use Rattle.distributor.specs.Conversations.{Table, assignment_of}
use Rattle.lagsystem.specs.declared.drive.Reply.{Reply}
use Rattle.lagsystem.specs.declared.fault.SystemFault.{SystemFault}
use Rattle.lagsystem.specs.Calls.{Call}
use Rattle.lagsystem.specs.Drives.{Drives}
use Rattle.lagsystem.specs.Forcing.{ForcesPort}
use Rattle.lagsystem.specs.Sound.{CallPromise, PortsAgree}
use Rattle.lagsystem.specs.State.{SystemState, with_table}

-- the algorithm returns one index for each conversation and count of ports
abbrev pub IsFunction : (ℕ → ℕ → ℕ → Type 0) → Type 0
IsFunction gives = (conv count one other : ℕ) → gives conv count one → gives conv count other → one ≡ other

-- each conversation has the same state in both tables, and the next marker has the same identifier
pub record SameConversations (s t : Table) : Type 0 where
  pub aggs : t.aggs ≡ s.aggs
  pub conversations : t.conversations ≡ s.conversations
  pub first : t.first ≡ s.first
  pub next : t.next ≡ s.next
  pub states : (agg conv : ℕ) → assignment_of t agg conv ≡ assignment_of s agg conv

-- The states are equal; only the lists in which the conversations are kept may differ, where no conversation is read.
pub record SameState (s t : SystemState) : Type 0 where
  pub others : t ≡ with_table s t.table
  pub table : SameConversations s.table t.table

-- one call of two systems in the same state: the replies are equal, and the states after it are the same
abbrev pub OneAnswer : (ℕ → ℕ → ℕ → Type 0) → Type 0
OneAnswer gives =
    (old twin : SystemState) (call : Call) (reply other : Reply) (new last : SystemState)
    → PortsAgree old → SameState old twin → CallPromise gives old call reply new → CallPromise gives twin call other last
    → (other ≡ reply) × SameState new last

-- so of a list of calls
abbrev pub OneRun : (ℕ → ℕ → ℕ → Type 0) → Type 0
OneRun gives =
    (old twin : SystemState) (calls : List Call) (replies others : List Reply) (new last : SystemState)
    → PortsAgree old → SameState old twin → Drives gives old calls replies new → Drives gives twin calls others last
    → (others ≡ replies) × SameState new last

-- so of forcing what is held on a port
abbrev pub OneForcing : (ℕ → ℕ → ℕ → Type 0) → Type 0
OneForcing gives =
    (old twin : SystemState) (port : ℕ) (answer other : Result ℕ SystemFault) (new last : SystemState)
    → PortsAgree old → SameState old twin → ForcesPort gives port old answer new → ForcesPort gives port twin other last
    → (other ≡ answer) × SameState new last
