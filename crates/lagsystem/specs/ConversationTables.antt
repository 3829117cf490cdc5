-- What a host is told of all conversations of an aggregator at once (profile).
use Rattle.std.specs.Prelude.{◌≡◌, ◌==◌, ◌&&◌, ℕ, ◌<◌, ◌≤◌, Bool, true, false, cond, not, List, length, get_or, min}
use Rattle.lagtypes.specs.declared.identifiers.AggId.{AggId}
use Rattle.distributor.specs.declared.assignment.Assignment.{Assignment}
use Rattle.distributor.specs.declared.assignment.Assignment.TheVariants.{Free, On, Wanted, Flushing}
use Rattle.distributor.specs.Conversations.{assignment_of, sum_below}
use Rattle.lagsystem.specs.Readers.{conversation_count}
use Rattle.lagsystem.specs.State.{SystemState}

-- the port that the conversation is On; 0 if it is free or held
abbrev pub port_on : Assignment → ℕ
port_on (Free preferred) = 0
port_on (On port) = port
port_on (Wanted port preferred) = 0
port_on (Flushing port id preferred age) = 0

-- the conversation is On a port, Wanted or Flushing
abbrev pub is_busy : Assignment → Bool
is_busy (Free preferred) = false
is_busy (On port) = true
is_busy (Wanted port preferred) = true
is_busy (Flushing port id preferred age) = true

-- The first rows of a list got these values; each has a mark that says how its value was and is; the answer is how many
-- rows are marked. What is behind those rows stays, in both lists.
pub record TellsRows (A : Type 0) (default : A) (value : ℕ → A) (mark : A → A → Bool) (rows : ℕ) (before after : List A)
    (unmarked marked : List Bool) (answer : ℕ) : Type 0 where
  pub as_long : length after ≡ length before
  pub marks_as_long : length marked ≡ length unmarked
  pub values : (k : ℕ) → k < rows → get_or after k default ≡ value k
  pub marks : (k : ℕ) → k < rows → get_or marked k false ≡ mark (get_or before k default) (value k)
  pub behind : (k : ℕ) → rows ≤ k → get_or after k default ≡ get_or before k default
  pub marks_behind : (k : ℕ) → rows ≤ k → get_or marked k false ≡ get_or unmarked k false
  pub counted : answer ≡ sum_below (λ k. cond (mark (get_or before k default) (value k)) 1 0) rows

-- how many rows are told: one for each conversation, or fewer if a list is shorter
abbrev pub told_rows : ℕ → ℕ → ℕ → ℕ
told_rows conversations one other = min conversations (min one other)

-- the mark of a row of conversation_ports: its port changed
abbrev pub has_changed : ℕ → ℕ → Bool
has_changed was is = not (was == is)

-- the mark of a row of released: the conversation was busy, and is not
abbrev pub has_freed : Bool → Bool → Bool
has_freed was is = was && not is

-- each conversation's port, which of them changed, and how many
abbrev pub TellsPorts : SystemState → AggId → List ℕ → List ℕ → List Bool → List Bool → ℕ → Type 0
TellsPorts s agg before after unmarked marked answer =
    TellsRows ℕ 0 (λ conv. port_on (assignment_of s.table agg.0 conv)) has_changed
    (told_rows (conversation_count s) (length before) (length unmarked)) before after unmarked marked answer

-- which conversations are busy, which of them became free, and how many
abbrev pub TellsFreed : SystemState → AggId → List Bool → List Bool → List Bool → List Bool → ℕ → Type 0
TellsFreed s agg before after unmarked marked answer =
    TellsRows Bool false (λ conv. is_busy (assignment_of s.table agg.0 conv)) has_freed
    (told_rows (conversation_count s) (length before) (length unmarked)) before after unmarked marked answer
