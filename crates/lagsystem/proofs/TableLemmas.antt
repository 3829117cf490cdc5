-- States with another table.
use Rattle.lagsystem.proofs.Common.{◌≡◌, Table, SystemState, with_table}

-- the table keeps the first identifier and the number of conversations, which are part of the configuration
pub table_taken : (s : SystemState) (t : Table) → t.first ≡ s.first_marker → t.conversations ≡ s.conversations
    → (record s { first_marker = t.first; conversations = t.conversations; table = t }) ≡ with_table s t
table_taken s t h k = λ i. record s { first_marker = h i; conversations = k i; table = t }
