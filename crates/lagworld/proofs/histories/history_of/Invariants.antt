use Rattle.lagworld.proofs.Common.{drop, ◌≡◌, history_at}
use Rattle.lagworld.proofs.histories.history_of.Given as goal

abbrev pub invariant-loop-history : goal.invariant-loop-history
invariant-loop-history l = history_at l.histories l.number ≡ history_at (drop l.history-index l.histories) l.number
