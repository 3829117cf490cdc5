-- Calls that change the conversations alone keep the invariant of a system.
use Rattle.lagsystem.proofs.Common.{List, arith, subst, sym, ◌∙◌, ◌≡◌, nat_tests, Act, LawfulMoves, ModelCall, model_setup, model_view, TablePromise}
use Rattle.lagsystem.proofs.Common.{IsSound, OnlyOnDistributing, SystemState, with_table}
use Rattle.lagsystem.proofs.Sound.{agrees}

pub table_sound : (old new : SystemState) → new ≡ with_table old new.table → new.table.aggs ≡ old.table.aggs
    → new.table.conversations ≡ old.table.conversations → OnlyOnDistributing new → IsSound old → IsSound new
table_sound old new f a c on s = subst IsSound (sym f) (record {
  ports = record { accepted = s.ports.accepted; same = s.ports.same };
  aggregators = a ∙ s.aggregators;
  conversations = c ∙ s.conversations;
  carried = subst OnlyOnDistributing f on;
  rested = s.rested;
  windowed = s.windowed;
  members = s.members;
  quiet = s.quiet;
  occupants = s.occupants;
  limited = s.limited;
  promoted = s.promoted;
  held = s.held;
})

pub table_promise : (call : ModelCall) (acts : List Act) (old new : SystemState) → new ≡ with_table old new.table
    → LawfulMoves (model_setup old) call (model_view old) acts (model_view new) → IsSound new → TablePromise call acts old new
table_promise call acts old new f m s = grind (arith, nat_tests, agrees)
