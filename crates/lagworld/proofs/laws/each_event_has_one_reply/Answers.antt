use Rattle.lagworld.proofs.Common.{ℕ, both_algorithms}
use Rattle.lagworld.proofs.OneReply.{both_functions, one_history, one_reply}
use Rattle.lagworld.proofs.laws.each_event_has_one_reply.Goals as goal

pub returns-clause-event : goal.returns-clause-event
returns-clause-event g c = λ one two h k.
    let a : ℕ → ℕ → ℕ → Type 0 = λ conv count place. g.F.Fn.post one (conv, (count, tt)) place in
    let b : ℕ → ℕ → ℕ → Type 0 = λ conv count place. g.F.Fn.post two (conv, (count, tt)) place in
    one_reply (both_algorithms a b) (both_functions a b h k)

pub returns-clause-run : goal.returns-clause-run
returns-clause-run g c = λ one two h k.
    let a : ℕ → ℕ → ℕ → Type 0 = λ conv count place. g.F.Fn.post one (conv, (count, tt)) place in
    let b : ℕ → ℕ → ℕ → Type 0 = λ conv count place. g.F.Fn.post two (conv, (count, tt)) place in
    one_history (both_algorithms a b) (both_functions a b h k)
