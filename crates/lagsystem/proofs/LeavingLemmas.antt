-- A conversation leaves its port, or rests.
use Rattle.lagsystem.proofs.Common.{Err, IfOk, Ok, Result, [], ap, arith, refl, subst, sym, ℕ, ◌∙◌, ◌≡◌, nat_tests, AggId, LawfulMoves, Conversation}
use Rattle.lagsystem.proofs.Common.{ModelCall, Assignment, leave_result, assignment_of, next_identifier, is_left, leave_one_moves, SystemFault, Force}
use Rattle.lagsystem.proofs.Common.{system_leave_result, system_rest_result, model_setup, model_view, GivesOrRefuses, system_force_result}
use Rattle.lagsystem.proofs.Common.{TablePromise, CallPromise, IsSound, SystemState, with_table}
use Rattle.lagsystem.specs.declared.drive.Reply.TheVariants as reply
use Rattle.lagsystem.proofs.Conversing.{table_moves}
use Rattle.lagsystem.proofs.OnPorts.{not_on, sets_carried}
use Rattle.lagsystem.proofs.PromiseLemmas.{table_promise, table_sound}
use Rattle.lagsystem.proofs.Sound.{Step-sound, answers}
use Rattle.lagsystem.proofs.Steps.{table_moved}

abbrev TableStays : SystemState → SystemState → Type 0
TableStays old new = new ≡ with_table old new.table

abbrev done : Result Unit SystemFault
done = Ok tt

left_to : (agg : AggId) (conv : ℕ) (old : SystemState) (s : Assignment) → system_leave_result old agg conv ≡ Ok s
    → leave_result (next_identifier old.table) (assignment_of old.table agg.0 conv) ≡ Ok s
left_to agg conv old s e = grind (arith, nat_tests)

left_sound : (agg : AggId) (conv : ℕ) (what : Result Assignment SystemFault) (old : SystemState) (answer : Result Unit SystemFault)
    (new : SystemState) → system_leave_result old agg conv ≡ what → GivesOrRefuses agg conv what old answer new → IsSound old → IsSound new
left_sound agg conv (Ok s) old answer new e h sound =
    let m = is_left (next_identifier old.table) (assignment_of old.table agg.0 conv) s (left_to agg conv old s e) in
    table_sound old new h.1.1 h.1.0.aggs h.1.0.conversations
    (sets_carried agg conv s old new h.1.0 h.1.1 sound.carried (λ p x. absurd (wanted m.0 p (sym m.2 ∙ not_on p s x)))) sound
  where
    wanted : (q p : ℕ) → Conversation.Wanted q ≡ Conversation.On p → ⊥
    wanted q p x = cc
left_sound agg conv (Err fault) old answer new e h sound = subst IsSound (sym h.1) sound

left_moves : (agg : AggId) (conv : ℕ) (what : Result Assignment SystemFault) (old : SystemState) (answer : Result Unit SystemFault)
    (new : SystemState) → system_leave_result old agg conv ≡ what → GivesOrRefuses agg conv what old answer new
    → LawfulMoves (model_setup old) ModelCall.Move_conversation (model_view old) [] (model_view new)
left_moves agg conv (Ok s) old answer new e h = let u = model_setup old in
    let call = ModelCall.Move_conversation in
    let moves = leave_one_moves old.system.mac call old.table new.table agg.0 conv (next_identifier old.table) s
    (left_to agg conv old s e) h.1.0 in
    table_moved u call [] old new h.1.1 (table_moves u call old.system_ports old.table new.table [] moves)
left_moves agg conv (Err fault) old answer new e h = ([], tt, refl, ap model_view h.1)

left_others : (agg : AggId) (conv : ℕ) (what : Result Assignment SystemFault) (old : SystemState) (answer : Result Unit SystemFault)
    (new : SystemState) → GivesOrRefuses agg conv what old answer new → TableStays old new
left_others agg conv what old answer new h = grind (arith, nat_tests)

pub leaves_sound : (agg : AggId) (conv : ℕ) (old : SystemState) (answer : Result Unit SystemFault) (new : SystemState)
    → GivesOrRefuses agg conv (system_leave_result old agg conv) old answer new → IsSound old → IsSound new
leaves_sound agg conv old answer new h s = left_sound agg conv (system_leave_result old agg conv) old answer new refl h s

pub leaves_promise : (agg : AggId) (conv : ℕ) (old : SystemState) (answer : Result Unit SystemFault) (new : SystemState)
    → GivesOrRefuses agg conv (system_leave_result old agg conv) old answer new → IsSound old → TablePromise ModelCall.Move_conversation [] old new
leaves_promise agg conv old answer new h s =
    table_promise ModelCall.Move_conversation [] old new (left_others agg conv (system_leave_result old agg conv) old answer new h)
    (left_moves agg conv (system_leave_result old agg conv) old answer new refl h)
    (leaves_sound agg conv old answer new h s)

forced_alike : (agg : AggId) (conv : ℕ) (what : Result Assignment SystemFault) (old : SystemState) (answer : Result Unit SystemFault)
    (new : SystemState) → system_rest_result old agg conv ≡ what → answer ≡ Ok tt → GivesOrRefuses agg conv what old answer new
    → GivesOrRefuses agg conv (system_force_result old agg conv) old answer new
forced_alike agg conv what old answer new e a h = grind (arith, nat_tests)

rested_sound : (gives : ℕ → ℕ → ℕ → Type 0) (agg : AggId) (conv : ℕ) (what : Result Assignment SystemFault) (old : SystemState)
    (answer : Result Unit SystemFault) (new : SystemState) → system_rest_result old agg conv ≡ what
    → GivesOrRefuses agg conv what old answer new → IsSound old → IsSound new
rested_sound gives agg conv (Ok s) old answer new e h sound =
    Step-sound gives old (Force agg conv) (reply.Force answer) new (forced_alike agg conv (Ok s) old answer new e h.0 h) sound
rested_sound gives agg conv (Err fault) old answer new e h sound = subst IsSound (sym h.1) sound

pub rests_sound : (gives : ℕ → ℕ → ℕ → Type 0) (agg : AggId) (conv : ℕ) (old : SystemState) (answer : Result Unit SystemFault)
    (new : SystemState) → GivesOrRefuses agg conv (system_rest_result old agg conv) old answer new → IsSound old → IsSound new
rests_sound gives agg conv old answer new h s = rested_sound gives agg conv (system_rest_result old agg conv) old answer new refl h s

pub rests_forced : (gives : ℕ → ℕ → ℕ → Type 0) (agg : AggId) (conv : ℕ) (old new : SystemState)
    → GivesOrRefuses agg conv (system_rest_result old agg conv) old (Ok tt) new → IsSound old → CallPromise gives old (Force agg conv) (reply.Force (Ok tt)) new
rests_forced gives agg conv old new h s = answers gives old (Force agg conv) (reply.Force (Ok tt)) new
    (forced_alike agg conv (system_rest_result old agg conv) old (Ok tt) new refl refl h) s

pub rests_if_ok : (gives : ℕ → ℕ → ℕ → Type 0) (agg : AggId) (conv : ℕ) (old : SystemState) (answer : Result Unit SystemFault)
    (new : SystemState) → GivesOrRefuses agg conv (system_rest_result old agg conv) old answer new → IsSound old
    → IfOk answer (λ done. CallPromise gives old (Force agg conv) (reply.Force (Ok tt)) new)
rests_if_ok gives agg conv old (Ok given) new h s = rests_forced gives agg conv old new h s
rests_if_ok gives agg conv old (Err fault) new h s = tt
