-- No call leaves a conversation waiting for a response for 30 ticks.
use Rattle.lagbeside.proofs.Common.{Bool, Err, List, Ok, Option, Result, ap, arith, cond, false, length, refl, subst, sym, true, ℕ, ◌+◌, ◌∙◌, ◌≡◌}
use Rattle.lagbeside.proofs.Common.{nat_tests, AggId, Assignment, force_result, move_result, after_down, after_mark, after_release, after_tick, Table}
use Rattle.lagbeside.proofs.Common.{assignment_of, next_identifier, Reply, SystemFault, Call, Configure, Force, FreesIfDown, Move_conversation, Offer}
use Rattle.lagbeside.proofs.Common.{Receive, Restart, Set_link, Step, Tick, Transmit, IsFirst, Offers, system_force_result, system_move_result}
use Rattle.lagbeside.proofs.Common.{distributing, Settling, held_unless_on, SystemState, IsAwaited, WaitsAreShort}
use Rattle.distributor.proofs.TableLemmas.{first_free}
use Rattle.lagsystem.proofs.Steps.{forced_to, moved_to}
use Rattle.lagsystem.specs.declared.drive.Reply.TheVariants as reply
use Rattle.lagbeside.proofs.TableSteps.{Turning, Turns, asks_turn, comes_turn, gives_turn, same_turns, ticks_turn}

-- the second is awaited if the first is
abbrev pub Stays : Assignment → Assignment → Type 0
Stays a b = IsAwaited a → IsAwaited b

either : (b : Bool) (x y : Assignment) → IsAwaited x → IsAwaited y → IsAwaited (cond b x y)
either b x y h k = grind (arith, nat_tests)

ticked : (a : Assignment) → IsAwaited a → IsAwaited (after_tick a)
ticked a h = grind (arith, nat_tests)

released : (port id : ℕ) (a : Assignment) → IsAwaited a → IsAwaited (after_release port id a)
released port id a h = grind (arith, nat_tests)

pub marked : (port id : ℕ) (a : Assignment) → IsAwaited a → IsAwaited (after_mark port id a)
marked port id a h = grind (arith, nat_tests)

downed : (port : ℕ) (a : Assignment) → IsAwaited a → IsAwaited (after_down port a)
downed port a h = grind (arith, nat_tests)

held : (ports : List ℕ) (a : Assignment) → IsAwaited a → IsAwaited (held_unless_on ports a)
held ports a h = grind (arith, nat_tests)

pub stays : Turning Stays
stays = record { same = λ a h. h; through = λ a b c f g h. g (f h); tick = ticked; mark = marked; release = released; held = held }

frees : (up : Bool) (n : ℕ) (old mid new : SystemState) → FreesIfDown up n old.table mid.table → Settling mid new → Turns Stays stays old.table new.table
frees up n old mid new h s = grind (arith, nat_tests)

offers : (gives : ℕ → ℕ → ℕ → Type 0) (agg : AggId) (octets : List ℕ) (old : SystemState) (answer : Result ℕ SystemFault)
    (new : SystemState) → Offers gives agg octets old answer new → Turns Stays stays old.table new.table
offers gives agg octets old answer new h = grind (arith, nat_tests)

moved : (next : Option ℕ) (ports : List ℕ) (to : ℕ) (a s : Assignment) → move_result next ports to a ≡ Ok s → IsAwaited s
moved next ports to a s h = grind (arith, nat_tests)

forced : (a s : Assignment) → force_result a ≡ Ok s → IsAwaited s
forced a s h = grind (arith, nat_tests)

pub first_waits : (s : SystemState) → IsFirst s → WaitsAreShort s
first_waits s h g k = subst IsAwaited
    (sym (ap (λ (t : Table). assignment_of t g k) h.3 ∙ first_free (length s.keys) s.conversations s.first_marker g k)) tt

call_stays : (gives : ℕ → ℕ → ℕ → Type 0) (old new : SystemState) (call : Call) (answer : Reply) → (call ≡ Restart → ⊥)
    → Step gives old call answer new → Turns Stays stays old.table new.table
call_stays gives old new Tick reply.Tick other h = ticks_turn Stays stays gives old new h
call_stays gives old new (Set_link n up) (reply.SetLink (Ok done)) other h = frees up n old h.0 new h.1.1 h.2
call_stays gives old new (Set_link n up) (reply.SetLink (Err fault)) other h = same_turns Stays stays old new (ap (λ (s : SystemState). s.table) h.same)
call_stays gives old new (Receive n octets) (reply.Receive answer) other h = comes_turn Stays stays gives n octets answer old new h
call_stays gives old new (Configure n change) (reply.Configure (Ok true)) other h = grind (arith, nat_tests)
call_stays gives old new (Configure n change) (reply.Configure (Ok false)) other h = grind (arith, nat_tests)
call_stays gives old new (Configure n change) (reply.Configure (Err fault)) other h = grind (arith, nat_tests)
call_stays gives old new Restart answer other h = absurd (other refl)
call_stays gives old new (Transmit n) (reply.Transmit answer) other h = asks_turn Stays stays gives n answer old new h
call_stays gives old new (Offer agg octets) (reply.Offer answer) other h = offers gives agg octets old answer new h
call_stays gives old new (Move_conversation agg conv port) (reply.MoveConversation answer) other h = grind (arith, nat_tests, gives_turn, Stays, stays, system_move_result, moved, next_identifier, distributing, assignment_of, moved_to)
call_stays gives old new (Force agg conv) (reply.Force answer) other h = grind (arith, nat_tests, gives_turn, Stays, stays, system_force_result, forced, assignment_of, forced_to)
call_stays gives old new call answer other h = absurd h

pub Step-waits : (gives : ℕ → ℕ → ℕ → Type 0) (old new : SystemState) (call : Call) (answer : Reply) → Step gives old call answer new
    → WaitsAreShort old → WaitsAreShort new
Step-waits gives old new call answer h e = grind (arith, nat_tests, first_waits, call_stays)
