-- What a call answers, and what its buffer has then.
use Rattle.std.specs.Prelude.{◌≡◌, ℕ, ◌-◌, ◌++◌, List, Result, Ok, Err, IfOk, drop, length, nat_lt, if◌then◌else◌}
use Rattle.std.specs.declared.alloc.AllocError.{AllocError}
use Rattle.lagpage.specs.declared.answer.Answer.{Answer}
use Rattle.lagpage.specs.declared.told.Told.{Told}

-- the outcomes: the buffer has what is told; it has no room for that; memory was refused
abbrev pub done : ℕ
done = 0

abbrev pub no_room : ℕ
no_room = 1

abbrev pub no_memory : ℕ
no_memory = 2

-- this is printed, this is said behind it, and this is the exit status
pub record Tells (status : ℕ) (printed said : List ℕ) (t : Told) : Type 0 where
  pub octets : t.octets.items ≡ printed ++ said
  pub printed_is : t.printed ≡ length printed
  pub status_is : t.status ≡ status

-- a buffer after these octets were put at its front, if it has room for all of them
abbrev pub put_if_room : List ℕ → List ℕ → List ℕ
put_if_room octets old = if nat_lt (length old) (length octets) then old else octets ++ drop (length octets) old

-- the answer for what is told, where a buffer has so much room
abbrev pub answer_with : ℕ → Told → Answer
answer_with room t =
    record {
      outcome = if nat_lt room (length t.octets.items) then no_room else done;
      status = t.status;
      printed = t.printed;
      said = length t.octets.items - t.printed;
    }

abbrev pub answer_of : ℕ → Result Told AllocError → Answer
answer_of room (Ok t) = answer_with room t
answer_of room (Err e) = record { outcome = no_memory; status = 2; printed = 0; said = 0 }

abbrev pub buffer_after : List ℕ → Result Told AllocError → List ℕ
buffer_after old (Ok t) = put_if_room t.octets.items old
buffer_after old (Err e) = old

-- what a call answers and has in its buffer: what is told is right, or memory was refused
pub record Answers (Is : Told → Type 0) (old new : List ℕ) (a : Answer) : Type 0 where
  pub told : Result Told AllocError
  pub right : IfOk told Is
  pub answer : a ≡ answer_of (length old) told
  pub buffer : new ≡ buffer_after old told
