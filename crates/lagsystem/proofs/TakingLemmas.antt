-- A call that is taken or not: where it is, it is the call; where not, nothing changes.
use Rattle.lagsystem.proofs.Common.{Bool, subst, sym, true, false, ℕ, ◌≡◌, OnFalse, OnTrue, Call, Reply, CallPromise, IsSound, Step, SystemState}
use Rattle.lagsystem.proofs.Sound.{Step-sound, answers}

pub taken_sound : (gives : ℕ → ℕ → ℕ → Type 0) (taken : Bool) (old : SystemState) (call : Call) (reply : Reply) (new : SystemState)
    → OnTrue taken (Step gives old call reply new) → OnFalse taken (new ≡ old) → IsSound old → IsSound new
taken_sound gives true old call reply new step other sound = Step-sound gives old call reply new step sound
taken_sound gives false old call reply new step other sound = subst IsSound (sym other) sound

pub taken_promise : (gives : ℕ → ℕ → ℕ → Type 0) (taken : Bool) (old : SystemState) (call : Call) (reply : Reply) (new : SystemState)
    → OnTrue taken (Step gives old call reply new) → IsSound old → OnTrue taken (CallPromise gives old call reply new)
taken_promise gives true old call reply new step sound = answers gives old call reply new step sound
taken_promise gives false old call reply new step sound = tt
