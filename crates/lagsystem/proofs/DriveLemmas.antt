-- Lists of calls, one after another.
use Rattle.lagsystem.proofs.Common.{List, [], ap, get_or, length, map, refl, subst, take, take_all, ℕ, ◌++◌, ◌+◌, ◌<◌, ◌∙◌, ◌∷◌, ◌≡◌, ◌≤◌, map-append}
use Rattle.lagsystem.proofs.Common.{take_more, Reply, Call, TableRun, Drives, call_of, CallPromise, SystemState}
use native.Mathlib.Omega.{arith}
use Rattle.lagsystem.specs.declared.drive.Call.{Call as Asked}

-- one more call
pub drives_more : (gives : ℕ → ℕ → ℕ → Type 0) (old mid new : SystemState) (calls : List Call) (answers : List Reply) (call : Call) (answer : Reply)
    → Drives gives old calls answers mid → CallPromise gives mid call answer new → Drives gives old (calls ++ call ∷ []) (answers ++ answer ∷ []) new
drives_more gives old mid new [] [] call answer h made = (new, subst (λ s. CallPromise gives s call answer new) h made, refl)
drives_more gives old mid new [] (a ∷ answers) call answer h made = absurd h
drives_more gives old mid new (c ∷ calls) [] call answer h made = absurd h
drives_more gives old mid new (c ∷ calls) (a ∷ answers) call answer h made =
    (h.0, h.1, drives_more gives h.0 mid new calls answers call answer h.2 made)

-- what is driven is a run
pub driven_runs : (gives : ℕ → ℕ → ℕ → Type 0) (old new : SystemState) (calls : List Call) (answers : List Reply)
    → Drives gives old calls answers new → TableRun gives old calls answers new
driven_runs gives old new [] [] h = h
driven_runs gives old new [] (a ∷ answers) h = absurd h
driven_runs gives old new (c ∷ calls) [] h = absurd h
driven_runs gives old new (c ∷ calls) (a ∷ answers) h = (h.0, h.1.step, driven_runs gives h.0 new calls answers h.2)

-- one more call of a list
pub drives_on : (gives : ℕ → ℕ → ℕ → Type 0) (old mid new : SystemState) (calls : List Asked) (answers : List Reply) (i : ℕ) (d : Asked) (answer : Reply)
    → i < length calls → Drives gives old (map call_of (take i calls)) answers mid → CallPromise gives mid (call_of (get_or calls i d)) answer new
    → Drives gives old (map call_of (take (i + 1) calls)) (answers ++ answer ∷ []) new
drives_on gives old mid new calls answers i d answer l h made =
    let more : map call_of (take (i + 1) calls) ≡ map call_of (take i calls) ++ call_of (get_or calls i d) ∷ [] =
    ap (map call_of) (take_more calls i d l) ∙ map-append call_of (take i calls) (get_or calls i d ∷ []) in
    grind (arith, drives_more, map, call_of, take, get_or)

-- all of them
pub drives_all : (gives : ℕ → ℕ → ℕ → Type 0) (old new : SystemState) (calls : List Asked) (answers : List Reply) (i : ℕ) → length calls ≤ i
    → Drives gives old (map call_of (take i calls)) answers new → Drives gives old (map call_of calls) answers new
drives_all gives old new calls answers i l h = subst (λ cs. Drives gives old (map call_of cs) answers new) (take_all i calls l) h
