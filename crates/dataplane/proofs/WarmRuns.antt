-- The calls of a warm start, one after another.
use Rattle.dataplane.proofs.Common.{Bool, List, [], ap, append-nil, arith, get_or, length, map, refl, subst, suc, sym, take, true, ℕ, ◌++◌, ◌+◌, ◌-◌}
use Rattle.dataplane.proofs.Common.{◌<◌, ◌∙◌, ◌∷◌, ◌≡◌, ◌≤◌, flat_map-append, map-append, take_all, take_more, flat_map, Key, PortConfig, Reply, Call}
use Rattle.dataplane.proofs.Common.{Tick, Drives, CallPromise, SystemState, SavedPort, Before, Leading, Runs, call_if, filled, heard, occupied}
use Rattle.dataplane.proofs.Common.{passing}
use Rattle.lagsystem.specs.declared.drive.Reply.TheVariants as reply
use Rattle.lagsystem.proofs.DriveLemmas.{drives_more}

-- one more call
pub runs_more : (gives : ℕ → ℕ → ℕ → Type 0) (old mid new : SystemState) (calls : List Call) (call : Call) (answer : Reply)
    → Runs gives old calls mid → CallPromise gives mid call answer new → Runs gives old (calls ++ call ∷ []) new
runs_more gives old mid new calls call answer h made = (h.0 ++ answer ∷ [], drives_more gives old mid new calls h.0 call answer h.1 made)

-- one run after another
pub runs_joined : (gives : ℕ → ℕ → ℕ → Type 0) (old mid new : SystemState) (calls more : List Call) → Runs gives old calls mid
    → Runs gives mid more new → Runs gives old (calls ++ more) new
runs_joined gives old mid new calls more h k = (h.0 ++ k.0, joined old calls h.0 h.1)
  where
    joined : (old : SystemState) (calls : List Call) (answers : List Reply) → Drives gives old calls answers mid
        → Drives gives old (calls ++ more) (answers ++ k.0) new
    joined old [] [] h = subst (λ s. Drives gives s more k.0 new) h k.1
    joined old [] (answer ∷ answers) h = absurd h
    joined old (call ∷ calls) [] h = absurd h
    joined old (call ∷ calls) (answer ∷ answers) h = (h.0, h.1, joined h.0 calls answers h.2)

-- no call, and one
pub no_call : (gives : ℕ → ℕ → ℕ → Type 0) (old : SystemState) → Runs gives old [] old
no_call gives old = ([], refl)

pub one_call : (gives : ℕ → ℕ → ℕ → Type 0) (old new : SystemState) (call : Call) (answer : Reply) → CallPromise gives old call answer new
    → Runs gives old (call ∷ []) new
one_call gives old new call answer made = (answer ∷ [], (new, made, refl))

-- three calls
pub three_calls : (gives : ℕ → ℕ → ℕ → Type 0) (old one two new : SystemState) (first second third : Call) (a b c : Reply) → CallPromise gives old first a one
    → CallPromise gives one second b two → CallPromise gives two third c new → Runs gives old (first ∷ second ∷ third ∷ []) new
three_calls gives old one two new first second third a b c p q r = (a ∷ b ∷ c ∷ [], (one, p, (two, q, (new, r, refl))))

-- a call that is made on a condition
pub made_if : (gives : ℕ → ℕ → ℕ → Type 0) (old new : SystemState) (so : Bool) (call : Call) (answer : Reply) → so ≡ true
    → CallPromise gives old call answer new → Runs gives old (call_if so call) new
made_if gives old new so call answer e made = grind (arith, call_if, one_call)

-- one more call of those that are made of the items of a list
pub runs_on : {A : Type 0} (gives : ℕ → ℕ → ℕ → Type 0) (old mid new : SystemState) (f : A → Call) (xs : List A) (i : ℕ) (d : A)
    (answer : Reply) → i < length xs → Runs gives old (map f (take i xs)) mid → CallPromise gives mid (f (get_or xs i d)) answer new
    → Runs gives old (map f (take (i + 1) xs)) new
runs_on gives old mid new f xs i d answer l h made =
    let more : map f (take (i + 1) xs) ≡ map f (take i xs) ++ f (get_or xs i d) ∷ [] =
    ap (map f) (take_more xs i d l) ∙ map-append f (take i xs) (get_or xs i d ∷ []) in
    subst (λ calls. Runs gives old calls new) (sym more) (runs_more gives old mid new (map f (take i xs)) (f (get_or xs i d)) answer h made)

-- all of them
pub runs_all : {A : Type 0} (gives : ℕ → ℕ → ℕ → Type 0) (old new : SystemState) (f : A → Call) (xs : List A) (i : ℕ) → length xs ≤ i
    → Runs gives old (map f (take i xs)) new → Runs gives old (map f xs) new
runs_all gives old new f xs i l h = subst (λ ys. Runs gives old (map f ys) new) (take_all i xs l) h

-- the calls of one more item of a list
pub flat_on : {A : Type 0} (gives : ℕ → ℕ → ℕ → Type 0) (old mid new : SystemState) (f : A → List Call) (xs : List A) (i : ℕ) (d : A) → i < length xs
    → Runs gives old (flat_map f (take i xs)) mid → Runs gives mid (f (get_or xs i d)) new → Runs gives old (flat_map f (take (i + 1) xs)) new
flat_on gives old mid new f xs i d l h made =
    let more : flat_map f (take (i + 1) xs) ≡ flat_map f (take i xs) ++ f (get_or xs i d) =
    ap (flat_map f) (take_more xs i d l)
    ∙ (flat_map-append f (take i xs) (get_or xs i d ∷ [])
    ∙ ap (λ calls. flat_map f (take i xs) ++ calls) (append-nil (f (get_or xs i d)))) in
    subst (λ calls. Runs gives old calls new) (sym more) (runs_joined gives old mid new (flat_map f (take i xs)) (f (get_or xs i d)) h made)

-- those of all
pub flat_all : {A : Type 0} (gives : ℕ → ℕ → ℕ → Type 0) (old new : SystemState) (f : A → List Call) (xs : List A) (i : ℕ) → length xs ≤ i
    → Runs gives old (flat_map f (take i xs)) new → Runs gives old (flat_map f xs) new
flat_all gives old new f xs i l h = subst (λ ys. Runs gives old (flat_map f ys) new) (take_all i xs l) h

one_more : (n : ℕ) → n + 1 ≡ suc n
one_more n = omega arith

-- one more aggregator gets its first port
pub occupied_on : (gives : ℕ → ℕ → ℕ → Type 0) (old mid next new : SystemState) (saved : List SavedPort) (keys : List Key) (ports : List PortConfig) (n : ℕ)
    → Runs gives old (occupied saved keys ports n) mid → Runs gives mid (heard (Leading (n + 1)) saved) next
    → Runs gives next (filled saved (take n keys) (get_or keys n (record { 0 = 0 })) (n + 1) ports) new → Runs gives old (occupied saved keys ports (n + 1)) new
occupied_on gives old mid next new saved keys ports n h led more = let first = heard (Leading (n + 1)) saved in
    let rest = filled saved (take n keys) (get_or keys n (record { 0 = 0 })) (n + 1) ports in
    subst (λ m. Runs gives old (occupied saved keys ports m) new) (sym (one_more n))
    (runs_joined gives old mid new (occupied saved keys ports n) (first ++ rest) h (runs_joined gives mid next new first rest led more))

-- one more tick passes
pub passing_on : (gives : ℕ → ℕ → ℕ → Type 0) (old mid next new : SystemState) (saved : List SavedPort) (ticks n : ℕ)
    → Runs gives old (passing saved ticks n) mid → CallPromise gives mid Tick reply.Tick next
    → Runs gives next (heard (Before (ticks - n - 1)) saved) new → Runs gives old (passing saved ticks (n + 1)) new
passing_on gives old mid next new saved ticks n h tick more = let rest = heard (Before (ticks - n - 1)) saved in
    subst (λ m. Runs gives old (passing saved ticks m) new) (sym (one_more n))
    (runs_joined gives old mid new (passing saved ticks n) (Tick ∷ rest) h
    (runs_joined gives mid next new (Tick ∷ []) rest (one_call gives mid next Tick reply.Tick tick) more))
