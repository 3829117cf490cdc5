-- A warm start leaves every conversation free, and the next marker.
use Rattle.dataplane.proofs.Common.{Bool, IfOk, List, None, Result, [], ap, get_or, if◌then◌else◌, length, map, refl, subst, suc, sym, take, zero, ℕ}
use Rattle.dataplane.proofs.Common.{◌+◌, ◌-◌, ◌∙◌, ◌∷◌, ◌≡◌, AllByRecursion, flat_map, IfErr, Key, all-append, Free, Table, assignment_of, Config}
use Rattle.dataplane.proofs.Common.{PortConfig, Reply, Call, Configure, Receive, Set_link, ThenSettles, Tick, Drives, IsConfigured, IsFirst}
use Rattle.dataplane.proofs.Common.{SystemState, SavedPort, Before, Leading, AreFresh, IsNotWarmed, IsResumed, IsUnused, IsWarmed, MayRefuse, Runs}
use Rattle.dataplane.proofs.Common.{calls_of, call_if, duration, filled, filled_by, fills, heard, heard_of, individual_frame, is_due, is_saved}
use Rattle.dataplane.proofs.Common.{link_up, occupied, other_starting, others_starting, passing, starting_again, warm_calls}
use native.Mathlib.Omega.{arith}
use Rattle.dataplane.specs.declared.resuming.ResumeFault.{ResumeFault}
use Rattle.dataplane.specs.declared.warming.Moment.{Moment}
use Rattle.distributor.proofs.TableLemmas.{first_free}
use Rattle.lagsystem.proofs.Preserves.{Preserves, Step-preserves}
use Rattle.lagsystem.specs.Settling.{Settling}

-- every conversation is free, and this is the next marker
pub record IsFree (marker : ℕ) (t : Table) : Type 0 where
  pub free : (agg conv : ℕ) → assignment_of t agg conv ≡ Free None
  pub next : t.next ≡ marker

-- a call of a warm start
abbrev IsWarmCall : Call → Type 0
IsWarmCall (Set_link n up) = Unit {0}
IsWarmCall (Receive n octets) = Unit {0}
IsWarmCall (Configure n change) = Unit {0}
IsWarmCall Tick = Unit {0}
IsWarmCall call = ⊥

first_is_free : (s : SystemState) → IsFirst s → IsFree s.first_marker s.table
first_is_free s h = record { free = λ agg conv. ap (λ (t : Table). assignment_of t agg conv) h.3 ∙ first_free (length s.keys) s.conversations s.first_marker agg conv; next = ap (λ (t : Table). t.next) h.3 }

settling_frees : (marker : ℕ) (old new : SystemState) → Settling old new → IsFree marker old.table → IsFree marker new.table
settling_frees marker old new h f = grind arith

settled : (marker : ℕ) (own : SystemState → SystemState → Type 0) (old new : SystemState)
    → ((mid : SystemState) → own old mid → IsFree marker mid.table) → ThenSettles own old new → IsFree marker new.table
settled marker own old new k h = settling_frees marker h.0 new h.2 (k h.0 h.1)

abbrev StaysFree : ℕ → SystemState → Call → Reply → SystemState → Type 0
StaysFree marker old call answer new = IsWarmCall call → IsFree marker old.table → IsFree marker new.table

call_frees : (gives : ℕ → ℕ → ℕ → Type 0) (marker : ℕ) (old : SystemState) → Preserves gives old (StaysFree marker old)
call_frees gives marker old = grind arith

drives_free : (gives : ℕ → ℕ → ℕ → Type 0) (marker : ℕ) (old new : SystemState) (calls : List Call) (answers : List Reply)
    → AllByRecursion IsWarmCall calls → Drives gives old calls answers new → IsFree marker old.table → IsFree marker new.table
drives_free gives marker old new [] [] w h f = subst (λ (s : SystemState). IsFree marker s.table) (sym h) f
drives_free gives marker old new [] (answer ∷ answers) w h f = absurd h
drives_free gives marker old new (call ∷ calls) [] w h f = absurd h
drives_free gives marker old new (call ∷ calls) (answer ∷ answers) w h f = drives_free gives marker h.0 new calls answers w.1 h.2
    (Step-preserves gives old (StaysFree marker old) (call_frees gives marker old) call answer h.0 h.1.step w.0 f)

warm_of_each : {A : Type 0} (f : A → List Call) → ((x : A) → AllByRecursion IsWarmCall (f x)) → (xs : List A) → AllByRecursion IsWarmCall (flat_map f xs)
warm_of_each f each [] = tt
warm_of_each f each (x ∷ xs) = all-append IsWarmCall (f x) (flat_map f xs) (each x) (warm_of_each f each xs)

warm_if : (so : Bool) (call : Call) → IsWarmCall call → AllByRecursion IsWarmCall (call_if so call)
warm_if so call w = grind arith

links_warm : (ports : List PortConfig) → AllByRecursion IsWarmCall (map link_up ports)
links_warm [] = tt
links_warm (c ∷ cs) = (tt, links_warm cs)

heard_warm : (moment : Moment) (saved : List SavedPort) → AllByRecursion IsWarmCall (heard moment saved)
heard_warm moment saved = grind (arith, warm_of_each, heard_of, warm_if, is_due)

filled_warm : (saved : List SavedPort) (below : List Key) (key : Key) (agg : ℕ) (ports : List PortConfig)
    → AllByRecursion IsWarmCall (filled saved below key agg ports)
filled_warm saved below key agg ports = grind (arith, warm_of_each, filled_by, warm_if, fills, individual_frame)

occupied_warm : (saved : List SavedPort) (keys : List Key) (ports : List PortConfig) (n : ℕ) → AllByRecursion IsWarmCall (occupied saved keys ports n)
occupied_warm saved keys ports zero = tt
occupied_warm saved keys ports (suc n) = all-append IsWarmCall (occupied saved keys ports n) _ (occupied_warm saved keys ports n)
    (all-append IsWarmCall (heard (Leading (n + 1)) saved) _ (heard_warm (Leading (n + 1)) saved)
    (filled_warm saved (take n keys) (get_or keys n (record { 0 = 0 })) (n + 1) ports))

start_unless : (so : Bool) (c : PortConfig) → AllByRecursion IsWarmCall (if so then [] else starting_again c)
start_unless so c = grind arith

others_warm : (saved : List SavedPort) (ports : List PortConfig) → AllByRecursion IsWarmCall (others_starting saved ports)
others_warm saved ports = warm_of_each (other_starting saved) (λ c. start_unless (is_saved saved c.number) c) ports

passing_warm : (saved : List SavedPort) (ticks n : ℕ) → AllByRecursion IsWarmCall (passing saved ticks n)
passing_warm saved ticks zero = heard_warm (Before ticks) saved
passing_warm saved ticks (suc n) =
    all-append IsWarmCall (passing saved ticks n) _ (passing_warm saved ticks n) (tt, heard_warm (Before (ticks - n - 1)) saved)

all_warm : (keys : List Key) (ports : List PortConfig) (saved : List SavedPort) → AllByRecursion IsWarmCall (warm_calls keys ports saved)
all_warm keys ports saved = grind (arith, all-append, IsWarmCall, map, link_up, links_warm, occupied, occupied_warm, others_starting, others_warm, passing_warm, duration)

-- so it is after a warm start
pub warm_unused : (gives : ℕ → ℕ → ℕ → Type 0) (config : Config) (saved : List SavedPort) (first s : SystemState) → IsFirst first
    → IsConfigured config first → Runs gives first (calls_of config saved) s → IsUnused config s
warm_unused gives config saved first s made configured run =
    let warm = all_warm config.aggregators.items config.ports.items saved in
    let f = drives_free gives first.first_marker first s (calls_of config saved) run.0 warm run.1 (first_is_free first made) in
    record { free = f.free; marker = f.next ∙ configured.first_marker }

same_lists : (gives : ℕ → ℕ → ℕ → Type 0) (config : Config) (saved : List SavedPort) (first : SystemState) (keys : List Key)
    (ports : List PortConfig) (P : List Call → List PortConfig → Type 0) → keys ≡ config.aggregators.items → ports ≡ config.ports.items
    → P (warm_calls keys ports saved) ports → P (calls_of config saved) config.ports.items
same_lists gives config saved first keys ports P k p h = grind arith

module _ (gives : ℕ → ℕ → ℕ → Type 0) (config : Config) (saved : List SavedPort) (first : SystemState) (keys : List Key)
    (ports : List PortConfig) (k : keys ≡ config.aggregators.items) (p : ports ≡ config.ports.items) (fresh : AreFresh config saved)
    (made : IsFirst first) (configured : IsConfigured config first) where
  -- the system of a warm start
  pub resumed_by : (s : SystemState) → IsWarmed gives first (warm_calls keys ports saved) config.system ports saved s → IsResumed gives config saved s
  resumed_by s h =
      let warm = same_lists gives config saved first keys ports (λ calls ps. IsWarmed gives first calls config.system ps saved s) k p h in
      record {
        fresh = fresh;
        first = first;
        made = made;
        configured = configured;
        warmed = warm;
        unused = warm_unused gives config saved first s made configured warm.run;
      }

  -- why there is none
  pub refused_by : (fault : ResumeFault) → IsNotWarmed gives first (warm_calls keys ports saved) config.system ports saved fault
      → MayRefuse gives config saved fault
  refused_by fault h =
      let not = same_lists gives config saved first keys ports (λ calls ps. IsNotWarmed gives first calls config.system ps saved fault) k p h in
      subst (MayRefuse gives config saved) (sym not.1) (fresh, (first, made, configured, (not.0, refl, not.2)))

pub if_ok : {A B : Type 0} (P Q : A → Type 0) (r : Result A B) → ((a : A) → P a → Q a) → IfOk r P → IfOk r Q
if_ok P Q r f h = grind arith

pub if_err : {A B : Type 0} (P Q : B → Type 0) (r : Result A B) → ((b : B) → P b → Q b) → IfErr r P → IfErr r Q
if_err P Q r f h = grind arith
