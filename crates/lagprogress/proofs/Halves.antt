-- What an event does to the two systems of a world is what some calls of theirs do.
use Rattle.lagprogress.proofs.Common.{Bool, Err, List, Ok, Option, Result, Some, [], map, refl, slice_set, subst, suc, sym, true, zero, ℕ, ◌++◌, ◌∷◌}
use Rattle.lagprogress.proofs.Common.{◌≡◌, AggId, One, Side, Two, Stamp, Config, Answer, SystemFault, Received, Call, Offer, Receive, Restart, Step}
use Rattle.lagprogress.proofs.Common.{TableRun, Tick, Transmit, IsFirst, IsSound, SystemState, Step-free, first_free, Step-sound, first_sound, Event}
use Rattle.lagprogress.proofs.Common.{Reply, AfterOffer, AfterReceive, AfterTransmit, Algorithms, InHalf, WorldReceives, WorldSteps}
use Rattle.lagprogress.proofs.Common.{with_frame_counted, with_link_at, with_stamp_collected, HalfAnswers, HalfTicks, forced_if_accepted, AreFirst}
use Rattle.lagprogress.proofs.Common.{IsStart, HalfState, ItemValue, LinkState, WorldState, emptied, half, port_at, with_half, with_links}
use Rattle.lagprogress.proofs.Common.{PortsAreTimed, Step-each, first_each, calls_each, TimedAt, timed_kept, timed_settles, timed_starts, GoesByCalls}
use Rattle.lagprogress.proofs.Common.{IsSteady, IsSteadySystem}
use native.Mathlib.Omega.{arith}
use Rattle.cables.specs.declared.item.Stamp.TheVariants as stamp
use Rattle.lagsystem.specs.declared.drive.Reply.TheVariants as answer
use Rattle.lagsystem.specs.declared.received.Received.TheVariants as received
use Rattle.lagworld.proofs.Effects.{DoesEffect, Effect, HalfAsked, Recording, asks, changes_counted, delivers, does_effect, emits, offers, receives}
use Rattle.lagworld.proofs.Effects.{recorded, restarts, nothing, shrinks, ticks}

-- lists of calls

stays : (gives : ℕ → ℕ → ℕ → Type 0) (s t : SystemState) → t ≡ s → GoesByCalls gives s t
stays gives s t e = ([], [], e)

runs_on : (gives : ℕ → ℕ → ℕ → Type 0) (a b c : SystemState) (calls more : List Call) (answers others : List Answer)
    → TableRun gives a calls answers b → TableRun gives b more others c → TableRun gives a (calls ++ more) (answers ++ others) c
runs_on gives a b c [] more [] others h k = subst (λ (s : SystemState). TableRun gives s more others c) h k
runs_on gives a b c (call ∷ calls) more (x ∷ answers) others h k = (h.0, h.1, runs_on gives h.0 b c calls more answers others h.2 k)
runs_on gives a b c calls more answers others h k = absurd h

goes_on : (gives : ℕ → ℕ → ℕ → Type 0) (a b c : SystemState) → GoesByCalls gives a b → GoesByCalls gives b c → GoesByCalls gives a c
goes_on gives a b c h k = (h.0 ++ k.0, h.1 ++ k.1, runs_on gives a b c h.0 k.0 h.1 k.1 h.2 k.2)

one_call : (gives : ℕ → ℕ → ℕ → Type 0) (call : Call) (a : Answer) (old new : HalfState) → HalfAnswers gives call a old new
    → GoesByCalls gives old.state new.state
one_call gives call a old new h = (call ∷ [], a ∷ [], (new.state, h.answers.step, refl))

ticked : (gives : ℕ → ℕ → ℕ → Type 0) (n : ℕ) (old new : HalfState) → HalfTicks gives n old new → GoesByCalls gives old.state new.state
ticked gives zero old new h = stays gives old.state new.state (λ i. (h i).state)
ticked gives (suc n) old new h =
    goes_on gives old.state h.0.state new.state (ticked gives n old h.0 h.1) (one_call gives Tick answer.Tick h.0 new h.2)

-- worlds

abbrev Both : Algorithms → WorldState → WorldState → Type 0
Both gives j k = (s : Side) → GoesByCalls (gives s) (half s j).state (half s k).state

same : (gives : Algorithms) (j k : WorldState) → k ≡ j → Both gives j k
same gives j k e s = stays (gives s) (half s j).state (half s k).state (λ i. (half s (e i)).state)

then : (gives : Algorithms) (a b c : WorldState) → Both gives a b → Both gives b c → Both gives a c
then gives a b c h k s = goes_on (gives s) (half s a).state (half s b).state (half s c).state (h s) (k s)

in_half : (gives : Algorithms) (s : Side) (h : HalfState) (j : WorldState) → GoesByCalls (gives s) (half s j).state h.state → Both gives j (with_half s h j)
in_half gives One h j g One = g
in_half gives Two h j g Two = g
in_half gives s h j g t = stays (gives t) (half t j).state (half t j).state refl

as_half : (gives : Algorithms) (s : Side) (h : HalfState) (j : WorldState) → h.state ≡ (half s j).state → Both gives j (with_half s h j)
as_half gives s h j e = in_half gives s h j (stays (gives s) (half s j).state h.state e)

cables : (gives : Algorithms) (j : WorldState) (links : List LinkState) (new : WorldState) → new ≡ with_links j links → Both gives j new
cables gives j links new e s = stays (gives s) (half s j).state (half s new).state (λ i. (half s (e i)).state)

-- what a world does with an answer

emitted : (gives : Algorithms) (s : Side) (p : ℕ) (a : Result (Option (List ℕ)) SystemFault) (j new : WorldState) (r : Reply)
    → AfterTransmit s p a j r new → Both gives j new
emitted gives s p (Ok (Some frame)) j new r x = cables gives j _ new x.1
emitted gives s p a j new r x = same gives j new x.1

collected_on : (gives : Algorithms) (st : Stamp) (j : WorldState) → Both gives j (with_stamp_collected st j)
collected_on gives (stamp.Control count) j = same gives j j refl
collected_on gives (stamp.Data system agg conv serial) j = as_half gives _ _ j refl

arrived : (gives : Algorithms) (s : Side) (p : ℕ) (item : ItemValue) (a : Result Received SystemFault) (j new : WorldState) (r : Reply)
    → AfterReceive s p item a j r new → Both gives j new
arrived gives s p item (Ok received.TookLacpdu) j new r x = subst (Both gives j) (sym x.1) (as_half gives s _ j refl)
arrived gives s p item (Ok (received.Respond frame)) j new r x = cables gives j _ new x.1
arrived gives s p item (Ok (received.Up agg)) j new r x = subst (Both gives j) (sym x.1) (collected_on gives item.stamp j)
arrived gives s p item a j new r x = same gives j new x.1

arrives : (gives : Algorithms) (s : Side) (p : ℕ) (item : ItemValue) (j new : WorldState) (r : Reply) → WorldReceives gives s p item j r new → Both gives j new
arrives gives s p item j new r x =
    then gives j (with_half s x.1 j) new (in_half gives s x.1 j (one_call (gives s) (Receive p item.octets) (answer.Receive x.0)
    _ _ x.2))
    (arrived gives s p item x.0 (with_half s x.1 j) new r x.3)

offered : (gives : Algorithms) (s : Side) (agg : AggId) (octets : List ℕ) (a : Result ℕ SystemFault) (j new : WorldState) (r : Reply)
    → AfterOffer s agg octets a j r new → Both gives j new
offered gives s agg octets (Err fault) j new r x = same gives j new x.1
offered gives s agg octets (Ok port) j new r x = let mid = with_half s (with_frame_counted agg octets (half s j)) j in
    then gives j mid new (as_half gives s (with_frame_counted agg octets (half s j)) j refl) (cables gives mid _ new x.2)

-- what is recorded changes no state
pub forced_state : (a : Result Unit SystemFault) (agg : AggId) (conv : ℕ) (h : HalfState) → (forced_if_accepted a agg conv h).state ≡ h.state
forced_state a agg conv h = grind arith

noted : (kept : Recording) (a : Answer) (h : HalfState) → (recorded kept a h).state ≡ h.state
noted kept a h = grind arith

changes : (gives : Algorithms) (s : Side) (h : HalfState) (j new : WorldState) → GoesByCalls (gives s) (half s j).state (half s new).state
    → new ≡ with_half s (half s new) j → Both gives j new
changes gives s h j new g e = subst (Both gives j) (sym e) (in_half gives s (half s new) j g)

asked : (gives : Algorithms) (s : Side) (call : Call) (kept : Recording) (up : Bool) (r : Reply) (j new : WorldState)
    → InHalf s (λ h k. HalfAsked (gives s) call kept up h r k) j new → Both gives j new
asked gives s call kept up r j new x = changes gives s (half s new) j new
    (subst (λ (h : HalfState). GoesByCalls (gives s) (half s j).state h.state) (sym x.0.4)
    (subst (GoesByCalls (gives s) (half s j).state) (sym (noted kept x.0.0 x.0.1)) (one_call (gives s) call x.0.0 (half s j) x.0.1 x.0.2)))
    x.1

does : (gives : Algorithms) (e : Event) (d : Effect) (r : Reply) (old new : WorldState) → DoesEffect gives e old d r new → Both gives old new
does gives e (nothing a) r old new x = same gives old new x.1
does gives e (shrinks i l m a) r old new x = cables gives old _ new x.2
does gives e (ticks s count) r old new x =
    changes gives s (half s new) old new (ticked (gives s) count (half s old) (half s new) x.0.0) x.0.1
does gives e (asks s call kept up) r old new x = asked gives s call kept up r old new x.1
does gives e (restarts s) r old new x = let j = with_links old (map emptied old.links) in
    then gives old j new (cables gives old (map emptied old.links) j refl) (asked gives s Restart changes_counted true r j new x)
does gives e (receives s p item) r old new x = arrives gives s p item old new r x
does gives e (delivers s i l m item) r old new x = let j = with_link_at i m old in
    then gives old j new (cables gives old (slice_set old.links i m) j refl) (arrives gives s (port_at s l) item j new r x.1)
does gives e (emits s p) r old new x = then gives old (with_half s x.1 old) new
    (in_half gives s x.1 old (one_call (gives s) (Transmit p) (answer.Transmit x.0) (half s old) x.1 x.2))
    (emitted gives s p x.0 (with_half s x.1 old) new r x.3)
does gives e (offers s agg octets) r old new (n, frame, named, e_is, x) = then gives old (with_half s x.1 old) new
    (in_half gives s x.1 old (one_call (gives s) (Offer agg octets) (answer.Offer x.0) (half s old) x.1 x.2))
    (offered gives s agg octets x.0 (with_half s x.1 old) new r x.3)

pub each_is_calls : (gives : Algorithms) (e : Event) (r : Reply) (old new : WorldState) → WorldSteps gives old e r new
    → (s : Side) → GoesByCalls (gives s) (half s old).state (half s new).state
each_is_calls gives e r old new x s = let v = does_effect gives e r old (record new { acted = old.acted }) x.0 in
    does gives e v.0 r old (record new { acted = old.acted }) v.2 s

-- what holds of both systems

-- sound, with timers within their bounds
abbrev pub IsTimely : SystemState → Type 0
IsTimely s = IsSound s × PortsAreTimed s

abbrev pub AreTimely : WorldState → Type 0
AreTimely j = (s : Side) → IsTimely (half s j).state

pub call_timely : (gives : ℕ → ℕ → ℕ → Type 0) (old new : SystemState) (call : Call) (a : Answer) → Step gives old call a new → IsTimely old → IsTimely new
call_timely gives old new call a h k =
    (Step-sound gives old call a new h k.0, Step-each TimedAt timed_settles gives old call a new (timed_kept call a) h k.1)

pub keeps_timely : (gives : Algorithms) (e : Event) (r : Reply) (old new : WorldState) → WorldSteps gives old e r new → AreTimely old → AreTimely new
keeps_timely gives e r old new x k s = let g = each_is_calls gives e r old new x s in
    calls_each (gives s) IsTimely (call_timely (gives s)) (half s old).state (half s new).state g.0 g.1 g.2 (k s)

-- so is a steady world
pub timely : (j : WorldState) → IsSteady j → AreTimely j
timely j k s = ((k s).0, (k s).1)

pub call_steady : (gives : ℕ → ℕ → ℕ → Type 0) (old new : SystemState) (call : Call) (a : Answer) → Step gives old call a new → IsSteadySystem old
    → IsSteadySystem new
call_steady gives old new call a h k =
    (let t = call_timely gives old new call a h (k.0, k.1) in (t.0, t.1, Step-free gives old call a new h k.2))

pub keeps_steady : (gives : Algorithms) (e : Event) (r : Reply) (old new : WorldState) → WorldSteps gives old e r new → IsSteady old → IsSteady new
keeps_steady gives e r old new x k s = let g = each_is_calls gives e r old new x s in
    calls_each (gives s) IsSteadySystem (call_steady (gives s)) (half s old).state (half s new).state g.0 g.1 g.2 (k s)

pub both_first : (configs : List Config) (j : WorldState) → AreFirst configs j → (s : Side) → IsFirst (half s j).state
both_first (a ∷ b ∷ []) j h One = h.0.first
both_first (a ∷ b ∷ []) j h Two = h.1.first
both_first configs j h s = absurd h

pub start_steady : (configs : List Config) (j : WorldState) → IsStart j → AreFirst configs j → IsSteady j
start_steady configs j i h s = let first = both_first configs j h s in (
  first_sound (half s j).state (i.kept s).agrees.ports first,
  first_each TimedAt timed_settles timed_starts (half s j).state first,
  first_free (half s j).state first,
)
