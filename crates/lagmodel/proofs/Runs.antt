-- Runs of worlds, for a crate of two systems. A call of one of them as an event: calls_from, no_call. Cables:
-- end_there, put_on, put_nowhere. One side: itself, self. Worlds: same_world, same_view, runs_joined. What holds after
-- a run: `lawful` of Events, and the lemma of each fact in Laws.
use Rattle.lagmodel.proofs.Common.{Bool, List, None, Option, Some, [], ap, cond, inl, map, refl, slice_get, subst, suc, sym, ℕ, ◌&&◌, ◌++◌, ◌∙◌, ◌∷◌}
use Rattle.lagmodel.proofs.Common.{◌≡◌, ◌⊎◌, option_to_list, world_after_call, Act, AllAllowed, LawfulMoves, Move, act, acts, view_after}
use Rattle.lagmodel.proofs.Common.{view_after_all, ModelCall, View, AllMoves, CallHappens, CountsChanges, Ends, Event, Message, One, Run, Side, World}
use Rattle.lagmodel.proofs.Common.{WorldSetup, at_cable, at_side, end_at, port_on, put_on_cable, world_after, world_after_all}
use native.Mathlib.Omega.{arith}

-- A call in a world: what it was seen to do goes onto the cables.
pub itself : {X : Type 0} (f : Side → X) (s t : Side) → f t ≡ at_side f s (f s) t
itself f s t = grind arith

twice : {X : Type 0} (f : Side → X) (s : Side) (x y : X) (t : Side) → at_side (at_side f s x) s y t ≡ at_side f s y t
twice f s x y t = grind arith

none_called : (x : WorldSetup) (s : Side) (stamp : ℕ) (kept : Bool) (w : World) → w ≡ world_after_call x s stamp kept None (w.view s) w
none_called x s stamp kept w = grind arith

pub self : {X : Type 0} (f : Side → X) (s : Side) (x : X) → at_side f s x s ≡ x
self f s x = grind arith

before : (x : WorldSetup) (s : Side) (stamp : ℕ) (kept : Bool) (o : Option Act) (a b : View) (w : World)
    → world_after_call x s stamp kept o b (world_after_call x s stamp kept None a w) ≡ world_after_call x s stamp kept o b w
before x s stamp kept o a b w = grind arith

behind : (x : WorldSetup) (s : Side) (stamp : ℕ) (kept : Bool) (o : Option Act) (a b : View) (w : World)
    → world_after_call x s stamp kept None b (world_after_call x s stamp kept o a w) ≡ world_after_call x s stamp kept o b w
behind x s stamp kept o a b w = grind arith

nothing_seen : (y : Act) (ys : List Act) → y ∷ ys ≡ [] → ⊥
nothing_seen y ys h = cc

one_seen : (y z : Act) (ys : List Act) → y ∷ ys ≡ z ∷ [] → (y ≡ z) × (ys ≡ [])
one_seen y z ys h = (cc, cc)

called_step : (x : WorldSetup) (s : Side) (stamp : ℕ) (kept : Bool) (m : Move) (ms : List Move) (w : World) (o a : Option Act)
    → act (x.setup s) m (w.view s) ≡ a
    → ((o : Option Act) → acts (x.setup s) ms ((world_after x s stamp (m, kept) w).view s) ≡ option_to_list o
    → world_after_all x s stamp (map (λ (m : Move). (m, kept)) ms) (world_after x s stamp (m, kept) w) ≡ world_after_call x s stamp kept o
    (view_after_all (x.setup s) ms ((world_after x s stamp (m, kept) w).view s)) (world_after x s stamp (m, kept) w))
    → option_to_list a ++ acts (x.setup s) ms (view_after (x.setup s) m (w.view s)) ≡ option_to_list o
    → world_after_all x s stamp (map (λ (m : Move). (m, kept)) ms) (world_after x s stamp (m, kept) w) ≡ world_after_call x s stamp kept o
    (view_after_all (x.setup s) ms (view_after (x.setup s) m (w.view s))) w
called_step x s stamp kept m ms w o None h ih e = grind arith
called_step x s stamp kept m ms w None (Some y) h ih e = grind arith
called_step x s stamp kept m ms w (Some z) (Some y) h ih e = let v : View = view_after (x.setup s) m (w.view s) in
    let there = self w.view s v in
    let parts = one_seen y z (acts (x.setup s) ms v) e in
    ih None (ap (acts (x.setup s) ms) there ∙ parts.1)
    ∙ ap (λ (y : View). world_after_call x s stamp kept None (view_after_all (x.setup s) ms y) (world_after x s stamp (m, kept) w)) there
    ∙ ap (λ (a : Option Act). world_after_call x s stamp kept None (view_after_all (x.setup s) ms v)
    (world_after_call x s stamp kept a v w)) h
    ∙ behind x s stamp kept (Some y) v (view_after_all (x.setup s) ms v) w
    ∙ ap (λ (y : Act). world_after_call x s stamp kept (Some y) (view_after_all (x.setup s) ms v) w) parts.0

called_moves : (x : WorldSetup) (s : Side) (stamp : ℕ) (kept : Bool) (ms : List Move) (w : World) (o : Option Act)
    → acts (x.setup s) ms (w.view s) ≡ option_to_list o
    → world_after_all x s stamp (map (λ (m : Move). (m, kept)) ms) w ≡ world_after_call x s stamp kept o (view_after_all (x.setup s) ms (w.view s)) w
called_moves x s stamp kept [] w None e = none_called x s stamp kept w
called_moves x s stamp kept [] w (Some y) e = absurd (nothing_seen y [] (sym e))
called_moves x s stamp kept (m ∷ ms) w o e = called_step x s stamp kept m ms w o (act (x.setup s) m (w.view s)) refl
    (λ o. called_moves x s stamp kept ms (world_after x s stamp (m, kept) w) o) e

moves_of_world : (x : WorldSetup) (s : Side) (call : ModelCall) (stamp : ℕ) (kept : Bool) (ms : List Move) (w : World)
    → AllAllowed (x.setup s) call (w.view s) ms → AllMoves x s call stamp (map (λ (m : Move). (m, kept)) ms) w
moves_of_world x s call stamp kept [] w h = tt
moves_of_world x s call stamp kept (m ∷ ms) w h = (
  h.0,
  moves_of_world x s call stamp kept ms (world_after x s stamp (m, kept) w)
      (subst (λ v. AllAllowed (x.setup s) call v ms) (sym (self w.view s (view_after (x.setup s) m (w.view s)))) h.1),
)

pub calls_from : (x : WorldSetup) (s : Side) (call : ModelCall) (stamp : ℕ) (old mid new : World) (v : View) (o : Option Act)
    (kept : Bool) (count : Side → ℕ → ℕ)
    → LawfulMoves (x.setup s) call (mid.view s) (option_to_list o) v → CountsChanges old (world_after_call x s stamp kept o v mid) count
    → new ≡ record (world_after_call x s stamp kept o v mid) { count = count } → CallHappens x s call stamp old mid new
calls_from x s call stamp old mid new v o kept count h c e =
    let same : world_after_all x s stamp (map (λ (m : Move). (m, kept)) h.0) mid ≡ world_after_call x s stamp kept o v mid =
    called_moves x s stamp kept h.0 mid o h.2 ∙ ap (λ (v : View). world_after_call x s stamp kept o v mid) (sym h.3) in (
      map (λ (m : Move). (m, kept)) h.0,
      moves_of_world x s call stamp kept h.0 mid h.1,
      (count, subst (λ w. CountsChanges old w count) (sym same) c, e ∙ ap (λ (w : World). record w { count = count }) (sym same)),
    )

-- a call that does nothing, as one that is refused
pub no_call : (x : WorldSetup) (s : Side) (call : ModelCall) (stamp : ℕ) (w : World) → CallHappens x s call stamp w w w
no_call x s call stamp w = ([], tt, (w.count, (λ t p. inl (refl, refl)), refl))

-- an end of a cable is that of a place of the list
pub end_there : (cables : List Ends) (s : Side) (c p : ℕ) → end_at cables s c ≡ Some p → (i : ℕ) × (e : Ends) × (c ≡ suc i)
    × (slice_get cables i ≡ Some e) × (port_on s e ≡ p)
end_there cables s c p h = grind arith

-- what a message put on the cable of a port leaves, by the port's one cable
pub put_on : (ends : ℕ → Option ℕ) (whole : ℕ → Bool) (kept : Bool) (p : ℕ) (m : Message) (lines : ℕ → List Message) (c : ℕ)
    → ((c d p : ℕ) → ends c ≡ Some p → ends d ≡ Some p → c ≡ d) → ends c ≡ Some p
    → (d : ℕ) → put_on_cable ends whole kept p m lines d ≡ at_cable lines c (cond (kept && whole c) (lines c ++ m ∷ []) (lines c)) d
put_on ends whole kept p m lines c one there d = grind arith

-- of a port without a cable
pub put_nowhere : (ends : ℕ → Option ℕ) (whole : ℕ → Bool) (kept : Bool) (p : ℕ) (m : Message) (lines : ℕ → List Message)
    → ((c : ℕ) → ends c ≡ Some p → ⊥) → (d : ℕ) → put_on_cable ends whole kept p m lines d ≡ lines d
put_nowhere ends whole kept p m lines none d = grind arith

-- worlds that are alike at each place are the same
pub same_world : (v w : World) → ((s : Side) → v.view s ≡ w.view s) → ((c : ℕ) → v.whole c ≡ w.whole c) → ((s : Side) (c : ℕ) → v.on_cable s c ≡ w.on_cable s c)
    → ((s : Side) (p : ℕ) → v.count s p ≡ w.count s p) → ((s : Side) (p : ℕ) → v.taken s p ≡ w.taken s p) → ((s : Side) (g k : ℕ) → v.sent s g k ≡ w.sent s g k)
    → ((s : Side) (g k : ℕ) → v.collected s g k ≡ w.collected s g k) → ((s : Side) (g k : ℕ) → v.forced s g k ≡ w.forced s g k) → v ≡ w
same_world v w a b c d e f g h = grind arith

-- views that are alike at each place are the same
pub same_view : (v w : View) → ((p : ℕ) → v.port p ≡ w.port p) → ((g k : ℕ) → v.flows.state g k ≡ w.flows.state g k) → v.flows.next ≡ w.flows.next → v ≡ w
same_view v w a b c = λ i. record { port = λ p. a p i; flows = record { state = λ g k. b g k i; next = c i } }

-- runs one after another
pub runs_joined : (x : WorldSetup) (es fs : List Event) (old mid new : World) → Run x es old mid → Run x fs mid new → Run x (es ++ fs) old new
runs_joined x [] fs old mid new h i = subst (λ w. Run x fs w new) h i
runs_joined x (e ∷ es) fs old mid new h i = (h.0, h.1, runs_joined x es fs h.0 mid new h.2 i)
