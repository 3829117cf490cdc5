-- A conversation counts as forced only after an event that forces it.
use Rattle.laghosts.proofs.Common.{Bool, Err, IsSomeAnd, List, None, Ok, Option, Result, Some, [], ap, arith, cond, eq-eqb, eqb, eqb-true, false, inl}
use Rattle.laghosts.proofs.Common.{inr, is_some, option_map, refl, subst, sym, true, ℕ, ◌&&◌, ◌||◌, ◌∙◌, ◌∷◌, ◌≡◌, ◌⊎◌, and_parts, cases_Bool}
use Rattle.laghosts.proofs.Common.{true≢false, AggId, Move, ModelEvent, CallHappens, Control, Data, DeliversFirst, Happening, Happens, LosesFirst}
use Rattle.laghosts.proofs.Common.{Message, One, Receives, RepeatsFirst, Side, Told_senses, Two, World, WorldSetup, at_side, at_two, end_at}
use Rattle.laghosts.proofs.Common.{handed_up, world_after, world_after_all, SystemFault, Reply, with_sent_in, Algorithms, WorldSteps, model_event}
use Rattle.laghosts.proofs.Common.{side_of, forced_if_accepted, side_numbered, model_world, world_setup, IsSound, FlowValue, HalfState, WorldState}
use Rattle.laghosts.proofs.Common.{change_flow, flow_at, forced_in, half, with_forced, with_half, with_sent, flow_other, flow_other_row, read_same}
use Rattle.laghosts.proofs.Common.{kept_at, does_happen, AfterNumberedOffer, AfterProbe, CountsHeldIfOk, ForcedByForce, ForcesPort, HostEvent}
use Rattle.laghosts.proofs.Common.{HostSteps, Leaves, MayForce, Offers, Plays, Probes, Rests, Sets, forced_if, is_held, numbered_item}
use Rattle.lagscript.specs.declared.event.Event.{Event}
use Rattle.lagscript.specs.declared.event.Event.TheVariants as event
use Rattle.lagworld.proofs.Acts.{side_there}
use Rattle.lagworld.proofs.Effects.{some_there}
use Rattle.laghosts.proofs.HostHappens.{offered_joint}

-- ---- the events of the law

moves_keep : (x : WorldSetup) (s : Side) (stamp : ℕ) (ms : List (Move × Bool)) (w : World) → (world_after_all x s stamp ms w).forced ≡ w.forced
moves_keep x s stamp [] w = refl
moves_keep x s stamp (m ∷ ms) w = moves_keep x s stamp ms (world_after x s stamp m w)

call_keeps : (x : WorldSetup) (s : Side) (call : ModelEvent) (stamp : ℕ) (old mid new : World) → CallHappens x s call stamp old mid new
    → new.forced ≡ mid.forced
call_keeps x s call stamp old mid new h = ap (λ (w : World). w.forced) h.2.2 ∙ moves_keep x s stamp h.0 mid

handed_keeps : (up : Bool) (m : Message) (w : World) → (handed_up up m w).forced ≡ w.forced
handed_keeps up (Control pdu stamp) w = refl
handed_keeps true (Data origin g k serial) w = refl
handed_keeps false (Data origin g k serial) w = refl

receives_keep : (x : WorldSetup) (s : Side) (p : ℕ) (m : Message) (old mid new : World) → Receives x s p m old mid new → new.forced ≡ mid.forced
receives_keep x s p (Control pdu stamp) old mid new h = call_keeps x s (ModelEvent.Receive p (Some pdu)) stamp old mid new h
receives_keep x s p (Data origin g k serial) old mid new h =
    call_keeps x s (ModelEvent.Receive p None) 0 old (handed_up h.0 (Data origin g k serial) mid) new h.1
    ∙ handed_keeps h.0 (Data origin g k serial) mid

delivers_keep : (x : WorldSetup) (c : ℕ) (to : Side) (o : Option ℕ) (ms : List Message) (old new : World)
    → DeliversFirst x c to o ms old new → new.forced ≡ old.forced
delivers_keep x c to o [] old new h = ap (λ (w : World). w.forced) h
delivers_keep x c to None (m ∷ ms) old new h = absurd h
delivers_keep x c to (Some p) (m ∷ ms) old new h = receives_keep x to p m old _ new h

repeats_keep : (x : WorldSetup) (c : ℕ) (to : Side) (o : Option ℕ) (ms : List Message) (old new : World)
    → RepeatsFirst x c to o ms old new → new.forced ≡ old.forced
repeats_keep x c to o [] old new h = ap (λ (w : World). w.forced) h
repeats_keep x c to o (Data origin g k serial ∷ ms) old new h = ap (λ (w : World). w.forced) h
repeats_keep x c to None (Control pdu stamp ∷ ms) old new h = absurd h
repeats_keep x c to (Some p) (Control pdu stamp ∷ ms) old new h = receives_keep x to p (Control pdu stamp) old old new h

loses_keep : (c : ℕ) (to : Side) (ms : List Message) (old new : World) → LosesFirst c to ms old new → new.forced ≡ old.forced
loses_keep c to [] old new h = ap (λ (w : World). w.forced) h
loses_keep c to (m ∷ ms) old new h = ap (λ (w : World). w.forced) h

senses_keep : (x : WorldSetup) (s : Side) (o : Option ℕ) (up : Bool) (old new : World) → Told_senses x s o up old new → new.forced ≡ old.forced
senses_keep x s None up old new h = absurd h
senses_keep x s (Some p) up old new h = call_keeps x s (ModelEvent.Set_link p up) 0 old old new h

-- an event other than a force leaves what counts as forced
abbrev pub IsForce : Happening → Type 0
IsForce (Happening.Force s g k) = Unit
IsForce e = ⊥

others_keep : (x : WorldSetup) (e : Happening) (old new : World) → (IsForce e → ⊥) → Happens x e old new → new.forced ≡ old.forced
others_keep x (Happening.Tick s n) old new never h = call_keeps x s ModelEvent.Tick 0 old old new h
others_keep x (Happening.Emit s p) old new never h = call_keeps x s ModelEvent.Transmit 0 old old new h
others_keep x (Happening.Deliver c to) old new never h = delivers_keep x c to (end_at x.cables to c) (old.on_cable to c) old new h
others_keep x (Happening.Lose c to) old new never h = loses_keep c to (old.on_cable to c) old new h
others_keep x (Happening.Repeat c to) old new never h = repeats_keep x c to (end_at x.cables to c) (old.on_cable to c) old new h
others_keep x (Happening.Cut c) old new never h = ap (λ (w : World). w.forced) h
others_keep x (Happening.Join c) old new never h = ap (λ (w : World). w.forced) h
others_keep x (Happening.Sense c s) old new never h = senses_keep x s (end_at x.cables s c) (old.whole c) old new h
others_keep x (Happening.Restart s) old new never h = ap (λ (w : World). w.forced) h.2
others_keep x (Happening.Configure s p change) old new never h = call_keeps x s ModelEvent.Configure 0 old old new h
others_keep x (Happening.Offer s g frame) old new never h = call_keeps x s ModelEvent.Offer 0 old old new h
others_keep x (Happening.Move_conversation s g k p) old new never h = call_keeps x s ModelEvent.Move_conversation 0 old old new h
others_keep x (Happening.Force s g k) old new never h = absurd (never tt)

at_one : (f : ℕ → ℕ → Bool) (g k h j : ℕ) → at_two f g k true h j ≡ true → (f h j ≡ true) ⊎ ((g ≡ h) × (k ≡ j))
at_one f g k h j e = elim (cases_Bool (eqb h g)) [
  | inl a ↦ elim (cases_Bool (eqb j k)) [ inl b ↦ inr (sym (eqb-true h g a), sym (eqb-true j k b)) | inr b ↦ inl (rw (a, b) at e) ]
  | inr a ↦ inl (rw a at e)
]

at_side_one : (f : Side → ℕ → ℕ → Bool) (t : Side) (g k : ℕ) (s : Side) (h j : ℕ) → at_side f t (at_two (f t) g k true) s h j ≡ true
    → (f s h j ≡ true) ⊎ ((t ≡ s) × (g ≡ h) × (k ≡ j))
at_side_one f One g k One h j e = elim (at_one (f One) g k h j e) [ inl a ↦ inl a | inr b ↦ inr (refl, b.0, b.1) ]
at_side_one f One g k Two h j e = inl e
at_side_one f Two g k One h j e = inl e
at_side_one f Two g k Two h j e = elim (at_one (f Two) g k h j e) [ inl a ↦ inl a | inr b ↦ inr (refl, b.0, b.1) ]

force_keeps : (x : WorldSetup) (t : Side) (g k : ℕ) (old new : World) (s : Side) (h j : ℕ) → Happens x (Happening.Force t g k) old new
    → new.forced s h j ≡ true → (old.forced s h j ≡ true) ⊎ ((t ≡ s) × (g ≡ h) × (k ≡ j))
force_keeps x t g k old new s h j (inl e) f = inl (sym (ap (λ (w : World). w.forced s h j) e) ∙ f)
force_keeps x t g k old new s h j (inr c) f = at_side_one old.forced t g k s h j
    (sym (ap (λ (f : Side → ℕ → ℕ → Bool). f s h j) (call_keeps x t (ModelEvent.Force g k) 0 old _ new c)) ∙ f)

-- ---- the events of a world

same_forced : (old new : World) (s : Side) (g k : ℕ) → new.forced ≡ old.forced → new.forced s g k ≡ true → old.forced s g k ≡ true
same_forced old new s g k e f = sym (ap (λ (f : Side → ℕ → ℕ → Bool). f s g k) e) ∙ f

played : (gives : Algorithms) (e : Event) (r : Reply) (old new : WorldState) (s : Side) (g k : ℕ) → WorldSteps gives old e r new → IsSound old
    → forced_in (flow_at (half s new).flows g k) ≡ true → (forced_in (flow_at (half s old).flows g k) ≡ true) ⊎ MayForce (Plays e) s g k old
played gives (event.Force n agg conv) r old new s g k x i f =
    let there : side_of n ≡ Some (side_numbered n) = side_there n (some_there (side_of n) _ x.0) in
    elim (force_keeps (world_setup old) (side_numbered n) agg.0 conv (model_world old) (model_world new) s g k
    (does_happen gives (event.Force n agg conv) r old (record new { acted = old.acted }) i x.0) f) [
      | inl a ↦ inl a
      | inr b ↦ inr (there ∙ ap (λ (t : Side). Some t) b.0, b.1, b.2)
    ]
played gives e r old new s g k x i f = inl (same_forced (model_world old) (model_world new) s g k
    (others_keep (world_setup old) (model_event e) (model_world old) (model_world new) (λ never. never)
    (does_happen gives e r old (record new { acted = old.acted }) i x.0)) f)

-- ---- the calls of hosts

abbrev is_forced : ℕ → ℕ → HalfState → Bool
is_forced g k h = forced_in (flow_at h.flows g k)

-- it was so before, or it is so of the system that changed
at_either : (s : Side) (h : HalfState) (j : WorldState) (t : Side) (g k : ℕ) → is_forced g k (half t (with_half s h j)) ≡ true
    → (is_forced g k (half t j) ≡ true) ⊎ ((s ≡ t) × (is_forced g k h ≡ true))
at_either One h j One g k e = inr (refl, e)
at_either One h j Two g k e = inl e
at_either Two h j One g k e = inl e
at_either Two h j Two g k e = inr (refl, e)

beside_forced : (s : Side) (h : HalfState) (old : WorldState) (t : Side) (g k : ℕ) → is_forced g k h ≡ is_forced g k (half s old)
    → is_forced g k (half t (with_half s h old)) ≡ true → is_forced g k (half t old) ≡ true
beside_forced s h old t g k e f = sym (kept_at (is_forced g k) s h old e t) ∙ f

offer_forced : (s : Side) (agg : AggId) (conv : ℕ) (octets : List ℕ) (a : Result ℕ SystemFault) (mid : HalfState) (old new : WorldState)
    (t : Side) (g k : ℕ) → mid.flows ≡ (half s old).flows → AfterNumberedOffer s agg conv octets a (with_half s mid old) new
    → is_forced g k (half t new) ≡ true → is_forced g k (half t old) ≡ true
offer_forced s agg conv octets (Ok port) mid old new t g k same y f = beside_forced s (with_sent_in agg.0 conv mid) old t g k
    (read_same forced_in with_sent agg.0 conv mid.flows (λ x. refl) g k ∙ ap (λ l. forced_in (flow_at l g k)) same)
    (sym (ap (λ j. is_forced g k (half t j)) (y ∙ offered_joint s agg conv octets port mid old)) ∙ f)
offer_forced s agg conv octets (Err fault) mid old new t g k same y f =
    beside_forced s mid old t g k (ap (λ l. forced_in (flow_at l g k)) same) (sym (ap (λ j. is_forced g k (half t j)) y) ∙ f)

probe_forced : (s : Side) (port : ℕ) (a : Result (Option (List ℕ)) SystemFault) (mid : HalfState) (old new : WorldState) (t : Side) (g k : ℕ)
    → mid.flows ≡ (half s old).flows → AfterProbe s port a (with_half s mid old) new → is_forced g k (half t new) ≡ true → is_forced g k (half t old) ≡ true
probe_forced s port (Ok (Some frame)) mid old new t g k same y f =
    beside_forced s mid old t g k (ap (λ l. forced_in (flow_at l g k)) same) (sym (ap (λ j. is_forced g k (half t j)) y) ∙ f)
probe_forced s port (Ok None) mid old new t g k same y f =
    beside_forced s mid old t g k (ap (λ l. forced_in (flow_at l g k)) same) (sym (ap (λ j. is_forced g k (half t j)) y) ∙ f)
probe_forced s port (Err fault) mid old new t g k same y f =
    beside_forced s mid old t g k (ap (λ l. forced_in (flow_at l g k)) same) (sym (ap (λ j. is_forced g k (half t j)) y) ∙ f)

-- the record that was changed, or another
one_forced : (a c : ℕ) (flows : List (List FlowValue)) (g k : ℕ) → forced_in (flow_at (change_flow with_forced a c flows) g k) ≡ true
    → (forced_in (flow_at flows g k) ≡ true) ⊎ ((a ≡ g) × (c ≡ k))
one_forced a c flows g k f = elim (cases_Bool (eqb g a)) [
  | inl x ↦ elim (cases_Bool (eqb k c)) [
    | inl y ↦ inr (sym (eqb-true g a x), sym (eqb-true k c y))
    | inr y ↦ (let same : g ≡ a = eqb-true g a x in
        inl (ap (λ n. forced_in (flow_at flows n k)) same
        ∙ sym (ap forced_in (flow_other with_forced a c k flows (λ e. true≢false (sym (eq-eqb k c e) ∙ y))))
        ∙ sym (ap (λ n. forced_in (flow_at (change_flow with_forced a c flows) n k)) same) ∙ f))
  ]
  | inr x ↦ inl (sym (ap forced_in (flow_other_row with_forced a c g k flows (λ e. true≢false (sym (eq-eqb g a e) ∙ x)))) ∙ f)
]

rest_forced : (s : Side) (agg : AggId) (conv : ℕ) (a : Result Unit SystemFault) (mid : HalfState) (old new : WorldState) (t : Side) (g k : ℕ)
    → mid.flows ≡ (half s old).flows → new ≡ with_half s (forced_if_accepted a agg conv mid) old → is_forced g k (half t new) ≡ true
    → (is_forced g k (half t old) ≡ true) ⊎ ((s ≡ t) × (agg.0 ≡ g) × (conv ≡ k))
rest_forced s agg conv (Err fault) mid old new t g k same y f =
    inl (beside_forced s mid old t g k (ap (λ l. forced_in (flow_at l g k)) same) (sym (ap (λ j. is_forced g k (half t j)) y) ∙ f))
rest_forced s agg conv (Ok done) mid old new t g k same y f =
    elim (at_either s (forced_if_accepted (Ok done) agg conv mid) old t g k (sym (ap (λ j. is_forced g k (half t j)) y) ∙ f)) [
      | inl a ↦ inl a
      | inr b ↦ elim (one_forced agg.0 conv mid.flows g k b.1) [
        | inl c ↦ inl (subst (λ t. is_forced g k (half t old) ≡ true) b.0 (sym (ap (λ l. forced_in (flow_at l g k)) same) ∙ c))
        | inr c ↦ inr (b.0, c.0, c.1)
      ]
    ]

marked : (b : Bool) (o : Option FlowValue) → forced_in (option_map (forced_if b) o) ≡ true → (forced_in o ≡ true) ⊎ (b ≡ true)
marked true o e = inr refl
marked false None e = inl e
marked false (Some x) e = inl (more x.forced e)
  where
    more : (b : Bool) → (b || false) ≡ true → b ≡ true
    more true e = refl
    more false e = e

held_forced : (s : Side) (port : ℕ) (a : Result ℕ SystemFault) (mid last : HalfState) (old new : WorldState) (t : Side) (g k : ℕ)
    → mid.flows ≡ (half s old).flows → CountsHeldIfOk a port (half s old).state mid last → new ≡ with_half s last old
    → is_forced g k (half t new) ≡ true → (is_forced g k (half t old) ≡ true) ⊎ ((s ≡ t) × (is_held port (half t old).state g k ≡ true))
held_forced s port (Err fault) mid last old new t g k same c y f =
    inl (beside_forced s last old t g k (ap (is_forced g k) c ∙ ap (λ l. forced_in (flow_at l g k)) same)
    (sym (ap (λ j. is_forced g k (half t j)) y) ∙ f))
held_forced s port (Ok count) mid last old new t g k same c y f =
    elim (at_either s last old t g k (sym (ap (λ j. is_forced g k (half t j)) y) ∙ f)) [
      | inl a ↦ inl a
      | inr b ↦ elim (marked (is_held port (half s old).state g k) (flow_at mid.flows g k) (sym (ap forced_in (c.flows g k)) ∙ b.1)) [
        | inl d ↦ inl (subst (λ t. is_forced g k (half t old) ≡ true) b.0 (sym (ap (λ l. forced_in (flow_at l g k)) same) ∙ d))
        | inr d ↦ inr (b.0, subst (λ t. is_held port (half t old).state g k ≡ true) b.0 d)
      ]
    ]

pub forced_by_force : (gives : Algorithms) → ForcedByForce gives
forced_by_force gives (Plays e) old new s g k x i f = played gives e x.0 old new s g k x.1 i f
forced_by_force gives (Offers t agg conv octets) old new s g k x i f =
    inl (offer_forced t agg conv octets x.0 x.1 old new s g k (ap (λ (h : HalfState). h.flows) x.3.same) x.4 f)
forced_by_force gives (Leaves t agg conv) old new s g k x i f =
    inl (beside_forced t x.1 old s g k (ap (is_forced g k) x.2.same) (sym (ap (λ j. is_forced g k (half s j)) x.3) ∙ f))
forced_by_force gives (Probes t port) old new s g k x i f =
    inl (probe_forced t port x.0 x.1 old new s g k (ap (λ (h : HalfState). h.flows) x.2.same) x.3 f)
forced_by_force gives (Rests t agg conv) old new s g k x i f =
    rest_forced t agg conv x.0 x.1 old new s g k (ap (λ (h : HalfState). h.flows) x.2.same) x.3 f
forced_by_force gives (ForcesPort t port) old new s g k x i f =
    held_forced t port x.0 x.1 x.2 old new s g k (ap (λ (h : HalfState). h.flows) x.3.same) x.4 x.5 f
forced_by_force gives (Sets t setting) old new s g k x i f =
    inl (beside_forced t x.1 old s g k (ap (is_forced g k) x.2.same) (sym (ap (λ j. is_forced g k (half s j)) x.3) ∙ f))
