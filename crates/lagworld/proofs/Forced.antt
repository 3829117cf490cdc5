-- A conversation is freed by force, and counts as forced from then on.
use Rattle.lagworld.proofs.Common.{Bool, Err, IsSome, None, Ok, Result, [], ap, inl, inr, option_map, refl, subst, sym, true, ℕ, ◌∙◌, ◌≡◌, AggId}
use Rattle.lagworld.proofs.Common.{LawfulMoves, ModelEvent, CallHappens, Happens, Side, at_side, at_two, same_world, SystemFault, Force, model_setup}
use Rattle.lagworld.proofs.Common.{model_view, GivesOrRefuses, system_force_result, SystemState, Reply, InHalf, HalfAnswers, HalfForces}
use Rattle.lagworld.proofs.Common.{forced_if_accepted, with_state, model_taken, model_world, world_setup, HalfState, WorldState, change_count_in}
use Rattle.lagworld.proofs.Common.{change_flow, collected_in, flow_at, forced_in, half, history_at, sent_in, taken_in, with_forced, with_half}
use native.Mathlib.Omega.{arith}
use Rattle.lagmodel.specs.World.{Event}
use Rattle.distributor.specs.declared.assignment.Assignment.{Assignment}
use Rattle.lagworld.proofs.OneSystem.{told_moves, fixed_kept, quietly, histories_kept, keeping_call, flows_kept}
use Rattle.lagsystem.specs.declared.drive.Reply.TheVariants as answer
use Rattle.lagworld.proofs.Sides.{half_after, kept_at, half_there}
use Rattle.lagworld.proofs.Flows.{read_changed, read_same}

-- the conversation counts as forced, and nothing else is otherwise
abbrev force_flow : ℕ → ℕ → HalfState → HalfState
force_flow g k h = record h { flows = change_flow with_forced g k h.flows }

forced_world : (s : Side) (g k : ℕ) (j : WorldState) → IsSome (flow_at (half s j).flows g k)
    → model_world (with_half s (force_flow g k (half s j)) j) ≡ record (model_world j)
    { forced = at_side (model_world j).forced s (at_two ((model_world j).forced s) g k true) }
forced_world s g k j there = let fl = (half s j).flows in
    let h = force_flow g k (half s j) in
    let now : (λ a c. forced_in (flow_at h.flows a c)) ≡ at_two ((model_world j).forced s) g k true =
    (λ i a c. read_changed forced_in with_forced (λ b. true) g k fl (λ x. refl) there a c i) in
    same_world _ _ (kept_at (λ x. model_view x.state) s h j refl) (λ c. refl) (λ t c. refl)
    (λ t p. kept_at (λ x. change_count_in (history_at x.histories p)) s h j refl t)
    (λ t p. kept_at (λ x. option_map model_taken (taken_in (history_at x.histories p))) s h j refl t)
    (λ t a c. kept_at (λ x. sent_in (flow_at x.flows a c)) s h j (read_same sent_in with_forced g k fl (λ x. refl) a c) t)
    (λ t a c. kept_at (λ x. collected_in (flow_at x.flows a c)) s h j (read_same collected_in with_forced g k fl (λ x. refl) a c) t)
    (λ t a c. ap (λ (f : ℕ → ℕ → Bool). f a c) (half_after (λ x a c. forced_in (flow_at x.flows a c)) s h j t
    ∙ ap (λ v. at_side (model_world j).forced s v t) now))

twice : (s : Side) (h i : HalfState) (j : WorldState) → with_half s h (with_half s i j) ≡ with_half s h j
twice s h i j = grind arith

-- a refusal changes nothing
pub refused_same : (agg : AggId) (conv : ℕ) (what : Result Assignment SystemFault) (fault : SystemFault) (old new : SystemState)
    → GivesOrRefuses agg conv what old (Err fault) new → new ≡ old
refused_same agg conv what fault old new h = grind arith

pub with_itself : (s : Side) (j : WorldState) → with_half s (half s j) j ≡ j
with_itself s j = grind arith

pub forced_by : (gives : ℕ → ℕ → ℕ → Type 0) (s : Side) (agg : AggId) (conv : ℕ) (a : Result Unit SystemFault) (mid : HalfState) (old : WorldState)
    → ((done : Unit) → a ≡ Ok done → IsSome (flow_at (half s old).flows agg.0 conv)) → HalfAnswers gives (Force agg conv) (answer.Force a) (half s old) mid
    → Happens (world_setup old) (Event.Force s agg.0 conv) (model_world old) (model_world (with_half s (forced_if_accepted a agg conv mid) old))
forced_by gives s agg conv (Err fault) mid old there x =
    let state = refused_same agg conv (system_force_result (half s old).state agg conv) fault (half s old).state mid.state x.answers.step in
    let same : mid ≡ half s old = x.same ∙ ap (λ (st : SystemState). with_state st (half s old)) state in
    inl (ap (λ h. model_world (with_half s h old)) same ∙ ap model_world (with_itself s old))
forced_by gives s agg conv (Ok done) mid old there x = let g = agg.0 in
    let forced = force_flow g conv (half s old) in
    let j = with_half s forced old in
    let h = force_flow g conv mid in
    let told_force : ModelEvent = ModelEvent.Force g conv in
    let back : half s j ≡ forced = half_there s forced old in
    let m = x.answers.moves in
    let here = subst (λ (f : HalfState). LawfulMoves (model_setup f.state) told_force (model_view f.state) [] (model_view h.state)) (sym back)
    (told_moves (half s old).state mid.state m.2 m.3 m.4) in
    let histories : h.histories ≡ (half s j).histories = histories_kept x ∙ sym (ap (λ (f : HalfState). f.histories) back) in
    let call = keeping_call s told_force 0 true None h j.links j (with_half s h j) refl (λ e. cc) refl
    (quietly s 0 h j (ap (change_flow with_forced g conv) (flows_kept x) ∙ sym (ap (λ (f : HalfState). f.flows) back))
    (λ p. ap (λ l. taken_in (history_at l p)) histories))
    here (λ p. ap (λ l. change_count_in (history_at l p)) histories) in
    let world = forced_world s g conv old (there done refl) in
    inr (subst (λ (X : Type 0). X) (λ i. CallHappens (fixed_kept s forced old refl i) s told_force 0 (world i) (world i)
    (model_world (twice s h forced old i))) call)

-- A conversation of which serials are kept is forced, or that is refused.
pub force_happens : (gives : ℕ → ℕ → ℕ → Type 0) (s : Side) (agg : AggId) (conv : ℕ) (r : Reply) (old new : WorldState)
    → (x : InHalf s (λ h k. HalfForces gives agg conv h r k) old new) → ((done : Unit) → x.0.0 ≡ Ok done → IsSome (flow_at (half s old).flows agg.0 conv))
    → Happens (world_setup old) (Event.Force s agg.0 conv) (model_world old) (model_world new)
force_happens gives s agg conv r old new x there =
    let same : new ≡ with_half s (forced_if_accepted x.0.0 agg conv x.0.1) old = x.1 ∙ ap (λ h. with_half s h old) x.0.4 in
    subst (λ j. Happens (world_setup old) (Event.Force s agg.0 conv) (model_world old) (model_world j)) (sym same)
    (forced_by gives s agg conv x.0.0 x.0.1 old there x.0.2)
