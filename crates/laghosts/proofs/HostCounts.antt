-- What was held on a port is free and counts as forced, as the law has it.
use Rattle.laghosts.proofs.Common.{Bool, IsSome, List, None, Option, Some, ap, arith, cond, false, inl, inr, length, nat_le, nat_lt, option_map, refl}
use Rattle.laghosts.proofs.Common.{subst, sym, true, ℕ, ◌&&◌, ◌<◌, ◌==◌, ◌||◌, ◌∙◌, ◌≡◌, ◌≤◌, and_parts, cases_Bool, true≢false, nat_tests}
use Rattle.laghosts.proofs.Common.{Conversation, Free, View, Event, Run, Side, World, at_side, same_world, model_view, has_aggregator}
use Rattle.laghosts.proofs.Common.{aggregator_numbered, conversation_count, SystemState, with_table, with_state, model_taken, model_world}
use Rattle.laghosts.proofs.Common.{world_setup, IsHalfSound, FlowValue, HalfState, WorldState, change_count_in, collected_in, flow_at, forced_in}
use Rattle.laghosts.proofs.Common.{half, history_at, sent_in, taken_in, with_half, half_after, kept_at, CountsHeld, forced_if, is_held}
use Rattle.distributor.specs.declared.assignment.Assignment.{Assignment}
use Rattle.distributor.specs.Conversations.{IsConversation, assignment_of}
use Rattle.distributor.specs.declared.assignment.Assignment.TheVariants as state
use Rattle.distributor.specs.Chains.{is_held_on}
use Rattle.distributor.specs.Moves.{model_conversation}
use Rattle.lagsystem.specs.Forcing.{FreesHeld, after_forcing}
use Rattle.lagsystem.specs.HostCalls.{HasConversations}
use Rattle.laghosts.proofs.HeldForced.{all_forced, among, are_passing, forcing, freed, freed_view, passing}
use Rattle.laghosts.proofs.HostHalves.{flow_there}

-- the conversations that are held on the port
abbrev pub held_in : ℕ → SystemState → List (ℕ × ℕ)
held_in port s = passing (is_held port s) (length s.keys) (conversation_count s)

-- a conversation that is held is one that there is
held_parts : (port : ℕ) (s : SystemState) (g k : ℕ) → is_held port s g k ≡ true → (has_aggregator s (aggregator_numbered g) ≡ true)
    × (nat_lt k (conversation_count s) ≡ true) × (is_held_on port (assignment_of s.table g k) ≡ true)
held_parts port s g k h =
    let a = and_parts (has_aggregator s (aggregator_numbered g)) (nat_lt k (conversation_count s) && is_held_on port (assignment_of s.table g k)) h in
    let b = and_parts (nat_lt k (conversation_count s)) (is_held_on port (assignment_of s.table g k)) a.1 in (a.0, b.0, b.1)

in_range : (s : SystemState) (g k : ℕ) → has_aggregator s (aggregator_numbered g) ≡ true → nat_lt k (conversation_count s) ≡ true
    → (0 < g) × (g ≤ length s.keys) × (k < conversation_count s)
in_range s g k a b = let two = and_parts (nat_lt 0 g) (nat_le g (length s.keys)) a in (
  let e = two.0 in grind (arith, nat_tests),
  let e = two.1 in grind (arith, nat_tests),
  grind (arith, nat_tests),
)

pub among_held : (port : ℕ) (s : SystemState) (g k : ℕ) → among (held_in port s) g k ≡ is_held port s g k
among_held port s g k = are_passing (is_held port s) (length s.keys) (conversation_count s)
    (λ g k h. let p = held_parts port s g k h in in_range s g k p.0 p.1) g k

-- ---- the state of a conversation

freed_held : (port : ℕ) (a : Assignment) → is_held_on port a ≡ true → model_conversation (after_forcing port a) ≡ Free
freed_held port (state.Free preferred) h = absurd (true≢false (sym h))
freed_held port (state.On given) h = absurd (true≢false (sym h))
freed_held port (state.Wanted given preferred) h = rw h refl
freed_held port (state.Flushing given id preferred age) h = rw h refl

not_held : (port : ℕ) (a : Assignment) → is_held_on port a ≡ false → after_forcing port a ≡ a
not_held port (state.Free preferred) h = refl
not_held port (state.On given) h = refl
not_held port (state.Wanted given preferred) h = rw h refl
not_held port (state.Flushing given id preferred age) h = rw h refl

conversation_there : (s : SystemState) (g k : ℕ) → HasConversations s → has_aggregator s (aggregator_numbered g) ≡ true
    → nat_lt k (conversation_count s) ≡ true → IsConversation s.table g k
conversation_there s g k c a b = let r = in_range s g k a b in
    (r.0, subst (λ n. g ≤ n) (sym c.aggregators) r.1, subst (λ n. k < n) (sym c.conversations) r.2)

there_both : (s : SystemState) (g k : ℕ) → HasConversations s → IsConversation s.table g k
    → (has_aggregator s (aggregator_numbered g) ≡ true) × (nat_lt k (conversation_count s) ≡ true)
there_both s g k c h = let high : g ≤ length s.keys = subst (λ n. g ≤ n) c.aggregators h.1 in
    let small : k < conversation_count s = subst (λ n. k < n) c.conversations h.2 in
    let low : 0 < g = h.0 in (grind (arith, nat_tests), grind (arith, nat_tests))

last_false : (a b c : Bool) → a ≡ true → b ≡ true → (a && (b && c)) ≡ false → c ≡ false
last_false true true c h k e = e
last_false true false c h k e = absurd (true≢false (sym k))
last_false false b c h k e = absurd (true≢false (sym h))

unforced : (port : ℕ) (old new : SystemState) (g k : ℕ) → HasConversations old → FreesHeld port old new → is_held port old g k ≡ false
    → assignment_of new.table g k ≡ assignment_of old.table g k
unforced port old new g k c f h = elim (cases_Bool (has_aggregator old (aggregator_numbered g))) [
  | inl a ↦ elim (cases_Bool (nat_lt k (conversation_count old))) [
    | inl b ↦ f.forced g k (conversation_there old g k c a b)
        ∙ not_held port (assignment_of old.table g k) (last_false _ _ (is_held_on port (assignment_of old.table g k)) a b h)
    | inr b ↦ f.outside g k (λ i. true≢false (sym (there_both old g k c i).1 ∙ b))
  ]
  | inr a ↦ f.outside g k (λ i. true≢false (sym (there_both old g k c i).0 ∙ a))
]

conversation_seen : (port : ℕ) (old new : SystemState) (g k : ℕ) → HasConversations old → FreesHeld port old new
    → model_conversation (assignment_of new.table g k) ≡ cond (among (held_in port old) g k) Free (model_conversation (assignment_of old.table g k))
conversation_seen port old new g k c f =
    subst (λ b. model_conversation (assignment_of new.table g k) ≡ cond b Free (model_conversation (assignment_of old.table g k)))
    (sym (among_held port old g k)) (elim (cases_Bool (is_held port old g k)) [
      | inl h ↦ (let p = held_parts port old g k h in
          rw h (ap model_conversation (f.forced g k (conversation_there old g k c p.0 p.1))
          ∙ freed_held port (assignment_of old.table g k) p.2))
      | inr h ↦ rw h (ap model_conversation (unforced port old new g k c f h))
    ])

-- what the law sees of the system
pub view_seen : (port : ℕ) (old new : SystemState) → HasConversations old → FreesHeld port old new
    → model_view new ≡ freed_view (held_in port old) (model_view old)
view_seen port old new c f = ap model_view f.others
    ∙ (λ i. record (model_view old) { flows = record { state = λ g k. conversation_seen port old new g k c f i; next = f.next i } })

-- ---- the record of a conversation

unchanged_if : (b : Bool) (o : Option FlowValue) → forced_in (option_map (forced_if false) o) ≡ forced_in o
unchanged_if b None = refl
unchanged_if b (Some x) = more x.forced
  where
    more : (b : Bool) → (b || false) ≡ b
    more true = refl
    more false = refl

forced_now : (o : Option FlowValue) → IsSome o → forced_in (option_map (forced_if true) o) ≡ true
forced_now None h = absurd (let e = h in cc)
forced_now (Some x) h = more x.forced
  where
    more : (b : Bool) → (b || true) ≡ true
    more true = refl
    more false = refl

flow_seen : (port : ℕ) (old : HalfState) (g k : ℕ) → IsHalfSound old
    → forced_in (option_map (forced_if (is_held port old.state g k)) (flow_at old.flows g k))
    ≡ cond (among (held_in port old.state) g k) true (forced_in (flow_at old.flows g k))
flow_seen port old g k i = subst (λ b. forced_in (option_map (forced_if (is_held port old.state g k)) (flow_at old.flows g k))
    ≡ cond b true (forced_in (flow_at old.flows g k)))
    (sym (among_held port old.state g k)) (elim (cases_Bool (is_held port old.state g k)) [
      | inl h ↦ (let p = held_parts port old.state g k h in
          rw h (forced_now (flow_at old.flows g k) (flow_there old (aggregator_numbered g) k i p.0 p.1)))
      | inr h ↦ rw h (unchanged_if false (flow_at old.flows g k))
    ])

sent_same : (b : Bool) (o : Option FlowValue) → sent_in (option_map (forced_if b) o) ≡ sent_in o
sent_same b None = refl
sent_same b (Some x) = refl

collected_same : (b : Bool) (o : Option FlowValue) → collected_in (option_map (forced_if b) o) ≡ collected_in o
collected_same b None = refl
collected_same b (Some x) = refl

pub still_there : (b : Bool) (o : Option FlowValue) → IsSome o → IsSome (option_map (forced_if b) o)
still_there b None h = absurd (let e = h in cc)
still_there b (Some x) h = refl

-- ---- the world

pub held_world : (s : Side) (port : ℕ) (mid last : HalfState) (old : WorldState) → IsHalfSound (half s old) → HasConversations (half s old).state
    → mid ≡ with_state mid.state (half s old) → FreesHeld port (half s old).state mid.state → CountsHeld port (half s old).state mid last
    → model_world (with_half s last old) ≡ freed s (held_in port (half s old).state) (model_world old)
held_world s port mid last old i c same f counts = let xs = held_in port (half s old).state in
    let histories : last.histories ≡ (half s old).histories = counts.histories ∙ ap (λ (h : HalfState). h.histories) same in
    let flows : (g k : ℕ) → flow_at last.flows g k
    ≡ option_map (forced_if (is_held port (half s old).state g k)) (flow_at (half s old).flows g k) =
    λ g k. counts.flows g k ∙ ap (λ (h : HalfState). option_map (forced_if (is_held port (half s old).state g k)) (flow_at h.flows g k)) same in
    let seen : model_view last.state ≡ freed_view xs (model_view (half s old).state) =
    ap model_view counts.state ∙ view_seen port (half s old).state mid.state c f in
    let now : (λ g k. forced_in (flow_at last.flows g k)) ≡ (λ g k. cond (among xs g k) true ((model_world old).forced s g k)) =
    (λ j g k. (ap forced_in (flows g k) ∙ flow_seen port (half s old) g k i) j) in
    same_world _ _
    (λ t. half_after (λ x. model_view x.state) s last old t ∙ ap (λ v. at_side (model_world old).view s v t) seen)
    (λ c. refl) (λ t c. refl)
    (λ t p. kept_at (λ x. change_count_in (history_at x.histories p)) s last old (ap (λ l. change_count_in (history_at l p)) histories) t)
    (λ t p. kept_at (λ x. option_map model_taken (taken_in (history_at x.histories p))) s last old
    (ap (λ l. option_map model_taken (taken_in (history_at l p))) histories) t)
    (λ t g k. kept_at (λ x. sent_in (flow_at x.flows g k)) s last old
    (ap sent_in (flows g k) ∙ sent_same (is_held port (half s old).state g k) (flow_at (half s old).flows g k)) t)
    (λ t g k. kept_at (λ x. collected_in (flow_at x.flows g k)) s last old
    (ap collected_in (flows g k) ∙ collected_same (is_held port (half s old).state g k) (flow_at (half s old).flows g k)) t)
    (λ t g k. ap (λ (f : ℕ → ℕ → Bool). f g k) (half_after (λ x g k. forced_in (flow_at x.flows g k)) s last old t
    ∙ ap (λ v. at_side (model_world old).forced s v t) now))

pub held_happen : (s : Side) (port : ℕ) (mid last : HalfState) (old : WorldState) → IsHalfSound (half s old) → HasConversations (half s old).state
    → mid ≡ with_state mid.state (half s old) → FreesHeld port (half s old).state mid.state → CountsHeld port (half s old).state mid last
    → Run (world_setup old) (forcing s (held_in port (half s old).state)) (model_world old) (model_world (with_half s last old))
held_happen s port mid last old i c same f counts = let xs = held_in port (half s old).state in
    subst (Run (world_setup old) (forcing s xs) (model_world old)) (sym (held_world s port mid last old i c same f counts))
    (all_forced (world_setup old) s xs (model_world old))
