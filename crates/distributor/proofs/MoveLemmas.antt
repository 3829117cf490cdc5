-- Each call changes the conversations only by moves that the model allows.
use Rattle.distributor.proofs.Common.{Bool, Err, List, None, Ok, Option, Some, [], ap, arith, cond, eqb, eqb-true, false, inl, inr, length, ltb, refl}
use Rattle.distributor.proofs.Common.{subst, suc, sym, true, zero, ℕ, ⊎_elim, ◌%◌, ◌&&◌, ◌+◌, ◌-◌, ◌/◌, ◌<◌, ◌^◌, ◌∙◌, ◌∷◌, ◌≡◌, ◌⊎◌, and_parts}
use Rattle.distributor.proofs.Common.{cases_Bool, cases_eq, cond-false, cond-true, false≢true, ltb-false, ltb-true, get_or_past, div-mul-add}
use Rattle.distributor.proofs.Common.{mod-mul-add, is_none, Assignment, MaySend, force_result, is_among, leave_result, move_result, rest_result}
use Rattle.distributor.proofs.Common.{ChangesAssignments, Marks, SetsAssignment, after_down, after_leave, after_mark, after_release, after_tick}
use Rattle.distributor.proofs.Common.{Table, assignment_of, first_table, slot_index}
use Rattle.distributor.specs.declared.assignment.Assignment.TheVariants as state
use Rattle.distributor.specs.declared.fault.DistFault.{DistFault}
use Rattle.lagmodel.specs.View.{Conversation, ModelCall, ControlMessage, SystemSetup, at_conversation, first_view, replies_frame, conversation_port}
use Rattle.lagmodel.specs.Move.{Act, ConversationMove, ConversationMoveAllowed, conversation_after, DistributorMove, DistributorMoves, flushed}
use Rattle.lagmodel.specs.Bridge.{IsAmong, BecomeByMoves}
use Rattle.lagmodel.proofs.Uses.{flows_become}
use Rattle.distributor.proofs.ChainLemmas.{chosen}
use Rattle.distributor.proofs.TableLemmas.{first_free}
use Rattle.distributor.specs.Moves.{model_conversation, model_distributor, OnlyListedDistribute, NoneDistributes}

seen_at : (t u : Table) (agg conv : ℕ) (s : Assignment) → SetsAssignment t u agg conv s → (g k : ℕ)
    → model_conversation (assignment_of u g k) ≡ at_conversation (model_distributor t).state agg conv (model_conversation s) g k
seen_at t u agg conv s h g k = grind arith

seen_after : (t u : Table) (agg conv : ℕ) (s : Assignment) (d : Conversation) → SetsAssignment t u agg conv s → model_conversation s ≡ d
    → model_distributor u ≡ record (model_distributor t) { state = at_conversation (model_distributor t).state agg conv d }
seen_after t u agg conv s d h e = grind arith

-- a frame is sent
may_send : (agg conv port : ℕ) (ports : List ℕ) (s : Assignment) → MaySend ports s port
    → ((model_conversation s ≡ Conversation.Free) × OnlyListedDistribute agg ports agg port) ⊎ (model_conversation s ≡ Conversation.On port)
may_send agg conv port ports s h = grind arith

pub send_moves : (mac : List ℕ) (call : ModelCall) (t u : Table) (agg conv port : ℕ) (ports : List ℕ) → replies_frame call ≡ true
    → MaySend ports (assignment_of t agg conv) port → SetsAssignment t u agg conv (state.On port)
    → DistributorMoves mac call (OnlyListedDistribute agg ports) (model_distributor t) (Act.Sends_frame port agg conv ∷ []) (model_distributor u)
send_moves mac call t u agg conv port ports r m h = (
  DistributorMove.Send agg conv port ∷ [],
  ((r, may_send agg conv port ports (assignment_of t agg conv) m), tt),
  refl,
  seen_after t u agg conv (state.On port) (Conversation.On port) h refl,
)

-- a conversation changes while nothing is sent
one_moves : (mac : List ℕ) (call : ModelCall) (t u : Table) (agg conv : ℕ) (s : Assignment) (m : ConversationMove)
    → ConversationMoveAllowed mac call agg conv m (model_conversation (assignment_of t agg conv)) → model_conversation s ≡ conversation_after m
    → SetsAssignment t u agg conv s → DistributorMoves mac call NoneDistributes (model_distributor t) [] (model_distributor u)
one_moves mac call t u agg conv s m a e h = (
  DistributorMove.Become agg conv m
      ∷ [],
  (a, tt),
  refl,
  seen_after t u agg conv s (conversation_after m) h e,
)

-- what a move makes of a conversation
pub is_moved : (next : Option ℕ) (ports : List ℕ) (to : ℕ) (old new : Assignment) → move_result next ports to old ≡ Ok new → (p : ℕ)
    × (model_conversation old ≡ Conversation.On p) × (model_conversation new ≡ Conversation.Wanted p)
is_moved next ports to (state.On p) new h = (p, refl, checked (is_among ports to) (eqb p to) (is_none next) h)
  where
    checked : (x y z : Bool)
        → cond x (cond y (Err DistFault.SamePort) (cond z (Err DistFault.MarkersSpent) (Ok (state.Wanted p (Some to)))))
        (Err DistFault.NotDistributing) ≡ Ok new → model_conversation new ≡ Conversation.Wanted p
    checked false y z e = absurd cc
    checked true true z e = absurd cc
    checked true false true e = absurd cc
    checked true false false e = let same : state.Wanted p (Some to) ≡ new = cc in ap model_conversation (sym same)
is_moved next ports to s new h = absurd cc

pub move_moves : (mac : List ℕ) (call : ModelCall) (t u : Table) (agg conv to : ℕ) (next : Option ℕ) (ports : List ℕ) (s : Assignment)
    → move_result next ports to (assignment_of t agg conv) ≡ Ok s → SetsAssignment t u agg conv s
    → DistributorMoves mac call NoneDistributes (model_distributor t) [] (model_distributor u)
move_moves mac call t u agg conv to next ports s e h = let m = is_moved next ports to (assignment_of t agg conv) s e in
    one_moves mac call t u agg conv s (ConversationMove.Want m.0) m.1 m.2 h

-- what leaving a port makes of a conversation
pub is_left : (next : Option ℕ) (old new : Assignment) → leave_result next old ≡ Ok new → (p : ℕ)
    × (model_conversation old ≡ Conversation.On p) × (model_conversation new ≡ Conversation.Wanted p)
is_left next (state.On p) new h = (p, refl, checked (is_none next) h)
  where
    checked : (z : Bool) → cond z (Err DistFault.MarkersSpent) (Ok (state.Wanted p None)) ≡ Ok new → model_conversation new ≡ Conversation.Wanted p
    checked true e = absurd cc
    checked false e = let same : state.Wanted p None ≡ new = cc in ap model_conversation (sym same)
is_left next s new h = absurd cc

pub leave_one_moves : (mac : List ℕ) (call : ModelCall) (t u : Table) (agg conv : ℕ) (next : Option ℕ) (s : Assignment)
    → leave_result next (assignment_of t agg conv) ≡ Ok s → SetsAssignment t u agg conv s
    → DistributorMoves mac call NoneDistributes (model_distributor t) [] (model_distributor u)
leave_one_moves mac call t u agg conv next s e h = let m = is_left next (assignment_of t agg conv) s e in
    one_moves mac call t u agg conv s (ConversationMove.Want m.0) m.1 m.2 h

-- what rests is forced
pub is_rested : (old new : Assignment) → rest_result old ≡ Ok new → force_result old ≡ Ok new
is_rested old new h = grind arith

-- what force makes of a conversation
pub is_forced : (old new : Assignment) → force_result old ≡ Ok new → model_conversation new ≡ Conversation.Free
is_forced old new h = grind arith

pub force_moves : (mac : List ℕ) (t u : Table) (agg conv : ℕ) (s : Assignment) → force_result (assignment_of t agg conv) ≡ Ok s → SetsAssignment t u agg conv s
    → DistributorMoves mac (ModelCall.Force agg conv) NoneDistributes (model_distributor t) [] (model_distributor u)
force_moves mac t u agg conv s e h = one_moves mac (ModelCall.Force agg conv) t u agg conv s ConversationMove.Forced refl
    (is_forced (assignment_of t agg conv) s e) h

pub rest_moves : (mac : List ℕ) (t u : Table) (agg conv : ℕ) (s : Assignment) → rest_result (assignment_of t agg conv) ≡ Ok s → SetsAssignment t u agg conv s
    → DistributorMoves mac (ModelCall.Force agg conv) NoneDistributes (model_distributor t) [] (model_distributor u)
rest_moves mac t u agg conv s e h = force_moves mac t u agg conv s (is_rested (assignment_of t agg conv) s e) h

-- Every conversation changes alike.
keys_of : ℕ → ℕ → List (ℕ × ℕ)
keys_of w zero = []
keys_of w (suc n) = (n / w + 1, n % w) ∷ keys_of w n

among_keys : (w g k n : ℕ) → 0 < g → k < w → slot_index w g k < n → IsAmong g k (keys_of w n)
unfolding keys_of
among_keys w g k zero p l lt = absurd (omega arith)
among_keys w g k (suc n) p l lt = ⊎_elim
    (λ (e : slot_index w g k ≡ n). inl (
      omega (arith, p, sym (div-mul-add (g - 1) w k l) ∙ ap (λ x. x / w) e),
      sym (mod-mul-add (g - 1) w k l) ∙ ap (λ x. x % w) e,
    ))
    (λ (m : slot_index w g k ≡ n → ⊥). inr (among_keys w g k n p l (omega (arith, m))))
    (cases_eq (slot_index w g k) n)

in_states : (t : Table) (g k : ℕ) → (assignment_of t g k ≡ state.Free None) ⊎ IsAmong g k (keys_of t.conversations (length t.states))
in_states t g k = let w = t.conversations in
    elim (cases_Bool (ltb 0 g && ltb k w)) [
      | inl e ↦ (let p = and_parts (ltb 0 g) (ltb k w) e in
          elim (cases_Bool (ltb (slot_index w g k) (length t.states))) [
            | inl x ↦ inr (among_keys w g k (length t.states) (ltb-true 0 g p.0) (ltb-true k w p.1)
                (ltb-true (slot_index w g k) (length t.states) x))
            | inr y ↦ inl (cond-true (ltb 0 g && ltb k w) _ _ e
                ∙ get_or_past t.states (slot_index w g k) (state.Free None) (ltb-false (slot_index w g k) (length t.states) y))
          ])
      | inr f ↦ inl (cond-false (ltb 0 g && ltb k w) _ _ f)
    ]

-- what one conversation makes of itself
abbrev pub Makes : List ℕ → ModelCall → ℕ → ℕ → Assignment → Assignment → Type 0
Makes mac call g k old new = (model_conversation new ≡ model_conversation old)
    ⊎ ((m : ConversationMove) × ConversationMoveAllowed mac call g k m (model_conversation old)
    × (model_conversation new ≡ conversation_after m))

-- each conversation makes what it makes of itself, by its aggregator and number
pub each_moves : (mac : List ℕ) (call : ModelCall) (t u : Table) (change : ℕ → ℕ → Assignment → Assignment)
    → ((g k : ℕ) → change g k (state.Free None) ≡ state.Free None) → ((g k : ℕ) (s : Assignment) → Makes mac call g k s (change g k s))
    → u.next ≡ t.next → ((g k : ℕ) → assignment_of u g k ≡ change g k (assignment_of t g k))
    → DistributorMoves mac call NoneDistributes (model_distributor t) [] (model_distributor u)
each_moves mac call t u change free makes next states =
    let z = flows_become mac call NoneDistributes (keys_of t.conversations (length t.states)) (model_distributor t) (model_distributor u).state each in
    let same : model_distributor u ≡ record (model_distributor t) { state = (model_distributor u).state } =
    λ i. record { state = (model_distributor u).state; next = next i } in
    (z.0, z.1, z.2, same ∙ z.3)
  where
    each : BecomeByMoves (keys_of t.conversations (length t.states)) mac call (model_distributor t).state (model_distributor u).state
    each g k = elim (makes g k (assignment_of t g k)) [
      | inl e ↦ inl (ap model_conversation (states g k) ∙ e)
      | inr x ↦ elim (in_states t g k) [
        | inl n ↦ inl (ap model_conversation (states g k ∙ ap (change g k) n ∙ free g k ∙ sym n))
        | inr a ↦ inr (a, (x.0, x.1, ap model_conversation (states g k) ∙ x.2))
      ]
    ]

-- all in the same way
all_moves : (mac : List ℕ) (call : ModelCall) (t u : Table) (change : Assignment → Assignment) → change (state.Free None) ≡ state.Free None
    → ((g k : ℕ) (s : Assignment) → Makes mac call g k s (change s)) → ChangesAssignments t u change
    → DistributorMoves mac call NoneDistributes (model_distributor t) [] (model_distributor u)
all_moves mac call t u change free makes h = each_moves mac call t u (λ g k. change) (λ g k. free) makes h.next h.states

makes_leave : (mac : List ℕ) (call : ModelCall) (port g k : ℕ) (s : Assignment) → Makes mac call g k s (after_leave port s)
makes_leave mac call port g k (state.On p) = chosen (Makes mac call g k (state.On p)) (eqb p port) _ _
    (λ t. inr (ConversationMove.Want port, ap (λ q. Conversation.On q) (eqb-true p port t), refl)) (λ f. inl refl)
makes_leave mac call port g k s = inl refl

pub leave_moves : (mac : List ℕ) (call : ModelCall) (t u : Table) (port : ℕ) → ChangesAssignments t u (after_leave port)
    → DistributorMoves mac call NoneDistributes (model_distributor t) [] (model_distributor u)
leave_moves mac call t u port h = all_moves mac call t u (after_leave port) refl (makes_leave mac call port) h

-- a conversation that has to do with the port is free if its port goes down
freed : (mac : List ℕ) (port g k p : ℕ) (preferred : Option ℕ) (s : Assignment) → conversation_port (model_conversation s) ≡ Some p
    → Makes mac (ModelCall.Set_link port false) g k s (cond (eqb p port) (state.Free preferred) s)
freed mac port g k p preferred s h = chosen (Makes mac (ModelCall.Set_link port false) g k s) (eqb p port) _ _
    (λ t. inr (ConversationMove.Down port, (refl, h ∙ ap (λ q. Some q) (eqb-true p port t)), refl)) (λ f. inl refl)

makes_down : (mac : List ℕ) (port g k : ℕ) (s : Assignment) → Makes mac (ModelCall.Set_link port false) g k s (after_down port s)
makes_down mac port g k (state.Free preferred) = inl refl
makes_down mac port g k (state.On p) = freed mac port g k p None (state.On p) refl
makes_down mac port g k (state.Wanted p preferred) = freed mac port g k p preferred (state.Wanted p preferred) refl
makes_down mac port g k (state.Flushing p n preferred age) = freed mac port g k p preferred (state.Flushing p n preferred age) refl

pub down_moves : (mac : List ℕ) (t u : Table) (port : ℕ) → ChangesAssignments t u (after_down port)
    → DistributorMoves mac (ModelCall.Set_link port false) NoneDistributes (model_distributor t) [] (model_distributor u)
down_moves mac t u port h = all_moves mac (ModelCall.Set_link port false) t u (after_down port) refl (makes_down mac port) h

makes_release : (mac : List ℕ) (port id g k : ℕ) (s : Assignment)
    → Makes mac (ModelCall.Receive port (Some (ControlMessage.Response mac port id))) g k s (after_release port id s)
makes_release mac port id g k (state.Flushing p n preferred age) = chosen
    (Makes mac (ModelCall.Receive port (Some (ControlMessage.Response mac port id))) g k (state.Flushing p n preferred age))
    (eqb p port && eqb n id) _ _
    (λ t. let b = and_parts (eqb p port) (eqb n id) t in inr (
      ConversationMove.Answered port id,
      (refl, ap (λ q. Conversation.Flushing q n) (eqb-true p port b.0) ∙ ap (λ i. Conversation.Flushing port i) (eqb-true n id b.1)),
      refl,
    )) (λ f. inl refl)
makes_release mac port id g k s = inl refl

pub release_moves : (mac : List ℕ) (t u : Table) (port id : ℕ) → ChangesAssignments t u (after_release port id)
    → DistributorMoves mac (ModelCall.Receive port (Some (ControlMessage.Response mac port id))) NoneDistributes (model_distributor t) [] (model_distributor u)
release_moves mac t u port id h = all_moves mac (ModelCall.Receive port (Some (ControlMessage.Response mac port id))) t u
    (after_release port id) refl (makes_release mac port id) h

makes_tick : (mac : List ℕ) (call : ModelCall) (g k : ℕ) (s : Assignment) → Makes mac call g k s (after_tick s)
makes_tick mac call g k (state.Flushing p n preferred age) =
    chosen (Makes mac call g k (state.Flushing p n preferred age)) (ltb (age + 1) 30) _ _ (λ t. inl refl)
    (λ f. inr (ConversationMove.Retry p n, refl, refl))
makes_tick mac call g k s = inl refl

pub tick_moves : (mac : List ℕ) (call : ModelCall) (t u : Table) → ChangesAssignments t u after_tick
    → DistributorMoves mac call NoneDistributes (model_distributor t) [] (model_distributor u)
tick_moves mac call t u h = all_moves mac call t u after_tick refl (makes_tick mac call) h

-- A marker is sent.
is_flushed : (port id n : ℕ) (s : Assignment) → id ≡ n → model_conversation (after_mark port id s) ≡ flushed port n (model_conversation s)
is_flushed port id n s e = grind arith

pub mark_moves : (mac : List ℕ) (call : ModelCall) (t u : Table) (port id : ℕ) → replies_frame call ≡ true → id < 2 ^ 32 → Marks t u port id
    → DistributorMoves mac call NoneDistributes (model_distributor t) (Act.Sends port (ControlMessage.Marker mac port id) ∷ []) (model_distributor u)
mark_moves mac call t u port id r lt h = (
  DistributorMove.Mark port ∷ [],
  ((r, subst (λ n. n < 2 ^ 32) h.sent lt), tt),
  ap (λ n. Act.Sends port (ControlMessage.Marker mac port n) ∷ []) (sym h.sent),
  λ i. record { state = λ g k. (ap model_conversation (h.states g k) ∙ is_flushed port id t.next (assignment_of t g k) h.sent) i; next = h.next i },
)

-- nothing changes
pub same_moves : (mac : List ℕ) (call : ModelCall) (t u : Table) → u ≡ t
    → DistributorMoves mac call NoneDistributes (model_distributor t) [] (model_distributor u)
same_moves mac call t u e = ([], tt, refl, ap model_distributor e)

-- at the start every conversation is free for the law too
pub first_flows : (u : SystemSetup) (aggs conversations : ℕ) → model_distributor (first_table aggs conversations u.first_marker) ≡ (first_view u).flows
first_flows u aggs conversations =
    λ i. record { state = λ agg conv. model_conversation (first_free aggs conversations u.first_marker agg conv i); next = u.first_marker }
