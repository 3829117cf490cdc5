-- What is Free stays Free where no frame is sent of it.
use Rattle.dataplane.proofs.Common.{List, Option, [], ap, eqb, eqb-true, false, inl, inr, refl, subst, sym, true, ℕ, ◌++◌, ◌∙◌, ◌∷◌, ◌≡◌, ◌≢◌, ◌⊎◌}
use Rattle.dataplane.proofs.Common.{cases_Bool, eqb-false, option_to_list, OnItsCable, Act, AllAllowed, ConversationMove, ConversationMoveAllowed}
use Rattle.dataplane.proofs.Common.{DistributorMove, Flow, LawfulMoves, Port, Restart, Sends, Sends_frame, Took, act_of_port, acts}
use Rattle.dataplane.proofs.Common.{conversation_after, flushed, view_after, view_after_all, Conversation, DistributorFacts, Flushing, ModelCall}
use Rattle.dataplane.proofs.Common.{SystemSetup, View, at_conversation, first_view, Side, World, WorldSetup, FreeElsewhere, InOneAggregator}
use Rattle.dataplane.proofs.Common.{NoneOnItsWayElsewhere, SendsNoFrame}
use native.Mathlib.Omega.{arith}
use Rattle.lagmodel.specs.Move.{Move}
use Rattle.lagmodel.specs.View.{Free, On}

-- no frame of conversation j of aggregator h is sent
abbrev pub NotSent : ℕ → ℕ → List Act → Type 0
NotSent h j [] = Unit {0}
NotSent h j (Sends p pdu ∷ seen) = NotSent h j seen
NotSent h j (Sends_frame p g k ∷ seen) = ((g ≡ h) × (k ≡ j) → ⊥) × NotSent h j seen
NotSent h j (Took p pdu ∷ seen) = NotSent h j seen

past : (h j : ℕ) (o : Option Act) (seen : List Act) → NotSent h j (option_to_list o ++ seen) → NotSent h j seen
past h j o seen n = grind arith

pub none_sent : (h j : ℕ) (seen : List Act) → SendsNoFrame seen → NotSent h j seen
none_sent h j [] n = tt
none_sent h j (Sends p pdu ∷ seen) n = none_sent h j seen n
none_sent h j (Sends_frame p g k ∷ seen) n = absurd n
none_sent h j (Took p pdu ∷ seen) n = none_sent h j seen n

is_flushing : (c : Conversation) (p n : ℕ) → c ≡ Flushing p n → c ≡ Free → ⊥
is_flushing c p n a b = cc

send_stays : (f : DistributorFacts) (p g k h j : ℕ) → ((g ≡ h) × (k ≡ j) → ⊥) → f.state h j ≡ Free → at_conversation f.state g k (On p) h j ≡ Free
send_stays f p g k h j n e = grind arith

become_stays : (mac : List ℕ) (call : ModelCall) (f : DistributorFacts) (g k : ℕ) (m : ConversationMove) (h j : ℕ)
    → ConversationMoveAllowed mac call g k m (f.state g k) → f.state h j ≡ Free → at_conversation f.state g k (conversation_after m) h j ≡ Free
become_stays mac call f g k m h j a e = grind arith

stays_free : (u : SystemSetup) (call : ModelCall) (h j : ℕ) (ms : List Move) (v : View) → AllAllowed u call v ms
    → NotSent h j (acts u ms v) → v.flows.state h j ≡ Free → (view_after_all u ms v).flows.state h j ≡ Free
stays_free u call h j [] v a n e = e
stays_free u call h j (Port p m ∷ ms) v a n e = stays_free u call h j ms (view_after u (Port p m) v) a.1
    (past h j (act_of_port p m (v.port p)) (acts u ms (view_after u (Port p m) v)) n) e
stays_free u call h j (Flow (DistributorMove.Send g k p) ∷ ms) v a n e =
    stays_free u call h j ms (view_after u (Flow (DistributorMove.Send g k p)) v) a.1 n.1 (send_stays v.flows p g k h j n.0 e)
stays_free u call h j (Flow (DistributorMove.Mark p) ∷ ms) v a n e =
    stays_free u call h j ms (view_after u (Flow (DistributorMove.Mark p)) v) a.1 n (ap (flushed p v.flows.next) e)
stays_free u call h j (Flow (DistributorMove.Become g k m) ∷ ms) v a n e =
    stays_free u call h j ms (view_after u (Flow (DistributorMove.Become g k m)) v) a.1 n
    (become_stays u.system.mac call v.flows g k m h j a.0 e)
stays_free u call h j (Restart ∷ ms) v a n e = stays_free u call h j ms (first_view u) a.1 n refl

pub was_not_free : (u : SystemSetup) (call : ModelCall) (old new : View) (seen : List Act) (h j : ℕ) → LawfulMoves u call old seen new
    → NotSent h j seen → new.flows.state h j ≢ Free → old.flows.state h j ≢ Free
was_not_free u call old new seen h j x n f = grind (arith, stays_free, NotSent)

pub kept : (u : SystemSetup) (call : ModelCall) (old new : View) (seen : List Act) → LawfulMoves u call old seen new
    → SendsNoFrame seen → InOneAggregator old → InOneAggregator new
kept u call old new seen x n i = λ a b j fa fb. i a b j (was_not_free u call old new seen a j x (none_sent a j seen n) fa)
    (was_not_free u call old new seen b j x (none_sent b j seen n) fb)

pub sent : (u : SystemSetup) (call : ModelCall) (old new : View) (p g k : ℕ) → LawfulMoves u call old (Sends_frame p g k ∷ []) new
    → FreeElsewhere old g k → InOneAggregator old → InOneAggregator new
sent u call old new p g k x e i = λ a b j fa fb. by_number a b j fa fb (cases_Bool (eqb k j))
  where
    another : (a j : ℕ) → ((g ≡ a) × (k ≡ j) → ⊥) → new.flows.state a j ≢ Free → old.flows.state a j ≢ Free
    another a j other f = was_not_free u call old new (Sends_frame p g k ∷ []) a j x (other, tt) f

    in_g : (a : ℕ) → new.flows.state a k ≢ Free → a ≡ g
    in_g a f = elim (cases_Bool (eqb a g)) [
      | inl t ↦ eqb-true a g t
      | inr n ↦ (let apart : a ≢ g = eqb-false a g n in absurd (another a k (λ z. apart (sym z.0)) f (e a apart)))
    ]

    by_number : (a b j : ℕ) → new.flows.state a j ≢ Free → new.flows.state b j ≢ Free → (eqb k j ≡ true) ⊎ (eqb k j ≡ false) → a ≡ b
    by_number a b j fa fb (inl t) = let same : k ≡ j = eqb-true k j t in
        in_g a (subst (λ l. new.flows.state a l ≢ Free) (sym same) fa)
        ∙ sym (in_g b (subst (λ l. new.flows.state b l ≢ Free) (sym same) fb))
    by_number a b j fa fb (inr n) = let apart : k ≢ j = eqb-false k j n in
        i a b j (another a j (λ z. apart z.1) fa) (another b j (λ z. apart z.1) fb)

pub behind : (x : WorldSetup) (w : World) (s : Side) (g k : ℕ) → OnItsCable x w → FreeElsewhere (w.view s) g k → NoneOnItsWayElsewhere w s g k
behind x w s g k on e = grind arith
