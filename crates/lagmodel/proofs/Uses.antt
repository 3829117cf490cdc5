-- What the code of one system cites, to show that it keeps to the lawful moves. Moves of the system: moves_joined,
-- moves_port, moves_flows, moves_at (of a port in a list). Moves of its conversations: flows_become (many at once),
-- flows_weaker. Ports that are a list: find_at, ports_set, numbered_set.
use native.Mathlib.Omega.{arith}
use Rattle.lagmodel.proofs.Common.{IsSomeAnd, List, None, Option, Some, [], ap, append_assoc, cond, eq-eqb, eqb, eqb-true, false, inl, inr, map}
use Rattle.lagmodel.proofs.Common.{option_map, refl, set, slice_get, subst, suc, sym, true, zero, ℕ, ◌++◌, ◌∙◌, ◌∷◌, ◌≡◌, cases_Bool, none-some}
use Rattle.lagmodel.proofs.Common.{same_Some, option_to_list, AreNumbered, BecomeByMoves, find_number, ports_of, Act, AllAllowed}
use Rattle.lagmodel.proofs.Common.{ConversationMoveAllowed, Distributes, DistributorMove, DistributorMoveAllowed, DistributorMoves}
use Rattle.lagmodel.proofs.Common.{DistributorMovesAllowed, Flow, LawfulMoves, Move, Port, PortAllowed, PortMove, act, act_of_port, acts}
use Rattle.lagmodel.proofs.Common.{conversation_after, distributor_act, distributor_acts, distributor_after, distributor_after_all, port_act}
use Rattle.lagmodel.proofs.Common.{port_after, view_after, view_after_all, Conversation, DistributorFacts, ModelCall, PortFacts, SystemSetup, View}
use Rattle.lagmodel.proofs.Common.{at_conversation, at_port}
use Rattle.lagmodel.proofs.Base.{cond_true, cond_false}
use Rattle.lagmodel.proofs.Lanes.{conversation_cases}

-- Moves one after another.
all_joined : (u : SystemSetup) (call : ModelCall) (xs ys : List Move) (v : View) → AllAllowed u call v xs
    → AllAllowed u call (view_after_all u xs v) ys → AllAllowed u call v (xs ++ ys)
all_joined u call [] ys v h i = i
all_joined u call (m ∷ xs) ys v h i = (h.0, all_joined u call xs ys (view_after u m v) h.1 i)

after_joined : (u : SystemSetup) (xs ys : List Move) (v : View) → view_after_all u (xs ++ ys) v ≡ view_after_all u ys (view_after_all u xs v)
after_joined u [] ys v = refl
after_joined u (m ∷ xs) ys v = after_joined u xs ys (view_after u m v)

acts_joined : (u : SystemSetup) (xs ys : List Move) (v : View) → acts u (xs ++ ys) v ≡ acts u xs v ++ acts u ys (view_after_all u xs v)
acts_joined u [] ys v = refl
acts_joined u (m ∷ xs) ys v = ap (λ (l : List Act). option_to_list (act u m v) ++ l) (acts_joined u xs ys (view_after u m v))
    ∙ sym (append_assoc (option_to_list (act u m v)) (acts u xs (view_after u m v)) (acts u ys (view_after_all u xs (view_after u m v))))

pub moves_joined : (u : SystemSetup) (call : ModelCall) (old mid new : View) (seen more : List Act) → LawfulMoves u call old seen mid
    → LawfulMoves u call mid more new → LawfulMoves u call old (seen ++ more) new
moves_joined u call old mid new seen more a b = grind (arith, all_joined, acts_joined, acts, view_after_all, after_joined)

-- one move of a port, by its view before it
pub moves_port : (u : SystemSetup) (call : ModelCall) (v : View) (p : ℕ) (m : PortMove) (a : PortFacts) → v.port p ≡ Some a → PortAllowed u call v.port p m a
    → LawfulMoves u call v (option_to_list (port_act p m a)) (record v { port = at_port v.port p (port_after m) })
moves_port u call v p m a h x = (
  Port p m ∷ [],
  (there (v.port p) h, tt),
  ap (λ o. option_to_list (act_of_port p m o) ++ []) h ∙ nothing_more (port_act p m a),
  refl,
)
  where
    there : (o : Option PortFacts) → o ≡ Some a → IsSomeAnd o (PortAllowed u call v.port p m)
    there o e = subst (λ o. IsSomeAnd o (PortAllowed u call v.port p m)) (sym e) x

    nothing_more : (o : Option Act) → option_to_list o ++ [] ≡ option_to_list o
    nothing_more None = refl
    nothing_more (Some y) = refl

-- moves of the conversations are moves of the system
pub moves_flows : (u : SystemSetup) (call : ModelCall) (v : View) (seen : List Act) (f : DistributorFacts)
    → DistributorMoves u.system.mac call (Distributes v.port) v.flows seen f → LawfulMoves u call v seen (record v { flows = f })
moves_flows u call v seen f x = (
  map (λ (m : DistributorMove). Flow m) x.0,
  allowed x.0 v x.1,
  same_acts x.0 v ∙ x.2,
  ap (λ (f : DistributorFacts). record v { flows = f }) x.3 ∙ sym (same_view x.0 v),
)
  where
    allowed : (ms : List DistributorMove) (v : View) → DistributorMovesAllowed u.system.mac call (Distributes v.port) v.flows ms
        → AllAllowed u call v (map (λ (m : DistributorMove). Flow m) ms)
    allowed [] v h = tt
    allowed (m ∷ ms) v h = (h.0, allowed ms (record v { flows = distributor_after m v.flows }) h.1)

    same_acts : (ms : List DistributorMove) (v : View) → acts u (map (λ (m : DistributorMove). Flow m) ms) v ≡ distributor_acts u.system.mac ms v.flows
    same_acts [] v = refl
    same_acts (m ∷ ms) v = ap (λ (l : List Act). option_to_list (distributor_act u.system.mac m v.flows)
        ++ l) (same_acts ms (record v { flows = distributor_after m v.flows }))

    same_view : (ms : List DistributorMove) (v : View)
        → view_after_all u (map (λ (m : DistributorMove). Flow m) ms) v ≡ record v { flows = distributor_after_all ms v.flows }
    same_view [] v = refl
    same_view (m ∷ ms) v = same_view ms (record v { flows = distributor_after m v.flows })

-- many conversations changed at once
pub flows_become : (mac : List ℕ) (call : ModelCall) (D : ℕ → ℕ → Type 0) (keys : List (ℕ × ℕ)) (f : DistributorFacts) (new : ℕ → ℕ
    → Conversation) → BecomeByMoves keys mac call f.state new → DistributorMoves mac call D f [] (record f { state = new })
flows_become mac call D [] f new h = grind arith
flows_become mac call D (y ∷ keys) f new h = elim (h y.0 y.1) [
  | inl e ↦ flows_become mac call D keys f new (λ g k. elim (h g k) [
    | inl e ↦ inl e
    | inr x ↦ elim x.0 [
      | inl here ↦ inl (subst (λ j. new g j ≡ f.state g j) (sym here.1) (subst (λ j. new j y.1 ≡ f.state j y.1) (sym here.0) e))
      | inr
          there ↦ inr (there, x.1)
    ]
  ])
  | inr x ↦ (let m = x.1.0 in
      let g : DistributorFacts = record f { state = at_conversation f.state y.0 y.1 (conversation_after m) } in
      let rest = flows_become mac call D keys g new (λ j k. elim (conversation_cases f.state y.0 y.1 (conversation_after m) j k) [
        | inl z ↦ inl (subst (λ l. new j l ≡ conversation_after m) (sym z.1) (subst (λ l. new l y.1 ≡ conversation_after m) (sym z.0) x.1.2)
            ∙ sym z.2)
        | inr z ↦ elim (h j k) [
          | inl e ↦ inl (e ∙ sym z.1)
          | inr w ↦ elim w.0 [
            | inl here ↦ absurd (z.0 here)
            | inr there ↦ inr (there, (w.1.0, subst (ConversationMoveAllowed mac call j k w.1.0) (sym z.1) w.1.1, w.1.2))
          ]
        ]
      ]) in
      (DistributorMove.Become y.0 y.1 m ∷ rest.0, (x.1.1, rest.1), rest.2, rest.3))
]

-- more ports may distribute
pub flows_weaker : (mac : List ℕ) (call : ModelCall) (D E : ℕ → ℕ → Type 0) (old new : DistributorFacts) (seen : List Act)
    → ((g p : ℕ) → D g p → E g p) → DistributorMoves mac call D old seen new → DistributorMoves mac call E old seen new
flows_weaker mac call D E old new seen h x = (x.0, all x.0 old x.1, x.2, x.3)
  where
    one : (m : DistributorMove) (f : DistributorFacts) → DistributorMoveAllowed mac call D f m → DistributorMoveAllowed mac call E f m
    one (DistributorMove.Send g k p) f y = (y.0, elim y.1 [ inl z ↦ inl (z.0, h g p z.1) | inr z ↦ inr z ])
    one m f y = y

    all : (ms : List DistributorMove) (f : DistributorFacts) → DistributorMovesAllowed mac call D f ms → DistributorMovesAllowed mac call E f ms
    all [] f y = tt
    all (m ∷ ms) f y = (one m f y.0, all ms (distributor_after m f) y.1)

-- a port of a list is written
find_set_other : {X : Type 0} (number : X → ℕ) (xs : List X) (i : ℕ) (x y : X) (q : ℕ) → slice_get xs i ≡ Some x → number y ≡ number x
    → eqb q (number x) ≡ false → find_number number (set xs i y) q ≡ find_number number xs q
find_set_other number [] i x y q h e n = refl
find_set_other number (z ∷ xs) zero x y q h e n = grind arith
find_set_other number (z ∷ xs) (suc i) x y q h e n = ap (cond (eqb q (number z)) (Some z)) (find_set_other number xs i x y q h e n)

find_past : {X : Type 0} (number : X → ℕ) (xs : List X) (i : ℕ) (x : X) (q : ℕ) → slice_get xs i ≡ Some x → find_number number xs q ≡ None
    → eqb q (number x) ≡ true → ⊥
find_past number [] i x q h n e = none-some x h
find_past number (z ∷ xs) zero x q h n e = grind arith
find_past number (z ∷ xs) (suc i) x q h n e = elim (cases_Bool (eqb q (number z))) [
  | inl t ↦ none-some z (sym n ∙ cond_true (eqb q (number z)) (Some z) (find_number number xs q) t)
  | inr f ↦ find_past number xs i x q h (sym (cond_false (eqb q (number z)) (Some z) (find_number number xs q) f) ∙ n) e
]

pub find_at : {X : Type 0} (number : X → ℕ) (xs : List X) (i : ℕ) (x : X) → AreNumbered number xs → slice_get xs i ≡ Some x
    → find_number number xs (number x) ≡ Some x
find_at number [] i x a h = absurd (none-some x h)
find_at number (z ∷ xs) zero x a h = grind arith
find_at number (z ∷ xs) (suc i) x a h = elim (cases_Bool (eqb (number x) (number z))) [
  | inl t ↦ absurd (find_past number xs i x (number z) h a.0 (eq-eqb _ _ (sym (eqb-true _ _ t))))
  | inr f ↦ cond_false (eqb (number x) (number z)) (Some z) (find_number number xs (number x)) f ∙ find_at number xs i x a.1 h
]

find_set_same : {X : Type 0} (number : X → ℕ) (xs : List X) (i : ℕ) (x y : X) → AreNumbered number xs → slice_get xs i ≡ Some x
    → number y ≡ number x → find_number number (set xs i y) (number x) ≡ Some y
find_set_same number [] i x y a h e = absurd (none-some x h)
find_set_same number (z ∷ xs) zero x y a h e = grind arith
find_set_same number (z ∷ xs) (suc i) x y a h e = elim (cases_Bool (eqb (number x) (number z))) [
  | inl t ↦ absurd (find_past number xs i x (number z) h a.0 (eq-eqb _ _ (sym (eqb-true _ _ t))))
  | inr f ↦ cond_false (eqb (number x) (number z)) (Some z) (find_number number (set xs i y) (number x)) f
      ∙ find_set_same number xs i x y a.1 h e
]

pub ports_set : {X : Type 0} (number : X → ℕ) (view : X → PortFacts) (xs : List X) (i : ℕ) (x y : X) (f : PortFacts → PortFacts)
    → AreNumbered number xs → slice_get xs i ≡ Some x → number y ≡ number x → view y ≡ f (view x)
    → (q : ℕ) → ports_of number view (set xs i y) q ≡ at_port (ports_of number view xs) (number x) f q
ports_set number view xs i x y f a h e v q = grind (arith, cases_Bool, eqb, eqb-true, option_map, find_number, set, find_set_same, cond_true, ports_of, find_at, find_set_other, cond_false)

-- one move of a port of a list
pub moves_at : {X : Type 0} (number : X → ℕ) (view : X → PortFacts) (u : SystemSetup) (call : ModelCall) (f : DistributorFacts)
    (xs : List X) (i : ℕ) (x y : X) (m : PortMove)
    → AreNumbered number xs → slice_get xs i ≡ Some x → number y ≡ number x → view y ≡ port_after m (view x)
    → PortAllowed u call (ports_of number view xs) (number x) m (view x)
    → LawfulMoves u call (record { port = ports_of number view xs; flows = f }) (option_to_list (port_act (number x) m (view x)))
    (record { port = ports_of number view (set xs i y); flows = f })
moves_at number view u call f xs i x y m a h n v allowed =
    let z = moves_port u call (record { port = ports_of number view xs; flows = f }) (number x) m (view x)
    (ap (option_map view) (find_at number xs i x a h)) allowed in
    grind (arith, ports_of, set, at_port, port_after, ports_set)

-- a write that leaves the number leaves all numbers
pub numbered_set : {X : Type 0} (number : X → ℕ) (xs : List X) (i : ℕ) (x y : X) → slice_get xs i ≡ Some x → number y ≡ number x
    → AreNumbered number xs → AreNumbered number (set xs i y)
numbered_set number [] i x y h e a = tt
numbered_set number (z ∷ xs) zero x y h e a = (ap (find_number number xs) (e ∙ sym (ap number (same_Some z x h))) ∙ a.0, a.1)
numbered_set number (z ∷ xs) (suc i) x y h e a = (
  elim (cases_Bool (eqb (number z) (number x))) [
    | inl t ↦ absurd (find_past number xs i x (number z) h a.0 t)
    | inr f ↦ find_set_other number xs i x y (number z) h e f ∙ a.0
  ],
  numbered_set number xs i x y h e a.1,
)
