-- Where each conversation counts one and no move is left, the loads are alike; and where they are alike there is no move.
use Rattle.dataplane.proofs.Common.{List, [], ap, arith, cond, eqb, inl, inr, length, refl, suc, sym, zero, ℕ, ◌+◌, ◌<◌, ◌∷◌, ◌≡◌, ◌≤◌, cases_lt}
use Rattle.dataplane.proofs.Common.{eqb_tells, sum_by-cons, Contains, Carried, Move, IsMove, conversation_at, load_on, CountsOne}
use Rattle.dataplane.proofs.Sums.{IsAmong, among}

pub contained : (ports : List ℕ) (p : ℕ) → IsAmong p ports → Contains ports p
contained [] p i = absurd i
contained (q ∷ ports) p i = elim i [
  | inl e ↦ (0, omega arith, sym e)
  | inr b ↦ let c : Contains ports p = contained ports p b in (suc c.0, omega (arith, c.1), c.2)
]

-- a port of the most
most_of : (f : ℕ → ℕ) (q : ℕ) (ports : List ℕ) → (a : ℕ) × IsAmong a (q ∷ ports) × ((p : ℕ) → IsAmong p (q ∷ ports) → f p ≤ f a)
most_of f q [] = (q, inl refl, λ p i. elim i [ inl e ↦ (let s : f p ≡ f q = ap f e in omega (arith, s)) | inr b ↦ absurd b ])
most_of f q (r ∷ ports) =
    let rest : (a : ℕ) × IsAmong a (r ∷ ports) × ((p : ℕ) → IsAmong p (r ∷ ports) → f p ≤ f a) = most_of f r ports in
    elim (cases_lt (f rest.0) (f q)) [
      | inl l ↦ (q, inl refl, λ p i. elim i [ inl e ↦ (let s : f p ≡ f q = ap f e in omega (arith, s)) | inr b ↦ (let h : f p ≤ f rest.0 = rest.2 p b in omega (arith, h, l)) ])
      | inr l ↦ (rest.0, inr rest.1, λ p i. elim i [ inl e ↦ (let s : f p ≡ f q = ap f e in omega (arith, s, l)) | inr b ↦ rest.2 p b ])
    ]

-- a port of the least
least_of : (f : ℕ → ℕ) (q : ℕ) (ports : List ℕ) → (a : ℕ) × IsAmong a (q ∷ ports) × ((p : ℕ) → IsAmong p (q ∷ ports) → f a ≤ f p)
least_of f q [] = (q, inl refl, λ p i. elim i [ inl e ↦ (let s : f p ≡ f q = ap f e in omega (arith, s)) | inr b ↦ absurd b ])
least_of f q (r ∷ ports) =
    let rest : (a : ℕ) × IsAmong a (r ∷ ports) × ((p : ℕ) → IsAmong p (r ∷ ports) → f a ≤ f p) = least_of f r ports in
    elim (cases_lt (f q) (f rest.0)) [
      | inl l ↦ (q, inl refl, λ p i. elim i [ inl e ↦ (let s : f p ≡ f q = ap f e in omega (arith, s)) | inr b ↦ (let h : f rest.0 ≤ f p = rest.2 p b in omega (arith, h, l)) ])
      | inr l ↦ (rest.0, inr rest.1, λ p i. elim i [ inl e ↦ (let s : f p ≡ f q = ap f e in omega (arith, s, l)) | inr b ↦ rest.2 p b ])
    ]

pub one_at : (carried : List Carried) (k : ℕ) → CountsOne carried → k < length carried → (conversation_at carried k).load ≡ 1
one_at [] k c l = absurd (omega (arith, l))
one_at (one ∷ carried) zero c l = c.0
one_at (one ∷ carried) (suc k) c l = one_at carried k c.1 (omega (arith, l))

-- a conversation on a port that has load
on_port : (carried : List Carried) (a : ℕ) → CountsOne carried → 0 < load_on a carried → (k : ℕ) × (k < length carried) × ((conversation_at carried k).port ≡ a)
on_port [] a c l = absurd (omega (arith, l))
on_port (one ∷ carried) a c l = elim (eqb_tells one.port a) [
  | inl s ↦ (0, omega arith, s.1)
  | inr s ↦ let e : load_on a (one ∷ carried) ≡ cond (eqb one.port a) one.load 0 + load_on a carried = sum_by-cons (λ x. cond (eqb x.port a) x.load 0) one carried in
      let z : cond (eqb one.port a) one.load 0 ≡ 0 = ap (λ t. cond t one.load 0) s.0 in
      let found : (k : ℕ) × (k < length carried) × ((conversation_at carried k).port ≡ a) = on_port carried a c.1 (omega (arith, e, z, l)) in
      (suc found.0, omega (arith, found.1), found.2)
]

far_apart : (q : ℕ) (ports : List ℕ) (carried : List Carried) (p r : ℕ) → CountsOne carried → ((m : Move) → IsMove (q ∷ ports) carried m → ⊥)
    → IsAmong p (q ∷ ports) → IsAmong r (q ∷ ports) → load_on r carried + 1 < load_on p carried → ⊥
far_apart q ports carried p r c none i j l = let f : ℕ → ℕ = λ p. load_on p carried in
    let a : (a : ℕ) × IsAmong a (q ∷ ports) × ((p : ℕ) → IsAmong p (q ∷ ports) → f p ≤ f a) = most_of f q ports in
    let b : (a : ℕ) × IsAmong a (q ∷ ports) × ((p : ℕ) → IsAmong p (q ∷ ports) → f a ≤ f p) = least_of f q ports in
    let high : f p ≤ f a.0 = a.2 p i in
    let low : f b.0 ≤ f r = b.2 r j in
    let k : (k : ℕ) × (k < length carried) × ((conversation_at carried k).port ≡ a.0) = on_port carried a.0 c (omega (arith, high, l)) in
    let one : (conversation_at carried k.0).load ≡ 1 = one_at carried k.0 c k.1 in
    let same : f (conversation_at carried k.0).port ≡ f a.0 = ap f k.2 in
    none (record { conversation = k.0; port = b.0 })
    (record {
      there = k.1;
      from = rw k.2 (contained (q ∷ ports) a.0 a.1);
      most = λ p h. let x : f p ≤ f a.0 = a.2 p (among (q ∷ ports) p h) in omega (arith, x, same);
      to = contained (q ∷ ports) b.0 b.1;
      least = λ p h. b.2 p (among (q ∷ ports) p h);
      loaded = omega (arith, one);
      gains = omega (arith, one, same, high, low, l);
    })

pub alike : (ports : List ℕ) (carried : List Carried) (p q : ℕ) → CountsOne carried → ((m : Move) → IsMove ports carried m → ⊥)
    → Contains ports p → Contains ports q → load_on p carried ≤ load_on q carried + 1
alike [] carried p q c none i j = absurd (omega (arith, i.1))
alike (r ∷ ports) carried p q c none i j = elim (cases_lt (load_on q carried + 1) (load_on p carried)) [
  | inl l ↦ absurd (far_apart r ports carried p q c none (among (r ∷ ports) p i) (among (r ∷ ports) q j) l)
  | inr l ↦ l
]

pub none : (ports : List ℕ) (carried : List Carried) (m : Move) → CountsOne carried
    → ((p q : ℕ) → Contains ports p → Contains ports q → load_on p carried ≤ load_on q carried + 1) → IsMove ports carried m → ⊥
none ports carried m c near is = grind arith
