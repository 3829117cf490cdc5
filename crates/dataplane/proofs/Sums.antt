-- Sums over ports that differ.
use Rattle.dataplane.proofs.Common.{List, [], ap, arith, cond, eq-eqb, eqb, get_or, inl, inr, length, refl, suc, sym, zero, ℕ, ◌+◌, ◌<◌, ◌∙◌, ◌∷◌}
use Rattle.dataplane.proofs.Common.{◌≡◌, ◌≢◌, ◌⊎◌, eqb_tells, sum_by-cons, Contains, sum_by, AllDiffer, IsNew}

-- a port is one of these
abbrev pub IsAmong : ℕ → List ℕ → Type 0
IsAmong port [] = ⊥
IsAmong port (other ∷ ports) = (port ≡ other) ⊎ IsAmong port ports

pub among : (ports : List ℕ) (p : ℕ) → Contains ports p → IsAmong p ports
among [] p c = absurd (omega (arith, c.1))
among (q ∷ ports) p c = among_at q ports p c.0 c.1 c.2
  where
    among_at : (q : ℕ) (ports : List ℕ) (p k : ℕ) → k < length (q ∷ ports) → get_or (q ∷ ports) k p ≡ p → IsAmong p (q ∷ ports)
    among_at q ports p zero l e = inl (sym e)
    among_at q [] p (suc k) l e = absurd (omega (arith, l))
    among_at q (r ∷ ports) p (suc k) l e = inr (among_at r ports p k (omega (arith, l)) e)

-- two sums whose terms are equal
pub same_sum : (f g : ℕ → ℕ) (ports : List ℕ) → ((p : ℕ) → IsAmong p ports → f p ≡ g p) → sum_by f ports ≡ sum_by g ports
same_sum f g [] h = refl
same_sum f g (p ∷ ports) h = let rest : sum_by f ports ≡ sum_by g ports = same_sum f g ports (λ q a. h q (inr a)) in
    let one : f p ≡ g p = h p (inl refl) in
    rw (sum_by-cons f p ports, sum_by-cons g p ports) (omega (arith, rest, one))

new_not_among : (p q : ℕ) (ports : List ℕ) → IsNew p ports → IsAmong q ports → q ≢ p
new_not_among p q [] n a = absurd a
new_not_among p q (r ∷ ports) n a = elim a [ inl e ↦ (λ s. n.0 (sym s ∙ e)) | inr b ↦ new_not_among p q ports n.1 b ]

-- two sums whose terms are equal but for one port
pub one_differs : (f g : ℕ → ℕ) (a : ℕ) (ports : List ℕ) → AllDiffer ports → IsAmong a ports → ((p : ℕ) → p ≢ a → f p ≡ g p)
    → sum_by g ports + f a ≡ sum_by f ports + g a
one_differs f g a [] d i h = absurd i
one_differs f g a (p ∷ ports) d i h = elim i [
  | inl e ↦ let rest : sum_by f ports ≡ sum_by g ports = same_sum f g ports (λ q b. h q (λ s. new_not_among p q ports d.0 b (s ∙ e))) in
      let fp : f p ≡ f a = ap f (sym e) in
      let gp : g p ≡ g a = ap g (sym e) in
      rw (sum_by-cons f p ports, sum_by-cons g p ports) (omega (arith, rest, fp, gp))
  | inr b ↦ let rest : sum_by g ports + f a ≡ sum_by f ports + g a = one_differs f g a ports d.1 b h in
      let ne : p ≢ a = λ s. new_not_among p a ports d.0 b (sym s) in
      let one : f p ≡ g p = h p ne in
      rw (sum_by-cons f p ports, sum_by-cons g p ports) (omega (arith, rest, one))
]

-- and but for two
pub two_differ : (f g : ℕ → ℕ) (a b : ℕ) (ports : List ℕ) → AllDiffer ports → IsAmong a ports → IsAmong b ports → a ≢ b
    → ((p : ℕ) → p ≢ a → p ≢ b → f p ≡ g p) → sum_by g ports + f a + f b ≡ sum_by f ports + g a + g b
two_differ f g a b ports d i j ne h = let m : ℕ → ℕ = λ p. cond (eqb p a) (g a) (f p) in
    let ma : m a ≡ g a = ap (λ t. cond t (g a) (f a)) (eq-eqb a a refl) in
    let mb : m b ≡ f b = elim (eqb_tells b a) [ inl s ↦ absurd (ne (sym s.1)) | inr s ↦ ap (λ t. cond t (g a) (f b)) s.0 ] in
    let first : sum_by m ports + f a ≡ sum_by f ports + m a =
    one_differs f m a ports d i (λ p n. elim (eqb_tells p a) [ inl s ↦ absurd (n s.1) | inr s ↦ sym (ap (λ t. cond t (g a) (f p)) s.0) ]) in
    grind (arith, sum_by, one_differs, eqb_tells)
