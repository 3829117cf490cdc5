-- The loads of ports, where conversations move.
use Rattle.dataplane.proofs.Common.{List, ap, arith, cond, eq-eqb, eqb, inl, inr, length, refl, slice_set, suc, zero, ℕ, ◌*◌, ◌+◌, ◌-◌, ◌<◌, ◌∙◌, ◌≡◌}
use Rattle.dataplane.proofs.Common.{◌≢◌, eqb_tells, sum_by-set, sum_by, Carried, Move, IsMove, conversation_at, load_on, AllDiffer, moved, squares}
use Rattle.dataplane.proofs.Sums.{among, two_differ}

pub hits : (a p w : ℕ) → a ≡ p → cond (eqb a p) w 0 ≡ w
hits a p w e = ap (λ t. cond t w 0) (eq-eqb a p e)

pub misses : (a p w : ℕ) → a ≢ p → cond (eqb a p) w 0 ≡ 0
misses a p w n = elim (eqb_tells a p) [ inl s ↦ absurd (n s.1) | inr s ↦ ap (λ t. cond t w 0) s.0 ]

-- the load of each port once a conversation has moved
after_move : (carried : List Carried) (m : Move) (p : ℕ) → m.conversation < length carried
    → load_on p (moved carried m) + cond (eqb (conversation_at carried m.conversation).port p) (conversation_at carried m.conversation).load 0
    ≡ load_on p carried + cond (eqb m.port p) (conversation_at carried m.conversation).load 0
after_move carried m p l = grind (arith, sum_by-set, eqb, conversation_at)

pub record Shift (f g : ℕ → ℕ) (a b w : ℕ) : Type 0 where
  pub apart : a ≢ b
  pub from : g a + w ≡ f a
  pub to : g b ≡ f b + w
  pub other : (p : ℕ) → p ≢ a → p ≢ b → f p ≡ g p

shift : (carried : List Carried) (k a b w : ℕ) → k < length carried → (conversation_at carried k).port ≡ a → (conversation_at carried k).load ≡ w → a ≢ b
    → Shift (λ p. load_on p carried) (λ p. load_on p (slice_set carried k (record { port = b; load = (conversation_at carried k).load }))) a b w
shift carried k a b w l ea ew apart =
    let at : (p : ℕ) → load_on p (slice_set carried k (record { port = b; load = (conversation_at carried k).load })) + cond (eqb (conversation_at carried k).port p) (conversation_at carried k).load 0
    ≡ load_on p carried + cond (eqb b p) (conversation_at carried k).load 0 = λ p. after_move carried (record { conversation = k; port = b }) p l in
    grind (arith, hits, conversation_at, misses)

-- what a move does to the loads
pub shift_of : (ports : List ℕ) (carried : List Carried) (m : Move) → IsMove ports carried m
    → Shift (λ p. load_on p carried) (λ p. load_on p (moved carried m)) (conversation_at carried m.conversation).port m.port (conversation_at carried m.conversation).load
shift_of ports carried m is =
    let gains : load_on m.port carried + (conversation_at carried m.conversation).load < load_on (conversation_at carried m.conversation).port carried = is.gains in
    let apart : (conversation_at carried m.conversation).port ≢ m.port = λ e.
    let s : load_on (conversation_at carried m.conversation).port carried ≡ load_on m.port carried = ap (λ p. load_on p carried) e in omega (arith, s, gains) in
    shift carried m.conversation (conversation_at carried m.conversation).port m.port (conversation_at carried m.conversation).load is.there refl refl apart

squares_fall : (x v d : ℕ) → (x + suc d) * (x + suc d) + (x + suc v) * (x + suc v) < (x + suc v + suc d) * (x + suc v + suc d) + x * x
squares_fall x v d = omega arith

-- the load w of one of two ports goes to the other
squares_less : (fa fb ga gb w d : ℕ) → 0 < w → fb + w + suc d ≡ fa → ga + w ≡ fa → gb ≡ fb + w → ga * ga + gb * gb < fa * fa + fb * fb
squares_less fa fb ga gb zero d l e g h = absurd (omega (arith, l))
squares_less fa fb ga gb (suc v) d l e g h = grind (arith, squares_fall)

less_by : (x y : ℕ) → x < y → (d : ℕ) × (x + suc d ≡ y)
less_by x y l = (y - suc x, omega (arith, l))

pub lowers : (ports : List ℕ) (carried : List Carried) (m : Move) → AllDiffer ports → IsMove ports carried m
    → squares ports (moved carried m) < squares ports carried
lowers ports carried m d is = let a : ℕ = (conversation_at carried m.conversation).port in
    let w : ℕ = (conversation_at carried m.conversation).load in
    let f : ℕ → ℕ = λ p. load_on p carried in
    let g : ℕ → ℕ = λ p. load_on p (moved carried m) in
    let s : Shift f g a m.port w = shift_of ports carried m is in
    let sums : sum_by (λ p. g p * g p) ports + f a * f a + f m.port * f m.port ≡ sum_by (λ p. f p * f p) ports + g a * g a + g m.port * g m.port =
    two_differ (λ p. f p * f p) (λ p. g p * g p) a m.port ports d (among ports a is.from) (among ports m.port is.to) s.apart (λ p na nb. ap (λ n. n * n) (s.other p na nb)) in
    let more : (d : ℕ) × (f m.port + w + suc d ≡ f a) = less_by (f m.port + w) (f a) is.gains in
    let less : g a * g a + g m.port * g m.port < f a * f a + f m.port * f m.port =
    squares_less (f a) (f m.port) (g a) (g m.port) w more.0 is.loaded more.1 s.from s.to in
    omega (arith, sums, less)
