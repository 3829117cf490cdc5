-- A run of moves is no longer than there are conversations, where each counts one.
use Rattle.dataplane.proofs.Common.{List, [], ap, arith, cond, eqb, inl, inr, length, refl, slice_set, suc, zero, ℕ, ◌*◌, ◌+◌, ◌-◌, ◌/◌, ◌<◌, ◌∙◌}
use Rattle.dataplane.proofs.Common.{◌∷◌, ◌≡◌, ◌≤◌, cases_lt, eqb_tells, sum_by-cons, sum_by-le-sum_by, sum_by, Carried, Move, IsMove, conversation_at}
use Rattle.dataplane.proofs.Common.{load_on, AllDiffer, CountsOne, IsNew, IsRunOfMoves, moved}
use Rattle.std.proofs.Math.Nat.{mul-div-le, lt-div-mul-add}
use Rattle.dataplane.proofs.Sums.{IsAmong, among, two_differ, same_sum}
use Rattle.dataplane.proofs.Loads.{Shift, shift_of, hits, misses}
use Rattle.dataplane.proofs.Extremes.{one_at, contained}

at_least : (f : ℕ → ℕ) (m : ℕ) (ports : List ℕ) → ((p : ℕ) → IsAmong p ports → m ≤ f p) → m * length ports ≤ sum_by f ports
at_least f m [] h = omega arith
at_least f m (p ∷ ports) h = let rest : m * length ports ≤ sum_by f ports = at_least f m ports (λ q b. h q (inr b)) in
    let one : m ≤ f p = h p (inl refl) in
    rw (sum_by-cons f p ports) (omega (arith, rest, one))

at_most : (f : ℕ → ℕ) (m : ℕ) (ports : List ℕ) → ((p : ℕ) → IsAmong p ports → f p ≤ m) → sum_by f ports ≤ m * length ports
at_most f m [] h = omega arith
at_most f m (p ∷ ports) h = let rest : sum_by f ports ≤ m * length ports = at_most f m ports (λ q b. h q (inr b)) in
    let one : f p ≤ m = h p (inl refl) in
    rw (sum_by-cons f p ports) (omega (arith, rest, one))

falls_short : (f : ℕ → ℕ) (m b : ℕ) (ports : List ℕ) → ((p : ℕ) → IsAmong p ports → f p ≤ m) → IsAmong b ports → f b < m → sum_by f ports < m * length ports
falls_short f m b [] h i l = absurd i
falls_short f m b (p ∷ ports) h i l = let one : f p ≤ m = h p (inl refl) in
    elim i [
      | inl e ↦ let rest : sum_by f ports ≤ m * length ports = at_most f m ports (λ q c. h q (inr c)) in
          let s : f b ≡ f p = ap f e in
          rw (sum_by-cons f p ports) (omega (arith, rest, s, l))
      | inr c ↦ let rest : sum_by f ports < m * length ports = falls_short f m b ports (λ q d. h q (inr d)) c l in
          rw (sum_by-cons f p ports) (omega (arith, rest, one))
    ]

term_within : (f : ℕ → ℕ) (a : ℕ) (ports : List ℕ) → IsAmong a ports → f a ≤ sum_by f ports
term_within f a [] i = absurd i
term_within f a (p ∷ ports) i = elim i [
  | inl e ↦ let s : f a ≡ f p = ap f e in rw (sum_by-cons f p ports) (omega (arith, s))
  | inr c ↦ let rest : f a ≤ sum_by f ports = term_within f a ports c in rw (sum_by-cons f p ports) (omega (arith, rest))
]

no_sum : (f : ℕ → ℕ) (ports : List ℕ) → ((p : ℕ) → IsAmong p ports → f p ≡ 0) → sum_by f ports ≡ 0
no_sum f ports h = let m : sum_by f ports ≤ 0 * length ports = at_most f 0 ports (λ p i. let z : f p ≡ 0 = h p i in omega (arith, z)) in omega (arith, m)

-- by how much the ports are above q + 1, and below q
above : ℕ → (ℕ → ℕ) → List ℕ → ℕ
above q f ports = sum_by (λ p. f p - suc q) ports

below : ℕ → (ℕ → ℕ) → List ℕ → ℕ
below q f ports = sum_by (λ p. q - f p) ports

-- what each move of one from the most to the least finds
record Unequal (f g : ℕ → ℕ) (a b q : ℕ) (ports : List ℕ) : Type 0 where
  differ : AllDiffer ports
  from : IsAmong a ports
  to : IsAmong b ports
  shift : Shift f g a b 1
  gains : f b + 1 < f a
  most : (p : ℕ) → IsAmong p ports → f p ≤ f a
  least : (p : ℕ) → IsAmong p ports → f b ≤ f p
  enough : q * length ports ≤ sum_by f ports
  few : sum_by f ports < suc q * length ports

least_is_low : (f g : ℕ → ℕ) (a b q : ℕ) (ports : List ℕ) → Unequal f g a b q ports → f b ≤ q
least_is_low f g a b q ports u = grind (arith, cases_lt, sum_by, at_least)

most_is_high : (f g : ℕ → ℕ) (a b q : ℕ) (ports : List ℕ) → Unequal f g a b q ports → q < f a
most_is_high f g a b q ports u = grind (arith, cases_lt, sum_by, falls_short)

same_number : (f g : ℕ → ℕ) (a b q : ℕ) (ports : List ℕ) → Unequal f g a b q ports → sum_by g ports ≡ sum_by f ports
same_number f g a b q ports u = grind (arith, sum_by, two_differ)

above_falls : (f g : ℕ → ℕ) (a b q n : ℕ) (ports : List ℕ) → Unequal f g a b q ports → above q f ports ≤ n → below q f ports ≤ n → above q g ports + 1 ≤ n
unfolding above below
above_falls f g a b q n ports u hi lo = let low : f b ≤ q = least_is_low f g a b q ports u in
    let high : q < f a = most_is_high f g a b q ports u in
    let s : sum_by (λ p. g p - suc q) ports + (f a - suc q) + (f b - suc q) ≡ sum_by (λ p. f p - suc q) ports + (g a - suc q) + (g b - suc q) =
    two_differ (λ p. f p - suc q) (λ p. g p - suc q) a b ports u.differ u.from u.to u.shift.apart (λ p na nb. ap (λ n. n - suc q) (u.shift.other p na nb)) in
    elim (cases_lt (suc q) (f a)) [
      | inl l ↦ omega (arith, s, low, l, u.shift.from, u.shift.to, hi)
      | inr l ↦ let none : sum_by (λ p. f p - suc q) ports ≡ 0 = no_sum (λ p. f p - suc q) ports (λ p i. let h : f p ≤ f a = u.most p i in omega (arith, h, l)) in
          let some : q - f b ≤ sum_by (λ p. q - f p) ports = term_within (λ p. q - f p) b ports u.to in
          omega (arith, s, none, some, low, high, l, u.shift.from, u.shift.to, u.gains, lo)
    ]

below_falls : (f g : ℕ → ℕ) (a b q n : ℕ) (ports : List ℕ) → Unequal f g a b q ports → above q f ports ≤ n → below q f ports ≤ n → below q g ports + 1 ≤ n
unfolding above below
below_falls f g a b q n ports u hi lo = let low : f b ≤ q = least_is_low f g a b q ports u in
    let high : q < f a = most_is_high f g a b q ports u in
    let s : sum_by (λ p. q - g p) ports + (q - f a) + (q - f b) ≡ sum_by (λ p. q - f p) ports + (q - g a) + (q - g b) =
    two_differ (λ p. q - f p) (λ p. q - g p) a b ports u.differ u.from u.to u.shift.apart (λ p na nb. ap (λ n. q - n) (u.shift.other p na nb)) in
    elim (cases_lt (f b) q) [
      | inl l ↦ omega (arith, s, high, l, u.shift.from, u.shift.to, lo)
      | inr l ↦ let none : sum_by (λ p. q - f p) ports ≡ 0 = no_sum (λ p. q - f p) ports (λ p i. let h : f b ≤ f p = u.least p i in omega (arith, h, l)) in
          let some : f a - suc q ≤ sum_by (λ p. f p - suc q) ports = term_within (λ p. f p - suc q) a ports u.from in
          omega (arith, s, none, some, low, high, l, u.shift.from, u.shift.to, u.gains, hi)
    ]

one_moved : (carried : List Carried) (k b : ℕ) → CountsOne carried → CountsOne (slice_set carried k (record { port = b; load = (conversation_at carried k).load }))
one_moved [] k b c = tt
one_moved (one ∷ carried) zero b c = (c.0, c.1)
one_moved (one ∷ carried) (suc k) b c = (c.0, one_moved carried k b c.1)

run : (ports : List ℕ) (carried : List Carried) (ms : List Move) (q n : ℕ) → AllDiffer ports → CountsOne carried → IsRunOfMoves ports carried ms
    → q * length ports ≤ sum_by (λ p. load_on p carried) ports → sum_by (λ p. load_on p carried) ports < suc q * length ports
    → above q (λ p. load_on p carried) ports ≤ n → below q (λ p. load_on p carried) ports ≤ n → length ms ≤ n
run ports carried [] q n d c r enough few hi lo = omega arith
run ports carried (m ∷ ms) q n d c r enough few hi lo = let is : IsMove ports carried m = r.0 in
    let one : (conversation_at carried m.conversation).load ≡ 1 = one_at carried m.conversation c is.there in
    let f : ℕ → ℕ = λ p. load_on p carried in
    let g : ℕ → ℕ = λ p. load_on p (moved carried m) in
    let s : Shift f g (conversation_at carried m.conversation).port m.port (conversation_at carried m.conversation).load = shift_of ports carried m is in
    let u : Unequal f g (conversation_at carried m.conversation).port m.port q ports =
    record {
      differ = d;
      from = among ports (conversation_at carried m.conversation).port is.from;
      to = among ports m.port is.to;
      shift = record { apart = s.apart; from = omega (arith, s.from, one); to = omega (arith, s.to, one); other = s.other };
      gains = omega (arith, is.gains, one);
      most = λ p i. is.most p (contained ports p i);
      least = λ p i. is.least p (contained ports p i);
      enough = enough;
      few = few;
    } in
    let total : sum_by g ports ≡ sum_by f ports = same_number f g (conversation_at carried m.conversation).port m.port q ports u in
    let ha : above q g ports + 1 ≤ n = above_falls f g (conversation_at carried m.conversation).port m.port q n ports u hi lo in
    let hb : below q g ports + 1 ≤ n = below_falls f g (conversation_at carried m.conversation).port m.port q n ports u hi lo in
    let rest : length ms ≤ n - 1 =
    run ports (moved carried m) ms q (n - 1) d (one_moved carried m.conversation m.port c) r.1 (omega (arith, total, enough)) (omega (arith, total, few))
    (omega (arith, ha)) (omega (arith, hb)) in
    omega (arith, rest, ha)

plus : (f g : ℕ → ℕ) (ports : List ℕ) → sum_by (λ p. f p + g p) ports ≡ sum_by f ports + sum_by g ports
plus f g [] = refl
plus f g (p ∷ ports) = let rest : sum_by (λ p. f p + g p) ports ≡ sum_by f ports + sum_by g ports = plus f g ports in
    rw (sum_by-cons (λ p. f p + g p) p ports, sum_by-cons f p ports, sum_by-cons g p ports) (omega (arith, rest))

not_new : (port : ℕ) (ports : List ℕ) → IsNew port ports → sum_by (λ p. cond (eqb port p) 1 0) ports ≡ 0
not_new port [] n = refl
not_new port (p ∷ ports) n = let rest : sum_by (λ p. cond (eqb port p) 1 0) ports ≡ 0 = not_new port ports n.1 in
    elim (eqb_tells port p) [
      | inl s ↦ absurd (n.0 s.1)
      | inr s ↦ let z = misses port p 1 s.1 in rw (sum_by-cons (λ p. cond (eqb port p) 1 0) p ports) (omega (arith, rest, z))
    ]

on_one_port : (port : ℕ) (ports : List ℕ) → AllDiffer ports → sum_by (λ p. cond (eqb port p) 1 0) ports ≤ 1
on_one_port port [] d = omega arith
on_one_port port (p ∷ ports) d = elim (eqb_tells port p) [
  | inl s ↦ let z = hits port p 1 s.1 in
      let rest : sum_by (λ p. cond (eqb port p) 1 0) ports ≡ 0 = rw s.1 (not_new p ports d.0) in
      rw (sum_by-cons (λ p. cond (eqb port p) 1 0) p ports) (omega (arith, rest, z))
  | inr s ↦ let z = misses port p 1 s.1 in
      let rest : sum_by (λ p. cond (eqb port p) 1 0) ports ≤ 1 = on_one_port port ports d.1 in
      rw (sum_by-cons (λ p. cond (eqb port p) 1 0) p ports) (omega (arith, rest, z))
]

-- each conversation is on one of the ports or on none
all_loads : (ports : List ℕ) (carried : List Carried) → AllDiffer ports → CountsOne carried → sum_by (λ p. load_on p carried) ports ≤ length carried
all_loads ports [] d c = let z : sum_by (λ p. load_on p []) ports ≡ 0 = no_sum (λ p. load_on p []) ports (λ p i. refl) in omega (arith, z)
all_loads ports (one ∷ carried) d c =
    let rest : sum_by (λ p. load_on p carried) ports ≤ length carried = all_loads ports carried d c.1 in
    let first : sum_by (λ p. cond (eqb one.port p) 1 0) ports ≤ 1 = on_one_port one.port ports d in
    let split : sum_by (λ p. cond (eqb one.port p) 1 0 + load_on p carried) ports
    ≡ sum_by (λ p. cond (eqb one.port p) 1 0) ports + sum_by (λ p. load_on p carried) ports =
    plus (λ p. cond (eqb one.port p) 1 0) (λ p. load_on p carried) ports in
    let same : sum_by (λ p. load_on p (one ∷ carried)) ports ≡ sum_by (λ p. cond (eqb one.port p) 1 0 + load_on p carried) ports =
    same_sum (λ p. load_on p (one ∷ carried)) (λ p. cond (eqb one.port p) 1 0 + load_on p carried) ports
    (λ p i. sum_by-cons (λ x. cond (eqb x.port p) x.load 0) one carried ∙ ap (λ w. cond (eqb one.port p) w 0 + load_on p carried) c.0) in
    omega (arith, rest, first, split, same)

pub ends : (ports : List ℕ) (carried : List Carried) (ms : List Move) → AllDiffer ports → CountsOne carried → IsRunOfMoves ports carried ms
    → length ms ≤ length carried
unfolding above below
ends ports carried [] d c r = omega arith
ends [] carried (m ∷ ms) d c r = absurd (omega (arith, r.0.from.1))
ends (port ∷ others) carried (m ∷ ms) d c r = let total : ℕ = sum_by (λ p. load_on p carried) (port ∷ others) in
    let q : ℕ = total / suc (length others) in
    let some : zero < suc (length others) = omega arith in
    let enough : suc (length others) * (total / suc (length others)) ≤ total = mul-div-le total (suc (length others)) in
    let few : total < total / suc (length others) * suc (length others) + suc (length others) = lt-div-mul-add some in
    let within : total ≤ length carried = all_loads (port ∷ others) carried d c in
    let hi : sum_by (λ p. load_on p carried - suc q) (port ∷ others) ≤ total =
    sum_by-le-sum_by (λ p. load_on p carried - suc q) (λ p. load_on p carried) (port ∷ others) (λ p. omega arith) in
    let lo : sum_by (λ p. q - load_on p carried) (port ∷ others) ≤ q * length (port ∷ others) =
    at_most (λ p. q - load_on p carried) q (port ∷ others) (λ p i. omega arith) in
    run (port ∷ others) carried (m ∷ ms) q (length carried) d c r (omega (arith, enough)) (omega (arith, few)) (omega (arith, hi, within)) (omega (arith, lo, enough, within))
