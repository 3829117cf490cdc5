-- The ports that distribute in an aggregator, and the numbers of ports, in ascending order.
use Rattle.lagsystem.proofs.Common.{Bool, IsSomeAnd, List, Option, Some, [], ap, arith, cond, eq-eqb, false, filter, length, nat_le, nat_lt, refl}
use Rattle.lagsystem.proofs.Common.{slice_get, slice_index, subst, suc, sym, true, zero, ℕ, ◌&&◌, ◌<◌, ◌||◌, ◌∙◌, ◌∷◌, ◌≡◌, false≢true, nat_tests}
use Rattle.lagsystem.proofs.Common.{none-some, slice_get_past, OnFalse, IsStrictlyIncreasing, AggId, Key, PortFacts, is_among, SystemPort, key_of}
use Rattle.lagsystem.proofs.Common.{model_view, has_aggregator, distributes_in, distributing, HasPorts, IsSound, SystemState, port_numbers}
use Rattle.lagsystem.proofs.Conversing.{seen_distributing}
use Rattle.lagsystem.proofs.Rising.{Rises, ports_rise}

-- numbers that rise
rises_next : (low : ℕ) (ns : List ℕ) (k : ℕ) → Rises low ns → suc k < length ns → slice_index ns k < slice_index ns (suc k)
rises_next low [] k r l = absurd (omega (arith, l))
rises_next low (n ∷ []) k r l = absurd (omega (arith, l))
rises_next low (n ∷ m ∷ ns) zero r l = r.1.0
rises_next low (n ∷ m ∷ ns) (suc k) r l = rises_next n (m ∷ ns) k r.1 (omega (arith, l))

increasing : (low : ℕ) (ns : List ℕ) → Rises low ns → IsStrictlyIncreasing ns
increasing low ns r k l = grind (arith, nat_tests, rises_next)

lower : (low mid : ℕ) (ns : List ℕ) → low < mid → Rises mid ns → Rises low ns
lower low mid [] l r = tt
lower low mid (n ∷ ns) l r = (omega (arith, l, r.0), r.1)

kept_or_not : (b : Bool) (low : ℕ) (s : SystemPort) (rest : List SystemPort) → low < s.number → Rises s.number (port_numbers rest)
    → Rises low (port_numbers (cond b (s ∷ rest) rest))
kept_or_not b low s rest l r = grind (arith, nat_tests, lower, port_numbers)

filtered : (p : SystemPort → Bool) (low : ℕ) (system_ports : List SystemPort) → Rises low (port_numbers system_ports)
    → Rises low (port_numbers (filter p system_ports))
filtered p low [] r = tt
filtered p low (s ∷ system_ports) r = kept_or_not (p s) low s (filter p system_ports) r.0 (filtered p s.number system_ports r.1)

-- the numbers of the ports
pub numbers_rise : (s : SystemState) → HasPorts s → IsStrictlyIncreasing (port_numbers s.system_ports)
numbers_rise s h = increasing 0 (port_numbers s.system_ports) (ports_rise s h)

pub distributing_rise : (agg : AggId) (s : SystemState) → HasPorts s → IsStrictlyIncreasing (distributing agg s.system_ports)
distributing_rise agg s h = increasing 0 (distributing agg s.system_ports) (filtered (distributes_in agg) 0 s.system_ports (ports_rise s h))

-- an aggregator in which a port distributes is there
first_of : (p : ℕ) (ps : List ℕ) → is_among (p ∷ ps) p ≡ true
first_of p ps = ap (λ b. b || is_among ps p) (eq-eqb p p refl)

there : (o : Option PortFacts) (P : PortFacts → Type 0) → IsSomeAnd o P → (a : PortFacts) × (o ≡ Some a) × P a
there o P h = grind (arith, nat_tests)

within : (keys : List Key) (n : ℕ) (k : Key) (b : Bool) → slice_get keys n ≡ Some k → (nat_lt 0 (suc n) && nat_le (suc n) (length keys)) ≡ b → b ≡ true
within keys n k b e h = grind (arith, nat_tests, none-some, slice_get_past)

has_key : (keys : List Key) (n : ℕ) (k : Key) → key_of keys n ≡ Some k → (nat_lt 0 n && nat_le n (length keys)) ≡ true
has_key keys n k e = grind (arith, nat_tests, none-some, within, nat_lt, nat_le)

none_there : (agg : AggId) (s : SystemState) (ports : List ℕ) → IsSound s → has_aggregator s agg ≡ false → distributing agg s.system_ports ≡ ports → ports ≡ []
none_there agg s [] h unknown e = refl
none_there agg s (p ∷ ports) h unknown e =
    let on : is_among (distributing agg s.system_ports) p ≡ true = subst (λ l. is_among l p ≡ true) (sym e) (first_of p ports) in
    let a = there ((model_view s).port p) _ (seen_distributing agg p 0 s.system_ports (ports_rise s h.ports) h.rested.1 on) in
    absurd (false≢true (sym unknown ∙ has_key s.keys agg.0 a.0.party.key (h.members.key p agg.0 a.0 a.1 a.2.0)))

by_answer : (b : Bool) (P : Type 0) → (b ≡ false → P) → OnFalse b P
by_answer b P f = grind (arith, nat_tests)

-- no port distributes in an aggregator that is not there
pub none_distribute : (agg : AggId) (s : SystemState) → IsSound s → OnFalse (has_aggregator s agg) (distributing agg s.system_ports ≡ [])
none_distribute agg s h = grind (arith, nat_tests, by_answer, none_there)
