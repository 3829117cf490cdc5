-- A state octet and its eight bits determine each other; each of the 256 cases is computed.
use Rattle.std.proofs.Common.{◌≡◌, ◌<◌, ℕ, zero, suc, Bool, true, false, ◌&&◌, refl, ap, ◌∙◌, arith, nat_eq, eqb-true, ◌==◌, if◌then◌else◌}
use Rattle.std.proofs.lemmas.Bool.{and_parts}
use Rattle.std.specs.Int.RustNames.{bit_or}
use Rattle.lagtypes.specs.declared.state.State.{State}
use Rattle.lagtypes.specs.declared.state.StateBits.{StateBits}
use Rattle.lagtypes.specs.States.{bits_of, state_from_bits}

-- a test that both values pass
abbrev both : (Bool → Bool) → Bool
both p = p true && p false

one_of : (p : Bool → Bool) (b : Bool) → both p ≡ true → p b ≡ true
one_of p b e = grind arith

-- a test that all states pass
abbrev all_states : (StateBits → Bool) → Bool
all_states p = both (λ a. both (λ t. both (λ g. both (λ s. both (λ c. both (λ d. both (λ f. both (λ e. p (record {
  activity = a;
  timeout = t;
  aggregation = g;
  synchronization = s;
  collecting = c;
  distributing = d;
  defaulted = f;
  expired = e;
})))))))))

one_state : (p : StateBits → Bool) (b : StateBits) → all_states p ≡ true → p b ≡ true
one_state p b h =
    let p1 : Bool → Bool = λ a. both (λ t. both (λ g. both (λ s. both (λ c. both (λ d. both (λ f. both (λ e. p (record {
      activity = a;
      timeout = t;
      aggregation = g;
      synchronization = s;
      collecting = c;
      distributing = d;
      defaulted = f;
      expired = e;
    })))))))) in
    let p2 : Bool → Bool = λ t. both (λ g. both (λ s. both (λ c. both (λ d. both (λ f. both (λ e. p (record {
      activity = b.activity;
      timeout = t;
      aggregation = g;
      synchronization = s;
      collecting = c;
      distributing = d;
      defaulted = f;
      expired = e;
    }))))))) in
    let p3 : Bool → Bool = λ g. both (λ s. both (λ c. both (λ d. both (λ f. both (λ e. p (record {
      activity = b.activity;
      timeout = b.timeout;
      aggregation = g;
      synchronization = s;
      collecting = c;
      distributing = d;
      defaulted = f;
      expired = e;
    })))))) in
    let p4 : Bool → Bool = λ s. both (λ c. both (λ d. both (λ f. both (λ e. p (record {
      activity = b.activity;
      timeout = b.timeout;
      aggregation = b.aggregation;
      synchronization = s;
      collecting = c;
      distributing = d;
      defaulted = f;
      expired = e;
    }))))) in
    let p5 : Bool → Bool = λ c. both (λ d. both (λ f. both (λ e. p (record {
      activity = b.activity;
      timeout = b.timeout;
      aggregation = b.aggregation;
      synchronization = b.synchronization;
      collecting = c;
      distributing = d;
      defaulted = f;
      expired = e;
    })))) in
    let p6 : Bool → Bool = λ d. both (λ f. both (λ e. p (record {
      activity = b.activity;
      timeout = b.timeout;
      aggregation = b.aggregation;
      synchronization = b.synchronization;
      collecting = b.collecting;
      distributing = d;
      defaulted = f;
      expired = e;
    }))) in
    let p7 : Bool → Bool = λ f. both (λ e. p (record {
      activity = b.activity;
      timeout = b.timeout;
      aggregation = b.aggregation;
      synchronization = b.synchronization;
      collecting = b.collecting;
      distributing = b.distributing;
      defaulted = f;
      expired = e;
    })) in
    let p8 : Bool → Bool = λ e. p (record {
      activity = b.activity;
      timeout = b.timeout;
      aggregation = b.aggregation;
      synchronization = b.synchronization;
      collecting = b.collecting;
      distributing = b.distributing;
      defaulted = b.defaulted;
      expired = e;
    }) in
    one_of p8 b.expired (one_of p7 b.defaulted (one_of p6 b.distributing
    (one_of p5 b.collecting (one_of p4 b.synchronization (one_of p3 b.aggregation (one_of p2 b.timeout (one_of p1 b.activity h)))))))

-- what the bits add up to, one by one
abbrev pub insert_if : Bool → ℕ → ℕ → ℕ
insert_if on bit n = if on then bit_or n bit else n

abbrev pub added : StateBits → ℕ
added b = insert_if b.expired 128 (insert_if b.defaulted 64 (insert_if b.distributing 32
    (insert_if b.collecting 16 (insert_if b.synchronization 8 (insert_if b.aggregation 4 (insert_if b.timeout 2 (insert_if b.activity 1 0)))))))

pub added_state : (b : StateBits) → added b ≡ (state_from_bits b).0
added_state b = eqb-true (added b) (state_from_bits b).0 (one_state (λ b. added b == (state_from_bits b).0) b refl)

abbrev alike : Bool → Bool → Bool
alike true true = true
alike true false = false
alike false true = false
alike false false = true

alike_same : (a b : Bool) → alike a b ≡ true → a ≡ b
alike_same a b e = grind arith

abbrev all_alike : StateBits → StateBits → Bool
all_alike a b =
    alike a.activity b.activity && (alike a.timeout b.timeout && (alike a.aggregation b.aggregation && (alike a.synchronization b.synchronization
    && (alike a.collecting b.collecting && (alike a.distributing b.distributing && (alike a.defaulted b.defaulted && alike a.expired b.expired))))))

all_alike_same : (a b : StateBits) → all_alike a b ≡ true → a ≡ b
all_alike_same a b e = let e2 = (and_parts (alike a.activity b.activity) _ e).1 in
    let e3 = (and_parts (alike a.timeout b.timeout) _ e2).1 in
    let e4 = (and_parts (alike a.aggregation b.aggregation) _ e3).1 in
    let e5 = (and_parts (alike a.synchronization b.synchronization) _ e4).1 in
    let e6 = (and_parts (alike a.collecting b.collecting) _ e5).1 in
    let e7 = (and_parts (alike a.distributing b.distributing) _ e6).1 in
    λ i. record {
      activity = alike_same a.activity b.activity (and_parts (alike a.activity b.activity) _ e).0 i;
      timeout = alike_same a.timeout b.timeout (and_parts (alike a.timeout b.timeout) _ e2).0 i;
      aggregation = alike_same a.aggregation b.aggregation (and_parts (alike a.aggregation b.aggregation) _ e3).0 i;
      synchronization = alike_same a.synchronization b.synchronization (and_parts (alike a.synchronization b.synchronization) _ e4).0 i;
      collecting = alike_same a.collecting b.collecting (and_parts (alike a.collecting b.collecting) _ e5).0 i;
      distributing = alike_same a.distributing b.distributing (and_parts (alike a.distributing b.distributing) _ e6).0 i;
      defaulted = alike_same a.defaulted b.defaulted (and_parts (alike a.defaulted b.defaulted) _ e7).0 i;
      expired = alike_same a.expired b.expired (and_parts (alike a.defaulted b.defaulted) _ e7).1 i;
    }

-- the bits of a state that is made of bits are these
pub encode_then_decode : (b : StateBits) → bits_of (state_from_bits b) ≡ b
encode_then_decode b = all_alike_same (bits_of (state_from_bits b)) b (one_state (λ b. all_alike (bits_of (state_from_bits b)) b) b refl)

-- a test that all numbers below this one pass
abbrev below : ℕ → (ℕ → Bool) → Bool
below zero p = true
below (suc n) p = p n && below n p

below_is : (k : ℕ) (p : ℕ → Bool) (n : ℕ) → below k p ≡ true → n < k → p n ≡ true
below_is zero p n e h = absurd (omega (arith, h))
below_is (suc k) p n e h = elim (nat_eq n k) as (λ b. nat_eq n k ≡ b → p n ≡ true) [
  | true ↦ λ t. ap p (eqb-true n k t) ∙ (and_parts (p k) (below k p) e).0
  | false ↦ λ f. below_is k p n (and_parts (p k) (below k p) e).1 (grind (arith, h, f))
] refl

-- the state that is made of the bits of a state octet is that octet
pub write_back : (s : State) → s.0 < 256 → state_from_bits (bits_of s) ≡ s
write_back s h = λ i. record {
  0 = eqb-true (state_from_bits (bits_of s)).0 s.0 (below_is 256 (λ n. (state_from_bits (bits_of (record { 0 = n }))).0 == n) s.0 refl h) i;
}
