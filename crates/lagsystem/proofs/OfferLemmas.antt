-- Frames that are offered.
use Rattle.lagsystem.proofs.Common.{Bool, Bor, List, arith, eqb, eqb-true, false, inl, inr, length, refl, subst, sym, true, ℕ, ◌%◌, ◌-◌, ◌<◌, ◌||◌}
use Rattle.lagsystem.proofs.Common.{◌∙◌, ◌≡◌, ◌≤◌, and_from, and_left, and_right, cases_Bool, le-leb, lt-leb, nat_tests, bit_and, AggId}
use Rattle.lagsystem.proofs.Common.{IsFrameOfKind, IsSlowProtocolsFrame, DistFault, is_conversation_count, SystemFault, MayBeOffered, MayBeOfferedTo}
use Rattle.lagsystem.proofs.Common.{RefusedBy, RefusesFrame, RefusesOffer, is_frame_length, SystemState}
use Rattle.lagsystem.specs.Offers.{longest_frame}
use Rattle.std.proofs.lemmas.Nat.{and_mask}
use Rattle.slowpdu.specs.declared.frames.Kind.{Kind}
use Rattle.slowpdu.specs.declared.frames.Kind.TheVariants.{Control, TooShort}

pub is_frame : (octets : List ℕ) → 14 ≤ length octets → length octets ≤ 1518 → is_frame_length octets ≡ true
unfolding longest_frame
is_frame octets low high = and_from _ _ (le-leb 14 (length octets) low) (le-leb (length octets) 1518 high)

pub is_short : (octets : List ℕ) → length octets < 14 → is_frame_length octets ≡ false
unfolding longest_frame
is_short octets short = and_left _ _ (lt-leb 14 (length octets) short)

pub is_long : (octets : List ℕ) → 1518 < length octets → is_frame_length octets ≡ false
unfolding longest_frame
is_long octets long = and_right _ _ (lt-leb (length octets) 1518 long)

pub control_slow : (octets : List ℕ) (kind : Kind) (rest : Bor (List ℕ)) → kind ≡ Control rest → IsFrameOfKind octets kind → IsSlowProtocolsFrame octets
control_slow octets kind rest e h = (subst (IsFrameOfKind octets) e h).1

pub too_short : (octets : List ℕ) (kind : Kind) → kind ≡ TooShort → 14 ≤ length octets → IsFrameOfKind octets kind → ⊥
too_short octets kind e low h = let short : length octets < 14 = subst (IsFrameOfKind octets) e h in omega (arith, short)

-- the low bits of a number, as many as the conversations have
pub low_bits : (n x : ℕ) → is_conversation_count n ≡ true → bit_and x (n - 1) ≡ x % n
low_bits n x h = elim (cases_Bool (eqb n 1)) [
  | inl one ↦ subst (λ m. bit_and x (m - 1) ≡ x % m) (sym (eqb-true n 1 one)) (and_mask x 0)
  | inr more ↦ few_or_many (sym (or_second (eqb n 1) (eqb n 256 || eqb n 4096) more) ∙ h)
]
  where
    or_second : (a b : Bool) → a ≡ false → (a || b) ≡ b
    or_second a b e = subst (λ c. (c || b) ≡ b) (sym e) refl

    few_or_many : (eqb n 256 || eqb n 4096) ≡ true → bit_and x (n - 1) ≡ x % n
    few_or_many k = elim (cases_Bool (eqb n 256)) [
      | inl few ↦ subst (λ m. bit_and x (m - 1) ≡ x % m) (sym (eqb-true n 256 few)) (and_mask x 8)
      | inr other ↦ subst (λ m. bit_and x (m - 1) ≡ x % m) (sym (eqb-true n 4096 (sym (or_second (eqb n 256) (eqb n 4096) other) ∙ k))) (and_mask x 12)
    ]

-- a frame that may be offered is not refused, and an offer of it only by the distributor

pub not_both : (octets : List ℕ) (fault : SystemFault) → MayBeOffered octets → RefusesFrame octets fault → ⊥
not_both octets fault may h = grind (arith, nat_tests)

pub refused_by : (gives : ℕ → ℕ → ℕ → Type 0) (s : SystemState) (agg : AggId) (octets : List ℕ) (fault : SystemFault)
    → MayBeOfferedTo s agg octets → RefusesOffer gives s agg octets fault → (cause : DistFault) × RefusedBy gives s agg octets cause
refused_by gives s agg octets fault may h = grind (arith, nat_tests)
