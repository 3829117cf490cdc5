-- Masks of at most 64 bits fit.
use Rattle.lagffi.proofs.Common.{Bool, List, arith, drop, false, length, length-drop, suc, true, zero, ℕ, ◌<◌, ◌^◌, ◌≡◌, ◌≤◌, mask}
use Rattle.std.proofs.Common.{[], ◌∷◌}
use mir.Val.{bool_byte}
use Rattle.std.proofs.lemmas.Nat.{pow_pos}

pub mask_below : (bits : List Bool) (k : ℕ) → length bits ≤ k → mask bits < 2 ^ k
mask_below [] k h = pow_pos k
mask_below (b ∷ bits) zero h = absurd (omega (arith, h))
mask_below (true ∷ bits) (suc k) h = let below : mask bits < 2 ^ k = mask_below bits k (omega (arith, h)) in omega (arith, below)
mask_below (false ∷ bits) (suc k) h = let below : mask bits < 2 ^ k = mask_below bits k (omega (arith, h)) in omega (arith, below)

-- what stands before the last of at most 64 bits has room for one more
pub room_for_a_bit : (bits : List Bool) (left : ℕ) → length bits ≤ 64 → 0 < left → mask (drop left bits) < 2 ^ 63
room_for_a_bit bits left few some = mask_below (drop left bits) 63 (rw length-drop (omega (arith, few, some)))

-- a bit as a number
pub bit_at_most : (b : Bool) (n : ℕ) → n ≡ bool_byte b → n ≤ 1
bit_at_most true n e = omega (arith, e)
bit_at_most false n e = omega (arith, e)
