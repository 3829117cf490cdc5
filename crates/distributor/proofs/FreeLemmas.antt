-- Free states, copied piece by piece.
use Rattle.distributor.proofs.Common.{List, None, arith, length, replicate, take, ℕ, ◌++◌, ◌+◌, ◌∙◌, ◌≡◌, ◌≤◌, length-replicate}
use Rattle.distributor.proofs.Common.{replicate-append-replicate, take-put_mid, Assignment, Free}
use borrow.Rule.Slice.PartMut.{put_mid}

-- free states are copied behind others that are free
pub freed_on : (xs ys : List Assignment) (at piece k : ℕ) → at ≤ length xs → take at xs ≡ replicate at (Free None)
    → ys ≡ replicate piece (Free None) → take (at + piece) (put_mid at k xs ys) ≡ replicate (at + piece) (Free None)
freed_on xs ys at piece k within freed copied = grind (arith, length-replicate, take-put_mid, replicate-append-replicate)
