-- A frame that ends before the fields of a marker.
use Rattle.dataplane.proofs.Common.{Bool, List, ap, arith, false, length, true, ℕ, ◌<◌, ◌∙◌, ◌≡◌, common_steps, length-drop, length-take, nat_le}
use Rattle.dataplane.proofs.Common.{is_to_marker, requester}
use Rattle.std.proofs.lemmas.Slice.Eq.{bytes_eq-Decides}
use Rattle.std.specs.Prelude.{drop}

not_true : (b : Bool) → (b ≡ true → ⊥) → false ≡ b
not_true b n = grind arith

-- it has too few octets to be a response to a marker
pub too_short : (marker frame : List ℕ) → length marker ≡ 12 → length frame < 30 → nat_le 30 (length frame) ≡ is_to_marker marker frame
too_short marker frame m f = let low : nat_le 30 (length frame) ≡ false = grind (arith, common_steps) in
    low ∙ not_true (is_to_marker marker frame)
    (λ e. let same : length (requester frame) ≡ length marker = ap length ((bytes_eq-Decides (requester frame) marker).0 e) in
    omega (arith, same, m, length-take 12 (drop 18 frame), length-drop 18 frame))
