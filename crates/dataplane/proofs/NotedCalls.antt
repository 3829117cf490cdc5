-- Calls and their replies, one after another.
use native.Mathlib.Omega.{arith}
use Rattle.dataplane.proofs.Common.{List, [], map, refl, ◌∷◌, ◌≡◌, ◌⊎◌, Reply, SystemPort, call_of, notes_after_all}
use Rattle.lagsystem.specs.declared.drive.Call.{Call}
use Rattle.dataplane.specs.declared.answering.marker_note.MarkerNote.{MarkerNote}

no_reply : (calls : List Call) (ports : List SystemPort) (notes : List MarkerNote) → notes_after_all (map call_of calls) [] ports notes ≡ notes
no_reply [] ports notes = refl
no_reply (call ∷ calls) ports notes = refl

-- once the calls or the replies are through, the notes stay
pub no_more : (calls : List Call) (replies : List Reply) (ports : List SystemPort) (notes : List MarkerNote)
    → (calls ≡ []) ⊎ (replies ≡ []) → notes_after_all (map call_of calls) replies ports notes ≡ notes
no_more calls replies ports notes h = grind (arith, no_reply)
