-- Parts and a handle that holds them own what a box at the same types owns.
use Rattle.lagffi.proofs.Common.{[], Bx}
use mir.Syntax.{impl, tnil, dnil}
use denote.Signature.{Slot, plain}
use Rattle.std_heap.specs.contracts.Global as Heap
use Rattle.std_heap.specs.contracts.GlobalAllocator.TheImpl.{ghosts, dict}
use Rattle.std_heap.proofs.Global.TheLaws as heap
use Rattle.lagffi.specs.contracts.stored.Stored as Stored
use Rattle.lagffi.proofs.stored.Stored.TheLaws as kept
use Rattle.boxparts.specs.contracts.parts.Parts as Parts
use Rattle.lagffi.specs.contracts.handle.held.Held as Held

abbrev pub E : Bx
E = record {
  row = Stored.the_row;
  laws = kept.the_row_laws;
  al = record { row = Heap.the_row; laws = heap.the_row_laws; g = ghosts; d = dict; drops = impl [] tnil dnil };
}

abbrev pub FromParts : Slot 0
FromParts = plain (λ _. Parts.the_row Stored.the_row Heap.the_row ghosts)

abbrev pub FromHeld : Slot 0
FromHeld = plain (λ _. Held.the_row)
