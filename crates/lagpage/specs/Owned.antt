-- What a handle owns: the block of what it keeps, or nothing.
use Rattle.std.specs.Prelude.{Option, None, Some}
use base.Fml.{Fml, ftrue}
use base.Stored.{Coded}
use denote.RawPtr.{Ptr}
use Rattle.std.specs.Box.Ownership.{box_owns}
use Rattle.std.specs.Coded.{coded_option}
use Rattle.std.specs.Global.{Global}
use Rattle.std_heap.specs.contracts.GlobalAllocator.TheImpl.{ghosts}
use Rattle.lagpage.specs.contracts.pieces.Pieces.{the_row}

-- the memory that the handle owns: its block, if it holds one
abbrev pub held_owns : Global → Ptr → Option the_row.Denot → Fml
held_owns alloc ptr None = ftrue
held_owns alloc ptr (Some kept) = box_owns (ghosts.dealloc_token alloc) the_row ptr kept

-- what is kept as the ghost field of a handle records it
abbrev pub kept_coded : Coded (Option the_row.Denot)
kept_coded = coded_option the_row.coded
