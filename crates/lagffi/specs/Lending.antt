-- What a block becomes when what was borrowed of it was changed.
use Rattle.std.specs.Borrow.{Fml, Lends, MutBor, RattleType}
use Rattle.lagffi.specs.contracts.handle.held.block.Block.{the_row as block_row}
use Rattle.lagffi.specs.declared.handle.held.block.Block.{Block}

-- the block that keeps this in the place of what it keeps
abbrev pub with_kept : {T : Type 0} → T → Block T → Block T
with_kept x b = record { stored = record { ptr = b.stored.ptr; alloc = b.stored.alloc; value = x } }

module _ (T : RattleType) where
  -- once the borrow ends, the block keeps what was left
  abbrev pub LendsKept : MutBor (Block T.Denot) → MutBor T.Denot → Fml
  LendsKept b r = Lends (block_row T) T b r (λ x. with_kept x b.now)
