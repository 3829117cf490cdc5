-- A source as contracts see it, and what is read from one (profile).
use Rattle.std.specs.Prelude.{◌≡◌, ◌<◌, ◌⊎◌, ℕ, ◌+◌, Bool, true, List, [], Option, length}
use Rattle.std.specs.Io.KnownBytes.{Consumes}

-- a reader, whether a call of it failed, and how many octets it may still give
pub record SourceState (R : Type 0) : Type 0 where
  pub reader : R
  pub failed : Bool
  pub left : ℕ

-- the source gave these octets, and did not fail in this
pub record Gives {R : Type 0} (remaining : R → Option (List ℕ)) (old new : SourceState R) (octets : List ℕ) : Type 0 where
  pub read : Consumes (remaining old.reader) (remaining new.reader) octets
  pub failed : new.failed ≡ old.failed
  pub left : new.left + length octets ≡ old.left

-- the source failed: its reader failed, or gave more octets than the source may still give
pub record Fails {R : Type 0} (remaining : R → Option (List ℕ)) (old new : SourceState R) : Type 0 where
  pub octets : List ℕ
  pub read : Consumes (remaining old.reader) (remaining new.reader) octets
  pub cause : (octets ≡ []) ⊎ (old.left < length octets)
  pub failed : new.failed ≡ true
  pub left : new.left ≡ old.left
