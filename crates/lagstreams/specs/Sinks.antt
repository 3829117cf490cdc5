-- A sink as contracts see it, and what is written into one (profile).
use Rattle.std.specs.Prelude.{◌≡◌, ℕ, Bool, true, false, List, Option, take}
use Rattle.std.specs.Io.KnownBytes.{Appends, Keeps}

-- A writer; whether a call of it failed or it accepted none of the octets of a write; and whether it accepted octets
-- since it was last flushed.
pub record SinkState (W : Type 0) : Type 0 where
  pub writer : W
  pub failed : Bool
  pub unflushed : Bool

-- the octets that a writer contains, if that is known, grow by a beginning of the text
abbrev pub AppendsPart : Option (List ℕ) → Option (List ℕ) → List ℕ → Type 0
AppendsPart old new text = (n : ℕ) × Appends old new (take n text)

module _ {W : Type 0} (contents : W → Option (List ℕ)) where
  -- the sink accepted the whole text, and did not fail in this
  pub record WritesWhole (old new : SinkState W) (text : List ℕ) : Type 0 where
    pub written : Appends (contents old.writer) (contents new.writer) text
    pub failed : new.failed ≡ old.failed

  -- The sink accepted the whole text, and did not fail in this; and if nothing waited for a flush before, nothing
  -- does now.
  pub record WritesAndFlushes (old new : SinkState W) (text : List ℕ) : Type 0 where
    pub written : Appends (contents old.writer) (contents new.writer) text
    pub failed : new.failed ≡ old.failed
    pub flushed : old.unflushed ≡ false → new.unflushed ≡ false

  -- the sink failed, and accepted a beginning of the text
  pub record WritesPart (old new : SinkState W) (text : List ℕ) : Type 0 where
    pub written : AppendsPart (contents old.writer) (contents new.writer) text
    pub failed : new.failed ≡ true

  -- the sink was flushed
  pub record Flushes (old new : SinkState W) : Type 0 where
    pub kept : Keeps (contents old.writer) (contents new.writer)
    pub failed : new.failed ≡ old.failed
    pub flushed : new.unflushed ≡ false
