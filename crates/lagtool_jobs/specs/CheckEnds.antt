-- What `check` returns and has written (profile).
use Rattle.std.specs.Prelude.{◌≡◌, ◌≤◌, ◌++◌, ℕ, Bool, true, false, List, length, Option, Result, Ok, Err}
use Rattle.std.specs.Io.KnownBytes.{Appends, Consumes, IsAtEnd}
use Rattle.lagtool_jobs.specs.CheckReport.{ended_lines_text, check_report, summary}
use Rattle.lagstreams.specs.Sinks.{SinkState, WritesWhole}
use Rattle.lagstreams.specs.Sources.{Fails, Gives, SourceState}
use Rattle.lagtool_jobs.specs.declared.summary.Summary.{Summary}
use Rattle.lagtool_jobs.specs.declared.fault.ToolFault.{ToolFault}
use Rattle.lagtool_jobs.specs.declared.fault.ToolFault.TheVariants.{Read, Write, NoMemory, Script, NotHex, NotMac}

-- for `Read` the source has failed, for `Write` the sink, and the other has not; for `NoMemory` neither has
abbrev pub HasCause : Bool → Bool → ToolFault → Type 0
HasCause source sink Read = (source ≡ true) × (sink ≡ false)
HasCause source sink Write = (source ≡ false) × (sink ≡ true)
HasCause source sink NoMemory = (source ≡ false) × (sink ≡ false)
HasCause source sink (Script fault) = ⊥
HasCause source sink NotHex = ⊥
HasCause source sink NotMac = ⊥

module _ {R W : Type 0} (remaining : R → Option (List ℕ)) (contents : W → Option (List ℕ)) where
  -- The source gave these octets and then failed: the verdicts on the lines ended by a newline are written, and no
  -- more.
  pub record StopsReading (from to : SourceState R) (old new : SinkState W) : Type 0 where
    pub octets : List ℕ
    pub before : SourceState R
    pub read : Gives remaining from before octets
    pub fails : Fails remaining before to
    pub written : WritesWhole contents old new (ended_lines_text octets)

  -- Memory was refused: the same, but without a last part of the octets, which is no longer than one read.
  pub record StopsShort (from to : SourceState R) (old new : SinkState W) : Type 0 where
    pub octets : List ℕ
    pub last : List ℕ
    pub read : Gives remaining from to (octets ++ last)
    pub one_read : length last ≤ 4096
    pub written : WritesWhole contents old new (ended_lines_text octets)

  -- The sink failed: what is written is a beginning of the report, and includes each line that was ended before a last
  -- part of the octets, which is no longer than one read.
  pub record StopsWriting (from to : SourceState R) (old new : SinkState W) : Type 0 where
    pub octets : List ℕ
    pub last : List ℕ
    pub read : Gives remaining from to (octets ++ last)
    pub one_read : length last ≤ 4096
    pub more : List ℕ
    pub unsaid : List ℕ
    pub written : Appends (contents old.writer) (contents new.writer) (ended_lines_text octets ++ more)
    pub report_is : check_report (octets ++ last) ≡ (ended_lines_text octets ++ more) ++ unsaid

  -- how `check` stopped with this fault: what it read and wrote until then
  abbrev pub Stops : SourceState R → SourceState R → SinkState W → SinkState W → ToolFault → Type 0
  Stops from to old new Read = StopsReading from to old new
  Stops from to old new Write = StopsWriting from to old new
  Stops from to old new NoMemory = StopsShort from to old new
  Stops from to old new (Script fault) = ⊥
  Stops from to old new NotHex = ⊥
  Stops from to old new NotMac = ⊥

  -- all that there is to read was read, and its whole report is written
  pub record Completes (from to : SourceState R) (old new : SinkState W) (counts : Summary) : Type 0 where
    pub octets : List ℕ
    pub read : Consumes (remaining from.reader) (remaining to.reader) octets
    pub unfailed : to.failed ≡ from.failed
    pub end : IsAtEnd (remaining to.reader)
    pub written : WritesWhole contents old new (check_report octets)
    pub counts_are : counts ≡ summary octets

  -- what `check` read and wrote, for its result: counts of lines and faults, or why it stopped
  abbrev pub Checks : SourceState R → SourceState R → SinkState W → SinkState W → Result Summary ToolFault → Type 0
  Checks from to old new (Ok counts) = Completes from to old new counts
  Checks from to old new (Err fault) = Stops from to old new fault × HasCause to.failed new.failed fault
