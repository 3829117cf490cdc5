-- What a job has read and written so far, and at its end.
use Rattle.lagtool_capture.proofs.Common.{Bool, List, None, Option, Some, [], ap, arith, false, inl, inr, ltb-false, nat_lt, refl, subst, sym, true}
use Rattle.lagtool_capture.proofs.Common.{true≢false, ℕ, ◌&&◌, ◌++◌, ◌∙◌, ◌≡◌, ◌⊎◌, and_cases, and_parts, Consumes, IsAtEnd, IsSettled, ReadFault}
use Rattle.lagtool_capture.proofs.Common.{Settings, Feeds, IsBefore, ReadingState, ended, is_free, is_read_on, summary_of, Follows, Log, ReportState}
use Rattle.lagtool_capture.proofs.Common.{Completes, Stands}
use Rattle.std.proofs.KnownBytes.{Appends-nil, Consumes-nil, Consumes-trans}
use Rattle.lagstreams.proofs.SinkLemmas.{takes_more}
use Rattle.lagstreams.specs.Sinks.{SinkState, WritesWhole}
use Rattle.lagstreams.specs.Sources.{Gives, SourceState}
use Rattle.lagtool_capture.proofs.ReadingLemmas.{stands_counts, stands_fed, stands_first, stands_reports, stands_settled, stands_written}
use Rattle.lagtool_capture.specs.declared.summary.CaptureSummary.{CaptureSummary}

module _ {R W : Type 0} (remaining : R → Option (List ℕ)) (contents : W → Option (List ℕ)) (settings : Settings) where
  pub record Told (from mid : SourceState R) (old half : SinkState W) (w : ReadingState) : Type 0 where
    pub octets : List ℕ
    pub read : Consumes (remaining from.reader) (remaining mid.reader) octets
    pub failed : mid.failed ≡ from.failed
    pub out : List ℕ
    pub written : WritesWhole contents old half out
    pub stands : Stands settings octets out w

pub free_is : (o : Option ReadFault) → is_free o ≡ true → o ≡ None
free_is None e = refl
free_is (Some f) e = absurd (true≢false (sym e))

pub fault_is : (o : Option ReadFault) → is_free o ≡ false → (f : ReadFault) × (o ≡ Some f)
fault_is None e = absurd (true≢false e)
fault_is (Some f) e = (f, refl)

-- what a test behind a read says of the reading and of the source
pub goes_by : (n : ℕ) (b : Bool) → (nat_lt 0 n && b) ≡ true → b ≡ true
goes_by n b e = (and_parts (nat_lt 0 n) b e).1

pub ends_by : {P : Type 0} (n : ℕ) (b : Bool) → (n ≡ 0 → P) → (nat_lt 0 n && b) ≡ false → P ⊎ (b ≡ false)
ends_by {P} n b end e = by (and_cases (nat_lt 0 n) b e)
  where
    by : (nat_lt 0 n ≡ false) ⊎ (b ≡ false) → P ⊎ (b ≡ false)
    by (inl none) = let le = ltb-false 0 n none in inl (end (omega (arith, le)))
    by (inr off) = inr off

module _ {R W : Type 0} {remaining : R → Option (List ℕ)} {contents : W → Option (List ℕ)} {settings : Settings} where
  told_before : (from : SourceState R) (old : SinkState W) (w : ReadingState) → IsBefore settings w → Told remaining contents settings from from old old w
  told_before from old w before = record {
    octets = [];
    read = Consumes-nil (remaining from.reader);
    failed = refl;
    out = [];
    written = record { written = Appends-nil (contents old.writer); failed = refl };
    stands = stands_first settings w before;
  }

  pub told_first : (from : SourceState R) (old : SinkState W) (w : ReadingState) → IsBefore settings w
      → Told remaining contents w.report.settings from from old old w
  told_first from old w before = subst (λ k. Told remaining contents k from from old old w)
      (sym (ap (λ (e : ReportState). e.settings) before.report)) (told_before from old w before)

  pub told_reads : {from mid to : SourceState R} {old half : SinkState W} {w v : ReadingState} {piece : List ℕ}
      → Told remaining contents settings from mid old half w → Gives remaining mid to piece → is_read_on w ≡ true → Feeds piece w v
      → Told remaining contents settings from to old half v
  told_reads {from} {mid} {to} {old} {half} {w} {v} {piece} t gives on feeds = record {
    octets = t.octets ++ piece;
    read = Consumes-trans (remaining from.reader) (remaining mid.reader) (remaining to.reader) t.octets piece t.read gives.read;
    failed = gives.failed ∙ t.failed;
    out = t.out;
    written = t.written;
    stands = stands_fed settings t.octets t.out piece w v t.stands (free_is w.fault on) feeds;
  }

  pub told_writes : {from mid : SourceState R} {old half new : SinkState W} {w v : ReadingState}
      → Told remaining contents settings from mid old half w → WritesWhole contents half new w.report.to_write
      → v ≡ record w { report = record w.report { to_write = [] } } → Told remaining contents settings from mid old new v
  told_writes {from} {mid} {old} {half} {new} {w} {v} t writes e = record {
    octets = t.octets;
    read = t.read;
    failed = t.failed;
    out = t.out ++ w.report.to_write;
    written = takes_more contents old half new t.out w.report.to_write t.written writes;
    stands = stands_written settings t.octets t.out w v t.stands e;
  }

  -- the reading ends at the end of the source, or where the capture is not read on
  completes_so : {from mid : SourceState R} {old half new : SinkState W} {w v u : ReadingState} {s : CaptureSummary}
      → Told remaining contents settings from mid old half w → ((l : Log) → Follows l w.noticed → v ≡ ended l w)
      → WritesWhole contents half new v.report.to_write → u ≡ record v { report = record v.report { to_write = [] } } → s ≡ summary_of u
      → IsAtEnd (remaining mid.reader) ⊎ (is_read_on w ≡ false) → Completes remaining contents settings from mid old new s
  completes_so {from} {mid} {old} {half} {new} {w} {v} {u} {s} t ends writes cleared counts stop = record {
    octets = t.octets;
    read = t.read;
    unfailed = t.failed;
    end = by stop;
    written = subst (WritesWhole contents old new) (sym (stands_reports settings t.octets t.out w v t.stands ends))
        (takes_more contents old half new t.out v.report.to_write t.written writes);
    summary_is = counts ∙ stands_counts settings t.octets t.out w v u t.stands ends cleared;
  }
    where
      by : IsAtEnd (remaining mid.reader) ⊎ (is_read_on w ≡ false) → IsAtEnd (remaining mid.reader) ⊎ IsSettled t.octets
      by (inl end) = inl end
      by (inr off) = let (f, e) = fault_is w.fault off in inr (stands_settled settings t.octets t.out w f t.stands e)

  pub completes : {from mid : SourceState R} {old half new : SinkState W} {first w v u : ReadingState} {s : CaptureSummary} → IsBefore settings first
      → Told remaining contents first.report.settings from mid old half w → ((l : Log) → Follows l w.noticed → v ≡ ended l w)
      → WritesWhole contents half new v.report.to_write → u ≡ record v { report = record v.report { to_write = [] } } → s ≡ summary_of u
      → IsAtEnd (remaining mid.reader) ⊎ (is_read_on w ≡ false) → Completes remaining contents settings from mid old new s
  completes {from} {mid} {old} {half} {new} {first} {w} {v} {u} {s} before t ends writes cleared counts stop =
      completes_so (subst (λ k. Told remaining contents k from mid old half w) (ap (λ (e : ReportState). e.settings) before.report) t)
      ends writes cleared counts stop
