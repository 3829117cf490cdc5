-- How many of some octets a sink has accepted.
use Rattle.std.proofs.Common.{◌≡◌, ◌-◌, ℕ, true, List, [], ◌++◌, length, take, drop, Option, refl, sym, ap, subst, ◌∙◌, append_assoc}
use Rattle.std.proofs.Common.{take-append-drop, Result, Ok, Err}
use Rattle.std.proofs.lemmas.List.{take_rest, take_at}
use Rattle.std.specs.Prelude.{OnErr}
use Rattle.std.specs.Io.KnownBytes.{Appends, Keeps}
use Rattle.std.proofs.KnownBytes.{Appends-kept, Appends-nil, Appends-trans}
use Rattle.lagstreams.specs.Sinks.{WritesPart, Flushes, WritesAndFlushes, SinkState, WritesWhole}

module _ {W : Type 0} (contents : W → Option (List ℕ)) where
  pub takes_more : (a b c : SinkState W) (xs ys : List ℕ) → WritesWhole contents a b xs → WritesWhole contents b c ys → WritesWhole contents a c (xs ++ ys)
  takes_more a b c xs ys first second =
      record { written = Appends-trans _ _ _ _ _ first.written second.written; failed = second.failed ∙ first.failed }

  -- what was taken before a failure is a beginning
  pub breaks_after : (a b c : SinkState W) (all done rest : List ℕ) → all ≡ done ++ rest → WritesWhole contents a b done
      → Keeps (contents b.writer) (contents c.writer) → c.failed ≡ true → WritesPart contents a c all
  breaks_after a b c all done rest e taken kept failed =
      let front : take (length done) all ≡ done = ap (take (length done)) e ∙ take_at done rest (length done) refl in
      let written = Appends-kept _ _ _ done taken.written kept in
      record { written = (length done, subst (λ t. Appends (contents a.writer) (contents c.writer) t) (sym front) written); failed = failed }

  pub sends_flushed : (a b c : SinkState W) (xs : List ℕ) → WritesWhole contents a b xs → Flushes contents b c → WritesAndFlushes contents a c xs
  sends_flushed a b c xs taken flushed =
      record { written = Appends-kept _ _ _ xs taken.written flushed.kept; failed = flushed.failed ∙ taken.failed; flushed = λ e. flushed.flushed }

  pub sends_none : (a : SinkState W) → WritesAndFlushes contents a a []
  sends_none a = record { written = Appends-nil (contents a.writer); failed = refl; flushed = λ e. e }

  pub sends_more : (a b c : SinkState W) (xs ys : List ℕ) → WritesAndFlushes contents a b xs → WritesAndFlushes contents b c ys
      → WritesAndFlushes contents a c (xs ++ ys)
  sends_more a b c xs ys first second = record {
    written = Appends-trans _ _ _ _ _ first.written second.written;
    failed = second.failed ∙ first.failed;
    flushed = λ e. second.flushed (first.flushed e);
  }

pub on_err : {T E P : Type 0} (r : Result T E) → P → OnErr r P
on_err (Ok x) p = tt
on_err (Err e) p = p

-- n more octets of the rest are done
pub more_done : (all done rest : List ℕ) (n : ℕ) → all ≡ done ++ rest → all ≡ (done ++ take n rest) ++ take (length rest - n) (drop n rest)
more_done all done rest n e = e ∙ ap (λ l. done ++ l) (sym (take-append-drop n rest)) ∙ sym
    (append_assoc done (take n rest) (drop n rest)) ∙ ap (λ l. (done ++ take n rest) ++ l) (sym (take_rest rest n))
