-- The report so far and what is still to come.
use Rattle.lagtool_jobs.proofs.Common.{Bool, Err, IfErr, IfOk, List, Ok, OnOk, Option, Result, [], ap, append-nil, append_assoc, arith, cond, decimal}
use Rattle.lagtool_jobs.proofs.Common.{drop, eqb-true, false, get_or, inl, inr, length, length-append, length-drop, min, refl, subst, suc, sym, take}
use Rattle.lagtool_jobs.proofs.Common.{take-append-drop, take_all, true, zero, ℕ, ◌++◌, ◌+◌, ◌-◌, ◌<◌, ◌==◌, ◌∙◌, ◌∷◌, ◌≡◌, ◌≤◌, cases_lt, lt-ltb}
use Rattle.lagtool_jobs.proofs.Common.{drop_more, get_or-take, length-take-le, take_rest, Appends, IsAtEnd, IsErrAnd, is_ok, AppendsPart, SinkState}
use Rattle.lagtool_jobs.proofs.Common.{WritesWhole, ToolFault, NoMemory, Read, Write, ReadsOctets, ScanState, summary_after, to_write_after}
use Rattle.lagtool_jobs.proofs.Common.{unwritten, hex_verdict, is_fault, line_verdict, verdict_text}
use Rattle.lagtool_jobs.specs.CheckEnds.{Checks, Completes, HasCause, Stops}
use Rattle.memchr.specs.Find.{Nowhere, Passes, is_byte}
use Rattle.hex.specs.Hex.{decode_of}
use Rattle.lagstreams.specs.Lines.{continue_line, lines_of, newline_count, without_return}
use Rattle.lagtool_jobs.specs.CheckReport.{summary_from, summary_text, ended_lines_text, fault_count, verdict_line, check_report, check_report_from}
use Rattle.lagtool_jobs.specs.CheckReport.{summary, verdicts_from}
use Rattle.lagstreams.specs.Sources.{Fails, Gives, SourceState}
use Rattle.lagtool_jobs.specs.declared.summary.Summary.{Summary}
use Rattle.lagtool_jobs.specs.declared.verdict.Verdict.{Verdict}
use Rattle.lagtool_jobs.specs.declared.verdict.Verdict.TheVariants.{TooLong}
use Rattle.lagtool_jobs.proofs.OctetLemmas.{appends_both, appends_none, consumes_both, consumes_none}
use Rattle.lagstreams.proofs.LineLemmas.{prepend_both, prepend_none}
use Rattle.lagstreams.proofs.SinkLemmas.{takes_more}

not_true : (t : Bool) → (t ≡ true → ⊥) → t ≡ false
not_true true h = absurd (h refl)
not_true false h = refl

-- no newline is among them
abbrev pub InOneLine : List ℕ → Type 0
InOneLine xs = Nowhere (Passes (is_byte 10) xs) 0 (length xs)

lines_joined : (xs rest : List ℕ) → InOneLine xs → lines_of (xs ++ rest) ≡ continue_line xs (lines_of rest)
lines_joined [] rest h = sym (prepend_none (lines_of rest))
lines_joined (b ∷ bs) rest h = let first : (b == 10) ≡ false = not_true (b == 10) (h 0 (omega arith) (omega arith)) in
    let later = lines_joined bs rest (λ k low high. h (suc k) (omega arith) (omega (arith, high))) in
    ap (λ t. cond t ([] ∷ lines_of (bs ++ rest)) (continue_line (b ∷ []) (lines_of (bs ++ rest)))) first ∙ ap (continue_line (b ∷ [])) later
    ∙ prepend_both (b ∷ []) bs (lines_of rest)

-- what stands before the first newline
pub before_newline : (xs : List ℕ) (n : ℕ) → n ≤ length xs → Nowhere (Passes (is_byte 10) xs) 0 n → InOneLine (take n xs)
before_newline xs n le h k low high is = let lt : k < n = omega (arith, length-take-le n xs le, high) in
    h k low lt (ap (λ b. b == 10) (sym (get_or-take n xs k 0 lt)) ∙ is)

long_line : (l : List ℕ) → 65536 < length l → line_verdict l ≡ TooLong
long_line l h = ap (λ t. cond t TooLong (hex_verdict (decode_of (without_return l)))) (lt-ltb 65536 (length l) h)

-- what is said of lines, if it depends on the verdict on the first
module _ {X : Type 0} (F : List (List ℕ) → X) (by_verdict : (l m : List ℕ) (ls : List (List ℕ)) → line_verdict l ≡ line_verdict m
    → F (l ∷ ls) ≡ F (m ∷ ls)) where
  same_long : (l m : List ℕ) (ls : List (List ℕ)) → 65536 < length l → 65536 < length m → F (continue_line l ls) ≡ F (continue_line m ls)
  same_long [] m ls h j = absurd (omega arith)
  same_long (x ∷ l) [] ls h j = absurd (omega arith)
  same_long (x ∷ l) (y ∷ m) [] h j = by_verdict (x ∷ l) (y ∷ m) [] (long_line (x ∷ l) h ∙ sym (long_line (y ∷ m) j))
  same_long (x ∷ l) (y ∷ m) (k ∷ ls) h j =
      by_verdict ((x ∷ l) ++ k) ((y ∷ m) ++ k) ls (long_line ((x ∷ l) ++ k) (simp length-append (omega arith))
      ∙ sym (long_line ((y ∷ m) ++ k) (simp length-append (omega arith))))

  more_of_line : (line xs rest : List ℕ) → InOneLine xs → F (continue_line line (lines_of (xs ++ rest))) ≡ F (continue_line (line ++ xs) (lines_of rest))
  more_of_line line xs rest h = ap (λ ls. F (continue_line line ls)) (lines_joined xs rest h) ∙ ap F (prepend_both line xs (lines_of rest))

  kept_part : (line xs rest : List ℕ) (n : ℕ) → InOneLine xs → n ≤ length xs → length line + n ≡ 65537
      → F (continue_line line (lines_of (xs ++ rest))) ≡ F (continue_line (line ++ take n xs) (lines_of rest))
  kept_part line xs rest n h le long = more_of_line line xs rest h
      ∙ same_long (line ++ xs) (line ++ take n xs) (lines_of rest) (simp length-append (omega arith))
      (simp length-append (omega (arith, length-take-le n xs le)))

  kept_line : (line xs rest : List ℕ) (n : ℕ) → InOneLine xs → length line ≤ 65537 → n ≡ min (length xs) (65537 - length line)
      → F (continue_line line (lines_of (xs ++ rest))) ≡ F (continue_line (line ++ take n xs) (lines_of rest))
  kept_line line xs rest n h short is = elim (cases_lt (65537 - length line) (length xs)) [
    | inl less ↦ kept_part line xs rest n h (omega (arith, is)) (omega (arith, is))
    | inr more ↦ more_of_line line xs rest h
        ∙ ap (λ ys. F (continue_line (line ++ ys) (lines_of rest))) (sym (take_all n xs (omega (arith, is))))
  ]

newlines_joined : (xs rest : List ℕ) → InOneLine xs → newline_count (xs ++ rest) ≡ newline_count rest
newlines_joined [] rest h = refl
newlines_joined (b ∷ bs) rest h = let first : (b == 10) ≡ false = not_true (b == 10) (h 0 (omega arith) (omega arith)) in
    ap (λ t. cond t (suc (newline_count (bs ++ rest))) (newline_count (bs ++ rest))) first
    ∙ newlines_joined bs rest (λ k low high. h (suc k) (omega arith) (omega (arith, high)))

-- what is still to come after n lines with k faults, and some octets of the next
abbrev pub pending : ℕ → ℕ → List ℕ → List ℕ → List ℕ
pending n k line rest = check_report_from n k (continue_line line (lines_of rest))

abbrev pub counts : ℕ → ℕ → List ℕ → List ℕ → Summary
counts n k line rest = summary_from n k (continue_line line (lines_of rest))

-- what is said of the lines that these octets end, after n lines and some octets of the next
abbrev pub ended : ℕ → List ℕ → List ℕ → List ℕ
ended n line rest = verdicts_from n (take (newline_count rest) (continue_line line (lines_of rest)))

same_report : (n k : ℕ) (l m : List ℕ) (ls : List (List ℕ)) → line_verdict l ≡ line_verdict m → check_report_from n k (l ∷ ls) ≡ check_report_from n k (m ∷ ls)
same_report n k l m ls e = ap (λ (v : Verdict). (decimal (n + 1) ++ 32 ∷ (verdict_text v ++ 10 ∷ []))
    ++ check_report_from (n + 1) (k + cond (is_fault v) 1 0) ls) e

same_counts : (n k : ℕ) (l m : List ℕ) (ls : List (List ℕ)) → line_verdict l ≡ line_verdict m → summary_from n k (l ∷ ls) ≡ summary_from n k (m ∷ ls)
same_counts n k l m ls e = ap (λ (v : Verdict). summary_from (n + 1) (k + cond (is_fault v) 1 0) ls) e

same_verdicts : (n c : ℕ) (l m : List ℕ) (ls : List (List ℕ)) → line_verdict l ≡ line_verdict m
    → verdicts_from n (take c (l ∷ ls)) ≡ verdicts_from n (take c (m ∷ ls))
same_verdicts n zero l m ls e = refl
same_verdicts n (suc c) l m ls e = ap (λ (v : Verdict). (decimal (n + 1) ++ 32 ∷ (verdict_text v ++ 10 ∷ []))
    ++ verdicts_from (n + 1) (take c ls)) e

same_unwritten : (a b : List ℕ) (n m k j : ℕ) (l o rest : List ℕ) → a ≡ b → n ≡ m → k ≡ j → l ≡ o → a ++ pending n k l rest ≡ b ++ pending m j o rest
same_unwritten a b n m k j l o rest e f g h = rw (e, f, g, h) refl

same_said : (a b : List ℕ) (n m : ℕ) (l o rest : List ℕ) → a ≡ b → n ≡ m → l ≡ o → a ++ ended n l rest ≡ b ++ ended m o rest
same_said a b n m l o rest e f h = rw (e, f, h) refl

same_counted : (n m k j : ℕ) (l o rest : List ℕ) → n ≡ m → k ≡ j → l ≡ o → counts n k l rest ≡ counts m j o rest
same_counted n m k j l o rest f g h = rw (f, g, h) refl

pub on_ok : {T E P : Type 0} (r : Result T E) → (is_ok r ≡ true → P) → OnOk r P
on_ok (Ok x) h = h refl
on_ok (Err e) h = tt

-- more octets of a line were kept
pub keeps : (s t : ScanState) (xs : List ℕ) (n : ℕ) → t.to_write ≡ s.to_write → t.lines ≡ s.lines → t.faults ≡ s.faults → t.line ≡ s.line ++ take n xs
    → InOneLine xs → length s.line ≤ 65537 → n ≡ min (length xs) (65537 - length s.line) → ReadsOctets s t xs
keeps s t xs n e f g h in_line short is = record {
  report = λ rest. ap (λ zs. s.to_write ++ zs) (kept_line (check_report_from s.lines s.faults) (same_report s.lines s.faults) s.line xs
      rest n in_line short is)
      ∙ sym (same_unwritten _ _ _ _ _ _ _ _ rest e f g h);
  to_write = λ rest. ap (λ c. s.to_write ++ verdicts_from s.lines (take c (continue_line s.line (lines_of (xs ++ rest)))))
      (newlines_joined xs rest in_line)
      ∙ ap (λ zs. s.to_write ++ zs) (kept_line (λ ls. verdicts_from s.lines (take (newline_count rest) ls))
      (same_verdicts s.lines (newline_count rest)) s.line xs rest n in_line short is)
      ∙ sym (same_said _ _ _ _ _ _ rest e f h);
  counts = λ rest. kept_line (summary_from s.lines s.faults) (same_counts s.lines s.faults) s.line xs rest n in_line short is
      ∙ sym (same_counted _ _ _ _ _ _ rest f g h);
}

-- a newline ended a line
pub ends_line : (s t : ScanState) → t.to_write ≡ s.to_write ++ verdict_line (s.lines + 1) s.line → t.lines ≡ s.lines + 1
    → t.faults ≡ s.faults + fault_count s.line → t.line ≡ [] → ReadsOctets s t (10 ∷ [])
ends_line s t e f g h = record {
  report = λ rest. ap (λ l. s.to_write ++ check_report_from s.lines s.faults (l ∷ lines_of rest)) (append-nil s.line)
      ∙ sym (append_assoc s.to_write (verdict_line (s.lines + 1) s.line)
      (check_report_from (s.lines + 1) (s.faults + fault_count s.line) (lines_of rest)))
      ∙ ap (λ ls. (s.to_write ++ verdict_line (s.lines + 1) s.line) ++ check_report_from (s.lines + 1) (s.faults + fault_count s.line) ls)
      (sym (prepend_none (lines_of rest)))
      ∙ sym (same_unwritten _ _ _ _ _ _ _ _ rest e f g h);
  to_write = λ rest. ap (λ l. s.to_write
      ++ (verdict_line (s.lines + 1) l ++ verdicts_from (s.lines + 1) (take (newline_count rest) (lines_of rest)))) (append-nil s.line)
      ∙ sym (append_assoc s.to_write (verdict_line (s.lines + 1) s.line)
      (verdicts_from (s.lines + 1) (take (newline_count rest) (lines_of rest))))
      ∙ ap (λ ls. (s.to_write ++ verdict_line (s.lines + 1) s.line) ++ verdicts_from (s.lines + 1) (take (newline_count rest) ls))
      (sym (prepend_none (lines_of rest)))
      ∙ sym (same_said _ _ _ _ _ _ rest e f h);
  counts = λ rest. ap (λ l. summary_from s.lines s.faults (l ∷ lines_of rest)) (append-nil s.line)
      ∙ ap (summary_from (s.lines + 1) (s.faults + fault_count s.line)) (sym (prepend_none (lines_of rest)))
      ∙ sym (same_counted _ _ _ _ _ _ rest f g h);
}

-- the octets of a piece that are done, a line more
pub line_done : (all done rest : List ℕ) (n : ℕ) → all ≡ done ++ rest → n < length rest → (get_or rest n 0 == 10) ≡ true
    → all ≡ (done ++ (take n rest ++ 10 ∷ [])) ++ take (length rest - (n + 1)) (drop (n + 1) rest)
line_done all done rest n e lt is = let later = drop (n + 1) rest in
    let here : drop n rest ≡ 10 ∷ later = drop_more rest n 0 lt ∙ ap (λ b. b ∷ later) (eqb-true (get_or rest n 0) 10 is) in
    let split : rest ≡ (take n rest ++ 10 ∷ []) ++ later = sym (take-append-drop n rest) ∙ ap (λ xs. take n rest ++ xs) here
    ∙ sym (append_assoc (take n rest) (10 ∷ []) later) in
    e ∙ ap (λ xs. done ++ xs) split ∙ sym (append_assoc done (take n rest ++ 10 ∷ []) later)
    ∙ ap (λ xs. (done ++ (take n rest ++ 10 ∷ [])) ++ xs) (sym (take_rest rest (n + 1)))

pub rest_length : (rest : List ℕ) (n : ℕ) → n < length rest → length (take (length rest - (n + 1)) (drop (n + 1) rest)) + (n + 1) ≡ length rest
rest_length rest n lt = ap (λ xs. length xs + (n + 1)) (take_rest rest (n + 1))
    ∙ ap (λ m. m + (n + 1)) (length-drop (n + 1) rest) ∙ omega arith

pub reads_none : (s : ScanState) → ReadsOctets s s []
reads_none s = record { report = λ rest. refl; to_write = λ rest. refl; counts = λ rest. refl }

pub reads_both : (a b c : ScanState) (xs ys : List ℕ) → ReadsOctets a b xs → ReadsOctets b c ys → ReadsOctets a c (xs ++ ys)
reads_both a b c xs ys p q = record {
  report = λ rest. ap (unwritten a) (append_assoc xs ys rest) ∙ p.report (ys ++ rest) ∙ q.report rest;
  to_write = λ rest. ap (to_write_after a) (append_assoc xs ys rest) ∙ p.to_write (ys ++ rest) ∙ q.to_write rest;
  counts = λ rest. ap (summary_after a) (append_assoc xs ys rest) ∙ p.counts (ys ++ rest) ∙ q.counts rest;
}

-- what a write leaves
pub all_said : (s t : ScanState) → t ≡ record s { to_write = [] } → (t.to_write ≡ []) × (t.lines ≡ s.lines)
all_said s t e = (ap (λ v. v.to_write) e, ap (λ v. v.lines) e)

pub reads_rest : {T E : Type 0} (r : Result T E) (a b c : ScanState) (all done rest : List ℕ) → all ≡ done ++ rest → ReadsOctets a b done
    → OnOk r (ReadsOctets b c rest) → OnOk r (ReadsOctets a c all)
reads_rest (Ok x) a b c all done rest e p q = subst (ReadsOctets a c) (sym e) (reads_both a b c done rest p q)
reads_rest (Err x) a b c all done rest e p q = tt

-- the stream ends behind some octets of a line, or behind none
pub last_line : (n k : ℕ) (line : List ℕ) → 0 < length line
    → (pending n k line [] ≡ verdict_line (n + 1) line ++ summary_text (record { checked = n + 1; faults = k + fault_count line }))
    × (counts n k line [] ≡ record { checked = n + 1; faults = k + fault_count line })
last_line n k [] h = absurd (omega arith)
last_line n k (x ∷ xs) h = (refl, refl)

pub no_last_line : (n k : ℕ) (line : List ℕ) → length line ≡ 0
    → (pending n k line [] ≡ summary_text (record { checked = n; faults = k })) × (counts n k line [] ≡ record { checked = n; faults = k })
no_last_line n k [] h = (refl, refl)
no_last_line n k (x ∷ xs) h = absurd (omega arith)

module _ {R W : Type 0} (remaining : R → Option (List ℕ)) (contents : W → Option (List ℕ)) where
  -- what was read so far, and what was written of its report
  pub record Told (from to : SourceState R) (old new : SinkState W) (s : ScanState) : Type 0 where
    pub octets : List ℕ
    pub read : Gives remaining from to octets
    pub out : List ℕ
    pub written : WritesWhole contents old new out
    pub report_is : (rest : List ℕ) → check_report (octets ++ rest) ≡ out ++ unwritten s rest
    pub said_is : (rest : List ℕ) → ended_lines_text (octets ++ rest) ≡ out ++ to_write_after s rest
    pub counts_are : (rest : List ℕ) → summary (octets ++ rest) ≡ summary_after s rest

  pub told_none : (r : SourceState R) (w : SinkState W) (s : ScanState) → s.to_write ≡ [] → s.lines ≡ 0 → s.faults ≡ 0 → s.line ≡ [] → Told r r w w s
  told_none r w s e f g h = record {
    octets = [];
    read = record { read = consumes_none (remaining r.reader); failed = refl; left = omega arith };
    out = [];
    written = record { written = appends_none (contents w.writer); failed = refl };
    report_is = λ rest. ap (check_report_from 0 0) (sym (prepend_none (lines_of rest)))
        ∙ sym (same_unwritten _ [] _ 0 _ 0 _ [] rest e f g h);
    said_is = λ rest. ap (λ ls. verdicts_from 0 (take (newline_count rest) ls)) (sym (prepend_none (lines_of rest)))
        ∙ sym (same_said _ [] _ 0 _ [] rest e f h);
    counts_are = λ rest. ap (summary_from 0 0) (sym (prepend_none (lines_of rest))) ∙ sym (same_counted _ 0 _ 0 _ [] rest f g h);
  }

gives_both : {R : Type 0} {remaining : R → Option (List ℕ)} (a b c : SourceState R) (xs ys : List ℕ) → Gives remaining a b xs
    → Gives remaining b c ys → Gives remaining a c (xs ++ ys)
gives_both a b c xs ys p q = record {
  read = consumes_both _ _ _ xs ys p.read q.read;
  failed = q.failed ∙ p.failed;
  left = simp length-append (omega (arith, p.left, q.left));
}

module _ {R W : Type 0} {remaining : R → Option (List ℕ)} {contents : W → Option (List ℕ)} where
  pub told_reads : {from mid to : SourceState R} {old half : SinkState W} {s t : ScanState} {ys : List ℕ}
      → Told remaining contents from mid old half s → Gives remaining mid to ys → ReadsOctets s t ys → Told remaining contents from to old half t
  told_reads {from} {mid} {to} {old} {half} {s} {t} {ys} p c q = record {
    octets = p.octets ++ ys;
    read = gives_both from mid to p.octets ys p.read c;
    out = p.out;
    written = p.written;
    report_is = λ rest. ap check_report (append_assoc p.octets ys rest) ∙ p.report_is (ys ++ rest)
        ∙ ap (λ zs. p.out ++ zs) (q.report rest);
    said_is = λ rest. ap ended_lines_text (append_assoc p.octets ys rest) ∙ p.said_is (ys ++ rest)
        ∙ ap (λ zs. p.out ++ zs) (q.to_write rest);
    counts_are = λ rest. ap summary (append_assoc p.octets ys rest) ∙ p.counts_are (ys ++ rest) ∙ q.counts rest;
  }

  pub told_writes : {from mid : SourceState R} {old half new : SinkState W} {s t : ScanState} → Told remaining contents from mid old half s
      → WritesWhole contents half new s.to_write → t ≡ record s { to_write = [] } → Told remaining contents from mid old new t
  told_writes {from} {mid} {old} {half} {new} {s} {t} p a e = record {
    octets = p.octets;
    read = p.read;
    out = p.out ++ s.to_write;
    written = takes_more contents _ _ _ _ _ p.written a;
    report_is = λ rest. p.report_is rest ∙ sym (append_assoc p.out s.to_write (pending s.lines s.faults s.line rest))
        ∙ ap (λ zs. (p.out ++ s.to_write) ++ zs) (sym (ap (λ v. unwritten v rest) e));
    said_is = λ rest. p.said_is rest ∙ sym (append_assoc p.out s.to_write (ended s.lines s.line rest))
        ∙ ap (λ zs. (p.out ++ s.to_write) ++ zs) (sym (ap (λ v. to_write_after v rest) e));
    counts_are = λ rest. p.counts_are rest ∙ sym (ap (λ v. summary_after v rest) e);
  }

  -- an empty piece
  pub told_still : {from mid to : SourceState R} {old half : SinkState W} {s : ScanState} {ys : List ℕ}
      → Told remaining contents from mid old half s → Gives remaining mid to ys → ys ≡ [] → Told remaining contents from to old half s
  told_still {s = s} p c none = told_reads p c (subst (ReadsOctets s s) (sym none) (reads_none s))

  -- if nothing is said but not written, all is written of the lines that were ended
  all_written : {from mid : SourceState R} {old half : SinkState W} {s : ScanState} (p : Told remaining contents from mid old half s)
      → s.to_write ≡ [] → p.out ≡ ended_lines_text p.octets
  all_written p e = sym (ap ended_lines_text (sym (append-nil p.octets)) ∙ p.said_is []
      ∙ ap (λ zs. p.out ++ (zs ++ [])) e ∙ append-nil p.out)

  pub stops_reading : {from mid to : SourceState R} {old half : SinkState W} {s : ScanState} → Told remaining contents from mid old half s
      → s.to_write ≡ [] → Fails remaining mid to → Stops remaining contents from to old half Read
  stops_reading {mid = mid} {old = old} {half = half} p e fails = record {
    octets = p.octets;
    before = mid;
    read = p.read;
    fails = fails;
    written = subst (WritesWhole contents old half) (all_written p e) p.written;
  }

  pub stops_short : {from mid to : SourceState R} {old half : SinkState W} {s : ScanState} {ys : List ℕ} → Told remaining contents from mid old half s
      → s.to_write ≡ [] → Gives remaining mid to ys → length ys ≤ 4096 → Stops remaining contents from to old half NoMemory
  stops_short {from} {mid} {to} {old} {half} {s} {ys} p e c short = record {
    octets = p.octets;
    last = ys;
    read = gives_both from mid to p.octets ys p.read c;
    one_read = short;
    written = subst (WritesWhole contents old half) (all_written p e) p.written;
  }

  -- a beginning of what was said is written
  pub stops_writing : {from mid to : SourceState R} {old half new : SinkState W} {s : ScanState} {ys : List ℕ} (to_write tail : List ℕ)
      → Told remaining contents from mid old half s → s.to_write ≡ [] → Gives remaining mid to ys → length ys ≤ 4096 → unwritten s ys ≡ to_write ++ tail
      → AppendsPart (contents half.writer) (contents new.writer) to_write → Stops remaining contents from to old new Write
  stops_writing {from} {mid} {to} {old} {half} {new} {s} {ys} to_write tail p e c short is b = let n = b.0 in
      let out = all_written p e in record {
        octets = p.octets;
        last = ys;
        read = gives_both from mid to p.octets ys p.read c;
        one_read = short;
        more = take n to_write;
        unsaid = drop n to_write ++ tail;
        written = subst (λ o. Appends (contents old.writer) (contents new.writer) (o ++ take n to_write)) out
            (appends_both _ _ _ p.out (take n to_write) p.written.written b.1);
        report_is = p.report_is ys ∙ ap (λ zs. p.out ++ zs) (is ∙ ap (λ zs. zs ++ tail) (sym (take-append-drop n to_write))
            ∙ append_assoc (take n to_write) (drop n to_write) tail)
            ∙ sym (append_assoc p.out (take n to_write) (drop n to_write ++ tail))
            ∙ ap (λ o. (o ++ take n to_write) ++ (drop n to_write ++ tail)) out;
      }

  -- all is written
  pub ends : {from mid : SourceState R} {old half new : SinkState W} {s : ScanState} {to_write : List ℕ} {counts : Summary}
      → Told remaining contents from mid old half s → to_write ≡ unwritten s [] → counts ≡ summary_after s [] → IsAtEnd (remaining mid.reader)
      → WritesWhole contents half new to_write → Completes remaining contents from mid old new counts
  ends {old = old} {new = new} {to_write = to_write} p e k end a =
      let whole : check_report p.octets ≡ p.out ++ to_write = ap check_report (sym (append-nil p.octets)) ∙ p.report_is []
      ∙ ap (λ zs. p.out ++ zs) (sym e) in
      record {
        octets = p.octets;
        read = p.read.read;
        unfailed = p.read.failed;
        end = end;
        written = subst (WritesWhole contents old new) (sym whole) (takes_more contents _ _ _ _ _ p.written a);
        counts_are = k ∙ sym (p.counts_are []) ∙ ap summary (append-nil p.octets);
      }

-- the fault of a call that ends in it
pub on_fault : {T : Type 0} (P : ToolFault → Type 0) (f : ToolFault) (r : Result T ToolFault) → IsErrAnd r (λ e. e ≡ f) → P f → IfErr r P
on_fault P f (Ok x) e p = tt
on_fault P f (Err x) e p = subst P (sym e) p

-- how `check` ends, by the clauses on its fault
pub ends_by : {R W : Type 0} (remaining : R → Option (List ℕ)) (contents : W → Option (List ℕ)) (from to : SourceState R)
    (old new : SinkState W) (r : Result Summary ToolFault)
    → IfOk r (λ s. Completes remaining contents from to old new s) → IfErr r (Stops remaining contents from to old new)
    → IfErr r (HasCause to.failed new.failed)
    → Checks remaining contents from to old new r
ends_by remaining contents from to old new (Ok s) ok err cause = ok
ends_by remaining contents from to old new (Err e) ok err cause = (err, cause)
