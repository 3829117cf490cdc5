use Rattle.lagtool_jobs.proofs.Common.{ap, arith, cond, refl, string_bytes, subst, take, ◌++◌, ◌∙◌, ReadsOctets, ScanState}
use Rattle.lagtool_jobs.proofs.ReportLemmas.{keeps, on_ok}
use Rattle.lagtool_jobs.proofs.scan.Scan.keep.Goals as goal

pub returns-clause-reads : goal.returns-clause-reads
returns-clause-reads c = let i = c.self.inside in
    let s : ScanState = record { lines = i.lines; faults = i.faults; line = i.line.items; to_write = string_bytes i.report } in
    let t : ScanState = record { lines = i.lines; faults = i.faults; line = c.extend_from_slice.new.self.items; to_write = string_bytes i.report } in
    let xs = c.args.octets.now in
    let n = c.min-kept.result in
    on_ok c.extend_from_slice.result (λ ok. subst (λ v. ReadsOctets v t xs) c.self.view_is
    (keeps s t xs n refl refl refl (c.extend_from_slice.ensures.items ∙ ap (λ b. cond b (i.line.items ++ take n xs) i.line.items) ok)
    c.requires (omega (arith, c.self.invariant, i.line.ok.0))
    (omega (arith, c.min-kept.ensures, c.len.ensures, i.line.ok.0, c.self.invariant))))
