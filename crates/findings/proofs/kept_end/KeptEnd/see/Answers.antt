use Rattle.std.proofs.Common.{◌≡◌, ◌∙◌, false, ap, refl, sym}
use Rattle.findings.specs.declared.slow_frame.LinkEnd.{LinkEnd}
use Rattle.findings.specs.declared.kept_end.KeptEnd.{KeptEnd}
use Rattle.findings.specs.Ends.{end_of, same_end}
use Rattle.findings.proofs.KeptEndLemmas.{other_frame}
use Rattle.findings.proofs.kept_end.KeptEnd.see.Goals as goal

pub returns-else-is : goal.returns-else-is
returns-else-is c = let other : same_end (end_of c.args.now.now) c.args.self.now.end ≡ false
    = ap (λ (e : LinkEnd). same_end e c.args.self.now.end) (sym c.end.ensures) ∙ (sym c.is.ensures ∙ c.if-is.false) in
    record {
      end = refl;
      exact = λ h is. other_frame c.args.self.now.end c.args.now.now h c.args.self.now c.see.new.self c.see-else-is.new.self
          c.see-else-is-2.new.self other is
          (c.see.ensures h other (ap (λ (w : KeptEnd). w.asking) is))
          (c.see-else-is.ensures h other (ap (λ (w : KeptEnd). w.said) is) (ap (λ (w : KeptEnd). w.others) is))
          (c.see-else-is-2.ensures h other (ap (λ (w : KeptEnd). w.said) is) (ap (λ (w : KeptEnd). w.responding) is));
    }
