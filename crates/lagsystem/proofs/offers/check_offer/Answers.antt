use Rattle.lagsystem.proofs.Common.{inl, inr, refl}
use Rattle.lagsystem.proofs.OfferLemmas.{control_slow, is_frame, is_long, is_short, too_short}
use Rattle.lagsystem.proofs.offers.check_offer.Goals as goal
use Rattle.lagsystem.proofs.offers.check_offer.Goals.{then-octets-lt14-via-then-octets-lt14}
use Rattle.lagsystem.proofs.offers.check_offer.Goals.{then-octets-lt14-via-else-octets-lt14+then-octets-gt-LONGEST_FRAME}

pub returns-then-octets-lt14-clause-err : goal.returns-then-octets-lt14-clause-err
returns-then-octets-lt14-clause-err c = inl (
  (elim c.then-octets-lt14.branch [
    | then-octets-lt14-via-then-octets-lt14 w ↦ is_short c.args.octets.now w.if-octets-lt14.true
    | then-octets-lt14-via-else-octets-lt14+then-octets-gt-LONGEST_FRAME w ↦ is_long c.args.octets.now w.if-octets-gt-LONGEST_FRAME.true
  ]),
  refl,
)

pub returns-in-Data-clause-ok : goal.returns-in-Data-clause-ok
returns-in-Data-clause-ok c = (is_frame c.args.octets.now c.if-octets-lt14.false c.if-octets-gt-LONGEST_FRAME.false, c.in-Data.ensures.kind.1)

pub returns-in-Control : goal.returns-in-Control
returns-in-Control c = let octets = c.args.octets.now in
    let kind = c.classify.ensures.kind in
    record {
      ok = tt;
      err = inr (
        is_frame octets c.if-octets-lt14.false c.if-octets-gt-LONGEST_FRAME.false,
        elim c.in-Control.is [
          | inl w ↦ control_slow octets c.classify.result w.0 w.1 kind
          | inr e ↦ absurd (too_short octets c.classify.result e c.if-octets-lt14.false kind)
        ],
        refl,
      );
    }
