use Rattle.slowpdu.proofs.Common.{arith}
use Rattle.slowpdu.proofs.LacpduLemmas.{all_read}
use Rattle.slowpdu.proofs.decoding.decode_lacpdu.Goals as goal

pub returns : goal.returns
returns c =
    all_read _ _ (omega arith) (omega arith) c.in_ok-expect_length.ensures.ok c.in_ok-expect_length-2.ensures.ok c.in_ok-expect_length-3.ensures.ok
    c.info_at.ensures.address c.info_at-2.ensures.address c.info_at.ensures.fields c.info_at-2.ensures.fields c.u16_at.ensures
