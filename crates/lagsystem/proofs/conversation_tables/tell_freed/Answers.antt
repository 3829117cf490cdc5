use Rattle.lagsystem.proofs.Common.{Bool, ap, arith, false, ◌∙◌, has_freed, is_busy}
use Rattle.lagsystem.proofs.TellingLemmas.{few_more, no_rows, row_told}
use Rattle.lagsystem.proofs.conversation_tables.tell_freed.Goals as goal

pub loop-conv-init : goal.loop-conv-init
loop-conv-init g c = record { told = no_rows Bool false _ has_freed c.args.busy.now c.args.freed.now; few = omega arith }

pub loop-conv-preserved : goal.loop-conv-preserved
loop-conv-preserved g c = let i = c.loop-conv.invariant in
    record {
      told = row_told Bool false _ has_freed c.loop-conv.conv c.from-row.result c.args.busy.now c.loop-conv.busy c.args.freed.now
          c.loop-conv.freed c.loop-conv.count c.from-count.result c.is_busy-is.result c.has_freed-left.result i.told c.from-row.ensures
          (omega (arith, c.requires.busy, c.loop-conv-test.true)) (omega (arith, c.requires.freed, c.loop-conv-test.true))
          (c.is_busy-is.ensures ∙ ap is_busy c.state.ensures) c.has_freed-left.ensures c.from-count.ensures;
      few = few_more c.loop-conv.conv c.loop-conv.count c.from-count.result _ c.from-count.ensures i.few;
    }
