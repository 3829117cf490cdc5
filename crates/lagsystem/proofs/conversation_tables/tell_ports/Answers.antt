use Rattle.lagsystem.proofs.Common.{ap, arith, refl, ℕ, ◌∙◌, has_changed, port_on}
use Rattle.lagsystem.proofs.TellingLemmas.{few_more, no_rows, row_told}
use Rattle.lagsystem.proofs.conversation_tables.tell_ports.Goals as goal

pub loop-conv-init : goal.loop-conv-init
loop-conv-init g c = record { told = no_rows ℕ 0 _ has_changed c.args.ports.now c.args.changed.now; few = omega arith }

pub loop-conv-preserved : goal.loop-conv-preserved
loop-conv-preserved g c = let i = c.loop-conv.invariant in
    record {
      told = row_told ℕ 0 _ has_changed c.loop-conv.conv c.from-row.result c.args.ports.now c.loop-conv.ports c.args.changed.now
          c.loop-conv.changed c.loop-conv.count c.from-count.result c.port_on-port.result _ i.told c.from-row.ensures
          (omega (arith, c.requires.ports, c.loop-conv-test.true)) (omega (arith, c.requires.changed, c.loop-conv-test.true))
          (c.port_on-port.ensures ∙ ap port_on c.state.ensures) refl c.from-count.ensures;
      few = few_more c.loop-conv.conv c.loop-conv.count c.from-count.result _ c.from-count.ensures i.few;
    }
