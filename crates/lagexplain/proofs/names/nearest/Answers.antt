use Rattle.std.proofs.Common.{arith, map, option_map, subst, take_all}
use Rattle.lagscript.specs.Results.{word_octets}
use Rattle.lagexplain.proofs.NearestLemmas.{NearestSoFar, nearer_next, nearest_found, no_nearer_next}
use Rattle.lagexplain.proofs.names.nearest.Goals as goal
use Rattle.lagexplain.proofs.names.nearest.Goals.{then-edits-fewest, else-edits-fewest}

pub loop-name-preserved : goal.loop-name-preserved
loop-name-preserved c = elim c.if-edits-fewest.branch [
  | then-edits-fewest w ↦
      rw (w.found-is, w.fewest-is) (nearer_next c.args.word.now c.args.names.now c.loop-name.name-index _ c.loop-name.fewest
      c.in_ok-edits.edits c.loop-name.found c.loop-name-test.true c.loop-name.invariant c.in_ok-edits.ensures
      (omega (arith, w.if-edits-fewest.true)))
  | else-edits-fewest w ↦
      rw (w.found-is, w.fewest-is) (no_nearer_next c.args.word.now c.args.names.now c.loop-name.name-index _ c.loop-name.fewest
      c.in_ok-edits.edits c.loop-name.found c.loop-name-test.true c.loop-name.invariant c.in_ok-edits.ensures
      (omega (arith, w.if-edits-fewest.false)))
]

pub returns : goal.returns
returns c = let all = take_all c.loop-name.name-index c.args.names.now (omega (arith, c.loop-name-test.false)) in
    nearest_found c.args.word.now (map word_octets c.args.names.now) c.loop-name.fewest (option_map word_octets c.loop-name.found)
    (omega (arith, c.if-word-gt-LONGEST_WORD.false))
    (subst (λ ns. NearestSoFar c.args.word.now (map word_octets ns) c.loop-name.fewest (option_map word_octets c.loop-name.found)) all
    c.loop-name.invariant)
