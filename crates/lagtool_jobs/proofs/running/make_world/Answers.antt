use Rattle.lagtool_jobs.proofs.Common.{any_items, world_refusal, are_empty_lines}
use Rattle.std.proofs.lemmas.Result.{IfErr-weaker}
use Rattle.lagtool_jobs.proofs.PlayingLemmas.{nothing_to_refuse}
use Rattle.lagtool_jobs.proofs.running.make_world.Goals as goal

pub returns-clause-refused : goal.returns-clause-refused
returns-clause-refused g c = IfErr-weaker _ _ _
    (λ fault h. nothing_to_refuse (world_refusal c.args.config)
    (are_empty_lines any_items c.args.config.cables.items c.args.lines.items) fault c.requires.accepted c.requires.lines h)
    c.new.ensures.refused
