use Rattle.lagtool_jobs.proofs.Common.{length, refl, ◌≡◌}
use Rattle.lagtool_jobs.proofs.StartLemmas.{second_fits}
use Rattle.lagtool_jobs.proofs.replaying.both_counts.Goals as goal

pub counts_of-requires-2 : goal.counts_of-requires-2
counts_of-requires-2 c = let two : length c.args.config.now.systems ≡ 2 = search in
    second_fits c.args.config.now c.args.config.now.systems c.index-config-1.result refl two c.requires
