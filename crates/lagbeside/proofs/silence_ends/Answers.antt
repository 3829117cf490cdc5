use Rattle.lagbeside.proofs.Silence.{silence_settles, silence_ticks, silence_comes}
use Rattle.lagbeside.proofs.silence_ends.Goals as goal

pub returns : goal.returns
returns c = record { settles = silence_settles; ticks = silence_ticks; comes = silence_comes }
