use Rattle.laghosts.proofs.Common.{algorithms_of}
use Rattle.laghosts.proofs.HostForced.{forced_by_force}
use Rattle.laghosts.proofs.HostHeadline.{hosts_keep_headline}
use Rattle.laghosts.proofs.host_calls_keep_the_headline.Goals as goal

pub returns-clause-headline : goal.returns-clause-headline
returns-clause-headline g c = λ one two. hosts_keep_headline (algorithms_of g.F.Fn.post one two)

pub returns-clause-forced : goal.returns-clause-forced
returns-clause-forced g c = λ one two. forced_by_force (algorithms_of g.F.Fn.post one two)
