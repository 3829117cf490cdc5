use Rattle.lagprogress.proofs.Common.{IsBetweenTicks, NoneIsLeft}
use Rattle.lagprogress.proofs.HostLoops.{asking_is_played, come_between, events_are_of_hosts, round_is_host_round, rounds_are_host_rounds}
use Rattle.lagprogress.proofs.HostLoops.{with_replies}
use Rattle.lagprogress.proofs.hosting.hosts_play_rounds.Goals as goal

pub returns-clause-asking : goal.returns-clause-asking
returns-clause-asking g c = λ one two. asking_is_played IsBetweenTicks come_between NoneIsLeft _

pub returns-clause-round : goal.returns-clause-round
returns-clause-round g c = λ one two. round_is_host_round _

pub returns-clause-rounds : goal.returns-clause-rounds
returns-clause-rounds g c = λ one two. rounds_are_host_rounds _

pub returns-clause-replies : goal.returns-clause-replies
returns-clause-replies g c = λ one two. with_replies _

pub returns-clause-events : goal.returns-clause-events
returns-clause-events g c = λ one two. events_are_of_hosts _
