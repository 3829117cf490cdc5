use Rattle.lagprogress.proofs.SeveralTicks.{rounds_once}
use Rattle.lagprogress.proofs.LateLoops.{host_round_is_late_round, host_rounds_are_late_rounds}
use Rattle.lagprogress.proofs.Common.{arith, port_at, LeavesPorts, IsBetweenTicks, OldArrive, most_ticks}
use Rattle.lagprogress.proofs.HostLoops.{asking_is_played, asking_is_several, come_beside, come_between}
use Rattle.lagprogress.proofs.clocks.clocks_play_rounds.Goals as goal

pub returns-clause-asking : goal.returns-clause-asking
returns-clause-asking g c = λ one two. asking_is_played IsBetweenTicks come_between OldArrive _

pub returns-clause-host : goal.returns-clause-host
returns-clause-host g c = λ one two. host_round_is_late_round _

pub returns-clause-hosts : goal.returns-clause-hosts
returns-clause-hosts g c = λ one two. host_rounds_are_late_rounds _

pub returns-clause-beside : goal.returns-clause-beside
returns-clause-beside g c =
    λ one two l. asking_is_played (LeavesPorts (λ s. port_at s l)) (come_beside (λ s. port_at s l)) OldArrive _

pub returns-clause-several : goal.returns-clause-several
returns-clause-several g c = λ one two. asking_is_several IsBetweenTicks come_between _

pub returns-clause-several_beside : goal.returns-clause-several_beside
returns-clause-several_beside g c = λ one two l. asking_is_several (LeavesPorts (λ s. port_at s l)) (come_beside (λ s. port_at s l)) _

pub returns-clause-several_late : goal.returns-clause-several_late
returns-clause-several_late g c = λ one two. rounds_once IsBetweenTicks most_ticks _ (omega arith)
