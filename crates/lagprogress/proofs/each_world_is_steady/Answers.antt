use Rattle.lagprogress.proofs.Halves.{keeps_steady, start_steady}
use Rattle.lagprogress.proofs.HostSteady.{host_reached_steady, hosts_keep_steady}
use Rattle.lagprogress.proofs.MadeWorlds.{reached_steady, runs_steady}
use Rattle.lagprogress.proofs.WarmStarts.{warm_start_is_steady}
use Rattle.lagprogress.proofs.each_world_is_steady.Goals as goal

pub returns-clause-start : goal.returns-clause-start
returns-clause-start g c = start_steady

pub returns-clause-kept : goal.returns-clause-kept
returns-clause-kept g c = λ one two. keeps_steady _

pub returns-clause-run : goal.returns-clause-run
returns-clause-run g c = λ one two. runs_steady _

pub returns-clause-reached : goal.returns-clause-reached
returns-clause-reached g c = λ one two. reached_steady _

pub returns-clause-hosts : goal.returns-clause-hosts
returns-clause-hosts g c = λ one two. hosts_keep_steady _

pub returns-clause-hosts_reached : goal.returns-clause-hosts_reached
returns-clause-hosts_reached g c = λ one two. host_reached_steady _

pub returns-clause-warm : goal.returns-clause-warm
returns-clause-warm g c = λ algorithm. warm_start_is_steady _
