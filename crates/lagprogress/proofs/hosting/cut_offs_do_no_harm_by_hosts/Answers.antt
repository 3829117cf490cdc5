use Rattle.lagprogress.proofs.BesideCutOffs.{each_link_agrees_beside_by_hosts, each_link_comes_up_beside_by_hosts, cut_off_is_defaulted_by_hosts}
use Rattle.lagprogress.proofs.hosting.cut_offs_do_no_harm_by_hosts.Goals as goal

pub returns-clause-defaulted : goal.returns-clause-defaulted
returns-clause-defaulted g c = λ one two. cut_off_is_defaulted_by_hosts _

pub returns-clause-up : goal.returns-clause-up
returns-clause-up g c = λ one two. each_link_comes_up_beside_by_hosts _

pub returns-clause-agrees : goal.returns-clause-agrees
returns-clause-agrees g c = λ one two. each_link_agrees_beside_by_hosts _
