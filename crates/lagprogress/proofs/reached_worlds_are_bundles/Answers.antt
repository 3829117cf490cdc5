use Rattle.lagprogress.proofs.Common.{BothAreActive, OneIsActive}
use Rattle.lagprogress.proofs.MadeWorlds.{host_reached_is_bundle, reached_apart, reached_is_bundle}
use Rattle.lagprogress.proofs.reached_worlds_are_bundles.Goals as goal

pub returns-clause-both : goal.returns-clause-both
returns-clause-both g c = λ one two. reached_is_bundle BothAreActive _

pub returns-clause-one : goal.returns-clause-one
returns-clause-one g c = λ one two. reached_is_bundle OneIsActive _

pub returns-clause-apart : goal.returns-clause-apart
returns-clause-apart g c = λ one two. reached_apart _

pub returns-clause-hosts_both : goal.returns-clause-hosts_both
returns-clause-hosts_both g c = λ one two. host_reached_is_bundle BothAreActive _

pub returns-clause-hosts_one : goal.returns-clause-hosts_one
returns-clause-hosts_one g c = λ one two. host_reached_is_bundle OneIsActive _
