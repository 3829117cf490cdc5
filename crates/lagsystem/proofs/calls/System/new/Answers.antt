use Rattle.lagsystem.proofs.Common.{inner_state}
use Rattle.lagsystem.proofs.FirstView.{first_shows}
use Rattle.lagsystem.proofs.Keeps.{is_accepted}
use Rattle.lagsystem.proofs.Sound.{agrees}
use Rattle.lagsystem.proofs.calls.System.new.Goals as goal

pub returns-clause-accepted : goal.returns-clause-accepted
returns-clause-accepted g c = is_accepted c.args.config (inner_state c.in_ok-inner.inner) c.in_ok-inner.ensures.made.configured
    c.in_ok-inner.ensures.made.sound.ports.accepted

pub returns-clause-shows : goal.returns-clause-shows
returns-clause-shows g c = first_shows (inner_state c.in_ok-inner.inner) c.in_ok-inner.ensures.made.first

pub returns-clause-agrees : goal.returns-clause-agrees
returns-clause-agrees g c = agrees (inner_state c.in_ok-inner.inner) c.in_ok-inner.ensures.made.sound
