use Rattle.lagsystem.proofs.Common.{Ok, refl, inner_state, Setting}
use Rattle.lagsystem.proofs.SettingsKeep.{setting_promise, setting_sound}
use Rattle.lagsystem.proofs.calls.System.set_max_delay.Goals as goal

pub invariant_of-self : goal.invariant_of-self
invariant_of-self g c = setting_sound (inner_state c.self.inside.inner) (Setting.Set_max_delay c.args.max_delay) (Ok tt) _ refl c.self.invariant

pub returns-clause-promise : goal.returns-clause-promise
returns-clause-promise g c = rw (← c.self.view_is)
    (setting_promise (inner_state c.self.inside.inner) (Setting.Set_max_delay c.args.max_delay) (Ok tt) _ refl c.self.invariant)
