use Rattle.lagsystem.proofs.Common.{Setting}
use Rattle.lagsystem.proofs.SettingsKeep.{setting_promise, setting_sound}
use Rattle.lagsystem.proofs.calls.System.set_mode.Goals as goal

pub invariant_of-self : goal.invariant_of-self
invariant_of-self g c = setting_sound _ (Setting.Set_mode c.args.port c.args.active c.args.short) c.set_mode.result _ c.set_mode.ensures.step c.self.invariant

pub returns-clause-promise : goal.returns-clause-promise
returns-clause-promise g c = rw (← c.self.view_is) (setting_promise _ _ _ _ c.set_mode.ensures.step c.self.invariant)
