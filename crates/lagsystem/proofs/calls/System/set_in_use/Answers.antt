use Rattle.lagsystem.proofs.Common.{Setting}
use Rattle.lagsystem.proofs.SettingsKeep.{setting_promise, setting_sound}
use Rattle.lagsystem.proofs.calls.System.set_in_use.Goals as goal

pub invariant_of-self : goal.invariant_of-self
invariant_of-self g c = setting_sound _ (Setting.Set_in_use c.args.agg c.args.in_use) c.set_in_use.result _ c.set_in_use.ensures.step c.self.invariant

pub returns-clause-promise : goal.returns-clause-promise
returns-clause-promise g c = rw (← c.self.view_is) (setting_promise _ _ _ _ c.set_in_use.ensures.step c.self.invariant)
