use Rattle.lagsystem.proofs.Common.{Setting}
use Rattle.lagsystem.proofs.SettingsKeep.{setting_promise, setting_sound}
use Rattle.lagsystem.proofs.calls.System.hold_port.Goals as goal

pub invariant_of-self : goal.invariant_of-self
invariant_of-self g c = setting_sound _ (Setting.Hold_port c.args.port c.args.held) c.hold_port.result _ c.hold_port.ensures.step c.self.invariant

pub returns-clause-promise : goal.returns-clause-promise
returns-clause-promise g c = rw (← c.self.view_is) (setting_promise _ _ _ _ c.hold_port.ensures.step c.self.invariant)
