use Rattle.law_answers.proofs.SettingAnswers.{each_setting}
use Rattle.law_answers.proofs.each_setting_has_an_answer.Goals as goal

pub returns : goal.returns
returns c = each_setting
