use Rattle.lagsystem.proofs.Windows.{starts_empty, window_from_start, window_law}
use Rattle.lagsystem.proofs.laws.window_holds.Goals as goal

pub returns-clause-window : goal.returns-clause-window
returns-clause-window g c = λ algorithm. window_law (λ conv count place. g.F.Fn.post algorithm (conv, (count, tt)) place)

pub returns-clause-empty : goal.returns-clause-empty
returns-clause-empty g c = starts_empty

pub returns-clause-start : goal.returns-clause-start
returns-clause-start g c = λ algorithm. window_from_start (λ conv count place. g.F.Fn.post algorithm (conv, (count, tt)) place)
