use Rattle.std.proofs.Common.{subst}
use Rattle.lagscript.specs.Entries.{event_named}
use Rattle.lagexplain.proofs.NameLemmas.{AreOfName, names_agree}
use Rattle.lagexplain.proofs.laws.events_are_those_of_scripts.Goals as goal

pub returns-clause-others : goal.returns-clause-others
returns-clause-others c = λ cables name words none.
    subst (λ kinds. AreOfName cables kinds (event_named cables name)) none (names_agree cables name) words

pub returns-clause-count : goal.returns-clause-count
returns-clause-count c = λ cables name kinds words known other.
    (subst (λ kinds. AreOfName cables kinds (event_named cables name)) known (names_agree cables name)).0 words other

pub returns-clause-words : goal.returns-clause-words
returns-clause-words c = λ cables name kinds words known same.
    (subst (λ kinds. AreOfName cables kinds (event_named cables name)) known (names_agree cables name)).1 words same
