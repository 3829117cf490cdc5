use Rattle.lagworld.proofs.OfferLemmas.{first_conversation}
use Rattle.lagworld.proofs.half.Half.conversation.Goals as goal

pub returns-in-None-clause-within : goal.returns-in-None-clause-within
returns-in-None-clause-within g c = first_conversation c.args.self.now.system.state c.requires.agrees
