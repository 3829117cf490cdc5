use Rattle.lagworld.proofs.Common.{refl, true, ◌≡◌, false≢true, Event, may_take_memory}
use Rattle.lagscript.specs.declared.event.Event.TheVariants as event
use Rattle.lagworld.specs.Limits.{HandlesFrames, emit, deliver, repeat, offer}
use Rattle.lagworld.proofs.laws.events_have_limits.Goals as goal

of_four : (e : Event) → may_take_memory e ≡ true → HandlesFrames e
of_four (event.Emit system port) h = emit system port
of_four (event.Deliver cable system) h = deliver cable system
of_four (event.Repeat cable system) h = repeat cable system
of_four (event.Offer system agg frame) h = offer system agg frame
of_four _ h = absurd (false≢true h)

takes : (e : Event) → HandlesFrames e → may_take_memory e ≡ true
takes _ (emit system port) = refl
takes _ (deliver cable system) = refl
takes _ (repeat cable system) = refl
takes _ (offer system agg frame) = refl

pub returns-clause-most : goal.returns-clause-most
returns-clause-most c = refl

pub returns-clause-memory : goal.returns-clause-memory
returns-clause-memory c = λ e. (of_four e, takes e)
