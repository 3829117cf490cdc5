use Rattle.lagprogress.proofs.Common.{arith, inl, inr, One}
use Rattle.lagprogress.proofs.Looping.{host_round_drains, plays_host_round, stops_after_ticks, stops_later}
use Rattle.lagprogress.proofs.Played.{if_err, if_ok, on_err, too_many}
use Rattle.lagprogress.proofs.loops.play_host_round.Goals as goal

pub ask_ends-requires-clause-one : goal.ask_ends-requires-clause-one
ask_ends-requires-clause-one g c = rw c.play.ensures.algorithm_one c.requires.one

pub ask_ends-requires-clause-two : goal.ask_ends-requires-clause-two
ask_ends-requires-clause-two g c = rw c.play.ensures.algorithm_two c.requires.two

pub deliver_and_ask-requires-clause-one : goal.deliver_and_ask-requires-clause-one
deliver_and_ask-requires-clause-one g c = rw (c.ask_ends.ensures.algorithm_one, c.play.ensures.algorithm_one) c.requires.one

pub deliver_and_ask-requires-clause-two : goal.deliver_and_ask-requires-clause-two
deliver_and_ask-requires-clause-two g c = rw (c.ask_ends.ensures.algorithm_two, c.play.ensures.algorithm_two) c.requires.two

pub returns-in_default-clause-refused : goal.returns-in_default-clause-refused
returns-in_default-clause-refused g c = inr (too_many c.cables.result c.args.world.now.state c.cables.ensures c.in_default.ensures)

pub returns-in_default-clause-part : goal.returns-in_default-clause-part
returns-in_default-clause-part g c = inr (inr (too_many c.cables.result c.args.world.now.state c.cables.ensures c.in_default.ensures))

pub returns-in_err-play-clause-part : goal.returns-in_err-play-clause-part
returns-in_err-play-clause-part g c =
    on_err _ c.in_err-play.field-0.0 c.from_residual.result c.from_residual.ensures.1 (inl c.in_err-play.ensures.part)

pub returns-in_err-ask_ends-clause-part : goal.returns-in_err-ask_ends-clause-part
returns-in_err-ask_ends-clause-part g c = on_err _ c.in_err-ask_ends.field-0.0 c.from_residual-in_err-ask_ends.result
    c.from_residual-in_err-ask_ends.ensures.1
    (stops_after_ticks _ _ _ _ _ c.in_ok-play.ensures.all
    (rw (c.play.ensures.algorithm_one, c.play.ensures.algorithm_two) at c.in_err-ask_ends.ensures.part))

pub returns-clause-plays : goal.returns-clause-plays
returns-clause-plays g c = if_ok _ _ c.deliver_and_ask.result
    (λ done h. plays_host_round _ c.in-Ok.count c.args.world.now.state c.play.new.world.state c.ask_ends.new.world.state _
    (omega (arith, c.cables.ensures, c.in-Ok.ensures)) c.play.ensures.fixed c.in_ok-play.ensures.all
    (rw (c.play.ensures.algorithm_one, c.play.ensures.algorithm_two) at c.in_ok-ask_ends.ensures.asks)
    (rw (c.ask_ends.ensures.algorithm_one, c.play.ensures.algorithm_one, c.ask_ends.ensures.algorithm_two, c.play.ensures.algorithm_two)
    at h)) c.deliver_and_ask.ensures.plays

pub returns-clause-drains : goal.returns-clause-drains
returns-clause-drains g c = if_ok _ _ c.deliver_and_ask.result
    (λ done h. host_round_drains _ c.args.world.now.state _ h) (returns-clause-plays g c)

pub returns-clause-round : goal.returns-clause-round
returns-clause-round g c = if_ok _ _ c.deliver_and_ask.result (λ done h steady. (h steady One 0 0).round) (returns-clause-drains g c)

pub returns-clause-part : goal.returns-clause-part
returns-clause-part g c = if_err _ _ c.deliver_and_ask.result
    (λ fault b. stops_after_ticks _ fault c.args.world.now.state c.play.new.world.state _ c.in_ok-play.ensures.all
    (stops_later _ fault c.play.new.world.state c.ask_ends.new.world.state _
    (rw (c.play.ensures.algorithm_one, c.play.ensures.algorithm_two) at c.in_ok-ask_ends.ensures.asks).played b))
    (rw (c.ask_ends.ensures.algorithm_one, c.play.ensures.algorithm_one, c.ask_ends.ensures.algorithm_two, c.play.ensures.algorithm_two)
    at c.deliver_and_ask.ensures.part)
