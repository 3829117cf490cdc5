use Rattle.lagprogress.proofs.Common.{inr}
use Rattle.lagprogress.proofs.Played.{if_err, if_ok, on_err, round_played, stops_asking, stops_delivering, stops_ticking, too_many}
use Rattle.lagprogress.proofs.playing.play_round.Goals as goal

pub ask_all-requires-clause-one : goal.ask_all-requires-clause-one
ask_all-requires-clause-one g c = rw c.play.ensures.algorithm_one c.requires.one

pub ask_all-requires-clause-two : goal.ask_all-requires-clause-two
ask_all-requires-clause-two g c = rw c.play.ensures.algorithm_two c.requires.two

pub deliver_all-requires-clause-one : goal.deliver_all-requires-clause-one
deliver_all-requires-clause-one g c = rw (c.ask_all.ensures.algorithm_one, c.play.ensures.algorithm_one) c.requires.one

pub deliver_all-requires-clause-two : goal.deliver_all-requires-clause-two
deliver_all-requires-clause-two g c = rw (c.ask_all.ensures.algorithm_two, c.play.ensures.algorithm_two) c.requires.two

pub returns-in_default-clause-refused : goal.returns-in_default-clause-refused
returns-in_default-clause-refused g c = inr (too_many c.cables.result c.args.world.now.state c.cables.ensures c.in_default.ensures)

pub returns-in_default-clause-part : goal.returns-in_default-clause-part
returns-in_default-clause-part g c = inr (inr (too_many c.cables.result c.args.world.now.state c.cables.ensures c.in_default.ensures))

pub returns-in_err-play-clause-part : goal.returns-in_err-play-clause-part
returns-in_err-play-clause-part g c = on_err _ c.in_err-play.field-0.0 c.from_residual.result c.from_residual.ensures.1
    (stops_ticking _ _ _ _ c.in_err-play.ensures.part)

pub returns-in_err-ask_all-clause-part : goal.returns-in_err-ask_all-clause-part
returns-in_err-ask_all-clause-part g c = on_err _ c.in_err-ask_all.field-0.0 c.from_residual-in_err-ask_all.result
    c.from_residual-in_err-ask_all.ensures.1
    (stops_asking _ _ c.args.world.now.state c.play.new.world.state _ c.play.ensures.fixed c.in_ok-play.ensures.all
    (rw (c.play.ensures.algorithm_one, c.play.ensures.algorithm_two) at c.in_err-ask_all.ensures.part))

pub returns-clause-round : goal.returns-clause-round
returns-clause-round g c = if_ok _ _ c.deliver_all.result
    (λ done empty. round_played _ c.args.world.now.state c.play.new.world.state c.ask_all.new.world.state _ c.play.ensures.fixed
    c.in_ok-play.ensures.all (rw (c.play.ensures.algorithm_one, c.play.ensures.algorithm_two) at c.in_ok-ask_all.ensures.all)
    (rw (c.ask_all.ensures.algorithm_one, c.play.ensures.algorithm_one, c.ask_all.ensures.algorithm_two, c.play.ensures.algorithm_two)
    at c.deliver_all.ensures.delivers) empty) c.deliver_all.ensures.empties

pub returns-clause-part : goal.returns-clause-part
returns-clause-part g c = if_err _ _ c.deliver_all.result
    (λ fault next. stops_delivering _ fault c.args.world.now.state c.play.new.world.state c.ask_all.new.world.state _ c.play.ensures.fixed
    c.in_ok-play.ensures.all (rw (c.play.ensures.algorithm_one, c.play.ensures.algorithm_two) at c.in_ok-ask_all.ensures.all)
    (rw (c.ask_all.ensures.algorithm_one, c.play.ensures.algorithm_one, c.ask_all.ensures.algorithm_two, c.play.ensures.algorithm_two)
    at c.deliver_all.ensures.delivers) next) c.deliver_all.ensures.next
