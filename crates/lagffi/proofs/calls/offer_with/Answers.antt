use Rattle.lagffi.proofs.Common.{Offer, CallPromise}
use Rattle.lagsystem.specs.declared.drive.Reply.TheVariants as reply
use Rattle.lagffi.proofs.AlgorithmLemmas.{by_first_2, by_number_0, by_sum_1}
use Rattle.lagffi.proofs.calls.offer_with.Goals as goal

pub returns-then-algorithm-ge2-clause-answers : goal.returns-then-algorithm-ge2-clause-answers
returns-then-algorithm-ge2-clause-answers c =
    by_first_2 (λ gives. CallPromise gives c.args.kept.state (Offer c.args.agg c.args.frame.now)
    (reply.Offer c.offer_by.result.0) c.offer_by.result.1.state)
    c.args.algorithm c.if-algorithm-ge2.true c.offer_by.ensures.answers

pub returns-then-algorithm-ge1-clause-answers : goal.returns-then-algorithm-ge1-clause-answers
returns-then-algorithm-ge1-clause-answers c =
    by_sum_1 (λ gives. CallPromise gives c.args.kept.state (Offer c.args.agg c.args.frame.now)
    (reply.Offer c.offer_by-then-algorithm-ge1.result.0) c.offer_by-then-algorithm-ge1.result.1.state)
    c.args.algorithm c.if-algorithm-ge1.true c.if-algorithm-ge2.false c.offer_by-then-algorithm-ge1.ensures.answers

pub returns-clause-answers : goal.returns-clause-answers
returns-clause-answers c = by_number_0 (λ gives. CallPromise gives c.args.kept.state (Offer c.args.agg c.args.frame.now)
    (reply.Offer c.offer_by-2.result.0) c.offer_by-2.result.1.state)
    c.args.algorithm c.if-algorithm-ge1.false c.offer_by-2.ensures.answers
