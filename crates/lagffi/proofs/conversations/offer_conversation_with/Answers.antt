use Rattle.lagffi.proofs.Common.{OffersByNumber}
use Rattle.lagffi.proofs.AlgorithmLemmas.{by_first_2, by_number_0, by_sum_1}
use Rattle.lagffi.proofs.conversations.offer_conversation_with.Goals as goal

pub returns-then-algorithm-ge2 : goal.returns-then-algorithm-ge2
returns-then-algorithm-ge2 c =
    by_first_2 (λ gives. OffersByNumber gives c.args.agg c.args.conv c.args.kept.state c.offer_conversation_by.result.0
    c.offer_conversation_by.result.1.state) c.args.algorithm c.if-algorithm-ge2.true c.offer_conversation_by.ensures

pub returns-then-algorithm-ge1 : goal.returns-then-algorithm-ge1
returns-then-algorithm-ge1 c =
    by_sum_1 (λ gives. OffersByNumber gives c.args.agg c.args.conv c.args.kept.state c.offer_conversation_by-then-algorithm-ge1.result.0
    c.offer_conversation_by-then-algorithm-ge1.result.1.state) c.args.algorithm c.if-algorithm-ge1.true c.if-algorithm-ge2.false
    c.offer_conversation_by-then-algorithm-ge1.ensures

pub returns : goal.returns
returns c = by_number_0 (λ gives. OffersByNumber gives c.args.agg c.args.conv c.args.kept.state c.offer_conversation_by-2.result.0
    c.offer_conversation_by-2.result.1.state) c.args.algorithm c.if-algorithm-ge1.false c.offer_conversation_by-2.ensures
