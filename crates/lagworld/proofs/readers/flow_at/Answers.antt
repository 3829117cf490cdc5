use Rattle.lagworld.proofs.Common.{Global, None, Some, arith, length, map, subst, suc, ◌<◌, ◌≡◌, ◌≤◌, Flow, flow_value, flow_at}
use Rattle.std.proofs.Common.{Vec}
use Rattle.lagworld.proofs.Finding.{flow_there, flow_past}
use Rattle.lagworld.proofs.readers.flow_at.Goals as goal

pub returns-then-conv-len : goal.returns-then-conv-len
returns-then-conv-len c = let row = c.index-flows-index.result in
    let place : c.args.agg.0 ≡ suc c.in-Some.index = omega (arith, c.from.ensures, c.in-Some.ensures.0, c.in-Some.ensures.1) in
    let within : c.in-Some.index < length c.args.flows.now = omega arith in
    let past : length row.items ≤ c.from-conv.result = omega (arith, c.len.ensures, c.if-conv-len.true) in
    subst (λ k. flow_at (map (λ (xs : Vec Flow Global). map flow_value xs.items) c.args.flows.now) c.args.agg.0 k ≡ None)
    c.from-conv.ensures
    (flow_past flow_value (λ (xs : Vec Flow Global). xs.items) c.args.flows.now c.args.agg.0 c.in-Some.index c.from-conv.result row place
    within c.index-flows-index.is past)

pub returns : goal.returns
returns c = let row = c.index-flows-index.result in
    let place : c.args.agg.0 ≡ suc c.in-Some.index = omega (arith, c.from.ensures, c.in-Some.ensures.0, c.in-Some.ensures.1) in
    let within : c.in-Some.index < length c.args.flows.now = omega arith in
    let inside : c.from-conv.result < length row.items = omega (arith, c.len.ensures, c.if-conv-len.false) in
    subst (λ k. flow_at (map (λ (xs : Vec Flow Global). map flow_value xs.items) c.args.flows.now) c.args.agg.0 k ≡ Some
    (flow_value c.index.result.now)) c.from-conv.ensures
    (flow_there flow_value (λ (xs : Vec Flow Global). xs.items) c.args.flows.now c.args.agg.0 c.in-Some.index c.from-conv.result row
    c.index.result.now place within c.index-flows-index.is inside c.index.ensures)
