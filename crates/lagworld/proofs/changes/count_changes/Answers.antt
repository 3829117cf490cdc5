use Rattle.lagworld.proofs.Common.{ap, arith, set, ◌∙◌, map_over_more, most_events, change_counted, with_party_recorded}
use Rattle.lagworld.proofs.InPlace.{below_at}
use Rattle.lagworld.proofs.changes.count_changes.Goals as goal

pub record_party-requires : goal.record_party-requires
record_party-requires g c =
    below_at most_events c.loop-index.index (change_counted c.args.system.now.state) c.args.histories.now.items c.loop-index.histories.items
    c.index_mut-history.result.now
    (omega (arith, c.len-index-end.ensures)) c.requires c.loop-index.invariant c.index_mut-history.ensures.value

pub loop-index-preserved : goal.loop-index-preserved
loop-index-preserved g c = let history = c.index_mut-history.result.now in
    ap (set c.loop-index.histories.items c.loop-index.index) (c.record_party.ensures
    ∙ ap (λ o. with_party_recorded o history) c.party.ensures)
    ∙ map_over_more (change_counted c.args.system.now.state) c.args.histories.now.items c.loop-index.histories.items
    c.loop-index.index history
    (omega (arith, c.len-index-end.ensures)) c.loop-index.invariant c.index_mut-history.ensures.value
