use Rattle.lagsystem.proofs.Common.{ap, arith, false, length, subst, sym, ◌+◌, ◌<◌, ◌∙◌, ◌≡◌, ◌≤◌, OnFalse_at, false≢true, slice_get-get_or, AggId}
use Rattle.lagsystem.proofs.Common.{is_standby, has_room, views}
use Rattle.lagsystem.proofs.FrontLemmas.{first_not_standby, first_within}
use Rattle.lagsystem.proofs.NextLemmas.{no_room_more, none_next, same_standby}
use Rattle.lagsystem.proofs.MemberCounts.{counted_full}
use Rattle.lagsystem.proofs.promoting.some_may_have_room.Goals as goal
use Rattle.lagsystem.proofs.promoting.some_may_have_room.Goals.{in-Standby+else-may_have_room, in_default}

pub loop-place-init : goal.loop-place-init
loop-place-init c = let l = c.args.system_ports.now in
    let within = first_within l c.args.first c.requires.first in
    record {
      none = λ k s agg lt there stands. absurd (false≢true (sym (first_not_standby l c.args.first k s c.requires.first lt there) ∙ ap is_standby stands));
      within = omega (arith, within);
    }

pub loop-place-preserved : goal.loop-place-preserved
loop-place-preserved c = let aggs = c.args.aggregators.now in
    let l = c.args.system_ports.now in
    let i = c.loop-place.invariant in
    let there = slice_get-get_or l c.loop-place.place c.index-system_ports-place.result c.loop-place-test.true in
    let more : c.loop-place.place + 1 ≤ length l = omega (arith, c.loop-place-test.true) in
    elim c.match-choice.branch [
      | in-Standby+else-may_have_room w ↦
          (let low : w.in-Standby.agg.0 < 65 = OnFalse_at w.if-may_have_room.false w.may_have_room.ensures.counted in
          let none : has_room aggs (views l) w.in-Standby.agg ≡ false =
          counted_full aggs l w.in-Standby.agg c.member_counts-counts.result c.max_links-max_links.result c.member_counts-counts.ensures c.max_links-max_links.ensures
          low (sym (w.may_have_room.ensures.exact low) ∙ w.if-may_have_room.false) in
          record {
            none = no_room_more aggs l c.loop-place.place _ there i.none
                (λ agg e. subst (λ (a : AggId). has_room aggs (views l) a ≡ false)
                (same_standby w.in-Standby.agg agg (sym w.in-Standby.is ∙ c.choice.ensures ∙ e)) none);
            within = more;
          })
      | in_default w ↦ record {
        none = no_room_more aggs l c.loop-place.place _ there i.none
            (λ agg e. absurd (w.in_default.not-Standby agg (c.choice.ensures ∙ e)));
        within = more;
      }
    ]

pub returns : goal.returns
returns c = none_next c.args.aggregators.now c.args.system_ports.now c.loop-place.place (omega (arith, c.loop-place-test.false))
    c.loop-place.invariant.none
