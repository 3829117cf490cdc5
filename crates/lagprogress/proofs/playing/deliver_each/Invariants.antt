use Rattle.lagprogress.proofs.Common.{false, true, ◌-◌, ◌<◌, ◌≡◌, ◌≤◌, most_events, world_setup, both_algorithms, Delivers}
use Rattle.lagprogress.proofs.Played.{IsQuiet}
use Rattle.lagprogress.proofs.playing.deliver_each.Given as goal

abbrev pub invariant-loop-seen : goal.invariant-loop-seen
invariant-loop-seen g l = record {
  within : l.seen ≤ l.fn.count;
  delivers : Delivers (both_algorithms (λ conv count place. g.F.Fn.post l.fn.world.one (conv, (count, tt)) place)
      (λ conv count place. g.F.Fn.post l.fn.world.two (conv, (count, tt)) place)) l.fn.world.state l.world.state;
  quiet : l.empty ≡ true → IsQuiet l.seen l.fn.world.state l.world.state;
  risen : l.fn.world.state.acted ≤ l.world.state.acted;
  acted : l.empty ≡ false → l.fn.world.state.acted < l.world.state.acted;
  few : l.empty ≡ false → l.world.state.acted ≤ most_events;
  fixed : world_setup l.world.state ≡ world_setup l.fn.world.state;
  one : l.world.one ≡ l.fn.world.one;
  two : l.world.two ≡ l.fn.world.two;
}

abbrev pub decreases-loop-seen : goal.decreases-loop-seen
decreases-loop-seen g l = l.fn.count - l.seen
