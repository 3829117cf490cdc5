use Rattle.lagsystem.proofs.Common.{◌≡◌, ◌≤◌, ForcesIn}
use Rattle.lagsystem.proofs.calls.System.force_held_in.Given as goal

abbrev pub invariant-loop-conv : goal.invariant-loop-conv
invariant-loop-conv g l = record {
  forced : ForcesIn (λ conv count place. g.F.Fn.post l.initial.self.algorithm (conv, (count, tt)) place) l.port l.agg l.conv
      l.initial.self.state l.forced l.self.state;
  keys : l.self.state.keys ≡ l.initial.self.state.keys;
  conversations : l.self.state.conversations ≡ l.initial.self.state.conversations;
  few : l.forced ≤ l.conv;
  algorithm : l.self.algorithm ≡ l.initial.self.algorithm;
}
