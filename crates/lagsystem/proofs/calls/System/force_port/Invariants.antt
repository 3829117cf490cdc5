use Rattle.lagsystem.proofs.Common.{◌*◌, ◌≡◌, ◌≤◌, ForcesFirst}
use Rattle.lagsystem.proofs.calls.System.force_port.Given as goal

abbrev pub invariant-loop-before : goal.invariant-loop-before
invariant-loop-before g l = record {
  forced : ForcesFirst (λ conv count place. g.F.Fn.post l.initial.self.algorithm (conv, (count, tt)) place) l.port l.before
      l.initial.self.state l.forced l.self.state;
  keys : l.self.state.keys ≡ l.initial.self.state.keys;
  few : l.forced ≤ l.before * 65535;
  algorithm : l.self.algorithm ≡ l.initial.self.algorithm;
}
