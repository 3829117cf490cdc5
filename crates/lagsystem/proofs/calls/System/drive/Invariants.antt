use Rattle.lagsystem.proofs.Common.{length, map, take, vec_capacity, vec_len, ◌≡◌, ◌≤◌, Drives, call_of}
use Rattle.lagsystem.proofs.calls.System.drive.Given as goal

abbrev pub invariant-loop-call : goal.invariant-loop-call
invariant-loop-call g l = record {
  driven : Drives (λ conv count place. g.F.Fn.post l.initial.self.algorithm (conv, (count, tt)) place) l.initial.self.state
      (map call_of (take l.call-index l.calls)) l.replies.items l.self.state;
  algorithm : l.self.algorithm ≡ l.initial.self.algorithm;
  count : vec_len l.replies ≡ l.call-index;
  room : length l.calls ≤ vec_capacity l.replies;
}
