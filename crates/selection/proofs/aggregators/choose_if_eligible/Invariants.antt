use Rattle.selection.proofs.Common.{drop, ◌+◌, ◌≡◌, ◌≤◌, has_no_occupant, lowest, lowest_from, occupants_share_group, or_else, Tells}
use Rattle.selection.proofs.aggregators.choose_if_eligible.Given as goal

abbrev pub invariant-loop-key : goal.invariant-loop-key
invariant-loop-key l = record {
  place : l.number ≡ l.key-index;
  tells : Tells l.views l.port l.standings.before l.standings.list;
  behind : l.standings.before ≤ l.number;
  joinable : lowest_from (l.key-index + 1) (drop l.key-index l.keys) l.port.party.key (occupants_share_group l.views l.port) ≡ lowest l.keys
      l.port.party.key (occupants_share_group l.views l.port);
  vacant : or_else l.empty (lowest_from (l.key-index + 1) (drop l.key-index l.keys) l.port.party.key (has_no_occupant l.views)) ≡ lowest
      l.keys l.port.party.key (has_no_occupant l.views);
}
