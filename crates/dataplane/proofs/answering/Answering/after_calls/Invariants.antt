use Rattle.dataplane.proofs.Common.{map, ◌≡◌, call_of, notes_after_all}
use Rattle.dataplane.proofs.answering.Answering.after_calls.Given as goal

abbrev pub invariant-loop-call : goal.invariant-loop-call
invariant-loop-call g l =
    notes_after_all (map call_of l.call-iterator.a.rest.now) l.call-iterator.b.rest.now l.system.state.system_ports l.self
    ≡ notes_after_all (map call_of l.fn.calls) l.fn.replies l.fn.system.state.system_ports l.fn.self
