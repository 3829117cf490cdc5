use Rattle.dataplane.proofs.answering.Answering.after_call.Goals as goal

pub returns-in-Receive-Receive : goal.returns-in-Receive-Receive
returns-in-Receive-Receive g c = rw (c.in-Receive-Receive.is-0, c.in-Receive-Receive.is-1, ← c.deref.ensures.value) c.after_receive.ensures
