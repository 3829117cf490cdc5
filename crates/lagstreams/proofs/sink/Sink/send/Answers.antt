use Rattle.std.proofs.Common.{[], append-nil, sym}
use Rattle.lagstreams.proofs.SinkLemmas.{breaks_after, on_err, sends_flushed}
use Rattle.lagstreams.proofs.sink.Sink.send.Goals as goal

pub returns-in_err-flush-clause-err : goal.returns-in_err-flush-clause-err
returns-in_err-flush-clause-err g c = let (kept, failed) = c.in_err-flush.ensures.err in
    let octets = c.args.octets.now in
    on_err _ (breaks_after g.W.Write.contents c.args.self.now c.put.new.self c.flush.new.self octets octets [] (sym (append-nil octets))
    c.in_ok-put.ensures.ok kept failed)
