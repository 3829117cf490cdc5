use Rattle.lagtool_capture.proofs.Common.{ap, ◌∙◌, what_of}
use Rattle.lagtool_capture.proofs.ContentLemmas.{content_is}
use Rattle.lagtool_capture.proofs.slow_frames.what_in.Goals as goal

pub returns : goal.returns
returns c = c.what_of.ensures ∙ ap what_of (content_is c.args.payload.now c.decode.result c.decode.ensures.found c.decode.ensures.fault)
