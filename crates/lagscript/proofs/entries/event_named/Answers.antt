use Rattle.lagscript.proofs.Common.{codes, map, sym, ◌∙◌, event_named, ReadsEntryAs, word_octets}
use Rattle.lagscript.proofs.EntryLemmas.{of_name}
use Rattle.lagscript.proofs.entries.event_named.Goals as goal

pub returns-then-eq : goal.returns-then-eq
returns-then-eq c =
    of_name (λ n. ReadsEntryAs (event_named c.args.cables n (map word_octets c.args.words.now)) c.offer.result) c.args.name.now (codes "offer")
    (sym c.eq.ensures ∙ c.if-eq.true) (c.offer.ensures c.args.cables)
