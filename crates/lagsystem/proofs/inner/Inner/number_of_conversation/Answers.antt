use Rattle.lagsystem.proofs.Common.{ap₂, arith, true, ◌-◌, ◌∙◌, ◌≡◌, bit_and, bit_xor, is_conversation_count, inner_state, two_octets}
use Rattle.lagsystem.proofs.OfferLemmas.{low_bits}
use Rattle.lagsystem.proofs.Rising.{accepted_count}
use Rattle.lagsystem.proofs.inner.Inner.number_of_conversation.Goals as goal

pub returns-clause-is : goal.returns-clause-is
returns-clause-is g c = let s = inner_state c.args.self.now in
    let octets = c.args.octets.now in
    let count : is_conversation_count s.conversations ≡ true = accepted_count s.keys s.ports s.max_links s.conversations c.requires.sound.ports.accepted in
    let destination : c.from_be_bytes-destination.result ≡ two_octets octets 4 = omega (arith, c.from_be_bytes-destination.ensures) in
    let source : c.from_be_bytes-source.result ≡ two_octets octets 10 = omega (arith, c.from_be_bytes-source.ensures) in
    ap₂ (λ x n. bit_and x (n - 1)) (ap₂ bit_xor destination source) c.conversations.ensures ∙ low_bits s.conversations _ count
