use Rattle.slowpdu.proofs.Common.{List, [], ap, arith, length-append, ℕ, ◌++◌, ◌+◌, ◌∙◌, ◌∷◌, ◌≡◌, big_bytes, octet, replaced}
use Rattle.slowpdu.proofs.WritingLemmas.{then_put}
use Rattle.slowpdu.proofs.encoding.put_info.Goals as goal

pub returns-clause-put_octets : goal.returns-clause-put_octets
returns-clause-put_octets c = let info = c.args.info in
    let at = c.args.offset in
    let state : List ℕ = octet info.state ∷ [] in
    let number : List ℕ = big_bytes 2 info.port.number in
    let priority : List ℕ = big_bytes 2 info.port.priority in
    let key : List ℕ = big_bytes 2 info.key.0 in
    let bits : c.bits.result ≡ octet info.state = c.bits.ensures tt in
    let last : c.put_octets.new.payload ≡ replaced c.put_u16-4.new.payload (at + 14) state = c.put_octets.ensures
    ∙ ap (λ (s : ℕ). replaced c.put_u16-4.new.payload (at + 14) (s ∷ [])) bits in
    let five = then_put c.put_u16-3.new.payload c.put_u16-4.new.payload c.put_octets.new.payload number state (at + 12)
    (at + 14) c.put_u16-4.ensures.put_octets last (omega arith) (omega arith) in
    let four = then_put c.put_u16-2.new.payload c.put_u16-3.new.payload c.put_octets.new.payload priority (number ++ state) (at + 10)
    (at + 12) c.put_u16-3.ensures.put_octets five (omega arith) (omega arith) in
    let three = then_put c.put_mac.new.payload c.put_u16-2.new.payload c.put_octets.new.payload key (priority ++ (number ++ state)) (at + 8)
    (at + 10) c.put_u16-2.ensures.put_octets four (omega arith) (omega arith) in
    let two = then_put c.put_u16.new.payload c.put_mac.new.payload c.put_octets.new.payload info.system.mac (key
    ++ (priority ++ (number ++ state))) (at + 2) (at + 8) c.put_mac.ensures.put_octets three (omega arith) (omega arith) in
    then_put c.args.payload.now c.put_u16.new.payload c.put_octets.new.payload (big_bytes 2 info.system.priority) (info.system.mac
    ++ (key ++ (priority ++ (number ++ state)))) at (at + 2) c.put_u16.ensures.put_octets two (omega arith)
    (omega (arith, length-append {A = ℕ}))
