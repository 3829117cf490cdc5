use Rattle.slowpdu.proofs.Common.{List, [], arith, length-append, replicate, ℕ, ◌++◌, ◌∷◌}
use Rattle.slowpdu.proofs.WritingLemmas.{all_put, then_put}
use Rattle.slowpdu.proofs.frames.frame.Goals as goal

pub returns : goal.returns
returns c = let source = c.args.src in
    let payload = c.args.payload.now in
    let group : List ℕ = 0x01 ∷ 0x80 ∷ 0xc2 ∷ 0x00 ∷ 0x00 ∷ 0x02 ∷ [] in
    let kind : List ℕ = 0x88 ∷ 0x09 ∷ [] in
    let three = then_put c.put_octets-2.new.payload c.put_octets-3.new.payload c.put_octets-4.new.payload kind payload 12 14
    c.put_octets-3.ensures c.put_octets-4.ensures (omega arith) (omega arith) in
    let two = then_put c.put_octets.new.payload c.put_octets-2.new.payload c.put_octets-4.new.payload source (kind
    ++ payload) 6 12 c.put_octets-2.ensures three (omega arith) (omega arith) in
    let one = then_put (replicate 124 0) c.put_octets.new.payload c.put_octets-4.new.payload group (source ++ (kind ++ payload)) 0 6
    c.put_octets.ensures two (omega arith) (omega (arith, length-append {A = ℕ})) in
    all_put (replicate 124 0) c.put_octets-4.new.payload (group ++ (source ++ (kind ++ payload))) one (omega (arith, length-append {A = ℕ}))
