use Rattle.lagworld.proofs.Common.{List, ap, drop, length, length-drop, subst, sym, take, ℕ, ◌-◌, ◌∙◌, ◌≡◌, ReadsPdu, pdu_read, payload_in}
use Rattle.std.proofs.Math.Seq.{take-length}
use Rattle.lagworld.proofs.emitting.pdu_of.Goals as goal

rest_is : (b : List ℕ) → take (length b - 14) (drop 14 b) ≡ drop 14 b
rest_is b = ap (λ n. take n (drop 14 b)) (sym (length-drop 14 b)) ∙ take-length (drop 14 b)

pub returns : goal.returns
returns c = sym (pdu_read (payload_in c.args.octets.now) c.in-Ok.pdu
    (subst (λ b. ReadsPdu b c.in-Ok.pdu) (rest_is c.args.octets.now) c.in-Ok.ensures.found))

pub unreachable-requires : goal.unreachable-requires
unreachable-requires c = let same = c.decode.ensures.only c.requires.reads.0
    (subst (λ b. ReadsPdu b c.requires.reads.0) (sym (rest_is c.args.octets.now)) c.requires.reads.1) in
    let refused = c.in-Err.is in
    cc
