use Rattle.slowpdu.proofs.Common.{Err, length, rules, slice_index, OtherSubtype, Short}
use Rattle.slowpdu.proofs.PduLemmas.{decoded_only, first_decide}
use Rattle.slowpdu.proofs.decoding.decode.Goals as goal

pub returns-then-payload-lt-PAYLOAD_LEN-clause-first_octets : goal.returns-then-payload-lt-PAYLOAD_LEN-clause-first_octets
returns-then-payload-lt-PAYLOAD_LEN-clause-first_octets c = let b = c.args.payload.now in
    first_decide b (Err (Short (length b))) (search rules)

pub returns-in-1-clause-only : goal.returns-in-1-clause-only
returns-in-1-clause-only c = decoded_only c.args.payload.now c.decode_lacpdu.result c.decode_lacpdu.ensures

pub returns-in-1-clause-first_octets : goal.returns-in-1-clause-first_octets
returns-in-1-clause-first_octets c = first_decide c.args.payload.now c.decode_lacpdu.result c.decode_lacpdu.ensures

pub returns-in-2-clause-only : goal.returns-in-2-clause-only
returns-in-2-clause-only c = decoded_only c.args.payload.now c.decode_marker.result c.decode_marker.ensures

pub returns-in-2-clause-first_octets : goal.returns-in-2-clause-first_octets
returns-in-2-clause-first_octets c = first_decide c.args.payload.now c.decode_marker.result c.decode_marker.ensures

pub returns-in_default-clause-first_octets : goal.returns-in_default-clause-first_octets
returns-in_default-clause-first_octets c = let b = c.args.payload.now in
    first_decide b (Err (OtherSubtype (slice_index b 0))) (search rules)
