-- What is sent is a control frame of 124 octets.
use Rattle.lagsystem.proofs.Common.{List, ap, arith, drop, length, length-append, subst, sym, ℕ, ◌++◌, ◌∙◌, ◌≡◌, nat_tests, Pdu, IsSlowProtocolsFrame}
use Rattle.lagsystem.proofs.Common.{frame_octets, slow_type, WritesPdu, framed_payload, framed_slow, IsControlFrame, IsSent}

whole_payload : (written : List ℕ) (payload : Pdu) → WritesPdu written payload → length written ≡ 110
whole_payload written payload h = grind (arith, nat_tests)

frame_length : (mac written : List ℕ) → length mac ≡ 6 → length written ≡ 110 → length (frame_octets mac written) ≡ 124
frame_length mac written m w = let a = length-append mac (slow_type ++ written) in omega (arith, a, m, w)

pub sent_length : (octets : List ℕ) (payload : Pdu) → IsSent octets payload → length octets ≡ 124
sent_length octets payload h = ap (λ (l : List ℕ). length l) h.4 ∙ frame_length h.0 h.1 h.2.0 (whole_payload h.1 payload h.3)

pub sent_control : (octets : List ℕ) (payload : Pdu) → IsSent octets payload → IsControlFrame octets
sent_control octets payload h = let long = sent_length octets payload h in
    (omega (arith, long), subst (λ l. IsSlowProtocolsFrame l) (sym h.4) (framed_slow h.0 h.1 h.2.0))

-- behind its header stands its PDU
pub sent_payload : (octets : List ℕ) (payload : Pdu) → IsSent octets payload → WritesPdu (drop 14 octets) payload
sent_payload octets payload h = grind (arith, nat_tests, framed_payload)
