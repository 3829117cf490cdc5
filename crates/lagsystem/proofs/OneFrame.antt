-- What a received frame asks for is one thing, and so is the frame that is sent.
use Rattle.lagsystem.proofs.Common.{Bool, List, None, Option, Some, ap, arith, drop, length, refl, sym, ℕ, ◌<◌, ◌∙◌, ◌≡◌, ◌≤◌, nat_tests, none-some}
use Rattle.lagsystem.proofs.Common.{same_Some, Marker, Pdu, fault_of, frame_octets, response_to, ReadsPdu, no_fault, one_pdu, one_written, pdu_of}
use Rattle.lagsystem.proofs.Common.{FrameEffect, Answered, Respond, SystemPort, AnswersMarker, Carries, Data_frame, Faulty, GivesEffect, IsFrame}
use Rattle.lagsystem.proofs.Common.{ParsesWhere, ReceivedFrame, Runt, IsLacpduOf}
use Rattle.slowpdu.specs.declared.fault.WireFault.{WireFault}
use Rattle.slowpdu.specs.declared.pdu.Pdu.TheVariants as pdu

read_faulty : (b : List ℕ) (v : Pdu) (e : WireFault) → ReadsPdu b v → fault_of b ≡ Some e → ⊥
read_faulty b v e h k = none-some e (sym (no_fault b v h) ∙ k)

long_runt : (n : ℕ) → n < 14 → 14 ≤ n → ⊥
long_runt n h k = omega (arith, h, k)

-- octets are one kind of frame
frame_one : (octets : List ℕ) (f g : ReceivedFrame) → IsFrame octets f → IsFrame octets g → f ≡ g
frame_one octets Runt Runt h k = refl
frame_one octets Runt Data_frame h k = absurd (long_runt (length octets) h k.0)
frame_one octets Runt (Faulty e) h k = absurd (long_runt (length octets) h k.0.0)
frame_one octets Runt (Carries v) h k = absurd (long_runt (length octets) h k.0.0)
frame_one octets Data_frame Runt h k = absurd (long_runt (length octets) k h.0)
frame_one octets Data_frame Data_frame h k = refl
frame_one octets Data_frame (Faulty e) h k = absurd (h.1 k.0.1)
frame_one octets Data_frame (Carries v) h k = absurd (h.1 k.0.1)
frame_one octets (Faulty e) Runt h k = absurd (long_runt (length octets) k h.0.0)
frame_one octets (Faulty e) Data_frame h k = absurd (k.1 h.0.1)
frame_one octets (Faulty e) (Faulty d) h k = ap Faulty (same_Some e d (sym h.1 ∙ k.1))
frame_one octets (Faulty e) (Carries v) h k = absurd (read_faulty (drop 14 octets) v e k.1 h.1)
frame_one octets (Carries v) Runt h k = absurd (long_runt (length octets) k h.0.0)
frame_one octets (Carries v) Data_frame h k = absurd (k.1 h.0.1)
frame_one octets (Carries v) (Faulty e) h k = absurd (read_faulty (drop 14 octets) v e h.1 k.1)
frame_one octets (Carries v) (Carries w) h k = ap Carries (sym (one_pdu (drop 14 octets) v w h.1 k.1))

marker_one : (mac : List ℕ) (m : Marker) (o : Option Marker) (e f : FrameEffect) → AnswersMarker mac m o e → AnswersMarker mac m o f → e ≡ f
marker_one mac m None e f h k = h ∙ sym k
marker_one mac m (Some answer) e f h k =
    h.3 ∙ ap (λ payload. Answered (Respond (frame_octets mac payload))) (one_written h.0 k.0 (pdu.Marker answer) h.2 k.2) ∙ sym k.3

gives_one : (system_port : SystemPort) (frame : ReceivedFrame) (e f : FrameEffect) → GivesEffect system_port frame e → GivesEffect system_port frame f → e ≡ f
gives_one system_port frame e f h k = grind (arith, nat_tests, marker_one, response_to)

-- what received octets ask for
pub effect_one : (up : Bool) (system_port : SystemPort) (octets : List ℕ) (e f : FrameEffect) → ParsesWhere up system_port octets e
    → ParsesWhere up system_port octets f → e ≡ f
effect_one up system_port octets e f h k = grind (arith, nat_tests, frame_one, gives_one)

-- the frame of an LACPDU
pub lacpdu_one : (max_delay : ℕ) (system_port : SystemPort) (a b : List ℕ) → IsLacpduOf max_delay system_port a → IsLacpduOf max_delay system_port b → a ≡ b
lacpdu_one max_delay system_port a b h k =
    h.3 ∙ ap (frame_octets system_port.mac) (one_written h.0 k.0 (pdu.Lacpdu (pdu_of system_port.port max_delay)) h.2 k.2) ∙ sym k.3
