-- What becomes of a frame that a system sends.
use Rattle.lagworld.proofs.Common.{Bool, IfErr, List, Ok, Option, Result, Some, ℕ, ◌∙◌, ◌≡◌, Pdu, ReadsPdu, pdu_in, written_pdu, Side, Stamp}
use Rattle.lagworld.proofs.Common.{SystemFault, IsSent, sent_payload, Reply, WorldAsksTransmit, AfterTransmit, Algorithms, WorldEmits, sent_reply}
use Rattle.lagworld.proofs.Common.{stamp_for, transmitted_item, payload_in, HalfState, ItemValue, LinkState, WorldState, change_count_in, half}
use Rattle.lagworld.proofs.Common.{history_at, is_accepted, put_on_port, with_links}
use native.Mathlib.Omega.{arith}

abbrev pub made : List ℕ → Stamp → ItemValue
made octets stamp = record { octets = octets; stamp = stamp }

-- the item that goes onto the cable
sent_item : (s : Side) (p : ℕ) (frame octets : List ℕ) (v : Pdu) (count : ℕ) (stamp : Stamp) (h : HalfState) → octets ≡ frame → v ≡ pdu_in (payload_in frame)
    → count ≡ change_count_in (history_at h.histories p) → stamp ≡ stamp_for v count → made octets stamp ≡ transmitted_item s p frame h
sent_item s p frame octets v count stamp h a b c d = grind arith

pub frame_sent : (s : Side) (p : ℕ) (frame octets : List ℕ) (v : Pdu) (count : ℕ) (stamp : Stamp) (kept : Bool) (links : List LinkState)
    (j : WorldState) (r : Reply) → octets ≡ frame
    → v ≡ pdu_in (payload_in frame) → count ≡ change_count_in (history_at (half s j).histories p) → stamp ≡ stamp_for v count
    → links ≡ put_on_port s p (made octets stamp) j.links → kept ≡ is_accepted s p j.links
    → r ≡ sent_reply v kept → AfterTransmit s p (Ok (Some frame)) j r (with_links j links)
frame_sent s p frame octets v count stamp kept links j r a b c d e f g = grind arith

-- what is done with an answer of a system is what the event does
pub emits_of : (gives : Algorithms) (s : Side) (p : ℕ) (a b : Result (Option (List ℕ)) SystemFault) (old mid new : WorldState) (r : Reply)
    → a ≡ b → WorldAsksTransmit gives s p a old mid → AfterTransmit s p b mid r new → WorldEmits gives s p old r new
emits_of gives s p a b old mid new r e x y = grind arith

-- what is sent has the PDU that was sent
pub sent_reads : (frame : List ℕ) (v : Pdu) → IsSent frame v → ReadsPdu (payload_in frame) v
sent_reads frame v h = written_pdu (payload_in frame) v (sent_payload frame v h)

-- what a system sends
pub frame_of : (gives : Algorithms) (s : Side) (p : ℕ) (a : Result (Option (List ℕ)) SystemFault) (frame : List ℕ) (old mid : WorldState)
    → a ≡ Ok (Some frame) → WorldAsksTransmit gives s p a old mid → (v : Pdu) × IsSent frame v
frame_of gives s p a frame old mid e x = grind arith

always : {T E A : Type 0} (r : Result T E) → A → IfErr r (λ e. A)
always r h = grind arith

pub stays_so : {T E : Type 0} (r : Result T E) (new old : WorldState) → new ≡ old → IfErr r (λ e. new ≡ old)
stays_so r new old e = always r e
