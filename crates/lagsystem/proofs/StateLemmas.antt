-- States from the lists of their ports.
use Rattle.lagsystem.proofs.Common.{List, Option, Some, arith, drop, inl, inr, length, subst, sym, true, ℕ, ◌≡◌, ◌≤◌, nat_tests, fault_of}
use Rattle.lagsystem.proofs.Common.{IsSlowProtocolsFrame, ReadsPdu, Machines, FrameEffect, SystemPort, Carries, Faulty, OnlyPortChangesBy}
use Rattle.lagsystem.proofs.Common.{ParsesFrame, ParsesPayload, ParsesWhere, PortAtChangesBy, SettlesPorts, SystemState, with_system_ports}

pub on_port_made : (R : Machines → Machines → Type 0) (place : List SystemPort → Option ℕ) (s : SystemState) (olds ws news : List SystemPort)
    → olds ≡ s.system_ports → news ≡ ws → PortAtChangesBy R (place olds) olds ws → OnlyPortChangesBy (place s.system_ports) R s (with_system_ports s news)
on_port_made R place s olds ws news e w h = grind (arith, nat_tests)

pub settled_made : (s : SystemState) (ws news : List SystemPort) → news ≡ ws → SettlesPorts s (with_system_ports s ws)
    → SettlesPorts s (with_system_ports s news)
settled_made s ws news w h = subst (λ l. SettlesPorts s (with_system_ports s l)) (sym w) h

-- what a port makes of a control frame
pub hears_control : (system_port : SystemPort) (octets payload : List ℕ) (effect : FrameEffect) → system_port.port.enabled ≡ true → 14 ≤ length octets
    → IsSlowProtocolsFrame octets → payload ≡ drop 14 octets → ParsesPayload system_port payload effect → ParsesFrame system_port octets effect
hears_control system_port octets payload effect up long slow e h =
    subst (λ b. ParsesWhere b system_port octets effect) (sym up) (elim h [
      | inl f ↦ (Faulty f.0, ((long, slow), subst (λ p. fault_of p ≡ Some f.0) e f.1), f.2)
      | inr v ↦ (Carries v.0, ((long, slow), subst (λ p. ReadsPdu p v.0) e v.1), v.2)
    ])
