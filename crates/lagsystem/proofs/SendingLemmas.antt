-- What a system sends on a port.
use Rattle.lagsystem.proofs.Common.{Bool, List, None, Option, Some, ap, arith, false, get_or, if◌then◌else◌, length, slice_get, slice_set, subst, sym}
use Rattle.lagsystem.proofs.Common.{true, ℕ, ◌<◌, ◌∙◌, ◌≡◌, nat_tests, same_Some, slice_get-get_or, Lacpdu, frame_octets, IsAddress, Machines}
use Rattle.lagsystem.proofs.Common.{after_sending, is_due, pdu_of, SystemPort, PortSendsLacpduIfDue, SendsLacpduIfDue, SendsMarker, TransmitsAt}
use Rattle.lagsystem.proofs.Common.{TransmitsIf, SystemState, port_index, with_system_ports}
use Rattle.slowpdu.specs.Lacpdus.{Writes}
use Rattle.lagsystem.proofs.Rising.{found_place}
use Rattle.lagsystem.proofs.SettlingLemmas.{set_same}

-- a port whose transmit machine gives an LACPDU sends that
pub lacpdu_sent : (max_delay : ℕ) (system_port : SystemPort) (given : Option Lacpdu) (pdu : Lacpdu) (payload octets : List ℕ) (port : Machines)
    → given ≡ (if is_due system_port.port then Some (pdu_of system_port.port max_delay) else None)
    → port ≡ (if is_due system_port.port then after_sending system_port.port else system_port.port) → given ≡ Some pdu → IsAddress system_port.mac
    → Writes payload pdu → octets ≡ frame_octets system_port.mac payload → SendsLacpduIfDue max_delay system_port (Some octets) port
lacpdu_sent max_delay system_port given pdu payload octets port eg ep some address writes e = grind (arith, nat_tests)

-- a port whose transmit machine gives none sends none
pub none_sent : (max_delay : ℕ) (system_port : SystemPort) (given : Option Lacpdu) (port : Machines)
    → given ≡ (if is_due system_port.port then Some (pdu_of system_port.port max_delay) else None)
    → port ≡ (if is_due system_port.port then after_sending system_port.port else system_port.port)
    → given ≡ None → SendsLacpduIfDue max_delay system_port None port
none_sent max_delay system_port given port eg ep none = grind (arith, nat_tests)

where_marker : (up due : Bool) (i : ℕ) (system_port : SystemPort) (old : SystemState) (answer : Option (List ℕ)) (new : SystemState) → up ≡ true → due ≡ false
    → SendsMarker system_port.number system_port.mac old answer new → TransmitsIf up due i system_port old answer new
where_marker up due i system_port old answer new eu ed h = rw (eu, ed) h

-- the port at the place with the link up sends an LACPDU
pub sends_lacpdu : (s : SystemState) (place : Option ℕ) (i : ℕ) (system_port : SystemPort) (octets : List ℕ) (olds ws news : List SystemPort) → place ≡ Some i
    → slice_get s.system_ports i ≡ Some system_port → system_port.port.enabled ≡ true → olds ≡ s.system_ports → news ≡ ws
    → PortSendsLacpduIfDue s.max_delay i (Some octets) olds ws → TransmitsAt place s (Some octets) (with_system_ports s news)
sends_lacpdu s place i system_port octets olds ws news ep at up eo ew h = grind (arith, nat_tests)

-- the port at the place with the link up has no LACPDU to send, and so a marker goes that is due
pub sends_marker : (s : SystemState) (number i : ℕ) (system_port second : SystemPort) (olds ws news : List SystemPort)
    (answer : Option (List ℕ)) (new : SystemState) → port_index number s.system_ports ≡ Some i
    → i < length s.system_ports → slice_get s.system_ports i ≡ Some system_port → system_port.port.enabled ≡ true → olds ≡ s.system_ports
    → news ≡ ws → PortSendsLacpduIfDue s.max_delay i None olds ws
    → second ≡ get_or news i second → SendsMarker number second.mac (with_system_ports s news) answer new
    → TransmitsAt (port_index number s.system_ports) s answer new
sends_marker s number i system_port second olds ws news answer new ep within at up eo ew h read m =
    let same : h.0 ≡ system_port = same_Some h.0 system_port (sym h.2 ∙ ap (λ (l : List SystemPort). slice_get l i) eo ∙ at) in
    let idle : is_due system_port.port ≡ false = subst (λ (x : SystemPort). is_due x.port ≡ false) same h.3.0 in
    let stays : news ≡ s.system_ports = ew ∙ h.4 ∙ ap (λ (p : Machines). slice_set olds i (record h.0 { port = p })) h.3.1
    ∙ set_same olds i h.0 h.2 ∙ eo in
    let there : second ≡ system_port =
    same_Some second system_port (ap (λ (x : SystemPort). Some x) (read ∙ ap (λ (l : List SystemPort). get_or l i second) stays)
    ∙ sym (slice_get-get_or s.system_ports i second within) ∙ at) in
    let numbered : system_port.number ≡ number = found_place number s.system_ports i system_port ep at in
    let unmoved : SendsMarker number second.mac s answer new =
    subst (λ (l : List SystemPort). SendsMarker number second.mac (with_system_ports s l) answer new) stays m in
    let of_slot : SendsMarker number system_port.mac s answer new =
    subst (λ (x : SystemPort). SendsMarker number x.mac s answer new) there unmoved in
    let mine : SendsMarker system_port.number system_port.mac s answer new = subst (λ n. SendsMarker n system_port.mac s answer new)
    (sym numbered) of_slot in
    subst (λ o. TransmitsAt o s answer new) (sym ep)
    (system_port, at, where_marker system_port.port.enabled (is_due system_port.port) i system_port s answer new up idle mine)
