-- A configuration has exactly one first state.
use native.Mathlib.Omega.{arith}
use Rattle.lagsystem.proofs.Common.{List, [], ap, refl, subst, sym, ◌∙◌, ◌∷◌, ◌≡◌, AllZip, SystemId, Setup, PortDisabled, PortCall, Machines}
use Rattle.lagsystem.proofs.Common.{RunsPeriodic, receive_rows, AtRest, Starts, before_start, one_effect, first_table, PortConfig, SystemPort}
use Rattle.lagsystem.proofs.Common.{HasJustStarted, IsFirst, setup_of, PortsChangeBy, SystemState, with_system_ports, with_table}
use Rattle.lagsystem.proofs.FirstView.{first_periodic}

one_start : (s : Setup) (p q : Machines) → Starts (before_start s) p → Starts (before_start s) q → p ≡ q
one_start s p q h k = one_effect (PortCall.Reinit s.party) (record (before_start s) { receive = PortDisabled }) p q (
  refl,
  (refl, (refl, (refl, (refl, tt)))),
) h k

started_rests : (s : Setup) (p : Machines) → Starts (before_start s) p → AtRest receive_rows p
started_rests s p h = subst (AtRest receive_rows) (sym h.2) h.1.2

one_slot : (system : SystemId) (c : PortConfig) (x y : SystemPort) → HasJustStarted system c x → HasJustStarted system c y → x ≡ y
one_slot system c x y h k = let port = one_start (setup_of system c) x.port y.port h.2 k.2 in
    λ i. record { number = (h.0 ∙ sym k.0) i; mac = (h.1 ∙ sym k.1) i; port = port i; held = (h.3 ∙ sym k.3) i }

one_list : (system : SystemId) (ports : List PortConfig) (xs ys : List SystemPort) → AllZip (HasJustStarted system) ports xs
    → AllZip (HasJustStarted system) ports ys → xs ≡ ys
one_list system [] [] [] h k = refl
one_list system [] [] (y ∷ ys) h k = absurd k
one_list system [] (x ∷ xs) ys h k = absurd h
one_list system (c ∷ cs) [] ys h k = absurd h
one_list system (c ∷ cs) (x ∷ xs) [] h k = absurd k
one_list system (c ∷ cs) (x ∷ xs) (y ∷ ys) h k = let here = one_slot system c x y h.0 k.0 in
    let rest = one_list system cs xs ys h.1 k.1 in
    λ i. here i ∷ rest i

one_periodic : (system : SystemId) (ports : List PortConfig) (start xs ys : List SystemPort) → AllZip (HasJustStarted system) ports start
    → PortsChangeBy RunsPeriodic start xs → PortsChangeBy RunsPeriodic start ys → xs ≡ ys
one_periodic system [] [] [] [] a h k = refl
one_periodic system [] [] [] (y ∷ ys) a h k = absurd k
one_periodic system [] [] (x ∷ xs) ys a h k = absurd h
one_periodic system [] (s ∷ ss) xs ys a h k = absurd a
one_periodic system (c ∷ cs) [] xs ys a h k = absurd a
one_periodic system (c ∷ cs) (s ∷ ss) [] ys a h k = absurd h
one_periodic system (c ∷ cs) (s ∷ ss) (x ∷ xs) [] a h k = absurd k
one_periodic system (c ∷ cs) (s ∷ ss) (x ∷ xs) (y ∷ ys) a h k =
    let port : x.port ≡ y.port = one_effect PortCall.Periodic s.port x.port y.port
    (started_rests (setup_of system c) s.port a.0.2) h.0.1 k.0.1 in
    let here : x ≡ y = h.0.0 ∙ ap (λ (p : Machines). record s { port = p }) port ∙ sym k.0.0 in
    let rest = one_periodic system cs ss xs ys a.1 h.1 k.1 in
    λ i. here i ∷ rest i

-- two first states with one configuration are one
pub one_first : (s t : SystemState) → t ≡ with_table (with_system_ports s t.system_ports) t.table → IsFirst s → IsFirst t → t ≡ s
one_first s t e h k = let news : AllZip (HasJustStarted s.system) s.ports k.0 =
    subst (λ (x : SystemState). AllZip (HasJustStarted x.system) x.ports k.0) e k.1 in
    let start : k.0 ≡ h.0 = one_list s.system s.ports k.0 h.0 news h.1 in
    let moves : PortsChangeBy RunsPeriodic h.0 t.system_ports = subst (λ l. PortsChangeBy RunsPeriodic l t.system_ports)
    start (first_periodic t k) in
    let system_ports : t.system_ports ≡ s.system_ports = one_periodic s.system s.ports h.0 t.system_ports s.system_ports h.1
    moves (first_periodic s h) in
    grind (arith, first_table, with_table, with_system_ports)
