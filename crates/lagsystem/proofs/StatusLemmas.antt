-- What each status of a port says of the port and its system: by the cases of its definition.
use Rattle.lagsystem.proofs.Common.{Bool, Some, arith, false, if◌then◌else◌, nat_lt, not, refl, slice_get, true, ℕ, ◌&&◌, ◌≡◌, true≢false, nat_tests}
use Rattle.lagsystem.proofs.Common.{AggId, Choice, Selected, Standby, Unselected, is_unselected, same_system, exact_system, MuxState, Attached}
use Rattle.lagsystem.proofs.Common.{CollectingDistributing, ReceiveState, is_synchronized, same_mux_state, SystemPort, can_receive_in, IsSound}
use Rattle.lagsystem.proofs.Common.{held_apart, SystemState, IsDistributing, Says, meaning}
use Rattle.lagsystem.specs.declared.port_status.PortStatus.{PortStatus}
use Rattle.lagsystem.specs.declared.port_status.PortStatus.TheVariants as status
use Rattle.lagsystem.specs.PortStatus.{status_by_choice, status_by_receive}
use Rattle.lagsystem.proofs.Rest.{can_receive_at_rest}
use Rattle.lagsystem.proofs.Rising.{all-get}
use Rattle.lagsystem.proofs.StatusReasons.{Heard, finds_no_aggregator, finds_no_room, waits, waits_for_member, waits_for_partner}

-- a port that hears its partner: by what a SELECTED one waits for, by Selected, and by the partner's system

by_wait : (agg : AggId) (s : SystemState) (i : ℕ) (x : SystemPort) → Heard s i x → x.port.choice ≡ Selected agg → (attached runs : Bool)
    → same_mux_state Attached x.port.mux ≡ attached → nat_lt 0 x.port.wait_while ≡ runs
    → meaning (if attached then status.PartnerNotSynchronized else (if runs then status.Waiting x.port.wait_while else status.WaitingForMembers)) s x
by_wait agg s i x l c true runs e f = waits_for_partner agg s i x l c e
by_wait agg s i x l c false true e f = waits agg s i x l c e f
by_wait agg s i x l c false false e f = waits_for_member agg s i x l c e f

by_choice : (s : SystemState) (i : ℕ) (x : SystemPort) → Heard s i x → same_system x.port.partner.system x.port.party.system ≡ false
    → (c : Choice) → x.port.choice ≡ c → meaning (status_by_choice x.port c) s x
by_choice s i x l other Unselected c = finds_no_aggregator s i x l other c
by_choice s i x l other (Standby agg) c = finds_no_room agg s i x l c
by_choice s i x l other (Selected agg) c =
    by_wait agg s i x l c (same_mux_state Attached x.port.mux) (nat_lt 0 x.port.wait_while) refl refl

by_system : (s : SystemState) (i : ℕ) (x : SystemPort) → Heard s i x → (own : Bool) → same_system x.port.partner.system x.port.party.system ≡ own
    → meaning (if own then status.OwnSystem else status_by_choice x.port x.port.choice) s x
by_system s i x l true e = record { hears = l.hears; own = exact_system x.port.partner.system x.port.party.system e }
by_system s i x l false e = by_choice s i x l e x.port.choice refl

-- each port: by its receive machine, by its link, and by its mux machine

by_receive : (s : SystemState) (i : ℕ) (x : SystemPort) → IsSound s → slice_get s.system_ports i ≡ Some x
    → same_mux_state CollectingDistributing x.port.mux ≡ false → x.port.enabled ≡ true → x.held ≡ false → (r : ReceiveState) → x.port.receive ≡ r
    → can_receive_in r ≡ true → meaning (status_by_receive x.port r) s x
by_receive s i x h at idle up free r e a = grind (arith, nat_tests, by_system)

where_up : (e a : Bool) → e ≡ true → (if e then a else true) ≡ true → a ≡ true
where_up e a k h = grind (arith, nat_tests)

held_chosen : (held : Bool) (c : Choice) → held ≡ true → (if held then is_unselected c else true) ≡ true → c ≡ Unselected
held_chosen held c e h = grind (arith, nat_tests)

by_held : (s : SystemState) (i : ℕ) (x : SystemPort) → IsSound s → slice_get s.system_ports i ≡ Some x
    → same_mux_state CollectingDistributing x.port.mux ≡ false → x.port.enabled ≡ true → (held : Bool) → x.held ≡ held
    → meaning (if held then status.Held else status_by_receive x.port x.port.receive) s x
by_held s i x h at idle up true e = grind (arith, nat_tests, held_chosen, all-get, held_apart)
by_held s i x h at idle up false e = grind (arith, nat_tests, all-get, by_receive, where_up, can_receive_at_rest)

by_link : (s : SystemState) (i : ℕ) (x : SystemPort) → IsSound s → slice_get s.system_ports i ≡ Some x
    → same_mux_state CollectingDistributing x.port.mux ≡ false → (up : Bool) → x.port.enabled ≡ up
    → meaning (if not up then status.LinkDown else (if x.held then status.Held else status_by_receive x.port x.port.receive)) s x
by_link s i x h at idle up e = grind (arith, nat_tests, by_held)

distributing_mux : (m : MuxState) (chosen synchronized : Bool) → same_mux_state CollectingDistributing m ≡ true
    → ((if is_synchronized m then chosen else true) && (if same_mux_state CollectingDistributing m then synchronized else true)) ≡ true
    → (m ≡ CollectingDistributing) × (chosen ≡ true) × (synchronized ≡ true)
distributing_mux m a b e h = grind (arith, nat_tests)

is_distributing : (s : SystemState) (i : ℕ) (x : SystemPort) → IsSound s → slice_get s.system_ports i ≡ Some x
    → same_mux_state CollectingDistributing x.port.mux ≡ true → IsDistributing s x
is_distributing s i x h at now = grind (arith, nat_tests, distributing_mux, all-get)

by_mux : (s : SystemState) (i : ℕ) (x : SystemPort) → IsSound s → slice_get s.system_ports i ≡ Some x → (distributes : Bool)
    → same_mux_state CollectingDistributing x.port.mux ≡ distributes
    → meaning (if distributes then status.Distributing
    else (if not x.port.enabled then status.LinkDown
    else (if x.held then status.Held else status_by_receive x.port x.port.receive))) s x
by_mux s i x h at true e = is_distributing s i x h at e
by_mux s i x h at false e = by_link s i x h at e x.port.enabled refl

pub says_why : (status : PortStatus) → Says status (meaning status)
says_why status s i x h at e = grind (arith, nat_tests, by_mux)
