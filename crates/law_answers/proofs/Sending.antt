-- What is sent: each port has an answer to `transmit`.
use native.Mathlib.Omega.{arith}
use Rattle.std.proofs.Common.{Bool, Err, List, None, Ok, Option, Some, cond, false, inl, inr, refl, slice_set, subst, sym, true, ℕ, ◌+◌, ◌^◌, ◌≡◌}
use Rattle.std.proofs.lemmas.Bool.{ltb-true}
use Rattle.std.proofs.lemmas.Option.{none-some, same_Some}
use Rattle.slowpdu.specs.declared.pdu.Marker.{Marker}
use Rattle.slowpdu.specs.Frames.{frame_octets}
use Rattle.slowpdu.proofs.EncodeLemmas.{encoded, encoded_marker}
use Rattle.portmachines.specs.Machines.{Machines}
use Rattle.portmachines.specs.declared.mux.MuxState.TheVariants.{CollectingDistributing}
use Rattle.portmachines.specs.Mux.{is_synchronized, same_mux_state}
use Rattle.portmachines.specs.Transmit.{after_sending, is_due, pdu_of}
use Rattle.distributor.specs.Changes.{Marks, after_mark, marker_due}
use Rattle.distributor.specs.Conversations.{Table}
use Rattle.lagsystem.specs.declared.drive.Reply.TheVariants as reply
use Rattle.lagsystem.specs.declared.fault.SystemFault.TheVariants.{NoPort}
use Rattle.lagsystem.specs.declared.system_ports.SystemPort.{SystemPort}
use Rattle.lagsystem.specs.Calls.{Transmit}
use Rattle.lagsystem.specs.Sending.{SendsMarkerOf, TransmitsAt, TransmitsIf, own_marker}
use Rattle.lagsystem.specs.State.{SystemState, with_system_ports, with_table}
use Rattle.law_answers.specs.Fits.{NumbersFit, PortFits}
use Rattle.law_answers.proofs.Changing.{Finds, by_number, no_port, with_ports_fit}
use Rattle.law_answers.proofs.Fitting.{bits_fit, kept}
use Rattle.law_answers.proofs.Octets.{lacpdu_octets, marker_octets}
use Rattle.law_answers.proofs.Settles.{fits_at, set_fits}
use Rattle.law_answers.proofs.Tables.{changes_all}

-- the identifier of a marker that is due
due_is : (some_wanted left : Bool) (n id : ℕ) → cond some_wanted (cond left (Some n) None) None ≡ Some id → (left ≡ true) × (n ≡ id)
due_is true true n id e = (refl, same_Some n id e)
due_is true false n id e = absurd (none-some id e)
due_is false left n id e = absurd (none-some id e)

marks : (t : Table) (port id : ℕ) → id ≡ t.next → (u : Table) × Marks t u port id
marks t port id e = let c = changes_all t (after_mark port id) refl in (
  record c.0 { next = t.next + 1 },
  record {
    aggs = c.1.aggs;
    conversations = c.1.conversations;
    first = c.1.first;
    sent = e;
    next = refl;
    states = c.1.states;
  },
)

sends_marker : (old : SystemState) (x : SystemPort) (o : Option ℕ) → marker_due old.table x.number ≡ o → NumbersFit old → PortFits x
    → (answer : Option (List ℕ)) × (new : SystemState) × SendsMarkerOf o x.number x.mac old answer new × NumbersFit new
sends_marker old x None e fits port = (None, old, (refl, refl), fits)
sends_marker old x (Some id) e fits port =
    let due = due_is _ _ old.table.next id e in
    let below = ltb-true old.table.next (2 ^ 32) due.0 in
    let m : Marker = own_marker old x.number id in
    let writes = marker_octets m port.number (omega (arith, below, due.1)) fits.address in
    let u = marks old.table x.number id (sym due.1) in (
      Some (frame_octets x.mac (encoded_marker m)),
      with_table old u.0,
      (encoded_marker m, port.address, writes, refl, u.1, refl),
      with_ports_fit old old.system_ports u.0 fits fits.system_ports,
    )

transmits_if : (up due : Bool) (old : SystemState) (i : ℕ) (x : SystemPort) → NumbersFit old → PortFits x
    → (answer : Option (List ℕ)) × (new : SystemState) × TransmitsIf up due i x old answer new × NumbersFit new
transmits_if false due old i x fits port = (None, old, (refl, refl), fits)
transmits_if true false old i x fits port = sends_marker old x (marker_due old.table x.number) refl fits port
transmits_if true true old i x fits port =
    let p : Machines = x.port in
    let own = port.machines.own in
    let writes = lacpdu_octets (pdu_of p old.max_delay) (record {
      address = own.address;
      system_priority = own.system_priority;
      key = own.key;
      port_priority = own.port_priority;
      port = own.port;
    }) (bits_fit (record {
      activity = p.active;
      timeout = p.short;
      aggregation = p.party.aggregatable;
      synchronization = is_synchronized p.mux;
      collecting = same_mux_state CollectingDistributing p.mux;
      distributing = same_mux_state CollectingDistributing p.mux;
      defaulted = p.defaulted;
      expired = p.expired;
    })) port.machines.partner.numbers port.machines.partner.state fits.max_delay in
    let octets = frame_octets x.mac (encoded (pdu_of p old.max_delay)) in
    let y : SystemPort = record x { port = after_sending p } in
    let y_fits : PortFits y = record {
      address = port.address;
      number = port.number;
      machines = kept p (after_sending p) refl refl port.machines;
    } in (
      Some octets,
      with_system_ports old (slice_set old.system_ports i y),
      (octets, (encoded (pdu_of p old.max_delay), port.address, writes, refl), refl, refl),
      with_ports_fit old (slice_set old.system_ports i y) old.table fits (set_fits old.system_ports i y fits.system_ports y_fits),
    )

pub transmits : (gives : ℕ → ℕ → ℕ → Type 0) (old : SystemState) (n : ℕ) → NumbersFit old → Finds gives old (Transmit n)
transmits gives old n fits = elim (by_number n old.system_ports) [
  | inl e ↦ (reply.Transmit (Err NoPort), old, no_port old n e, fits)
  | inr x ↦ (let t = transmits_if x.1.port.enabled (is_due x.1.port) old x.0 x.1 fits (fits_at old.system_ports x.0 x.1 x.3 fits.system_ports) in
      (reply.Transmit (Ok t.0), t.1, subst (λ o. TransmitsAt o old t.0 t.1) (sym x.2) (x.1, x.3, t.2), t.3))
]
