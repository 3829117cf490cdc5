-- What is received has an answer, whatever octets it has.
use native.Mathlib.Omega.{arith}
use Rattle.std.proofs.Common.{Bool, Err, List, None, Ok, Option, Some, ap, drop, false, inl, inr, length, refl, slice_index, true, ℕ}
use Rattle.std.proofs.Common.{◌==◌, ◌∙◌, ◌≡◌, ◌≤◌, ◌⊎◌}
use Rattle.std.proofs.lemmas.Bool.{cases_lt}
use Rattle.std.proofs.lemmas.Bool.Decides.{nat_tests}
use Rattle.slowpdu.specs.declared.fault.WireFault.{WireFault}
use Rattle.slowpdu.specs.declared.pdu.Lacpdu.{Lacpdu}
use Rattle.slowpdu.specs.declared.pdu.Marker.{Marker}
use Rattle.slowpdu.specs.declared.pdu.MarkerKind.{MarkerKind}
use Rattle.slowpdu.specs.declared.pdu.MarkerKind.TheVariants.{Information, Response}
use Rattle.slowpdu.specs.declared.pdu.Pdu.TheVariants as pdu
use Rattle.slowpdu.specs.Faults.{fault_of}
use Rattle.slowpdu.specs.Frames.{IsSlowProtocolsFrame, frame_octets}
use Rattle.slowpdu.specs.Layout.{AreOctets}
use Rattle.slowpdu.proofs.EncodeLemmas.{encoded_marker}
use Rattle.slowpdu.proofs.ReadingLemmas.{a_reading}
use Rattle.distributor.specs.Changes.{after_release, awaits_response}
use Rattle.distributor.specs.Conversations.{count_conversations}
use Rattle.lagsystem.specs.declared.drive.Reply.TheVariants as reply
use Rattle.lagsystem.specs.declared.fault.SystemFault.TheVariants.{NoPort}
use Rattle.lagsystem.specs.declared.received.Received.{Received}
use Rattle.lagsystem.specs.declared.received.Received.TheVariants.{Disabled, Dropped, Ignored, Released, Respond, TookLacpdu}
use Rattle.lagsystem.specs.declared.system_ports.SystemPort.{SystemPort}
use Rattle.lagsystem.specs.Calls.{Carries, Data_frame, Faulty, IsFrame, OnlyPortChangesBy, ParsesWhere, Performs, ProcessesLacpdu, Receive, ReceivedFrame}
use Rattle.lagsystem.specs.Calls.{Releases, Runt, is_own_response, up_or_dropped}
use Rattle.lagsystem.specs.Readers.{collecting}
use Rattle.lagsystem.specs.State.{SystemState, port_index, system_port_at, with_system_ports, with_table}
use Rattle.law_answers.specs.Fits.{NumbersFit}
use Rattle.law_answers.proofs.Changing.{Finds, Found, by_number, no_port, port_changes, settled, with_ports_fit}
use Rattle.law_answers.proofs.Firing.{lacpdu_taken}
use Rattle.law_answers.proofs.Fitting.{lacpdu_keeps}
use Rattle.law_answers.proofs.Octets.{actor_fits, left_octets, marker_fits, marker_octets}
use Rattle.law_answers.proofs.Settles.{fits_at}
use Rattle.law_answers.proofs.Tables.{changes_all}

-- the octets are a frame of some kind

is_same : (n m : ℕ) → (n == m) ≡ true → n ≡ m
is_same n m h = grind (arith, nat_tests)

not_same : (n m : ℕ) → (n == m) ≡ false → n ≡ m → ⊥
not_same n m h e = grind (arith, nat_tests)

pub slow_or_not : (octets : List ℕ) → IsSlowProtocolsFrame octets ⊎ (IsSlowProtocolsFrame octets → ⊥)
slow_or_not octets = either (slice_index octets 12 == 0x88) (slice_index octets 13 == 0x09) refl refl
  where
    either : (a b : Bool) → (slice_index octets 12 == 0x88) ≡ a → (slice_index octets 13 == 0x09) ≡ b
        → IsSlowProtocolsFrame octets ⊎ (IsSlowProtocolsFrame octets → ⊥)
    either true true e f = inl (is_same (slice_index octets 12) 0x88 e, is_same (slice_index octets 13) 0x09 f)
    either false b e f = inr (λ h. not_same (slice_index octets 12) 0x88 e h.0)
    either true false e f = inr (λ h. not_same (slice_index octets 13) 0x09 f h.1)

payload_kind : (octets : List ℕ) → 14 ≤ length octets → IsSlowProtocolsFrame octets → AreOctets octets → (o : Option WireFault)
    → fault_of (drop 14 octets) ≡ o → (f : ReceivedFrame) × IsFrame octets f
payload_kind octets long slow h (Some fault) e = (Faulty fault, ((long, slow), e))
payload_kind octets long slow h None e =
    let x = a_reading (drop 14 octets) (left_octets 14 octets h) e in (Carries x.0, ((long, slow), x.1))

pub some_frame : (octets : List ℕ) → AreOctets octets → (f : ReceivedFrame) × IsFrame octets f
some_frame octets h = elim (cases_lt (length octets) 14) [
  | inl short ↦ (Runt, short)
  | inr long ↦ elim (slow_or_not octets) [
    | inl slow ↦ payload_kind octets long slow h (fault_of (drop 14 octets)) refl
    | inr other ↦ (Data_frame, (long, other))
  ]
]

-- the port takes it: an answer, and the state after it
abbrev Takes : (ℕ → ℕ → ℕ → Type 0) → Bool → SystemState → ℕ → SystemPort → List ℕ → Type 0
Takes gives up old n x octets = (answer : Received) × (new : SystemState)
    × ((effect : _) × ParsesWhere up x octets effect × Performs effect x.number (port_index n old.system_ports) old answer new) × NumbersFit new

releases : (own : Bool) (port : ℕ) (m : Marker) (old : SystemState) → NumbersFit old
    → (answer : Received) × (new : SystemState) × Releases own port m old answer new × NumbersFit new
releases false port m old fits = (Released 0, old, (refl, refl), fits)
releases true port m old fits = let t = changes_all old.table (after_release port m.id) refl in (
  Released (count_conversations (awaits_response port m.id) old.table),
  with_table old t.0,
  (refl, t.1, refl),
  with_ports_fit old old.system_ports t.0 fits fits.system_ports,
)

takes_lacpdu : (gives : ℕ → ℕ → ℕ → Type 0) (old : SystemState) (n : ℕ) (x : Found n old.system_ports) (octets : List ℕ) → NumbersFit old
    → AreOctets octets → (v : Lacpdu) → IsFrame octets (Carries (pdu.Lacpdu v)) → Takes gives true old n x.1 octets
takes_lacpdu gives old n x octets fits h v frame =
    let actor = (actor_fits (drop 14 octets) v (left_octets 14 octets h) frame.1).0 in
    let run = lacpdu_taken v x.1.port in
    let ports = port_changes (ProcessesLacpdu v) n old.system_ports x run.0 run.1 (lacpdu_keeps v actor x.1.port run.0 run.1) in
    let done = settled (OnlyPortChangesBy (port_index n old.system_ports) (ProcessesLacpdu v)) old (with_system_ports old ports.0) (ports.1, refl)
    (with_ports_fit old ports.0 old.table fits (ports.2 fits.system_ports)) in
    (TookLacpdu, done.0, (_, (Carries (pdu.Lacpdu v), frame, refl), (refl, done.1)), done.2)

takes_marker : (gives : ℕ → ℕ → ℕ → Type 0) (old : SystemState) (n : ℕ) (x : Found n old.system_ports) (octets : List ℕ) → NumbersFit old
    → AreOctets octets → (p : ℕ) (mac : List ℕ) (id : ℕ) (k : MarkerKind)
    → IsFrame octets (Carries (pdu.Marker (record { kind = k; port = p; system = mac; id = id }))) → Takes gives true old n x.1 octets
takes_marker gives old n x octets fits h p mac id Information frame =
    let m : Marker = record { kind = Information; port = p; system = mac; id = id } in
    let back : Marker = record { kind = Response; port = p; system = mac; id = id } in
    let numbers = marker_fits (drop 14 octets) m (left_octets 14 octets h) frame.1 in
    let source = (fits_at old.system_ports x.0 x.1 x.3 fits.system_ports).address in
    let writes = marker_octets back numbers.0 numbers.1 frame.1.address in (
      Respond (frame_octets x.1.mac (encoded_marker back)),
      old,
      (_, (Carries (pdu.Marker m), frame, (encoded_marker back, source, writes, refl)), (refl, refl)),
      fits,
    )
takes_marker gives old n x octets fits h p mac id Response frame =
    let m : Marker = record { kind = Response; port = p; system = mac; id = id } in
    let done = releases (is_own_response old x.1.number m) x.1.number m old fits in
    (done.0, done.1, (_, (Carries (pdu.Marker m), frame, refl), done.2), done.3)

takes_frame : (gives : ℕ → ℕ → ℕ → Type 0) (old : SystemState) (n : ℕ) (x : Found n old.system_ports) (octets : List ℕ) → NumbersFit old
    → AreOctets octets → (f : ReceivedFrame) → IsFrame octets f → Takes gives true old n x.1 octets
takes_frame gives old n x octets fits h Runt frame = (Dropped, old, (_, (Runt, frame, refl), (refl, refl)), fits)
takes_frame gives old n x octets fits h Data_frame frame =
    (up_or_dropped (collecting x.1.port), old, (_, (Data_frame, frame, refl), (refl, refl)), fits)
takes_frame gives old n x octets fits h (Faulty fault) frame = (Ignored fault, old, (_, (Faulty fault, frame, refl), (refl, refl)), fits)
takes_frame gives old n x octets fits h (Carries (pdu.Lacpdu v)) frame = takes_lacpdu gives old n x octets fits h v frame
takes_frame gives old n x octets fits h (Carries (pdu.Marker m)) frame = takes_marker gives old n x octets fits h m.port m.system m.id m.kind frame

takes_where : (gives : ℕ → ℕ → ℕ → Type 0) (up : Bool) (old : SystemState) (n : ℕ) (x : Found n old.system_ports) (octets : List ℕ) → NumbersFit old
    → AreOctets octets → Takes gives up old n x.1 octets
takes_where gives false old n x octets fits h = (Disabled, old, (_, refl, (refl, refl)), fits)
takes_where gives true old n x octets fits h = let f = some_frame octets h in takes_frame gives old n x octets fits h f.0 f.1

pub receives : (gives : ℕ → ℕ → ℕ → Type 0) (old : SystemState) (n : ℕ) (octets : List ℕ) → NumbersFit old → AreOctets octets
    → Finds gives old (Receive n octets)
receives gives old n octets fits h = elim (by_number n old.system_ports) [
  | inl e ↦ (reply.Receive (Err NoPort), old, no_port old n e, fits)
  | inr x ↦ (let t = takes_where gives x.1.port.enabled old n x octets fits h in
      let at : system_port_at (port_index n old.system_ports) old.system_ports ≡ Some x.1 =
      ap (λ o. system_port_at o old.system_ports) x.2 ∙ x.3 in
      (reply.Receive (Ok t.0), t.1, (x.1, t.2.0, at, t.2.1, t.2.2), t.3))
]
