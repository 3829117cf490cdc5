-- The calls that end with a settling have an answer.
use Rattle.std.proofs.Common.{Bool, Err, List, None, Ok, Option, Some, [], false, inl, inr, refl, length, slice_get, slice_set, subst, sym, true, ℕ}
use Rattle.std.proofs.Common.{◌<◌, ◌==◌, ◌^◌, ◌∷◌, ◌≡◌, ◌⊎◌}
use Rattle.std.proofs.lemmas.List.Quantifiers.{position-Some}
use Rattle.std.proofs.lemmas.Option.{none-some}
use Rattle.std.specs.List.{AllByRecursion, AllZip}
use Rattle.lagtypes.specs.Same.{same_party}
use Rattle.lagtypes.specs.declared.identifiers.SystemId.{SystemId}
use Rattle.slowpdu.specs.Layout.{IsAddress}
use Rattle.portmachines.specs.Machines.{Machines}
use Rattle.portmachines.specs.Receive.{receive_rows}
use Rattle.portmachines.specs.Rows.{RunsToRest}
use Rattle.portmachines.specs.Start.{before_start}
use Rattle.portmachines.specs.Transmit.{count_down}
use Rattle.distributor.specs.Changes.{after_down, after_tick}
use Rattle.distributor.specs.Conversations.{Table, first_table}
use Rattle.lagsystem.specs.declared.config.PortChange.{PortChange}
use Rattle.lagsystem.specs.declared.config.PortConfig.{PortConfig}
use Rattle.lagsystem.specs.declared.drive.Reply.{Reply}
use Rattle.lagsystem.specs.declared.drive.Reply.TheVariants as reply
use Rattle.lagsystem.specs.declared.fault.SystemFault.TheVariants.{NoPort}
use Rattle.lagsystem.specs.declared.system_ports.SystemPort.{SystemPort}
use Rattle.lagsystem.specs.Calls.{Call, ChangesParty, HoldsAtIndex, Configure, FreesIfDown, PortAtChangesBy, RefusesNoPort, Restart, Set_link, SetsLink, SetsPortEnabled, Step}
use Rattle.lagsystem.specs.Calls.{ThenSettles, Tick, Ticks, OnlyPortChangesBy, changed_party, choice_with_link}
use Rattle.lagsystem.specs.First.{HasJustStarted, setup_of}
use Rattle.lagsystem.specs.State.{SystemState, port_index, with_system_ports, with_table}
use Rattle.lagsystem.proofs.HeldPorts.{first_free}
use Rattle.lagsystem.proofs.Keeps.{configured_made, first_made, first_settles, ports_made, started}
use Rattle.lagsystem.proofs.Sound.{first_sound}
use Rattle.law_answers.specs.Answers.{EachConfigurationBegins}
use Rattle.law_answers.specs.Fits.{PortConfigFits, NumbersFit, PartyFits}
use Rattle.law_answers.proofs.Firing.{port_starts, receive_rests}
use Rattle.law_answers.proofs.Fitting.{KeepsFit, receive_keeps, start_fits}
use Rattle.law_answers.proofs.Settles.{EachFits, each_changes, fits_at, set_fits, ports_settle, settles, there, with_machines}
use Rattle.law_answers.proofs.Tables.{changes_all}

-- there is an answer to the call, after which the numbers fit
abbrev pub Finds : (ℕ → ℕ → ℕ → Type 0) → SystemState → Call → Type 0
Finds gives old call = (answer : Reply) × (new : SystemState) × Step gives old call answer new × NumbersFit new

pub with_ports_fit : (s : SystemState) (l : List SystemPort) (t : Table) → NumbersFit s → EachFits l → NumbersFit (with_table (with_system_ports s l) t)
with_ports_fit s l t h k = record { address = h.address; priority = h.priority; max_delay = h.max_delay; ports = h.ports; system_ports = k }

-- what a call does of its own, then a settling
pub settled : (own : SystemState → SystemState → Type 0) (old mid : SystemState) → own old mid → NumbersFit mid
    → (new : SystemState) × ThenSettles own old new × NumbersFit new
settled own old mid h fits = let x = settles mid in
    (with_table (with_system_ports mid x.0) x.1, (mid, h, x.2), with_ports_fit mid x.0 x.1 fits (x.3 fits.system_ports))

-- the port with a number

position_inside : (n : ℕ) (l : List SystemPort) (i : ℕ) → port_index n l ≡ Some i → i < length l
position_inside n [] i e = absurd (none-some i e)
position_inside n (x ∷ xs) i e = (position-Some (λ (y : SystemPort). y.number == n) (x ∷ xs) i x e).0

abbrev pub Found : ℕ → List SystemPort → Type 0
Found n l = (i : ℕ) × (x : SystemPort) × (port_index n l ≡ Some i) × (slice_get l i ≡ Some x)

pub by_number : (n : ℕ) (l : List SystemPort) → (port_index n l ≡ None) ⊎ Found n l
by_number n l = by_index (port_index n l) refl
  where
    by_index : (o : Option ℕ) → port_index n l ≡ o → (port_index n l ≡ None) ⊎ Found n l
    by_index None e = inl e
    by_index (Some i) e = let x = there l i (position_inside n l i e) in inr (i, x.0, e, x.1)

pub no_port : (old : SystemState) (n : ℕ) → port_index n old.system_ports ≡ None → RefusesNoPort (port_index n old.system_ports) NoPort old old
no_port old n e = record { cause = e; named = refl; same = refl }

-- its machines change
pub port_changes : (R : Machines → Machines → Type 0) (n : ℕ) (l : List SystemPort) (x : Found n l) (q : Machines) → R x.1.port q → KeepsFit x.1.port q
    → (m : List SystemPort) × PortAtChangesBy R (port_index n l) l m × (EachFits l → EachFits m)
port_changes R n l x q h keeps = let y : SystemPort = record x.1 { port = q } in (
  slice_set l x.0 y,
  subst (λ o. PortAtChangesBy R o l (slice_set l x.0 y)) (sym x.2) (x.1, q, x.3, h, refl),
  λ fits. set_fits l x.0 y fits (with_machines x.1 q keeps (fits_at l x.0 x.1 x.3 fits)),
)

-- a tick
counted : (p q : Machines) → RunsToRest receive_rows (count_down p) q → KeepsFit p q
counted p q h m = receive_keeps (count_down p) q h (record { own = m.own; partner = m.partner })

pub ticks : (gives : ℕ → ℕ → ℕ → Type 0) (old : SystemState) → NumbersFit old → Finds gives old Tick
ticks gives old fits =
    let ports = each_changes (λ p q. RunsToRest receive_rows (count_down p) q) (λ p. receive_rests (count_down p)) counted old.system_ports in
    let t = changes_all old.table after_tick refl in
    let done = settled Ticks old (with_table (with_system_ports old ports.0) t.0) (ports.1, t.1, refl)
    (with_ports_fit old ports.0 t.0 fits (ports.2 fits.system_ports)) in
    (reply.Tick, done.0, done.1, done.2)

-- a link
frees : (up : Bool) (n : ℕ) (t : Table) → (u : Table) × FreesIfDown up n t u
frees true n t = (t, refl)
frees false n t = changes_all t (after_down n) refl

linked : (most : Option ℕ) (up : Bool) (p q : Machines) → SetsPortEnabled most up p q → KeepsFit p q
linked most up p q h m = receive_keeps (record p { enabled = up; choice = choice_with_link most up p.choice }) q h
    (record { own = m.own; partner = m.partner })

pub sets_link : (gives : ℕ → ℕ → ℕ → Type 0) (old : SystemState) (n : ℕ) (up : Bool) → NumbersFit old → Finds gives old (Set_link n up)
sets_link gives old n up fits = elim (by_number n old.system_ports) [
  | inl e ↦ (reply.SetLink (Err NoPort), old, no_port old n e, fits)
  | inr x ↦ (let p : Machines = x.1.port in
      let run = receive_rests (record p { enabled = up; choice = choice_with_link old.max_links up p.choice }) in
      let ports = port_changes (SetsPortEnabled old.max_links up) n old.system_ports x run.0 run.1 (linked old.max_links up p run.0 run.1) in
      let t = frees up n old.table in
      let done = settled (SetsLink n up) old (with_table (with_system_ports old ports.0) t.0) (ports.1, t.1, refl)
      (with_ports_fit old ports.0 t.0 fits (ports.2 fits.system_ports)) in
      (reply.SetLink (Ok tt), done.0, done.1, done.2))
]

-- other parameters
abbrev Changed : (ℕ → ℕ → ℕ → Type 0) → SystemState → ℕ → PortChange → Type 0
Changed gives old n change = Finds gives old (Configure n change)

configures_port : (gives : ℕ → ℕ → ℕ → Type 0) (old : SystemState) (n : ℕ) (change : PortChange) → NumbersFit old → change.key.0 < 2 ^ 16
    → change.priority < 2 ^ 16 → (x : Found n old.system_ports) (same : Bool)
    → same_party (changed_party change x.1.port.party) x.1.port.party ≡ same → Changed gives old n change
configures_port gives old n change fits key priority x true e = (
  reply.Configure (Ok false),
  old,
  (subst (λ o. HoldsAtIndex (λ p. same_party (changed_party change p.party) p.party ≡ true) o old.system_ports) (sym x.2) (x.1, x.3, e), refl),
  fits,
)
configures_port gives old n change fits key priority x false e =
    let own = (fits_at old.system_ports x.0 x.1 x.3 fits.system_ports).machines.own in
    let new_own : PartyFits (changed_party change x.1.port.party) = record {
      address = own.address;
      system_priority = own.system_priority;
      key = key;
      port_priority = priority;
      port = own.port;
    } in
    let begun : Machines = record x.1.port { party = changed_party change x.1.port.party } in
    let run = port_starts begun in
    let ports = port_changes (ChangesParty change) n old.system_ports x run.0 (e, run.1) (λ h. start_fits begun run.0 new_own run.1) in
    let done = settled (OnlyPortChangesBy (port_index n old.system_ports) (ChangesParty change)) old (with_system_ports old ports.0) (ports.1, refl)
    (with_ports_fit old ports.0 old.table fits (ports.2 fits.system_ports)) in
    (reply.Configure (Ok true), done.0, done.1, done.2)

pub configures : (gives : ℕ → ℕ → ℕ → Type 0) (old : SystemState) (n : ℕ) (change : PortChange) → NumbersFit old → change.key.0 < 2 ^ 16
    → change.priority < 2 ^ 16 → Finds gives old (Configure n change)
configures gives old n change fits key priority = elim (by_number n old.system_ports) [
  | inl e ↦ (reply.Configure (Err NoPort), old, no_port old n e, fits)
  | inr x ↦ configures_port gives old n change fits key priority x (same_party (changed_party change x.1.port.party) x.1.port.party) refl
]

-- a restart
start_each : (id : SystemId) → IsAddress id.mac → id.priority < 2 ^ 16 → (cs : List PortConfig) → AllByRecursion PortConfigFits cs
    → (xs : List SystemPort) × AllZip (HasJustStarted id) cs xs × EachFits xs
start_each id address priority [] fits = ([], tt, tt)
start_each id address priority (c ∷ cs) fits =
    let run = port_starts (before_start (setup_of id c)) in
    let own : PartyFits (setup_of id c).party = record {
      address = address;
      system_priority = priority;
      key = fits.0.key;
      port_priority = fits.0.priority;
      port = fits.0.number;
    } in
    let more = start_each id address priority cs fits.1 in (
      record { number = c.number; mac = c.mac; port = run.0; held = false } ∷ more.0,
      ((refl, refl, run.1, refl), more.1),
      (
        record {
          address = fits.0.address;
          number = fits.0.number;
          machines = start_fits (before_start (setup_of id c)) run.0 own run.1;
        },
        more.2,
      ),
    )

pub restarts : (gives : ℕ → ℕ → ℕ → Type 0) (old : SystemState) → NumbersFit old → Finds gives old Restart
restarts gives old fits =
    let t : Table = first_table (length old.keys) old.conversations old.first_marker in
    let start = start_each old.system fits.address fits.priority old.ports fits.ports in
    let begun : SystemState = with_table (with_system_ports old start.0) t in
    let ports = ports_settle begun in
    let new : SystemState = with_system_ports begun ports.0 in
    let settling = first_settles (length old.keys) old.conversations old.first_marker begun new refl ports.1 in
    (reply.Restart, new, (refl, (start.0, start.1, settling, refl)), with_ports_fit old ports.0 t fits (ports.2 start.2))

-- a configuration
pub configuration_begins : EachConfigurationBegins
configuration_begins config accepted fits =
    let keys = config.aggregators.items in
    let start = start_each config.system fits.address fits.priority config.ports.items fits.ports in
    let begun : SystemState = started config keys config.max_links start.0 in
    let ports = ports_settle begun in
    let new : SystemState = with_system_ports begun ports.0 in
    let first = first_made config keys config.max_links start.0 new start.1 ports.1 in
    let there = ports_made config keys config.max_links start.0 new refl refl accepted start.1 ports.1 in (
      new,
      record {
        first = first;
        configured = configured_made config keys config.max_links start.0 new refl refl ports.1;
        sound = first_sound new there first;
        held = first_free new first;
      },
      record {
        address = fits.address;
        priority = fits.priority;
        max_delay = fits.max_delay;
        ports = fits.ports;
        system_ports = ports.2 start.2;
      },
    )
