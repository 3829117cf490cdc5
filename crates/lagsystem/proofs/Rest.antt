-- What holds of each port after every call: its machines are at rest.
use Rattle.lagsystem.proofs.Common.{Bool, List, Option, Result, Some, [], ap, arith, false, if◌then◌else◌, not, refl, slice_get, slice_set, subst}
use Rattle.lagsystem.proofs.Common.{sym, true, ℕ, ◌&&◌, ◌||◌, ◌∙◌, ◌∷◌, ◌≡◌, and_parts, not-true, nat_tests, AllByRecursion, AllZip, AggId, Choice}
use Rattle.lagsystem.proofs.Common.{is_selected, Lacpdu, MuxState, Attached, CollectingDistributing, ReceiveState, Initialize, PortDisabled, Machines}
use Rattle.lagsystem.proofs.Common.{mux_rows, partner_synchronized, same_mux_state, RunsPeriodic, periodic_rows, receive_rows, same_receive_state}
use Rattle.lagsystem.proofs.Common.{start_receive, AtRest, Row, RunsToRest, Starts, before_start, after_sending, count_down, Reaches-keeps}
use Rattle.lagsystem.proofs.Common.{Assignment, Reply, SystemFault, SystemPort, Call, ChangesParty, OnlyPortChangesBy, PortAtChangesBy}
use Rattle.lagsystem.proofs.Common.{ProcessesLacpdu, SetsLink, SetsPortEnabled, Step, ThenSettles, Ticks, changed_party, choice_with_link}
use Rattle.lagsystem.proofs.Common.{HasJustStarted, IsFirst, setup_of, PortsConsistent, ReceivesAtRest, can_receive, can_receive_in, mux_consistent}
use Rattle.lagsystem.proofs.Common.{mux_consistent_of, none_enabled, GivesOrRefuses, Offers, Settling, ready_of, with_choice, SystemState}
use Rattle.lagsystem.proofs.Common.{aggregators_value, port_index, with_system_ports, views}
use Rattle.lagsystem.proofs.Keeps.{settling_in}
use Rattle.lagsystem.proofs.PromotionLemmas.{KeptByChoices, choosing_keeps}
use Rattle.lagsystem.proofs.Preserves.{Step-preserves_ports}
use Rattle.lagsystem.proofs.Rising.{all-set, all-get}

-- a machine is at rest exactly if no row is enabled
pub no_row : (rows : List Row) (p : Machines) → AtRest rows p → none_enabled rows p ≡ true
no_row [] p h = refl
no_row (row ∷ rows) p h = grind (arith, nat_tests, no_row rows p h.1)

pub rests : (rows : List Row) (p : Machines) → none_enabled rows p ≡ true → AtRest rows p
rests [] p h = tt
rests (row ∷ rows) p h =
    let both = and_parts (not (row.enabled p)) (none_enabled rows p) h in (not-true (row.enabled p) both.0, rests rows p both.1)

mux_awake : (ready : Bool) (p q : Machines) → RunsToRest (mux_rows ready) p q → none_enabled receive_rows q ≡ none_enabled receive_rows p
mux_awake ready p q h = Reaches-keeps (none_enabled receive_rows) (mux_rows ready) (
  (λ p. refl),
  ((λ p. refl), ((λ p. refl), ((λ p. refl), ((λ p. refl), ((λ p. refl), tt))))),
) h.0 p q h.1

periodic_awake : (p q : Machines) → RunsPeriodic p q → none_enabled receive_rows q ≡ none_enabled receive_rows p
periodic_awake p q h = ap (none_enabled receive_rows) h.2
    ∙ Reaches-keeps (none_enabled receive_rows) periodic_rows (
      (λ p. refl),
      ((λ p. refl), ((λ p. refl), ((λ p. refl), ((λ p. refl), ((λ p. refl), ((λ p. refl), tt)))))),
    ) h.1.0 p h.0 h.1.1

periodic_steady : (p q : Machines) → RunsPeriodic p q → mux_consistent q ≡ mux_consistent p
periodic_steady p q h = ap mux_consistent h.2
    ∙ Reaches-keeps mux_consistent periodic_rows (
      (λ p. refl),
      ((λ p. refl), ((λ p. refl), ((λ p. refl), ((λ p. refl), ((λ p. refl), ((λ p. refl), tt)))))),
    ) h.1.0 p h.0 h.1.1

-- at rest
rest_awake : (r : ReceiveState) (e : Bool) → (same_receive_state Initialize r && true) ≡ false
    → (same_receive_state PortDisabled r && e) ≡ false → (if e then can_receive_in r else true) ≡ true
rest_awake r e h k = grind (arith, nat_tests)

-- a port at rest whose link is up is in a state in which it processes LACPDUs
pub can_receive_at_rest : (p : Machines) → none_enabled receive_rows p ≡ true → can_receive p ≡ true
can_receive_at_rest p h = let r = rests receive_rows p h in rest_awake p.receive p.enabled r.0 r.1.1.0

receive_awake : (p q : Machines) → RunsToRest receive_rows p q → none_enabled receive_rows q ≡ true
receive_awake p q h = no_row receive_rows q h.2

rest_steady : (m : MuxState) (c : Choice) (s : Bool) → (same_mux_state Attached m && not (is_selected c)) ≡ false
    → (same_mux_state CollectingDistributing m && (not (is_selected c) || not s)) ≡ false → mux_consistent_of m (is_selected c) s ≡ true
rest_steady m c s h k = grind (arith, nat_tests)

mux_steady : (ready : Bool) (p q : Machines) → RunsToRest (mux_rows ready) p q → mux_consistent q ≡ true
mux_steady ready p q h = rest_steady q.mux q.choice (partner_synchronized q) h.2.1.1.1.0 h.2.1.1.1.1.1.0

-- of each port
pub zip_all : {X : Type 0} (R : X → SystemPort → Type 0) (P : SystemPort → Type 0) → ((x : X) (y : SystemPort) → R x y → P y)
    → (xs : List X) (ys : List SystemPort) → AllZip R xs ys → AllByRecursion P ys
zip_all R P k [] [] h = tt
zip_all R P k [] (y ∷ ys) h = absurd h
zip_all R P k (x ∷ xs) [] h = absurd h
zip_all R P k (x ∷ xs) (y ∷ ys) h = (k x y h.0, zip_all R P k xs ys h.1)

pub zip_kept : (R : SystemPort → SystemPort → Type 0) (P : SystemPort → Type 0) → ((x y : SystemPort) → R x y → P x → P y)
    → (xs ys : List SystemPort) → AllZip R xs ys → AllByRecursion P xs → AllByRecursion P ys
zip_kept R P k [] [] h a = tt
zip_kept R P k [] (y ∷ ys) h a = absurd h
zip_kept R P k (x ∷ xs) [] h a = absurd h
zip_kept R P k (x ∷ xs) (y ∷ ys) h a = (k x y h.0 a.0, zip_kept R P k xs ys h.1 a.1)

given_awake : (s : SystemPort) (o : Option Choice) → none_enabled receive_rows (with_choice s o).port ≡ none_enabled receive_rows s.port
given_awake s o = grind (arith, nat_tests)

abbrev IsAwake : SystemPort → Type 0
IsAwake x = none_enabled receive_rows x.port ≡ true

abbrev IsSteady : SystemPort → Type 0
IsSteady x = mux_consistent x.port ≡ true

selects_awake : KeptByChoices ReceivesAtRest
selects_awake l i s o e a = all-set IsAwake l i (with_choice s o) a (given_awake s o ∙ all-get IsAwake l i s e a)

-- a state that is the same has the same ports
pub same_slots : (s t : SystemState) → t ≡ s → t.system_ports ≡ s.system_ports
same_slots s t e = ap (λ (x : SystemState). x.system_ports) e

-- the last step of settling leaves the ports
pub last_slots : (old new : SystemState) (h : Settling old new) → new.system_ports ≡ h.2.2.2.2.0.system_ports
last_slots old new h = ap (λ (x : SystemState). x.system_ports) h.2.2.2.2.2.2 ∙ ap (λ (x : SystemState). x.system_ports) h.2.2.2.2.2.1.frame

-- settling brings every mux machine to rest, and leaves the receive machines
pub settling_rested : (old new : SystemState) → Settling old new → ReceivesAtRest old.system_ports → PortsConsistent new.system_ports
settling_rested old new h a = let s = settling_in old new h in
    let keys = old.keys in
    let awake = zip_kept _ IsAwake (λ x y m k. mux_awake (ready_of keys (views s.two) x.port.choice) x.port y.port m.1 ∙ k) s.two s.four s.runs
    (choosing_keeps ReceivesAtRest selects_awake (aggregators_value old) s.one s.two s.chooses
    (zip_kept _ IsAwake (λ x y m k. mux_awake false x.port y.port m.1 ∙ k) old.system_ports s.one s.stops a)) in
    let steady = zip_all _ IsSteady (λ x y m. mux_steady (ready_of keys (views s.two) x.port.choice) x.port y.port m.1) s.two s.four s.runs in (
      zip_kept _ IsAwake (λ x y m k. periodic_awake x.port y.port m.1 ∙ k) s.four new.system_ports s.paces awake,
      zip_kept _ IsSteady (λ x y m k. periodic_steady x.port y.port m.1 ∙ k) s.four new.system_ports s.paces steady,
    )

-- the own effects
pub place_kept : (P : SystemPort → Type 0) (R : Machines → Machines → Type 0) (o : Option ℕ) (old new : List SystemPort)
    → ((s : SystemPort) (q : Machines) → R s.port q → P s → P (record s { port = q })) → PortAtChangesBy R o old new
    → AllByRecursion P old → AllByRecursion P new
place_kept P R o old new k h a = grind (arith, nat_tests, all-set, all-get)

settled_rested : (own : SystemState → SystemState → Type 0) (s t : SystemState)
    → ((mid : SystemState) → own s mid → ReceivesAtRest mid.system_ports) → ThenSettles own s t → PortsConsistent t.system_ports
settled_rested own s t k h = settling_rested h.0 t h.2 (k h.0 h.1)

takes_awake : (v : Lacpdu) (p q : Machines) → ProcessesLacpdu v p q → none_enabled receive_rows p ≡ true → none_enabled receive_rows q ≡ true
takes_awake v p q h a = grind (arith, nat_tests)

starts_awake : (p q : Machines) → Starts p q → none_enabled receive_rows q ≡ true
starts_awake p q h = ap (none_enabled receive_rows) h.2 ∙ receive_awake (start_receive p) h.0 h.1

pub offers_slots : (gives : ℕ → ℕ → ℕ → Type 0) (agg : AggId) (octets : List ℕ) (old : SystemState) (answer : Result ℕ SystemFault)
    (new : SystemState) → Offers gives agg octets old answer new → new.system_ports ≡ old.system_ports
offers_slots gives agg octets old answer new h = grind (arith, nat_tests)

pub becomes_slots : (agg : AggId) (conv : ℕ) (state : Result Assignment SystemFault) (old : SystemState) (answer : Result Unit SystemFault)
    (new : SystemState) → GivesOrRefuses agg conv state old answer new → new.system_ports ≡ old.system_ports
becomes_slots agg conv state old answer new h = grind (arith, nat_tests)

-- the start
pub first_rested : (s : SystemState) → IsFirst s → PortsConsistent s.system_ports
first_rested s h = settling_rested (with_system_ports s h.0) s h.2
    (zip_all (HasJustStarted s.system) IsAwake (λ c x m. starts_awake (before_start (setup_of s.system c)) x.port m.2) s.ports h.0 h.1)

-- every call leaves the machines at rest
pub Step-rested : (gives : ℕ → ℕ → ℕ → Type 0) (old : SystemState) (call : Call) (answer : Reply) (new : SystemState)
    → Step gives old call answer new → PortsConsistent old.system_ports → PortsConsistent new.system_ports
Step-rested gives old call answer new h a = Step-preserves_ports gives old (λ call answer new. PortsConsistent new.system_ports)
    (λ call answer new none e. subst PortsConsistent (sym e) a) (record {
      tick = λ new h. settled_rested Ticks old new (λ mid own. zip_all _ IsAwake (λ x y m. receive_awake (count_down x.port) y.port m.1)
          old.system_ports mid.system_ports own.0) h;
      link = λ n up done new h. settled_rested (SetsLink n up) old new (λ mid own. place_kept IsAwake (SetsPortEnabled old.max_links up)
          (port_index n old.system_ports) old.system_ports mid.system_ports
          (λ s q r k. receive_awake (record s.port { enabled = up; choice = choice_with_link old.max_links up s.port.choice }) q r)
          own.0 a.0) h;
      take = λ n octets v answer new told h. on_port n (ProcessesLacpdu v) (takes_awake v) new h;
      change = λ n change new h. on_port n (ChangesParty change)
          (λ p q r k. starts_awake (record p { party = changed_party change p.party }) q r.1) new h;
      restart = λ new e first. first_rested new first;
      send = λ n i x answer octets new at e due is told set. (
        sent (none_enabled receive_rows) (λ p. refl) new i x e set a.0,
        sent mux_consistent (λ p. refl) new i x e set a.1,
      );
    }) call answer new h
  where
    on_port : (n : ℕ) (R : Machines → Machines → Type 0) → ((p q : Machines) → R p q → none_enabled receive_rows p ≡ true → none_enabled receive_rows q ≡ true)
        → (new : SystemState) → ThenSettles (OnlyPortChangesBy (port_index n old.system_ports) R) old new → PortsConsistent new.system_ports
    on_port n R k new h = let o = port_index n old.system_ports in
        settled_rested (OnlyPortChangesBy o R) old new
        (λ mid own. place_kept IsAwake R o old.system_ports mid.system_ports (λ s. k s.port) own.0 a.0) h

    sent : (g : Machines → Bool) → ((p : Machines) → g (after_sending p) ≡ g p) → (new : SystemState) (i : ℕ) (x : SystemPort)
        → slice_get old.system_ports i ≡ Some x → new ≡ with_system_ports old (slice_set old.system_ports i (record x { port = after_sending x.port }))
        → AllByRecursion (λ y. g y.port ≡ true) old.system_ports → AllByRecursion (λ y. g y.port ≡ true) new.system_ports
    sent g k new i x e set b = let P : SystemPort → Type 0 = λ y. g y.port ≡ true in
        subst (AllByRecursion P) (sym (ap (λ (s : SystemState). s.system_ports) set))
        (all-set P old.system_ports i (record x { port = after_sending x.port }) b (k x.port ∙ all-get P old.system_ports i x e b))
