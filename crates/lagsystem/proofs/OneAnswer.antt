-- A call of a system has one answer and one state after it.
use Rattle.lagsystem.proofs.Common.{Bool, Err, List, None, Ok, Option, Result, Some, [], ap, arith, cond, false, if◌then◌else◌, is_some, ltb, refl}
use Rattle.lagsystem.proofs.Common.{slice_set, subst, sym, true, ℕ, ◌+◌, ◌^◌, ◌∙◌, ◌∷◌, ◌≡◌, ◌⊎◌, true≢false, nat_tests, none-some, same_Some}
use Rattle.lagsystem.proofs.Common.{IsFalse, AggId, Lacpdu, Marker, frame_octets, one_written, PortCall, Machines, receive_rows, RunsToRest}
use Rattle.lagsystem.proofs.Common.{after_sending, count_down, one_effect, Assignment, DistFault, Assigns, force_result, move_result}
use Rattle.lagsystem.proofs.Common.{ChangesAssignments, Marks, after_mark, after_tick, marker_due, wants_marker, Table, count_conversations}
use Rattle.lagsystem.proofs.Common.{next_identifier, sum_below, PortChange, Reply, SystemFault, NoAggregator, NoPort, FrameEffect, Answered}
use Rattle.lagsystem.proofs.Common.{ProcessLacpdu, Response, Received, SystemPort, AlreadyConfigured, Call, ChangesParty, Configure, Force}
use Rattle.lagsystem.proofs.Common.{FreesIfDown, Move_conversation, Offer, OnlyPortChangesBy, Performs, PortAtChangesBy, ProcessesLacpdu, Receive}
use Rattle.lagsystem.proofs.Common.{ReceivesAt, RefusesNoPort, Releases, Restart, Set_link, SetsLink, SetsPortEnabled, Step, ThenSettles, Tick, Ticks}
use Rattle.lagsystem.proofs.Common.{Transmit, changed_party, choice_with_link, IsFirst, ReceivesAtRest, none_enabled, AssignsPort, GivesOrRefuses}
use Rattle.lagsystem.proofs.Common.{MayBeOfferedTo, Offers, RefusesFrame, RefusesOffer, has_aggregator, in_system, or_not_assigned}
use Rattle.lagsystem.proofs.Common.{system_force_result, system_move_result, IsFunction, OneAnswer, OneRun, SameConversations, SameState}
use Rattle.lagsystem.proofs.Common.{distributing, SendsMarkerOf, TransmitsAt, TransmitsIf, own_marker, SystemState, aggregators_value, port_index}
use Rattle.lagsystem.proofs.Common.{system_port_at, with_system_ports, with_table}
use Rattle.slowpdu.specs.declared.pdu.Pdu.TheVariants as pdu
use Rattle.lagsystem.specs.declared.drive.Reply.TheVariants as reply
use Rattle.lagsystem.specs.Faults.{system_fault}
use Rattle.lagsystem.proofs.Keeps.{Step-frame}
use Rattle.lagsystem.proofs.OfferLemmas.{not_both}
use Rattle.lagsystem.proofs.OneFrame.{effect_one, lacpdu_one}
use Rattle.lagsystem.proofs.OneSettling.{Changed, LeadsToOne, SameAfter, changed_one, one_at, one_of_each, settlings_one, stayed_one}
use Rattle.lagsystem.proofs.OneStart.{one_first}
use Rattle.lagsystem.proofs.Rest.{rests}

-- what calls do to a port whose receive machine is at rest
abbrev Rests : Machines → Type 0
Rests p = none_enabled receive_rows p ≡ true

tick_one : LeadsToOne Rests (λ p q. RunsToRest receive_rows (count_down p) q)
tick_one p q r a h k = one_effect PortCall.Tick p q r (rests receive_rows p a) h k

link_one : (most : Option ℕ) (up : Bool) → LeadsToOne Rests (SetsPortEnabled most up)
link_one most up p q r a h k =
    one_effect (PortCall.Set_link up) (record p { choice = choice_with_link most up p.choice }) q r (rests receive_rows p a) h k

takes_one : (v : Lacpdu) → LeadsToOne Rests (ProcessesLacpdu v)
takes_one v p q r a h k = one_effect (PortCall.Take v) p q r (rests receive_rows p a) h k

party_one : (c : PortChange) → LeadsToOne Rests (ChangesParty c)
party_one c p q r a h k = one_effect (PortCall.Reinit (changed_party c p.party)) p q r (rests receive_rows p a) h.1 k.1

-- tables
count_one : (passes : Assignment → Bool) (t u : Table) → SameConversations t u → count_conversations passes u ≡ count_conversations passes t
count_one passes t u same i =
    sum_below (λ a. sum_below (λ c. cond (passes (same.states (a + 1) c i)) 1 0) (same.conversations i)) (same.aggs i)

due_one : (t u : Table) (port : ℕ) → SameConversations t u → marker_due u port ≡ marker_due t port
due_one t u port same i =
    cond (ltb 0 (count_one (wants_marker port) t u same i)) (cond (ltb (same.next i) (2 ^ 32)) (Some (same.next i)) None) None

each_changed : (f : Assignment → Assignment) (t a : Table) → ChangesAssignments t a f → Changed (λ g c. f) 0 t a
each_changed f t a h = grind (arith, nat_tests)

marked : (port id : ℕ) (t a : Table) → Marks t a port id → Changed (λ g c. after_mark port id) 1 t a
marked port id t a h = record { aggs = h.aggs; conversations = h.conversations; first = h.first; next = h.next; states = h.states }

changes_one : (f : Assignment → Assignment) (t u a b : Table) → SameConversations t u → ChangesAssignments t a f → ChangesAssignments u b f
    → SameConversations a b
changes_one f t u a b same h k = changed_one (λ g c. f) 0 t u a b same (each_changed f t a h) (each_changed f u b k)

-- states: the second system differs from the first in its table alone
abbrev Twins : Reply → SystemState → Reply → SystemState → Type 0
Twins a new b last = (b ≡ a) × SameAfter new last

ports_same : (s t : SystemState) → t ≡ s → t.system_ports ≡ s.system_ports
ports_same s t e = ap (λ (x : SystemState). x.system_ports) e

table_same : (s t : SystemState) → t ≡ s → t.table ≡ s.table
table_same s t e = ap (λ (x : SystemState). x.table) e

stays : (old : SystemState) (u : Table) (new last : SystemState) → SameConversations old.table u → new ≡ old → last ≡ with_table old u → SameAfter new last
stays old u new last same h k = grind (arith, nat_tests)

-- the ports stay, and the table changes
tabled : (old : SystemState) (u : Table) (new last : SystemState) → new ≡ with_table old new.table
    → last ≡ with_table (with_table old u) last.table → SameConversations new.table last.table → SameAfter new last
tabled old u new last h k same = grind (arith, nat_tests)

no_port : (old : SystemState) (u : Table) (o : Option ℕ) (e d : SystemFault) (new last : SystemState) → SameConversations old.table u
    → RefusesNoPort o e old new → RefusesNoPort o d (with_table old u) last → (d ≡ e) × SameAfter new last
no_port old u o e d new last same h k = (k.named ∙ sym h.named, stays old u new last same h.same k.same)

-- a tick, and a change of a link
ticks_one : (old : SystemState) (u : Table) (new last : SystemState) → ReceivesAtRest old.system_ports → SameConversations old.table u
    → ThenSettles Ticks old new → ThenSettles Ticks (with_table old u) last → SameAfter new last
ticks_one old u new last rest same h k = settlings_one h.0 k.0 new last (
  sym (one_of_each Rests (λ p q. RunsToRest receive_rows (count_down p) q) tick_one old.system_ports h.0.system_ports
      k.0.system_ports rest h.1.0 k.1.0),
  changes_one after_tick old.table u h.0.table k.0.table same h.1.1 k.1.1,
) (ap aggregators_value k.1.2 ∙ sym (ap aggregators_value h.1.2)) h.2 k.2

frees_one : (up : Bool) (port : ℕ) (t u a b : Table) → SameConversations t u → FreesIfDown up port t a → FreesIfDown up port u b → SameConversations a b
frees_one up port t u a b same h k = grind (arith, nat_tests)

links_one : (n : ℕ) (up : Bool) (old : SystemState) (u : Table) (new last : SystemState) → ReceivesAtRest old.system_ports → SameConversations old.table u
    → ThenSettles (SetsLink n up) old new → ThenSettles (SetsLink n up) (with_table old u) last → SameAfter new last
links_one n up old u new last rest same h k = settlings_one h.0 k.0 new last (
  sym (one_at Rests (SetsPortEnabled old.max_links up) (link_one old.max_links up) (port_index n old.system_ports)
      old.system_ports h.0.system_ports k.0.system_ports rest h.1.0 k.1.0),
  frees_one up n old.table u h.0.table k.0.table same h.1.1 k.1.1,
) (ap aggregators_value k.1.2 ∙ sym (ap aggregators_value h.1.2)) h.2 k.2

-- one port changes, and settling follows
place_one : (R : Machines → Machines → Type 0) → LeadsToOne Rests R → (o : Option ℕ) (old : SystemState) (u : Table)
    (new last : SystemState) → ReceivesAtRest old.system_ports → SameConversations old.table u
    → ThenSettles (OnlyPortChangesBy o R) old new → ThenSettles (OnlyPortChangesBy o R) (with_table old u) last → SameAfter new last
place_one R one o old u new last rest same h k = settlings_one h.0 k.0 new last (
  sym (one_at Rests R one o old.system_ports h.0.system_ports k.0.system_ports rest h.1.0 k.1.0),
  stayed_one old.table u h.0.table k.0.table same (ap (λ (x : SystemState). x.table) h.1.1)
      (ap (λ (x : SystemState). x.table) k.1.1),
) (ap aggregators_value k.1.1 ∙ sym (ap aggregators_value h.1.1)) h.2 k.2

-- a received frame
releases_one : (b : Bool) (port : ℕ) (m : Marker) (old : SystemState) (u : Table) (x y : Received) (new last : SystemState)
    → SameConversations old.table u → Releases b port m old x new → Releases b port m (with_table old u) y last → (y ≡ x) × SameAfter new last
releases_one b port m old u x y new last same h k = grind (arith, nat_tests, stays, count_one, tabled, changes_one)

performs_one : (effect : FrameEffect) (port : ℕ) (o : Option ℕ) (old : SystemState) (u : Table) (x y : Received) (new last : SystemState)
    → ReceivesAtRest old.system_ports → SameConversations old.table u → Performs effect port o old x new
    → Performs effect port o (with_table old u) y last → (y ≡ x) × SameAfter new last
performs_one (ProcessLacpdu v) port o old u x y new last rest same h k = (
  k.0 ∙ sym h.0,
  place_one (ProcessesLacpdu v) (takes_one v) o old u new last rest same h.1 k.1,
)
performs_one (Response m) port o old u x y new last rest same h k = grind (arith, nat_tests, releases_one)
performs_one (Answered a) port o old u x y new last rest same h k = (k.0 ∙ sym h.0, stays old u new last same h.1 k.1)

receives_one : (o : Option ℕ) (octets : List ℕ) (old : SystemState) (u : Table) (x y : Received) (new last : SystemState) → ReceivesAtRest old.system_ports
    → SameConversations old.table u → ReceivesAt o octets old x new → ReceivesAt o octets (with_table old u) y last → (y ≡ x) × SameAfter new last
receives_one o octets old u x y new last rest same h k = grind (arith, nat_tests, effect_one, performs_one)

-- what is sent
sends_one : (o p : Option ℕ) (port : ℕ) (mac : List ℕ) (old : SystemState) (u : Table) (x y : Option (List ℕ)) (new last : SystemState) → p ≡ o
    → SameConversations old.table u → SendsMarkerOf o port mac old x new → SendsMarkerOf p port mac (with_table old u) y last → (y ≡ x) × SameAfter new last
sends_one None None port mac old u x y new last e same h k = (k.0 ∙ sym h.0, stays old u new last same h.1 k.1)
sends_one None (Some id) port mac old u x y new last e same h k = absurd (none-some id (sym e))
sends_one (Some id) None port mac old u x y new last e same h k = absurd (none-some id e)
sends_one (Some id) (Some n) port mac old u x y new last e same h k = let d : n ≡ id = same_Some n id e in
    let theirs : SendsMarkerOf (Some id) port mac (with_table old u) y last =
    subst (λ m. SendsMarkerOf (Some m) port mac (with_table old u) y last) d k in (
      theirs.3 ∙ ap (λ l. Some (frame_octets mac l)) (one_written theirs.0 h.0 (pdu.Marker (own_marker old port id)) theirs.2 h.2) ∙ sym h.3,
      tabled old u new last h.5 theirs.5
          (changed_one (λ g c. after_mark port id) 1 old.table u new.table last.table same (marked port id old.table new.table h.4)
          (marked port id u last.table theirs.4)),
    )

transmits_if : (up due : Bool) (i : ℕ) (system_port : SystemPort) (old : SystemState) (u : Table) (x y : Option (List ℕ))
    (new last : SystemState) → SameConversations old.table u → TransmitsIf up due i system_port old x new
    → TransmitsIf up due i system_port (with_table old u) y last → (y ≡ x) × SameAfter new last
transmits_if false due i system_port old u x y new last same h k = (k.0 ∙ sym h.0, stays old u new last same h.1 k.1)
transmits_if true true i system_port old u x y new last same h k =
    let news = slice_set old.system_ports i (record system_port { port = after_sending system_port.port }) in (
      k.2 ∙ ap Some (lacpdu_one old.max_delay system_port k.0 h.0 k.1 h.1) ∙ sym h.2,
      stays (with_system_ports old news) u new last same h.3 k.3,
    )
transmits_if true false i system_port old u x y new last same h k = let port = system_port.number in
    sends_one (marker_due old.table port) (marker_due u port) port system_port.mac old u x y new last (due_one old.table u port same) same h k

transmits_one : (o : Option ℕ) (old : SystemState) (u : Table) (x y : Option (List ℕ)) (new last : SystemState)
    → SameConversations old.table u → TransmitsAt o old x new → TransmitsAt o (with_table old u) y last → (y ≡ x) × SameAfter new last
transmits_one o old u x y new last same h k = grind (arith, nat_tests, transmits_if)

-- what the distributor answers
assigns_one : (gives : ℕ → ℕ → ℕ → Type 0) → IsFunction gives → (conv : ℕ) (ports : List ℕ) (s : Assignment) (x y : Result ℕ DistFault)
    → Assigns gives conv ports s x → Assigns gives conv ports s y → y ≡ x
assigns_one gives one conv ports s x y h k = grind (arith, nat_tests)

-- an offer, by the first check that fails, or by what the distributor answers
abbrev as_fault : Result ℕ DistFault → Result ℕ SystemFault
as_fault (Ok port) = Ok port
as_fault (Err cause) = Err (system_fault cause)

abbrev NoSuch : SystemState → AggId → Result ℕ SystemFault → Type 0
NoSuch s agg x = IsFalse (has_aggregator s agg) × (x ≡ Err NoAggregator)

abbrev Unfit : SystemState → AggId → List ℕ → Result ℕ SystemFault → Type 0
Unfit s agg octets x = (fault : SystemFault) × (has_aggregator s agg ≡ true) × RefusesFrame octets fault × (x ≡ Err fault)

abbrev Asked : (ℕ → ℕ → ℕ → Type 0) → SystemState → AggId → List ℕ → Result ℕ SystemFault → Type 0
Asked gives s agg octets x = (d : Result ℕ DistFault) × MayBeOfferedTo s agg octets × AssignsPort gives s agg octets d × (x ≡ as_fault d)

abbrev Reason : (ℕ → ℕ → ℕ → Type 0) → SystemState → AggId → List ℕ → Result ℕ SystemFault → Type 0
Reason gives s agg octets x = NoSuch s agg x ⊎ (Unfit s agg octets x ⊎ Asked gives s agg octets x)

refused : (gives : ℕ → ℕ → ℕ → Type 0) (s : SystemState) (agg : AggId) (octets : List ℕ) (fault : SystemFault)
    → RefusesOffer gives s agg octets fault → Reason gives s agg octets (Err fault)
refused gives s agg octets fault h = grind (arith, nat_tests)

offered : (gives : ℕ → ℕ → ℕ → Type 0) (s : SystemState) (agg : AggId) (octets : List ℕ) (x : Result ℕ SystemFault) (new : SystemState)
    → Offers gives agg octets s x new → Reason gives s agg octets x
offered gives s agg octets x new h = grind (arith, nat_tests)

differ : {A : Type 0} (b : Bool) → b ≡ true → b ≡ false → A
differ b t f = absurd (true≢false (sym t ∙ f))

frame_one : (octets : List ℕ) (f g : SystemFault) → RefusesFrame octets f → RefusesFrame octets g → g ≡ f
frame_one octets f g h k = grind (arith, nat_tests)

reason_one : (gives : ℕ → ℕ → ℕ → Type 0) → IsFunction gives → (s : SystemState) (agg : AggId) (octets : List ℕ) (x y : Result ℕ SystemFault)
    → Reason gives s agg octets x → Reason gives s agg octets y → y ≡ x
reason_one gives one s agg octets x y h i = grind (arith, nat_tests, differ, has_aggregator, frame_one, not_both, assigns_one)

alike : (gives : ℕ → ℕ → ℕ → Type 0) (old : SystemState) (u : Table) (agg : AggId) (octets : List ℕ) (x : Result ℕ SystemFault)
    → SameConversations old.table u → Reason gives (with_table old u) agg octets x → Reason gives old agg octets x
alike gives old u agg octets x same h = grind (arith, nat_tests)

offers_one : (gives : ℕ → ℕ → ℕ → Type 0) → IsFunction gives → (agg : AggId) (octets : List ℕ) (old : SystemState) (u : Table)
    (x y : Result ℕ SystemFault) (new last : SystemState) → SameConversations old.table u → Offers gives agg octets old x new
    → Offers gives agg octets (with_table old u) y last → (y ≡ x) × SameAfter new last
offers_one gives one agg octets old u x y new last same h k = (answers, after x y new last answers h k)
  where
    answers : y ≡ x
    answers = reason_one gives one old agg octets x y (offered gives old agg octets x new h)
        (alike gives old u agg octets y same (offered gives (with_table old u) agg octets y last k))

    port_of : ℕ → Result ℕ SystemFault → ℕ
    port_of other (Ok port) = port
    port_of other (Err fault) = other

    after : (x y : Result ℕ SystemFault) (new last : SystemState) → y ≡ x → Offers gives agg octets old x new
        → Offers gives agg octets (with_table old u) y last → SameAfter new last
    after x y new last e h k = grind (arith, nat_tests)

-- moves and forces
changes_or_refuses : (agg : AggId) (conv : ℕ) (s r : Result Assignment SystemFault) (old : SystemState) (u : Table)
    (x y : Result Unit SystemFault) (new last : SystemState) → r ≡ s → SameConversations old.table u
    → GivesOrRefuses agg conv s old x new → GivesOrRefuses agg conv r (with_table old u) y last → (y ≡ x) × SameAfter new last
changes_or_refuses agg conv s r old u x y new last e same h k = grind (arith, nat_tests)

next_one : (t u : Table) → SameConversations t u → next_identifier u ≡ next_identifier t
next_one t u same i = cond (ltb (same.next i) (2 ^ 32)) (Some (same.next i)) None

moves_one : (old : SystemState) (u : Table) (agg : AggId) (conv port : ℕ) → SameConversations old.table u
    → system_move_result (with_table old u) agg conv port ≡ system_move_result old agg conv port
moves_one old u agg conv port same i = if has_aggregator old agg
    then (if is_some (port_index port old.system_ports)
    then in_system (or_not_assigned old conv (move_result (next_one old.table u same i) (distributing agg old.system_ports) port
    (same.states agg.0 conv i)))
    else Err NoPort)
    else Err NoAggregator

forces_one : (old : SystemState) (u : Table) (agg : AggId) (conv : ℕ) → SameConversations old.table u
    → system_force_result (with_table old u) agg conv ≡ system_force_result old agg conv
forces_one old u agg conv same i = if has_aggregator old agg then in_system
    (or_not_assigned old conv (force_result (same.states agg.0 conv i))) else Err NoAggregator

-- a port that has the values already is not changed
has_values : (o : Option ℕ) (c : PortChange) (old : SystemState) (new : List SystemPort) → AlreadyConfigured o c old
    → PortAtChangesBy (ChangesParty c) o old.system_ports new → ⊥
has_values o c old new h k = grind (arith, nat_tests)

-- what is done at a port needs one
no_place : {X : Type 0} (R : Machines → Machines → Type 0) (o : Option ℕ) (old new : List SystemPort) → o ≡ None → PortAtChangesBy R o old new → X
no_place R o old new e h = grind (arith, nat_tests)

no_receiver : {X : Type 0} (o : Option ℕ) (ports : List SystemPort) (s : SystemPort) → o ≡ None → system_port_at o ports ≡ Some s → X
no_receiver o ports s e h = grind (arith, nat_tests)

no_holder : {X : Type 0} (o : Option ℕ) (c : PortChange) (s : SystemState) → o ≡ None → AlreadyConfigured o c s → X
no_holder o c s e h = grind (arith, nat_tests)

no_sender : {X : Type 0} (o : Option ℕ) (old : SystemState) (x : Option (List ℕ)) (new : SystemState) → o ≡ None → TransmitsAt o old x new → X
no_sender o old x new e h = grind (arith, nat_tests)

-- a restart leads to the first state
abbrev Restarts : SystemState → SystemState → Type 0
Restarts old new = (new ≡ with_table (with_system_ports old new.system_ports) new.table) × IsFirst new

restarts_one : (old : SystemState) (u : Table) (new last : SystemState) → Restarts old new → Restarts (with_table old u) last → SameAfter new last
restarts_one old u new last h k = let frame : last ≡ with_table (with_system_ports new last.system_ports) last.table =
    k.0 ∙ ap (λ (s : SystemState). with_table (with_system_ports s last.system_ports) last.table) (sym h.0) in
    let e : last ≡ new = one_first new last frame h.1 k.1 in (
      ports_same new last e,
      stayed_one new.table new.table new.table last.table (record { aggs = refl; conversations = refl; first = refl; next = refl; states = λ a c. refl })
          refl (table_same new last e),
    )

-- each call, of a system and of another that differs in its table alone
steps_one : (gives : ℕ → ℕ → ℕ → Type 0) → IsFunction gives → (old : SystemState) (u : Table) → ReceivesAtRest old.system_ports → SameConversations old.table u
    → (call : Call) (a b : Reply) (new last : SystemState) → Step gives old call a new → Step gives (with_table old u) call b last → Twins a new b last
steps_one gives one old u rest same call a b new last h k = each call a b h k
  where
    told : {X : Type 0} {x y : X} (f : X → Reply) → (y ≡ x) × SameAfter new last → Twins (f x) new (f y) last
    told f t = (ap f t.0, t.1)

    each : (call : Call) (a b : Reply) → Step gives old call a new → Step gives (with_table old u) call b last → Twins a new b last
    each Tick reply.Tick reply.Tick h k = (refl, ticks_one old u new last rest same h k)
    each (Set_link n up) (reply.SetLink (Ok done)) (reply.SetLink (Ok other)) h k = (refl, links_one n up old u new last rest same h k)
    each (Set_link n up) (reply.SetLink (Ok done)) (reply.SetLink (Err f)) h k =
        no_place (SetsPortEnabled old.max_links up) (port_index n old.system_ports) old.system_ports h.0.system_ports k.cause h.1.0
    each (Set_link n up) (reply.SetLink (Err f)) (reply.SetLink (Ok done)) h k =
        no_place (SetsPortEnabled old.max_links up) (port_index n old.system_ports) old.system_ports k.0.system_ports h.cause k.1.0
    each (Set_link n up) (reply.SetLink (Err f)) (reply.SetLink (Err g)) h k =
        told (λ x. reply.SetLink (Err x)) (no_port old u (port_index n old.system_ports) f g new last same h k)
    each (Receive n octets) (reply.Receive (Ok x)) (reply.Receive (Ok y)) h k =
        told (λ z. reply.Receive (Ok z)) (receives_one (port_index n old.system_ports) octets old u x y new last rest same h k)
    each (Receive n octets) (reply.Receive (Ok x)) (reply.Receive (Err f)) h k =
        no_receiver (port_index n old.system_ports) old.system_ports h.0 k.cause h.2
    each (Receive n octets) (reply.Receive (Err f)) (reply.Receive (Ok x)) h k =
        no_receiver (port_index n old.system_ports) old.system_ports k.0 h.cause k.2
    each (Receive n octets) (reply.Receive (Err f)) (reply.Receive (Err g)) h k =
        told (λ x. reply.Receive (Err x)) (no_port old u (port_index n old.system_ports) f g new last same h k)
    each (Configure n c) (reply.Configure (Ok true)) (reply.Configure (Ok true)) h k = (
      refl,
      place_one (ChangesParty c) (party_one c) (port_index n old.system_ports) old u new last rest same h k,
    )
    each (Configure n c) (reply.Configure (Ok true)) (reply.Configure (Ok false)) h k =
        absurd (has_values (port_index n old.system_ports) c old h.0.system_ports k.0 h.1.0)
    each (Configure n c) (reply.Configure (Ok true)) (reply.Configure (Err f)) h k =
        no_place (ChangesParty c) (port_index n old.system_ports) old.system_ports h.0.system_ports k.cause h.1.0
    each (Configure n c) (reply.Configure (Ok false)) (reply.Configure (Ok true)) h k =
        absurd (has_values (port_index n old.system_ports) c old k.0.system_ports h.0 k.1.0)
    each (Configure n c) (reply.Configure (Ok false)) (reply.Configure (Ok false)) h k = (refl, stays old u new last same h.1 k.1)
    each (Configure n c) (reply.Configure (Ok false)) (reply.Configure (Err f)) h k =
        no_holder (port_index n old.system_ports) c old k.cause h.0
    each (Configure n c) (reply.Configure (Err f)) (reply.Configure (Ok true)) h k =
        no_place (ChangesParty c) (port_index n old.system_ports) old.system_ports k.0.system_ports h.cause k.1.0
    each (Configure n c) (reply.Configure (Err f)) (reply.Configure (Ok false)) h k =
        no_holder (port_index n old.system_ports) c old h.cause k.0
    each (Configure n c) (reply.Configure (Err f)) (reply.Configure (Err g)) h k =
        told (λ x. reply.Configure (Err x)) (no_port old u (port_index n old.system_ports) f g new last same h k)
    each Restart reply.Restart reply.Restart h k = (refl, restarts_one old u new last h k)
    each (Transmit n) (reply.Transmit (Ok x)) (reply.Transmit (Ok y)) h k =
        told (λ z. reply.Transmit (Ok z)) (transmits_one (port_index n old.system_ports) old u x y new last same h k)
    each (Transmit n) (reply.Transmit (Ok x)) (reply.Transmit (Err f)) h k =
        no_sender (port_index n old.system_ports) old x new k.cause h
    each (Transmit n) (reply.Transmit (Err f)) (reply.Transmit (Ok x)) h k =
        no_sender (port_index n old.system_ports) (with_table old u) x last h.cause k
    each (Transmit n) (reply.Transmit (Err f)) (reply.Transmit (Err g)) h k =
        told (λ x. reply.Transmit (Err x)) (no_port old u (port_index n old.system_ports) f g new last same h k)
    each (Offer agg octets) (reply.Offer x) (reply.Offer y) h k =
        told (λ z. reply.Offer z) (offers_one gives one agg octets old u x y new last same h k)
    each (Move_conversation agg conv port) (reply.MoveConversation x) (reply.MoveConversation y) h k =
        told (λ z. reply.MoveConversation z) (changes_or_refuses agg conv (system_move_result old agg conv port)
        (system_move_result (with_table old u) agg conv port) old u x y new last (moves_one old u agg conv port same) same h k)
    each (Force agg conv) (reply.Force x) (reply.Force y) h k =
        told (λ z. reply.Force z) (changes_or_refuses agg conv (system_force_result old agg conv)
        (system_force_result (with_table old u) agg conv) old u x y new last (forces_one old u agg conv same) same h k)
    each Tick reply.Tick b h k = absurd k
    each (Set_link n up) (reply.SetLink x) b h k = absurd k
    each (Receive n octets) (reply.Receive x) b h k = absurd k
    each (Configure n c) (reply.Configure x) b h k = absurd k
    each Restart reply.Restart b h k = absurd k
    each (Transmit n) (reply.Transmit x) b h k = absurd k
    each (Offer agg octets) (reply.Offer x) b h k = absurd k
    each (Move_conversation agg conv port) (reply.MoveConversation x) b h k = absurd k
    each (Force agg conv) (reply.Force x) b h k = absurd k
    each call a b h k = absurd h

-- the states after it
same_after : (gives : ℕ → ℕ → ℕ → Type 0) (old : SystemState) (u : Table) (call : Call) (a b : Reply) (new last : SystemState)
    → Step gives old call a new → Step gives (with_table old u) call b last → SameAfter new last → SameState new last
same_after gives old u call a b new last h k same = grind (arith, nat_tests, Step-frame)

pub one_answer : (gives : ℕ → ℕ → ℕ → Type 0) → IsFunction gives → OneAnswer gives
one_answer gives one old twin call a b new last agrees same h k = grind (arith, nat_tests, with_table, steps_one, same_after)

-- and of a list of calls
pub one_run : (gives : ℕ → ℕ → ℕ → Type 0) → IsFunction gives → OneRun gives
one_run gives one old twin [] [] [] new last agrees same h k = grind (arith, nat_tests)
one_run gives one old twin [] [] (b ∷ bs) new last agrees same h k = absurd k
one_run gives one old twin [] (a ∷ rs) others new last agrees same h k = absurd h
one_run gives one old twin (call ∷ calls) [] others new last agrees same h k = absurd h
one_run gives one old twin (call ∷ calls) (a ∷ rs) [] new last agrees same h k = absurd k
one_run gives one old twin (call ∷ calls) (a ∷ rs) (b ∷ bs) new last agrees same h k =
    let first = one_answer gives one old twin call a b h.0 k.0 agrees same h.1 k.1 in
    let rest = one_run gives one h.0 k.0 calls rs bs new last h.1.agrees first.1 h.2 k.2 in
    ((λ i. first.0 i ∷ rest.0 i), rest.1)
