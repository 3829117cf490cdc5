-- What the machines of a port keep, every call of a system keeps of each port.
use Rattle.lagbeside.proofs.Common.{Bool, Err, List, None, Ok, Option, Result, Some, [], ap, arith, false, inl, inr, length, not, refl, slice_get}
use Rattle.lagbeside.proofs.Common.{slice_set, subst, sym, true, ℕ, ◌&&◌, ◌==◌, ◌||◌, ◌∙◌, ◌∷◌, ◌≡◌, ◌⊎◌, cases_Bool, nat_tests, none-some}
use Rattle.lagbeside.proofs.Common.{AllByRecursion, AggId, Choice, Selected, Standby, is_selected, is_unselected, Lacpdu, MuxState, Attached}
use Rattle.lagbeside.proofs.Common.{CollectingDistributing, Detached, Waiting, Setup, Machines, is_synchronized, mux_rows, partner_synchronized}
use Rattle.lagbeside.proofs.Common.{same_mux_state, RunsPeriodic, receive_rows, RunsToRest, Starts, before_start, after_sending, count_down, is_due}
use Rattle.lagbeside.proofs.Common.{PortView, AggregatorsValue, is_eligible, Reply, SystemFault, Received, TookLacpdu, SystemPort, AnswersMarker}
use Rattle.lagbeside.proofs.Common.{Call, Carries, ChangesParty, Configure, Data_frame, Faulty, Force, GivesEffect, IsFrame, Move_conversation, Offer}
use Rattle.lagbeside.proofs.Common.{OnlyPortChangesBy, ParsesWhere, Performs, PortAtChangesBy, ProcessesLacpdu, Receive, ReceivedFrame, ReceivesAt}
use Rattle.lagbeside.proofs.Common.{Releases, Restart, Runt, Set_link, SetsPortEnabled, Step, ThenSettles, Tick, Transmit, up_or_dropped}
use Rattle.lagbeside.proofs.Common.{HasJustStarted, IsFirst, setup_of, collecting, TransmitsAt, TransmitsIf, ChoosesIn, PortsChangeBy, PromotesNext}
use Rattle.lagbeside.proofs.Common.{Settling, choice_for, ready_of, with_choice, SystemState, aggregators_value, port_index, with_system_ports, views}
use Rattle.lagbeside.proofs.Common.{last_slots, same_slots, zip_all, all-get, all-set, found_place}
use Rattle.lagsystem.specs.Windows.{reply_has_lacpdu, subtype}
use Rattle.lagsystem.proofs.Limiting.{next_stands}
use Rattle.lagsystem.proofs.Preserves.{lacpdu_subtype}
use Rattle.lagsystem.proofs.PromotionLemmas.{choices_keep, promotions_keep}
use Rattle.lagsystem.specs.declared.drive.Reply.TheVariants as reply
use Rattle.slowpdu.specs.declared.pdu.Pdu.TheVariants as pdu
use Rattle.slowpdu.specs.declared.pdu.Marker.{Marker}
use Rattle.slowpdu.specs.Markers.{response_to}

-- Selected of the port may get this value: it is UNSELECTED, up and DETACHED; or it is STANDBY, and gets SELECTED in its
-- aggregator. And it is not synchronized.
abbrev pub MayBeGiven : Choice → Machines → Type 0
MayBeGiven choice p = (((p.enabled ≡ true) × (p.mux ≡ Detached)) ⊎ ((agg : AggId) × (p.choice ≡ Standby agg) × (choice ≡ Selected agg)))
    × (is_synchronized p.mux ≡ false)

-- what settling does to the machines of a port keeps P; the number is the port's
pub record KeptBySettling (P : ℕ → Machines → Type 0) : Type 0 where
  pub mux : (n : ℕ) (ready : Bool) (p q : Machines) → RunsToRest (mux_rows ready) p q → P n p → P n q
  pub periodic : (n : ℕ) (p q : Machines) → RunsPeriodic p q → P n p → P n q
  pub select : (n : ℕ) (choice : Choice) (p : Machines) → is_selected p.choice ≡ false → MayBeGiven choice p → P n p → P n (record p { choice = choice })

-- what a call itself does keeps P
abbrev pub KeptByCall : (ℕ → Machines → Type 0) → Call → Reply → Type 0
KeptByCall P Tick answer = (n : ℕ) (p q : Machines) → RunsToRest receive_rows (count_down p) q → P n p → P n q
KeptByCall P (Set_link n up) answer = (max_links : Option ℕ) (p q : Machines) → SetsPortEnabled max_links up p q → P n p → P n q
KeptByCall P (Receive n octets) answer = (v : Lacpdu) (p q : Machines) → answer ≡ reply.Receive (Ok TookLacpdu)
    → IsFrame octets (Carries (pdu.Lacpdu v)) → ProcessesLacpdu v p q
    → P n p → P n q
KeptByCall P (Configure n change) answer = (p q : Machines) → ChangesParty change p q → P n p → P n q
KeptByCall P Restart answer = (n : ℕ) (u : Setup) (q : Machines) → Starts (before_start u) q → P n q
KeptByCall P (Transmit n) answer = (p : Machines) → reply_has_lacpdu n (Transmit n) answer ≡ true → P n p → P n (after_sending p)
KeptByCall P call answer = Unit {0}

abbrev pub OfEach : (ℕ → Machines → Type 0) → List SystemPort → Type 0
OfEach P ports = AllByRecursion (λ (x : SystemPort). P x.number x.port) ports

pub zip_kept : (R : Machines → Machines → Type 0) (P Q : ℕ → Machines → Type 0) → ((n : ℕ) (p q : Machines) → R p q → P n p → Q n q)
    → (xs ys : List SystemPort) → PortsChangeBy R xs ys → OfEach P xs → OfEach Q ys
zip_kept R P Q k [] [] h a = tt
zip_kept R P Q k (x ∷ xs) (y ∷ ys) h a = grind (arith, nat_tests, zip_kept R P Q k xs ys h.1 a.1)
zip_kept R P Q k xs ys h a = absurd h

-- a port that is SELECTED gets no other value of Selected

chosen_not_eligible : (v : PortView) → is_selected v.choice ≡ true → is_eligible v ≡ false
chosen_not_eligible v h = grind (arith, nat_tests)

none_for : (aggs : AggregatorsValue) (l : List SystemPort) (s : SystemPort) → is_selected s.port.choice ≡ true → choice_for aggs l s ≡ None
none_for aggs l s h = grind (arith, nat_tests, chosen_not_eligible)

-- a port whose link is down gets none
down_none : (aggs : AggregatorsValue) (l : List SystemPort) (s : SystemPort) → s.port.enabled ≡ false → choice_for aggs l s ≡ None
down_none aggs l s h = grind (arith, nat_tests)

-- what another value of Selected keeps
abbrev Selects : (ℕ → Machines → Type 0) → Type 0
Selects P = (n : ℕ) (choice : Choice) (p : Machines) → is_selected p.choice ≡ false → MayBeGiven choice p → P n p → P n (record p { choice = choice })

-- a STANDBY port gets no other value by choosing
standby_not_eligible : (v : PortView) → is_unselected v.choice ≡ false → is_eligible v ≡ false
standby_not_eligible v h = grind (arith, nat_tests)

standby_none : (aggs : AggregatorsValue) (l : List SystemPort) (s : SystemPort) → is_unselected s.port.choice ≡ false → choice_for aggs l s ≡ None
standby_none aggs l s h = grind (arith, nat_tests, standby_not_eligible)

-- the port is not synchronized, if it is not SELECTED; and DETACHED, if it is UNSELECTED; and P holds
abbrev AtRestAnd : (ℕ → Machines → Type 0) → ℕ → Machines → Type 0
AtRestAnd P n p = P n p × (is_selected p.choice ≡ false → is_synchronized p.mux ≡ false) × (is_unselected p.choice ≡ true → p.mux ≡ Detached)

pub unsynchronized : (m : MuxState) (sel b : Bool) → sel ≡ false → (same_mux_state Attached m && not sel) ≡ false
    → (same_mux_state CollectingDistributing m && (not sel || b)) ≡ false → is_synchronized m ≡ false
unsynchronized m sel b e f g = grind (arith, nat_tests)

detached_there : (m : MuxState) (c : Choice) (b : Bool) → is_unselected c ≡ true → (same_mux_state Waiting m && is_unselected c) ≡ false
    → (same_mux_state Attached m && not (is_selected c)) ≡ false
    → (same_mux_state CollectingDistributing m && (not (is_selected c) || b)) ≡ false → m ≡ Detached
detached_there m c b u w e f = grind (arith, nat_tests)

mux_rested : (P : ℕ → Machines → Type 0) → KeptBySettling P → (n : ℕ) (p q : Machines) → RunsToRest (mux_rows false) p q → P n p → AtRestAnd P n q
mux_rested P k n p q h a = (
  k.mux n false p q h a,
  λ e. unsynchronized q.mux (is_selected q.choice) (not (partner_synchronized q)) e h.2.1.1.1.0 h.2.1.1.1.1.1.0,
  λ e. detached_there q.mux q.choice (not (partner_synchronized q)) e h.2.1.0 h.2.1.1.1.0 h.2.1.1.1.1.1.0,
)

rest_selects : (P : ℕ → Machines → Type 0) → KeptBySettling P → (n : ℕ) (choice : Choice) (p : Machines) → is_selected p.choice ≡ false
    → MayBeGiven choice p → AtRestAnd P n p → AtRestAnd P n (record p { choice = choice })
rest_selects P k n choice p none may a = grind (arith, nat_tests)

firsts : (P : ℕ → Machines → Type 0) (xs : List SystemPort) → OfEach (AtRestAnd P) xs → OfEach P xs
firsts P [] a = tt
firsts P (x ∷ xs) a = (a.0.0, firsts P xs a.1)

given : (P : ℕ → Machines → Type 0) → Selects P → (s : SystemPort) (o : Option Choice)
    → ((choice : Choice) → o ≡ Some choice → (is_selected s.port.choice ≡ false) × MayBeGiven choice s.port) → P s.number s.port
    → P (with_choice s o).number (with_choice s o).port
given P k s o h a = grind (arith, nat_tests)

gives_one : (P : ℕ → Machines → Type 0) → Selects P → (l : List SystemPort) (i : ℕ) (s : SystemPort) (o : Option Choice)
    → ((choice : Choice) → o ≡ Some choice → (is_selected s.port.choice ≡ false) × MayBeGiven choice s.port) → slice_get l i ≡ Some s → OfEach P l
    → OfEach P (slice_set l i (with_choice s o))
gives_one P k l i s o h e a = grind (arith, nat_tests, all-set, with_choice, given, all-get)

-- the port at the place is so
rest_at : (P : ℕ → Machines → Type 0) (l : List SystemPort) (i : ℕ) (s : SystemPort) → slice_get l i ≡ Some s → OfEach (AtRestAnd P) l
    → (is_selected s.port.choice ≡ false → is_synchronized s.port.mux ≡ false) × (is_unselected s.port.choice ≡ true → s.port.mux ≡ Detached)
rest_at P l i s e a = let r = all-get (λ (x : SystemPort). AtRestAnd P x.number x.port) l i s e a in (r.1, r.2)

same_choice : (c d : Choice) → Some c ≡ Some d → d ≡ c
same_choice c d e = cc

promotes_one : (P : ℕ → Machines → Type 0) → KeptBySettling P → (aggs : AggregatorsValue) (agg : AggId) (l m : List SystemPort)
    → PromotesNext aggs agg l m → OfEach (AtRestAnd P) l → OfEach (AtRestAnd P) m
promotes_one P k aggs agg l m h a = let stands = next_stands aggs agg l m h in
    let none = ap is_selected stands in
    subst (OfEach (AtRestAnd P)) (sym h.4) (gives_one (AtRestAnd P) (rest_selects P k) l h.0 h.1 (Some (Selected agg))
    (λ choice e. (none, (inr (agg, stands, same_choice (Selected agg) choice e), (rest_at P l h.0 h.1 h.3 a).0 none))) h.3 a)

unselected_none : (c : Choice) → is_unselected c ≡ true → is_selected c ≡ false
unselected_none c h = grind (arith, nat_tests)

chooses_one : (P : ℕ → Machines → Type 0) → KeptBySettling P → (aggs : AggregatorsValue) (l : List SystemPort) (i : ℕ) (s : SystemPort)
    → slice_get l i ≡ Some s → OfEach (AtRestAnd P) l → OfEach (AtRestAnd P) (slice_set l i (with_choice s (choice_for aggs l s)))
chooses_one P k aggs l i s e a =
    gives_one (AtRestAnd P) (rest_selects P k) l i s (choice_for aggs l s) (λ choice g. elim (cases_Bool (is_unselected s.port.choice)) [
      | inl u ↦ elim (cases_Bool s.port.enabled) [
        | inl up ↦ (let f = unselected_none s.port.choice u in let r = rest_at P l i s e a in (f, (inl (up, r.1 u), r.0 f)))
        | inr down ↦ absurd (none-some choice (sym (down_none aggs l s down) ∙ g))
      ]
      | inr u ↦ absurd (none-some choice (sym (standby_none aggs l s u) ∙ g))
    ]) e a

choosing_each : (P : ℕ → Machines → Type 0) → KeptBySettling P → (aggs : AggregatorsValue) (old new : List SystemPort)
    → ChoosesIn aggs old new → OfEach (AtRestAnd P) old → OfEach (AtRestAnd P) new
choosing_each P k aggs old new h a =
    subst (OfEach (AtRestAnd P)) (sym h.2) (choices_keep aggs (OfEach (AtRestAnd P)) (chooses_one P k aggs) (length h.0) h.0
    (promotions_keep aggs (OfEach (AtRestAnd P)) (promotes_one P k aggs) (length aggs.keys) old h.0 h.1 a))

pub settling_each : (P : ℕ → Machines → Type 0) → KeptBySettling P → (old new : SystemState) → Settling old new → OfEach P old.system_ports
    → OfEach P new.system_ports
settling_each P k old new h a = let one = h.0 in
    let two = h.2.0 in
    let three = h.2.2.0 in
    let four = h.2.2.2.0 in
    let five = h.2.2.2.2.0 in
    let ready = λ (p : Machines). ready_of three.keys (views three.system_ports) p.choice in
    let a1 : OfEach (AtRestAnd P) one.system_ports =
    zip_kept (RunsToRest (mux_rows false)) P (AtRestAnd P) (mux_rested P k) old.system_ports one.system_ports h.1.0 a in
    let a2 : OfEach P two.system_ports = firsts P two.system_ports
    (choosing_each P k (aggregators_value one) one.system_ports two.system_ports h.2.1.0 a1) in
    let a3 : OfEach P three.system_ports = subst (λ (s : SystemState). OfEach P s.system_ports) (sym h.2.2.1) a2 in
    let a4 : OfEach P four.system_ports = zip_kept (λ p q. RunsToRest (mux_rows (ready p)) p q) P P (λ n p. k.mux n (ready p) p)
    three.system_ports four.system_ports h.2.2.2.1.0 a3 in
    let a5 : OfEach P five.system_ports = zip_kept RunsPeriodic P P k.periodic four.system_ports five.system_ports h.2.2.2.2.1.0
    a4 in
    subst (OfEach P) (sym (last_slots old new h)) a5

pub place_each : (P : ℕ → Machines → Type 0) (R : Machines → Machines → Type 0) (n : ℕ) → ((p q : Machines) → R p q → P n p → P n q)
    → (o : Option ℕ) (old new : List SystemPort) → port_index n old ≡ o → PortAtChangesBy R o old new → OfEach P old → OfEach P new
place_each P R n k o old new e h a = grind (arith, nat_tests, found_place, all-get, OfEach, all-set)

same_each : (P : ℕ → Machines → Type 0) (s t : SystemState) → t.system_ports ≡ s.system_ports → OfEach P s.system_ports → OfEach P t.system_ports
same_each P s t e a = subst (OfEach P) (sym e) a

is_told : (n : ℕ) (frame : List ℕ) → subtype frame ≡ 1 → ((n == n) && (subtype frame == 1)) ≡ true
is_told n frame e = grind (arith, nat_tests)

sends_each : (P : ℕ → Machines → Type 0) (n : ℕ) (up due : Bool) (i : ℕ) (x : SystemPort) (old : SystemState) (answer : Option (List ℕ)) (new : SystemState)
    → KeptByCall P (Transmit n) (reply.Transmit (Ok answer)) → port_index n old.system_ports ≡ Some i → slice_get old.system_ports i ≡ Some x
    → TransmitsIf up due i x old answer new → OfEach P old.system_ports → OfEach P new.system_ports
sends_each P n false due i x old answer new k at e h a = same_each P old new (same_slots old new h.1) a
sends_each P n true true i x old answer new k at e h a = let Q : SystemPort → Type 0 = λ y. P y.number y.port in
    let numbered : x.number ≡ n = found_place n old.system_ports i x at e in
    let kind : subtype h.0 ≡ 1 = lacpdu_subtype old.max_delay x h.0 h.1 in
    let told : reply_has_lacpdu n (Transmit n) (reply.Transmit (Ok answer)) ≡ true =
    ap (λ (o : Option (List ℕ)). reply_has_lacpdu n (Transmit n) (reply.Transmit (Ok o))) h.2 ∙ is_told n h.0 kind in
    let was : P n x.port = subst (λ m. P m x.port) numbered (all-get Q old.system_ports i x e a) in
    subst (OfEach P) (sym (ap (λ (s : SystemState). s.system_ports) h.3))
    (all-set Q old.system_ports i (record x { port = after_sending x.port }) a
    (subst (λ m. P m (after_sending x.port)) (sym numbered) (k x.port told was)))
sends_each P n true false i x old answer new k at e h a = grind (arith, nat_tests)

transmits_each : (P : ℕ → Machines → Type 0) (n : ℕ) (o : Option ℕ) (old : SystemState) (answer : Option (List ℕ)) (new : SystemState)
    → KeptByCall P (Transmit n) (reply.Transmit (Ok answer)) → port_index n old.system_ports ≡ o → TransmitsAt o old answer new → OfEach P old.system_ports
    → OfEach P new.system_ports
transmits_each P n None old answer new k e h a = absurd h
transmits_each P n (Some i) old answer new k e h a =
    sends_each P n h.0.port.enabled (is_due h.0.port) i h.0 old answer new k e h.1 h.2 a

-- what sending keeps of each port
pub asked_each : (P : ℕ → Machines → Type 0) → ((n : ℕ) (p : Machines) → P n p → P n (after_sending p)) → (gives : ℕ → ℕ → ℕ → Type 0) (n : ℕ)
    (a : Result (Option (List ℕ)) SystemFault) (old new : SystemState) → Step gives old (Transmit n) (reply.Transmit a) new
    → OfEach P old.system_ports → OfEach P new.system_ports
asked_each P k gives n (Err fault) old new h b = same_each P old new (same_slots old new h.same) b
asked_each P k gives n (Ok o) old new h b = transmits_each P n (port_index n old.system_ports) old o new (λ p told c. k n p c) refl h b

released_same : (b : Bool) (port : ℕ) (m : Marker) (old : SystemState) (answer : Received) (new : SystemState) → Releases b port m old answer new
    → new.system_ports ≡ old.system_ports
released_same b port m old answer new h = grind (arith, nat_tests)

-- what receive does, by the frame that came
module _ (P : ℕ → Machines → Type 0) (s : KeptBySettling P) (n : ℕ) (octets : List ℕ) (old : SystemState) (answer : Received) (new : SystemState)
    (k : (v : Lacpdu) (p q : Machines) → reply.Receive (Ok answer) ≡ reply.Receive (Ok TookLacpdu) → IsFrame octets (Carries (pdu.Lacpdu v))
    → ProcessesLacpdu v p q → P n p → P n q)
    (h : ReceivesAt (port_index n old.system_ports) octets old answer new) (a : OfEach P old.system_ports) where
  stays_so : new ≡ old → OfEach P new.system_ports
  stays_so e = same_each P old new (ap (λ (t : SystemState). t.system_ports) e) a

  by_marker : (m : Marker) (o : Option Marker) → AnswersMarker h.0.mac m o h.1 → OfEach P new.system_ports
  by_marker m None g = let d = subst (λ e. Performs e h.0.number (port_index n old.system_ports) old answer new) g h.4 in
      same_each P old new (released_same _ _ m old answer new d) a
  by_marker m (Some reply) g =
      let d = subst (λ e. Performs e h.0.number (port_index n old.system_ports) old answer new) g.3 h.4 in stays_so d.1

  by_frame : (frame : ReceivedFrame) → IsFrame octets frame → GivesEffect h.0 frame h.1 → OfEach P new.system_ports
  by_frame Runt f g = let d = subst (λ e. Performs e h.0.number (port_index n old.system_ports) old answer new) g h.4 in stays_so d.1
  by_frame Data_frame f g = let d = subst (λ e. Performs e h.0.number (port_index n old.system_ports) old answer new) g h.4 in stays_so d.1
  by_frame (Faulty fault) f g = let d = subst (λ e. Performs e h.0.number (port_index n old.system_ports) old answer new) g h.4 in stays_so d.1
  by_frame (Carries (pdu.Lacpdu v)) f g =
      let d = subst (λ e. Performs e h.0.number (port_index n old.system_ports) old answer new) g h.4 in
      settling_each P s d.1.0 new d.1.2
      (place_each P (ProcessesLacpdu v) n (λ p q. k v p q (ap (λ (r : Received). reply.Receive (Ok r)) d.0) f)
      (port_index n old.system_ports) old.system_ports d.1.0.system_ports refl d.1.1.0 a)
  by_frame (Carries (pdu.Marker m)) f g = by_marker m (response_to m) g

  by_link : (up : Bool) → ParsesWhere up h.0 octets h.1 → OfEach P new.system_ports
  by_link false g = let d = subst (λ e. Performs e h.0.number (port_index n old.system_ports) old answer new) g h.4 in stays_so d.1
  by_link true g = by_frame g.0 g.1 g.2

  receives_each : OfEach P new.system_ports
  receives_each = by_link h.0.port.enabled h.3

-- an LACPDU that was taken came in these octets
no_lacpdu : (o : Option AggId) → TookLacpdu ≡ up_or_dropped o → ⊥
no_lacpdu o e = grind (arith, nat_tests)

no_release : (b : Bool) (port : ℕ) (m : Marker) (old new : SystemState) → Releases b port m old TookLacpdu new → ⊥
no_release b port m old new h = grind (arith, nat_tests)

module _ (index : Option ℕ) (octets : List ℕ) (old : SystemState) (new : SystemState) (h : ReceivesAt index octets old TookLacpdu new) where
  abbrev Took : Type 0
  Took = (v : Lacpdu) × IsFrame octets (Carries (pdu.Lacpdu v)) × ThenSettles (OnlyPortChangesBy index (ProcessesLacpdu v)) old new

  took_marker : (m : Marker) (o : Option Marker) → AnswersMarker h.0.mac m o h.1 → Took
  took_marker m None g =
      let d = subst (λ e. Performs e h.0.number index old TookLacpdu new) g h.4 in absurd (no_release _ _ m old new d)
  took_marker m (Some reply) g =
      let d = subst (λ e. Performs e h.0.number index old TookLacpdu new) g.3 h.4 in let e = d.0 in absurd cc

  took_frame : (frame : ReceivedFrame) → IsFrame octets frame → GivesEffect h.0 frame h.1 → Took
  took_frame Runt f g = let d = subst (λ e. Performs e h.0.number index old TookLacpdu new) g h.4 in let e = d.0 in absurd cc
  took_frame Data_frame f g =
      let d = subst (λ e. Performs e h.0.number index old TookLacpdu new) g h.4 in absurd (no_lacpdu (collecting h.0.port) d.0)
  took_frame (Faulty fault) f g = let d = subst (λ e. Performs e h.0.number index old TookLacpdu new) g h.4 in let e = d.0 in absurd cc
  took_frame (Carries (pdu.Lacpdu v)) f g =
      let d = subst (λ e. Performs e h.0.number index old TookLacpdu new) g h.4 in (v, f, d.1)
  took_frame (Carries (pdu.Marker m)) f g = took_marker m (response_to m) g

  took_link : (up : Bool) → ParsesWhere up h.0 octets h.1 → Took
  took_link false g = let d = subst (λ e. Performs e h.0.number index old TookLacpdu new) g h.4 in let e = d.0 in absurd cc
  took_link true g = took_frame g.0 g.1 g.2

  pub took : Took
  took = took_link h.0.port.enabled h.3

pub first_each : (P : ℕ → Machines → Type 0) → KeptBySettling P → ((n : ℕ) (u : Setup) (q : Machines) → Starts (before_start u) q → P n q) → (s : SystemState)
    → IsFirst s → OfEach P s.system_ports
first_each P k st s h = settling_each P k (with_system_ports s h.0) s h.2
    (zip_all (HasJustStarted s.system) (λ x. P x.number x.port) (λ c x m. st x.number (setup_of s.system c) x.port m.2) s.ports
    h.0 h.1)

-- a tick
pub Tick-each : (P Q : ℕ → Machines → Type 0) → KeptBySettling Q → ((n : ℕ) (p q : Machines) → RunsToRest receive_rows (count_down p) q → P n p → Q n q)
    → (gives : ℕ → ℕ → ℕ → Type 0) (old : SystemState) (answer : Reply) (new : SystemState) → Step gives old Tick answer new → OfEach P old.system_ports
    → OfEach Q new.system_ports
Tick-each P Q s k gives old reply.Tick new h a =
    settling_each Q s h.0 new h.2 (zip_kept (λ p q. RunsToRest receive_rows (count_down p) q) P Q k old.system_ports
    h.0.system_ports h.1.0 a)
Tick-each P Q s k gives old answer new h a = absurd h

pub Step-each : (P : ℕ → Machines → Type 0) → KeptBySettling P → (gives : ℕ → ℕ → ℕ → Type 0) (old : SystemState) (call : Call)
    (answer : Reply) (new : SystemState) → KeptByCall P call answer → Step gives old call answer new → OfEach P old.system_ports
    → OfEach P new.system_ports
Step-each P s gives old Tick answer new k h a = Tick-each P P s k gives old answer new h a
Step-each P s gives old (Set_link n up) (reply.SetLink (Ok done)) new k h a =
    settling_each P s h.0 new h.2 (place_each P (SetsPortEnabled old.max_links up) n (k old.max_links) (port_index n
    old.system_ports)
    old.system_ports h.0.system_ports refl h.1.0 a)
Step-each P s gives old (Set_link n up) (reply.SetLink (Err fault)) new k h a = same_each P old new (same_slots old new h.same) a
Step-each P s gives old (Receive n octets) (reply.Receive (Ok answer)) new k h a = receives_each P s n octets old answer new k h a
Step-each P s gives old (Receive n octets) (reply.Receive (Err fault)) new k h a = same_each P old new (same_slots old new h.same) a
Step-each P s gives old (Configure n change) (reply.Configure (Ok true)) new k h a =
    settling_each P s h.0 new h.2 (place_each P (ChangesParty change) n k (port_index n old.system_ports) old.system_ports
    h.0.system_ports refl h.1.0 a)
Step-each P s gives old (Configure n change) (reply.Configure (Ok false)) new k h a = same_each P old new (same_slots old new h.1) a
Step-each P s gives old (Configure n change) (reply.Configure (Err fault)) new k h a = grind (arith, nat_tests)
Step-each P s gives old Restart reply.Restart new k h a = first_each P s k new h.1
Step-each P s gives old (Transmit n) (reply.Transmit (Ok answer)) new k h a =
    transmits_each P n (port_index n old.system_ports) old answer new k refl h a
Step-each P s gives old (Transmit n) (reply.Transmit (Err fault)) new k h a = same_each P old new (same_slots old new h.same) a
Step-each P s gives old (Offer agg octets) (reply.Offer answer) new k h a = grind (arith, nat_tests)
Step-each P s gives old (Move_conversation agg conv port) (reply.MoveConversation answer) new k h a = grind (arith, nat_tests)
Step-each P s gives old (Force agg conv) (reply.Force answer) new k h a = grind (arith, nat_tests)
Step-each P s gives old call answer new k h a = absurd h
