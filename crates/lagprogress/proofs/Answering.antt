-- What each event of a round leaves of the conversations that are held on a port whose cable is healthy.
use Rattle.lagprogress.proofs.Common.{Bool, Err, IsSome, List, None, Ok, Option, Result, Some, [], ap, arith, bytes_eq, cond, eqb, false, filter, inl}
use Rattle.lagprogress.proofs.Common.{inr, map, refl, slice_get, subst, suc, sym, true, zero, ℕ, ◌&&◌, ◌+◌, ◌-◌, ◌<◌, ◌==◌, ◌||◌, ◌∙◌, ◌∷◌, ◌≡◌, ◌≤◌}
use Rattle.lagprogress.proofs.Common.{◌⊎◌, and_parts, cases_Bool, nat_tests, none-some, same_Some, list_any, AggId, Choice, Lacpdu, Information, Side}
use Rattle.lagprogress.proofs.Common.{peer, CollectingDistributing, Machines, same_mux_state, is_due, has_chosen, Assignment, Flushing, Free, On}
use Rattle.lagprogress.proofs.Common.{Wanted, is_among, after_mark, after_release, after_tick, marker_due, wants_marker, Table, assignment_of}
use Rattle.lagprogress.proofs.Common.{count_conversations, next_identifier, SystemFault, Received, SystemPort, Carries, GivesEffect, IsFrame}
use Rattle.lagprogress.proofs.Common.{ParsesWhere, Performs, Receive, ReceivesAt, Releases, Transmit, is_own_response, MuxIsSettled, ProbesAt}
use Rattle.lagprogress.proofs.Common.{ProbesIf, aggregator_numbered, distributes_in, distributing, SendsMarkerOf, TransmitsAt, TransmitsIf}
use Rattle.lagprogress.proofs.Common.{own_marker, Settling, CallPromise, SystemState, port_index, ports_table, settling_parts, effect_one}
use Rattle.lagprogress.proofs.Common.{TableChanges, table_changes, all-get, found_place, Algorithms, ItemValue, WorldState, half, no, AtPort}
use Rattle.slowpdu.specs.Frames.{frame_octets}
use Rattle.distributor.specs.Conversations.{sum_below}
use Rattle.std.proofs.lemmas.Slice.Eq.{bytes_eq-Decides}
use Rattle.lagprogress.proofs.Holding.{Fine, Flights, Has, IsMarker, answering, asking, frame_is, has_last, marked_beside, is_port, not_port}
use Rattle.lagprogress.proofs.Holding.{released_beside, fine_map, marked_here, settled_fine}
use Rattle.lagprogress.proofs.Linked.{peer_twice, push_there, put_other, put_there, gains_has, Link, end_here, end_with}
use Rattle.lagprogress.proofs.OneCable.{Arrives, Back, Elsewhere, put, response, Went, sent_frame}
use Rattle.lagprogress.proofs.Passing.{sent_carries}
use Rattle.slowpdu.specs.Layout.{IsAddress}
use Rattle.slowpdu.specs.Markers.{WritesMarker}
use Rattle.lagprogress.proofs.Climbing.{PartnerInSync, distributes_now}
use Rattle.lagprogress.proofs.Knowing.{beside}
use Rattle.slowpdu.specs.declared.pdu.Pdu.TheVariants as pdu
use Rattle.lagsystem.specs.declared.drive.Reply.TheVariants as answer
use Rattle.lagsystem.specs.declared.received.Received.TheVariants as received

-- the ports that distribute

-- a port that is among those that distribute
abbrev pub Distributor : AggId → List SystemPort → ℕ → Type 0
Distributor agg ports p = (k : ℕ) × (x : SystemPort) × (slice_get ports k ≡ Some x) × (x.number ≡ p) × (distributes_in agg x ≡ true)

one_later : (agg : AggId) (y : SystemPort) (ys : List SystemPort) (p : ℕ) → Distributor agg ys p → Distributor agg (y ∷ ys) p
one_later agg y ys p r = (suc r.0, r.1, r.2, r.3, r.4)

pub among_port : (agg : AggId) (ports : List SystemPort) (p : ℕ) → is_among (distributing agg ports) p ≡ true → Distributor agg ports p
among_port agg [] p h = absurd (no h)
among_port agg (y ∷ ys) p h = by_test (λ e. one_later agg y ys p (among_port agg ys p e)) (distributes_in agg y) refl h
  where
    here : (is_among (distributing agg ys) p ≡ true → Distributor agg (y ∷ ys) p) → (b : Bool) → eqb y.number p ≡ b
        → (b || is_among (distributing agg ys) p) ≡ true → distributes_in agg y ≡ true → Distributor agg (y ∷ ys) p
    here later true e g d = (zero, y, refl, is_port y.number p e, d)
    here later false e g d = later g

    by_test : (is_among (distributing agg ys) p ≡ true → Distributor agg (y ∷ ys) p) → (b : Bool) → distributes_in agg y ≡ b
        → list_any (λ q. eqb q p) (map (λ (s : SystemPort). s.number) (cond b (y ∷ filter (distributes_in agg) ys) (filter (distributes_in agg) ys))) ≡ true
        → Distributor agg (y ∷ ys) p
    by_test later true d g = here later (eqb y.number p) refl g d
    by_test later false d g = later g

-- and the other way round
port_among : (agg : AggId) (ports : List SystemPort) (p k : ℕ) (x : SystemPort) → slice_get ports k ≡ Some x → x.number ≡ p
    → distributes_in agg x ≡ true → is_among (distributing agg ports) p ≡ true
port_among agg [] p k x e n d = absurd (none-some x e)
port_among agg (y ∷ ys) p zero x e n d = grind (arith, nat_tests, no)
port_among agg (y ∷ ys) p (suc k) x e n d = grind (arith, nat_tests, port_among agg ys p k x e n d)

-- conversations

-- one that changes by this function
pub turned_by : (agg conv : ℕ) (P Q : Assignment → Type 0) (f : Assignment → Assignment) (old new : Table)
    → ((g k : ℕ) → assignment_of new g k ≡ f (assignment_of old g k)) → ((a : Assignment) → P a → Q (f a)) → P (assignment_of old agg conv)
    → Q (assignment_of new agg conv)
turned_by agg conv P Q f old new h k e = subst Q (sym (h agg conv)) (k (assignment_of old agg conv) e)

none_below : (f : ℕ → ℕ) (n k : ℕ) → k < n → sum_below f n ≡ 0 → f k ≡ 0
unfolding sum_below
none_below f zero k lt e = absurd (omega (arith, lt))
none_below f (suc n) k lt e = elim (cases_Bool (k == n)) [
  | inl t ↦ (let same : k ≡ n = grind (arith, nat_tests) in ap f same ∙ omega (arith, e))
  | inr t ↦ (let other : k ≡ n → ⊥ = grind (arith, nat_tests) in none_below f n k (omega (arith, lt, other)) (omega (arith, e)))
]

no_bit : (b : Bool) (n : ℕ) → n ≡ cond b 1 0 → n ≡ 0 → b ≡ false
no_bit b n f e = grind (arith, nat_tests)

-- if none is counted, no conversation is Wanted on the port
pub none_wanted : (p : ℕ) (t : Table) → count_conversations (wants_marker p) t ≡ 0 → (g k : ℕ) → 0 < g → g ≤ t.aggs → k < t.conversations
    → wants_marker p (assignment_of t g k) ≡ false
none_wanted p t none g k l m n =
    let row = none_below (λ a. sum_below (λ c. cond (wants_marker p (assignment_of t (a + 1) c)) 1 0) t.conversations) t.aggs (g - 1)
    (omega (arith, l, m)) none in
    let bit = none_below (λ c. cond (wants_marker p (assignment_of t (g - 1 + 1) c)) 1 0) t.conversations k n row in
    grind (arith, nat_tests, wants_marker, assignment_of, no_bit)

pub not_wanted : (p m : ℕ) (W : Type 0) (F : ℕ → Type 0) (a : Assignment) → wants_marker p a ≡ false → Fine p m W F a → Fine p m ⊥ F a
not_wanted p m W F a e h = grind (arith, nat_tests)

module _ (at : Side → ℕ) (w : Side → Lacpdu) (s : Side) (mac : List ℕ) (agg conv : ℕ) where
  -- what is known of conversation `conv` of aggregator `agg` and of the port at the end of s
  abbrev pub IsFine : ℕ → Type 0 → (ℕ → Type 0) → Table → Type 0
  IsFine m W F t = Fine (at s) m W F (assignment_of t agg conv)

  pub fine_in_map : (m : ℕ) (W V : Type 0) (F G : ℕ → Type 0) (t : Table) → (W → V) → ((id : ℕ) → F id → G id) → IsFine m W F t → IsFine m V G t
  fine_in_map m W V F G t k f h = fine_map (at s) m W V F G k f (assignment_of t agg conv) h

  -- what goes out leaves what is on its way
  pub went_flights : (u : Side) (a : Result (Option (List ℕ)) SystemFault) (fl now : Side → List ItemValue) → Went u a fl now → (id : ℕ)
      → Flights s (at s) mac fl id → Flights s (at s) mac now id
  went_flights u a fl now h id f = elim f [
    | inl y ↦ inl (gains_has u (IsMarker (asking (at s) mac id)) (sent_frame a) fl now h (peer s) y)
    | inr y ↦ inr (gains_has u (IsMarker (answering (at s) mac id)) (sent_frame a) fl now h s y)
  ]

  -- the marker that the port sends is on its way
  marker_flies : (z : SystemPort) (old : SystemState) (id : ℕ) (payload : List ℕ) (fl now : Side → List ItemValue)
      → IsAddress z.mac → WritesMarker payload (own_marker old z.number id) → z.number ≡ at s → old.system.mac ≡ mac
      → Went s (Ok (Some (frame_octets z.mac payload))) fl now → Flights s (at s) mac now id
  marker_flies z old id payload fl now address writes number own h =
      let carries = sent_carries (frame_octets z.mac payload) (pdu.Marker (own_marker old z.number id)) (z.mac, payload, address, writes, refl) in
      let same : own_marker old z.number id ≡ asking (at s) mac id =
      ap (λ n. record { kind = Information; port = n; system = old.system.mac; id = id }) number
      ∙ ap (λ o. record { kind = Information; port = at s; system = o; id = id }) own in
      let is : IsMarker (asking (at s) mac id) h.0 = subst (λ o. IsFrame o (Carries (pdu.Marker (asking (at s) mac id)))) (sym h.1)
      (subst (λ m. IsFrame (frame_octets z.mac payload) (Carries (pdu.Marker m))) same carries) in
      inl (subst (λ (g : Side → List ItemValue). Has (IsMarker (asking (at s) mac id)) (g (peer s))) (sym h.2)
      (subst (Has (IsMarker (asking (at s) mac id))) (sym (push_there (peer s) h.0 fl))
      (has_last (IsMarker (asking (at s) mac id)) (fl (peer s)) h.0 is)))

  -- the port is asked
  went_fine : (a : Option (List ℕ)) (old new : SystemState) (fl now : Side → List ItemValue) (m : ℕ) (W : Type 0) → new.table ≡ old.table
      → Went s (Ok a) fl now → IsFine m W (Flights s (at s) mac fl) old.table → IsFine m W (Flights s (at s) mac now) new.table
  went_fine a old new fl now m W same went fine = subst (IsFine m W (Flights s (at s) mac now)) (sym same)
      (fine_in_map m W W (Flights s (at s) mac fl) (Flights s (at s) mac now) old.table (λ x. x) (went_flights s (Ok a) fl now went) fine)

  sends_marker : (o : Option ℕ) (z : SystemPort) (old : SystemState) (a : Option (List ℕ)) (new : SystemState) (fl now : Side → List ItemValue)
      (m : ℕ) (W : Type 0) → z.number ≡ at s → old.system.mac ≡ mac → SendsMarkerOf o z.number z.mac old a new → Went s (Ok a) fl now
      → IsFine m W (Flights s (at s) mac fl) old.table → IsFine m W (Flights s (at s) mac now) new.table
  sends_marker None z old a new fl now m W number own h went fine = went_fine a old new fl now m W (ap (λ (t : SystemState). t.table) h.1) went fine
  sends_marker (Some id) z old a new fl now m W number own h went fine = let gone = subst (λ b. Went s (Ok b) fl now) h.3 went in
      let flies = marker_flies z old id h.0 fl now h.1 h.2 number own gone in
      fine_in_map m ⊥ W (Flights s (at s) mac now) (Flights s (at s) mac now) new.table (λ x. absurd x) (λ id y. y)
      (turned_by agg conv (Fine (at s) m W (Flights s (at s) mac fl)) (Fine (at s) m ⊥ (Flights s (at s) mac now)) (after_mark (at s) id)
      old.table new.table (λ g k. h.4.states g k ∙ ap (λ n. after_mark n id (assignment_of old.table g k)) number)
      (λ b f. marked_here (at s) m id W (Flights s (at s) mac fl) (Flights s (at s) mac now) flies
      (went_flights s (Ok (Some (frame_octets z.mac h.0))) fl now gone) b f) fine)

  pub sends_fine : (up due : Bool) (i : ℕ) (z : SystemPort) (old : SystemState) (a : Option (List ℕ)) (new : SystemState)
      (fl now : Side → List ItemValue) (m : ℕ) (W : Type 0) → z.number ≡ at s → old.system.mac ≡ mac → TransmitsIf up due i z old a new
      → Went s (Ok a) fl now → IsFine m W (Flights s (at s) mac fl) old.table → IsFine m W (Flights s (at s) mac now) new.table
  sends_fine false due i z old a new fl now m W number own h went fine = grind (arith, nat_tests)
  sends_fine true true i z old a new fl now m W number own h went fine =
      went_fine a old new fl now m W (ap (λ (t : SystemState). t.table) h.3) went fine
  sends_fine true false i z old a new fl now m W number own h went fine =
      sends_marker (marker_due old.table z.number) z old a new fl now m W number own h went fine

  -- the port is probed, or another one

  pub probes_fine : (o : Option ℕ) (old : SystemState) (a : Option (List ℕ)) (new : SystemState) (fl now : Side → List ItemValue) (m : ℕ) (W : Type 0)
      → ((i : ℕ) (z : SystemPort) → o ≡ Some i → slice_get old.system_ports i ≡ Some z → z.number ≡ at s) → old.system.mac ≡ mac → ProbesAt o old a new
      → Went s (Ok a) fl now → IsFine m W (Flights s (at s) mac fl) old.table → IsFine m W (Flights s (at s) mac now) new.table
  probes_fine None old a new fl now m W number own h went fine = absurd h
  probes_fine (Some i) old a new fl now m W number own h went fine = by_up h.0.port.enabled h.2
    where
      by_up : (up : Bool) → ProbesIf up h.0 old a new → IsFine m W (Flights s (at s) mac now) new.table
      by_up false k = went_fine a old new fl now m W (ap (λ (t : SystemState). t.table) k.1) went fine
      by_up true k = sends_marker (next_identifier old.table) h.0 old a new fl now m W (number i h.0 refl h.1) own k went fine

  pub probes_beside : (o : Option ℕ) (old : SystemState) (a : Option (List ℕ)) (new : SystemState) (m : ℕ) (W : Type 0) (F : ℕ → Type 0)
      → ((i : ℕ) (z : SystemPort) → o ≡ Some i → slice_get old.system_ports i ≡ Some z → z.number ≡ at s → ⊥) → ProbesAt o old a new
      → IsFine m W F old.table → IsFine m W F new.table
  probes_beside None old a new m W F other h fine = absurd h
  probes_beside (Some i) old a new m W F other h fine = by_up h.0.port.enabled h.2
    where
      by_marker : (x : Option ℕ) → SendsMarkerOf x h.0.number h.0.mac old a new → IsFine m W F new.table
      by_marker None k = subst (λ (t : SystemState). IsFine m W F t.table) (sym k.1) fine
      by_marker (Some id) k = subst (Fine (at s) m W F) (sym (k.4.states agg conv))
          (marked_beside (at s) m h.0.number id W F (other i h.0 refl h.1) (assignment_of old.table agg conv) fine)

      by_up : (up : Bool) → ProbesIf up h.0 old a new → IsFine m W F new.table
      by_up false k = subst (λ (t : SystemState). IsFine m W F t.table) (sym k.1) fine
      by_up true k = by_marker (next_identifier old.table) k

  -- no marker is due: no conversation is Wanted there, if an identifier is left
  pub none_due : (t : Table) → IsSome (next_identifier t) → marker_due t (at s) ≡ None → count_conversations (wants_marker (at s)) t ≡ 0
  none_due t left e = grind (arith, nat_tests)

  -- a settling

  pub settles_all : (m : ℕ) (W : Type 0) (F : ℕ → Type 0) (old new : SystemState) → Settling old new
      → ((g k : ℕ) → assignment_of old.table g k ≡ On (at s) → is_among (distributing (aggregator_numbered g) new.system_ports) (at s) ≡ true)
      → IsFine m W F old.table → IsFine m W F new.table
  settles_all m W F old new hyp1 hyp2 hyp3 = grind (arith, nat_tests, settling_parts, ports_table, settled_fine, true)

  -- the port distributes in its aggregator, and goes on so
  module _ (c : Choice) where
    abbrev pub Steady : Machines → Type 0
    Steady p = PartnerInSync p × (p.choice ≡ c)

    pub stays_on : (one two : Side → ℕ) (old new : WorldState) → Link 2 at w one s Steady old → Link 2 at w two s Steady new → (g k : ℕ)
        → assignment_of (half s old).state.table g k ≡ On (at s) → is_among (distributing (aggregator_numbered g) (half s new).state.system_ports) (at s) ≡ true
    stays_on one two old new a b g k e = let numbered = aggregator_numbered g in
        let was = (half s old).state in
        let st = (half s new).state in
        let x = among_port numbered was.system_ports (at s) ((a.steady s).0.carried g k (at s) e) in
        let own = all-get (λ (y : SystemPort). AtPort (at s) Steady y.number y.port) was.system_ports x.0 x.1 x.2
        (beside at w 2 one s Steady old a) x.3 in
        let chose : has_chosen numbered c ≡ true = sym (ap (has_chosen numbered) own.1)
        ∙ (and_parts (has_chosen numbered x.1.port.choice) (same_mux_state CollectingDistributing x.1.port.mux) x.4).0 in
        let z = end_here at w 2 two s Steady new b s in
        let now = end_with at w 2 two s new z Steady (beside at w 2 two s Steady new b) in
        let mux = (all-get (MuxIsSettled st.keys st.system_ports) st.system_ports z.index z.port z.there (b.steady s).0.quiet.0).mux in
        let up = distributes_now z.port.port mux (z.is.2 (omega arith)) now.0 in
        port_among numbered st.system_ports (at s) z.index z.port z.there z.number
        (rw (ap (has_chosen numbered) now.1 ∙ chose, ap (same_mux_state CollectingDistributing) up) refl)

-- How the conversations that are held on a port of a healthy cable are freed, round by round.

pub after_tick_on : (p : ℕ) (a : Assignment) → after_tick a ≡ On p → a ≡ On p
after_tick_on p a e = grind (arith, nat_tests)

module _ (at : Side → ℕ) (w : Side → Lacpdu) (s : Side) (mac : List ℕ) (agg conv : ℕ) where
  abbrev FineIn : ℕ → Type 0 → (ℕ → Type 0) → Table → Type 0
  FineIn m W F t = IsFine at w s mac agg conv m W F t

  -- the response to a marker of the port
  abbrev IsResponse : List ℕ → ℕ → Type 0
  IsResponse octets id = IsFrame octets (Carries (pdu.Marker (answering (at s) mac id)))

  -- what On is leaves a state of the system as it is
  abbrev Stays : SystemState → SystemState → Type 0
  Stays old new = (g k : ℕ) → assignment_of old.table g k ≡ On (at s)
      → is_among (distributing (aggregator_numbered g) new.system_ports) (at s) ≡ true

  fines_same : (m : ℕ) (W : Type 0) (F : ℕ → Type 0) (old new : SystemState) → new ≡ old → FineIn m W F old.table → FineIn m W F new.table
  fines_same m W F old new e = subst (λ (t : SystemState). FineIn m W F t.table) (sym e)

  settled_from : (m : ℕ) (W : Type 0) (F : ℕ → Type 0) (old mid new : SystemState) → mid.table ≡ old.table → Settling mid new → Stays old new
      → FineIn m W F old.table → FineIn m W F new.table
  settled_from m W F old mid new e h stays fine = settles_all at w s mac agg conv m W F mid new h
      (λ g k f. stays g k (sym (ap (λ t. assignment_of t g k) e) ∙ f)) (subst (FineIn m W F) (sym e) fine)

  table_fine : (index : Option ℕ) (old new : SystemState) (m : ℕ) (W : Type 0) (F : ℕ → Type 0) → Stays old new → TableChanges index old new
      → FineIn m W F old.table → FineIn m W F new.table
  table_fine index old new m W F hyp1 hyp2 hyp3 = grind (arith, nat_tests, settled_from, turned_by, released_beside)

  own_response : (old : SystemState) (port id : ℕ) → port ≡ at s → old.system.mac ≡ mac → is_own_response old port (answering (at s) mac id) ≡ true
  own_response old port id hyp1 hyp2 = grind (arith, nat_tests, bytes_eq, true, bytes_eq-Decides)

  -- one conversation: its response came, or what is known of it goes on
  one_fine : (octets : List ℕ) (m : ℕ) (W : Type 0) (F G : ℕ → Type 0) (a b : Assignment)
      → ((id : ℕ) → F id → IsResponse octets id ⊎ G id) → ((id : ℕ) → IsResponse octets id → b ≡ after_release (at s) id a)
      → (Fine (at s) m W G a → Fine (at s) m W G b) → Fine (at s) m W F a → Fine (at s) m W G b
  one_fine octets m W F G (Free preferred) b split comes goes h = goes h
  one_fine octets m W F G (On q) b split comes goes h = goes h
  one_fine octets m W F G (Wanted q preferred) b split comes goes h = goes h
  one_fine octets m W F G (Flushing q id preferred age) b split comes goes h = grind (arith, nat_tests, cases_Bool, eqb, is_port, passes, not_port)
    where
      passes : q ≡ at s → (eqb q (at s) && eqb id id) ≡ true
      passes e = grind (arith, nat_tests)

  -- what an item that came to the port asked for
  changes_fine : (index : Option ℕ) (old new : SystemState) (octets : List ℕ) (m : ℕ) (W : Type 0) (F G : ℕ → Type 0)
      → ((id : ℕ) → F id → IsResponse octets id ⊎ G id)
      → ((id : ℕ) → IsResponse octets id → (g k : ℕ) → assignment_of new.table g k ≡ after_release (at s) id (assignment_of old.table g k))
      → Stays old new → TableChanges index old new → FineIn m W F old.table → FineIn m W G new.table
  changes_fine index old new octets m W F G split comes stays c fine =
      one_fine octets m W F G (assignment_of old.table agg conv) (assignment_of new.table agg conv) split (λ id r. comes id r agg conv)
      (table_fine index old new m W G stays c) fine

  -- an item comes to the port at the end of s
  pub comes_fine : (gives : Algorithms) (fl : Side → List ItemValue) (old new : WorldState) (i : ℕ) (z : SystemPort) (m : ℕ) (W : Type 0)
      → port_index (at s) (half s old).state.system_ports ≡ Some i → slice_get (half s old).state.system_ports i ≡ Some z
      → z.port.enabled ≡ true → (half s old).state.system.mac ≡ mac → (k : Arrives gives s at fl old new) → Stays (half s old).state (half s new).state
      → FineIn m W (Flights s (at s) mac fl) (half s old).state.table → FineIn m W (Flights s (at s) mac k.now) (half s new).state.table
  comes_fine gives fl old new i z m W place there up own k stays fine = by_answer k.a k.promise (split k.back)
    where
      st : SystemState
      st = (half s old).state

      split : Back s k.a (put s k.rest fl) k.now → (id : ℕ) → Flights s (at s) mac fl id → IsResponse k.item.octets id ⊎ Flights s (at s) mac k.now id
      split back id (inl y) = inr (inl (gains_has s (IsMarker (asking (at s) mac id)) (response k.a) (put s k.rest fl) k.now back (peer s)
          (subst (Has (IsMarker (asking (at s) mac id))) (sym (put_other s k.rest fl)) y)))
      split back id (inr y) = elim (subst (Has (IsMarker (answering (at s) mac id))) k.first y) [
        | inl r ↦ inl r
        | inr r ↦ inr (inr (gains_has s (IsMarker (answering (at s) mac id)) (response k.a) (put s k.rest fl) k.now back s
            (subst (Has (IsMarker (answering (at s) mac id))) (sym (put_there s k.rest fl)) r)))
      ]

      by_answer : (a : Result Received SystemFault) → CallPromise (gives s) (half s old).state (Receive (at s) k.item.octets) (answer.Receive a) (half s new).state
          → ((id : ℕ) → Flights s (at s) mac fl id → IsResponse k.item.octets id ⊎ Flights s (at s) mac k.now id)
          → FineIn m W (Flights s (at s) mac k.now) (half s new).state.table
      by_answer (Err fault) h split = absurd (none-some i (sym h.step.cause ∙ place))
      by_answer (Ok o) h split =
          let r = subst (λ x. ReceivesAt x k.item.octets (half s old).state o (half s new).state) place h.step in
          let same : r.0 ≡ z = same_Some r.0 z (sym r.2 ∙ there) in
          let number : r.0.number ≡ at s = ap (λ (y : SystemPort). y.number) same
          ∙ found_place (at s) (half s old).state.system_ports i z place there in
          let parsed = subst (λ b. ParsesWhere b r.0 k.item.octets r.1) (ap (λ (y : SystemPort). y.port.enabled) same ∙ up) r.3 in
          changes_fine (Some i) (half s old).state (half s new).state k.item.octets m W (Flights s (at s) mac fl)
          (Flights s (at s) mac k.now) split
          (λ id c. (let does = effect_one true r.0 k.item.octets r.1 _ parsed (Carries (pdu.Marker (answering (at s) mac id)), c, refl) in
          let done = subst (λ f. Performs f r.0.number (Some i) (half s old).state o (half s new).state) does r.4 in
          let own = subst (λ b. Releases b r.0.number (answering (at s) mac id) (half s old).state o (half s new).state)
          (own_response (half s old).state r.0.number id number own) done in
          λ g c. own.1.states g c ∙ ap (λ n. after_release n id (assignment_of (half s old).state.table g c)) number))
          stays (table_changes r.1 r.0.number (Some i) (half s old).state o (half s new).state r.4) fine

  -- an item comes to the other end, which answers a marker
  pub peer_answers : (gives : Algorithms) (fl : Side → List ItemValue) (old new : WorldState) (i : ℕ) (z : SystemPort)
      → port_index (at (peer s)) (half (peer s) old).state.system_ports ≡ Some i → slice_get (half (peer s) old).state.system_ports i ≡ Some z
      → z.port.enabled ≡ true → (k : Arrives gives (peer s) at fl old new) → (id : ℕ) → Flights s (at s) mac fl id → Flights s (at s) mac k.now id
  peer_answers gives fl old new i z place there up k id (inr y) =
      inr (gains_has (peer s) (IsMarker (answering (at s) mac id)) (response k.a) (put (peer s) k.rest fl) k.now k.back s
      (subst (Has (IsMarker (answering (at s) mac id)))
      (sym (subst (λ t. put (peer s) k.rest fl t ≡ fl t) (peer_twice s) (put_other (peer s) k.rest fl))) y))
  peer_answers gives fl old new i z place there up k id (inl y) = elim (subst (Has (IsMarker (asking (at s) mac id))) k.first y) [
    | inl r ↦ inr (by_answer k.a k.promise k.back r)
    | inr r ↦ inl (gains_has (peer s) (IsMarker (asking (at s) mac id)) (response k.a) (put (peer s) k.rest fl) k.now k.back (peer s)
        (subst (Has (IsMarker (asking (at s) mac id))) (sym (put_there (peer s) k.rest fl)) r))
  ]
    where
      responds : (o : Received) (frame : List ℕ) → o ≡ received.Respond frame → IsFrame frame (Carries (pdu.Marker (answering (at s) mac id)))
          → Back (peer s) (Ok o) (put (peer s) k.rest fl) k.now → Has (IsMarker (answering (at s) mac id)) (k.now s)
      responds o frame e c back = let b = subst (λ (x : Received). Back (peer s) (Ok x) (put (peer s) k.rest fl) k.now) e back in
          let is : IsMarker (answering (at s) mac id) b.0 =
          subst (λ x. IsFrame x (Carries (pdu.Marker (answering (at s) mac id)))) (sym b.1) c in
          let last : Has (IsMarker (answering (at s) mac id)) (k.now (peer (peer s))) =
          subst (λ (g : Side → List ItemValue). Has (IsMarker (answering (at s) mac id)) (g (peer (peer s)))) (sym b.2)
          (subst (Has (IsMarker (answering (at s) mac id))) (sym (push_there (peer (peer s)) b.0 (put (peer s) k.rest fl)))
          (has_last (IsMarker (answering (at s) mac id)) (put (peer s) k.rest fl (peer (peer s))) b.0 is)) in
          subst (λ t. Has (IsMarker (answering (at s) mac id)) (k.now t)) (peer_twice s) last

      by_answer : (a : Result Received SystemFault)
          → CallPromise (gives (peer s)) (half (peer s) old).state (Receive (at (peer s)) k.item.octets) (answer.Receive a) (half (peer s) new).state
          → Back (peer s) a (put (peer s) k.rest fl) k.now → IsMarker (asking (at s) mac id) k.item → Has (IsMarker (answering (at s) mac id)) (k.now s)
      by_answer (Err fault) h back c = absurd (none-some i (sym h.step.cause ∙ place))
      by_answer (Ok o) h back c =
          let r = subst (λ x. ReceivesAt x k.item.octets (half (peer s) old).state o (half (peer s) new).state) place h.step in
          let same : r.0 ≡ z = same_Some r.0 z (sym r.2 ∙ there) in
          let parsed = subst (λ b. ParsesWhere b r.0 k.item.octets r.1) (ap (λ (y : SystemPort). y.port.enabled) same ∙ up) r.3 in
          let frame = frame_is k.item.octets (pdu.Marker (asking (at s) mac id)) parsed.0 c parsed.1 in
          let gives = subst (λ f. GivesEffect r.0 f r.1) frame parsed.2 in
          let done = subst (λ f. Performs f r.0.number (Some i) (half (peer s) old).state o (half (peer s) new).state) gives.3 r.4 in
          responds o (frame_octets r.0.mac gives.0) done.0
          (sent_carries (frame_octets r.0.mac gives.0) (pdu.Marker (answering (at s) mac id)) (r.0.mac, gives.0, gives.1, gives.2, refl)) back

  -- another port is asked, or something comes to it

  other_marks : (o : Option ℕ) (port : ℕ) (z : List ℕ) (old : SystemState) (a : Option (List ℕ)) (new : SystemState) (m : ℕ) (W : Type 0)
      (F : ℕ → Type 0) → (port ≡ at s → ⊥) → SendsMarkerOf o port z old a new → FineIn m W F old.table → FineIn m W F new.table
  other_marks o port z old a new m W F hyp1 hyp2 hyp3 = grind (arith, nat_tests, fines_same, turned_by, marked_beside)

  other_sends : (up due : Bool) (i : ℕ) (z : SystemPort) (old : SystemState) (a : Option (List ℕ)) (new : SystemState) (m : ℕ) (W : Type 0)
      (F : ℕ → Type 0) → (z.number ≡ at s → ⊥) → TransmitsIf up due i z old a new → FineIn m W F old.table → FineIn m W F new.table
  other_sends false due i z old a new m W F other h fine = fines_same m W F old new h.1 fine
  other_sends true true i z old a new m W F other h fine = grind (arith, nat_tests)
  other_sends true false i z old a new m W F other h fine = other_marks (marker_due old.table z.number) z.number z.mac old a new m W F other h fine

  other_transmits : (n : ℕ) (o : Option ℕ) (old : SystemState) (a : Option (List ℕ)) (new : SystemState) (m : ℕ) (W : Type 0) (F : ℕ → Type 0)
      → port_index n old.system_ports ≡ o → (n ≡ at s → ⊥) → TransmitsAt o old a new → FineIn m W F old.table → FineIn m W F new.table
  other_transmits n None old a new m W F e other h fine = absurd h
  other_transmits n (Some i) old a new m W F e other h fine = other_sends h.0.port.enabled (is_due h.0.port) i h.0 old a new m W F
      (λ f. other (sym (found_place n old.system_ports i h.0 e h.1) ∙ f)) h.2 fine

  pub elsewhere_fine : (gives : ℕ → ℕ → ℕ → Type 0) (old new : SystemState) (m : ℕ) (W : Type 0) (F : ℕ → Type 0)
      → Elsewhere gives (at s) old new → Stays old new → FineIn m W F old.table → FineIn m W F new.table
  elsewhere_fine gives old new m W F (inl e) stays fine = fines_same m W F old new e fine
  elsewhere_fine gives old new m W F (inr (p, Transmit n, answer.Transmit (Ok a), other, is, step)) stays fine =
      other_transmits n (port_index n old.system_ports) old a new m W F refl (λ e. other (sym is ∙ e)) step fine
  elsewhere_fine gives old new m W F (inr (p, Transmit n, answer.Transmit (Err fault), other, is, step)) stays fine =
      fines_same m W F old new step.same fine
  elsewhere_fine gives old new m W F (inr (p, Transmit n, a, other, is, step)) stays fine = absurd step
  elsewhere_fine gives old new m W F (inr (p, Receive n octets, answer.Receive (Ok o), other, is, step)) stays fine =
      table_fine (port_index n old.system_ports) old new m W F stays
      (table_changes step.1 step.0.number (port_index n old.system_ports) old o new step.4) fine
  elsewhere_fine gives old new m W F (inr (p, Receive n octets, answer.Receive (Err fault), other, is, step)) stays fine =
      fines_same m W F old new step.same fine
  elsewhere_fine gives old new m W F (inr (p, Receive n octets, a, other, is, step)) stays fine = absurd step
  elsewhere_fine gives old new m W F (inr (p, call, a, other, is, step)) stays fine = absurd is
