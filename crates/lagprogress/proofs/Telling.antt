-- Once an end has heard the other, it is told by an LACPDU when the other is synchronized.
use Rattle.lagprogress.proofs.Common.{Err, List, None, Ok, Option, Result, Some, [], ap, arith, inl, inr, refl, slice_get, subst, sym, true, ℕ, ◌++◌}
use Rattle.lagprogress.proofs.Common.{◌∙◌, ◌∷◌, ◌≡◌, ◌≤◌, ◌⊎◌, cases_Bool, nat_tests, none-some, same_Some, AllByRecursion, Lacpdu, Side, peer}
use Rattle.lagprogress.proofs.Common.{Machines, partner_synchronized, after_sending, is_due, pdu_of, SystemFault, Received, SystemPort, Carries}
use Rattle.lagprogress.proofs.Common.{IsFrame, OnlyPortChangesBy, ProcessesLacpdu, Receive, Step, ThenSettles, Transmit, IsLacpduOf, TransmitsAt}
use Rattle.lagprogress.proofs.Common.{CallPromise, SystemState, port_index, Reply, Algorithms, WorldSteps, side_of, ItemValue, WorldState, half}
use Rattle.lagprogress.proofs.Common.{KeptBySettling, OfEach, asked_each, takes_each, AtPort, settling_leaves}
use Rattle.lagprogress.proofs.Claims.{Claims, Owes, Owing, SaysSynced, Wakeful, claim_said, claims_or_not, owes_takes, owing_settles, takes_claim}
use Rattle.lagprogress.proofs.Claims.{wakeful_along}
use Rattle.lagprogress.proofs.Climbing.{PartnerInSync}
use Rattle.lagprogress.proofs.Delivering.{deliver_moves, came_to}
use Rattle.lagprogress.proofs.EndFacts.{Along, SameActor, takes_end}
use Rattle.lagprogress.proofs.Linked.{EndIs, Fits, Flying, IsGood, Link, asked_which, beside_link, each_both, each_map, each_side, elsewhere_each}
use Rattle.lagprogress.proofs.Linked.{emit_link, peer_twice, push_other, push_there, put_other, put_there, EndPort, at_end, end_here, end_with}
use Rattle.lagprogress.proofs.Linked.{sent_is}
use Rattle.lagprogress.proofs.OneCable.{Arrives, Back, Beside, Went, push, put, Asks}
use Rattle.lagprogress.proofs.OneRound.{flies, same_ports_then, beside_here}
use Rattle.lagprogress.proofs.Passing.{carries_one, lacpdu_is_sent, marker_carries_none, sends_due, sent_carries}
use Rattle.slowpdu.specs.declared.pdu.Pdu.TheVariants as pdu
use Rattle.lagsystem.specs.declared.drive.Reply.TheVariants as answer
use Rattle.lagsystem.specs.declared.received.Received.TheVariants as received
use Rattle.lagscript.specs.declared.event.Event.TheVariants as event

-- what is on its way

-- the item bears an LACPDU
abbrev pub Bears : ItemValue → Type 0
Bears item = (x : Lacpdu) × IsFrame item.octets (Carries (pdu.Lacpdu x))

-- the item bears no LACPDU but one that says that its actor is synchronized
abbrev pub SaysIt : Lacpdu → Lacpdu → ItemValue → Type 0
SaysIt u v item = (x : Lacpdu) → IsFrame item.octets (Carries (pdu.Lacpdu x)) → SaysSynced u v x

-- each LACPDU among the items says so; and if there is none, H holds
abbrev pub Tells : Lacpdu → Lacpdu → List ItemValue → Type 0 → Type 0
Tells u v [] H = H
Tells u v (item ∷ items) H = Tells u v items (SaysIt u v item × (H ⊎ Bears item))

pub tells_map : (u v : Lacpdu) (xs : List ItemValue) (A B : Type 0) → (A → B) → Tells u v xs A → Tells u v xs B
tells_map u v [] A B k h = k h
tells_map u v (x ∷ xs) A B k h = tells_map u v xs (SaysIt u v x × (A ⊎ Bears x)) (SaysIt u v x × (B ⊎ Bears x))
    (λ a. (a.0, elim a.1 [ inl y ↦ inl (k y) | inr b ↦ inr b ])) h

pub tells_push : (u v : Lacpdu) (xs : List ItemValue) (item : ItemValue) (H : Type 0) → SaysIt u v item → Tells u v xs H ⊎ Bears item
    → Tells u v (xs ++ item ∷ []) H
tells_push u v [] item H says h = (says, h)
tells_push u v (x ∷ xs) item H says h = tells_push u v xs item (SaysIt u v x × (H ⊎ Bears x)) says h

pub went_other : (s : Side) (a : Result (Option (List ℕ)) SystemFault) (fl now : Side → List ItemValue) → Went s a fl now → now s ≡ fl s
went_other s a fl now h = grind (arith, nat_tests)

-- one item more that says so
said_more : (u v : Lacpdu) (H : Type 0) (s : Side) (item : ItemValue) (fl now : Side → List ItemValue) → now ≡ push (peer s) item fl
    → SaysIt u v item → Tells u v (fl (peer s)) H ⊎ Bears item → Tells u v (now (peer s)) H
said_more u v H s item fl now e says h = grind (arith, nat_tests, Tells, peer, push_there, tells_push)

-- an end that says so is asked
went_tells : (u v : Lacpdu) (H : Type 0) (s : Side) (a : Result (Option (List ℕ)) SystemFault) (fl now : Side → List ItemValue)
    → Went s a fl now → ((frame : List ℕ) → a ≡ Ok (Some frame) → (x : Lacpdu) → IsFrame frame (Carries (pdu.Lacpdu x)) → SaysSynced u v x)
    → Tells u v (fl (peer s)) H → Tells u v (now (peer s)) H
went_tells u v H s (Ok (Some frame)) fl now h k m = said_more u v H s h.0 fl now h.2
    (λ x c. k frame refl x (subst (λ o. IsFrame o (Carries (pdu.Lacpdu x))) h.1 c)) (inl m)
went_tells u v H s a fl now h k m = subst (λ (f : Side → List ItemValue). Tells u v (f (peer s)) H) (sym h) m

-- and an LACPDU is due
due_tells : (u v : Lacpdu) (H : Type 0) (gives : ℕ → ℕ → ℕ → Type 0) (s : Side) (n k : ℕ) (z : SystemPort)
    (a : Result (Option (List ℕ)) SystemFault) (old new : SystemState) (fl now : Side → List ItemValue)
    → SaysSynced u v (pdu_of z.port old.max_delay)
    → port_index n old.system_ports ≡ Some k → slice_get old.system_ports k ≡ Some z → z.port.enabled ≡ true → is_due z.port ≡ true
    → Step gives old (Transmit n) (answer.Transmit a) new → Went s a fl now → Tells u v (now (peer s)) H
due_tells u v H gives s n k z (Err fault) old new fl now says place there up due h w = absurd (none-some k (sym h.cause ∙ place))
due_tells u v H gives s n k z (Ok None) old new fl now says place there up due h w = grind (arith, nat_tests)
due_tells u v H gives s n k z (Ok (Some frame)) old new fl now says place there up due h w =
    let sent = sends_due (port_index n old.system_ports) k z old (Some frame) new place there up due h in
    let is : frame ≡ sent.0 = same_Some frame sent.0 sent.2 in
    let lacpdu = subst (IsLacpduOf old.max_delay z) (sym (w.1 ∙ is)) sent.1 in
    let x = pdu_of z.port old.max_delay in
    let bears : IsFrame w.0.octets (Carries (pdu.Lacpdu x)) =
    sent_carries w.0.octets (pdu.Lacpdu x) (lacpdu_is_sent old.max_delay z w.0.octets lacpdu) in
    said_more u v H s w.0 fl now w.2 (λ y c. subst (SaysSynced u v) (carries_one w.0.octets y x c bears) says) (inr (x, bears))

-- what goes back

pub back_other : (s : Side) (a : Result Received SystemFault) (fl now : Side → List ItemValue) → Back s a fl now → now s ≡ fl s
back_other s a fl now h = grind (arith, nat_tests, push_other)

back_tells : (u v : Lacpdu) (H : Type 0) (gives : ℕ → ℕ → ℕ → Type 0) (s : Side) (n : ℕ) (octets : List ℕ) (a : Result Received SystemFault)
    (old new : SystemState) (fl now : Side → List ItemValue) → CallPromise gives old (Receive n octets) (answer.Receive a) new
    → Back s a fl now → Tells u v (fl (peer s)) H → Tells u v (now (peer s)) H
back_tells u v H gives s n octets (Ok (received.Respond frame)) old new fl now k h m = let g = k.moves.3 in
    said_more u v H s h.0 fl now h.2
    (λ x c. absurd (marker_carries_none frame x g.0 (subst (λ o. IsFrame o (Carries (pdu.Lacpdu x))) h.1 c) g.1)) (inl m)
back_tells u v H gives s n octets a old new fl now k h m = subst (λ (f : Side → List ItemValue). Tells u v (f (peer s)) H) (sym h) m

-- the events of a round

module _ (gives : Algorithms) (d : ℕ) (at : Side → ℕ) (w : Side → Lacpdu) (c : Side → ℕ) (s : Side) (X : Machines → Type 0)
    (there : 1 ≤ d) (fits : Fits d w c) (keeps : KeptBySettling (AtPort (at (peer s)) X))
    (sends : (p : Machines) → X p → X (after_sending p)) (takes : (p : Machines) → partner_synchronized p ≡ true → X p) where
  abbrev pub Wake : Machines → Type 0
  Wake = Wakeful (w s) (w (peer s))

  abbrev pub Held : WorldState → Type 0
  Held j = Link d at w c s Wake j

  along : Along Wake (w s) (w (peer s)) (c s) d
  along = wakeful_along (w s) (w (peer s)) (c s) d there

  abbrev pub OwesAt : WorldState → Type 0
  OwesAt j = OfEach (AtPort (at s) (Owes (w (peer s)))) (half s j).state.system_ports

  abbrev pub HoldsAt : WorldState → Type 0
  HoldsAt j = OfEach (AtPort (at (peer s)) X) (half (peer s) j).state.system_ports

  -- the end of s owes an LACPDU, or one that says so is on its way, or X holds of its peer
  abbrev pub On : WorldState → Type 0
  On j = (l : Held j) × (OwesAt j ⊎ Tells (w (peer s)) (w s) (l.flying (peer s)) (HoldsAt j))

  -- the port at an end
  abbrev here : (q : Side) (j : WorldState) → Held j → EndPort at w d c q j
  here q j l = end_here at w d c s Wake j l q

  pub owing : (j : WorldState) → Held j → OwesAt j → OfEach (AtPort (at s) (Owing d (w s) (w (peer s)) (c s))) (half s j).state.system_ports
  owing j l a = each_map (λ m p. AtPort (at s) (EndIs d w c s Wake s) m p × AtPort (at s) (Owes (w (peer s))) m p)
      (AtPort (at s) (Owing d (w s) (w (peer s)) (c s))) (λ m p b e. ((b.0 e).0, (b.0 e).1 refl, b.1 e)) (half s j).state.system_ports
      (each_both (AtPort (at s) (EndIs d w c s Wake s)) (AtPort (at s) (Owes (w (peer s)))) (half s j).state.system_ports (l.ports s) a)

  pub owed : (t : SystemState) → OfEach (AtPort (at s) (Owing d (w s) (w (peer s)) (c s))) t.system_ports
      → OfEach (AtPort (at s) (Owes (w (peer s)))) t.system_ports
  owed t a = each_map (AtPort (at s) (Owing d (w s) (w (peer s)) (c s))) (AtPort (at s) (Owes (w (peer s)))) (λ m p b e. (b e).2) t.system_ports a

  -- the end itself is asked

  -- one that does not claim it owes nothing
  none_claimed : (old new : WorldState) (l : Held old) → Asks gives s at l.flying old new → (Claims (w (peer s)) (here s old l).port.port → ⊥) → OwesAt new
  none_claimed old new l k not = let P : Machines → Type 0 = λ p. Claims (w (peer s)) p → ⊥ in
      each_map (AtPort (at s) P) (AtPort (at s) (Owes (w (peer s)))) (λ q p b f c. absurd (b f c)) (half s new).state.system_ports
      (asked_each (AtPort (at s) P) (λ m p b. b) (gives s) (at s) k.a (half s old).state (half s new).state k.promise.step
      (at_end at w d c s old (here s old l) l.steady P not))

  -- one that does, and has an LACPDU due, says so
  due_claimed : (old new : WorldState) (l : Held old) (k : Asks gives s at l.flying old new) → Claims (w (peer s)) (here s old l).port.port
      → is_due (here s old l).port.port ≡ true → Tells (w (peer s)) (w s) (k.now (peer s)) (HoldsAt new)
  due_claimed old new l k claim due = let z = here s old l in
      due_tells (w (peer s)) (w s) (HoldsAt new) (gives s) s (at s) z.index z.port k.a (half s old).state (half s new).state l.flying k.now
      (claim_said (w s) (w (peer s)) (half s old).state.max_delay z.port.port (beside_here d at w c s Wake old l) claim) z.place z.there z.is.1.0 due
      k.promise.step k.went

  ask_own : (n : ℕ) (r : Reply) (old new : WorldState) → side_of n ≡ Some s → On old → WorldSteps gives old (event.Emit n (at s)) r new → On new
  ask_own n r old new named (l, m) h = let e = emit_link gives n s d at w c s Wake r old new fits named along (λ f p y. y) l h in
      let z = here s old l in
      let said : Tells (w (peer s)) (w s) (e.asks.now (peer s)) (HoldsAt new) → Tells (w (peer s)) (w s) (e.link.flying (peer s)) (HoldsAt new) =
      subst (λ (f : Side → List ItemValue). Tells (w (peer s)) (w s) (f (peer s)) (HoldsAt new)) (sym e.same) in (
        e.link,
        elim (claims_or_not (w (peer s)) z.port.port) [
          | inr not ↦ inl (none_claimed old new l e.asks not)
          | inl claim ↦ elim m [
            | inl owes ↦ elim (cases_Bool (is_due z.port.port)) [
              | inl due ↦ inr (said (due_claimed old new l e.asks claim due))
              | inr not ↦ inl (subst (OfEach (AtPort (at s) (Owes (w (peer s)))))
                  (sym (same_ports_then (gives s) (at s) z.index z.port e.asks.a (half s old).state (half s new).state z.place z.there not
                  e.asks.promise.step)) owes)
            ]
            | inr tells ↦ inr (said (went_tells (w (peer s)) (w s) (HoldsAt new) s e.asks.a l.flying e.asks.now e.asks.went
                (λ frame is x carried. says claim frame x carried
                (subst (λ b. Step (gives s) (half s old).state (Transmit (at s)) (answer.Transmit b) (half s new).state) is e.asks.promise.step))
                (tells_map (w (peer s)) (w s) (l.flying (peer s)) (HoldsAt old) (HoldsAt new)
                (subst (λ (t : SystemState). OfEach (AtPort (at (peer s)) X) t.system_ports) (sym e.asks.peers)) tells)))
          ]
        ],
      )
    where
      says : Claims (w (peer s)) (here s old l).port.port → (frame : List ℕ) (x : Lacpdu) → IsFrame frame (Carries (pdu.Lacpdu x))
          → Step (gives s) (half s old).state (Transmit (at s)) (answer.Transmit (Ok (Some frame))) (half s new).state → SaysSynced (w (peer s)) (w s) x
      says claim frame x carried step = let st = (half s old).state in
          let z = here s old l in
          let t = subst (λ i. TransmitsAt i st (Some frame) (half s new).state) z.place step in
          let same : t.0 ≡ z.port = same_Some t.0 z.port (sym t.1 ∙ z.there) in
          let is = sent_is t.0.port.enabled (is_due t.0.port) z.index t.0 st frame (half s new).state t.2 x carried in
          subst (SaysSynced (w (peer s)) (w s)) (sym (ap (λ (y : SystemPort). pdu_of y.port st.max_delay) same) ∙ is)
          (claim_said (w s) (w (peer s)) st.max_delay z.port.port (beside_here d at w c s Wake old l) claim)

  -- the end itself is asked, and an LACPDU is due
  pub due_on : (n : ℕ) (r : Reply) (old new : WorldState) → side_of n ≡ Some s → Held old
      → OfEach (AtPort (at s) (λ p. is_due p ≡ true)) (half s old).state.system_ports → WorldSteps gives old (event.Emit n (at s)) r new
      → (o : On new) × Flying (o.0.flying (peer s))
  due_on n r old new named l dues h = let e = emit_link gives n s d at w c s Wake r old new fits named along (λ f p y. y) l h in
      let z = here s old l in
      let due = end_with at w d c s old z (λ p. is_due p ≡ true) dues in (
        (
          e.link,
          elim (claims_or_not (w (peer s)) z.port.port) [
            | inl claim ↦ inr (subst (λ (f : Side → List ItemValue). Tells (w (peer s)) (w s) (f (peer s)) (HoldsAt new)) (sym e.same)
                (due_claimed old new l e.asks claim due))
            | inr not ↦ inl (none_claimed old new l e.asks not)
          ],
        ),
        subst (λ (f : Side → List ItemValue). Flying (f (peer s))) (sym e.same)
            (flies (gives s) s (at s) z.index z.port e.asks.a (half s old).state (half s new).state l.flying e.asks.now z.place z.there z.is.1.0 due
            e.asks.promise.step e.asks.went),
      )

  -- its peer is asked
  ask_peer : (n : ℕ) (r : Reply) (old new : WorldState) → side_of n ≡ Some (peer s) → On old → WorldSteps gives old (event.Emit n (at (peer s))) r new → On new
  ask_peer n r old new named (l, m) h =
      let e = emit_link gives n (peer s) d at w c s Wake r old new fits named along (λ f p y. y) l h in
      let same : (half s new).state ≡ (half s old).state =
      subst (λ t. (half t new).state ≡ (half t old).state) (peer_twice s) e.asks.peers in
      let items : e.link.flying (peer s) ≡ l.flying (peer s) = ap (λ (f : Side → List ItemValue). f (peer s)) e.same
      ∙ went_other (peer s) e.asks.a l.flying e.asks.now e.asks.went in (
        e.link,
        elim m [
          | inl owes ↦ inl (subst (λ (t : SystemState). OfEach (AtPort (at s) (Owes (w (peer s)))) t.system_ports) (sym same) owes)
          | inr tells ↦ inr (subst (λ xs. Tells (w (peer s)) (w s) xs (HoldsAt new)) (sym items)
              (tells_map (w (peer s)) (w s) (l.flying (peer s)) (HoldsAt old) (HoldsAt new)
              (λ y. asked_each (AtPort (at (peer s)) X) (λ m p b f. sends p (b f)) (gives (peer s)) (at (peer s)) e.asks.a (half (peer s) old).state
              (half (peer s) new).state e.asks.promise.step y) tells))
        ],
      )

  -- an event leaves what is on its way, or adds what bears no LACPDU
  pub left_by : (old new : WorldState) (l : Held old) (k : Held new)
      → (OfEach (AtPort (at s) (Owing d (w s) (w (peer s)) (c s))) (half s old).state.system_ports
      → OfEach (AtPort (at s) (Owing d (w s) (w (peer s)) (c s))) (half s new).state.system_ports) → (HoldsAt old → HoldsAt new)
      → (k.flying (peer s) ≡ l.flying (peer s))
      ⊎ ((item : ItemValue) × ((x : Lacpdu) → IsFrame item.octets (Carries (pdu.Lacpdu x)) → ⊥) × (k.flying (peer s) ≡ l.flying (peer s) ++ item ∷ []))
      → OwesAt old ⊎ Tells (w (peer s)) (w s) (l.flying (peer s)) (HoldsAt old) → On new
  left_by old new l k own other grew m = let u = w (peer s) in
      let v = w s in
      let fl = l.flying (peer s) in (
        k,
        elim m [
          | inl owes ↦ inl (owed (half s new).state (own (owing old l owes)))
          | inr tells ↦ (let now = tells_map u v fl (HoldsAt old) (HoldsAt new) other tells in
              inr (elim grew [
                | inl e ↦ subst (λ xs. Tells u v xs (HoldsAt new)) (sym e) now
                | inr e ↦ subst (λ xs. Tells u v xs (HoldsAt new)) (sym e.2)
                    (tells_push u v fl e.0 (HoldsAt new) (λ x c. absurd (e.1 x c)) (inl now))
              ]))
        ],
      )

  -- the event leaves the cable to itself
  left_alone : (old new : WorldState) (l : Held old) (k : Held new) → Beside gives at l.flying old new → k.flying ≡ l.flying
      → OwesAt old ⊎ Tells (w (peer s)) (w s) (l.flying (peer s)) (HoldsAt old) → On new
  left_alone old new l k b same m = left_by old new l k (elsewhere_each (Owing d (w s) (w (peer s)) (c s)) (gives s) (at s) (half s old).state
      (half s new).state (owing_settles d (w s) (w (peer s)) (c s) (at s) there) (b.calls s))
      (elsewhere_each X (gives (peer s)) (at (peer s)) (half (peer s) old).state (half (peer s) new).state keeps (b.calls (peer s)))
      (inl (ap (λ (f : Side → List ItemValue). f (peer s)) same)) m

  pub ask_on : (n p : ℕ) (r : Reply) (old new : WorldState) → WorldSteps gives old (event.Emit n p) r new → On old → On new
  ask_on n p r old new h (l, m) = elim (asked_which gives n p l.index at l.flying r old new l.links h) [
    | inl (t, named, is) ↦ each_side (λ t. side_of n ≡ Some t → WorldSteps gives old (event.Emit n (at t)) r new → On new) s
        (λ a b. ask_own n r old new a (l, m) b) (λ a b. ask_peer n r old new a (l, m) b) t named
        (subst (λ q. WorldSteps gives old (event.Emit n q) r new) is h)
    | inr b ↦ (let k = beside_link gives (event.Emit n p) d at w c s Wake r old new along l h b in
        left_alone old new l k.link b k.same m)
  ]

  -- an arrival

  arrive_own : (old new : WorldState) (l : Held old) (k : Arrives gives s at l.flying old new) (i : Held new) → i.flying ≡ k.now
      → OwesAt old ⊎ Tells (w (peer s)) (w s) (l.flying (peer s)) (HoldsAt old) → On new
  arrive_own old new l k i same m = (
    i,
    elim m [
      | inl owes ↦ inl (elim (came_to gives s d at w c s Wake old new l k) [
        | inl (x, carries, settles) ↦ takes_own x carries settles owes
        | inr none ↦ subst (OfEach (AtPort (at s) (Owes (w (peer s))))) (sym none.1) owes
      ])
      | inr tells ↦ inr (subst (λ (f : Side → List ItemValue). Tells (w (peer s)) (w s) (f (peer s)) (HoldsAt new)) (sym same)
          (back_tells (w (peer s)) (w s) (HoldsAt new) (gives s) s (at s) k.item.octets k.a (half s old).state (half s new).state
          (put s k.rest l.flying) k.now k.promise k.back
          (subst (λ xs. Tells (w (peer s)) (w s) xs (HoldsAt new)) (sym (put_other s k.rest l.flying))
          (tells_map (w (peer s)) (w s) (l.flying (peer s)) (HoldsAt old) (HoldsAt new)
          (λ y. subst (λ (t : SystemState). OfEach (AtPort (at (peer s)) X) t.system_ports) (sym k.peers) y) tells))))
    ],
  )
    where
      takes_own : (x : Lacpdu) → IsFrame k.item.octets (Carries (pdu.Lacpdu x))
          → ThenSettles (OnlyPortChangesBy (Some (here s old l).index) (ProcessesLacpdu x)) (half s old).state (half s new).state → OwesAt old → OwesAt new
      takes_own x carries settles owes = let z = here s old l in
          let good = subst (AllByRecursion (IsGood d w s)) k.first (l.good s) in
          let suits = good.0 x carries in
          let P = Owing d (w s) (w (peer s)) (c s) in
          let each = takes_each P (half s old).state (half s new).state x z.index z.port (l.steady s).0 z.there
          (λ q awake does. (
            takes_end (w s) (w (peer s)) x (c s) d z.port.port q suits (fits s).1 (fits s).2 (fits s).0 awake does z.is,
            along.takes x z.port.port q suits awake does z.is (beside_here d at w c s Wake old l),
            owes_takes (w (peer s)) x z.port.port q (suits.0 there) does (end_with at w d c s old z (Owes (w (peer s))) owes),
          )) (owing_settles d (w s) (w (peer s)) (c s) z.port.number there) settles in
          owed (half s new).state (subst (λ n. OfEach (AtPort n P) (half s new).state.system_ports) z.number each)

  pub arrive_peer : (old new : WorldState) (l : Held old) (k : Arrives gives (peer s) at l.flying old new) (i : Held new) → i.flying ≡ k.now
      → OwesAt old ⊎ Tells (w (peer s)) (w s) (l.flying (peer s)) (HoldsAt old) → On new
  arrive_peer old new l k i same m =
      let peers : (half s new).state ≡ (half s old).state = subst (λ t. (half t new).state ≡ (half t old).state) (peer_twice s) k.peers in
      let items : i.flying (peer s) ≡ k.rest = ap (λ (f : Side → List ItemValue). f (peer s)) same
      ∙ (back_other (peer s) k.a (put (peer s) k.rest l.flying) k.now k.back ∙ put_there (peer s) k.rest l.flying) in (
        i,
        elim m [
          | inl owes ↦ inl (subst (λ (t : SystemState). OfEach (AtPort (at s) (Owes (w (peer s)))) t.system_ports) (sym peers) owes)
          | inr tells ↦ inr (subst (λ xs. Tells (w (peer s)) (w s) xs (HoldsAt new)) (sym items)
              (tells_map (w (peer s)) (w s) k.rest (SaysIt (w (peer s)) (w s) k.item × (HoldsAt old ⊎ Bears k.item)) (HoldsAt new)
              (λ y. comes y.0 y.1) (subst (λ xs. Tells (w (peer s)) (w s) xs (HoldsAt old)) k.first tells)))
        ],
      )
    where
      comes : SaysIt (w (peer s)) (w s) k.item → HoldsAt old ⊎ Bears k.item → HoldsAt new
      comes says was = elim (came_to gives (peer s) d at w c s Wake old new l k) [
        | inl (x, carries, settles) ↦ (let z = here (peer s) old l in
            let good = subst (AllByRecursion (IsGood d w (peer s))) k.first (l.good (peer s)) in
            let actor = subst (λ t. SameActor x (w t)) (peer_twice s) ((good.0 x carries).0 there) in
            subst (λ n. OfEach (AtPort n X) (half (peer s) new).state.system_ports) z.number
            (takes_each X (half (peer s) old).state (half (peer s) new).state x z.index z.port (l.steady (peer s)).0 z.there
            (λ q awake does. takes q (takes_claim (w (peer s)) (w s) x z.port.port q actor (says x carries) awake does z.is.0 z.is.1.0))
            (subst (λ n. KeptBySettling (AtPort n X)) (sym z.number) keeps) settles))
        | inr none ↦ elim was [ inl y ↦ subst (OfEach (AtPort (at (peer s)) X)) (sym none.1) y | inr b ↦ absurd (none.0 b.0 b.1) ]
      ]

  pub deliver_on : (cn n : ℕ) (r : Reply) (old new : WorldState) → WorldSteps gives old (event.Deliver cn n) r new → On old → On new
  deliver_on cn n r old new h (l, m) = let e = deliver_moves gives cn n d at w c s Wake r old new fits along l h in
      elim e.1 [
        | inl (q, k, same) ↦ each_side (λ t. (k : Arrives gives t at l.flying old new) → e.0.link.flying ≡ k.now → On new) s
            (λ k same. arrive_own old new l k e.0.link same m) (λ k same. arrive_peer old new l k e.0.link same m) q k same
        | inr b ↦ left_alone old new l e.0.link b.0 b.1 m
      ]

pub sync_settles : (n : ℕ) → KeptBySettling (AtPort n PartnerInSync)
sync_settles n = settling_leaves (AtPort n PartnerInSync)

-- the end of s is wakeful
abbrev pub Wakes : (Side → ℕ) → (Side → Lacpdu) → Side → WorldState → Type 0
Wakes at w s j = OfEach (AtPort (at s) (Wakeful (w s) (w (peer s)))) (half s j).state.system_ports
