-- The Actor of an LACPDU is its sender, and the partner that a port recorded is the sender of an LACPDU.
use Rattle.lagmodel.proofs.Common.{Bool, IsSomeAnd, List, None, Option, Some, [], ap, arith, eqb, eqb-true, false, inl, inr, length, option_map, refl}
use Rattle.lagmodel.proofs.Common.{subst, suc, sym, true, ℕ, ◌∙◌, ◌∷◌, ◌≡◌, ◌≢◌, ◌≤◌, ◌⊎◌, cases_Bool, eqb-false, false≢true, true≢false, none-some}
use Rattle.lagmodel.proofs.Common.{same_Some, Party, Announce, Become, Default, Desynchronize, DistributorMove, Flow, Mark, Move, MoveAllowed, Port}
use Rattle.lagmodel.proofs.Common.{PortAllowed, PortMove, Reconfigure, Respond, Restart, Send, Take, Took, act, act_of_port, distributor_act}
use Rattle.lagmodel.proofs.Common.{port_act, port_after, view_after, DistributorFacts, Lacp, LacpMessage, Marker, ModelCall, PortFacts, Response}
use Rattle.lagmodel.proofs.Common.{SystemSetup, View, at_port, first_view, is_restart, replies_frame, Control, Data, Message, Side, TakenLacpdu}
use Rattle.lagmodel.proofs.Common.{at_cable, on_cable_after, party_at, put_on_cable, taken_after}
use Rattle.lagmodel.proofs.Base.{cond_true, cond_false, value_of}
use Rattle.lagmodel.proofs.Lines.{Every, every_push, every_weaker, put_each}
use Rattle.lagmodel.proofs.LaneMoves.{at_cable_each, Within}

-- An LACPDU's stamp is at most its sender's count; if it is the count, the LACPDU names this party.
abbrev pub FreshPdu : ℕ → Option Party → LacpMessage → ℕ → Type 0
FreshPdu count party pdu stamp = (stamp ≤ count) × (stamp ≡ count → party ≡ Some pdu.actor)

abbrev pub Fresh : ℕ → Option Party → Message → Type 0
Fresh count party (Control (Lacp pdu) stamp) = FreshPdu count party pdu stamp
Fresh count party (Control (Marker mac p n) stamp) = Unit {0}
Fresh count party (Control (Response mac p n) stamp) = Unit {0}
Fresh count party (Data origin g k serial) = Unit {0}

-- of all LACPDUs of one system. taken: what the other system's ports took last
pub record Stamps (ends theirs : ℕ → Option ℕ) (party : ℕ → Option Party) (count : ℕ → ℕ) (out : ℕ → List Message) (taken : ℕ
    → Option TakenLacpdu) : Type 0 where
  pub flight : (c p : ℕ) → ends c ≡ Some p → Every (Fresh (count p) (party p)) (out c)
  pub last : (c p q : ℕ) (m : TakenLacpdu) → ends c ≡ Some p → theirs c ≡ Some q → taken q ≡ Some m → FreshPdu (count p) (party p) m.pdu m.stamp

-- A port that is not on defaults took an LACPDU from the partner that it records. It records it as synchronized only
-- if that LACPDU said so, and named the port's party or has an individual actor.
abbrev pub Heard : PortFacts → Option TakenLacpdu → Type 0
Heard a o = a.defaulted ≡ false
    → (m : TakenLacpdu) × (o ≡ Some m) × (a.partner ≡ m.pdu.actor)
    × (a.synchronized ≡ true → (m.pdu.synchronized ≡ true) × ((m.pdu.partner ≡ a.party) ⊎ (m.pdu.actor.aggregatable ≡ false)))

abbrev pub AllHeard : (ℕ → Option PortFacts) → (ℕ → Option TakenLacpdu) → Type 0
AllHeard ports taken = (p : ℕ) (a : PortFacts) → ports p ≡ Some a → Heard a (taken p)

heard_changed : (ports : ℕ → Option PortFacts) (taken taken' : ℕ → Option TakenLacpdu) (p : ℕ) (f : PortFacts → PortFacts) (a : PortFacts) → ports p ≡ Some a
    → Heard (f a) (taken' p) → ((q : ℕ) → (q ≡ p → ⊥) → taken' q ≡ taken q) → AllHeard ports taken → AllHeard (at_port ports p f) taken'
heard_changed ports taken taken' p f a h new same i q b e = grind arith

heard_port : (u : SystemSetup) (call : ModelCall) (ports : ℕ → Option PortFacts) (p : ℕ) (stamp : ℕ) (taken : ℕ → Option TakenLacpdu)
    (m : PortMove) (a : PortFacts) → ports p ≡ Some a
    → PortAllowed u call ports p m a → AllHeard ports taken
    → AllHeard (at_port ports p (port_after m)) (taken_after stamp (port_act p m a) taken)
heard_port u call ports p stamp taken Desynchronize a h x i = grind arith
heard_port u call ports p stamp taken (Reconfigure party) a h x i = grind arith
heard_port u call ports p stamp taken Default a h x i = grind arith
heard_port u call ports p stamp taken (Take pdu synchronized) a h x i =
    heard_changed ports taken (taken_after stamp (Some (Took p pdu)) taken) p (port_after (Take pdu synchronized)) a h
    (λ d. (record { pdu = pdu; stamp = stamp }, self, refl, x.2)) (λ q ne. other q ne) i
  where
    self : taken_after stamp (Some (Took p pdu)) taken p ≡ Some (record { pdu = pdu; stamp = stamp })
    self = elim (cases_Bool (eqb p p)) [ inl e ↦ cond_true (eqb p p) _ _ e | inr e ↦ absurd (eqb-false p p e refl) ]

    other : (q : ℕ) → (q ≡ p → ⊥) → taken_after stamp (Some (Took p pdu)) taken q ≡ taken q
    other q ne = elim (cases_Bool (eqb q p)) [ inl e ↦ absurd (ne (eqb-true q p e)) | inr e ↦ cond_false (eqb q p) _ _ e ]
heard_port u call ports p stamp taken m a h x i = heard_changed ports taken taken p (port_after m) a h (i p a h) (λ q e. refl) i

heard_flow : (ports : ℕ → Option PortFacts) (mac : List ℕ) (stamp : ℕ) (taken : ℕ → Option TakenLacpdu) (f : DistributorFacts)
    (m : DistributorMove) → AllHeard ports taken → AllHeard ports (taken_after stamp (distributor_act mac m f) taken)
heard_flow ports mac stamp taken f m i = grind arith

-- a move of this system
pub heard_own : (u : SystemSetup) (call : ModelCall) (stamp : ℕ) (v : View) (m : Move) (taken : ℕ → Option TakenLacpdu) → MoveAllowed u call v m
    → is_restart call ≡ false → AllHeard v.port taken → AllHeard ((view_after u m v).port) (taken_after stamp (act u m v) taken)
heard_own u call stamp v (Port p m) taken x r i = let s = value_of (v.port p) (PortAllowed u call v.port p m) x in
    subst (λ o. AllHeard (at_port v.port p (port_after m)) (taken_after stamp (act_of_port p m o) taken)) (sym s.1)
    (heard_port u call v.port p stamp taken m s.0 s.1 s.2 i)
heard_own u call stamp v (Flow m) taken x r i = heard_flow v.port u.system.mac stamp taken v.flows m i
heard_own u call stamp v Restart taken x r i = absurd (true≢false (sym x ∙ r))

pub heard_first : (u : SystemSetup) (taken : ℕ → Option TakenLacpdu) → AllHeard ((first_view u).port) taken
heard_first u taken p a h = grind arith

module _ {ends theirs : ℕ → Option ℕ} {party : ℕ → Option Party} {count : ℕ → ℕ} {out : ℕ → List Message} {taken : ℕ
    → Option TakenLacpdu} (i : Stamps ends theirs party count out taken) where
  -- a message goes out that names its sender
  stamps_put : (whole : ℕ → Bool) (kept : Bool) (q : ℕ) (m : Message) → Fresh (count q) (party q) m
      → Stamps ends theirs party count (put_on_cable ends whole kept q m out) taken
  stamps_put whole kept q m fresh = record {
    flight = put_each (λ c l. (p : ℕ) → ends c ≡ Some p → Every (Fresh (count p) (party p)) l) ends whole kept q m out
        (λ c w there p e. every_push (Fresh (count p) (party p)) (out c) m (i.flight c p e)
        (subst (λ p. Fresh (count p) (party p) m) (same_Some q p (sym there ∙ e)) fresh)) i.flight;
    last = i.last;
  }

  -- a port of the peer takes an LACPDU that stands first on its cable
  stamps_taken : (p : ℕ) (pdu : LacpMessage) (stamp : ℕ) → ((c : ℕ) → theirs c ≡ Some p → (ms : List Message) × (out c ≡ Control (Lacp pdu) stamp ∷ ms))
      → Stamps ends theirs party count out (taken_after stamp (Some (Took p pdu)) taken)
  stamps_taken p pdu stamp came = record {
    flight = i.flight;
    last = λ c r q m e f h. elim (cases_Bool (eqb q p)) [
      | inl a ↦ (let same : q ≡ p = eqb-true q p a in
          let this : record { pdu = pdu; stamp = stamp } ≡ m = same_Some (record { pdu = pdu; stamp = stamp }) m
          (sym (cond_true (eqb q p) _ (taken q) a) ∙ h) in
          let first = came c (f ∙ ap (λ (n : ℕ). Some n) same) in
          let fresh = subst (Every (Fresh (count r) (party r))) first.1 (i.flight c r e) in
          subst (λ (m : TakenLacpdu). FreshPdu (count r) (party r) m.pdu m.stamp) this fresh.0)
      | inr a ↦ i.last c r q m e f (sym (cond_false (eqb q p) (Some (record { pdu = pdu; stamp = stamp })) (taken q) a) ∙ h)
    ];
  }

  -- the first message that the system sent is taken away
  pub stamps_out_taken : (c : ℕ) (m : Message) (ms : List Message) → out c ≡ m ∷ ms → Stamps ends theirs party count (at_cable out c ms) taken
  stamps_out_taken c m ms e = record {
    flight = at_cable_each (λ d l. (p : ℕ) → ends d ≡ Some p → Every (Fresh (count p) (party p)) l) out c ms
        (λ p h. (subst (Every (Fresh (count p) (party p))) e (i.flight c p h)).1) (λ d n. i.flight d);
    last = i.last;
  }

  pub stamps_cut : (c : ℕ) → Stamps ends theirs party count (at_cable out c []) taken
  stamps_cut c = record {
    flight = at_cable_each (λ d l. (p : ℕ) → ends d ≡ Some p → Every (Fresh (count p) (party p)) l) out c [] (λ p h. tt)
        (λ d n. i.flight d);
    last = i.last;
  }

  pub stamps_emptied : Stamps ends theirs party count (λ c. []) taken
  stamps_emptied = record { flight = λ d p h. tt; last = i.last }

stamps_port : (s : Side) (ends theirs : ℕ → Option ℕ) (party : ℕ → Option Party) (count : ℕ → ℕ) (out : ℕ → List Message) (taken : ℕ
    → Option TakenLacpdu) (whole : ℕ → Bool) (sent : ℕ → ℕ → List ℕ) (kept : Bool)
    (u : SystemSetup) (call : ModelCall) (v : View) (p : ℕ) (m : PortMove) (o : Option PortFacts) → v.port p ≡ o
    → IsSomeAnd o (PortAllowed u call v.port p m)
    → (replies_frame call ≡ true → (q : ℕ) → party_at v q ≡ party q)
    → Stamps ends theirs party count out taken
    → Stamps ends theirs party count (on_cable_after s ends whole count sent kept (act_of_port p m o) out) taken
stamps_port s ends theirs party count out taken whole sent kept u call v p m None h x r i = i
stamps_port s ends theirs party count out taken whole sent kept u call v p (Announce synchronized) (Some a) h x r i =
    stamps_put i whole kept p (Control (Lacp (record { actor = a.party; partner = a.partner; synchronized = synchronized })) (count p))
    (omega arith, λ e. sym (r x.0 p) ∙ ap (option_map (λ (a : PortFacts). a.party)) h)
stamps_port s ends theirs party count out taken whole sent kept u call v p (Respond mac q n) (Some a) h x r i =
    stamps_put i whole kept p (Control (Response mac q n) 0) tt
stamps_port s ends theirs party count out taken whole sent kept u call v p m (Some a) h x r i = i

stamps_flow : (s : Side) (ends theirs : ℕ → Option ℕ) (party : ℕ → Option Party) (count : ℕ → ℕ) (out : ℕ → List Message) (taken : ℕ
    → Option TakenLacpdu) (whole : ℕ → Bool) (sent : ℕ → ℕ → List ℕ) (kept : Bool)
    (mac : List ℕ) (f : DistributorFacts) (m : DistributorMove)
    → Stamps ends theirs party count out taken
    → Stamps ends theirs party count (on_cable_after s ends whole count sent kept (distributor_act mac m f) out) taken
stamps_flow s ends theirs party count out taken whole sent kept mac f (Send g k p) i = stamps_put i whole kept p
    (Data s g k (length (sent g k))) tt
stamps_flow s ends theirs party count out taken whole sent kept mac f (Mark p) i = stamps_put i whole kept p
    (Control (Marker mac p f.next) 0) tt
stamps_flow s ends theirs party count out taken whole sent kept mac f (Become g k m) i = i

-- a move of this system, which has had these parties since the event began, unless its call sends nothing
pub stamps_own : (s : Side) (ends theirs : ℕ → Option ℕ) (party : ℕ → Option Party) (count : ℕ → ℕ) (out : ℕ → List Message) (taken : ℕ
    → Option TakenLacpdu) (whole : ℕ → Bool) (sent : ℕ → ℕ → List ℕ) (kept : Bool)
    (u : SystemSetup) (call : ModelCall) (v : View) (m : Move) → MoveAllowed u call v m
    → (replies_frame call ≡ true → (q : ℕ) → party_at v q ≡ party q)
    → Stamps ends theirs party count out taken
    → Stamps ends theirs party count (on_cable_after s ends whole count sent kept (act u m v) out) taken
stamps_own s ends theirs party count out taken whole sent kept u call v m x r i = grind (arith, stamps_port, stamps_flow)

-- a move of the peer
pub stamps_peer : (ends theirs : ℕ → Option ℕ) (party : ℕ → Option Party) (count : ℕ → ℕ) (out : ℕ → List Message) (taken : ℕ
    → Option TakenLacpdu) (whole : ℕ → Bool) (theirs_forced : ℕ → ℕ → Bool) (u : SystemSetup) (call : ModelCall)
    (stamp : ℕ) (v : View) (m : Move)
    → MoveAllowed u call v m → Within call stamp theirs out whole theirs_forced
    → Stamps ends theirs party count out taken → Stamps ends theirs party count out (taken_after stamp (act u m v) taken)
stamps_peer ends theirs party count out taken whole theirs_forced u call stamp v (Port p m) x w i = go m (v.port p) x
  where
    go : (m : PortMove) (o : Option PortFacts) → IsSomeAnd o (PortAllowed u call v.port p m)
        → Stamps ends theirs party count out (taken_after stamp (act_of_port p m o) taken)
    go m None x = i
    go (Take pdu synchronized) (Some a) x = stamps_taken i p pdu stamp (w.came p (Lacp pdu) x.0)
    go m (Some a) x = i
stamps_peer ends theirs party count out taken whole theirs_forced u call stamp v (Flow m) x w i = grind arith
stamps_peer ends theirs party count out taken whole theirs_forced u call stamp v Restart x w i = i

pub party_moved : (u : SystemSetup) (call : ModelCall) (v : View) (m : Move) → MoveAllowed u call v m → is_restart call ≡ false
    → (call ≡ ModelCall.Configure → ⊥) → (q : ℕ) → party_at (view_after u m v) q ≡ party_at v q
party_moved u call v m x r n q = grind arith

-- a call whose reply may hold a frame is no configure
pub parties_kept : (u : SystemSetup) (call : ModelCall) (v : View) (m : Move) → MoveAllowed u call v m → is_restart call ≡ false
    → replies_frame call ≡ true → (q : ℕ) → party_at (view_after u m v) q ≡ party_at v q
parties_kept u call v m x r f = party_moved u call v m x r (λ e. false≢true (ap replies_frame (sym e) ∙ f))

every_counted : (old new : ℕ) (was is : Option Party) → ((is ≡ was) × (new ≡ old)) ⊎ ((is ≢ was) × (new ≡ suc old)) → (m : Message)
    → Fresh old was m → Fresh new is m
every_counted old new was is h m f = grind arith

pub stamps_counted : (ends theirs : ℕ → Option ℕ) (was is : ℕ → Option Party) (old new : ℕ → ℕ) (out : ℕ → List Message) (taken : ℕ → Option TakenLacpdu)
    → ((p : ℕ) → ((is p ≡ was p) × (new p ≡ old p)) ⊎ ((is p ≢ was p) × (new p ≡ suc (old p)))) → Stamps ends theirs was old out taken
    → Stamps ends theirs is new out taken
stamps_counted ends theirs was is old new out taken h i = grind (arith, every_weaker, Fresh, every_counted)

pub stamps_first : (ends theirs : ℕ → Option ℕ) (party : ℕ → Option Party) → Stamps ends theirs party (λ p. 0) (λ c. []) (λ q. None)
stamps_first ends theirs party = record { flight = λ c p e. tt; last = λ c p q m e f t. absurd (none-some m t) }
