-- What every event of any number of systems preserves.
use Rattle.lagnetwork.proofs.Common.{Bool, IsSome, IsSomeAnd, List, None, Option, Some, [], ap, eq-eqb, eqb, eqb-true, false, inl, inr, option_map}
use Rattle.lagnetwork.proofs.Common.{refl, subst, suc, sym, true, ℕ, ◌∙◌, ◌∷◌, ◌≡◌, ◌≢◌, ◌⊎◌, cases_Bool, eqb-false, same_Some, Party, Members}
use Rattle.lagnetwork.proofs.Common.{DistributorMove, Flow, Move, MoveAllowed, Port, PortAllowed, PortMove, Restart, Send, Take, act, act_of_port}
use Rattle.lagnetwork.proofs.Common.{distributor_act, port_after, view_after, Lacp, ModelCall, PortFacts, SystemSetup, View, at_port, first_view}
use Rattle.lagnetwork.proofs.Common.{is_restart, replies_frame, Control, Message, One, TakenLacpdu, at_two, on_cable_after, party_at, sent_after}
use Rattle.lagnetwork.proofs.Common.{taken_after, cond_false, cond_true, value_of, Within, lanes_forced, lanes_own, lanes_peer, Lanes, Every}
use Rattle.lagnetwork.proofs.Common.{AllHeard, Fresh, FreshPdu, Stamps, heard_own, parties_kept, stamps_counted, stamps_own, AllNetworkMoves}
use Rattle.lagnetwork.proofs.Common.{IsNetworkSetup, Network, NetworkCall, NetworkSetup, Place, also_forced, at_system, freed_view, network_after}
use Rattle.lagnetwork.proofs.Common.{network_after_all, source_after}
use native.Mathlib.Omega.{arith}
use Rattle.lagnetwork.proofs.NetworkLines.{some-port_in, ends_of, theirs_of, out_of, SeenAlike, own_after, other_after, back_after, BeginsWith}
use Rattle.lagnetwork.proofs.NetworkLines.{begins_after, Amid, within_own, within_far, IsLess, lanes_less, lanes_freed, stamps_less, every_less}
use Rattle.lagnetwork.proofs.NetworkLines.{IsOwn, NamesSender, names_put}
use Rattle.lagmodel.proofs.Worlds.{members_own}

-- a port in an aggregator has a partner that is not its own system
abbrev pub Apart : (ℕ → Option PortFacts) → Type 0
Apart ports = (p : ℕ) (a : PortFacts) → ports p ≡ Some a → IsSome a.aggregator → a.partner.system ≢ a.party.system

apart_port : (u : SystemSetup) (call : ModelCall) (ports : ℕ → Option PortFacts) (p : ℕ) (m : PortMove) (a : PortFacts) → ports p ≡ Some a
    → PortAllowed u call ports p m a → Apart ports → Apart (at_port ports p (port_after m))
apart_port u call ports p m a h x i = grind arith

apart_own : (u : SystemSetup) (call : ModelCall) (v : View) (m : Move) → MoveAllowed u call v m → is_restart call ≡ false → Apart v.port
    → Apart ((view_after u m v).port)
apart_own u call v m x r i = grind (arith, value_of, apart_port)

pub apart_first : (u : SystemSetup) → Apart (first_view u).port
apart_first u p a h s = grind arith

-- what a system sends names it and the port
names_own : (x : NetworkSetup) (r : ℕ) (call : ModelCall) (v : View) (m : Move) (out : ℕ → List Message) (whole : ℕ → Bool) (count : ℕ → ℕ)
    (sent : ℕ → ℕ → List ℕ) (kept : Bool) → MoveAllowed (x.setup r) call v m → Members (x.setup r) v.port
    → ((c : ℕ) → Every (NamesSender (x.setup r).system c) (out c)) → (c : ℕ)
    → Every (NamesSender (x.setup r).system c) (on_cable_after One (ends_of x r) whole count sent kept (act (x.setup r) m v) out c)
names_own x r call v m out whole count sent kept a members i = grind (arith, on_cable_after, ends_of, act_of_port, names_put, distributor_act)

-- What ports of a system took last from port c of system r names that, and its Actor is as that is now, if it did not change since.
abbrev pub Last : NetworkSetup → ℕ → (ℕ → Option Party) → (ℕ → ℕ) → (ℕ → Option TakenLacpdu) → (ℕ → Option Place) → Type 0
Last x r party count taken source = (p c : ℕ) (l : TakenLacpdu) → source p ≡ Some (record { system = r; port = c }) → taken p ≡ Some l
    → FreshPdu (count c) (party c) l.pdu l.stamp × IsOwn (x.setup r).system c l.pdu

last_peer : (x : NetworkSetup) → IsNetworkSetup x → (r s : ℕ) (u : SystemSetup) (call : ModelCall) (stamp : ℕ) (v : View) (m : Move)
    (party : ℕ → Option Party) (count : ℕ → ℕ) (out : ℕ → List Message) (whole : ℕ → Bool) (forced : ℕ → ℕ → Bool)
    (taken : ℕ → Option TakenLacpdu) (source : ℕ → Option Place) → MoveAllowed u call v m
    → Within call stamp (theirs_of x r s) out whole forced → Stamps (ends_of x r) (λ c. None) party count out (λ p. None)
    → ((c : ℕ) → Every (NamesSender (x.setup r).system c) (out c)) → Last x r party count taken source
    → Last x r party count (taken_after stamp (act u m v) taken) (source_after (x.far s) (act u m v) source)
last_peer x f r s u call stamp v (Port p m) party count out whole forced taken source a w stamps names i = go m (v.port p) a
  where
    go : (m : PortMove) (o : Option PortFacts) → IsSomeAnd o (PortAllowed u call v.port p m)
        → Last x r party count (taken_after stamp (act_of_port p m o) taken) (source_after (x.far s) (act_of_port p m o) source)
    go m None a = i
    go (Take pdu synchronized) (Some b) a = λ q c l e h. elim (cases_Bool (eqb q p)) [
      | inl y ↦ (let there : x.far s p ≡ Some (record { system = r; port = c }) =
          sym (cond_true (eqb q p) (x.far s p) (source q) y) ∙ e in
          let this : record { pdu = pdu; stamp = stamp } ≡ l = same_Some (record { pdu = pdu; stamp = stamp }) l
          (sym (cond_true (eqb q p) _ (taken q) y) ∙ h) in
          let back = f.cables s p r c there in
          let first = w.came p (Lacp pdu) a.0 c (some-port_in s (x.far r c) p back) in
          let fresh = subst (Every (Fresh (count c) (party c))) first.1
          (stamps.flight c c (ap (option_map (λ (a : Place). c)) back)) in
          let own = subst (Every (NamesSender (x.setup r).system c)) first.1 (names c) in
          subst (λ (l : TakenLacpdu). FreshPdu (count c) (party c) l.pdu l.stamp × IsOwn (x.setup r).system c l.pdu) this (fresh.0, own.0))
      | inr y ↦ i q c l (sym (cond_false (eqb q p) (x.far s p) (source q) y) ∙ e)
          (sym (cond_false (eqb q p) (Some (record { pdu = pdu; stamp = stamp })) (taken q) y) ∙ h)
    ]
    go m (Some b) a = i
last_peer x f r s u call stamp v (Flow m) party count out whole forced taken source a w stamps names i = go m
  where
    go : (m : DistributorMove) → Last x r party count (taken_after stamp (distributor_act u.system.mac m v.flows) taken)
        (source_after (x.far s) (distributor_act u.system.mac m v.flows) source)
    go (Send g k p) = i
    go m = i
last_peer x f r s u call stamp v Restart party count out whole forced taken source a w stamps names i = i

-- the end of an event, at which the counts rise if the parties differ
last_counted : (x : NetworkSetup) (r : ℕ) (was is : ℕ → Option Party) (old new : ℕ → ℕ) (taken : ℕ → Option TakenLacpdu) (source : ℕ → Option Place)
    → ((p : ℕ) → ((is p ≡ was p) × (new p ≡ old p)) ⊎ ((is p ≢ was p) × (new p ≡ suc (old p)))) → Last x r was old taken source → Last x r is new taken source
last_counted x r was is old new taken source h i p c l e t = let f = i p c l e t in
    grind (arith, same_Some, stamps_counted)

-- what holds of system r: out is what is on the cable of each of its ports, away from it, back what is on it towards it
pub record Fine (x : NetworkSetup) (r : ℕ) (v : View) (party : ℕ → Option Party) (count : ℕ → ℕ) (out back : ℕ → List Message)
    (whole : ℕ → Bool) (sent collected : ℕ → ℕ → List ℕ) (forced : ℕ → ℕ → Bool) (mine : ℕ → Option TakenLacpdu)
    (taken : ℕ → ℕ → Option TakenLacpdu) (source : ℕ → ℕ → Option Place) : Type 0 where
  pub members : Members (x.setup r) v.port
  pub lanes : Lanes One (ends_of x r) v.flows out back whole sent collected forced
  pub heard : AllHeard v.port mine
  pub stamps : Stamps (ends_of x r) (λ c. None) party count out (λ p. None)
  pub apart : Apart v.port
  pub names : (c : ℕ) → Every (NamesSender (x.setup r).system c) (out c)
  pub last : (s : ℕ) → Last x r party count (taken s) (source s)

-- of system r in a network; party: the parties, as the event began
abbrev pub FineIn : NetworkSetup → (ℕ → ℕ → Option Party) → Network → ℕ → Type 0
FineIn x party w r = Fine x r (w.view r) (party r) (w.count r) (out_of x w.towards r) (w.towards r) (w.whole r) (w.sent r) (w.collected r)
    (w.forced r) (w.taken r) w.taken w.source

-- of all systems
pub record AllFine (x : NetworkSetup) (w : Network) : Type 0 where
  pub alike : SeenAlike x w.whole
  pub each : (r : ℕ) → FineIn x (λ s. party_at (w.view s)) w r

pub fine_along : (x : NetworkSetup) (r : ℕ) (party : ℕ → Option Party) (count : ℕ → ℕ) (whole : ℕ → Bool) (collected : ℕ → ℕ → List ℕ)
    (forced : ℕ → ℕ → Bool) (v v' : View) (out out' back back' : ℕ → List Message) (sent sent' : ℕ → ℕ → List ℕ)
    (mine mine' : ℕ → Option TakenLacpdu) (taken : ℕ → ℕ → Option TakenLacpdu) (source : ℕ → ℕ → Option Place)
    → v ≡ v' → out ≡ out' → back ≡ back' → sent ≡ sent' → mine ≡ mine'
    → Fine x r v party count out back whole sent collected forced mine taken source
    → Fine x r v' party count out' back' whole sent' collected forced mine' taken source
fine_along x r party count whole collected forced v v' out out' back back' sent sent' mine mine' taken source a b c d e f = grind arith

module _ {x : NetworkSetup} {r : ℕ} {v : View} {party : ℕ → Option Party} {count : ℕ → ℕ} {out back : ℕ → List Message} {whole : ℕ → Bool}
    {sent collected : ℕ → ℕ → List ℕ} {forced : ℕ → ℕ → Bool} {mine : ℕ → Option TakenLacpdu} {taken : ℕ → ℕ → Option TakenLacpdu}
    {source : ℕ → ℕ → Option Place} (i : Fine x r v party count out back whole sent collected forced mine taken source) where
  -- a move of this system: what it sends, and what it took
  own_part : (call : ModelCall) (stamp : ℕ) (kept : Bool) (m : Move) → MoveAllowed (x.setup r) call v m
      → Within call stamp (ends_of x r) back whole forced → (replies_frame call ≡ true → (p : ℕ) → party_at v p ≡ party p)
      → Fine x r (view_after (x.setup r) m v) party count
      (on_cable_after One (ends_of x r) whole count sent kept (act (x.setup r) m v) out) back whole
      (sent_after (act (x.setup r) m v) sent) collected forced (taken_after stamp (act (x.setup r) m v) mine) taken source
  own_part call stamp kept m a w h = record {
    members = members_own (x.setup r) call v m a w.running i.members;
    lanes = lanes_own One (ends_of x r) whole collected forced back (x.setup r) call stamp count kept v m out sent a w i.lanes;
    heard = heard_own (x.setup r) call stamp v m mine a w.running i.heard;
    stamps = stamps_own One (ends_of x r) (λ c. None) party count out (λ p. None) whole sent kept (x.setup r) call v m a h i.stamps;
    names = names_own x r call v m out whole count sent kept a i.members i.names;
    apart = apart_own (x.setup r) call v m a w.running i.apart;
    last = i.last;
  }

  -- a move of system s: what comes towards this system, and what the other took
  far_part : IsNetworkSetup x → (s : ℕ) (u : SystemSetup) (sv : View) (s_count : ℕ → ℕ) (s_sent : ℕ → ℕ → List ℕ) (s_forced : ℕ → ℕ → Bool)
      (call : ModelCall) (stamp : ℕ) (kept : Bool) (m : Move)
      → MoveAllowed u call sv m → Within call stamp (theirs_of x r s) out whole s_forced
      → Fine x r v party count out (on_cable_after One (theirs_of x r s) whole s_count s_sent kept (act u m sv) back) whole sent collected
      forced mine (at_system taken s (taken_after stamp (act u m sv) (taken s)))
      (at_system source s (source_after (x.far s) (act u m sv) (source s)))
  far_part f s u sv s_count s_sent s_forced call stamp kept m a w = record {
    members = i.members;
    heard = i.heard;
    lanes = lanes_peer One (ends_of x r) whole sent collected forced s_forced v.flows out back One (theirs_of x r s) u call stamp s_count
        s_sent kept sv m a w i.lanes;
    stamps = i.stamps;
    names = i.names;
    apart = i.apart;
    last = λ t. elim (cases_Bool (eqb t s)) [
      | inl e ↦ along (sym (cond_true (eqb t s) (taken_after stamp (act u m sv) (taken s)) (taken t) e))
          (sym (cond_true (eqb t s) (source_after (x.far s) (act u m sv) (source s)) (source t) e))
          (last_peer x f r s u call stamp sv m party count out whole s_forced (taken s) (source s) a w i.stamps i.names (i.last s))
      | inr e ↦ along (sym (cond_false (eqb t s) (taken_after stamp (act u m sv) (taken s)) (taken t) e))
          (sym (cond_false (eqb t s) (source_after (x.far s) (act u m sv) (source s)) (source t) e)) (i.last t)
    ];
  }
    where
      along : {taken taken' : ℕ → Option TakenLacpdu} {source source' : ℕ → Option Place} → taken ≡ taken' → source ≡ source'
          → Last x r party count taken source → Last x r party count taken' source'
      along {taken} {taken'} {source} {source'} b c h = subst (λ (k : ℕ → Option TakenLacpdu). Last x r party count k source') b
          (subst (λ (k : ℕ → Option Place). Last x r party count taken k) c h)

  -- less is on the cables
  pub less_part : (out' back' : ℕ → List Message) (whole' : ℕ → Bool) → ((c : ℕ) → IsLess (out' c) (out c)) → ((c : ℕ) → IsLess (back' c) (back c))
      → ((c : ℕ) → whole' c ≡ false → out' c ≡ []) → Fine x r v party count out' back' whole' sent collected forced mine taken source
  less_part out' back' whole' lo lb cut = record {
    members = i.members;
    heard = i.heard;
    lanes = lanes_less i.lanes out' back' whole' lo lb cut;
    stamps = stamps_less i.stamps out' lo;
    names = λ c. every_less (NamesSender (x.setup r).system c) (out' c) (out c) (lo c) (i.names c);
    last = i.last;
    apart = i.apart;
  }

  -- the change counts at the end of an event
  pub counted_part : (new : ℕ → ℕ) → ((p : ℕ) → ((party_at v p ≡ party p) × (new p ≡ count p)) ⊎ ((party_at v p ≢ party p) × (new p ≡ suc (count p))))
      → Fine x r v (party_at v) new out back whole sent collected forced mine taken source
  counted_part new h = record {
    members = i.members;
    heard = i.heard;
    lanes = i.lanes;
    stamps = stamps_counted (ends_of x r) (λ c. None) party (party_at v) count new out (λ p. None) h i.stamps;
    names = i.names;
    apart = i.apart;
    last = λ s. last_counted x r party (party_at v) count new (taken s) (source s) h (i.last s);
  }

  pub freed_part : (test : ℕ → ℕ → Bool) → Fine x r (freed_view test v) party count out back whole sent collected (also_forced test forced) mine taken source
  freed_part test = record {
    members = i.members;
    heard = i.heard;
    stamps = i.stamps;
    names = i.names;
    apart = i.apart;
    last = i.last;
    lanes = lanes_freed i.lanes test;
  }

  pub forced_part : (g k : ℕ) → Fine x r v party count out back whole sent collected (at_two forced g k true) mine taken source
  forced_part g k = record {
    members = i.members;
    heard = i.heard;
    stamps = i.stamps;
    names = i.names;
    apart = i.apart;
    last = i.last;
    lanes = lanes_forced i.lanes g k;
  }

-- while system s runs a call
pub record Calling (x : NetworkSetup) (s : ℕ) (call : ModelCall) (stamp : ℕ) (party : ℕ → ℕ → Option Party) (w : Network) : Type 0 where
  pub amid : Amid x call stamp s w.towards w.whole (w.forced s)
  pub parties : replies_frame call ≡ true → (p : ℕ) → party_at (w.view s) p ≡ party s p
  pub alike : SeenAlike x w.whole
  pub each : (r : ℕ) → FineIn x party w r

pub there : {X : Type 0} (f : ℕ → X) (s : ℕ) (y : X) → at_system f s y s ≡ y
there f s y = cond_true (eqb s s) y (f s) (eq-eqb s s refl)

pub elsewhere : {X : Type 0} (f : ℕ → X) (s : ℕ) (y : X) (t : ℕ) → (t ≡ s → ⊥) → at_system f s y t ≡ f t
elsewhere f s y t ne = elim (cases_Bool (eqb t s)) [ inl e ↦ absurd (ne (eqb-true t s e)) | inr e ↦ cond_false (eqb t s) y (f t) e ]

pub is_or_not : (P : Type 0) (r s : ℕ) → (r ≡ s → P) → ((r ≡ s → ⊥) → P) → P
is_or_not P r s a b = elim (cases_Bool (eqb r s)) [ inl e ↦ a (eqb-true r s e) | inr e ↦ b (eqb-false r s e) ]

-- what depends on whether it is of system s
pub by_system : (s : ℕ) (Q : ℕ → Bool → Type 0) → Q s true → ((t : ℕ) → (t ≡ s → ⊥) → Q t false) → (t : ℕ) → Q t (eqb t s)
by_system s Q here others t = elim (cases_Bool (eqb t s)) [
  | inl e ↦ subst (Q t) (sym e) (subst (λ t. Q t true) (sym (eqb-true t s e)) here)
  | inr e ↦ subst (Q t) (sym e) (others t (eqb-false t s e))
]

-- one move
module _ (x : NetworkSetup) (f : IsNetworkSetup x) (s : ℕ) (call : ModelCall) (stamp : ℕ) (party : ℕ → ℕ → Option Party) (m : Move × Bool)
    (w : Network) (a : MoveAllowed (x.setup s) call (w.view s) m.0) (i : Calling x s call stamp party w) where
  amid_after : Amid x call stamp s ((network_after x s stamp m w).towards) w.whole (w.forced s)
  amid_after = record {
    running = i.amid.running;
    downed = i.amid.downed;
    forcing = i.amid.forcing;
    came = λ p pdu b e h. begins_after x s w.whole (w.count s) (w.sent s) m.1 (act (x.setup s) m.0 (w.view s)) w.towards
        (Control pdu stamp) s p (i.amid.came p pdu b e h);
  }

  at_mover : FineIn x party (network_after x s stamp m w) s
  at_mover = let o = act (x.setup s) m.0 (w.view s) in
      let own = own_part (i.each s) call stamp m.1 m.0 a (within_own x call stamp s w.towards w.whole (w.forced s) i.amid) i.parties in
      let sent_out = fine_along x s (party s) (w.count s) (w.whole s) (w.collected s) (w.forced s)
      _ _ _ _ _ _ _ _ _ _ w.taken w.source refl (sym (own_after x f w.whole i.alike m.1 s (w.count s) (w.sent s) w.towards o)) refl refl refl own in
      fine_along x s (party s) (w.count s) (w.whole s) (w.collected s) (w.forced s)
      _ _ _ _ _ _ _ _ _ _ (at_system w.taken s (taken_after stamp o (w.taken s))) (at_system w.source s (source_after (x.far s) o (w.source s)))
      (sym (there w.view s (view_after (x.setup s) m.0 (w.view s)))) refl
      (sym (back_after x f w.whole i.alike m.1 s (w.count s) (w.sent s) w.towards o s))
      (sym (there w.sent s (sent_after o (w.sent s)))) (sym (there w.taken s (taken_after stamp o (w.taken s))))
      (far_part sent_out f s (x.setup s) (w.view s) (w.count s) (w.sent s) (w.forced s) call stamp m.1 m.0 a
      (within_far x f call stamp s ((network_after x s stamp m w).towards) w.whole (w.forced s) i.alike amid_after s))

  at_other : (r : ℕ) → (r ≡ s → ⊥) → FineIn x party (network_after x s stamp m w) r
  at_other r ne = let o = act (x.setup s) m.0 (w.view s) in
      fine_along x r (party r) (w.count r) (w.whole r) (w.collected r) (w.forced r)
      _ _ _ _ _ _ _ _ _ _ (at_system w.taken s (taken_after stamp o (w.taken s))) (at_system w.source s (source_after (x.far s) o (w.source s)))
      (sym (elsewhere w.view s (view_after (x.setup s) m.0 (w.view s)) r ne))
      (sym (other_after x f w.whole i.alike m.1 s (w.count s) (w.sent s) w.towards o r ne))
      (sym (back_after x f w.whole i.alike m.1 s (w.count s) (w.sent s) w.towards o r))
      (sym (elsewhere w.sent s (sent_after o (w.sent s)) r ne)) (sym (elsewhere w.taken s (taken_after stamp o (w.taken s)) r ne))
      (far_part (i.each r) f s (x.setup s) (w.view s) (w.count s) (w.sent s) (w.forced s) call stamp m.1 m.0 a
      (within_far x f call stamp s w.towards w.whole (w.forced s) i.alike i.amid r))

  calling_moved : Calling x s call stamp party (network_after x s stamp m w)
  calling_moved = record {
    amid = amid_after;
    alike = i.alike;
    parties = λ h p. ap (λ (v : View). party_at v p) (there w.view s (view_after (x.setup s) m.0 (w.view s)))
        ∙ parties_kept (x.setup s) call (w.view s) m.0 a i.amid.running h p ∙ i.parties h p;
    each = λ r. is_or_not (FineIn x party (network_after x s stamp m w) r) r s
        (λ e. subst (FineIn x party (network_after x s stamp m w)) (sym e) at_mover) (at_other r);
  }

calling_all : (x : NetworkSetup) → IsNetworkSetup x → (s : ℕ) (call : ModelCall) (stamp : ℕ) (party : ℕ → ℕ → Option Party)
    (ms : List (Move × Bool)) (w : Network) → AllNetworkMoves x s call stamp ms w → Calling x s call stamp party w
    → Calling x s call stamp party (network_after_all x s stamp ms w)
calling_all x f s call stamp party [] w a i = i
calling_all x f s call stamp party (m ∷ ms) w a i = calling_all x f s call stamp party ms (network_after x s stamp m w) a.1
    (calling_moved x f s call stamp party m w a.0 i)

-- a whole call, within an event that began in the network old; what began a list of messages still does
pub call_kept : (x : NetworkSetup) → IsNetworkSetup x → (s : ℕ) (call : ModelCall) (stamp : ℕ) (old mid new : Network) → mid.count ≡ old.count
    → Calling x s call stamp (λ t. party_at (old.view t)) mid → NetworkCall x s call stamp old mid new → AllFine x new
call_kept x f s call stamp old mid new same i z =
    let end = calling_all x f s call stamp (λ t. party_at (old.view t)) z.0 mid z.1 i in
    let after : Network = network_after_all x s stamp z.0 mid in
    let rises = subst (λ (n : ℕ → ℕ → ℕ). (r p : ℕ) → ((party_at (after.view r) p ≡ party_at (old.view r) p) × (z.2.0 r p ≡ n r p))
    ⊎ ((party_at (after.view r) p ≢ party_at (old.view r) p) × (z.2.0 r p ≡ suc (n r p)))) (sym (counts z.0 mid ∙ same)) z.2.1 in
    subst (AllFine x) (sym z.2.2) (record { alike = end.alike; each = λ r. counted_part (end.each r) (z.2.0 r) (rises r) })
  where
    counts : (ms : List (Move × Bool)) (w : Network) → (network_after_all x s stamp ms w).count ≡ w.count
    counts [] w = refl
    counts (m ∷ ms) w = counts ms (network_after x s stamp m w)

begins_all : (x : NetworkSetup) (s stamp : ℕ) (ms : List (Move × Bool)) (w : Network) (m : Message) (t q : ℕ) → BeginsWith m (w.towards t q)
    → BeginsWith m ((network_after_all x s stamp ms w).towards t q)
begins_all x s stamp [] w m t q h = h
begins_all x s stamp (n ∷ ms) w m t q h = begins_all x s stamp ms (network_after x s stamp n w) m t q
    (begins_after x s w.whole (w.count s) (w.sent s) n.1 (act (x.setup s) n.0 (w.view s)) w.towards m t q h)

pub begins_call : (x : NetworkSetup) (s : ℕ) (call : ModelCall) (stamp : ℕ) (old mid new : Network) (m : Message) (t q : ℕ)
    → NetworkCall x s call stamp old mid new → BeginsWith m (mid.towards t q) → BeginsWith m (new.towards t q)
begins_call x s call stamp old mid new m t q z h =
    subst (λ (w : Network). BeginsWith m (w.towards t q)) (sym z.2.2) (begins_all x s stamp z.0 mid m t q h)
