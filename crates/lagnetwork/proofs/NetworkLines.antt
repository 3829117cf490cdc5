-- What is on the cables of a network, as one system sees it: each of its ports is a cable with the number of the port.
use Rattle.lagnetwork.proofs.Common.{Bool, List, None, Option, Some, [], ap, append-nil, cond, eq-eqb, eqb, eqb-true, false, inl, inr, length}
use Rattle.lagnetwork.proofs.Common.{option_map, refl, subst, sym, true, ℕ, ◌&&◌, ◌++◌, ◌<◌, ◌∙◌, ◌∷◌, ◌≡◌, ◌≤◌, ◌⊎◌, and_from, true≢false, same_Some}
use Rattle.lagnetwork.proofs.Common.{SystemId, Party, IsSubsequence, Act, Sends, Sends_frame, Took, ControlMessage, Conversation, DistributorFacts}
use Rattle.lagnetwork.proofs.Common.{Flushing, Force, Free, Lacp, LacpMessage, Marker, ModelCall, On, Receive, Response, Set_link, conversation_port}
use Rattle.lagnetwork.proofs.Common.{is_restart, Control, Data, Message, One, Side, TakenLacpdu, is_port, on_cable_after, put_on_cable, stamp_of}
use Rattle.lagnetwork.proofs.Common.{cond_false, cond_true, mapped_some, Within, Lanes, Every, IsFrom, MarkerBelow, ResponseBelow, answers}
use Rattle.lagnetwork.proofs.Common.{every_push, every_weaker, marker_higher, put_each, response_higher, Orderly, answer_taken, handed_front}
use Rattle.lagnetwork.proofs.Common.{taken_away, Stamps, IsNetworkSetup, NetworkSetup, Place, also_forced, is_place, put_on_line, towards_after}
use native.Mathlib.Omega.{arith}
use Rattle.lagmodel.proofs.Overtaken.{every_overtaken, lanes_out_overtaken, lanes_back_overtaken}
use Rattle.lagmodel.specs.Overtaking.{Overtakes}

-- the port of system s among places
abbrev pub port_in : ℕ → Option Place → Option ℕ
port_in s None = None
port_in s (Some a) = cond (eqb a.system s) (Some a.port) None

-- the ports of system r that have a cable
abbrev pub ends_of : NetworkSetup → ℕ → ℕ → Option ℕ
ends_of x r c = option_map (λ (a : Place). c) (x.far r c)

-- the port of system s at the other end of the cable of a port of system r, if it is there
abbrev pub theirs_of : NetworkSetup → ℕ → ℕ → ℕ → Option ℕ
theirs_of x r s q = port_in s (x.far r q)

abbrev pub at_far : (ℕ → ℕ → List Message) → Option Place → List Message
at_far towards None = []
at_far towards (Some a) = towards a.system a.port

-- what is on the cable of a port of system r, away from it
abbrev pub out_of : NetworkSetup → (ℕ → ℕ → List Message) → ℕ → ℕ → List Message
out_of x towards r c = at_far towards (x.far r c)

pub same_and : (k w v a b : Bool) → (a ≡ true → w ≡ v) → a ≡ b → (k && (w && a)) ≡ (k && (v && b))
same_and k w v a b h e = grind arith

pub same_bool : (a b : Bool) → (a ≡ true → b ≡ true) → (b ≡ true → a ≡ true) → a ≡ b
same_bool a b f g = grind arith

not_true : (a : Bool) → (a ≡ true → ⊥) → a ≡ false
not_true a h = grind arith

never : (k w a : Bool) → a ≡ false → (k && (w && a)) ≡ false
never k w a e = grind arith

-- places
pub is_place-some : (o : Option Place) (t q : ℕ) → is_place o t q ≡ true → o ≡ Some (record { system = t; port = q })
is_place-some o t q h = grind arith

pub some-is_place : (o : Option Place) (t q : ℕ) → o ≡ Some (record { system = t; port = q }) → is_place o t q ≡ true
some-is_place o t q h = subst (λ o. is_place o t q ≡ true) (sym h) (and_from (eqb t t) (eqb q q) (eq-eqb t t refl) (eq-eqb q q refl))

pub port_in-some : (s : ℕ) (o : Option Place) (p : ℕ) → port_in s o ≡ Some p → o ≡ Some (record { system = s; port = p })
port_in-some s o p h = grind arith

pub some-port_in : (s : ℕ) (o : Option Place) (p : ℕ) → o ≡ Some (record { system = s; port = p }) → port_in s o ≡ Some p
some-port_in s o p h = subst (λ o. port_in s o ≡ Some p) (sym h) (cond_true (eqb s s) (Some p) None (eq-eqb s s refl))

is_port-some : (p : ℕ) (o : Option ℕ) → is_port p o ≡ true → o ≡ Some p
is_port-some p o h = grind arith

some-is_port : (p : ℕ) (o : Option ℕ) → o ≡ Some p → is_port p o ≡ true
some-is_port p o h = subst (λ o. is_port p o ≡ true) (sym h) (eq-eqb p p refl)

pub ends-some : (x : NetworkSetup) (r c p : ℕ) → ends_of x r c ≡ Some p → c ≡ p
ends-some x r c p h = grind arith

pub ends_once : (x : NetworkSetup) (r c d p : ℕ) → ends_of x r c ≡ Some p → ends_of x r d ≡ Some p → c ≡ d
ends_once x r c d p h k = ends-some x r c p h ∙ sym (ends-some x r d p k)

pub place_parts : (a b : Place) → Some a ≡ Some b → (a.system ≡ b.system) × (a.port ≡ b.port)
place_parts a b h = let e : a ≡ b = same_Some a b h in (ap (λ (a : Place). a.system) e, ap (λ (a : Place). a.port) e)

-- two ports whose cables end at one port are one
pub same_near : (x : NetworkSetup) → IsNetworkSetup x → (s p t q : ℕ) (a : Place) → x.far s p ≡ Some a → x.far t q ≡ Some a → (s ≡ t) × (p ≡ q)
same_near x f s p t q a h k = place_parts (record { system = s; port = p }) (record { system = t; port = q }) (sym (f.cables s p a.system a.port h) ∙ f.cables t q a.system a.port k)

-- the cable of a port is whole as seen from either end
abbrev pub SeenAlike : NetworkSetup → (ℕ → ℕ → Bool) → Type 0
SeenAlike x whole = (s p t q : ℕ) → x.far s p ≡ Some (record { system = t; port = q }) → whole s p ≡ whole t q

-- what system s sends is on its own cable
module _ (x : NetworkSetup) (f : IsNetworkSetup x) (whole : ℕ → ℕ → Bool) (alike : SeenAlike x whole) (kept : Bool) (s p : ℕ) (m : Message)
    (towards : ℕ → ℕ → List Message) where
  own_put : (c : ℕ) → out_of x (put_on_line x whole kept s p m towards) s c ≡ put_on_cable (ends_of x s) (whole s) kept p m (out_of x towards s) c
  own_put c = go (x.far s c) refl
    where
      go : (o : Option Place) → x.far s c ≡ o → at_far (put_on_line x whole kept s p m towards) o
          ≡ cond (kept && (whole s c && is_port p (option_map (λ (a : Place). c) o))) (at_far towards o ++ m ∷ []) (at_far towards o)
      go None e = sym (cond_false (kept && (whole s c && false)) (m ∷ []) [] (never kept (whole s c) false refl))
      go (Some a) e = ap (λ (b : Bool). cond b (towards a.system a.port ++ m ∷ []) (towards a.system a.port))
          (same_and kept (whole s p) (whole s c) (is_place (x.far s p) a.system a.port) (eqb c p)
          (λ h. ap (whole s) (here h))
          (same_bool (is_place (x.far s p) a.system a.port) (eqb c p) (λ h. eq-eqb c p (sym (here h)))
          (λ h. some-is_place (x.far s p) a.system a.port (ap (x.far s) (sym (eqb-true c p h)) ∙ e))))
        where
          here : is_place (x.far s p) a.system a.port ≡ true → p ≡ c
          here h = (same_near x f s p s c a (is_place-some (x.far s p) a.system a.port h) e).1

  -- and not on that of another system
  other_put : (r : ℕ) → (r ≡ s → ⊥) → (c : ℕ) → out_of x (put_on_line x whole kept s p m towards) r c ≡ out_of x towards r c
  other_put r ne c = go (x.far r c) refl
    where
      go : (o : Option Place) → x.far r c ≡ o → at_far (put_on_line x whole kept s p m towards) o ≡ at_far towards o
      go None e = refl
      go (Some a) e = cond_false (kept && (whole s p && is_place (x.far s p) a.system a.port)) _ _
          (never kept (whole s p) (is_place (x.far s p) a.system a.port)
          (not_true _ (λ h. ne (sym (same_near x f s p r c a (is_place-some (x.far s p) a.system a.port h) e).0))))

  -- it comes towards the system at the other end
  back_put : (r q : ℕ) → put_on_line x whole kept s p m towards r q ≡ put_on_cable (theirs_of x r s) (whole r) kept p m (towards r) q
  back_put r q = ap (λ (b : Bool). cond b (towards r q ++ m ∷ []) (towards r q))
      (same_and kept (whole s p) (whole r q) (is_place (x.far s p) r q) (is_port p (theirs_of x r s q))
      (λ h. alike s p r q (is_place-some (x.far s p) r q h))
      (same_bool (is_place (x.far s p) r q) (is_port p (theirs_of x r s q))
      (λ h. some-is_port p (theirs_of x r s q) (some-port_in s (x.far r q) p (f.cables s p r q (is_place-some (x.far s p) r q h))))
      (λ h. some-is_place (x.far s p) r q (f.cables r q s p (port_in-some s (x.far r q) p (is_port-some p (theirs_of x r s q) h))))))

-- the same of an act
module _ (x : NetworkSetup) (f : IsNetworkSetup x) (whole : ℕ → ℕ → Bool) (alike : SeenAlike x whole) (kept : Bool) (s : ℕ) (count : ℕ → ℕ)
    (sent : ℕ → ℕ → List ℕ) (towards : ℕ → ℕ → List Message) where
  pub own_after : (o : Option Act) → out_of x (towards_after x s whole count sent kept o towards) s
      ≡ on_cable_after One (ends_of x s) (whole s) count sent kept o (out_of x towards s)
  own_after None = refl
  own_after (Some (Sends p pdu)) = λ i c. own_put x f whole alike kept s p (Control pdu (stamp_of pdu (count p))) towards c i
  own_after (Some (Sends_frame p g k)) = λ i c. own_put x f whole alike kept s p (Data One g k (length (sent g k))) towards c i
  own_after (Some (Took p pdu)) = refl

  pub other_after : (o : Option Act) (r : ℕ) → (r ≡ s → ⊥) → out_of x (towards_after x s whole count sent kept o towards) r ≡ out_of x towards r
  other_after None r ne = refl
  other_after (Some (Sends p pdu)) r ne = λ i c.
      other_put x f whole alike kept s p (Control pdu (stamp_of pdu (count p))) towards r ne c i
  other_after (Some (Sends_frame p g k)) r ne = λ i c. other_put x f whole alike kept s p (Data One g k (length (sent g k))) towards r ne c i
  other_after (Some (Took p pdu)) r ne = refl

  pub back_after : (o : Option Act) (r : ℕ) → towards_after x s whole count sent kept o towards r
      ≡ on_cable_after One (theirs_of x r s) (whole r) count sent kept o (towards r)
  back_after None r = refl
  back_after (Some (Sends p pdu)) r = λ i q. back_put x f whole alike kept s p (Control pdu (stamp_of pdu (count p))) towards r q i
  back_after (Some (Sends_frame p g k)) r = λ i q. back_put x f whole alike kept s p (Data One g k (length (sent g k))) towards r q i
  back_after (Some (Took p pdu)) r = refl

-- a list that begins with a message still does when others join it
abbrev pub BeginsWith : Message → List Message → Type 0
BeginsWith m l = (ms : List Message) × (l ≡ m ∷ ms)

begins_put : (b : Bool) (m n : Message) (l : List Message) → BeginsWith m l → BeginsWith m (cond b (l ++ n ∷ []) l)
begins_put true m n l h = (h.0 ++ n ∷ [], ap (λ (l : List Message). l ++ n ∷ []) h.1)
begins_put false m n l h = h

pub begins_after : (x : NetworkSetup) (s : ℕ) (whole : ℕ → ℕ → Bool) (count : ℕ → ℕ) (sent : ℕ → ℕ → List ℕ) (kept : Bool) (o : Option Act)
    (towards : ℕ → ℕ → List Message) (m : Message) (t q : ℕ) → BeginsWith m (towards t q)
    → BeginsWith m (towards_after x s whole count sent kept o towards t q)
begins_after x s whole count sent kept None towards m t q h = h
begins_after x s whole count sent kept (Some (Sends p pdu)) towards m t q h = grind (arith, begins_put, is_place, stamp_of)
begins_after x s whole count sent kept (Some (Sends_frame p g k)) towards m t q h = grind (arith, begins_put, is_place)
begins_after x s whole count sent kept (Some (Took p pdu)) towards m t q h = h

-- What is known of a call of system s of a network while it runs, as Within says it of two systems.
pub record Amid (x : NetworkSetup) (call : ModelCall) (stamp : ℕ) (s : ℕ) (towards : ℕ → ℕ → List Message) (whole : ℕ → ℕ → Bool)
    (forced : ℕ → ℕ → Bool) : Type 0 where
  pub running : is_restart call ≡ false
  pub came : (p : ℕ) (pdu : ControlMessage) (a : Place) → call ≡ Receive p (Some pdu) → x.far s p ≡ Some a → BeginsWith (Control pdu stamp) (towards s p)
  pub downed : (p : ℕ) → call ≡ Set_link p false → whole s p ≡ false
  pub forcing : (g k : ℕ) → call ≡ Force g k → forced g k ≡ true

-- for the system itself
pub within_own : (x : NetworkSetup) (call : ModelCall) (stamp s : ℕ) (towards : ℕ → ℕ → List Message) (whole : ℕ → ℕ → Bool)
    (forced : ℕ → ℕ → Bool) → Amid x call stamp s towards whole forced → Within call stamp (ends_of x s) (towards s) (whole s) forced
within_own x call stamp s towards whole forced a = record {
  running = a.running;
  came = λ p pdu e c h. let m = mapped_some (λ (a : Place). c) (x.far s c) p h in
      subst (λ c. BeginsWith (Control pdu stamp) (towards s c)) (sym m.2) (a.came p pdu m.0 e (ap (x.far s) (sym m.2) ∙ m.1));
  downed = λ p e c h. subst (λ c. whole s c ≡ false) (sym (ends-some x s c p h)) (a.downed p e);
  forcing = a.forcing;
}

-- for a system at the other end of its cables
pub within_far : (x : NetworkSetup) → IsNetworkSetup x → (call : ModelCall) (stamp s : ℕ) (towards : ℕ → ℕ → List Message)
    (whole : ℕ → ℕ → Bool) (forced : ℕ → ℕ → Bool) → SeenAlike x whole → Amid x call stamp s towards whole forced
    → (r : ℕ) → Within call stamp (theirs_of x r s) (out_of x towards r) (whole r) forced
within_far x f call stamp s towards whole forced alike a r = record {
  running = a.running;
  came = λ p pdu e c h. subst (λ o. BeginsWith (Control pdu stamp) (at_far towards o)) (sym (port_in-some s (x.far r c) p h))
      (a.came p pdu (record { system = r; port = c }) e (f.cables r c s p (port_in-some s (x.far r c) p h)));
  downed = λ p e c h. alike r c s p (port_in-some s (x.far r c) p h) ∙ a.downed p e;
  forcing = a.forcing;
}

-- An LACPDU names this system and port as its Actor; nothing is asked of another message.
abbrev pub IsOwn : SystemId → ℕ → LacpMessage → Type 0
IsOwn system p pdu = (pdu.actor.system ≡ system) × (pdu.actor.port.number ≡ p)

abbrev pub NamesSender : SystemId → ℕ → Message → Type 0
NamesSender system p (Control (Lacp pdu) stamp) = IsOwn system p pdu
NamesSender system p (Control (Marker mac q n) stamp) = Unit {0}
NamesSender system p (Control (Response mac q n) stamp) = Unit {0}
NamesSender system p (Data origin g k serial) = Unit {0}

pub names_put : (x : NetworkSetup) (r : ℕ) (system : SystemId) (whole : ℕ → Bool) (kept : Bool) (p : ℕ) (m : Message) (out : ℕ → List Message)
    → NamesSender system p m → ((c : ℕ) → Every (NamesSender system c) (out c))
    → (c : ℕ) → Every (NamesSender system c) (put_on_cable (ends_of x r) whole kept p m out c)
names_put x r system whole kept p m out h i = grind (arith, put_each, NamesSender, ends_of, every_push, ends-some)

-- a list to which nothing came: it is the same, empty, without its first message, or an LACPDU went by what was before it
abbrev pub IsLess : List Message → List Message → Type 0
IsLess new old = (new ≡ old) ⊎ ((new ≡ []) ⊎ (((m : Message) × (old ≡ m ∷ new)) ⊎ Overtakes old new))

-- what holds of the list, of none, of the list without its first, and where an LACPDU went by, holds then
pub by_less : (Q : List Message → Type 0) (new old : List Message) → IsLess new old → Q old → Q [] → ((m : Message) → Q (m ∷ new) → Q new)
    → (Overtakes old new → Q new) → Q new
by_less Q new old h same none without over = elim h [
  | inl x ↦ subst Q (sym x) same
  | inr y ↦ elim y [ inl x ↦ subst Q (sym x) none | inr z ↦ elim z [ inl x ↦ without x.0 (subst Q x.1 same) | inr o ↦ over o ] ]
]

pub every_less : (P : Message → Type 0) (new old : List Message) → IsLess new old → Every P old → Every P new
every_less P new old h e = by_less (Every P) new old h e tt (λ m x. x.1) (λ o. every_overtaken o P e)

out_blank : {me : Side} {g k : ℕ} {e : Option ℕ} {c : Conversation} {out back : List Message} {sent collected : List ℕ}
    → Orderly me g k e c out back sent collected → Orderly me g k e c [] back sent collected
out_blank {back = back} {sent} {collected} i = record {
  place = inl refl;
  behind = λ p n f x. tt;
  answered = λ p n f x. every_weaker _ (λ m. answers n m ≡ true → [] ≡ []) (λ m h y. refl) back (i.answered p n f x);
  in_order = subst (λ l. IsSubsequence l sent) (sym (append-nil collected)) (handed_front i);
}

back_blank : {me : Side} {g k : ℕ} {e : Option ℕ} {c : Conversation} {out back : List Message} {sent collected : List ℕ}
    → Orderly me g k e c out back sent collected → Orderly me g k e c out [] sent collected
back_blank i = record { place = i.place; behind = i.behind; answered = λ p n f x. tt; in_order = i.in_order }

module _ {me : Side} {ends : ℕ → Option ℕ} {f : DistributorFacts} {out back : ℕ → List Message} {whole : ℕ → Bool}
    {sent collected : ℕ → ℕ → List ℕ} {forced : ℕ → ℕ → Bool} (i : Lanes me ends f out back whole sent collected forced) where
  -- less is on the cables
  pub lanes_less : (out' back' : ℕ → List Message) (whole' : ℕ → Bool) → ((c : ℕ) → IsLess (out' c) (out c)) → ((c : ℕ) → IsLess (back' c) (back c))
      → ((c : ℕ) → whole' c ≡ false → out' c ≡ []) → Lanes me ends f out' back' whole' sent collected forced
  lanes_less out' back' whole' lo lb cut = let first : Lanes me ends f out' back whole' sent collected forced = record {
    waits = i.waits;
    markers = λ c. every_less (MarkerBelow f.next) (out' c) (out c) (lo c) (i.markers c);
    responses = i.responses;
    origin = λ c. every_less (IsFrom me) (out' c) (out c) (lo c) (i.origin c);
    cut = cut;
    orderly = λ g k c u. let o = i.orderly g k c u in
        by_less (λ l. Orderly me g k (ends c) (f.state g k) l (back c) (sent g k) (collected g k)) (out' c) (out c) (lo c) o (out_blank o)
        (λ m x. taken_away x) (λ y. subst (λ l. Orderly me g k (ends c) (f.state g k) l (back c) (sent g k) (collected g k))
        (cond_true (eqb c c) (out' c) (out c) (eq-eqb c c refl))
        ((lanes_out_overtaken me ends f whole sent collected forced out back c (out' c) y i).orderly g k c u));
  } in record {
    waits = i.waits;
    markers = first.markers;
    responses = λ c. every_less (ResponseBelow f.next) (back' c) (back c) (lb c) (i.responses c);
    origin = first.origin;
    cut = cut;
    orderly = λ g k c u. let o = first.orderly g k c u in
        by_less (λ l. Orderly me g k (ends c) (f.state g k) (out' c) l (sent g k) (collected g k)) (back' c) (back c) (lb c) o (back_blank o)
        (λ m x. answer_taken x) (λ y. subst (λ l. Orderly me g k (ends c) (f.state g k) (out' c) l (sent g k) (collected g k))
        (cond_true (eqb c c) (back' c) (back c) (eq-eqb c c refl))
        ((lanes_back_overtaken me ends f whole' sent collected forced out' back c (back' c) y first).orderly g k c u));
  }

  -- the conversations that pass a test are free, and count as forced
  pub lanes_freed : (test : ℕ → ℕ → Bool) → Lanes me ends (record f { state = λ g k. cond (test g k) Free (f.state g k) }) out back whole sent
      collected (also_forced test forced)
  lanes_freed test = record {
    waits = λ g k p n. waits (test g k) (f.state g k) p n (i.waits g k p n);
    markers = i.markers;
    responses = i.responses;
    origin = i.origin;
    cut = i.cut;
    orderly = λ g k c. still (test g k) (forced g k) (f.state g k) (λ d. Orderly me g k (ends c) d (out c) (back c) (sent g k) (collected g k))
        (i.orderly g k c);
  }
    where
      waits : (b : Bool) (d : Conversation) (p n : ℕ) → (d ≡ Flushing p n → n < f.next) → cond b Free d ≡ Flushing p n → n < f.next
      waits true d p n h e = absurd (let none : Free ≡ Flushing p n = e in cc)
      waits false d p n h e = h e

      still : (b forced : Bool) (d : Conversation) (P : Conversation → Type 0) → (forced ≡ false → P d) → cond b true forced ≡ false → P (cond b Free d)
      still true forced d P h u = absurd (true≢false u)
      still false forced d P h u = h u

  -- another system goes on where this one was
  pub lanes_succeeded : (g : DistributorFacts) → ((h k p : ℕ) → conversation_port (f.state h k) ≡ Some p → g.state h k ≡ On p)
      → ((h k p n : ℕ) → g.state h k ≡ Flushing p n → ⊥) → f.next ≤ g.next → Lanes me ends g out back whole sent collected forced
  lanes_succeeded g on waits next = record {
    waits = λ h k p n e. absurd (waits h k p n e);
    markers = λ c. every_weaker (MarkerBelow f.next) (MarkerBelow g.next) (marker_higher f.next g.next next) (out c) (i.markers c);
    responses = λ c. every_weaker (ResponseBelow f.next) (ResponseBelow g.next) (response_higher f.next g.next next) (back c) (i.responses c);
    origin = i.origin;
    cut = i.cut;
    orderly = λ h k c u. let o = i.orderly h k c u in record {
      place = elim o.place [ inl e ↦ inl e | inr y ↦ inr (y.0, y.1, subst (λ d. conversation_port d ≡ Some y.0) (sym (on h k y.0 y.2)) refl) ];
      behind = λ p n e. absurd (waits h k p n e);
      answered = λ p n e. absurd (waits h k p n e);
      in_order = o.in_order;
    };
  }

pub stamps_less : {ends theirs : ℕ → Option ℕ} {party : ℕ → Option Party} {count : ℕ → ℕ} {out : ℕ → List Message} {taken : ℕ → Option TakenLacpdu}
    → Stamps ends theirs party count out taken → (out' : ℕ → List Message) → ((c : ℕ) → IsLess (out' c) (out c)) → Stamps ends theirs party count out' taken
stamps_less {party = party} {count = count} {out = out} i out' less = grind (arith, every_less)
