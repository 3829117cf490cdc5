-- Every event of a network preserves the facts, and so does every run.
use Rattle.lagnetwork.proofs.Common.{Bool, List, None, Option, Some, [], ap, cond, eq-eqb, eqb, eqb-true, false, inl, inr, refl, subst, sym, true, ℕ}
use Rattle.lagnetwork.proofs.Common.{◌&&◌, ◌++◌, ◌∙◌, ◌∷◌, ◌≡◌, and_from, and_parts, cases_Bool, true≢false, drop, Party, Members, Configure}
use Rattle.lagnetwork.proofs.Common.{ControlMessage, Force, ModelCall, Move_conversation, Offer, PortFacts, Receive, Set_link, SystemSetup, Tick}
use Rattle.lagnetwork.proofs.Common.{Transmit, View, first_view, Control, Data, Message, One, Side, at_cable, at_two, party_at, cond_false, cond_true}
use Rattle.lagnetwork.proofs.Common.{cable_cases, lanes_handed, lanes_restarted, Every, IsFrom, members_first, Stamps, heard_first, stamps_emptied}
use Rattle.lagnetwork.proofs.Common.{CountsNetworkChanges, DeliversFirstAt, IsNetworkSetup, IsNetworkSuccessor, Network, NetworkCall, NetworkEvent}
use Rattle.lagnetwork.proofs.Common.{NetworkHappens, NetworkRun, NetworkSetup, Place, RepeatsFirstAt, also_forced, at_place, at_system, ends_at}
use Rattle.lagnetwork.proofs.Common.{first_network, freed_view, handed_up_from, is_at, is_end, moved_again, recabled, recabled_all, without_first}
use native.Mathlib.Omega.{arith}
use Rattle.lagmodel.specs.Succession.{IsAlikeSetup}
use Rattle.lagnetwork.proofs.NetworkLines.{IsOwn, NamesSender, lanes_succeeded, ends_of, at_far, out_of, SeenAlike, BeginsWith, Amid, IsLess, by_less}
use Rattle.lagnetwork.proofs.NetworkLines.{lanes_less, ends_once, same_near}
use Rattle.lagnetwork.proofs.NetworkMoves.{end_alike, plug_setup, plugged_kept, pull_setup, pulled_kept}
use Rattle.lagnetwork.proofs.Networks.{Last, freed_part, apart_first, Fine, AllFine, Calling, call_kept, begins_call, fine_along, less_part}
use Rattle.lagnetwork.proofs.Networks.{by_system, counted_part, forced_part, there, elsewhere, is_or_not}
use Rattle.lagmodel.proofs.Events.{quiet}

amid_quiet : (x : NetworkSetup) (call : ModelCall) (stamp s : ℕ) (towards : ℕ → ℕ → List Message) (whole : ℕ → ℕ → Bool) (forced : ℕ → ℕ → Bool)
    → quiet call ≡ true → Amid x call stamp s towards whole forced
amid_quiet x call stamp s towards whole forced h = grind arith

-- of a link's state, or of what a port without a cable hears
amid_link : (x : NetworkSetup) (s p : ℕ) (towards : ℕ → ℕ → List Message) (whole : ℕ → ℕ → Bool) (forced : ℕ → ℕ → Bool)
    → Amid x (Set_link p (whole s p)) 0 s towards whole forced
amid_link x s p towards whole forced =
    record { running = refl; came = λ q pdu a y n. absurd cc; downed = λ q y. cc; forcing = λ g k y. absurd cc }

amid_hear : (x : NetworkSetup) (s p : ℕ) (pdu : ControlMessage) (stamp : ℕ) (towards : ℕ → ℕ → List Message) (whole : ℕ → ℕ → Bool)
    (forced : ℕ → ℕ → Bool) → x.far s p ≡ None → Amid x (Receive p (Some pdu)) stamp s towards whole forced
amid_hear x s p pdu stamp towards whole forced none = record {
  running = refl;
  came = λ q other a e h. absurd cc;
  downed = λ q e. absurd cc;
  forcing = λ g k e. absurd cc;
}

amid_receive : (x : NetworkSetup) (s p : ℕ) (pdu : ControlMessage) (stamp : ℕ) (towards : ℕ → ℕ → List Message) (whole : ℕ → ℕ → Bool) (forced : ℕ → ℕ → Bool)
    → BeginsWith (Control pdu stamp) (towards s p) → Amid x (Receive p (Some pdu)) stamp s towards whole forced
amid_receive x s p pdu stamp towards whole forced h = grind arith

started : (x : NetworkSetup) (s : ℕ) (call : ModelCall) (stamp : ℕ) (w : Network) → AllFine x w
    → Amid x call stamp s w.towards w.whole (w.forced s) → Calling x s call stamp (λ t. party_at (w.view t)) w
started x s call stamp w i a = record { amid = a; alike = i.alike; parties = λ h p. refl; each = i.each }

quiet_kept : (x : NetworkSetup) → IsNetworkSetup x → (s : ℕ) (call : ModelCall) (old new : Network) → quiet call ≡ true → AllFine x old
    → NetworkCall x s call 0 old old new → AllFine x new
quiet_kept x f s call old new q i z =
    call_kept x f s call 0 old old new refl (started x s call 0 old i (amid_quiet x call 0 s old.towards old.whole (old.forced s) q)) z

less_nothing : (new : List Message) → IsLess new [] → new ≡ []
less_nothing new h = by_less (λ l. l ≡ []) new [] h refl refl (λ m e. absurd cc)
    (λ o. absurd (longer o.front o.other o.lacpdu o.back o.before))
  where
    longer : (front : List Message) (m n : Message) (back : List Message) → [] ≡ front ++ m ∷ n ∷ back → ⊥
    longer [] m n back e = cc
    longer (l ∷ front) m n back e = cc

out_less : (x : NetworkSetup) (towards towards' : ℕ → ℕ → List Message) → ((t q : ℕ) → IsLess (towards' t q) (towards t q))
    → (r c : ℕ) → IsLess (out_of x towards' r c) (out_of x towards r c)
out_less x towards towards' h r c = grind arith

-- a cut cable holds nothing, nor does it when less is on it
still_nothing : (x : NetworkSetup) (w : Network) → AllFine x w → (towards' : ℕ → ℕ → List Message) → ((t q : ℕ) → IsLess (towards' t q) (w.towards t q))
    → (r c : ℕ) → w.whole r c ≡ false → out_of x towards' r c ≡ []
still_nothing x w i towards' h r c e = grind (arith, less_nothing, out_of, out_less)

-- less is on the cables
less_kept : (x : NetworkSetup) (w : Network) → AllFine x w → (towards' : ℕ → ℕ → List Message) (whole' : ℕ → ℕ → Bool)
    → SeenAlike x whole' → ((t q : ℕ) → IsLess (towards' t q) (w.towards t q))
    → ((r c : ℕ) → whole' r c ≡ false → out_of x towards' r c ≡ []) → AllFine x (record w { towards = towards'; whole = whole' })
less_kept x w i towards' whole' alike h cut = record {
  alike = alike;
  each = λ r. less_part (i.each r) (out_of x towards' r) (towards' r) (whole' r) (out_less x w.towards towards' h r) (h r) (cut r);
}

first_less : (l : List Message) → IsLess (drop 1 l) l
first_less l = grind arith

place_less : (towards : ℕ → ℕ → List Message) (s p : ℕ) (line : List Message) → IsLess line (towards s p) → (t q : ℕ)
    → IsLess (at_place towards s p line t q) (towards t q)
place_less towards s p line h t q = grind arith

-- one line has less on it
line_kept : (x : NetworkSetup) (w : Network) (s p : ℕ) (line : List Message) → IsLess line (w.towards s p) → AllFine x w
    → AllFine x (record w { towards = at_place w.towards s p line })
line_kept x w s p line h i = let less = place_less w.towards s p line h in
    less_kept x w i (at_place w.towards s p line) w.whole i.alike less (still_nothing x w i (at_place w.towards s p line) less)

popped_kept : (x : NetworkSetup) (w : Network) (s p : ℕ) → AllFine x w → AllFine x (without_first s p w)
popped_kept x w s p i = line_kept x w s p (drop 1 (w.towards s p)) (first_less (w.towards s p)) i

blank_less : (b : Bool) (l : List Message) → IsLess (cond b [] l) l
blank_less b l = grind arith

cut_kept : (x : NetworkSetup) → IsNetworkSetup x → (w : Network) (s p : ℕ) → AllFine x w
    → AllFine x (record w {
      whole = λ t q. cond (is_end x s p t q) false (w.whole t q);
      towards = λ t q. cond (is_end x s p t q) [] (w.towards t q);
    })
cut_kept x f w s p i =
    less_kept x w i (λ t q. cond (is_end x s p t q) [] (w.towards t q)) (λ t q. cond (is_end x s p t q) false (w.whole t q)) alike
    (λ t q. blank_less (is_end x s p t q) (w.towards t q)) cut
  where
    alike : SeenAlike x (λ t q. cond (is_end x s p t q) false (w.whole t q))
    alike t q r c h = ap (λ (b : Bool). cond b false (w.whole t q)) (end_alike x f s p t q r c h)
        ∙ ap (λ (v : Bool). cond (is_end x s p r c) false v) (i.alike t q r c h)

    cut : (r c : ℕ) → cond (is_end x s p r c) false (w.whole r c) ≡ false → out_of x (λ t q. cond (is_end x s p t q) [] (w.towards t q)) r c ≡ []
    cut r c e = go (x.far r c) refl
      where
        go : (o : Option Place) → x.far r c ≡ o → at_far (λ t q. cond (is_end x s p t q) [] (w.towards t q)) o ≡ []
        go None h = refl
        go (Some a) h = elim (cases_Bool (is_end x s p r c)) [
          | inl y ↦ cond_true (is_end x s p a.system a.port) [] (w.towards a.system a.port)
              (sym (end_alike x f s p r c a.system a.port h) ∙ y)
          | inr y ↦ (let none : w.towards a.system a.port ≡ [] = subst (λ o. at_far w.towards o ≡ []) h
              ((i.each r).lanes.cut c (sym (cond_false (is_end x s p r c) false (w.whole r c) y) ∙ e)) in
              cond_false (is_end x s p a.system a.port) [] (w.towards a.system a.port)
              (sym (end_alike x f s p r c a.system a.port h) ∙ y) ∙ none)
        ]

joined_kept : (x : NetworkSetup) → IsNetworkSetup x → (w : Network) (s p : ℕ) → AllFine x w
    → AllFine x (record w { whole = λ t q. cond (is_end x s p t q) true (w.whole t q) })
joined_kept x f w s p i =
    less_kept x w i w.towards (λ t q. cond (is_end x s p t q) true (w.whole t q)) alike (λ t q. inl refl) cut
  where
    alike : SeenAlike x (λ t q. cond (is_end x s p t q) true (w.whole t q))
    alike t q r c h = ap (λ (b : Bool). cond b true (w.whole t q)) (end_alike x f s p t q r c h)
        ∙ ap (λ (v : Bool). cond (is_end x s p r c) true v) (i.alike t q r c h)

    cut : (r c : ℕ) → cond (is_end x s p r c) true (w.whole r c) ≡ false → out_of x w.towards r c ≡ []
    cut r c e = go (is_end x s p r c) e
      where
        go : (b : Bool) → cond b true (w.whole r c) ≡ false → out_of x w.towards r c ≡ []
        go true e = absurd (true≢false e)
        go false e = (i.each r).lanes.cut c e

-- a restart
any_true : (a b : Bool) → b ≡ true → cond a true b ≡ true
any_true a b h = grind arith

restarted_kept : (x : NetworkSetup) → IsNetworkSetup x → (w : Network) (s : ℕ) (count : ℕ → ℕ → ℕ) → AllFine x w
    → CountsNetworkChanges w (record w {
      view = at_system w.view s (first_view (x.setup s));
      towards = λ t q. cond (ends_at x s t q) [] (w.towards t q);
    }) count
    → AllFine x (record w {
      view = at_system w.view s (first_view (x.setup s));
      towards = λ t q. cond (ends_at x s t q) [] (w.towards t q);
      count = count;
    })
restarted_kept x f w s count i h = record { alike = i.alike; each = λ r. counted_part (before r) (count r) (h r) }
  where
    towards' : ℕ → ℕ → List Message
    towards' = λ t q. cond (ends_at x s t q) [] (w.towards t q)

    less : (t q : ℕ) → IsLess (towards' t q) (w.towards t q)
    less t q = blank_less (ends_at x s t q) (w.towards t q)

    out_none : (c : ℕ) → [] ≡ out_of x towards' s c
    out_none c = go (x.far s c) refl
      where
        go : (o : Option Place) → x.far s c ≡ o → [] ≡ at_far towards' o
        go None e = refl
        go (Some a) e = sym (cond_true (ends_at x s a.system a.port) [] (w.towards a.system a.port)
            (any_true (eqb a.system s) (is_at s (x.far a.system a.port))
            (ap (is_at s) (f.cables s c a.system a.port e) ∙ eq-eqb s s refl)))

    back_none : (q : ℕ) → [] ≡ towards' s q
    back_none q = sym (cond_true (ends_at x s s q) [] (w.towards s q) (cond_true (eqb s s) true (is_at s (x.far s q)) (eq-eqb s s refl)))

    at_start : Fine x s (first_view (x.setup s)) (party_at (w.view s)) (w.count s) (λ c. []) (λ c. []) (w.whole s) (w.sent s)
        (w.collected s) (w.forced s) (w.taken s) w.taken w.source
    at_start = record {
      members = members_first (x.setup s) (f.setup s);
      lanes = lanes_restarted ((i.each s).lanes) (x.setup s).first_marker;
      heard = heard_first (x.setup s) (w.taken s);
      stamps = stamps_emptied (i.each s).stamps;
      names = λ c. tt;
      apart = apart_first (x.setup s);
      last = (i.each s).last;
    }

    before : (r : ℕ) → Fine x r (at_system w.view s (first_view (x.setup s)) r) (party_at (w.view r)) (w.count r) (out_of x towards' r)
        (towards' r) (w.whole r) (w.sent r) (w.collected r) (w.forced r) (w.taken r) w.taken w.source
    before r = by_system s (λ r b. Fine x r (cond b (first_view (x.setup s)) (w.view r)) (party_at (w.view r)) (w.count r)
        (out_of x towards' r) (towards' r) (w.whole r) (w.sent r) (w.collected r) (w.forced r) (w.taken r) w.taken w.source)
        (fine_along x s (party_at (w.view s)) (w.count s) (w.whole s) (w.collected s) (w.forced s) _ _ _ _ _ _ _ _ _ _ w.taken w.source
        refl (λ j c. out_none c j) (λ j q. back_none q j) refl refl at_start)
        (λ r ne. less_part (i.each r) (out_of x towards' r) (towards' r) (w.whole r) (out_less x w.towards towards' less r) (less r)
        (still_nothing x w i towards' less r)) r

-- a frame is handed up
handed_kept : (x : NetworkSetup) → IsNetworkSetup x → (w : Network) (s p up : ℕ) (a : Place) (g k n : ℕ) (ms : List Message) → AllFine x w
    → x.far s p ≡ Some a → w.towards s p ≡ Data One g k n ∷ ms → AllFine x (handed_up_from s (Some a) (Some up) g k n (without_first s p w))
handed_kept x f w s p up a g k n ms i e h = record {
  alike = i.alike;
  each = by_system a.system (λ r b. Fine x r (w.view r) (party_at (w.view r)) (w.count r) (out_of x towards' r) (towards' r) (w.whole r)
      (w.sent r) (cond b (at_two (w.collected a.system) g k (w.collected a.system g k ++ n ∷ [])) (w.collected r)) (w.forced r) (w.taken r)
      w.taken w.source) here (λ r ne. popped.each r);
}
  where
    popped : AllFine x (without_first s p w)
    popped = popped_kept x w s p i

    towards' : ℕ → ℕ → List Message
    towards' = at_place w.towards s p (drop 1 (w.towards s p))

    back : x.far a.system a.port ≡ Some (record { system = s; port = p })
    back = f.cables s p a.system a.port e

    first : out_of x w.towards a.system a.port ≡ Data One g k n ∷ ms
    first = ap (at_far w.towards) back ∙ h

    rest : at_place w.towards s p (drop 1 (w.towards s p)) s p ≡ ms
    rest = cond_true (eqb s s && eqb p p) (drop 1 (w.towards s p)) (w.towards s p)
        (and_from (eqb s s) (eqb p p) (eq-eqb s s refl) (eq-eqb p p refl)) ∙ ap (λ (l : List Message). drop 1 l) h

    same : (c : ℕ) → out_of x towards' a.system c ≡ at_cable (out_of x w.towards a.system) a.port ms c
    same c = elim (cable_cases (out_of x w.towards a.system) a.port ms c) [
      | inl y ↦ ap (out_of x towards' a.system) y.0 ∙ ap (at_far towards') back ∙ rest ∙ sym y.1
      | inr y ↦ go (x.far a.system c) refl y.0 ∙ sym y.1
    ]
      where
        go : (o : Option Place) → x.far a.system c ≡ o → (c ≡ a.port → ⊥) → at_far towards' o ≡ at_far w.towards o
        go None z ne = refl
        go (Some b) z ne = elim (cases_Bool (eqb b.system s && eqb b.port p)) [
          | inl y ↦ (let both = and_parts (eqb b.system s) (eqb b.port p) y in
              let m : record { system = b.system; port = b.port } ≡ record { system = s; port = p } =
              λ j. record { system = eqb-true b.system s both.0 j; port = eqb-true b.port p both.1 j } in
              absurd (ne ((same_near x f a.system c a.system a.port (record { system = s; port = p })
              (z ∙ ap (λ (b : Place). Some b) m) back).1)))
          | inr y ↦ cond_false (eqb b.system s && eqb b.port p) (drop 1 (w.towards s p)) (w.towards b.system b.port) y
        ]

    here : Fine x a.system (w.view a.system) (party_at (w.view a.system)) (w.count a.system) (out_of x towards' a.system)
        (towards' a.system) (w.whole a.system) (w.sent a.system)
        (at_two (w.collected a.system) g k (w.collected a.system g k ++ n ∷ [])) (w.forced a.system) (w.taken a.system) w.taken w.source
    here = record {
      members = (popped.each a.system).members;
      heard = (popped.each a.system).heard;
      stamps = (popped.each a.system).stamps;
      names = (popped.each a.system).names;
      apart = (popped.each a.system).apart;
      last = (popped.each a.system).last;
      lanes = lanes_less (lanes_handed ((i.each a.system).lanes) a.port g k n ms (ends_once x a.system) first) (out_of x towards' a.system)
          (towards' a.system) (w.whole a.system) (λ c. inl (same c))
          (place_less w.towards s p (drop 1 (w.towards s p)) (first_less (w.towards s p)) a.system) ((popped.each a.system).lanes.cut);
    }

-- a frame comes from the other end
from_far : (x : NetworkSetup) → IsNetworkSetup x → (w : Network) (s p : ℕ) (a : Place) (origin : Side) (g k n : ℕ) (ms : List Message)
    → AllFine x w → x.far s p ≡ Some a → w.towards s p ≡ Data origin g k n ∷ ms → origin ≡ One
from_far x f w s p a origin g k n ms i e h =
    (subst (Every (IsFrom One)) (ap (at_far w.towards) (f.cables s p a.system a.port e) ∙ h) ((i.each a.system).lanes.origin a.port)).0

up_kept : (x : NetworkSetup) → IsNetworkSetup x → (w : Network) (s p : ℕ) (origin : Side) (g k n : ℕ) (up : Option ℕ)
    → BeginsWith (Data origin g k n) (w.towards s p) → AllFine x w → AllFine x (handed_up_from s (x.far s p) up g k n (without_first s p w))
up_kept x f w s p origin g k n up b i = go (x.far s p) refl up
  where
    go : (o : Option Place) → x.far s p ≡ o → (up : Option ℕ) → AllFine x (handed_up_from s o up g k n (without_first s p w))
    go None e up = popped_kept x w s p i
    go (Some a) e None = popped_kept x w s p i
    go (Some a) e (Some h) = handed_kept x f w s p h a g k n b.0 i e
        (b.1 ∙ ap (λ (o : Side). Data o g k n ∷ b.0) (from_far x f w s p a origin g k n b.0 i e b.1))

comes_kept : (x : NetworkSetup) → IsNetworkSetup x → (s p : ℕ) (line : List Message) (old new : Network) → AllFine x old
    → old.towards s p ≡ line → DeliversFirstAt x s p line old new → AllFine x new
comes_kept x f s p [] old new i e z = subst (AllFine x) (sym z) i
comes_kept x f s p (Control pdu stamp ∷ ms) old new i e z = subst (AllFine x) (sym z.2) (popped_kept x z.0 s p
    (call_kept x f s (Receive p (Some pdu)) stamp old old z.0 refl
    (started x s (Receive p (Some pdu)) stamp old i (amid_receive x s p pdu stamp old.towards old.whole (old.forced s) (ms, e))) z.1))
comes_kept x f s p (Data origin g k n ∷ ms) old new i e z = subst (AllFine x) (sym z.3)
    (up_kept x f z.1 s p origin g k n z.0 (begins_call x s (Receive p None) 0 old old z.1 (Data origin g k n) s p z.2 (ms, e))
    (quiet_kept x f s (Receive p None) old z.1 refl i z.2))

again_kept : (x : NetworkSetup) → IsNetworkSetup x → (s p : ℕ) (line : List Message) (old new : Network) → AllFine x old
    → old.towards s p ≡ line → RepeatsFirstAt x s p line old new → AllFine x new
again_kept x f s p [] old new i e z = subst (AllFine x) (sym z) i
again_kept x f s p (Data origin g k n ∷ ms) old new i e z = subst (AllFine x) (sym z) i
again_kept x f s p (Control pdu stamp ∷ ms) old new i e z = call_kept x f s (Receive p (Some pdu)) stamp old old new refl
    (started x s (Receive p (Some pdu)) stamp old i (amid_receive x s p pdu stamp old.towards old.whole (old.forced s) (ms, e))) z

senses_kept : (x : NetworkSetup) → IsNetworkSetup x → (s p : ℕ) (old new : Network) → AllFine x old
    → NetworkCall x s (Set_link p (old.whole s p)) 0 old old new → AllFine x new
senses_kept x f s p old new i z = call_kept x f s (Set_link p (old.whole s p)) 0 old old new refl
    (started x s (Set_link p (old.whole s p)) 0 old i (amid_link x s p old.towards old.whole (old.forced s))) z

-- a conversation is forced
forced_kept : (x : NetworkSetup) (s g k : ℕ) (w : Network) → AllFine x w → AllFine x (record w { forced = at_system w.forced s (at_two (w.forced s) g k true) })
forced_kept x s g k w i = record {
  alike = i.alike;
  each = by_system s (λ r b. Fine x r (w.view r) (party_at (w.view r)) (w.count r) (out_of x w.towards r) (w.towards r) (w.whole r) (w.sent r)
      (w.collected r) (cond b (at_two (w.forced s) g k true) (w.forced r)) (w.taken r) w.taken w.source)
      (forced_part (i.each s) g k) (λ r ne. i.each r);
}

amid_force : (x : NetworkSetup) (s : ℕ) (forced : ℕ → ℕ → ℕ → Bool) (g k : ℕ) (towards : ℕ → ℕ → List Message) (whole : ℕ → ℕ → Bool)
    → Amid x (Force g k) 0 s towards whole (at_system forced s (at_two (forced s) g k true) s)
amid_force x s forced g k towards whole = grind arith

force_kept : (x : NetworkSetup) → IsNetworkSetup x → (s g k : ℕ) (old new : Network) → AllFine x old
    → NetworkHappens x (NetworkEvent.Force s g k) old new → AllFine x new
force_kept x f s g k old new i z = elim z [
  | inl e ↦ subst (AllFine x) (sym e) i
  | inr y ↦ (let mid : Network = record old { forced = at_system old.forced s (at_two (old.forced s) g k true) } in
      call_kept x f s (Force g k) 0 old mid new refl
      (started x s (Force g k) 0 mid (forced_kept x s g k old i) (amid_force x s old.forced g k old.towards old.whole)) y)
]

-- conversations are forced
freed_kept : (x : NetworkSetup) (s : ℕ) (test : ℕ → ℕ → Bool) (w : Network) → AllFine x w
    → AllFine x (record w {
      view = at_system w.view s (freed_view test (w.view s));
      forced = at_system w.forced s (also_forced test (w.forced s));
    })
freed_kept x s test w i = record {
  alike = i.alike;
  each = by_system s (λ r b. Fine x r (cond b (freed_view test (w.view s)) (w.view r))
      (party_at (cond b (freed_view test (w.view s)) (w.view r))) (w.count r) (out_of x w.towards r) (w.towards r) (w.whole r) (w.sent r)
      (w.collected r) (cond b (also_forced test (w.forced s)) (w.forced r)) (w.taken r) w.taken w.source)
      (freed_part (i.each s) test) (λ r ne. i.each r);
}

-- another system takes the place of one
succeeded_kept : (x : NetworkSetup) (s : ℕ) (after : View) (w : Network) → IsNetworkSuccessor x w s after → AllFine x w
    → AllFine x (record w { view = at_system w.view s after; moved = at_system w.moved s (λ p. moved_again (w.moved s p) ((w.view s).port p) (after.port p)) })
succeeded_kept x s after w y i = record { alike = i.alike; each = by_system s (λ r b. With (cond b after (w.view r)) r) here (λ r ne. i.each r) }
  where
    With : View → ℕ → Type 0
    With v r = Fine x r v (party_at v) (w.count r) (out_of x w.towards r) (w.towards r) (w.whole r) (w.sent r) (w.collected r) (w.forced r)
        (w.taken r) w.taken w.source

    here : With after s
    here = record {
      members = y.follows.members;
      apart = y.apart;
      heard = y.follows.heard;
      lanes = lanes_succeeded (i.each s).lanes after.flows y.follows.on y.follows.waits y.follows.next;
      stamps = subst (λ (party : ℕ → Option Party). Stamps (ends_of x s) (λ c. None) party (w.count s) (out_of x w.towards s) (λ p. None))
          (λ j p. sym (y.parties p) j) (i.each s).stamps;
      names = (i.each s).names;
      last = λ t. subst (λ (party : ℕ → Option Party). Last x s party (w.count s) (w.taken t) (w.source t)) (λ j p. sym (y.parties p) j)
          ((i.each s).last t);
    }

-- and its configuration is another

pub members_alike : (u v : SystemSetup) (ports : ℕ → Option PortFacts) → IsAlikeSetup u v → Members u ports → Members v ports
members_alike u v ports a m = grind arith

setup_changed : (x : NetworkSetup) (s : ℕ) (setup : SystemSetup) (after : View) → IsAlikeSetup (x.setup s) setup → (w : Network)
    → AllFine x w → AllFine (recabled x (NetworkEvent.Succeed s setup after)) w
setup_changed x s setup after a w i = record {
  alike = i.alike;
  each = λ r. let f = i.each r in record {
    members = by_system s (λ r b. Members (cond b setup (x.setup r)) (w.view r).port)
        (members_alike (x.setup s) setup (w.view s).port a (i.each s).members) (λ r ne. (i.each r).members) r;
    lanes = f.lanes;
    heard = f.heard;
    stamps = f.stamps;
    apart = f.apart;
    names = λ c. subst (λ m. Every (NamesSender m c) (out_of x w.towards r c)) (sym (same r)) (f.names c);
    last = λ t p c l e h. let k = f.last t p c l e h in (k.0, subst (λ m. IsOwn m c l.pdu) (sym (same r)) k.1);
  };
}
  where
    setups : ℕ → SystemSetup
    setups = at_system x.setup s setup

    same : (r : ℕ) → (setups r).system ≡ (x.setup r).system
    same = by_system s (λ r b. (cond b setup (x.setup r)).system ≡ (x.setup r).system) a.system (λ r ne. refl)

-- a port without a cable hears anything
hears_kept : (x : NetworkSetup) → IsNetworkSetup x → (s p : ℕ) (pdu : Option ControlMessage) (stamp : ℕ) (old new : Network) → AllFine x old
    → x.far s p ≡ None → NetworkCall x s (Receive p pdu) stamp old old new → AllFine x new
hears_kept x f s p None stamp old new i none z = call_kept x f s (Receive p None) stamp old old new refl
    (started x s (Receive p None) stamp old i (amid_quiet x (Receive p None) stamp s old.towards old.whole (old.forced s) refl)) z
hears_kept x f s p (Some pdu) stamp old new i none z = call_kept x f s (Receive p (Some pdu)) stamp old old new refl
    (started x s (Receive p (Some pdu)) stamp old i (amid_hear x s p pdu stamp old.towards old.whole (old.forced s) none)) z

-- every event
pub happens_kept : (x : NetworkSetup) → IsNetworkSetup x → (e : NetworkEvent) (old new : Network) → AllFine x old
    → NetworkHappens x e old new → AllFine (recabled x e) new
happens_kept x f (NetworkEvent.Tick s n) old new i z = quiet_kept x f s Tick old new refl i z
happens_kept x f (NetworkEvent.Emit s p) old new i z = quiet_kept x f s Transmit old new refl i z
happens_kept x f (NetworkEvent.Deliver s p) old new i z = comes_kept x f s p (old.towards s p) old new i refl z
happens_kept x f (NetworkEvent.Lose s p) old new i z = subst (AllFine x) (sym z) (popped_kept x old s p i)
happens_kept x f (NetworkEvent.Repeat s p) old new i z = again_kept x f s p (old.towards s p) old new i refl z
happens_kept x f (NetworkEvent.Cut s p) old new i z = subst (AllFine x) (sym z) (cut_kept x f old s p i)
happens_kept x f (NetworkEvent.Join s p) old new i z = subst (AllFine x) (sym z) (joined_kept x f old s p i)
happens_kept x f (NetworkEvent.Sense s p) old new i z = senses_kept x f s p old new i z
happens_kept x f (NetworkEvent.Restart s) old new i z = subst (AllFine x) (sym z.2) (restarted_kept x f old s z.0 i z.1)
happens_kept x f (NetworkEvent.Configure s p change) old new i z = quiet_kept x f s Configure old new refl i z
happens_kept x f (NetworkEvent.Offer s g frame) old new i z = quiet_kept x f s Offer old new refl i z
happens_kept x f (NetworkEvent.Move_conversation s g k p) old new i z = quiet_kept x f s Move_conversation old new refl i z
happens_kept x f (NetworkEvent.Force s g k) old new i z = force_kept x f s g k old new i z
happens_kept x f (NetworkEvent.Frees s test) old new i z = subst (AllFine x) (sym z) (freed_kept x s test old i)
happens_kept x f (NetworkEvent.Overtake s p line) old new i z =
    subst (AllFine x) (sym z.1) (line_kept x old s p line (inr (inr (inr z.0))) i)
happens_kept x f (NetworkEvent.Succeed s setup after) old new i z = subst (AllFine (recabled x (NetworkEvent.Succeed s setup after))) (sym z.2)
    (setup_changed x s setup after z.0 (record old {
      view = at_system old.view s after;
      moved = at_system old.moved s (λ p. moved_again (old.moved s p) ((old.view s).port p) (after.port p));
    }) (succeeded_kept x s after old z.1 i))
happens_kept x f (NetworkEvent.Hear s p pdu stamp) old new i z = hears_kept x f s p pdu stamp old new i z.0 z.1
happens_kept x f (NetworkEvent.Pull s p) old new i z =
    subst (AllFine (recabled x (NetworkEvent.Pull s p))) (sym z) (pulled_kept x f s p old i)
happens_kept x f (NetworkEvent.Plug s p t q) old new i z =
    subst (AllFine (recabled x (NetworkEvent.Plug s p t q))) (sym z.2) (plugged_kept x f s p t q z.0 z.1 old i)

-- cables join two ports, still
pub setup_kept : (x : NetworkSetup) → IsNetworkSetup x → (e : NetworkEvent) (old new : Network) → NetworkHappens x e old new → IsNetworkSetup (recabled x e)
setup_kept x f e old new z = grind (arith, pull_setup, plug_setup, is_or_not, at_system, there, elsewhere)

-- every run
pub run_kept : (x : NetworkSetup) → IsNetworkSetup x → (es : List NetworkEvent) (old new : Network) → AllFine x old
    → NetworkRun x es old new → IsNetworkSetup (recabled_all x es) × AllFine (recabled_all x es) new
run_kept x f [] old new i z = (f, subst (AllFine x) (sym z) i)
run_kept x f (e ∷ es) old new i z = run_kept (recabled x e) (setup_kept x f e old z.0 z.1) es z.0 new (happens_kept x f e old z.0 i z.1) z.2

pub runs_joined : (x : NetworkSetup) (es fs : List NetworkEvent) (old mid new : Network) → NetworkRun x es old mid
    → NetworkRun (recabled_all x es) fs mid new → NetworkRun x (es ++ fs) old new
runs_joined x [] fs old mid new a b = subst (λ (w : Network). NetworkRun x fs w new) a b
runs_joined x (e ∷ es) fs old mid new a b = (a.0, a.1, runs_joined (recabled x e) es fs a.0 mid new a.2 b)

pub recabled_joined : (x : NetworkSetup) (es fs : List NetworkEvent) → recabled_all x (es ++ fs) ≡ recabled_all (recabled_all x es) fs
recabled_joined x [] fs = refl
recabled_joined x (e ∷ es) fs = recabled_joined (recabled x e) es fs

pub first_fine : (x : NetworkSetup) → IsNetworkSetup x → AllFine x (first_network x)
first_fine x f = grind arith

pub all_fine : (x : NetworkSetup) (es : List NetworkEvent) (w : Network) → IsNetworkSetup x → NetworkRun x es (first_network x) w
    → IsNetworkSetup (recabled_all x es) × AllFine (recabled_all x es) w
all_fine x es w f z = run_kept x f es (first_network x) w (first_fine x f) z
