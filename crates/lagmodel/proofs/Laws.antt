-- What follows in a world in which the facts hold.
use Rattle.lagmodel.proofs.Common.{List, Some, [], ap, eq-eqb, false, inl, inr, not, option_map, refl, subst, sym, true, ℕ, ◌&&◌, ◌∙◌, ◌∷◌, ◌≡◌}
use Rattle.lagmodel.proofs.Common.{cases_Bool, true≢false, same_Some, Party, SamePair, pair_of, BelowNext, CollectedThenInFlight, EndsAgree}
use Rattle.lagmodel.proofs.Common.{FlushedByMarker, InOrder, LastLacpduSaysInSync, OnItsCable, OnePartner, UpToDateLacpdusNameSender, serials, Lacp}
use Rattle.lagmodel.proofs.Common.{Marker, PortFacts, Response, View, conversation_port, Control, Data, IsWorldSetup, Message, One, Side, TakenLacpdu}
use Rattle.lagmodel.proofs.Common.{Two, World, WorldSetup, end_at, party_at, peer}
use native.Mathlib.Omega.{arith}
use Rattle.lagmodel.proofs.Base.{cond_false}
use Rattle.lagmodel.proofs.Ports.{one_partner}
use Rattle.lagmodel.proofs.Lines.{IsFrom, Every, every_contains, MarkerBelow, ResponseBelow, answers, NoneBehind, behind_split, is_of, is_of-true}
use Rattle.lagmodel.proofs.Orderly.{handed_front}
use Rattle.lagmodel.proofs.Stamps.{Fresh, FreshPdu}
use Rattle.lagmodel.proofs.Worlds.{Lawful}

-- the group of parties that name each other
pub crossed : (a b c d : Party) → a ≡ d → b ≡ c → SamePair (pair_of a b) (pair_of c d)
crossed a b c d e h = grind arith

party_there : (v : View) (p : ℕ) (a : PortFacts) (y : Party) → v.port p ≡ Some a → party_at v p ≡ Some y → a.party ≡ y
party_there v p a y h e = same_Some a.party y (sym (ap (option_map (λ (a : PortFacts). a.party)) h) ∙ e)

pub one_partner_holds : (x : WorldSetup) (w : World) → Lawful x w → (s : Side) → OnePartner (w.view s)
one_partner_holds x w i s = one_partner (x.setup s) (w.view s) (i s).members

-- the partner that a port records is the party of the other end, if that did not change
named : (x : WorldSetup) (w : World) → Lawful x w → (s : Side) (c p q : ℕ) (a b : PortFacts) (m : TakenLacpdu) → end_at x.cables s c ≡ Some p
    → end_at x.cables (peer s) c ≡ Some q → (w.view s).port p ≡ Some a → (w.view (peer s)).port q ≡ Some b → a.defaulted ≡ false → w.taken s p ≡ Some m
    → m.stamp ≡ w.count (peer s) q → FreshPdu (w.count (peer s) q) (party_at (w.view (peer s)) q) m.pdu m.stamp → a.partner ≡ b.party
named x w i s c p q a b m ep eq ha hb d t e f = grind arith

pub agree_holds : (x : WorldSetup) (w : World) → Lawful x w → EndsAgree x w
agree_holds x w i c p q a b ep eq h k = grind arith

pub in_order_holds : (x : WorldSetup) (w : World) → Lawful x w → InOrder w
in_order_holds x w i s g k u = handed_front ((i s).lanes.orderly g k 0 u)

pub last_lacpdu_in_sync : (x : WorldSetup) (w : World) → Lawful x w → LastLacpduSaysInSync w
last_lacpdu_in_sync x w i s p a h d f = let r = (i s).heard p a h f in
    let y = r.3 (((i s).members.member p a h d).1) in (
      r.0,
      r.1,
      y.0,
      λ g. elim y.1 [ inl e ↦ crossed r.0.pdu.actor r.0.pdu.partner a.party a.partner (sym r.2) e | inr n ↦ absurd (true≢false (sym g ∙ n)) ],
    )

pub names_present_holds : (x : WorldSetup) (w : World) → Lawful x w → UpToDateLacpdusNameSender x w
names_present_holds x w i s c p e = (
  (λ pdu stamp h f. let y = every_contains (Fresh (w.count s p) (party_at (w.view s) p)) (w.on_cable (peer s) c) (Control (Lacp pdu) stamp)
      ((i s).stamps.flight c p e) h in y.1 f),
  (λ q m eq t f. ((i s).stamps.last c p q m e eq t).1 f),
)

side_not_peer : (s : Side) → peer s ≡ s → ⊥
side_not_peer s h = grind arith

none_from : (s t : Side) (g k : ℕ) (ms : List Message) → (t ≡ s → ⊥) → Every (IsFrom t) ms → serials s g k ms ≡ []
none_from s t g k [] n h = refl
none_from s t g k (Control pdu stamp ∷ ms) n h = none_from s t g k ms n h.1
none_from s t g k (Data origin j l serial ∷ ms) n h = elim (cases_Bool (is_of s g k origin j l)) [
  | inl e ↦ absurd (n (sym h.0 ∙ (is_of-true s g k origin j l e).0))
  | inr e ↦ cond_false (is_of s g k origin j l) _ _ e ∙ none_from s t g k ms n h.1
]

pub on_its_cable_holds : (x : WorldSetup) (w : World) → Lawful x w → OnItsCable x w
on_its_cable_holds x w i One g k c u =
    (((i One).lanes.orderly g k c u).place, none_from One Two g k (w.on_cable One c) (side_not_peer One) ((i Two).lanes.origin c))
on_its_cable_holds x w i Two g k c u =
    (((i Two).lanes.orderly g k c u).place, none_from Two One g k (w.on_cable Two c) (side_not_peer Two) ((i One).lanes.origin c))

pub flushed_by_marker_holds : (x : WorldSetup) (w : World) → IsWorldSetup x → Lawful x w → FlushedByMarker x w
flushed_by_marker_holds x w f i s g k p n c u st e = let o = (i s).lanes.orderly g k c u in (
  (λ front back stamp h.
      behind_split s g k n front (Control (Marker (x.setup s).system.mac p n) stamp) back (eq-eqb n n refl)
      (subst (NoneBehind s g k n) h (o.behind p n st e))),
  (λ d stamp h. elim (((i s).lanes.orderly g k d u).place) [
    | inl y ↦ y
    | inr y ↦ (let same : c ≡ d = f.cables s c d p e (y.1 ∙ sym y.2 ∙ ap conversation_port st) in
        let here = every_contains (λ m. answers n m ≡ true → serials s g k (w.on_cable (peer s) c) ≡ []) (w.on_cable s c)
        (Control (Response (x.setup s).system.mac p n) stamp) (o.answered p n st e) h in
        subst (λ d. serials s g k (w.on_cable (peer s) d) ≡ []) same (here (eq-eqb n n refl)))
  ]),
)

pub below_next_holds : (x : WorldSetup) (w : World) → Lawful x w → BelowNext w
below_next_holds x w i s c p n stamp mac = (
  (λ h. every_contains (MarkerBelow (w.view s).flows.next) (w.on_cable (peer s) c) (Control (Marker mac p n) stamp)
      ((i s).lanes.markers c) h),
  (λ h. every_contains (ResponseBelow (w.view s).flows.next) (w.on_cable s c) (Control (Response mac p n) stamp)
      ((i s).lanes.responses c) h),
)

pub collected_then_in_flight_holds : (x : WorldSetup) (w : World) → Lawful x w → CollectedThenInFlight w
collected_then_in_flight_holds x w i s g k c u = ((i s).lanes.orderly g k c u).in_order
