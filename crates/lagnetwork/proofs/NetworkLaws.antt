-- What follows in a network in which the facts hold.
use Rattle.lagnetwork.proofs.Common.{Option, Some, [], ap, eq-eqb, option_map, refl, subst, sym, true, ℕ, ◌∙◌, ◌≡◌, Party, Members, serials, Marker}
use Rattle.lagnetwork.proofs.Common.{Response, SystemSetup, Control, One, Every, MarkerBelow, NoneBehind, ResponseBelow, answers, behind_split}
use Rattle.lagnetwork.proofs.Common.{every_contains, handed_front, one_partner, AllHeard, Moved, Moved_down, Moved_up, Network, NetworkSetup, Place}
use Rattle.lagnetwork.proofs.Common.{Unmoved, recabled_all, AllBelowNext, CablesAgree, CollectedThenFlying, EachOnePartner, EachTookInSync}
use Rattle.lagnetwork.proofs.Common.{FlushedBehindMarker, FlyOnItsCable, GoesByItsCable, IsNetworkInvariant, NamesFarEnd, NetworkInOrder}
use Rattle.lagnetwork.proofs.Common.{NotWithItself, OneDevice, TookFromFarEnd, TookFromFixedEnd, scene_of}
use native.Mathlib.Omega.{arith}
use Rattle.lagnetwork.proofs.NetworkSources.{sourced, unmoved, Sourced}
use Rattle.lagnetwork.proofs.NetworkEvents.{all_fine}
use Rattle.lagnetwork.proofs.NetworkLines.{at_far, ends_of, out_of}
use Rattle.lagmodel.specs.AnyPeer.{Scene, TookInSync}
use Rattle.lagnetwork.proofs.Networks.{AllFine}

-- what follows from the facts holds after each event
pub holds : (P : NetworkSetup → Network → Type 0) → ((x : NetworkSetup) (w : Network) → AllFine x w → P x w) → IsNetworkInvariant P
holds P h x events w f r = h (recabled_all x events) w (all_fine x events w f r).1

pub one_partner_each : (x : NetworkSetup) (w : Network) → AllFine x w → EachOnePartner w
one_partner_each x w i s = one_partner (x.setup s) (w.view s) (i.each s).members

ends_there : (x : NetworkSetup) (t q : ℕ) (a : Place) → x.far t q ≡ Some a → ends_of x t q ≡ Some q
ends_there x t q a e = ap (option_map (λ (a : Place). q)) e

pub cables_agree : (x : NetworkSetup) (w : Network) → AllFine x w → CablesAgree w
cables_agree x w i s p t q a b h k = grind arith

pub in_order_each : (x : NetworkSetup) (w : Network) → AllFine x w → NetworkInOrder w
in_order_each x w i s g k u = handed_front ((i.each s).lanes.orderly g k 0 u)

pub names_far_end : (x : NetworkSetup) (w : Network) → AllFine x w → NamesFarEnd x w
names_far_end x w i s p t q a e h d = let r = (i.each s).heard p a h d in
    let own = ((i.each t).last s p q r.0 e r.1).1 in
    (ap (λ (y : Party). y.system) r.2 ∙ own.0, ap (λ (y : Party). y.port.number) r.2 ∙ own.1)

-- such a port goes by its cable as that is
pub took_from_far_end : (x : NetworkSetup) (w : Network) → AllFine x w → Sourced x w → TookFromFarEnd x w
took_from_far_end x w i sources s p a h d = go (w.moved s p) refl
  where
    go : (m : Moved) → w.moved s p ≡ m → GoesByItsCable m a → w.source s p ≡ x.far s p
    go Unmoved e k = let r = (i.each s).heard p a h d in (sources s).start p r.0 e r.1
    go Moved_down e k = (sources s).down p a e h (((i.each s).members.member p a h k).1) d
    go Moved_up e k = absurd k

pub one_device : (x : NetworkSetup) (w : Network) → AllFine x w → OneDevice x w
one_device x w i s g p q t r j k a b only e h ia ib ga gb da db na nb =
    only (sym ((names_far_end x w i s p t j a e ia na).0) ∙ (one_partner_each x w i s g p q a b ia ib ga gb da db).0
    ∙ (names_far_end x w i s q r k b h ib nb).0)

pub not_with_itself : (x : NetworkSetup) (w : Network) → AllFine x w → NotWithItself x w
not_with_itself x w i s p t q a e h inside d same = grind (arith, names_far_end)

-- what is on the cable of a port, away from it
there_out : (x : NetworkSetup) (w : Network) (s p t q : ℕ) → x.far s p ≡ Some (record { system = t; port = q }) → out_of x w.towards s p ≡ w.towards t q
there_out x w s p t q e = ap (at_far w.towards) e

pub fly_on_its_cable : (x : NetworkSetup) (w : Network) → AllFine x w → FlyOnItsCable x w
fly_on_its_cable x w i s g k p t q u e = grind arith

pub flushed_behind_marker : (x : NetworkSetup) (w : Network) → AllFine x w → FlushedBehindMarker x w
flushed_behind_marker x w i s g k p n t q u st e = let o = (i.each s).lanes.orderly g k p u in
    let here = ends_there x s p (record { system = t; port = q }) e in
    let out = there_out x w s p t q e in (
      (λ front back stamp h.
          behind_split One g k n front (Control (Marker (x.setup s).system.mac p n) stamp) back (eq-eqb n n refl)
          (subst (NoneBehind One g k n) (out ∙ h) (o.behind p n st here))),
      (λ stamp h. ap (serials One g k) (sym out)
          ∙ every_contains (λ m. answers n m ≡ true → serials One g k (out_of x w.towards s p) ≡ []) (w.towards s p)
          (Control (Response (x.setup s).system.mac p n) stamp) (o.answered p n st here) h (eq-eqb n n refl)),
    )

pub all_below_next : (x : NetworkSetup) (w : Network) → AllFine x w → AllBelowNext x w
all_below_next x w i s p t q r n stamp mac e = (
  (λ h. every_contains (MarkerBelow (w.view s).flows.next) (w.towards t q) (Control (Marker mac r n) stamp)
      (subst (Every (MarkerBelow (w.view s).flows.next)) (there_out x w s p t q e) ((i.each s).lanes.markers p)) h),
  (λ h. every_contains (ResponseBelow (w.view s).flows.next) (w.towards s p) (Control (Response mac r n) stamp)
      ((i.each s).lanes.responses p) h),
)

pub collected_then_flying : (x : NetworkSetup) (w : Network) → AllFine x w → CollectedThenFlying x w
collected_then_flying x w i s g k p t q u e = grind arith

-- what a system took last, by what holds of its ports
pub took_in_sync : (u : SystemSetup) (w : Scene) → Members u w.view.port → AllHeard w.view.port w.taken → TookInSync w
took_in_sync u w members heard p a h d n = let r = heard p a h n in
    let y = r.3 ((members.member p a h d).1) in (r.0, r.1, r.2, y.0, y.1)

pub each_took_in_sync : (x : NetworkSetup) (w : Network) → AllFine x w → EachTookInSync x w
each_took_in_sync x w i s = took_in_sync (x.setup s) (scene_of x w s) (i.each s).members (i.each s).heard

pub took_from_ends : IsNetworkInvariant TookFromFarEnd
took_from_ends x events w f r = took_from_far_end (recabled_all x events) w (all_fine x events w f r).1 (sourced x events w f r)

pub took_from_fixed_end : TookFromFixedEnd
took_from_fixed_end x events w f stays r = let u = unmoved x events w f stays r in (
  u.0,
  λ s p a h d. took_from_ends x events w f r s p a h d (subst (λ (m : Moved). GoesByItsCable m a) (sym (u.1 s p)) tt)
      ∙ ap (λ (far : ℕ → ℕ → Option Place). far s p) u.0,
)
