-- Where the LACPDU came from that a port took last.
use Rattle.lagnetwork.proofs.Common.{Bool, List, None, Option, Some, [], ap, cond, eqb, eqb-true, false, inl, inr, refl, subst, sym, true, ℕ, ◌∷◌}
use Rattle.lagnetwork.proofs.Common.{◌≡◌, ◌⊎◌, cases_Bool, eqb-false, none-some, Move, MoveAllowed, PortAllowed, PortMove, act, act_of_port}
use Rattle.lagnetwork.proofs.Common.{distributor_act, port_act, port_after, view_after, ModelCall, PortFacts, SystemSetup, View, at_port, first_view}
use Rattle.lagnetwork.proofs.Common.{Message, TakenLacpdu, taken_after, cond_false, cond_true, value_of, changed_port, IsNetworkSetup, Moved}
use Rattle.lagnetwork.proofs.Common.{Moved_down, Network, NetworkEvent, NetworkRun, NetworkSetup, Place, Unmoved, at_system, first_network, is_end}
use Rattle.lagnetwork.proofs.Common.{moved_again, moved_of, recabled, recabled_all, source_after, with_cable_moved, CablesStay, IsNetworkInvariant}
use native.Mathlib.Omega.{arith}
use Rattle.lagnetwork.proofs.NetworkMoves.{plug_away}
use Rattle.lagnetwork.proofs.NetworkRuns.{Any, EachEvent, IsKept, always, runs}
use Rattle.lagnetwork.proofs.Networks.{by_system}

-- of one system
pub record SourcedAt (far : ℕ → Option Place) (moved : ℕ → Moved) (ports : ℕ → Option PortFacts) (taken : ℕ → Option TakenLacpdu)
    (source : ℕ → Option Place) : Type 0 where
  pub start : (p : ℕ) (m : TakenLacpdu) → moved p ≡ Unmoved → taken p ≡ Some m → source p ≡ far p
  pub down : (p : ℕ) (a : PortFacts) → moved p ≡ Moved_down → ports p ≡ Some a → a.synchronized ≡ true → a.defaulted ≡ false → source p ≡ far p

abbrev pub Sourced : NetworkSetup → Network → Type 0
Sourced x w = (s : ℕ) → SourcedAt (x.far s) (w.moved s) (w.view s).port (w.taken s) (w.source s)

unmoved-down : Unmoved ≡ Moved_down → ⊥
unmoved-down e = cc

-- a port changes, and takes nothing
sourced_changed : (far : ℕ → Option Place) (moved : ℕ → Moved) (ports : ℕ → Option PortFacts) (taken : ℕ → Option TakenLacpdu)
    (source : ℕ → Option Place) (p : ℕ) (a : PortFacts) (change : PortFacts → PortFacts) → ports p ≡ Some a
    → ((change a).synchronized ≡ true → (change a).defaulted ≡ false → (a.synchronized ≡ true) × (a.defaulted ≡ false))
    → SourcedAt far moved ports taken source → SourcedAt far moved (at_port ports p change) taken source
sourced_changed far moved ports taken source p a change h same i = grind arith

sourced_port : (u : SystemSetup) (call : ModelCall) (ports : ℕ → Option PortFacts) (p : ℕ) (stamp : ℕ) (far : ℕ → Option Place)
    (moved : ℕ → Moved) (taken : ℕ → Option TakenLacpdu) (source : ℕ → Option Place) (m : PortMove) (a : PortFacts) → ports p ≡ Some a
    → PortAllowed u call ports p m a → SourcedAt far moved ports taken source
    → SourcedAt far moved (at_port ports p (port_after m)) (taken_after stamp (port_act p m a) taken) (source_after far (port_act p m a) source)
sourced_port u call ports p stamp far moved taken source m a h x i = grind (arith, cases_Bool, eqb, cond_true, eqb-true, cond_false, changed_port, port_after, eqb-false, sourced_changed)

sourced_first : (u : SystemSetup) (far : ℕ → Option Place) (moved : ℕ → Moved) (ports : ℕ → Option PortFacts)
    (taken : ℕ → Option TakenLacpdu) (source : ℕ → Option Place) → SourcedAt far moved ports taken source
    → SourcedAt far moved (first_view u).port taken source
sourced_first u far moved ports taken source i = grind arith

sourced_own : (u : SystemSetup) (call : ModelCall) (stamp : ℕ) (v : View) (m : Move) (far : ℕ → Option Place) (moved : ℕ → Moved)
    (taken : ℕ → Option TakenLacpdu) (source : ℕ → Option Place) → MoveAllowed u call v m → SourcedAt far moved v.port taken source
    → SourcedAt far moved ((view_after u m v).port) (taken_after stamp (act u m v) taken) (source_after far (act u m v) source)
sourced_own u call stamp v m far moved taken source x i = grind (arith, value_of, at_port, port_after, taken_after, act_of_port, source_after, sourced_port, distributor_act, sourced_first)

-- these cables are moved
sourced_moved : (x : NetworkSetup) (far' : ℕ → ℕ → Option Place) (ends : ℕ → ℕ → Bool) (whole : ℕ → ℕ → Bool)
    (towards : ℕ → ℕ → List Message) (w : Network) → ((t q : ℕ) → ends t q ≡ false → far' t q ≡ x.far t q) → Sourced x w
    → Sourced (record x { far = far' }) (record w {
      whole = whole;
      towards = towards;
      moved = λ t q. cond (ends t q) (moved_of ((w.view t).port q)) (w.moved t q);
    })
sourced_moved x far' ends whole towards w away i t = grind arith

sourced_kept : IsKept Any Sourced
sourced_kept = record {
  moves = λ x s call stamp m w a i t. by_system s (λ t b. SourcedAt (x.far t) (w.moved t)
      (cond b (view_after (x.setup s) m.0 (w.view s)) (w.view t)).port
      (cond b (taken_after stamp (act (x.setup s) m.0 (w.view s)) (w.taken s)) (w.taken t))
      (cond b (source_after (x.far s) (act (x.setup s) m.0 (w.view s)) (w.source s)) (w.source t)))
      (sourced_own (x.setup s) call stamp (w.view s) m.0 (x.far s) (w.moved s) (w.taken s) (w.source s) a (i s)) (λ t ne. i t) t;
  apart = λ x w whole towards count forced i. i;
  handed = λ x t a h g k n w i. i;
  viewed = viewed_sourced;
  succeeded = λ x s setup after w i. by_system s (λ t b. SourcedAt (x.far t)
      (cond b (λ p. moved_again (w.moved s p) ((w.view s).port p) (after.port p)) (w.moved t)) (cond b after (w.view t)).port (w.taken t)
      (w.source t)) (again (x.far s) (w.moved s) (w.view s).port after.port (w.taken s) (w.source s) (i s)) (λ t ne. i t);
  pulled = λ x s p w is i. sourced_moved x (recabled x (NetworkEvent.Pull s p)).far (is_end x s p) (with_cable_moved x false s p w).whole
      (with_cable_moved x false s p w).towards w (λ t q. cond_false (is_end x s p t q) None (x.far t q)) i;
  plugged = λ x f s p t q w is none free i. let after : NetworkSetup = recabled x (NetworkEvent.Plug s p t q) in
      sourced_moved x after.far (is_end after s p) (with_cable_moved after true s p w).whole (with_cable_moved after true s p w).towards w
      (plug_away x f s p t q none free) i;
}
  where
    viewed_sourced : (x : NetworkSetup) (s : ℕ) (v : View) (w : Network) → (v ≡ first_view (x.setup s)) ⊎ (v.port ≡ (w.view s).port)
        → Sourced x w → Sourced x (record w { view = at_system w.view s v })
    viewed_sourced x s v w h i t = by_system s
        (λ t b. SourcedAt (x.far t) (w.moved t) (cond b v (w.view t)).port (w.taken t) (w.source t))
        (elim h [
          | inl e ↦ subst (λ (v : View). SourcedAt (x.far s) (w.moved s) v.port (w.taken s) (w.source s)) (sym e)
              (sourced_first (x.setup s) (x.far s) (w.moved s) (w.view s).port (w.taken s) (w.source s) (i s))
          | inr e ↦ subst (λ (ports : ℕ → Option PortFacts). SourcedAt (x.far s) (w.moved s) ports (w.taken s) (w.source s)) (sym e) (i s)
        ]) (λ t ne. i t) t

    again : (far : ℕ → Option Place) (moved : ℕ → Moved) (now next : ℕ → Option PortFacts) (taken : ℕ → Option TakenLacpdu) (source : ℕ → Option Place)
        → SourcedAt far moved now taken source → SourcedAt far (λ p. moved_again (moved p) (now p) (next p)) next taken source
    again far moved now next taken source i = grind arith

pub sourced : IsNetworkInvariant Sourced
sourced = always Sourced sourced_kept (λ x s. record { start = λ p m u taken. absurd (none-some m taken); down = λ p a u. absurd (unmoved-down u) })

-- ---- where no cable is moved

abbrev pub AllUnmoved : Network → Type 0
AllUnmoved w = (s p : ℕ) → w.moved s p ≡ Unmoved

abbrev Stays : NetworkEvent → Type 0
Stays e = CablesStay (e ∷ [])

stays_each : (es : List NetworkEvent) → CablesStay es → EachEvent Stays es
stays_each [] c = tt
stays_each (e ∷ es) c = let parts = stay_parts e es c in (parts.0, stays_each es parts.1)
  where
    stay_parts : (e : NetworkEvent) (es : List NetworkEvent) → CablesStay (e ∷ es) → Stays e × CablesStay es
    stay_parts e es c = grind arith

pub unmoved : (x : NetworkSetup) (es : List NetworkEvent) (w : Network) → IsNetworkSetup x → CablesStay es
    → NetworkRun x es (first_network x) w → ((recabled_all x es).far ≡ x.far) × AllUnmoved w
unmoved x es w f c z = runs Stays At kept x f es (first_network x) w (stays_each es c) (refl, λ s p. refl) z
  where
    At : NetworkSetup → Network → Type 0
    At y w = (y.far ≡ x.far) × AllUnmoved w

    kept : IsKept Stays At
    kept = record {
      moves = λ y s call stamp m w a h. h;
      apart = λ y w whole towards count forced h. h;
      handed = λ y t a b g k n w h. h;
      viewed = λ y s v w e h. h;
      succeeded = λ y s setup after w h. (
        h.0,
        λ t p. by_system s
            (λ t b. (cond b (λ p. moved_again (w.moved s p) ((w.view s).port p) (after.port p)) (w.moved t)) p ≡ Unmoved)
            (ap (λ (m : Moved). moved_again m ((w.view s).port p) (after.port p)) (h.1 s p)) (λ t ne. h.1 t p) t,
      );
      pulled = λ y s p w c h. absurd c;
      plugged = λ y g s p t q w c none free h. absurd c;
    }
