-- What each move of a system keeps of a network, and what each other change does, every run keeps.
use Rattle.lagnetwork.proofs.Common.{Bool, List, None, Option, Some, [], false, inl, inr, refl, subst, sym, true, ℕ, ◌∷◌, ◌≡◌, ◌⊎◌, Move, MoveAllowed}
use Rattle.lagnetwork.proofs.Common.{ModelCall, SystemSetup, View, first_view, Control, Data, Message, at_two, AllNetworkMoves, DeliversFirstAt}
use Rattle.lagnetwork.proofs.Common.{IsNetworkSetup, Network, NetworkCall, NetworkEvent, NetworkHappens, NetworkRun, NetworkSetup, Place}
use Rattle.lagnetwork.proofs.Common.{RepeatsFirstAt, also_forced, at_system, first_network, freed_view, handed_up_from, moved_again, network_after}
use Rattle.lagnetwork.proofs.Common.{network_after_all, recabled, recabled_all, with_cable_moved, without_first, IsNetworkInvariant}
use Rattle.lagnetwork.proofs.NetworkEvents.{setup_kept}

-- each event is so
abbrev pub EachEvent : (NetworkEvent → Type 0) → List NetworkEvent → Type 0
EachEvent Is [] = Unit {0}
EachEvent Is (e ∷ es) = Is e × EachEvent Is es

-- of events that are so
pub record IsKept (Is : NetworkEvent → Type 0) (P : NetworkSetup → Network → Type 0) : Type 0 where
  pub moves : (x : NetworkSetup) (s : ℕ) (call : ModelCall) (stamp : ℕ) (m : Move × Bool) (w : Network)
      → MoveAllowed (x.setup s) call (w.view s) m.0 → P x w → P x (network_after x s stamp m w)
  pub apart : (x : NetworkSetup) (w : Network) (whole : ℕ → ℕ → Bool) (towards : ℕ → ℕ → List Message) (count : ℕ → ℕ → ℕ)
      (forced : ℕ → ℕ → ℕ → Bool) → P x w → P x (record w { whole = whole; towards = towards; count = count; forced = forced })
  pub handed : (x : NetworkSetup) (t : ℕ) (a : Place) (h g k n : ℕ) (w : Network) → P x w → P x (handed_up_from t (Some a) (Some h) g k n w)
  pub viewed : (x : NetworkSetup) (s : ℕ) (v : View) (w : Network) → (v ≡ first_view (x.setup s)) ⊎ (v.port ≡ (w.view s).port) → P x w
      → P x (record w { view = at_system w.view s v })
  pub succeeded : (x : NetworkSetup) (s : ℕ) (setup : SystemSetup) (after : View) (w : Network) → P x w
      → P (recabled x (NetworkEvent.Succeed s setup after)) (record w {
        view = at_system w.view s after;
        moved = at_system w.moved s (λ p. moved_again (w.moved s p) ((w.view s).port p) (after.port p));
      })
  pub pulled : (x : NetworkSetup) (s p : ℕ) (w : Network) → Is (NetworkEvent.Pull s p) → P x w
      → P (recabled x (NetworkEvent.Pull s p)) (with_cable_moved x false s p w)
  pub plugged : (x : NetworkSetup) → IsNetworkSetup x → (s p t q : ℕ) (w : Network) → Is (NetworkEvent.Plug s p t q) → x.far s p ≡ None → x.far t q ≡ None
      → P x w → P (recabled x (NetworkEvent.Plug s p t q)) (with_cable_moved (recabled x (NetworkEvent.Plug s p t q)) true s p w)

module _ (Is : NetworkEvent → Type 0) (P : NetworkSetup → Network → Type 0) (i : IsKept Is P) where
  moved : (x : NetworkSetup) (s : ℕ) (call : ModelCall) (stamp : ℕ) (ms : List (Move × Bool)) (w : Network)
      → AllNetworkMoves x s call stamp ms w → P x w → P x (network_after_all x s stamp ms w)
  moved x s call stamp [] w a h = h
  moved x s call stamp (m ∷ ms) w a h = moved x s call stamp ms (network_after x s stamp m w) a.1 (i.moves x s call stamp m w a.0 h)

  called : (x : NetworkSetup) (s : ℕ) (call : ModelCall) (stamp : ℕ) (old mid new : Network) → P x mid → NetworkCall x s call stamp old mid new → P x new
  called x s call stamp old mid new h z = let w = network_after_all x s stamp z.0 mid in
      subst (P x) (sym z.2.2) (i.apart x w w.whole w.towards z.2.0 w.forced (moved x s call stamp z.0 mid z.1 h))

  -- where only the cables are others
  cabled : (x : NetworkSetup) (w : Network) (whole : ℕ → ℕ → Bool) (towards : ℕ → ℕ → List Message) → P x w
      → P x (record w { whole = whole; towards = towards })
  cabled x w whole towards h = i.apart x w whole towards w.count w.forced h

  popped : (x : NetworkSetup) (s p : ℕ) (w : Network) → P x w → P x (without_first s p w)
  popped x s p w h = cabled x w w.whole (without_first s p w).towards h

  handed_up : (x : NetworkSetup) (t : ℕ) (o : Option Place) (up : Option ℕ) (g k n : ℕ) (w : Network) → P x w → P x (handed_up_from t o up g k n w)
  handed_up x t None up g k n w h = h
  handed_up x t (Some a) None g k n w h = h
  handed_up x t (Some a) (Some up) g k n w h = i.handed x t a up g k n w h

  comes : (x : NetworkSetup) (s p : ℕ) (line : List Message) (old new : Network) → P x old → DeliversFirstAt x s p line old new → P x new
  comes x s p [] old new h z = subst (P x) (sym z) h
  comes x s p (Control pdu stamp ∷ ms) old new h z =
      subst (P x) (sym z.2) (popped x s p z.0 (called x s (ModelCall.Receive p (Some pdu)) stamp old old z.0 h z.1))
  comes x s p (Data origin g k n ∷ ms) old new h z = subst (P x) (sym z.3) (handed_up x s (x.far s p) z.0 g k n (without_first s p z.1)
      (popped x s p z.1 (called x s (ModelCall.Receive p None) 0 old old z.1 h z.2)))

  again : (x : NetworkSetup) (s p : ℕ) (line : List Message) (old new : Network) → P x old → RepeatsFirstAt x s p line old new → P x new
  again x s p [] old new h z = subst (P x) (sym z) h
  again x s p (Data origin g k n ∷ ms) old new h z = subst (P x) (sym z) h
  again x s p (Control pdu stamp ∷ ms) old new h z = called x s (ModelCall.Receive p (Some pdu)) stamp old old new h z

  happens : (x : NetworkSetup) → IsNetworkSetup x → (e : NetworkEvent) (old new : Network) → Is e → P x old → NetworkHappens x e old new → P (recabled x e) new
  happens x f (NetworkEvent.Tick s n) old new is h z = called x s ModelCall.Tick 0 old old new h z
  happens x f (NetworkEvent.Emit s p) old new is h z = called x s ModelCall.Transmit 0 old old new h z
  happens x f (NetworkEvent.Deliver s p) old new is h z = comes x s p (old.towards s p) old new h z
  happens x f (NetworkEvent.Lose s p) old new is h z = subst (P x) (sym z) (popped x s p old h)
  happens x f (NetworkEvent.Repeat s p) old new is h z = again x s p (old.towards s p) old new h z
  happens x f (NetworkEvent.Cut s p) old new is h z = subst (P x) (sym z) (cabled x old _ _ h)
  happens x f (NetworkEvent.Join s p) old new is h z = subst (P x) (sym z) (cabled x old _ _ h)
  happens x f (NetworkEvent.Sense s p) old new is h z = called x s (ModelCall.Set_link p (old.whole s p)) 0 old old new h z
  happens x f (NetworkEvent.Restart s) old new is h z = subst (P x) (sym z.2)
      (i.apart x (record old { view = at_system old.view s (first_view (x.setup s)) }) old.whole _ z.0 old.forced
      (i.viewed x s (first_view (x.setup s)) old (inl refl) h))
  happens x f (NetworkEvent.Configure s p change) old new is h z = called x s ModelCall.Configure 0 old old new h z
  happens x f (NetworkEvent.Offer s g frame) old new is h z = called x s ModelCall.Offer 0 old old new h z
  happens x f (NetworkEvent.Move_conversation s g k p) old new is h z = called x s ModelCall.Move_conversation 0 old old new h z
  happens x f (NetworkEvent.Force s g k) old new is h z = elim z [
    | inl e ↦ subst (P x) (sym e) h
    | inr y ↦ called x s (ModelCall.Force g k) 0 old (record old { forced = at_system old.forced s (at_two (old.forced s) g k true) }) new
        (i.apart x old old.whole old.towards old.count (at_system old.forced s (at_two (old.forced s) g k true)) h) y
  ]
  happens x f (NetworkEvent.Frees s test) old new is h z = subst (P x) (sym z)
      (i.apart x (record old { view = at_system old.view s (freed_view test (old.view s)) }) old.whole old.towards old.count
      (at_system old.forced s (also_forced test (old.forced s))) (i.viewed x s (freed_view test (old.view s)) old (inr refl) h))
  happens x f (NetworkEvent.Overtake s p line) old new is h z = subst (P x) (sym z.1) (cabled x old old.whole _ h)
  happens x f (NetworkEvent.Succeed s setup after) old new is h z =
      subst (P (recabled x (NetworkEvent.Succeed s setup after))) (sym z.2) (i.succeeded x s setup after old h)
  happens x f (NetworkEvent.Hear s p pdu stamp) old new is h z = called x s (ModelCall.Receive p pdu) stamp old old new h z.1
  happens x f (NetworkEvent.Pull s p) old new is h z = subst (P (recabled x (NetworkEvent.Pull s p))) (sym z) (i.pulled x s p old is h)
  happens x f (NetworkEvent.Plug s p t q) old new is h z =
      subst (P (recabled x (NetworkEvent.Plug s p t q))) (sym z.2) (i.plugged x f s p t q old is z.0 z.1 h)

  pub runs : (x : NetworkSetup) → IsNetworkSetup x → (es : List NetworkEvent) (old new : Network) → EachEvent Is es → P x old
      → NetworkRun x es old new → P (recabled_all x es) new
  runs x f [] old new is h z = subst (P x) (sym z) h
  runs x f (e ∷ es) old new is h z =
      runs (recabled x e) (setup_kept x f e old z.0 z.1) es z.0 new is.1 (happens x f e old z.0 is.0 h z.1) z.2

-- of any events
abbrev pub Any : NetworkEvent → Type 0
Any e = Unit {0}

any_each : (es : List NetworkEvent) → EachEvent Any es
any_each [] = tt
any_each (e ∷ es) = (tt, any_each es)

pub always : (P : NetworkSetup → Network → Type 0) → IsKept Any P → ((x : NetworkSetup) → P x (first_network x)) → IsNetworkInvariant P
always P i first x es w f z = runs Any P i x f es (first_network x) w (any_each es) (first x) z
