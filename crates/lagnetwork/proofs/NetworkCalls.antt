-- A call of one system, by lawful moves with visible acts, is a call of the network.
use Rattle.lagnetwork.proofs.Common.{Bool, List, None, Option, Some, [], ap, subst, sym, ℕ, ◌++◌, ◌∙◌, ◌∷◌, ◌≡◌, option_to_list, Act, AllAllowed}
use Rattle.lagnetwork.proofs.Common.{LawfulMoves, Move, act, acts, view_after, view_after_all, ModelCall, View, AllNetworkMoves, CountsNetworkChanges}
use Rattle.lagnetwork.proofs.Common.{Network, NetworkCall, NetworkSetup, at_system, network_after_act, network_after_acts, network_after_all}
use native.Mathlib.Omega.{arith}
use Rattle.lagmodel.proofs.AnyPeer.{accepted}
use Rattle.lagnetwork.proofs.Networks.{there}

pub itself : {X : Type 0} (f : ℕ → X) (s t : ℕ) → f t ≡ at_system f s (f s) t
itself {X} f s t = grind arith

twice : {X : Type 0} (f : ℕ → X) (s : ℕ) (x y : X) (t : ℕ) → at_system (at_system f s x) s y t ≡ at_system f s y t
twice f s x y t = grind arith

module _ (x : NetworkSetup) (s : ℕ) (call : ModelCall) (stamp : ℕ) (accepts : Act → Bool) where
  -- the network after a move that ended in the view v and showed this
  abbrev shown : Option Act → View → Network → Network
  shown o v w = record (network_after_act x s stamp (accepted accepts o) o w) { view = at_system w.view s v }

  -- the view on the way does not matter
  view_over : (seen : List Act) (v on_the_way : View) (w : Network)
      → network_after_acts x s stamp accepts seen v (record w { view = at_system w.view s on_the_way }) ≡ network_after_acts x s stamp accepts seen v w
  view_over [] v on_the_way w = λ i. record w { view = λ t. twice w.view s on_the_way v t i }
  view_over (a ∷ more) v on_the_way w = view_over more v on_the_way (network_after_act x s stamp (accepts a) (Some a) w)

  one_shown : (o : Option Act) (seen : List Act) (v on_the_way : View) (w : Network)
      → network_after_acts x s stamp accepts seen v (shown o on_the_way w) ≡ network_after_acts x s stamp accepts (option_to_list o ++ seen) v w
  one_shown None seen v on_the_way w = ap (network_after_acts x s stamp accepts seen v) (λ i. record w {
    view = at_system w.view s on_the_way;
    sent = λ t. sym (itself w.sent s t) i;
    taken = λ t. sym (itself w.taken s t) i;
    source = λ t. sym (itself w.source s t) i;
  }) ∙ view_over seen v on_the_way w
  one_shown (Some a) seen v on_the_way w = view_over seen v on_the_way (network_after_act x s stamp (accepts a) (Some a) w)

  all_moves : (ms : List Move) (w : Network) → AllAllowed (x.setup s) call (w.view s) ms → (moves : List (Move × Bool))
      × AllNetworkMoves x s call stamp moves w
      × (network_after_all x s stamp moves w
      ≡ network_after_acts x s stamp accepts (acts (x.setup s) ms (w.view s)) (view_after_all (x.setup s) ms (w.view s)) w)
  all_moves [] w h = ([], tt, λ i. record w { view = λ t. itself w.view s t i })
  all_moves (m ∷ ms) w h = let o = act (x.setup s) m (w.view s) in
      let v : View = view_after (x.setup s) m (w.view s) in
      let here = there w.view s v in
      let r = all_moves ms (shown o v w) (subst (λ (v : View). AllAllowed (x.setup s) call v ms) (sym here) h.1) in (
        (m, accepted accepts o) ∷ r.0,
        (h.0, r.1),
        r.2
            ∙ ap (λ (y : View). network_after_acts x s stamp accepts (acts (x.setup s) ms y) (view_after_all (x.setup s) ms y) (shown o v w)) here
            ∙ one_shown o (acts (x.setup s) ms v) (view_after_all (x.setup s) ms v) v w,
      )

pub calls_from : (x : NetworkSetup) (s : ℕ) (call : ModelCall) (stamp : ℕ) (old mid new : Network) (v : View) (seen : List Act)
    (accepts : Act → Bool) (count : ℕ → ℕ → ℕ)
    → LawfulMoves (x.setup s) call (mid.view s) seen v → CountsNetworkChanges old (network_after_acts x s stamp accepts seen v mid) count
    → new ≡ record (network_after_acts x s stamp accepts seen v mid) { count = count } → NetworkCall x s call stamp old mid new
calls_from x s call stamp old mid new v seen accepts count h c e = let r = all_moves x s call stamp accepts h.0 mid h.1 in
    grind (arith, network_after_all, network_after_acts, view_after_all)
