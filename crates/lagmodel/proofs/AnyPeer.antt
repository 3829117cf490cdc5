-- Order, whatever is at the other ends.
use Rattle.lagmodel.proofs.Common.{Bool, List, None, Option, Some, [], false, refl, subst, sym, true, ℕ, ◌++◌, ◌∙◌, ◌∷◌, ◌≡◌, option_to_list, Answers}
use Rattle.lagmodel.proofs.Common.{Calls, Comes, ComesAll, Cuts, EachCallIsOne, Forces, Gone, HandsUp, Happening, HoldsWithAnyPeer, IsNoResponse}
use Rattle.lagmodel.proofs.Common.{Joins, Moves, OrderHolds, OvertakesBack, OvertakesOut, Restarts, Says, Scene, SerialsCountFromZero, Takes}
use Rattle.lagmodel.proofs.Common.{TookInSync, first_scene, only, scene_after, scene_after_act, scene_after_acts, Members, OnePartner, Act}
use Rattle.lagmodel.proofs.Common.{AllAllowed, Move, act, acts, view_after, view_after_all, IsSystemSetup, Marker, ModelCall, SystemSetup, View}
use Rattle.lagmodel.proofs.Common.{Control, Message, One}
use native.Mathlib.Omega.{arith}
use Rattle.lagmodel.proofs.Overtaken.{lanes_out_overtaken, lanes_back_overtaken}
use Rattle.lagmodel.proofs.Lines.{answers, ResponseBelow}
use Rattle.lagmodel.proofs.Orderly.{handed_front}
use Rattle.lagmodel.proofs.Lanes.{Lanes}
use Rattle.lagmodel.proofs.Ports.{members_first, one_partner}
use Rattle.lagmodel.proofs.Stamps.{AllHeard, heard_first, heard_own}
use Rattle.lagmodel.proofs.Worlds.{members_own}
use Rattle.lagmodel.proofs.LaneMoves.{Within, lanes_own, lanes_back_plain, lanes_back_response, lanes_out_taken, lanes_back_taken, lanes_handed}
use Rattle.lagmodel.proofs.LaneMoves.{lanes_forced, lanes_cut, lanes_joined, lanes_restarted, lanes_first}
use Rattle.lagmodel.proofs.Counting.{IsCount, counted_act, none_sent}

pub record Kept (u : SystemSetup) (ends : ℕ → Option ℕ) (w : Scene) : Type 0 where
  pub lanes : Lanes One ends w.view.flows w.out w.back w.whole w.sent w.collected w.forced
  pub members : Members u w.view.port
  pub heard : AllHeard w.view.port w.taken

-- what changes the cables and the records alone
lanes_kept : (u : SystemSetup) (ends : ℕ → Option ℕ) (w : Scene) → Kept u ends w → (v : Scene) → v.view ≡ w.view → v.taken ≡ w.taken
    → Lanes One ends v.view.flows v.out v.back v.whole v.sent v.collected v.forced → Kept u ends v
lanes_kept u ends w i v e f l = grind arith

moves_kept : (u : SystemSetup) (ends : ℕ → Option ℕ) (call : ModelCall) (stamp : ℕ) (ms : List (Move × Bool)) (old new : Scene)
    → Within call stamp ends old.back old.whole old.forced → Kept u ends old → Moves u ends call stamp ms old new → Kept u ends new
moves_kept u ends call stamp [] old new w i z = subst (Kept u ends) (sym z) i
moves_kept u ends call stamp (m ∷ ms) old new w i z = moves_kept u ends call stamp ms (scene_after u ends stamp m old) new w
    (record {
      lanes = lanes_own One ends old.whole old.collected old.forced old.back u call stamp (λ p. 0) m.1 old.view m.0 old.out old.sent z.0 w
          i.lanes;
      members = members_own u call old.view m.0 z.0 w.running i.members;
      heard = heard_own u call stamp old.view m.0 old.taken z.0 w.running i.heard;
    }) z.1

pub only_there : (c d : ℕ) → only c d ≡ Some 0 → d ≡ c
only_there c d h = grind arith

below_none : (m : Message) → IsNoResponse m → (b : ℕ) → ResponseBelow b m
below_none m h b = grind arith

answers_none : (m : Message) → IsNoResponse m → (n : ℕ) → answers n m ≡ false
answers_none m h n = grind arith

pub comes_kept : (u : SystemSetup) (ends : ℕ → Option ℕ) (e : Happening) (old new : Scene) → IsSystemSetup u
    → ((c d p : ℕ) → ends c ≡ Some p → ends d ≡ Some p → c ≡ d) → Kept u ends old → Comes u ends e old new → Kept u ends new
comes_kept u ends (Calls call stamp moves) old new f one i z = grind (arith, moves_kept)
comes_kept u ends (Gone c m ms) old new f one i z =
    subst (Kept u ends) (sym z.1) (lanes_kept u ends old i _ refl refl (lanes_back_taken i.lanes c m ms z.0))
comes_kept u ends (Says c kept m) old new f one i z = grind (arith, lanes_kept, lanes_back_plain, only, below_none, answers_none)
comes_kept u ends (Answers c kept mac p n stamp ms) old new f one i z =
    subst (Kept u ends) (sym z.1) (lanes_kept u ends old i _ refl refl
    (lanes_back_response One ends old.whole old.sent old.collected old.forced old.view.flows old.out old.back (only c) kept 0 mac p n stamp
    (λ d h. (ms, subst (λ d. old.out d ≡ Control (Marker mac p n) stamp ∷ ms) (sym (only_there c d h)) z.0)) i.lanes))
comes_kept u ends (HandsUp c g k n ms) old new f one i z = grind (arith, lanes_kept, lanes_handed)
comes_kept u ends (Takes c m ms) old new f one i z =
    subst (Kept u ends) (sym z.1) (lanes_kept u ends old i _ refl refl (lanes_out_taken i.lanes c m ms z.0))
comes_kept u ends (OvertakesOut c ms) old new f one i z = grind (arith, lanes_kept, lanes_out_overtaken)
comes_kept u ends (OvertakesBack c ms) old new f one i z = grind (arith, lanes_kept, lanes_back_overtaken)
comes_kept u ends (Cuts c) old new f one i z = grind (arith, lanes_kept, lanes_cut)
comes_kept u ends (Joins c) old new f one i z = grind (arith, lanes_kept, lanes_joined)
comes_kept u ends Restarts old new f one i z = grind (arith, lanes_restarted, members_first, heard_first)
comes_kept u ends (Forces g k) old new f one i z = grind (arith, lanes_kept, lanes_forced)

all_kept : (u : SystemSetup) (ends : ℕ → Option ℕ) (es : List Happening) (old new : Scene) → IsSystemSetup u
    → ((c d p : ℕ) → ends c ≡ Some p → ends d ≡ Some p → c ≡ d) → Kept u ends old → ComesAll u ends es old new → Kept u ends new
all_kept u ends [] old new f one i z = subst (Kept u ends) (sym z) i
all_kept u ends (e ∷ es) old new f one i z = all_kept u ends es z.0 new f one (comes_kept u ends e old z.0 f one i z.1) z.2

pub first_kept : (u : SystemSetup) (ends : ℕ → Option ℕ) → IsSystemSetup u → Kept u ends (first_scene u)
first_kept u ends f = grind arith

kept : (u : SystemSetup) (ends : ℕ → Option ℕ) (es : List Happening) (w : Scene) → IsSystemSetup u
    → ((c d p : ℕ) → ends c ≡ Some p → ends d ≡ Some p → c ≡ d) → ComesAll u ends es (first_scene u) w → Kept u ends w
kept u ends es w f one z = all_kept u ends es (first_scene u) w f one
    (record { lanes = lanes_first One ends u.first_marker; members = members_first u f; heard = heard_first u _ }) z

pub order_with_any_peer : HoldsWithAnyPeer OrderHolds
order_with_any_peer u ends es w f one z g k h = handed_front ((kept u ends es w f one z).lanes.orderly g k 0 h)

pub partner_with_any_peer : HoldsWithAnyPeer (λ w. OnePartner w.view)
partner_with_any_peer u ends es w f one z = one_partner u w.view (kept u ends es w f one z).members

pub took_from_any_peer : HoldsWithAnyPeer TookInSync
took_from_any_peer u ends es w f one z p a h d n = let i = kept u ends es w f one z in
    let r = i.heard p a h n in
    let y = r.3 ((i.members.member p a h d).1) in (r.0, r.1, r.2, y.0, y.1)

-- ---- each lawful call is a happening that leaves what its visible acts leave

-- the view on the way does not matter
view_over : (ends : ℕ → Option ℕ) (stamp : ℕ) (accepts : Act → Bool) (seen : List Act) (v on_the_way : View) (w : Scene)
    → scene_after_acts ends stamp accepts seen v (record w { view = on_the_way }) ≡ scene_after_acts ends stamp accepts seen v w
view_over ends stamp accepts [] v on_the_way w = refl
view_over ends stamp accepts (a ∷ more) v on_the_way w =
    view_over ends stamp accepts more v on_the_way (scene_after_act ends stamp (accepts a) (Some a) w)

-- whether the cable accepts what a move sends, if it sends anything
abbrev pub accepted : (Act → Bool) → Option Act → Bool
accepted accepts None = true
accepted accepts (Some a) = accepts a

module _ (u : SystemSetup) (ends : ℕ → Option ℕ) (call : ModelCall) (stamp : ℕ) (accepts : Act → Bool) where
  -- the scene after a move that ended in the view v and showed this
  abbrev shown : Option Act → View → Scene → Scene
  shown o v w = record (scene_after_act ends stamp (accepted accepts o) o w) { view = v }

  one_shown : (o : Option Act) (seen : List Act) (v on_the_way : View) (w : Scene)
      → scene_after_acts ends stamp accepts seen v (shown o on_the_way w) ≡ scene_after_acts ends stamp accepts (option_to_list o ++ seen) v w
  one_shown None seen v on_the_way w = view_over ends stamp accepts seen v on_the_way w
  one_shown (Some a) seen v on_the_way w =
      view_over ends stamp accepts seen v on_the_way (scene_after_act ends stamp (accepts a) (Some a) w)

  all_moves : (ms : List Move) (w : Scene) → AllAllowed u call w.view ms → (moves : List (Move × Bool))
      × Moves u ends call stamp moves w (scene_after_acts ends stamp accepts (acts u ms w.view) (view_after_all u ms w.view) w)
  all_moves [] w h = ([], refl)
  all_moves (m ∷ ms) w h = let o = act u m w.view in
      let r = all_moves ms (shown o (view_after u m w.view) w) h.1 in (
        (m, accepted accepts o) ∷ r.0,
        (
          h.0,
          subst (Moves u ends call stamp r.0 (shown o (view_after u m w.view) w))
              (one_shown o (acts u ms (view_after u m w.view)) (view_after_all u ms (view_after u m w.view)) (view_after u m w.view) w) r.1,
        ),
      )

pub each_call_is_one : EachCallIsOne
each_call_is_one u ends call stamp accepts seen old v h fits = let r = all_moves u ends call stamp accepts h.0 old h.1 in (
  r.0,
  (
    fits,
    subst (λ (seen : List Act). Moves u ends call stamp r.0 old (scene_after_acts ends stamp accepts seen v old)) h.2
        (subst (λ (v : View). Moves u ends call stamp r.0 old (scene_after_acts ends stamp accepts (acts u h.0 old.view) v old)) (sym h.3)
        r.1),
  ),
)

-- ---- serials count from zero

counted_moves : (u : SystemSetup) (ends : ℕ → Option ℕ) (call : ModelCall) (stamp : ℕ) (ms : List (Move × Bool)) (old new : Scene)
    → SerialsCountFromZero old → Moves u ends call stamp ms old new → SerialsCountFromZero new
counted_moves u ends call stamp [] old new h z = subst SerialsCountFromZero (sym z) h
counted_moves u ends call stamp (m ∷ ms) old new h z =
    counted_moves u ends call stamp ms (scene_after u ends stamp m old) new (λ g k. counted_act (act u m.0 old.view) old.sent h g k) z.1

-- what changes no serial that was sent
pub unsent : (old new : Scene) → new.sent ≡ old.sent → SerialsCountFromZero old → SerialsCountFromZero new
unsent old new e h g k = subst (λ (sent : ℕ → ℕ → List ℕ). IsCount (sent g k)) (sym e) (h g k)

pub counted_comes : (u : SystemSetup) (ends : ℕ → Option ℕ) (e : Happening) (old new : Scene) → SerialsCountFromZero old
    → Comes u ends e old new → SerialsCountFromZero new
counted_comes u ends e old new h z = grind (arith, counted_moves, unsent, kept)

pub none_counted : (u : SystemSetup) → SerialsCountFromZero (first_scene u)
none_counted u g k i lt = absurd (none_sent i lt)

counted_all : (u : SystemSetup) (ends : ℕ → Option ℕ) (es : List Happening) (old new : Scene) → SerialsCountFromZero old
    → ComesAll u ends es old new → SerialsCountFromZero new
counted_all u ends [] old new h z = subst SerialsCountFromZero (sym z) h
counted_all u ends (e ∷ es) old new h z = counted_all u ends es z.0 new (counted_comes u ends e old z.0 h z.1) z.2

pub counts_with_any_peer : HoldsWithAnyPeer SerialsCountFromZero
counts_with_any_peer u ends es w f one z = counted_all u ends es (first_scene u) w (none_counted u) z
