-- What a late round leaves of a cable: an LACPDU of an end is nearer, on the cable in the end, or was heard.
use Rattle.lagprogress.proofs.Common.{Bool, List, Some, [], ap, arith, inl, inr, is_some, length, map, refl, subst, suc, sym, true, ℕ, ◌++◌, ◌+◌, ◌-◌}
use Rattle.lagprogress.proofs.Common.{◌∙◌, ◌∷◌, ◌≡◌, ◌≤◌, ◌⊎◌, nat_tests, AllByRecursion, Lacpdu, One, Side, peer, Machines, periodic_rows}
use Rattle.lagprogress.proofs.Common.{receive_rows, AtRest, RunsToRest, after_sending, count_down, Reply, Algorithms, WorldSteps, side_of, link_ends}
use Rattle.lagprogress.proofs.Common.{ItemValue, WorldState, change_count_in, half, history_at, HostEvent, KeptBySettling, OfEach, AtPort, Sounds}
use Rattle.lagprogress.proofs.Common.{Clearing, StepReplies, ArriveIn, IsArrivalAt, OldArrive, IsHealthyAt}
use Rattle.lagprogress.proofs.EndFacts.{Along, IsEnd, Suits, Synced, nothing_along, activity, wait_of, CanSound, Learnt}
use Rattle.lagprogress.proofs.HostRound.{both_kept, both_made, KeptBeside, MadeByTick, between, healthy_link, two_there, learn_less}
use Rattle.lagprogress.proofs.SeveralTicks.{TicksBeside, Within, all_counted, fits_at, known_at, no_less, none_counted, own_at, peer_at, side_turns}
use Rattle.lagprogress.proofs.SeveralTicks.{ticks_keep, own_counted, peer_counted, ticked_by, TickPasses, keeps_ticks, sounds_by_ticks}
use Rattle.lagprogress.proofs.Stamps.{stamped_between, stamped_tick, Stamped, Took-it, took_between, took_now, took_tick, Took}
use Rattle.lagprogress.proofs.LateFlow.{Adds, Past, cleared_on, gain_at, FlyingIn, IsPlain, between_at, counted_on, flows, flying_first, flying_in}
use Rattle.lagprogress.proofs.LateFlow.{stays_there}
use Rattle.lagprogress.proofs.Linked.{Fits, IsGood, Link, of_end, other_ports, peer_twice, push_there, told_good, same_items, Flying}
use Rattle.lagprogress.proofs.OneCable.{Asks, IsStamped, OnCable, cable, sent_frame, towards_there, ticks}
use Rattle.lagprogress.proofs.OneRound.{Nothing, forget, join, Later, beside_here}
use Rattle.lagprogress.proofs.Lasting.{raised}
use Rattle.lagprogress.proofs.Claims.{IsNamed, Wakeful, Owes}
use Rattle.lagprogress.proofs.EachRound.{joins_kept, joins_tick}
use Rattle.lagprogress.proofs.HostTelling.{Any, Comes, Extra, HasTold, OnWay, comes_between, comes_other, comes_own, first_came, stays_on, turns}
use Rattle.lagprogress.proofs.Telling.{Tells, Wakes}
use Rattle.lagprogress.proofs.Climbing.{PartnerInSync}
use Rattle.lagscript.specs.declared.event.Event.TheVariants as event

-- What is known of the items on a cable after a late round: all of them were sent in it.

-- as many arrive as were on the cable
arriving : (n : ℕ) (gives : Algorithms) (at : Side → ℕ) (x : ℕ) (fl : Side → List ItemValue) (old new : WorldState) → IsHealthyAt x (cable at fl) old
    → (h : TicksBeside n at OldArrive gives old new) → (t : Side) → ArriveIn (length (fl t)) t x h.events
arriving n gives at x fl old new healthy h t = let e = h.empties t x (cable at fl) healthy in grind (arith, nat_tests, towards_there)

-- what is on the cable towards the end of t in the end is good, since its peer sent it
module _ (gives : Algorithms) (n d e : ℕ) (at : Side → ℕ) (w : Side → Lacpdu) (c : Side → ℕ) (t : Side) (Y : Machines → Type 0) (fits : Fits d w c)
    (then : Fits d w (ticked_by n c)) (along : (a : ℕ) → a ≤ n → Along Y (w (peer t)) (w (peer (peer t))) (c (peer t) - a) d)
    (moves : (a : ℕ) → suc a ≤ n → (p q : Machines) → RunsToRest receive_rows (count_down p) q → AtRest periodic_rows p
    → IsEnd d (w (peer t)) (w (peer (peer t))) (c (peer t) - a) p → Y p → Y q)
    (sends : (p : Machines) → Y p → Y (after_sending p)) (synced : (p : Machines) → Y p → 2 ≤ e → Synced p) (some : 2 ≤ e → 1 ≤ c (peer t) - n) where
  abbrev M : ℕ → ℕ → WorldState → Type 0
  M a b j = Link d at w (known_at c (peer t) a b) (peer t) Y j

  here : (a b : ℕ) → known_at c (peer t) a b (peer t) ≡ c (peer t) - a
  here a b = two_there (peer t) (c (peer t) - a) (c (peer (peer t)) - b)

  known : (a b : ℕ) → Within n a b → 2 ≤ e → 1 ≤ known_at c (peer t) a b (peer t)
  known a b l f = subst (λ m. 1 ≤ m) (sym (here a b)) (let k = some f in let m = l.0 in omega (arith, k, m))

  sent : (a b : ℕ) → Within n a b → (fl : Side → List ItemValue) (i j : WorldState) (x : ℕ) → M a b i → OnCable x at fl i.links
      → (k : Asks gives (peer t) at fl i j) → (k.now t ≡ fl t) ⊎ Adds (IsGood e w t) (fl t) (k.now t)
  sent a b l fl i j x m on k = elim (gain_at t (sent_frame k.a) fl k.now k.went) [ inl y ↦ inl y | inr (item, is, y) ↦ inr (item, good item is, y) ]
    where
      cc : ℕ
      cc = known_at c (peer t) a b (peer t)

      ends : OfEach (AtPort (at (peer t)) (IsEnd e (w (peer t)) (w (peer (peer t))) cc)) (half (peer t) i).state.system_ports
      ends = of_end m (peer t) (IsEnd e (w (peer t)) (w (peer (peer t))) cc) (λ p rest timed y. (y.0.0, y.0.1, λ f. synced p (y.1 refl) f))

      good : (item : ItemValue) → sent_frame k.a ≡ Some item.octets → IsGood e w t item
      good item is v carries = subst (λ u. Suits e (w u) (w (peer t)) v) (peer_twice t)
          (told_good e (w (peer t)) (w (peer (peer t))) cc (gives (peer t)) (at (peer t)) k.a (half (peer t) i).state (half (peer t) j).state
          (known a b l) k.promise ends item.octets is v carries)

  kept : (a b : ℕ) → Within n a b → KeptBeside at gives (M a b)
  kept a b l = between gives d at w (known_at c (peer t) a b) (peer t) Y (fits_at d w c (peer t) n fits then a b l)
      (subst (λ m. Along Y (w (peer t)) (w (peer (peer t))) m d) (sym (here a b)) (along a l.0)) sends

  made : (a b : ℕ) → Within n (suc a) b → MadeByTick gives (peer t) (M a b) (M (suc a) b)
  made a b l = own_at gives (peer t) d at w c n Y Y then a b l (along (suc a) l.0) (λ p q run rest y. moves a l.0 p q run rest y)

  -- so it is after a late round
  pub flush : (old new : WorldState) (l : Link d at w c (peer t) Y old) → TicksBeside n at OldArrive gives old new
      → Link d at w (ticked_by n c) (peer t) Y new × (x : ℕ) × Past t x at (IsGood e w t) 0 new
  flush old new l h = let come = arriving n gives at l.index l.flying old new (healthy_link d at w c (peer t) Y old l) h t in
      let r = cleared_on gives n (peer t) t l.index at (IsGood e w t) M (λ item plain v carries. absurd (plain (v, carries)))
      (λ a b k fl i j m on q. sent a b k fl i j l.index m on q) kept made
      (λ a b k. peer_at gives (peer t) d at w c n Y then a b k (along a k.0))
      h.events h.replies l.flying old new l.links (side_turns at n (peer t) h.events h.turns) come h.acts
      (none_counted d at w c (peer t) (peer t) Y old l) in
      (all_counted d at w c (peer t) (peer t) n Y new r.0, l.index, r.1)

-- and bears the present change count
stamps_flush : (n : ℕ) (gives : Algorithms) (at k : Side → ℕ) (kept : Side → Bool) (t : Side) (old new : WorldState) (l : Stamped 0 at k kept old)
    → IsHealthyAt l.index (cable at l.flying) old → TicksBeside n at OldArrive gives old new
    → Stamped 0 at k kept new × Past t l.index at (IsStamped (k (peer t))) 0 new
stamps_flush n gives at k kept t old new l healthy h = cleared_on gives n One t l.index at (IsStamped (k (peer t))) (λ a b j. Stamped 0 at k kept j)
    (λ item plain v carries. absurd (plain (v, carries))) sent (λ a b m. stamped_between gives 0 at k kept)
    (λ a b m. stamped_tick gives 0 at k kept One) (λ a b m. stamped_tick gives 0 at k kept (peer One))
    h.events h.replies l.flying old new l.links (side_turns at n One h.events h.turns) (arriving n gives at l.index l.flying old new healthy h t) h.acts l
  where
    sent : (a b : ℕ) → Within n a b → (fl : Side → List ItemValue) (i j : WorldState) → Stamped 0 at k kept i → OnCable l.index at fl i.links
        → (y : Asks gives (peer t) at fl i j) → (y.now t ≡ fl t) ⊎ Adds (IsStamped (k (peer t))) (fl t) (y.now t)
    sent a b few fl i j m on y = elim y.stamps [
      | inl same ↦ inl (ap (λ (f : Side → List ItemValue). f t) same)
      | inr (item, is, more) ↦ inr (
        item,
        λ v carries. is v carries ∙ m.counts (peer t),
        subst (λ u. y.now u ≡ fl u ++ item ∷ []) (peer_twice t)
            (ap (λ (f : Side → List ItemValue). f (peer (peer t))) more ∙ push_there (peer (peer t)) item fl),
      )
    ]

none_left : (n : ℕ) → 0 - n ≡ 0
none_left n = omega arith

abbrev pub counts_of : (Side → ℕ) → WorldState → Side → ℕ
counts_of at j s = change_count_in (history_at (half s j).histories (at s))

abbrev pub kept_of : (Side → ℕ) → WorldState → Side → Bool
kept_of at j s = is_some (history_at (half s j).histories (at s))

-- after the first round all that is on the cable names the ends as they are, and bears the present counts
pub first_late : (n : ℕ) (gives : Algorithms) (at : Side → ℕ) (w : Side → Lacpdu) (old new : WorldState) → Link 0 at w (λ _. 0) One Nothing old
    → TicksBeside n at OldArrive gives old new → Link 1 at w (λ _. 0) One Nothing new × Stamped 1 at (counts_of at old) (kept_of at old) new
first_late n gives at w old new l h =
    let base : Link 0 at w (λ _. 0) One Nothing new = other_ports (ticks_keep gives n One 0 at w (λ _. 0) old new fit then l h)
    (λ s p rest timed a. (subst (λ m. IsEnd 0 (w s) (w (peer s)) m p) (none_left n) a.0, a.1)) in (
      raised at w 0 1 (λ _. 0) One Nothing new (λ s. of_end base s (λ p. 2 ≤ 1 → Synced p) (λ p rest timed a f. absurd (omega (arith, f)))) base
          (λ t. let p = (good t).2 in
          subst (AllByRecursion (IsGood 1 w t)) (sym (same_items (good t).1 base.index at p.flying base.flying new p.on base.links t)) p.items),
      record {
        flying = base.flying;
        index = base.index;
        links = base.links;
        counts = (stamps One).0.counts;
        there = (stamps One).0.there;
        items = λ one t. (let p = (stamps t).1 in subst (AllByRecursion (IsStamped (counts_of at old (peer t))))
            (sym (same_items l.index base.index at p.flying base.flying new p.on base.links t)) p.items);
      },
    )
  where
    fit : Fits 0 w (λ _. 0)
    fit = λ t. (omega arith, λ m. omega (arith, m), λ m. absurd (omega (arith, m)), λ m. absurd (omega (arith, m)))

    then : Fits 0 w (ticked_by n (λ _. 0))
    then = λ t. (omega arith, λ m. omega (arith, m), λ m. absurd (omega (arith, m)), λ m. absurd (omega (arith, m)))

    good : (t : Side) → Link 0 at w (ticked_by n (λ _. 0)) (peer t) Nothing new × (x : ℕ) × Past t x at (IsGood 1 w t) 0 new
    good t = flush gives n 0 1 at w (λ _. 0) t Nothing fit then (λ a l. nothing_along (w (peer t)) (w (peer (peer t))) (0 - a) 0)
        (λ a l p q run rest k y. y) (λ p y. y) (λ p y f. absurd (omega (arith, f))) (λ f. absurd (omega (arith, f))) old new
        (other_ports l (λ s p rest timed a. (a.0, λ f. tt))) h

    stamps : (t : Side) → Stamped 0 at (counts_of at old) (kept_of at old) new × Past t l.index at (IsStamped (counts_of at old (peer t))) 0 new
    stamps t = stamps_flush n gives at (counts_of at old) (kept_of at old) t old new (record {
      flying = l.flying;
      index = l.index;
      links = l.links;
      counts = λ s. refl;
      there = λ s. refl;
      items = λ one. absurd (omega (arith, one));
    }) (healthy_link 0 at w (λ _. 0) One Nothing old l) h

-- An LACPDU that was on the cable when a late round began is heard in it.

module _ (gives : Algorithms) (d : ℕ) (at : Side → ℕ) (w : Side → Lacpdu) (s : Side) (there : 1 ≤ d)
    (named : (activity (w s) ≡ true) ⊎ IsNamed (w (peer s))) (D E : WorldState → Type 0) (extra : Extra gives d at w s there named D E)
    (n : ℕ) (few : n + 1 ≤ 30) (c : Side → ℕ) (fits : Fits d w c) (then : Fits d w (ticked_by n c)) (x : ℕ)
    (old : WorldState) (was : Side → List ItemValue)
    (stood : OnCable x at was old.links) where
  abbrev W : ℕ
  W = wait_of (w (peer s))

  abbrev kn : ℕ → ℕ → Side → ℕ
  kn = known_at c s

  abbrev State : ℕ → ℕ → ℕ → WorldState → Type 0
  State k a b j = (map link_ends j.links ≡ map link_ends old.links) × Comes gives d at w s there named D E extra k (kn a b) (W - b) j

  fit : (a b : ℕ) → Within n a b → Fits d w (kn a b)
  fit a b l = fits_at d w c s n fits then a b l

  way_kept : (k a b : ℕ) → Within n a b → KeptBeside at gives (State k a b)
  way_kept k a b l = both_kept (joins_kept at gives old.links)
      (comes_between gives d at w s there named D E extra k (kn a b) (W - b) (omega arith) (fit a b l))

  comes : (k a b : ℕ) → Within n a b → (e : HostEvent) (r : Reply) (i j : WorldState) → IsArrivalAt (peer s) x e → StepReplies gives i e r j
      → State (suc k) a b i → State k a b j
  comes k a b l e r i j come h (joins, inl ((o, f), da)) = (
    joins_kept at gives old.links e r i j (between_at at come) h joins,
    first_came gives d at w s there named D E extra k (kn a b) (W - b) (omega arith) (fit a b l) e r i j o
        (subst (λ y. IsArrivalAt (peer s) y e) (sym (stays_there x o.0.index at was o.0.flying old i stood o.0.links joins)) come) h da f,
  )
  comes k a b l e r i j come h (joins, inr m) = way_kept k a b l e r i j (between_at at come) h (joins, inr m)

  own : (k a b : ℕ) → Within n (suc a) b → MadeByTick gives s (State k a b) (State k (suc a) b)
  own k a b l = both_made gives s (joins_tick gives old.links s) (comes_own gives d at w s there named D E extra n few c fits then k a b l)

  other : (k a b : ℕ) → Within n a (suc b) → MadeByTick gives (peer s) (State k a b) (State k a (suc b))
  other k a b l =
      both_made gives (peer s) (joins_tick gives old.links (peer s)) (comes_other gives d at w s there named D E extra n few c fits then k a b l)

  -- so the peer has heard it after the round
  pub late_heard : (new : WorldState) (o : OnWay gives d at w s there named (kn 0 0) (Any gives d at w s there named) old) → Flying (o.0.flying (peer s))
      → D old → TicksBeside n at OldArrive gives old new → HasTold gives d at w s there named D E extra (kn n n) (W - n) new
  late_heard new o f da h = elim last.1 [ inl y ↦ absurd y.0.1 | inr m ↦ m ]
    where
      index : o.0.index ≡ x
      index = stays_there x o.0.index at was o.0.flying old old stood o.0.links refl

      last : State 0 n n new
      last = counted_on gives n s (peer s) x at State way_kept comes own other h.events h.replies old new (length (o.0.flying (peer s))) 0 0
          (side_turns at n s h.events h.turns)
          (subst (λ y. ArriveIn (length (o.0.flying (peer s))) (peer s) y h.events) index
          (subst (λ xs. ArriveIn (length xs) (peer s) o.0.index h.events) (towards_there (peer s) at o.0.flying)
          (h.empties (peer s) o.0.index (cable at o.0.flying)
          (healthy_link d at w (kn 0 0) s (Wakeful (w s) (w (peer s))) old o.0))))
          h.acts (refl, inl ((o, flying_first (o.0.flying (peer s)) f), da))

-- what is so of a world

-- X is so of the peer of s, if the last LACPDU that is on its way to it, if there is one, says that the end of s is synchronized; or
-- this end owes one
abbrev pub Said : (Side → ℕ) → (Side → Lacpdu) → Side → (Machines → Type 0) → WorldState → Type 0
Said at w s X j = OfEach (AtPort (at s) (Owes (w (peer s)))) (half s j).state.system_ports
    ⊎ ((x : ℕ) × (fl : Side → List ItemValue) × OnCable x at fl j.links
    × Tells (w (peer s)) (w s) (fl (peer s)) (OfEach (AtPort (at (peer s)) X) (half (peer s) j).state.system_ports))

abbrev pub Whoever : Machines → Type 0
Whoever p = Unit {0}

-- an LACPDU of the end of s is on the cable
abbrev pub Flies : (Side → ℕ) → Side → WorldState → Type 0
Flies at s j = (x : ℕ) × (fl : Side → List ItemValue) × OnCable x at fl j.links × Flying (fl (peer s))

-- In so many ticks the other end hears an LACPDU of the end of s, in rounds of no more ticks than the first number: it is due before the last
-- of those, which leave two such rounds for it; or it is on the cable.
abbrev pub AheadIn : ℕ → (Side → ℕ) → (Side → Lacpdu) → Side → Bool → ℕ → WorldState → Type 0
AheadIn most at w s fast m j = ((most + most ≤ m) × OfEach (AtPort (at s) (Sounds fast (m + 1 - (most + most)))) (half s j).state.system_ports)
    ⊎ ((most ≤ m) × Said at w s Whoever j × Flies at s j)

-- what is so once the other end has heard an LACPDU of the end of s in a round of so many ticks
pub record HearsIn (n d : ℕ) (at : Side → ℕ) (w : Side → Lacpdu) (k : Side → ℕ) (kept : Side → Bool) (c : Side → ℕ) (s : Side) (j : WorldState)
    : Type 0 where
  pub link : Link d at w (ticked_by n c) (peer s) (Learnt d (w (peer (peer s))) (wait_of (w (peer s)) - n)) j
  pub wakes : Wakes at w s j
  pub told : Said at w s PartnerInSync j
  pub took : Took at k kept (peer s) j

module _ (gives : Algorithms) (d : ℕ) (at : Side → ℕ) (w : Side → Lacpdu) (k : Side → ℕ) (kept : Side → Bool) (s : Side) (there : 1 ≤ d)
    (named : (activity (w s) ≡ true) ⊎ IsNamed (w (peer s))) where
  -- LACPDUs bear the present change counts
  abbrev Counted : WorldState → Type 0
  Counted j = Stamped 1 at k kept j

  extra : Extra gives d at w s there named (Stamped 1 at k kept) (Took-it gives 1 at k kept (peer s))
  extra = record {
    first = stamped_between gives 1 at k kept;
    second = took_between gives 1 at k kept (omega arith) (peer s);
    ticks_first = λ t. stamped_tick gives 1 at k kept t;
    ticks_second = λ t. took_tick gives 1 at k kept (peer s) t;
    hears = λ b i j l a v carries now st. took_now gives 1 at k kept (omega arith) d w b s (Wakeful (w s) (w (peer s))) (peer s) i j l a v carries
        now st;
  }

  abbrev Way : (Side → ℕ) → (Machines → Type 0) → WorldState → Type 0
  Way c X j = OnWay gives d at w s there named c X j

  on_way : (c : Side → ℕ) (X : Machines → Type 0) (j : WorldState) → Link d at w c s (Wakeful (w s) (w (peer s))) j → Said at w s X j → Way c X j
  on_way c X j l (inl owes) = (l, inl owes)
  on_way c X j l (inr (x, fl, on, tells)) = (
    l,
    inr (subst (λ xs. Tells (w (peer s)) (w s) xs
        (OfEach (AtPort (at (peer s)) X) (half (peer s) j).state.system_ports)) (sym (same_items x l.index at fl l.flying j on l.links (peer s))) tells),
  )

  said_of : (c : Side → ℕ) (X : Machines → Type 0) (j : WorldState) → Way c X j → Said at w s X j
  said_of c X j o = grind (arith, nat_tests)

  module _ (n : ℕ) (few : n + 1 ≤ 30) (c : Side → ℕ) (fits : Fits d w c) (then : Fits d w (ticked_by n c)) where
    woken : (x : Side) (j : WorldState) → Link d at w c x Nothing j → Wakes at w s j → Link d at w (known_at c s 0 0) s (Wakeful (w s) (w (peer s))) j
    woken x j l wakes = none_counted d at w c s s (Wakeful (w s) (w (peer s))) j (join d at w c x s (Wakeful (w s) (w (peer s))) j l wakes)

    of_told : (new : WorldState) → HasTold gives d at w s there named Counted (Took-it gives 1 at k kept (peer s)) extra (known_at c s n n)
        (wait_of (w (peer s)) - n) new → HearsIn n d at w k kept c s new
    of_told new ((l, o), e) = record {
      link = all_counted d at w c s (peer s) n (Learnt d (w (peer (peer s))) (wait_of (w (peer s)) - n)) new l;
      wakes = of_end o.0 s (Wakeful (w s) (w (peer s))) (λ p rest timed a. a.1 refl);
      told = said_of (known_at c s n n) PartnerInSync new o;
      took = e.1;
    }

    -- a round in which the end may send: Z holds of it in the end, or an LACPDU is on the cable, or the other end has heard one
    pub ticks_pass : (X V : ℕ → Machines → Type 0) (Z : Machines → Type 0) → TickPasses n X V Z (w s) (w (peer s)) (c s) d → (old new : WorldState)
        → Link d at w c s (X 0) old → Wakes at w s old → Counted old → TicksBeside n at OldArrive gives old new
        → Link d at w (ticked_by n c) s Z new ⊎ ((Wakes at w s new × Said at w s Whoever new × Flies at s new) ⊎ HearsIn n d at w k kept c s new)
    ticks_pass X V Z p old new l wakes stamped h = elim (turns gives d at w s there named Counted (Took-it gives 1 at k kept (peer s)) extra
        n few c fits then X V Z p old new l wakes h stamped) [
          | inl y ↦ inl (all_counted d at w c s s n Z new (other_ports y.0 (λ t p rest timed a. (a.0, λ f. (a.1 f).0))))
          | inr (m, inl ((o, f), y)) ↦ inr (inl (
            of_end o.0 s (Wakeful (w s) (w (peer s))) (λ p rest timed a. a.1 refl),
            said_of (known_at c s n n) Whoever new o,
            (o.0.index, o.0.flying, o.0.links, flying_in m (o.0.flying (peer s)) f),
          ))
          | inr (m, inr y) ↦ inr (inr (of_told new y))
        ]

    -- what is on the cable comes
    pub ticks_bring : (x : Side) (old new : WorldState) → Link d at w c x Nothing old → Wakes at w s old → Counted old → Said at w s Whoever old
        → Flies at s old → TicksBeside n at OldArrive gives old new → HearsIn n d at w k kept c s new
    ticks_bring x old new l wakes stamped said (y, fl, on, f) h =
        let o = on_way (known_at c s 0 0) Whoever old (woken x old l wakes) said in
        of_told new (late_heard gives d at w s there named Counted (Took-it gives 1 at k kept (peer s)) extra n few c fits then y old fl on new o
        (subst Flying (sym (same_items y o.0.index at fl o.0.flying old on o.0.links (peer s))) f) stamped h)

    -- an LACPDU of the end of s is nearer, or the other end has heard one: what it sounds goes on in X
    pub near_by : (most : ℕ) (fast : Bool) (m : ℕ) (X V : ℕ → Machines → Type 0) (Z : Machines → Type 0)
        → TickPasses n X V Z (w s) (w (peer s)) (c s) d → ((p : Machines) → Z p → Later fast (m + 1 - (most + most) - n) p)
        → (old new : WorldState) → n ≤ most → (OfEach (AtPort (at s) (Sounds fast (m + 1 - (most + most)))) (half s old).state.system_ports
        → OfEach (AtPort (at s) (X 0)) (half s old).state.system_ports) → Link d at w c One Nothing old → Wakes at w s old → Counted old
        → AheadIn most at w s fast m old → TicksBeside n at OldArrive gives old new
        → ((most ≤ m - n) × AheadIn most at w s fast (m - n) new) ⊎ HearsIn n d at w k kept c s new
    near_by most fast m X V Z passes later old new less first l wakes stamped (inr (one, said, flies)) h =
        inr (ticks_bring One old new l wakes stamped said flies h)
    near_by most fast m X V Z passes later old new less first l wakes stamped (inl (two, sounds)) h =
        elim (ticks_pass X V Z passes old new (join d at w c One s (X 0) old l (first sounds)) wakes stamped h) [
          | inl z ↦ (let more : 1 ≤ m + 1 - (most + most) - n = (later _ (beside_here d at w (ticked_by n c) s Z new z)).0 in
              let room : most + most ≤ m - n = omega (arith, more) in
              inl (
                omega (arith, room),
                inl (
                  room,
                  subst (λ q. OfEach (AtPort (at s) (Sounds fast q)) (half s new).state.system_ports) (nearer more)
                      (of_end z s (Sounds fast (m + 1 - (most + most) - n)) (λ p rest timed a. (later p (a.1 refl)).1)),
                ),
              ))
          | inr (inl y) ↦ (let room : most ≤ m - n = omega (arith, two, less) in inl (room, inr (room, y.1, y.2)))
          | inr (inr y) ↦ inr y
        ]
      where
        nearer : 1 ≤ m + 1 - (most + most) - n → m + 1 - (most + most) - n ≡ m - n + 1 - (most + most)
        nearer more = omega (arith, more)

    -- so it is with an end that may sound
    pub ticks_near : (most : ℕ) (fast : Bool) (m : ℕ) (old new : WorldState) → n ≤ most → ((a : ℕ) → a ≤ n → CanSound (w s) (w (peer s)) fast (c s - a))
        → Link d at w c One Nothing old → Wakes at w s old → Counted old → AheadIn most at w s fast m old → TicksBeside n at OldArrive gives old new
        → ((most ≤ m - n) × AheadIn most at w s fast (m - n) new) ⊎ HearsIn n d at w k kept c s new
    ticks_near most fast m old new less can l wakes stamped ahead h = let far : ℕ = m + 1 - (most + most) in
        near_by most fast m (λ a. Sounds fast (far - a)) (λ a. Sounds fast (far - a)) (Later fast (far - n))
        (sounds_by_ticks (w s) (w (peer s)) fast n (c s) d far can) (λ p y. y) old new less
        (λ y. subst (λ q. OfEach (AtPort (at s) (Sounds fast q)) (half s old).state.system_ports) (sym (no_less far)) y) l wakes stamped ahead h

    -- what it was told stays, or is on its way, and the end stays wakeful
    pub ticks_tell : {E : Clearing} (x : Side) (old new : WorldState) → Link d at w c x Nothing old → Wakes at w s old → TicksBeside n at E gives old new
        → n + 1 ≤ c (peer s) → Said at w s PartnerInSync old → Wakes at w s new × Said at w s PartnerInSync new
    ticks_tell x old new l wakes h known said =
        let o = stays_on gives d at w s there named Counted (Took-it gives 1 at k kept (peer s)) extra n few c fits then old new
        (on_way (known_at c s 0 0) PartnerInSync old (woken x old l wakes) said) h known in
        (of_end o.0 s (Wakeful (w s) (w (peer s))) (λ p rest timed a. a.1 refl), said_of (known_at c s n n) PartnerInSync new o)

-- what ends took bears the present counts

pub ticks_take : {E : Clearing} (gives : Algorithms) (at k : Side → ℕ) (kept : Side → Bool) (n : ℕ) (old new : WorldState)
    → TicksBeside n at E gives old new → (t : Side) → Took-it gives 1 at k kept t old → Took-it gives 1 at k kept t new
ticks_take {E} gives at k kept n old new h t was = keeps_ticks E at gives n (Took-it gives 1 at k kept t)
    (took_between gives 1 at k kept (omega arith) t) (λ s. took_tick gives 1 at k kept t s) old new h was

pub ticks_stamp : {E : Clearing} (b : ℕ) (gives : Algorithms) (at k : Side → ℕ) (kept : Side → Bool) (n : ℕ) (old new : WorldState)
    → TicksBeside n at E gives old new → Stamped b at k kept old → Stamped b at k kept new
ticks_stamp {E} b gives at k kept n old new h was = keeps_ticks E at gives n (Stamped b at k kept)
    (stamped_between gives b at k kept) (λ s. stamped_tick gives b at k kept s) old new h was
