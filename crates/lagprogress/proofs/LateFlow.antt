-- What a run leaves of the items that were on a cable, by the number of them that arrive.
use Rattle.lagprogress.proofs.Common.{List, Option, Result, Some, [], ap, arith, inl, inr, length, map, refl, slice_get, subst, suc, sym, zero, ℕ}
use Rattle.lagprogress.proofs.Common.{◌++◌, ◌==◌, ◌∙◌, ◌∷◌, ◌≡◌, ◌⊎◌, cases_Bool, nat_tests, same_Some, AllByRecursion, all-append, One, Side, end_at}
use Rattle.lagprogress.proofs.Common.{peer, value_of, SystemFault, Received, Receive, CallPromise, SystemState, Reply, Algorithms, DeliversFrom}
use Rattle.lagprogress.proofs.Common.{WorldSteps, side_of, link_ends, ItemValue, LinkState, WorldState, half, towards, end_is, HostEvent, Plays}
use Rattle.lagprogress.proofs.Common.{LeavesPorts, RunReplies, StepReplies, ArriveIn, IsArrivalAt, TicksAmong}
use Rattle.lagprogress.proofs.SeveralTicks.{Within, within}
use Rattle.lagsystem.specs.declared.drive.Reply.TheVariants as answer
use Rattle.lagscript.specs.declared.event.Event.TheVariants as event
use Rattle.lagprogress.proofs.Delivering.{responds_none}
use Rattle.lagprogress.proofs.EachRound.{joins_kept}
use Rattle.lagprogress.proofs.HostRound.{KeptBeside, MadeByTick, not_tick}
use Rattle.lagprogress.proofs.Linked.{Flying, HasLacpdu, asked_which, each_side, peer_twice, put_other, put_there}
use Rattle.lagprogress.proofs.OneCable.{Arrives, Asks, Back, Comes, Gains, OnCable, Stays, arrived, asks, cable, came, came_off, passed_by, put}
use Rattle.lagprogress.proofs.OneCable.{response, ticks, stays_beside, towards_there}
use Rattle.lagprogress.proofs.Quieting.{LeavesEnds, leaves_cable}
use Rattle.lagprogress.proofs.Telling.{back_other, went_other}

-- the first so many items

-- one of the first k items is an LACPDU
abbrev pub FlyingIn : ℕ → List ItemValue → Type 0
FlyingIn zero xs = ⊥
FlyingIn (suc k) [] = ⊥
FlyingIn (suc k) (x ∷ xs) = HasLacpdu x ⊎ FlyingIn k xs

-- each item but the first k is so
abbrev pub Beyond : (ItemValue → Type 0) → ℕ → List ItemValue → Type 0
Beyond P zero xs = AllByRecursion P xs
Beyond P (suc k) [] = Unit {0}
Beyond P (suc k) (x ∷ xs) = Beyond P k xs

pub flying_first : (xs : List ItemValue) → Flying xs → FlyingIn (length xs) xs
flying_first [] h = absurd h
flying_first (x ∷ xs) h = grind (arith, nat_tests, flying_first xs)

pub flying_push : (k : ℕ) (xs ys : List ItemValue) → FlyingIn k xs → FlyingIn k (xs ++ ys)
flying_push (suc k) (x ∷ xs) ys h = grind (arith, nat_tests, flying_push k xs ys)
flying_push k xs ys h = absurd h

pub flying_more : (k : ℕ) (xs : List ItemValue) → FlyingIn k xs → FlyingIn (suc k) xs
flying_more (suc k) (x ∷ xs) h = grind (arith, nat_tests, flying_more k xs)
flying_more k xs h = absurd h

pub flying_in : (k : ℕ) (xs : List ItemValue) → FlyingIn k xs → Flying xs
flying_in (suc k) (x ∷ xs) h = grind (arith, nat_tests, flying_in k xs)
flying_in k xs h = absurd h

pub beyond_first : (P : ItemValue → Type 0) (xs : List ItemValue) → Beyond P (length xs) xs
beyond_first P [] = tt
beyond_first P (x ∷ xs) = beyond_first P xs

beyond_none : (P : ItemValue → Type 0) (k : ℕ) → Beyond P k []
beyond_none P k = grind (arith, nat_tests)

beyond_less : (P : ItemValue → Type 0) (k : ℕ) (xs : List ItemValue) → Beyond P k xs → Beyond P (suc k) xs
beyond_less P (suc k) (x ∷ xs) h = beyond_less P k xs h
beyond_less P k xs h = grind (arith, nat_tests)

beyond_pop : (P : ItemValue → Type 0) (k : ℕ) (x : ItemValue) (xs : List ItemValue) → Beyond P k (x ∷ xs) → Beyond P k xs
beyond_pop P k x xs h = grind (arith, nat_tests, beyond_less)

beyond_push : (P : ItemValue → Type 0) (k : ℕ) (xs : List ItemValue) (x : ItemValue) → P x → Beyond P k xs → Beyond P k (xs ++ x ∷ [])
beyond_push P (suc k) (y ∷ ys) x p h = beyond_push P k ys x p h
beyond_push P k xs x p h = grind (arith, nat_tests, all-append, beyond_none)

-- what an event makes of the items towards an end

-- the item bears no LACPDU
abbrev pub IsPlain : ItemValue → Type 0
IsPlain item = HasLacpdu item → ⊥

-- the first item towards the end of t comes, or there is none
pub comes_in : (gives : Algorithms) (n i : ℕ) (t : Side) (at : Side → ℕ) (fl : Side → List ItemValue) (r : Reply) (old new : WorldState) → side_of n ≡ Some t
    → OnCable i at fl old.links → WorldSteps gives old (event.Deliver (suc i) n) r new → ((fl t ≡ []) × Stays old new) ⊎ Arrives gives t at fl old new
comes_in gives n i t at fl r old new named c h = let v = value_of (side_of n) _ h.0 in
    let same : v.0 ≡ t = same_Some v.0 t (sym v.1 ∙ named) in
    let m = value_of (slice_get old.links i) _ v.2 in
    let is : m.0 ≡ cable at fl = same_Some m.0 (cable at fl) (sym m.1 ∙ c.there) in
    by_items m.0 is (towards t m.0) refl
    (subst (λ s. DeliversFrom gives s i m.0 (towards s m.0) old r (record new { acted = old.acted })) same m.2)
  where
    by_items : (l : LinkState) → l ≡ cable at fl → (xs : List ItemValue) → towards t l ≡ xs
        → DeliversFrom gives t i l xs old r (record new { acted = old.acted }) → ((fl t ≡ []) × Stays old new) ⊎ Arrives gives t at fl old new
    by_items l is [] first x = inl (
      sym (ap (towards t) is ∙ towards_there t at fl) ∙ first,
      record {
        halves = λ u. ap (λ (j : WorldState). (half u j).state) x.1;
        logs = λ u. ap (λ (j : WorldState). (half u j).histories) x.1;
        links = ap (λ (j : WorldState). j.links) x.1;
      },
    )
    by_items l is (item ∷ rest) first x = inr (arrived gives t i at fl l old new c is (came gives t i l item rest r old new first x))

-- one item more, or what an Emit event of the end of s sends
gain : (s : Side) (o : Option (List ℕ)) (fl now : Side → List ItemValue) → Gains s o fl now
    → (now (peer s) ≡ fl (peer s)) ⊎ ((item : ItemValue) × (o ≡ Some item.octets) × (now (peer s) ≡ fl (peer s) ++ item ∷ []))
gain s o fl now h = grind (arith, nat_tests)

-- so it is towards the end of t, if its peer sends
pub gain_at : (t : Side) (o : Option (List ℕ)) (fl now : Side → List ItemValue) → Gains (peer t) o fl now
    → (now t ≡ fl t) ⊎ ((item : ItemValue) × (o ≡ Some item.octets) × (now t ≡ fl t ++ item ∷ []))
gain_at t o fl now h = grind (arith, nat_tests)

-- the item is added last
abbrev pub Adds : (ItemValue → Type 0) → List ItemValue → List ItemValue → Type 0
Adds P xs ys = (item : ItemValue) × P item × (ys ≡ xs ++ item ∷ [])

-- what an event between ticks does to the items towards the end of t: it leaves them, adds one that bears no LACPDU, takes the first,
-- or asks the other end
pub record Flows (gives : Algorithms) (t : Side) (x : ℕ) (at : Side → ℕ) (fl : Side → List ItemValue) (e : HostEvent) (old new : WorldState)
    : Type 0 where
  pub index : ℕ
  pub now : Side → List ItemValue
  pub on : OnCable index at now new.links
  pub moves : (now t ≡ fl t) ⊎ (Adds IsPlain (fl t) (now t) ⊎ (((item : ItemValue) × IsArrivalAt t x e × (fl t ≡ item ∷ now t))
      ⊎ ((a : Asks gives (peer t) at fl old new) × (now ≡ a.now))))

module _ (gives : Algorithms) (t : Side) (x : ℕ) (at : Side → ℕ) (fl : Side → List ItemValue) (r : Reply) (old new : WorldState)
    (c : OnCable x at fl old.links) where
  asked_flows : (n p : ℕ) → WorldSteps gives old (event.Emit n p) r new → Flows gives t x at fl (Plays (event.Emit n p)) old new
  asked_flows n p h = elim (asked_which gives n p x at fl r old new c h) [
    | inl (s, named, is) ↦ each_side (λ u. side_of n ≡ Some u → WorldSteps gives old (event.Emit n (at u)) r new
        → Flows gives t x at fl (Plays (event.Emit n p)) old new) t
        (λ told step. (let a = asks gives n t x at fl r old new told c step in
        record { index = a.index; now = a.now; on = a.links; moves = inl (went_other t a.a fl a.now a.went) }))
        (λ told step. (let a = asks gives n (peer t) x at fl r old new told c step in
        record { index = a.index; now = a.now; on = a.links; moves = inr (inr (inr (a, refl))) }))
        s named (subst (λ q. WorldSteps gives old (event.Emit n q) r new) is h)
    | inr b ↦ record { index = b.index; now = fl; on = b.links; moves = inl refl }
  ]

  -- what the end of s sends back when an item comes
  back_adds : (s : Side) (octets : List ℕ) (a : Result Received SystemFault) (i j : SystemState) (was now : Side → List ItemValue)
      → CallPromise (gives s) i (Receive (at s) octets) (answer.Receive a) j → Back s a was now
      → (now (peer s) ≡ was (peer s)) ⊎ Adds IsPlain (was (peer s)) (now (peer s))
  back_adds s octets a i j was now k h = elim (gain s (response a) was now h) [
    | inl e ↦ inl e
    | inr (item, is, e) ↦ inr (item, λ q. responds_none (gives s) (at s) octets a i j k item.octets is q.0 q.1, e)
  ]

  arrives_flows : (e : HostEvent) (s : Side) → IsArrivalAt s x e → Arrives gives s at fl old new → Flows gives t x at fl e old new
  arrives_flows e s come k = each_side (λ u. IsArrivalAt u x e → Arrives gives u at fl old new → Flows gives t x at fl e old new) t
      (λ come k. record {
        index = k.index;
        now = k.now;
        on = k.links;
        moves = inr (inr (inl (
          k.item,
          come,
          k.first ∙ ap (λ xs. k.item ∷ xs) (sym (back_other t k.a (put t k.rest fl) k.now k.back ∙ put_there t k.rest fl)),
        )));
      })
      (λ come k. record { index = k.index; now = k.now; on = k.links; moves = other k })
      s come k
    where
      other : (k : Arrives gives (peer t) at fl old new) → (k.now t ≡ fl t) ⊎ (Adds IsPlain (fl t) (k.now t)
          ⊎ (((item : ItemValue) × IsArrivalAt t x e × (fl t ≡ item ∷ k.now t)) ⊎ ((a : Asks gives (peer t) at fl old new) × (k.now ≡ a.now))))
      other k =
          let left : put (peer t) k.rest fl t ≡ fl t = subst (λ u. put (peer t) k.rest fl u ≡ fl u) (peer_twice t) (put_other (peer t) k.rest fl) in
          elim (subst (λ u. (k.now u ≡ put (peer t) k.rest fl u) ⊎ Adds IsPlain (put (peer t) k.rest fl u) (k.now u)) (peer_twice t)
          (back_adds (peer t) k.item.octets k.a (half (peer t) old).state (half (peer t) new).state (put (peer t) k.rest fl) k.now k.promise
          k.back)) [
            | inl e ↦ inl (e ∙ left)
            | inr (item, plain, e) ↦ inr (inl (item, plain, e ∙ ap (λ xs. xs ++ item ∷ []) left))
          ]

  came_flows : (cn n : ℕ) → WorldSteps gives old (event.Deliver cn n) r new → Flows gives t x at fl (Plays (event.Deliver cn n)) old new
  came_flows cn n h = elim (came_off gives cn n r old new h) [
    | inl m ↦ elim (cases_Bool (m.index == x)) [
      | inl b ↦ (let same : m.index ≡ x = grind (arith, nat_tests) in
          let is : m.link ≡ cable at fl = same_Some m.link (cable at fl) (sym m.there ∙ (ap (slice_get old.links) same ∙ c.there)) in
          arrives_flows (Plays (event.Deliver cn n)) m.side (n, m.named, ap (λ q. Plays (event.Deliver q n)) (m.numbered ∙ ap (λ k. suc k) same))
          (arrived gives m.side x at fl m.link old new c is (subst (λ k. Comes gives m.side k m.link old new) same m.comes)))
      | inr f ↦ (let other : m.index ≡ x → ⊥ = grind (arith, nat_tests) in
          let b = passed_by gives m.side x m.index at fl m.link old new c m.there other m.comes in
          record { index = b.index; now = fl; on = b.links; moves = inl refl })
    ]
    | inr m ↦ (let b = stays_beside gives x at fl old new c m in record { index = b.index; now = fl; on = b.links; moves = inl refl })
  ]

  quiet_flows : (e : HostEvent) → LeavesEnds at e → StepReplies gives old e r new → Flows gives t x at fl e old new
  quiet_flows e q h = let g = leaves_cable gives e x at fl r old new q h c in
      record {
        index = x;
        now = g.flying;
        on = g.on;
        moves = elim (g.grew t) [ inl e ↦ inl e | inr (item, plain, e) ↦ inr (inl (item, λ q. plain q.0 q.1, e)) ];
      }

  pub flows : (e : HostEvent) → LeavesPorts at e → StepReplies gives old e r new → Flows gives t x at fl e old new
  flows (Plays (event.Emit n p)) b h = asked_flows n p h
  flows (Plays (event.Deliver cn n)) b h = came_flows cn n h
  flows e b h = quiet_flows e b h

-- one of the first k items is an LACPDU still, or the first of them came
pub flying_flows : {gives : Algorithms} {t : Side} {x : ℕ} {at : Side → ℕ} {fl : Side → List ItemValue} {e : HostEvent} {old new : WorldState}
    (k : ℕ) (f : Flows gives t x at fl e old new) → FlyingIn k (fl t)
    → FlyingIn k (f.now t) ⊎ ((item : ItemValue) × IsArrivalAt t x e × (fl t ≡ item ∷ f.now t))
flying_flows k f hyp1 = grind (arith, nat_tests, flying_push, gain_at)

-- the cable stays where it stood
pub stays_there : (x y : ℕ) (at : Side → ℕ) (fl now : Side → List ItemValue) (old new : WorldState) → OnCable x at fl old.links
    → OnCable y at now new.links → map link_ends new.links ≡ map link_ends old.links → y ≡ x
stays_there x y at fl now old new c d e =
    let here : end_at (map link_ends new.links) One (suc y) ≡ Some (at One) = end_is One new.links y (cable at now) d.there in
    let there : end_at (map link_ends new.links) One (suc x) ≡ Some (at One) = subst (λ es. end_at es One (suc x) ≡ Some (at One)) (sym e)
    (end_is One old.links x (cable at fl) c.there) in
    let same : suc y ≡ suc x = d.cabling One (suc y) (suc x) (at One) here there in omega (arith, same)

-- a run in which so many items towards the end of t are still to arrive

pub between_at : (at : Side → ℕ) {t : Side} {x : ℕ} {e : HostEvent} → IsArrivalAt t x e → LeavesPorts at e
between_at at come = subst (LeavesPorts at) (sym come.2) tt

module _ (gives : Algorithms) (n : ℕ) (s t : Side) (x : ℕ) (at : Side → ℕ) (A : ℕ → ℕ → ℕ → WorldState → Type 0)
    (kept : (k a b : ℕ) → Within n a b → KeptBeside at gives (A k a b))
    (comes : (k a b : ℕ) → Within n a b → (e : HostEvent) (r : Reply) (i j : WorldState) → IsArrivalAt t x e → StepReplies gives i e r j → A (suc k) a b i
    → A k a b j)
    (own : (k a b : ℕ) → Within n (suc a) b → MadeByTick gives s (A k a b) (A k (suc a) b))
    (other : (k a b : ℕ) → Within n a (suc b) → MadeByTick gives (peer s) (A k a b) (A k a (suc b))) where
  -- an event that need not be an arrival
  step_on : (e : HostEvent) (es : List HostEvent) (r : Reply) (i j : WorldState) (k a b : ℕ) → TicksAmong (LeavesPorts at) n s a b (e ∷ es)
      → StepReplies gives i e r j → A k a b i → (c : ℕ) × (d : ℕ) × TicksAmong (LeavesPorts at) n s c d es × A k c d j
  step_on e es r i j k a b h run y = grind (arith, nat_tests, own, other, kept, within)

  pub counted_on : (es : List HostEvent) (rs : List Reply) (i j : WorldState) (k a b : ℕ) → TicksAmong (LeavesPorts at) n s a b es
      → ArriveIn k t x es → RunReplies gives i es rs j → A k a b i → A 0 n n j
  counted_on [] [] i j zero a b h come run y = grind (arith, nat_tests)
  counted_on [] [] i j (suc k) a b h come run y = absurd come
  counted_on (e ∷ es) (r ∷ rs) i j zero a b h come run y =
      let m = step_on e es r i run.0 0 a b h run.1 y in counted_on es rs run.0 j 0 m.0 m.1 m.2 tt run.2 m.3
  counted_on (e ∷ es) (r ∷ rs) i j (suc k) a b h (inr come) run y =
      let m = step_on e es r i run.0 (suc k) a b h run.1 y in counted_on es rs run.0 j (suc k) m.0 m.1 m.2 come run.2 m.3
  counted_on (e ∷ es) (r ∷ rs) i j (suc k) a b h (inl come) run y =
      grind (arith, nat_tests, not_tick (LeavesPorts at), between_at at come.0, comes, within, counted_on es rs run.0 j k a b)
  counted_on es rs i j k a b h come run y = absurd run

-- and so what is on the cable in the end has come to it in the run

-- each item towards the end of t but the first k is so, on the cable at index x
pub record Past (t : Side) (x : ℕ) (at : Side → ℕ) (P : ItemValue → Type 0) (k : ℕ) (j : WorldState) : Type 0 where
  pub flying : Side → List ItemValue
  pub on : OnCable x at flying j.links
  pub items : Beyond P k (flying t)

module _ (gives : Algorithms) (n : ℕ) (s t : Side) (x : ℕ) (at : Side → ℕ) (P : ItemValue → Type 0) (M : ℕ → ℕ → WorldState → Type 0)
    (plain : (item : ItemValue) → IsPlain item → P item)
    (sends : (a b : ℕ) → Within n a b → (fl : Side → List ItemValue) (i j : WorldState) → M a b i → OnCable x at fl i.links
    → (k : Asks gives (peer t) at fl i j) → (k.now t ≡ fl t) ⊎ Adds P (fl t) (k.now t))
    (kept : (a b : ℕ) → Within n a b → KeptBeside at gives (M a b))
    (own : (a b : ℕ) → Within n (suc a) b → MadeByTick gives s (M a b) (M (suc a) b))
    (other : (a b : ℕ) → Within n a (suc b) → MadeByTick gives (peer s) (M a b) (M a (suc b))) where
  abbrev A : ℕ → ℕ → ℕ → WorldState → Type 0
  A k a b j = M a b j × Past t x at P k j

  kept_past : (k a b : ℕ) → Within n a b → KeptBeside at gives (A k a b)
  kept_past k a b l e r i j q h (m, p) = let f = flows gives t x at p.flying r i j p.on e q h in
      let same = stays_there x f.index at p.flying f.now i j p.on f.on (joins_kept at gives i.links e r i j q h refl) in (
        kept a b l e r i j q h m,
        record {
          flying = f.now;
          on = subst (λ y. OnCable y at f.now j.links) same f.on;
          items = elim f.moves [
            | inl y ↦ subst (Beyond P k) (sym y) p.items
            | inr (inl (item, none, y)) ↦ subst (Beyond P k) (sym y) (beyond_push P k (p.flying t) item (plain item none) p.items)
            | inr (inr (inl (item, come, y))) ↦ beyond_pop P k item (f.now t) (subst (Beyond P k) y p.items)
            | inr (inr (inr (y, is))) ↦ subst (λ (g : Side → List ItemValue). Beyond P k (g t)) (sym is) (elim (sends a b l p.flying i j m p.on y) [
              | inl z ↦ subst (Beyond P k) (sym z) p.items
              | inr (item, good, z) ↦ subst (Beyond P k) (sym z) (beyond_push P k (p.flying t) item good p.items)
            ])
          ];
        },
      )

  comes_past : (k a b : ℕ) → Within n a b → (e : HostEvent) (r : Reply) (i j : WorldState) → IsArrivalAt t x e → StepReplies gives i e r j → A (suc k) a b i
      → A k a b j
  comes_past k a b l e r i j come h (m, p) = (kept a b l e r i j (between_at at come) h m, past)
    where
      past : Past t x at P k j
      past = elim (comes_in gives come.0 x t at p.flying r i j come.1 p.on (subst (λ y. StepReplies gives i y r j) come.2 h)) [
        | inl (none, stays) ↦ record {
          flying = p.flying;
          on = subst (OnCable x at p.flying) (sym stays.links) p.on;
          items = subst (Beyond P k) (sym none) (beyond_none P k);
        }
        | inr y ↦ (let same = stays_there x y.index at p.flying y.now i j p.on y.links (joins_kept at gives i.links e r i j (between_at at come) h refl) in
            record {
              flying = y.now;
              on = subst (λ z. OnCable z at y.now j.links) same y.links;
              items = subst (Beyond P k) (sym (back_other t y.a (put t y.rest p.flying) y.now y.back ∙ put_there t y.rest p.flying))
                  (subst (Beyond P (suc k)) y.first p.items);
            })
      ]

  past_tick : (u : Side) (k a b c d : ℕ) → MadeByTick gives u (M a b) (M c d) → MadeByTick gives u (A k a b) (A k c d)
  past_tick u k a b c d made number r i j named h (m, p) = grind (arith, nat_tests, ticks)

  pub cleared_on : (es : List HostEvent) (rs : List Reply) (fl : Side → List ItemValue) (i j : WorldState) → OnCable x at fl i.links
      → TicksAmong (LeavesPorts at) n s 0 0 es → ArriveIn (length (fl t)) t x es → RunReplies gives i es rs j → M 0 0 i → M n n j × Past t x at P 0 j
  cleared_on es rs fl i j c h come run m = counted_on gives n s t x at A kept_past comes_past
      (λ k a b l. past_tick s k a b (suc a) b (own a b l)) (λ k a b l. past_tick (peer s) k a b a (suc b) (other a b l))
      es rs i j (length (fl t)) 0 0 h come run (m, record { flying = fl; on = c; items = beyond_first P (fl t) })
