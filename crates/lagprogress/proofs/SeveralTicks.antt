-- What a round of several ticks leaves of a cable, by its stages.
use Rattle.lagprogress.proofs.Common.{Bool, List, [], ap, arith, false, inl, inr, refl, subst, suc, sym, true, zero, ℕ, ◌+◌, ◌-◌, ◌∙◌, ◌∷◌, ◌≡◌, ◌≤◌}
use Rattle.lagprogress.proofs.Common.{◌⊎◌, nat_tests, Lacpdu, One, Side, Two, peer, Machines, periodic_rows, receive_rows, AtRest, RunsToRest}
use Rattle.lagprogress.proofs.Common.{after_sending, count_down, Reply, Algorithms, WorldState, HostEvent, IsTimed, no, Sounds, LeavesPorts}
use Rattle.lagprogress.proofs.Common.{AfterTick, AtSomeWorld, Clearing, IsBetweenTicks, IsPlayedAmong, IsTickOf, PlayedAmong, RunReplies, StepReplies}
use Rattle.lagprogress.proofs.Common.{TickOnceAmong, OldArrive, AfterTicks, IsPlayedTicks, IsTickedRound, TickedRounds, TicksAmong}
use Rattle.lagprogress.proofs.Quieting.{leaves}
use Rattle.lagprogress.proofs.EndFacts.{Along, CanSound, IsEnd, activity, calm, nothing_along, sounds_along, ticks_sounds, wait_of}
use Rattle.lagprogress.proofs.HostRound.{Counts, IsTickless, KeptAmong, KeptBeside, MadeByTick, between, not_tick, one_of, tick_one, two, two_other}
use Rattle.lagprogress.proofs.HostRound.{two_there}
use Rattle.lagprogress.proofs.Linked.{Fits, Link, each_side, other_ports, other_side, peer_twice}
use Rattle.lagprogress.proofs.OneRound.{Asks, Later, Nothing, later_along, still_sounds}

-- a round of several ticks beside these ports
abbrev pub TicksBeside : ℕ → (Side → ℕ) → Clearing → Algorithms → WorldState → WorldState → Type 0
TicksBeside n at E gives old new = IsPlayedTicks (LeavesPorts at) E n gives old new

-- no more ticks of either system than that
abbrev pub Within : ℕ → ℕ → ℕ → Type 0
Within n a b = (a ≤ n) × (b ≤ n)

-- a round of one tick is one

-- the ticks that were
abbrev pub done : Bool → ℕ
done true = 0
done false = 1

pub once_turns : (May : HostEvent → Type 0) (s : Side) (es : List HostEvent) (a b : Bool) → TickOnceAmong May s a b es → TicksAmong May 1 s (done a) (done b) es
once_turns May s [] false false h = (refl, refl)
once_turns May s [] a b h = grind (arith, nat_tests, no)
once_turns May s (e ∷ es) a b h = grind (arith, nat_tests, no, once_turns May s es false b, once_turns May s es a false, once_turns May s es a b)

once_asked : (s : Side) (P : WorldState → Type 0) (gives : Algorithms) (es : List HostEvent) (rs : List Reply) (old new : WorldState)
    (run : RunReplies gives old es rs new) → AfterTick s P gives es rs old new run → AfterTicks s P 1 gives es rs old new run
once_asked s P gives (e ∷ es) (r ∷ rs) old new run (inl y) = inl y
once_asked s P gives (e ∷ es) (r ∷ rs) old new run (inr y) = inr (once_asked s P gives es rs run.0 new run.2 y)
once_asked s P gives es rs old new run y = absurd y

pub once : {May : HostEvent → Type 0} {E : Clearing} {gives : Algorithms} {old new : WorldState} → IsPlayedAmong May E gives old new
    → IsPlayedTicks May E 1 gives old new
once {May} {E} {gives} {old} {new} h = record {
  events = h.events;
  replies = h.replies;
  turns = once_turns May One h.events true true h.ticks;
  acts = h.acts;
  asked = λ s i l y. once_asked s _ gives h.events h.replies old new h.acts (h.asked s i l y);
  empties = h.empties;
}

-- late rounds of so many ticks at the most

pub rounds_on : (May : HostEvent → Type 0) (most : ℕ) (gives : Algorithms) (S : ℕ → WorldState → Type 0) (start : WorldState) → S 0 start
    → ((n : ℕ) (old new : WorldState) → IsTickedRound May most gives old new → S n old → S (n + 1) new)
    → (n : ℕ) (new : WorldState) → TickedRounds May most gives n start new → S n new
rounds_on May most gives S start first next zero new h = subst (S 0) (sym h) first
rounds_on May most gives S start first next (suc n) new h =
    subst (λ m. S m new) (omega arith) (next n h.0 new h.2 (rounds_on May most gives S start first next n h.0 h.1))

-- rounds of one tick are such rounds
pub rounds_once : (May : HostEvent → Type 0) (most : ℕ) (gives : Algorithms) → 1 ≤ most → (n : ℕ) (old new : WorldState)
    → PlayedAmong May OldArrive gives n old new → TickedRounds May most gives n old new
rounds_once May most gives some zero old new h = h
rounds_once May most gives some (suc n) old new h = (h.0, rounds_once May most gives some n old h.0 h.1, (1, omega arith, some, once h.2))

-- what hosts do between ticks leaves the ends of a cable
pub turns_less : (May New : HostEvent → Type 0) → ((e : HostEvent) → May e → New e) → (n : ℕ) (s : Side) (a b : ℕ) (es : List HostEvent)
    → TicksAmong May n s a b es → TicksAmong New n s a b es
turns_less May New less n s a b [] h = h
turns_less May New less n s a b (e ∷ es) h =
    grind (arith, nat_tests, less, turns_less May New less n s (suc a) b es, turns_less May New less n s a (suc b) es, turns_less May New less n s a b es)

pub several_beside : (at : Side → ℕ) (E : Clearing) (gives : Algorithms) (n : ℕ) (old new : WorldState) → IsPlayedTicks IsBetweenTicks E n gives old new
    → TicksBeside n at E gives old new
several_beside at E gives n old new h = record {
  events = h.events;
  replies = h.replies;
  turns = turns_less IsBetweenTicks (LeavesPorts at) (leaves at) n One 0 0 h.events h.turns;
  acts = h.acts;
  asked = h.asked;
  empties = h.empties;
}

pub rounds_beside : (at : Side → ℕ) (most : ℕ) (gives : Algorithms) (n : ℕ) (old new : WorldState) → TickedRounds IsBetweenTicks most gives n old new
    → TickedRounds (LeavesPorts at) most gives n old new
rounds_beside at most gives zero old new h = h
rounds_beside at most gives (suc n) old new h =
    let r = h.2 in (h.0, rounds_beside at most gives n old h.0 h.1, (r.0, r.1, r.2, several_beside at OldArrive gives r.0 h.0 new r.3))

-- the events of a round, in the eyes of either system

pub turned : (May : HostEvent → Type 0) (n : ℕ) (es : List HostEvent) (a b : ℕ) → TicksAmong May n One a b es → TicksAmong May n Two b a es
turned May n [] a b h = (h.1, h.0)
turned May n (e ∷ es) a b h = grind (arith, nat_tests, turned May n es (suc a) b, turned May n es a (suc b), turned May n es a b)

pub side_turns : (at : Side → ℕ) (n : ℕ) (s : Side) (es : List HostEvent) → TicksAmong (LeavesPorts at) n One 0 0 es → TicksAmong (LeavesPorts at) n s 0 0 es
side_turns at n One es h = h
side_turns at n Two es h = turned (LeavesPorts at) n es 0 0 h

pub within : (May : HostEvent → Type 0) (n : ℕ) (s : Side) (es : List HostEvent) (a b : ℕ) → TicksAmong May n s a b es → Within n a b
within May n s [] a b h = grind (arith, nat_tests)
within May n s (e ∷ es) a b h = grind (arith, nat_tests, within May n s es (suc a) b, within May n s es a (suc b), within May n s es a b)

-- what holds through a round, without the question what was due
module _ (May : HostEvent → Type 0) (gives : Algorithms) (n : ℕ) (s : Side) (A : ℕ → ℕ → WorldState → Type 0)
    (kept : (a b : ℕ) → Within n a b → KeptAmong May gives (A a b))
    (own : (a b : ℕ) → Within n (suc a) b → MadeByTick gives s (A a b) (A (suc a) b))
    (other : (a b : ℕ) → Within n a (suc b) → MadeByTick gives (peer s) (A a b) (A a (suc b))) where
  pub holds_turns : (es : List HostEvent) (rs : List Reply) (i j : WorldState) (a b : ℕ) → TicksAmong May n s a b es → RunReplies gives i es rs j
      → A a b i → A n n j
  holds_turns [] [] i j a b h run m = subst (λ x. A n n x) (sym run) (subst (λ x. A n x i) h.1 (subst (λ x. A x b i) h.0 m))
  holds_turns (e ∷ es) (r ∷ rs) i j a b h run m = grind (arith, nat_tests, own, other, kept, within, holds_turns es rs run.0 j)
  holds_turns es rs i j a b h run m = absurd run

pub holds_ticks : (E : Clearing) (at : Side → ℕ) (gives : Algorithms) (n : ℕ) (s : Side) (A : ℕ → ℕ → WorldState → Type 0)
    → ((a b : ℕ) → Within n a b → KeptBeside at gives (A a b)) → ((a b : ℕ) → Within n (suc a) b → MadeByTick gives s (A a b) (A (suc a) b))
    → ((a b : ℕ) → Within n a (suc b) → MadeByTick gives (peer s) (A a b) (A a (suc b))) → (old new : WorldState) → TicksBeside n at E gives old new → A 0 0 old
    → A n n new
holds_ticks E at gives n s A kept own other old new h m = holds_turns (LeavesPorts at) gives n s A kept own other h.events h.replies old new 0 0
    (side_turns at n s h.events h.turns) h.acts m

-- what each event and each tick keeps, a round does
pub keeps_ticks : (E : Clearing) (at : Side → ℕ) (gives : Algorithms) (n : ℕ) (M : WorldState → Type 0) → KeptBeside at gives M
    → ((s : Side) → MadeByTick gives s M M) → (old new : WorldState) → TicksBeside n at E gives old new → M old → M new
keeps_ticks E at gives n M kept ticks old new h m =
    holds_ticks E at gives n One (λ a b. M) (λ a b k. kept) (λ a b k. ticks One) (λ a b k. ticks Two) old new h m

-- A through the ticks of s, and C once P held behind the last one; the numbers are those of the ticks that were
pub record TickStages (May : HostEvent → Type 0) (gives : Algorithms) (n : ℕ) (s : Side) (A : ℕ → ℕ → WorldState → Type 0)
    (C : ℕ → WorldState → Type 0) (P : WorldState → Type 0) : Type 0 where
  pub none : IsTickless May
  pub first : (a b : ℕ) → Within n a b → KeptAmong May gives (A a b)
  pub third : (b : ℕ) → b ≤ n → KeptAmong May gives (C b)
  pub own : (a b : ℕ) → Within n (suc a) b → MadeByTick gives s (A a b) (A (suc a) b)
  pub other_first : (a b : ℕ) → Within n a (suc b) → MadeByTick gives (peer s) (A a b) (A a (suc b))
  pub other_third : (b : ℕ) → suc b ≤ n → MadeByTick gives (peer s) (C b) (C (suc b))
  pub rests : (b : ℕ) → b ≤ n → (j : WorldState) → P j → A n b j → C b j

module _ (May : HostEvent → Type 0) (gives : Algorithms) (n : ℕ) (s : Side) (A : ℕ → ℕ → WorldState → Type 0) (C : ℕ → WorldState → Type 0)
    (P : WorldState → Type 0) (k : TickStages May gives n s A C P) where
  tick_of : (t : Side) (M N : WorldState → Type 0) → MadeByTick gives t M N → (e : HostEvent) (r : Reply) (i j : WorldState) → IsTickOf t e
      → StepReplies gives i e r j → M i → N j
  tick_of t M N f e r i j (m, named, is) h y = f m r i j named (subst (λ x. StepReplies gives i x r j) is h) y

  all_ticks : suc n ≤ n → ⊥
  all_ticks l = omega (arith, l)

  third_on : (es : List HostEvent) (rs : List Reply) (i j : WorldState) (b : ℕ) → TicksAmong May n s n b es → RunReplies gives i es rs j → C b i → C n j
  third_on [] [] i j b h run m = grind (arith, nat_tests)
  third_on (e ∷ es) (r ∷ rs) i j b h run m =
      grind (arith, nat_tests, all_ticks, within, tick_of, k.other_third, k.third, third_on es rs run.0 j (suc b), third_on es rs run.0 j b)
  third_on es rs i j b h run m = absurd run

  second_on : (es : List HostEvent) (rs : List Reply) (i j : WorldState) (b : ℕ) → TicksAmong May n s n b es → (run : RunReplies gives i es rs j)
      → AtSomeWorld P gives es rs i j run → A n b i → C n j
  second_on [] [] i j b h run a m = third_on [] [] i j b h run (k.rests b (within May n s [] n b h).1 i a m)
  second_on (e ∷ es) (r ∷ rs) i j b h run (inl a) m = third_on (e ∷ es) (r ∷ rs) i j b h run (k.rests b (within May n s (e ∷ es) n b h).1 i a m)
  second_on (e ∷ es) (r ∷ rs) i j b (inl h) run (inr a) m = absurd (all_ticks (within May n s es (suc n) b h.1).0)
  second_on (e ∷ es) (r ∷ rs) i j b (inr (inl h)) run (inr a) m = second_on es rs run.0 j (suc b) h.1 run.2 a
      (tick_of (peer s) (A n b) (A n (suc b)) (k.other_first n b (within May n s es n (suc b) h.1)) e r i run.0 h.0 run.1 m)
  second_on (e ∷ es) (r ∷ rs) i j b (inr (inr h)) run (inr a) m =
      second_on es rs run.0 j b h.1 run.2 a (k.first n b (within May n s es n b h.1) e r i run.0 h.0 run.1 m)
  second_on es rs i j b h run a m = absurd run

  -- no more ticks of s are to come than there may be
  few_left : (es : List HostEvent) (rs : List Reply) (i j : WorldState) (a b m : ℕ) → TicksAmong May n s a b es → (run : RunReplies gives i es rs j)
      → AfterTicks s P m gives es rs i j run → a + m ≤ n
  few_left es rs i j a b zero h run y = let l = (within May n s es a b h).0 in omega (arith, l)
  few_left (e ∷ es) (r ∷ rs) i j a b (suc m) h run y = grind (
    arith,
    nat_tests,
    one_of s e,
    not_tick May k.none s e,
    few_left es rs run.0 j (suc a) b m,
    few_left es rs run.0 j (suc a) b (suc m),
    few_left es rs run.0 j a (suc b) (suc m),
    few_left es rs run.0 j a b (suc m),
  )
  few_left es rs i j a b m h run y = absurd y

  pub ticks_on : (es : List HostEvent) (rs : List Reply) (i j : WorldState) (a b m : ℕ) → a + m ≡ n → TicksAmong May n s a b es
      → (run : RunReplies gives i es rs j) → AfterTicks s P m gives es rs i j run → A a b i → C n j
  ticks_on es rs i j a b zero e h run y x = let all : a ≡ n = omega (arith, e) in
      second_on es rs i j b (subst (λ q. TicksAmong May n s q b es) all h) run y (subst (λ q. A q b i) all x)
  ticks_on (f ∷ es) (r ∷ rs) i j a b (suc m) e (inl h) run (inl y) x = ticks_on es rs run.0 j (suc a) b m (omega (arith, e)) h.1 run.2 y.1
      (tick_of s (A a b) (A (suc a) b) (k.own a b (within May n s es (suc a) b h.1)) f r i run.0 h.0 run.1 x)
  ticks_on (f ∷ es) (r ∷ rs) i j a b (suc m) e (inl h) run (inr y) x =
      let l = few_left es rs run.0 j (suc a) b (suc m) h.1 run.2 y in absurd (omega (arith, l, e))
  ticks_on (f ∷ es) (r ∷ rs) i j a b (suc m) e (inr h) run y x = grind (
    arith,
    nat_tests,
    one_of s f,
    not_tick May k.none s f,
    within,
    tick_of,
    k.other_first,
    k.first,
    ticks_on es rs run.0 j a (suc b) (suc m),
    ticks_on es rs run.0 j a b (suc m),
  )
  ticks_on es rs i j a b m e h run y x = absurd y

-- what is known in a round, by the ticks that were

pub no_less : (m : ℕ) → m - 0 ≡ m
no_less m = omega arith

-- so many ticks less
abbrev pub ticked_by : ℕ → (Side → ℕ) → Side → ℕ
ticked_by n c s = c s - n

abbrev pub known_at : (Side → ℕ) → Side → ℕ → ℕ → Side → ℕ
known_at c s a b = two s (c s - a) (c (peer s) - b)

pub own_counted : (d : ℕ) (w : Side → Lacpdu) (c : Side → ℕ) (s : Side) (n : ℕ) → Fits d w (ticked_by n c) → (a b : ℕ) → Within n (suc a) b
    → Counts d s (known_at c s a b) (known_at c s (suc a) b)
own_counted d w c s n then a b k = grind (arith, nat_tests, two_there, two_other, peer_twice)

pub peer_counted : (d : ℕ) (w : Side → Lacpdu) (c : Side → ℕ) (s : Side) (n : ℕ) → Fits d w (ticked_by n c) → (a b : ℕ) → Within n a (suc b)
    → Counts d (peer s) (known_at c s a b) (known_at c s a (suc b))
peer_counted d w c s n then a b k = grind (arith, nat_tests, two_there, two_other, peer_twice)

-- so many ticks known of one end fit
abbrev FitsHere : ℕ → (Side → Lacpdu) → Side → ℕ → Type 0
FitsHere d w t m = (m ≤ wait_of (w t)) × (1 ≤ m → 1 ≤ d) × (2 ≤ d → 1 ≤ m) × (2 ≤ d → (activity (w (peer t)) ≡ true) ⊎ (activity (w t) ≡ true))

pub fits_at : (d : ℕ) (w : Side → Lacpdu) (c : Side → ℕ) (s : Side) (n : ℕ) → Fits d w c → Fits d w (ticked_by n c) → (a b : ℕ) → Within n a b
    → Fits d w (known_at c s a b)
fits_at d w c s n fits then a b k t = let f = fits t in let g = then t in grind (arith, nat_tests, two_there, two_other, peer_twice)

pub all_counted : (d : ℕ) (at : Side → ℕ) (w : Side → Lacpdu) (c : Side → ℕ) (s x : Side) (n : ℕ) (Y : Machines → Type 0) (j : WorldState)
    → Link d at w (known_at c s n n) x Y j → Link d at w (ticked_by n c) x Y j
all_counted d at w c s x n Y j l = other_ports l (λ t p rest timed a. grind (arith, nat_tests))

pub none_counted : (d : ℕ) (at : Side → ℕ) (w : Side → Lacpdu) (c : Side → ℕ) (s x : Side) (Y : Machines → Type 0) (j : WorldState)
    → Link d at w c x Y j → Link d at w (known_at c s 0 0) x Y j
none_counted d at w c s x Y j l = other_ports l (λ t p rest timed a. grind (arith, nat_tests))

-- what a tick makes of a cable, with something beside it: the tick of x, and that of its peer

pub own_at : (gives : Algorithms) (x : Side) (d : ℕ) (at : Side → ℕ) (w : Side → Lacpdu) (c : Side → ℕ) (n : ℕ) (Y Z : Machines → Type 0)
    → Fits d w (ticked_by n c) → (a b : ℕ) → Within n (suc a) b → Along Z (w x) (w (peer x)) (c x - suc a) d
    → ((p q : Machines) → RunsToRest receive_rows (count_down p) q → AtRest periodic_rows p → IsEnd d (w x) (w (peer x)) (c x - a) p → Y p → Z q)
    → MadeByTick gives x (Link d at w (known_at c x a b) x Y) (Link d at w (known_at c x (suc a) b) x Z)
own_at gives x d at w c n Y Z then a b k last moves m r i j named step l = (tick_one gives m x d at w (known_at c x a b) (known_at c x (suc a) b) x Y Z
    r i j named (own_counted d w c x n then a b k)
    (subst (λ q. Along Z (w x) (w (peer x)) q d) (sym (two_there x (c x - suc a) (c (peer x) - b))) last)
    (λ p q run rest e f y. moves p q run rest (subst (λ q. IsEnd d (w x) (w (peer x)) q p) (two_there x (c x - a) (c (peer x) - b)) e) y)
    (λ p f y. absurd (other_side x f)) step l).link

pub peer_at : (gives : Algorithms) (x : Side) (d : ℕ) (at : Side → ℕ) (w : Side → Lacpdu) (c : Side → ℕ) (n : ℕ) (N : Machines → Type 0)
    → Fits d w (ticked_by n c) → (a b : ℕ) → Within n a (suc b) → Along N (w x) (w (peer x)) (c x - a) d
    → MadeByTick gives (peer x) (Link d at w (known_at c x a b) x N) (Link d at w (known_at c x a (suc b)) x N)
peer_at gives x d at w c n N then a b k along m r i j named step l = (tick_one gives m (peer x) d at w (known_at c x a b) (known_at c x a (suc b)) x N N
    r i j named (peer_counted d w c x n then a b k)
    (subst (λ q. Along N (w x) (w (peer x)) q d) (sym (two_there x (c x - a) (c (peer x) - suc b))) along)
    (λ p q run rest e f y. absurd (other_side x f)) (λ p f y. y) step l).link

-- a round with something beside it that each event keeps, by the ticks of x that were
pub ticks_hold : {E : Clearing} (gives : Algorithms) (n : ℕ) (x : Side) (d : ℕ) (at : Side → ℕ) (w : Side → Lacpdu) (c : Side → ℕ)
    (Y : ℕ → Machines → Type 0) (old new : WorldState) → Fits d w c → Fits d w (ticked_by n c)
    → ((a : ℕ) → a ≤ n → Along (Y a) (w x) (w (peer x)) (c x - a) d)
    → ((a : ℕ) → suc a ≤ n → (p q : Machines) → RunsToRest receive_rows (count_down p) q → AtRest periodic_rows p
    → IsEnd d (w x) (w (peer x)) (c x - a) p → Y a p → Y (suc a) q)
    → ((a : ℕ) (p : Machines) → Y a p → Y a (after_sending p))
    → Link d at w c x (Y 0) old → TicksBeside n at E gives old new → Link d at w (ticked_by n c) x (Y n) new
ticks_hold {E} gives n x d at w c Y old new fits then along moves sends l h =
    all_counted d at w c x x n (Y n) new (holds_ticks E at gives n x (λ a b j. Link d at w (known_at c x a b) x (Y a) j)
    (λ a b k. between gives d at w (known_at c x a b) x (Y a) (fits_at d w c x n fits then a b k)
    (subst (λ q. Along (Y a) (w x) (w (peer x)) q d) (sym (two_there x (c x - a) (c (peer x) - b))) (along a k.0)) (sends a))
    (λ a b k. own_at gives x d at w c n (Y a) (Y (suc a)) then a b k (along (suc a) k.0) (moves a k.0))
    (λ a b k. peer_at gives x d at w c n (Y a) then a b k (along a k.0)) old new h (none_counted d at w c x x (Y 0) old l))

-- and with nothing beside it, even if nothing is known of what comes
pub ticks_keep : {E : Clearing} (gives : Algorithms) (n : ℕ) (x : Side) (d : ℕ) (at : Side → ℕ) (w : Side → Lacpdu) (c : Side → ℕ) (old new : WorldState)
    → Fits d w c → Fits d w (ticked_by n c) → Link d at w c x Nothing old → TicksBeside n at E gives old new → Link d at w (ticked_by n c) x Nothing new
ticks_keep gives n x d at w c old new fits then l h = ticks_hold gives n x d at w c (λ a. Nothing) old new fits then
    (λ a k. nothing_along (w x) (w (peer x)) (c x - a) d) (λ a k p q r rest e y. y) (λ a p y. y) l h

-- what holds of the end of s in a round: X by the ticks that were, V just after one of them, and Z once it is asked behind the last one and
-- nothing is due
pub record TickPasses (n : ℕ) (X V : ℕ → Machines → Type 0) (Z : Machines → Type 0) (v u : Lacpdu) (c d : ℕ) : Type 0 where
  pub ticks : (a : ℕ) → suc a ≤ n → (p q : Machines) → RunsToRest receive_rows (count_down p) q → AtRest periodic_rows p
      → IsEnd d v u (c - a) p → X a p → V (suc a) q
  pub ticked : (a : ℕ) → a ≤ n → Along (V a) v u (c - a) d
  pub rests : (a : ℕ) → a ≤ n → (p : Machines) → AtRest periodic_rows p → IsTimed p → IsEnd d v u (c - a) p → V a p → X a p
  pub waits : (a : ℕ) → a ≤ n → Along (X a) v u (c - a) d
  pub asks : Asks d (X n) Z v u (c - n)
  pub asked : Along Z v u (c - n) d

pub sounds_by_ticks : (v u : Lacpdu) (fast : Bool) (n c d most : ℕ) → ((a : ℕ) → a ≤ n → CanSound v u fast (c - a))
    → TickPasses n (λ a. Sounds fast (most - a)) (λ a. Sounds fast (most - a)) (Later fast (most - n)) v u c d
sounds_by_ticks v u fast n c d most can = record {
  ticks = λ a l p q r rest e y. subst (λ m. Sounds fast m q) (omega arith)
      (ticks_sounds d v u fast (c - a) (most - a) p q (can a (omega (arith, l))) r rest e y);
  ticked = λ a l. sounds_along v u fast (c - a) d (most - a) (can a l);
  rests = λ a l p rest timed e y. y;
  waits = λ a l. sounds_along v u fast (c - a) d (most - a) (can a l);
  asks = λ p rest timed e y not. (still_sounds fast (most - n) p rest (calm d v u fast (c - n) p (can n (omega arith)) e).0 not y, y);
  asked = later_along v u fast (c - n) d (most - n) (can n (omega arith));
}
