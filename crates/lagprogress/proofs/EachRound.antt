-- What healthy rounds keep of each port of a system, and of the cables.
use Rattle.lagprogress.proofs.Common.{Bool, List, Some, ap, arith, false, inl, inr, map, refl, slice_get, subst, suc, sym, true, zero, ℕ, ◌+◌, ◌∙◌}
use Rattle.lagprogress.proofs.Common.{◌≡◌, ◌≤◌, nat_tests, Party, Lacpdu, One, Side, Two, end_at, peer, Machines, receive_rows, RunsToRest}
use Rattle.lagprogress.proofs.Common.{after_sending, count_down, Table, SystemPort, ProcessesLacpdu, Receive, SystemState, with_system_ports}
use Rattle.lagprogress.proofs.Common.{with_table, Reply, Algorithms, WorldSteps, link_ends, ItemValue, LinkState, WorldState, half, port_at, end_is}
use Rattle.lagprogress.proofs.Common.{HostEvent, Plays, KeptBySettling, OfEach, Step-each, Tick-each, asked_each, AtPort, settling_leaves, runs_keep}
use Rattle.lagprogress.proofs.Common.{takes_keep, Clearing, IsBetweenTicks, IsPlayed, IsPlayedAmong, PlayedAmong, PlayedRounds, StepReplies, IsSteady}
use Rattle.lagprogress.proofs.Linked.{each_side, peer_twice}
use Rattle.lagprogress.proofs.Quieting.{calm_steady, calm_keeps, leaves_ends, IsCalm, calm_between, leaves, quiet_ports, replayed, asked_half}
use Rattle.lagprogress.proofs.Quieting.{came_half}
use Rattle.lagprogress.proofs.OneCable.{OnCable, cable, deliver_ends, emits, ticks}
use Rattle.lagprogress.proofs.OneRound.{ticked}
use Rattle.lagprogress.proofs.HostRound.{KeptBeside, KeptBetween, MadeByTick, of_side}
use Rattle.lagprogress.proofs.SeveralTicks.{Within, done, once_turns, holds_turns}
use Rattle.lagsystem.specs.declared.drive.Reply.TheVariants as answer
use Rattle.lagscript.specs.declared.event.Event.TheVariants as event

-- what settling, sending and a receipt keep of each port; the number is the port's
pub record RoundKeeps (P : ℕ → Machines → Type 0) : Type 0 where
  pub settles : KeptBySettling P
  pub sends : (n : ℕ) (p : Machines) → P n p → P n (after_sending p)
  pub takes : (n : ℕ) (v : Lacpdu) (p q : Machines) → ProcessesLacpdu v p q → P n p → P n q

-- so it is with each port of system s
abbrev pub EachAt : (ℕ → Machines → Type 0) → Side → WorldState → Type 0
EachAt P s j = OfEach P (half s j).state.system_ports

pub asks_each : (P : ℕ → Machines → Type 0) → RoundKeeps P → (s : Side) (gives : Algorithms) (n p : ℕ) (r : Reply) (old new : WorldState)
    → WorldSteps gives old (event.Emit n p) r new → EachAt P s old → EachAt P s new
asks_each P k s gives n p r old new h a = elim (asked_half gives n p r old new h s) [
  | inl same ↦ subst (λ (z : SystemState). OfEach P z.system_ports) (sym same) a
  | inr (b, step) ↦ asked_each P k.sends (gives s) p b (half s old).state (half s new).state step a
]

pub delivers_each : (P : ℕ → Machines → Type 0) → RoundKeeps P → (s : Side) (gives : Algorithms) (c n : ℕ) (r : Reply) (old new : WorldState)
    → WorldSteps gives old (event.Deliver c n) r new → EachAt P s old → EachAt P s new
delivers_each P k s gives c n r old new h a = elim (came_half gives c n r old new h s) [
  | inl same ↦ subst (λ (z : SystemState). OfEach P z.system_ports) (sym same) a
  | inr (i, l, there, m) ↦ Step-each P k.settles (gives s) (half s old).state (Receive (port_at s l) m.item.octets) (answer.Receive m.a)
      (half s new).state (λ v p q took came does d. k.takes (port_at s l) v p q does d) m.promise.step a
]

-- the own parameters of a port, and whether its link is up: no event of a round changes them
module _ (X : Party → Bool → Type 0) (n : ℕ) where
  pub own_keeps : RoundKeeps (AtPort n (λ p. X p.party p.enabled))
  own_keeps = record {
    settles = settling_leaves (AtPort n (λ p. X p.party p.enabled));
    sends = λ m p a e. a e;
    takes = λ m v p q h a e. takes_keep (λ p. X p.party p.enabled) v (λ p a. a, tt) p q h (a e);
  }

  pub own_ticks : (m : ℕ) (p q : Machines) → RunsToRest receive_rows (count_down p) q → AtPort n (λ p. X p.party p.enabled) m p
      → AtPort n (λ p. X p.party p.enabled) m q
  own_ticks m p q h a e = runs_keep (λ p. X p.party p.enabled) receive_rows
      (λ p a. a, (λ p a. a, (λ p a. a, (λ p a. a, (λ p a. a, tt))))) (count_down p) q h (a e)

-- so a cable stands where it stood
pub same_index : (i x : ℕ) (l : LinkState) (fl : Side → List ItemValue) (old new : WorldState) → slice_get old.links i ≡ Some l
    → map link_ends new.links ≡ map link_ends old.links → OnCable x (λ s. port_at s l) fl new.links → x ≡ i
same_index i x l fl old new h e c =
    let here : end_at (map link_ends new.links) One (suc x) ≡ Some l.one = end_is One new.links x (cable (λ s. port_at s l) fl) c.there in
    let there : end_at (map link_ends new.links) One (suc i) ≡ Some l.one = subst (λ es. end_at es One (suc i) ≡ Some l.one) (sym e)
    (end_is One old.links i l h) in
    let same : suc x ≡ suc i = c.cabling One (suc x) (suc i) l.one here there in omega (arith, same)

-- P before the tick of the system, Q after it
abbrev pub Pick : (ℕ → Machines → Type 0) → (ℕ → Machines → Type 0) → ℕ → ℕ → Machines → Type 0
Pick P Q zero = P
Pick P Q (suc a) = Q

pub each_between : (P : ℕ → Machines → Type 0) → RoundKeeps P → (s : Side) (gives : Algorithms) → KeptBetween gives (EachAt P s)
each_between P k s gives l r i j b h a = grind (arith, nat_tests, asks_each, delivers_each, quiet_ports)

-- a tick of system t makes Q of P at that system, and leaves the other's ports
pub tick_makes : (P Q : ℕ → Machines → Type 0) → KeptBySettling Q → ((n : ℕ) (p q : Machines) → RunsToRest receive_rows (count_down p) q → P n p → Q n q)
    → (t : Side) (gives : Algorithms) → MadeByTick gives t (EachAt P t) (EachAt Q t)
tick_makes P Q k ticked t gives n r i j named step a =
    Tick-each P Q k ticked (gives t) (half t i).state answer.Tick (half t j).state (ticks gives n t r i j named step).step a

pub tick_leaves : (P : ℕ → Machines → Type 0) (t : Side) (gives : Algorithms) → MadeByTick gives t (EachAt P (peer t)) (EachAt P (peer t))
tick_leaves P t gives n r i j named step a = grind (arith, nat_tests)

-- so the tick of its peer leaves those of system s
pub tick_beside : (P : ℕ → Machines → Type 0) (s : Side) (gives : Algorithms) → MadeByTick gives (peer s) (EachAt P s) (EachAt P s)
tick_beside P s gives = subst (λ u. MadeByTick gives (peer s) (EachAt P u) (EachAt P u)) (peer_twice s) (tick_leaves P (peer s) gives)

pub tick_keeps : (P : ℕ → Machines → Type 0) → KeptBySettling P → ((n : ℕ) (p q : Machines) → RunsToRest receive_rows (count_down p) q → P n p → P n q)
    → (s t : Side) (gives : Algorithms) → MadeByTick gives t (EachAt P s) (EachAt P s)
tick_keeps P k ticked s t gives n r i j named step a = grind (arith, nat_tests, ticked, each_side, EachAt, tick_makes, tick_leaves)

-- a round of one tick is one of several

pub few_done : (b : Bool) → done b ≤ 1
few_done true = omega arith
few_done false = omega arith

-- what holds through a round, by the ticks that were
pub holds_once : {E : Clearing} (gives : Algorithms) (s : Side) (A : ℕ → ℕ → WorldState → Type 0)
    → ((a b : ℕ) → Within 1 a b → KeptBetween gives (A a b)) → ((b : ℕ) → b ≤ 1 → MadeByTick gives s (A 0 b) (A 1 b))
    → ((a : ℕ) → a ≤ 1 → MadeByTick gives (peer s) (A a 0) (A a 1)) → (old new : WorldState) → IsPlayed E gives old new → A 0 0 old → A 1 1 new
holds_once gives s A kept own other old new h m = holds_turns IsBetweenTicks gives 1 s A kept first second h.events h.replies old new 0 0
    (once_turns IsBetweenTicks s h.events true true (of_side s h.events h.ticks)) h.acts m
  where
    first : (a b : ℕ) → Within 1 (suc a) b → MadeByTick gives s (A a b) (A (suc a) b)
    first zero b l = own b l.1
    first (suc a) b l = absurd (let k = l.0 in omega (arith, k))

    second : (a b : ℕ) → Within 1 a (suc b) → MadeByTick gives (peer s) (A a b) (A a (suc b))
    second a zero l = other a l.0
    second a (suc b) l = absurd (let k = l.1 in omega (arith, k))

-- the ports that the cables join

pub joins_kept : (at : Side → ℕ) (gives : Algorithms) (links : List LinkState) → KeptBeside at gives (λ j. map link_ends j.links ≡ map link_ends links)
joins_kept at gives links (Plays (event.Emit n p)) r i j b h m = (emits gives n p r i j h).2.ends ∙ m
joins_kept at gives links (Plays (event.Deliver c n)) r i j b h m = deliver_ends gives c n r i j h ∙ m
joins_kept at gives links e r i j b h m = leaves_ends gives e at r i j b h ∙ m

pub joins_tick : (gives : Algorithms) (links : List LinkState) (s : Side) → MadeByTick gives s (λ j. map link_ends j.links ≡ map link_ends links)
    (λ j. map link_ends j.links ≡ map link_ends links)
joins_tick gives links s n r i j named step m = ap (map link_ends) (ticks gives n s r i j named step).links ∙ m

-- what each event between ticks and each tick keeps, this run keeps
abbrev pub Passes : Algorithms → WorldState → WorldState → Type 1
Passes gives old new = (M : WorldState → Type 0) → KeptBetween gives M → ((s : Side) → MadeByTick gives s M M) → M old → M new

module _ (gives : Algorithms) (old new : WorldState) (h : Passes gives old new) where
  pub calm_on : (M : WorldState → Type 0) → ((e : HostEvent) (r : Reply) (i j : WorldState) → IsCalm e → StepReplies gives i e r j → M i → M j) → M old → M new
  calm_on M k = h M (λ e r i j b step. k e r i j (calm_between e b) step) (λ s n r i j named step. k (Plays (event.Tick n 1)) r i j tt step)

  pub steady_on : IsSteady old → IsSteady new
  steady_on k = calm_on IsSteady (calm_steady gives) k

  pub same_on : (X : Type 0) (g : SystemState → X)
      → ((s : SystemState) (ports : List SystemPort) (t : Table) → g (with_table (with_system_ports s ports) t) ≡ g s)
      → ((s : SystemState) (t : Table) → g (with_table s t) ≡ g s) → ((s : SystemState) (d : ℕ) → g (record s { max_delay = d }) ≡ g s)
      → (s : Side) → g (half s new).state ≡ g (half s old).state
  same_on X g kept tables delays = calm_on (λ k. (s : Side) → g (half s k).state ≡ g (half s old).state)
      (λ e r i j c step b s. calm_keeps X g kept tables delays gives e r i j c step s ∙ b s) (λ s. refl)

  pub each_on : (P : ℕ → Machines → Type 0) → RoundKeeps P
      → ((n : ℕ) (p q : Machines) → RunsToRest receive_rows (count_down p) q → P n p → P n q) → (s : Side) → EachAt P s old → EachAt P s new
  each_on P k ticked s = h (EachAt P s) (each_between P k s gives) (λ t. tick_keeps P k.settles ticked s t gives)

  pub joins_on : map link_ends new.links ≡ map link_ends old.links
  joins_on = h (λ j. map link_ends j.links ≡ map link_ends old.links)
      (λ e r i j b step. joins_kept (λ s. 0) gives old.links e r i j (leaves (λ s. 0) e b) step) (λ s. joins_tick gives old.links s) refl

-- so many rounds

module _ (May : HostEvent → Type 0) (E : Clearing) (gives : Algorithms) where
  pub among_on : (S : ℕ → WorldState → Type 0) (start : WorldState) → S 0 start
      → ((n : ℕ) (old new : WorldState) → IsPlayedAmong May E gives old new → S n old → S (n + 1) new)
      → (n : ℕ) (new : WorldState) → PlayedAmong May E gives n start new → S n new
  among_on S start first next zero new h = subst (S 0) (sym h) first
  among_on S start first next (suc n) new h =
      subst (λ m. S m new) (omega arith) (next n h.0 new h.2 (among_on S start first next n h.0 h.1))

  -- some rounds, and then more
  pub among_then : (m n k : ℕ) (old mid new : WorldState) → k ≡ m + n → PlayedAmong May E gives n old mid → PlayedAmong May E gives m mid new
      → PlayedAmong May E gives k old new
  among_then zero n k old mid new e h more = subst (λ j. PlayedAmong May E gives k old j) (sym more)
      (subst (λ i. PlayedAmong May E gives i old mid) (omega (arith, e)) h)
  among_then (suc m) n zero old mid new e h more = absurd (omega (arith, e))
  among_then (suc m) n (suc k) old mid new e h more = (more.0, among_then m n k old mid more.0 (omega (arith, e)) h more.1, more.2)

-- what clears the cables so far, clears them less far
pub clears_less : (E F : Clearing) → ((events : List HostEvent) (old new : WorldState) → E events old new → F events old new) → (gives : Algorithms)
    (n : ℕ) (old new : WorldState) → PlayedRounds E gives n old new → PlayedRounds F gives n old new
clears_less E F less gives zero old new h = h
clears_less E F less gives (suc n) old new h =
    (h.0, clears_less E F less gives n old h.0 h.1, replayed h.2 h.2.ticks (less h.2.events h.0 new h.2.empties))

module _ (E : Clearing) (gives : Algorithms) where
  pub played_on : (S : ℕ → WorldState → Type 0) (start : WorldState) → S 0 start
      → ((n : ℕ) (old new : WorldState) → IsPlayed E gives old new → S n old → S (n + 1) new)
      → (n : ℕ) (new : WorldState) → PlayedRounds E gives n start new → S n new
  played_on S start first next n new h = among_on IsBetweenTicks E gives S start first next n new h

  pub played_split : (k m n : ℕ) (old new : WorldState) → n ≡ k + m → PlayedRounds E gives n old new
      → (mid : WorldState) × PlayedRounds E gives m old mid × PlayedRounds E gives k mid new
  played_split zero m n old new e h = (new, subst (λ i. PlayedRounds E gives i old new) (omega (arith, e)) h, refl)
  played_split (suc k) m zero old new e h = absurd (omega (arith, e))
  played_split (suc k) m (suc n) old new e h =
      let r = played_split k m n old h.0 (omega (arith, e)) h.1 in (r.0, r.1, (h.0, r.2, h.2))

  pub played_pass : (n : ℕ) (old new : WorldState) → PlayedRounds E gives n old new → Passes gives old new
  played_pass n old new h M kept ticks m = played_on (λ i j. M j) old m
      (λ i a b q y. holds_once gives One (λ x z j. M j) (λ x z l. kept) (λ z l. ticks One) (λ x l. ticks Two) a b q y) n new h

  pub played_steady : (n : ℕ) (old new : WorldState) → IsSteady old → PlayedRounds E gives n old new → IsSteady new
  played_steady n old new k h = steady_on gives old new (played_pass n old new h) k

  pub played_join : (n : ℕ) (old new : WorldState) → PlayedRounds E gives n old new → map link_ends new.links ≡ map link_ends old.links
  played_join n old new h = joins_on gives old new (played_pass n old new h)
