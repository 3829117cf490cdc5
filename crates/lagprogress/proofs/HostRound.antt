-- What a round of hosts leaves of a cable, by its stages.
use Rattle.lagprogress.proofs.Common.{Bool, List, None, Some, [], arith, false, inl, inr, refl, subst, sym, true, ℕ, ◌-◌, ◌∙◌, ◌∷◌, ◌≡◌, ◌≤◌}
use Rattle.lagprogress.proofs.Common.{nat_tests, Lacpdu, One, Side, Two, peer, Machines, periodic_rows, receive_rows, AtRest, RunsToRest}
use Rattle.lagprogress.proofs.Common.{after_sending, count_down, SystemState, machines_of, Reply, Algorithms, WorldSteps, side_of, WorldState, half}
use Rattle.lagprogress.proofs.Common.{limit_towards, HostEvent, Plays, OfEach, Tick-each, AtPort, with_rest, LeavesPorts, IsBetweenTicks, IsTickOf}
use Rattle.lagprogress.proofs.Common.{StepReplies, TickOnce, IsHealthyAt, OfPort}
use Rattle.lagsystem.specs.declared.drive.Reply.TheVariants as answer
use Rattle.lagscript.specs.declared.event.Event.TheVariants as event
use Rattle.lagprogress.proofs.Delivering.{deliver_link}
use Rattle.lagprogress.proofs.EndFacts.{Along, IsEnd, Learnt, ticks_end, lower_learnt}
use Rattle.lagprogress.proofs.Halves.{keeps_timely}
use Rattle.lagprogress.proofs.Linked.{EndIs, Fits, Left, Link, each_map, each_side, emit_any, end_kept, end_here, other_ports, place_kept}
use Rattle.lagprogress.proofs.OneCable.{OnCable, cable, port_there, ticks}
use Rattle.lagprogress.proofs.Quieting.{leaves_link}

-- numbers of both sides

-- the first number at this side, the second at its peer
abbrev pub two : Side → ℕ → ℕ → Side → ℕ
two One a b One = a
two One a b Two = b
two Two a b One = b
two Two a b Two = a

pub two_there : (s : Side) (a b : ℕ) → two s a b s ≡ a
two_there s a b = grind (arith, nat_tests)

pub two_other : (s : Side) (a b : ℕ) → two s a b (peer s) ≡ b
two_other s a b = grind (arith, nat_tests)

-- the events of a round, in the eyes of either system

turned : (es : List HostEvent) (a b : Bool) → TickOnce One a b es → TickOnce Two b a es
turned [] a b h = (h.1, h.0)
turned (e ∷ es) a b h = grind (arith, nat_tests, turned es false b, turned es a false, turned es a b)

pub of_side : (s : Side) (es : List HostEvent) → TickOnce One true true es → TickOnce s true true es
of_side One es h = h
of_side Two es h = turned es true true h

-- a tick of one system is none of the other
pub one_of : (s : Side) (e : HostEvent) → IsTickOf s e → IsTickOf (peer s) e → ⊥
one_of s e h i = grind (arith, nat_tests)

-- no tick is among the events that may come between
abbrev pub IsTickless : (HostEvent → Type 0) → Type 0
IsTickless May = (n : ℕ) → May (Plays (event.Tick n 1)) → ⊥

pub not_tick : (May : HostEvent → Type 0) → IsTickless May → (s : Side) (e : HostEvent) → IsTickOf s e → May e → ⊥
not_tick May none s e (n, named, is) b = none n (subst May is b)

-- what is kept

-- what each event keeps that may come between ticks
abbrev pub KeptAmong : (HostEvent → Type 0) → Algorithms → (WorldState → Type 0) → Type 0
KeptAmong May gives M = (e : HostEvent) (r : Reply) (i j : WorldState) → May e → StepReplies gives i e r j → M i → M j

abbrev pub KeptBetween : Algorithms → (WorldState → Type 0) → Type 0
KeptBetween gives M = KeptAmong IsBetweenTicks gives M

abbrev pub KeptBeside : (Side → ℕ) → Algorithms → (WorldState → Type 0) → Type 0
KeptBeside at gives M = KeptAmong (LeavesPorts at) gives M

-- two things that they keep
pub both_kept : {May : HostEvent → Type 0} {gives : Algorithms} {M N : WorldState → Type 0} → KeptAmong May gives M → KeptAmong May gives N
    → KeptAmong May gives (λ j. M j × N j)
both_kept k l e r i j b h (m, n) = (k e r i j b h m, l e r i j b h n)

-- what a tick of system s makes of it
abbrev pub MadeByTick : Algorithms → Side → (WorldState → Type 0) → (WorldState → Type 0) → Type 0
MadeByTick gives s M N = (n : ℕ) (r : Reply) (i j : WorldState) → side_of n ≡ Some s → WorldSteps gives i (event.Tick n 1) r j → M i → N j

pub both_made : (gives : Algorithms) (s : Side) {M N V W : WorldState → Type 0} → MadeByTick gives s M V → MadeByTick gives s N W
    → MadeByTick gives s (λ j. M j × N j) (λ j. V j × W j)
both_made gives s k l n r i j named h (m, o) = (k n r i j named h m, l n r i j named h o)

-- one tick of system t

-- what it makes of what is known: a tick less at its end, if that leaves some where there must be some
pub record Counts (d : ℕ) (t : Side) (c b : Side → ℕ) : Type 0 where
  pub own : b t ≡ c t - 1
  pub other : b (peer t) ≡ c (peer t)
  pub some : 2 ≤ d → 1 ≤ c t - 1

pub tick_one : (gives : Algorithms) (n : ℕ) (t : Side) (d : ℕ) (at : Side → ℕ) (w : Side → Lacpdu) (c b : Side → ℕ) (x : Side)
    (Y Z : Machines → Type 0) (r : Reply) (old new : WorldState) → side_of n ≡ Some t → Counts d t c b
    → Along Z (w x) (w (peer x)) (b x) d
    → ((p q : Machines) → RunsToRest receive_rows (count_down p) q → AtRest periodic_rows p → IsEnd d (w x) (w (peer x)) (c x) p → t ≡ x → Y p → Z q)
    → ((p : Machines) → peer t ≡ x → Y p → Z p)
    → WorldSteps gives old (event.Tick n 1) r new → (l : Link d at w c x Y old) → Left d at w b x Z l.flying new
tick_one gives n t d at w c b x Y Z r old new named k along moves stays h l = let tick = ticks gives n t r old new named h in
    let steady = keeps_timely gives (event.Tick n 1) r old new h l.steady in
    let was : Side → Machines → Type 0 = EndIs d w c x Y in
    let now : Side → Machines → Type 0 = EndIs d w b x Z in
    let mine = Tick-each (λ m p. AtPort (at t) (was t) m p × AtRest periodic_rows p) (AtPort (at t) (now t))
    (end_kept w b d x Z along t (at t))
    (λ m p q run a e. (
      subst (λ m. IsEnd d (w t) (w (peer t)) m q) (sym k.own) (ticks_end d (w t) (w (peer t)) (c t) p q k.some run (a.0 e).0),
      λ f. moves p q run a.1 (subst (λ u. IsEnd d (w u) (w (peer u)) (c u) p) f (a.0 e).0) f ((a.0 e).1 f),
    )) (gives t) (half t old).state answer.Tick (half t new).state tick.step
    (with_rest (AtPort (at t) (was t)) (half t old).state.system_ports (l.ports t) (l.steady t).0.quiet.1) in
    let theirs = subst (λ (y : SystemState). OfEach (AtPort (at (peer t)) (now (peer t))) y.system_ports) (sym tick.peers)
    (each_map (AtPort (at (peer t)) (was (peer t))) (AtPort (at (peer t)) (now (peer t)))
    (λ m p a e. (
      subst (λ m. IsEnd d (w (peer t)) (w (peer (peer t))) m p) (sym k.other) (a e).0,
      λ f. stays p f ((a e).1 f),
    )) (half (peer t) old).state.system_ports (l.ports (peer t))) in
    record {
      link = record {
        steady = steady;
        flying = l.flying;
        index = l.index;
        links = subst (OnCable l.index at l.flying) (sym tick.links) l.links;
        good = l.good;
        place = λ u. ((l.place u).0, place_kept gives (event.Tick n 1) r old new h l.steady steady u (at u) ∙ (l.place u).1);
        ports = each_side (λ u. OfEach (AtPort (at u) (now u)) (half u new).state.system_ports) t mine theirs;
      };
      same = refl;
    }

-- what each event beside its ends keeps of a cable
pub between : (gives : Algorithms) (d : ℕ) (at : Side → ℕ) (w : Side → Lacpdu) (c : Side → ℕ) (x : Side) (Y : Machines → Type 0)
    → Fits d w c → Along Y (w x) (w (peer x)) (c x) d → ((p : Machines) → Y p → Y (after_sending p)) → KeptBeside at gives (Link d at w c x Y)
between gives d at w c x Y fits along sends (Plays (event.Emit n p)) r i j b h l = (emit_any gives n p d at w c x Y r i j fits along sends l h).link
between gives d at w c x Y fits along sends (Plays (event.Deliver cn n)) r i j b h l = (deliver_link gives cn n d at w c x Y r i j fits along l h).link
between gives d at w c x Y fits along sends e r i j b h l = (leaves_link gives e d at w c x Y r i j b h along l).link

-- and for fewer ticks
pub learn_less : (gives : Algorithms) (s : Side) (d : ℕ) (at : Side → ℕ) (w : Side → Lacpdu) (c : Side → ℕ) (m k : ℕ) (j : WorldState) → k ≤ m
    → Link d at w c (peer s) (Learnt d (w (peer (peer s))) m) j → Link d at w c (peer s) (Learnt d (w (peer (peer s))) k) j
learn_less gives s d at w c m k j l i = other_ports i (λ t p rest timed a. (a.0, λ f. lower_learnt d (w (peer (peer s))) m k p l (a.1 f)))

-- the cable is a healthy one
pub healthy_link : (d : ℕ) (at : Side → ℕ) (w : Side → Lacpdu) (c : Side → ℕ) (x : Side) (Y : Machines → Type 0) (j : WorldState)
    → (l : Link d at w c x Y j) → IsHealthyAt l.index (cable at l.flying) j
healthy_link d at w c x Y j l = record {
  there = l.links.there;
  whole = refl;
  unlimited = λ s. each_side (λ t. limit_towards t (cable at l.flying) ≡ None) One refl refl s;
  up = λ s. (let e = end_here at w d c x Y j l s in
      subst (λ n. OfPort (λ p. p.enabled ≡ true) (machines_of n (half s j).state)) (sym (port_there s at l.flying))
      (subst (OfPort (λ p. p.enabled ≡ true)) (sym e.found) e.is.1.0));
}
