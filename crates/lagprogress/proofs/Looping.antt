-- Healthy rounds of hosts that are played.
use Rattle.lagprogress.proofs.Common.{List, None, Option, Some, [], ap, arith, inl, inr, is_some, length, option_map, refl, slice_get, subst, suc}
use Rattle.lagprogress.proofs.Common.{sym, true, zero, ℕ, ◌++◌, ◌+◌, ◌<◌, ◌∙◌, ◌∷◌, ◌≡◌, false≢true, same_Some, slice_get_within, all-append, One}
use Rattle.lagprogress.proofs.Common.{Side, Two, WorldSetup, end_at, Event, WorldFault, Reply, Algorithms, WorldRuns, WorldSteps, cause}
use Rattle.lagprogress.proofs.Common.{cause_or_no_memory, has_system, world_setup, ends_of_cable, ports_joined, LinkState, WorldState, port_at}
use Rattle.lagprogress.proofs.Common.{end_is, Plays, AsksInVain, DrainingRounds, IsDrainingRound, sent_nothing, NoneIsLeft, as_played, Delivers}
use Rattle.lagprogress.proofs.Common.{IsOutOfMemoryOrSpent, RefusesDelivery, RunsAll, AsksEnds, AsksOrDelivers, AsksPort, DeliversAndAsks}
use Rattle.lagprogress.proofs.Common.{EmptiesCables, PlaysBetween, PlaysHostPart, PlaysHostRound, PlaysHostRounds, StopsBetween, ticks_of_both}
use Rattle.lagprogress.proofs.Common.{IsSteady}
use Rattle.lagprogress.proofs.HostLoops.{asking_in_vain_is_draining, both_tick, delivers_between, draining_are_host, move_none, vain_after_ticks}
use Rattle.std.specs.Prelude.{map}
use Rattle.lagprogress.proofs.EachRound.{played_steady}
use Rattle.lagprogress.proofs.Linked.{each_side}
use Rattle.lagprogress.proofs.Played.{as_many, some_within, below_or_same, cable_at, refused_event, runs_append}
use Rattle.lagscript.specs.declared.event.Event.TheVariants as event

-- events between ticks

pub plays_nothing : (gives : Algorithms) (j : WorldState) → PlaysBetween gives j j
plays_nothing gives j = record { events = []; replies = []; between = tt; acts = refl }

pub plays_both : (gives : Algorithms) (old mid new : WorldState) → PlaysBetween gives old mid → PlaysBetween gives mid new → PlaysBetween gives old new
plays_both gives old mid new a b = grind (arith, all-append, runs_append)

pub plays_delivers : (gives : Algorithms) (old new : WorldState) → Delivers gives old new → PlaysBetween gives old new
plays_delivers gives old new d = grind (arith, delivers_between)

-- a port is asked once more

asked_once : (gives : Algorithms) (number p : ℕ) (r : Reply) (mid new : WorldState) → WorldSteps gives mid (event.Emit number p) r new
    → PlaysBetween gives mid new
asked_once gives number p r mid new x =
    record { events = event.Emit number p ∷ []; replies = r ∷ []; between = (tt, tt); acts = (new, x, refl) }

pub asks_more : (gives : Algorithms) (number p : ℕ) (r : Reply) (old mid new : WorldState) → PlaysBetween gives old mid
    → WorldSteps gives mid (event.Emit number p) r new → PlaysBetween gives old new
asks_more gives number p r old mid new a x = plays_both gives old mid new a (asked_once gives number p r mid new x)

vain_behind : (gives : Algorithms) (s : Side) (p : ℕ) (es fs : List Event) (rs qs : List Reply) (i j : WorldState) → WorldRuns gives i es rs j
    → AsksInVain s p (map Plays fs) qs → AsksInVain s p (map Plays (es ++ fs)) (rs ++ qs)
vain_behind gives s p [] fs [] qs i j run h = h
vain_behind gives s p (e ∷ es) fs (r ∷ rs) qs i j run h = inr (vain_behind gives s p es fs rs qs run.0 j run.2 h)
vain_behind gives s p es fs rs qs i j run h = absurd run

vain_before : (s : Side) (p : ℕ) (es fs : List Event) (rs qs : List Reply) → AsksInVain s p (map Plays es) rs → AsksInVain s p (map Plays (es ++ fs)) (rs ++ qs)
vain_before s p (e ∷ es) fs (r ∷ rs) qs (inl h) = inl h
vain_before s p (e ∷ es) fs (r ∷ rs) qs (inr h) = inr (vain_before s p es fs rs qs h)
vain_before s p es fs rs qs h = absurd h

-- and sends nothing
pub asks_port : (gives : Algorithms) (number p : ℕ) (r : Reply) (old mid new : WorldState) → PlaysBetween gives old mid
    → WorldSteps gives mid (event.Emit number p) r new → sent_nothing r ≡ true → AsksPort gives number p old new
unfolding plays_both asked_once
asks_port gives number p r old mid new a x vain = record {
  played = plays_both gives old mid new a (asked_once gives number p r mid new x);
  asks = λ s named. vain_behind gives s p a.events (event.Emit number p ∷ []) a.replies (r ∷ []) old mid a.acts (inl ((number, named, refl), vain));
}

-- one event more is refused

pub stops_asking_port : (gives : Algorithms) (fault : WorldFault) (number p : ℕ) (old mid new : WorldState) → PlaysBetween gives old mid
    → new ≡ mid → fault ≡ cause_or_no_memory (cause mid (event.Emit number p)) → StopsBetween gives fault old new
stops_asking_port gives fault number p old mid new a same f = subst (λ j. StopsBetween gives fault old j) (sym same) (record {
  played = a;
  next = event.Emit number p;
  between = tt;
  refused = record { named = f; memory = λ none. refl };
})

-- a port of a system that exists
pub refused_ask : (fault : WorldFault) (n p : ℕ) (old new : WorldState) → has_system (Some n) ≡ true
    → fault ≡ cause_or_no_memory (cause old (event.Emit n p)) → new ≡ old → IsOutOfMemoryOrSpent fault new
refused_ask fault n p old new named f same = subst (IsOutOfMemoryOrSpent fault) (sym same) (refused_event fault old true _ refl named f)

pub stops_delivering_now : (gives : Algorithms) (fault : WorldFault) (old new : WorldState) → Delivers gives old new
    → RefusesDelivery fault new → StopsBetween gives fault old new
stops_delivering_now gives fault old new d f = grind (arith, plays_delivers)

pub stops_later : (gives : Algorithms) (fault : WorldFault) (old mid new : WorldState) → PlaysBetween gives old mid
    → StopsBetween gives fault mid new → StopsBetween gives fault old new
stops_later gives fault old mid new a b = grind (arith, plays_both)

-- the ends of all cables

pub asks_none : (gives : Algorithms) (j : WorldState) → AsksEnds gives 0 j j
asks_none gives j = record { played = plays_nothing gives j; asks = λ s i p l e. absurd (omega (arith, l)) }

abbrev first_port : List Event → ℕ
first_port (event.Emit n p ∷ es) = p
first_port es = 0

abbrev third_port : List Event → ℕ
third_port (d ∷ e ∷ event.Emit n p ∷ es) = p
third_port es = 0

-- the ends of the next cable are asked
pub asks_one_more : (gives : Algorithms) (n one two : ℕ) (old mid between new : WorldState) → AsksEnds gives n old mid → world_setup mid ≡ world_setup old
    → Some (one, two) ≡ ends_of_cable (n + 1) mid → AsksPort gives 1 one mid between → AsksPort gives 2 two between new → AsksEnds gives (n + 1) old new
unfolding plays_both
asks_one_more gives n one two old mid between new a fixed h b c = record {
  played = plays_both gives old mid new a.played (plays_both gives mid between new b.played c.played);
  asks = λ s i p l e. elim (below_or_same i n l) [
    | inl less ↦ vain_before s p a.played.events later a.played.replies replies (a.asks s i p less e)
    | inr same ↦ vain_behind gives s p a.played.events later a.played.replies replies old mid a.played.acts
        (each_side (λ t. (q : ℕ) → end_at (world_setup old).cables t (suc n) ≡ Some q → AsksInVain t q (map Plays later) replies) One first second s p
        (subst (λ k. end_at (world_setup old).cables s (suc k) ≡ Some p) same e))
  ];
}
  where
    later : List Event
    later = b.played.events ++ c.played.events

    replies : List Reply
    replies = b.played.replies ++ c.played.replies

    first : (q : ℕ) → end_at (world_setup old).cables One (suc n) ≡ Some q → AsksInVain One q (map Plays later) replies
    first q e = let k = cable_at n one two old mid fixed h in
        let at : one ≡ q = sym (ap first_port k.2) ∙ same_Some k.0.one q (sym (end_is One old.links n k.0 k.1) ∙ e) in
        subst (λ m. AsksInVain One m (map Plays later) replies) at (vain_before One one b.played.events c.played.events b.played.replies c.played.replies
        (b.asks One refl))

    second : (q : ℕ) → end_at (world_setup old).cables Two (suc n) ≡ Some q → AsksInVain Two q (map Plays later) replies
    second q e = let k = cable_at n one two old mid fixed h in
        let at : two ≡ q = sym (ap third_port k.2) ∙ same_Some k.0.two q (sym (end_is Two old.links n k.0 k.1) ∙ e) in
        subst (λ m. AsksInVain Two m (map Plays later) replies) at (vain_behind gives Two two b.played.events c.played.events b.played.replies c.played.replies
        mid between b.played.acts (c.asks Two refl))

some_joined : (o : Option LinkState) → is_some o ≡ true → (x : ℕ × ℕ) × (option_map ports_joined o ≡ Some x)
some_joined None h = absurd (false≢true h)
some_joined (Some l) h = (ports_joined l, refl)

-- there is a cable with the next number
pub cable_there : (n : ℕ) (start mid : WorldState) → n < length start.links → world_setup mid ≡ world_setup start
    → (x : ℕ × ℕ) × (ends_of_cable (n + 1) mid ≡ Some x)
cable_there n start mid within fixed = grind (arith, as_many, ends_of_cable, some_joined, slice_get, some_within)

-- items arrive and ends are asked again and again
pub plays_again : (gives : Algorithms) (count times : ℕ) (old new : WorldState) → DeliversAndAsks gives count times old new → PlaysBetween gives old new
plays_again gives count zero old new h = subst (PlaysBetween gives old) (sym h) (plays_nothing gives old)
plays_again gives count (suc n) old new h = plays_both gives old h.0 new (plays_again gives count n old h.0 h.2)
    (plays_both gives h.0 h.1 new (plays_delivers gives h.0 h.1 h.3) h.4.played)

pub plays_until_empty : (gives : Algorithms) (count : ℕ) (old new : WorldState) → EmptiesCables gives count old new → PlaysBetween gives old new
plays_until_empty gives count old new e = grind (arith, plays_both, plays_again, plays_delivers)

-- a round

pub plays_host_round : (gives : Algorithms) (n : ℕ) (old ticked asked new : WorldState) → n ≡ length old.links → world_setup ticked ≡ world_setup old
    → RunsAll gives ticks_of_both old ticked → AsksEnds gives n ticked asked → EmptiesCables gives n asked new → PlaysHostRound gives old new
plays_host_round gives n old ticked asked new same fixed t a e = grind arith

pub host_round_drains : (gives : Algorithms) (old new : WorldState) → PlaysHostRound gives old new → IsSteady old → (s : Side) (g k : ℕ)
    → IsDrainingRound s g k gives old new
host_round_drains gives old new h steady s g k = let t = h.ticks in
    let a = h.asks in
    let b = plays_until_empty gives (length old.links) h.asked new h.later in
    let es = a.played.events ++ b.events in
    let rs = a.played.replies ++ b.replies in
    let between = all-append AsksOrDelivers a.played.events b.events a.played.between b.between in
    let run = runs_append gives a.played.events b.events a.played.replies b.replies h.ticked h.asked new a.played.acts b.acts in
    asking_in_vain_is_draining gives s g k (map Plays (ticks_of_both ++ es)) (t.replies ++ rs) old new steady
    (both_tick es between) (tt, (tt, move_none s g k es between))
    (as_played gives (ticks_of_both ++ es) (t.replies ++ rs) old new (runs_append gives ticks_of_both es t.replies rs old h.ticked new t.acts run))
    (λ u i l at. vain_after_ticks gives u (port_at u l) t.replies es rs old h.ticked t.acts
    (vain_before u (port_at u l) a.played.events b.events a.played.replies b.replies (a.asks u i (port_at u l)
    (slice_get_within old.links i l at.there)
    (ap (λ (x : WorldSetup). end_at x.cables u (suc i)) h.fixed ∙ end_is u old.links i l at.there)))) h.later.empties

-- and is played by events

abbrev pub RunsEvents : Algorithms → WorldState → WorldState → Type 0
RunsEvents gives old new = (es : List Event) × RunsAll gives es old new

pub runs_none : (gives : Algorithms) (j : WorldState) → RunsEvents gives j j
runs_none gives j = ([], record { replies = []; acts = refl })

pub round_runs : (gives : Algorithms) (old mid new : WorldState) → RunsEvents gives old mid → PlaysHostRound gives mid new → RunsEvents gives old new
round_runs gives old mid new a h = let t = h.ticks in
    let b = plays_both gives h.ticked h.asked new h.asks.played (plays_until_empty gives (length mid.links) h.asked new h.later) in (
      a.0 ++ (ticks_of_both ++ b.events),
      record {
        replies = a.1.replies ++ (t.replies ++ b.replies);
        acts = runs_append gives a.0 (ticks_of_both ++ b.events) a.1.replies (t.replies ++ b.replies) old mid new a.1.acts
            (runs_append gives ticks_of_both b.events t.replies b.replies mid h.ticked new t.acts b.acts);
      },
    )

-- it is refused

pub stops_after_ticks : (gives : Algorithms) (fault : WorldFault) (old ticked new : WorldState) → RunsAll gives ticks_of_both old ticked
    → StopsBetween gives fault ticked new → PlaysHostPart gives fault old new
stops_after_ticks gives fault old ticked new t b = inr (inl (record { ticked = ticked; ticks = t; stops = b }))

-- rounds

pub one_round_more : (gives : Algorithms) (n : ℕ) (old mid new : WorldState) → PlaysHostRounds gives n old mid → PlaysHostRound gives mid new
    → PlaysHostRounds gives (n + 1) old new
one_round_more gives n old mid new h x = grind arith

pub one_draining_round_more : (gives : Algorithms) (n : ℕ) (old mid new : WorldState)
    → (IsSteady old → (s : Side) (g k : ℕ) → DrainingRounds s g k gives n old mid) → (IsSteady mid → (s : Side) (g k : ℕ) → IsDrainingRound s g k gives mid new)
    → IsSteady old → (s : Side) (g k : ℕ) → DrainingRounds s g k gives (n + 1) old new
one_draining_round_more gives n old mid new h x steady s g k = let e : suc n ≡ n + 1 = omega arith in
    let before = h steady s g k in
    subst (λ m. DrainingRounds s g k gives m old new) e
    (mid, before, x (played_steady NoneIsLeft gives n old mid steady (draining_are_host gives s g k n old mid before)) s g k)
