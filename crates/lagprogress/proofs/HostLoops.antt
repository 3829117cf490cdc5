-- Which runs are healthy rounds of hosts.
use Rattle.lagprogress.proofs.Common.{Bool, Err, List, None, Ok, Option, Result, Some, [], ap, arith, cond, false, inl, inr, ltb, refl, slice_get}
use Rattle.lagprogress.proofs.Common.{subst, suc, sym, true, zero, ℕ, ◌++◌, ◌∙◌, ◌∷◌, ◌≡◌, ◌⊎◌, cases_Bool, false≢true, nat_tests, none-some}
use Rattle.lagprogress.proofs.Common.{same_Some, AllByRecursion, Pdu, pdu_in, all-append, One, Side, Two, peer, value_of, after_sending, is_due}
use Rattle.lagprogress.proofs.Common.{Assignment, after_mark, marker_due, wants_marker, Table, assignment_of, SystemFault, SystemPort, Step, Transmit}
use Rattle.lagprogress.proofs.Common.{SendsMarkerOf, TransmitsAt, TransmitsIf, SystemState, machines_of, port_index, all-get, found_place, ports_rise}
use Rattle.lagprogress.proofs.Common.{Event, Reply, AfterTransmit, Algorithms, WorldRuns, sent_reply, payload_in, HalfState, LinkState, WorldState}
use Rattle.lagprogress.proofs.Common.{half, is_accepted, port_at, with_half, half_there, HostEvent, HostSteps, Plays, Sets, OfEach, Tick-each, placed}
use Rattle.lagprogress.proofs.Common.{AtPort, at_number, LeavesPorts, AskingInVainIsDraining, AsksInVain, AsksInVainAfterTick, DrainingRounds}
use Rattle.lagprogress.proofs.Common.{IsDrainingRound, IsNoMoveOf, NothingIsDue, RoundIsDraining, sent_nothing, AfterTick, AskingIsPlayed, Asks}
use Rattle.lagprogress.proofs.Common.{AsksAfterTick, AsksIn, AtSomeWorld, Clearing, EventsAreOfHosts, HostRounds, IsBetweenTicks, IsTickOf}
use Rattle.lagprogress.proofs.Common.{NoneIsLeft, RoundIsHostRound, RoundsAreHostRounds, RunReplies, RunsHaveReplies, StepReplies, TickOnce}
use Rattle.lagprogress.proofs.Common.{TickOnceAmong, as_played, AsksOrDelivers, AtEnd, IsDeliver, IsHealthyAt, IsRound, NothingInFlight, OfPort}
use Rattle.lagprogress.proofs.Common.{Rounds, asks_all, ticks_of_both, AfterTicks, AskingIsSeveral, AsksAfterTicks, TicksAmong, IsSteady}
use Rattle.distributor.specs.Conversations.{sum_below}
use Rattle.lagprogress.proofs.HostSteady.{IsUp, sets_up}
use Rattle.lagprogress.proofs.Quieting.{calm_timely, place_stays}
use Rattle.lagprogress.proofs.Halves.{AreTimely, timely}
use Rattle.std.specs.Prelude.{map}
use Rattle.lagprogress.proofs.EachRound.{each_between, EachAt, own_keeps, own_ticks, played_steady}
use Rattle.lagworld.specs.declared.reply.Reply.TheVariants as reply
use Rattle.lagprogress.proofs.Linked.{each_side, found, machines_there}
use Rattle.lagprogress.proofs.OneCable.{Emits, emits, ticks}
use Rattle.lagprogress.proofs.OneRound.{same_ports_then}
use Rattle.lagprogress.proofs.SeveralTicks.{once_turns}
use Rattle.lagprogress.proofs.Passing.{sends_due}
use Rattle.lagsystem.specs.declared.drive.Reply.TheVariants as answer
use Rattle.lagscript.specs.declared.event.Event.TheVariants as event
use Rattle.lagprogress.proofs.Lasting.{ends_at}
use Rattle.slowpdu.specs.declared.pdu.Pdu.TheVariants as pdu

-- once a port whose link is up has been asked, it has no LACPDU due

asked_none : (gives : ℕ → ℕ → ℕ → Type 0) (n k : ℕ) (z : SystemPort) (a : Result (Option (List ℕ)) SystemFault) (old new : SystemState)
    → port_index n old.system_ports ≡ Some k → slice_get old.system_ports k ≡ Some z → z.port.enabled ≡ true
    → Step gives old (Transmit n) (answer.Transmit a) new → (y : SystemPort) × (slice_get new.system_ports k ≡ Some y) × (is_due y.port ≡ false)
asked_none gives n k z a old new place there up h = elim (cases_Bool (is_due z.port)) [
  | inl due ↦ by_answer a due h
  | inr not ↦ (z, subst (λ ps. slice_get ps k ≡ Some z) (sym (same_ports_then gives n k z a old new place there not h)) there, not)
]
  where
    by_answer : (a : Result (Option (List ℕ)) SystemFault) → is_due z.port ≡ true → Step gives old (Transmit n) (answer.Transmit a) new
        → (y : SystemPort) × (slice_get new.system_ports k ≡ Some y) × (is_due y.port ≡ false)
    by_answer (Err fault) due h = absurd (none-some k (sym h.cause ∙ place))
    by_answer (Ok o) due h = let sent = sends_due (port_index n old.system_ports) k z old o new place there up due h in
        let y : SystemPort = record z { port = after_sending z.port } in (
          y,
          subst (λ ps. slice_get ps k ≡ Some y) (sym (ap (λ (s : SystemState). s.system_ports) sent.3)) (placed old.system_ports k z y there),
          refl,
        )

-- and if none was, it has no marker due: it sent the one that was

no_sum : (f : ℕ → ℕ) (n : ℕ) → ((k : ℕ) → f k ≡ 0) → sum_below f n ≡ 0
unfolding sum_below
no_sum f zero h = refl
no_sum f (suc n) h = let a = no_sum f n h in let b = h n in omega (arith, a, b)

no_count : (b : Bool) (n : ℕ) → n ≡ cond b 1 0 → b ≡ false → n ≡ 0
no_count b n e f = grind (arith, nat_tests)

no_marker_due : (p : ℕ) (t : Table) → ((g k : ℕ) → wants_marker p (assignment_of t g k) ≡ false) → marker_due t p ≡ None
no_marker_due p t hyp1 = grind (arith, nat_tests, no_sum, cond, no_count, ltb)

marked_wants : (p id : ℕ) (a : Assignment) → wants_marker p (after_mark p id a) ≡ false
marked_wants p id a = grind (arith, nat_tests)

asked_marks : (gives : ℕ → ℕ → ℕ → Type 0) (n k : ℕ) (z : SystemPort) (a : Result (Option (List ℕ)) SystemFault) (old new : SystemState)
    → port_index n old.system_ports ≡ Some k → slice_get old.system_ports k ≡ Some z → z.port.enabled ≡ true → is_due z.port ≡ false
    → Step gives old (Transmit n) (answer.Transmit a) new → marker_due new.table n ≡ None
asked_marks gives n k z (Err fault) old new place there up not h = absurd (none-some k (sym h.cause ∙ place))
asked_marks gives n k z (Ok o) old new place there up not h = let t = subst (λ i. TransmitsAt i old o new) place h in
    let is : t.0 ≡ z = same_Some t.0 z (sym t.1 ∙ there) in
    let due = subst (λ b. TransmitsIf b (is_due t.0.port) k t.0 old o new) (ap (λ (y : SystemPort). y.port.enabled) is ∙ up) t.2 in
    let sent = subst (λ b. TransmitsIf true b k t.0 old o new) (ap (λ (y : SystemPort). is_due y.port) is ∙ not) due in
    by_marker (marker_due old.table n) refl t.0.mac
    (subst (λ m. SendsMarkerOf (marker_due old.table m) m t.0.mac old o new) (found_place n old.system_ports k t.0 place t.1) sent)
  where
    by_marker : (x : Option ℕ) → marker_due old.table n ≡ x → (mac : List ℕ) → SendsMarkerOf x n mac old o new → marker_due new.table n ≡ None
    by_marker None e mac m = ap (λ (y : SystemState). marker_due y.table n) m.1 ∙ e
    by_marker (Some id) e mac m = no_marker_due n new.table (λ g c. subst (λ x. wants_marker n x ≡ false) (sym (m.4.states g c))
        (marked_wants n id (assignment_of old.table g c)))

-- what may come between ticks, so that a port stays and its link stays up: what hosts do there, and any setting
abbrev pub MayCome : HostEvent → Type 0
MayCome (Sets s setting) = Unit {0}
MayCome e = IsBetweenTicks e

pub come_between : (e : HostEvent) → IsBetweenTicks e → MayCome e
come_between e b = grind (arith, nat_tests)

pub come_beside : (at : Side → ℕ) (e : HostEvent) → LeavesPorts at e → MayCome e
come_beside at e b = grind (arith, nat_tests)

-- two of the events in turn ask this port of system s
abbrev AsksTwice : Side → ℕ → List HostEvent → Type 0
AsksTwice s p [] = ⊥
AsksTwice s p (e ∷ []) = ⊥
AsksTwice s p (e ∷ f ∷ es) = (Asks s p e × Asks s p f) ⊎ AsksTwice s p (f ∷ es)

-- a tick of a system, or an event that may come
abbrev Moves : (HostEvent → Type 0) → HostEvent → Type 0
Moves May e = ((u : Side) × IsTickOf u e) ⊎ May e

several_move : (May : HostEvent → Type 0) (n : ℕ) (s : Side) (es : List HostEvent) (a b : ℕ) → TicksAmong May n s a b es → AllByRecursion (Moves May) es
several_move May n s [] a b h = tt
several_move May n s (e ∷ es) a b (inl h) = (inl (s, h.0), several_move May n s es (suc a) b h.1)
several_move May n s (e ∷ es) a b (inr (inl h)) = (inl (peer s, h.0), several_move May n s es a (suc b) h.1)
several_move May n s (e ∷ es) a b (inr (inr h)) = (inr h.0, several_move May n s es a b h.1)

all_move : (May : HostEvent → Type 0) (s : Side) (es : List HostEvent) (a b : Bool) → TickOnceAmong May s a b es → AllByRecursion (Moves May) es
all_move May s es a b h = several_move May 1 s es _ _ (once_turns May s es a b h)

module _ (gives : Algorithms) (s : Side) (p : ℕ) where
  abbrev NoneDue : WorldState → Type 0
  NoneDue j = OfPort (λ q. is_due q ≡ false) (machines_of p (half s j).state)

  -- the port is there, and its link is up
  record Stays (j : WorldState) : Type 0 where
    steady : AreTimely j
    index : ℕ
    place : port_index p (half s j).state.system_ports ≡ Some index
    up : EachAt (AtPort p IsUp) s j

  kept : (e : HostEvent) (r : Reply) (i j : WorldState) → StepReplies gives i e r j → EachAt (AtPort p IsUp) s j → Stays i → Stays j
  kept e r i j h up x = let steady = calm_timely gives e r i j h x.steady in
      record { steady = steady; index = x.index; place = place_stays gives e r i j h x.steady steady s p ∙ x.place; up = up }

  between : (e : HostEvent) (r : Reply) (i j : WorldState) → MayCome e → StepReplies gives i e r j → Stays i → Stays j
  between (Sets t setting) r i j b h x = kept (Sets t setting) r i j h (sets_up gives t setting i j h s p x.up) x
  between e r i j b h x = kept e r i j h (each_between (AtPort p IsUp) (own_keeps (λ party up. up ≡ true) p) s gives e r i j b h x.up) x

  ticked : (t : Side) (e : HostEvent) (r : Reply) (i j : WorldState) → IsTickOf t e → StepReplies gives i e r j → Stays i → Stays j
  ticked t e r i j (n, named, is) h x = let k = ticks gives n t r i j named (subst (λ f. StepReplies gives i f r j) is h) in
      kept e r i j h (each_side (λ u. EachAt (AtPort p IsUp) u i → EachAt (AtPort p IsUp) u j) t
      (λ a. Tick-each (AtPort p IsUp) (AtPort p IsUp) (own_keeps (λ party up. up ≡ true) p).settles (own_ticks (λ party up. up ≡ true) p)
      (gives t) (half t i).state answer.Tick (half t j).state k.step a)
      (λ a. subst (λ (y : SystemState). OfEach (AtPort p IsUp) y.system_ports) (sym k.peers) a) s x.up) x

  asked : (e : HostEvent) (r : Reply) (i j : WorldState) → Asks s p e → StepReplies gives i e r j → Stays i → NoneDue j
  asked e r i j (n, named, is) h x = let m = emits gives n p r i j (subst (λ f. StepReplies gives i f r j) is h) in
      let t : m.0 ≡ s = same_Some m.0 s (sym m.1 ∙ named) in
      let k = subst (λ u. Emits gives u p i j) t m.2 in
      let st = (half s i).state in
      let z = found p x.index st.system_ports x.place in
      let up = all-get (λ (y : SystemPort). AtPort p IsUp y.number y.port) st.system_ports x.index z.0 z.1 x.up
      (found_place p st.system_ports x.index z.0 x.place z.1) in
      let now = asked_none (gives s) p x.index z.0 k.a st (half s j).state x.place z.1 up k.promise.step in
      let steady = calm_timely gives e r i j h x.steady in
      subst (OfPort (λ q. is_due q ≡ false)) (sym (machines_there p (half s j).state x.index now.0
      (place_stays gives e r i j h x.steady steady s p ∙ x.place) now.1)) now.2

  -- neither an LACPDU nor a marker
  abbrev Drained : WorldState → Type 0
  Drained j = NoneDue j × (marker_due (half s j).state.table p ≡ None)

  drained_now : (e : HostEvent) (r : Reply) (i j : WorldState) → Asks s p e → StepReplies gives i e r j → Stays i → NoneDue i → Drained j
  drained_now e r i j (n, named, is) h x none = let m = emits gives n p r i j (subst (λ f. StepReplies gives i f r j) is h) in
      let t : m.0 ≡ s = same_Some m.0 s (sym m.1 ∙ named) in
      let k = subst (λ u. Emits gives u p i j) t m.2 in
      let st = (half s i).state in
      let z = found p x.index st.system_ports x.place in
      let up = all-get (λ (y : SystemPort). AtPort p IsUp y.number y.port) st.system_ports x.index z.0 z.1 x.up
      (found_place p st.system_ports x.index z.0 x.place z.1) in
      let not : is_due z.0.port ≡ false = subst (OfPort (λ q. is_due q ≡ false)) (machines_there p st x.index z.0 x.place z.1) none in
      (asked e r i j (n, named, is) h x, asked_marks (gives s) p x.index z.0 k.a st (half s j).state x.place z.1 up not k.promise.step)

  -- where nothing is sent, nothing is due

  by_due : (up : Bool) (due : Bool) (k : ℕ) (z : SystemPort) (old new : SystemState) → up ≡ true → TransmitsIf up due k z old None new
      → (due ≡ false) × (marker_due old.table z.number ≡ None) × (new ≡ old)
  by_due up due k z old new e h = grind (arith, nat_tests)

  own_left : (t : Side) (mid : HalfState) (j : WorldState) → (half t (with_half t mid j)).state ≡ mid.state
  own_left t mid j = ap (λ (k : HalfState). k.state) (half_there t mid j)

  no_reply : (v : Pdu) (b : Bool) → sent_nothing (sent_reply v b) ≡ false
  no_reply (pdu.Lacpdu v) b = refl
  no_reply (pdu.Marker m) b = refl

  vain_by : (a : Result (Option (List ℕ)) SystemFault) (mid : HalfState) (r : Reply) (i j : WorldState)
      → Step (gives s) (half s i).state (Transmit p) (answer.Transmit a) mid.state
      → AfterTransmit s p a (with_half s mid i) r (record j { acted = i.acted }) → sent_nothing r ≡ true → Stays i → Drained j
  vain_by (Err fault) mid r i j h after vain x = absurd (none-some x.index (sym h.cause ∙ x.place))
  vain_by (Ok (Some frame)) mid r i j h after vain x =
      absurd (false≢true (sym (no_reply (pdu_in (payload_in frame)) (is_accepted s p (with_half s mid i).links)) ∙ (ap sent_nothing (sym after.0) ∙ vain)))
  vain_by (Ok None) mid r i j h after vain x = let st = (half s i).state in
      let z = found p x.index st.system_ports x.place in
      let number = found_place p st.system_ports x.index z.0 x.place z.1 in
      let up = all-get (λ (y : SystemPort). AtPort p IsUp y.number y.port) st.system_ports x.index z.0 z.1 x.up number in
      let t = subst (λ k. TransmitsAt k st None mid.state) x.place h in
      let is : t.0 ≡ z.0 = same_Some t.0 z.0 (sym t.1 ∙ z.1) in
      let d = by_due t.0.port.enabled (is_due t.0.port) x.index t.0 st mid.state (ap (λ (y : SystemPort). y.port.enabled) is ∙ up) t.2 in
      let now : (half s j).state ≡ st = ap (λ (w : WorldState). (half s w).state) after.1 ∙ (own_left s mid i ∙ d.2) in
      let due : is_due z.0.port ≡ false = subst (λ (y : SystemPort). is_due y.port ≡ false) is d.0 in (
        subst (λ (y : SystemState). OfPort (λ q. is_due q ≡ false) (machines_of p y)) (sym now)
            (subst (OfPort (λ q. is_due q ≡ false)) (sym (machines_there p st x.index z.0 x.place z.1)) due),
        ap (λ (y : SystemState). marker_due y.table p) now
            ∙ (ap (marker_due st.table) (sym number ∙ ap (λ (y : SystemPort). y.number) (sym is)) ∙ d.1),
      )

  vain_now : (e : HostEvent) (r : Reply) (i j : WorldState) → Asks s p e → sent_nothing r ≡ true → StepReplies gives i e r j → Stays i → Drained j
  vain_now e r i j hyp1 hyp2 hyp3 hyp4 = grind (arith, nat_tests, value_of, same_Some, vain_by)

  at_first : (P : WorldState → Type 0) (es : List HostEvent) (rs : List Reply) (i j : WorldState) (run : RunReplies gives i es rs j) → P i
      → AtSomeWorld P gives es rs i j run
  at_first P [] [] i j run y = y
  at_first P (e ∷ es) (r ∷ rs) i j run y = inl y
  at_first P es rs i j run y = absurd run

  module _ (May : HostEvent → Type 0) (wide : (e : HostEvent) → May e → MayCome e) where
    -- each event of a round
    stays : (e : HostEvent) (r : Reply) (i j : WorldState) → Moves May e → StepReplies gives i e r j → Stays i → Stays j
    stays e r i j (inl (u, h)) step x = ticked u e r i j h step x
    stays e r i j (inr h) step x = between e r i j (wide e h) step x

    some_on : (es : List HostEvent) (rs : List Reply) (i j : WorldState) → AllByRecursion (Moves May) es → (run : RunReplies gives i es rs j)
        → AsksIn s p es → Stays i → AtSomeWorld NoneDue gives es rs i j run
    some_on [] rs i j h run q x = absurd q
    some_on (e ∷ es) [] i j h run q x = absurd run
    some_on (e ∷ es) (r ∷ rs) i j h run (inl q) x = inr (at_first NoneDue es rs run.0 j run.2 (asked e r i run.0 q run.1 x))
    some_on (e ∷ es) (r ∷ rs) i j h run (inr q) x = inr (some_on es rs run.0 j h.1 run.2 q (stays e r i run.0 h.0 run.1 x))

    after_on : (es : List HostEvent) (rs : List Reply) (i j : WorldState) → AllByRecursion (Moves May) es → (run : RunReplies gives i es rs j)
        → AsksAfterTick s p es → Stays i → AfterTick s NoneDue gives es rs i j run
    after_on [] rs i j h run q x = q
    after_on (e ∷ es) [] i j h run q x = absurd run
    after_on (e ∷ es) (r ∷ rs) i j h run (inl q) x = inl (q.0, some_on es rs run.0 j h.1 run.2 q.1 (stays e r i run.0 h.0 run.1 x))
    after_on (e ∷ es) (r ∷ rs) i j h run (inr q) x = inr (after_on es rs run.0 j h.1 run.2 q (stays e r i run.0 h.0 run.1 x))

    -- behind several ticks
    several_on : (n : ℕ) (es : List HostEvent) (rs : List Reply) (i j : WorldState) → AllByRecursion (Moves May) es → (run : RunReplies gives i es rs j)
        → AsksAfterTicks s p n es → Stays i → AfterTicks s NoneDue n gives es rs i j run
    several_on zero es rs i j h run q x = some_on es rs i j h run q x
    several_on (suc n) [] rs i j h run q x = absurd q
    several_on (suc n) (e ∷ es) [] i j h run q x = absurd run
    several_on (suc n) (e ∷ es) (r ∷ rs) i j h run (inl q) x =
        inl (q.0, several_on n es rs run.0 j h.1 run.2 q.1 (stays e r i run.0 h.0 run.1 x))
    several_on (suc n) (e ∷ es) (r ∷ rs) i j h run (inr q) x = inr (several_on (suc n) es rs run.0 j h.1 run.2 q (stays e r i run.0 h.0 run.1 x))

    -- if it is asked until it sends nothing
    vain_on : (es : List HostEvent) (rs : List Reply) (i j : WorldState) → AllByRecursion (Moves May) es → (run : RunReplies gives i es rs j)
        → AsksInVain s p es rs → Stays i → AtSomeWorld Drained gives es rs i j run
    vain_on (e ∷ es) (r ∷ rs) i j h run (inl q) x = inr (at_first Drained es rs run.0 j run.2 (vain_now e r i run.0 q.0 q.1 run.1 x))
    vain_on (e ∷ es) (r ∷ rs) i j h run (inr q) x = inr (vain_on es rs run.0 j h.1 run.2 q (stays e r i run.0 h.0 run.1 x))
    vain_on es rs i j h run q x = absurd q

    vain_after : (es : List HostEvent) (rs : List Reply) (i j : WorldState) → AllByRecursion (Moves May) es → (run : RunReplies gives i es rs j)
        → AsksInVainAfterTick s p es rs → Stays i → AfterTick s Drained gives es rs i j run
    vain_after (e ∷ es) (r ∷ rs) i j h run (inl q) x = inl (q.0, vain_on es rs run.0 j h.1 run.2 q.1 (stays e r i run.0 h.0 run.1 x))
    vain_after (e ∷ es) (r ∷ rs) i j h run (inr q) x = inr (vain_after es rs run.0 j h.1 run.2 q (stays e r i run.0 h.0 run.1 x))
    vain_after es rs i j h run q x = absurd q

    -- if it is asked twice in turn
    twice_on : (es : List HostEvent) (rs : List Reply) (i j : WorldState) → AllByRecursion (Moves May) es → (run : RunReplies gives i es rs j)
        → AsksTwice s p es → Stays i → AtSomeWorld Drained gives es rs i j run
    twice_on [] rs i j h run y x = absurd y
    twice_on (e ∷ []) rs i j h run y x = absurd y
    twice_on (e ∷ f ∷ es) [] i j h run y x = absurd run
    twice_on (e ∷ f ∷ es) (r ∷ []) i j h run y x = absurd run.2
    twice_on (e ∷ f ∷ es) (r ∷ q ∷ rs) i j h run (inl y) x = inr (inr (at_first Drained es rs run.2.0 j run.2.2
        (drained_now f q run.0 run.2.0 y.1 run.2.1 (stays e r i run.0 h.0 run.1 x) (asked e r i run.0 y.0 run.1 x))))
    twice_on (e ∷ f ∷ es) (r ∷ q ∷ rs) i j h run (inr y) x =
        inr (twice_on (f ∷ es) (q ∷ rs) run.0 j h.1 run.2 y (stays e r i run.0 h.0 run.1 x))

-- the port at an end of a healthy cable is there, and its link is up
stays_first : (gives : Algorithms) (s : Side) (i : ℕ) (l : LinkState) (old : WorldState) → AreTimely old → IsHealthyAt i l old → Stays gives s (port_at s l) old
stays_first gives s i l old steady y = let e = ends_at i l old y s in
    let st = (half s old).state in
    record {
      steady = steady;
      index = e.0;
      place = e.2;
      up = subst (λ n. OfEach (AtPort n (λ q. q.enabled ≡ true)) st.system_ports) (found_place (port_at s l) st.system_ports e.0 e.1 e.2 e.3)
          (at_number (λ q. q.enabled ≡ true) 0 st.system_ports e.0 e.1 (ports_rise st (steady s).0.ports) e.3 e.4);
    }

pub with_replies : (gives : Algorithms) → RunsHaveReplies gives
with_replies gives [] old new h = ([], h)
with_replies gives (e ∷ es) old new h =
    let one = replied e h.1 in let more = with_replies gives es h.0 new h.2 in (one.0 ∷ more.0, (h.0, one.1, more.1))
  where
    replied : (e : HostEvent) → HostSteps gives old e h.0 → (r : Reply) × StepReplies gives old e r h.0
    replied (Plays e) x = x
    replied e x = (reply.Nothing, x)

pub events_are_of_hosts : (gives : Algorithms) → EventsAreOfHosts gives
events_are_of_hosts gives [] [] old new h = h
events_are_of_hosts gives (e ∷ es) (r ∷ rs) old new h = (h.0, (r, h.1), events_are_of_hosts gives es rs h.0 new h.2)
events_are_of_hosts gives es rs old new h = absurd h

pub asking_is_played : (May : HostEvent → Type 0) → ((e : HostEvent) → May e → MayCome e) → (E : Clearing) (gives : Algorithms) → AskingIsPlayed May E gives
asking_is_played May wide E gives events replies old new timely turns acts asks clears = (
  record {
    events = events;
    replies = replies;
    ticks = turns;
    acts = acts;
    asked = λ s i l y. after_on gives s (port_at s l) May wide events replies old new (all_move May One events true true turns) acts (asks s i l y)
        (stays_first gives s i l old timely y);
    empties = clears;
  },
  refl,
)

pub asking_is_several : (May : HostEvent → Type 0) → ((e : HostEvent) → May e → MayCome e) → (gives : Algorithms) → AskingIsSeveral May gives
asking_is_several May wide gives n events replies old new timely turns acts asks clears = record {
  events = events;
  replies = replies;
  turns = turns;
  acts = acts;
  asked = λ s i l y. several_on gives s (port_at s l) May wide n events replies old new (several_move May n One events 0 0 turns) acts (asks s i l y)
      (stays_first gives s i l old timely y);
  empties = clears;
}

-- what is asked for and what arrives comes between ticks, and moves no conversation

asks_between : (links : List LinkState) → AllByRecursion AsksOrDelivers (asks_all links)
asks_between [] = tt
asks_between (l ∷ links) = (tt, (tt, (tt, (tt, asks_between links))))

pub delivers_between : (es : List Event) → AllByRecursion IsDeliver es → AllByRecursion AsksOrDelivers es
delivers_between [] h = tt
delivers_between (event.Deliver c n ∷ es) h = (tt, delivers_between es h.1)
delivers_between (e ∷ es) h = absurd h.0

pub move_none : (s : Side) (g k : ℕ) (es : List Event) → AllByRecursion AsksOrDelivers es → AllByRecursion (IsNoMoveOf s g k) (map Plays es)
move_none s g k [] h = tt
move_none s g k (event.Emit n p ∷ es) h = (tt, move_none s g k es h.1)
move_none s g k (event.Deliver c n ∷ es) h = (tt, move_none s g k es h.1)
move_none s g k (e ∷ es) h = absurd h.0

all_between : (es : List Event) → AllByRecursion AsksOrDelivers es → TickOnce One false false (map Plays es)
all_between [] h = (refl, refl)
all_between (event.Emit n p ∷ es) h = inr (inr (tt, all_between es h.1))
all_between (event.Deliver c n ∷ es) h = inr (inr (tt, all_between es h.1))
all_between (e ∷ es) h = absurd h.0

pub both_tick : (es : List Event) → AllByRecursion AsksOrDelivers es → TickOnce One true true (map Plays (ticks_of_both ++ es))
both_tick es h = inl ((1, refl, refl), refl, inr (inl ((2, refl, refl), refl, all_between es h)))

-- a healthy round is a round of hosts

pub round_between : (old new : WorldState) (gives : Algorithms) (h : IsRound gives old new) → AllByRecursion AsksOrDelivers (asks_all old.links ++ h.delivers)
round_between old new gives h =
    all-append AsksOrDelivers (asks_all old.links) h.delivers (asks_between old.links) (delivers_between h.delivers h.arrives)

-- and each end has nothing due once it is asked twice

twice_later : (s : Side) (p : ℕ) (e : HostEvent) (es : List HostEvent) → AsksTwice s p es → AsksTwice s p (e ∷ es)
twice_later s p e es h = grind (arith, nat_tests)

asks_twice : (s : Side) (i : ℕ) (links : List LinkState) (more : List Event) (l : LinkState) → slice_get links i ≡ Some l
    → AsksTwice s (port_at s l) (map Plays (asks_all links ++ more))
asks_twice s i [] more l e = absurd (none-some l e)
asks_twice s zero (m ∷ links) more l e = grind (arith, nat_tests)
asks_twice s (suc i) (m ∷ links) more l e = inr (inr (inr (twice_later s (port_at s l) (Plays (event.Emit 2 m.two))
    (map Plays (asks_all links ++ more)) (asks_twice s i links more l e))))

at_map : (P Q : WorldState → Type 0) (gives : Algorithms) → ((j : WorldState) → P j → Q j) → (es : List HostEvent) (rs : List Reply) (i j : WorldState)
    (run : RunReplies gives i es rs j) → AtSomeWorld P gives es rs i j run → AtSomeWorld Q gives es rs i j run
at_map P Q gives k [] [] i j run y = k i y
at_map P Q gives k (e ∷ es) (r ∷ rs) i j run (inl y) = inl (k i y)
at_map P Q gives k (e ∷ es) (r ∷ rs) i j run (inr y) = inr (at_map P Q gives k es rs run.0 j run.2 y)
at_map P Q gives k es rs i j run y = absurd run

after_map : (s : Side) (P Q : WorldState → Type 0) (gives : Algorithms) → ((j : WorldState) → P j → Q j) → (es : List HostEvent) (rs : List Reply)
    (i j : WorldState) (run : RunReplies gives i es rs j) → AfterTick s P gives es rs i j run → AfterTick s Q gives es rs i j run
after_map s P Q gives k (e ∷ es) (r ∷ rs) i j run (inl y) = inl (y.0, at_map P Q gives k es rs run.0 j run.2 y.1)
after_map s P Q gives k (e ∷ es) (r ∷ rs) i j run (inr y) = inr (after_map s P Q gives k es rs run.0 j run.2 y)
after_map s P Q gives k es rs i j run y = absurd y

-- a run in which each end has nothing due after its system's tick is draining
drains : (t : Side) (g k : ℕ) (gives : Algorithms) (events : List HostEvent) (replies : List Reply) (old new : WorldState) → TickOnce One true true events
    → AllByRecursion (IsNoMoveOf t g k) events → (run : RunReplies gives old events replies new)
    → ((s : Side) (i : ℕ) (l : LinkState) → IsHealthyAt i l old → AfterTick s (NothingIsDue s l) gives events replies old new run)
    → NothingInFlight new → IsDrainingRound t g k gives old new
drains t g k gives events replies old new turns still run drained empty = record {
  round = record {
    events = events;
    replies = replies;
    ticks = turns;
    acts = run;
    asked = λ s i l y. after_map s (NothingIsDue s l) (λ j. AtEnd (λ p. is_due p ≡ false) s l j) gives (λ j z. z.0) events replies old new run
        (drained s i l y);
    empties = empty;
  };
  still = still;
  drained = drained;
}

pub round_is_draining : (gives : Algorithms) → RoundIsDraining gives
round_is_draining gives t g k old new steady h = drains t g k gives (map Plays events) h.replies old new turns
    (tt, (tt, move_none t g k (asks_all old.links ++ h.delivers) (round_between old new gives h))) run drained h.empties
  where
    events : List Event
    events = ticks_of_both ++ (asks_all old.links ++ h.delivers)

    turns : TickOnce One true true (map Plays events)
    turns = both_tick (asks_all old.links ++ h.delivers) (round_between old new gives h)

    run : RunReplies gives old (map Plays events) h.replies new
    run = as_played gives events h.replies old new h.acts

    -- at some world of the run after both ticks
    at_some : (s : Side) (i : ℕ) (l : LinkState) → IsHealthyAt i l old → (rs : List Reply) (mid : WorldState)
        → (run : RunReplies gives mid (map Plays (asks_all old.links ++ h.delivers)) rs new) → Stays gives s (port_at s l) mid
        → AtSomeWorld (NothingIsDue s l) gives (map Plays (asks_all old.links ++ h.delivers)) rs mid new run
    at_some s i l y rs mid run x = twice_on gives s (port_at s l) IsBetweenTicks come_between (map Plays (asks_all old.links ++ h.delivers)) rs mid new
        (all_move IsBetweenTicks One (map Plays (asks_all old.links ++ h.delivers)) false false
        (all_between (asks_all old.links ++ h.delivers) (round_between old new gives h))) run (asks_twice s i old.links h.delivers l y.there) x

    after : (s : Side) (i : ℕ) (l : LinkState) → IsHealthyAt i l old → (rs : List Reply)
        → (run : RunReplies gives old (map Plays events) rs new) → AfterTick s (NothingIsDue s l) gives (map Plays events) rs old new run
    after s i l y [] run = absurd run
    after s i l y (r ∷ []) run = absurd run.2
    after s i l y (r ∷ q ∷ rs) run = let one = Plays (event.Tick 1 1) in
        let two = Plays (event.Tick 2 1) in
        let es = map Plays (asks_all old.links ++ h.delivers) in
        let moves : AllByRecursion (Moves IsBetweenTicks) (one ∷ two ∷ es) = all_move IsBetweenTicks One (one ∷ two ∷ es) true true turns in
        let first = stays gives s (port_at s l) IsBetweenTicks come_between one r old run.0 moves.0 run.1
        (stays_first gives s i l old (timely old steady) y) in
        let second = stays gives s (port_at s l) IsBetweenTicks come_between two q run.0 run.2.0 moves.1.0 run.2.1 first in
        by_side s (at_some s i l y rs run.2.0 run.2.2 second)
      where
        by_side : (s : Side) → AtSomeWorld (NothingIsDue s l) gives (map Plays (asks_all old.links ++ h.delivers)) rs run.2.0 new run.2.2
            → AfterTick s (NothingIsDue s l) gives (map Plays events) (r ∷ q ∷ rs) old new run
        by_side One z = inl ((1, refl, refl), inr z)
        by_side Two z = inr (inl ((2, refl, refl), z))

    drained : (s : Side) (i : ℕ) (l : LinkState) → IsHealthyAt i l old → AfterTick s (NothingIsDue s l) gives (map Plays events) h.replies old new run
    drained s i l y = after s i l y h.replies run

pub round_is_host_round : (gives : Algorithms) → RoundIsHostRound gives
unfolding round_is_draining drains
round_is_host_round gives old new steady h = ((round_is_draining gives One 0 0 old new steady h).round, refl)

-- draining rounds are rounds of hosts

pub draining_are_host : (gives : Algorithms) (s : Side) (g k n : ℕ) (old new : WorldState) → DrainingRounds s g k gives n old new → HostRounds gives n old new
draining_are_host gives s g k zero old new h = h
draining_are_host gives s g k (suc n) old new h = (h.0, draining_are_host gives s g k n old h.0 h.1, h.2.round)

pub rounds_are_draining : (gives : Algorithms) (t : Side) (g k n : ℕ) (old new : WorldState) → IsSteady old → Rounds gives n old new
    → DrainingRounds t g k gives n old new
rounds_are_draining gives t g k zero old new steady h = h
rounds_are_draining gives t g k (suc n) old new steady h = let before = rounds_are_draining gives t g k n old h.0 steady h.1 in (
  h.0,
  before,
  round_is_draining gives t g k h.0 new (played_steady NoneIsLeft gives n old h.0 steady (draining_are_host gives t g k n old h.0 before)) h.2,
)

pub rounds_are_host_rounds : (gives : Algorithms) → RoundsAreHostRounds gives
rounds_are_host_rounds gives n old new steady h =
    draining_are_host gives One 0 0 n old new (rounds_are_draining gives One 0 0 n old new steady h)

-- so is a round in which each end is asked after its system's tick until it sends nothing

pub asking_in_vain_is_draining : (gives : Algorithms) → AskingInVainIsDraining gives
asking_in_vain_is_draining gives t g k events replies old new steady turns still run asks empty = drains t g k gives events replies old new turns still run
    (λ s i l y. vain_after gives s (port_at s l) IsBetweenTicks come_between events replies old new (all_move IsBetweenTicks One events true true turns) run
    (asks s i l y) (stays_first gives s i l old (timely old steady) y)) empty

-- as where both systems tick first

pub vain_after_ticks : (gives : Algorithms) (s : Side) (p : ℕ) (ts : List Reply) (es : List Event) (rs : List Reply) (old ticked : WorldState)
    → WorldRuns gives old ticks_of_both ts ticked → AsksInVain s p (map Plays es) rs → AsksInVainAfterTick s p (map Plays (ticks_of_both ++ es)) (ts ++ rs)
vain_after_ticks gives s p [] es rs old ticked run h = absurd run
vain_after_ticks gives s p (r ∷ []) es rs old ticked run h = absurd run.2
vain_after_ticks gives One p (r ∷ q ∷ []) es rs old ticked run h = inl ((1, refl, refl), inr h)
vain_after_ticks gives Two p (r ∷ q ∷ []) es rs old ticked run h = inr (inl ((2, refl, refl), h))
vain_after_ticks gives s p (r ∷ q ∷ x ∷ ts) es rs old ticked run h = absurd run.2.2
