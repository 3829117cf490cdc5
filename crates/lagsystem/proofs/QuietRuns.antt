-- A run of ticks in which nothing is soon.
use Rattle.lagsystem.proofs.Common.{List, None, Option, Some, [], ap, arith, false, is_some, map, option_map, refl, replicate, slice_get, subst, suc}
use Rattle.lagsystem.proofs.Common.{sym, true, zero, ℕ, ◌+◌, ◌-◌, ◌<◌, ◌∙◌, ◌∷◌, ◌≡◌, ◌≤◌, false≢true, nat_tests, none-some, same_Some}
use Rattle.lagsystem.proofs.Common.{AllByRecursion, Key, AggregatorsValue, Assignment, On, is_among, after_tick, IsConversation, assignment_of, is_by}
use Rattle.lagsystem.proofs.Common.{sooner, ticks_until_next_wanted, by_first, by_second, SystemPort, Step, TableRun, Tick, Ticks, would_transmit}
use Rattle.lagsystem.proofs.Common.{MuxIsSettled, MuxesAreSettled, PeriodicsAreSettled, NoneIsNext, IsBeyond, NothingIsDue, OnlyCounted, counted}
use Rattle.lagsystem.proofs.Common.{counted_times, fewer, waited, aggregator_numbered, distributing, HoldsConversations, Settling, IsSound}
use Rattle.lagsystem.proofs.Common.{SystemState, aggregators_value, port_index, system_port_at, with_system_ports, with_table, views, soonest}
use Rattle.lagsystem.proofs.Common.{ticks_until_due, ticks_until_due_on, ticks_until_expired, ticks_until_frame, ticks_until_room}
use Rattle.lagsystem.specs.declared.drive.Reply.TheVariants as reply
use Rattle.lagsystem.proofs.Keeps.{keeps_settled, keeps_tick, settling_joined}
use Rattle.lagsystem.proofs.OneSettling.{SameAfter, settlings_one}
use Rattle.lagsystem.proofs.QuietLeft.{each_left, fewer_sooner, fewer_twice, none_fewer, table_left}
use Rattle.lagsystem.proofs.Quieting.{paced_runs, still_settles}
use Rattle.lagsystem.proofs.QuietTicks.{Lasts, PortLasts, Remains, TableTicked, carried_on, counted_distributing, counted_paced, counted_ports}
use Rattle.lagsystem.proofs.QuietTicks.{counted_views, each_lasts, frame_not, on_before, same_marker, table_lasts, waits_on}
use Rattle.lagsystem.proofs.Rising.{all-get}
use Rattle.lagsystem.proofs.Skipping.{all_among}
use Rattle.lagsystem.proofs.Sound.{Step-sound}

-- what a tick does in which nothing is soon
record OneTick (j : ℕ) (old new : SystemState) : Type 0 where
  pub remains : Remains j (ticks_until_due new)
  pub frame : new ≡ with_table (with_system_ports old new.system_ports) new.table
  pub ports : new.system_ports ≡ map counted old.system_ports
  pub table : TableTicked old.table new.table
  pub left : ticks_until_due new ≡ fewer 1 (ticks_until_due old)

still_counted : (j : ℕ) (s : SystemState) (keys : List Key) (system_ports xs : List SystemPort) → AllByRecursion (PortLasts j s) xs
    → AllByRecursion (MuxIsSettled keys system_ports) xs → AllByRecursion (MuxIsSettled keys system_ports) (map counted xs)
still_counted j s keys system_ports [] l h = tt
still_counted j s keys system_ports (x ∷ xs) l h = grind (arith, nat_tests, still_counted j s keys system_ports xs l.1 h.1)

-- what lasts so long remains after a tick
lasts_fewer : (j : ℕ) (x : Option ℕ) → Lasts j x → Remains j (fewer 1 x)
lasts_fewer j x h = grind (arith, nat_tests)

one_tick : (gives : ℕ → ℕ → ℕ → Type 0) (j : ℕ) (old new : SystemState) → IsSound old → Lasts j (ticks_until_due old)
    → Step gives old Tick reply.Tick new → OneTick j old new
one_tick gives j old new s h step = record {
  remains = subst (Remains j) (sym left) (lasts_fewer j (ticks_until_due old) h);
  frame = (keeps_settled Ticks old new (λ between own. keeps_tick old between own) step).frame;
  ports = ports;
  table = table;
  left = left;
}
  where
    mid : SystemState
    mid = step.0

    waits : Lasts j (ticks_until_next_wanted old.table)
    waits = by_first (Some (j + 2)) (ticks_until_next_wanted old.table) (soonest (map (ticks_until_due_on old) old.system_ports)) h

    each : AllByRecursion (PortLasts j old) old.system_ports
    each = each_lasts j old old.system_ports
        (by_second (Some (j + 2)) (ticks_until_next_wanted old.table) (soonest (map (ticks_until_due_on old) old.system_ports)) h)

    all_counted : mid.system_ports ≡ map counted old.system_ports
    all_counted = counted_ports j old old.system_ports mid.system_ports each s.rested.0 step.1.0

    seen : views (map counted old.system_ports) ≡ views old.system_ports
    seen = counted_views j old old.system_ports each

    aggs : aggregators_value mid ≡ aggregators_value old
    aggs = ap aggregators_value step.1.2

    muxes : MuxesAreSettled mid.keys mid.system_ports
    muxes = subst (λ l. MuxesAreSettled mid.keys l) (sym all_counted)
        (subst (λ (a : AggregatorsValue). MuxesAreSettled a.keys (map counted old.system_ports)) (sym aggs)
        (all_among old.keys old.system_ports (map counted old.system_ports) (map counted old.system_ports) seen
        (still_counted j old old.keys old.system_ports old.system_ports each s.quiet.0)))

    none : NoneIsNext (aggregators_value mid) (views mid.system_ports)
    none = subst (λ l. NoneIsNext (aggregators_value mid) (views l)) (sym all_counted)
        (subst (λ l. NoneIsNext (aggregators_value mid) l) (sym seen)
        (subst (λ a. NoneIsNext a (views old.system_ports)) (sym aggs) s.promoted))

    paced : PeriodicsAreSettled mid.system_ports
    paced = subst PeriodicsAreSettled (sym all_counted) (counted_paced j old old.system_ports each s.quiet.1)

    on_distributing : (g k p : ℕ) → assignment_of mid.table g k ≡ On p → is_among (distributing (aggregator_numbered g) mid.system_ports) p ≡ true
    on_distributing g k p e = ap (λ l. is_among l p) (ap (distributing (aggregator_numbered g)) all_counted
        ∙ counted_distributing (aggregator_numbered g) old.system_ports)
        ∙ s.carried g k p (on_before (assignment_of old.table g k) p (sym (step.1.1.states g k) ∙ e))

    holds : HoldsConversations mid mid
    holds = record {
      frame = refl;
      aggs = refl;
      conversations = refl;
      first = refl;
      next = refl;
      states = λ g k. carried_on (distributing (aggregator_numbered g) mid.system_ports) (assignment_of mid.table g k)
          (λ p e. on_distributing g k p e);
    }

    still : Settling mid mid
    still = settling_joined mid mid mid (still_settles mid mid.system_ports muxes none (paced_runs mid.system_ports paced)) holds

    after : SameAfter mid new
    after = settlings_one mid mid mid new
        (refl, record { aggs = refl; conversations = refl; first = refl; next = refl; states = λ g k. refl }) refl still step.2

    ports : new.system_ports ≡ map counted old.system_ports
    ports = after.0 ∙ all_counted

    table : TableTicked old.table new.table
    table = record {
      aggs = after.1.aggs ∙ step.1.1.aggs;
      conversations = after.1.conversations ∙ step.1.1.conversations;
      first = after.1.first ∙ step.1.1.first;
      next = after.1.next ∙ step.1.1.next;
      states = λ g k. after.1.states g k ∙ step.1.1.states g k;
    }

    left : ticks_until_due new ≡ fewer 1 (ticks_until_due old)
    left = (λ i. sooner (table_left j old.table new.table table waits i) (soonest (map (ticks_until_due_on new) (ports i))))
        ∙ (ap (sooner (fewer 1 (ticks_until_next_wanted old.table)))
        (each_left j old new old.system_ports (λ n. ap is_some (same_marker n j old.table new.table table waits)) each)
        ∙ fewer_sooner 1 (ticks_until_next_wanted old.table) (soonest (map (ticks_until_due_on old) old.system_ports)))

-- nothing is due

none_due : (k : ℕ) (s : SystemState) (xs : List SystemPort) → is_by (Some (k + 1)) (soonest (map (ticks_until_due_on s) xs)) ≡ true
    → AllByRecursion (λ x. would_transmit s x ≡ false) xs
none_due k s [] h = tt
none_due k s (x ∷ xs) h = let c = Some (k + 1) in
    let rest = soonest (map (ticks_until_due_on s) xs) in
    let others =
    soonest
    (ticks_until_expired x.port.current_while
    ∷ ticks_until_expired x.port.periodic_timer
    ∷ ticks_until_expired x.port.wait_while
    ∷ ticks_until_room x.port
    ∷ []) in (
      frame_not k (would_transmit s x) (by_first c (ticks_until_frame s x) others (by_first c (ticks_until_due_on s x) rest h)),
      none_due k s xs (by_second c (ticks_until_due_on s x) rest h),
    )

nothing_due : (k : ℕ) (s : SystemState) → Remains k (ticks_until_due s) → NothingIsDue s
nothing_due k s h n = at (port_index n s.system_ports)
  where
    each : AllByRecursion (λ x. would_transmit s x ≡ false) s.system_ports
    each = none_due k s s.system_ports
        (by_second (Some (k + 1)) (ticks_until_next_wanted s.table) (soonest (map (ticks_until_due_on s) s.system_ports)) h)

    found : (i : ℕ) (r : Option SystemPort) → slice_get s.system_ports i ≡ r → option_map (would_transmit s) r ≡ Some true → ⊥
    found i None e t = none-some true t
    found i (Some x) e t =
        false≢true (sym (all-get (λ x. would_transmit s x ≡ false) s.system_ports i x e each) ∙ same_Some (would_transmit s x) true t)

    at : (o : Option ℕ) → option_map (would_transmit s) (system_port_at o s.system_ports) ≡ Some true → ⊥
    at None t = none-some true t
    at (Some i) t = found i (slice_get s.system_ports i) refl t

beyond : (m : ℕ) (x : Option ℕ) → IsBeyond m x → Remains m x
beyond m x h = grind (arith, nat_tests)

waited_longer : (m : ℕ) (a : Assignment) → waited m (waited 1 a) ≡ waited (suc m) a
waited_longer m a = grind (arith, nat_tests)

not_waited : (a : Assignment) → a ≡ waited 0 a
not_waited a = grind (arith, nat_tests)

-- one such tick before m others
joined : (m : ℕ) (old mid new : SystemState) → Lasts m (ticks_until_due old) → OneTick m old mid → OnlyCounted m mid new → OnlyCounted (suc m) old new
joined m old mid new lasts one rest = record {
  due = rest.due;
  frame = rest.frame ∙ ap (λ (s : SystemState). with_table (with_system_ports s new.system_ports) new.table) one.frame;
  ports = rest.ports ∙ ap (counted_times m) one.ports;
  distributing = λ agg. rest.distributing agg ∙ ap (distributing agg) one.ports ∙ counted_distributing agg old.system_ports;
  table = rest.table ∙ (λ i. record {
    aggs = one.table.aggs i;
    conversations = one.table.conversations i;
    first = one.table.first i;
    next = one.table.next i;
    states = new.table.states;
  });
  conversations = λ g k i. rest.conversations g k (
    i.0,
    subst (λ n. g ≤ n) (sym one.table.aggs) i.1,
    subst (λ n. k < n) (sym one.table.conversations) i.2,
  ) ∙ (ap (waited m) (one.table.states g k ∙ longer g k i) ∙ waited_longer m (assignment_of old.table g k));
  left = rest.left ∙ (ap (fewer m) one.left ∙ (fewer_twice m 1 (ticks_until_due old) ∙ ap (λ n. fewer n (ticks_until_due old)) next));
}
  where
    next : 1 + m ≡ suc m
    next = omega arith

    waits : Lasts m (ticks_until_next_wanted old.table)
    waits = by_first (Some (m + 2)) (ticks_until_next_wanted old.table) (soonest (map (ticks_until_due_on old) old.system_ports)) lasts

    longer : (g k : ℕ) → IsConversation old.table g k → after_tick (assignment_of old.table g k) ≡ waited 1 (assignment_of old.table g k)
    longer g k i = let e : (g - 1) + 1 ≡ g = omega (arith, i.0) in
        let below : g - 1 < old.table.aggs = omega (arith, i.0, i.1) in
        subst (λ a. after_tick (assignment_of old.table a k) ≡ waited 1 (assignment_of old.table a k)) e
        (waits_on m (assignment_of old.table ((g - 1) + 1) k) (table_lasts m old.table waits (g - 1) k below i.2)).longer

run : (gives : ℕ → ℕ → ℕ → Type 0) (m : ℕ) (old new : SystemState) → IsSound old → Remains m (ticks_until_due old)
    → TableRun gives old (replicate m Tick) (replicate m reply.Tick) new → OnlyCounted m old new
run gives zero old new s h e = subst (OnlyCounted 0 old) (sym e) (record {
  due = nothing_due 0 old h;
  frame = refl;
  ports = refl;
  distributing = λ agg. refl;
  table = refl;
  conversations = λ g k i. not_waited (assignment_of old.table g k);
  left = none_fewer (ticks_until_due old);
})
run gives (suc m) old new s h r = let e : suc m + 1 ≡ m + 2 = omega arith in
    let lasts = subst (λ n. is_by (Some n) (ticks_until_due old) ≡ true) e h in
    let one = one_tick gives m old r.0 s lasts r.1 in
    joined m old r.0 new lasts one (run gives m r.0 new (Step-sound gives old Tick reply.Tick r.0 r.1 s) one.remains r.2)

-- until the ticks have passed, a tick only counts
pub quiet_run : (gives : ℕ → ℕ → ℕ → Type 0) (m : ℕ) (old new : SystemState) → IsSound old → IsBeyond m (ticks_until_due old)
    → TableRun gives old (replicate m Tick) (replicate m reply.Tick) new → OnlyCounted m old new
quiet_run gives m old new s h r = run gives m old new s (beyond m (ticks_until_due old) h) r
