-- An LACPDU after which the port looks the same to the Selection Logic: a settling goes on with this port alone.
use Rattle.lagsystem.proofs.Common.{Bool, List, Option, Some, [], ap, arith, false, inl, refl, slice_get, slice_set, subst, suc, sym, true, zero, ℕ, ◌∙◌}
use Rattle.lagsystem.proofs.Common.{◌∷◌, ◌≡◌, nat_tests, same_Some, OnTrue, AllByRecursion, AggId, Key, Lacpdu, Machines, mux_rows, RunsPeriodic}
use Rattle.lagsystem.proofs.Common.{AtRest, FiresTimes, RunsToRest, one_mux, Reaches-keeps, PortView, ChangesAssignments, Table, SystemPort}
use Rattle.lagsystem.proofs.Common.{OnlyPortChangesBy, PortAtChangesBy, ProcessesLacpdu, ThenSettles, after_holding, aggregators_in_use, stopped}
use Rattle.lagsystem.proofs.Common.{HasRecordedActor, IsSamePartner, LooksUnchanged, MuxIsSettled, MuxesAreSettled, PeriodicsAreSettled}
use Rattle.lagsystem.proofs.Common.{ProcessesLacpduAndRunsMux, ProcessesLacpduAt, NoneIsNext, collecting, PortChangesBy, PortsChangeBy, SettlesPorts}
use Rattle.lagsystem.proofs.Common.{Settling, IsSound, SystemState, aggregators_value, with_system_ports, selection_view, stage_of, views}
use Rattle.selection.specs.declared.view.Stage.TheVariants as stage
use Rattle.portmachines.specs.Hearing.{HearsAgain}
use Rattle.lagsystem.proofs.Keeps.{ports_keep, ports_table, settling_joined}
use Rattle.lagsystem.proofs.Occupying.{LeavesOrStays, both_stay, mux_stays, taking_stays}
use Rattle.lagsystem.proofs.PlaceLemmas.{in_use_before}
use Rattle.lagsystem.proofs.Quieting.{paced_runs, settles_from, still_mux}
use Rattle.lagsystem.proofs.Rising.{all-get, all-set}
use Rattle.lagsystem.proofs.Settled.{is_moved_on, moved_on, place_carried}
use Rattle.lagsystem.proofs.Stopped.{leaves_made}

-- an LACPDU, then the mux machine with Ready false
abbrev pub ProcessesAndRuns : Lacpdu → Machines → Machines → Type 0
ProcessesAndRuns v p q = (r : Machines) × ProcessesLacpdu v p r × RunsToRest (mux_rows false) r q

pub processed_stays : (v : Lacpdu) (p q : Machines) → ProcessesAndRuns v p q → LeavesOrStays p q
processed_stays v p q h = both_stay p h.0 q (taking_stays v p h.0 h.1) (mux_stays false h.0 q h.2)

-- the views
pub alike_views : (system_ports : List SystemPort) (i : ℕ) (s t : SystemPort) → slice_get system_ports i ≡ Some s
    → selection_view t ≡ selection_view s → views (slice_set system_ports i t) ≡ views system_ports
alike_views [] i s t e h = refl
alike_views (x ∷ xs) zero s t e h = let same : s ≡ x = sym (same_Some x s e) in λ i. (h ∙ ap selection_view same) i ∷ views xs
alike_views (x ∷ xs) (suc i) s t e h = ap (λ vs. selection_view x ∷ vs) (alike_views xs i s t e h)

still_among : (keys : List Key) (system_ports news : List SystemPort) (s : SystemPort) → views news ≡ views system_ports
    → MuxIsSettled keys system_ports s → MuxIsSettled keys news s
still_among keys system_ports news s e h = grind (arith, nat_tests)

pub all_among : (keys : List Key) (system_ports news xs : List SystemPort) → views news ≡ views system_ports
    → AllByRecursion (MuxIsSettled keys system_ports) xs → AllByRecursion (MuxIsSettled keys news) xs
all_among keys system_ports news [] e h = tt
all_among keys system_ports news (x ∷ xs) e h = (still_among keys system_ports news x e h.0, all_among keys system_ports news xs e h.1)

pub alike_still : (keys : List Key) (system_ports : List SystemPort) (s t : SystemPort) → selection_view t ≡ selection_view s
    → t.held ≡ s.held → AtRest (mux_rows false) t.port → MuxIsSettled keys system_ports s → MuxIsSettled keys system_ports t
alike_still keys system_ports s t e held r h = grind (arith, nat_tests)

-- the ports are settled again once the mux machine of one that looks the same is at rest
ran_still : (keys : List Key) (system_ports : List SystemPort) (i : ℕ) (s u : SystemPort) → slice_get system_ports i ≡ Some s → AtRest (mux_rows false) u.port
    → LooksUnchanged s u → u.held ≡ s.held → MuxesAreSettled keys system_ports → MuxesAreSettled keys (slice_set system_ports i u)
ran_still keys system_ports i s u e rest a held h = let here = all-get (MuxIsSettled keys system_ports) system_ports i s e h in
    grind (arith, nat_tests, alike_views, all_among, slice_set, all-set, alike_still)

-- every other mux machine is at rest
set_ran : (keys : List Key) (all system_ports : List SystemPort) (i : ℕ) (t u : SystemPort) → AllByRecursion (MuxIsSettled keys all) system_ports
    → PortChangesBy (RunsToRest (mux_rows false)) t u → PortsChangeBy (RunsToRest (mux_rows false)) (slice_set system_ports i t) (slice_set system_ports i u)
set_ran keys all [] i t u h m = tt
set_ran keys all (x ∷ xs) zero t u h m = (m, still_mux keys all xs h.1)
set_ran keys all (x ∷ xs) (suc i) t u h m = ((refl, (0, refl, h.0.mux)), set_ran keys all xs i t u h.1 m)

-- all but the port at the place are paced
set_runs : (system_ports : List SystemPort) (i : ℕ) (t u : SystemPort) → PeriodicsAreSettled system_ports → PortChangesBy RunsPeriodic t u
    → PortsChangeBy RunsPeriodic (slice_set system_ports i t) (slice_set (slice_set system_ports i t) i u)
set_runs [] i t u h m = tt
set_runs (x ∷ xs) zero t u h m = (m, paced_runs xs h.1)
set_runs (x ∷ xs) (suc i) t u h m = ((refl, (x.port, (0, refl, h.0.rows), h.0.cleared)), set_runs xs i t u h.1 m)

-- the port at the place goes on, and no other does
get_set : (system_ports : List SystemPort) (i : ℕ) (s t u : SystemPort) → slice_get system_ports i ≡ Some s
    → slice_get (slice_set system_ports i t) i ≡ Some u → u ≡ t
get_set [] i s t u e h = absurd cc
get_set (x ∷ xs) zero s t u e h = sym (same_Some t u h)
get_set (x ∷ xs) (suc i) s t u e h = get_set xs i s t u e h

pub on_place_taken : (v : Lacpdu) (i : ℕ) (old : List SystemPort) (alike : Bool) (new : List SystemPort)
    → ProcessesLacpduAt v i old alike new → PortAtChangesBy (ProcessesAndRuns v) (Some i) old new
on_place_taken v i old alike new h = grind (arith, nat_tests)

-- the state right after the LACPDU
abbrev pub processed : (v : Lacpdu) (old : SystemState) (i : ℕ) (alike : Bool) (new : List SystemPort)
    → ProcessesLacpduAt v i old.system_ports alike new → SystemState
processed v old i alike new h = with_system_ports old (slice_set old.system_ports i h.changes.mid)

-- what the call itself does
pub own_made : (v : Lacpdu) (old : SystemState) (i : ℕ) (alike : Bool) (new : List SystemPort) (h : ProcessesLacpduAt v i old.system_ports alike new)
    → OnlyPortChangesBy (Some i) (ProcessesLacpdu v) old (processed v old i alike new h)
own_made v old i alike new h = grind (arith, nat_tests)

-- a settling that finds the mux machine of the port run already
first_joined : (system_ports : List SystemPort) (i : ℕ) (t u : SystemPort) (xs : List SystemPort) → PortChangesBy (RunsToRest (mux_rows false)) t u
    → PortsChangeBy (RunsToRest (mux_rows false)) (slice_set system_ports i u) xs → PortsChangeBy (RunsToRest (mux_rows false)) (slice_set system_ports i t) xs
first_joined [] i t u xs m h = h
first_joined (x ∷ xs) zero t u [] m h = absurd h
first_joined (x ∷ xs) zero t u (y ∷ ys) m h =
    let same : u.port ≡ y.port = one_mux false u.port u.port y.port (0, refl, m.1.2) h.0.1 in (
      (h.0.0 ∙ ap (λ (z : SystemPort). record z { port = y.port }) m.0, subst (λ (q : Machines). RunsToRest (mux_rows false) t.port q) same m.1),
      h.1,
    )
first_joined (x ∷ xs) (suc i) t u [] m h = absurd h
first_joined (x ∷ xs) (suc i) t u (y ∷ ys) m h = (h.0, first_joined xs i t u ys m h.1)

pub took_settled : (v : Lacpdu) (old : SystemState) (i : ℕ) (alike : Bool) (one : List SystemPort) (new : SystemState)
    → ProcessesLacpduAt v i old.system_ports alike one → Settling (with_system_ports old one) new
    → ThenSettles (OnlyPortChangesBy (Some i) (ProcessesLacpdu v)) old new
took_settled v old i alike one new h k = let k2 : Settling (with_system_ports old (slice_set old.system_ports i h.after)) new =
    subst (λ l. Settling (with_system_ports old l) new) h.others k in (
      processed v old i alike one h,
      own_made v old i alike one h,
      (k2.0, (first_joined old.system_ports i h.changes.mid h.after k2.0.system_ports h.changes.runs k2.1.0, k2.1.1), k2.2),
    )

-- steps 1 to 5, where the port looks the same after each
ports_settled : (v : Lacpdu) (old : SystemState) (i : ℕ) (one two : List SystemPort) → MuxesAreSettled old.keys old.system_ports
    × PeriodicsAreSettled old.system_ports → NoneIsNext (aggregators_value old) (views old.system_ports)
    → (h : ProcessesLacpduAt v i old.system_ports true one) → PortAtChangesBy RunsPeriodic (Some i) one two
    → SettlesPorts (processed v old i true one h) (with_system_ports old two)
ports_settled v old i one two q none h k = let u = h.after in
    let us = slice_set old.system_ports i u in
    let is : k.0 ≡ u = get_set old.system_ports i h.before u k.0 h.there (ap (λ l. slice_get l i) (sym h.others) ∙ k.2) in
    let runs : RunsPeriodic u.port k.1 = subst (λ (x : SystemPort). RunsPeriodic x.port k.1) is k.3 in
    let w : SystemPort = record u { port = k.1 } in
    let last : two ≡ slice_set us i w = k.4 ∙ (λ j. slice_set (h.others j) i (record (is j) { port = k.1 })) in
    subst (λ l. SettlesPorts (processed v old i true one h) (with_system_ports old l)) (sym last)
    (settles_from (processed v old i true one h) us (slice_set us i w)
    (set_ran old.keys old.system_ports old.system_ports i h.changes.mid u q.0 h.changes.runs)
    (ran_still old.keys old.system_ports i h.before u h.there h.changes.runs.1.2 h.changes.same.1
    (ap (λ (x : SystemPort). x.held) h.changes.runs.0 ∙ ap (λ (x : SystemPort). x.held) h.changes.processes.0) q.0)
    (subst (λ l. NoneIsNext (aggregators_value old) l) (sym (alike_views old.system_ports i h.before u h.there h.changes.same.1)) none)
    (set_runs old.system_ports i u w q.1 (refl, runs)))

set_twice : (system_ports : List SystemPort) (i : ℕ) (t u : SystemPort) → slice_set (slice_set system_ports i t) i u ≡ slice_set system_ports i u
set_twice [] i t u = refl
set_twice (x ∷ xs) zero t u = refl
set_twice (x ∷ xs) (suc i) t u = ap (λ l. x ∷ l) (set_twice xs i t u)

-- the aggregators in use before the call, from those after it
abbrev Any : Machines → Machines → Type 0
Any p q = Unit {0}

pub paced_too : (v : Lacpdu) (i : ℕ) (old one two : List SystemPort) (s : SystemPort) (was : Option AggId) → slice_get old i ≡ Some s → was ≡ collecting s.port
    → ProcessesLacpduAt v i old true one → PortAtChangesBy RunsPeriodic (Some i) one two → slice_set (aggregators_in_use two) i was ≡ aggregators_in_use old
paced_too v i old one two s was e w h k =
    let is : k.0 ≡ h.after = get_set old i h.before h.after k.0 h.there (ap (λ l. slice_get l i) (sym h.others) ∙ k.2) in
    let whole : record k.0 { port = k.1 } ≡ record h.before { port = k.1 } =
    ap (λ (x : SystemPort). record x { port = k.1 }) (is ∙ h.changes.runs.0 ∙ ap (λ (x : SystemPort). record x { port = h.after.port })
    h.changes.processes.0) in
    let last : two ≡ slice_set old i (record h.before { port = k.1 }) =
    k.4 ∙ (λ j. slice_set (h.others j) i (whole j)) ∙ set_twice old i h.after (record h.before { port = k.1 }) in
    ap (slice_set (aggregators_in_use two) i) w ∙ in_use_before Any i old two s (h.before, k.1, h.there, tt, last) e

-- the lists that the parts of the call leave, and the conversations that left
pub took_alone : (v : Lacpdu) (old : SystemState) (i : ℕ) (one two : List SystemPort) (were : List (Option AggId)) (t : Table) → IsSound old
    → old.first_marker ≡ old.table.first → (h : ProcessesLacpduAt v i old.system_ports true one) → PortAtChangesBy RunsPeriodic (Some i) one two
    → were ≡ aggregators_in_use old.system_ports → ChangesAssignments old.table t (after_holding (stopped were two))
    → ThenSettles (OnlyPortChangesBy (Some i) (ProcessesLacpdu v)) old (moved_on old two t)
took_alone v old i one two were t s f h k e c = let start = processed v old i true one h in
    let mid = with_system_ports old two in
    let own = own_made v old i true one h in
    let settled = ports_settled v old i one two s.quiet s.promoted h k in
    let w = place_carried (ProcessesLacpdu v) (Some i) old start were s own e in (
      start,
      own,
      settling_joined start mid (moved_on old two t) settled
          (leaves_made were start mid (moved_on old two t) w (ports_keep start mid settled).same (ports_table start mid settled) c
          (is_moved_on old two t (c.first ∙ sym f) (c.conversations ∙ s.conversations))),
    )

-- what a known LACPDU leaves
pub took_alike : (v : Lacpdu) (s : SystemPort) (q : Machines) → ProcessesLacpdu v s.port q → HasRecordedActor v s
    → IsSamePartner s.port.partner q.partner → LooksUnchanged s (record s { port = q })
took_alike v s q h k same = grind (arith, nat_tests)

pub alike_if : (b : Bool) (P Q : Type 0) → OnTrue b P → (P → Q) → OnTrue b Q
alike_if b P Q h f = grind (arith, nat_tests)

-- running the mux machine changes no more than its stage
pub ran_alike : (s : SystemPort) (q : Machines) → RunsToRest (mux_rows false) s.port q
    → stage_of q.mux q.wait_while ≡ stage_of s.port.mux s.port.wait_while → LooksUnchanged s (record s { port = q })
ran_alike s q h e = λ i. record (rest i) { stage = e i }
  where
    seen_but_stage : Machines → PortView
    seen_but_stage m = record (selection_view (record s { port = m })) { stage = stage.Detached }

    rest : seen_but_stage q ≡ seen_but_stage s.port
    rest = Reaches-keeps seen_but_stage (mux_rows false)
        ((λ p. refl), ((λ p. refl), ((λ p. refl), ((λ p. refl), ((λ p. refl), ((λ p. refl), tt)))))) h.0 s.port q h.1

-- a port that processed an LACPDU and ran its mux machine
pub took_and_ran : (v : Lacpdu) (s : SystemPort) (p q : Machines) (n : ℕ) (alike : Bool) → ProcessesLacpdu v s.port p → FiresTimes (mux_rows false) n p q
    → AtRest (mux_rows false) q → OnTrue alike (LooksUnchanged s (record s { port = p }) × LooksUnchanged s (record s { port = q }))
    → ProcessesLacpduAndRunsMux v s alike (record s { port = q })
took_and_ran v s p q n alike took fired rest same = record {
  mid = record s { port = p };
  processes = (refl, took);
  runs = (refl, (n, fired, rest));
  same = same;
}

-- it looks as before if the LACPDU came from its recorded partner and left that as it was, and the mux machine left the stage
pub both_alike : (v : Lacpdu) (s : SystemPort) (p q : Machines) (n : ℕ) → ProcessesLacpdu v s.port p → HasRecordedActor v s
    → IsSamePartner s.port.partner p.partner → FiresTimes (mux_rows false) n p q → AtRest (mux_rows false) q
    → stage_of q.mux q.wait_while ≡ stage_of p.mux p.wait_while → LooksUnchanged s (record s { port = p }) × LooksUnchanged s (record s { port = q })
both_alike v s p q n took known same fired rest e =
    let processed : LooksUnchanged s (record s { port = p }) = took_alike v s p took known same in
    (processed, ran_alike (record s { port = p }) q (n, fired, rest) e ∙ processed)

-- a port that hears again what it recorded
pub heard_and_rests : (v : Lacpdu) (s : SystemPort) (q : Machines) → HearsAgain v s.port q → ProcessesLacpduAndRunsMux v s true (record s { port = q })
heard_and_rests v s q h = let same : LooksUnchanged s (record s { port = q }) = ap (λ (p : Machines). selection_view (record s { port = p })) h.same in
    record {
      mid = record s { port = q };
      processes = (refl, inl h.fires);
      runs = (refl, (0, refl, h.rest));
      same = (same, same);
    }
