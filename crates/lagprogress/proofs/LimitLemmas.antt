-- How the links of a bundle agree where one system has a limit of links.
use Rattle.selection.specs.Limits.{is_in_use}
use Rattle.lagsystem.specs.StatusMeaning.{IsFull}
use Rattle.lagprogress.proofs.Common.{Bool, Err, IsSome, None, Ok, Option, Some, ap, arith, false, if◌then◌else◌, inl, inr, refl, slice_get, subst}
use Rattle.lagprogress.proofs.Common.{suc, sym, true, ℕ, ◌+◌, ◌∙◌, ◌≡◌, ◌⊎◌, cases_Bool, AggId, SystemId, Choice, Selected, Standby, Unselected}
use Rattle.lagprogress.proofs.Common.{Party, is_selected, same_party, Lacpdu, party_of, One, Side, Two, end_at, peer, Setup, Machines, selected}
use Rattle.lagprogress.proofs.Common.{receive_rows, start_receive, RunsToRest, Starts, before_start, count_down, has_chosen, Answer, SystemPort, Call}
use Rattle.lagprogress.proofs.Common.{Configure, ProcessesLacpdu, Receive, Restart, Set_link, SetsPortEnabled, Step, Tick, Transmit, changed_party}
use Rattle.lagprogress.proofs.Common.{choice_with_link, SystemState, port_index, all-get, found_place, ports_rise, Same, agreement_at, Algorithms}
use Rattle.lagprogress.proofs.Common.{IsWorldSound, LinkState, WorldState, half, port_at, end_is, StandsByFull, WantsAggregator, KeptByCall}
use Rattle.lagprogress.proofs.Common.{KeptBySettling, OfEach, Step-each, first_each, place_each, settling_each, no, AtPort, at_number, mux_leaves}
use Rattle.lagprogress.proofs.Common.{periodic_leaves, RowsKeep, runs_keep, takes_keep, LateRounds, OldArrive, EndKnows, Knows, AtEnd, IsHealthyAt}
use Rattle.lagprogress.proofs.Common.{OfPort}
use Rattle.lagprogress.proofs.SharedLemmas.{played_lasted, shared_finds, standing}
use Rattle.lagprogress.proofs.EachRound.{played_join, played_steady, RoundKeeps, played_pass, same_on, each_on}
use Rattle.lagprogress.proofs.Lasting.{played_alike, played_before, all_by_place, ends_at, own_system, still_heard, still_links, still_used, Alike, end_of}
use Rattle.lagprogress.proofs.Linked.{each_side, events_each, machines_there}
use Rattle.lagprogress.specs.Limited.{CarriesOnAll, DownAreUnselected, EachLimitedLinkAgrees, EachReachedHasDownUnselected, EndsAgreed}
use Rattle.lagprogress.specs.Limited.{IsLimitedBundle, StandsByOthers}
use Rattle.lagprogress.proofs.Bundling.{never_stands, heard_holds, LinksMeet, ends_know}
use Rattle.lagprogress.proofs.Halves.{both_first}
use Rattle.lagsystem.specs.declared.drive.Reply.TheVariants as reply
use Rattle.lagprogress.proofs.Pairing.{selected_pairs_agree}

-- a port whose link is down stays UNSELECTED

abbrev Idle : Machines → Type 0
Idle p = p.enabled ≡ false → p.choice ≡ Unselected

abbrev IdleAt : ℕ → Machines → Type 0
IdleAt n p = Idle p

chooses_none : (b : Bool) (c : Choice) → c ≡ Unselected → (if b then c else Unselected) ≡ Unselected
chooses_none b c e = grind arith

receive_idle : RowsKeep Idle receive_rows
receive_idle = grind arith

idle_settles : KeptBySettling IdleAt
idle_settles = record {
  mux = λ n. mux_leaves Idle;
  periodic = λ n. periodic_leaves Idle;
  select = λ n choice p none may a e. absurd (elim may.0 [ inl up ↦ no (sym e ∙ up.0) | inr s ↦ standing s.0 (sym s.1 ∙ a e) ]);
}

idle_takes : (v : Lacpdu) (p q : Machines) → ProcessesLacpdu v p q → Idle p → Idle q
idle_takes v = takes_keep Idle v (λ p a e. chooses_none (same_party (party_of v.actor) (party_of p.partner)) p.choice (a e), tt)

idle_ticks : (n : ℕ) (p q : Machines) → RunsToRest receive_rows (count_down p) q → IdleAt n p → IdleAt n q
idle_ticks n p q h a = runs_keep Idle receive_rows receive_idle (count_down p) q h a

idle_starts : (p q : Machines) → Starts p q → Idle p → Idle q
idle_starts p q h a = subst Idle (sym h.2) (runs_keep Idle receive_rows receive_idle (start_receive p) h.0 h.1 (λ e. refl))

idle_first : (n : ℕ) (u : Setup) (q : Machines) → Starts (before_start u) q → IdleAt n q
idle_first n u q h = idle_starts (before_start u) q h (λ e. refl)

idle_round : RoundKeeps IdleAt
idle_round = record { settles = idle_settles; sends = λ n p a. a; takes = λ n v p q h a. idle_takes v p q h a }

still_down : (gives : Algorithms) (n : ℕ) (old new : WorldState) (s : Side) → LateRounds gives n old new → DownAreUnselected (half s old).state
    → DownAreUnselected (half s new).state
still_down gives n old new s h a k x there =
    all-get (λ (y : SystemPort). Idle y.port) (half s new).state.system_ports k x there (each_on gives old new (played_pass OldArrive gives n old new h)
    IdleAt idle_round idle_ticks s (all_by_place (λ x. Idle x.port) (half s old).state.system_ports a))

-- so it is in each system with a limit

abbrev Limits : SystemState → Type 0
Limits s = IsSome s.max_links → OfEach IdleAt s.system_ports

links_idle : (most : Option ℕ) (up : Bool) (p q : Machines) → IsSome most → SetsPortEnabled most up p q → Idle p → Idle q
links_idle None up p q some h a = absurd (let e = some in cc)
links_idle (Some most) true p q some h a = runs_keep Idle receive_rows receive_idle
    (record p { enabled = true; choice = choice_with_link (Some most) true p.choice }) q h (λ e. absurd (no (sym e)))
links_idle (Some most) false p q some h a = runs_keep Idle receive_rows receive_idle
    (record p { enabled = false; choice = choice_with_link (Some most) false p.choice }) q h (λ e. refl)

idle_kept : (call : Call) (answer : Answer) → ((n : ℕ) (up : Bool) → call ≡ Set_link n up → ⊥) → KeptByCall IdleAt call answer
idle_kept Tick answer other = idle_ticks
idle_kept (Set_link n up) answer other = absurd (other n up refl)
idle_kept (Receive n octets) answer other = λ v p q t f d b. idle_takes v p q d b
idle_kept (Configure n change) answer other = λ p q d b. idle_starts (record p { party = changed_party change p.party }) q d.1 b
idle_kept Restart answer other = idle_first
idle_kept (Transmit n) answer other = λ p e b. b
idle_kept call answer other = tt

call_idle : (gives : ℕ → ℕ → ℕ → Type 0) (old new : SystemState) (call : Call) (answer : Answer) → Step gives old call answer new
    → IsSome old.max_links → OfEach IdleAt old.system_ports → OfEach IdleAt new.system_ports
call_idle gives old new (Set_link n up) (reply.SetLink (Ok done)) h some a = settling_each IdleAt idle_settles h.0 new h.2
    (place_each IdleAt (SetsPortEnabled old.max_links up) n (λ p q k b. links_idle old.max_links up p q some k b)
    (port_index n old.system_ports) old.system_ports h.0.system_ports refl h.1.0 a)
call_idle gives old new (Set_link n up) (reply.SetLink (Err fault)) h some a = grind arith
call_idle gives old new (Set_link n up) answer h some a = absurd h
call_idle gives old new call answer h some a =
    Step-each IdleAt idle_settles gives old call answer new (idle_kept call answer (λ n up e. cc)) h a

call_limits : (gives : ℕ → ℕ → ℕ → Type 0) (old new : SystemState) (call : Call) (answer : Answer) → Step gives old call answer new → Limits old → Limits new
call_limits gives old new call answer h a some = grind (arith, call_idle)

pub each_reached_has_down_unselected : (gives : Algorithms) → EachReachedHasDownUnselected gives
each_reached_has_down_unselected gives configs es rs start new s i h runs some k x there = let st = (half s start).state in
    let first : Limits st = λ o. first_each IdleAt idle_settles idle_first st (both_first configs start h s) in
    all-get (λ (y : SystemPort). Idle y.port) (half s new).state.system_ports k x there (events_each gives s Limits (call_limits (gives s)) es rs start new runs first some)

-- after the rounds

module _ (Holds : LinkState → WorldState → Type 0) (t : Side) (gives : Algorithms) (n : ℕ) (old new : WorldState) (sound : IsWorldSound old)
    (b : IsLimitedBundle Holds t old) (h : LateRounds gives n old new)
    (knows : (i : ℕ) (l : LinkState) → IsHealthyAt i l old → (s : Side) → EndKnows s l new)
    (pairs : (i : ℕ) (l : LinkState) → IsHealthyAt i l old → ((s : Side) → AtEnd (λ p. selected p ≡ true) s l new)
    → agreement_at new (suc i) ≡ Some Same) where
  -- the port at an end, which knows its partner
  record Known (s : Side) (l : LinkState) : Type 0 where
    place : ℕ
    port : SystemPort
    index : port_index (port_at s l) (half s new).state.system_ports ≡ Some place
    there : slice_get (half s new).state.system_ports place ≡ Some port
    wants : WantsAggregator port.port

  known : (i : ℕ) (l : LinkState) → IsHealthyAt i l old → (s : Side) → Known s l
  known i l y s = let st = (half s new).state in
      let now = played_steady OldArrive gives n old new b.steady h in
      let e = end_of (λ p. AtEnd (λ q. Knows p q) (peer s) l new) (port_at s l) st (knows i l y s) in
      let f = end_of (λ q. Knows e.1.port q) (port_at (peer s) l) (half (peer s) new).state e.4 in
      let was = ends_at i l old y s in
      let number = found_place (port_at s l) st.system_ports e.0 e.1 e.2 e.3 in
      let before = found_place (port_at s l) (half s old).state.system_ports was.0 was.1 was.2 was.3 in
      let like = all-get (λ (z : SystemPort). AtPort was.1.number (Alike was.1.port) z.number z.port) st.system_ports e.0 e.1 e.3
      (played_alike OldArrive gives n old new b.steady h s was.0 was.1 was.3) (number ∙ sym before) in
      let own : e.1.port.party.system ≡ st.system = own_system st e.0 e.1 (now s).0 e.3 in
      let other : f.1.port.party.system ≡ (half (peer s) new).state.system = own_system (half (peer s) new).state f.0 f.1 (now (peer s)).0 f.3 in
      let kept = same_on gives old new (played_pass OldArrive gives n old new h) SystemId (λ z. z.system) (λ z ports table. refl) (λ z table. refl) (λ z d. refl) in
      record {
        place = e.0;
        port = e.1;
        index = e.2;
        there = e.3;
        wants = record {
          up = like.1 ∙ was.4;
          known = inl f.4.current;
          apart = λ same. apart s (sym (kept (peer s)) ∙ (sym other ∙ (sym (ap (λ (y : Party). y.system) f.4.party) ∙ (same ∙ (own ∙ kept s)))));
        };
      }
    where
      apart : (s : Side) → (half (peer s) old).state.system ≡ (half s old).state.system → ⊥
      apart One e = b.differ (sym e)
      apart Two e = b.differ e

  -- each end is SELECTED, or stands by
  abbrev Chooses : Side → LinkState → Type 0
  Chooses s l = AtEnd (λ p. selected p ≡ true) s l new ⊎ AtEnd (StandsByFull (half s new).state) s l new

  chooses : (i : ℕ) (l : LinkState) → IsHealthyAt i l old → (s : Side) → Chooses s l
  chooses i l y s = let st = (half s new).state in
      let e = known i l y s in
      let found = machines_there (port_at s l) st e.place e.port e.index e.there in
      elim (shared_finds old new b.steady (played_lasted OldArrive gives n old new b.steady h) Holds b.heard knows b.aggregators
      s e.place e.port e.there e.wants) [
        | inl k ↦ inl (subst (OfPort (λ p. selected p ≡ true)) (sym found) k)
        | inr k ↦ inr (subst (OfPort (StandsByFull st)) (sym found) k)
      ]

  -- the end without a limit is SELECTED
  chosen : (i : ℕ) (l : LinkState) → IsHealthyAt i l old → AtEnd (λ p. selected p ≡ true) (peer t) l new
  chosen i l y = elim (chooses i l y (peer t)) [
    | inl k ↦ k
    | inr k ↦ (let st = (half (peer t) new).state in
        let now = played_steady OldArrive gives n old new b.steady h in
        let e = end_of (StandsByFull st) (port_at (peer t) l) st k in
        absurd (never_stands st e.0 e.1 e.4.0 (now (peer t)).0
        (still_links (peer t) old new (played_before OldArrive gives n old new b.steady h (peer t)) b.links) e.3 e.4.1))
  ]

  -- both are, so the ends agree
  same : (i : ℕ) (l : LinkState) → IsHealthyAt i l old → AtEnd (λ p. selected p ≡ true) t l new → agreement_at new (suc i) ≡ Some Same
  same i l y k = pairs i l y (each_side (λ s. AtEnd (λ p. selected p ≡ true) s l new) t k (chosen i l y))

  -- so each member of an aggregator agrees
  member : (agg : AggId) (k : ℕ) (x : SystemPort) → slice_get (half t new).state.system_ports k ≡ Some x → has_chosen agg x.port.choice ≡ true
      → EndsAgreed t x.number new
  member agg k x there chose = let st = (half t new).state in
      let like = played_before OldArrive gives n old new b.steady h t in
      let now = played_steady OldArrive gives n old new b.steady h t in
      let sel : selected x.port ≡ true = is_chosen x.port.choice chose in
      elim (cases_Bool x.port.enabled) [
        | inl up ↦ (let it = still_heard Holds t old new like b.heard k x there up in
            let e = known it.index it.link it.healthy t in
            let number : e.port.number ≡ x.number = found_place (port_at t it.link) st.system_ports e.place e.port e.index e.there ∙ it.joins in
            record {
              index = it.index;
              joins = subst (λ es. end_at es t (suc it.index) ≡ Some x.number) (sym (played_join OldArrive gives n old new h))
                  (end_is t old.links it.index it.link it.healthy.there ∙ ap (λ (m : ℕ). Some m) it.joins);
              same = same it.index it.link it.healthy (subst (OfPort (λ p. selected p ≡ true))
                  (sym (machines_there (port_at t it.link) st e.place e.port e.index e.there))
                  (all-get (λ (y : SystemPort). y.number ≡ x.number → selected y.port ≡ true) st.system_ports e.place e.port e.there
                  (at_number (λ p. selected p ≡ true) 0 st.system_ports k x (ports_rise st now.0.ports) there sel) number));
            })
        | inr down ↦ absurd (no (sym (ap is_selected (still_down gives n old new t h b.down k x there down)) ∙ sel))
      ]
    where
      is_chosen : (c : Choice) → has_chosen agg c ≡ true → is_selected c ≡ true
      is_chosen (Selected given) e = refl
      is_chosen c e = e

  pub limited : (i : ℕ) (l : LinkState) → IsHealthyAt i l old → (agreement_at new (suc i) ≡ Some Same) ⊎ StandsByOthers t l new
  limited i l y = elim (chooses i l y t) [
    | inl k ↦ inl (same i l y k)
    | inr k ↦ (let st = (half t new).state in
        let e = end_of (StandsByFull st) (port_at t l) st k in
        let used : is_in_use st.in_use e.4.0 ≡ true = still_used t old new (played_before OldArrive gives n old new b.steady h t) b.used e.4.0 in
        let full : IsFull st e.4.0 = elim e.4.2 [ inl unused ↦ absurd (no (sym unused ∙ used)) | inr full ↦ full ] in
        inr (subst (OfPort (λ p. (agg : AggId) × (p.choice ≡ Standby agg) × CarriesOnAll t agg new))
        (sym (machines_there (port_at t l) st e.0 e.1 e.2 e.3))
        (e.4.0, e.4.1, record { full = full; members = λ k x there chose. member e.4.0 k x there chose })))
  ]

pub each_limited_link_agrees : (Holds : LinkState → WorldState → Type 0) (first : ℕ) (gives : Algorithms) → LinksMeet Holds first gives
    → EachLimitedLinkAgrees LateRounds Holds (first + 33) gives
each_limited_link_agrees Holds first gives meet n i l t old new sound b y enough h = limited Holds t gives n old new sound b h
    (λ k m z s. ends_know LateRounds 1 Holds first gives meet n k m old new sound.cabling b.steady z
    (heard_holds Holds old sound.cabling b.heard k m z) (omega (arith, enough)) h s)
    (λ k m z both. selected_pairs_agree Holds first gives meet n k m old new sound b.steady b.heard z enough h both) i l y
