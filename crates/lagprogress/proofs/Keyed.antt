-- The ports of a key that are one group are in one aggregator.
use Rattle.lagprogress.proofs.Common.{Bool, List, None, Option, Some, [], ap, arith, cond, false, find, if◌then◌else◌, inl, inr, length, not}
use Rattle.lagprogress.proofs.Common.{option_map, refl, slice_get, slice_set, subst, suc, sym, true, zero, ℕ, ◌&&◌, ◌+◌, ◌==◌, ◌∙◌, ◌∷◌, ◌≡◌, ◌≢◌}
use Rattle.lagprogress.proofs.Common.{◌≤◌, ◌⊎◌, cases_eq, nat_tests, none-some, same_Some, AllByRecursion, enumerate_from, list_all, AggId, Key}
use Rattle.lagprogress.proofs.Common.{Choice, Selected, Standby, Unselected, is_selected, Pair, SamePair, individual, itself, party_of, Side}
use Rattle.lagprogress.proofs.Common.{Machines, mux_rows, RunsPeriodic, receive_rows, RunsToRest, after_sending, count_down, PortView}
use Rattle.lagprogress.proofs.Common.{aggregator_of_entry, chosen_if_eligible, has_group_of, has_no_occupant, has_occupant, lowest, occupants}
use Rattle.lagprogress.proofs.Common.{occupants_share_group, or_else, AggregatorsValue, has_room, is_eligible, occupies, HostCall, HostReply, Answer}
use Rattle.lagprogress.proofs.Common.{SystemPort, Call, ChangesParty, OnlyPortChangesBy, ProcessesLacpdu, SetsLink, SetsPortEnabled, Step}
use Rattle.lagprogress.proofs.Common.{ThenSettles, Ticks, call_of, IsFirst, HostPromise, HostRun, key_of, OccupantsAgree, occupied}
use Rattle.lagprogress.proofs.Common.{aggregator_numbered, ChoosesIn, PortsChangeBy, Settling, aggregator_for, choice_for, choice_if, choice_in}
use Rattle.lagprogress.proofs.Common.{ready_of, with_choice, HasPorts, IsSound, PortsAgree, SystemState, aggregators_value, port_index, port_numbers}
use Rattle.lagprogress.proofs.Common.{with_table, may_choose, selection_view, views, TableAlone, agrees_beside, host_alone, Keeps, given_number}
use Rattle.lagprogress.proofs.Common.{keeps_link, keeps_place, keeps_tick, numbers_set, promoted_numbers, settling_in, settling_keeps, zip_numbers}
use Rattle.lagprogress.proofs.Common.{next_stands, takes_is, choices_keep, promotions_keep, Rises, all-get, found_place, ports_rise, RunsReady}
use Rattle.lagprogress.proofs.Common.{set_same, Step-sound, agrees, Reply, Algorithms, LinkState, WorldState, half, port_at, HostEvent, Plays, AtPort}
use Rattle.lagprogress.proofs.Common.{at_number, calls_each, Somebody, no_entry, occupies_is, passed, somebody, IsBundle, StepReplies, LateRounds}
use Rattle.lagprogress.proofs.Common.{OldArrive, Distributes, IsHealthyAt, AreOneGroup, IsSteady}
use Rattle.selection.proofs.Equal.{group-test}
use Rattle.lagsystem.proofs.FirstView.{first_unselected}
use Rattle.lagprogress.specs.Together.{GroupsAreWhole, AreInOneAggregator, CallsKeepGroupsWhole, EachKeyIsInOneAggregator, FirstGroupsAreWhole}
use Rattle.lagprogress.specs.Together.{ReachedGroupsAreWhole}
use Rattle.lagsystem.proofs.Preserves.{Step-preserves_ports}
use Rattle.std.specs.Prelude.{◌||◌, [], ◌∷◌}
use Rattle.lagmodel.proofs.Ports.{group_sym, individual_along}
use Rattle.selection.specs.Joining.{IsOccupant, MayJoin, ends}
use Rattle.lagsystem.proofs.Choose.{taken_joins}
use Rattle.lagsystem.proofs.Occupying.{EachStays, LeavesOrStays, OccupiesAsBefore, each_seen, joining_agrees, key_there, mux_stays, periodic_stays}
use Rattle.lagsystem.proofs.Occupying.{promotion_agrees, set_cases, set_stays, stay_agrees, zip_stay, configure_stays, link_stays, place_stays}
use Rattle.lagsystem.proofs.Occupying.{sending_stays, taking_stays, tick_stays}
use Rattle.lagtypes.specs.declared.group.End.{End}
use Rattle.lagprogress.proofs.Lasting.{own_named, still_heard, end_of}
use Rattle.lagprogress.proofs.EachRound.{calm_on, played_pass}
use Rattle.lagprogress.proofs.SharedLemmas.{played_lasted, Lasted, one_group}
use Rattle.lagprogress.proofs.Quieting.{IsCalm, calm_steady, quiet_ports}
use Rattle.lagprogress.proofs.Halves.{each_is_calls, both_first, start_steady}
use Rattle.lagsystem.proofs.OccupantSteps.{Step-placed}
use Rattle.lagprogress.proofs.Bundling.{each_link_comes_up, heard_holds, LinksMeet, ends_know}
use Rattle.lagprogress.proofs.Linked.{events_each}
use Rattle.lagsystem.specs.declared.drive.HostCall.TheVariants as host
use Rattle.lagsystem.specs.declared.drive.HostReply.TheVariants as told

-- Calls keep the ports of one group in one aggregator: a port that chooses joins the others, and the group of an occupant stays.

-- The ports of one key and one group, which is not Individual, are in one aggregator. In a sound system no other keys have the group.
abbrev pub InOne : List SystemPort → Type 0
InOne l = (g h i j : ℕ) (x y : SystemPort) → slice_get l i ≡ Some x → slice_get l j ≡ Some y → occupied x.port.choice ≡ Some g
    → occupied y.port.choice ≡ Some h → x.port.party.key ≡ y.port.party.key → SamePair (ends (selection_view x)) (ends (selection_view y))
    → individual x.port.party (party_of x.port.partner) ≡ false → g ≡ h

group_along : (a b c : Pair) → SamePair a b → SamePair b c → SamePair a c
group_along a b c hyp1 hyp2 = grind (arith, nat_tests)

-- where no port gets another aggregator or group

by_place : (old new : List SystemPort) → ((j : ℕ) (t : SystemPort) → slice_get new j ≡ Some t
    → (s : SystemPort) × (slice_get old j ≡ Some s) × OccupiesAsBefore s.port t.port) → InOne old → InOne new
by_place old new each a g h i j x y at bt o p key pair together = grind (arith, nat_tests)

as_before : (p q : Machines) → LeavesOrStays p q → OccupiesAsBefore p q
as_before p q h = grind (arith, nat_tests)

stay_in_one : (old new : List SystemPort) → EachStays old new → InOne old → InOne new
stay_in_one old new h a = by_place old new (λ j t g. let s = h j t g in (s.0, s.1, as_before s.0.port t.port s.2)) a

-- a port that chooses

find_passes : {X : Type 0} (test : X → Bool) (xs : List X) (x : X) → find test xs ≡ Some x → test x ≡ true
find_passes test [] x e = absurd (none-some x e)
find_passes test (y ∷ ys) x e = by_test (test y) refl (λ f. find_passes test ys x f) e
  where
    by_test : (b : Bool) → test y ≡ b → (find test ys ≡ Some x → test x ≡ true) → cond b (Some y) (find test ys) ≡ Some x → test x ≡ true
    by_test true t later e = subst (λ z. test z ≡ true) (same_Some y x e) t
    by_test false t later e = later e

of_entry : (o : Option (ℕ × Key)) (agg : AggId) → option_map aggregator_of_entry o ≡ Some agg
    → (row : ℕ × Key) × (o ≡ Some row) × (aggregator_of_entry row ≡ agg)
of_entry o agg e = grind (arith, nat_tests)

second : (a b : Bool) → (a && b) ≡ true → b ≡ true
second a b h = grind (arith, nat_tests)

-- the lowest one that passes does
lowest_passes : (keys : List Key) (key : Key) (test : AggId → Bool) (agg : AggId) → lowest keys key test ≡ Some agg → test agg ≡ true
lowest_passes keys key test agg e = grind (arith, nat_tests, of_entry, find, aggregator_of_entry, enumerate_from, second, find_passes)

-- if there is no lowest one, none passes that has the key
none_passes : (first : ℕ) (keys : List Key) (key k : Key) (test : AggId → Bool) (n : ℕ)
    → find (λ (row : ℕ × Key). (row.1.0 == key.0) && test (aggregator_of_entry row)) (enumerate_from first keys) ≡ None
    → slice_get keys n ≡ Some k → k ≡ key → test (aggregator_numbered (first + n)) ≡ false
none_passes first [] key k test n h e same = absurd (none-some k e)
none_passes first (x ∷ xs) key k test zero h e same = grind (arith, nat_tests)
none_passes first (x ∷ xs) key k test (suc n) h e same =
    let here = passed ((x.0 == key.0) && test (aggregator_of_entry (first, x))) (first, x)
    (find (λ (row : ℕ × Key). (row.1.0 == key.0) && test (aggregator_of_entry row)) (enumerate_from (first + 1) xs)) h in
    let at : first + 1 + n ≡ first + suc n = omega arith in
    subst (λ m. test (aggregator_numbered m) ≡ false) at (none_passes (first + 1) xs key k test n here.1 e same)

-- who is there

occupies_at : (h : ℕ) (c : Choice) → occupied c ≡ Some h → occupies (aggregator_numbered h) c ≡ true
occupies_at h c e = grind (arith, nat_tests, itself)

both_true : (a b : Bool) → a ≡ true → b ≡ true → (a && b) ≡ true
both_true a b e f = grind (arith, nat_tests)

right_true : (a b : Bool) → b ≡ true → (a || b) ≡ true
right_true a b e = grind (arith, nat_tests)

any_there : (agg : AggId) (l : List SystemPort) (j : ℕ) (y : SystemPort) → slice_get l j ≡ Some y → occupies agg y.port.choice ≡ true
    → has_occupant (views l) agg ≡ true
any_there agg [] j y e o = absurd (none-some y e)
any_there agg (x ∷ xs) zero y e o = grind (arith, nat_tests)
any_there agg (x ∷ xs) (suc j) y e o = right_true (occupies agg x.port.choice) _ (any_there agg xs j y e o)

all_there : (test : PortView → Bool) (agg : AggId) (l : List SystemPort)
    → ((j : ℕ) (w : SystemPort) → slice_get l j ≡ Some w → occupies agg w.port.choice ≡ true → test (selection_view w) ≡ true)
    → list_all test (occupants agg (views l)) ≡ true
all_there test agg [] h = refl
all_there test agg (x ∷ xs) h =
    let rest = all_there test agg xs (λ j w e o. h (suc j) w e o) in by_test (occupies agg x.port.choice) refl rest
  where
    by_test : (b : Bool) → occupies agg x.port.choice ≡ b → list_all test (occupants agg (views xs)) ≡ true
        → list_all test (cond b (selection_view x ∷ occupants agg (views xs)) (occupants agg (views xs))) ≡ true
    by_test true o rest = both_true (test (selection_view x)) (list_all test (occupants agg (views xs))) (h zero x refl o) rest
    by_test false o rest = rest

first_is : (a b : Option AggId) (agg c : AggId) → a ≡ Some c → or_else a b ≡ Some agg → a ≡ Some agg
first_is a b agg c e h = grind (arith, nat_tests)

is_one_of : (o : Option AggId) → (o ≡ None) ⊎ ((c : AggId) × (o ≡ Some c))
is_one_of None = inl refl
is_one_of (Some c) = inr (c, refl)

when_some : (b c : Bool) (o : Option AggId) (agg : AggId) → (if b then (if c then o else None) else None) ≡ Some agg → o ≡ Some agg
when_some b c o agg h = grind (arith, nat_tests)

not_shared : (a b c : Bool) → a ≡ false → b ≡ true → c ≡ true → ((not a && b) && c) ≡ false → ⊥
not_shared a b c e f g h = grind (arith, nat_tests)

has_one : (a b c : Bool) → ((not a && b) && c) ≡ true → b ≡ true
has_one a b c h = grind (arith, nat_tests)

occupant_in : (agg : AggId) (c : Choice) → occupies agg c ≡ true → (c ≡ Selected agg) ⊎ (c ≡ Standby agg)
occupant_in agg c h = grind (arith, nat_tests)

module _ (keys : List Key) (l : List SystemPort) (i : ℕ) (s : SystemPort) (agg : AggId) (rise : Rises 0 (port_numbers l))
    (there : slice_get l i ≡ Some s) (takes : aggregator_for keys l s ≡ Some agg) (agree : OccupantsAgree keys l) (whole : InOne l) where
  chooses : chosen_if_eligible keys (views l) (selection_view s) ≡ Some agg
  chooses = when_some (may_choose s) (is_eligible (selection_view s)) (chosen_if_eligible keys (views l) (selection_view s)) agg
      (sym (takes_is keys l i s rise there) ∙ takes)

  joins : MayJoin keys (views l) agg (selection_view s)
  joins = (taken_joins keys l i s agg rise there takes).1

  -- the port and an occupant of its key and group
  module _ (h j : ℕ) (y : SystemPort) (at : slice_get l j ≡ Some y) (o : occupied y.port.choice ≡ Some h)
      (key : s.port.party.key ≡ y.port.party.key) (pair : SamePair (ends (selection_view s)) (ends (selection_view y)))
      (together : individual s.port.party (party_of s.port.partner) ≡ false) where
    -- it joins an occupant, whose group is that of the other
    by_occupant : occupants_share_group (views l) (selection_view s) agg ≡ true → agg.0 ≡ h
    by_occupant shares =
        let w : Somebody agg l = somebody agg l (has_one (individual s.port.party (party_of s.port.partner)) (has_occupant (views l) agg)
        (list_all (has_group_of (selection_view s)) (occupants agg (views l))) shares) in
        let is : IsOccupant agg (selection_view w.1) = occupant_in agg w.1.port.choice w.3 in
        let mine : occupied w.1.port.choice ≡ Some agg.0 = (occupies_is agg w.1.port.choice w.3).0 in
        elim joins.occupants [
          | inl none ↦ absurd (all-get (λ (z : SystemPort). IsOccupant agg (selection_view z) → ⊥) l w.0 w.1 w.2
              (each_seen (λ v. IsOccupant agg v → ⊥) l none) is)
          | inr shared ↦ (let same = all-get
              (λ (z : SystemPort). IsOccupant agg (selection_view z) → SamePair (ends (selection_view z)) (ends (selection_view s))) l w.0 w.1 w.2
              (each_seen (λ v. IsOccupant agg v → SamePair (ends v) (ends (selection_view s))) l shared.one_group) is in
              let its : key_of keys agg.0 ≡ Some w.1.port.party.key = agree.key w.0 agg.0 w.1 w.2 mine in
              let own : key_of keys agg.0 ≡ Some s.port.party.key = key_there keys agg.0 s.port.party.key joins.numbered joins.key in
              whole agg.0 h w.0 j w.1 y w.2 at mine o (same_Some w.1.port.party.key s.port.party.key (sym its ∙ own) ∙ key)
              (group_along (ends (selection_view w.1)) (ends (selection_view s)) (ends (selection_view y)) same pair)
              (individual_along s.port.party (party_of s.port.partner) w.1.port.party (party_of w.1.port.partner)
              (group_sym (ends (selection_view w.1)) (ends (selection_view s)) same) together))
        ]

    -- it would have joined that one
    would_share : occupants_share_group (views l) (selection_view s) (aggregator_numbered h) ≡ false → ⊥
    would_share none = not_shared (individual s.port.party (party_of s.port.partner)) (has_occupant (views l) (aggregator_numbered h))
        (list_all (has_group_of (selection_view s)) (occupants (aggregator_numbered h) (views l))) together
        (any_there (aggregator_numbered h) l j y at (occupies_at h y.port.choice o))
        (all_there (has_group_of (selection_view s)) (aggregator_numbered h) l (λ k w e is. (group-test (selection_view s) (selection_view w)).1
        (each k w e (occupies_is (aggregator_numbered h) w.port.choice is).0))) none
      where
        each : (k : ℕ) (w : SystemPort) → slice_get l k ≡ Some w → occupied w.port.choice ≡ Some h
            → SamePair (ends (selection_view w)) (ends (selection_view s))
        each k w e is = elim (cases_eq k j) [
          | inl same ↦ subst (λ (z : SystemPort). SamePair (ends (selection_view z)) (ends (selection_view s)))
              (same_Some y w (sym at ∙ (ap (slice_get l) (sym same) ∙ e))) (group_sym (ends (selection_view s)) (ends (selection_view y)) pair)
          | inr ne ↦ group_along (ends (selection_view w)) (ends (selection_view y)) (ends (selection_view s)) (agree.group h k j w y ne e at is o).0
              (group_sym (ends (selection_view s)) (ends (selection_view y)) pair)
        ]

    no_other : lowest keys s.port.party.key (occupants_share_group (views l) (selection_view s)) ≡ None → ⊥
    no_other none = by_number h refl (agree.key j h y at o)
      where
        by_number : (n : ℕ) → h ≡ n → key_of keys n ≡ Some y.port.party.key → ⊥
        by_number zero is e = none-some y.port.party.key e
        by_number (suc n) is e = would_share (subst (λ m. occupants_share_group (views l) (selection_view s) (aggregator_numbered m) ≡ false)
            (let one : 1 + n ≡ suc n = omega arith in one ∙ sym is)
            (none_passes 1 keys s.port.party.key y.port.party.key (occupants_share_group (views l) (selection_view s)) n
            (no_entry (find (λ (row : ℕ × Key). (row.1.0 == s.port.party.key.0)
            && occupants_share_group (views l) (selection_view s) (aggregator_of_entry row))
            (enumerate_from 1 keys)) none) e (sym key)))

    meets : agg.0 ≡ h
    meets = elim (is_one_of (lowest keys s.port.party.key (occupants_share_group (views l) (selection_view s)))) [
      | inl none ↦ absurd (no_other none)
      | inr some ↦ by_occupant (lowest_passes keys s.port.party.key (occupants_share_group (views l) (selection_view s)) agg
          (first_is (lowest keys s.port.party.key (occupants_share_group (views l) (selection_view s)))
          (lowest keys s.port.party.key (has_no_occupant (views l))) agg some.0 some.1 chooses))
    ]

  pub joining_in_one : (c : Choice) → occupied c ≡ Some agg.0 → InOne (slice_set l i (with_choice s (Some c)))
  joining_in_one c oc g h j k x y at bt o p key pair together = let z : SystemPort = with_choice s (Some c) in
      let number : (g : ℕ) (t : SystemPort) → t ≡ z → occupied t.port.choice ≡ Some g → agg.0 ≡ g =
      λ g t is o. same_Some agg.0 g (sym oc ∙ sym (ap (λ (z : SystemPort). occupied z.port.choice) is) ∙ o) in
      elim (set_cases l i j z x at) [
        | inl n ↦ elim (set_cases l i k z y bt) [
          | inl m ↦ sym (number g x n.1 o) ∙ number h y m.1 p
          | inr w ↦ sym (number g x n.1 o) ∙ meets h k y w.1 p (ap (λ (t : SystemPort). t.port.party.key) (sym n.1) ∙ key)
              (subst (λ (t : SystemPort). SamePair (ends (selection_view t)) (ends (selection_view y))) n.1 pair)
              (subst (λ (t : SystemPort). individual t.port.party (party_of t.port.partner) ≡ false) n.1 together)
        ]
        | inr v ↦ elim (set_cases l i k z y bt) [
          | inl m ↦ (let same = subst (λ (t : SystemPort). SamePair (ends (selection_view x)) (ends (selection_view t))) m.1 pair in
              sym (meets g j x v.1 o (sym (key ∙ ap (λ (t : SystemPort). t.port.party.key) m.1))
              (group_sym (ends (selection_view x)) (ends (selection_view s)) same)
              (individual_along x.port.party (party_of x.port.partner) s.port.party (party_of s.port.partner) same together)) ∙ number h y m.1 p)
          | inr w ↦ whole g h j k x y v.1 w.1 o p key pair together
        ]
      ]

-- a settling

-- with what it rests on
abbrev Agreed : List Key → List SystemPort → Type 0
Agreed keys l = OccupantsAgree keys l × InOne l

agreed_zip : (R : Machines → Machines → Type 0) → ((p q : Machines) → R p q → LeavesOrStays p q) → (keys : List Key) (old new : List SystemPort)
    → PortsChangeBy R old new → Agreed keys old → Agreed keys new
agreed_zip R k keys old new h a =
    let each = zip_stay R k old new h in (stay_agrees keys old new each a.0, stay_in_one old new each a.1)

promotion_in_one : (l : List SystemPort) (i : ℕ) (s : SystemPort) (agg : AggId) → slice_get l i ≡ Some s → s.port.choice ≡ Standby agg → InOne l
    → InOne (slice_set l i (with_choice s (Some (Selected agg))))
promotion_in_one l i s agg there stands a = let t : SystemPort = with_choice s (Some (Selected agg)) in
    let here : OccupiesAsBefore s.port t.port = inr (sym (ap occupied stands), refl, refl) in
    grind (arith, nat_tests, by_place, slice_set, set_cases, slice_get, a)

occupied_if : (room : Bool) (agg : AggId) → occupied (choice_if room agg) ≡ Some agg.0
occupied_if room agg = grind (arith, nat_tests)

choice_agreed : (aggs : AggregatorsValue) (l : List SystemPort) (i : ℕ) (s : SystemPort) (o : Option AggId) → Rises 0 (port_numbers l) → slice_get l i ≡ Some s
    → aggregator_for aggs.keys l s ≡ o → Agreed aggs.keys l → Agreed aggs.keys (slice_set l i (with_choice s (option_map (choice_in aggs (views l)) o)))
choice_agreed aggs l i s None r e k a = subst (Agreed aggs.keys) (sym (set_same l i s e)) a
choice_agreed aggs l i s (Some agg) r e k a = let c : Choice = choice_if (has_room aggs (views l) agg) agg in
    let oc = occupied_if (has_room aggs (views l) agg) agg in (
      joining_agrees aggs.keys l i s agg c e oc ((taken_joins aggs.keys l i s agg r e k).1) a.0,
      joining_in_one aggs.keys l i s agg r e k a.0 a.1 c oc,
    )

abbrev AgreedRising : List Key → List SystemPort → Type 0
AgreedRising keys l = Agreed keys l × Rises 0 (port_numbers l)

choosing_agreed : (aggs : AggregatorsValue) (old new : List SystemPort) → Rises 0 (port_numbers old) → ChoosesIn aggs old new
    → Agreed aggs.keys old → Agreed aggs.keys new
choosing_agreed aggs old new r h a =
    let first = promotions_keep aggs (Agreed aggs.keys) (λ agg l m x p. subst (Agreed aggs.keys) (sym x.4) (
      promotion_agrees aggs.keys l x.0 x.1 agg x.3 (next_stands aggs agg l m x) p.0,
      promotion_in_one l x.0 x.1 agg x.3 (next_stands aggs agg l m x) p.1,
    ))
    (length aggs.keys) old h.0 h.1 a in
    let rise = subst (λ ns. Rises 0 ns) (sym (promoted_numbers aggs (length aggs.keys) old h.0 h.1)) r in
    let last = choices_keep aggs (AgreedRising aggs.keys) (λ l i s e p. (
      choice_agreed aggs l i s (aggregator_for aggs.keys l s) p.1 e refl p.0,
      subst (λ ns. Rises 0 ns) (sym (numbers_set l i s (with_choice s (choice_for aggs l s)) e (given_number s (choice_for aggs l s)))) p.1,
    )) (length h.0) h.0 (first, rise) in
    subst (Agreed aggs.keys) (sym h.2) last.0

settling_agreed : (old new : SystemState) → Rises 0 (port_numbers old.system_ports) → Settling old new → Agreed old.keys old.system_ports
    → Agreed new.keys new.system_ports
settling_agreed old new r h a = let s = settling_in old new h in
    let keys = old.keys in
    let rise = subst (λ ns. Rises 0 ns) (sym (zip_numbers (RunsToRest (mux_rows false)) old.system_ports s.one s.stops)) r in
    subst (λ k. Agreed k new.system_ports) (sym (ap (λ (x : SystemState). x.keys) (settling_keeps old new h).frame))
    (agreed_zip RunsPeriodic periodic_stays keys s.four new.system_ports s.paces
    (agreed_zip (RunsReady keys (views s.two)) (λ p q x. mux_stays (ready_of keys (views s.two) p.choice) p q x) keys s.two s.four s.runs
    (choosing_agreed (aggregators_value old) s.one s.two rise s.chooses
    (agreed_zip (RunsToRest (mux_rows false)) (mux_stays false) keys old.system_ports s.one s.stops a))))

-- a call

settled_in_one : (own : SystemState → SystemState → Type 0) (old new : SystemState) → Rises 0 (port_numbers old.system_ports)
    → ((mid : SystemState) → own old mid → Keeps old mid) → ((mid : SystemState) → own old mid → EachStays old.system_ports mid.system_ports)
    → ThenSettles own old new → Agreed old.keys old.system_ports → InOne new.system_ports
settled_in_one own old new r keeps each h a = let k = keeps h.0 h.1 in
    let e = each h.0 h.1 in
    (settling_agreed h.0 new (subst (λ ns. Rises 0 ns) (sym k.same) r) h.2
    (subst (λ ks. Agreed ks h.0.system_ports) (sym (ap (λ (x : SystemState). x.keys) k.frame))
    (stay_agrees old.keys old.system_ports h.0.system_ports e a.0, stay_in_one old.system_ports h.0.system_ports e a.1))).1

none_in_one : (l : List SystemPort) → AllByRecursion (λ x. x.port.choice ≡ Unselected) l → InOne l
none_in_one l h g k i j x y at bt o p key pair together = grind (arith, nat_tests, none-some, occupied, all-get)

pub first_in_one : (s : SystemState) → IsFirst s → InOne s.system_ports
first_in_one s h = none_in_one s.system_ports (first_unselected s h)

pub step_in_one : (gives : ℕ → ℕ → ℕ → Type 0) (old : SystemState) (call : Call) (answer : Answer) (new : SystemState)
    → Step gives old call answer new → HasPorts old → OccupantsAgree old.keys old.system_ports → InOne old.system_ports → InOne new.system_ports
step_in_one gives old call answer new h ports agree whole =
    Step-preserves_ports gives old (λ call answer new. InOne new.system_ports)
    (λ call answer new none e. subst InOne (sym e) whole) (record {
      tick = λ new h. settled_in_one Ticks old new r (keeps_tick old)
          (λ mid x. zip_stay (λ p q. RunsToRest receive_rows (count_down p) q) tick_stays old.system_ports mid.system_ports x.0) h a;
      link = λ n up done new h. settled_in_one (SetsLink n up) old new r (keeps_link n up old)
          (λ mid x. place_stays (SetsPortEnabled old.max_links up) (link_stays old.max_links up) (port_index n old.system_ports) old.system_ports
          mid.system_ports x.0) h a;
      take = λ n octets v answer new told h. on_port n (ProcessesLacpdu v) (taking_stays v) new h;
      change = λ n change new h. on_port n (ChangesParty change) (configure_stays change) new h;
      restart = λ new e first. first_in_one new first;
      send = λ n i x answer octets new at e due is told set.
          let t : SystemPort = record x { port = after_sending x.port } in
          subst (λ (z : SystemState). InOne z.system_ports) (sym set)
          (stay_in_one old.system_ports (slice_set old.system_ports i t) (set_stays old.system_ports i x t e (sending_stays x.port)) whole);
    }) call answer new h
  where
    r : Rises 0 (port_numbers old.system_ports)
    r = ports_rise old ports

    a : Agreed old.keys old.system_ports
    a = (agree, whole)

    on_port : (n : ℕ) (R : Machines → Machines → Type 0) → ((p q : Machines) → R p q → LeavesOrStays p q) → (new : SystemState)
        → ThenSettles (OnlyPortChangesBy (port_index n old.system_ports) R) old new → InOne new.system_ports
    on_port n R stay new h = let o = port_index n old.system_ports in
        settled_in_one (OnlyPortChangesBy o R) old new r (keeps_place R o old)
        (λ mid x. place_stays R stay o old.system_ports mid.system_ports x.0) h a

-- in a sound system two ports of one group have one key, since neither has a partner of their own system

ends_system : (a b : End) → a ≡ b → a.system ≡ b.system
ends_system a b e = ap (λ (z : End). z.system) e

ends_key : (a b : End) → a ≡ b → a.key ≡ b.key
ends_key a b e = ap (λ (z : End). z.key) e

pub whole_of : (s : SystemState) → PortsAgree s → OccupantsAgree s.keys s.system_ports → InOne s.system_ports → GroupsAreWhole s
whole_of s hyp1 hyp2 hyp3 = grind (arith, nat_tests, own_named, ends_key, ends_system)

pub in_one_of : (s : SystemState) → GroupsAreWhole s → InOne s.system_ports
in_one_of s whole g h i j x y at bt o p key pair together = whole g h i j x y at bt o p pair together

-- calls of a host

record Placed (s : SystemState) : Type 0 where
  agree : PortsAgree s
  occupants : OccupantsAgree s.keys s.system_ports
  whole : InOne s.system_ports

beside : (old new : SystemState) → TableAlone old new → Placed old → Placed new
beside old new e p = subst Placed (sym e)
    (record { agree = agrees_beside old (with_table old new.table) refl p.agree; occupants = p.occupants; whole = p.whole })

host_call : (gives : ℕ → ℕ → ℕ → Type 0) (old : SystemState) (call : HostCall) (answer : HostReply) (new : SystemState)
    → HostPromise gives old call answer new → Placed old → Placed new
host_call gives old (host.Call call) (told.Call answer) new h p = record {
  agree = h.agrees;
  occupants = (Step-placed gives old (call_of call) answer new h.step p.agree.ports (p.occupants, p.agree.limited)).0;
  whole = step_in_one gives old (call_of call) answer new h.step p.agree.ports p.occupants p.whole;
}
host_call gives old (host.Call call) answer new h p = absurd h
host_call gives old call answer new h p = beside old new (host_alone gives old call answer new h tt) p

host_calls : (gives : ℕ → ℕ → ℕ → Type 0) (old new : SystemState) (calls : List HostCall) (answers : List HostReply)
    → HostRun gives old calls answers new → Placed old → Placed new
host_calls gives old new [] [] h p = subst Placed (sym h) p
host_calls gives old new (c ∷ calls) (r ∷ answers) h p = host_calls gives h.0 new calls answers h.2 (host_call gives old c r h.0 h.1 p)
host_calls gives old new calls answers h p = absurd h

pub calls_keep_whole : (gives : ℕ → ℕ → ℕ → Type 0) → CallsKeepGroupsWhole gives
calls_keep_whole gives old new calls answers sound whole run = let p = host_calls gives old new calls answers run
    (record { agree = agrees old sound; occupants = sound.occupants; whole = in_one_of old whole }) in
    whole_of new p.agree p.occupants p.whole

-- all ports are UNSELECTED after a start
pub start_whole : FirstGroupsAreWhole
start_whole s h g k i j x y at bt o p pair together =
    let none = all-get (λ (z : SystemPort). z.port.choice ≡ Unselected) s.system_ports i x at (first_unselected s h) in
    absurd (none-some g (sym (ap occupied none) ∙ o))

-- worlds

abbrev Whole : SystemState → Type 0
Whole s = IsSound s × InOne s.system_ports

call_whole : (gives : ℕ → ℕ → ℕ → Type 0) (old new : SystemState) (call : Call) (a : Answer) → Step gives old call a new → Whole old → Whole new
call_whole gives old new call a h w = (Step-sound gives old call a new h w.0, step_in_one gives old call a new h w.0.ports w.0.occupants w.1)

pub reached_whole : (gives : Algorithms) → ReachedGroupsAreWhole gives
reached_whole gives configs es rs start new made first run s =
    let w = events_each gives s Whole (call_whole (gives s)) es rs start new run
    ((start_steady configs start made first s).0, first_in_one (half s start).state (both_first configs start first s)) in
    whole_of (half s new).state (agrees (half s new).state w.0) w.0.occupants w.1

one_whole : (gives : Algorithms) (s : Side) (e : HostEvent) (r : Reply) (i j : WorldState) → IsCalm e → StepReplies gives i e r j → IsSteady i
    → InOne (half s i).state.system_ports → InOne (half s j).state.system_ports
one_whole gives s (Plays e) r i j c h k w = let g = each_is_calls gives e r i j h s in
    (calls_each (gives s) Whole (call_whole (gives s)) (half s i).state (half s j).state g.0 g.1 g.2 ((k s).0, w)).1
one_whole gives s e r i j c h k w = subst InOne (sym (quiet_ports gives e r i j c h s)) w

rounds_whole : (gives : Algorithms) (n : ℕ) (old new : WorldState) → LateRounds gives n old new → IsSteady old → (s : Side)
    → InOne (half s old).state.system_ports → InOne (half s new).state.system_ports
rounds_whole gives n old new h steady s w =
    (calm_on gives old new (played_pass OldArrive gives n old new h) (λ k. IsSteady k × InOne (half s k).state.system_ports)
    (λ e r i j c step a. (calm_steady gives e r i j c step a.0, one_whole gives s e r i j c step a.0 a.1)) (steady, w)).1

-- a bundle

selected_in : (c : Choice) → is_selected c ≡ true → (agg : AggId) × (c ≡ Selected agg)
selected_in c h = grind arith

selected_chosen : (agg : AggId) (c : Choice) → c ≡ Selected agg → c ≢ Unselected
selected_chosen agg c e u = absurd (none-some agg.0 (sym (ap occupied u) ∙ ap occupied e))

module _ (Holds : LinkState → WorldState → Type 0) (first : ℕ) (gives : Algorithms) (meet : LinksMeet Holds first gives) where
  module _ (n : ℕ) (old new : WorldState) (s : Side) (b : IsBundle Holds old) (many : first + 33 ≤ n) (h : LateRounds gives n old new) where
    last : Lasted old new
    last = played_lasted OldArrive gives n old new b.steady h

    -- a port whose link is up is SELECTED
    up_selected : (k : ℕ) (x : SystemPort) → slice_get (half s new).state.system_ports k ≡ Some x → x.port.enabled ≡ true
        → (agg : AggId) × (x.port.choice ≡ Selected agg)
    up_selected k x there on = let it = still_heard Holds s old new (last.before s) b.heard k x there on in
        let e = end_of Distributes (port_at s it.link) (half s new).state (each_link_comes_up LateRounds 1 Holds first gives
        meet n it.index it.link old new b it.healthy many h s) in
        let number : e.1.number ≡ x.number = found_place (port_at s it.link) (half s new).state.system_ports e.0 e.1 e.2 e.3 ∙ it.joins in
        let same : e.1.port ≡ x.port = all-get (λ (z : SystemPort). AtPort x.number (λ p. p ≡ x.port) z.number z.port)
        (half s new).state.system_ports e.0 e.1 e.3
        (at_number (λ p. p ≡ x.port) 0 (half s new).state.system_ports k x (ports_rise (half s new).state (last.now s).0.ports) there refl) number in
        selected_in x.port.choice (subst (λ (p : Machines). is_selected p.choice ≡ true) same e.4.1)

    together : (key : Key) → GroupsAreWhole (half s old).state → AreOneGroup s key old → AreInOneAggregator s key new
    together key whole g i k x y at bt on up is its =
        let w = rounds_whole gives n old new h b.steady s (in_one_of (half s old).state whole) in
        let a = up_selected i x at on in
        let c = up_selected k y bt up in
        let knows = λ (m : ℕ) (l : LinkState) (z : IsHealthyAt m l old) (t : Side). ends_know LateRounds 1 Holds first gives meet n m l old new
        b.cabling b.steady z (heard_holds Holds old b.cabling b.heard m l z) (omega (arith, many)) h t in
        let group = one_group old new b.steady last Holds b.heard knows s key g k y bt up its in
        let pair = (group-test (selection_view y) (selection_view x)).0 (group.group i x at (is ∙ sym its) (selected_chosen a.0 x.port.choice a.1)) in
        let same : a.0.0 ≡ c.0.0 = w a.0.0 c.0.0 i k x y at bt (ap occupied a.1) (ap occupied c.1) (is ∙ sym its) pair
        (one_group old new b.steady last Holds b.heard knows s key g i x at on is).together in
        (c.0, subst (λ (z : AggId). x.port.choice ≡ Selected z) (λ i. record { 0 = same i }) a.1, c.1)

  pub key_together : EachKeyIsInOneAggregator LateRounds Holds (first + 33) gives
  key_together n old new s key b whole g many h = together n old new s b many h key whole g
