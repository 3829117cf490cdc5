-- Right after a settling, another one has nothing to do; and if there is nothing to do, a settling changes nothing.
use Rattle.lagsystem.proofs.Common.{Bool, List, None, Option, Some, [], ap, arith, cond, false, inl, inr, length, option_map, refl, slice_get}
use Rattle.lagsystem.proofs.Common.{slice_set, subst, suc, sym, true, zero, ℕ, ◌&&◌, ◌||◌, ◌∙◌, ◌∷◌, ◌≡◌, false≢true, nat_tests, AllByRecursion}
use Rattle.lagsystem.proofs.Common.{AllZip, list_all, AggId, Key, Choice, Selected, is_selected, is_unselected, Waiting, Machines, mux_rows}
use Rattle.lagsystem.proofs.Common.{same_mux_state, RunsPeriodic, periodic_rows, AtRest, Fires, FiresTimes, Row, RunsToRest, Reaches-keeps, PortView}
use Rattle.lagsystem.proofs.Common.{chosen_if_eligible, has_group_of, has_occupant, occupants, AggregatorsValue, occupies, SystemPort, MuxIsSettled}
use Rattle.lagsystem.proofs.Common.{MuxesAreSettled, PeriodicIsSettled, PeriodicsAreSettled, NoneIsNext, PortChangesBy, PortsChangeBy, PromotesFirst}
use Rattle.lagsystem.proofs.Common.{SettlesPorts, Settling, after_choice_at, after_choices, aggregator_for, choice_for, choice_in, ready_of}
use Rattle.lagsystem.proofs.Common.{with_choice, SystemState, aggregators_value, port_numbers, with_system_ports, may_choose, selection_view, views}
use Rattle.lagsystem.proofs.Keeps.{chosen_numbers, promoted_numbers, settling_in, settling_keeps, zip_numbers}
use Rattle.lagsystem.proofs.Limiting.{nothing_promoted, settled_none}
use Rattle.lagsystem.proofs.PromotionLemmas.{choices_keep, promotions_keep}
use Rattle.lagsystem.proofs.NoneLeft.{TakesNone, each_place, none_takes, not_when, taken_none, when_still}
use Rattle.lagsystem.proofs.NoneStays.{none_alike}
use Rattle.lagsystem.proofs.Rest.{zip_all}
use Rattle.lagsystem.proofs.Rising.{Rises, all-get, all-set}
use Rattle.lagsystem.proofs.SettlingLemmas.{RunsReady, SettlesIn, none_for, set_same, settling_made}
use Rattle.lagsystem.proofs.Unready.{mux_choice, none_ready}

-- rows at rest

clash : (b : Bool) → b ≡ true → b ≡ false → ⊥
clash b h k = grind (arith, nat_tests)

none_fires : (rows : List Row) (p q : Machines) → AtRest rows p → Fires rows p q → ⊥
none_fires [] p q rest f = f
none_fires (row ∷ rows) p q rest f = elim f [ inl h ↦ clash (row.enabled p) h.0 rest.0 | inr h ↦ none_fires rows p q rest.1 h ]

stays : (rows : List Row) (n : ℕ) (p q : Machines) → AtRest rows p → FiresTimes rows n p q → q ≡ p
stays rows zero p q rest run = run
stays rows (suc n) p q rest run = grind (arith, nat_tests, none_fires, stays rows n p run.0 rest run.1)

unready_row : (m s b : Bool) → (m && (s && b)) ≡ false → (m && (s && false)) ≡ false
unready_row m s b h = grind (arith, nat_tests)

unselected_row : (m s b : Bool) → s ≡ false → (m && (s && b)) ≡ false
unselected_row m s b h = grind (arith, nat_tests)

-- at rest with Ready is at rest without
rest_unready : (b : Bool) (p : Machines) → AtRest (mux_rows b) p → AtRest (mux_rows false) p
rest_unready b p h = (h.0, (h.1.0, (unready_row (same_mux_state Waiting p.mux) (is_selected p.choice) b h.1.1.0, h.1.1.1)))

-- and Ready is nothing to an UNSELECTED port
rest_unselected : (b : Bool) (p : Machines) → is_selected p.choice ≡ false → AtRest (mux_rows false) p → AtRest (mux_rows b) p
rest_unselected b p s h = (h.0, (h.1.0, (unselected_row (same_mux_state Waiting p.mux) (is_selected p.choice) b s, h.1.1.1)))

-- the ports when all have chosen: an UNSELECTED one is at rest

abbrev RestsAlone : SystemPort → Type 0
RestsAlone x = is_unselected x.port.choice ≡ true → AtRest (mux_rows false) x.port

given_rests : (aggs : AggregatorsValue) (seen : List PortView) (s : SystemPort) (o : Option AggId) → RestsAlone s
    → RestsAlone (with_choice s (option_map (choice_in aggs seen) o))
given_rests aggs seen s o h = grind (arith, nat_tests)

chosen_rests : (aggs : AggregatorsValue) (n : ℕ) (l : List SystemPort) → AllByRecursion RestsAlone l → AllByRecursion RestsAlone (after_choices aggs n l)
chosen_rests aggs n l a = choices_keep aggs (AllByRecursion RestsAlone)
    (λ l i s e a. all-set RestsAlone l i (with_choice s (choice_for aggs l s)) a
    (given_rests aggs (views l) s (aggregator_for aggs.keys l s) (all-get RestsAlone l i s e a))) n l a

promoted_rests : (aggs : AggregatorsValue) (n : ℕ) (old new : List SystemPort) → PromotesFirst aggs n old new
    → AllByRecursion RestsAlone old → AllByRecursion RestsAlone new
promoted_rests aggs n old new h a = promotions_keep aggs (AllByRecursion RestsAlone)
    (λ agg l m x a. subst (AllByRecursion RestsAlone) (sym x.4)
    (all-set RestsAlone l x.0 (with_choice x.1 (Some (Selected agg))) a (λ e. absurd (false≢true e)))) n old new h a

-- the mux step leaves occupants and groups

mux_groups : (b : Bool) (v : PortView) (x y : SystemPort) → y ≡ record x { port = y.port } → RunsToRest (mux_rows b) x.port y.port
    → has_group_of v (selection_view y) ≡ has_group_of v (selection_view x)
mux_groups b v x y e h = Reaches-keeps (λ (p : Machines). has_group_of v (selection_view (record x { port = p }))) (mux_rows b)
    ((λ p. refl), ((λ p. refl), ((λ p. refl), ((λ p. refl), ((λ p. refl), ((λ p. refl), tt)))))) h.0 x.port y.port h.1

same_occupants : (keys : List Key) (seen : List PortView) (agg : AggId) (xs ys : List SystemPort) → PortsChangeBy (RunsReady keys seen) xs ys
    → has_occupant (views ys) agg ≡ has_occupant (views xs) agg
same_occupants keys seen agg [] [] h = refl
same_occupants keys seen agg [] (y ∷ ys) h = absurd h
same_occupants keys seen agg (x ∷ xs) [] h = absurd h
same_occupants keys seen agg (x ∷ xs) (y ∷ ys) h = let same = mux_choice (ready_of keys seen x.port.choice) x.port y.port h.0.1 in
    ap (λ c. occupies agg c || has_occupant (views ys) agg) same
    ∙ ap (λ b. occupies agg x.port.choice || b) (same_occupants keys seen agg xs ys h.1)

next_all : (test : PortView → Bool) (b : Bool) (w v : PortView) (rest more : List PortView) → test v ≡ test w
    → list_all test more ≡ list_all test rest → list_all test (cond b (v ∷ more) more) ≡ list_all test (cond b (w ∷ rest) rest)
next_all test b w v rest more e h = grind (arith, nat_tests)

same_groups : (keys : List Key) (seen : List PortView) (agg : AggId) (v : PortView) (xs ys : List SystemPort) → PortsChangeBy (RunsReady keys seen) xs ys
    → list_all (has_group_of v) (occupants agg (views ys)) ≡ list_all (has_group_of v) (occupants agg (views xs))
same_groups keys seen agg v [] [] h = refl
same_groups keys seen agg v [] (y ∷ ys) h = absurd h
same_groups keys seen agg v (x ∷ xs) [] h = absurd h
same_groups keys seen agg v (x ∷ xs) (y ∷ ys) h = let same = mux_choice (ready_of keys seen x.port.choice) x.port y.port h.0.1 in
    ap (λ c. list_all (has_group_of v) (cond (occupies agg c) (selection_view y ∷ occupants agg (views ys))
    (occupants agg (views ys)))) same
    ∙ next_all (has_group_of v) (occupies agg x.port.choice) (selection_view x) (selection_view y) (occupants agg (views xs))
    (occupants agg (views ys))
    (mux_groups (ready_of keys seen x.port.choice) v x y h.0.0 h.0.1) (same_groups keys seen agg v xs ys h.1)

-- a port that takes none takes none after the mux step
not_unselected : (b d e u : Bool) → u ≡ false → (((b && u) && d) && e) ≡ false
not_unselected b d e u h = grind (arith, nat_tests)

not_selected : (c : Choice) → is_unselected c ≡ true → is_selected c ≡ false
not_selected c h = grind (arith, nat_tests)

none_moved : (keys : List Key) (xs ys : List SystemPort) (x y : SystemPort) → PortsChangeBy (RunsReady keys (views xs)) xs ys
    → PortChangesBy (RunsReady keys (views xs)) x y → RestsAlone x → TakesNone keys (views xs) (selection_view x) x.held
    → (s : Bool) → is_unselected x.port.choice ≡ s → TakesNone keys (views ys) (selection_view y) y.held
none_moved keys xs ys x y all h a none false s =
    let same = mux_choice (ready_of keys (views xs) x.port.choice) x.port y.port h.1 in
    not_when (may_choose y) (chosen_if_eligible keys (views ys) (selection_view y))
    (not_unselected _ _ _ (is_unselected y.port.choice) (ap is_unselected same ∙ s))
none_moved keys xs ys x y all h a none true s = let b = ready_of keys (views xs) x.port.choice in
    let still : y.port ≡ x.port = stays (mux_rows b) h.1.0 x.port y.port (rest_unselected b x.port (not_selected x.port.choice s) (a s)) h.1.1 in
    let same : y ≡ x = h.0 ∙ (λ i. record x { port = still i }) in
    subst (λ (z : SystemPort). TakesNone keys (views ys) (selection_view z) z.held) (sym same)
    (when_still (may_choose x) (chosen_if_eligible keys (views xs) (selection_view x))
    (chosen_if_eligible keys (views ys) (selection_view x)) none
    (none_alike keys (views xs) (views ys) (selection_view x) (λ agg. same_occupants keys (views xs) agg xs ys all)
    (λ agg. same_groups keys (views xs) agg (selection_view x) xs ys all)))

-- what holds of one list, port for port, of the other
zip_gives : (R : SystemPort → SystemPort → Type 0) (P Q : SystemPort → Type 0) → ((x y : SystemPort) → R x y → P x → Q y)
    → (xs ys : List SystemPort) → AllZip R xs ys → AllByRecursion P xs → AllByRecursion Q ys
zip_gives R P Q k [] [] h a = tt
zip_gives R P Q k [] (y ∷ ys) h a = absurd h
zip_gives R P Q k (x ∷ xs) [] h a = absurd h
zip_gives R P Q k (x ∷ xs) (y ∷ ys) h a = (k x y h.0 a.0, zip_gives R P Q k xs ys h.1 a.1)

all_both : (P Q : SystemPort → Type 0) (xs : List SystemPort) → AllByRecursion P xs → AllByRecursion Q xs → AllByRecursion (λ x. P x × Q x) xs
all_both P Q [] h k = tt
all_both P Q (x ∷ xs) h k = ((h.0, k.0), all_both P Q xs h.1 k.1)

-- after the mux step a port takes none and no row is enabled without Ready
abbrev Moved : List Key → List SystemPort → SystemPort → Type 0
Moved keys system_ports y = TakesNone keys (views system_ports) (selection_view y) y.held × AtRest (mux_rows false) y.port

moved : (keys : List Key) (xs ys : List SystemPort) → PortsChangeBy (RunsReady keys (views xs)) xs ys
    → AllByRecursion (λ x. RestsAlone x × TakesNone keys (views xs) (selection_view x) x.held) xs → AllByRecursion (Moved keys ys) ys
moved keys xs ys h a =
    zip_gives (PortChangesBy (RunsReady keys (views xs))) (λ x. RestsAlone x × TakesNone keys (views xs) (selection_view x) x.held) (Moved keys ys)
    (λ x y m k. (
      none_moved keys xs ys x y h m k.0 k.1 (is_unselected x.port.choice) refl,
      rest_unready (ready_of keys (views xs) x.port.choice) y.port m.1.2,
    )) xs ys h a

-- the periodic step

periodic_view : (y z : SystemPort) → PortChangesBy RunsPeriodic y z → selection_view z ≡ selection_view y
periodic_view y z h = ap selection_view h.0
    ∙ ap (λ (p : Machines). selection_view (record y { port = p })) h.1.2
    ∙ Reaches-keeps (λ (p : Machines). selection_view (record y { port = p })) periodic_rows (
      (λ p. refl),
      ((λ p. refl), ((λ p. refl), ((λ p. refl), ((λ p. refl), ((λ p. refl), ((λ p. refl), tt)))))),
    ) h.1.1.0 y.port h.1.0 h.1.1.1

periodic_views : (ys zs : List SystemPort) → PortsChangeBy RunsPeriodic ys zs → views zs ≡ views ys
periodic_views [] [] h = refl
periodic_views [] (z ∷ zs) h = absurd h
periodic_views (y ∷ ys) [] h = absurd h
periodic_views (y ∷ ys) (z ∷ zs) h = λ i. periodic_view y z h.0 i ∷ periodic_views ys zs h.1 i

-- what the mux rows look at
abbrev mux_looks : Machines → Machines → Machines
mux_looks d p = record d { mux = p.mux; choice = p.choice; partner = p.partner }

periodic_looks : (d p q : Machines) → RunsPeriodic p q → mux_looks d q ≡ mux_looks d p
periodic_looks d p q h = ap (mux_looks d) h.2
    ∙ Reaches-keeps (mux_looks d) periodic_rows (
      (λ p. refl),
      ((λ p. refl), ((λ p. refl), ((λ p. refl), ((λ p. refl), ((λ p. refl), ((λ p. refl), tt)))))),
    ) h.1.0 p h.0 h.1.1

periodic_rest : (p q : Machines) → RunsPeriodic p q → AtRest (mux_rows false) p → AtRest (mux_rows false) q
periodic_rest p q h r = subst (λ (m : Machines). AtRest (mux_rows false) m) (sym (periodic_looks p p q h)) r

periodic_paced : (y z : SystemPort) → PortChangesBy RunsPeriodic y z → PeriodicIsSettled z
periodic_paced y z h = grind (arith, nat_tests)

-- a port that looks the same to the Selection Logic, and is held as before, takes none either
takes_alike : (keys : List Key) (seen : List PortView) (y z : SystemPort) → selection_view z ≡ selection_view y → z.held ≡ y.held
    → TakesNone keys seen (selection_view y) y.held → TakesNone keys seen (selection_view z) z.held
takes_alike keys seen y z e h k = grind (arith, nat_tests)

-- after a settling
settled_still : (aggs : AggregatorsValue) (old new : List SystemPort) → Rises 0 (port_numbers old) → SettlesIn aggs old new
    → MuxesAreSettled aggs.keys new × PeriodicsAreSettled new
settled_still aggs old new r s = let keys : List Key = aggs.keys in
    let mid : List SystemPort = s.chooses.0 in
    let last : List SystemPort = after_choices aggs (length mid) mid in
    let n0 = promoted_numbers aggs (length keys) s.one mid s.chooses.1 ∙ zip_numbers (RunsToRest (mux_rows false)) old s.one s.stops in
    let r0 : Rises 0 (port_numbers mid) = subst (λ ns. Rises 0 ns) (sym n0) r in
    let a1 : AllByRecursion RestsAlone s.one =
    zip_all (PortChangesBy (RunsToRest (mux_rows false))) RestsAlone (λ x y m s. m.1.2) old s.one s.stops in
    let a0 : AllByRecursion RestsAlone mid = promoted_rests aggs (length keys) s.one mid s.chooses.1 a1 in
    let a2 : AllByRecursion (λ x. RestsAlone x × TakesNone keys (views last) (selection_view x) x.held) last =
    all_both RestsAlone (λ x. TakesNone keys (views last) (selection_view x) x.held) last
    (chosen_rests aggs (length mid) mid a0) (none_takes aggs mid r0) in
    let m4 : PortsChangeBy (RunsReady keys (views last)) last s.four =
    subst (λ l. PortsChangeBy (RunsReady keys (views l)) l s.four) s.chooses.2 s.runs in
    let a4 : AllByRecursion (Moved keys s.four) s.four = moved keys last s.four m4 a2 in
    let seen : views new ≡ views s.four = periodic_views s.four new s.paces in
    let r5 : Rises 0 (port_numbers new) = subst (λ ns. Rises 0 ns) (sym (zip_numbers RunsPeriodic s.four new s.paces
    ∙ zip_numbers (RunsReady keys (views last)) last s.four m4 ∙ chosen_numbers aggs (length mid) mid)) r0 in
    let a5 : AllByRecursion (Moved keys new) new = zip_gives (PortChangesBy RunsPeriodic) (Moved keys s.four) (Moved keys new) (λ y z m k. (
      subst (λ l. TakesNone keys l (selection_view z) z.held) (sym seen)
          (takes_alike keys (views s.four) y z (periodic_view y z m) (ap (λ (x : SystemPort). x.held) m.0) k.0),
      periodic_rest y.port z.port m.1 k.1,
    )) s.four new s.paces a4 in
    let still : MuxesAreSettled keys new = each_place (MuxIsSettled keys new) new (λ j z e. record {
      mux = (all-get (Moved keys new) new j z e a5).1;
      apart = taken_none keys new r5 (both_first (λ z. TakesNone keys (views new) (selection_view z) z.held) (λ z. AtRest (mux_rows false) z.port) new a5)
          j z e;
      unready = ap (λ l. ready_of keys l z.port.choice) seen ∙ none_ready keys last s.four m4 z.port.choice;
    }) in
    (still, zip_all (PortChangesBy RunsPeriodic) PeriodicIsSettled periodic_paced s.four new s.paces)
  where
    both_first : (P Q : SystemPort → Type 0) (xs : List SystemPort) → AllByRecursion (λ x. P x × Q x) xs → AllByRecursion P xs
    both_first P Q [] h = tt
    both_first P Q (x ∷ xs) h = (h.0.0, both_first P Q xs h.1)

-- if nothing is to be done

pub still_mux : (keys : List Key) (system_ports xs : List SystemPort) → AllByRecursion (MuxIsSettled keys system_ports) xs
    → PortsChangeBy (RunsToRest (mux_rows false)) xs xs
still_mux keys system_ports [] h = tt
still_mux keys system_ports (x ∷ xs) h = ((refl, (0, refl, h.0.mux)), still_mux keys system_ports xs h.1)

still_ready : (keys : List Key) (system_ports xs : List SystemPort) → AllByRecursion (MuxIsSettled keys system_ports) xs
    → PortsChangeBy (RunsReady keys (views system_ports)) xs xs
still_ready keys system_ports [] h = tt
still_ready keys system_ports (x ∷ xs) h = grind (arith, nat_tests, still_ready keys system_ports xs h.1)

still_choose : (aggs : AggregatorsValue) (system_ports : List SystemPort) (i : ℕ) (o : Option SystemPort) → slice_get system_ports i ≡ o
    → MuxesAreSettled aggs.keys system_ports → after_choice_at aggs system_ports i o ≡ system_ports
still_choose aggs system_ports i None e h = refl
still_choose aggs system_ports i (Some s) e h = ap (λ o. slice_set system_ports i (with_choice s o))
    (none_for aggs system_ports s (all-get (MuxIsSettled aggs.keys system_ports) system_ports i s e h).apart)
    ∙ set_same system_ports i s e

still_chosen : (aggs : AggregatorsValue) (n : ℕ) (system_ports : List SystemPort) → MuxesAreSettled aggs.keys system_ports
    → after_choices aggs n system_ports ≡ system_ports
still_chosen aggs zero system_ports h = refl
still_chosen aggs (suc n) system_ports h = grind (arith, nat_tests, still_choose, still_chosen aggs n system_ports h)

-- settling leaves all but the periodic machines
-- a settling in which only step 1 and step 5 change ports
pub settles_from : (s : SystemState) (ran news : List SystemPort) → PortsChangeBy (RunsToRest (mux_rows false)) s.system_ports ran → MuxesAreSettled s.keys ran
    → NoneIsNext (aggregators_value s) (views ran) → PortsChangeBy RunsPeriodic ran news → SettlesPorts s (with_system_ports s news)
settles_from s ran news first h none m = let aggs = aggregators_value s in
    settling_made s aggs s.system_ports ran ran ran news refl refl first
    (ran, nothing_promoted aggs (length s.keys) ran none, sym (still_chosen aggs (length ran) ran h)) (still_ready s.keys ran ran h) m

pub still_settles : (s : SystemState) (news : List SystemPort) → MuxesAreSettled s.keys s.system_ports → NoneIsNext (aggregators_value s) (views s.system_ports)
    → PortsChangeBy RunsPeriodic s.system_ports news → SettlesPorts s (with_system_ports s news)
still_settles s news h none m = grind (arith, nat_tests, settles_from, still_mux)

pub paced_runs : (xs : List SystemPort) → PeriodicsAreSettled xs → PortsChangeBy RunsPeriodic xs xs
paced_runs [] h = tt
paced_runs (x ∷ xs) h = ((refl, (x.port, (0, refl, h.0.rows), h.0.cleared)), paced_runs xs h.1)

-- after a settling with its last step
pub settling_quiet : (old new : SystemState) → Rises 0 (port_numbers old.system_ports) → Settling old new
    → MuxesAreSettled new.keys new.system_ports × PeriodicsAreSettled new.system_ports
settling_quiet old new r h =
    subst (λ (a : AggregatorsValue). MuxesAreSettled a.keys new.system_ports × PeriodicsAreSettled new.system_ports)
    (sym (ap aggregators_value (settling_keeps old new h).frame))
    (settled_still (aggregators_value old) old.system_ports new.system_ports r (settling_in old new h))

-- after a settling no STANDBY port comes next

periodic_choice : (p q : Machines) → RunsPeriodic p q → q.choice ≡ p.choice
periodic_choice p q h = ap (λ (m : Machines). m.choice) h.2
    ∙ Reaches-keeps (λ (m : Machines). m.choice) periodic_rows (
      (λ p. refl),
      ((λ p. refl), ((λ p. refl), ((λ p. refl), ((λ p. refl), ((λ p. refl), ((λ p. refl), tt)))))),
    ) h.1.0 p h.0 h.1.1

pub settling_none : (old new : SystemState) → Settling old new → NoneIsNext (aggregators_value new) (views new.system_ports)
settling_none old new h = let s = settling_in old new h in
    subst (λ a. NoneIsNext a (views new.system_ports)) (sym (ap aggregators_value (settling_keeps old new h).frame))
    (settled_none (aggregators_value old) (RunsReady old.keys (views s.two)) RunsPeriodic
    (λ p q x. mux_choice (ready_of old.keys (views s.two) p.choice) p q x) periodic_choice
    s.one s.two s.four new.system_ports s.chooses s.runs s.paces)
