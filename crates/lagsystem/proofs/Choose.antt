-- Choosing an aggregator is the model's move of joining it.
use Rattle.lagsystem.proofs.Common.{Bool, List, None, Option, Some, [], ap, arith, false, inl, inr, length, not, option_map, refl, slice_get}
use Rattle.lagsystem.proofs.Common.{slice_set, subst, sym, true, ℕ, ◌&&◌, ◌∙◌, ◌∷◌, ◌≡◌, ◌≢◌, and_parts, cases_eq, false≢true, nat_tests, none-some}
use Rattle.lagsystem.proofs.Common.{same_Some, AllByRecursion, AggId, Key, Choice, Selected, Standby, Unselected, is_standby, SamePair, individual}
use Rattle.lagsystem.proofs.Common.{party_of, ports_of, LawfulMoves, PortAllowed, PortMove, pair_at, port_after, DistributorFacts, ModelCall}
use Rattle.lagsystem.proofs.Common.{PortFacts, SystemSetup, mapped_some, moves_at, moves_joined, MuxState, CollectingDistributing, same_mux_state}
use Rattle.lagsystem.proofs.Common.{chosen_aggregator, chosen_for_view, IsOccupant, MayJoin, ends, AggregatorsValue, has_room, is_detached}
use Rattle.lagsystem.proofs.Common.{is_eligible, SystemPort, key_of, model_port, model_port_of, model_view_at, number_of_port, selected_number}
use Rattle.lagsystem.proofs.Common.{OccupantsAgree, occupied, ChoosesIn, PromotesNext, after_choices, aggregator_for, choice_for, choice_if}
use Rattle.lagsystem.proofs.Common.{choice_in, with_choice, port_numbers, may_choose, selection_view, stage_of, views}
use Rattle.selection.proofs.Joining.{choice-joins, if-some}
use Rattle.lagsystem.proofs.Keeps.{given_number, numbers_set}
use Rattle.lagsystem.proofs.Limiting.{next_stands}
use Rattle.lagsystem.proofs.NoneLeft.{each_place}
use Rattle.lagsystem.proofs.Occupying.{each_seen, key_there, promotion_agrees}
use Rattle.lagsystem.proofs.OfPort.{port_stays, slot_moves}
use Rattle.lagsystem.proofs.PromotionLemmas.{choices_keep, promotions_keep}
use Rattle.lagsystem.proofs.Rising.{Rises, all-get, all-set, all_found, are_numbered, find_here}
use Rattle.lagsystem.proofs.SettlingLemmas.{set_same}

-- the keys of the aggregators are those of the configuration
abbrev pub Fits : SystemSetup → List Key → Type 0
Fits u keys = (g : ℕ) → u.key g ≡ key_of keys g

all_weaker : (P Q : SystemPort → Type 0) → ((s : SystemPort) → P s → Q s) → (system_ports : List SystemPort) → AllByRecursion P system_ports
    → AllByRecursion Q system_ports
all_weaker P Q w [] h = tt
all_weaker P Q w (s ∷ ss) h = (w s h.0, all_weaker P Q w ss h.1)

all_shown : (P : PortFacts → Type 0) (system_ports : List SystemPort) → AllByRecursion (λ s. P (model_port_of s)) system_ports
    → (q : ℕ) (b : PortFacts) → ports_of number_of_port model_port_of system_ports q ≡ Some b → P b
all_shown P system_ports all q b e = grind (arith, nat_tests, mapped_some, all_found)

given_there : (agg : AggId) (c : Choice) → selected_number c ≡ Some agg.0 → c ≡ Selected agg
given_there agg c e = grind (arith, nat_tests)

join_allowed : (u : SystemSetup) (call : ModelCall) (keys : List Key) (system_ports : List SystemPort) (system_port : SystemPort) (agg : AggId) → Fits u keys
    → MayJoin keys (views system_ports) agg (selection_view system_port)
    → PortAllowed u call (ports_of number_of_port model_port_of system_ports) system_port.number (PortMove.Join agg.0) (model_port_of system_port)
join_allowed u call keys system_ports system_port agg fits j = (
  ap selected_number j.outside,
  j.apart,
  fits agg.0 ∙ key_there keys agg.0 system_port.port.party.key j.numbered j.key,
  elim j.occupants [
    | inl none ↦
        inl (all_shown (λ b. b.aggregator ≢ Some agg.0) system_ports
        (all_weaker (λ s. IsOccupant agg (selection_view s) → ⊥) (λ s. (model_port_of s).aggregator ≢ Some agg.0)
        (λ s away e. away (inl (given_there agg s.port.choice e))) system_ports
        (each_seen (λ w. IsOccupant agg w → ⊥) system_ports none)))
    | inr shared ↦
        inr (
          all_shown (λ b. b.aggregator ≡ Some agg.0 → SamePair (pair_at b) (pair_at (model_port_of system_port))) system_ports
              (all_weaker (λ s. IsOccupant agg (selection_view s) → SamePair (ends (selection_view s)) (ends (selection_view system_port)))
              (λ s. (model_port_of s).aggregator ≡ Some agg.0
              → SamePair (pair_at (model_port_of s)) (pair_at (model_port_of system_port)))
              (λ s here e. here (inl (given_there agg s.port.choice e))) system_ports
              (each_seen (λ w. IsOccupant agg w → SamePair (ends w) (ends (selection_view system_port)))
              system_ports shared.one_group)),
          shared.aggregatable,
        )
  ],
)

detached : (m : MuxState) (w : ℕ) → is_detached (stage_of m w) ≡ true → same_mux_state CollectingDistributing m ≡ false
detached m w h = grind (arith, nat_tests)

still : (s x m : Bool) → m ≡ false → (s && (x && m)) ≡ false
still s x m h = grind (arith, nat_tests)

joined : (s : SystemPort) (agg : AggId) → is_eligible (selection_view s) ≡ true
    → model_port_of (with_choice s (Some (Selected agg))) ≡ port_after (PortMove.Join agg.0) (model_port_of s)
joined s agg ok = grind (arith, nat_tests)

-- a STANDBY port is seen as one outside every aggregator
standby_stays : (s : SystemPort) (agg : AggId) → s.port.choice ≡ Unselected → model_port_of (with_choice s (Some (Standby agg))) ≡ model_port_of s
standby_stays s agg e = ap (λ c. model_port (record s.port { choice = c })) (sym e)

taken_moves : (u : SystemSetup) (call : ModelCall) (f : DistributorFacts) (keys : List Key) (system_ports : List SystemPort) (i : ℕ)
    (s : SystemPort) (agg : AggId) (room : Bool) → Fits u keys → Rises 0 (port_numbers system_ports) → slice_get system_ports i ≡ Some s
    → is_eligible (selection_view s) ≡ true → MayJoin keys (views system_ports) agg (selection_view s)
    → LawfulMoves u call (model_view_at f system_ports) []
    (model_view_at f (slice_set system_ports i (with_choice s (Some (choice_if room agg)))))
taken_moves u call f keys system_ports i s agg true fits r h ok j =
    moves_at number_of_port model_port_of u call f system_ports i s (with_choice s (Some (Selected agg))) (PortMove.Join agg.0)
    (are_numbered 0 system_ports r) h refl (joined s agg ok) (join_allowed u call keys system_ports s agg fits j)
taken_moves u call f keys system_ports i s agg false fits r h ok j =
    slot_moves u call f system_ports i s (with_choice s (Some (Standby agg))) [] (are_numbered 0 system_ports r) h refl
    (port_stays u call s.number (model_port_of s) (model_port_of (with_choice s (Some (Standby agg)))) (standby_stays s agg j.outside))

-- the port takes an aggregator that it may join, or none
pub taken_joins : (keys : List Key) (system_ports : List SystemPort) (i : ℕ) (s : SystemPort) (agg : AggId)
    → Rises 0 (port_numbers system_ports) → slice_get system_ports i ≡ Some s → aggregator_for keys system_ports s ≡ Some agg
    → (is_eligible (selection_view s) ≡ true) × MayJoin keys (views system_ports) agg (selection_view s)
taken_joins keys system_ports i s agg r h k =
    let x = if-some (may_choose s) (chosen_aggregator keys (views system_ports) s.number) agg k in (
      (and_parts (is_eligible (selection_view s)) (not s.held) x.0).0,
      choice-joins keys (views system_ports) (selection_view s) agg
          (sym (ap (chosen_for_view keys (views system_ports)) (find_here 0 system_ports i s r h)) ∙ x.1),
    )

given_moves : (u : SystemSetup) (call : ModelCall) (f : DistributorFacts) (aggs : AggregatorsValue) (system_ports : List SystemPort) (i : ℕ)
    (s : SystemPort) (o : Option AggId) → Fits u aggs.keys → Rises 0 (port_numbers system_ports)
    → slice_get system_ports i ≡ Some s → aggregator_for aggs.keys system_ports s ≡ o
    → LawfulMoves u call (model_view_at f system_ports) []
    (model_view_at f (slice_set system_ports i (with_choice s (option_map (choice_in aggs (views system_ports)) o))))
given_moves u call f aggs system_ports i s None fits r h k = ([], tt, refl, ap (model_view_at f) (set_same system_ports i s h))
given_moves u call f aggs system_ports i s (Some agg) fits r h k = let x = taken_joins aggs.keys system_ports i s agg r h k in
    taken_moves u call f aggs.keys system_ports i s agg (has_room aggs (views system_ports) agg) fits r h x.0 x.1

-- the choices of step 2 of settling
abbrev MovedSoFar : SystemSetup → ModelCall → DistributorFacts → List SystemPort → List SystemPort → Type 0
MovedSoFar u call f start l = LawfulMoves u call (model_view_at f start) [] (model_view_at f l) × Rises 0 (port_numbers l)

chosen_moves : (u : SystemSetup) (call : ModelCall) (f : DistributorFacts) (aggs : AggregatorsValue) (start : List SystemPort) (n : ℕ)
    → Fits u aggs.keys → (l : List SystemPort) → MovedSoFar u call f start l → MovedSoFar u call f start (after_choices aggs n l)
chosen_moves u call f aggs start n fits l h = choices_keep aggs (MovedSoFar u call f start)
    (λ l i s e m. (
      moves_joined u call (model_view_at f start) (model_view_at f l)
          (model_view_at f (slice_set l i (with_choice s (choice_for aggs l s)))) [] [] m.0
          (given_moves u call f aggs l i s (aggregator_for aggs.keys l s) fits m.1 e refl),
      subst (λ ns. Rises 0 ns) (sym (numbers_set l i s (with_choice s (choice_for aggs l s)) e (given_number s (choice_for aggs l s)))) m.1,
    )) n l h

-- a promotion

not_itself : (agg : AggId) (c : Choice) → c ≡ Standby agg → c ≡ Selected agg → ⊥
not_itself agg c e k = none-some agg.0 (ap selected_number (sym e ∙ k))

occupied_by : (agg : AggId) (c : Choice) → c ≡ Selected agg → occupied c ≡ Some agg.0
occupied_by agg c e = ap occupied e

-- other members have its group, as occupants
others_share : (keys : List Key) (l : List SystemPort) (i : ℕ) (s : SystemPort) (agg : AggId) → OccupantsAgree keys l → slice_get l i ≡ Some s
    → s.port.choice ≡ Standby agg → (j : ℕ) (t : SystemPort) → slice_get l j ≡ Some t → (model_port_of t).aggregator ≡ Some agg.0
    → SamePair (pair_at (model_port_of t)) (pair_at (model_port_of s)) × (individual s.port.party (party_of s.port.partner) ≡ false)
others_share keys l i s agg a g e j t h m = elim (cases_eq j i) [
  | inl same ↦ (let is : t ≡ s = same_Some t s (sym h ∙ ap (slice_get l) same ∙ g) in
      absurd (not_itself agg s.port.choice e (ap (λ (x : SystemPort). x.port.choice) (sym is) ∙ given_there agg t.port.choice m)))
  | inr ne ↦ (let mine : occupied s.port.choice ≡ Some agg.0 = ap occupied e in
      let its = occupied_by agg t.port.choice (given_there agg t.port.choice m) in
      ((a.group agg.0 j i t s ne h g its mine).0, (a.group agg.0 i j s t (λ x. ne (sym x)) g h mine its).1))
]

promote_allowed : (u : SystemSetup) (call : ModelCall) (keys : List Key) (l : List SystemPort) (i : ℕ) (s : SystemPort) (agg : AggId) (b : Bool)
    → individual s.port.party (party_of s.port.partner) ≡ b → Fits u keys → OccupantsAgree keys l → slice_get l i ≡ Some s → s.port.choice ≡ Standby agg
    → PortAllowed u call (ports_of number_of_port model_port_of l) s.number (PortMove.Join agg.0) (model_port_of s)
promote_allowed u call keys l i s agg false is fits a g e = let mine : occupied s.port.choice ≡ Some agg.0 = ap occupied e in (
  ap selected_number e,
  a.apart i agg.0 s g mine,
  fits agg.0 ∙ a.key i agg.0 s g mine,
  inr (
    all_shown (λ b. b.aggregator ≡ Some agg.0 → SamePair (pair_at b) (pair_at (model_port_of s))) l
        (each_place (λ t. (model_port_of t).aggregator ≡ Some agg.0 → SamePair (pair_at (model_port_of t)) (pair_at (model_port_of s))) l
        (λ j t h m. (others_share keys l i s agg a g e j t h m).0)),
    is,
  ),
)
promote_allowed u call keys l i s agg true is fits a g e = let mine : occupied s.port.choice ≡ Some agg.0 = ap occupied e in (
  ap selected_number e,
  a.apart i agg.0 s g mine,
  fits agg.0 ∙ a.key i agg.0 s g mine,
  inl (all_shown (λ b. b.aggregator ≢ Some agg.0) l
      (each_place (λ t. (model_port_of t).aggregator ≢ Some agg.0) l
      (λ j t h m. false≢true (sym (others_share keys l i s agg a g e j t h m).1 ∙ is)))),
)

-- its mux machine does not distribute
abbrev pub StandbyIsIdle : SystemPort → Type 0
StandbyIsIdle s = is_standby s.port.choice ≡ true → same_mux_state CollectingDistributing s.port.mux ≡ false

promoted : (s : SystemPort) (agg : AggId) → s.port.choice ≡ Standby agg → StandbyIsIdle s
    → model_port_of (with_choice s (Some (Selected agg))) ≡ port_after (PortMove.Join agg.0) (model_port_of s)
promoted s agg e idle = grind (arith, nat_tests)

-- what every promotion keeps
abbrev PromotedSoFar : SystemSetup → ModelCall → DistributorFacts → List Key → List SystemPort → List SystemPort → Type 0
PromotedSoFar u call f keys start l = MovedSoFar u call f start l × OccupantsAgree keys l × AllByRecursion StandbyIsIdle l

promotes_on : (u : SystemSetup) (call : ModelCall) (f : DistributorFacts) (aggs : AggregatorsValue) (start : List SystemPort) → Fits u aggs.keys
    → (agg : AggId) (l m : List SystemPort) → PromotesNext aggs agg l m → PromotedSoFar u call f aggs.keys start l → PromotedSoFar u call f aggs.keys start m
promotes_on u call f aggs start fits agg l m h p = let s = h.1 in
    let t : SystemPort = with_choice s (Some (Selected agg)) in
    let stands = next_stands aggs agg l m h in
    let move = moves_at number_of_port model_port_of u call f l h.0 s t (PortMove.Join agg.0) (are_numbered 0 l p.0.1) h.3 refl
    (promoted s agg stands (all-get StandbyIsIdle l h.0 s h.3 p.2))
    (promote_allowed u call aggs.keys l h.0 s agg (individual s.port.party (party_of s.port.partner)) refl fits p.1 h.3 stands) in
    let all = moves_joined u call (model_view_at f start) (model_view_at f l) (model_view_at f (slice_set l h.0 t)) [] [] p.0.0 move in
    grind (arith, nat_tests, numbers_set, PromotedSoFar, promotion_agrees, all-set, StandbyIsIdle)

-- step 2 of settling
pub choosing_moves : (u : SystemSetup) (call : ModelCall) (f : DistributorFacts) (aggs : AggregatorsValue) (old new : List SystemPort)
    → Fits u aggs.keys → Rises 0 (port_numbers old) → OccupantsAgree aggs.keys old → AllByRecursion StandbyIsIdle old
    → ChoosesIn aggs old new → LawfulMoves u call (model_view_at f old) [] (model_view_at f new)
choosing_moves u call f aggs old new fits r a idle h =
    let p = promotions_keep aggs (PromotedSoFar u call f aggs.keys old) (promotes_on u call f aggs old fits) (length aggs.keys) old h.0 h.1
    ((([], tt, refl, refl), r), a, idle) in
    subst (λ l. LawfulMoves u call (model_view_at f old) [] (model_view_at f l)) (sym h.2)
    (chosen_moves u call f aggs old (length h.0) fits h.0 p.0).0
