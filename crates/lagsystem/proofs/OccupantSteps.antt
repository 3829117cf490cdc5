-- Every call keeps that the occupants of an aggregator agree, and that it has no more members than the limit.
use Rattle.lagsystem.proofs.Common.{Bool, List, None, Option, Some, ap, arith, false, length, option_map, refl, slice_get, slice_set, subst, sym, ℕ}
use Rattle.lagsystem.proofs.Common.{◌≡◌, nat_tests, AggId, Key, Machines, mux_rows, RunsPeriodic, receive_rows, RunsToRest, after_sending, count_down}
use Rattle.lagsystem.proofs.Common.{AggregatorsValue, has_room, Reply, SystemPort, Call, ChangesParty, OnlyPortChangesBy, PortAtChangesBy}
use Rattle.lagsystem.proofs.Common.{ProcessesLacpdu, SetsLink, SetsPortEnabled, Step, ThenSettles, Ticks, IsFirst, OccupantsAgree, WithinLimit}
use Rattle.lagsystem.proofs.Common.{occupied, ChoosesIn, PortsChangeBy, Settling, aggregator_for, choice_for, choice_if, choice_in, ready_of}
use Rattle.lagsystem.proofs.Common.{with_choice, HasPorts, SystemState, aggregators_value, port_index, port_numbers, views}
use Rattle.lagsystem.proofs.Keeps.{settling_in, zip_numbers, Keeps, Step-frame, given_number, keeps_link, keeps_place, keeps_tick, numbers_set}
use Rattle.lagsystem.proofs.Keeps.{promoted_numbers, settling_keeps}
use Rattle.lagsystem.proofs.SettlingLemmas.{RunsReady, set_same}
use Rattle.lagsystem.proofs.Choose.{taken_joins}
use Rattle.lagsystem.proofs.FirstView.{first_unselected}
use Rattle.lagsystem.proofs.Limiting.{Fewer, choosing_within, next_stands, none_within, set_fewer, within_fewer, zip_fewer}
use Rattle.lagsystem.proofs.Occupying.{EachStays, LeavesOrStays, configure_stays, joining_agrees, link_stays, mux_stays, none_agrees, periodic_stays}
use Rattle.lagsystem.proofs.Occupying.{place_stays, promotion_agrees, sending_stays, set_stays, stay_agrees, taking_stays, tick_stays, zip_stay}
use Rattle.lagsystem.proofs.Preserves.{Step-preserves_ports}
use Rattle.lagsystem.proofs.PromotionLemmas.{choices_keep, promotions_keep}
use Rattle.lagsystem.proofs.Rising.{Rises, ports_rise}

abbrev pub ArePlaced : AggregatorsValue → List SystemPort → Type 0
ArePlaced aggs l = OccupantsAgree aggs.keys l × WithinLimit aggs.max_links (views l)

abbrev pub IsPlaced : SystemState → Type 0
IsPlaced s = ArePlaced (aggregators_value s) s.system_ports

-- ports that stay as they are, or leave
abbrev StayOrLeave : List SystemPort → List SystemPort → Type 0
StayOrLeave old new = EachStays old new × Fewer old new

placed_on : (aggs : AggregatorsValue) (old new : List SystemPort) → StayOrLeave old new → ArePlaced aggs old → ArePlaced aggs new
placed_on aggs old new h p = (stay_agrees aggs.keys old new h.0 p.0, within_fewer aggs.max_links old new h.1 p.1)

zip_on : (R : Machines → Machines → Type 0) → ((p q : Machines) → R p q → LeavesOrStays p q) → (aggs : AggregatorsValue)
    → (old new : List SystemPort) → PortsChangeBy R old new → ArePlaced aggs old → ArePlaced aggs new
zip_on R k aggs old new h p = placed_on aggs old new (zip_stay R k old new h, zip_fewer R k old new h) p

place_fewer : (R : Machines → Machines → Type 0) → ((p q : Machines) → R p q → LeavesOrStays p q) → (o : Option ℕ)
    (old new : List SystemPort) → PortAtChangesBy R o old new → Fewer old new
place_fewer R k o old new h = grind (arith, nat_tests, set_fewer)

place_on : (R : Machines → Machines → Type 0) → ((p q : Machines) → R p q → LeavesOrStays p q) → (o : Option ℕ) → (aggs : AggregatorsValue)
    → (old new : List SystemPort) → PortAtChangesBy R o old new → ArePlaced aggs old → ArePlaced aggs new
place_on R k o aggs old new h p = placed_on aggs old new (place_stays R k o old new h, place_fewer R k o old new h) p

-- step 2 of settling

occupied_if : (room : Bool) (agg : AggId) → occupied (choice_if room agg) ≡ Some agg.0
occupied_if room agg = grind (arith, nat_tests)

choice_agrees : (aggs : AggregatorsValue) (l : List SystemPort) (i : ℕ) (s : SystemPort) (o : Option AggId) → Rises 0 (port_numbers l)
    → slice_get l i ≡ Some s → aggregator_for aggs.keys l s ≡ o → OccupantsAgree aggs.keys l
    → OccupantsAgree aggs.keys (slice_set l i (with_choice s (option_map (choice_in aggs (views l)) o)))
choice_agrees aggs l i s None r e k a = subst (OccupantsAgree aggs.keys) (sym (set_same l i s e)) a
choice_agrees aggs l i s (Some agg) r e k a = let room = has_room aggs (views l) agg in
    joining_agrees aggs.keys l i s agg (choice_if room agg) e (occupied_if room agg) ((taken_joins aggs.keys l i s agg r e k).1) a

abbrev AgreeRising : List Key → List SystemPort → Type 0
AgreeRising keys l = OccupantsAgree keys l × Rises 0 (port_numbers l)

choosing_agrees : (aggs : AggregatorsValue) (old new : List SystemPort) → Rises 0 (port_numbers old) → ChoosesIn aggs old new
    → OccupantsAgree aggs.keys old → OccupantsAgree aggs.keys new
choosing_agrees aggs old new r h a =
    let first = promotions_keep aggs (OccupantsAgree aggs.keys) (λ agg l m x p. subst (OccupantsAgree aggs.keys) (sym x.4)
    (promotion_agrees aggs.keys l x.0 x.1 agg x.3 (next_stands aggs agg l m x) p)) (length aggs.keys) old h.0 h.1 a in
    let rise = subst (λ ns. Rises 0 ns) (sym (promoted_numbers aggs (length aggs.keys) old h.0 h.1)) r in
    let last = choices_keep aggs (AgreeRising aggs.keys) (λ l i s e p. (
      choice_agrees aggs l i s (aggregator_for aggs.keys l s) p.1 e refl p.0,
      subst (λ ns. Rises 0 ns) (sym (numbers_set l i s (with_choice s (choice_for aggs l s)) e (given_number s (choice_for aggs l s)))) p.1,
    )) (length h.0) h.0 (first, rise) in
    subst (OccupantsAgree aggs.keys) (sym h.2) last.0

choosing_on : (aggs : AggregatorsValue) (old new : List SystemPort) → Rises 0 (port_numbers old) → ChoosesIn aggs old new
    → ArePlaced aggs old → ArePlaced aggs new
choosing_on aggs old new r h p = (choosing_agrees aggs old new r h p.0, choosing_within aggs old new h p.1)

pub settling_placed : (old new : SystemState) → Rises 0 (port_numbers old.system_ports) → Settling old new → IsPlaced old → IsPlaced new
settling_placed old new r h p = let s = settling_in old new h in
    let aggs = aggregators_value old in
    let rise = subst (λ ns. Rises 0 ns) (sym (zip_numbers (RunsToRest (mux_rows false)) old.system_ports s.one s.stops)) r in
    subst (λ a. ArePlaced a new.system_ports) (sym (ap aggregators_value (settling_keeps old new h).frame))
    (zip_on RunsPeriodic periodic_stays aggs s.four new.system_ports s.paces
    (zip_on (RunsReady old.keys (views s.two)) (λ p q x. mux_stays (ready_of old.keys (views s.two) p.choice) p q x) aggs s.two s.four s.runs
    (choosing_on aggs s.one s.two rise s.chooses
    (zip_on (RunsToRest (mux_rows false)) (mux_stays false) aggs old.system_ports s.one s.stops p))))

-- the calls

same_placed : (s t : SystemState) → aggregators_value t ≡ aggregators_value s → t.system_ports ≡ s.system_ports → IsPlaced s → IsPlaced t
same_placed s t k e p = subst (λ a. ArePlaced a t.system_ports) (sym k) (subst (ArePlaced (aggregators_value s)) (sym e) p)

settled_placed : (own : SystemState → SystemState → Type 0) (old new : SystemState) → Rises 0 (port_numbers old.system_ports)
    → ((mid : SystemState) → own old mid → Keeps old mid)
    → ((mid : SystemState) → own old mid → ArePlaced (aggregators_value old) mid.system_ports) → ThenSettles own old new → IsPlaced new
settled_placed own old new r keeps placed h = let k = keeps h.0 h.1 in
    settling_placed h.0 new (subst (λ ns. Rises 0 ns) (sym k.same) r) h.2
    (subst (λ a. ArePlaced a h.0.system_ports) (sym (ap aggregators_value k.frame)) (placed h.0 h.1))

-- the start
pub first_placed : (s : SystemState) → IsFirst s → IsPlaced s
first_placed s h =
    let none = first_unselected s h in (none_agrees s.keys s.system_ports none, none_within s.max_links s.system_ports none)

pub Step-placed : (gives : ℕ → ℕ → ℕ → Type 0) (old : SystemState) (call : Call) (answer : Reply) (new : SystemState)
    → Step gives old call answer new → HasPorts old → IsPlaced old → IsPlaced new
Step-placed gives old call answer new h ports p =
    Step-preserves_ports gives old (λ call answer new. aggregators_value new ≡ aggregators_value old → IsPlaced new)
    (λ call answer new none e k. same_placed old new k e p) (record {
      tick = λ new h k. settled_placed Ticks old new r (keeps_tick old)
          (λ mid x. zip_on (λ p q. RunsToRest receive_rows (count_down p) q) tick_stays (aggregators_value old) old.system_ports
          mid.system_ports x.0 p) h;
      link = λ n up done new h k. settled_placed (SetsLink n up) old new r (keeps_link n up old)
          (λ mid x. place_on (SetsPortEnabled old.max_links up) (link_stays old.max_links up) (port_index n old.system_ports)
          (aggregators_value old) old.system_ports mid.system_ports x.0 p) h;
      take = λ n octets v answer new told h k. on_port n (ProcessesLacpdu v) (taking_stays v) new h;
      change = λ n change new h k. on_port n (ChangesParty change) (configure_stays change) new h;
      restart = λ new e first k. first_placed new first;
      send = λ n i s answer octets new at e due is told set k.
          let t : SystemPort = record s { port = after_sending s.port } in
          let l = old.system_ports in
          subst IsPlaced (sym set) (placed_on (aggregators_value old) l (slice_set l i t)
          (set_stays l i s t e (sending_stays s.port), set_fewer l i s t e (sending_stays s.port)) p);
    }) call answer new h (ap aggregators_value (Step-frame gives old call answer new h))
  where
    r : Rises 0 (port_numbers old.system_ports)
    r = ports_rise old ports

    on_port : (n : ℕ) (R : Machines → Machines → Type 0) → ((p q : Machines) → R p q → LeavesOrStays p q) → (new : SystemState)
        → ThenSettles (OnlyPortChangesBy (port_index n old.system_ports) R) old new → IsPlaced new
    on_port n R stay new h = let o = port_index n old.system_ports in
        settled_placed (OnlyPortChangesBy o R) old new r (keeps_place R o old)
        (λ mid x. place_on R stay o (aggregators_value old) old.system_ports mid.system_ports x.0 p) h
