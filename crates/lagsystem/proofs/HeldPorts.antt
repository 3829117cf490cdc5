-- No call makes the host hold a port, and a port that it holds stays UNSELECTED.
use Rattle.lagsystem.proofs.Common.{List, None, Option, Some, ap, arith, false, if◌then◌else◌, length, not, option_map, refl, subst, sym, true, ℕ}
use Rattle.lagsystem.proofs.Common.{◌&&◌, ◌∙◌, ◌≡◌, ◌⊎◌, nat_tests, AllByRecursion, AggId, Choice, Selected, Standby, Machines, mux_rows}
use Rattle.lagsystem.proofs.Common.{RunsPeriodic, receive_rows, RunsToRest, after_sending, count_down, chosen_aggregator, AggregatorsValue, Reply}
use Rattle.lagsystem.proofs.Common.{SystemPort, Call, ChangesParty, OnlyPortChangesBy, ProcessesLacpdu, SetsLink, SetsPortEnabled, Step, ThenSettles}
use Rattle.lagsystem.proofs.Common.{Ticks, HasJustStarted, IsFirst, ChoosesIn, PortsChangeBy, Settling, aggregator_for, choice_for, choice_in}
use Rattle.lagsystem.proofs.Common.{ready_of, with_choice, HeldUnselected, NoneHeld, held_apart, SystemState, aggregators_value, port_index}
use Rattle.lagsystem.proofs.Common.{with_system_ports, may_choose, views}
use Rattle.lagsystem.proofs.Keeps.{settling_in}
use Rattle.lagsystem.proofs.Limiting.{next_stands}
use Rattle.lagsystem.proofs.NoneLeft.{may_then}
use Rattle.lagsystem.proofs.Occupying.{LeavesOrStays, configure_stays, link_stays, mux_stays, periodic_stays, sending_stays, taking_stays, tick_stays}
use Rattle.lagsystem.proofs.Preserves.{Step-preserves_ports}
use Rattle.lagsystem.proofs.PromotionLemmas.{choices_keep, promotions_keep}
use Rattle.lagsystem.proofs.Rest.{place_kept, zip_all, zip_kept}
use Rattle.lagsystem.proofs.Rising.{all-get, all-set}
use Rattle.lagsystem.proofs.SettlingLemmas.{RunsReady}

-- It holds of a port that has just started. It stays while the machines of a port leave Selected, or make it UNSELECTED, and
-- while a STANDBY port becomes SELECTED, or one chooses that may.
pub record IsKept (P : SystemPort → Type 0) : Type 0 where
  pub fresh : (x : SystemPort) → x.held ≡ false → P x
  pub stay : (x y : SystemPort) → y ≡ record x { port = y.port } → LeavesOrStays x.port y.port → P x → P y
  pub stand : (agg : AggId) (x : SystemPort) → x.port.choice ≡ Standby agg → P x → P (with_choice x (Some (Selected agg)))
  pub choose : (c : Choice) (x : SystemPort) → may_choose x ≡ true → P x → P (with_choice x (Some c))

-- the host does not hold the port
abbrev pub IsFree : SystemPort → Type 0
IsFree x = x.held ≡ false

pub free_kept : IsKept IsFree
free_kept = grind (arith, nat_tests)

-- a port that the host holds is UNSELECTED
abbrev pub IsApart : SystemPort → Type 0
IsApart x = held_apart x ≡ true

pub apart_kept : IsKept IsApart
apart_kept = grind (arith, nat_tests)

module _ (P : SystemPort → Type 0) (k : IsKept P) where
  zip_on : (R : Machines → Machines → Type 0) → ((p q : Machines) → R p q → LeavesOrStays p q) → (xs ys : List SystemPort)
      → PortsChangeBy R xs ys → AllByRecursion P xs → AllByRecursion P ys
  zip_on R stays xs ys h a = zip_kept _ P (λ x y m p. k.stay x y m.0 (stays x.port y.port m.1) p) xs ys h a

  choice_on : (aggs : AggregatorsValue) (l : List SystemPort) (s : SystemPort) (o : Option AggId) → aggregator_for aggs.keys l s ≡ o
      → P s → P (with_choice s (option_map (choice_in aggs (views l)) o))
  choice_on aggs l s None e p = p
  choice_on aggs l s (Some agg) e p =
      k.choose (choice_in aggs (views l) agg) s (may_then (may_choose s) (chosen_aggregator aggs.keys (views l) s.number) agg e) p

  choosing_on : (aggs : AggregatorsValue) (old new : List SystemPort) → ChoosesIn aggs old new → AllByRecursion P old → AllByRecursion P new
  choosing_on aggs old new h a =
      let mid : AllByRecursion P h.0 = promotions_keep aggs (AllByRecursion P) (λ agg l m x a. subst (AllByRecursion P) (sym x.4)
      (all-set P l x.0 (with_choice x.1 (Some (Selected agg))) a
      (k.stand agg x.1 (next_stands aggs agg l m x) (all-get P l x.0 x.1 x.3 a)))) (length aggs.keys) old h.0 h.1 a in
      subst (AllByRecursion P) (sym h.2)
      (choices_keep aggs (AllByRecursion P) (λ l i s e a. all-set P l i (with_choice s (choice_for aggs l s)) a
      (choice_on aggs l s (aggregator_for aggs.keys l s) refl (all-get P l i s e a))) (length h.0) h.0 mid)

  -- a settling
  pub settling_on : (old new : SystemState) → Settling old new → AllByRecursion P old.system_ports → AllByRecursion P new.system_ports
  settling_on old new h a = let s = settling_in old new h in
      zip_on RunsPeriodic periodic_stays s.four new.system_ports s.paces
      (zip_on (RunsReady old.keys (views s.two)) (λ p q x. mux_stays (ready_of old.keys (views s.two) p.choice) p q x) s.two s.four s.runs
      (choosing_on (aggregators_value old) s.one s.two s.chooses
      (zip_on (RunsToRest (mux_rows false)) (mux_stays false) old.system_ports s.one s.stops a)))

  settled_on : (own : SystemState → SystemState → Type 0) (s t : SystemState)
      → ((mid : SystemState) → own s mid → AllByRecursion P mid.system_ports) → ThenSettles own s t → AllByRecursion P t.system_ports
  settled_on own s t made h = settling_on h.0 t h.2 (made h.0 h.1)

  -- the start
  pub first_on : (s : SystemState) → IsFirst s → AllByRecursion P s.system_ports
  first_on s h = settling_on (with_system_ports s h.0) s h.2
      (zip_all (HasJustStarted s.system) P (λ c x m. k.fresh x m.3) s.ports h.0 h.1)

  -- each call
  pub Step-on : (gives : ℕ → ℕ → ℕ → Type 0) (old : SystemState) (call : Call) (answer : Reply) (new : SystemState)
      → Step gives old call answer new → AllByRecursion P old.system_ports → AllByRecursion P new.system_ports
  Step-on gives old call answer new h a = Step-preserves_ports gives old (λ call answer new. AllByRecursion P new.system_ports)
      (λ call answer new none e. subst (AllByRecursion P) (sym e) a) (record {
        tick = λ new h. settled_on Ticks old new (λ mid own. zip_on (λ p q. RunsToRest receive_rows (count_down p) q) tick_stays
            old.system_ports mid.system_ports own.0 a) h;
        link = λ n up done new h. settled_on (SetsLink n up) old new (λ mid own. place_kept P (SetsPortEnabled old.max_links up)
            (port_index n old.system_ports) old.system_ports mid.system_ports
            (λ s q r p. k.stay s (record s { port = q }) refl (link_stays old.max_links up s.port q r) p) own.0 a) h;
        take = λ n octets v answer new told h. on_port n (ProcessesLacpdu v) (taking_stays v) new h;
        change = λ n change new h. on_port n (ChangesParty change) (configure_stays change) new h;
        restart = λ new e first. first_on new first;
        send = λ n i x answer octets new at e due is told set.
            let y : SystemPort = record x { port = after_sending x.port } in
            subst (AllByRecursion P) (sym (ap (λ (s : SystemState). s.system_ports) set))
            (all-set P old.system_ports i y a (k.stay x y refl (sending_stays x.port) (all-get P old.system_ports i x e a)));
      }) call answer new h
    where
      on_port : (n : ℕ) (R : Machines → Machines → Type 0) → ((p q : Machines) → R p q → LeavesOrStays p q) → (new : SystemState)
          → ThenSettles (OnlyPortChangesBy (port_index n old.system_ports) R) old new → AllByRecursion P new.system_ports
      on_port n R stays new h = let o = port_index n old.system_ports in
          settled_on (OnlyPortChangesBy o R) old new (λ mid own. place_kept P R o old.system_ports mid.system_ports
          (λ s q r p. k.stay s (record s { port = q }) refl (stays s.port q r) p) own.0 a) h

pub first_free : (s : SystemState) → IsFirst s → NoneHeld s
first_free s h = first_on IsFree free_kept s h

pub first_apart : (s : SystemState) → IsFirst s → HeldUnselected s.system_ports
first_apart s h = first_on IsApart apart_kept s h

pub Step-free : (gives : ℕ → ℕ → ℕ → Type 0) (old : SystemState) (call : Call) (answer : Reply) (new : SystemState)
    → Step gives old call answer new → NoneHeld old → NoneHeld new
Step-free gives old call answer new h a = Step-on IsFree free_kept gives old call answer new h a

pub Step-apart : (gives : ℕ → ℕ → ℕ → Type 0) (old : SystemState) (call : Call) (answer : Reply) (new : SystemState)
    → Step gives old call answer new → HeldUnselected old.system_ports → HeldUnselected new.system_ports
Step-apart gives old call answer new h a = Step-on IsApart apart_kept gives old call answer new h a
