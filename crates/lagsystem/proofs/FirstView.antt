-- The first state of a system has the model's first view.
use Rattle.lagsystem.proofs.Common.{Bool, List, Option, Some, [], ap, arith, cond, eqb, eqb-true, false, if◌then◌else◌, inl, inr, length, not}
use Rattle.lagsystem.proofs.Common.{option_map, refl, slice_get, slice_set, subst, suc, sym, true, zero, ℕ, ◌&&◌, ◌∙◌, ◌∷◌, ◌≡◌, ◌⊎◌, and_left}
use Rattle.lagsystem.proofs.Common.{and_parts, and_right, nat_tests, none-some, same_Some, AllByRecursion, AllZip, AggId, SystemId, Standby}
use Rattle.lagsystem.proofs.Common.{Unselected, Party, is_selected, bits_of, with_synchronization, encode_then_decode, find_number, ports_of}
use Rattle.lagsystem.proofs.Common.{IsSystemSetup, PortFacts, first_port, first_view, mapped_some, whichever, Detached, Start, Current, Expired}
use Rattle.lagsystem.proofs.Common.{Initialize, PortDisabled, Machines, mux_rows, partner_synchronized, RunsPeriodic, periodic_rows, receive_rows}
use Rattle.lagsystem.proofs.Common.{same_receive_state, start_receive, AtRest, Fires, FiresTimes, Row, RunsToRest, Starts, before_start}
use Rattle.lagsystem.proofs.Common.{Reaches-keeps, chosen_aggregator, AggregatorsValue, is_eligible, model_distributor, first_flows, PortConfig}
use Rattle.lagsystem.proofs.Common.{SystemPort, HasJustStarted, IsFirst, configured_number, setup_of, configured_party, model_port, model_port_of}
use Rattle.lagsystem.proofs.Common.{model_setup, model_view, number_of_port, ChoosesIn, PortChangesBy, PortsChangeBy, PromotesFirst, PromotesNext}
use Rattle.lagsystem.proofs.Common.{after_choice_at, after_choices, ready_of, with_choice, SystemState, aggregators_value, with_system_ports}
use Rattle.lagsystem.proofs.Common.{with_table, may_choose, selection_view, views}
use Rattle.lagsystem.proofs.Effects.{named, zero_named}
use Rattle.lagsystem.proofs.Rest.{zip_all}
use Rattle.lagsystem.proofs.Keeps.{settling_in}
use Rattle.lagsystem.proofs.Rising.{all-get}
use Rattle.lagsystem.proofs.SettlingLemmas.{RunsReady, SettlesIn, none_for, set_same}
use Rattle.lagsystem.proofs.Limiting.{next_stands}
use Rattle.lagsystem.proofs.Occupying.{periodic_stays}
use Rattle.lagsystem.proofs.PromotionLemmas.{promotions_keep}

clash : (b : Bool) → b ≡ true → b ≡ false → ⊥
clash b h k = grind (arith, nat_tests)

-- lists that are alike in numbers and views show the same ports
pushed : {X : Type 0} (v : X → PortFacts) (b : Bool) (x : X) (o : Option X) → option_map v (cond b (Some x) o) ≡ cond b (Some (v x)) (option_map v o)
pushed v b x o = grind (arith, nat_tests)

zip_ports : {X Y : Type 0} (n : X → ℕ) (m : Y → ℕ) (v : X → PortFacts) (w : Y → PortFacts) (xs : List X) (ys : List Y)
    → AllZip (λ x y. (m y ≡ n x) × (w y ≡ v x)) xs ys → (q : ℕ) → ports_of m w ys q ≡ ports_of n v xs q
zip_ports n m v w [] [] h q = refl
zip_ports n m v w [] (y ∷ ys) h q = absurd h
zip_ports n m v w (x ∷ xs) [] h q = absurd h
zip_ports n m v w (x ∷ xs) (y ∷ ys) h q = grind (arith, nat_tests, zip_ports n m v w xs ys h.1 q)

-- the start rows, with the link down
abbrev hushed : Machines → PortFacts
hushed p = record (model_port p) { synchronized = false; distributes = false }

record Beginning (party : Party) (p : Machines) : Type 0 where
  pub looks : hushed p ≡ first_port party
  pub down : p.enabled ≡ false
  pub nobody : p.choice ≡ Unselected
  pub where_ : (p.receive ≡ Initialize) ⊎ ((p.receive ≡ PortDisabled) × (partner_synchronized p ≡ false))

disabled_looks : (p q : Machines) → q ≡ record p { receive = PortDisabled; partner = record p.partner { state = with_synchronization false p.partner.state } }
    → hushed q ≡ hushed p
disabled_looks p q e = ap hushed e
    ∙ ap (λ b. record (hushed p) { partner = named p.partner b })
    (encode_then_decode (record (bits_of p.partner.state) { synchronization = false }))

disabled_now : (party : Party) (p q : Machines)
    → q ≡ record p { receive = PortDisabled; partner = record p.partner { state = with_synchronization false p.partner.state } }
    → Beginning party p → Beginning party q
disabled_now party p q e x = record {
  looks = disabled_looks p q e ∙ x.looks;
  down = ap (λ (y : Machines). y.enabled) e ∙ x.down;
  nobody = ap (λ (y : Machines). y.choice) e ∙ x.nobody;
  where_ = inr (
    ap (λ (y : Machines). y.receive) e,
    ap partner_synchronized e
        ∙ ap (λ b. b.synchronization) (encode_then_decode (record (bits_of p.partner.state) { synchronization = false })),
  );
}

begins_on : (party : Party) (p q : Machines) → Fires receive_rows p q → Beginning party p → Beginning party q
begins_on party p q h x = elim h [
  | inl f ↦ disabled_now party p q f.1 x
  | inr h ↦ elim h [
    | inl f ↦ disabled_now party p q f.1 x
    | inr h ↦ elim h [
      | inl f ↦ absurd (clash p.enabled ((and_parts (same_receive_state PortDisabled p.receive) p.enabled f.0).1) x.down)
      | inr h ↦ elim h [
        | inl f ↦ absurd (clash (same_receive_state Expired p.receive) ((and_parts (same_receive_state Expired p.receive) _ f.0).0)
            (elim x.where_ [ inl e ↦ ap (same_receive_state Expired) e | inr e ↦ ap (same_receive_state Expired) e.0 ]))
        | inr h ↦ elim h [
          | inl f ↦ absurd (clash (same_receive_state Current p.receive) ((and_parts (same_receive_state Current p.receive) _ f.0).0)
              (elim x.where_ [ inl e ↦ ap (same_receive_state Current) e | inr e ↦ ap (same_receive_state Current) e.0 ]))
          | inr h ↦ absurd h
        ]
      ]
    ]
  ]
]

begins_all : (party : Party) (n : ℕ) (p q : Machines) → FiresTimes receive_rows n p q → Beginning party p → Beginning party q
begins_all party zero p q run x = subst (Beginning party) (sym run) x
begins_all party (suc n) p q run x = begins_on party run.0 q run.2 (begins_all party n p run.0 run.1 x)

-- an idle port, whose link is down
record Idle (party : Party) (p : Machines) : Type 0 where
  pub looks : model_port p ≡ first_port party
  pub down : p.enabled ≡ false
  pub detached : p.mux ≡ Detached
  pub nobody : p.choice ≡ Unselected

starts_idle : (s : Start) (q : Machines) → Starts (before_start s) q → Idle s.party q
starts_idle s q h = let mid = h.0 in
    let begun : Beginning s.party (start_receive (before_start s)) =
    record { looks = ap (λ x. record (first_port s.party) { partner = x }) (sym zero_named); down = refl; nobody = refl; where_ = inl refl } in
    let x = begins_all s.party h.1.0 (start_receive (before_start s)) mid h.1.1 begun in
    grind (arith, nat_tests, partner_synchronized, clash, same_receive_state, model_port, is_selected)

-- a machine at rest stays
never : (rows : List Row) (p q : Machines) → AtRest rows p → Fires rows p q → ⊥
never [] p q r h = absurd h
never (row ∷ rows) p q r h = elim h [ inl f ↦ clash (row.enabled p) f.0 r.0 | inr f ↦ never rows p q r.1 f ]

stays : (rows : List Row) (n : ℕ) (p q : Machines) → AtRest rows p → FiresTimes rows n p q → q ≡ p
stays rows zero p q r run = run
stays rows (suc n) p q r run = absurd (never rows run.0 q (subst (AtRest rows) (sym (stays rows n p run.0 r run.1)) r) run.2)

idle_mux : (ready : Bool) (party : Party) (p q : Machines) → Idle party p → RunsToRest (mux_rows ready) p q → q ≡ p
idle_mux ready party p q x h = grind (arith, nat_tests, stays, and_right, and_left)

-- each slot idles as its configuration says
abbrev Idles : SystemId → PortConfig → SystemPort → Type 0
Idles system c s = (s.number ≡ c.number) × Idle (configured_party system c) s.port

idle_slots : (system : SystemId) (R : Machines → Machines → Type 0) → ((party : Party) (p q : Machines) → Idle party p → R p q → q ≡ p)
    → (ports : List PortConfig) (olds news : List SystemPort) → AllZip (Idles system) ports olds → PortsChangeBy R olds news → news ≡ olds
idle_slots system R k [] [] [] a h = refl
idle_slots system R k [] [] (y ∷ ys) a h = absurd h
idle_slots system R k [] (x ∷ xs) news a h = absurd a
idle_slots system R k (c ∷ cs) [] news a h = absurd a
idle_slots system R k (c ∷ cs) (x ∷ xs) [] a h = absurd h
idle_slots system R k (c ∷ cs) (x ∷ xs) (y ∷ ys) a h =
    let port : y.port ≡ x.port = k (configured_party system c) x.port y.port a.0.1 h.0.1 in
    let here : y ≡ x = h.0.0 ∙ ap (λ (p : Machines). record x { port = p }) port in
    let rest = idle_slots system R k cs xs ys a.1 h.1 in
    λ i. here i ∷ rest i

-- no port may choose while its link is down
chooses_none : (s : SystemPort) → s.port.enabled ≡ false → may_choose s ≡ false
chooses_none s e = ap (λ b. is_eligible (record (selection_view s) { enabled = b }) && not s.held) e

choose_idle : (aggs : AggregatorsValue) (system_ports : List SystemPort) (i : ℕ) (o : Option SystemPort) → slice_get system_ports i ≡ o
    → AllByRecursion (λ s. s.port.enabled ≡ false) system_ports → after_choice_at aggs system_ports i o ≡ system_ports
choose_idle aggs system_ports i o e down = grind (arith, nat_tests, chooses_none, all-get, slice_set, with_choice, none_for, chosen_aggregator, views, set_same)

chosen_idle : (aggs : AggregatorsValue) (n : ℕ) (system_ports : List SystemPort) → AllByRecursion (λ s. s.port.enabled ≡ false) system_ports
    → after_choices aggs n system_ports ≡ system_ports
chosen_idle aggs zero system_ports down = refl
chosen_idle aggs (suc n) system_ports down = grind (arith, nat_tests, choose_idle, chosen_idle aggs n system_ports down)

-- no port is promoted while all are UNSELECTED
abbrev pub AllUnselected : List SystemPort → Type 0
AllUnselected l = AllByRecursion (λ s. s.port.choice ≡ Unselected) l

promote_idle : (aggs : AggregatorsValue) (agg : AggId) (start l m : List SystemPort) → AllUnselected start → PromotesNext aggs agg l m → l ≡ start → m ≡ start
promote_idle aggs agg start l m a h e = absurd
    (standing (sym (all-get (λ s. s.port.choice ≡ Unselected) start h.0 h.1 (ap (λ x. slice_get x h.0) (sym e) ∙ h.3) a)
    ∙ next_stands aggs agg l m h))
  where
    standing : Unselected ≡ Standby agg → ⊥
    standing x = cc

promoted_idle : (aggs : AggregatorsValue) (n : ℕ) (start new : List SystemPort) → AllUnselected start → PromotesFirst aggs n start new → new ≡ start
promoted_idle aggs n start new a h =
    promotions_keep aggs (λ l. l ≡ start) (λ agg l m x e. promote_idle aggs agg start l m a x e) n start new h refl

choosing_idle : (aggs : AggregatorsValue) (start new : List SystemPort) → AllUnselected start
    → AllByRecursion (λ s. s.port.enabled ≡ false) start → ChoosesIn aggs start new → new ≡ start
choosing_idle aggs start new a down h = grind (arith, nat_tests, promoted_idle, chosen_idle)

periodic_shown : (p q : Machines) → RunsPeriodic p q → model_port q ≡ model_port p
periodic_shown p q h = ap model_port h.2
    ∙ Reaches-keeps model_port periodic_rows (
      (λ p. refl),
      ((λ p. refl), ((λ p. refl), ((λ p. refl), ((λ p. refl), ((λ p. refl), ((λ p. refl), tt)))))),
    ) h.1.0 p h.0 h.1.1

zip_weaker : {X Y : Type 0} (R S : X → Y → Type 0) → ((x : X) (y : Y) → R x y → S x y) → (xs : List X) (ys : List Y) → AllZip R xs ys → AllZip S xs ys
zip_weaker R S w [] [] h = tt
zip_weaker R S w [] (y ∷ ys) h = absurd h
zip_weaker R S w (x ∷ xs) [] h = absurd h
zip_weaker R S w (x ∷ xs) (y ∷ ys) h = (w x y h.0, zip_weaker R S w xs ys h.1)

composed : {X : Type 0} (f : Party → PortFacts) (g : X → Party) (o : Option X) → option_map (λ x. f (g x)) o ≡ option_map f (option_map g o)
composed f g o = grind (arith, nat_tests)

-- so the periodic rows alone change the ports
pub first_periodic : (s : SystemState) (h : IsFirst s) → PortsChangeBy RunsPeriodic h.0 s.system_ports
first_periodic s h = let start = h.0 in
    let aggs = aggregators_value s in
    let run : SettlesIn aggs start s.system_ports = settling_in (with_system_ports s start) s h.2 in
    let idle : AllZip (Idles s.system) s.ports start = zip_weaker (HasJustStarted s.system) (Idles s.system)
    (λ c x m. (m.0, starts_idle (setup_of s.system c) x.port m.2)) s.ports start h.1 in
    let down : AllByRecursion (λ x. x.port.enabled ≡ false) start = zip_all (Idles s.system) (λ x. x.port.enabled ≡ false)
    (λ c x m. m.1.down) s.ports start idle in
    let nobody : AllUnselected start = zip_all (Idles s.system) (λ x. x.port.choice ≡ Unselected) (λ c x m. m.1.nobody) s.ports start idle in
    let one : run.one ≡ start = idle_slots s.system (RunsToRest (mux_rows false)) (idle_mux false) s.ports start run.one idle run.stops in
    let two : run.two ≡ start = choosing_idle aggs start run.two nobody down (subst (λ l. ChoosesIn aggs l run.two) one run.chooses) in
    let ready = RunsReady s.keys (views run.two) in
    let four : run.four ≡ start = idle_slots s.system ready (λ party p q. idle_mux (ready_of s.keys (views run.two) p.choice) party p q)
    s.ports start run.four idle (subst (λ l. PortsChangeBy ready l run.four) two run.runs) in
    subst (λ l. PortsChangeBy RunsPeriodic l s.system_ports) four run.paces

pub first_shows : (s : SystemState) → IsFirst s → model_view s ≡ first_view (model_setup s)
first_shows s h = let start = h.0 in
    let m5 = first_periodic s h in
    let idle : AllZip (Idles s.system) s.ports start = zip_weaker (HasJustStarted s.system) (Idles s.system)
    (λ c x m. (m.0, starts_idle (setup_of s.system c) x.port m.2)) s.ports start h.1 in
    let same_ports : (q : ℕ) → ports_of number_of_port model_port_of s.system_ports q ≡ ports_of number_of_port model_port_of start q =
    zip_ports number_of_port number_of_port model_port_of model_port_of start s.system_ports
    (zip_weaker (PortChangesBy RunsPeriodic) _ (λ x y m. (ap number_of_port m.0, periodic_shown x.port y.port m.1))
    start s.system_ports m5) in
    let first_ports : (q : ℕ) → ports_of number_of_port model_port_of start q ≡ ports_of configured_number
    (λ c. first_port (configured_party s.system c)) s.ports q =
    zip_ports configured_number number_of_port (λ c. first_port (configured_party s.system c)) model_port_of s.ports start
    (zip_weaker (Idles s.system) _ (λ c x m. (m.0, m.1.looks)) s.ports start idle) in
    λ i. record {
      port = λ q. (same_ports q ∙ first_ports q ∙ composed first_port (configured_party s.system) (find_number configured_number s.ports q))
          i;
      flows = (ap model_distributor h.3 ∙ first_flows (model_setup s) (length s.keys) s.conversations) i;
    }

-- a restart shows the first view
pub restarted_shows : (old new : SystemState) → new ≡ with_table (with_system_ports old new.system_ports) new.table → IsFirst new
    → model_view new ≡ first_view (model_setup old)
restarted_shows old new e h = first_shows new h ∙ ap (λ (s : SystemState). first_view (model_setup s)) e

-- no port is in an aggregator at first
pub first_unselected : (s : SystemState) → IsFirst s → AllUnselected s.system_ports
first_unselected s h =
    let idle : AllByRecursion (λ x. x.port.choice ≡ Unselected) h.0 = zip_all (HasJustStarted s.system) (λ x. x.port.choice ≡ Unselected)
    (λ c x m. (starts_idle (setup_of s.system c) x.port m.2).nobody) s.ports h.0 h.1 in
    kept h.0 s.system_ports (first_periodic s h) idle
  where
    kept : (xs ys : List SystemPort) → PortsChangeBy RunsPeriodic xs ys → AllUnselected xs → AllUnselected ys
    kept [] [] h a = tt
    kept [] (y ∷ ys) h a = absurd h
    kept (x ∷ xs) [] h a = absurd h
    kept (x ∷ xs) (y ∷ ys) h a = (elim (periodic_stays x.port y.port h.0.1) [ inl e ↦ e | inr e ↦ e.0 ∙ a.0 ], kept xs ys h.1 a.1)

-- a configuration is a setup
number_found : (ports : List PortConfig) (q : ℕ) (c : PortConfig) → find_number configured_number ports q ≡ Some c → c.number ≡ q
number_found [] q c e = absurd (none-some c e)
number_found (x ∷ xs) q c e = elim (whichever (eqb q x.number) (Some x) (find_number configured_number xs q) (Some c) e) [
  | inl h ↦ ap (λ (y : PortConfig). y.number) (sym (same_Some x c h.1)) ∙ sym (eqb-true q x.number h.0)
  | inr h ↦ number_found xs q c h.1
]

pub configured_setup : (s : SystemState) → IsSystemSetup (model_setup s)
configured_setup s = grind (arith, nat_tests, mapped_some, number_found)
