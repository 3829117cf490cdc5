-- A world made from a configuration that is accepted is a start.
use Rattle.lagworld.proofs.Common.{Bool, IsSome, List, None, Option, Some, [], ap, arith, eqb, eqb-true, false, get_or, if◌then◌else◌, inl, inr}
use Rattle.lagworld.proofs.Common.{is_some, length, map, not, option_map, refl, replicate, slice_get, subst, suc, sym, take, true, zero, ℕ, ◌&&◌, ◌<◌}
use Rattle.lagworld.proofs.Common.{◌==◌, ◌||◌, ◌∙◌, ◌∷◌, ◌≡◌, ◌≤◌, and_parts, cases_Bool, not-false, not-true, or_parts, true≢false}
use Rattle.lagworld.proofs.Common.{get_or_from_slice_get, none-some, same_Some, slice_get-map, slice_get_within, list_all, Party, same_system}
use Rattle.lagworld.proofs.Common.{find_number, PortFacts, first_port, first_view, IsCabling, One, Side, Two, end_at, party_at, port_on, mapped_some}
use Rattle.lagworld.proofs.Common.{Item, configured_party, model_setup, model_view, conversation_count, PortsAgree, SystemState, first_shows}
use Rattle.lagworld.proofs.Common.{party_seen, PortHistory, party_of_port, IsFirstHalf, are_empty_lines, empty_flow, first_aggregator_flows}
use Rattle.lagworld.proofs.Common.{first_flows, first_histories, first_history, first_link, first_links, has_empty_directions, item_value, link_ends}
use Rattle.lagworld.proofs.Common.{AreBelow, IsHalfSound, IsStart, FlowValue, HalfState, LinkState, WorldState, by_side, flow_at, flow_in_aggregator}
use Rattle.lagworld.proofs.Common.{half, history_at, port_at, towards}
use Rattle.lagworld.proofs.Headline.{accepted}
use Rattle.lagworld.proofs.EmitLemmas.{made}
use Rattle.lagtypes.specs.declared.identifiers.SystemId.{SystemId}
use Rattle.lagsystem.specs.declared.config.Config.{Config}
use Rattle.lagsystem.specs.declared.config.PortConfig.{PortConfig}
use Rattle.lagsystem.specs.First.{ConfigValue, config_value, configured_number, or_first, refusal, config_refusal as refusal_of_one}
use Rattle.lagscript.specs.declared.config.WorldConfig.{WorldConfig}
use Rattle.lagscript.specs.Configs.{bad_end, can_join, first_below, has_bad_end, has_port, world_refusal, refusal_of_all, refusal_of_two, shares_end}
use Rattle.lagscript.specs.Configs.{refusal_of_either, system_refusal}
use Rattle.lagscript.specs.declared.config.BadWorld.TheVariants.{SameSystem}

-- what is kept of a port is what its configuration says
log_found : (system : SystemId) (ports : List PortConfig) (p : ℕ)
    → history_at (first_histories system ports) p ≡ option_map (first_history system) (find_number configured_number ports p)
log_found system [] p = refl
log_found system (c ∷ cs) p = elim (cases_Bool (eqb p c.number)) [ inl e ↦ rw e refl | inr e ↦ rw e (log_found system cs p) ]

party_back : (o : Option Party) → option_map (λ (a : PortFacts). a.party) (option_map first_port o) ≡ o
party_back o = grind arith

-- the party of a port in the first state
first_party : (s : SystemState) (p : ℕ) → model_view s ≡ first_view (model_setup s)
    → party_of_port s p ≡ option_map (configured_party s.system) (find_number configured_number s.ports p)
first_party s p e = sym (party_seen s p) ∙ ap (λ v. party_at v p) e ∙ party_back ((model_setup s).party p)

-- what is kept of a conversation that there is
same_item : {X : Type 0} (n i : ℕ) (x y : X) → slice_get (replicate n x) i ≡ Some y → y ≡ x
same_item zero i x y e = cc
same_item (suc n) zero x y e = cc
same_item (suc n) (suc i) x y e = same_item n i x y e

item_there : {X : Type 0} (n i : ℕ) (x : X) → i < n → slice_get (replicate n x) i ≡ Some x
item_there zero i x l = absurd (omega arith)
item_there (suc n) zero x l = refl
item_there (suc n) (suc i) x l = item_there n i x (omega arith)

flow_empty : (n m g k : ℕ) (x : FlowValue) → flow_at (first_flows n m) g k ≡ Some x → x ≡ empty_flow
flow_empty n m g k x e = grind (arith, none-some, slice_get, first_flows, flow_in_aggregator, empty_flow, same_item, first_aggregator_flows)

flow_there : (n m g k : ℕ) → 0 < g → g ≤ n → k < m → IsSome (flow_at (first_flows n m) g k)
flow_there n m g k low high small = grind (arith, item_there, first_aggregator_flows, empty_flow)

-- what holds of a system that is made
logs_named : (config : Config) (h : HalfState) → IsFirstHalf config h → h.histories ≡ first_histories h.state.system h.state.ports
logs_named config h f = f.histories ∙ (λ i. first_histories (sym f.configured.system i) (sym f.configured.ports i))

flows_named : (config : Config) (h : HalfState) → IsFirstHalf config h → h.flows ≡ first_flows (length h.state.keys) (conversation_count h.state)
flows_named config h f = f.flows ∙ (λ i. first_flows (length (sym f.configured.keys i)) (sym f.configured.conversations i))

half_kept : (config : Config) (h : HalfState) → IsFirstHalf config h → PortsAgree h.state → IsHalfSound h
half_kept config h f a = record {
  agrees = a;
  parties = λ p l e. (let c = mapped_some (first_history h.state.system) (find_number configured_number h.state.ports p) l (sym (history p) ∙ e)
      in party p ∙ ap (option_map (configured_party h.state.system)) c.1 ∙ ap (λ (l : PortHistory). Some l.party) c.2);
  logged = λ p x. ap is_some (history p) ∙ both (find_number configured_number h.state.ports p) ∙ ap is_some (sym (party p)) ∙ x;
  flows = λ g k low high small. subst (λ f. IsSome (flow_at f g k)) (sym (flows_named config h f))
      (flow_there (length h.state.keys) (conversation_count h.state) g k low high small);
}
  where
    party : (p : ℕ) → party_of_port h.state p ≡ option_map (configured_party h.state.system) (find_number configured_number h.state.ports p)
    party p = first_party h.state p (first_shows h.state f.first)

    history : (p : ℕ) → history_at h.histories p ≡ option_map (first_history h.state.system) (find_number configured_number h.state.ports p)
    history p = ap (λ l. history_at l p) (logs_named config h f) ∙ log_found h.state.system h.state.ports p

    both : (o : Option PortConfig) → is_some (option_map (first_history h.state.system) o) ≡ is_some (option_map (configured_party h.state.system) o)
    both None = refl
    both (Some c) = refl

none_counted : (system : SystemId) (ports : List PortConfig) → AreBelow 0 (first_histories system ports)
none_counted system [] = tt
none_counted system (c ∷ cs) = (omega arith, none_counted system cs)

log_first : (system : SystemId) (o : Option PortConfig) (history : PortHistory) → option_map (first_history system) o ≡ Some history
    → (history.count ≡ 0) × (history.taken ≡ None)
log_first system o history e = grind arith

-- a port of the configuration has a history
port_found : (ports : List PortConfig) (p : ℕ) → has_port ports p ≡ true → IsSome (find_number configured_number ports p)
port_found [] p h = absurd (true≢false (sym h))
port_found (c ∷ cs) p h = elim (cases_Bool (eqb p c.number)) [
  | inl e ↦ rw e refl
  | inr e ↦ rw e (port_found cs p (let other : eqb c.number p ≡ false = grind arith in rw other at h))
]

-- the cables that are made
module _ {C : Type 0} (items : C → List Item) (limit : C → Option ℕ) where
  emptied_line : (xs : List Item) → (length xs == 0) ≡ true → map item_value xs ≡ []
  emptied_line [] h = refl
  emptied_line (x ∷ xs) h = let none : length (x ∷ xs) ≡ 0 = eqb-true (length (x ∷ xs)) 0 h in absurd (omega (arith, none))

  pub line_empty : (cables : List (ℕ × ℕ)) (lines : List (C × C)) (i : ℕ) (l : LinkState) → list_all (has_empty_directions items) lines ≡ true
      → slice_get (first_links items limit cables lines) i ≡ Some l → (s : Side) → (towards s l ≡ []) × (l.whole ≡ true)
  line_empty [] lines i l h e s = absurd (none-some l e)
  line_empty (c ∷ cs) [] i l h e s = absurd (none-some l e)
  line_empty (c ∷ cs) (x ∷ xs) zero l h e s =
      subst (λ (l : LinkState). (towards s l ≡ []) × (l.whole ≡ true)) (same_Some (first_link items limit c x) l e) (on_side s, refl)
    where
      both : ((length (items x.0) == 0) ≡ true) × ((length (items x.1) == 0) ≡ true)
      both = and_parts (length (items x.0) == 0) (length (items x.1) == 0)
          (and_parts (has_empty_directions items x) (list_all (has_empty_directions items) xs) h).0

      on_side : (s : Side) → towards s (first_link items limit c x) ≡ []
      on_side One = emptied_line (items x.0) both.0
      on_side Two = emptied_line (items x.1) both.1
  line_empty (c ∷ cs) (x ∷ xs) (suc i) l h e s = line_empty cs xs i l
      (and_parts (has_empty_directions items x) (list_all (has_empty_directions items) xs) h).1 e s

  -- each joins the ports that the configuration names
  ends_made : (cables : List (ℕ × ℕ)) (lines : List (C × C)) (i : ℕ) (l : LinkState)
      → slice_get (first_links items limit cables lines) i ≡ Some l → slice_get cables i ≡ Some (l.one, l.two)
  ends_made [] lines i l e = absurd (none-some l e)
  ends_made (c ∷ cs) [] i l e = absurd (none-some l e)
  ends_made (c ∷ cs) (x ∷ xs) zero l e = ap (λ (l : LinkState). Some (l.one, l.two)) (same_Some (first_link items limit c x) l e)
  ends_made (c ∷ cs) (x ∷ xs) (suc i) l e = ends_made cs xs i l e

-- the configuration of cables is not refused: each can be joined behind those before it
abbrev AreJoined : List PortConfig → List PortConfig → List (ℕ × ℕ) → Type 0
AreJoined first second cables = (i : ℕ) → i < length cables → can_join first second (take i cables) (get_or cables i (0, 0)) ≡ true

first_none : {X : Type 0} (o p : Option X) → or_first o p ≡ None → (o ≡ None) × (p ≡ None)
first_none o p h = grind arith

none_below : (test : ℕ → Bool) (n i : ℕ) → first_below test n ≡ None → i < n → test i ≡ false
none_below test zero i h l = absurd (omega arith)
none_below test (suc n) i h l = elim (cases_Bool (eqb i n)) [
  | inl e ↦ subst (λ i. test i ≡ false) (sym (eqb-true i n e)) (last (test n) parts.1)
  | inr e ↦ none_below test n i parts.0 (grind arith)
]
  where
    parts : (first_below test n ≡ None) × ((if test n then Some n else None) ≡ None)
    parts = first_none (first_below test n) _ h

    last : (b : Bool) → (if b then Some n else None) ≡ None → b ≡ false
    last true h = cc
    last false h = refl

mapped_none : {X Y : Type 0} (f : X → Y) (o : Option X) → option_map f o ≡ None → o ≡ None
mapped_none f o h = grind arith

are_joined : (first second : List PortConfig) (cables : List (ℕ × ℕ)) → bad_end first second cables ≡ None → AreJoined first second cables
are_joined first second cables h i l = not-false (can_join first second (take i cables) (get_or cables i (0, 0)))
    (none_below (has_bad_end first second cables) (length cables) i
    (mapped_none suc (first_below (has_bad_end first second cables) (length cables)) h) l)

-- what refuses neither system of two refuses no system
accepted_of : (side : ℕ) (a : ConfigValue) → system_refusal side a ≡ None → refusal a.aggregators a.ports a.max_links a.conversations ≡ None
accepted_of side a h = (first_none (refusal a.aggregators a.ports a.max_links a.conversations) _ (mapped_none _ (refusal_of_either a) h)).0

two_joined : (a b : ConfigValue) (cables : List (ℕ × ℕ)) → refusal_of_two a b cables ≡ None
    → (refusal a.aggregators a.ports a.max_links a.conversations ≡ None)
    × (refusal b.aggregators b.ports b.max_links b.conversations ≡ None) × AreJoined a.ports b.ports cables
two_joined a b cables h =
    let one = first_none (system_refusal 1 a) _ h in
    let two = first_none (system_refusal 2 b) _ one.1 in
    let same = first_none (if same_system a.system b.system then Some SameSystem else None) _ two.1 in
    (accepted_of 1 a one.0, accepted_of 2 b two.0, are_joined a.ports b.ports cables (mapped_none _ (bad_end a.ports b.ports cables) same.1))

-- a cable that there is can be joined
joined_at : (first second : List PortConfig) (cables : List (ℕ × ℕ)) (i : ℕ) (c : ℕ × ℕ) → AreJoined first second cables
    → slice_get cables i ≡ Some c → can_join first second (take i cables) c ≡ true
joined_at first second cables i c h e = grind (arith, can_join, take, get_or_from_slice_get, slice_get_within)

-- no earlier cable has one of its ends
not_shared : (cables : List (ℕ × ℕ)) (i k : ℕ) (c d : ℕ × ℕ) → shares_end (take k cables) d ≡ false → i < k → slice_get cables i ≡ Some c
    → ((c.0 == d.0) || (c.1 == d.1)) ≡ false
not_shared [] i k c d h l e = absurd (none-some c e)
not_shared (x ∷ xs) i zero c d h l e = absurd (omega arith)
not_shared (x ∷ xs) zero (suc k) c d h l e = grind arith
not_shared (x ∷ xs) (suc i) (suc k) c d h l e =
    not_shared xs i k c d (or_parts ((x.0 == d.0) || (x.1 == d.1)) (shares_end (take k xs) d) h).1 (omega arith) e

abbrev end_of_pair : Side → ℕ × ℕ → ℕ
end_of_pair One c = c.0
end_of_pair Two c = c.1

apart : (s : Side) (c d : ℕ × ℕ) → ((c.0 == d.0) || (c.1 == d.1)) ≡ false → end_of_pair s c ≡ end_of_pair s d → ⊥
apart s c d h e = grind arith

-- so no port has two cables
one_cable : (first second : List PortConfig) (cables : List (ℕ × ℕ)) (s : Side) (i k : ℕ) (c d : ℕ × ℕ) → AreJoined first second cables
    → slice_get cables i ≡ Some c → slice_get cables k ≡ Some d → end_of_pair s c ≡ end_of_pair s d → i < k → ⊥
one_cable first second cables s i k c d h e f same l =
    let join = and_parts (has_port first d.0 && has_port second d.1) (not (shares_end (take k cables) d))
    (joined_at first second cables k d h f) in
    apart s c d (not_shared cables i k c d (not-true (shares_end (take k cables) d) join.1) l e) same

-- the ports of a cable are ports
ports_there : (first second : List PortConfig) (cables : List (ℕ × ℕ)) (i : ℕ) (c : ℕ × ℕ) → AreJoined first second cables
    → slice_get cables i ≡ Some c → (has_port first c.0 ≡ true) × (has_port second c.1 ≡ true)
ports_there first second cables i c h e = and_parts (has_port first c.0) (has_port second c.1)
    (and_parts (has_port first c.0 && has_port second c.1) (not (shares_end (take i cables) c)) (joined_at first second cables i c h e)).0

module _ {C : Type 0} (items : C → List Item) (limit : C → Option ℕ) where
  -- the end of a cable that was made
  end_made : (cables : List (ℕ × ℕ)) (lines : List (C × C)) (s : Side) (n p : ℕ) → end_at (map link_ends (first_links items limit cables lines)) s n ≡ Some p
      → (i : ℕ) × (c : ℕ × ℕ) × (n ≡ suc i) × (slice_get cables i ≡ Some c) × (end_of_pair s c ≡ p)
  end_made cables lines s zero p e = absurd (none-some p e)
  end_made cables lines s (suc i) p e = by_line (slice_get ls i) refl (sym (ap (option_map (port_on s)) (slice_get-map link_ends ls i)) ∙ e)
    where
      ls : List LinkState
      ls = first_links items limit cables lines

      by_line : (o : Option LinkState) → slice_get ls i ≡ o → option_map (port_on s) (option_map link_ends o) ≡ Some p → (k : ℕ)
          × (c : ℕ × ℕ) × (suc i ≡ suc k) × (slice_get cables k ≡ Some c) × (end_of_pair s c ≡ p)
      by_line None h e = absurd (none-some p e)
      by_line (Some l) h e = (i, (l.one, l.two), refl, ends_made items limit cables lines i l h, on_side s ∙ same_Some (port_on s (link_ends l)) p e)
        where
          on_side : (s : Side) → end_of_pair s (l.one, l.two) ≡ port_on s (link_ends l)
          on_side One = refl
          on_side Two = refl

  cabled : (first second : List PortConfig) (cables : List (ℕ × ℕ)) (lines : List (C × C)) → AreJoined first second cables
      → IsCabling (map link_ends (first_links items limit cables lines))
  cabled first second cables lines h s m n p e f = let x = end_made cables lines s m p e in
      let y = end_made cables lines s n p f in
      let same : end_of_pair s x.1 ≡ end_of_pair s y.1 = x.4 ∙ sym y.4 in
      let before = one_cable first second cables s x.0 y.0 x.1 y.1 h x.3 y.3 same in
      let behind = one_cable first second cables s y.0 x.0 y.1 x.1 h y.3 x.3 (sym same) in
      let place : x.0 ≡ y.0 = omega (arith, before, behind) in x.2 ∙ ap suc place ∙ sym y.2

  -- each end of a cable that was made has a history
  end_logged : (config : Config) (h : HalfState) (p : ℕ) → IsFirstHalf config h → has_port config.ports.items p ≡ true → IsSome (history_at h.histories p)
  end_logged config h p f x = rw (f.histories, log_found config.system config.ports.items p)
      (logged (find_number configured_number config.ports.items p) (port_found config.ports.items p x))
    where
      logged : (o : Option PortConfig) → IsSome o → IsSome (option_map (first_history config.system) o)
      logged None e = absurd (let h = e in cc)
      logged (Some c) e = refl

  pub is_start : (a b : Config) (cables : List (ℕ × ℕ)) (lines : List (C × C)) (j : WorldState) → IsFirstHalf a j.one → IsFirstHalf b j.two
      → PortsAgree j.one.state → PortsAgree j.two.state → refusal_of_two (config_value a) (config_value b) cables ≡ None
      → list_all (has_empty_directions items) lines ≡ true → j.links ≡ first_links items limit cables lines → j.acted ≡ 0 → IsStart j
  is_start a b cables lines j f g agrees_one agrees_two accepted empty made acted = record {
    kept = λ s. half_kept (by_side s a b) (half s j) (first s) (agrees s);
    shows = λ s. first_shows (half s j).state (first s).first;
    cabling = subst (λ ls. IsCabling (map link_ends ls)) (sym made) (cabled a.ports.items b.ports.items cables lines joined);
    empty = λ s i l e. line_empty items limit cables lines i l empty (rw made at e) s;
    ends = λ s i l e. end_logged (by_side s a b) (half s j) (port_at s l) (first s) (end_there s l
        (ports_there a.ports.items b.ports.items cables i (l.one, l.two) joined (ends_made items limit cables lines i l (rw made at e))));
    counts = λ s. rw (first s).histories (none_counted (by_side s a b).system (by_side s a b).ports.items);
    histories = λ s p history e. log_first (by_side s a b).system (find_number configured_number (by_side s a b).ports.items p) history
        (sym (ap (λ l. history_at l p) (first s).histories ∙ log_found (by_side s a b).system (by_side s a b).ports.items p) ∙ e);
    flows = λ s n k x e. nothing x (flow_empty (length (by_side s a b).aggregators.items) (by_side s a b).conversations n k x
        (sym (ap (λ l. flow_at l n k) (first s).flows) ∙ e));
    acted = acted;
  }
    where
      joined : AreJoined a.ports.items b.ports.items cables
      joined = (two_joined (config_value a) (config_value b) cables accepted).2

      first : (s : Side) → IsFirstHalf (by_side s a b) (half s j)
      first One = f
      first Two = g

      agrees : (s : Side) → PortsAgree (half s j).state
      agrees One = agrees_one
      agrees Two = agrees_two

      end_there : (s : Side) (l : LinkState) → (has_port a.ports.items l.one ≡ true) × (has_port b.ports.items l.two ≡ true)
          → has_port (by_side s a b).ports.items (port_at s l) ≡ true
      end_there One l x = x.0
      end_there Two l x = x.1

      nothing : (x : FlowValue) → x ≡ empty_flow → (x.sent ≡ []) × (x.collected ≡ []) × (x.forced ≡ false)
      nothing x e = rw e (refl, refl, refl)

-- what was tested of two lists in other places holds of them
pub same_test : {X Y : Type 0} (f : X → Y → Bool) (x there : X) (y here : Y) (r : Bool) → there ≡ x → here ≡ y → r ≡ f there here → r ≡ true → f x y ≡ true
same_test f x there y here r e g h t = (λ i. f (sym e i) (sym g i)) ∙ sym h ∙ t

-- the configurations of both systems are not refused if the world is not
pub both_accepted : (config : WorldConfig) (a b : Config) → config.systems ≡ a ∷ b ∷ [] → world_refusal config ≡ None
    → (refusal_of_one a ≡ None) × (refusal_of_one b ≡ None) × (refusal_of_two (config_value a) (config_value b) config.cables.items ≡ None)
both_accepted config a b e h = let two : refusal_of_two (config_value a) (config_value b) config.cables.items ≡ None =
    sym (ap (λ systems. refusal_of_all (map config_value systems) config.cables.items) e) ∙ h in
    let each = two_joined (config_value a) (config_value b) config.cables.items two in (each.0, each.1, two)

-- what code knows of a world that it made
module _ {C : Type 0} (items : C → List Item) (limit : C → Option ℕ) where
  pub made_start : (config : WorldConfig) (a b : Config) (lines : List (C × C)) (j : WorldState) → config.systems ≡ a ∷ b ∷ [] → world_refusal config ≡ None
      → are_empty_lines items config.cables.items lines ≡ true → IsFirstHalf a j.one → IsFirstHalf b j.two → PortsAgree j.one.state → PortsAgree j.two.state
      → j.links ≡ first_links items limit config.cables.items lines → j.acted ≡ 0 → IsStart j
  made_start config a b lines j e h fit f g agrees_one agrees_two made acted =
      is_start items limit a b config.cables.items lines j f g agrees_one agrees_two (both_accepted config a b e h).2
      (and_parts (length lines == length config.cables.items) (list_all (has_empty_directions items) lines) fit).1 made acted
