-- Every call preserves the configuration of a system, and the numbers of its ports.
use Rattle.lagsystem.proofs.Common.{Bool, List, None, Option, Some, [], ap, arith, false, if◌then◌else◌, inl, inr, length, nat_le, refl, slice_get, replicate}
use Rattle.lagsystem.proofs.Common.{slice_set, subst, suc, sym, true, zero, ℕ, ◌∙◌, ◌∷◌, ◌≡◌, ◌≤◌, ◌⊎◌, and_parts, nat_tests, length-map, AllZip, Key}
use Rattle.lagsystem.proofs.Common.{SystemId, Choice, Selected, Machines, mux_rows, RunsPeriodic, RunsToRest, after_sending, AggregatorsValue, Free}
use Rattle.lagsystem.proofs.Common.{Table, assignment_of, first_table, PortConfig, Reply, BadConfig, SystemPort, Call, ChangesParty, FreesIfDown}
use Rattle.lagsystem.proofs.Common.{OnlyPortChangesBy, PortAtChangesBy, ProcessesLacpdu, SetsLink, Step, ThenSettles, Ticks, HasJustStarted}
use Rattle.lagsystem.proofs.Common.{IsConfigured, IsFirst, config_refusal, configured_numbers, is_count, refusal, aggregator_numbered, distributing}
use Rattle.lagsystem.proofs.Common.{ChoosesIn, HoldsConversations, PortsChangeBy, PromotesFirst, SettlesPorts, Settling, after_choices, choice_for}
use Rattle.lagsystem.proofs.Common.{held_unless_on, with_choice, HasPorts, SystemState, aggregators_value, port_index, port_numbers}
use Rattle.lagsystem.proofs.Common.{with_system_ports, with_table, views}
use Rattle.lagsystem.proofs.SettlingLemmas.{RunsReady, SettlesIn, ports_frame, settles_in}
use Rattle.distributor.proofs.TableLemmas.{first_free}
use Rattle.lagsystem.proofs.Preserves.{Preserves, Step-preserves}
use Rattle.lagsystem.proofs.PromotionLemmas.{KeptByChoices, choices_keep, choosing_keeps, promotions_keep}
use Rattle.lagsystem.specs.declared.config.Config.{Config}
use Rattle.lagsystem.proofs.Rising.{if_then}

pub record Keeps (old new : SystemState) : Type 0 where
  pub frame : new ≡ with_table (with_system_ports old new.system_ports) new.table
  pub same : port_numbers new.system_ports ≡ port_numbers old.system_ports
  pub aggs : new.table.aggs ≡ old.table.aggs
  pub conversations : new.table.conversations ≡ old.table.conversations

pub keeps_joined : (a b c : SystemState) → Keeps a b → Keeps b c → Keeps a c
keeps_joined a b c h k = grind (arith, nat_tests)

-- ports alone, or conversations alone
pub keeps_slots : (old new : SystemState) → new ≡ with_system_ports old new.system_ports
    → port_numbers new.system_ports ≡ port_numbers old.system_ports → Keeps old new
keeps_slots old new e n = grind (arith, nat_tests)

pub keeps_table : (old new : SystemState) → new ≡ with_table old new.table → new.table.aggs ≡ old.table.aggs
    → new.table.conversations ≡ old.table.conversations → Keeps old new
keeps_table old new e a k = grind (arith, nat_tests)

pub keeps_stays : (old new : SystemState) → new ≡ old → Keeps old new
keeps_stays old new e = grind (arith, nat_tests)

pub zip_numbers : (R : Machines → Machines → Type 0) (xs ys : List SystemPort) → PortsChangeBy R xs ys → port_numbers ys ≡ port_numbers xs
zip_numbers R [] [] h = refl
zip_numbers R [] (y ∷ ys) h = absurd h
zip_numbers R (x ∷ xs) [] h = absurd h
zip_numbers R (x ∷ xs) (y ∷ ys) h = λ i. (h.0.0 i).number ∷ zip_numbers R xs ys h.1 i

pub numbers_set : (system_ports : List SystemPort) (i : ℕ) (s t : SystemPort) → slice_get system_ports i ≡ Some s → t.number ≡ s.number
    → port_numbers (slice_set system_ports i t) ≡ port_numbers system_ports
numbers_set [] i s t e n = refl
numbers_set (x ∷ xs) zero s t e n = let same : x ≡ s = cc in let here : x.number ≡ s.number = ap (λ (y : SystemPort). y.number) same in cc
numbers_set (x ∷ xs) (suc i) s t e n = ap (λ ns. x.number ∷ ns) (numbers_set xs i s t e n)

pub given_number : (s : SystemPort) (o : Option Choice) → (with_choice s o).number ≡ s.number
given_number s o = grind (arith, nat_tests)

selects_numbers : (numbers : List ℕ) → KeptByChoices (λ l. port_numbers l ≡ numbers)
selects_numbers numbers l i s o e h = numbers_set l i s (with_choice s o) e (given_number s o) ∙ h

pub chosen_numbers : (aggs : AggregatorsValue) (n : ℕ) (system_ports : List SystemPort)
    → port_numbers (after_choices aggs n system_ports) ≡ port_numbers system_ports
chosen_numbers aggs n system_ports = choices_keep aggs (λ l. port_numbers l ≡ port_numbers system_ports)
    (λ l i s e h. selects_numbers (port_numbers system_ports) l i s (choice_for aggs l s) e h) n system_ports refl

pub promoted_numbers : (aggs : AggregatorsValue) (n : ℕ) (old new : List SystemPort) → PromotesFirst aggs n old new → port_numbers new ≡ port_numbers old
promoted_numbers aggs n old new h = promotions_keep aggs (λ l. port_numbers l ≡ port_numbers old)
    (λ agg l m x p. ap port_numbers x.4 ∙ selects_numbers (port_numbers old) l x.0 x.1 (Some (Selected agg)) x.3 p) n old new h refl

-- step 2 of settling leaves the numbers
pub choosing_numbers : (aggs : AggregatorsValue) (old new : List SystemPort) → ChoosesIn aggs old new → port_numbers new ≡ port_numbers old
choosing_numbers aggs old new h = choosing_keeps (λ l. port_numbers l ≡ port_numbers old) (selects_numbers (port_numbers old)) aggs old new h refl

-- the steps that look at ports alone
settles_numbers : (aggs : AggregatorsValue) (old new : List SystemPort) → SettlesIn aggs old new → port_numbers new ≡ port_numbers old
settles_numbers aggs old new s =
    zip_numbers RunsPeriodic s.four new s.paces ∙ zip_numbers (RunsReady aggs.keys (views s.two)) s.two s.four s.runs
    ∙ choosing_numbers aggs s.one s.two s.chooses ∙ zip_numbers (RunsToRest (mux_rows false)) old s.one s.stops

pub ports_keep : (old new : SystemState) → SettlesPorts old new → Keeps old new
ports_keep old new h = keeps_slots old new (ports_frame old new h)
    (settles_numbers (aggregators_value old) old.system_ports new.system_ports (settles_in old new h))

-- they leave the conversations
pub ports_table : (old new : SystemState) → SettlesPorts old new → new.table ≡ old.table
ports_table old new h = ap (λ (s : SystemState). s.table) (ports_frame old new h)

-- one settling is those steps, and then the one of the conversations
pub settling_parts : (old new : SystemState) → Settling old new → (five : SystemState) × SettlesPorts old five × HoldsConversations five new
settling_parts old new h = grind (arith, nat_tests)

-- the ports before and after it
pub settling_in : (old new : SystemState) → Settling old new → SettlesIn (aggregators_value old) old.system_ports new.system_ports
settling_in old new h = let p = settling_parts old new h in
    subst (SettlesIn (aggregators_value old) old.system_ports) (sym (ap (λ (s : SystemState). s.system_ports) p.2.frame)) (settles_in old p.0 p.1)

pub settling_joined : (old mid new : SystemState) → SettlesPorts old mid → HoldsConversations mid new → Settling old new
settling_joined old mid new h l = grind (arith, nat_tests)

pub settling_keeps : (old new : SystemState) → Settling old new → Keeps old new
settling_keeps old new h = let p = settling_parts old new h in
    keeps_joined old p.0 new (ports_keep old p.0 p.1) (keeps_table p.0 new p.2.frame p.2.aggs p.2.conversations)

place_numbers : (R : Machines → Machines → Type 0) (o : Option ℕ) (old new : List SystemPort) → PortAtChangesBy R o old new
    → port_numbers new ≡ port_numbers old
place_numbers R o old new h = grind (arith, nat_tests, port_numbers, numbers_set)

pub keeps_place : (R : Machines → Machines → Type 0) (o : Option ℕ) (old new : SystemState) → OnlyPortChangesBy o R old new → Keeps old new
keeps_place R o old new h = keeps_slots old new h.1 (place_numbers R o old.system_ports new.system_ports h.0)

pub keeps_settled : (own : SystemState → SystemState → Type 0) (old new : SystemState) → ((mid : SystemState) → own old mid → Keeps old mid)
    → ThenSettles own old new → Keeps old new
keeps_settled own old new k h = keeps_joined old h.0 new (k h.0 h.1) (settling_keeps h.0 new h.2)

pub keeps_tick : (old new : SystemState) → Ticks old new → Keeps old new
keeps_tick old new h = grind (arith, nat_tests, zip_numbers)

frees_aggs : (up : Bool) (n : ℕ) (old new : Table) → FreesIfDown up n old new → new.aggs ≡ old.aggs
frees_aggs up n old new h = grind (arith, nat_tests)

frees_conversations : (up : Bool) (n : ℕ) (old new : Table) → FreesIfDown up n old new → new.conversations ≡ old.conversations
frees_conversations up n old new h = grind (arith, nat_tests)

pub keeps_link : (n : ℕ) (up : Bool) (old new : SystemState) → SetsLink n up old new → Keeps old new
keeps_link n up old new h = grind (arith, nat_tests, place_numbers, frees_aggs, frees_conversations)

new_numbers : (system : SystemId) (ports : List PortConfig) (system_ports : List SystemPort)
    → AllZip (HasJustStarted system) ports system_ports → port_numbers system_ports ≡ configured_numbers ports
new_numbers system [] [] h = refl
new_numbers system [] (s ∷ ss) h = absurd h
new_numbers system (p ∷ ps) [] h = absurd h
new_numbers system (p ∷ ps) (s ∷ ss) h = λ i. h.0.0 i ∷ new_numbers system ps ss h.1 i

-- the first state has the ports of its configuration
pub first_numbers : (s : SystemState) → IsFirst s → port_numbers s.system_ports ≡ configured_numbers s.ports
first_numbers s h = (settling_keeps (with_system_ports s h.0) s h.2).same ∙ new_numbers s.system s.ports h.0 h.1

pub ports_kept : (old new : SystemState) → Keeps old new → HasPorts old → HasPorts new
ports_kept old new k s = grind (arith, nat_tests)

pub ports_first : (s : SystemState) → refusal s.keys s.ports s.max_links s.conversations ≡ None → IsFirst s → HasPorts s
ports_first s a h = record { accepted = a; same = first_numbers s h }

-- the state is a first one, with the configuration of the old one
abbrev StartsAgain : SystemState → SystemState → Type 0
StartsAgain old new = (new ≡ with_table (with_system_ports old new.system_ports) new.table) × IsFirst new

kept : (gives : ℕ → ℕ → ℕ → Type 0) (old : SystemState) → Preserves gives old (λ call answer new. Keeps old new ⊎ StartsAgain old new)
kept gives old = record {
  ports = record {
    tick = λ new h. inl (keeps_settled Ticks old new (keeps_tick old) h);
    link = λ n up done new h. inl (keeps_settled (SetsLink n up) old new (keeps_link n up old) h);
    take = λ n octets v answer new told h. inl (on_port n (ProcessesLacpdu v) new h);
    change = λ n change new h. inl (on_port n (ChangesParty change) new h);
    restart = λ new e first. inr (e, first);
    send = λ n i x answer octets new at e due is told set.
        let sends : SystemPort = record x { port = after_sending x.port } in
        let system_ports : new.system_ports ≡ slice_set old.system_ports i sends = ap (λ (s : SystemState). s.system_ports) set in
        inl (keeps_slots old new (set ∙ ap (with_system_ports old) (sym system_ports))
        (ap port_numbers system_ports ∙ numbers_set old.system_ports i x sends e refl));
  };
  same = λ call answer new none e. inl (keeps_stays old new e);
  mark = λ n port id answer new none m e. inl (keeps_table old new e m.aggs m.conversations);
  release = λ n port id octets answer new m e. inl (keeps_table old new e m.aggs m.conversations);
  offer = λ agg octets port new h. inl (keeps_table old new h.2.1 h.2.0.aggs h.2.0.conversations);
  move = λ agg conv port s answer new e h. inl (keeps_table old new h.1 h.0.aggs h.0.conversations);
  force = λ agg conv s answer new e h. inl (keeps_table old new h.1 h.0.aggs h.0.conversations);
}
  where
    on_port : (n : ℕ) (R : Machines → Machines → Type 0) (new : SystemState)
        → ThenSettles (OnlyPortChangesBy (port_index n old.system_ports) R) old new → Keeps old new
    on_port n R new h = let o = port_index n old.system_ports in keeps_settled (OnlyPortChangesBy o R) old new (keeps_place R o old) h

-- every call keeps the configuration, or starts again with it
pub Step-keeps : (gives : ℕ → ℕ → ℕ → Type 0) (old : SystemState) (call : Call) (answer : Reply) (new : SystemState)
    → Step gives old call answer new → Keeps old new ⊎ StartsAgain old new
Step-keeps gives old = Step-preserves gives old (λ call answer new. Keeps old new ⊎ StartsAgain old new) (kept gives old)

pub Step-frame : (gives : ℕ → ℕ → ℕ → Type 0) (old : SystemState) (call : Call) (answer : Reply) (new : SystemState)
    → Step gives old call answer new → new ≡ with_table (with_system_ports old new.system_ports) new.table
Step-frame gives old call answer new h = elim (Step-keeps gives old call answer new h) [ inl k ↦ k.frame | inr r ↦ r.0 ]

pub Step-ports : (gives : ℕ → ℕ → ℕ → Type 0) (old : SystemState) (call : Call) (answer : Reply) (new : SystemState)
    → Step gives old call answer new → HasPorts old → HasPorts new
Step-ports gives old call answer new h s = elim (Step-keeps gives old call answer new h) [
  | inl k ↦ ports_kept old new k s
  | inr r ↦ ports_first new (ap (λ (x : SystemState). refusal x.keys x.ports x.max_links x.conversations) r.0 ∙ s.accepted) r.1
]

-- there are as many conversations as aggregators
pub Step-aggregators : (gives : ℕ → ℕ → ℕ → Type 0) (old : SystemState) (call : Call) (answer : Reply) (new : SystemState)
    → Step gives old call answer new → old.table.aggs ≡ length old.keys → new.table.aggs ≡ length new.keys
Step-aggregators gives old call answer new h e = grind (arith, nat_tests)

-- each aggregator has as many conversations as are configured
pub Step-conversations : (gives : ℕ → ℕ → ℕ → Type 0) (old : SystemState) (call : Call) (answer : Reply) (new : SystemState)
    → Step gives old call answer new → old.table.conversations ≡ old.conversations → new.table.conversations ≡ new.conversations
Step-conversations gives old call answer new h e = grind (arith, nat_tests)

is_true : (b : Bool) (x : Option BadConfig) (y : BadConfig) → (if b then x else Some y) ≡ None → b ≡ true
is_true b x y h = grind (arith, nat_tests)

below : (n : ℕ) → is_count n ≡ true → n ≤ 64
below n h = let k : nat_le n 64 ≡ true = (and_parts (nat_le 1 n) (nat_le n 64) h).1 in grind (arith, nat_tests)

pub accepted_keys_few : (keys : List Key) (ports : List PortConfig) (most : Option ℕ) (conversations : ℕ)
    → refusal keys ports most conversations ≡ None → length keys ≤ 64
accepted_keys_few keys ports most conversations h = below (length keys) (is_true (is_count (length keys)) _ _ (if_then (is_count (length ports)) _ _ h))

pub few_ports : (s : SystemState) → HasPorts s → length s.system_ports ≤ 64
few_ports s h = grind (arith, nat_tests, below, is_true, length-map)

-- a configuration that a system has is accepted if the system's is
pub is_accepted : (config : Config) (s : SystemState) → IsConfigured config s
    → refusal s.keys s.ports s.max_links s.conversations ≡ None → config_refusal config ≡ None
is_accepted config s h none = grind (arith, nat_tests)

-- what a new system is
abbrev pub started : Config → List Key → Option ℕ → List SystemPort → SystemState
started config keys most start = record {
  system = config.system;
  max_delay = config.max_delay;
  first_marker = config.first_marker;
  conversations = config.conversations;
  keys = keys;
  max_links = most;
  in_use = replicate (length keys) true;
  ports = config.ports.items;
  system_ports = start;
  table = first_table (length keys) config.conversations config.first_marker;
}

-- every conversation is free, so none leaves its port
first_leaves : (aggs conversations first : ℕ) (s : SystemState) → s.table ≡ first_table aggs conversations first → HoldsConversations s s
first_leaves aggs conversations first s e = record {
  frame = refl;
  aggs = refl;
  conversations = refl;
  first = refl;
  next = refl;
  states = λ g k. (let free : assignment_of s.table g k ≡ Free None = ap (λ (t : Table). assignment_of t g k) e
      ∙ first_free aggs conversations first g k in
      free ∙ sym (ap (held_unless_on (distributing (aggregator_numbered g) s.system_ports)) free));
}

pub first_settles : (aggs conversations first : ℕ) (old new : SystemState) → old.table ≡ first_table aggs conversations first
    → SettlesPorts old new → Settling old new
first_settles aggs conversations first old new e h =
    settling_joined old new new h (first_leaves aggs conversations first new (ports_table old new h ∙ e))

pub first_made : (config : Config) (keys : List Key) (most : Option ℕ) (start : List SystemPort) (new : SystemState)
    → AllZip (HasJustStarted config.system) config.ports.items start → SettlesPorts (started config keys most start) new → IsFirst new
first_made config keys most start new h k = let old = started config keys most start in
    let f = (ports_keep old new k).frame in
    let t : new.table ≡ old.table = ports_table old new k in
    let settles : Settling old new = first_settles (length keys) config.conversations config.first_marker old new refl k in
    grind (arith, nat_tests, with_system_ports, with_table, first_table)

pub configured_made : (config : Config) (keys : List Key) (most : Option ℕ) (start : List SystemPort) (new : SystemState) → keys ≡ config.aggregators.items
    → most ≡ config.max_links → SettlesPorts (started config keys most start) new → IsConfigured config new
configured_made config keys most start new e limit k = grind (arith, nat_tests)

pub ports_made : (config : Config) (keys : List Key) (most : Option ℕ) (start : List SystemPort) (new : SystemState) → keys ≡ config.aggregators.items
    → most ≡ config.max_links → config_refusal config ≡ None → AllZip (HasJustStarted config.system) config.ports.items start
    → SettlesPorts (started config keys most start) new → HasPorts new
ports_made config keys most start new e limit a h k =
    ports_kept (started config keys most start) new (ports_keep (started config keys most start) new k) (record {
      accepted = ap (λ l. refusal l config.ports.items most config.conversations) e
          ∙ ap (λ most. refusal config.aggregators.items config.ports.items most config.conversations) limit ∙ a;
      same = new_numbers config.system config.ports.items start h;
    })

-- the same, from the table that the distributor begins with
pub started_by : (config : Config) (keys : List Key) (most : Option ℕ) (used : List Bool) (start : List SystemPort) (t : Table) (new : SystemState)
    → t ≡ first_table (length keys) config.conversations config.first_marker → used ≡ replicate (length keys) true
    → SettlesPorts (record {
      system = config.system;
      max_delay = config.max_delay;
      first_marker = t.first;
      conversations = t.conversations;
      keys = keys;
      max_links = most;
      in_use = used;
      ports = config.ports.items;
      system_ports = start;
      table = t;
    }) new → SettlesPorts (started config keys most start) new
started_by config keys most used start t new e u h = grind (arith, nat_tests)
