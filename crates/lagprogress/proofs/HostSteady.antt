-- What calls and settings of hosts leave of both systems.
use Rattle.lagsystem.specs.Settings.{Set_in_use}
use Rattle.lagsystem.specs.Uses.{choice_with_use}
use Rattle.lagbeside.proofs.EachSetting.{used_port}
use Rattle.lagprogress.proofs.Common.{Bool, Err, List, None, Ok, Option, Result, Some, [], ap, arith, false, inl, inr, refl, subst, sym, true, ℕ, ◌∙◌}
use Rattle.lagprogress.proofs.Common.{◌∷◌, ◌≡◌, ◌≤◌, ◌⊎◌, nat_tests, none-some, same_Some, AggId, Choice, Lacpdu, One, Side, peer, Machines}
use Rattle.lagprogress.proofs.Common.{Assignment, Table, next_identifier, HostCall, HostReply, SystemFault, SystemPort, OffersIf, Carries, IsFrame}
use Rattle.lagprogress.proofs.Common.{choice_with_link, call_of, configured_numbers, HostPromise, GivesOrRefuses, ProbesAt, ProbesIf, SendsMarkerOf}
use Rattle.lagprogress.proofs.Common.{Hold_port, Set_max_delay, Set_max_links, Set_mode, SetsPort, Setting, SettingPromise, SettingStep, in_mode}
use Rattle.lagprogress.proofs.Common.{is_held_so, is_in_mode, with_held, IsSound, SystemState, port_index, with_table, IsOther, TableAlone}
use Rattle.lagprogress.proofs.Common.{host_alone, all-get, all-set, found_place, setting_sound, Step-sound, Algorithms, transmitted_item}
use Rattle.lagprogress.proofs.Common.{with_item_sent, forced_if_accepted, HalfState, ItemValue, LinkState, WorldState, half, put_on_port, with_half}
use Rattle.lagprogress.proofs.Common.{start_sound, AfterNumberedOffer, AfterProbe, CountsHeldIfOk, ForcesPort, HalfTells, HostEvent, HostRuns}
use Rattle.lagprogress.proofs.Common.{HostSteps, Leaves, Offers, Plays, Probes, Rests, Sets, numbered_item, hosts_keep_headline, PortsAreTimed}
use Rattle.lagprogress.proofs.Common.{KeptBySettling, OfEach, settling_each, zip_kept, forces_port, AtPort, settling_leaves, setting_timed}
use Rattle.lagprogress.proofs.Common.{LeavesPorts, EachHostReachedIsSteady, EachHostRunKeepsSteady}
use Rattle.slowpdu.specs.declared.pdu.Pdu.TheVariants as pdu
use Rattle.lagsystem.specs.declared.drive.HostCall.TheVariants as host
use Rattle.lagsystem.specs.declared.drive.HostReply.TheVariants as told
use Rattle.lagsystem.proofs.AssigningLemmas.{offers_sound}
use Rattle.lagsystem.proofs.LeavingLemmas.{leaves_sound, rests_sound}
use Rattle.lagsystem.proofs.ProbingLemmas.{probes_sound}
use Rattle.lagworld.specs.Asking.{with_sent_in}
use Rattle.lagworld.proofs.OneSystem.{after_call}
use Rattle.laghosts.proofs.HostHappens.{offered_joint}
use Rattle.lagprogress.proofs.Halves.{AreTimely, IsTimely, keeps_timely, start_steady, timely}
use Rattle.lagprogress.proofs.Linked.{each_both, each_side, same_index}
use Rattle.lagprogress.proofs.Passing.{marker_carries_none}

-- ---- one system

pub host_sound : (gives : ℕ → ℕ → ℕ → Type 0) (old : SystemState) (call : HostCall) (answer : HostReply) (new : SystemState)
    → HostPromise gives old call answer new → IsSound old → IsSound new
host_sound gives old (host.Call call) (told.Call answer) new h s = Step-sound gives old (call_of call) answer new h.step s
host_sound gives old (host.OfferConversation agg conv) (told.OfferConversation answer) new h s = offers_sound gives agg conv old answer new h.0 s
host_sound gives old (host.LeaveConversation agg conv) (told.LeaveConversation answer) new h s = leaves_sound agg conv old answer new h.0 s
host_sound gives old (host.Probe port) (told.Probe answer) new h s = probes_sound port old answer new h.0 s
host_sound gives old (host.Rest agg conv) (told.Rest answer) new h s = rests_sound gives agg conv old answer new h.0 s
host_sound gives old (host.ForcePort port) (told.ForcePort answer) new h s =
    forces_port gives IsSound (λ i j call a step x. Step-sound gives i call a j step x) port old answer new h.1 s
host_sound gives old call answer new h s = absurd h

-- no identifier comes back

pub gives_next : (agg : AggId) (conv : ℕ) (what : Result Assignment SystemFault) (old : SystemState) (a : Result Unit SystemFault)
    (new : SystemState) → GivesOrRefuses agg conv what old a new → old.table.next ≤ new.table.next
gives_next agg conv what old a new k = grind (arith, nat_tests)

offers_on : (there known : Bool) (gives : ℕ → ℕ → ℕ → Type 0) (agg : AggId) (conv : ℕ) (old : SystemState) (a : Result ℕ SystemFault)
    (new : SystemState) → OffersIf there known gives agg conv old a new → old.table.next ≤ new.table.next
offers_on there known gives agg conv old a new h = grind (arith, nat_tests)

probes_on : (o : Option ℕ) (old : SystemState) (a : Option (List ℕ)) (new : SystemState) → ProbesAt o old a new → old.table.next ≤ new.table.next
probes_on o old a new h = grind (arith, nat_tests)

host_next : (gives : ℕ → ℕ → ℕ → Type 0) (old : SystemState) (call : HostCall) (answer : HostReply) (new : SystemState)
    → HostPromise gives old call answer new → IsOther call → old.table.next ≤ new.table.next
host_next gives old call answer new h o = grind (arith, nat_tests, gives_next, offers_on, probes_on)

-- ---- the five calls

-- system s has sent an item on port p that bears no LACPDU
pub record SendsPlain (s : Side) (old new : WorldState) : Type 0 where
  pub port : ℕ
  pub item : ItemValue
  pub plain : (x : Lacpdu) → IsFrame item.octets (Carries (pdu.Lacpdu x)) → ⊥
  pub sent : new.links ≡ put_on_port s port item old.links

-- no port has changed, and nothing was sent, or that
pub record Quietly (s : Side) (old new : WorldState) : Type 0 where
  pub same : (t : Side) → (half t new).state.system_ports ≡ (half t old).state.system_ports
  pub links : (new.links ≡ old.links) ⊎ SendsPlain s old new
  pub logs : (t : Side) → (half t new).histories ≡ (half t old).histories

-- what a probe with this answer makes of the cables
abbrev pub Probed : Side → ℕ → Result (Option (List ℕ)) SystemFault → List LinkState → List LinkState → Type 0
Probed s port (Ok (Some frame)) old new = (item : ItemValue) × (item.octets ≡ frame) × (new ≡ put_on_port s port item old)
Probed s port a old new = new ≡ old

-- if the call is one
abbrev pub ProbedBy : Side → HostCall → HostReply → List LinkState → List LinkState → Type 0
ProbedBy s (host.Probe port) (told.Probe a) old new = Probed s port a old new
ProbedBy s call answer old new = Unit {0}

-- System s has answered this call, which leaves its ports and histories, and the peer, and sends nothing that bears an LACPDU.
pub record IsBeside (gives : ℕ → ℕ → ℕ → Type 0) (s : Side) (call : HostCall) (old new : WorldState) : Type 0 where
  pub answer : HostReply
  pub promise : HostPromise gives (half s old).state call answer (half s new).state
  pub other : IsOther call
  pub peers : (half (peer s) new).state ≡ (half (peer s) old).state
  pub links : (new.links ≡ old.links) ⊎ SendsPlain s old new
  pub logs : (t : Side) → (half t new).histories ≡ (half t old).histories
  pub probed : ProbedBy s call answer old.links new.links

-- it keeps the system sound, and changes its table alone
module _ {gives : ℕ → ℕ → ℕ → Type 0} {s : Side} {call : HostCall} {old new : WorldState} (b : IsBeside gives s call old new) where
  beside_alone : TableAlone (half s old).state (half s new).state
  beside_alone = host_alone gives (half s old).state call b.answer (half s new).state b.promise b.other

  pub beside_next : (half s old).state.table.next ≤ (half s new).state.table.next
  beside_next = host_next gives (half s old).state call b.answer (half s new).state b.promise b.other

-- these cables are those of the world, or have one more such item
abbrev Puts : Side → List LinkState → WorldState → Type 0
Puts s ls j = (ls ≡ j.links) ⊎ ((port : ℕ) × (item : ItemValue) × ((x : Lacpdu) → IsFrame item.octets (Carries (pdu.Lacpdu x)) → ⊥)
    × (ls ≡ put_on_port s port item j.links))

state_there : (s : Side) (h : HalfState) (ls : List LinkState) (j : WorldState) → (half s (after_call s h ls j)).state ≡ h.state
state_there s h ls j = grind (arith, nat_tests)

peer_there : (s : Side) (h : HalfState) (ls : List LinkState) (j : WorldState) → (half (peer s) (after_call s h ls j)).state ≡ (half (peer s) j).state
peer_there s h ls j = grind (arith, nat_tests)

logs_there : (s : Side) (h : HalfState) (ls : List LinkState) (j : WorldState) → h.histories ≡ (half s j).histories → (t : Side)
    → (half t (after_call s h ls j)).histories ≡ (half t j).histories
logs_there s h ls j e t = grind (arith, nat_tests)

same_links : (s : Side) (h : HalfState) (j : WorldState) → with_half s h j ≡ after_call s h j.links j
same_links s h j = grind (arith, nat_tests)

sent_joint : (s : Side) (port : ℕ) (item : ItemValue) (h : HalfState) (j : WorldState)
    → with_item_sent s port item (with_half s h j) ≡ after_call s h (put_on_port s port item j.links) j
sent_joint s port item h j = grind (arith, nat_tests)

built : (gives : ℕ → ℕ → ℕ → Type 0) (s : Side) (call : HostCall) (a : HostReply) (mid h : HalfState) (ls : List LinkState)
    (old new : WorldState) → HalfTells gives call a (half s old) mid → IsOther call → h.state ≡ mid.state → h.histories ≡ mid.histories
    → Puts s ls old → ProbedBy s call a old.links ls → new ≡ after_call s h ls old → IsBeside gives s call old new
built gives s call a mid h ls old new x is state logs puts probed y =
    let sent = subst (ProbedBy s call a old.links) (sym (ap (λ (j : WorldState). j.links) y)) probed in
    let own : (half s new).state ≡ mid.state = ap (λ (j : WorldState). (half s j).state) y ∙ (state_there s h ls old ∙ state) in
    grind (arith, nat_tests, peer_there, logs_there)

offer_beside : (gives : ℕ → ℕ → ℕ → Type 0) (s : Side) (agg : AggId) (conv : ℕ) (octets : List ℕ) (a : Result ℕ SystemFault) (mid : HalfState)
    (old new : WorldState) → ((x : Lacpdu) → IsFrame octets (Carries (pdu.Lacpdu x)) → ⊥)
    → HalfTells gives (host.OfferConversation agg conv) (told.OfferConversation a) (half s old) mid
    → AfterNumberedOffer s agg conv octets a (with_half s mid old) new → IsBeside gives s (host.OfferConversation agg conv) old new
offer_beside gives s agg conv octets (Ok port) mid old new plain x y =
    built gives s (host.OfferConversation agg conv) (told.OfferConversation (Ok port)) mid (with_sent_in agg.0 conv mid)
    (put_on_port s port (numbered_item s agg conv octets mid) old.links) old new x tt refl refl
    (inr (port, numbered_item s agg conv octets mid, plain, refl)) tt (y ∙ offered_joint s agg conv octets port mid old)
offer_beside gives s agg conv octets (Err fault) mid old new plain x y =
    built gives s (host.OfferConversation agg conv) (told.OfferConversation (Err fault)) mid mid old.links old new x tt refl refl (inl refl) tt
    (y ∙ same_links s mid old)

-- what is probed for is a marker
probed_plain : (o : Option ℕ) (old : SystemState) (frame : List ℕ) (new : SystemState) → ProbesAt o old (Some frame) new → (v : Lacpdu)
    → IsFrame frame (Carries (pdu.Lacpdu v)) → ⊥
probed_plain None old frame new h v k = h
probed_plain (Some i) old frame new h v k = by_up h.0.port.enabled h.2
  where
    by_marker : (o : Option ℕ) → SendsMarkerOf o h.0.number h.0.mac old (Some frame) new → ⊥
    by_marker None m = none-some frame (sym m.0)
    by_marker (Some id) m = marker_carries_none frame v _ k (h.0.mac, m.0, m.1, m.2, same_Some frame _ m.3)

    by_up : (up : Bool) → ProbesIf up h.0 old (Some frame) new → ⊥
    by_up false m = none-some frame (sym m.0)
    by_up true m = by_marker (next_identifier old.table) m

probe_beside : (gives : ℕ → ℕ → ℕ → Type 0) (s : Side) (port : ℕ) (a : Result (Option (List ℕ)) SystemFault) (mid : HalfState)
    (old new : WorldState) → HalfTells gives (host.Probe port) (told.Probe a) (half s old) mid
    → AfterProbe s port a (with_half s mid old) new → IsBeside gives s (host.Probe port) old new
probe_beside gives s port (Ok (Some frame)) mid old new x y =
    let item = transmitted_item s port frame (half s (with_half s mid old)) in
    built gives s (host.Probe port) (told.Probe (Ok (Some frame))) mid mid (put_on_port s port item old.links) old new x tt refl refl
    (inr (port, item, probed_plain (port_index port (half s old).state.system_ports) (half s old).state frame mid.state x.answers.0, refl))
    (item, refl, refl) (y ∙ sent_joint s port item mid old)
probe_beside gives s port (Ok None) mid old new x y =
    built gives s (host.Probe port) (told.Probe (Ok None)) mid mid old.links old new x tt refl refl (inl refl) refl (y ∙ same_links s mid old)
probe_beside gives s port (Err fault) mid old new x y =
    built gives s (host.Probe port) (told.Probe (Err fault)) mid mid old.links old new x tt refl refl (inl refl) refl (y ∙ same_links s mid old)

rest_beside : (gives : ℕ → ℕ → ℕ → Type 0) (s : Side) (agg : AggId) (conv : ℕ) (a : Result Unit SystemFault) (mid : HalfState)
    (old new : WorldState) → HalfTells gives (host.Rest agg conv) (told.Rest a) (half s old) mid
    → new ≡ with_half s (forced_if_accepted a agg conv mid) old → IsBeside gives s (host.Rest agg conv) old new
rest_beside gives s agg conv (Ok done) mid old new x y = let h = forced_if_accepted (Ok done) agg conv mid in
    built gives s (host.Rest agg conv) (told.Rest (Ok done)) mid h old.links old new x tt refl refl (inl refl) tt (y ∙ same_links s h old)
rest_beside gives s agg conv (Err fault) mid old new x y =
    built gives s (host.Rest agg conv) (told.Rest (Err fault)) mid mid old.links old new x tt refl refl (inl refl) tt (y ∙ same_links s mid old)

force_beside : (gives : ℕ → ℕ → ℕ → Type 0) (s : Side) (port : ℕ) (a : Result ℕ SystemFault) (mid last : HalfState) (old new : WorldState)
    → HalfTells gives (host.ForcePort port) (told.ForcePort a) (half s old) mid → CountsHeldIfOk a port (half s old).state mid last
    → new ≡ with_half s last old → IsBeside gives s (host.ForcePort port) old new
force_beside gives s port (Ok count) mid last old new x c y =
    built gives s (host.ForcePort port) (told.ForcePort (Ok count)) mid last old.links old new x tt c.state c.histories (inl refl) tt
    (y ∙ same_links s last old)
force_beside gives s port (Err fault) mid last old new x c y =
    built gives s (host.ForcePort port) (told.ForcePort (Err fault)) mid last old.links old new x tt
    (ap (λ (h : HalfState). h.state) c) (ap (λ (h : HalfState). h.histories) c) (inl refl) tt (y ∙ same_links s last old)

-- the event is one of the five calls that hosts with a data plane make
abbrev pub IsAside : HostEvent → Type 0
IsAside (Offers s agg conv octets) = Unit {0}
IsAside (Leaves s agg conv) = Unit {0}
IsAside (Probes s port) = Unit {0}
IsAside (Rests s agg conv) = Unit {0}
IsAside (ForcesPort s port) = Unit {0}
IsAside _ = ⊥

-- the system that is called
abbrev pub caller : HostEvent → Side
caller (Offers s agg conv octets) = s
caller (Leaves s agg conv) = s
caller (Probes s port) = s
caller (Rests s agg conv) = s
caller (ForcesPort s port) = s
caller e = One

-- and what is asked of it
abbrev pub asked_by : HostEvent → HostCall
asked_by (Offers s agg conv octets) = host.OfferConversation agg conv
asked_by (Leaves s agg conv) = host.LeaveConversation agg conv
asked_by (Probes s port) = host.Probe port
asked_by (Rests s agg conv) = host.Rest agg conv
asked_by (ForcesPort s port) = host.ForcePort port
asked_by e = host.ForcePort 0

pub aside : (gives : Algorithms) (e : HostEvent) (old new : WorldState) → IsAside e → HostSteps gives old e new
    → IsBeside (gives (caller e)) (caller e) (asked_by e) old new
aside gives (Offers s agg conv octets) old new is x = offer_beside (gives s) s agg conv octets x.0 x.1 old new (λ v c. x.2 c.0.1) x.3 x.4
aside gives (Leaves s agg conv) old new is x = built (gives s) s (host.LeaveConversation agg conv) (told.LeaveConversation x.0) x.1 x.1
    old.links old new x.2 tt refl refl (inl refl) tt (x.3 ∙ same_links s x.1 old)
aside gives (Probes s port) old new is x = probe_beside (gives s) s port x.0 x.1 old new x.2 x.3
aside gives (Rests s agg conv) old new is x = rest_beside (gives s) s agg conv x.0 x.1 old new x.2 x.3
aside gives (ForcesPort s port) old new is x = force_beside (gives s) s port x.0 x.1 x.2 old new x.3 x.4 x.5
aside gives e old new is x = absurd is

pub probes_half : (gives : Algorithms) (s : Side) (port : ℕ) (old new : WorldState) → HostSteps gives old (Probes s port) new
    → (a : Result (Option (List ℕ)) SystemFault) × HostPromise (gives s) (half s old).state (host.Probe port) (told.Probe a) (half s new).state
    × Probed s port a old.links new.links
probes_half gives s port old new h = let b = aside gives (Probes s port) old new tt h in by_answer b.answer b.promise b.probed
  where
    by_answer : (a : HostReply) → HostPromise (gives s) (half s old).state (host.Probe port) a (half s new).state
        → ProbedBy s (host.Probe port) a old.links new.links → (a : Result (Option (List ℕ)) SystemFault)
        × HostPromise (gives s) (half s old).state (host.Probe port) (told.Probe a) (half s new).state × Probed s port a old.links new.links
    by_answer (told.Probe a) p k = (a, p, k)
    by_answer a p k = absurd p

-- it leaves the cables quietly
pub beside_quietly : (gives : ℕ → ℕ → ℕ → Type 0) (s : Side) (call : HostCall) (old new : WorldState) → IsBeside gives s call old new → Quietly s old new
beside_quietly gives s call old new hyp1 = grind (arith, nat_tests, each_side, beside_alone)

delayed : (s : Side) (delay : ℕ) (a : Result Unit SystemFault) (old : SystemState) (new : SystemState)
    → SettingPromise old (Set_max_delay delay) a new → new ≡ record old { max_delay = delay }
delayed s delay a old new x = grind (arith, nat_tests)

pub delay_quietly : (gives : Algorithms) (s : Side) (delay : ℕ) (old new : WorldState) → HostSteps gives old (Sets s (Set_max_delay delay)) new
    → Quietly s old new
delay_quietly gives s delay old new x = grind (arith, nat_tests)

-- a setting of another port, or one that what holds of the port withstands

abbrev Withstands : ℕ → (Machines → Type 0) → Setting → Type 0
Withstands p P (Hold_port n held) = n ≡ p → (x : SystemPort) → P x.port → P (with_held held x).port
Withstands p P (Set_mode n active short) = n ≡ p → (x : SystemPort) → P x.port → P (in_mode active short x).port
Withstands p P (Set_in_use agg now) = (x : Machines) → P x → P (record x { choice = choice_with_use agg now x.choice })
Withstands p P setting = Unit {0}

left_alone : (at : Side → ℕ) (s : Side) (P : Machines → Type 0) (setting : Setting) → LeavesPorts at (Sets s setting) → Withstands (at s) P setting
left_alone at s P (Set_in_use agg now) h = λ x a. subst P (sym (used_port agg now x h)) a
left_alone at s P setting h = grind (arith, nat_tests)

set_beside : (n m : ℕ) (P : Machines → Type 0) → KeptBySettling (AtPort n P) → (already : SystemPort → Bool) (change : SystemPort → SystemPort)
    → (m ≡ n → (x : SystemPort) → P x.port → P (change x).port) → ((x : SystemPort) → (change x).number ≡ x.number) → (o : Option ℕ) (old new : SystemState)
    → port_index m old.system_ports ≡ o → SetsPort already change o old new → OfEach (AtPort n P) old.system_ports → OfEach (AtPort n P) new.system_ports
set_beside n m P k already change stands same None old new e h a = absurd h
set_beside n m P k already change stands same (Some i) old new e h a = elim h [
  | inl is ↦ subst (λ (s : SystemState). OfEach (AtPort n P) s.system_ports) (sym is.1) a
  | inr settled ↦ (let b = settled.1.0 in
      settling_each (AtPort n P) k settled.0 new settled.2 (subst (OfEach (AtPort n P)) (sym b.3)
      (all-set (λ (x : SystemPort). AtPort n P x.number x.port) old.system_ports i (change b.0) a
      (λ f. let number = sym (same b.0) ∙ f in stands (sym (found_place m old.system_ports i b.0 e b.1) ∙ number) b.0
      (all-get (λ (x : SystemPort). AtPort n P x.number x.port) old.system_ports i b.0 b.1 a number)))))
]

-- a limit of links leaves what is chosen of a port whose link is up
limited_choice : (most : Option ℕ) (up : Bool) (c : Choice) → up ≡ true → choice_with_link most up c ≡ c
limited_choice most up c e = grind (arith, nat_tests)

limited_port : (most : Option ℕ) (p : Machines) → p.enabled ≡ true → record p { choice = choice_with_link most p.enabled p.choice } ≡ p
limited_port most p up = ap (λ c. record p { choice = c }) (limited_choice most p.enabled p.choice up)

abbrev pub IsUp : Machines → Type 0
IsUp p = p.enabled ≡ true

-- what it leaves of the port of its system, if the link of that is up
setting_beside : (p : ℕ) (P : Machines → Type 0) → KeptBySettling (AtPort p P) → (setting : Setting) → Withstands p P setting
    → (a : Result Unit SystemFault) (old new : SystemState) → SettingStep old setting a new
    → OfEach (AtPort p IsUp) old.system_ports → OfEach (AtPort p P) old.system_ports → OfEach (AtPort p P) new.system_ports
setting_beside p P k (Hold_port n held) stands (Ok done) old new h up y = set_beside p n P k (is_held_so held) (with_held held) stands
    (λ x. refl) (port_index n old.system_ports) old new refl h y
setting_beside p P k (Hold_port n held) stands (Err fault) old new h up y = grind (arith, nat_tests)
setting_beside p P k (Set_mode n active short) stands (Ok done) old new h up y = set_beside p n P k (is_in_mode active short)
    (in_mode active short) stands (λ x. refl) (port_index n old.system_ports) old new refl h y
setting_beside p P k (Set_mode n active short) stands (Err fault) old new h up y = grind (arith, nat_tests)
setting_beside p P k (Set_max_delay delay) stands (Ok done) old new h up y = grind (arith, nat_tests)
setting_beside p P k (Set_max_delay delay) stands (Err fault) old new h up y = absurd h
setting_beside p P k (Set_max_links most) stands (Ok done) old new h up y = settling_each (AtPort p P) k h.1.0 new h.1.2
    (zip_kept (λ q r. r ≡ record q { choice = choice_with_link most q.enabled q.choice })
    (λ m q. AtPort p P m q × AtPort p IsUp m q) (AtPort p P)
    (λ m q r e a f. subst P (sym (e ∙ limited_port most q (a.1 f))) (a.0 f)) old.system_ports h.1.0.system_ports h.1.1.0
    (each_both (AtPort p P) (AtPort p IsUp) old.system_ports y up))
setting_beside p P k (Set_max_links most) stands (Err fault) old new h up y = grind (arith, nat_tests)
setting_beside p P k (Set_in_use agg now) stands (Ok done) old new h up y = settling_each (AtPort p P) k h.1.0 new h.1.2
    (zip_kept (λ q r. r ≡ record q { choice = choice_with_use agg now q.choice }) (AtPort p P) (AtPort p P)
    (λ m q r e a f. subst P (sym e) (stands q (a f))) old.system_ports h.1.0.system_ports h.1.1.0 y)
setting_beside p P k (Set_in_use agg now) stands (Err fault) old new h up y = subst (λ (s : SystemState). OfEach (AtPort p P) s.system_ports) (sym h.2) y

-- no setting takes a link down
up_withstands : (p : ℕ) (setting : Setting) → Withstands p IsUp setting
up_withstands p setting = grind (arith, nat_tests)

module _ (gives : Algorithms) (s : Side) (setting : Setting) (old new : WorldState) (x : HostSteps gives old (Sets s setting) new) where
  set_there : new ≡ after_call s x.1 old.links old
  set_there = x.3 ∙ same_links s x.1 old

  pub sets_links : new.links ≡ old.links
  sets_links = ap (λ (j : WorldState). j.links) set_there

  pub sets_logs : (t : Side) → (half t new).histories ≡ (half t old).histories
  sets_logs t = ap (λ (j : WorldState). (half t j).histories) set_there
      ∙ logs_there s x.1 old.links old (ap (λ (k : HalfState). k.histories) x.2.same) t

  own_set : (half s new).state ≡ x.1.state
  own_set = ap (λ (j : WorldState). (half s j).state) set_there ∙ state_there s x.1 old.links old

  peer_set : (half (peer s) new).state ≡ (half (peer s) old).state
  peer_set = ap (λ (j : WorldState). (half (peer s) j).state) set_there ∙ peer_there s x.1 old.links old

  set_each : (t : Side) (p : ℕ) (P : Machines → Type 0) → KeptBySettling (AtPort p P) → (t ≡ s → Withstands p P setting)
      → OfEach (AtPort p IsUp) (half t old).state.system_ports → OfEach (AtPort p P) (half t old).state.system_ports
      → OfEach (AtPort p P) (half t new).state.system_ports
  set_each t p P hyp1 hyp2 hyp3 hyp4 = grind (arith, nat_tests, each_side, own_set, setting_beside, peer_set)

  pub sets_each : (at : Side → ℕ) → LeavesPorts at (Sets s setting) → (P : Machines → Type 0) (t : Side) → KeptBySettling (AtPort (at t) P)
      → OfEach (AtPort (at t) IsUp) (half t old).state.system_ports → OfEach (AtPort (at t) P) (half t old).state.system_ports
      → OfEach (AtPort (at t) P) (half t new).state.system_ports
  sets_each at leaves P t k = set_each t (at t) P k (λ e. subst (λ u. Withstands (at u) P setting) (sym e) (left_alone at s P setting leaves))

  pub sets_up : (t : Side) (p : ℕ) → OfEach (AtPort p IsUp) (half t old).state.system_ports → OfEach (AtPort p IsUp) (half t new).state.system_ports
  sets_up t p up = set_each t p IsUp (settling_leaves (AtPort p IsUp)) (λ e. up_withstands p setting) up up

  pub sets_place : AreTimely old → AreTimely new → (t : Side) (n : ℕ)
      → port_index n (half t new).state.system_ports ≡ port_index n (half t old).state.system_ports
  sets_place a b t n = same_index n (half t old).state.system_ports (half t new).state.system_ports
      ((b t).0.ports.same ∙ (ap configured_numbers ((each_side (λ t. (half t new).state.ports ≡ (half t old).state.ports) s
      (ap (λ (z : SystemState). z.ports) own_set ∙ x.2.answers.ports) (ap (λ (z : SystemState). z.ports) peer_set)) t) ∙ sym (a t).0.ports.same))

-- what they change of neither system
module _ (X : Type 0) (g : SystemState → X) where
  pub aside_keeps : ((s : SystemState) (t : Table) → g (with_table s t) ≡ g s) → (gives : Algorithms) (e : HostEvent) (old new : WorldState)
      → IsAside e → HostSteps gives old e new → (t : Side) → g (half t new).state ≡ g (half t old).state
  aside_keeps tables gives e old new is x = let b = aside gives e old new is x in
      each_side (λ u. g (half u new).state ≡ g (half u old).state) (caller e)
      (ap g (beside_alone b) ∙ tables (half (caller e) old).state (half (caller e) new).state.table) (ap g b.peers)

  pub delay_keeps : ((s : SystemState) (d : ℕ) → g (record s { max_delay = d }) ≡ g s) → (gives : Algorithms) (s : Side) (delay : ℕ) (old new : WorldState)
      → HostSteps gives old (Sets s (Set_max_delay delay)) new → (t : Side) → g (half t new).state ≡ g (half t old).state
  delay_keeps hyp1 gives s delay old new hyp2 t = grind (arith, nat_tests, same_links, each_side, state_there, delayed, peer_there)

-- ---- both systems

beside_timely : (gives : ℕ → ℕ → ℕ → Type 0) (s : Side) (call : HostCall) (old new : WorldState) → IsBeside gives s call old new → AreTimely old → AreTimely new
beside_timely gives s call old new b k = each_side (λ t. IsTimely (half t new).state) s
    (host_sound gives (half s old).state call b.answer (half s new).state b.promise (k s).0, subst PortsAreTimed (sym (beside_alone b)) (k s).1)
    (subst IsTimely (sym b.peers) (k (peer s)))

pub setting_both : (P : SystemState → Type 0) (s : Side) (mid : HalfState) (old new : WorldState) → (P (half s old).state → P mid.state)
    → new ≡ with_half s mid old → ((t : Side) → P (half t old).state) → (t : Side) → P (half t new).state
setting_both P s mid old new hyp1 hyp2 hyp3 t = grind (arith, nat_tests, same_links, each_side, state_there, peer_there)

pub step_timely : (gives : Algorithms) (e : HostEvent) (old new : WorldState) → HostSteps gives old e new → AreTimely old → AreTimely new
step_timely gives (Plays e) old new x k = keeps_timely gives e x.0 old new x.1 k
step_timely gives (Sets s setting) old new x k = setting_both IsTimely s x.1 old new (λ t. (
  setting_sound (half s old).state setting x.0 x.1.state x.2.answers.step t.0,
  setting_timed (half s old).state x.1.state setting x.0 x.2.answers.step t.1,
)) x.3 k
step_timely gives e old new x k = beside_timely (gives (caller e)) (caller e) (asked_by e) old new (aside gives e old new tt x) k

run_timely : (gives : Algorithms) (es : List HostEvent) (old new : WorldState) → HostRuns gives old es new → AreTimely old → AreTimely new
run_timely gives [] old new h k = subst AreTimely (sym h) k
run_timely gives (e ∷ es) old new h k = run_timely gives es h.0 new h.2 (step_timely gives e old h.0 h.1 k)

pub hosts_keep_steady : (gives : Algorithms) → EachHostRunKeepsSteady gives
hosts_keep_steady gives es old new h k free = λ s.
    (let t = run_timely gives es old new h (timely old k) s in (t.0, t.1, free s))

pub host_reached_steady : (gives : Algorithms) → EachHostReachedIsSteady gives
host_reached_steady gives configs es start new i first h few free = (
  (hosts_keep_headline gives es start new h (start_sound start i) few).sound,
  hosts_keep_steady gives es start new h (start_steady configs start i first) free,
)
