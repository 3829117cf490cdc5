-- What healthy rounds leave of the ports and aggregators of a system.
use Rattle.std.specs.Prelude.{Bool}
use Rattle.selection.specs.Limits.{is_in_use}
use Rattle.lagsystem.specs.Uses.{AllInUse}
use Rattle.lagprogress.proofs.Common.{List, Option, Some, [], ap, arith, filter, inl, inr, length, option_map, refl, slice_get, subst, suc, sym, true}
use Rattle.lagprogress.proofs.Common.{zero, ℕ, ◌<◌, ◌==◌, ◌∙◌, ◌∷◌, ◌≡◌, ◌≤◌, ◌⊎◌, nat_tests, slice_get_cases, slice_get_within, AllByRecursion, Key}
use Rattle.lagprogress.proofs.Common.{Party, StateBits, Lacpdu, IsCabling, One, Side, peer, Machines, receive_rows, RunsToRest, actor_of, count_down}
use Rattle.lagprogress.proofs.Common.{pdu_of, PortConfig, SystemPort, configured_numbers, model_port_of, model_setup, model_view, number_of_port}
use Rattle.lagprogress.proofs.Common.{HasPorts, IsSound, SystemState, machines_of, port_index, port_numbers, named, all-get, are_numbered}
use Rattle.lagprogress.proofs.Common.{found_place, ports_rise, Algorithms, world_setup, ItemValue, LinkState, WorldState, half, port_at, towards}
use Rattle.lagprogress.proofs.Common.{aggregators_with, ports_with, count_same, counted, OfEach, AtPort, at_number, higher, same_place, AllHeard}
use Rattle.lagprogress.proofs.Common.{EndsHealthyCable, EnoughAggregators, EnoughLinks, Clearing, PlayedRounds, AtEnd, IsHealthyAt, OfPort, IsSteady}
use Rattle.lagmodel.proofs.Uses.{find_at}
use Rattle.lagprogress.proofs.EndFacts.{said_bits, Says, Synced, activity}
use Rattle.lagprogress.proofs.Halves.{timely}
use Rattle.lagprogress.proofs.Linked.{EndIs, IsGood, Link, each_side, peer_twice, both_at, machines_there, many}
use Rattle.lagprogress.proofs.OneCable.{OnCable, as_cable}
use Rattle.lagprogress.proofs.OneRound.{Nothing}
use Rattle.lagprogress.proofs.Claims.{IsNamed}
use Rattle.lagmodel.specs.Law.{Members}
use Rattle.lagprogress.proofs.EachRound.{EachAt, Passes, RoundKeeps, each_on, own_keeps, own_ticks, played_pass, same_on, steady_on}

-- The ends of a cable in the world before the rounds.

-- the port that is meant
abbrev pub Found : (Machines → Type 0) → ℕ → SystemState → Type 0
Found P n s = (k : ℕ) × (z : SystemPort) × (port_index n s.system_ports ≡ Some k) × (slice_get s.system_ports k ≡ Some z) × P z.port

pub end_of : (P : Machines → Type 0) (n : ℕ) (s : SystemState) → OfPort P (machines_of n s) → Found P n s
end_of P n s h = grind (arith, nat_tests)

pub own_says : (p : Machines) → Says (pdu_of p 0) p
own_says p = let bits = said_bits p in
    (sym (ap (named (actor_of p)) bits), sym (ap (λ (b : StateBits). b.activity) bits), sym (ap (λ (b : StateBits). b.timeout) bits))

-- what the LACPDUs of the port at an end say
abbrev pub Ends : LinkState → WorldState → Type 0
Ends l j = (s : Side) → Found (λ p. p.enabled ≡ true) (port_at s l) (half s j).state

abbrev pub said_by : (l : LinkState) (j : WorldState) → Ends l j → Side → Lacpdu
said_by l j e s = pdu_of (e s).1.port 0

all_unknown : (w : Side → Lacpdu) (s : Side) (xs : List ItemValue) → AllByRecursion (IsGood 0 w s) xs
all_unknown w s [] = tt
all_unknown w s (x ∷ xs) = (λ v c. (λ l. absurd (omega (arith, l)), λ l. absurd (omega (arith, l))), all_unknown w s xs)

-- a healthy cable, and what is on it
pub healthy_cable : (i : ℕ) (l : LinkState) (j : WorldState) → IsCabling (world_setup j).cables → IsHealthyAt i l j
    → OnCable i (λ s. port_at s l) (λ s. towards s l) j.links
healthy_cable i l j cabling h = record { there = h.there ∙ ap (λ m. Some m) (as_cable l h.whole h.unlimited); cabling = cabling }

pub starts : (i : ℕ) (l : LinkState) (j : WorldState) (e : Ends l j) → IsSteady j → IsCabling (world_setup j).cables → IsHealthyAt i l j
    → Link 0 (λ s. port_at s l) (said_by l j e) (λ _. 0) One Nothing j
starts i l j e steady cabling h = record {
  steady = timely j steady;
  flying = λ s. towards s l;
  index = i;
  links = healthy_cable i l j cabling h;
  good = λ s. all_unknown (said_by l j e) s (towards s l);
  place = λ s. ((e s).0, (e s).2);
  ports = λ s. (let ports = (half s j).state.system_ports in
      let z = (e s).1 in
      let P = EndIs 0 (said_by l j e) (λ _. 0) One Nothing s in
      subst (λ n. OfEach (AtPort n P) ports) (found_place (port_at s l) ports (e s).0 z (e s).2 (e s).3)
      (at_number P 0 ports (e s).0 z (ports_rise (half s j).state (steady s).0.ports) (e s).3
      ((own_says z.port, ((e s).4, λ m. absurd (omega (arith, m))), λ m. absurd (omega (arith, m))), λ f. tt)));
}

-- where more is known of what is on the cable
pub raised : (at : Side → ℕ) (w : Side → Lacpdu) (d e : ℕ) (c : Side → ℕ) (x : Side) (Y : Machines → Type 0) (j : WorldState)
    → ((s : Side) → OfEach (AtPort (at s) (λ p. 2 ≤ e → Synced p)) (half s j).state.system_ports) → (k : Link d at w c x Y j)
    → ((s : Side) → AllByRecursion (IsGood e w s) (k.flying s)) → Link e at w c x Y j
raised at w d e c x Y j synced k good = record {
  steady = k.steady;
  flying = k.flying;
  index = k.index;
  links = k.links;
  good = good;
  place = k.place;
  ports = λ s. both_at (at s) (EndIs d w c x Y s) (λ p. 2 ≤ e → Synced p) (EndIs e w c x Y s)
      (λ p a b. ((a.0.0, a.0.1, b), a.1)) (half s j).state.system_ports (k.ports s) (synced s);
}

-- an end names itself by a port number that the default partner has not

own_number : (s : SystemState) (k : ℕ) (x : SystemPort) → IsSound s → slice_get s.system_ports k ≡ Some x → x.port.party.port.number ≡ x.number
own_number s k x h there =
    let found = find_at number_of_port s.system_ports k x (are_numbered 0 s.system_ports (ports_rise s h.ports)) there in
    h.members.number x.number (model_port_of x) (ap (option_map model_port_of) found)

pub named_at : (l : LinkState) (j : WorldState) (e : Ends l j) → IsSteady j → (t : Side) → IsNamed (said_by l j e t)
named_at l j e steady t same = let st = (half t j).state in
    let x = (e t).1 in
    let some : 0 < x.number = higher 0 st.system_ports (e t).0 x (ports_rise st (steady t).0.ports) (e t).3 in
    grind (arith, nat_tests, own_says, own_number)

pub awake_at : (w : Side → Lacpdu) (a : Side) → activity (w a) ≡ true → (s : Side) → (activity (w s) ≡ true) ⊎ (activity (w (peer s)) ≡ true)
awake_at w a h = grind (arith, nat_tests, each_side, peer_twice)

pub active_at : (l : LinkState) (j : WorldState) (e : Ends l j) (a : Side) → AtEnd (λ p. p.active ≡ true) a l j → activity (said_by l j e a) ≡ true
active_at l j e a h = sym (own_says (e a).1.port).1
    ∙ subst (OfPort (λ p. p.active ≡ true)) (machines_there (port_at a l) (half a j).state (e a).0 (e a).1 (e a).2 (e a).3) h

-- what stays of each port

-- the port has the same own parameters, and its link is up as before
abbrev pub Alike : Machines → Machines → Type 0
Alike x p = (p.party ≡ x.party) × (p.enabled ≡ x.enabled)

pub alike_keeps : (n : ℕ) (x : Machines) → RoundKeeps (AtPort n (Alike x))
alike_keeps n x = own_keeps (λ party up. (party ≡ x.party) × (up ≡ x.enabled)) n

pub alike_ticks : (n : ℕ) (x : Machines) (m : ℕ) (p q : Machines) → RunsToRest receive_rows (count_down p) q → AtPort n (Alike x) m p → AtPort n (Alike x) m q
alike_ticks n x = own_ticks (λ party up. (party ≡ x.party) × (up ≡ x.enabled)) n

pub alike_on : (gives : Algorithms) (old new : WorldState) → IsSteady old → Passes gives old new → (s : Side) (k : ℕ) (x : SystemPort)
    → slice_get (half s old).state.system_ports k ≡ Some x → EachAt (AtPort x.number (Alike x.port)) s new
alike_on gives old new steady h s k x there = let st = (half s old).state in
    each_on gives old new h (AtPort x.number (Alike x.port)) (alike_keeps x.number x.port) (alike_ticks x.number x.port) s
    (at_number (Alike x.port) 0 st.system_ports k x (ports_rise st (steady s).0.ports) there (refl, refl))

pub played_alike : (E : Clearing) (gives : Algorithms) (n : ℕ) (old new : WorldState) → IsSteady old → PlayedRounds E gives n old new
    → (s : Side) (k : ℕ) (x : SystemPort) → slice_get (half s old).state.system_ports k ≡ Some x → EachAt (AtPort x.number (Alike x.port)) s new
played_alike E gives n old new steady h = alike_on gives old new steady (played_pass E gives n old new h)

-- the system is as it was, but for its machines and its table
pub record IsAsBefore (s : Side) (old new : WorldState) : Type 0 where
  pub keys : (half s new).state.keys ≡ (half s old).state.keys
  pub limit : (half s new).state.max_links ≡ (half s old).state.max_links
  pub used : (half s new).state.in_use ≡ (half s old).state.in_use
  pub numbers : port_numbers (half s new).state.system_ports ≡ port_numbers (half s old).state.system_ports
  pub alike : (k : ℕ) (x y : SystemPort) → slice_get (half s old).state.system_ports k ≡ Some x
      → slice_get (half s new).state.system_ports k ≡ Some y → Alike x.port y.port

pub before_on : (gives : Algorithms) (old new : WorldState) → IsSteady old → Passes gives old new → (s : Side) → IsAsBefore s old new
before_on gives old new steady h s = let now = steady_on gives old new h steady in
    let ports = same_on gives old new h (List PortConfig) (λ t. t.ports) (λ t a b. refl) (λ t a. refl) (λ t d. refl) s in
    let numbers : port_numbers (half s new).state.system_ports ≡ port_numbers (half s old).state.system_ports =
    (now s).0.ports.same ∙ (ap configured_numbers ports ∙ sym (steady s).0.ports.same) in
    record {
      keys = same_on gives old new h (List Key) (λ t. t.keys) (λ t a b. refl) (λ t a. refl) (λ t d. refl) s;
      limit = same_on gives old new h (Option ℕ) (λ t. t.max_links) (λ t a b. refl) (λ t a. refl) (λ t d. refl) s;
      used = same_on gives old new h (List Bool) (λ t. t.in_use) (λ t a b. refl) (λ t a. refl) (λ t d. refl) s;
      numbers = numbers;
      alike = λ k x y e f. all-get (λ (z : SystemPort). AtPort x.number (Alike x.port) z.number z.port) (half s new).state.system_ports k y f
          (alike_on gives old new steady h s k x e)
          (same_place (half s old).state.system_ports (half s new).state.system_ports k x y numbers e f);
    }

pub played_before : (E : Clearing) (gives : Algorithms) (n : ℕ) (old new : WorldState) → IsSteady old → PlayedRounds E gives n old new → (s : Side)
    → IsAsBefore s old new
played_before E gives n old new steady h = before_on gives old new steady (played_pass E gives n old new h)

-- the port that stood at the place
pub old_port : (xs ys : List SystemPort) (k : ℕ) (y : SystemPort) → port_numbers ys ≡ port_numbers xs → slice_get ys k ≡ Some y
    → (x : SystemPort) × (slice_get xs k ≡ Some x) × (y.number ≡ x.number)
old_port xs ys k y numbers f = let within = slice_get_within ys k y f in
    let one = many xs in
    let two = many ys in
    let both = ap (λ (ns : List ℕ). length ns) numbers in
    elim (slice_get_cases xs k).1 [
      | inl c ↦ (c.0, c.2, same_place xs ys k c.0 y numbers c.2 f)
      | inr p ↦ (let past = p.0 in absurd (omega (arith, within, one, two, both, past)))
    ]

same_ports_with : (s : Side) (old new : WorldState) → IsAsBefore s old new → (key : Key) → ports_with key (half s new).state ≡ ports_with key (half s old).state
same_ports_with s old new b key = grind (arith, nat_tests, many, counted, count_same)

same_aggregators_with : (s : Side) (old new : WorldState) → IsAsBefore s old new → (key : Key)
    → aggregators_with key (half s new).state ≡ aggregators_with key (half s old).state
same_aggregators_with s old new b key = ap (λ (ks : List Key). length (filter (λ (k : Key). k.0 == key.0) ks)) b.keys

-- of a key
pub still_enough : (s : Side) (old new : WorldState) → IsAsBefore s old new → (key was : Key) → key ≡ was
    → ports_with was (half s old).state ≤ aggregators_with was (half s old).state → ports_with key (half s new).state ≤ aggregators_with key (half s new).state
still_enough s old new hyp1 key was hyp2 hyp3 = grind (arith, nat_tests, same_ports_with, same_aggregators_with)

pub still_one : (s : Side) (old new : WorldState) → IsAsBefore s old new → (key was : Key) → key ≡ was
    → 1 ≤ aggregators_with was (half s old).state → 1 ≤ aggregators_with key (half s new).state
still_one s old new b key was e one = grind (arith, nat_tests)

pub still_aggregators : (s : Side) (old new : WorldState) → IsAsBefore s old new → EnoughAggregators (half s old).state → EnoughAggregators (half s new).state
still_aggregators s old new b enough k y there up = grind (arith, nat_tests, old_port, half, still_enough)

pub still_used : (s : Side) (old new : WorldState) → IsAsBefore s old new → AllInUse (half s old).state → AllInUse (half s new).state
still_used s old new b used agg = ap (λ l. is_in_use l agg) b.used ∙ used agg

pub still_links : (s : Side) (old new : WorldState) → IsAsBefore s old new → EnoughLinks (half s old).state → EnoughLinks (half s new).state
still_links s old new b enough = (
  λ k most y there limit.
      let x = old_port (half s old).state.system_ports (half s new).state.system_ports k y b.numbers there in
      subst (λ (q : Party). ports_with q.key (half s new).state ≤ most) (sym (b.alike k x.0 y x.1 there).0)
      (subst (λ n. n ≤ most) (sym (same_ports_with s old new b x.0.port.party.key)) (enough.0 k most x.0 x.1 (sym b.limit ∙ limit))),
  still_used s old new b enough.1,
)

-- a port whose link is up ended a healthy cable before
pub still_heard : (Holds : LinkState → WorldState → Type 0) (s : Side) (old new : WorldState) → IsAsBefore s old new → AllHeard Holds old
    → (k : ℕ) (z : SystemPort) → slice_get (half s new).state.system_ports k ≡ Some z → z.port.enabled ≡ true → EndsHealthyCable Holds s z.number old
still_heard Holds s old new like heard k z there up = grind (arith, nat_tests, old_port, half)

-- the ports of a system name it

pub own_named : (s : SystemState) (k : ℕ) (x : SystemPort) → HasPorts s → Members (model_setup s) (model_view s).port
    → slice_get s.system_ports k ≡ Some x → x.port.party.system ≡ s.system
own_named s k x ports members there =
    let found = find_at number_of_port s.system_ports k x (are_numbered 0 s.system_ports (ports_rise s ports)) there in
    members.own x.number (model_port_of x) (ap (option_map model_port_of) found)

pub own_system : (s : SystemState) (k : ℕ) (x : SystemPort) → IsSound s → slice_get s.system_ports k ≡ Some x → x.port.party.system ≡ s.system
own_system s k x h there = own_named s k x h.ports h.members there

-- each place of a list

pub all_by_place : (P : SystemPort → Type 0) (xs : List SystemPort) → ((k : ℕ) (x : SystemPort) → slice_get xs k ≡ Some x → P x) → AllByRecursion P xs
all_by_place P [] h = tt
all_by_place P (x ∷ xs) h = (h zero x refl, all_by_place P xs (λ k y e. h (suc k) y e))

-- the ends of a healthy cable

pub ends_at : (i : ℕ) (l : LinkState) (j : WorldState) → IsHealthyAt i l j → Ends l j
ends_at i l j h s = end_of (λ p. p.enabled ≡ true) (port_at s l) (half s j).state (h.up s)
