-- Ports that know their partners find aggregators, also where there are fewer of them than ports of one group.
use Rattle.lagprogress.proofs.Common.{Bool, Some, ap, arith, false, inl, inr, not, refl, slice_get, subst, sym, true, ℕ, ◌&&◌, ◌∙◌, ◌≡◌, ◌≢◌, ◌⊎◌}
use Rattle.lagprogress.proofs.Common.{cases_Bool, nat_tests, AggId, Key, SystemId, Standby, Unselected, Party, group_of, individual, same_group}
use Rattle.lagprogress.proofs.Common.{group-itself, party_of, Side, peer, ReceiveState, PortDisabled, Machines, selected, receive_rows}
use Rattle.lagprogress.proofs.Common.{same_receive_state, RunsToRest, count_down, SystemPort, none_enabled, NoneHeld, SystemState, rests, all-get}
use Rattle.lagprogress.proofs.Common.{found_place, ports_rise, Algorithms, LinkState, WorldState, half, port_at, SharesGroup, StandsByFull}
use Rattle.lagprogress.proofs.Common.{WantsAggregator, EnabledKeep, no, times_keep, AtPort, at_number, mux_leaves, periodic_leaves, finds_aggregator}
use Rattle.lagprogress.proofs.Common.{shares_aggregator, AllHeard, EnoughAggregators, Clearing, PlayedRounds, EndKnows, Knows, AtEnd, IsHealthyAt}
use Rattle.lagprogress.proofs.Common.{OfPort, AreOneGroup, DownWereLinkedTo, HasAggregators, LeadToKey, IsSteady}
use Rattle.lagprogress.proofs.Choosing.{down_as_read}
use Rattle.lagprogress.proofs.EachRound.{EachAt, Passes, RoundKeeps, each_on, played_pass, same_on, steady_on}
use Rattle.lagprogress.proofs.Lasting.{IsAsBefore, ends_at, old_port, own_system, still_enough, still_heard, still_one, before_on, alike_on, Alike}
use Rattle.lagprogress.proofs.Lasting.{end_of}
use Rattle.lagprogress.proofs.Linked.{machines_there}

-- where no port is held, this one is not
pub none_held : (s : SystemState) (i : ℕ) (x : SystemPort) → NoneHeld s → slice_get s.system_ports i ≡ Some x → x.held ≡ false
none_held s i x h e = all-get (λ (y : SystemPort). y.held ≡ false) s.system_ports i x e h

-- each port of system s that wants an aggregator is SELECTED, or STANDBY with a full one
abbrev pub Finds : Side → WorldState → Type 0
Finds s j = (k : ℕ) (x : SystemPort) → slice_get (half s j).state.system_ports k ≡ Some x → WantsAggregator x.port
    → (selected x.port ≡ true) ⊎ StandsByFull (half s j).state x.port

pub enough_finds : (s : Side) (j : WorldState) → IsSteady j → EnoughAggregators (half s j).state → Finds s j
enough_finds s j steady enough k x there wants = grind (arith, nat_tests, finds_aggregator, half, none_held)

-- one group

same_is : (a b c d : Party) → group_of a b ≡ group_of c d → same_group (group_of a b) (group_of c d) ≡ true
same_is a b c d e = subst (λ x. same_group x (group_of c d) ≡ true) (sym e) (group-itself (group_of c d))

-- a port whose link is down keeps its partner, and stays UNSELECTED

abbrev pub Sleeps : Machines → Machines → Type 0
Sleeps x p = (p.enabled ≡ false) × (p.receive ≡ PortDisabled) × (party_of p.partner ≡ party_of x.partner)
    × (x.choice ≡ Unselected → p.choice ≡ Unselected)

not_from : (s r : ReceiveState) (b : Bool) → r ≡ PortDisabled → same_receive_state s PortDisabled ≡ false → (same_receive_state s r && b) ≡ true → ⊥
not_from s r b hyp1 hyp2 hyp3 = grind (arith, nat_tests, no, true)

not_others : (r : ReceiveState) (b : Bool) → r ≡ PortDisabled → (not (same_receive_state PortDisabled r) && b) ≡ true → ⊥
not_others r b e h = no (subst (λ q. (not (same_receive_state PortDisabled q) && b) ≡ true) e h)

not_up : (a up : Bool) → up ≡ false → (a && up) ≡ true → ⊥
not_up a up e h = grind (arith, nat_tests)

sleeping_rows : (x : Machines) → EnabledKeep (Sleeps x) receive_rows
sleeping_rows x = grind (arith, nat_tests, not_from, true, not_others, not, not_up)

pub standing : (agg : AggId) → Standby agg ≡ Unselected → ⊥
standing agg e = cc

pub sleeping_round : (n : ℕ) (x : Machines) → RoundKeeps (AtPort n (Sleeps x))
sleeping_round n x = record {
  settles = record {
    mux = λ m ready p q h a e. mux_leaves (Sleeps x) ready p q h (a e);
    periodic = λ m p q h a e. periodic_leaves (Sleeps x) p q h (a e);
    select = λ m choice p none may a e. (let y = a e in (
      y.0,
      y.1,
      y.2,
      λ u. absurd (elim may.0 [ inl up ↦ no (sym y.0 ∙ up.0) | inr s ↦ standing s.0 (sym s.1 ∙ y.3 u) ]),
    ));
  };
  sends = λ m p a e. a e;
  takes = λ m v p q h a e. (let y = a e in let r = down_as_read v p q y.0 h in (r.3 ∙ y.0, r.4 ∙ y.1, r.1 ∙ y.2, λ u. r.2 ∙ y.3 u));
}

pub sleeping_ticks : (n : ℕ) (x : Machines) (m : ℕ) (p q : Machines) → RunsToRest receive_rows (count_down p) q → AtPort n (Sleeps x) m p
    → AtPort n (Sleeps x) m q
sleeping_ticks n x m p q h a e = times_keep (Sleeps x) receive_rows (sleeping_rows x) h.0 (count_down p) q h.1 (a e)

pub is_disabled : (r : ReceiveState) (up : Bool) → up ≡ false → (not (same_receive_state PortDisabled r) && not up) ≡ false → r ≡ PortDisabled
is_disabled r up e h = grind (arith, nat_tests)

sleeps_on : (gives : Algorithms) (old new : WorldState) → IsSteady old → Passes gives old new → (s : Side) (k : ℕ) (x : SystemPort)
    → slice_get (half s old).state.system_ports k ≡ Some x → x.port.enabled ≡ false → EachAt (AtPort x.number (Sleeps x.port)) s new
sleeps_on gives old new steady h s k x there down = let st = (half s old).state in
    let rest = rests receive_rows x.port
    (all-get (λ (y : SystemPort). none_enabled receive_rows y.port ≡ true) st.system_ports k x there (steady s).0.rested.0) in
    each_on gives old new h (AtPort x.number (Sleeps x.port)) (sleeping_round x.number x.port) (sleeping_ticks x.number x.port) s
    (at_number (Sleeps x.port) 0 st.system_ports k x (ports_rise st (steady s).0.ports) there
    (down, is_disabled x.port.receive x.port.enabled down rest.1.0, refl, λ e. e))

-- after the rounds

-- what stays of both systems
pub record Lasted (old new : WorldState) : Type 0 where
  pub now : IsSteady new
  pub before : (s : Side) → IsAsBefore s old new
  pub alike : (s : Side) (k : ℕ) (x : SystemPort) → slice_get (half s old).state.system_ports k ≡ Some x → EachAt (AtPort x.number (Alike x.port)) s new
  pub system : (s : Side) → (half s new).state.system ≡ (half s old).state.system
  pub sleeps : (s : Side) (k : ℕ) (x : SystemPort) → slice_get (half s old).state.system_ports k ≡ Some x → x.port.enabled ≡ false
      → EachAt (AtPort x.number (Sleeps x.port)) s new

pub lasts_on : (gives : Algorithms) (old new : WorldState) → IsSteady old → Passes gives old new → Lasted old new
lasts_on gives old new steady h = record {
  now = steady_on gives old new h steady;
  before = before_on gives old new steady h;
  alike = alike_on gives old new steady h;
  system = same_on gives old new h SystemId (λ z. z.system) (λ z ports table. refl) (λ z table. refl) (λ z d. refl);
  sleeps = sleeps_on gives old new steady h;
}

pub played_lasted : (E : Clearing) (gives : Algorithms) (n : ℕ) (old new : WorldState) → IsSteady old → PlayedRounds E gives n old new → Lasted old new
played_lasted E gives n old new steady h = lasts_on gives old new steady (played_pass E gives n old new h)

module _ (old new : WorldState) (steady : IsSteady old) (last : Lasted old new) (Holds : LinkState → WorldState → Type 0) (heard : AllHeard Holds old)
    (knows : (i : ℕ) (l : LinkState) → IsHealthyAt i l old → (s : Side) → EndKnows s l new) where
  -- what the ports of one key have recorded
  record Linked (s : Side) (key far : Key) (p : Machines) : Type 0 where
    own : p.party.aggregatable ≡ true
    system : (party_of p.partner).system ≡ (half (peer s) new).state.system
    far_key : (party_of p.partner).key ≡ far
    partner : (party_of p.partner).aggregatable ≡ true

  kept : (s : Side) → (half s new).state.system ≡ (half s old).state.system
  kept = last.system

  up_linked : (s : Side) (key far : Key) → LeadToKey s key far old → (k : ℕ) (x : SystemPort)
      → slice_get (half s new).state.system_ports k ≡ Some x → x.port.enabled ≡ true → x.port.party.key ≡ key → Linked s key far x.port
  up_linked s key far lead k x there up is = let st = (half s new).state in
      let other = (half (peer s) new).state in
      let like = last.before in
      let it = still_heard Holds s old new (like s) heard k x there up in
      let l = it.link in
      let e = end_of (λ p. AtEnd (λ q. Knows p q) (peer s) l new) (port_at s l) st (knows it.index l it.healthy s) in
      let f = end_of (λ q. Knows e.1.port q) (port_at (peer s) l) other e.4 in
      let number : e.1.number ≡ x.number = found_place (port_at s l) st.system_ports e.0 e.1 e.2 e.3 ∙ it.joins in
      let same : e.1.port ≡ x.port = all-get (λ (z : SystemPort). AtPort x.number (λ p. p ≡ x.port) z.number z.port) st.system_ports e.0 e.1 e.3
      (at_number (λ p. p ≡ x.port) 0 st.system_ports k x (ports_rise st (last.now s).0.ports) there refl) number in
      let was = ends_at it.index l old it.healthy in
      let party_of_end = λ (t : Side) (i : ℕ) (z : SystemPort) (g : slice_get (half t new).state.system_ports i ≡ Some z)
      (m : z.number ≡ port_at t l). (all-get (λ (y : SystemPort). AtPort (was t).1.number (Alike (was t).1.port) y.number y.port)
      (half t new).state.system_ports i z g (last.alike t (was t).0 (was t).1 (was t).3)
      (m ∙ sym (found_place (port_at t l) (half t old).state.system_ports (was t).0 (was t).1 (was t).2 (was t).3))).0 in
      let mine : e.1.port.party ≡ (was s).1.port.party = party_of_end s e.0 e.1 e.3 (found_place (port_at s l) st.system_ports e.0 e.1 e.2 e.3) in
      let theirs : f.1.port.party ≡ (was (peer s)).1.port.party =
      party_of_end (peer s) f.0 f.1 f.3 (found_place (port_at (peer s) l) other.system_ports f.0 f.1 f.2 f.3) in
      let lead_here = subst (OfPort (λ p. p.party.key ≡ key → (p.party.aggregatable ≡ true)
      × AtEnd (λ q. (q.party.key ≡ far) × (q.party.aggregatable ≡ true)) (peer s) l old))
      (machines_there (port_at s l) (half s old).state (was s).0 (was s).1 (was s).2 (was s).3) (lead it.index l it.healthy) in
      let old_key : (was s).1.port.party.key ≡ key =
      sym (ap (λ (y : Party). y.key) mine) ∙ (ap (λ (y : Machines). y.party.key) same ∙ is) in
      let both = lead_here old_key in
      let far_end = subst (OfPort (λ q. (q.party.key ≡ far) × (q.party.aggregatable ≡ true)))
      (machines_there (port_at (peer s) l) (half (peer s) old).state (was (peer s)).0 (was (peer s)).1 (was (peer s)).2 (was (peer s)).3) both.1 in
      let named : party_of x.port.partner ≡ (was (peer s)).1.port.party =
      ap (λ (y : Machines). party_of y.partner) (sym same) ∙ (f.4.party ∙ theirs) in
      record {
        own = ap (λ (y : Machines). y.party.aggregatable) (sym same) ∙ (ap (λ (y : Party). y.aggregatable) mine ∙ both.0);
        system = ap (λ (y : Party). y.system) named
            ∙ (own_system (half (peer s) old).state (was (peer s)).0 (was (peer s)).1 (steady (peer s)).0 (was (peer s)).3 ∙ sym (kept (peer s)));
        far_key = ap (λ (y : Party). y.key) named ∙ far_end.0;
        partner = ap (λ (y : Party). y.aggregatable) named ∙ far_end.1;
      }

  down_linked : (s : Side) (key far : Key) → DownWereLinkedTo s key far old → (k : ℕ) (x : SystemPort) → slice_get (half s new).state.system_ports k ≡ Some x
      → x.port.enabled ≡ false → x.port.party.key ≡ key → x.port.choice ≢ Unselected → Linked s key far x.port
  down_linked s key far linked k x there down is chosen = let like = last.before s in
      let z = old_port (half s old).state.system_ports (half s new).state.system_ports k x like.numbers there in
      let alike = like.alike k z.0 x z.1 there in
      let was_down : z.0.port.enabled ≡ false = sym alike.1 ∙ down in
      let sleeps = all-get (λ (y : SystemPort). AtPort z.0.number (Sleeps z.0.port) y.number y.port) (half s new).state.system_ports k x there
      (last.sleeps s k z.0 z.1 was_down) z.2 in
      grind (arith, nat_tests, kept)

  -- so they are one group
  pub one_group : (s : Side) (key : Key) → AreOneGroup s key old → (k : ℕ) (x : SystemPort) → slice_get (half s new).state.system_ports k ≡ Some x
      → x.port.enabled ≡ true → x.port.party.key ≡ key → SharesGroup (half s new).state x
  one_group s key g k x there up is = record {
    together = together x.port.party (party_of x.port.partner) mine.own mine.partner;
    group = λ m y at same chosen. (let its = each m y at (same ∙ is) chosen in
        same_is y.port.party (party_of y.port.partner) x.port.party (party_of x.port.partner)
        (rw (
          (together y.port.party (party_of y.port.partner) its.own its.partner),
          (together x.port.party (party_of x.port.partner) mine.own mine.partner),
          (own_system (half s new).state m y (last.now s).0 at ∙ sym
              (own_system (half s new).state k x (last.now s).0 there)),
          same,
          (its.system ∙ sym mine.system),
          (its.far_key ∙ sym mine.far_key),
        ) refl));
  }
    where
      together : (a b : Party) → a.aggregatable ≡ true → b.aggregatable ≡ true → individual a b ≡ false
      together a b e f = rw (e, f) refl

      each : (m : ℕ) (y : SystemPort) → slice_get (half s new).state.system_ports m ≡ Some y → y.port.party.key ≡ key
          → y.port.choice ≢ Unselected → Linked s key g.far y.port
      each m y at same chosen = elim (cases_Bool y.port.enabled) [
        | inl u ↦ up_linked s key g.far g.up m y at u same
        | inr d ↦ down_linked s key g.far g.down m y at d same chosen
      ]

      mine : Linked s key g.far x.port
      mine = up_linked s key g.far g.up k x there up is

  pub shared_finds : ((s : Side) → HasAggregators s old) → (s : Side) → Finds s new
  shared_finds has s k x there wants = let st = (half s new).state in
      let like = last.before s in
      let z = old_port (half s old).state.system_ports st.system_ports k x like.numbers there in
      let alike = like.alike k z.0 x z.1 there in
      let key : x.port.party.key ≡ z.0.port.party.key = ap (λ (y : Party). y.key) alike.0 in
      let free = none_held st k x (last.now s).2 there in
      elim (has s k z.0 z.1 (sym alike.1 ∙ wants.up)) [
        | inl many ↦ finds_aggregator st k x (last.now s).0 there wants free (still_enough s old new like x.port.party.key z.0.port.party.key key many)
        | inr g ↦ shares_aggregator st k x (last.now s).0 there wants free (still_one s old new like x.port.party.key z.0.port.party.key key g.aggregator)
            (one_group s z.0.port.party.key g k x there wants.up key)
      ]
