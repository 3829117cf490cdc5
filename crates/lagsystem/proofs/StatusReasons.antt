-- Why the Selection Logic finds no aggregator or no room for a port, and for what a SELECTED port waits.
use Rattle.selection.specs.Limits.{is_in_use}
use Rattle.lagsystem.proofs.Common.{Bool, List, None, Option, Some, [], ap, arith, cond, false, filter, find, if◌then◌else◌, inl, inr, length, nat_le}
use Rattle.lagsystem.proofs.Common.{nat_lt, not, option_map, refl, slice_get, subst, suc, sym, true, zero, ℕ, ◌&&◌, ◌+◌, ◌<◌, ◌==◌, ◌||◌, ◌∙◌, ◌∷◌}
use Rattle.lagsystem.proofs.Common.{◌≡◌, ◌≤◌, ◌⊎◌, not-false, true≢false, nat_tests, none-some, same_Some, enumerate_from, list_all, list_any, AggId}
use Rattle.lagsystem.proofs.Common.{Key, Choice, Selected, Standby, Unselected, is_selected, is_unselected, same_system, itself, MuxState, Attached}
use Rattle.lagsystem.proofs.Common.{CollectingDistributing, Detached, Waiting, Current, Defaulted, partner_synchronized, same_mux_state, selected}
use Rattle.lagsystem.proofs.Common.{same_receive_state, PortView, aggregator_of_entry, chosen_aggregator, chosen_if_eligible, has_no_occupant}
use Rattle.lagsystem.proofs.Common.{has_occupant, is_aggregator, lowest, occupants_share_group, or_else, ports_that_chose, has_room, is_below}
use Rattle.lagsystem.proofs.Common.{is_ready, has_chosen, has_waited, is_detached, is_detached_or_waiting, is_eligible, stands_by, NoneStandsBy}
use Rattle.lagsystem.proofs.Common.{none_is_next, SystemPort, key_of, MuxIsSettled, WithinLimit, occupied, aggregator_numbered, ready_of, IsSound}
use Rattle.lagsystem.proofs.Common.{SystemState, aggregators_value, FindsNoAggregator, FindsNoRoom, HearsPartner, Waits, WaitsForMember}
use Rattle.lagsystem.proofs.Common.{WaitsForPartner, WaitsIn, may_choose, selection_view, stage_of, views}
use Rattle.lagsystem.proofs.NoneLeft.{takes_is}
use Rattle.lagsystem.proofs.Rising.{all-get, ports_rise}

-- a port of a sound system that hears its partner, is not held, and does not distribute
pub record Heard (s : SystemState) (i : ℕ) (x : SystemPort) : Type 0 where
  pub sound : IsSound s
  pub at : slice_get s.system_ports i ≡ Some x
  pub idle : same_mux_state CollectingDistributing x.port.mux ≡ false
  pub hears : HearsPartner x.port
  pub free : x.held ≡ false

-- what no aggregator passes

passed : (b : Bool) (x : ℕ × Key) (o : Option (ℕ × Key)) → cond b (Some x) o ≡ None → (b ≡ false) × (o ≡ None)
passed b x o h = grind (arith, nat_tests)

fails : (a b : Bool) → a ≡ true → (a && b) ≡ false → b ≡ false
fails a b e h = grind (arith, nat_tests)

none_from : (first : ℕ) (keys : List Key) (key : Key) (test : AggId → Bool)
    → find (λ (row : ℕ × Key). (row.1.0 == key.0) && test (aggregator_of_entry row)) (enumerate_from first keys) ≡ None
    → (j : ℕ) → slice_get keys j ≡ Some key → test (aggregator_numbered (first + j)) ≡ false
none_from first [] key test h j e = absurd (none-some key e)
none_from first (k ∷ ks) key test h zero e = grind (arith, nat_tests)
none_from first (k ∷ ks) key test h (suc j) e = let both = passed ((k.0 == key.0) && test (aggregator_numbered first)) (first, k)
    (find (λ (row : ℕ × Key). (row.1.0 == key.0) && test (aggregator_of_entry row)) (enumerate_from (first + 1) ks)) h in
    let next : (first + 1) + j ≡ first + suc j = omega arith in
    subst (λ n. test (aggregator_numbered n) ≡ false) next (none_from (first + 1) ks key test both.1 j e)

no_entry : (o : Option (ℕ × Key)) → option_map aggregator_of_entry o ≡ None → o ≡ None
no_entry o h = grind (arith, nat_tests)

none_passes : (keys : List Key) (key : Key) (test : AggId → Bool) → lowest keys key test ≡ None → (g : ℕ) → key_of keys g ≡ Some key
    → test (aggregator_numbered g) ≡ false
none_passes keys key test h g e = grind (arith, nat_tests, none-some, none_from, no_entry)

first_none : (a b : Option AggId) → or_else a b ≡ None → (a ≡ None) × (b ≡ None)
first_none a b h = grind (arith, nat_tests)

-- a port that is UNSELECTED and hears its partner is eligible

detached_at : (m : MuxState) (ticks : ℕ) (c : Choice) (z : Bool) → c ≡ Unselected → (same_mux_state Waiting m && is_unselected c) ≡ false
    → (same_mux_state Attached m && not (is_selected c)) ≡ false
    → (same_mux_state CollectingDistributing m && (not (is_selected c) || z)) ≡ false → is_detached (stage_of m ticks) ≡ true
detached_at m ticks c z u a b d = grind (arith, nat_tests)

all_five : (a b c d e : Bool) → a ≡ true → b ≡ true → c ≡ true → d ≡ true → e ≡ false → ((((a && b) && c) && d) && not e) ≡ true
all_five a b c d e f g h i j = rw (f, g, h, i, j) refl

settled_at : (s : SystemState) (i : ℕ) (x : SystemPort) → IsSound s → slice_get s.system_ports i ≡ Some x → MuxIsSettled s.keys s.system_ports x
settled_at s i x h at = all-get (MuxIsSettled s.keys s.system_ports) s.system_ports i x at h.quiet.0

is_chosen : (b d : Bool) (o : Option AggId) → b ≡ true → d ≡ false → (if b && not d then (if b then o else None) else None) ≡ None → o ≡ None
is_chosen b d o e f h = grind (arith, nat_tests)

none_if : (b : Bool) (o : Option AggId) → b ≡ true → (if b then o else None) ≡ None → o ≡ None
none_if b o e h = grind (arith, nat_tests)

pub finds_no_aggregator : (s : SystemState) (i : ℕ) (x : SystemPort) → Heard s i x
    → same_system x.port.partner.system x.port.party.system ≡ false → x.port.choice ≡ Unselected → FindsNoAggregator s x
finds_no_aggregator s i x l other free = let p = x.port in
    let v = selection_view x in
    let seen = views s.system_ports in
    let h = l.sound in
    let at = l.at in
    let settled = settled_at s i x h at in
    let eligible : is_eligible v ≡ true =
    all_five p.enabled (same_receive_state Current p.receive || same_receive_state Defaulted p.receive)
    (is_detached (stage_of p.mux p.wait_while)) (is_unselected p.choice) (same_system p.partner.system p.party.system) l.hears.0
    (ap (λ r. same_receive_state Current r || same_receive_state Defaulted r) l.hears.1)
    (detached_at p.mux p.wait_while p.choice _ free settled.mux.1.0 settled.mux.1.1.1.0 settled.mux.1.1.1.1.1.0) (ap is_unselected free) other in
    let nothing : chosen_if_eligible s.keys seen v ≡ None = is_chosen (is_eligible v) x.held
    (chosen_if_eligible s.keys seen v) eligible l.free (sym (takes_is s.keys s.system_ports i x (ports_rise s h.ports) at) ∙ settled.apart) in
    let may : may_choose x ≡ true = λ i. eligible i && not (l.free i) in
    let both = first_none (lowest s.keys p.party.key (occupants_share_group seen v)) (lowest s.keys p.party.key (has_no_occupant seen)) nothing in
    record {
      hears = l.hears;
      eligible = may;
      none = none_if (may_choose x) (chosen_aggregator s.keys seen x.number) may settled.apart;
      occupied = λ agg key. not-false (has_occupant seen agg) (none_passes s.keys p.party.key (has_no_occupant seen) both.1 agg.0 key);
      closed = λ agg key. none_passes s.keys p.party.key (occupants_share_group seen v) both.0 agg.0 key;
    }

-- a STANDBY port finds no room

within : (keys : List Key) (i : ℕ) (key : Key) → slice_get keys i ≡ Some key → (suc i) ≤ length keys
within [] i key e = absurd (none-some key e)
within (k ∷ ks) zero key e = omega arith
within (k ∷ ks) (suc i) key e = omega (arith, within ks i key e)

known_number : (keys : List Key) (n : ℕ) (key : Key) → key_of keys n ≡ Some key → (nat_le 1 n && nat_le n (length keys)) ≡ true
known_number keys n key e = grind (arith, nat_tests, none-some, within)

stood_by : (agg : AggId) (ports : List SystemPort) (i : ℕ) (x : SystemPort) → slice_get ports i ≡ Some x → NoneStandsBy agg (views ports)
    → stands_by agg x.port.choice ≡ false
stood_by agg [] i x e h = absurd (none-some x e)
stood_by agg (y ∷ ys) zero x e h = ap (λ (z : SystemPort). stands_by agg z.port.choice) (sym (same_Some y x e)) ∙ h.0
stood_by agg (y ∷ ys) (suc i) x e h = stood_by agg ys i x e h.1

full_of : (max_links : Option ℕ) (n : ℕ) → is_below max_links n ≡ false
    → ((most : ℕ) → max_links ≡ Some most → n ≤ most) → (most : ℕ) × (max_links ≡ Some most) × (n ≡ most)
full_of max_links n h w = grind (arith, nat_tests)

no_room_of : (known used below : Bool) → known ≡ true → ((known && used) && below) ≡ false → (used ≡ false) ⊎ (below ≡ false)
no_room_of known used below k h = grind (arith, nat_tests)

at_most : (max_links : Option ℕ) (agg : AggId) (ports : List SystemPort) → WithinLimit max_links (views ports) → (most : ℕ)
    → max_links ≡ Some most → length (ports_that_chose agg (views ports)) ≤ most
at_most max_links agg ports w most e = grind (arith, nat_tests)

pub finds_no_room : (agg : AggId) (s : SystemState) (i : ℕ) (x : SystemPort) → Heard s i x → x.port.choice ≡ Standby agg → FindsNoRoom agg s x
finds_no_room agg s i x l stands = let p = x.port in
    let h = l.sound in
    let at = l.at in
    let known : is_aggregator s.keys agg ≡ true =
    known_number s.keys agg.0 p.party.key (h.occupants.key i agg.0 x at (ap occupied stands)) in
    let room : has_room (aggregators_value s) (views s.system_ports) agg ≡ false =
    elim (none_is_next (aggregators_value s) (views s.system_ports) agg (h.promoted agg)) [
      | inl r ↦ r
      | inr n ↦ absurd (true≢false (sym (ap (stands_by agg) stands ∙ itself agg.0) ∙ stood_by agg s.system_ports i x at n))
    ] in
    let n = length (ports_that_chose agg (views s.system_ports)) in
    record {
      hears = l.hears;
      chosen = stands;
      room = elim (no_room_of (is_aggregator s.keys agg) (is_in_use s.in_use agg) (is_below s.max_links n) known room) [
        | inl unused ↦ inl unused
        | inr full ↦ inr (full_of s.max_links n full (at_most s.max_links agg s.system_ports h.limited))
      ];
    }

-- a SELECTED port waits

mux_attached : (m : MuxState) → same_mux_state Attached m ≡ true → m ≡ Attached
mux_attached m h = grind (arith, nat_tests)

mux_waiting : (m : MuxState) (c : Choice) (agg : AggId) → c ≡ Selected agg → same_mux_state CollectingDistributing m ≡ false
    → same_mux_state Attached m ≡ false → (same_mux_state Detached m && not (is_unselected c)) ≡ false → m ≡ Waiting
mux_waiting m c agg e d a h = grind (arith, nat_tests)

third_false : (a b c : Bool) → a ≡ true → b ≡ true → (a && (b && c)) ≡ false → c ≡ false
third_false a b c e f h = fails b c f (fails a (b && c) e h)

above : (n : ℕ) → nat_lt 0 n ≡ true → 0 < n
above n h = grind (arith, nat_tests)

not_above : (n : ℕ) → nat_lt 0 n ≡ false → n ≡ 0
not_above n h = grind (arith, nat_tests)

pub waits_for_partner : (agg : AggId) (s : SystemState) (i : ℕ) (x : SystemPort) → Heard s i x → x.port.choice ≡ Selected agg
    → same_mux_state Attached x.port.mux ≡ true → WaitsForPartner s x
waits_for_partner agg s i x l chosen there = let p = x.port in
    let settled = settled_at s i x l.sound l.at in
    grind (arith, nat_tests, is_selected, mux_attached, third_false, same_mux_state, selected, partner_synchronized)

waits_in : (agg : AggId) (s : SystemState) (i : ℕ) (x : SystemPort) → Heard s i x → x.port.choice ≡ Selected agg
    → same_mux_state Attached x.port.mux ≡ false → WaitsIn agg x.port.wait_while x
waits_in agg s i x l chosen early = record {
  chosen = chosen;
  mux = mux_waiting x.port.mux x.port.choice agg chosen l.idle early (settled_at s i x l.sound l.at).mux.0;
  wait_while = refl;
}

pub waits : (agg : AggId) (s : SystemState) (i : ℕ) (x : SystemPort) → Heard s i x → x.port.choice ≡ Selected agg
    → same_mux_state Attached x.port.mux ≡ false → nat_lt 0 x.port.wait_while ≡ true → Waits x.port.wait_while s x
waits agg s i x l chosen early runs = record {
  hears = l.hears;
  agg = agg;
  waits = waits_in agg s i x l chosen early;
  runs = above x.port.wait_while runs;
}

-- an aggregator that is not Ready has a member that waits

abbrev still : PortView → Bool
still v = is_detached_or_waiting v.stage

abbrev has_waited_in : List PortView → Bool
has_waited_in seen = list_all (λ v. has_waited v.stage) (filter still seen)

one_of : (b d w : Bool) (v : PortView) (rest : List PortView) → still v ≡ d → has_waited v.stage ≡ w
    → has_waited_in (cond b (v ∷ rest) rest) ≡ false → ((b ≡ true) × (d ≡ true) × (w ≡ false)) ⊎ (has_waited_in rest ≡ false)
one_of b d w v rest e f h = grind (arith, nat_tests)

-- a member at this index that is in DETACHED or WAITING, and has not waited
record HasNotWaited (agg : AggId) (ports : List SystemPort) : Type 0 where
  index : ℕ
  port : SystemPort
  there : slice_get ports index ≡ Some port
  member : has_chosen agg port.port.choice ≡ true
  stays : is_detached_or_waiting (stage_of port.port.mux port.port.wait_while) ≡ true
  early : has_waited (stage_of port.port.mux port.port.wait_while) ≡ false

one_has_not : (agg : AggId) (ports : List SystemPort) → has_waited_in (ports_that_chose agg (views ports)) ≡ false → HasNotWaited agg ports
one_has_not agg [] h = absurd (true≢false h)
one_has_not agg (y ∷ ys) h = let v = selection_view y in
    elim (one_of (has_chosen agg y.port.choice) (still v) (has_waited v.stage) v (ports_that_chose agg (views ys)) refl refl h) [
      | inl o ↦ record { index = 0; port = y; there = refl; member = o.0; stays = o.1; early = o.2 }
      | inr r ↦ (let o = one_has_not agg ys r in
          record { index = suc o.index; port = o.port; there = o.there; member = o.member; stays = o.stays; early = o.early })
    ]

any_of : (b d : Bool) (v : PortView) (rest : List PortView) → still v ≡ d → (b ≡ true) × (d ≡ true) ⊎ (list_any still rest ≡ true)
    → list_any still (cond b (v ∷ rest) rest) ≡ true
any_of b d v rest e h = grind (arith, nat_tests)

any_here : (agg : AggId) (ports : List SystemPort) (i : ℕ) (x : SystemPort) → slice_get ports i ≡ Some x → has_chosen agg x.port.choice ≡ true
    → is_detached_or_waiting (stage_of x.port.mux x.port.wait_while) ≡ true → list_any still (ports_that_chose agg (views ports)) ≡ true
any_here agg [] i x at m w = absurd (none-some x at)
any_here agg (y ∷ ys) zero x at m w = grind (arith, nat_tests)
any_here agg (y ∷ ys) (suc i) x at m w = grind (arith, nat_tests, any_here agg ys i x at m w)

given_is : (agg : AggId) (c : Choice) → has_chosen agg c ≡ true → c ≡ Selected agg
given_is agg c h = grind (arith, nat_tests)

still_waits : (m : MuxState) (ticks : ℕ) (c : Choice) (agg : AggId) → c ≡ Selected agg → is_detached_or_waiting (stage_of m ticks) ≡ true
    → has_waited (stage_of m ticks) ≡ false → (same_mux_state Detached m && not (is_unselected c)) ≡ false → (m ≡ Waiting) × (0 < ticks)
still_waits m ticks c agg e s w h = grind (arith, nat_tests)

stays_at : (m : MuxState) (ticks : ℕ) → m ≡ Waiting → is_detached_or_waiting (stage_of m ticks) ≡ true
stays_at m ticks e = ap (λ x. is_detached_or_waiting (stage_of x ticks)) e

not_all : (known any all : Bool) (seen : List PortView) → known ≡ true → list_any still seen ≡ true
    → (list_any still (if known then seen else []) && has_waited_in (if known then seen else [])) ≡ false → has_waited_in seen ≡ false
not_all known any all seen k e h = grind (arith, nat_tests)

pub waits_for_member : (agg : AggId) (s : SystemState) (i : ℕ) (x : SystemPort) → Heard s i x → x.port.choice ≡ Selected agg
    → same_mux_state Attached x.port.mux ≡ false → nat_lt 0 x.port.wait_while ≡ false → WaitsForMember s x
waits_for_member agg s i x l chosen early waited = let p = x.port in
    let h = l.sound in
    let at = l.at in
    let settled = settled_at s i x h at in
    let waiting = waits_in agg s i x l chosen early in
    let known : is_aggregator s.keys agg ≡ true =
    known_number s.keys agg.0 p.party.key (h.occupants.key i agg.0 x at (ap occupied chosen)) in
    let unready : is_ready s.keys (views s.system_ports) agg ≡ false =
    sym (ap (ready_of s.keys (views s.system_ports)) chosen) ∙ settled.unready in
    let any = any_here agg s.system_ports i x at (ap (has_chosen agg) chosen ∙ itself agg.0) (stays_at p.mux p.wait_while waiting.mux) in
    let o = one_has_not agg s.system_ports
    (not_all (is_aggregator s.keys agg) true true (ports_that_chose agg (views s.system_ports)) known any unready) in
    let there = settled_at s o.index o.port h o.there in
    let member = given_is agg o.port.port.choice o.member in
    let runs = still_waits o.port.port.mux o.port.port.wait_while o.port.port.choice agg member o.stays o.early there.mux.0 in
    record {
      hears = l.hears;
      agg = agg;
      waited = record { chosen = chosen; mux = waiting.mux; wait_while = not_above p.wait_while waited };
      index = o.index;
      other = o.port;
      there = o.there;
      ticks = o.port.port.wait_while;
      waits = record { chosen = member; mux = runs.0; wait_while = refl };
      runs = runs.1;
    }
