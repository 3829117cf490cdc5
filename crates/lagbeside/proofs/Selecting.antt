-- Where each aggregator of a key has an occupant, there are fewer of them than ports of that key.
use Rattle.selection.specs.Limits.{is_in_use}
use Rattle.lagsystem.specs.StatusMeaning.{HasNoRoom}
use Rattle.lagbeside.proofs.Common.{Bool, List, None, Option, Some, [], ap, arith, cond, eqb-true, false, find, if◌then◌else◌, inl, inr, length}
use Rattle.lagbeside.proofs.Common.{nat_le, not, option_map, refl, slice_get, subst, suc, sym, true, zero, ℕ, ◌&&◌, ◌+◌, ◌==◌, ◌||◌, ◌∙◌, ◌∷◌, ◌≡◌}
use Rattle.lagbeside.proofs.Common.{◌≤◌, ◌⊎◌, and_parts, cases_Bool, nat_tests, none-some, same_Some, enumerate_from, list_all, list_any, AggId, Key}
use Rattle.lagbeside.proofs.Common.{Choice, Selected, Standby, Unselected, is_selected, is_unselected, same_system, exact_system, itself, MuxState}
use Rattle.lagbeside.proofs.Common.{Attached, CollectingDistributing, Waiting, ReceiveState, Current, Defaulted, same_mux_state, same_receive_state}
use Rattle.lagbeside.proofs.Common.{PortView, aggregator_of_entry, chosen_if_eligible, has_group_of, has_no_occupant, has_occupant, is_aggregator}
use Rattle.lagbeside.proofs.Common.{lowest, occupants, occupants_share_group, or_else, ports_that_chose, has_room, is_below, is_detached, is_eligible}
use Rattle.lagbeside.proofs.Common.{occupies, stands_by, SystemPort, key_of, MuxIsSettled, OccupantsAgree, WithinLimit, occupied, IsSound}
use Rattle.lagbeside.proofs.Common.{SystemState, aggregators_value, may_choose, selection_view, stage_of, views, all-get, ports_rise}
use Rattle.lagbeside.proofs.Common.{SharesGroup, StandsByFull, WantsAggregator, aggregators_with, ports_with}
use Rattle.lagtypes.specs.Group.{individual}
use Rattle.selection.proofs.LimitLemmas.{NoneStandsBy, none_is_next}
use Rattle.lagsystem.proofs.NoneLeft.{takes_is}
use Rattle.lagbeside.proofs.Counting.{count, counted, count_less_of, count_more_of}

-- the number of the aggregator that a port occupies; aggregators are numbered from 1
abbrev place : Choice → ℕ
place Unselected = 0
place (Selected agg) = agg.0
place (Standby agg) = agg.0

-- the port has this key, and occupies an aggregator with at least this number
abbrev is_from : ℕ → ℕ → SystemPort → Bool
is_from k first x = (x.port.party.key.0 == k) && nat_le first (place x.port.choice)

from_less : (k first next : ℕ) (c n : ℕ) → first ≤ next → ((n == k) && nat_le next c) ≡ true → ((n == k) && nat_le first c) ≡ true
from_less k first next c n l h = grind (arith, nat_tests)

from_here : (k first c n : ℕ) → n ≡ k → c ≡ first → ((n == k) && nat_le first c) ≡ true
from_here k first c n e l = grind (arith, nat_tests)

not_from : (k first c n : ℕ) → c ≡ first → ((n == k) && nat_le (first + 1) c) ≡ false
not_from k first c n l = grind (arith, nat_tests)

-- some port with this key occupies the aggregator with this number
record Occupied (k : ℕ) (ports : List SystemPort) (agg : ℕ) : Type 0 where
  index : ℕ
  port : SystemPort
  there : slice_get ports index ≡ Some port
  key : port.port.party.key.0 ≡ k
  number : place port.port.choice ≡ agg

-- so it is with each aggregator of this key
abbrev AllOccupied : ℕ → List SystemPort → ℕ → List Key → Type 0
AllOccupied k ports first [] = Unit {0}
AllOccupied k ports first (key ∷ keys) = ((key.0 == k) ≡ true → Occupied k ports first) × AllOccupied k ports (first + 1) keys

one_enough : (b : Bool) (n next now : ℕ) → n ≤ next → next ≤ now → (b ≡ true → next + 1 ≤ now) → cond b (suc n) n ≤ now
one_enough b n next now h l k = grind (arith, nat_tests)

enough : (k : ℕ) (ports : List SystemPort) (first : ℕ) (keys : List Key) → AllOccupied k ports first keys
    → count (λ (key : Key). key.0 == k) keys ≤ count (is_from k first) ports
enough k ports first [] h = omega arith
enough k ports first (key ∷ keys) h = let wider : (x : SystemPort) → is_from k (first + 1) x ≡ true → is_from k first x ≡ true =
    λ x. from_less k first (first + 1) (place x.port.choice) x.port.party.key.0 (omega arith) in
    one_enough (key.0 == k) (count (λ (key : Key). key.0 == k) keys) (count (is_from k (first + 1)) ports) (count (is_from k
    first) ports)
    (enough k ports (first + 1) keys h.1) (count_less_of (is_from k (first + 1)) (is_from k first) ports (λ j x g. wider x))
    (λ e. let o = h.0 e in
    count_more_of (is_from k (first + 1)) (is_from k first) ports (λ j x g. wider x) o.index o.port o.there
    (not_from k first (place o.port.port.choice) o.port.port.party.key.0 o.number)
    (from_here k first (place o.port.port.choice) o.port.port.party.key.0 o.key o.number))

-- who occupies an aggregator

pub occupies_is : (agg : AggId) (c : Choice) → occupies agg c ≡ true → (occupied c ≡ Some agg.0) × (place c ≡ agg.0)
occupies_is agg c h = grind (arith, nat_tests)

abbrev pub Somebody : AggId → List SystemPort → Type 0
Somebody agg ports = (i : ℕ) × (x : SystemPort) × (slice_get ports i ≡ Some x) × (occupies agg x.port.choice ≡ true)

somebody_of : (agg : AggId) (b : Bool) (x : SystemPort) (xs : List SystemPort) → occupies agg x.port.choice ≡ b
    → (b || list_any (λ w. occupies agg w.choice) (views xs)) ≡ true
    → (list_any (λ w. occupies agg w.choice) (views xs) ≡ true → Somebody agg xs) → Somebody agg (x ∷ xs)
somebody_of agg true x xs e h k = (0, x, refl, e)
somebody_of agg false x xs e h k = let r = k h in (suc r.0, r.1, r.2, r.3)

pub somebody : (agg : AggId) (ports : List SystemPort) → list_any (λ w. occupies agg w.choice) (views ports) ≡ true → Somebody agg ports
somebody agg [] h = absurd cc
somebody agg (x ∷ xs) h = somebody_of agg (occupies agg x.port.choice) x xs refl h (somebody agg xs)

pub passed : (b : Bool) (x : ℕ × Key) (o : Option (ℕ × Key)) → cond b (Some x) o ≡ None → (b ≡ false) × (o ≡ None)
passed b x o h = grind (arith, nat_tests)

has_one : (a b : Bool) → a ≡ true → (a && not b) ≡ false → b ≡ true
has_one a b e h = grind (arith, nat_tests)

-- each aggregator of the key has an occupant with the key, if none is found without one
all_occupied : (keys : List Key) (ports : List SystemPort) (k first : ℕ) (rest : List Key) → OccupantsAgree keys ports
    → ((j : ℕ) (key : Key) → slice_get rest j ≡ Some key → key_of keys (first + j) ≡ Some key)
    → find (λ (row : ℕ × Key). (row.1.0 == k) && has_no_occupant (views ports) (aggregator_of_entry row)) (enumerate_from first rest) ≡ None
    → AllOccupied k ports first rest
all_occupied keys ports k first [] a at h = tt
all_occupied keys ports k first (key ∷ rest) a at h = let agg : AggId = record { 0 = first } in
    let both = passed ((key.0 == k) && has_no_occupant (views ports) agg) (first, key)
    (find (λ (row : ℕ × Key). (row.1.0 == k) && has_no_occupant (views ports) (aggregator_of_entry row)) (enumerate_from (first +
    1) rest)) h in (
      λ e.
          let o = somebody agg ports (has_one (key.0 == k) (list_any (λ w. occupies agg w.choice) (views ports)) e both.0) in
          let is = occupies_is agg o.1.port.choice o.3 in
          let here : key_of keys first ≡ Some key = subst (λ n. key_of keys n ≡ Some key) (omega arith) (at 0 key refl) in
          let same : key ≡ o.1.port.party.key = same_Some key o.1.port.party.key (sym here ∙ a.key o.0 first o.1 o.2 is.0) in
          record { index = o.0; port = o.1; there = o.2; key = sym (ap (λ (y : Key). y.0) same) ∙ eqb-true key.0 k e; number = is.1 },
      all_occupied keys ports k (first + 1) rest a (λ j y e. subst (λ n. key_of keys n ≡ Some y) (omega arith) (at (suc j) y e))
          both.1,
    )

-- an UNSELECTED port that wants an aggregator is eligible

is_detached_at : (m : MuxState) (w : ℕ) (c : Choice) (z : Bool) → is_unselected c ≡ true → (same_mux_state Waiting m && is_unselected c) ≡ false
    → (same_mux_state Attached m && not (is_selected c)) ≡ false → (same_mux_state CollectingDistributing m && (not (is_selected c) || z)) ≡ false
    → is_detached (stage_of m w) ≡ true
is_detached_at m w c z u a b d = grind (arith, nat_tests)

is_known : (r : ReceiveState) → (r ≡ Current) ⊎ (r ≡ Defaulted) → (same_receive_state Current r || same_receive_state Defaulted r) ≡ true
is_known r h = elim h [ inl e ↦ rw e refl | inr e ↦ rw e refl ]

all_five : (a b c d e : Bool) → a ≡ true → b ≡ true → c ≡ true → d ≡ true → e ≡ false → ((((a && b) && c) && d) && not e) ≡ true
all_five a b c d e f g h i j = rw (f, g, h, i, j) refl

pub eligible : (s : SystemState) (i : ℕ) (x : SystemPort) → IsSound s → slice_get s.system_ports i ≡ Some x → WantsAggregator x.port
    → is_unselected x.port.choice ≡ true → is_eligible (selection_view x) ≡ true
eligible s i x h e w u = grind (arith, nat_tests, all-get, same_system, all_five, same_receive_state, is_detached, stage_of, is_unselected, is_known, is_detached_at, cases_Bool, exact_system)

-- what it finds

pub when_is : (b c : Bool) (o : Option AggId) → b ≡ true → c ≡ true → (if b then (if c then o else None) else None) ≡ None → o ≡ None
when_is b c o e f h = grind (arith, nat_tests)

free_may : (b h : Bool) → b ≡ true → h ≡ false → (b && not h) ≡ true
free_may b h e f = rw (e, f) refl

first_none : (a b : Option AggId) → or_else a b ≡ None → a ≡ None
first_none a b h = grind (arith, nat_tests)

second_none : (a b : Option AggId) → or_else a b ≡ None → b ≡ None
second_none a b h = grind (arith, nat_tests)

pub no_entry : (o : Option (ℕ × Key)) → option_map aggregator_of_entry o ≡ None → o ≡ None
no_entry o h = grind (arith, nat_tests)

unselected_at : (c : Choice) → is_unselected c ≡ true → place c ≡ 0
unselected_at c u = grind (arith, nat_tests)

from_any : (k c n : ℕ) → ((n == k) && nat_le 1 c) ≡ true → (n == k) ≡ true
from_any k c n h = (and_parts (n == k) (nat_le 1 c) h).0

not_first : (k c n : ℕ) → c ≡ 0 → ((n == k) && nat_le 1 c) ≡ false
not_first k c n e = grind (arith, nat_tests)

crowded : (m n : ℕ) → m ≤ n → n + 1 ≤ m → ⊥
crowded m n a b = omega (arith, a, b)

from_first : (keys : List Key) (j : ℕ) (key : Key) → slice_get keys j ≡ Some key → key_of keys (1 + j) ≡ Some key
from_first keys j key g = grind (arith, nat_tests)

-- an UNSELECTED port that wants an aggregator, and is not held, finds none, since the system has settled
finds_none : (s : SystemState) (i : ℕ) (x : SystemPort) → IsSound s → slice_get s.system_ports i ≡ Some x → WantsAggregator x.port
    → x.held ≡ false → is_unselected x.port.choice ≡ true → chosen_if_eligible s.keys (views s.system_ports) (selection_view x) ≡ None
finds_none s i x h e w free u = let v = selection_view x in
    let settled = all-get (MuxIsSettled s.keys s.system_ports) s.system_ports i x e h.quiet.0 in
    let able = eligible s i x h e w u in
    when_is (may_choose x) (is_eligible v) (chosen_if_eligible s.keys (views s.system_ports) v) (free_may (is_eligible v) x.held able free) able
    (sym (takes_is s.keys s.system_ports i x (ports_rise s h.ports) e) ∙ settled.apart)

never_unselected : (s : SystemState) (i : ℕ) (x : SystemPort) → IsSound s → slice_get s.system_ports i ≡ Some x → WantsAggregator x.port → x.held ≡ false
    → ports_with x.port.party.key s ≤ aggregators_with x.port.party.key s → is_unselected x.port.choice ≡ true → ⊥
never_unselected s i x h e w free many u = let k = x.port.party.key.0 in
    let v = selection_view x in
    let seen = views s.system_ports in
    let none = finds_none s i x h e w free u in
    let without : find (λ (row : ℕ × Key). (row.1.0 == k) && has_no_occupant seen (aggregator_of_entry row)) (enumerate_from 1
    s.keys) ≡ None =
    no_entry _ (second_none (lowest s.keys x.port.party.key (occupants_share_group seen v)) _ none) in
    let full = enough k s.system_ports 1 s.keys (all_occupied s.keys s.system_ports k 1 s.keys h.occupants
    (λ j key g. from_first s.keys j key g) without) in
    let least = count_more_of (is_from k 1) (λ (y : SystemPort). y.port.party.key.0 == k) s.system_ports
    (λ j y g. from_any k (place y.port.choice) y.port.party.key.0) i x e
    (not_first k (place x.port.choice) k (unselected_at x.port.choice u)) (itself k) in
    crowded (count (λ (y : SystemPort). y.port.party.key.0 == k) s.system_ports) (count (is_from k 1) s.system_ports)
    (omega (arith, full, many, counted (λ (y : SystemPort). y.port.party.key.0 == k) s.system_ports, counted (λ (y : Key). y.0 == k) s.keys)) least

-- a STANDBY port waits for room

pub clash : {A : Type 0} (b : Bool) → b ≡ true → b ≡ false → A
clash b t f = let e : true ≡ false = sym t ∙ f in absurd cc

pub stands : (agg : AggId) (c : Choice) → c ≡ Standby agg → stands_by agg c ≡ true
stands agg c e = rw e (itself agg.0)

pub seen_stands : (agg : AggId) (ports : List SystemPort) (i : ℕ) (x : SystemPort) → slice_get ports i ≡ Some x
    → NoneStandsBy agg (views ports) → stands_by agg x.port.choice ≡ false
seen_stands agg [] i x e h = absurd (none-some x e)
seen_stands agg (y ∷ ys) zero x e h = ap (λ (z : SystemPort). stands_by agg z.port.choice) (sym (same_Some y x e)) ∙ h.0
seen_stands agg (y ∷ ys) (suc i) x e h = seen_stands agg ys i x e h.1

within : (keys : List Key) (i : ℕ) (key : Key) → slice_get keys i ≡ Some key → (suc i) ≤ length keys
within [] i key e = absurd (none-some key e)
within (k ∷ ks) zero key e = omega arith
within (k ∷ ks) (suc i) key e = omega (arith, within ks i key e)

pub known_number : (keys : List Key) (n : ℕ) (key : Key) → key_of keys n ≡ Some key → (nat_le 1 n && nat_le n (length keys)) ≡ true
known_number keys n key e = grind (arith, nat_tests, none-some, within)

full_of : (max_links : Option ℕ) (n : ℕ) → is_below max_links n ≡ false
    → ((most : ℕ) → max_links ≡ Some most → n ≤ most) → (most : ℕ) × (max_links ≡ Some most) × (n ≡ most)
full_of max_links n h w = grind (arith, nat_tests)

no_room_of : (known used below : Bool) → known ≡ true → ((known && used) && below) ≡ false → (used ≡ false) ⊎ (below ≡ false)
no_room_of known used below k h = grind (arith, nat_tests)

at_most : (max_links : Option ℕ) (agg : AggId) (ports : List SystemPort) → WithinLimit max_links (views ports) → (most : ℕ)
    → max_links ≡ Some most → length (ports_that_chose agg (views ports)) ≤ most
at_most max_links agg ports w most e = grind (arith, nat_tests)

pub waits_for_room : (s : SystemState) (i : ℕ) (x : SystemPort) (agg : AggId) → IsSound s → slice_get s.system_ports i ≡ Some x
    → x.port.choice ≡ Standby agg → HasNoRoom s agg
waits_for_room s i x agg h e c = let key = h.occupants.key i agg.0 x e (ap occupied c) in
    let known : is_aggregator s.keys agg ≡ true = known_number s.keys agg.0 x.port.party.key key in
    let room : has_room (aggregators_value s) (views s.system_ports) agg ≡ false =
    elim (none_is_next (aggregators_value s) (views s.system_ports) agg (h.promoted agg)) [
      | inl r ↦ r
      | inr n ↦ clash (stands_by agg x.port.choice) (stands agg x.port.choice c) (seen_stands agg s.system_ports i x e n)
    ] in
    let n = length (ports_that_chose agg (views s.system_ports)) in
    elim (no_room_of (is_aggregator s.keys agg) (is_in_use s.in_use agg) (is_below s.max_links n) known room) [
      | inl unused ↦ inl unused
      | inr full ↦ inr (full_of s.max_links n full (at_most s.max_links agg s.system_ports h.limited))
    ]

selected_or_stands : (s : SystemState) (i : ℕ) (x : SystemPort) (c : Choice) → x.port.choice ≡ c → IsSound s
    → slice_get s.system_ports i ≡ Some x → (is_unselected c ≡ true → ⊥) → (is_selected c ≡ true) ⊎ StandsByFull s x.port
selected_or_stands s i x Unselected e h g k = absurd (k refl)
selected_or_stands s i x (Selected agg) e h g k = inl refl
selected_or_stands s i x (Standby agg) e h g k = inr (agg, e, waits_for_room s i x agg h g e)

-- ports that share one group find the aggregator of another

existing : (k : ℕ) (keys : List Key) → 1 ≤ count (λ (key : Key). key.0 == k) keys
    → (j : ℕ) × (key : Key) × (slice_get keys j ≡ Some key) × ((key.0 == k) ≡ true)
existing k [] h = absurd (omega (arith, h))
existing k (key ∷ keys) h = elim (cases_Bool (key.0 == k)) [
  | inl t ↦ (zero, key, refl, t)
  | inr f ↦ (let n = count (λ (y : Key). y.0 == k) keys in
      let r = existing k keys (subst (λ b. 1 ≤ cond b (suc n) n) f h) in (suc r.0, r.1, r.2, r.3))
]

none_at : (test : ℕ × Key → Bool) (first : ℕ) (keys : List Key) → find test (enumerate_from first keys) ≡ None → (j : ℕ) (key : Key)
    → slice_get keys j ≡ Some key → test (first + j, key) ≡ false
none_at test first [] h j key e = absurd (none-some key e)
none_at test first (y ∷ ys) h zero key e = grind (arith, nat_tests)
none_at test first (y ∷ ys) h (suc j) key e =
    let both = passed (test (first, y)) (first, y) (find test (enumerate_from (first + 1) ys)) h in
    let there : first + 1 + j ≡ first + suc j = omega arith in
    subst (λ n. test (n, key) ≡ false) there (none_at test (first + 1) ys both.1 j key e)

kept_all : (test : PortView → Bool) (b : Bool) (w : PortView) (rest : List PortView) → (b ≡ true → test w ≡ true)
    → list_all test rest ≡ true → list_all test (cond b (w ∷ rest) rest) ≡ true
kept_all test b w rest h k = grind (arith, nat_tests)

share_all : (v : PortView) (agg : AggId) (ports : List SystemPort)
    → ((j : ℕ) (y : SystemPort) → slice_get ports j ≡ Some y → occupies agg y.port.choice ≡ true → has_group_of v (selection_view y) ≡ true)
    → list_all (has_group_of v) (occupants agg (views ports)) ≡ true
share_all v agg [] h = refl
share_all v agg (y ∷ ys) h = kept_all (has_group_of v) (occupies agg y.port.choice) (selection_view y) (occupants agg (views ys))
    (h zero y refl) (share_all v agg ys (λ j z e. h (suc j) z e))

none_share : (b alone some all : Bool) → b ≡ true → alone ≡ false → some ≡ true → all ≡ true → (b && ((not alone && some) && all)) ≡ false → ⊥
none_share b alone some all e f g h k = grind (arith, nat_tests)

not_unselected : (agg : AggId) (c : Choice) → occupies agg c ≡ true → c ≡ Unselected → ⊥
not_unselected agg c h e = grind (arith, nat_tests)

always_shares : (s : SystemState) (i : ℕ) (x : SystemPort) → IsSound s → slice_get s.system_ports i ≡ Some x → WantsAggregator x.port
    → x.held ≡ false → 1 ≤ aggregators_with x.port.party.key s → SharesGroup s x → is_unselected x.port.choice ≡ true → ⊥
always_shares s i x h e w free one shares u = let k = x.port.party.key.0 in
    let v = selection_view x in
    let seen = views s.system_ports in
    let none = finds_none s i x h e w free u in
    let first = no_entry _ (first_none (lowest s.keys x.port.party.key (occupants_share_group seen v)) _ none) in
    let second = no_entry _ (second_none (lowest s.keys x.port.party.key (occupants_share_group seen v)) _ none) in
    let some = existing k s.keys (omega (arith, one, counted (λ (y : Key). y.0 == k) s.keys)) in
    let agg : AggId = record { 0 = 1 + some.0 } in
    let occupied_here = has_one (some.1.0 == k) (has_occupant seen agg) some.3
    (none_at (λ (row : ℕ × Key). (row.1.0 == k) && has_no_occupant seen (aggregator_of_entry row)) 1 s.keys second some.0 some.1 some.2) in
    let key : some.1 ≡ x.port.party.key = same_key some.1 x.port.party.key some.3 in
    let group : (j : ℕ) (y : SystemPort) → slice_get s.system_ports j ≡ Some y → occupies agg y.port.choice ≡ true
    → has_group_of v (selection_view y) ≡ true = λ j y f o. shares.group j y f
    (same_Some y.port.party.key x.port.party.key (sym (h.occupants.key j agg.0 y f (occupies_is agg y.port.choice o).0)
    ∙ (from_first s.keys some.0 some.1 some.2 ∙ ap (λ (q : Key). Some q) key)))
    (not_unselected agg y.port.choice o) in
    none_share (some.1.0 == k) (individual v.party v.partner) (has_occupant seen agg)
    (list_all (has_group_of v) (occupants agg seen)) some.3 shares.together occupied_here (share_all v agg s.system_ports group)
    (none_at (λ (row : ℕ × Key). (row.1.0 == k) && occupants_share_group seen v (aggregator_of_entry row)) 1 s.keys first some.0 some.1 some.2)
  where
    same_key : (a b : Key) → (a.0 == b.0) ≡ true → a ≡ b
    same_key a b t = ap (λ n. record { 0 = n }) (eqb-true a.0 b.0 t)

pub shares_aggregator : (s : SystemState) (i : ℕ) (x : SystemPort) → IsSound s → slice_get s.system_ports i ≡ Some x → WantsAggregator x.port → x.held ≡ false
    → 1 ≤ aggregators_with x.port.party.key s → SharesGroup s x → (is_selected x.port.choice ≡ true) ⊎ StandsByFull s x.port
shares_aggregator s i x h e w free one shares =
    selected_or_stands s i x x.port.choice refl h e (always_shares s i x h e w free one shares)

pub finds_aggregator : (s : SystemState) (i : ℕ) (x : SystemPort) → IsSound s → slice_get s.system_ports i ≡ Some x → WantsAggregator x.port → x.held ≡ false
    → ports_with x.port.party.key s ≤ aggregators_with x.port.party.key s → (is_selected x.port.choice ≡ true) ⊎ StandsByFull s x.port
finds_aggregator s i x h e w free many = selected_or_stands s i x x.port.choice refl h e (never_unselected s i x h e w free many)
