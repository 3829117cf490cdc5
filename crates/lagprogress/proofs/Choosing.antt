-- Selected stays what it is in a bundle, once each end knows its partner.
use Rattle.selection.specs.Limits.{is_in_use}
use Rattle.lagprogress.proofs.Common.{Bool, List, None, Some, [], ap, arith, false, if◌then◌else◌, inl, inr, length, not, option_map, refl, slice_get}
use Rattle.lagprogress.proofs.Common.{slice_set, subst, suc, sym, true, zero, ℕ, ◌&&◌, ◌||◌, ◌∙◌, ◌∷◌, ◌≡◌, ◌⊎◌, and_parts, nat_tests, none-some}
use Rattle.lagprogress.proofs.Common.{same_Some, AllByRecursion, list_all, AggId, Key, Choice, Party, is_unselected, system-itself, Lacpdu, party_of}
use Rattle.lagprogress.proofs.Common.{ReceiveState, Current, Defaulted, Machines, mux_rows, RunsPeriodic, lacpdu_rows, receive_rows}
use Rattle.lagprogress.proofs.Common.{same_receive_state, AtRest, RunsToRest, count_down, PortView, chosen_if_eligible, has_group_of, has_no_occupant}
use Rattle.lagprogress.proofs.Common.{has_occupant, is_aggregator, lowest, occupants, occupants_share_group, or_else, ports_that_chose, is_below}
use Rattle.lagprogress.proofs.Common.{is_eligible, stands_by, SystemPort, ProcessesLacpdu, can_receive, can_receive_in, MuxIsSettled, ChoosesIn}
use Rattle.lagprogress.proofs.Common.{PortsChangeBy, PromotesNext, Settling, choice_for, choice_in, ready_of, with_choice, IsSound, SystemState}
use Rattle.lagprogress.proofs.Common.{aggregators_value, port_numbers, may_choose, selection_view, views, next_stands, takes_is, choices_keep}
use Rattle.lagprogress.proofs.Common.{promotions_keep, last_slots, Rises, all-get, ports_rise, set_same, HasRecorded, WantsAggregator, OfEach}
use Rattle.lagprogress.proofs.Common.{zip_kept, no, recorded, rests_still, AtPort, mux_leaves, periodic_leaves, clash, eligible, seen_stands, stands}
use Rattle.lagprogress.proofs.Common.{when_is, fires_keep}
use Rattle.selection.proofs.LimitLemmas.{is_next, none_is_next}
use Rattle.lagprogress.proofs.Lasting.{all_by_place}
use Rattle.lagprogress.proofs.Climbing.{keeps_selected}
use Rattle.lagprogress.proofs.EndFacts.{SameActor}

-- A settling gives no port another value of Selected where what the Selection Logic reads is as it was at rest.

-- the second is read as the first, and may choose only if that may
pub record SameView (x y : SystemPort) : Type 0 where
  pub number : y.number ≡ x.number
  pub party : y.port.party ≡ x.port.party
  pub partner : party_of y.port.partner ≡ party_of x.port.partner
  pub choice : y.port.choice ≡ x.port.choice
  pub may : may_choose y ≡ true → may_choose x ≡ true

abbrev pub SameSeen : List SystemPort → List SystemPort → Type 0
SameSeen [] [] = Unit {0}
SameSeen (x ∷ xs) (y ∷ ys) = SameView x y × SameSeen xs ys
SameSeen xs ys = ⊥

pub same_at : (xs ys : List SystemPort) (k : ℕ) (y : SystemPort) → SameSeen xs ys → slice_get ys k ≡ Some y
    → (x : SystemPort) × (slice_get xs k ≡ Some x) × SameView x y
same_at (x ∷ xs) (z ∷ ys) zero y h e = (x, refl, subst (SameView x) (same_Some z y e) h.0)
same_at (x ∷ xs) (z ∷ ys) (suc k) y h e = same_at xs ys k y h.1 e
same_at xs [] k y h e = absurd (none-some y e)
same_at xs ys k y h e = absurd h

same_numbers : (xs ys : List SystemPort) → SameSeen xs ys → port_numbers ys ≡ port_numbers xs
same_numbers [] [] h = refl
same_numbers (x ∷ xs) (y ∷ ys) h = ap (λ n. n ∷ port_numbers ys) h.0.number ∙ ap (λ ns. x.number ∷ ns) (same_numbers xs ys h.1)
same_numbers xs ys h = absurd h

same_occupied : (agg : AggId) (xs ys : List SystemPort) → SameSeen xs ys → has_occupant (views ys) agg ≡ has_occupant (views xs) agg
same_occupied agg [] [] h = refl
same_occupied agg (x ∷ xs) (y ∷ ys) h = grind (arith, nat_tests, same_occupied agg xs ys h.1)
same_occupied agg xs ys h = absurd h

same_members : (agg : AggId) (xs ys : List SystemPort) → SameSeen xs ys → length (ports_that_chose agg (views ys)) ≡ length (ports_that_chose agg (views xs))
same_members agg [] [] h = refl
same_members agg (x ∷ xs) (y ∷ ys) h = grind (arith, nat_tests, same_members agg xs ys h.1)
same_members agg xs ys h = absurd h

same_groups : (agg : AggId) (v u : PortView) (xs ys : List SystemPort) → u.party ≡ v.party → u.partner ≡ v.partner → SameSeen xs ys
    → list_all (has_group_of u) (occupants agg (views ys)) ≡ list_all (has_group_of v) (occupants agg (views xs))
same_groups agg v u [] [] p q h = refl
same_groups agg v u (x ∷ xs) (y ∷ ys) p q h = grind (arith, nat_tests, same_groups agg v u xs ys p q h.1)
same_groups agg v u xs ys p q h = absurd h

same_share : (v u : PortView) (xs ys : List SystemPort) → u.party ≡ v.party → u.partner ≡ v.partner → SameSeen xs ys → (agg : AggId)
    → occupants_share_group (views ys) u agg ≡ occupants_share_group (views xs) v agg
same_share v u xs ys p q h agg = grind (arith, nat_tests, same_occupied, same_groups)

same_chosen : (keys : List Key) (v u : PortView) (xs ys : List SystemPort) → u.party ≡ v.party → u.partner ≡ v.partner → SameSeen xs ys
    → chosen_if_eligible keys (views ys) u ≡ chosen_if_eligible keys (views xs) v
same_chosen keys v u xs ys p q h =
    ap (λ (a : Party). or_else (lowest keys a.key (occupants_share_group (views ys) u)) (lowest keys a.key (has_no_occupant (views ys)))) p
    ∙ (ap (λ (t : AggId → Bool). or_else (lowest keys v.party.key t) (lowest keys v.party.key (has_no_occupant (views ys))))
    (λ i agg. same_share v u xs ys p q h agg i)
    ∙ ap (λ (t : AggId → Bool). or_else (lowest keys v.party.key (occupants_share_group (views xs) v)) (lowest keys v.party.key t))
    (λ i agg. ap not (same_occupied agg xs ys h) i))

-- a port that chose nothing at rest chooses nothing
none_chooses : (s : SystemState) (ys : List SystemPort) (k : ℕ) (y : SystemPort) → IsSound s → SameSeen s.system_ports ys
    → slice_get ys k ≡ Some y → choice_for (aggregators_value s) ys y ≡ None
none_chooses s ys k y h same e =
    ap (option_map (choice_in (aggregators_value s) (views ys))) (takes_is s.keys ys k y rises e ∙ by_test (may_choose y) (is_eligible (selection_view y)) refl)
  where
    rises : Rises 0 (port_numbers ys)
    rises = subst (Rises 0) (sym (same_numbers s.system_ports ys same)) (ports_rise s h.ports)

    none : may_choose y ≡ true → chosen_if_eligible s.keys (views ys) (selection_view y) ≡ None
    none able = let x = same_at s.system_ports ys k y same e in
        let settled = all-get (MuxIsSettled s.keys s.system_ports) s.system_ports k x.0 x.1 h.quiet.0 in
        same_chosen s.keys (selection_view x.0) (selection_view y) s.system_ports ys x.2.party x.2.partner same
        ∙ when_is (may_choose x.0) (is_eligible (selection_view x.0)) (chosen_if_eligible s.keys (views s.system_ports) (selection_view x.0))
        (x.2.may able) (and_parts (is_eligible (selection_view x.0)) (not x.0.held) (x.2.may able)).0
        (sym (takes_is s.keys s.system_ports k x.0 (ports_rise s h.ports) x.1) ∙ settled.apart)

    by_test : (b c : Bool) → may_choose y ≡ b → (if b then (if c then chosen_if_eligible s.keys (views ys) (selection_view y) else None) else None) ≡ None
    by_test true true able = none able
    by_test true false able = refl
    by_test false c able = refl

-- and none is promoted
none_promoted : (s : SystemState) (agg : AggId) (l m : List SystemPort) → IsSound s → SameSeen s.system_ports l → PromotesNext (aggregators_value s) agg l m → ⊥
none_promoted s agg l m h same p = let n = is_next (aggregators_value s) (views l) agg p.0 p.2 in
    let x = same_at s.system_ports l p.0 p.1 same p.3 in
    let stand = next_stands (aggregators_value s) agg l m p in
    elim (none_is_next (aggregators_value s) (views s.system_ports) agg (h.promoted agg)) [
      | inl full ↦ no (sym full ∙ (sym (ap (λ c. (is_aggregator s.keys agg && is_in_use s.in_use agg) && is_below s.max_links c) (same_members agg s.system_ports l same))
          ∙ n.room))
      | inr none ↦ clash (has_choice x.0) (stands agg x.0.port.choice (sym x.2.choice ∙ stand)) (seen_stands agg s.system_ports p.0 x.0 x.1 none)
    ]
  where
    has_choice : SystemPort → Bool
    has_choice x = stands_by agg x.port.choice

pub nothing_chosen : (s : SystemState) (one two : List SystemPort) → IsSound s → SameSeen s.system_ports one
    → ChoosesIn (aggregators_value s) one two → SameSeen s.system_ports two
nothing_chosen s one two h same c = let aggs = aggregators_value s in
    let P = SameSeen s.system_ports in
    subst P (sym c.2) (choices_keep aggs P
    (λ l i t e p. subst P (sym (ap (λ o. slice_set l i (with_choice t o)) (none_chooses s l i t h p e) ∙ set_same l i t e)) p)
    (length c.0) c.0
    (promotions_keep aggs P (λ agg l m x p. absurd (none_promoted s agg l m h p x)) (length aggs.keys) one c.0 c.1 same))

-- the machines are as they were, in what the Selection Logic reads of them but for the mux machine
abbrev pub AsRead : Machines → Machines → Type 0
AsRead x y = (y.party ≡ x.party) × (party_of y.partner ≡ party_of x.partner) × (y.choice ≡ x.choice) × (y.enabled ≡ x.enabled)
    × (y.receive ≡ x.receive)

pub as_read : (x : Machines) → AsRead x x
as_read x = (refl, refl, refl, refl, refl)

-- so it is with each port of a list
abbrev pub AllAsRead : List SystemPort → List SystemPort → Type 0
AllAsRead [] [] = Unit {0}
AllAsRead (x ∷ xs) (y ∷ ys) = ((y.number ≡ x.number) × (y.held ≡ x.held) × AsRead x.port y.port) × AllAsRead xs ys
AllAsRead xs ys = ⊥

pub all_as_read : (xs : List SystemPort) → AllAsRead xs xs
all_as_read [] = tt
all_as_read (x ∷ xs) = ((refl, refl, as_read x.port), all_as_read xs)

pub one_as_read : (xs : List SystemPort) (i : ℕ) (x : SystemPort) (p : Machines) → slice_get xs i ≡ Some x → AsRead x.port p
    → AllAsRead xs (slice_set xs i (record x { port = p }))
one_as_read [] i x p e h = absurd (none-some x e)
one_as_read (y ∷ ys) zero x p e h = grind (arith, nat_tests, all_as_read)
one_as_read (y ∷ ys) (suc i) x p e h = ((refl, refl, as_read y.port), one_as_read ys i x p e h)

pub zip_as_read : (R : Machines → Machines → Type 0) (xs ys : List SystemPort)
    → AllByRecursion (λ (x : SystemPort). (q : Machines) → R x.port q → AsRead x.port q) xs → PortsChangeBy R xs ys → AllAsRead xs ys
zip_as_read R [] [] k h = tt
zip_as_read R (x ∷ xs) (y ∷ ys) k h = (
  (ap (λ (z : SystemPort). z.number) h.0.0, ap (λ (z : SystemPort). z.held) h.0.0, k.0 y.port h.0.1),
  zip_as_read R xs ys k.1 h.1,
)
zip_as_read R xs ys k h = absurd h

-- a port at rest that wants an aggregator and is UNSELECTED is eligible
abbrev Able : SystemPort → Type 0
Able x = WantsAggregator x.port → is_unselected x.port.choice ≡ true → is_eligible (selection_view x) ≡ true

known_state : (r : ReceiveState) → (same_receive_state Current r || same_receive_state Defaulted r) ≡ true → (r ≡ Current) ⊎ (r ≡ Defaulted)
known_state r h = grind (arith, nat_tests)

five_parts : (a b c d e : Bool) → ((((a && b) && c) && d) && not e) ≡ true → (a ≡ true) × (b ≡ true) × (d ≡ true) × (e ≡ false)
five_parts a b c d e h = grind (arith, nat_tests)

eligible_before : (x z : SystemPort) → Able x → AsRead x.port z.port → is_eligible (selection_view z) ≡ true → is_eligible (selection_view x) ≡ true
eligible_before x z able a h = grind (arith, nat_tests, five_parts, known_state, no, system-itself)

both_so : (a b : Bool) → a ≡ true → b ≡ true → (a && b) ≡ true
both_so a b e f = rw (e, f) refl

may_before : (x z : SystemPort) → Able x → AsRead x.port z.port → z.held ≡ x.held → may_choose z ≡ true → may_choose x ≡ true
may_before x z able a held h = grind (arith, nat_tests, and_parts, is_eligible, selection_view, not, both_so, eligible_before)

-- step 1 of a settling
one_seen : (xs ys zs : List SystemPort) → AllByRecursion Able xs → AllAsRead xs ys → PortsChangeBy (RunsToRest (mux_rows false)) ys zs → SameSeen xs zs
one_seen [] [] [] k a h = tt
one_seen [] [] (z ∷ zs) k a h = absurd h
one_seen [] (y ∷ ys) zs k a h = absurd a
one_seen (x ∷ xs) [] zs k a h = absurd a
one_seen (x ∷ xs) (y ∷ ys) [] k a h = absurd h
one_seen (x ∷ xs) (y ∷ ys) (z ∷ zs) k a h = let b = mux_leaves (AsRead x.port) false y.port z.port h.0.1 a.0.2 in (
  record {
    number = ap (λ (q : SystemPort). q.number) h.0.0 ∙ a.0.0;
    party = b.0;
    partner = b.1;
    choice = b.2;
    may = may_before x z k.0 b (ap (λ (q : SystemPort). q.held) h.0.0 ∙ a.0.1);
  },
  one_seen xs ys zs k.1 a.1 h.1,
)

-- the port with this number has this value of Selected
abbrev pub Chose : ℕ → Choice → ℕ → Machines → Type 0
Chose n c = AtPort n (λ p. p.choice ≡ c)

seen_choice : (n : ℕ) (c : Choice) (xs ys : List SystemPort) → SameSeen xs ys → OfEach (Chose n c) xs → OfEach (Chose n c) ys
seen_choice n c [] [] h a = tt
seen_choice n c (x ∷ xs) (y ∷ ys) h a = (λ e. h.0.choice ∙ a.0 (sym h.0.number ∙ e), seen_choice n c xs ys h.1 a.1)
seen_choice n c xs ys h a = absurd h

-- a settling that begins so
pub settles_choice : (s mid new : SystemState) → IsSound s → AllAsRead s.system_ports mid.system_ports → aggregators_value mid ≡ aggregators_value s
    → Settling mid new → (n : ℕ) (c : Choice) → OfEach (Chose n c) s.system_ports → OfEach (Chose n c) new.system_ports
settles_choice s mid new h read aggs k n c a = let one = k.0 in
    let two = k.2.0 in
    let three = k.2.2.0 in
    let four = k.2.2.2.0 in
    let five = k.2.2.2.2.0 in
    let able = all_by_place Able s.system_ports (λ i x e. eligible s i x h e) in
    let first = one_seen s.system_ports mid.system_ports one.system_ports able read k.1.0 in
    let second = nothing_chosen s one.system_ports two.system_ports h first
    (subst (λ g. ChoosesIn g one.system_ports two.system_ports) (ap aggregators_value k.1.1 ∙ aggs) k.2.1.0) in
    let a2 = seen_choice n c s.system_ports two.system_ports second a in
    let a3 : OfEach (Chose n c) three.system_ports = subst (λ (t : SystemState). OfEach (Chose n c) t.system_ports) (sym k.2.2.1) a2 in
    let ready = λ (p : Machines). ready_of three.keys (views three.system_ports) p.choice in
    let a4 : OfEach (Chose n c) four.system_ports = zip_kept (λ p q. RunsToRest (mux_rows (ready p)) p q) (Chose n c) (Chose n c)
    (λ m p q r b e. mux_leaves (λ p. p.choice ≡ c) (ready p) p q r (b e))
    three.system_ports four.system_ports k.2.2.2.1.0 a3 in
    let a5 : OfEach (Chose n c) five.system_ports = zip_kept RunsPeriodic (Chose n c) (Chose n c)
    (λ m p q r b e. periodic_leaves (λ p. p.choice ≡ c) p q r (b e))
    four.system_ports five.system_ports k.2.2.2.2.1.0 a4 in
    subst (OfEach (Chose n c)) (sym (last_slots mid new k)) a5

-- what changes the machines before it

-- an LACPDU of the partner that is recorded
pub takes_as_read : (u x : Lacpdu) (p q : Machines) → p.enabled ≡ true → SameActor x u → HasRecorded u p → ProcessesLacpdu x p q → AsRead p q
takes_as_read u x p q up e known h =
    let awake : can_receive p ≡ true = ap (λ b. if b then can_receive_in p.receive else true) up ∙ ap can_receive_in known.current in
    let r = (recorded x p q up awake h).1.0 in
    let fixed : (q.party ≡ p.party) × (q.enabled ≡ p.enabled) = elim h [
      | inl f ↦ fires_keep (λ r. (r.party ≡ p.party) × (r.enabled ≡ p.enabled)) (lacpdu_rows x) (λ r a. a, tt) p q f (refl, refl)
      | inr s ↦ (ap (λ (r : Machines). r.party) s.1, ap (λ (r : Machines). r.enabled) s.1)
    ] in
    (fixed.0, r.party ∙ (e.0 ∙ sym known.party), (keeps_selected u x p q e known h).0, fixed.1, r.current ∙ sym known.current)

-- an LACPDU at a port whose link is down
pub down_as_read : (x : Lacpdu) (p q : Machines) → p.enabled ≡ false → ProcessesLacpdu x p q → AsRead p q
down_as_read x p q down h = elim h [
  | inl f ↦ elim f [ inl g ↦ absurd (awake _ p.enabled down g.0) | inr g ↦ absurd g ]
  | inr r ↦ subst (AsRead p) (sym r.1) (as_read p)
]
  where
    awake : (a e : Bool) → e ≡ false → (a && e) ≡ true → ⊥
    awake true e f g = no (sym f ∙ g)
    awake false e f g = no g

-- a tick leaves the receive machine of a port whose link is down
pub down_still : (p q : Machines) → p.enabled ≡ false → AtRest receive_rows p → RunsToRest receive_rows (count_down p) q → q ≡ count_down p
down_still p q hyp1 hyp2 hyp3 = grind (arith, nat_tests, rests_still, false, not, no)
