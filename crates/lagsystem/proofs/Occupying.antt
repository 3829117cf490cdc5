-- The occupants of an aggregator keep its key and one group: no call changes what an occupant is seen as, but that it leaves.
use Rattle.lagsystem.proofs.Common.{All, Bool, List, None, Option, Some, [], ap, arith, false, if◌then◌else◌, inl, inr, refl, slice_get, slice_set}
use Rattle.lagsystem.proofs.Common.{subst, suc, sym, true, zero, ℕ, ◌-◌, ◌<◌, ◌∙◌, ◌∷◌, ◌≡◌, ◌≢◌, ◌⊎◌, nat_tests, none-some, same_Some}
use Rattle.lagsystem.proofs.Common.{AllByRecursion, AggId, Key, Choice, Selected, Standby, Unselected, Party, StateBits, SamePair, individual}
use Rattle.lagsystem.proofs.Common.{same_party, bits_of, with_synchronization, with_timeout, exact_party, encode_then_decode, Info, Lacpdu, party_of}
use Rattle.lagsystem.proofs.Common.{group_sym, individual_along, Machines, mux_rows, RunsPeriodic, periodic_rows, default_partner, lacpdu_rows}
use Rattle.lagsystem.proofs.Common.{receive_rows, recorded_synchronization, start_receive, Row, RunsToRest, Starts, after_sending, count_down}
use Rattle.lagsystem.proofs.Common.{EachRelates, Fires-relates, Rests-relates, Seen, IsOccupant, MayJoin, ends, PortChange, SystemPort, ChangesParty}
use Rattle.lagsystem.proofs.Common.{PortAtChangesBy, ProcessesLacpdu, SetsPortEnabled, changed_party, choice_with_link, key_of, OccupantsAgree}
use Rattle.lagsystem.proofs.Common.{occupied, PortsChangeBy, with_choice, selection_view, views}
use Rattle.lagsystem.proofs.Effects.{named}

-- a port that becomes UNSELECTED, or keeps Selected and both parties
abbrev pub LeavesOrStays : Machines → Machines → Type 0
LeavesOrStays p q = (q.choice ≡ Unselected)
    ⊎ ((q.choice ≡ p.choice) × (q.party ≡ p.party) × (party_of q.partner ≡ party_of p.partner))

pub stays : (p : Machines) → LeavesOrStays p p
stays p = inr (refl, refl, refl)

pub both_stay : (p q r : Machines) → LeavesOrStays p q → LeavesOrStays q r → LeavesOrStays p r
both_stay p q r h k = grind (arith, nat_tests)

-- rows

abbrev RowsStay : List Row → Type 0
RowsStay rows = EachRelates LeavesOrStays rows

runs_stay : (rows : List Row) → RowsStay rows → (p q : Machines) → RunsToRest rows p q → LeavesOrStays p q
runs_stay = Rests-relates LeavesOrStays (record { same = λ p q e. subst (LeavesOrStays p) (sym e) (stays p); both = both_stay })

-- the party of a partner whose Synchronization or Timeout is set
synchronization_set : (b : Bool) (info : Info) → party_of (record info { state = with_synchronization b info.state }) ≡ party_of info
synchronization_set b info = ap (named info) (encode_then_decode (record (bits_of info.state) { synchronization = b }))

expired_set : (info : Info) → party_of (record info { state = with_timeout true (with_synchronization false info.state) }) ≡ party_of info
expired_set info =
    ap (named info) (encode_then_decode (record (bits_of (with_synchronization false info.state)) { timeout = true }))
    ∙ ap (λ (b : StateBits). named info (record b { timeout = true }))
    (encode_then_decode (record (bits_of info.state) { synchronization = false }))

-- Selected stays only where the partner's party does
unless_same : (b : Bool) (c : Choice) (own was now : Party) → (b ≡ true → now ≡ was)
    → ((if b then c else Unselected) ≡ Unselected) ⊎ (((if b then c else Unselected) ≡ c) × (own ≡ own) × (now ≡ was))
unless_same b c own was now h = grind (arith, nat_tests)

receive_rows_stay : RowsStay receive_rows
receive_rows_stay = (
  λ p up. inr (refl, refl, synchronization_set false p.partner),
  (
    λ p up. inr (refl, refl, synchronization_set false p.partner),
    (
      λ p up. inr (refl, refl, expired_set p.partner),
      (
        λ p up. unless_same (same_party (party_of default_partner) (party_of p.partner)) p.choice p.party (party_of p.partner)
            (party_of default_partner) (exact_party (party_of default_partner) (party_of p.partner)),
        (λ p up. inr (refl, refl, expired_set p.partner), tt),
      ),
    ),
  ),
)

pub receive_stays : (p q : Machines) → RunsToRest receive_rows p q → LeavesOrStays p q
receive_stays p q h = runs_stay receive_rows receive_rows_stay p q h

lacpdu_rows_stay : (v : Lacpdu) → RowsStay (lacpdu_rows v)
lacpdu_rows_stay v = (
  λ p up.
      let t = recorded_synchronization v p in
      unless_same (same_party (party_of v.actor) (party_of p.partner)) p.choice p.party (party_of p.partner)
      (party_of (record v.actor { state = with_synchronization t v.actor.state }))
      (λ e. synchronization_set t v.actor ∙ exact_party (party_of v.actor) (party_of p.partner) e),
  tt,
)

mux_rows_stay : (ready : Bool) → RowsStay (mux_rows ready)
mux_rows_stay ready = grind (arith, nat_tests)

pub mux_stays : (ready : Bool) (p q : Machines) → RunsToRest (mux_rows ready) p q → LeavesOrStays p q
mux_stays ready p q h = runs_stay (mux_rows ready) (mux_rows_stay ready) p q h

periodic_rows_stay : RowsStay periodic_rows
periodic_rows_stay = grind (arith, nat_tests)

pub periodic_stays : (p q : Machines) → RunsPeriodic p q → LeavesOrStays p q
periodic_stays p q h = subst (LeavesOrStays p) (sym h.2) (runs_stay periodic_rows periodic_rows_stay p h.0 h.1)

-- the own effects of the calls

pub tick_stays : (p q : Machines) → RunsToRest receive_rows (count_down p) q → LeavesOrStays p q
tick_stays p q h = both_stay p (count_down p) q (stays p) (receive_stays (count_down p) q h)

link_set : (max_links : Option ℕ) (up : Bool) (p : Machines) → LeavesOrStays p (record p { enabled = up; choice = choice_with_link max_links up p.choice })
link_set max_links up p = grind (arith, nat_tests)

pub link_stays : (max_links : Option ℕ) (up : Bool) (p q : Machines) → SetsPortEnabled max_links up p q → LeavesOrStays p q
link_stays max_links up p q h = let mid : Machines = record p { enabled = up; choice = choice_with_link max_links up p.choice } in
    both_stay p mid q (link_set max_links up p) (receive_stays mid q h)

pub taking_stays : (v : Lacpdu) (p q : Machines) → ProcessesLacpdu v p q → LeavesOrStays p q
taking_stays v p q h = elim h [
  | inl f ↦ Fires-relates LeavesOrStays (lacpdu_rows v) (lacpdu_rows_stay v) p q f
  | inr r ↦ subst (LeavesOrStays p) (sym r.1) (stays p)
]

-- a start leaves every aggregator
pub starts_unselected : (p q : Machines) → Starts p q → q.choice ≡ Unselected
starts_unselected p q h = ap (λ (m : Machines). m.choice) h.2
    ∙ elim (receive_stays (start_receive p) h.0 h.1) [ inl e ↦ e | inr e ↦ e.0 ]

pub configure_stays : (change : PortChange) (p q : Machines) → ChangesParty change p q → LeavesOrStays p q
configure_stays change p q h = inl (starts_unselected (record p { party = changed_party change p.party }) q h.1)

pub sending_stays : (p : Machines) → LeavesOrStays p (after_sending p)
sending_stays p = stays p

-- lists of ports, place by place

abbrev pub EachStays : List SystemPort → List SystemPort → Type 0
EachStays old new = (j : ℕ) (t : SystemPort) → slice_get new j ≡ Some t
    → (s : SystemPort) × (slice_get old j ≡ Some s) × LeavesOrStays s.port t.port

pub zip_stay : (R : Machines → Machines → Type 0) → ((p q : Machines) → R p q → LeavesOrStays p q) → (xs ys : List SystemPort)
    → PortsChangeBy R xs ys → EachStays xs ys
zip_stay R k [] [] h j t g = absurd (none-some t g)
zip_stay R k [] (y ∷ ys) h j t g = absurd h
zip_stay R k (x ∷ xs) [] h j t g = absurd h
zip_stay R k (x ∷ xs) (y ∷ ys) h zero t g = grind (arith, nat_tests)
zip_stay R k (x ∷ xs) (y ∷ ys) h (suc j) t g = zip_stay R k xs ys h.1 j t g

-- what stands at a place of a list in which one was set
pub set_cases : (xs : List SystemPort) (i j : ℕ) (x t : SystemPort) → slice_get (slice_set xs i x) j ≡ Some t
    → ((j ≡ i) × (t ≡ x)) ⊎ ((j ≡ i → ⊥) × (slice_get xs j ≡ Some t))
set_cases [] i j x t g = absurd (none-some t g)
set_cases (y ∷ ys) zero zero x t g = inl (refl, sym (same_Some x t g))
set_cases (y ∷ ys) zero (suc j) x t g = inr (λ e. absurd (omega (arith, e)), g)
set_cases (y ∷ ys) (suc i) zero x t g = inr (λ e. absurd (omega (arith, e)), g)
set_cases (y ∷ ys) (suc i) (suc j) x t g = grind (arith, nat_tests, set_cases ys i j x t g)

pub set_stays : (xs : List SystemPort) (i : ℕ) (s t : SystemPort) → slice_get xs i ≡ Some s → LeavesOrStays s.port t.port → EachStays xs (slice_set xs i t)
set_stays xs i s t e h j u g = grind (arith, nat_tests, set_cases, stays)

pub place_stays : (R : Machines → Machines → Type 0) → ((p q : Machines) → R p q → LeavesOrStays p q) → (o : Option ℕ)
    (old new : List SystemPort) → PortAtChangesBy R o old new → EachStays old new
place_stays R k o old new h = grind (arith, nat_tests, set_stays)

-- the occupants

-- a port that is no occupant, or occupies what it did with the same parties
abbrev pub OccupiesAsBefore : Machines → Machines → Type 0
OccupiesAsBefore p q = (occupied q.choice ≡ None)
    ⊎ ((occupied q.choice ≡ occupied p.choice) × (q.party ≡ p.party) × (party_of q.partner ≡ party_of p.partner))

abbrev pub EachOccupies : List SystemPort → List SystemPort → Type 0
EachOccupies old new = (j : ℕ) (t : SystemPort) → slice_get new j ≡ Some t
    → (s : SystemPort) × (slice_get old j ≡ Some s) × OccupiesAsBefore s.port t.port

pub zip_occupies : (R : Machines → Machines → Type 0) → ((p q : Machines) → R p q → OccupiesAsBefore p q) → (xs ys : List SystemPort)
    → PortsChangeBy R xs ys → EachOccupies xs ys
zip_occupies R k [] [] h j t g = absurd (none-some t g)
zip_occupies R k [] (y ∷ ys) h j t g = absurd h
zip_occupies R k (x ∷ xs) [] h j t g = absurd h
zip_occupies R k (x ∷ xs) (y ∷ ys) h zero t g = grind (arith, nat_tests)
zip_occupies R k (x ∷ xs) (y ∷ ys) h (suc j) t g = zip_occupies R k xs ys h.1 j t g

pub occupants_kept : (keys : List Key) (old new : List SystemPort) → EachOccupies old new → OccupantsAgree keys old → OccupantsAgree keys new
occupants_kept keys old new h a = grind (arith, nat_tests)

pub stay_agrees : (keys : List Key) (old new : List SystemPort) → EachStays old new → OccupantsAgree keys old → OccupantsAgree keys new
stay_agrees keys old new h a = grind (arith, nat_tests)

-- a promotion
pub promotion_agrees : (keys : List Key) (l : List SystemPort) (i : ℕ) (s : SystemPort) (agg : AggId) → slice_get l i ≡ Some s
    → s.port.choice ≡ Standby agg → OccupantsAgree keys l → OccupantsAgree keys (slice_set l i (with_choice s (Some (Selected agg))))
promotion_agrees keys l i s agg e stands a = let t : SystemPort = with_choice s (Some (Selected agg)) in
    let here : OccupiesAsBefore s.port t.port = inr (sym (ap occupied stands), refl, refl) in
    occupants_kept keys l (slice_set l i t) (λ j u g. elim (set_cases l i j t u g) [
      | inl c ↦ (s, ap (slice_get l) c.0 ∙ e, subst (λ (z : SystemPort). OccupiesAsBefore s.port z.port) (sym c.1) here)
      | inr c ↦ (u, c.1, inr (refl, refl, refl))
    ]) a

-- a choice

pub key_there : (keys : List Key) (n : ℕ) (k : Key) → 0 < n → slice_get keys (n - 1) ≡ Some k → key_of keys n ≡ Some k
key_there keys n k l e = grind (arith, nat_tests)

pub each_seen : (P : Seen → Type 0) (system_ports : List SystemPort) → All P (views system_ports) → AllByRecursion (λ s. P (selection_view s)) system_ports
each_seen P [] h = tt
each_seen P (s ∷ ss) h = (h 0 (selection_view s) (omega arith), each_seen P ss (λ k d within. h (suc k) d (omega arith)))

seen_at : (P : Seen → Type 0) (l : List SystemPort) (j : ℕ) (t : SystemPort) → AllByRecursion (λ s. P (selection_view s)) l
    → slice_get l j ≡ Some t → P (selection_view t)
seen_at P [] j t h e = absurd (none-some t e)
seen_at P (s ∷ ss) zero t h e = subst (λ (x : SystemPort). P (selection_view x)) (same_Some s t e) h.0
seen_at P (s ∷ ss) (suc j) t h e = seen_at P ss j t h.1 e

occupant_there : (agg : AggId) (c : Choice) → occupied c ≡ Some agg.0 → (c ≡ Selected agg) ⊎ (c ≡ Standby agg)
occupant_there agg c e = grind (arith, nat_tests)

-- another occupant of the aggregator that a port may join has the port's group
shares : (keys : List Key) (l : List SystemPort) (s t : SystemPort) (agg : AggId) (j : ℕ)
    → MayJoin keys (views l) agg (selection_view s) → slice_get l j ≡ Some t → occupied t.port.choice ≡ Some agg.0
    → SamePair (ends (selection_view t)) (ends (selection_view s)) × (individual s.port.party (party_of s.port.partner) ≡ false)
shares keys l s t agg j m g o = let is : IsOccupant agg (selection_view t) = occupant_there agg t.port.choice o in
    elim m.occupants [
      | inl none ↦ absurd (seen_at (λ w. IsOccupant agg w → ⊥) l j t (each_seen (λ w. IsOccupant agg w → ⊥) l none) g is)
      | inr shared ↦ (
        seen_at (λ w. IsOccupant agg w → SamePair (ends w) (ends (selection_view s))) l j t
            (each_seen (λ w. IsOccupant agg w → SamePair (ends w) (ends (selection_view s))) l shared.one_group) g is,
        shared.aggregatable,
      )
    ]

pub joining_agrees : (keys : List Key) (l : List SystemPort) (i : ℕ) (s : SystemPort) (agg : AggId) (c : Choice) → slice_get l i ≡ Some s
    → occupied c ≡ Some agg.0 → MayJoin keys (views l) agg (selection_view s) → OccupantsAgree keys l
    → OccupantsAgree keys (slice_set l i (with_choice s (Some c)))
joining_agrees keys l i s agg c e oc m a = let x : SystemPort = with_choice s (Some c) in
    let number : (g : ℕ) (t : SystemPort) → t ≡ x → occupied t.port.choice ≡ Some g → agg.0 ≡ g =
    λ g t is o. same_Some agg.0 g (sym oc ∙ sym (ap (λ (z : SystemPort). occupied z.port.choice) is) ∙ o) in record {
      key = λ j g t h o. elim (set_cases l i j x t h) [
        | inl n ↦ subst (λ (z : SystemPort). key_of keys g ≡ Some z.port.party.key) (sym n.1)
            (subst (λ k. key_of keys k ≡ Some s.port.party.key) (number g t n.1 o)
            (key_there keys agg.0 s.port.party.key m.numbered m.key))
        | inr w ↦ a.key j g t w.1 o
      ];
      apart = λ j g t h o. elim (set_cases l i j x t h) [
        | inl n ↦ subst (λ (z : SystemPort). (selection_view z).partner.system ≢ z.port.party.system) (sym n.1) m.apart
        | inr w ↦ a.apart j g t w.1 o
      ];
      group = λ g j k t u ne h f o r. elim (set_cases l i j x t h) [
        | inl n ↦ elim (set_cases l i k x u f) [
          | inl n' ↦ absurd (ne (n.0 ∙ sym n'.0))
          | inr w' ↦ (let both = shares keys l s u agg k m w'.1 (r ∙ ap (λ q. Some q) (sym (number g t n.1 o))) in
              subst (λ (z : SystemPort). SamePair (ends (selection_view z)) (ends (selection_view u))
              × (individual z.port.party (party_of z.port.partner) ≡ false)) (sym n.1)
              (group_sym (ends (selection_view u)) (ends (selection_view s)) both.0, both.1))
        ]
        | inr w ↦ elim (set_cases l i k x u f) [
          | inl n' ↦ (let both = shares keys l s t agg j m w.1 (o ∙ ap (λ q. Some q) (sym (number g u n'.1 r))) in
              subst (λ (z : SystemPort). SamePair (ends (selection_view t)) (ends (selection_view z))
              × (individual t.port.party (party_of t.port.partner) ≡ false)) (sym n'.1) (
                both.0,
                individual_along s.port.party (party_of s.port.partner) t.port.party (party_of t.port.partner)
                    (group_sym (ends (selection_view t)) (ends (selection_view s)) both.0) both.1,
              ))
          | inr w' ↦ a.group g j k t u ne w.1 w'.1 o r
        ]
      ];
    }

-- where all are UNSELECTED
pub none_agrees : (keys : List Key) (l : List SystemPort) → AllByRecursion (λ s. s.port.choice ≡ Unselected) l → OccupantsAgree keys l
none_agrees keys l h = record {
  key = λ i g s e o. absurd (nobody i g s e o);
  apart = λ i g s e o z. nobody i g s e o;
  group = λ g i j s t ne e f o r. absurd (nobody i g s e o);
}
  where
    at_place : (l : List SystemPort) (i : ℕ) (s : SystemPort) → AllByRecursion (λ s. s.port.choice ≡ Unselected) l
        → slice_get l i ≡ Some s → s.port.choice ≡ Unselected
    at_place [] i s h e = absurd (none-some s e)
    at_place (x ∷ xs) zero s h e = subst (λ (z : SystemPort). z.port.choice ≡ Unselected) (same_Some x s e) h.0
    at_place (x ∷ xs) (suc i) s h e = at_place xs i s h.1 e

    nobody : (i g : ℕ) (s : SystemPort) → slice_get l i ≡ Some s → occupied s.port.choice ≡ Some g → ⊥
    nobody i g s e o = none-some g (sym (ap occupied (at_place l i s h e)) ∙ o)
