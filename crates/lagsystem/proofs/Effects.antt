-- How the own effect of a call changes the model's view of a port.
use Rattle.lagsystem.proofs.Common.{Bool, IsSome, List, None, Option, Some, [], ap, arith, false, if◌then◌else◌, inl, inr, not, refl, subst, sym}
use Rattle.lagsystem.proofs.Common.{true, ℕ, ◌&&◌, ◌||◌, ◌∙◌, ◌∷◌, ◌≡◌, ◌⊎◌, nat_tests, Choice, Unselected, Party, StateBits, same_party, bits_of}
use Rattle.lagsystem.proofs.Common.{with_synchronization, with_timeout, exact_party, encode_then_decode, Info, Lacpdu, party_of, Act, PortMove, Shows}
use Rattle.lagsystem.proofs.Common.{Took, Lacp, ModelCall, PortFacts, SystemSetup, Told_lacpdu, replies_frame, zero_party, CollectingDistributing}
use Rattle.lagsystem.proofs.Common.{Machines, is_synchronized, partner_synchronized, same_mux_state, default_partner, lacpdu_rows, receive_rows}
use Rattle.lagsystem.proofs.Common.{recorded_synchronization, start_receive, Fires, RunsToRest, after_sending, count_down, pdu_of, PortChange}
use Rattle.lagsystem.proofs.Common.{ChangesParty, SetsPortEnabled, changed_party, choice_with_link, lacp_message, selected_number}
use Rattle.lagmodel.specs.View.{Receive}
use Rattle.lagsystem.proofs.OfPort.{PortMoves, port_joined}
use Rattle.lagsystem.proofs.Rows.{quiet, QuietMoves, EachMoves, settles_moves}

-- a stopped port, by the bits of its partner's state
abbrev stopped : Party → Party → Bool → Bool → Option ℕ → PortFacts
stopped party partner s d g = record { party = party; partner = partner; synchronized = s; defaulted = d; aggregator = g; distributes = false }

abbrev pub named : Info → StateBits → Party
named info bits = record { system = info.system; key = info.key; port = info.port; aggregatable = bits.aggregation }

abbrev with_bits : Party → Info → Bool → Option ℕ → StateBits → PortFacts
with_bits party info d g bits = stopped party (named info bits) bits.synchronization d g

-- update_Default_Selected and recordDefault
defaulting : (u : SystemSetup) (call : ModelCall) (n : ℕ) (party partner : Party) (s d : Bool) (c : Choice) (b : Bool) → (b ≡ true → zero_party ≡ partner)
    → PortMoves u call n (stopped party partner s d (selected_number c)) [] (stopped party zero_party true true (selected_number (if b then c else Unselected)))
defaulting u call n party partner s d c true h = (PortMove.Default ∷ [], (λ ports. inr (sym (h refl)), tt), refl, refl)
defaulting u call n party partner s d c false h = (PortMove.Leave ∷ PortMove.Default ∷ [], (λ ports. tt, (λ ports. inl refl, tt)), refl, refl)

abbrev default_bits : StateBits
default_bits = record {
  activity = false;
  timeout = false;
  aggregation = false;
  synchronization = true;
  collecting = false;
  distributing = false;
  defaulted = false;
  expired = false;
}

-- the administrative partner is all zero, and synchronized
on_defaults : (party : Party) (d : Bool) (g : Option ℕ)
    → with_bits party default_partner d g (bits_of default_partner.state) ≡ stopped party zero_party true d g
on_defaults party d g = ap (with_bits party default_partner d g) (encode_then_decode default_bits)

pub zero_named : zero_party ≡ party_of default_partner
zero_named = sym (ap (named default_partner) (encode_then_decode default_bits))

desynchronized : (party : Party) (info : Info) (d : Bool) (g : Option ℕ)
    → with_bits party info d g (bits_of (with_synchronization false info.state)) ≡ with_bits party info d g
    (record (bits_of info.state) { synchronization = false })
desynchronized party info d g = ap (with_bits party info d g) (encode_then_decode (record (bits_of info.state) { synchronization = false }))

expiring : (party : Party) (info : Info) (d : Bool) (g : Option ℕ)
    → with_bits party info d g (bits_of (with_timeout true (with_synchronization false info.state))) ≡ with_bits party info d g
    (record (bits_of info.state) { synchronization = false })
expiring party info d g =
    ap (with_bits party info d g) (encode_then_decode (record (bits_of (with_synchronization false info.state)) { timeout = true }))
    ∙ ap (λ (b : StateBits). with_bits party info d g (record b { timeout = true }))
    (encode_then_decode (record (bits_of info.state) { synchronization = false }))

pub receive_moves : (u : SystemSetup) (call : ModelCall) (n : ℕ) → EachMoves u call n receive_rows
receive_moves u call n = (
  λ p h. (PortMove.Desynchronize ∷ [], (λ ports. tt, tt), refl, desynchronized p.party p.partner p.defaulted (selected_number p.choice)),
  (
    λ p h. (PortMove.Desynchronize ∷ [], (λ ports. tt, tt), refl, desynchronized p.party p.partner p.defaulted (selected_number p.choice)),
    (
      λ p h. (PortMove.Desynchronize ∷ [], (λ ports. tt, tt), refl, expiring p.party p.partner p.defaulted (selected_number p.choice)),
      (
        λ p h.
            let same = same_party (party_of default_partner) (party_of p.partner) in
            subst (λ v. PortMoves u call n (quiet p) [] v)
            (sym (on_defaults p.party true (selected_number (if same then p.choice else Unselected))))
            (defaulting u call n p.party (party_of p.partner) (partner_synchronized p) p.defaulted p.choice same (λ t. zero_named
            ∙ exact_party (party_of default_partner) (party_of p.partner) t)),
        (λ p h. (PortMove.Desynchronize ∷ [], (λ ports. tt, tt), refl, expiring p.party p.partner p.defaulted (selected_number p.choice)), tt),
      ),
    ),
  ),
)

pub tick_moves : (u : SystemSetup) (call : ModelCall) (n : ℕ) (p q : Machines) → RunsToRest receive_rows (count_down p) q → QuietMoves u call n p [] q
tick_moves u call n p q h = settles_moves u call n receive_rows (receive_moves u call n) (count_down p) q h

-- with a limit of links, a port whose link goes down leaves its aggregator
leaving_link : (u : SystemSetup) (call : ModelCall) (n : ℕ) (max_links : Option ℕ) (up : Bool) (p : Machines)
    → QuietMoves u call n p [] (record p { enabled = up; choice = choice_with_link max_links up p.choice })
leaving_link u call n None up p = ([], tt, refl, refl)
leaving_link u call n (Some most) true p = ([], tt, refl, refl)
leaving_link u call n (Some most) false p = (PortMove.Leave ∷ [], (λ ports. tt, tt), refl, refl)

pub links_moves : (u : SystemSetup) (call : ModelCall) (n : ℕ) (max_links : Option ℕ) (up : Bool) (p q : Machines)
    → SetsPortEnabled max_links up p q → QuietMoves u call n p [] q
links_moves u call n max_links up p q h =
    let mid : Machines = record p { enabled = up; choice = choice_with_link max_links up p.choice } in
    port_joined u call n (quiet p) (quiet mid) (quiet q) [] [] (leaving_link u call n max_links up p)
    (settles_moves u call n receive_rows (receive_moves u call n) mid q h)

-- update_Selected and recordPDU
taking : (u : SystemSetup) (call : ModelCall) (n : ℕ) (party partner : Party) (s d : Bool) (c : Choice) (b : Bool)
    (v : Told_lacpdu) (t : Bool)
    → call ≡ Receive n (Some (Lacp v)) → (b ≡ true → v.actor ≡ partner)
    → (t ≡ true → (v.synchronized ≡ true) × ((v.partner ≡ party) ⊎ (v.actor.aggregatable ≡ false)))
    → PortMoves u call n (stopped party partner s d (selected_number c)) (Took n v
    ∷ []) (stopped party v.actor t false (selected_number (if b then c else Unselected)))
taking u call n party partner s d c true v t e h k = (
  PortMove.Take v t ∷ PortMove.Stop
      ∷ [],
  (λ ports. (e, inl (h refl), k), (λ ports. tt, tt)),
  refl,
  refl,
)
taking u call n party partner s d c false v t e h k =
    (PortMove.Leave ∷ PortMove.Take v t ∷ PortMove.Stop ∷ [], (λ ports. tt, (λ ports. (e, inr refl, k), (λ ports. tt, tt))), refl, refl)

ends_true : (x y z : Bool) → (x && y && z) ≡ true → (x ≡ true) × (z ≡ true)
ends_true x y z h = grind (arith, nat_tests)

either_way : (x y : Bool) → (x || not y) ≡ true → (x ≡ true) ⊎ (y ≡ false)
either_way x y h = grind (arith, nat_tests)

says_so : (v : Lacpdu) (p : Machines) → recorded_synchronization v p ≡ true → ((bits_of v.actor.state).synchronization ≡ true)
    × ((party_of v.partner ≡ p.party) ⊎ ((party_of v.actor).aggregatable ≡ false))
says_so v p h = grind (arith, nat_tests, ends_true, either_way, exact_party)

pub taking_moves : (u : SystemSetup) (n : ℕ) (v : Lacpdu) (p q : Machines) → Fires (lacpdu_rows v) p q
    → QuietMoves u (Receive n (Some (Lacp (lacp_message v)))) n p (Took n (lacp_message v) ∷ []) q
taking_moves u n v p q h = elim h [
  | inl f ↦
      let call = Receive n (Some (Lacp (lacp_message v))) in
      let same = same_party (party_of v.actor) (party_of p.partner) in
      let t = recorded_synchronization v p in
      let taken = taking u call n p.party (party_of p.partner) (partner_synchronized p) p.defaulted p.choice same (lacp_message v) t refl
      (exact_party (party_of v.actor) (party_of p.partner)) (says_so v p) in
      let recorded = ap (with_bits p.party v.actor false (selected_number (if same then p.choice else Unselected)))
      (encode_then_decode (record (bits_of v.actor.state) { synchronization = t })) in
      subst (λ r. QuietMoves u call n p (Took n (lacp_message v) ∷ []) r) (sym f.1)
      (subst (λ w. PortMoves u call n (quiet p) (Took n (lacp_message v) ∷ []) w) (sym recorded) taken)
  | inr f ↦ absurd f
]

-- a configure: the port leaves, takes another party, and starts again
pub configures_moves : (u : SystemSetup) (n : ℕ) (c : PortChange) (p q : Machines) → ChangesParty c p q → QuietMoves u ModelCall.Configure n p [] q
configures_moves u n c p q h = let again : Machines = start_receive (record p { party = changed_party c p.party }) in
    let begin : QuietMoves u ModelCall.Configure n p [] again = (
      PortMove.Leave ∷ PortMove.Reconfigure (changed_party c p.party) ∷ [],
      (λ ports. tt, (λ ports. (refl, refl, refl, refl), tt)),
      refl,
      on_defaults (changed_party c p.party) true None,
    ) in
    let rest : QuietMoves u ModelCall.Configure n again [] h.1.0 = settles_moves u ModelCall.Configure n receive_rows
    (receive_moves u ModelCall.Configure n) again h.1.0 h.1.1 in
    subst (λ r. QuietMoves u ModelCall.Configure n p [] r) (sym h.1.2)
    (port_joined u ModelCall.Configure n (quiet p) (quiet again) (quiet h.1.0) [] [] begin rest)

-- an LACPDU that goes out
abbrev own_bits : Machines → StateBits
own_bits p = record {
  activity = p.active;
  timeout = p.short;
  aggregation = p.party.aggregatable;
  synchronization = is_synchronized p.mux;
  collecting = same_mux_state CollectingDistributing p.mux;
  distributing = same_mux_state CollectingDistributing p.mux;
  defaulted = p.defaulted;
  expired = p.expired;
}

abbrev announced : ℕ → Machines → StateBits → List Act
announced n p b = Shows n (Lacp (record {
  actor = record { system = p.party.system; key = p.party.key; port = p.party.port; aggregatable = b.aggregation };
  partner = party_of p.partner;
  synchronized = b.synchronization;
})) ∷ []

pub sending : (u : SystemSetup) (call : ModelCall) (n max_delay : ℕ) (p : Machines) → replies_frame call ≡ true
    → (is_synchronized p.mux ≡ true → IsSome (selected_number p.choice))
    → QuietMoves u call n p (Shows n (Lacp (lacp_message (pdu_of p max_delay))) ∷ []) (after_sending p)
sending u call n max_delay p e k = (
  PortMove.Announce (is_synchronized p.mux)
      ∷ [],
  (λ ports. (e, k), tt),
  sym (ap (announced n p) (encode_then_decode (own_bits p))),
  refl,
)
