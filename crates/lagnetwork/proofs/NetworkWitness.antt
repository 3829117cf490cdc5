-- A run of three systems, of which two have one identifier: one aggregator of the first reaches both. And one in which a cable is moved.
use Rattle.lagnetwork.proofs.Common.{Bool, List, None, Option, Some, [], ap, arith, cond, eqb, eqb-true, false, inl, inr, refl, subst, sym, true, ℕ}
use Rattle.lagnetwork.proofs.Common.{◌++◌, ◌∙◌, ◌∷◌, ◌≡◌, ◌≢◌, false≢true, true≢false, none-some, same_Some, SystemId, Party, Announce, Answered}
use Rattle.lagnetwork.proofs.Common.{Become, Desynchronize, Distribute, Flow, Join, Leave, Mark, Move, Port, Respond, Send, Take, Want, pair_at}
use Rattle.lagnetwork.proofs.Common.{port_after, view_after, ControlMessage, Lacp, LacpMessage, Marker, ModelCall, PortFacts, Receive, Response}
use Rattle.lagnetwork.proofs.Common.{SystemSetup, at_port, first_port, first_view, is_restart, zero_party, party_at, chosen, changed_port}
use Rattle.lagnetwork.proofs.Common.{party_moved, AllNetworkMoves, IsNetworkSetup, Network, NetworkCall, NetworkEvent, NetworkHappens, NetworkRun}
use Rattle.lagnetwork.proofs.Common.{NetworkSetup, Place, first_network, handed_up_from, network_after, network_after_all, recabled, with_cable_moved}
use Rattle.lagnetwork.proofs.Common.{without_first, EndsMeetAfterMove, OneAggregatorReachesTwo}
use Rattle.lagtypes.specs.Group.{SamePair, Pair}
use Rattle.lagnetwork.proofs.NetworkEvents.{runs_joined}
use Rattle.lagnetwork.proofs.Networks.{by_system}

-- a call that is neither a restart nor changes parameters
abbrev is_plain : ModelCall → Bool
is_plain ModelCall.Restart = false
is_plain ModelCall.Configure = false
is_plain call = true

plain-running : (call : ModelCall) → is_plain call ≡ true → is_restart call ≡ false
plain-running call h = grind arith

same_parties : (x : NetworkSetup) (s : ℕ) (call : ModelCall) (ms : List (Move × Bool)) (w : Network) → is_plain call ≡ true
    → AllNetworkMoves x s call 0 ms w → (t p : ℕ) → party_at ((network_after_all x s 0 ms w).view t) p ≡ party_at (w.view t) p
same_parties x s call [] w h a t p = refl
same_parties x s call (m ∷ ms) w h a t p = same_parties x s call ms (network_after x s 0 m w) h a.1 t p
    ∙ by_system s (λ t b. party_at (cond b (view_after (x.setup s) m.0 (w.view s)) (w.view t)) p ≡ party_at (w.view t) p)
    (party_moved (x.setup s) call (w.view s) m.0 a.0 (plain-running call h) (λ e. true≢false (sym h ∙ ap is_plain e)) p) (λ t ne. refl) t

-- a step of a run: an event, in which a system makes a call by these moves, and what the event leaves then
record Step : Type 0 where
  event : NetworkEvent
  system : ℕ
  call : ModelCall
  moves : List (Move × Bool)
  leaves : Network → Network

abbrev called : NetworkSetup → Step → Network → Network
called x t w = record (network_after_all x t.system 0 t.moves w) { count = w.count }

abbrev IsPlayed : NetworkSetup → List Step → Network → Type 0
IsPlayed x [] w = Unit {0}
IsPlayed x (t ∷ ts) w = AllNetworkMoves x t.system t.call 0 t.moves w × (is_plain t.call ≡ true)
    × (NetworkCall x t.system t.call 0 w w (called x t w) → NetworkHappens x t.event w (t.leaves (called x t w)))
    × IsPlayed (recabled x t.event) ts (t.leaves (called x t w))

abbrev events : List Step → List NetworkEvent
events [] = []
events (t ∷ ts) = t.event ∷ events ts

abbrev after : NetworkSetup → List Step → Network → Network
after x [] w = w
after x (t ∷ ts) w = after (recabled x t.event) ts (t.leaves (called x t w))

played : (x : NetworkSetup) (ts : List Step) (w : Network) → IsPlayed x ts w → NetworkRun x (events ts) w (after x ts w)
played x [] w h = refl
played x (t ∷ ts) w h = (
  t.leaves (called x t w),
  h.2 (t.moves, h.0, (w.count, (λ s p. inl (same_parties x t.system t.call t.moves w h.1 h.0 s p, refl)), refl)),
  played (recabled x t.event) ts (t.leaves (called x t w)) h.3,
)

plays : {A B C D : Type 0} → A → B → C → D → A × B × C × D
plays a b c d = (a, b, c, d)

abbrev step : NetworkEvent → ℕ → ModelCall → List (Move × Bool) → (Network → Network) → Step
step e s call ms leaves = record { event = e; system = s; call = call; moves = ms; leaves = leaves }

abbrev emits : ℕ → ℕ → List (Move × Bool) → Step
emits s p ms = step (NetworkEvent.Emit s p) s ModelCall.Transmit ms (λ w. w)

abbrev hears : ℕ → ℕ → ControlMessage → List (Move × Bool) → Step
hears s p pdu ms = step (NetworkEvent.Deliver s p) s (Receive p (Some pdu)) ms (without_first s p)

-- a frame of conversation 48, from this place
abbrev collects : ℕ → ℕ → Place → ℕ → Step
collects s p a n = step (NetworkEvent.Deliver s p) s (Receive p None) []
    (λ w. handed_up_from s (Some a) (Some 1) 1 48 n (without_first s p w))

abbrev party_of : ℕ → ℕ → Party
party_of n q = record {
  system = record { priority = n; mac = [] };
  key = record { 0 = 1 };
  port = record { priority = 128; number = q };
  aggregatable = true;
}

abbrev setup_of : ℕ → SystemSetup
setup_of n = record {
  system = record { priority = n; mac = [] };
  party = λ p. cond (eqb p 1) (Some (party_of n 1)) (cond (eqb p 2) (Some (party_of n 2)) None);
  key = λ g. cond (eqb g 1) (Some (record { 0 = 1 })) None;
  first_marker = 1;
}

-- the identifiers of systems 2 and 3 are one
abbrev priority_of : ℕ → ℕ
priority_of s = cond (eqb s 1) 1 2

abbrev place : ℕ → ℕ → Place
place s p = record { system = s; port = p }

abbrev far_of : ℕ → ℕ → Option Place
far_of s p = cond (eqb s 1) (cond (eqb p 1) (Some (place 2 1)) (cond (eqb p 2) (Some (place 3 2)) None))
    (cond (eqb s 2) (cond (eqb p 1) (Some (place 1 1)) None) (cond (eqb s 3) (cond (eqb p 2) (Some (place 1 2)) None) None))

abbrev x₀ : NetworkSetup
x₀ = record { setup = λ s. setup_of (priority_of s); far = far_of }

abbrev frame : List ℕ
frame = 2 ∷ 0 ∷ 0 ∷ 0 ∷ 0 ∷ 32 ∷ 2 ∷ 0 ∷ 0 ∷ 0 ∷ 0 ∷ 16 ∷ 8 ∷ 0 ∷ []

-- what the first system and a peer say on port q of both
abbrev hello : ℕ → LacpMessage
hello q = record { actor = party_of 2 q; partner = zero_party; synchronized = false }

abbrev answer : ℕ → LacpMessage
answer q = record { actor = party_of 1 q; partner = party_of 2 q; synchronized = true }

abbrev agreed : ℕ → LacpMessage
agreed q = record { actor = party_of 2 q; partner = party_of 1 q; synchronized = true }

abbrev says : ℕ → Bool → List (Move × Bool)
says q s = (Port q (Announce s), true) ∷ []

abbrev joins : ℕ → List (Move × Bool)
joins q = (Port q (Take (hello q) false), true) ∷ (Port q (Join 1), true) ∷ []

abbrev comes_up : ℕ → List (Move × Bool)
comes_up q = (Port q (Take (answer q) true), true) ∷ (Port q (Join 1), true) ∷ (Port q Distribute, true) ∷ []

abbrev follows : ℕ → List (Move × Bool)
follows q = (Port q (Take (agreed q) true), true) ∷ (Port q Distribute, true) ∷ []

-- system s and the first one come up with each other, each on port q
abbrev meets : ℕ → ℕ → List Step
meets s q = emits s q (says q false) ∷ hears 1 q (Lacp (hello q)) (joins q) ∷ emits 1 q (says q true) ∷ hears s q (Lacp (answer q)) (comes_up q)
    ∷ emits s q (says q true) ∷ hears 1 q (Lacp (agreed q)) (follows q) ∷ []

abbrev offers : ℕ → Step
offers p = step (NetworkEvent.Offer 1 1 frame) 1 ModelCall.Offer ((Flow (Send 1 48 p), true) ∷ []) (λ w. w)

-- conversation 48 sends by port 1, moves, and sends by port 2
abbrev moves_over : List Step
moves_over = offers 1 ∷ collects 2 1 (place 1 1) 0
    ∷ step (NetworkEvent.Move_conversation 1 1 48 2) 1 ModelCall.Move_conversation ((Flow (Become 1 48 (Want 1)), true) ∷ []) (λ w. w)
    ∷ emits 1 1 ((Flow (Mark 1), true) ∷ []) ∷ hears 2 1 (Marker [] 1 1) ((Port 1 (Respond [] 1 1), true) ∷ [])
    ∷ hears 1 1 (Response [] 1 1) ((Flow (Become 1 48 (Answered 1 1)), true) ∷ []) ∷ offers 2 ∷ collects 3 2 (place 1 2) 1 ∷ []

-- each port is so
abbrev EachPort : (ℕ → PortFacts → Type 0) → (ℕ → Option PortFacts) → Type 0
EachPort P ports = (q : ℕ) (b : PortFacts) → ports q ≡ Some b → P q b

each_kept : (P : ℕ → PortFacts → Type 0) (ports : ℕ → Option PortFacts) (p : ℕ) (a : PortFacts) (f : PortFacts → PortFacts)
    → ports p ≡ Some a → P p (f a) → EachPort P ports → EachPort P (at_port ports p f)
each_kept P ports p a f h n i q b hb = elim (changed_port ports p q f a b h hb) [
  | inl x ↦ subst (λ (b : PortFacts). P q b) x.1 (subst (λ q. P q (f a)) (sym x.0) n)
  | inr x ↦ i q b x.1
]

-- it is not in the aggregator
abbrev Outside : ℕ → PortFacts → Type 0
Outside q b = b.aggregator ≢ Some 1

outside_first : (n : ℕ) → EachPort Outside (first_view (setup_of n)).port
outside_first n q b h e = grind arith

-- or it has this group
abbrev Alike : Pair → ℕ → PortFacts → Type 0
Alike g q b = b.aggregator ≡ Some 1 → SamePair (pair_at b) g

ne₁ : (q r : ℕ) → (party_of 2 q).system ≢ (party_of 1 r).system
ne₁ q r e = let h : ◌≡◌ {A = ℕ} 2 1 = ap (λ (s : SystemId). s.priority) e in absurd (omega (arith, h))

-- a system that has no port in the aggregator may join it by a port that took this, also when the port said something before
joins_first : (n q : ℕ) (pdu : LacpMessage) (s : Bool) → (first_view (setup_of n)).port q ≡ Some (first_port (party_of n q))
    → EachPort Outside (at_port (first_view (setup_of n)).port q (port_after (Take pdu s)))
joins_first n q pdu s h = each_kept Outside _ q (first_port (party_of n q)) (port_after (Take pdu s)) h (λ h. none-some 1 h) (outside_first n)

joins_told : (n q : ℕ) (pdu : LacpMessage) → (first_view (setup_of n)).port q ≡ Some (first_port (party_of n q))
    → at_port (first_view (setup_of n)).port q (port_after (Announce false)) q ≡ Some (first_port (party_of n q))
    → EachPort Outside (at_port (at_port (first_view (setup_of n)).port q (port_after (Announce false))) q (port_after (Take pdu true)))
joins_told n q pdu h k = each_kept Outside _ q (first_port (party_of n q)) (port_after (Take pdu true)) k (λ h. none-some 1 h)
    (each_kept Outside _ q (first_port (party_of n q)) (port_after (Announce false)) h (λ h. none-some 1 h) (outside_first n))

first_meet : IsPlayed x₀ (meets 2 1) (first_network x₀)
first_meet = plays ((refl, λ h. absurd (false≢true h)), tt) refl (λ c. c)
    (plays ((refl, inr refl, λ h. absurd (false≢true h)), ((refl, ne₁ 1 1, refl, inl (joins_first 1 1 (hello 1) false refl)), tt)) refl
    (λ c. (_, c, refl)) (plays ((refl, λ h. refl), tt) refl (λ c. c)
    (plays ((refl, inr refl, λ h. (refl, inl refl)), ((refl, (λ e. ne₁ 1 1 (sym e)), refl, inl (joins_told 2 1 (answer 1) refl refl)), ((refl, refl), tt)))
    refl (λ c. (_, c, refl)) (plays ((refl, λ h. refl), tt) refl (λ c. c)
    (plays ((refl, inl refl, λ h. (refl, inl refl)), ((refl, refl), tt)) refl (λ c. (_, c, refl)) tt)))))

abbrev w₁ : Network
w₁ = after x₀ (meets 2 1) (first_network x₀)

-- port 2 of the first system joins port 1, which has its group
abbrev g₀ : Pair
g₀ = pair_at (port_after (Take (hello 2) false) (first_port (party_of 1 2)))

second_meet : IsPlayed x₀ (meets 3 2) w₁
second_meet = plays ((refl, λ h. absurd (false≢true h)), tt) refl (λ c. c) (plays (
  (refl, inr refl, λ h. absurd (false≢true h)),
  (
    (
      refl,
      ne₁ 2 2,
      refl,
      inr (
        each_kept (Alike g₀) _ 2 (first_port (party_of 1 2)) (port_after (Take (hello 2) false)) refl (λ h. absurd (none-some 1 h))
            (each_kept (Alike g₀) _ 1 _ (port_after Distribute) refl (λ h. inl (refl, refl))
            (each_kept (Alike g₀) _ 1 _ (port_after (Take (agreed 1) true)) refl (λ h. inl (refl, refl))
            (each_kept (Alike g₀) _ 1 _ (port_after (Announce true)) refl (λ h. inl (refl, refl))
            (each_kept (Alike g₀) _ 1 _ (port_after (Join 1)) refl (λ h. inl (refl, refl))
            (each_kept (Alike g₀) _ 1 _ (port_after (Take (hello 1) false)) refl (λ h. absurd (none-some 1 h))
            (λ q b h e. absurd (outside_first 1 q b h e))))))),
        refl,
      ),
    ),
    tt,
  ),
) refl (λ c. (_, c, refl)) (plays ((refl, λ h. refl), tt) refl (λ c. c)
    (plays ((refl, inr refl, λ h. (refl, inl refl)), ((refl, (λ e. ne₁ 2 2 (sym e)), refl, inl (joins_told 2 2 (answer 2) refl refl)), ((refl, refl), tt)))
    refl (λ c. (_, c, refl)) (plays ((refl, λ h. refl), tt) refl (λ c. c)
    (plays ((refl, inl refl, λ h. (refl, inl refl)), ((refl, refl), tt)) refl (λ c. (_, c, refl)) tt)))))

abbrev w₂ : Network
w₂ = after x₀ (meets 3 2) w₁

then_moves : IsPlayed x₀ moves_over w₂
then_moves = plays ((refl, inl (refl, (refl, refl))), tt) refl (λ c. c) (plays tt refl (λ c. (Some 1, _, c, refl))
    (plays (refl, tt) refl (λ c. c) (plays ((refl, omega arith), tt) refl (λ c. c) (plays (refl, tt) refl (λ c. (_, c, refl))
    (plays ((refl, refl), tt) refl (λ c. (_, c, refl)) (plays ((refl, inl (refl, (refl, refl))), tt) refl (λ c. c)
    (plays tt refl (λ c. (Some 1, _, c, refl)) tt)))))))

fixed₀ : IsNetworkSetup x₀
fixed₀ = grind (arith, priority_of, setup_of, chosen, eqb, party_of, same_Some, none-some, eqb-true, far_of, place)

-- port q, which names the same port of the other system, carries
abbrev up : ℕ → ℕ → ℕ → PortFacts
up n m q = record (first_port (party_of n q)) {
  partner = party_of m q;
  synchronized = true;
  defaulted = false;
  aggregator = Some 1;
  distributes = true;
}

pub one_aggregator_reaches_two : OneAggregatorReachesTwo
one_aggregator_reaches_two = (
  x₀,
  events (meets 2 1) ++ events (meets 3 2) ++ events moves_over,
  after x₀ moves_over w₂,
  up 1 2 1,
  up 1 2 2,
  up 2 1 1,
  up 2 1 2,
  fixed₀,
  runs_joined x₀ (events (meets 2 1)) (events (meets 3 2) ++ events moves_over) (first_network x₀) w₁ (after x₀ moves_over w₂)
      (played x₀ (meets 2 1) (first_network x₀) first_meet)
      (runs_joined x₀ (events (meets 3 2)) (events moves_over) w₁ w₂ (after x₀ moves_over w₂) (played x₀ (meets 3 2) w₁ second_meet)
      (played x₀ moves_over w₂ then_moves)),
  refl,
  refl,
  record { is = refl; distributes = refl; defaulted = refl; taken = (record { pdu = agreed 1; stamp = 0 }, refl, refl); source = refl },
  record { is = refl; distributes = refl; defaulted = refl; taken = (record { pdu = agreed 2; stamp = 0 }, refl, refl); source = refl },
  record { is = refl; distributes = refl; defaulted = refl; taken = (record { pdu = answer 1; stamp = 0 }, refl, refl); source = refl },
  record { is = refl; distributes = refl; defaulted = refl; taken = (record { pdu = answer 2; stamp = 0 }, refl, refl); source = refl },
  refl,
  refl,
  refl,
  refl,
  refl,
  refl,
  refl,
)

-- ---- a cable is moved

-- no other port is in the aggregator
abbrev OutsideBut : ℕ → ℕ → PortFacts → Type 0
OutsideBut p q b = (q ≡ p → ⊥) → b.aggregator ≢ Some 1

but_kept : (ports : ℕ → Option PortFacts) (p : ℕ) (a : PortFacts) (f : PortFacts → PortFacts) → ports p ≡ Some a
    → EachPort (OutsideBut p) ports → EachPort (OutsideBut p) (at_port ports p f)
but_kept ports p a f h = each_kept (OutsideBut p) ports p a f h (λ ne. absurd (ne refl))

but_left : (ports : ℕ → Option PortFacts) (p : ℕ) (a : PortFacts) → ports p ≡ Some a → EachPort (OutsideBut p) ports
    → EachPort Outside (at_port ports p (port_after Leave))
but_left ports p a h i q b hb e = elim (changed_port ports p q (port_after Leave) a b h hb) [
  | inl x ↦ none-some 1 (ap (λ (c : PortFacts). c.aggregator) x.1 ∙ e)
  | inr x ↦ i q b x.1 x.0 e
]

-- the cable of port 1 of the first system is taken out, and then put in at the third
abbrev x₁ : NetworkSetup
x₁ = recabled x₀ (NetworkEvent.Pull 1 1)

abbrev x₂ : NetworkSetup
x₂ = recabled x₁ (NetworkEvent.Plug 1 1 3 1)

abbrev goes_down : ℕ → Step
goes_down s = step (NetworkEvent.Sense s 1) s (ModelCall.Set_link 1 false) ((Port 1 Desynchronize, true) ∷ (Port 1 Leave, true) ∷ []) (λ w. w)

abbrev meets_again : List Step
meets_again = step (NetworkEvent.Pull 1 1) 1 ModelCall.Tick [] (with_cable_moved x₀ false 1 1) ∷ goes_down 1 ∷ goes_down 2
    ∷ step (NetworkEvent.Plug 1 1 3 1) 1 ModelCall.Tick [] (with_cable_moved x₂ true 1 1)
    ∷ emits 1 1 ((Port 1 (Join 1), true) ∷ (Port 1 (Announce true), true) ∷ []) ∷ hears 3 1 (Lacp (answer 1)) (comes_up 1)
    ∷ emits 3 1 (says 1 true) ∷ hears 1 1 (Lacp (agreed 1)) (follows 1) ∷ []

meet_again : IsPlayed x₀ meets_again w₁
meet_again = plays tt refl (λ c. refl) (plays (tt, (tt, tt)) refl (λ c. c) (plays (tt, (tt, tt)) refl (λ c. c)
    (plays tt refl (λ c. (refl, refl, refl)) (plays (
      (
        refl,
        ne₁ 1 1,
        refl,
        inl (but_left _ 1 _ refl (but_kept _ 1 _ (port_after Desynchronize) refl (but_kept _ 1 _ (port_after Distribute) refl
            (but_kept _ 1 _ (port_after (Take (agreed 1) true)) refl (but_kept _ 1 _ (port_after (Announce true)) refl
            (but_kept _ 1 _ (port_after (Join 1)) refl
            (but_kept (first_view (setup_of 1)).port 1 (first_port (party_of 1 1)) (port_after (Take (hello 1) false)) refl
            (λ q b h ne e. outside_first 1 q b h e)))))))),
      ),
      ((refl, λ h. refl), tt),
    ) refl (λ c. c)
    (plays ((refl, inr refl, λ h. (refl, inl refl)), ((refl, (λ e. ne₁ 1 1 (sym e)), refl, inl (joins_first 2 1 (answer 1) true refl)), ((refl, refl), tt)))
    refl (λ c. (_, c, refl)) (plays ((refl, λ h. refl), tt) refl (λ c. c)
    (plays ((refl, inl refl, λ h. (refl, inl refl)), ((refl, refl), tt)) refl (λ c. (_, c, refl)) tt)))))))

pub ends_meet_after_move : EndsMeetAfterMove
ends_meet_after_move = (
  x₀,
  events (meets 2 1),
  events meets_again,
  w₁,
  after x₀ meets_again w₁,
  up 1 2 1,
  up 2 1 1,
  up 1 2 1,
  up 2 1 1,
  fixed₀,
  played x₀ (meets 2 1) (first_network x₀) first_meet,
  refl,
  refl,
  record { is = refl; distributes = refl; defaulted = refl; taken = (record { pdu = agreed 1; stamp = 0 }, refl, refl); source = refl },
  record { is = refl; distributes = refl; defaulted = refl; taken = (record { pdu = answer 1; stamp = 0 }, refl, refl); source = refl },
  played x₀ meets_again w₁ meet_again,
  refl,
  refl,
  refl,
  record { is = refl; distributes = refl; defaulted = refl; taken = (record { pdu = agreed 1; stamp = 0 }, refl, refl); source = refl },
  record { is = refl; distributes = refl; defaulted = refl; taken = (record { pdu = answer 1; stamp = 0 }, refl, refl); source = refl },
)
