-- A run in which two systems agree and a frame arrives: the headline is not empty.
use Rattle.lagmodel.proofs.Common.{Bool, List, None, Option, Some, [], ap, arith, cond, eqb, false, inl, inr, refl, sym, true, ℕ, ◌∙◌, ◌∷◌, ◌≡◌, ◌≢◌}
use Rattle.lagmodel.proofs.Common.{false≢true, none-some, Party, SomethingArrives, Announce, Distribute, Flow, Join, Move, Port, Send, Take}
use Rattle.lagmodel.proofs.Common.{port_after, Lacp, LacpMessage, ModelCall, PortFacts, Receive, SystemSetup, at_port, first_port, first_view}
use Rattle.lagmodel.proofs.Common.{is_restart, replies_frame, zero_party, AllMoves, CallHappens, Data, Event, Happens, IsWorldSetup, One, Side, Two}
use Rattle.lagmodel.proofs.Common.{World, WorldSetup, first_world, handed_up, party_at, with_messages, world_after, world_after_all}
use Rattle.lagtypes.specs.declared.identifiers.SystemId.{SystemId}
use Rattle.lagmodel.proofs.Stamps.{parties_kept}

-- a call whose reply may hold a frame leaves the parties, and so the change counts
pub same_parties : (x : WorldSetup) (s : Side) (call : ModelCall) (stamp : ℕ) (ms : List (Move × Bool)) (w : World)
    → is_restart call ≡ false → replies_frame call ≡ true → AllMoves x s call stamp ms w
    → (t : Side) (p : ℕ) → party_at ((world_after_all x s stamp ms w).view t) p ≡ party_at (w.view t) p
same_parties x s call stamp [] w r f a t p = refl
same_parties x One call stamp (m ∷ ms) w r f a One p = same_parties x One call stamp ms (world_after x One stamp m w) r f a.1 One p
    ∙ parties_kept (x.setup One) call (w.view One) m.0 a.0 r f p
same_parties x One call stamp (m ∷ ms) w r f a Two p = same_parties x One call stamp ms (world_after x One stamp m w) r f a.1 Two p
same_parties x Two call stamp (m ∷ ms) w r f a One p = same_parties x Two call stamp ms (world_after x Two stamp m w) r f a.1 One p
same_parties x Two call stamp (m ∷ ms) w r f a Two p = same_parties x Two call stamp ms (world_after x Two stamp m w) r f a.1 Two p
    ∙ parties_kept (x.setup Two) call (w.view Two) m.0 a.0 r f p

made : (x : WorldSetup) (s : Side) (call : ModelCall) (stamp : ℕ) (ms : List (Move × Bool)) (old mid : World)
    → ((t : Side) (p : ℕ) → party_at (mid.view t) p ≡ party_at (old.view t) p) → mid.count ≡ old.count → is_restart call ≡ false → replies_frame call ≡ true
    → AllMoves x s call stamp ms mid → CallHappens x s call stamp old mid (record (world_after_all x s stamp ms mid) { count = mid.count })
made x s call stamp ms old mid h c r f a = grind (arith, same_parties)

abbrev pub party_of : ℕ → Party
party_of n = record {
  system = record { priority = n; mac = [] };
  key = record { 0 = 1 };
  port = record { priority = 128; number = 1 };
  aggregatable = true;
}

abbrev pub setup_of : ℕ → SystemSetup
setup_of n = record {
  system = record { priority = n; mac = [] };
  party = λ p. cond (eqb p 1) (Some (party_of n)) None;
  key = λ g. cond (eqb g 1) (Some (record { 0 = 1 })) None;
  first_marker = 1;
}

abbrev priority_of : Side → ℕ
priority_of One = 1
priority_of Two = 2

abbrev pub x₀ : WorldSetup
x₀ = record { setup = λ s. setup_of (priority_of s); cables = record { one = 1; two = 1 } ∷ [] }

abbrev pdu₁ : LacpMessage
pdu₁ = record { actor = party_of 2; partner = zero_party; synchronized = false }

abbrev pdu₂ : LacpMessage
pdu₂ = record { actor = party_of 1; partner = party_of 2; synchronized = true }

abbrev pub pdu₃ : LacpMessage
pdu₃ = record { actor = party_of 2; partner = party_of 1; synchronized = true }

abbrev next : Side → ℕ → List (Move × Bool) → World → World
next s stamp ms w = record (world_after_all x₀ s stamp ms w) { count = w.count }

-- a frame from 02-00-00-00-00-10 to 02-00-00-00-00-20, which is of conversation 48
abbrev frame : List ℕ
frame = 2 ∷ 0 ∷ 0 ∷ 0 ∷ 0 ∷ 32 ∷ 2 ∷ 0 ∷ 0 ∷ 0 ∷ 0 ∷ 16 ∷ 8 ∷ 0 ∷ []

abbrev ms₁ : List (Move × Bool)
ms₁ = (Port 1 (Announce false), true) ∷ []

abbrev ms₂ : List (Move × Bool)
ms₂ = (Port 1 (Take pdu₁ false), true) ∷ (Port 1 (Join 1), true) ∷ []

abbrev ms₃ : List (Move × Bool)
ms₃ = (Port 1 (Announce true), true) ∷ []

abbrev ms₄ : List (Move × Bool)
ms₄ = (Port 1 (Take pdu₂ true), true) ∷ (Port 1 (Join 1), true) ∷ (Port 1 Distribute, true) ∷ []

abbrev ms₆ : List (Move × Bool)
ms₆ = (Port 1 (Take pdu₃ true), true) ∷ (Port 1 Distribute, true) ∷ []

abbrev ms₇ : List (Move × Bool)
ms₇ = (Flow (Send 1 48 1), true) ∷ []

abbrev w₁ : World
w₁ = next Two 0 ms₁ (first_world x₀)

abbrev w₂ : World
w₂ = next One 0 ms₂ (with_messages w₁ 1 One [])

abbrev w₃ : World
w₃ = next One 0 ms₃ w₂

abbrev w₄ : World
w₄ = next Two 0 ms₄ (with_messages w₃ 1 Two [])

abbrev w₅ : World
w₅ = next Two 0 ms₃ w₄

abbrev w₆ : World
w₆ = next One 0 ms₆ (with_messages w₅ 1 One [])

abbrev w₇ : World
w₇ = next One 0 ms₇ w₆

abbrev w₈ : World
w₈ = next Two 0 [] (handed_up true (Data One 1 48 0) (with_messages w₇ 1 Two []))

-- no port of these is in an aggregator
abbrev pub Outside : (ℕ → Option PortFacts) → Type 0
Outside ports = (q : ℕ) (b : PortFacts) → ports q ≡ Some b → b.aggregator ≢ Some 1

pub outside_first : (n : ℕ) → Outside (first_view (setup_of n)).port
outside_first n q b h e = grind arith

pub outside_kept : (ports : ℕ → Option PortFacts) (a : PortFacts) (f : PortFacts → PortFacts) → ports 1 ≡ Some a
    → ((f a).aggregator ≡ Some 1 → ⊥) → Outside ports → Outside (at_port ports 1 f)
outside_kept ports a f h n i q b hb e = grind arith

pub ne₁ : (party_of 2).system ≢ (party_of 1).system
ne₁ e = let h : ◌≡◌ {A = ℕ} 2 1 = ap (λ (s : SystemId). s.priority) e in absurd (omega (arith, h))

ne₂ : (party_of 1).system ≢ (party_of 2).system
ne₂ e = ne₁ (sym e)

e₁ : Happens x₀ (Event.Emit Two 1) (first_world x₀) w₁
e₁ = made x₀ Two ModelCall.Transmit 0 ms₁ (first_world x₀) (first_world x₀) (λ t p. refl) refl refl refl
    ((refl, λ h. absurd (false≢true h)), tt)

e₂ : Happens x₀ (Event.Deliver 1 One) w₁ w₂
e₂ = made x₀ One (Receive 1 (Some (Lacp pdu₁))) 0 ms₂ w₁ (with_messages w₁ 1 One []) (λ t p. refl) refl refl refl (
  (refl, inr refl, λ h. absurd (false≢true h)),
  (
    (
      refl,
      ne₁,
      refl,
      inl (outside_kept (first_view (setup_of 1)).port (first_port (party_of 1)) (port_after (Take pdu₁ false)) refl
          (λ h. none-some 1 h) (outside_first 1)),
    ),
    tt,
  ),
)

e₃ : Happens x₀ (Event.Emit One 1) w₂ w₃
e₃ = made x₀ One ModelCall.Transmit 0 ms₃ w₂ w₂ (λ t p. refl) refl refl refl ((refl, λ h. refl), tt)

e₄ : Happens x₀ (Event.Deliver 1 Two) w₃ w₄
e₄ = made x₀ Two (Receive 1 (Some (Lacp pdu₂))) 0 ms₄ w₃ (with_messages w₃ 1 Two []) (λ t p. refl) refl refl refl (
  (refl, inr refl, λ h. (refl, inl refl)),
  (
    (
      refl,
      ne₂,
      refl,
      inl (outside_kept (at_port (first_view (setup_of 2)).port 1 (port_after (Announce false))) (first_port (party_of 2))
          (port_after (Take pdu₂ true)) refl (λ h. none-some 1 h)
          (outside_kept (first_view (setup_of 2)).port (first_port (party_of 2)) (port_after (Announce false)) refl
          (λ h. none-some 1 h) (outside_first 2))),
    ),
    ((refl, refl), tt),
  ),
)

e₅ : Happens x₀ (Event.Emit Two 1) w₄ w₅
e₅ = made x₀ Two ModelCall.Transmit 0 ms₃ w₄ w₄ (λ t p. refl) refl refl refl ((refl, λ h. refl), tt)

e₆ : Happens x₀ (Event.Deliver 1 One) w₅ w₆
e₆ = made x₀ One (Receive 1 (Some (Lacp pdu₃))) 0 ms₆ w₅ (with_messages w₅ 1 One []) (λ t p. refl) refl refl refl
    ((refl, inl refl, λ h. (refl, inl refl)), ((refl, refl), tt))

e₇ : Happens x₀ (Event.Offer One 1 frame) w₆ w₇
e₇ = made x₀ One ModelCall.Offer 0 ms₇ w₆ w₆ (λ t p. refl) refl refl refl ((refl, inl (refl, (refl, refl))), tt)

e₈ : Happens x₀ (Event.Deliver 1 Two) w₇ w₈
e₈ = (true, made x₀ Two (Receive 1 None) 0 [] w₇ (handed_up true (Data One 1 48 0) (with_messages w₇ 1 Two [])) (λ t p. refl) refl refl refl tt)

pub fixed₀ : IsWorldSetup x₀
fixed₀ = grind arith

-- Two systems came to distribute on a cable, each on what it took last from the other, and a frame arrived.
pub something_arrives : SomethingArrives
something_arrives = (
  x₀,
  Event.Emit Two 1 ∷ Event.Deliver 1 One ∷ Event.Emit One 1 ∷ Event.Deliver 1 Two ∷ Event.Emit Two 1 ∷ Event.Deliver 1 One
      ∷ Event.Offer One 1 frame ∷ Event.Deliver 1 Two ∷ [],
  w₈,
  record (first_port (party_of 1)) { partner = party_of 2; synchronized = true; defaulted = false; aggregator = Some 1; distributes = true },
  record (first_port (party_of 2)) { partner = party_of 1; synchronized = true; defaulted = false; aggregator = Some 1; distributes = true },
  fixed₀,
  (w₁, e₁, (w₂, e₂, (w₃, e₃, (w₄, e₄, (w₅, e₅, (w₆, e₆, (w₇, e₇, (w₈, e₈, refl)))))))),
  refl,
  refl,
  record { is = refl; distributes = refl; defaulted = refl; taken = (record { pdu = pdu₃; stamp = 0 }, refl, refl) },
  record { is = refl; distributes = refl; defaulted = refl; taken = (record { pdu = pdu₂; stamp = 0 }, refl, refl) },
  refl,
  refl,
  refl,
)
