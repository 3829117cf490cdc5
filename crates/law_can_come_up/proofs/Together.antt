-- 356 rounds of two systems from the moment that both links are up: five in which LACPDUs go, and ticks alone between them.
use Rattle.std.proofs.Common.{List, None, Ok, Some, [], ap, arith, false, inl, get_or, refl, slice_get, subst, suc, true, zero, ℕ, ◌+◌, ◌-◌, ◌==◌, ◌∷◌}
use Rattle.std.proofs.Common.{◌≡◌, ◌≢◌, ◌≤◌, ◌⊎◌}
use Rattle.std.proofs.lemmas.Bool.Decides.{nat_tests}
use Rattle.std.proofs.lemmas.Option.{none-some, same_Some}
use Rattle.lagtypes.specs.declared.identifiers.SystemId.{SystemId}
use Rattle.lagmodel.specs.World.{IsCabling, One, Side, Two}
use Rattle.portmachines.specs.declared.mux.MuxState.TheVariants.{CollectingDistributing, Waiting}
use Rattle.portmachines.specs.Machines.{Machines}
use Rattle.portmachines.specs.Transmit.{aged}
use Rattle.lagsystem.specs.declared.drive.Reply.TheVariants as answer
use Rattle.lagsystem.specs.declared.system_ports.SystemPort.{SystemPort}
use Rattle.lagsystem.specs.Calls.{Set_link, Step, Tick}
use Rattle.lagsystem.specs.First.{IsFirst}
use Rattle.lagsystem.specs.Sound.{IsSound}
use Rattle.lagsystem.specs.State.{SystemState}
use Rattle.lagsystem.proofs.Sound.{Step-sound, answers}
use Rattle.lagscript.specs.declared.event.Event.TheVariants as event
use Rattle.lagworld.specs.declared.histories.PortHistory.{PortHistory}
use Rattle.lagworld.specs.declared.reply.Reply.TheVariants as reply
use Rattle.lagworld.specs.Events.{Algorithms, WorldSteps}
use Rattle.lagworld.specs.Making.{first_histories}
use Rattle.lagworld.specs.ModelWorld.{world_setup}
use Rattle.lagworld.specs.State.{WorldState, half, limit_towards}
use Rattle.lagprogress.specs.Bundle.{AllHeard, BothAreActive, EndsHealthyCable, EnoughLinks, IsBundle}
use Rattle.lagprogress.specs.LateRounds.{LateRounds}
use Rattle.lagprogress.specs.Progress.{Distributes}
use Rattle.lagprogress.specs.Rounds.{AtEnd, IsHealthyAt}
use Rattle.lagbeside.specs.Selecting.{aggregators_with, ports_with}
use Rattle.lagprogress.specs.Shared.{AreOneGroup, HasAggregators}
use Rattle.lagprogress.specs.Steady.{IsSteadySystem}
use Rattle.law_can_come_up.specs.Together.{TwoComeUp, wire}
use Rattle.law_can_carry.proofs.Carrying.{begins, config, down, first_is_sound, goes_up, lifted, lifted_is_sound, near, port_with, system}
use Rattle.law_can_come_up.proofs.Ports.{alone, alone_ticks, going, up_ticks_61, waiting_ticks}
use Rattle.law_can_come_up.proofs.Sides.{far, round_10_f, round_10_n, round_11_f, round_11_n, round_30_f, round_30_n, round_310_f, round_310_n}
use Rattle.law_can_come_up.proofs.Sides.{round_31_f, round_31_n}
use Rattle.law_can_come_up.proofs.Worlds.{Does, NoneDue, frame_round, hs', ks', quiet_round, sound₃, world}

-- so many rounds lead from old to a world of these systems
pub record At (gives : Algorithms) (old : WorldState) (m : ℕ) (s t : SystemState) : Type 0 where
  pub hs : List PortHistory
  pub ks : List PortHistory
  pub n : ℕ
  pub rounds : LateRounds gives m old (world s t hs ks [] [] n)
  pub sound_s : IsSound s
  pub sound_t : IsSound t

quiet : (gives : Algorithms) (old : WorldState) (m : ℕ) (s t s' t' : SystemState) → At gives old m s t → Step (gives One) s Tick answer.Tick s'
    → Step (gives Two) t Tick answer.Tick t' → NoneDue s' → NoneDue t' → At gives old (suc m) s' t'
quiet gives old m s t s' t' x h k due_s due_t = record {
  hs = x.hs;
  ks = x.ks;
  n = x.n + 1 + 1;
  rounds = (world s t x.hs x.ks [] [] x.n, x.rounds, quiet_round gives s t s' t' x.hs x.ks x.n x.sound_s x.sound_t h k due_s due_t);
  sound_s = Step-sound (gives One) s Tick answer.Tick s' h x.sound_s;
  sound_t = Step-sound (gives Two) t Tick answer.Tick t' k x.sound_t;
}

sends : (gives : Algorithms) (old : WorldState) (m : ℕ) (s s₁ s₂ s₃ t t₁ t₂ t₃ : SystemState) (f g : List ℕ) → (x : At gives old m s t)
    → Does (gives One) s s₁ s₂ s₃ f g → Does (gives Two) t t₁ t₂ t₃ g f → At gives old (suc m) s₃ t₃
sends gives old m s s₁ s₂ s₃ t t₁ t₂ t₃ f g x d e = record {
  hs = hs' gives s s₁ s₂ s₃ t t₁ t₂ t₃ f g x.hs x.ks x.n d e;
  ks = ks' gives s s₁ s₂ s₃ t t₁ t₂ t₃ f g x.hs x.ks x.n d e;
  n = x.n + 1 + 1 + 1 + 1 + 1 + 1;
  rounds = (world s t x.hs x.ks [] [] x.n, x.rounds, frame_round gives s s₁ s₂ s₃ t t₁ t₂ t₃ f g x.hs x.ks x.n d e);
  sound_s = sound₃ (gives One) s s₁ s₂ s₃ f g d;
  sound_t = sound₃ (gives Two) t t₁ t₂ t₃ g f e;
}

not_zero : (a b : ℕ) → ((a + suc b) == 0) ≡ false
not_zero a b = grind (arith, nat_tests)

-- the first 9 ticks
abbrev first_at : SystemId → ℕ → SystemState
first_at a p = system a (alone a (20 + p) p)

first_tick : (gives : ℕ → ℕ → ℕ → Type 0) (a : SystemId) (k : ℕ) → Step gives (first_at a (suc k + 1)) Tick answer.Tick (first_at a (k + 1))
first_tick gives a k = alone_ticks gives a (20 + (suc k + 1)) (suc k + 1) (20 + (k + 1)) (k + 1) (omega arith) (omega arith) (grind (arith, nat_tests)) (not_zero k 0)

phase_one : (gives : Algorithms) (old : WorldState) (k m : ℕ) → At gives old m (first_at near (k + 1)) (first_at far (k + 1))
    → (n : ℕ) × (n ≡ k + m) × At gives old n (first_at near 1) (first_at far 1)
phase_one gives old zero m x = (m, omega arith, x)
phase_one gives old (suc k) m x =
    let y = quiet gives old m (first_at near (suc k + 1)) (first_at far (suc k + 1)) (first_at near (k + 1)) (first_at far (k + 1)) x
    (first_tick (gives One) near k) (first_tick (gives Two) far k) refl refl in
    let z = phase_one gives old k (suc m) y in (z.0, omega (arith, z.1), z.2)

-- the 18 in which both wait
abbrev waits_at : SystemId → SystemId → ℕ → List ℕ → SystemState
waits_at a b w ages = system a (going a b 5 (881 + w) (280 + w) w Waiting false ages)

abbrev aged_times : ℕ → List ℕ → List ℕ
aged_times zero ages = ages
aged_times (suc k) ages = aged_times k (aged ages)

waits_tick : (gives : ℕ → ℕ → ℕ → Type 0) (a b : SystemId) (k : ℕ) (ages : List ℕ)
    → Step gives (waits_at a b (suc k + 1) ages) Tick answer.Tick (waits_at a b (k + 1) (aged ages))
waits_tick gives a b k ages = waiting_ticks gives a b 5 (881 + (suc k + 1)) (280 + (suc k + 1)) (suc k + 1) (881 + (k + 1)) (280 + (k + 1)) (k + 1) false ages refl
    (omega arith) (omega arith) (omega arith) (grind (arith, nat_tests)) (grind (arith, nat_tests)) (not_zero k 0)

phase_two : (gives : Algorithms) (old : WorldState) (k m : ℕ) (ages : List ℕ) → At gives old m (waits_at near far (k + 1) ages) (waits_at far near (k + 1) ages)
    → (n : ℕ) × (n ≡ k + m) × At gives old n (waits_at near far 1 (aged_times k ages)) (waits_at far near 1 (aged_times k ages))
phase_two gives old zero m ages x = (m, omega arith, x)
phase_two gives old (suc k) m ages x =
    let y = quiet gives old m (waits_at near far (suc k + 1) ages) (waits_at far near (suc k + 1) ages) (waits_at near far (k + 1) (aged ages))
    (waits_at far near (k + 1) (aged ages)) x (waits_tick (gives One) near far k ages) (waits_tick (gives Two) far near k ages) refl refl in
    let z = phase_two gives old k (suc m) (aged ages) y in (z.0, omega (arith, z.1), z.2)

-- while both are up
abbrev up_at : SystemId → SystemId → ℕ → ℕ → List ℕ → SystemState
up_at a b base p ages = system a (going a b 61 (base + p) p 0 CollectingDistributing false ages)

up_tick : (gives : ℕ → ℕ → ℕ → Type 0) (a b : SystemId) (base k q : ℕ) (ages : List ℕ)
    → Step gives (up_at a b base (suc k + suc q) ages) Tick answer.Tick (up_at a b base (k + suc q) (aged ages))
up_tick gives a b base k q ages = up_ticks_61 gives a b (base + (suc k + suc q)) (suc k + suc q) (base + (k + suc q)) (k + suc q) false ages
    (omega arith) (omega arith) (grind (arith, nat_tests)) (not_zero k q)

phase_up : (gives : Algorithms) (old : WorldState) (base k q m : ℕ) (ages : List ℕ)
    → At gives old m (up_at near far base (k + suc q) ages) (up_at far near base (k + suc q) ages)
    → (n : ℕ) × (n ≡ k + m) × At gives old n (up_at near far base (suc q) (aged_times k ages)) (up_at far near base (suc q) (aged_times k ages))
phase_up gives old base zero q m ages x =
    let e : 0 + suc q ≡ suc q = omega arith in
    (m, omega arith, subst (λ p. At gives old m (up_at near far base p ages) (up_at far near base p ages)) e x)
phase_up gives old base (suc k) q m ages x =
    let y = quiet gives old m (up_at near far base (suc k + suc q) ages) (up_at far near base (suc k + suc q) ages) (up_at near far base (k + suc q) (aged ages))
    (up_at far near base (k + suc q) (aged ages)) x (up_tick (gives One) near far base k q ages) (up_tick (gives Two) far near base k q ages) refl refl in
    let z = phase_up gives old base k q (suc m) (aged ages) y in (z.0, omega (arith, z.1), z.2)

-- the world in which both links are up

abbrev logs : SystemId → List PortHistory
logs a = first_histories a (config ∷ [])

abbrev start : WorldState
start = world (system near (down near)) (system far (down far)) (logs near) (logs far) [] [] 0

abbrev lifted_world : WorldState
lifted_world = world (system near (lifted near)) (system far (lifted far)) (logs near) (logs far) [] [] 2

senses_one : (gives : Algorithms) → WorldSteps gives start (event.Sense 1 1) (reply.Sensed true)
    (world (system near (lifted near)) (system far (down far)) (logs near) (logs far) [] [] 1)
senses_one gives = (
  (
    (
      Ok tt,
      record {
        answers = answers (gives One) (system near (down near)) (Set_link 1 true) (answer.SetLink (Ok tt)) (system near (lifted near)) (goes_up near (gives One))
            (first_is_sound near);
        same = refl;
      },
      refl,
    ),
    refl,
  ),
  refl,
)

senses_two : (gives : Algorithms) → WorldSteps gives (world (system near (lifted near)) (system far (down far)) (logs near) (logs far) [] [] 1)
    (event.Sense 1 2) (reply.Sensed true) lifted_world
senses_two gives = (
  (
    (
      Ok tt,
      record {
        answers = answers (gives Two) (system far (down far)) (Set_link 1 true) (answer.SetLink (Ok tt)) (system far (lifted far)) (goes_up far (gives Two))
            (first_is_sound far);
        same = refl;
      },
      refl,
    ),
    refl,
  ),
  refl,
)

steady : (gives : Algorithms) (s : Side) → IsSteadySystem (half s lifted_world).state
steady gives One = (lifted_is_sound near (gives One), ((omega arith, omega arith, omega arith, tt), tt), (refl, tt))
steady gives Two = (lifted_is_sound far (gives Two), ((omega arith, omega arith, omega arith, tt), tt), (refl, tt))

cabling : IsCabling (world_setup lifted_world).cables
cabling s zero d p e f = absurd (none-some p e)
cabling s (suc zero) zero p e f = absurd (none-some p f)
cabling s (suc zero) (suc zero) p e f = refl
cabling s (suc zero) (suc (suc d)) p e f = absurd (none-some p f)
cabling s (suc (suc c)) d p e f = absurd (none-some p e)

differ : near ≢ far
differ e = let h : ◌≡◌ {A = ℕ} 32768 100 = ap (λ (s : SystemId). s.priority) e in absurd (omega (arith, h))

healthy : IsHealthyAt 0 wire lifted_world
healthy = record { there = refl; whole = refl; unlimited = unlimited; up = up }
  where
    unlimited : (s : Side) → limit_towards s wire ≡ None
    unlimited One = refl
    unlimited Two = refl

    up : (s : Side) → AtEnd (λ (p : Machines). p.enabled ≡ true) s wire lifted_world
    up One = refl
    up Two = refl

active : BothAreActive wire lifted_world
active One = refl
active Two = refl

at_port : (P : SystemPort → Type 0) (y : SystemPort) (k : ℕ) (x : SystemPort) → slice_get (y ∷ []) k ≡ Some x → P y → P x
at_port P y zero x e h = subst P (same_Some y x e) h
at_port P y (suc k) x e h = absurd (none-some x e)

heard : AllHeard BothAreActive lifted_world
heard One k x at enabled = at_port (λ y. EndsHealthyCable BothAreActive One y.number lifted_world) (port_with (lifted near)) k x at
    (record { index = 0; link = wire; healthy = healthy; joins = refl; holds = active })
heard Two k x at enabled = at_port (λ y. EndsHealthyCable BothAreActive Two y.number lifted_world) (port_with (lifted far)) k x at
    (record { index = 0; link = wire; healthy = healthy; joins = refl; holds = active })

enough_aggregators : (s : Side) → HasAggregators s lifted_world
enough_aggregators One k x at enabled = at_port
    (λ y. (ports_with y.port.party.key (half One lifted_world).state
    ≤ aggregators_with y.port.party.key (half One lifted_world).state)
    ⊎ AreOneGroup One y.port.party.key lifted_world) (port_with (lifted near)) k x at (inl (omega arith))
enough_aggregators Two k x at enabled = at_port
    (λ y. (ports_with y.port.party.key (half Two lifted_world).state
    ≤ aggregators_with y.port.party.key (half Two lifted_world).state)
    ⊎ AreOneGroup Two y.port.party.key lifted_world) (port_with (lifted far)) k x at (inl (omega arith))

used : (k : ℕ) → get_or (true ∷ []) k true ≡ true
used zero = refl
used (suc k) = refl

enough_links : (s : Side) → EnoughLinks (half s lifted_world).state
enough_links One = (λ k most x at limit. absurd (none-some most limit), λ agg. used (agg.0 - 1))
enough_links Two = (λ k most x at limit. absurd (none-some most limit), λ agg. used (agg.0 - 1))

bundle : (gives : Algorithms) → IsBundle BothAreActive lifted_world
bundle gives = record {
  steady = steady gives;
  cabling = cabling;
  differ = differ;
  heard = heard;
  aggregators = enough_aggregators;
  links = enough_links;
}

first : (s : Side) → IsFirst (half s start).state
first One = begins near
first Two = begins far

pub two_come_up : (gives : Algorithms) → TwoComeUp gives
two_come_up gives =
    let x₀ : At gives lifted_world 0 (first_at near 10) (first_at far 10) = record {
      hs = logs near;
      ks = logs far;
      n = 2;
      rounds = refl;
      sound_s = lifted_is_sound near (gives One);
      sound_t = lifted_is_sound far (gives Two);
    } in
    let x₉ = phase_one gives lifted_world 9 0 x₀ in
    let d₁ = round_10_n (gives One) x₉.2.sound_s in
    let e₁ = round_10_f (gives Two) x₉.2.sound_t in
    let y₁ = sends gives lifted_world x₉.0 _ _ _ _ _ _ _ _ _ _ x₉.2 d₁ e₁ in
    let d₂ = round_11_n (gives One) y₁.sound_s in
    let e₂ = round_11_f (gives Two) y₁.sound_t in
    let y₂ = sends gives lifted_world (suc x₉.0) _ _ _ _ _ _ _ _ _ _ y₁ d₂ e₂ in
    let x₂ = phase_two gives lifted_world 18 (suc (suc x₉.0)) (1 ∷ 0 ∷ []) y₂ in
    let d₃ = round_30_n (gives One) x₂.2.sound_s in
    let e₃ = round_30_f (gives Two) x₂.2.sound_t in
    let y₃ = sends gives lifted_world x₂.0 _ _ _ _ _ _ _ _ _ _ x₂.2 d₃ e₃ in
    let d₄ = round_31_n (gives One) y₃.sound_s in
    let e₄ = round_31_f (gives Two) y₃.sound_t in
    let y₄ = sends gives lifted_world (suc x₂.0) _ _ _ _ _ _ _ _ _ _ y₃ d₄ e₄ in
    let x₃ = phase_up gives lifted_world 621 278 0 (suc (suc x₂.0)) (1 ∷ 0 ∷ []) y₄ in
    let d₅ = round_310_n (gives One) x₃.2.sound_s in
    let e₅ = round_310_f (gives Two) x₃.2.sound_t in
    let y₅ = sends gives lifted_world x₃.0 _ _ _ _ _ _ _ _ _ _ x₃.2 d₅ e₅ in
    let x₄ = phase_up gives lifted_world 600 46 253 (suc x₃.0) (0 ∷ []) y₅ in
    let last = x₄.2 in
    record {
      start = start;
      old = lifted_world;
      new = world (up_at near far 600 254 (aged_times 46 (0 ∷ []))) (up_at far near 600 254 (aged_times 46 (0 ∷ []))) last.hs last.ks [] [] last.n;
      events = event.Sense 1 1 ∷ event.Sense 1 2 ∷ [];
      replies = reply.Sensed true ∷ reply.Sensed true ∷ [];
      first = first;
      joined = refl;
      run = (world (system near (lifted near)) (system far (down far)) (logs near) (logs far) [] [] 1, senses_one gives, (lifted_world, senses_two gives, refl));
      bundle = bundle gives;
      healthy = healthy;
      count = x₄.0;
      enough = omega (arith, x₉.1, x₂.1, x₃.1, x₄.1);
      rounds = last.rounds;
      up = carries last.hs last.ks last.n;
    }
  where
    carries : (hs ks : List PortHistory) (n : ℕ) (s : Side)
        → AtEnd Distributes s wire (world (up_at near far 600 254 (aged_times 46 (0 ∷ []))) (up_at far near 600 254 (aged_times 46 (0 ∷ []))) hs ks [] [] n)
    carries hs ks n One = (refl, refl)
    carries hs ks n Two = (refl, refl)
