-- Runs of two systems in which another system takes the place of one, and goes on where that was, as after a warm start (profile).
use Rattle.std.specs.Prelude.{◌≡◌, ◌≤◌, ◌⊎◌, ℕ, true, false, List, [], ◌∷◌, Option, Some, None, is_some}
use Rattle.lagmodel.specs.View.{PortFacts, View, SystemSetup, IsSystemSetup, Flushing, On, conversation_port}
use Rattle.lagmodel.specs.World.{Side, TakenLacpdu, World, WorldSetup, IsWorldSetup, Event, Happens, at_side, first_world, party_at}
use Rattle.lagmodel.specs.Law.{Members}

-- A port that is not defaulted took the LACPDU that the port before it took last, as the port itself would have (6.4.9).
abbrev pub HasHeard : PortFacts → Option TakenLacpdu → Type 0
HasHeard a taken = a.defaulted ≡ false → (m : TakenLacpdu) × (taken ≡ Some m) × (a.partner ≡ m.pdu.actor)
    × (a.synchronized ≡ true → (m.pdu.synchronized ≡ true) × ((m.pdu.partner ≡ a.party) ⊎ (m.pdu.actor.aggregatable ≡ false)))

-- A system with the view `after` may take the place of one with the view `before` and this configuration, whose ports took these LACPDUs
-- last: what holds of the ports of any system holds of it (`one_system`); those that are not defaulted heard what the ports before them heard
-- last; each conversation that had a port is on it, none waits for a response, and no identifier of a marker comes again.
pub record IsSuccessor (u : SystemSetup) (before : View) (taken : ℕ → Option TakenLacpdu) (after : View) : Type 0 where
  pub members : Members u after.port
  pub heard : (p : ℕ) (a : PortFacts) → after.port p ≡ Some a → HasHeard a (taken p)
  pub on : (g k p : ℕ) → conversation_port (before.flows.state g k) ≡ Some p → after.flows.state g k ≡ On p
  pub waits : (g k p n : ℕ) → after.flows.state g k ≡ Flushing p n → ⊥
  pub next : before.flows.next ≤ after.flows.next

-- A system with the configuration v may go on where one with u was: it has the identifier, the aggregators and the ports of that. The own
-- parameters of the ports that it starts with, and its first marker identifier, may be others.
pub record IsAlikeSetup (u v : SystemSetup) : Type 0 where
  pub setup : IsSystemSetup v
  pub system : v.system ≡ u.system
  pub key : (g : ℕ) → v.key g ≡ u.key g
  pub ports : (p : ℕ) → is_some (v.party p) ≡ is_some (u.party p)

-- its ports have the own parameters that they had
abbrev pub KeepsParties : View → View → Type 0
KeepsParties before after = (p : ℕ) → party_at after p ≡ party_at before p

-- it takes its place, and the cables are as they were
abbrev pub with_successor : World → Side → View → World
with_successor w s after = record w { view = at_side w.view s after }

abbrev pub Succeeds : WorldSetup → World → World → Type 0
Succeeds x old new = (s : Side) × (after : View) × IsSuccessor (x.setup s) (old.view s) (old.taken s) after
    × KeepsParties (old.view s) after × (new ≡ with_successor old s after)

-- a run: events one after another, where None stands for a system that takes the place of one
abbrev pub SuccessionRun : WorldSetup → List (Option Event) → World → World → Type 0
SuccessionRun x [] old new = new ≡ old
SuccessionRun x (Some e ∷ es) old new = (mid : World) × Happens x e old mid × SuccessionRun x es mid new
SuccessionRun x (None ∷ es) old new = (mid : World) × Succeeds x old mid × SuccessionRun x es mid new

-- the statement holds after each of them, from the start of any two systems on cables
abbrev pub HoldsThroughSuccession : (WorldSetup → World → Type 0) → Type 0
HoldsThroughSuccession P = (x : WorldSetup) (es : List (Option Event)) (w : World) → IsWorldSetup x
    → SuccessionRun x es (first_world x) w → P x w
