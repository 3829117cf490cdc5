-- A system that a warm start made is steady.
use Rattle.lagprogress.proofs.Common.{Err, List, Ok, Result, [], arith, refl, subst, sym, ℕ, ◌∙◌, ◌∷◌, ◌≡◌, nat_tests, AggId, Assignment, On, MaySend}
use Rattle.lagprogress.proofs.Common.{assignment_of, Answer, SystemFault, Call, Drives, GivesOrRefuses, distributing, IsSound, NoneHeld, SystemState}
use Rattle.lagprogress.proofs.Common.{first_free, PortsAreTimed, Step-each, first_each, TimedAt, timed_kept, timed_settles, timed_starts}
use Rattle.lagprogress.proofs.Common.{IsSteadySystem}
use Rattle.lagprogress.specs.WarmStarts.{WarmStartIsSteady}
use Rattle.lagsystem.proofs.OnPorts.{may_carry, sets_carried}
use Rattle.lagsystem.proofs.PromiseLemmas.{table_sound}
use Rattle.dataplane.specs.Adopting.{Adoption, Adopts, adopt_result}
use Rattle.dataplane.proofs.WarmSuccessors.{sound}

driven : (gives : ℕ → ℕ → ℕ → Type 0) (old new : SystemState) (calls : List Call) (answers : List Answer) → Drives gives old calls answers new
    → PortsAreTimed old × NoneHeld old → PortsAreTimed new × NoneHeld new
driven gives old new [] [] h k = subst (λ (s : SystemState). PortsAreTimed s × NoneHeld s) (sym h) k
driven gives old new (call ∷ calls) (a ∷ answers) h k = driven gives h.0 new calls answers h.2
    (Step-each TimedAt timed_settles gives old call a h.0 (timed_kept call a) h.1.step k.0, h.1.held k.1)
driven gives old new calls answers h k = absurd h

-- what is adopted goes where a frame of the conversation may go
may_send : (s : SystemState) (agg : AggId) (conv port : ℕ) (a : Assignment) → adopt_result s agg conv port ≡ Ok a
    → (a ≡ On port) × MaySend (distributing agg s.system_ports) (assignment_of s.table agg.0 conv) port
may_send s agg conv port a e = grind (arith, nat_tests)

adopted : (s t : SystemState) (agg : AggId) (conv port : ℕ) (r : Result Assignment SystemFault) → adopt_result s agg conv port ≡ r
    → GivesOrRefuses agg conv r s (Ok tt) t → IsSteadySystem s → IsSteadySystem t
adopted s t agg conv port (Err fault) e h k = absurd cc
adopted s t agg conv port (Ok a) e (accepted, is) k = let set = is.0 in
    let same = is.1 in
    let may = may_send s agg conv port a e in (
      table_sound s t same set.aggs set.conversations (sets_carried agg conv a s t set same k.0.carried
          (λ p i. may_carry s agg.0 p port (assignment_of s.table agg.0 conv) may.1 (sym may.0 ∙ i))) k.0,
      subst PortsAreTimed (sym same) k.1,
      subst NoneHeld (sym same) k.2,
    )

adopts : (s t : SystemState) (adoptions : List Adoption) → Adopts s adoptions t → IsSteadySystem s → IsSteadySystem t
adopts s t [] h k = subst IsSteadySystem (sym h) k
adopts s t (a ∷ more) h k = adopts h.0 t more h.2 (adopted s h.0 a.agg a.conv a.port (adopt_result s a.agg a.conv a.port) refl h.1 k)

pub warm_start_is_steady : (gives : ℕ → ℕ → ℕ → Type 0) → WarmStartIsSteady gives
warm_start_is_steady gives config saved adoptions s t r h = let made = r.made in
    let d = driven gives r.first s _ r.warmed.run.0 r.warmed.run.1 (first_each TimedAt timed_settles timed_starts r.first made, first_free r.first made) in
    adopts s t adoptions h (sound gives config saved s r, d.0, d.1)
