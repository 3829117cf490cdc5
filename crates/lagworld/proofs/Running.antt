-- What a sound world promises, and runs of events.
use Rattle.lagworld.proofs.Common.{IfErr, IfOk, List, None, Result, [], ap, get_or, length, map, refl, subst, sym, take, true, ℕ, ◌++◌, ◌+◌, ◌<◌, ◌∙◌}
use Rattle.lagworld.proofs.Common.{◌∷◌, ◌≡◌, map-append, take_more, slice_get-get_or, EndsAgree, InOrder, OnePartner, Happens, IsWorldSetup, Run}
use Rattle.lagworld.proofs.Common.{Side, World, WorldSetup, runs_joined, configured_setup, Event, WorldFault, Reply, Algorithms, WorldRuns}
use Rattle.lagworld.proofs.Common.{WorldSteps, cause, cause_or_no_memory, may_take_memory, model_event, model_world, world_setup, HeadlineFacts}
use Rattle.lagworld.proofs.Common.{IsSound, RefusesNext, next_of, WorldState, half}
use native.Mathlib.Omega.{arith}
use Rattle.lagmodel.proofs.Counting.{counts_from_zero}
use Rattle.lagmodel.proofs.Events.{lawful}
use Rattle.lagmodel.proofs.Laws.{one_partner_holds, agree_holds, in_order_holds, last_lacpdu_in_sync, names_present_holds, on_its_cable_holds}
use Rattle.lagmodel.proofs.Laws.{flushed_by_marker_holds, below_next_holds, collected_then_in_flight_holds}
use Rattle.lagworld.proofs.Keeping.{steps_sound, steps_fixed}
use Rattle.lagworld.proofs.Whole.{steps_happen}

-- what the law asks of configurations and cables
pub is_fixed : (j : WorldState) → IsSound j → IsWorldSetup (world_setup j)
is_fixed j i = record { setup = λ s. configured_setup (half s j).state; cables = i.cabling }

pub one_partner_of : (j : WorldState) → IsSound j → (s : Side) → OnePartner ((model_world j).view s)
one_partner_of j i = one_partner_holds (world_setup j) (model_world j)
    (lawful (world_setup j) i.reached.0 (model_world j) (is_fixed j i) i.reached.1)

pub agree_of : (j : WorldState) → IsSound j → EndsAgree (world_setup j) (model_world j)
agree_of j i = agree_holds (world_setup j) (model_world j) (lawful (world_setup j) i.reached.0 (model_world j) (is_fixed j i) i.reached.1)

pub in_order_of : (j : WorldState) → IsSound j → InOrder (model_world j)
in_order_of j i = in_order_holds (world_setup j) (model_world j)
    (lawful (world_setup j) i.reached.0 (model_world j) (is_fixed j i) i.reached.1)

pub carries_of : (j : WorldState) → IsSound j → HeadlineFacts j
carries_of j i = let x = world_setup j in
    let w = model_world j in
    let f = is_fixed j i in
    let l = lawful x i.reached.0 w f i.reached.1 in
    record {
      took_synchronized = last_lacpdu_in_sync x w l;
      names_present = names_present_holds x w l;
      on_its_cable = on_its_cable_holds x w l;
      flushed_by_marker = flushed_by_marker_holds x w f l;
      below_next = below_next_holds x w l;
      collected_then_in_flight = collected_then_in_flight_holds x w l;
      counts_from_zero = counts_from_zero x i.reached.0 w i.reached.1;
    }

-- what a step leaves, whatever it answers
pub sound_after : (gives : Algorithms) (e : Event) (result : Result Reply WorldFault) (old new : WorldState) → IsSound old
    → IfOk result (λ r. cause old e ≡ None) → IfOk result (λ r. WorldSteps gives old e r new) → IfErr result (λ f. new ≡ old) → IsSound new
sound_after gives e result old new i c x u = grind (arith, steps_sound)

pub fixed_after : (gives : Algorithms) (e : Event) (result : Result Reply WorldFault) (old new : WorldState) → IsSound old
    → IfOk result (λ r. WorldSteps gives old e r new) → IfErr result (λ f. new ≡ old) → world_setup new ≡ world_setup old
fixed_after gives e result old new i x u = grind (arith, steps_fixed, world_setup)

pub happens_after : (gives : Algorithms) (e : Event) (result : Result Reply WorldFault) (old new : WorldState) → IsSound old
    → IfOk result (λ r. WorldSteps gives old e r new) → IfOk result (λ r. Happens (world_setup old) (model_event e) (model_world old) (model_world new))
happens_after gives e result old new i x = grind (arith, steps_happen)

-- one more event
runs_more : (gives : Algorithms) (old mid new : WorldState) (es : List Event) (rs : List Reply) (e : Event) (r : Reply)
    → WorldRuns gives old es rs mid → WorldSteps gives mid e r new → WorldRuns gives old (es ++ e ∷ []) (rs ++ r ∷ []) new
runs_more gives old mid new [] [] e r h x = (new, subst (λ j. WorldSteps gives j e r new) h x, refl)
runs_more gives old mid new [] (q ∷ rs) e r h x = absurd h
runs_more gives old mid new (d ∷ es) [] e r h x = absurd h
runs_more gives old mid new (d ∷ es) (q ∷ rs) e r h x = (h.0, h.1, runs_more gives h.0 mid new es rs e r h.2 x)

pub runs_on : (gives : Algorithms) (old mid new : WorldState) (es : List Event) (rs : List Reply) (n : ℕ) (d : Event) (r : Reply) → n < length es
    → WorldRuns gives old (take n es) rs mid → WorldSteps gives mid (get_or es n d) r new → WorldRuns gives old (take (n + 1) es) (rs ++ r ∷ []) new
runs_on gives old mid new es rs n d r l h x = subst (λ l. WorldRuns gives old l (rs ++ r ∷ []) new) (sym (take_more es n d l))
    (runs_more gives old mid new (take n es) rs (get_or es n d) r h x)

pub world_on : (x : WorldSetup) (old mid new : World) (es : List Event) (n : ℕ) (d : Event) → n < length es → Run x (map model_event (take n es)) old mid
    → Happens x (model_event (get_or es n d)) mid new → Run x (map model_event (take (n + 1) es)) old new
world_on x old mid new es n d l h e =
    subst (λ l. Run x l old new) (sym (ap (map model_event) (take_more es n d l) ∙ map-append model_event (take n es) (get_or es n d ∷ [])))
    (runs_joined x (map model_event (take n es)) (model_event (get_or es n d) ∷ []) old mid new h (new, e, refl))

-- why a step was refused
pub stopped_by : (j : WorldState) (es : List Event) (n : ℕ) (d : Event) (fault : WorldFault) → n < length es
    → fault ≡ cause_or_no_memory (cause j (get_or es n d)) → (cause j (get_or es n d) ≡ None → may_take_memory (get_or es n d) ≡ true)
    → RefusesNext j (next_of es n) fault
stopped_by j es n d fault l h m = subst (λ o. RefusesNext j o fault) (sym (slice_get-get_or es n d l)) (record { named = h; memory = m })
