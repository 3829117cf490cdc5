-- Every event of a sound world is an event of the model, and every run is a run of the model.
use Rattle.lagworld.proofs.Common.{IsSome, Ok, Some, arith, if◌then◌else◌, slice_get, subst, suc, ℕ, ◌≡◌, nat_tests, AggId, Happens, GivesOrRefuses}
use Rattle.lagworld.proofs.Common.{system_force_result, SystemState, Event, Reply, Algorithms, DoesEvent, InHalf, OnLink, WorldSteps, model_event}
use Rattle.lagworld.proofs.Common.{HalfForces, side_numbered, model_world, world_setup, IsHalfSound, IsSound, HalfState, LinkState, WorldState}
use Rattle.lagworld.proofs.Common.{flow_at, half, towards}
use Rattle.lagmodel.specs.World.{Event as ModelEvent}
use Rattle.lagworld.proofs.Sides.{named_side}
use Rattle.distributor.specs.declared.fault.DistFault.TheVariants as dist
use Rattle.lagscript.specs.declared.event.Event.TheVariants as event
use Rattle.lagworld.proofs.Happens.{tick_happens, sense_happens, move_happens, cut_happens, join_happens}
use Rattle.lagworld.proofs.Sends.{emit_happens, offer_happens}
use Rattle.lagworld.proofs.Arrives.{deliver_happens, repeat_happens, lose_happens}
use Rattle.lagworld.proofs.Counted.{configure_happens, restart_happens}
use Rattle.lagworld.proofs.Forced.{force_happens}

-- an event on a cable is on the one that it names
at_line : (c : ℕ) (P : ℕ → LinkState → Type 0) (e : ℕ → ModelEvent) (old new : WorldState) → OnLink c P old.links
    → ((i : ℕ) (l : LinkState) → slice_get old.links i ≡ Some l → P i l → Happens (world_setup old) (e (suc i)) (model_world old) (model_world new))
    → Happens (world_setup old) (e c) (model_world old) (model_world new)
at_line c P e old new x f = grind (arith, nat_tests)

pub forced_there : (h : HalfState) (agg : AggId) (conv : ℕ) (done : Unit) (new : SystemState) → IsHalfSound h
    → GivesOrRefuses agg conv (system_force_result h.state agg conv) h.state (Ok done) new → IsSome (flow_at h.flows agg.0 conv)
forced_there h agg conv done new k x = grind (arith, nat_tests)

pub does_happen : (gives : Algorithms) (e : Event) (r : Reply) (old new : WorldState) → IsSound old → DoesEvent gives old e r new
    → Happens (world_setup old) (model_event e) (model_world old) (model_world new)
does_happen gives (event.Tick n count) r old new i x = grind (arith, nat_tests, side_numbered, tick_happens, named_side)
does_happen gives (event.Emit n p) r old new i x =
    let s = side_numbered n in emit_happens gives s p r old new i.cabling (named_side n _ x)
does_happen gives (event.Deliver c n) r old new i x = grind (arith, nat_tests, side_numbered, at_line, named_side, deliver_happens, towards)
does_happen gives (event.Lose c n) r old new i x = grind (arith, nat_tests, side_numbered, at_line, named_side, lose_happens, towards)
does_happen gives (event.Repeat c n) r old new i x = grind (arith, nat_tests, side_numbered, at_line, named_side, repeat_happens, towards)
does_happen gives (event.Cut c) r old new i x = grind (arith, nat_tests, at_line, world_setup, model_world, cut_happens)
does_happen gives (event.Join c) r old new i x = grind (arith, nat_tests, at_line, world_setup, model_world, join_happens)
does_happen gives (event.Sense c n) r old new i x = let s = side_numbered n in
    at_line c _ (λ c. ModelEvent.Sense c s) old new (named_side n _ x) (λ k l there y. sense_happens (gives s) s k l r old new there y)
does_happen gives (event.Restart n) r old new i x =
    let s = side_numbered n in restart_happens (gives s) s old new (i.kept s) (named_side n _ x).1
does_happen gives (event.Configure n p change) r old new i x =
    let s = side_numbered n in configure_happens (gives s) s p change r old new (i.kept s) (named_side n _ x)
does_happen gives (event.Offer n agg octets) r old new i x =
    offer_happens gives (side_numbered n) agg octets.items r old new i.cabling (named_side n _ x)
does_happen gives (event.Move n agg conv p) r old new i x =
    let s = side_numbered n in move_happens (gives s) s agg conv p r old new (named_side n _ x)
does_happen gives (event.Force n agg conv) r old new i x = let s = side_numbered n in
    let y = named_side n (λ s. InHalf s (λ h k. HalfForces (gives s) agg conv h r k) old new) x in
    force_happens (gives s) s agg conv r old new y (λ done e. forced_there (half s old) agg conv done y.0.1.state (i.kept s)
    (subst (λ a. GivesOrRefuses agg conv (system_force_result (half s old).state agg conv) (half s old).state a y.0.1.state) e
    y.0.2.answers.step))

-- what is counted is no part of a world of the law
pub steps_happen : (gives : Algorithms) (e : Event) (r : Reply) (old new : WorldState) → IsSound old → WorldSteps gives old e r new
    → Happens (world_setup old) (model_event e) (model_world old) (model_world new)
steps_happen gives e r old new i x = does_happen gives e r old (record new { acted = old.acted }) i x.0
