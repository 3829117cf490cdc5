-- A configuration without a fault is accepted; and a plan made from its parts.
use Rattle.lagscript.proofs.Common.{Bool, Err, List, None, Ok, Option, Result, Some, [], ap, cond, false, inl, inr, length, option_and_then}
use Rattle.lagscript.proofs.Common.{option_map, refl, subst, sym, true, ℕ, ◌∷◌, ◌≡◌, Members, ConfigValue, or_first, BadWorld, ScriptFault}
use Rattle.lagscript.proofs.Common.{CablePlan, bad_end, refusal_of_all, refusal_of_either, EventValue, ReadsAs, if_or_fault, ◌>>=◌, HasPlan, HasScript, IsRefused}
use Rattle.lagscript.proofs.Common.{PlanValue, ReadsPlan, ends_of, no_fault, plan_in, plan_value, planned, script_fault_for}
use Rattle.toml.specs.Parse.{parse_document}
use Rattle.lagtypes.specs.Same.{same_system}
use Rattle.lagsystem.specs.declared.fault.BadConfig.{BadConfig}
use Rattle.lagsystem.specs.declared.fault.BadConfig.TheVariants as bad
use Rattle.lagscript.specs.declared.config.BadWorld.TheVariants.{System, SameSystem, CableEnd}
use Rattle.lagscript.specs.declared.fault.ScriptFault.TheVariants as fault
use Rattle.lagscript.specs.declared.plan.Plan.{Plan}
use Rattle.lagscript.proofs.DocumentFaults.{plan_fine}

-- the reasons of two systems and their cables, in their order
abbrev first_reason : Option BadConfig → Option BadConfig → Bool → Option ℕ → Option BadWorld
first_reason one two same place = or_first (option_map (System 1) one)
    (or_first (option_map (System 2) two) (or_first (cond same (Some SameSystem) None) (option_map CableEnd place)))

no_reason : (one two : Option BadConfig) (same : Bool) (place : Option ℕ)
    → option_and_then script_fault_for (first_reason one two same place) ≡ None → first_reason one two same place ≡ None
no_reason (Some bad.Ports) two same place h = cc
no_reason None (Some bad.Ports) same place h = cc
no_reason None None false None h = refl
no_reason one two same place h = cc

-- without a fault there is no reason to refuse it
pub not_refused : (systems : List ConfigValue) (cables : List (ℕ × ℕ))
    → option_and_then script_fault_for (refusal_of_all systems cables) ≡ None → refusal_of_all systems cables ≡ None
not_refused (a ∷ b ∷ []) cables h = no_reason (refusal_of_either a) (refusal_of_either b) (same_system a.system b.system)
    (bad_end a.ports b.ports cables) h
not_refused systems cables h = refl

-- the steps of a plan
abbrev pub plan_steps : Bool → Result (List ConfigValue) ScriptFault → Result (List CablePlan) ScriptFault
    → (ℕ → Result (List EventValue) ScriptFault) → Result PlanValue ScriptFault
plan_steps known systems_read cables_read acts_read = if_or_fault known fault.ExtraKey (
    systems_read >>= λ systems.
    cables_read >>= λ cables.
    acts_read (length cables) >>= λ events.
    no_fault (option_and_then script_fault_for (refusal_of_all systems (ends_of cables))) (planned systems cables events)
    )

pub steps_all : (known : Bool) (rs : Result (List ConfigValue) ScriptFault) (rc : Result (List CablePlan) ScriptFault) (ra : ℕ
    → Result (List EventValue) ScriptFault) (systems : List ConfigValue) (cables : List CablePlan) (events : List EventValue)
    (o : Option ScriptFault)
    → known ≡ true → rs ≡ Ok systems → rc ≡ Ok cables → ra (length cables) ≡ Ok events
    → option_and_then script_fault_for (refusal_of_all systems (ends_of cables)) ≡ o
    → plan_steps known rs rc ra ≡ no_fault o (planned systems cables events)
steps_all known rs rc ra systems cables events o k s c a f = rw (k, s, c, a, f) refl

-- the fault of a document
reads_fault : (text : List ℕ) (ms : Members) → parse_document text ≡ Some ms → (e : ScriptFault) → plan_in ms ≡ Err e → IsRefused text e
reads_fault text ms p fault.NotToml s = absurd (plan_fine ms s)
reads_fault text ms p fault.NoMemory s = tt
reads_fault text ms p e s = (ms, p, s)

-- what is answered of a document is read of its text
pub reads_plan : (text : List ℕ) (ms : Members) (result : Result Plan ScriptFault) → parse_document text ≡ Some ms
    → ReadsAs fault.NoMemory plan_value (plan_in ms) result → ReadsPlan text result
reads_plan text ms (Ok plan) p a = (ms, p, a)
reads_plan text ms (Err e) p (inl spent) = subst (IsRefused text) (sym spent) tt
reads_plan text ms (Err e) p (inr s) = reads_fault text ms p e s

-- a text with a plan has its script
pub has_script : (text : List ℕ) (plan : PlanValue) → HasPlan text plan → HasScript text plan.script
has_script text plan (ms, p, s) = (ms, p, ap (λ r. r >>= λ q. Ok q.script) s)
