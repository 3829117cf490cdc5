-- The script in a text, and its plan (profile).
use Rattle.std.specs.Prelude.{◌≡◌, ⊤, ℕ, List, [], ◌∷◌, codes, length, map, nat_le, if◌then◌else◌, Option, Some, None, option_and_then}
use Rattle.std.specs.Prelude.{Result, Ok, Err, Vec}
use Rattle.std.specs.declared.alloc.Global.{Global}
use Rattle.toml.specs.Data.{Data, Members, as_table, as_str}
use Rattle.toml.specs.Parse.{parse_document}
use Rattle.lagsystem.specs.declared.fault.BadConfig.TheVariants as bad
use Rattle.lagscript.specs.EventValues.{EventValue, event_values}
use Rattle.lagsystem.specs.First.{ConfigValue, config_value}
use Rattle.lagscript.specs.Configs.{refusal_of_all}
use Rattle.lagscript.specs.Entries.{events_from}
use Rattle.lagscript.specs.Keys.{keys_among, list_in, just_two, value_at}
use Rattle.lagscript.specs.Readings.{◌>>=◌, each_at_place, or_fault, if_or_fault}
use Rattle.lagscript.specs.Tables.{cable_of, system_of}
use Rattle.lagscript.specs.declared.config.BadWorld.{BadWorld}
use Rattle.lagscript.specs.declared.config.BadWorld.TheVariants as refused
use Rattle.lagscript.specs.declared.config.WorldConfig.{WorldConfig}
use Rattle.lagscript.specs.declared.event.Event.{Event}
use Rattle.lagscript.specs.declared.fault.ScriptFault.{ScriptFault}
use Rattle.lagscript.specs.declared.fault.ScriptFault.TheVariants as fault
use Rattle.lagscript.specs.declared.plan.Plan.{Plan}
use Rattle.lagscript.specs.declared.tables.CablePlan.{CablePlan}

-- a script: two systems, their cables, and the events
pub record Script : Type 0 where
  pub systems : List ConfigValue
  pub cables : List (ℕ × ℕ)
  pub events : List EventValue

-- a plan: a script, and the limit of each of its cables, in order
pub record PlanValue : Type 0 where
  pub script : Script
  pub limits : List (Option ℕ)

-- the fault of a script whose configuration is refused for this reason; there is none for `Lines`, which a script does
-- not have
abbrev pub script_fault_for : BadWorld → Option ScriptFault
script_fault_for (refused.System side bad.Ports) = Some (fault.Ports side)
script_fault_for (refused.System side bad.Aggregators) = Some (fault.AggregatorCount side)
script_fault_for (refused.System side (bad.PortNumber place)) = Some (fault.PortNumber side place)
script_fault_for (refused.System side bad.MaxLinks) = Some (fault.MaxLinks side)
script_fault_for (refused.System side bad.Conversations) = Some (fault.ConversationCount side)
script_fault_for refused.SameSystem = Some fault.SameSystem
script_fault_for (refused.CableEnd place) = Some (fault.CableEnd place)
script_fault_for refused.Lines = None

-- the value if there is no fault, else the fault
abbrev pub no_fault : {A : Type 0} → Option ScriptFault → A → Result A ScriptFault
no_fault None x = Ok x
no_fault (Some e) x = Err e

-- the keys at the top of a script
abbrev pub top_keys : List (List ℕ)
top_keys = codes "system" ∷ codes "cable" ∷ codes "events" ∷ []

-- the two systems of a list of exactly two tables
abbrev pub two_systems : List Members → Result (List ConfigValue) ScriptFault
two_systems mss = or_fault fault.Systems (just_two (Some mss)) >>= λ p. system_of 1 p.0 >>= λ first. system_of 2 p.1
    >>= λ second. Ok (first ∷ second ∷ [])

-- the two systems of a script, or the first fault
abbrev pub systems_in : Members → Result (List ConfigValue) ScriptFault
systems_in ms = or_fault fault.Systems (value_at (codes "system") (list_in as_table) None ms) >>= two_systems

-- the cables of a script, none if the key is left out; or the first fault
abbrev pub cables_in : Members → Result (List CablePlan) ScriptFault
cables_in ms = or_fault fault.Cables (value_at (codes "cable") (list_in as_table) (Some []) ms) >>= each_at_place cable_of 1

-- the texts, if they are at most 100,000
abbrev pub up_to_most : List (List ℕ) → Option (List (List ℕ))
up_to_most texts = if nat_le (length texts) 100000 then Some texts else None

-- the entries in an array of at most 100,000 strings; None for any other value
abbrev pub entries_in : Data → Option (List (List ℕ))
entries_in d = option_and_then up_to_most (list_in as_str d)

-- the events of a script with this many cables, none if the key is left out; or the first fault
abbrev pub events_in : ℕ → Members → Result (List EventValue) ScriptFault
events_in cables ms = or_fault fault.Events (value_at (codes "events") entries_in (Some []) ms) >>= events_from cables 1

-- the two port numbers of each cable
abbrev pub ends_of : List CablePlan → List (ℕ × ℕ)
ends_of cables = map (λ c. c.ends) cables

-- the limit of each cable
abbrev pub limits_of : List CablePlan → List (Option ℕ)
limits_of cables = map (λ c. c.limit) cables

-- the plan made of the parts of a document
abbrev pub planned : List ConfigValue → List CablePlan → List EventValue → PlanValue
planned systems cables events = record {
  script = record { systems = systems; cables = ends_of cables; events = events };
  limits = limits_of cables;
}

-- the plan of a document, or its first fault
abbrev pub plan_in : Members → Result PlanValue ScriptFault
plan_in ms =
    if_or_fault (keys_among top_keys ms) fault.ExtraKey (
    systems_in ms >>= λ systems.
    cables_in ms >>= λ cables.
    events_in (length cables) ms >>= λ events.
    no_fault (option_and_then script_fault_for (refusal_of_all systems (ends_of cables))) (planned systems cables events)
    )

-- the script of a document: that of its plan
abbrev pub script_of : Members → Result Script ScriptFault
script_of ms = plan_in ms >>= λ plan. Ok plan.script

-- the text has this plan
abbrev pub HasPlan : List ℕ → PlanValue → Type 0
HasPlan text p = (ms : Members) × (parse_document text ≡ Some ms) × (plan_in ms ≡ Ok p)

-- the text has this script
abbrev pub HasScript : List ℕ → Script → Type 0
HasScript text s = (ms : Members) × (parse_document text ≡ Some ms) × (script_of ms ≡ Ok s)

-- the text has no plan, so no script, with this fault; any text may be refused for lack of memory
abbrev pub IsRefused : List ℕ → ScriptFault → Type 0
IsRefused text fault.NotToml = parse_document text ≡ None
IsRefused text fault.NoMemory = ⊤
IsRefused text e = (ms : Members) × (parse_document text ≡ Some ms) × (plan_in ms ≡ Err e)

-- ---- what is read

-- the configuration and events that were read, as a value of the logic
abbrev pub script_value : WorldConfig → List Event → Script
script_value c events = record { systems = map config_value c.systems; cables = c.cables.items; events = event_values events }

-- the plan that was read, as a value of the logic
abbrev pub plan_value : Plan → PlanValue
plan_value p = record { script = script_value p.config p.events.items; limits = p.limits.items }

-- what `read_plan` returns
abbrev pub ReadsPlan : List ℕ → Result Plan ScriptFault → Type 0
ReadsPlan text (Ok plan) = HasPlan text (plan_value plan)
ReadsPlan text (Err e) = IsRefused text e

-- what `read_script` returns
abbrev pub ReadsScript : List ℕ → Result (WorldConfig × Vec Event Global) ScriptFault → Type 0
ReadsScript text (Ok read) = HasScript text (script_value read.0 read.1.items)
ReadsScript text (Err e) = IsRefused text e
