-- The report of a replay: its entries with their replies, and the state of cables and conversations at the end
-- (profile).
use Rattle.std.specs.Prelude.{◌≡◌, ⊤, ℕ, ◌+◌, ◌++◌, ◌==◌, Bool, true, List, [], ◌∷◌, flat_map, length, if◌then◌else◌, codes}
use Rattle.std.specs.Prelude.{decimal, Option, Some, None, Result, Ok, Err}
use Rattle.std.specs.List.{range_with_len}
use Rattle.lagsystem.specs.declared.config.Config.{Config}
use Rattle.lagscript.specs.EventValues.{event_value}
use Rattle.lagscript.specs.Scripts.{HasPlan, IsRefused, plan_value}
use Rattle.lagscript.specs.declared.config.WorldConfig.{WorldConfig}
use Rattle.lagscript.specs.declared.event.Event.{Event}
use Rattle.lagscript.specs.declared.fault.ScriptFault.{ScriptFault}
use Rattle.lagscript.specs.declared.fault.ScriptFault.TheVariants as script
use Rattle.lagscript.specs.declared.plan.Plan.{Plan}
use Rattle.lagworld.specs.Agreement.{agreement_at}
use Rattle.lagworld.specs.Events.{Algorithms, WorldRuns, side_of}
use Rattle.lagworld.specs.Making.{AreFirst}
use Rattle.lagworld.specs.Readers.{flow_of_system}
use Rattle.lagworld.specs.Sound.{IsSound}
use Rattle.lagworld.specs.State.{WorldState, LinkState, FlowValue, collected_in, forced_in, sent_in}
use Rattle.lagworld.specs.declared.agreement.Agreement.{Agreement}
use Rattle.lagworld.specs.declared.reply.Reply.{Reply}
use Rattle.lagscript.specs.EntryTexts.{entry_text}
use Rattle.lagtool_jobs.specs.ReplyTexts.{agreement_text, reply_text}
use Rattle.lagstreams.specs.Sinks.{WritesPart, SinkState, WritesWhole}
use Rattle.lagtool_jobs.specs.declared.fault.ToolFault.{ToolFault}
use Rattle.lagtool_jobs.specs.declared.fault.ToolFault.TheVariants.{Read, Write, NoMemory, Script, NotHex, NotMac}

-- N ENTRY -> REPLY
abbrev pub entry_line : ℕ → Event → Reply → List ℕ
entry_line n e r = decimal n ++ 32 ∷ (entry_text (event_value e) ++ (codes " -> " ++ (reply_text r ++ 10 ∷ [])))

-- a line for each entry; the first has this number
abbrev pub entries_text : ℕ → List Event → List Reply → List ℕ
entries_text n (e ∷ es) (r ∷ rs) = entry_line n e r ++ entries_text (n + 1) es rs
entries_text n _ _ = []

-- cable C agreement A, if there is such a cable
abbrev pub agreement_line : ℕ → Option Agreement → List ℕ
agreement_line c None = []
agreement_line c (Some a) = codes "cable " ++ (decimal c ++ (codes " agreement " ++ (agreement_text a ++ 10 ∷ [])))

-- how many numbers cables can have, from 1 on
unfoldable pub cable_numbers : ℕ
cable_numbers = 65535

-- a line for each cable
abbrev pub agreements_text : WorldState → List ℕ
agreements_text j = flat_map (λ c. agreement_line c (agreement_at j c)) (range_with_len 1 cable_numbers)

-- each serial number with a space before it; ` none` if there are none
abbrev pub collected_text : List ℕ → List ℕ
collected_text [] = codes " none"
collected_text (n ∷ ns) = flat_map (λ serial. 32 ∷ decimal serial) (n ∷ ns)

-- a space and `forced`, for a conversation that was ever forced
abbrev pub forced_text : Bool → List ℕ
forced_text forced = if forced then codes " forced" else []

-- flow S/AGG/CONV sent N collected LIST, and whether it was forced; nothing if no frame was sent
abbrev pub flow_line : ℕ → ℕ → ℕ → Option FlowValue → List ℕ
flow_line s agg conv x =
    if length (sent_in x) == 0 then []
    else codes "flow " ++ (decimal s ++ 47 ∷ (decimal agg ++ 47
    ∷ (decimal conv ++ (codes " sent " ++ (decimal (length (sent_in x)) ++ (codes " collected"
    ++ (collected_text (collected_in x) ++ (forced_text (forced_in x) ++ 10 ∷ []))))))))

-- the lines of all conversations of one aggregator of system s, which has this many of them
abbrev pub aggregator_flows_text : WorldState → ℕ → ℕ → ℕ → List ℕ
aggregator_flows_text j s conversations agg =
    flat_map (λ conv. flow_line s agg conv (flow_of_system (side_of s) agg conv j)) (range_with_len 0 conversations)

-- the lines of all conversations of system s, which has this many aggregators, each with this many conversations
abbrev pub flows_text : WorldState → ℕ → ℕ → ℕ → List ℕ
flows_text j s aggs conversations = flat_map (aggregator_flows_text j s conversations) (range_with_len 1 aggs)

-- the lines of all conversations of system 1, then of system 2; each system has the aggregators and the conversations of
-- its configuration
abbrev pub both_flows_text : WorldState → List Config → List ℕ
both_flows_text j (a ∷ b ∷ []) =
    flows_text j 1 (length a.aggregators.items) a.conversations ++ flows_text j 2 (length b.aggregators.items) b.conversations
both_flows_text j _ = []

-- the report of these events with these replies, after which the world is this one
abbrev pub replay_report : List Config → List Event → List Reply → WorldState → List ℕ
replay_report systems events replies j = entries_text 1 events replies ++ (agreements_text j ++ both_flows_text j systems)

-- a cable before any event: whole and empty, with this limit in each direction
abbrev pub empty_link : ℕ × ℕ → Option ℕ → LinkState
empty_link ends limit =
    record { one = ends.0; two = ends.1; whole = true; to_one = []; to_two = []; limit_one = limit; limit_two = limit }

-- all cables before any event, each with its limit
abbrev pub empty_links : List (ℕ × ℕ) → List (Option ℕ) → List LinkState
empty_links (ends ∷ rest) (limit ∷ limits) = empty_link ends limit ∷ empty_links rest limits
empty_links _ _ = []

-- These events were run, from the start of two systems and cables with these limits; the world at the end has the facts
-- that the theorem proves.
pub record IsRunFromStart (gives : Algorithms) (config : WorldConfig) (limits : List (Option ℕ))
    (events : List Event) (replies : List Reply)
    (to : WorldState) : Type 0 where
  pub from : WorldState
  pub systems : AreFirst config.systems from
  pub links : from.links ≡ empty_links config.cables.items limits
  pub acted : from.acted ≡ 0
  pub runs : WorldRuns gives from events replies to
  pub sound : IsSound to

-- the report of a run of these events
pub record IsReplayReport (gives : Algorithms) (config : WorldConfig) (limits : List (Option ℕ)) (events : List Event)
    (report : List ℕ) : Type 0 where
  pub replies : List Reply
  pub to : WorldState
  pub played : IsRunFromStart gives config limits events replies to
  pub says : report ≡ replay_report config.systems events replies to

-- the report of the script in a text
pub record IsReportOfScript (gives : Algorithms) (text report : List ℕ) : Type 0 where
  pub plan : Plan
  pub has : HasPlan text (plan_value plan)
  pub is_report : IsReplayReport gives plan.config plan.limits.items plan.events.items report

-- the text is no script, with this fault
abbrev pub HasNoScript : List ℕ → ScriptFault → Type 0
HasNoScript text fault = (fault ≡ script.NoMemory → ⊥) × IsRefused text fault

-- what `replay` returns and has written: the whole report, a beginning of it, or nothing
abbrev pub Replays : {W : Type 0} → (W → Option (List ℕ)) → Algorithms → List ℕ → SinkState W → SinkState W → Result ⊤ ToolFault → Type 0
Replays contents gives text old new (Ok done) = (report : List ℕ) × IsReportOfScript gives text report × WritesWhole contents old new report
Replays contents gives text old new (Err Write) = (report : List ℕ) × IsReportOfScript gives text report
    × WritesPart contents old new report
Replays contents gives text old new (Err NoMemory) = new ≡ old
Replays contents gives text old new (Err (Script fault)) = HasNoScript text fault × (new ≡ old)
Replays contents gives text old new (Err Read) = ⊥
Replays contents gives text old new (Err NotHex) = ⊥
Replays contents gives text old new (Err NotMac) = ⊥
