-- What single steps of a replay make: its report from the counts of both systems, and cables that are empty.
use Rattle.std.specs.Prelude.{◌≡◌, ℕ, ◌++◌, List, [], ◌∷◌, length, map, Option}
use Rattle.cables.specs.AnyCable.{any_items, any_limit}
use Rattle.cables.specs.declared.any.AnyCable.{AnyCable}
use Rattle.lagsystem.specs.declared.config.Config.{Config}
use Rattle.lagscript.specs.declared.event.Event.{Event}
use Rattle.lagworld.specs.Making.{first_link}
use Rattle.lagworld.specs.State.{WorldState}
use Rattle.lagworld.specs.declared.reply.Reply.{Reply}
use Rattle.lagtool_jobs.specs.ReplayReport.{agreements_text, entries_text, empty_link, flows_text}
use Rattle.lagtool_jobs.specs.declared.flows.Counts.{Counts}

-- the lines of all conversations of system s, which has these counts
abbrev pub flows_with_counts : WorldState → ℕ → Counts → List ℕ
flows_with_counts j s counts = flows_text j s counts.aggregators counts.conversations

-- the report, if the systems have these counts
abbrev pub replay_report_with_counts : Counts → Counts → List Event → List Reply → WorldState → List ℕ
replay_report_with_counts first second events replies j = entries_text 1 events replies
    ++ (agreements_text j ++ (flows_with_counts j 1 first ++ flows_with_counts j 2 second))

-- how many aggregators the system of a configuration has, and how many conversations each of them has
abbrev pub counts_of : Config → Counts
counts_of config = record { aggregators = length config.aggregators.items; conversations = config.conversations }

-- the counts of two systems
abbrev pub AreCounts : Counts → Counts → List Config → Type 0
AreCounts first second (a ∷ b ∷ []) = (first ≡ counts_of a) × (second ≡ counts_of b)
AreCounts first second _ = ⊥

-- one pair for each limit: the two directions of a cable (an AnyCable is one direction), both empty and with that
-- limit; the ends do not matter here, so (0, 0) stands for them
abbrev pub AreEmptyDirections : List (Option ℕ) → List (AnyCable × AnyCable) → Type 0
AreEmptyDirections limits lines = map (first_link any_items any_limit (0, 0)) lines ≡ map (empty_link (0, 0)) limits
