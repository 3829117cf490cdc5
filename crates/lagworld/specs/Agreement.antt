-- How the ends of a cable stand to each other.
use Rattle.std.specs.Prelude.{ℕ, ◌==◌, ◌&&◌, ◌||◌, Bool, false, not, Option, Some, None, option_map, if◌then◌else◌}
use Rattle.std.specs.Option.{unwrap_or}
use Rattle.lagtypes.specs.declared.group.Group.{Group}
use Rattle.lagtypes.specs.Same.{same_group}
use Rattle.portmachines.specs.declared.mux.MuxState.TheVariants.{CollectingDistributing}
use Rattle.portmachines.specs.Mux.{same_mux_state}
use Rattle.lagsystem.specs.Readers.{group_at}
use Rattle.lagsystem.specs.State.{machines_of}
use Rattle.lagworld.specs.declared.agreement.Agreement.{Agreement}
use Rattle.lagworld.specs.declared.agreement.Agreement.TheVariants.{NotBoth, Defaults, Changed, Same, Differ}
use Rattle.lagworld.specs.declared.agreement.EndFacts.{EndFacts}
use Rattle.lagworld.specs.declared.histories.StampedLacpdu.{StampedLacpdu}
use Rattle.lagworld.specs.State.{HalfState, LinkState, WorldState, element_numbered, history_at, change_count_in, taken_in}

-- The values of an end of a cable that are compared: whether it distributes, whether its partner is defaulted, its
-- change count, the LACPDU that it took last, and its group. A port that does not exist does not distribute.
abbrev pub end_facts : HalfState → ℕ → EndFacts
end_facts h p = record {
  distributes = unwrap_or (option_map (λ x. same_mux_state CollectingDistributing x.mux) (machines_of p h.state)) false;
  defaulted = unwrap_or (option_map (λ x. x.defaulted) (machines_of p h.state)) false;
  count = change_count_in (history_at h.histories p);
  taken = taken_in (history_at h.histories p);
  group = option_map group_at (machines_of p h.state);
}

-- the change count of an end is the stamp of the LACPDU that its peer took last
abbrev pub is_stamp : ℕ → Option StampedLacpdu → Bool
is_stamp count None = false
is_stamp count (Some lacpdu) = lacpdu.stamp == count

-- there are two groups, and they are one Link Aggregation Group (6.3.6)
abbrev pub same_groups : Option Group → Option Group → Bool
same_groups (Some a) (Some b) = same_group a b
same_groups _ _ = false

-- the first variant that holds, in this order
abbrev pub first_agreement : Bool → Bool → Bool → Bool → Agreement
first_agreement not_both defaults changed same =
    if not_both then NotBoth else (if defaults then Defaults else (if changed then Changed else (if same then Same else Differ)))

-- how two ends of a cable with these values stand to each other
abbrev pub agreement_of : EndFacts → EndFacts → Agreement
agreement_of a b =
    first_agreement (not (a.distributes && b.distributes)) (a.defaulted
    || b.defaulted) (not (is_stamp a.count b.taken && is_stamp b.count a.taken)) (same_groups a.group b.group)

-- how the ends of the cable with this number stand to each other, if it exists
abbrev pub agreement_at : WorldState → ℕ → Option Agreement
agreement_at j c = option_map (λ (l : LinkState). agreement_of (end_facts j.one l.one) (end_facts j.two l.two)) (element_numbered j.links c)
