-- The names that proofs of this crate import, passed on from one place. Declares nothing; tools/maintain/proof-imports writes it.
pub use Rattle.std.proofs.Common.{All, Bool, IsSomeAnd, IsTrue, List, None, Option, Some, [], ap, arith, cond, drop, false, filter, find, get_or}
pub use Rattle.std.proofs.Common.{if◌then◌else◌, inl, inr, length, map, nat_lt, not, option_map, refl, rules, slice_get, slice_index, subst, suc, sym}
pub use Rattle.std.proofs.Common.{take, take_all, true, zero, ℕ, ◌&&◌, ◌+◌, ◌-◌, ◌<◌, ◌==◌, ◌||◌, ◌↔◌, ◌∙◌, ◌∷◌, ◌≡◌, ◌≢◌, ◌≤◌, ◌⊎◌}
pub use Rattle.std.proofs.lemmas.Bool.{and_from, and_parts, not-true, or_parts}
pub use Rattle.std.proofs.lemmas.Bool.Decides.{nat_tests}
pub use Rattle.std.proofs.lemmas.List.{get_or-map, get_or-replicate, length-take-le}
pub use Rattle.std.specs.List.{AllByRecursion, AllPairs, IsAllAdjacentAnswer, enumerate_from, list_all, list_any}
pub use Rattle.std.specs.Ordering.{is_lt}
pub use Rattle.std.specs.Prelude.{IfSome, slice_index_or}
pub use Rattle.lagtypes.specs.declared.identifiers.AggId.{AggId}
pub use Rattle.lagtypes.specs.declared.party.Choice.TheVariants.{Standby, Unselected}
pub use Rattle.lagtypes.specs.Group.{SamePair, end_of, group_of, individual}
pub use Rattle.lagtypes.specs.Order.{end_cmp, port_cmp}
pub use Rattle.lagtypes.specs.Same.{same_group, same_system}
pub use Rattle.lagtypes.proofs.SameLemmas.{exact_group, exact_system, group-itself, itself, system-itself}
pub use Rattle.selection.specs.declared.standings.Standing.TheVariants.{Empty, Joinable, Taken}
pub use Rattle.selection.specs.declared.view.PortView.{PortView}
pub use Rattle.selection.specs.Choice.{aggregator_of_entry, chosen_for_view, chosen_if_eligible, has_group_of, has_no_occupant, has_occupant, lowest}
pub use Rattle.selection.specs.Choice.{lowest_from, occupants, occupants_share_group, or_else, ports_that_chose}
pub use Rattle.selection.specs.Joining.{HasNoOccupant, IsOccupant, MayJoin, OccupantsShareGroup, ends}
pub use Rattle.selection.specs.Limits.{AggregatorsValue, IsNext, better_row, has_room, is_before, lowest_standby_from, next_standby_index}
pub use Rattle.selection.specs.Limits.{next_standby_row, row_index}
pub use Rattle.selection.specs.Standing.{Tells, aggregator_after, has_side, standing, with_occupant, with_port}
pub use Rattle.selection.specs.Views.{find_view, has_chosen, is_detached, is_eligible, numbers, occupies, stands_by}
