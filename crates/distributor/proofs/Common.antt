-- The names that proofs of this crate import, passed on from one place. Declares nothing; tools/maintain/proof-imports writes it.
pub use Rattle.std.proofs.Common.{Bool, Err, List, None, Ok, Option, Some, [], ap, append-nil, append_assoc, arith, cond, eq-eqb, eqb, eqb-true}
pub use Rattle.std.proofs.Common.{false, get_or, inl, inr, length, ltb, map, nat_lt, refl, replicate, rules, set, subst, suc, sym, take, true, zero}
pub use Rattle.std.proofs.Common.{ℕ, ⊎_elim, ◌%◌, ◌&&◌, ◌*◌, ◌++◌, ◌+◌, ◌-◌, ◌/◌, ◌<◌, ◌^◌, ◌||◌, ◌∙◌, ◌∷◌, ◌≡◌, ◌≤◌, ◌⊎◌}
pub use Rattle.std.proofs.lemmas.Bool.{OnFalse_at, and_from, and_left, and_parts, and_right, cases_Bool, cases_eq, cond-false, cond-true, eqb-false}
pub use Rattle.std.proofs.lemmas.Bool.{false≢true, lt-ltb, ltb-false, ltb-true, ne_eqb, or_left}
pub use Rattle.std.proofs.lemmas.List.{ext_get_or, get_or-map, get_or-replicate, get_or-set_other, get_or-set_same, get_or_past, get_or_read}
pub use Rattle.std.proofs.lemmas.List.{length-map, length-replicate, length-set, replicate-append-replicate, set-set, take-replicate}
pub use Rattle.std.proofs.lemmas.Nat.{div-mul-add, mod-mul-add, mod_below, same_from_place}
pub use Rattle.std.proofs.lemmas.Slice.{overwrites, take-put_mid}
pub use Rattle.std.specs.Prelude.{IfSome, is_none}
pub use Rattle.distributor.specs.declared.assignment.Assignment.{Assignment}
pub use Rattle.distributor.specs.declared.assignment.Assignment.TheVariants.{Flushing, Free, Wanted}
pub use Rattle.distributor.specs.declared.change.Change.{Change}
pub use Rattle.distributor.specs.Calls.{MaySend, PicksPort, force_result, index_by_number, is_among, leave_result, move_result, rest_result}
pub use Rattle.distributor.specs.Chains.{IsChained, IsFlagged, Path, assignment_port, chain_of, changed_in_chain, is_flagged, is_flushing, is_held_on}
pub use Rattle.distributor.specs.Chains.{is_in_chain, is_wanted, names_port, occurs, passes, slot_state, tested_port}
pub use Rattle.distributor.specs.Changes.{ChangesAssignments, Marks, SetsAssignment, after_change, after_down, after_leave, after_mark, after_release}
pub use Rattle.distributor.specs.Changes.{after_tick, awaits_response, wants_marker}
pub use Rattle.distributor.specs.Conversations.{Table, assignment_of, count_conversations, first_table, slot_index, sum_below}
pub use Rattle.distributor.specs.Waiting.{is_by, sooner, ticks_until_wanted}
