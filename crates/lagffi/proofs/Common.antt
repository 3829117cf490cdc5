-- The names that proofs of this crate import, passed on from one place. Declares nothing; tools/maintain/proof-imports writes it.
pub use mathlib.Core.List.{[], ◌++◌, ◌∷◌}
pub use mathlib.Core.Path.{ap, refl, subst, sym, ◌∙◌}
pub use Rattle.std.proofs.Common.{Bool, Err, IfErr, IfOk, IsTrue, List, None, Ok, Option, Result, Some, arith, drop, false, get_or, inr, is_some}
pub use Rattle.std.proofs.Common.{length, length-drop, map, option_map, rules, suc, take, true, vec_capacity, vec_len, zero, ℕ, ◌+◌, ◌<◌, ◌^◌, ◌≡◌}
pub use Rattle.std.proofs.Common.{◌≤◌}
pub use Rattle.std.specs.List.Sorted.{IsStrictlyIncreasing}
pub use Rattle.std.specs.Prelude.{IfSome, MatchOption, OnErr}
pub use Rattle.std_alloc.proofs.BoxSteps.Form.{B, Bx, D, box_typed, word}
pub use Rattle.std_alloc.proofs.BoxSteps.Steps.{box_in, box_out}
pub use Rattle.distributor.specs.Calls.{PicksIndexes, index_by_number}
pub use Rattle.lagsystem.specs.declared.fault.SystemFault.{SystemFault}
pub use Rattle.lagsystem.specs.declared.fault.SystemFault.TheVariants.{NoAggregator, NoPort}
pub use Rattle.lagsystem.specs.Calls.{Call, Offer}
pub use Rattle.lagsystem.specs.Readers.{aggregator_numbered, conversation_count}
pub use Rattle.lagsystem.specs.Sound.{CallPromise}
pub use Rattle.lagffi.specs.declared.values.LagNumber.{LagNumber}
pub use Rattle.lagffi.specs.Algorithms.{gives_by, index_by_sum}
pub use Rattle.lagffi.specs.Asking.{CallsHeldSystem, NotesHeldSystem, OffersToHeldSystem, ReadsHeldSystem, ReadsNotes, by_number_gives}
pub use Rattle.lagffi.specs.Carrying.{OffersFrameInActiveAggregator, OffersNumberInActiveAggregator}
pub use Rattle.lagffi.specs.Lists.{put_first}
pub use Rattle.lagffi.specs.Made.{IsMadeOfLagConfig, lag_key, lag_port_config}
pub use Rattle.lagffi.specs.Masks.{due_on, is_so, mask}
pub use Rattle.lagffi.specs.Numbers.{number, number_of, number_or_refused, number_refused, truth_or_no_port, wrong_buffer_length}
pub use Rattle.lagffi.specs.PortViews.{changed, view_at, views_of}
pub use Rattle.lagffi.specs.ReaderValues.{assignment_or_refused, choice_or_no_port, group_or_no_port, info_or_no_port, lag_marker, lag_wait}
pub use Rattle.lagffi.specs.ReaderValues.{mux_state_or_no_port, party_or_no_port, port_status_or_no_port, receive_state_or_no_port}
pub use Rattle.lagffi.specs.ReaderValues.{standby_or_no_port, state_or_no_port}
pub use Rattle.lagffi.specs.Tables.{OffersByNumber, TellsRowsIf}
