-- The names that proofs of this crate import, passed on from one place. Declares nothing; tools/maintain/proof-imports writes it.
pub use Rattle.std.proofs.Common.{Bool, Err, IfOk, List, None, Ok, Option, Result, Some, [], ap, append-nil, append_assoc, arith, cond, drop, eq-eqb}
pub use Rattle.std.proofs.Common.{eqb, eqb-true, false, get_or, if◌then◌else◌, inl, inr, is_some, length, map, min, nat_lt, not, option_map, position}
pub use Rattle.std.proofs.Common.{refl, replicate, rules, slice_get, slice_index, slice_set, subst, suc, sym, take, true, zero, ℕ, ◌&&◌, ◌*◌, ◌++◌}
pub use Rattle.std.proofs.Common.{◌+◌, ◌-◌, ◌/◌, ◌<◌, ◌==◌, ◌^◌, ◌∙◌, ◌∷◌, ◌≡◌, ◌≢◌, ◌≤◌, ◌⊎◌}
pub use Rattle.std.proofs.Math.Seq.{drop-length, set_out, take-length}
pub use Rattle.std.proofs.lemmas.Bool.{and_parts, cases_Bool, cases_lt, eqb-false, false≢true}
pub use Rattle.std.proofs.lemmas.Bool.Decides.{eqb_tells, nat_tests}
pub use Rattle.std.proofs.lemmas.Grind.{common_steps, flat_map-append, get_or_default_zero}
pub use Rattle.std.proofs.lemmas.List.{drop_all, drop_more, get_or-set_other, get_or-set_same, length-drop, length-map, length-take, map-append}
pub use Rattle.std.proofs.lemmas.List.{map-set, take_all, take_more}
pub use Rattle.std.proofs.lemmas.List.Sums.{sum-map, sum_by-cons, sum_by-le-sum_by, sum_by-set}
pub use Rattle.std.proofs.lemmas.Option.{none-some, same_Some}
pub use Rattle.std.specs.List.{AllByRecursion, flat_map, position_or_len}
pub use Rattle.std.specs.Prelude.{Contains, IfErr, IfSome, IsSome, is_none, nat_le, option_to_list, slice_index_or, sum, sum_by, ◌||◌}
pub use Rattle.circular_buffer.specs.Buffer.{Buffer, buffer}
pub use Rattle.lagtypes.specs.declared.identifiers.AggId.{AggId}
pub use Rattle.lagtypes.specs.declared.identifiers.Key.{Key}
pub use Rattle.lagtypes.specs.declared.identifiers.SystemId.{SystemId}
pub use Rattle.slowpdu.specs.Pdus.{ReadsPdu}
pub use Rattle.slowpdu.proofs.LayoutLemmas.{all-append}
pub use Rattle.lagmodel.specs.Law.{IsSubsequence as IsSubsequenceOfSerials, Members, OnItsCable}
pub use Rattle.lagmodel.specs.Move.{Act, AllAllowed, ConversationMove, ConversationMoveAllowed, DistributorMove, Flow, LawfulMoves, Port, Restart}
pub use Rattle.lagmodel.specs.Move.{Sends, Sends_frame, Took, act_of_port, acts, conversation_after, flushed, view_after, view_after_all}
pub use Rattle.lagmodel.specs.View.{Conversation, DistributorFacts, Flushing, LacpMessage, ModelCall, PortFacts, SystemSetup, View, at_conversation}
pub use Rattle.lagmodel.specs.View.{conversation_port, first_view}
pub use Rattle.lagmodel.specs.World.{Side, TakenLacpdu, World, WorldSetup, party_at}
pub use Rattle.distributor.specs.declared.assignment.Assignment.{Assignment}
pub use Rattle.distributor.specs.declared.assignment.Assignment.TheVariants.{Free, On, Wanted}
pub use Rattle.distributor.specs.Calls.{PicksIndexes, is_among}
pub use Rattle.distributor.specs.Conversations.{Table, assignment_of, next_identifier}
pub use Rattle.distributor.specs.Moves.{model_conversation, model_distributor}
pub use Rattle.lagsystem.specs.declared.config.Config.{Config}
pub use Rattle.lagsystem.specs.declared.config.PortConfig.{PortConfig}
pub use Rattle.lagsystem.specs.declared.drive.Reply.{Reply}
pub use Rattle.lagsystem.specs.declared.fault.SystemFault.{SystemFault}
pub use Rattle.lagsystem.specs.declared.system_ports.SystemPort.{SystemPort}
pub use Rattle.lagsystem.specs.Assigning.{OffersConversation, OffersIf, TakesPort, frame_of_conversation}
pub use Rattle.lagsystem.specs.Calls.{Call, Configure, Force, Move_conversation, Offer, Receive, Set_link, ThenSettles, Tick, Transmit}
pub use Rattle.lagsystem.specs.Drives.{Drives, call_of}
pub use Rattle.lagsystem.specs.First.{IsConfigured, IsFirst, configured_number}
pub use Rattle.lagsystem.specs.ModelView.{EffectsSeenAs, JoinedByLawfulMoves, configured_party, lacp_message, model_port, model_setup, model_view}
pub use Rattle.lagsystem.specs.ModelView.{model_view_at, selected_number}
pub use Rattle.lagsystem.specs.Offers.{GivesAssignment, GivesOrRefuses, MayBeOffered, MayBeOfferedTo, has_aggregator, in_system, is_frame_length}
pub use Rattle.lagsystem.specs.Offers.{system_force_result, system_move_result}
pub use Rattle.lagsystem.specs.Readers.{aggregator_numbered, conversation_count, conversation_in, distributing, number_of_conversation}
pub use Rattle.lagsystem.specs.Sound.{CallPromise, IsSound, PortsAgree}
pub use Rattle.lagsystem.specs.State.{SystemState, machines_of, port_index, port_numbers, system_port_at, with_system_ports, with_table}
pub use Rattle.lagsystem.proofs.AssigningLemmas.{framed}
pub use Rattle.dataplane.specs.declared.active.choosing.Rank.{Rank}
pub use Rattle.dataplane.specs.declared.balance.moves.Carried.{Carried}
pub use Rattle.dataplane.specs.declared.balance.moves.Move.{Move}
pub use Rattle.dataplane.specs.declared.holding.refusal.Refusal.{Refusal}
pub use Rattle.dataplane.specs.declared.resuming.SavedPort.{SavedPort}
pub use Rattle.dataplane.specs.declared.warming.Moment.TheVariants.{Before, Leading}
pub use Rattle.dataplane.specs.Adopting.{Adoption, Adopts, IsFreeIn, IsPlaced, IsWarmStart, WasTakenLast, adopt_result, adopted}
pub use Rattle.dataplane.specs.Arrivals.{at_places}
pub use Rattle.dataplane.specs.Choice.{Carries, IsAggregator, better, group_cmp, is_before, is_other, lesser, rank_cmp, rank_in}
pub use Rattle.dataplane.specs.Ends.{Alike, HasMore, ShowTheSame}
pub use Rattle.dataplane.specs.Holding.{HoldingValue, IsHolding, counted, holding_of, in_all, queue, refusal, ring_at, ring_queues, with_queue}
pub use Rattle.dataplane.specs.Moves.{IsMove, conversation_at, load_on}
pub use Rattle.dataplane.specs.Notes.{is_to_marker, notes_after_all, requester}
pub use Rattle.dataplane.specs.Offers.{IsElsewhere, IsHeldElsewhere, IsInOneAggregator, IsNoOffer, IsNumberElsewhere}
pub use Rattle.dataplane.specs.OneAggregator.{FreeElsewhere, InOneAggregator, NoneOnItsWayElsewhere, SendsNoFrame}
pub use Rattle.dataplane.specs.QueueCalls.{Clear, DropOldest, Dropped, Gone, Next, Put, QueueCall, Sent, accepted, after, gone}
pub use Rattle.dataplane.specs.QueueLaws.{IsSubsequence, IsWithin, after_all, all_accepted, all_dropped, all_gone, all_handed_back, all_sent}
pub use Rattle.dataplane.specs.QueueLaws.{conversation_of, handed_back, handle_of, number_dropped}
pub use Rattle.dataplane.specs.Resuming.{AreFresh, IsBack, IsFirstWithout, IsNotWarmed, IsResumed, IsUnused, IsWarmed, MayRefuse, Runs, calls_of}
pub use Rattle.dataplane.specs.Resuming.{first_touched, is_at_start, is_left_at, is_stale, know_each_other}
pub use Rattle.dataplane.specs.RunsOfMoves.{AllDiffer, CountsOne, IsNew, IsRunOfMoves, moved, squares}
pub use Rattle.dataplane.specs.Warming.{call_if, change_to, count_empty, duration, filled, filled_by, fills, heard, heard_of, individual_frame}
pub use Rattle.dataplane.specs.Warming.{is_due, is_saved, link_up, occupied, other_starting, others_starting, passing, starting_again, warm_calls}
