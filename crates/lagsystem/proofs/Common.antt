-- The names that proofs of this crate import, passed on from one place. Declares nothing; tools/maintain/proof-imports writes it.
pub use Rattle.std.proofs.Common.{All, Bool, Bor, Err, IfOk, IsSome, IsSomeAnd, List, None, Ok, Option, Result, Some, [], add-one, ap, append-nil}
pub use Rattle.std.proofs.Common.{append_assoc, ap₂, arith, cond, drop, eq-eqb, eqb, eqb-true, false, filter, find, get_or, if◌then◌else◌, inl, inr}
pub use Rattle.std.proofs.Common.{is_some, length, length-append, length-drop, ltb, map, nat_le, nat_lt, not, option_map, position, refl, replicate}
pub use Rattle.std.proofs.Common.{set, slice_get, slice_index, slice_set, subst, suc, sym, take, take_all, true, vec_capacity, vec_len, zero, ℕ, ◌%◌}
pub use Rattle.std.proofs.Common.{◌&&◌, ◌*◌, ◌++◌, ◌+◌, ◌-◌, ◌/◌, ◌<◌, ◌==◌, ◌^◌, ◌||◌, ◌∙◌, ◌∷◌, ◌≡◌, ◌≢◌, ◌≤◌, ◌⊎◌}
pub use Rattle.std.proofs.lemmas.Bool.{OnFalse_at, OnFalse_from, OnTrue_at, and_from, and_left, and_parts, and_right, cases_Bool, cases_eq, cases_lt}
pub use Rattle.std.proofs.lemmas.Bool.{cond-true, false≢true, le-leb, leb-true, lt-leb, lt-ltb, ltb-true, not-false, not-true, not_from_true}
pub use Rattle.std.proofs.lemmas.Bool.{or_parts, true≢false}
pub use Rattle.std.proofs.lemmas.Bool.Decides.{Decides-eqb, nat_tests}
pub use Rattle.std.proofs.lemmas.List.{get_or-map, get_or-replicate, get_or-set_other, get_or-set_same, get_or_past, length-map, length-set}
pub use Rattle.std.proofs.lemmas.List.{length-take-le, map-append, take_more, with_items_is}
pub use Rattle.std.proofs.lemmas.List.Folds.{list_any_none}
pub use Rattle.std.proofs.lemmas.List.Quantifiers.{position-Some}
pub use Rattle.std.proofs.lemmas.List.Sums.{fails_before_first, position_or_len_is}
pub use Rattle.std.proofs.lemmas.Option.{get_or_from_slice_get, none-some, same_Some, slice_get-get_or, slice_get_past}
pub use Rattle.std.specs.Bool.{IsFalse, OnFalse, OnTrue}
pub use Rattle.std.specs.List.{AllByRecursion, AllZip, enumerate_from, list_all, list_any, position_or_len}
pub use Rattle.std.specs.List.Sorted.{IsStrictlyIncreasing}
pub use Rattle.std.specs.Prelude.{bit_and, bit_xor, option_to_list}
pub use Rattle.std.specs.Vec.{with_items}
pub use Rattle.lagtypes.specs.declared.identifiers.AggId.{AggId}
pub use Rattle.lagtypes.specs.declared.identifiers.Key.{Key}
pub use Rattle.lagtypes.specs.declared.identifiers.SystemId.{SystemId}
pub use Rattle.lagtypes.specs.declared.party.Choice.{Choice}
pub use Rattle.lagtypes.specs.declared.party.Choice.TheVariants.{Selected, Standby, Unselected}
pub use Rattle.lagtypes.specs.declared.party.Party.{Party}
pub use Rattle.lagtypes.specs.declared.state.StateBits.{StateBits}
pub use Rattle.lagtypes.specs.Choices.{is_selected, is_standby, is_unselected}
pub use Rattle.lagtypes.specs.Group.{SamePair, individual}
pub use Rattle.lagtypes.specs.Same.{same_party, same_system}
pub use Rattle.lagtypes.specs.States.{bits_of, with_synchronization, with_timeout}
pub use Rattle.lagtypes.proofs.SameLemmas.{exact_party, exact_system, itself}
pub use Rattle.lagtypes.proofs.StateLemmas.{encode_then_decode}
pub use Rattle.lagtypes.proofs.WritingLemmas.{SoFar, SoFar-all, SoFar-more}
pub use Rattle.slowpdu.specs.declared.pdu.Info.{Info}
pub use Rattle.slowpdu.specs.declared.pdu.Lacpdu.{Lacpdu}
pub use Rattle.slowpdu.specs.declared.pdu.Marker.{Marker}
pub use Rattle.slowpdu.specs.declared.pdu.Pdu.{Pdu}
pub use Rattle.slowpdu.specs.Faults.{fault_of}
pub use Rattle.slowpdu.specs.Frames.{IsFrameOfKind, IsSlowProtocolsFrame, frame_octets, slow_type}
pub use Rattle.slowpdu.specs.Layout.{HoldsNumber, IsAddress, read_field}
pub use Rattle.slowpdu.specs.Markers.{answer_of, response_to}
pub use Rattle.slowpdu.specs.Parties.{party_of}
pub use Rattle.slowpdu.specs.Pdus.{ReadsPdu, WritesPdu}
pub use Rattle.slowpdu.proofs.PduLemmas.{no_fault, one_pdu, one_written}
pub use Rattle.slowpdu.proofs.WritingLemmas.{framed_payload, framed_slow}
pub use Rattle.lagmodel.specs.Bridge.{AreNumbered, find_number, ports_of}
pub use Rattle.lagmodel.specs.Law.{Members}
pub use Rattle.lagmodel.specs.Move.{Act, ConversationMove, Distributes, DistributorMoves, LawfulMoves, Move, PortAllowed, PortMove, Sends_frame}
pub use Rattle.lagmodel.specs.Move.{Sends as Shows, Took, pair_at, port_act, port_after}
pub use Rattle.lagmodel.specs.View.{Conversation, DistributorFacts, IsSystemSetup, Lacp, ControlMessage as Message, ModelCall, PortFacts, SystemSetup}
pub use Rattle.lagmodel.specs.View.{ModelCall as Told, LacpMessage as Told_lacpdu, Receive as Told_receive, View, at_port, first_port, first_view}
pub use Rattle.lagmodel.specs.View.{replies_frame, zero_party}
pub use Rattle.lagmodel.proofs.Base.{cond_false, cond_true, mapped_some, chosen as whichever}
pub use Rattle.lagmodel.proofs.Calls.{members_call}
pub use Rattle.lagmodel.proofs.Ports.{group_sym, individual_along, members_first, one_partner}
pub use Rattle.lagmodel.proofs.Uses.{find_at, flows_weaker, moves_at, moves_flows, moves_joined, moves_port, numbered_set, ports_set}
pub use Rattle.portmachines.specs.declared.mux.MuxState.{MuxState}
pub use Rattle.portmachines.specs.declared.mux.MuxState.TheVariants.{Attached, CollectingDistributing, Detached, Waiting}
pub use Rattle.portmachines.specs.declared.port.Setup.{Setup, Setup as Start}
pub use Rattle.portmachines.specs.declared.receive.ReceiveState.{ReceiveState}
pub use Rattle.portmachines.specs.declared.receive.ReceiveState.TheVariants.{Current, Defaulted, Expired, Initialize, PortDisabled}
pub use Rattle.portmachines.specs.Calls.{PortCall, Tick as PortTick}
pub use Rattle.portmachines.specs.Machines.{Machines}
pub use Rattle.portmachines.specs.Mux.{is_synchronized, mux_rows, partner_synchronized, same_mux_state, selected}
pub use Rattle.portmachines.specs.Periodic.{RunsPeriodic, periodic_rows}
pub use Rattle.portmachines.specs.Receive.{default_partner, lacpdu_rows, receive_rows, recorded_synchronization, same_receive_state, start_receive}
pub use Rattle.portmachines.specs.Rows.{AtRest, Fires, FiresTimes, Row, RunsToRest}
pub use Rattle.portmachines.specs.Start.{Starts, before_start}
pub use Rattle.portmachines.specs.Transmit.{after_sending, aged, count_down, is_due, pdu_of}
pub use Rattle.portmachines.proofs.Choices.{one_effect, one_mux, one_periodic}
pub use Rattle.portmachines.proofs.Runs.{EachRelates, Fires-relates, Reaches-keeps, Rests-relates}
pub use Rattle.selection.specs.declared.view.PortView.{PortView, PortView as Seen}
pub use Rattle.selection.specs.Choice.{aggregator_of_entry, chosen_aggregator, chosen_for_view, chosen_if_eligible, has_group_of, has_no_occupant}
pub use Rattle.selection.specs.Choice.{has_occupant, is_aggregator, lowest, occupants, occupants_share_group, or_else, ports_that_chose}
pub use Rattle.selection.specs.Joining.{IsOccupant, MayJoin, ends}
pub use Rattle.selection.specs.Limits.{AggregatorsValue, has_room, is_below, next_standby_index}
pub use Rattle.selection.specs.Ready.{is_ready}
pub use Rattle.selection.specs.Views.{has_chosen, has_waited, is_detached, is_detached_or_waiting, is_eligible, occupies, stands_by}
pub use Rattle.selection.proofs.LimitLemmas.{NoneStandsBy, is_next, none_is_next, nothing_is_next}
pub use Rattle.distributor.specs.declared.assignment.Assignment.{Assignment}
pub use Rattle.distributor.specs.declared.assignment.Assignment.TheVariants.{Flushing, Free, On, Wanted}
pub use Rattle.distributor.specs.declared.fault.DistFault.{DistFault}
pub use Rattle.distributor.specs.Calls.{Assigns, MaySend, PicksIndexes, PicksPort, force_result, is_among, leave_result, move_result}
pub use Rattle.distributor.specs.Chains.{is_held_on}
pub use Rattle.distributor.specs.Changes.{ChangesAssignments, Marks, SetsAssignment, after_leave, after_mark, after_release, after_tick, marker_due}
pub use Rattle.distributor.specs.Changes.{wants_marker}
pub use Rattle.distributor.specs.Conversations.{IsConversation, Table, assignment_of, count_conversations, first_table, is_conversation_count}
pub use Rattle.distributor.specs.Conversations.{next_identifier, sum_below}
pub use Rattle.distributor.specs.Moves.{NoneDistributes, OnlyListedDistribute, model_conversation, model_distributor}
pub use Rattle.distributor.specs.Waiting.{is_by, sooner, ticks_until_next_wanted, ticks_until_wanted}
pub use Rattle.distributor.proofs.MoveLemmas.{Makes, tick_moves as conversations_tick, down_moves, each_moves, first_flows, force_moves, is_forced}
pub use Rattle.distributor.proofs.MoveLemmas.{is_left, is_moved, leave_one_moves, mark_moves, move_moves, release_moves, send_moves}
pub use Rattle.distributor.proofs.WaitLemmas.{by_first, by_left, by_right, by_second, same_soonest, sooner_assoc, soonest_member}
pub use Rattle.distributor.proofs.WalkLemmas.{same_sum}
pub use Rattle.lagsystem.specs.declared.config.PortChange.{PortChange}
pub use Rattle.lagsystem.specs.declared.config.PortConfig.{PortConfig}
pub use Rattle.lagsystem.specs.declared.drive.Reply.{Reply}
pub use Rattle.lagsystem.specs.declared.fault.BadConfig.{BadConfig}
pub use Rattle.lagsystem.specs.declared.fault.SystemFault.{SystemFault}
pub use Rattle.lagsystem.specs.declared.fault.SystemFault.TheVariants.{NoAggregator, NoPort}
pub use Rattle.lagsystem.specs.declared.received.FrameEffect.{FrameEffect}
pub use Rattle.lagsystem.specs.declared.received.FrameEffect.TheVariants.{Answered, ProcessLacpdu, Response}
pub use Rattle.lagsystem.specs.declared.received.Received.{Received}
pub use Rattle.lagsystem.specs.declared.received.Received.TheVariants.{Disabled, Dropped, Ignored, Released, Respond, TookLacpdu, Up}
pub use Rattle.lagsystem.specs.declared.system_ports.SystemPort.{SystemPort}
pub use Rattle.lagsystem.specs.Assigning.{OffersConversation, OffersIf, TakesPort, frame_of_conversation}
pub use Rattle.lagsystem.specs.Calls.{AlreadyConfigured, AnswersMarker, Call, Carries, ChangesParty, Configure, Data_frame, Faulty, Force}
pub use Rattle.lagsystem.specs.Calls.{FreesIfDown, GivesEffect, IsControlFrame, IsFrame, Move_conversation, Offer, OnlyPortChangesBy, ParsesFrame}
pub use Rattle.lagsystem.specs.Calls.{ParsesPayload, ParsesWhere, Performs, PortAtChangesBy, ProcessesLacpdu, Receive, ReceivedFrame, ReceivesAt}
pub use Rattle.lagsystem.specs.Calls.{RefusesNoPort, Releases, Restart, Runt, Set_link, SetsLink, SetsPortEnabled, Step, TableRun, ThenSettles, Tick}
pub use Rattle.lagsystem.specs.Calls.{Ticks, Transmit, changed_party, choice_with_link, is_own_response, received_of, up_or_dropped}
pub use Rattle.lagsystem.specs.ConversationTables.{TellsRows, has_changed, has_freed, is_busy, port_on}
pub use Rattle.lagsystem.specs.Drives.{Drives, call_of}
pub use Rattle.lagsystem.specs.First.{HasJustStarted, IsConfigured, IsFirst, config_refusal, configured_number, configured_numbers}
pub use Rattle.lagsystem.specs.First.{first_bad_port_number, is_count, is_limit, refusal, refusal_of_limits, setup_of}
pub use Rattle.lagsystem.specs.Forcing.{ForcesFirst, ForcesIfHeld, ForcesIn, ForcesPort, FreesHeld, NoneIsHeldOn, after_forcing, count_held_on}
pub use Rattle.lagsystem.specs.Holding.{WereInUse, after_holding, aggregators_in_use, has_stopped, stopped}
pub use Rattle.lagsystem.specs.Hosts.{would_transmit, would_transmit_at}
pub use Rattle.lagsystem.specs.Inner.{inner_state}
pub use Rattle.lagsystem.specs.Leaving.{system_leave_result, system_rest_result}
pub use Rattle.lagsystem.specs.ModelView.{CallSeenAs, EffectsSeenAs, IsSent, JoinedByLawfulMoves, MuxesConsistent, PortsConsistent, ReceivesAtRest}
pub use Rattle.lagsystem.specs.ModelView.{can_receive, can_receive_in, configured_party, control_message, key_of, lacp_message, marker_message}
pub use Rattle.lagsystem.specs.ModelView.{model_port, model_port_of, model_setup, model_view, model_view_at, mux_consistent, mux_consistent_of}
pub use Rattle.lagsystem.specs.ModelView.{none_enabled, number_of_port, selected_number}
pub use Rattle.lagsystem.specs.NothingToSettle.{HasRecordedActor, IsSamePartner, LooksUnchanged, MuxIsSettled, MuxesAreSettled, PeriodicIsSettled}
pub use Rattle.lagsystem.specs.NothingToSettle.{PeriodicsAreSettled, ProcessesLacpduAndRunsMux, ProcessesLacpduAt}
pub use Rattle.lagsystem.specs.Occupants.{NoneIsNext, OccupantsAgree, WithinLimit, occupied}
pub use Rattle.lagsystem.specs.Offers.{AssignsPort, GivesAssignment, GivesOrRefuses, MayBeOffered, MayBeOfferedTo, Offers, RefusedBy, RefusesFrame}
pub use Rattle.lagsystem.specs.Offers.{RefusesOffer, assignment_of_frame, has_aggregator, in_system, is_frame_length, or_not_assigned}
pub use Rattle.lagsystem.specs.Offers.{system_force_result, system_move_result}
pub use Rattle.lagsystem.specs.OneAnswer.{IsFunction, OneAnswer, OneForcing, OneRun, SameConversations, SameState}
pub use Rattle.lagsystem.specs.Probing.{Probes, ProbesAt, ProbesIf, ProbesLawfully}
pub use Rattle.lagsystem.specs.Promises.{TablePromise}
pub use Rattle.lagsystem.specs.Promoting.{CountsMembers, NextOnlyIfUnselected, count_standby}
pub use Rattle.lagsystem.specs.Quiet.{IsBeyond, NothingIsDue, OnlyCounted, counted, counted_times, fewer, waited}
pub use Rattle.lagsystem.specs.Readers.{aggregator_numbered, collecting, conversation_count, number_of_conversation as conversation_number}
pub use Rattle.lagsystem.specs.Readers.{distributes_in, distributing, number_of_conversation, selected_aggregator, two_octets}
pub use Rattle.lagsystem.specs.Sending.{IsLacpduOf, PortSendsLacpduIfDue, SendsLacpdu, SendsLacpduIfDue, SendsMarker, SendsMarkerOf, TransmitsAt}
pub use Rattle.lagsystem.specs.Sending.{TransmitsIf, own_marker}
pub use Rattle.lagsystem.specs.Settings.{IsAlready, LimitsLinks, OnlyPortBecomes, PortBecomes, SetsPort, Setting, SettingPromise, SettingStep}
pub use Rattle.lagsystem.specs.Settings.{ages_at, in_mode, is_crowded, is_held_so, is_in_mode, is_over, limit_refusal, max_delay_after}
pub use Rattle.lagsystem.specs.Settings.{max_links_after, members_up, with_held}
pub use Rattle.lagsystem.specs.Settling.{ChoosesIn, HoldsConversations, PortChangesBy, PortsChangeBy, PromotesAll, PromotesFirst, PromotesNext}
pub use Rattle.lagsystem.specs.Settling.{PromotesTimes, SettlesPorts, Settling, after_choice_at, after_choices, aggregator_for, choice_for, choice_if}
pub use Rattle.lagsystem.specs.Settling.{choice_in, held_unless_on, is_restless, ready_of, with_choice}
pub use Rattle.lagsystem.specs.Sound.{CallPromise, DistributeAsMuxDoes, HasPorts, HeldUnselected, IsSound, NoneHeld, OnlyOnDistributing, PortsAgree}
pub use Rattle.lagsystem.specs.Sound.{held_apart}
pub use Rattle.lagsystem.specs.State.{SystemState, SystemValue, aggregators_value, machines_of, port_index, port_numbers, system_port_at}
pub use Rattle.lagsystem.specs.State.{with_system_ports, with_table}
pub use Rattle.lagsystem.specs.StatusMeaning.{FindsNoAggregator, FindsNoRoom, HearsPartner, IsDistributing, Says, Waits, WaitsForMember}
pub use Rattle.lagsystem.specs.StatusMeaning.{WaitsForPartner, WaitsIn, meaning}
pub use Rattle.lagsystem.specs.Views.{may_choose, selection_view, stage_of, views}
pub use Rattle.lagsystem.specs.Waiting.{soonest, ticks_in_window, ticks_until_due, ticks_until_due_on, ticks_until_expired, ticks_until_frame}
pub use Rattle.lagsystem.specs.Waiting.{ticks_until_room}
pub use Rattle.lagsystem.specs.Windows.{AgesSince, AtMostThreeAges, EachAtMostThreeAges, KeepsTransmitLimit, StartsWithoutAges, StaysWindowed}
pub use Rattle.lagsystem.specs.Windows.{SystemWindowLaw, WindowFromStart, remembered_sends, sends_after, subtype, tick_after}
