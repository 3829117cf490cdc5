-- The names that proofs of this crate import, passed on from one place. Declares nothing; tools/maintain/proof-imports writes it.
pub use Rattle.std.proofs.Common.{Bool, Err, IfErr, IfOk, IsSome, List, None, Ok, Option, Result, Some, [], ap, append_assoc, arith, bytes_eq, cond}
pub use Rattle.std.proofs.Common.{drop, eqb, eqb-true, false, filter, find, get_or, if◌then◌else◌, inl, inr, is_some, length, ltb, map, nat_le}
pub use Rattle.std.proofs.Common.{nat_lt, not, option_map, position, refl, slice_get, slice_set, subst, suc, sym, take, true, zero, ℕ, ◌&&◌, ◌++◌}
pub use Rattle.std.proofs.Common.{◌+◌, ◌-◌, ◌<◌, ◌==◌, ◌^◌, ◌||◌, ◌∙◌, ◌∷◌, ◌≡◌, ◌≢◌, ◌≤◌, ◌⊎◌}
pub use Rattle.std.proofs.lemmas.Bool.{and_parts, cases_Bool, cases_eq, false≢true, true≢false}
pub use Rattle.std.proofs.lemmas.Bool.Decides.{nat_tests}
pub use Rattle.std.proofs.lemmas.List.Quantifiers.{position-Some}
pub use Rattle.std.proofs.lemmas.Option.{none-some, same_Some, slice_get-get_or, slice_get-map, slice_get_cases, slice_get_within}
pub use Rattle.std.specs.Global.{Vec}
pub use Rattle.std.specs.List.{AllByRecursion, enumerate_from, list_all, list_any, position_or_len}
pub use Rattle.std.specs.Prelude.{IsErrAnd, unwrap_or}
pub use Rattle.lagtypes.specs.declared.identifiers.AggId.{AggId}
pub use Rattle.lagtypes.specs.declared.identifiers.Key.{Key}
pub use Rattle.lagtypes.specs.declared.identifiers.SystemId.{SystemId}
pub use Rattle.lagtypes.specs.declared.party.Choice.{Choice}
pub use Rattle.lagtypes.specs.declared.party.Choice.TheVariants.{Selected, Standby, Unselected}
pub use Rattle.lagtypes.specs.declared.party.Party.{Party}
pub use Rattle.lagtypes.specs.declared.state.State.{State}
pub use Rattle.lagtypes.specs.declared.state.StateBits.{StateBits}
pub use Rattle.lagtypes.specs.Choices.{is_selected, is_unselected}
pub use Rattle.lagtypes.specs.Group.{Pair, SamePair, end_of as group_end, group_of, individual, pair_of}
pub use Rattle.lagtypes.specs.Same.{same_group, same_party, same_system}
pub use Rattle.lagtypes.specs.States.{bits_of, with_synchronization, with_timeout}
pub use Rattle.lagtypes.proofs.SameLemmas.{exact_party, exact_system, group-itself, itself, party_itself, system-itself}
pub use Rattle.lagtypes.proofs.StateLemmas.{encode_then_decode}
pub use Rattle.slowpdu.specs.declared.pdu.Info.{Info}
pub use Rattle.slowpdu.specs.declared.pdu.Lacpdu.{Lacpdu}
pub use Rattle.slowpdu.specs.declared.pdu.Marker.{Marker}
pub use Rattle.slowpdu.specs.declared.pdu.MarkerKind.TheVariants.{Information, Response}
pub use Rattle.slowpdu.specs.declared.pdu.Pdu.{Pdu}
pub use Rattle.slowpdu.specs.Parties.{party_of}
pub use Rattle.slowpdu.specs.Readings.{pdu_in}
pub use Rattle.slowpdu.proofs.LayoutLemmas.{all-append}
pub use Rattle.slowpdu.proofs.PduLemmas.{no_fault, one_pdu, written_pdu}
pub use Rattle.lagmodel.specs.World.{Ends, IsCabling, IsWorldSetup, Message, One, Side, TakenLacpdu, Two, World, WorldSetup, at_cable, end_at}
pub use Rattle.lagmodel.specs.World.{first_world, peer, with_messages}
pub use Rattle.lagmodel.proofs.Base.{cond_false, cond_true, value_of}
pub use Rattle.cables.specs.declared.item.Stamp.{Stamp}
pub use Rattle.portmachines.specs.declared.mux.MuxState.{MuxState}
pub use Rattle.portmachines.specs.declared.mux.MuxState.TheVariants.{Attached, CollectingDistributing, Waiting}
pub use Rattle.portmachines.specs.declared.port.Setup.{Setup}
pub use Rattle.portmachines.specs.declared.receive.ReceiveState.{ReceiveState}
pub use Rattle.portmachines.specs.declared.receive.ReceiveState.TheVariants.{Current, Defaulted, Expired, Initialize, PortDisabled}
pub use Rattle.portmachines.specs.Machines.{Machines}
pub use Rattle.portmachines.specs.Mux.{is_synchronized, mux_rows, partner_synchronized, same_mux_state, selected}
pub use Rattle.portmachines.specs.Periodic.{RunsPeriodic, is_silent, partner_short, periodic_rows, timer_expired}
pub use Rattle.portmachines.specs.Receive.{default_partner, is_maintained, lacpdu_rows, receive_rows, recorded_synchronization, same_receive_state}
pub use Rattle.portmachines.specs.Receive.{start_receive}
pub use Rattle.portmachines.specs.Rows.{AtRest, RunsToRest}
pub use Rattle.portmachines.specs.Start.{Starts, before_start}
pub use Rattle.portmachines.specs.Transmit.{actor_of, after_sending, count_down, is_due, pdu_of}
pub use Rattle.selection.specs.declared.view.PortView.{PortView}
pub use Rattle.selection.specs.Choice.{aggregator_of_entry, chosen_if_eligible, has_group_of, has_no_occupant, has_occupant, is_aggregator, lowest}
pub use Rattle.selection.specs.Choice.{occupants, occupants_share_group, or_else, ports_that_chose}
pub use Rattle.selection.specs.Limits.{AggregatorsValue, has_room, is_below}
pub use Rattle.selection.specs.Views.{has_chosen, has_waited, is_detached_or_waiting, is_eligible, occupies, stands_by}
pub use Rattle.distributor.specs.declared.assignment.Assignment.{Assignment}
pub use Rattle.distributor.specs.declared.assignment.Assignment.TheVariants.{Flushing, Free, On, Wanted}
pub use Rattle.distributor.specs.Calls.{MaySend, is_among, leave_result}
pub use Rattle.distributor.specs.Changes.{after_mark, after_release, after_tick, marker_due, wants_marker}
pub use Rattle.distributor.specs.Conversations.{IsConversation, Table, assignment_of, count_conversations, next_identifier}
pub use Rattle.lagsystem.specs.declared.config.Config.{Config}
pub use Rattle.lagsystem.specs.declared.config.PortConfig.{PortConfig}
pub use Rattle.lagsystem.specs.declared.drive.HostCall.{HostCall}
pub use Rattle.lagsystem.specs.declared.drive.HostReply.{HostReply}
pub use Rattle.lagsystem.specs.declared.drive.Reply.{Reply as Answer}
pub use Rattle.lagsystem.specs.declared.fault.SystemFault.{SystemFault}
pub use Rattle.lagsystem.specs.declared.received.Received.{Received}
pub use Rattle.lagsystem.specs.declared.received.Received.TheVariants.{TookLacpdu, Up}
pub use Rattle.lagsystem.specs.declared.system_ports.SystemPort.{SystemPort}
pub use Rattle.lagsystem.specs.Assigning.{OffersIf}
pub use Rattle.lagsystem.specs.Calls.{Call, Carries, ChangesParty, Configure, Data_frame, Faulty, Force, GivesEffect, IsFrame, Move_conversation}
pub use Rattle.lagsystem.specs.Calls.{Offer, OnlyPortChangesBy, ParsesWhere, Performs, ProcessesLacpdu, Receive, ReceivedFrame, ReceivesAt, Releases}
pub use Rattle.lagsystem.specs.Calls.{Restart, Runt, Set_link, SetsLink, SetsPortEnabled, Step, TableRun, ThenSettles, Tick, Ticks, Transmit}
pub use Rattle.lagsystem.specs.Calls.{changed_party, choice_with_link, is_own_response}
pub use Rattle.lagsystem.specs.Drives.{Drives, call_of}
pub use Rattle.lagsystem.specs.First.{IsFirst, config_value, configured_numbers, or_first}
pub use Rattle.lagsystem.specs.HostCalls.{HostPromise, HostRun}
pub use Rattle.lagsystem.specs.ModelView.{IsSent, can_receive, can_receive_in, key_of, model_port_of, model_setup, model_view, none_enabled}
pub use Rattle.lagsystem.specs.ModelView.{number_of_port}
pub use Rattle.lagsystem.specs.NothingToSettle.{MuxIsSettled, PeriodicIsSettled}
pub use Rattle.lagsystem.specs.Occupants.{OccupantsAgree, occupied}
pub use Rattle.lagsystem.specs.Offers.{GivesOrRefuses, MayBeOffered, assignment_of_frame, in_system, system_move_result}
pub use Rattle.lagsystem.specs.Probing.{ProbesAt, ProbesIf}
pub use Rattle.lagsystem.specs.Readers.{aggregator_numbered, collecting, distributes_in, distributing, group_at, number_of_conversation}
pub use Rattle.lagsystem.specs.Readers.{selected_aggregator}
pub use Rattle.lagsystem.specs.Sending.{IsLacpduOf, SendsLacpdu, SendsMarkerOf, TransmitsAt, TransmitsIf, own_marker}
pub use Rattle.lagsystem.specs.Settings.{Hold_port, Set_max_delay, Set_max_links, Set_mode, SetsPort, Setting, SettingPromise, SettingStep, in_mode}
pub use Rattle.lagsystem.specs.Settings.{is_held_so, is_in_mode, with_held}
pub use Rattle.lagsystem.specs.Settling.{ChoosesIn, PortsChangeBy, PromotesNext, Settling, aggregator_for, choice_for, choice_if, choice_in}
pub use Rattle.lagsystem.specs.Settling.{held_unless_on, ready_of, with_choice}
pub use Rattle.lagsystem.specs.Sound.{CallPromise, HasPorts, IsSound, NoneHeld, PortsAgree}
pub use Rattle.lagsystem.specs.State.{SystemState, aggregators_value, machines_of, port_index, port_numbers, with_system_ports, with_table}
pub use Rattle.lagsystem.specs.Views.{may_choose, selection_view, stage_of, views}
pub use Rattle.lagsystem.proofs.Effects.{named}
pub use Rattle.lagsystem.proofs.HeldPorts.{Step-free, first_free}
pub use Rattle.lagsystem.proofs.HostCallLemmas.{IsOther, TableAlone, agrees_beside, host_alone}
pub use Rattle.lagsystem.proofs.Keeps.{Keeps, Step-frame, given_number, keeps_link, keeps_place, keeps_tick, numbers_set, ports_table}
pub use Rattle.lagsystem.proofs.Keeps.{promoted_numbers, settling_in, settling_keeps, settling_parts, zip_numbers}
pub use Rattle.lagsystem.proofs.Limiting.{next_stands}
pub use Rattle.lagsystem.proofs.NoneLeft.{takes_is}
pub use Rattle.lagsystem.proofs.OneFrame.{effect_one}
pub use Rattle.lagsystem.proofs.Performed.{TableChanges, processes_or_stays, table_changes}
pub use Rattle.lagsystem.proofs.PromotionLemmas.{choices_keep, promotions_keep}
pub use Rattle.lagsystem.proofs.Rest.{becomes_slots, can_receive_at_rest, last_slots, offers_slots, rests}
pub use Rattle.lagsystem.proofs.Rising.{Rises, all-get, all-set, are_numbered, found_place, ports_rise}
pub use Rattle.lagsystem.proofs.SettingsKeep.{setting_sound}
pub use Rattle.lagsystem.proofs.SettlingLemmas.{RunsReady, set_same}
pub use Rattle.lagsystem.proofs.Sound.{Step-sound, agrees, first_sound}
pub use Rattle.lagscript.specs.declared.event.Event.{Event}
pub use Rattle.lagworld.specs.declared.agreement.Agreement.TheVariants.{Same}
pub use Rattle.lagworld.specs.declared.fault.WorldFault.{WorldFault}
pub use Rattle.lagworld.specs.declared.histories.PortHistory.{PortHistory}
pub use Rattle.lagworld.specs.declared.reply.Reply.{Reply}
pub use Rattle.lagworld.specs.Agreement.{agreement_at, agreement_of, end_facts, is_stamp, same_groups}
pub use Rattle.lagworld.specs.Events.{AfterOffer, AfterReceive, AfterTransmit, Algorithms, DeliversFrom, InHalf, WorldEmits, WorldReceives, WorldRuns}
pub use Rattle.lagworld.specs.Events.{WorldSteps, cause, cause_or_no_memory, first_event_cause, has_cable, has_system, may_take_memory, most_events}
pub use Rattle.lagworld.specs.Events.{offered_item, sent_reply, set_last_lacpdu, side_of, stamp_for, stamped_in, transmitted_item, with_frame_counted}
pub use Rattle.lagworld.specs.Events.{with_item_sent, with_link_at, with_stamp_collected}
pub use Rattle.lagworld.specs.HalfCalls.{HalfAnswers, HalfForces, HalfMoves, HalfTicks, forced_if_accepted, set_taken}
pub use Rattle.lagworld.specs.Making.{AreFirst}
pub use Rattle.lagworld.specs.Messages.{payload_in, stamp_count}
pub use Rattle.lagworld.specs.ModelWorld.{link_ends, world_setup}
pub use Rattle.lagworld.specs.Readers.{ends_of_cable, ports_joined}
pub use Rattle.lagworld.specs.Sound.{IsStart, IsSound as IsWorldSound, RefusesNext, both_algorithms, next_of}
pub use Rattle.lagworld.specs.State.{HalfState, ItemValue, LinkState, WorldState, accepts, accepts_at, change_count_in, change_link, emptied, half}
pub use Rattle.lagworld.specs.State.{history_at, is_accepted, limit_towards, link_at, link_index, port_at, put_on_port, sent_on, taken_in, towards}
pub use Rattle.lagworld.specs.State.{with_half, with_links, with_towards}
pub use Rattle.lagworld.proofs.Arrives.{count_heard, read_log}
pub use Rattle.lagworld.proofs.Cables.{end_is, mapped_set, put_ends, set_elsewhere, set_here}
pub use Rattle.lagworld.proofs.Sides.{half_there, position_there}
pub use Rattle.lagworld.proofs.Starts.{start_sound}
pub use Rattle.laghosts.specs.HostEvents.{AfterNumberedOffer, AfterProbe, CountsHeldIfOk, ForcesPort, HalfTells, HostEvent, HostRuns, HostSteps}
pub use Rattle.laghosts.specs.HostEvents.{Leaves, Offers, Plays, Probes, Rests, Sets, numbered_item}
pub use Rattle.laghosts.proofs.HostHeadline.{hosts_keep_headline}
pub use Rattle.lagbeside.specs.Knowing.{HasRecorded}
pub use Rattle.lagbeside.specs.Selecting.{SharesGroup, StandsByFull, WantsAggregator, aggregators_with, ports_with}
pub use Rattle.lagbeside.specs.Timers.{IsTimed, PortsAreTimed, most_current_while, timeout_time}
pub use Rattle.lagbeside.proofs.Counting.{count, count_more_of, count_same, counted}
pub use Rattle.lagbeside.proofs.EachPort.{KeptByCall, KeptBySettling, OfEach, Step-each, Tick-each, asked_each, first_each, place_each, settling_each}
pub use Rattle.lagbeside.proofs.EachPort.{zip_kept}
pub use Rattle.lagbeside.proofs.Hearing.{EnabledKeep, Unheard, begins, is_defaulted, no, not_down, receives, rested, times_keep, unheard_settles}
pub use Rattle.lagbeside.proofs.Hearing.{when_up}
pub use Rattle.lagbeside.proofs.HostWaits.{forces_port}
pub use Rattle.lagbeside.proofs.Knowing.{Known, Recorded, counts, decoded, placed, receive_known, recorded, rests_still, takes_each}
pub use Rattle.lagbeside.proofs.OnePort.{AtPort, at_number, calls_each, higher, mux_leaves, periodic_leaves, same_place, same_ports, settling_leaves}
pub use Rattle.lagbeside.proofs.OnePort.{with_rest}
pub use Rattle.lagbeside.proofs.Selecting.{Somebody, clash, eligible, finds_aggregator, no_entry, occupies_is, passed, seen_stands, shares_aggregator}
pub use Rattle.lagbeside.proofs.Selecting.{somebody, stands, waits_for_room, when_is}
pub use Rattle.lagbeside.proofs.Sounding.{Calm, Sounds, all_leave, counts_sounds, mux_sounds, not_gone, not_silent, now_due, periodic_runs}
pub use Rattle.lagbeside.proofs.Sounding.{silence_of, sounds_first, sounds_in_slow, unclear}
pub use Rattle.lagbeside.proofs.TableSteps.{Turning, Turns, asks_turn, comes_turn, gives_turn, same_turns, settles_turn, ticks_turn, turns_through}
pub use Rattle.lagbeside.proofs.Timers.{RowsKeep, TimedAt, fires_keep, runs_keep, setting_each, setting_timed, takes_keep, timed_kept, timed_settles}
pub use Rattle.lagbeside.proofs.Timers.{timed_starts}
pub use Rattle.lagprogress.specs.Arriving.{Arrives, DeliverHandsUp, DisabledAreUnsynchronized, EachFrameArrivesByHosts}
pub use Rattle.lagprogress.specs.Arriving.{EachHostReachedHasUnsynchronized, GetsPort, HandsUp, IsEventWhere, IsHandedUp, OfferGetsPort}
pub use Rattle.lagprogress.specs.Arriving.{SometimePlayed, TakesFrame}
pub use Rattle.lagprogress.specs.Beside.{LeavesPorts, RoundsBeside}
pub use Rattle.lagprogress.specs.Bundle.{AllHeard, BothAreActive, EachLinkAgrees, EachLinkComesUp, EndsHealthyCable, EndsOfEachKnow}
pub use Rattle.lagprogress.specs.Bundle.{EnoughAggregators, EnoughLinks, HostReachedIsBundle, IsBundle, OneIsActive, ReachedIsApart, ReachedIsBundle}
pub use Rattle.lagprogress.specs.Bundle.{SelectedPairsAgree, SelectedPairsComeUp, SystemsDiffer}
pub use Rattle.lagprogress.specs.Freed.{CarriersAreUp, EachHostReachedHasCarriersUp, HasIdentifierLeft, HasPortUp, IsNotHeldOn, NothingIsHeld}
pub use Rattle.lagprogress.specs.Freed.{carrier_of, held_on}
pub use Rattle.lagprogress.specs.HostFreed.{AskingInVainIsDraining, AsksInVain, AsksInVainAfterTick, DrainingRounds, IsDrainingRound, IsNoMoveOf}
pub use Rattle.lagprogress.specs.HostFreed.{NoneIsHeldBesideCutOffsByHosts, NoneIsHeldOnEndsByHosts, NothingIsDue, NothingIsHeldByHosts}
pub use Rattle.lagprogress.specs.HostFreed.{RoundIsDraining, sent_nothing}
pub use Rattle.lagprogress.specs.HostRounds.{AfterTick, AskingIsPlayed, Asks, AsksAfterTick, AsksIn, AtSomeWorld, Clearing, EventsAreOfHosts}
pub use Rattle.lagprogress.specs.HostRounds.{HostRounds, IsBetweenTicks, IsHostRound, IsPlayed, IsPlayedAmong, IsQuiet, IsTickOf, NoneIsLeft}
pub use Rattle.lagprogress.specs.HostRounds.{PlayedAmong, PlayedRounds, RoundIsHostRound, RoundsAreHostRounds, RunReplies, RunsHaveReplies}
pub use Rattle.lagprogress.specs.HostRounds.{StepReplies, TickOnce, TickOnceAmong, as_played}
pub use Rattle.lagprogress.specs.LateRounds.{ArriveIn, HostRoundIsLateRound, HostRoundsAreLateRounds, IsArrivalAt, IsLateRound, LateRounds, OldArrive}
pub use Rattle.lagprogress.specs.Passing.{DeliverProcessesLacpdu, EmitSendsLacpdu, EndIsUp, IsHeardOn, IsSentOn}
pub use Rattle.lagprogress.specs.Played.{Delivers, EachAgrees, EachDistributes, HasTooManyCables, IsOutOfMemoryOrSpent, IsReached, IsReady, LeadsTo}
pub use Rattle.lagprogress.specs.Played.{NamesNoCable, NothingStaysHeld, PlaysPart, RefusesDelivery, RunsAll, RunsPart, found_nothing}
pub use Rattle.lagprogress.specs.PlayedByHosts.{AsksEnds, AsksOrDelivers, AsksPort, DeliversAndAsks, EmptiesCables, PlaysBetween, PlaysHostPart}
pub use Rattle.lagprogress.specs.PlayedByHosts.{PlaysHostRound, PlaysHostRounds, StopsBetween}
pub use Rattle.lagprogress.specs.Progress.{Distributes, EndKnows, Knows}
pub use Rattle.lagprogress.specs.Rounds.{AtEnd, IsDeliver, IsHealthyAt, IsRound, NothingInFlight, OfPort, Playing, Rounds, asks_all, asks_ends}
pub use Rattle.lagprogress.specs.Rounds.{freed_if_both_active, freed_if_one_is, ticks_of_both, up_if_both_active, up_if_one_is}
pub use Rattle.lagprogress.specs.Several.{AfterTicks, AskingIsSeveral, AsksAfterTicks, IsPlayedTicks, IsTickedRound, SeveralBeside, SeveralRounds}
pub use Rattle.lagprogress.specs.Several.{TickedRounds, TicksAmong, most_ticks}
pub use Rattle.lagprogress.specs.Shared.{AreOneGroup, DownWereLinkedTo, HasAggregators, LeadToKey}
pub use Rattle.lagprogress.specs.Steady.{EachHostReachedIsSteady, EachHostRunKeepsSteady, GoesByCalls, IsSteady, IsSteadySystem}
