-- The names that proofs of this crate import, passed on from one place. Declares nothing; tools/maintain/proof-imports writes it.
pub use Rattle.std.proofs.Common.{Bool, Err, IsTrue, List, None, Ok, Option, Result, Some, [], ap, arith, cond, eqb-true, false, filter, find}
pub use Rattle.std.proofs.Common.{if◌then◌else◌, inl, inr, length, nat_le, nat_lt, not, option_map, refl, slice_get, slice_set, subst, suc, sym, true}
pub use Rattle.std.proofs.Common.{zero, ℕ, ◌&&◌, ◌++◌, ◌+◌, ◌-◌, ◌<◌, ◌==◌, ◌||◌, ◌∙◌, ◌∷◌, ◌≡◌, ◌≢◌, ◌≤◌, ◌⊎◌}
pub use Rattle.std.proofs.lemmas.Bool.{and_parts, cases_Bool, false≢true}
pub use Rattle.std.proofs.lemmas.Bool.Decides.{nat_tests}
pub use Rattle.std.proofs.lemmas.Option.{none-some, same_Some, slice_get-map}
pub use Rattle.std.specs.List.{AllByRecursion, enumerate_from, list_all, list_any}
pub use Rattle.lagtypes.specs.declared.identifiers.AggId.{AggId}
pub use Rattle.lagtypes.specs.declared.identifiers.Key.{Key}
pub use Rattle.lagtypes.specs.declared.party.Choice.{Choice}
pub use Rattle.lagtypes.specs.declared.party.Choice.TheVariants.{Selected, Standby, Unselected}
pub use Rattle.lagtypes.specs.declared.party.Party.{Party}
pub use Rattle.lagtypes.specs.declared.state.StateBits.{StateBits}
pub use Rattle.lagtypes.specs.Choices.{is_selected, is_unselected}
pub use Rattle.lagtypes.specs.Same.{same_party, same_system}
pub use Rattle.lagtypes.specs.States.{bits_of, with_synchronization, with_timeout}
pub use Rattle.lagtypes.proofs.SameLemmas.{exact_system, itself, party_itself}
pub use Rattle.lagtypes.proofs.StateLemmas.{encode_then_decode}
pub use Rattle.slowpdu.specs.declared.pdu.Info.{Info}
pub use Rattle.slowpdu.specs.declared.pdu.Lacpdu.{Lacpdu}
pub use Rattle.slowpdu.specs.Parties.{party_of}
pub use Rattle.portmachines.specs.declared.mux.MuxState.{MuxState}
pub use Rattle.portmachines.specs.declared.mux.MuxState.TheVariants.{Attached, CollectingDistributing, Detached, Waiting}
pub use Rattle.portmachines.specs.declared.periodic.PeriodicState.{PeriodicState}
pub use Rattle.portmachines.specs.declared.periodic.PeriodicState.TheVariants.{Fast, NoPeriodic, PeriodicTx, Slow}
pub use Rattle.portmachines.specs.declared.port.Setup.{Setup}
pub use Rattle.portmachines.specs.declared.receive.ReceiveState.{ReceiveState}
pub use Rattle.portmachines.specs.declared.receive.ReceiveState.TheVariants.{Current, Defaulted, Expired, Initialize, PortDisabled}
pub use Rattle.portmachines.specs.Calls.{with_mode}
pub use Rattle.portmachines.specs.Machines.{Machines}
pub use Rattle.portmachines.specs.Mux.{is_synchronized, mux_rows, partner_synchronized, same_mux_state}
pub use Rattle.portmachines.specs.Periodic.{RunsPeriodic, is_silent, partner_short, periodic_rows, periodic_table, same_periodic_state, timer_expired}
pub use Rattle.portmachines.specs.Receive.{default_partner, lacpdu_rows, receive_rows, recorded_synchronization, same_receive_state, start_receive}
pub use Rattle.portmachines.specs.Rows.{AtRest, Fires, FiresTimes, Row, RunsToRest, in_order}
pub use Rattle.portmachines.specs.Start.{Starts, before_start}
pub use Rattle.portmachines.specs.Transmit.{after_sending, aged, count_down, is_due}
pub use Rattle.selection.specs.declared.view.PortView.{PortView}
pub use Rattle.selection.specs.Choice.{aggregator_of_entry, chosen_if_eligible, has_group_of, has_no_occupant, has_occupant, is_aggregator, lowest}
pub use Rattle.selection.specs.Choice.{occupants, occupants_share_group, or_else, ports_that_chose}
pub use Rattle.selection.specs.Limits.{AggregatorsValue, has_room, is_below}
pub use Rattle.selection.specs.Views.{has_chosen, has_waited, is_detached, is_detached_or_waiting, is_eligible, occupies, stands_by}
pub use Rattle.distributor.specs.declared.assignment.Assignment.{Assignment}
pub use Rattle.distributor.specs.Calls.{force_result, leave_result, move_result}
pub use Rattle.distributor.specs.Changes.{SetsAssignment, after_down, after_mark, after_release, after_tick}
pub use Rattle.distributor.specs.Conversations.{Table, assignment_of, next_identifier}
pub use Rattle.lagsystem.specs.declared.drive.Reply.{Reply as Answer, Reply}
pub use Rattle.lagsystem.specs.declared.fault.SystemFault.{SystemFault}
pub use Rattle.lagsystem.specs.declared.received.Received.{Received}
pub use Rattle.lagsystem.specs.declared.received.Received.TheVariants.{TookLacpdu}
pub use Rattle.lagsystem.specs.declared.system_ports.SystemPort.{SystemPort}
pub use Rattle.lagsystem.specs.Calls.{AnswersMarker, Call, Carries, ChangesParty, Configure, Data_frame, Faulty, Force, FreesIfDown, GivesEffect}
pub use Rattle.lagsystem.specs.Calls.{IsFrame, Move_conversation, Offer, OnlyPortChangesBy, ParsesWhere, Performs, PortAtChangesBy, ProcessesLacpdu}
pub use Rattle.lagsystem.specs.Calls.{Receive, ReceivedFrame, ReceivesAt, Releases, Restart, Runt, Set_link, SetsPortEnabled, Step, TableRun}
pub use Rattle.lagsystem.specs.Calls.{ThenSettles, Tick, Transmit, changed_party, choice_with_link, up_or_dropped}
pub use Rattle.lagsystem.specs.First.{HasJustStarted, IsFirst, configured_numbers, setup_of}
pub use Rattle.lagsystem.specs.ModelView.{can_receive, can_receive_in, key_of, none_enabled}
pub use Rattle.lagsystem.specs.NothingToSettle.{MuxIsSettled, PeriodicIsSettled}
pub use Rattle.lagsystem.specs.Occupants.{OccupantsAgree, WithinLimit, occupied}
pub use Rattle.lagsystem.specs.Offers.{GivesOrRefuses, Offers, in_system, system_force_result, system_move_result}
pub use Rattle.lagsystem.specs.Readers.{aggregator_numbered, collecting, distributing}
pub use Rattle.lagsystem.specs.Sending.{SendsMarkerOf, TransmitsAt, TransmitsIf}
pub use Rattle.lagsystem.specs.Settings.{SetsPort, Setting, SettingStep, in_mode, is_held_so, is_in_mode, with_held}
pub use Rattle.lagsystem.specs.Settling.{ChoosesIn, PortsChangeBy, PromotesNext, Settling, choice_for, held_unless_on, ready_of, with_choice}
pub use Rattle.lagsystem.specs.Sound.{IsSound}
pub use Rattle.lagsystem.specs.State.{SystemState, aggregators_value, port_index, port_numbers, with_system_ports, with_table}
pub use Rattle.lagsystem.specs.Views.{may_choose, selection_view, stage_of, views}
pub use Rattle.lagsystem.proofs.Effects.{named}
pub use Rattle.lagsystem.proofs.Keeps.{Step-frame, keeps_place, keeps_settled, ports_table, settling_parts}
pub use Rattle.lagsystem.proofs.Rest.{can_receive_at_rest, last_slots, same_slots, zip_all}
pub use Rattle.lagsystem.proofs.Rising.{Rises, all-get, all-set, found_place, ports_rise}
pub use Rattle.lagbeside.specs.Hearing.{IsNoticed, LeavesUnheard, processed_on}
pub use Rattle.lagbeside.specs.Heartbeat.{EachCall, IsHeard, IsSilentShortly, LeavesUpAndSilent, tick_count}
pub use Rattle.lagbeside.specs.Runs.{ActiveOnlyIf, AsideTimes, Asides, IsAside, LeavesPort, OnceTicked, Runs}
pub use Rattle.lagbeside.specs.Selecting.{SharesGroup, StandsByFull, WantsAggregator, aggregators_with, ports_with}
pub use Rattle.lagbeside.specs.Serving.{Brings, CarriesBeside, ComesUp, ComesUpAlone, Fed, IsOnlyOfKey, IsServed, IsUnanswered, LeavesServed}
pub use Rattle.lagbeside.specs.Serving.{LeavesUnanswered, NeverAlone, NoneBegins, Serves, Service, StaysUp, WaitsAreBounded, begins_in, in_sync}
pub use Rattle.lagbeside.specs.Silence.{IsLoud, SilentFor, Speaks}
pub use Rattle.lagbeside.specs.Timers.{EachCallKeepsTimed, EachHostCallKeepsTimed, EachSettingKeepsTimed, IsTimed, KeepsTimeout, PortsAreTimed}
pub use Rattle.lagbeside.specs.Timers.{most_current_while, most_periodic_timer, timeout_time}
pub use Rattle.lagbeside.specs.Waits.{EachHostCallKeepsWaits, IsAwaited, WaitsAreShort}
