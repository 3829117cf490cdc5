-- The names that proofs of this crate import, passed on from one place. Declares nothing; tools/maintain/proof-imports writes it.
pub use Rattle.std.proofs.Common.{Bool, Err, Global, IfErr, IfOk, IsSome, IsSomeAnd, IsTrue, List, None, Ok, OnOk, Option, Result, Some, [], add-one}
pub use Rattle.std.proofs.Common.{ap, arith, cond, drop, eq-eqb, eqb, eqb-true, false, get_or, if◌then◌else◌, inl, inr, is_some, length, length-drop}
pub use Rattle.std.proofs.Common.{map, nat_le, nat_lt, not, option_and_then, option_map, position, refl, replicate, set, slice_get, slice_set, subst}
pub use Rattle.std.proofs.Common.{suc, sym, take, true, vec_capacity, vec_len, zero, ℕ, ◌%◌, ◌&&◌, ◌++◌, ◌+◌, ◌-◌, ◌<◌, ◌==◌, ◌||◌, ◌∙◌, ◌∷◌, ◌≡◌}
pub use Rattle.std.proofs.Common.{◌≢◌, ◌≤◌, ◌⊎◌}
pub use Rattle.std.proofs.lemmas.Bool.{and_parts, cases_Bool, false≢true, not-false, not-true, or_parts, true≢false}
pub use Rattle.std.proofs.lemmas.Bool.Decides.{nat_tests}
pub use Rattle.std.proofs.lemmas.List.{length-map, length-set, map-append, map-set, replicate_more, set-get_or, set_past, take_more}
pub use Rattle.std.proofs.lemmas.List.Edits.{map_over_more}
pub use Rattle.std.proofs.lemmas.Option.{cond_some, get_or_from_slice_get, none-some, same_Some, slice_get-get_or, slice_get-map, slice_get_past}
pub use Rattle.std.proofs.lemmas.Option.{slice_get_read, slice_get_within}
pub use Rattle.std.specs.Global.{Vec}
pub use Rattle.std.specs.List.{list_all, position_or_len}
pub use Rattle.std.specs.Prelude.{IfSome, bit_xor, option_to_list, unwrap_or}
pub use Rattle.lagtypes.specs.declared.identifiers.AggId.{AggId}
pub use Rattle.lagtypes.specs.declared.party.Party.{Party}
pub use Rattle.lagtypes.specs.Same.{same_group, same_party, same_system}
pub use Rattle.lagtypes.proofs.SameLemmas.{exact_party, group-itself, party_itself}
pub use Rattle.slowpdu.specs.declared.pdu.Lacpdu.{Lacpdu}
pub use Rattle.slowpdu.specs.declared.pdu.Pdu.{Pdu}
pub use Rattle.slowpdu.specs.Frames.{IsSlowProtocolsFrame}
pub use Rattle.slowpdu.specs.Lacpdus.{Reads}
pub use Rattle.slowpdu.specs.Pdus.{ReadsPdu}
pub use Rattle.slowpdu.specs.Readings.{lacpdu_in, number_at, pdu_in}
pub use Rattle.slowpdu.proofs.PduInLemmas.{pdu_read}
pub use Rattle.slowpdu.proofs.PduLemmas.{written_pdu}
pub use Rattle.lagmodel.specs.Bridge.{find_number, world_after_call}
pub use Rattle.lagmodel.specs.Law.{EndsAgree, InOrder, LastLacpduIsUpToDate, OnePartner}
pub use Rattle.lagmodel.specs.Move.{Act, LawfulMoves, Sends, Sends_frame, Took}
pub use Rattle.lagmodel.specs.View.{ControlMessage as Message_pdu, ModelCall as ModelEvent, PortFacts, View, first_port, first_view, is_restart}
pub use Rattle.lagmodel.specs.World.{CallHappens, Control, CountsChanges, Data, DeliversFirst, Happens, IsCabling, IsWorldSetup, LosesFirst, Message}
pub use Rattle.lagmodel.specs.World.{One, Receives, RepeatsFirst, Run, Side, TakenLacpdu, Two, World, WorldSetup, at_cable, at_side, at_two, end_at}
pub use Rattle.lagmodel.specs.World.{first_world, handed_up, on_cable_after, party_at, peer, port_on, put_on_cable as put_in, sent_after, stamp_of}
pub use Rattle.lagmodel.specs.World.{taken_after, with_messages}
pub use Rattle.lagmodel.proofs.Base.{cond_false, cond_true, mapped_some, none-is_some, value_of}
pub use Rattle.lagmodel.proofs.Calls.{parties_same}
pub use Rattle.lagmodel.proofs.Runs.{calls_from, put_on, runs_joined, same_world}
pub use Rattle.cables.specs.declared.item.Item.{Item}
pub use Rattle.cables.specs.declared.item.Stamp.{Stamp}
pub use Rattle.distributor.specs.Calls.{PicksIndexes}
pub use Rattle.lagsystem.specs.declared.config.PortChange.{PortChange}
pub use Rattle.lagsystem.specs.declared.drive.Reply.{Reply as Answer}
pub use Rattle.lagsystem.specs.declared.fault.SystemFault.{SystemFault}
pub use Rattle.lagsystem.specs.declared.received.Received.{Received}
pub use Rattle.lagsystem.specs.Calls.{Call, Configure, Force, Move_conversation, Offer, Receive, Restart, Set_link, Tick, Transmit}
pub use Rattle.lagsystem.specs.ModelView.{CallSeenAs, EffectsSeenAs, FrameSeenAs, IsSent, JoinedByLawfulMoves, configured_party, control_message}
pub use Rattle.lagsystem.specs.ModelView.{lacp_message as model_lacpdu, model_port, model_setup, model_view}
pub use Rattle.lagsystem.specs.Offers.{GivesOrRefuses, system_force_result}
pub use Rattle.lagsystem.specs.Readers.{conversation_count, group_at, number_of_conversation, two_octets}
pub use Rattle.lagsystem.specs.Sound.{CallPromise, PortsAgree}
pub use Rattle.lagsystem.specs.State.{SystemState, machines_of, port_index, system_port_at}
pub use Rattle.lagsystem.proofs.FirstView.{configured_setup, first_shows}
pub use Rattle.lagsystem.proofs.Seen.{party_seen, port_seen}
pub use Rattle.lagsystem.proofs.Sent.{sent_payload}
pub use Rattle.lagscript.specs.declared.event.Event.{Event}
pub use Rattle.lagworld.specs.declared.fault.WorldFault.{WorldFault}
pub use Rattle.lagworld.specs.declared.histories.Flow.{Flow}
pub use Rattle.lagworld.specs.declared.histories.PortHistory.{PortHistory}
pub use Rattle.lagworld.specs.declared.histories.StampedLacpdu.{StampedLacpdu}
pub use Rattle.lagworld.specs.declared.link.Link.{Link as Cabled}
pub use Rattle.lagworld.specs.declared.reply.Reply.{Reply}
pub use Rattle.lagworld.specs.Agreement.{agreement_at, agreement_of, end_facts, first_agreement, is_stamp, same_groups}
pub use Rattle.lagworld.specs.Arriving.{CanCollect, CanCollectAt, CanCollectIn, CarriesLacpdu, Concludes, HalfReceives, HalfReceivesFirst, IsToRecord}
pub use Rattle.lagworld.specs.Arriving.{WorldDelivers, WorldReceivesFirst, WorldRepeats, aggregator_flow_values, first_head, head_in, history_index}
pub use Rattle.lagworld.specs.Arriving.{is_data, last_lacpdu_recorded}
pub use Rattle.lagworld.specs.Asking.{HalfAsksForce, WorldAsksOffer, WorldAsksTransmit, WorldLoses, lost_reply, with_sent_in}
pub use Rattle.lagworld.specs.Events.{AfterOffer, AfterReceive, AfterTransmit, Algorithms, DeliversFrom, DoesEvent, InHalf, LosesFrom, OnLink}
pub use Rattle.lagworld.specs.Events.{RepeatsFrom, RepeatsItem, WorldEmits, WorldOffers, WorldReceives, WorldRuns, WorldSteps, cause}
pub use Rattle.lagworld.specs.Events.{cause_or_no_memory, first_event_cause, has_cable, has_system, may_take_memory, model_change, model_event}
pub use Rattle.lagworld.specs.Events.{most_events, offered_item, sent_reply, set_last_lacpdu, side_of, stamp_for, stamped_in, transmitted_item}
pub use Rattle.lagworld.specs.Events.{with_collected_in, with_frame_counted, with_item_sent, with_last_lacpdu, with_link_at, with_stamp_collected}
pub use Rattle.lagworld.specs.HalfCalls.{HalfAnswers, HalfConfigures, HalfForces, HalfMoves, HalfRestarts, HalfSenses, HalfTicks, change_counted}
pub use Rattle.lagworld.specs.HalfCalls.{forced_if_accepted, is_party, or_refused, party_of_port, party_or, set_taken, with_changes_counted}
pub use Rattle.lagworld.specs.HalfCalls.{with_party_recorded, with_state}
pub use Rattle.lagworld.specs.Inner.{flow_value, half_state, link_state, link_states}
pub use Rattle.lagworld.specs.Making.{IsFirstHalf, are_empty_lines, empty_flow, first_aggregator_flows, first_flows, first_histories, first_history}
pub use Rattle.lagworld.specs.Making.{first_link, first_links, has_empty_directions}
pub use Rattle.lagworld.specs.Messages.{item_message, item_value, message_in, payload_in, side_number, side_numbered, stamp_count}
pub use Rattle.lagworld.specs.ModelWorld.{is_whole, link_ends, messages, model_taken, model_world, world_setup}
pub use Rattle.lagworld.specs.Places.{AreReserved, HasRoom, HasRoomAt, HasRoomIn, IsReserved, IsReservedAt, flow_values, is_reserved}
pub use Rattle.lagworld.specs.Sides.{model_side}
pub use Rattle.lagworld.specs.Sound.{AreBelow, AreItems, HeadlineFacts, IsHalfSound, IsItem, IsReached, IsSound, IsStart, RefusesNext}
pub use Rattle.lagworld.specs.Sound.{both_algorithms, next_of}
pub use Rattle.lagworld.specs.State.{FlowValue, HalfState, ItemValue, LinkState, WorldState, WorldValue, accepts, accepts_at, by_side}
pub use Rattle.lagworld.specs.State.{change_count_in, change_flow, change_flow_in, change_flow_of, change_link, collected_in, cut, element_numbered}
pub use Rattle.lagworld.specs.State.{emptied, flow_at, flow_in_aggregator, forced_in, half, history_at, is_accepted, is_at_limit, joined}
pub use Rattle.lagworld.specs.State.{limit_towards, link_at, link_index, port_at, put_on_port, sent_in, sent_on, taken_in, towards, with_collected}
pub use Rattle.lagworld.specs.State.{with_forced, with_half, with_links, with_sent, with_towards, without_first}
pub use Rattle.lagworld.specs.WorldCalls.{world_state}
