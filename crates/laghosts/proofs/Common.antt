-- The names that proofs of this crate import, passed on from one place. Declares nothing; tools/maintain/proof-imports writes it.
pub use Rattle.std.proofs.Common.{Bool, Err, IsSome, IsSomeAnd, List, None, Ok, Option, Result, Some, [], ap, arith, cond, eq-eqb, eqb, eqb-true}
pub use Rattle.std.proofs.Common.{false, inl, inr, is_some, length, nat_le, nat_lt, option_map, refl, subst, suc, sym, true, zero, ℕ, ◌&&◌, ◌++◌, ◌+◌}
pub use Rattle.std.proofs.Common.{◌<◌, ◌==◌, ◌||◌, ◌∙◌, ◌∷◌, ◌≡◌, ◌≤◌, ◌⊎◌}
pub use Rattle.std.proofs.lemmas.Bool.{and_parts, cases_Bool, true≢false}
pub use Rattle.std.proofs.lemmas.Bool.Decides.{nat_tests}
pub use Rattle.lagtypes.specs.declared.identifiers.AggId.{AggId}
pub use Rattle.lagmodel.specs.Move.{Become, Flow, Forced, Move, Sends, Sends_frame}
pub use Rattle.lagmodel.specs.View.{Conversation, Free, ModelCall, ModelCall as ModelEvent, View, at_conversation}
pub use Rattle.lagmodel.specs.World.{CallHappens, Control, CountsChanges, Data, DeliversFirst, Event, Event as Happening, Happens, IsCabling}
pub use Rattle.lagmodel.specs.World.{LosesFirst, Message, One, Receives, RepeatsFirst, Run, Side, SensesCable as Told_senses, Two, World, WorldSetup}
pub use Rattle.lagmodel.specs.World.{at_side, at_two, end_at, first_world, handed_up, peer, put_on_cable as put_in, world_after, world_after_all}
pub use Rattle.lagmodel.proofs.Runs.{runs_joined, same_world}
pub use Rattle.lagsystem.specs.declared.fault.SystemFault.{SystemFault}
pub use Rattle.lagsystem.specs.Assigning.{OffersIf, frame_of_conversation}
pub use Rattle.lagsystem.specs.ModelView.{control_message, model_setup, model_view}
pub use Rattle.lagsystem.specs.Offers.{has_aggregator, system_force_result}
pub use Rattle.lagsystem.specs.Readers.{aggregator_numbered, conversation_count, number_of_conversation}
pub use Rattle.lagsystem.specs.Settings.{SetsPort, Setting, SettingPromise, SettingStep, in_mode, is_held_so, is_in_mode, with_held}
pub use Rattle.lagsystem.specs.State.{SystemState, port_index, with_table}
pub use Rattle.lagsystem.proofs.HostCallLemmas.{TableAlone, agrees_beside, host_alone}
pub use Rattle.lagworld.specs.declared.reply.Reply.{Reply}
pub use Rattle.lagworld.specs.Asking.{with_sent_in}
pub use Rattle.lagworld.specs.Events.{Algorithms, WorldSteps, model_event, most_events, side_of, stamp_for, transmitted_item, with_item_sent}
pub use Rattle.lagworld.specs.HalfCalls.{HalfAnswers, forced_if_accepted, party_of_port, with_state}
pub use Rattle.lagworld.specs.Messages.{item_message, payload_in, side_numbered}
pub use Rattle.lagworld.specs.ModelWorld.{model_taken, model_world, world_setup}
pub use Rattle.lagworld.specs.Sound.{AreBelow, IsHalfSound, IsReached, IsSound}
pub use Rattle.lagworld.specs.State.{FlowValue, HalfState, ItemValue, WorldState, change_count_in, change_flow, collected_in, flow_at, forced_in}
pub use Rattle.lagworld.specs.State.{half, history_at, is_accepted, put_on_port, sent_in, taken_in, with_forced, with_half, with_sent}
pub use Rattle.lagworld.proofs.Flows.{flow_other, flow_other_row, read_changed, read_same}
pub use Rattle.lagworld.proofs.Keeping.{control_item, forces, peer_twice, shaped_of, steps_fixed, steps_sound}
pub use Rattle.lagworld.proofs.Sides.{algorithms_of, half_after, half_there, kept_at, numbered_side}
pub use Rattle.lagworld.proofs.Soundness.{Follows, GoesOn, IsShaped, below_more, flow_on, follows_half, follows_put, follows_same, follows_then}
pub use Rattle.lagworld.proofs.Whole.{does_happen, forced_there}
pub use Rattle.laghosts.specs.HostEvents.{AfterNumberedOffer, AfterProbe, CountsHeld, CountsHeldIfOk, ForcedByForce, ForcesPort, HalfSets, HalfTells}
pub use Rattle.laghosts.specs.HostEvents.{HostEvent, HostRuns, HostSteps, HostsKeepHeadline, KeepsHeadline, Leaves, MayForce, Offers, Plays, Probes}
pub use Rattle.laghosts.specs.HostEvents.{Rests, Sets, forced_if, is_held, numbered_item}
