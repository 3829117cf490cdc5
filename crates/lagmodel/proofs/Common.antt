-- The names that proofs of this crate import, passed on from one place. Declares nothing; tools/maintain/proof-imports writes it.
pub use Rattle.std.proofs.Common.{Bool, IsSome, IsSomeAnd, List, None, Option, Some, [], ap, append-nil, append_assoc, arith, cond, eq-eqb, eqb}
pub use Rattle.std.proofs.Common.{eqb-true, false, get_or, inl, inr, is_some, length, length-append, map, not, option_map, refl, set, slice_get}
pub use Rattle.std.proofs.Common.{subst, suc, sym, true, zero, ℕ, ◌&&◌, ◌++◌, ◌+◌, ◌<◌, ◌∙◌, ◌∷◌, ◌≡◌, ◌≢◌, ◌≤◌, ◌⊎◌}
pub use Rattle.std.proofs.lemmas.Bool.{and_from, and_parts, cases_Bool, cases_eq, cases_lt, eqb-false, false≢true, true≢false}
pub use Rattle.std.proofs.lemmas.Option.{none-some, same_Some}
pub use Rattle.std.specs.Prelude.{Contains, option_to_list, ◌^◌}
pub use Rattle.lagtypes.specs.declared.party.Party.{Party}
pub use Rattle.lagtypes.specs.Group.{Pair, SamePair, individual, pair_of}
pub use Rattle.lagmodel.specs.AnyPeer.{Answers, ArrivesAtAnyPeer, Calls, Comes, ComesAll, Cuts, EachCallIsOne, Forces, Gone, HandsUp, Happening}
pub use Rattle.lagmodel.specs.AnyPeer.{HoldsWithAnyPeer, IsNoResponse, Joins, Moves, OrderHolds, OvertakesBack, OvertakesOut, Restarts, Says, Scene}
pub use Rattle.lagmodel.specs.AnyPeer.{SerialsCountFromZero, Takes, TookInSync, first_scene, only, scene_after, scene_after_act, scene_after_acts}
pub use Rattle.lagmodel.specs.AnyPeer.{with_back}
pub use Rattle.lagmodel.specs.Bridge.{AreNumbered, BecomeByMoves, find_number, ports_of, world_after_call}
pub use Rattle.lagmodel.specs.Law.{BelowNext, CollectedThenInFlight, CountsFromZero, EndsAgree, FlushedByMarker, InOrder, IsSubsequence}
pub use Rattle.lagmodel.specs.Law.{LastLacpduSaysInSync, LawfulRun, Members, OnItsCable, OnePartner, SomethingArrives, UpToDateLacpdusNameSender}
pub use Rattle.lagmodel.specs.Law.{same_side, serials}
pub use Rattle.lagmodel.specs.Move.{Act, AllAllowed, Announce, Answered, Become, ConversationMoveAllowed, Default, Desynchronize, Distribute}
pub use Rattle.lagmodel.specs.Move.{Distributes, DistributorMove, DistributorMoveAllowed, DistributorMoves, DistributorMovesAllowed, Down, Flow}
pub use Rattle.lagmodel.specs.Move.{Forced, Join, LawfulMoves, Leave, Mark, Move, MoveAllowed, Port, PortAllowed, PortMove, Reconfigure, Respond}
pub use Rattle.lagmodel.specs.Move.{Restart, Retry, Send, Stop, Take, Took, Want, act, act_of_port, acts, conversation_after, distributor_act}
pub use Rattle.lagmodel.specs.Move.{distributor_acts, distributor_after, distributor_after_all, flushed, pair_at, port_act, port_after, view_after}
pub use Rattle.lagmodel.specs.Move.{view_after_all}
pub use Rattle.lagmodel.specs.View.{Configure, ControlMessage, Conversation, DistributorFacts, Flushing, Force, Free, IsSystemSetup, Lacp}
pub use Rattle.lagmodel.specs.View.{LacpMessage, Marker, ModelCall, Move_conversation, Offer, On, PortFacts, Receive, Response, Set_link, SystemSetup}
pub use Rattle.lagmodel.specs.View.{Tick, Transmit, View, Wanted, at_conversation, at_port, conversation_port, first_port, first_view, is_restart}
pub use Rattle.lagmodel.specs.View.{replies_frame, zero_party}
pub use Rattle.lagmodel.specs.World.{AllMoves, CallHappens, Control, CountsChanges, Data, DeliversFirst, Ends, Event, Happens, IsWorldSetup}
pub use Rattle.lagmodel.specs.World.{LosesFirst, Message, One, RepeatsFirst, Run, SensesCable, Side, TakenLacpdu, Two, World, WorldSetup, at_cable}
pub use Rattle.lagmodel.specs.World.{at_side, at_two, end_at, first_world, handed_up, on_cable_after, party_at, peer, port_on, put_on_cable}
pub use Rattle.lagmodel.specs.World.{sent_after, taken_after, with_messages, world_after, world_after_all}
