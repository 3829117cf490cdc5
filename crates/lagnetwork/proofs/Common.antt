-- The names that proofs of this crate import, passed on from one place. Declares nothing; tools/maintain/proof-imports writes it.
pub use Rattle.std.proofs.Common.{Bool, IsSome, IsSomeAnd, List, None, Option, Some, [], ap, append-nil, arith, cond, eq-eqb, eqb, eqb-true, false}
pub use Rattle.std.proofs.Common.{get_or, inl, inr, length, length-append, option_map, refl, subst, suc, sym, true, ℕ, ◌&&◌, ◌++◌, ◌<◌, ◌∙◌, ◌∷◌, ◌≡◌}
pub use Rattle.std.proofs.Common.{◌≢◌, ◌≤◌, ◌⊎◌}
pub use Rattle.std.proofs.lemmas.Bool.{and_from, and_parts, cases_Bool, cases_lt, eqb-false, false≢true, true≢false}
pub use Rattle.std.proofs.lemmas.Option.{none-some, same_Some}
pub use Rattle.std.specs.Prelude.{drop, option_to_list}
pub use Rattle.lagtypes.specs.declared.identifiers.SystemId.{SystemId}
pub use Rattle.lagtypes.specs.declared.party.Party.{Party}
pub use Rattle.lagmodel.specs.Law.{IsSubsequence, Members, serials}
pub use Rattle.lagmodel.specs.Move.{Act, AllAllowed, Announce, Answered, Become, Desynchronize, Distribute, DistributorMove, Flow, Join, LawfulMoves}
pub use Rattle.lagmodel.specs.Move.{Leave, Mark, Move, MoveAllowed, Port, PortAllowed, PortMove, Respond, Restart, Send, Sends, Sends_frame, Take}
pub use Rattle.lagmodel.specs.Move.{Took, Want, act, act_of_port, acts, distributor_act, pair_at, port_act, port_after, view_after, view_after_all}
pub use Rattle.lagmodel.specs.View.{Configure, ControlMessage, Conversation, DistributorFacts, Flushing, Force, Free, Lacp, LacpMessage, Marker}
pub use Rattle.lagmodel.specs.View.{ModelCall, Move_conversation, Offer, On, PortFacts, Receive, Response, Set_link, SystemSetup, Tick, Transmit}
pub use Rattle.lagmodel.specs.View.{View, at_port, conversation_port, first_port, first_view, is_restart, replies_frame, zero_party}
pub use Rattle.lagmodel.specs.World.{Control, Data, Message, One, Side, TakenLacpdu, at_cable, at_two, is_port, on_cable_after, party_at}
pub use Rattle.lagmodel.specs.World.{put_on_cable, sent_after, stamp_of, taken_after}
pub use Rattle.lagmodel.proofs.Base.{chosen, cond_false, cond_true, mapped_some, value_of}
pub use Rattle.lagmodel.proofs.LaneMoves.{Within, cable_cases, lanes_forced, lanes_handed, lanes_own, lanes_peer, lanes_restarted}
pub use Rattle.lagmodel.proofs.Lanes.{Lanes, two_cases}
pub use Rattle.lagmodel.proofs.Lines.{Every, IsFrom, MarkerBelow, NoneBehind, ResponseBelow, answers, behind_split, every_contains, every_push}
pub use Rattle.lagmodel.proofs.Lines.{every_weaker, marker_higher, put_each, response_higher}
pub use Rattle.lagmodel.proofs.Orderly.{Orderly, answer_taken, handed_front, taken_away}
pub use Rattle.lagmodel.proofs.Ports.{changed_port, members_first, one_partner}
pub use Rattle.lagmodel.proofs.Stamps.{AllHeard, Fresh, FreshPdu, Stamps, heard_first, heard_own, parties_kept, party_moved, stamps_counted}
pub use Rattle.lagmodel.proofs.Stamps.{stamps_emptied, stamps_own}
pub use Rattle.lagnetwork.specs.Network.{AllNetworkMoves, CountsNetworkChanges, DeliversFirstAt, IsNetworkSetup, IsNetworkSuccessor, Moved}
pub use Rattle.lagnetwork.specs.Network.{Moved_down, Moved_up, Network, NetworkCall, NetworkEvent, NetworkHappens, NetworkRun, NetworkSetup, Place}
pub use Rattle.lagnetwork.specs.Network.{RepeatsFirstAt, Unmoved, also_forced, at_place, at_system, ends_at, first_network, freed_view}
pub use Rattle.lagnetwork.specs.Network.{handed_up_from, is_at, is_end, is_place, moved_again, moved_of, network_after, network_after_act}
pub use Rattle.lagnetwork.specs.Network.{network_after_acts, network_after_all, put_on_line, recabled, recabled_all, source_after, towards_after}
pub use Rattle.lagnetwork.specs.Network.{with_cable_moved, without_first}
pub use Rattle.lagnetwork.specs.NetworkLaw.{AllBelowNext, AllCountFromZero, CablesAgree, CablesStay, CollectedThenFlying, EachCollectorInOrder}
pub use Rattle.lagnetwork.specs.NetworkLaw.{EachOnePartner, EachTookInSync, EndsMeetAfterMove, FirstMarkersAreAlike, FlushedBehindMarker}
pub use Rattle.lagnetwork.specs.NetworkLaw.{FlyOnItsCable, GoesByItsCable, IsNetworkInvariant, MayBeginAnew, MaySucceedItself, NamesFarEnd}
pub use Rattle.lagnetwork.specs.NetworkLaw.{NetworkInOrder, NotWithItself, OneAggregatorReachesTwo, OneDevice, TookFromFarEnd, TookFromFixedEnd}
pub use Rattle.lagnetwork.specs.NetworkLaw.{scene_of}
