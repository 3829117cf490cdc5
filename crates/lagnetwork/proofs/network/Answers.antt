use Rattle.lagnetwork.proofs.Common.{recabled_all, AllBelowNext, CablesAgree, CollectedThenFlying, EachOnePartner, EachTookInSync}
use Rattle.lagnetwork.proofs.Common.{FlushedBehindMarker, FlyOnItsCable, MaySucceedItself, NamesFarEnd, NetworkInOrder, NotWithItself, OneDevice}
use Rattle.lagnetwork.proofs.NetworkLaws.{all_below_next, cables_agree, collected_then_flying, each_took_in_sync, flushed_behind_marker}
use Rattle.lagnetwork.proofs.NetworkLaws.{fly_on_its_cable, holds, in_order_each, names_far_end, not_with_itself, one_device, one_partner_each}
use Rattle.lagnetwork.proofs.NetworkLaws.{took_from_ends, took_from_fixed_end}
use Rattle.lagnetwork.proofs.NetworkTakeovers.{first_markers_are_alike, may_begin_anew, may_succeed_itself}
use Rattle.lagnetwork.proofs.NetworkEvents.{all_fine}
use Rattle.lagnetwork.proofs.NetworkCounting.{counts_from_zero}
use Rattle.lagnetwork.proofs.NetworkArriving.{each_in_order}
use Rattle.lagnetwork.proofs.network.Goals as goal

pub returns : goal.returns
returns c = record {
  one_partner = holds (λ x w. EachOnePartner w) one_partner_each;
  agree = holds (λ x w. CablesAgree w) cables_agree;
  in_order = holds (λ x w. NetworkInOrder w) in_order_each;
  each_in_order = each_in_order;
  names_far_end = holds NamesFarEnd names_far_end;
  took_from_far_end = took_from_ends;
  took_from_fixed_end = took_from_fixed_end;
  one_device = holds OneDevice one_device;
  not_with_itself = holds NotWithItself not_with_itself;
  took_synchronized = holds EachTookInSync each_took_in_sync;
  on_its_cable = holds FlyOnItsCable fly_on_its_cable;
  flushed_by_marker = holds FlushedBehindMarker flushed_behind_marker;
  below_next = holds AllBelowNext all_below_next;
  collected_then_in_flight = holds CollectedThenFlying collected_then_flying;
  counts_from_zero = counts_from_zero;
  takeovers = holds MaySucceedItself may_succeed_itself;
  restarts = λ x events w f r. may_begin_anew (recabled_all x events) w (all_fine x events w f r).0 (all_fine x events w f r).1;
  first_markers = λ x events w f r. first_markers_are_alike (recabled_all x events) (all_fine x events w f r).0;
}
