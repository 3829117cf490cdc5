use Rattle.lagnetwork.specs.NetworkLaw.{AllCountFromZero, CablesAgree, EachCollectorInOrder, EachOnePartner, EachTookInSync, NamesFarEnd}
use Rattle.lagnetwork.specs.NetworkLaw.{NetworkInOrder, NotWithItself, OneDevice, TookFromFarEnd}
use Rattle.lagnetwork.proofs.NetworkLaws.{cables_agree, each_took_in_sync, in_order_each, names_far_end, not_with_itself, one_device}
use Rattle.lagnetwork.proofs.NetworkLaws.{one_partner_each, took_from_ends, took_from_fixed_end}
use Rattle.lagnetwork.proofs.NetworkArriving.{each_in_order}
use Rattle.lagnetwork.proofs.NetworkCounting.{counts_from_zero}
use Rattle.lagfleet.proofs.Fleets.{fixed_of_fleet, holds_of_fleet, kept_of_fleet}
use Rattle.lagfleet.proofs.fleet.Goals as goal

pub returns : goal.returns
returns g c = record {
  one_partner = λ algorithms. kept_of_fleet (λ s a b k. g.F.Fn.post (algorithms s) (a, (b, tt)) k) (λ x w. EachOnePartner w) one_partner_each;
  agree = λ algorithms. kept_of_fleet (λ s a b k. g.F.Fn.post (algorithms s) (a, (b, tt)) k) (λ x w. CablesAgree w) cables_agree;
  in_order = λ algorithms. kept_of_fleet (λ s a b k. g.F.Fn.post (algorithms s) (a, (b, tt)) k) (λ x w. NetworkInOrder w) in_order_each;
  each_in_order = λ algorithms. holds_of_fleet (λ s a b k. g.F.Fn.post (algorithms s) (a, (b, tt)) k) (λ x w. EachCollectorInOrder w) each_in_order;
  counts_from_zero = λ algorithms. holds_of_fleet (λ s a b k. g.F.Fn.post (algorithms s) (a, (b, tt)) k) (λ x w. AllCountFromZero w) counts_from_zero;
  names_far_end = λ algorithms. kept_of_fleet (λ s a b k. g.F.Fn.post (algorithms s) (a, (b, tt)) k) NamesFarEnd names_far_end;
  took_from_far_end = λ algorithms. holds_of_fleet (λ s a b k. g.F.Fn.post (algorithms s) (a, (b, tt)) k) TookFromFarEnd took_from_ends;
  took_from_fixed_end = λ algorithms. fixed_of_fleet (λ s a b k. g.F.Fn.post (algorithms s) (a, (b, tt)) k) took_from_fixed_end;
  took_synchronized = λ algorithms. kept_of_fleet (λ s a b k. g.F.Fn.post (algorithms s) (a, (b, tt)) k) EachTookInSync each_took_in_sync;
  one_device = λ algorithms. kept_of_fleet (λ s a b k. g.F.Fn.post (algorithms s) (a, (b, tt)) k) OneDevice one_device;
  not_with_itself = λ algorithms. kept_of_fleet (λ s a b k. g.F.Fn.post (algorithms s) (a, (b, tt)) k) NotWithItself not_with_itself;
}
