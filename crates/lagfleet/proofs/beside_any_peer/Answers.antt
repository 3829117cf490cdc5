use Rattle.lagfleet.proofs.Stages.{calls_beside, counts_beside, forces_beside, gives_way_beside, happenings_beside, host_calls_beside, order_beside}
use Rattle.lagfleet.proofs.Stages.{partner_beside, restarts_beside, settings_beside, took_beside}
use Rattle.lagfleet.proofs.beside_any_peer.Goals as goal

pub returns : goal.returns
returns g c = record {
  one_partner = λ algorithm. partner_beside (λ a b k. g.F.Fn.post algorithm (a, (b, tt)) k);
  took_synchronized = λ algorithm. took_beside (λ a b k. g.F.Fn.post algorithm (a, (b, tt)) k);
  in_order = λ algorithm. order_beside (λ a b k. g.F.Fn.post algorithm (a, (b, tt)) k);
  counts_from_zero = λ algorithm. counts_beside (λ a b k. g.F.Fn.post algorithm (a, (b, tt)) k);
  each_call = λ algorithm. calls_beside (λ a b k. g.F.Fn.post algorithm (a, (b, tt)) k);
  each_restart = λ algorithm. restarts_beside (λ a b k. g.F.Fn.post algorithm (a, (b, tt)) k);
  each_force = λ algorithm. forces_beside (λ a b k. g.F.Fn.post algorithm (a, (b, tt)) k);
  each_host_call = λ algorithm. host_calls_beside (λ a b k. g.F.Fn.post algorithm (a, (b, tt)) k);
  each_setting = λ algorithm. settings_beside (λ a b k. g.F.Fn.post algorithm (a, (b, tt)) k);
  each_happening = λ algorithm. happenings_beside (λ a b k. g.F.Fn.post algorithm (a, (b, tt)) k);
  takeovers = λ algorithm. gives_way_beside (λ a b k. g.F.Fn.post algorithm (a, (b, tt)) k);
}
