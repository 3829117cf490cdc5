use Rattle.lagfleet.proofs.Events.{calls_are_events, host_calls_are_events, settings_are_events}
use Rattle.lagfleet.proofs.each_call_is_an_event.Goals as goal

pub returns : goal.returns
returns g c = record {
  calls = λ algorithms. calls_are_events (λ s a b k. g.F.Fn.post (algorithms s) (a, (b, tt)) k);
  host_calls = λ algorithms. host_calls_are_events (λ s a b k. g.F.Fn.post (algorithms s) (a, (b, tt)) k);
  settings = λ algorithms. settings_are_events (λ s a b k. g.F.Fn.post (algorithms s) (a, (b, tt)) k);
}
