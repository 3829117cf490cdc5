use Rattle.lagtool_jobs.proofs.Common.{List, length, subst, sym, ◌≤◌, AllNameExisting, Event, Algorithms, most_events, algorithms_of}
use Rattle.lagtool_jobs.proofs.NamingLemmas.{plan_few, plan_names}
use Rattle.lagtool_jobs.proofs.StartLemmas.{replayed_is, write_failed}
use Rattle.lagtool_jobs.proofs.replaying.replay_watched.Goals as goal

pub report_of_script-requires-clause-named : goal.report_of_script-requires-clause-named
report_of_script-requires-clause-named g c =
    subst (AllNameExisting (length c.in_ok-plan.plan.config.cables.items)) (sym c.deref-2.ensures.value)
    (plan_names c.args.text.now c.in_ok-plan.plan c.in_ok-plan.ensures.reads)

pub report_of_script-requires-clause-few : goal.report_of_script-requires-clause-few
report_of_script-requires-clause-few g c = subst (λ (es : List Event). length es ≤ most_events) (sym c.deref-2.ensures.value)
    (plan_few c.args.text.now c.in_ok-plan.plan c.in_ok-plan.ensures.reads)

pub returns-in_err-put : goal.returns-in_err-put
returns-in_err-put g c = let gives : Algorithms = algorithms_of g.F.Fn.post c.args.one c.args.two in
    write_failed g.W.Write.contents gives c.args.text.now c.args.sink.now c.put.new.self c.from_residual-in_err-put.result
    c.as_bytes.result.now (c.from_residual-in_err-put.ensures.1)
    (replayed_is gives c.args.text.now c.in_ok-plan.plan c.deref.result.now c.deref-2.result.now _ c.as_bytes.result.now
    c.in_ok-plan.ensures.reads c.deref.ensures.value c.deref-2.ensures.value c.as_bytes.ensures.value c.in_ok-report.ensures.ok)
    c.in_err-put.ensures.err

pub returns : goal.returns
returns g c = let gives : Algorithms = algorithms_of g.F.Fn.post c.args.one c.args.two in (
  c.as_bytes.result.now,
  replayed_is gives c.args.text.now c.in_ok-plan.plan c.deref.result.now c.deref-2.result.now _
      c.as_bytes.result.now c.in_ok-plan.ensures.reads c.deref.ensures.value c.deref-2.ensures.value c.as_bytes.ensures.value
      c.in_ok-report.ensures.ok,
  c.in_ok-put.ensures.ok,
)
