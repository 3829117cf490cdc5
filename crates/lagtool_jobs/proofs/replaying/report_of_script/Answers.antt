use Rattle.lagtool_jobs.proofs.Common.{List, ap, length, map, subst, sym, ◌∙◌, length-map, AllNameExisting, empty_link, replay_report_with_counts}
use Rattle.lagtool_jobs.proofs.Common.{Reply, Algorithms, algorithms_of}
use Rattle.lagworld.proofs.Starts.{start_sound}
use Rattle.lagtool_jobs.proofs.OfferedLemmas.{sent_where_offered}
use Rattle.lagtool_jobs.proofs.PlayingLemmas.{cables_counted, first_bare, lines_there}
use Rattle.lagtool_jobs.proofs.ReplayLemmas.{as_many}
use Rattle.lagtool_jobs.proofs.StartLemmas.{first_lines_are, reported_is}
use Rattle.lagtool_jobs.proofs.replaying.report_of_script.Goals as goal

pub make_world-requires-clause-lines : goal.make_world-requires-clause-lines
make_world-requires-clause-lines g c =
    lines_there c.args.config.cables.items c.in-Ok.lines.items (map (empty_link (0, 0)) c.args.limits.now) c.in-Ok.ensures.ok
    (length-map c.args.limits.now (empty_link (0, 0)) ∙ c.requires.one_each)
    (first_bare c.args.limits.now)

pub run_events-requires-clause-one : goal.run_events-requires-clause-one
run_events-requires-clause-one g c = rw c.in-Ok-make_world.ensures.algorithm_one c.requires.one

pub run_events-requires-clause-two : goal.run_events-requires-clause-two
run_events-requires-clause-two g c = rw c.in-Ok-make_world.ensures.algorithm_two c.requires.two

pub run_events-requires-clause-sound : goal.run_events-requires-clause-sound
run_events-requires-clause-sound g c = start_sound c.in-Ok-make_world.world.state c.in-Ok-make_world.ensures.start

pub run_events-requires-clause-acted : goal.run_events-requires-clause-acted
run_events-requires-clause-acted g c = c.in-Ok-make_world.ensures.made.acted

pub run_events-requires-clause-named : goal.run_events-requires-clause-named
run_events-requires-clause-named g c = let made = c.in-Ok-make_world.ensures.made.links
    ∙ first_lines_are c.args.config.cables.items c.in-Ok.lines.items c.args.limits.now c.in-Ok.ensures.ok in
    subst (λ n. AllNameExisting n c.args.events.now)
    (sym (ap length made ∙ cables_counted c.args.config.cables.items c.args.limits.now c.requires.one_each)) c.requires.named

pub report_of-requires-clause-replies : goal.report_of-requires-clause-replies
report_of-requires-clause-replies g c =
    let gives : Algorithms = algorithms_of g.F.Fn.post c.in-Ok-make_world.world.one c.in-Ok-make_world.world.two in
    ap length c.deref.ensures.value ∙ as_many gives c.in-Ok-make_world.world.state c.run_events.new.world.state c.args.events.now
    c.in-Ok-run_events.replies.items c.in-Ok-run_events.ensures.ran

pub report_of-requires-clause-offered : goal.report_of-requires-clause-offered
report_of-requires-clause-offered g c =
    let gives : Algorithms = algorithms_of g.F.Fn.post c.in-Ok-make_world.world.one c.in-Ok-make_world.world.two in
    sent_where_offered gives c.in-Ok-make_world.world.state c.run_events.new.world.state c.args.events.now c.in-Ok-run_events.replies.items
    c.in-Ok-make_world.ensures.start c.in-Ok-run_events.ensures.ran

pub returns-clause-ok : goal.returns-clause-ok
returns-clause-ok g c = let old = c.in-Ok-make_world.world.state in
    let new = c.run_events.new.world.state in
    let es = c.args.events.now in
    let rs = c.in-Ok-run_events.replies.items in
    let counts = c.both_counts-counts.result in
    record {
      replies = rs;
      to = new;
      played = record {
        from = old;
        systems = c.in-Ok-make_world.ensures.made.systems;
        links = c.in-Ok-make_world.ensures.made.links
            ∙ first_lines_are c.args.config.cables.items c.in-Ok.lines.items c.args.limits.now c.in-Ok.ensures.ok;
        acted = c.in-Ok-make_world.ensures.made.acted;
        runs = rw (c.in-Ok-make_world.ensures.algorithm_one, c.in-Ok-make_world.ensures.algorithm_two) at c.in-Ok-run_events.ensures.ran;
        sound = c.in-Ok-run_events.ensures.sound;
      };
      says = c.in_ok-report_of.ensures
          ∙ ap (λ (xs : List Reply). replay_report_with_counts counts.0 counts.1 es xs new) c.deref.ensures.value
          ∙ reported_is counts.0 counts.1 c.args.config.systems es rs new c.both_counts-counts.ensures;
    }
