use Rattle.lagworld.proofs.Common.{None, arith, inr, map, subst, sym, take, true, ◌∙◌, ◌≡◌, Happens, Run, PicksIndexes, Event, Algorithms, WorldRuns}
use Rattle.lagworld.proofs.Common.{WorldSteps, cause, cause_or_no_memory, may_take_memory, model_event, model_world, world_setup, RefusesNext}
use Rattle.lagworld.proofs.Common.{next_of, WorldState}
use Rattle.lagworld.proofs.Sides.{algorithms_of, gives_of}
use Rattle.lagworld.proofs.Running.{one_partner_of, carries_of, runs_on, world_on, stopped_by}
use Rattle.lagworld.proofs.world.World.run.Goals as goal

pub returns-in-Err-clause-one_partner : goal.returns-in-Err-clause-one_partner
returns-in-Err-clause-one_partner g c = one_partner_of c.args.self.now.state c.alloc-alloc.ensures

pub returns-in-Err-clause-carries : goal.returns-in-Err-clause-carries
returns-in-Err-clause-carries g c = carries_of c.args.self.now.state c.alloc-alloc.ensures

pub step-requires-clause-one : goal.step-requires-clause-one
step-requires-clause-one g c = subst (λ f. PicksIndexes (λ conv count. g.F.Fn.pre f (conv, (count, tt))) (gives_of g.F.Fn.post f))
    (sym c.loop-done.invariant.one) c.requires.one

pub step-requires-clause-two : goal.step-requires-clause-two
step-requires-clause-two g c = subst (λ f. PicksIndexes (λ conv count. g.F.Fn.pre f (conv, (count, tt))) (gives_of g.F.Fn.post f))
    (sym c.loop-done.invariant.two) c.requires.two

pub returns-in-Err-step-clause-stopped : goal.returns-in-Err-step-clause-stopped
returns-in-Err-step-clause-stopped g c =
    let gives : Algorithms = algorithms_of g.F.Fn.post c.args.self.now.one c.args.self.now.two in
    let old = c.args.self.now.state in
    let es = c.args.events.now in
    let n = c.loop-done.done in
    let e = c.index-events-done.result in
    let same = sym c.in-Err-step.ensures.unchanged in
    let refused = subst (λ (x : Event). c.in-Err-step.fault ≡ cause_or_no_memory (cause c.loop-done.self.state x)) c.index-events-done.is
    c.in-Err-step.ensures.refused in
    let memory = subst (λ (x : Event). cause c.loop-done.self.state x ≡ None → may_take_memory x ≡ true) c.index-events-done.is
    c.in-Err-step.ensures.memory in
    record {
      replies = c.loop-done.replies.items;
      within = c.loop-done.invariant.within;
      acted = subst (λ (j : WorldState). WorldRuns gives old (take n es) c.loop-done.replies.items j) same c.loop-done.invariant.ran;
      happened = subst (λ (j : WorldState). Run (world_setup old) (map model_event (take n es)) (model_world old) (model_world j)) same
          c.loop-done.invariant.happened;
      fault = inr (subst (λ (j : WorldState). RefusesNext j (next_of es n) c.in-Err-step.fault) same
          (stopped_by c.loop-done.self.state es n e c.in-Err-step.fault c.loop-done-test.true refused memory));
    }

pub returns-in-Err-step-clause-one_partner : goal.returns-in-Err-step-clause-one_partner
returns-in-Err-step-clause-one_partner g c = one_partner_of c.step.new.self.state c.step.ensures.sound

pub returns-in-Err-step-clause-carries : goal.returns-in-Err-step-clause-carries
returns-in-Err-step-clause-carries g c = carries_of c.step.new.self.state c.step.ensures.sound

pub loop-done-preserved : goal.loop-done-preserved
loop-done-preserved g c = let old = c.args.self.now.state in
    let mid = c.loop-done.self.state in
    let new = c.step.new.self.state in
    let es = c.args.events.now in
    let n = c.loop-done.done in
    let e = c.index-events-done.result in
    let r = c.in-Ok-step.reply in
    let steps_one = subst
    (λ f. WorldSteps (algorithms_of g.F.Fn.post f c.loop-done.self.two) mid e r new) c.loop-done.invariant.one
    c.in-Ok-step.ensures.steps in
    let steps_two = subst
    (λ f. WorldSteps (algorithms_of g.F.Fn.post c.args.self.now.one f) mid e r new) c.loop-done.invariant.two steps_one in
    let gives : Algorithms = algorithms_of g.F.Fn.post c.args.self.now.one c.args.self.now.two in
    let happens = subst (λ x. Happens x (model_event e) (model_world mid) (model_world new)) c.loop-done.invariant.fixed
    c.in-Ok-step.ensures.happens in
    record {
      within = omega arith;
      ran = rw c.push_reserved.ensures.items (runs_on gives old mid new es c.loop-done.replies.items n e r c.loop-done-test.true
          c.loop-done.invariant.ran (subst (λ (x : Event). WorldSteps gives mid x r new) c.index-events-done.is steps_two));
      happened = world_on (world_setup old) (model_world old) (model_world mid) (model_world new) es n e c.loop-done-test.true
          c.loop-done.invariant.happened
          (subst (λ (x : Event). Happens (world_setup old) (model_event x) (model_world mid) (model_world new))
          c.index-events-done.is happens);
      fixed = c.step.ensures.fixed ∙ c.loop-done.invariant.fixed;
      sound = c.step.ensures.sound;
      one = c.step.ensures.algorithm_one ∙ c.loop-done.invariant.one;
      two = c.step.ensures.algorithm_two ∙ c.loop-done.invariant.two;
      count = omega (arith, c.push_reserved.ensures.len, c.loop-done.invariant.count);
      room = omega (arith, c.push_reserved.ensures.capacity, c.loop-done.invariant.room);
    }

pub returns-clause-one_partner : goal.returns-clause-one_partner
returns-clause-one_partner g c = one_partner_of c.loop-done.self.state c.loop-done.invariant.sound

pub returns-clause-carries : goal.returns-clause-carries
returns-clause-carries g c = carries_of c.loop-done.self.state c.loop-done.invariant.sound
