-- One system beside any peer: what it does moves the scene as the law has it.
use Rattle.std.proofs.Common.{Bool, Err, List, Ok, Option, Result, Some, [], ap, arith, false, inl, refl, subst, sym, true, ℕ, ◌∙◌, ◌∷◌, ◌≡◌}
use Rattle.lagtypes.specs.declared.identifiers.AggId.{AggId}
use Rattle.lagmodel.specs.Move.{Act, LawfulMoves}
use Rattle.lagmodel.specs.Succession.{IsSuccessor}
use Rattle.lagmodel.specs.View.{Flushing, Force, IsSystemSetup, ModelCall, On, SystemSetup, View, conversation_port, first_view, is_restart}
use Rattle.lagmodel.specs.World.{One, at_two, on_cable_after, sent_after, taken_after}
use Rattle.lagnetwork.specs.Network.{also_forced, freed_view}
use Rattle.lagnetwork.proofs.NetworkEvents.{members_alike}
use Rattle.lagnetwork.proofs.NetworkLaws.{took_in_sync}
use Rattle.lagsystem.specs.declared.drive.HostCall.{HostCall}
use Rattle.lagsystem.specs.declared.drive.HostReply.{HostReply}
use Rattle.lagsystem.specs.declared.fault.SystemFault.{SystemFault}
use Rattle.lagsystem.specs.Calls.{Call}
use Rattle.lagsystem.specs.HostCalls.{HostPromise}
use Rattle.lagsystem.specs.Leaving.{system_rest_result}
use Rattle.lagsystem.specs.ModelView.{model_setup, model_view}
use Rattle.lagsystem.specs.Offers.{system_force_result}
use Rattle.lagsystem.specs.Sound.{CallPromise}
use Rattle.lagsystem.specs.State.{SystemState}
use Rattle.lagsystem.proofs.FirstView.{configured_setup, first_shows}
use Rattle.lagfleet.specs.Doing.{Does, Doing, offered}
use Rattle.lagfleet.specs.Fleet.{IsOther, is_held}
use Rattle.lagmodel.specs.Law.{OnePartner}
use Rattle.lagmodel.specs.AnyPeer.{Calls, Comes, Fits, Forces, Happening, Restarts, Scene, OrderHolds, SerialsCountFromZero, TookInSync, first_scene}
use Rattle.lagmodel.specs.AnyPeer.{scene_after_acts}
use Rattle.lagmodel.proofs.AnyPeer.{Kept, comes_kept, counted_comes, each_call_is_one, first_kept, none_counted, unsent}
use Rattle.lagmodel.proofs.Orderly.{handed_front}
use Rattle.lagmodel.proofs.Ports.{one_partner}
use Rattle.lagsystem.specs.declared.drive.HostCall.TheVariants as host
use Rattle.lagsystem.specs.declared.drive.HostReply.TheVariants as told
use Rattle.lagsystem.specs.declared.drive.Reply.TheVariants as reply
use Rattle.lagsystem.specs.First.{IsFirst}
use Rattle.lagnetwork.proofs.NetworkLines.{lanes_freed, lanes_succeeded}
use Rattle.lagfleet.specs.BesideAnyPeer.{Acts, EachCallBesideAnyPeer, HoldsBesideAnyPeer, IsOutside, Stage, StageEvent, StageForces, StageForcesHeld}
use Rattle.lagfleet.specs.BesideAnyPeer.{StageRun, StageSteps, takes_all, Makes_call, Starts_again, Forces_conversation, Offers_conversation}
use Rattle.lagfleet.specs.BesideAnyPeer.{Leaves_conversation, Probes_port, Rests_conversation, Forces_port, Changes_setting, Gives_way, Befalls}
use Rattle.lagfleet.specs.BesideAnyPeer.{EachForceBesideAnyPeer, EachHappeningBesideAnyPeer, EachHostCallBesideAnyPeer, EachRestartBesideAnyPeer}
use Rattle.lagfleet.specs.BesideAnyPeer.{EachSettingBesideAnyPeer, IsHostEvent, LeadsTo, MayGiveWayToItself, scene_after_force}
use Rattle.lagfleet.proofs.Doings.{does_lawfully, held_freed, refused_same}

-- ---- what stays true of the system and its scene

pub record Standing (u : SystemSetup) (ends : ℕ → Option ℕ) (st : Stage) : Type 0 where
  pub kept : Kept u ends st.scene
  pub counts : SerialsCountFromZero st.scene
  pub setup : model_setup st.system ≡ u
  pub view : st.scene.view ≡ model_view st.system

-- so it is of some configuration
abbrev Stood : (ℕ → Option ℕ) → Stage → Type 0
Stood ends st = (u : SystemSetup) × IsSystemSetup u × Standing u ends st

-- acts leave the view in which the call ended
acts_view : (ends : ℕ → Option ℕ) (stamp : ℕ) (accepts : Act → Bool) (acts : List Act) (v : View) (w : Scene)
    → (scene_after_acts ends stamp accepts acts v w).view ≡ v
acts_view ends stamp accepts [] v w = refl
acts_view ends stamp accepts (a ∷ more) v w = acts_view ends stamp accepts more v (record w {
  out = on_cable_after One ends w.whole (λ p. 0) w.sent (accepts a) (Some a) w.out;
  sent = sent_after (Some a) w.sent;
  taken = taken_after stamp (Some a) w.taken;
})

-- what happens outside leaves the view
outside_view : (u : SystemSetup) (ends : ℕ → Option ℕ) (e : Happening) (old new : Scene) → IsOutside e → Comes u ends e old new → new.view ≡ old.view
outside_view u ends e old new h z = grind arith

module _ (gives : ℕ → ℕ → ℕ → Type 0) (u : SystemSetup) (ends : ℕ → Option ℕ) (f : IsSystemSetup u)
    (one : (c d p : ℕ) → ends c ≡ Some p → ends d ≡ Some p → c ≡ d) where
  acted : (doing : Doing) (law : ModelCall) (stamp : ℕ) (accepts : Act → Bool) (old : Stage) (before : Scene) (new : Stage)
      → Standing u ends old → Kept u ends before → before.view ≡ old.scene.view → before.sent ≡ old.scene.sent
      → Acts gives ends doing law stamp accepts old before new → Standing u ends new
  acted doing law stamp accepts old before new i k same sent a =
      let both = does_lawfully gives doing law a.acts old.system new.system a.does in
      let lawful : LawfulMoves u law before.view a.acts (model_view new.system) =
      subst (λ (v : View). LawfulMoves u law v a.acts (model_view new.system)) (sym (same ∙ i.view))
      (subst (λ (u : SystemSetup). LawfulMoves u law (model_view old.system) a.acts (model_view new.system)) i.setup both.0) in
      let c = each_call_is_one u ends law stamp accepts a.acts before (model_view new.system) lawful a.fits in
      let comes = subst (λ (w : Scene). Comes u ends (Calls law stamp c.0) before w) (sym a.leaves) c.1 in
      record {
        kept = comes_kept u ends (Calls law stamp c.0) before new.scene f one k comes;
        counts = counted_comes u ends (Calls law stamp c.0) before new.scene (unsent old.scene before sent i.counts) comes;
        setup = both.1 ∙ i.setup;
        view = ap (λ (w : Scene). w.view) a.leaves ∙ acts_view ends stamp accepts a.acts (model_view new.system) before;
      }

  stays : (old new : Stage) → new ≡ old → Standing u ends old → Standing u ends new
  stays old new e = subst (Standing u ends) (sym e)

  forces : (agg : AggId) (conv : ℕ) (doing : Doing) (answer : Result Unit SystemFault) (old new : Stage) → Standing u ends old
      → StageForces gives ends agg conv doing answer old new → Standing u ends new
  forces agg conv doing (Err fault) old new i z = stays old new z.1 i
  forces agg conv doing (Ok done) old new i z =
      let before : Scene = record old.scene { forced = at_two old.scene.forced agg.0 conv true } in
      acted doing (ModelCall.Force agg.0 conv) 0 takes_all old before new i
      (comes_kept u ends (Forces agg.0 conv) old.scene before f one i.kept refl) refl refl z

  held : (port count : ℕ) (old new : Stage) → Standing u ends old → StageForcesHeld gives port count old new → Standing u ends new
  held port count old new i z = let test = is_held port old.system in
      let both = held_freed port old.system new.system z.promise.0 z.promise.2 in
      let seen : model_view new.system ≡ freed_view test old.scene.view = both.0 ∙ ap (freed_view test) (sym i.view) in
      record {
        kept = subst (Kept u ends) (sym (z.leaves
            ∙ ap (λ (v : View). record old.scene { view = v; forced = also_forced test old.scene.forced }) seen)) (record {
              lanes = lanes_freed i.kept.lanes test;
              members = i.kept.members;
              heard = i.kept.heard;
            });
        counts = unsent old.scene new.scene (ap (λ (w : Scene). w.sent) z.leaves) i.counts;
        setup = both.1 ∙ i.setup;
        view = ap (λ (w : Scene). w.view) z.leaves;
      }

  -- a call of which the law is told so
  plain : (doing : Doing) (law : ModelCall) (stamp : ℕ) (accepts : Act → Bool) (old new : Stage) → Standing u ends old
      → Acts gives ends doing law stamp accepts old old.scene new → Standing u ends new
  plain doing law stamp accepts old new i z = acted doing law stamp accepts old old.scene new i i.kept refl refl z

  keeps : (e : StageEvent) (old new : Stage) → (e ≡ Gives_way → ⊥) → Standing u ends old → StageSteps gives ends e old new → Standing u ends new
  keeps (Makes_call call answer accepts stamp) old new n i z = plain (Doing.Makes call answer) z.0 stamp accepts old new i z.2
  keeps Starts_again old new n i z =
      let first : model_view new.system ≡ first_view u = first_shows new.system z.0.step.1 ∙ ap first_view (z.0.configured ∙ i.setup) in
      record {
        kept = comes_kept u ends Restarts old.scene new.scene f one i.kept
            (z.1 ∙ ap (λ (v : View). record old.scene { view = v; out = λ c. []; back = λ c. [] }) first);
        counts = unsent old.scene new.scene (ap (λ (w : Scene). w.sent) z.1) i.counts;
        setup = z.0.configured ∙ i.setup;
        view = ap (λ (w : Scene). w.view) z.1;
      }
  keeps (Forces_conversation agg conv answer) old new n i z = forces agg conv (Doing.Forces agg conv) answer old new i z
  keeps (Offers_conversation agg conv answer accepts) old new n i z =
      plain (Doing.Offers agg conv answer) ModelCall.Offer 0 accepts old new i z
  keeps (Leaves_conversation agg conv answer) old new n i z =
      plain (Doing.Leaves agg conv answer) ModelCall.Move_conversation 0 takes_all old new i z
  keeps (Probes_port port answer accepts) old new n i z = plain (Doing.Probes port answer) ModelCall.Transmit 0 accepts old new i z
  keeps (Rests_conversation agg conv answer) old new n i z = forces agg conv (Doing.Rests agg conv) answer old new i z
  keeps (Forces_port port (Ok count)) old new n i z = held port count old new i z
  keeps (Forces_port port (Err fault)) old new n i z = stays old new z.1 i
  keeps (Changes_setting setting answer) old new n i z = plain (Doing.Sets setting answer) ModelCall.Tick 0 takes_all old new i z
  keeps Gives_way old new n i z = absurd (n refl)
  keeps (Befalls e) old new n i z = let comes = subst (λ (u : SystemSetup). Comes u ends e old.scene new.scene) i.setup z.2 in
      record {
        kept = comes_kept u ends e old.scene new.scene f one i.kept comes;
        counts = counted_comes u ends e old.scene new.scene i.counts comes;
        setup = ap model_setup z.1 ∙ i.setup;
        view = outside_view u ends e old.scene new.scene z.0 comes ∙ i.view ∙ ap model_view (sym z.1);
      }

  -- another system goes on, of this configuration
  steps : (e : StageEvent) (old new : Stage) → Standing u ends old → StageSteps gives ends e old new → Stood ends new
  steps Gives_way old new i z =
      let members = members_alike (model_setup old.system) (model_setup new.system) ((model_view new.system).port) z.1 z.0.members in (
        model_setup new.system,
        z.1.setup,
        record {
          kept = subst (Kept (model_setup new.system) ends) (sym z.2) (record {
            lanes = lanes_succeeded i.kept.lanes ((model_view new.system).flows) z.0.on z.0.waits z.0.next;
            members = members;
            heard = z.0.heard;
          });
          counts = unsent old.scene new.scene (ap (λ (w : Scene). w.sent) z.2) i.counts;
          setup = refl;
          view = ap (λ (w : Scene). w.view) z.2;
        },
      )
  steps e old new i z = (u, f, keeps e old new (λ h. cc) i z)

runs : (gives : ℕ → ℕ → ℕ → Type 0) (ends : ℕ → Option ℕ) → ((c d p : ℕ) → ends c ≡ Some p → ends d ≡ Some p → c ≡ d) → (es : List StageEvent)
    (old new : Stage) → Stood ends old → StageRun gives ends es old new → Stood ends new
runs gives ends one [] old new i z = subst (Stood ends) (sym z) i
runs gives ends one (e ∷ es) old new i z = runs gives ends one es z.0 new (steps gives i.0 ends i.1 one e old z.0 i.2 z.1) z.2

stood : (gives : ℕ → ℕ → ℕ → Type 0) (ends : ℕ → Option ℕ) (events : List StageEvent) (start end : Stage)
    → ((c d p : ℕ) → ends c ≡ Some p → ends d ≡ Some p → c ≡ d) → IsFirst start.system
    → start.scene ≡ first_scene (model_setup start.system) → StageRun gives ends events start end → Stood ends end
stood gives ends events start end one first e z = let u = model_setup start.system in
    let f = configured_setup start.system in
    runs gives ends one events start end (
      u,
      f,
      record {
        kept = subst (Kept u ends) (sym e) (first_kept u ends f);
        counts = subst SerialsCountFromZero (sym e) (none_counted u);
        setup = refl;
        view = ap (λ (w : Scene). w.view) e ∙ sym (first_shows start.system first);
      },
    ) z

pub partner_beside : (gives : ℕ → ℕ → ℕ → Type 0) → HoldsBesideAnyPeer gives (λ w. OnePartner w.view)
partner_beside gives ends events start end one first e z = let i = stood gives ends events start end one first e z in
    (one_partner i.0 end.scene.view i.2.kept.members, i.2.view)

pub order_beside : (gives : ℕ → ℕ → ℕ → Type 0) → HoldsBesideAnyPeer gives OrderHolds
order_beside gives ends events start end one first e z = let i = stood gives ends events start end one first e z in
    (λ g k h. handed_front (i.2.kept.lanes.orderly g k 0 h), i.2.view)

pub took_beside : (gives : ℕ → ℕ → ℕ → Type 0) → HoldsBesideAnyPeer gives TookInSync
took_beside gives ends events start end one first e z = grind (arith, stood, took_in_sync)

pub counts_beside : (gives : ℕ → ℕ → ℕ → Type 0) → HoldsBesideAnyPeer gives SerialsCountFromZero
counts_beside gives ends events start end one first e z = grind (arith, stood)

-- ---- each call is an event

pub calls_beside : (gives : ℕ → ℕ → ℕ → Type 0) → EachCallBesideAnyPeer gives
calls_beside gives ends old call answer accepts after stamp promise fits = (
  record { system = after; scene = scene_after_acts ends stamp accepts promise.moves.1 (model_view after) old.scene },
  (promise.moves.0, promise.moves.2, record { acts = promise.moves.1; does = (promise, inl refl, refl); fits = fits; leaves = refl }),
  refl,
  refl,
)

-- nothing that comes has to fit these calls
abbrev asks_nothing : ModelCall → Bool
asks_nothing ModelCall.Tick = true
asks_nothing ModelCall.Transmit = true
asks_nothing ModelCall.Offer = true
asks_nothing ModelCall.Move_conversation = true
asks_nothing law = false

fits_any : (law : ModelCall) (ends : ℕ → Option ℕ) (w : Scene) → is_restart law ≡ false → asks_nothing law ≡ true → Fits law 0 ends w
fits_any law ends w r h = grind arith

fits_forced : (g k : ℕ) (ends : ℕ → Option ℕ) (w : Scene) → Fits (Force g k) 0 ends (record w { forced = at_two w.forced g k true })
fits_forced g k ends w = grind arith

module _ (gives : ℕ → ℕ → ℕ → Type 0) (ends : ℕ → Option ℕ) (old : Stage) (after : SystemState) where
  -- the system goes on so, and leaves this scene
  abbrev stage : SystemState → Scene → Stage
  stage system scene = record { system = system; scene = scene }

  quiet : (doing : Doing) (law : ModelCall) (accepts : Act → Bool) (acts : List Act) → is_restart law ≡ false → asks_nothing law ≡ true
      → Does gives doing law acts old.system after
      → Acts gives ends doing law 0 accepts old old.scene (stage after (scene_after_acts ends 0 accepts acts (model_view after) old.scene))
  quiet doing law accepts acts r h does = record { acts = acts; does = does; fits = fits_any law ends old.scene r h; leaves = refl }

  forced : (agg : AggId) (conv : ℕ) (doing : Doing) (done : Unit) → Does gives doing (Force agg.0 conv) [] old.system after
      → StageForces gives ends agg conv doing (Ok done) old (stage after (scene_after_force agg conv (Ok done) after old.scene))
  forced agg conv doing done does = record { acts = []; does = does; fits = fits_forced agg.0 conv ends old.scene; leaves = refl }

  unchanged : after ≡ old.system → stage after old.scene ≡ old
  unchanged same = ap (λ (s : SystemState). stage s old.scene) same

  each_force : (agg : AggId) (conv : ℕ) (answer : Result Unit SystemFault) → CallPromise gives old.system (Call.Force agg conv) (reply.Force answer) after
      → LeadsTo gives ends old (Forces_conversation agg conv answer) after (scene_after_force agg conv answer after old.scene)
  each_force agg conv (Ok done) promise = forced agg conv (Doing.Forces agg conv) done (promise, refl, refl)
  each_force agg conv (Err fault) promise =
      let same = refused_same agg conv (system_force_result old.system agg conv) fault old.system after promise.step in
      (subst (CallPromise gives old.system (Call.Force agg conv) (reply.Force (Err fault))) same promise, unchanged same)

  each_host_call : (call : HostCall) (answer : HostReply) (accepts : Act → Bool) → IsOther call → HostPromise gives old.system call answer after
      → IsHostEvent gives ends old accepts after call answer
  each_host_call (host.OfferConversation agg conv) (told.OfferConversation answer) accepts h promise =
      quiet (Doing.Offers agg conv answer) ModelCall.Offer accepts (offered agg conv answer) refl refl (promise, refl, refl)
  each_host_call (host.LeaveConversation agg conv) (told.LeaveConversation answer) accepts h promise =
      quiet (Doing.Leaves agg conv answer) ModelCall.Move_conversation takes_all [] refl refl (promise, refl, refl)
  each_host_call (host.Probe port) (told.Probe answer) accepts h promise = (
    promise.1.0,
    promise.1.1,
    quiet (Doing.Probes port answer) ModelCall.Transmit accepts promise.1.0 refl refl (promise, refl, refl),
  )
  each_host_call (host.Rest agg conv) (told.Rest (Ok done)) accepts h promise =
      forced agg conv (Doing.Rests agg conv) done (promise, refl, refl)
  each_host_call (host.Rest agg conv) (told.Rest (Err fault)) accepts h promise =
      let same = refused_same agg conv (system_rest_result old.system agg conv) fault old.system after promise.0 in
      (subst (HostPromise gives old.system (host.Rest agg conv) (told.Rest (Err fault))) same promise, unchanged same)
  each_host_call (host.ForcePort port) (told.ForcePort (Ok count)) accepts h promise = record { promise = promise; leaves = refl }
  each_host_call (host.ForcePort port) (told.ForcePort (Err fault)) accepts h promise = let same = promise.1.same in
      (subst (HostPromise gives old.system (host.ForcePort port) (told.ForcePort (Err fault))) same promise, unchanged same)
  each_host_call (host.Call call) answer accepts h promise = absurd h
  each_host_call call answer accepts h promise = absurd promise

pub restarts_beside : (gives : ℕ → ℕ → ℕ → Type 0) → EachRestartBesideAnyPeer gives
restarts_beside gives ends old after promise = (promise, refl)

pub forces_beside : (gives : ℕ → ℕ → ℕ → Type 0) → EachForceBesideAnyPeer gives
forces_beside gives ends old agg conv answer after promise = each_force gives ends old after agg conv answer promise

pub host_calls_beside : (gives : ℕ → ℕ → ℕ → Type 0) → EachHostCallBesideAnyPeer gives
host_calls_beside gives ends old call answer accepts after h promise = each_host_call gives ends old after call answer accepts h promise

pub settings_beside : (gives : ℕ → ℕ → ℕ → Type 0) → EachSettingBesideAnyPeer gives
settings_beside gives ends old setting answer after promise = grind arith

pub happenings_beside : (gives : ℕ → ℕ → ℕ → Type 0) → EachHappeningBesideAnyPeer gives
happenings_beside gives ends old h scene c r f z = grind arith

-- what flushes is not On a port
waits_not_on : (p q n : ℕ) → Flushing p n ≡ On q → ⊥
waits_not_on p q n e = cc

pub gives_way_beside : (gives : ℕ → ℕ → ℕ → Type 0) → MayGiveWayToItself gives
gives_way_beside gives ends events start end one first e z on = let i = stood gives ends events start end one first e z in
    let own : IsSuccessor i.0 end.scene.view end.scene.taken end.scene.view = record {
      members = i.2.kept.members;
      heard = i.2.kept.heard;
      on = on;
      waits = λ g k p n h. waits_not_on p p n (sym h ∙ on g k p (ap conversation_port h));
      next = omega arith;
    } in (
      subst (λ (u : SystemSetup). IsSuccessor u end.scene.view end.scene.taken (model_view end.system)) (sym i.2.setup)
          (subst (λ (v : View). IsSuccessor i.0 end.scene.view end.scene.taken v) i.2.view own),
      record { setup = configured_setup end.system; system = refl; key = λ g. refl; ports = λ p. refl },
      ap (λ (v : View). record end.scene { view = v }) i.2.view,
    )
