-- The run of `Carrying`, as events of a system beside any peer: its port has no cable of the law, so any octets may come.
use Rattle.std.proofs.Common.{Bool, List, None, Ok, Option, Some, [], ap, false, refl, subst, suc, sym, true, zero, ℕ, ◌∙◌, ◌∷◌, ◌≡◌}
use Rattle.std.proofs.lemmas.Bool.{false≢true}
use Rattle.std.proofs.lemmas.Option.{none-some}
use Rattle.lagmodel.specs.AnyPeer.{Fits, Scene, first_scene}
use Rattle.lagmodel.specs.View.{ModelCall, PortFacts, View, is_restart}
use Rattle.lagsystem.specs.declared.drive.Reply.{Reply}
use Rattle.lagsystem.specs.declared.drive.Reply.TheVariants as reply
use Rattle.lagsystem.specs.declared.received.Received.TheVariants.{TookLacpdu}
use Rattle.lagsystem.specs.Calls.{Call, Receive, Set_link, Step, Tick}
use Rattle.lagsystem.specs.ModelView.{CallSeenAs, model_port, model_setup, model_view}
use Rattle.lagsystem.specs.Sound.{IsSound}
use Rattle.lagsystem.specs.State.{SystemState}
use Rattle.lagsystem.proofs.Sound.{answers, Step-sound}
use Rattle.lagfleet.specs.BesideAnyPeer.{Makes_call, Stage, StageEvent, StageRun, StageSteps, takes_all}
use Rattle.lagfleet.proofs.Stages.{calls_beside, took_beside}
use Rattle.law_can_carry.specs.BesidePeers.{CarriesBesidePeer}
use Rattle.law_can_carry.proofs.Carrying.{begins, carrying, down, first_is_sound, frame, goes_up, is_taken, later, lifted, lifted_is_sound, mid_is_sound, near, next}
use Rattle.law_can_carry.proofs.Carrying.{system, waiting}

abbrev none : ℕ → Option ℕ
none c = None

-- the call is neither a restart nor a force
abbrev is_plain : ModelCall → Bool
is_plain ModelCall.Restart = false
is_plain (ModelCall.Force g k) = false
is_plain law = true

not_restart : (law : ModelCall) → is_plain law ≡ true → is_restart law ≡ false
not_restart ModelCall.Restart h = absurd (false≢true h)
not_restart (ModelCall.Receive p pdu) h = refl
not_restart ModelCall.Tick h = refl
not_restart (ModelCall.Set_link p up) h = refl
not_restart ModelCall.Configure h = refl
not_restart ModelCall.Transmit h = refl
not_restart ModelCall.Offer h = refl
not_restart ModelCall.Move_conversation h = refl
not_restart (ModelCall.Force g k) h = refl

fits : (law : ModelCall) (w : Scene) → is_plain law ≡ true → Fits law 0 none w
fits law w h = record {
  running = not_restart law h;
  came = λ p pdu e c at. absurd (none-some p at);
  downed = λ p e c at. absurd (none-some p at);
  forcing = λ g k e. absurd (false≢true (sym (ap is_plain e) ∙ h));
}

-- a call that is made so, from any stage
makes : (gives : ℕ → ℕ → ℕ → Type 0) (old : Stage) (call : Call) (answer : Reply) (after : SystemState) → IsSound old.system
    → Step gives old.system call answer after → ((law : ModelCall) → CallSeenAs call law → is_plain law ≡ true)
    → (new : Stage) × StageSteps gives none (Makes_call call answer takes_all 0) old new × (new.system ≡ after)
makes gives old call answer after s h plain =
    let promise = answers gives old.system call answer after h s in
    let x = calls_beside gives none old call answer takes_all after 0 promise
    (fits promise.moves.0 old.scene (plain promise.moves.0 promise.moves.2)) in (x.0, x.1, x.2)

plain_tick : (law : ModelCall) → CallSeenAs Tick law → is_plain law ≡ true
plain_tick law e = ap is_plain e

plain_link : (law : ModelCall) → CallSeenAs (Set_link 1 true) law → is_plain law ≡ true
plain_link law e = ap is_plain e

plain_receive : (law : ModelCall) → CallSeenAs (Receive 1 frame) law → is_plain law ≡ true
plain_receive law e = ap is_plain e.2

ticks_on : (gives : ℕ → ℕ → ℕ → Type 0) (n : ℕ) (old : Stage) → old.system ≡ system near (later n) → IsSound (system near (later n))
    → (events : List StageEvent) × (end : Stage) × StageRun gives none events old end × (end.system ≡ system near carrying)
ticks_on gives zero old e s = ([], old, refl, e)
ticks_on gives (suc n) old e s =
    let x = makes gives old Tick reply.Tick (system near (later n)) (subst IsSound (sym e) s)
    (subst (λ (t : SystemState). Step gives t Tick reply.Tick (system near (later n))) (sym e) (next gives n)) plain_tick in
    let more = ticks_on gives n x.0 x.2 (Step-sound gives (system near (later (suc n))) Tick reply.Tick (system near (later n)) (next gives n) s) in
    (Makes_call Tick reply.Tick takes_all 0 ∷ more.0, more.1, (x.0, x.1, more.2), more.3)

pub carries_beside_peer : (gives : ℕ → ℕ → ℕ → Type 0) → CarriesBesidePeer gives
carries_beside_peer gives =
    let start : Stage = record { system = system near (down near); scene = first_scene (model_setup (system near (down near))) } in
    let one = makes gives start (Set_link 1 true) (reply.SetLink (Ok tt)) (system near (lifted near)) (first_is_sound near) (goes_up near gives) plain_link in
    let two = makes gives one.0 (Receive 1 frame) (reply.Receive (Ok TookLacpdu)) (system near (waiting 900 300 20)) (subst IsSound (sym one.2) (lifted_is_sound near gives))
    (subst (λ (t : SystemState). Step gives t (Receive 1 frame) (reply.Receive (Ok TookLacpdu)) (system near (waiting 900 300 20))) (sym one.2) (is_taken gives)) plain_receive in
    let rest = ticks_on gives 20 two.0 two.2 (mid_is_sound gives) in
    let events : List StageEvent = Makes_call (Set_link 1 true) (reply.SetLink (Ok tt)) takes_all 0
    ∷ Makes_call (Receive 1 frame) (reply.Receive (Ok TookLacpdu)) takes_all 0 ∷ rest.0 in
    let run : StageRun gives none events start rest.1 = (one.0, one.1, (two.0, two.1, rest.2)) in
    let all = took_beside gives none events start rest.1 (λ c d p e f. absurd (none-some p e)) (begins near) refl run in
    let a : PortFacts = model_port carrying in
    let there : rest.1.scene.view.port 1 ≡ Some a = ap (λ (v : View). v.port 1) (all.1 ∙ ap model_view rest.3) in
    record {
      ends = none;
      events = events;
      start = start;
      end = rest.1;
      one_cable = λ c d p e f. absurd (none-some p e);
      first = begins near;
      nothing_yet = refl;
      run = run;
      port = a;
      there = there;
      distributes = refl;
      heard = refl;
      took = all.0 1 a there refl refl;
    }
