-- Each call that a contract allows is an event of a fleet.
use Rattle.std.proofs.Common.{Bool, Err, List, None, Ok, Option, Some, [], ap, cond, inl, refl, subst, sym, true, ℕ, ◌∙◌, ◌∷◌, ◌≡◌}
use Rattle.lagmodel.specs.Move.{Act}
use Rattle.lagmodel.specs.View.{ControlMessage, ModelCall}
use Rattle.lagmodel.specs.World.{Control, Data, Message, at_two}
use Rattle.lagnetwork.specs.Network.{Network, Place, also_forced, at_system, ends_at, handed_up_from, network_after_acts, without_first}
use Rattle.lagnetwork.proofs.NetworkCalls.{itself}
use Rattle.lagnetwork.proofs.Networks.{there}
use Rattle.lagsystem.specs.declared.drive.HostCall.{HostCall}
use Rattle.lagsystem.specs.declared.drive.HostReply.{HostReply}
use Rattle.lagsystem.specs.declared.drive.Reply.{Reply}
use Rattle.lagsystem.specs.Calls.{Call}
use Rattle.lagsystem.specs.HostCalls.{HostPromise}
use Rattle.lagsystem.specs.Leaving.{system_rest_result}
use Rattle.lagsystem.specs.ModelView.{FrameSeenAs, model_view}
use Rattle.lagsystem.specs.Offers.{system_force_result}
use Rattle.lagsystem.specs.Sound.{CallPromise}
use Rattle.lagsystem.specs.State.{SystemState}
use Rattle.lagfleet.specs.Doing.{Does, Doing, Forces, IsTold, Leaves, Makes, Offers, Probes, Rests, Sets, offered}
use Rattle.lagfleet.specs.Fleet.{Answers, Asks_call, CarriesFirst, EachCallIsAnEvent, EachHostCallIsAnEvent, EachSettingIsAnEvent, Fleet}
use Rattle.lagfleet.specs.Fleet.{FleetAlgorithms, FleetReceives, GoesOn, IsOther, IsTrueOf, Makes_call, fleet_setup, handed_up_in, is_held}
use Rattle.lagsystem.specs.declared.drive.HostCall.TheVariants as host
use Rattle.lagsystem.specs.declared.drive.HostReply.TheVariants as told
use Rattle.lagsystem.specs.declared.drive.Reply.TheVariants as reply
use Rattle.lagnetwork.proofs.NetworkTakeovers.{counted, counts}
use Rattle.lagfleet.proofs.Doings.{refused_same, told_received}

module _ (gives : FleetAlgorithms) (far : ℕ → ℕ → Option Place) (s : ℕ) (old : Fleet) (accepts : Act → Bool) (after : SystemState) where
  abbrev systems : ℕ → SystemState
  systems = at_system old.systems s after

  is_after : systems s ≡ after
  is_after = there old.systems s after

  -- the network after it
  abbrev left : (stamp : ℕ) (acts : List Act) (before : Network) → Network
  left stamp acts before =
      let w : Network = network_after_acts (fleet_setup far old.systems) s stamp accepts acts (model_view (systems s)) before in
      record w { count = counted old.net w }

  answers : (doing : Doing) (law : ModelCall) (stamp : ℕ) (acts : List Act) (before : Network) → Does (gives s) doing law acts (old.systems s) after
      → Answers gives far s doing law stamp accepts old before systems (left stamp acts before)
  answers doing law stamp acts before does = record {
    acts = acts;
    does = subst (λ n. Does (gives s) doing law acts (old.systems s) n) (sym is_after) does;
    others = ap (at_system old.systems s) (sym is_after);
    count = counted old.net (network_after_acts (fleet_setup far old.systems) s stamp accepts acts (model_view (systems s)) before);
    counts = counts old.net (network_after_acts (fleet_setup far old.systems) s stamp accepts acts (model_view (systems s)) before);
    leaves = refl;
  }

  abbrev fleet_after : Network → Fleet
  fleet_after net = record { systems = systems; net = net }

  -- nothing changes
  same_again : after ≡ old.systems s → old.systems ≡ systems
  same_again e = (λ i t. itself old.systems s t i) ∙ ap (at_system old.systems s) (sym e)

  -- a call of `drive` of which the law is told so
  called : (call : Call) (answer : Reply) (law : ModelCall) (stamp : ℕ) (before : Network) → (promise : CallPromise (gives s) (old.systems s) call answer after)
      → IsTold promise.moves.0 law → (net : Network) × Answers gives far s (Makes call answer) law stamp accepts old before systems net
  called call answer law stamp before promise t =
      (left stamp promise.moves.1 before, answers (Makes call answer) law stamp promise.moves.1 before (promise, t, refl))

  -- or just so
  made : (call : Call) (answer : Reply) (law : ModelCall) → (promise : CallPromise (gives s) (old.systems s) call answer after)
      → promise.moves.0 ≡ law → (new : Fleet) × ((seen : ModelCall) × (seen ≡ law)
      × Answers gives far s (Makes call answer) seen 0 accepts old old.net new.systems new.net) × (new.systems ≡ systems)
  made call answer law promise e =
      let a = called call answer promise.moves.0 0 old.net promise (inl refl) in (fleet_after a.0, (promise.moves.0, e, a.1), refl)

  -- of another doing
  done : (doing : Doing) (law : ModelCall) (acts : List Act) (before : Network) → Does (gives s) doing law acts (old.systems s) after
      → (new : Fleet) × Answers gives far s doing law 0 accepts old before new.systems new.net × (new.systems ≡ systems)
  done doing law acts before does = (fleet_after (left 0 acts before), answers doing law 0 acts before does, refl)

  -- of one that is refused
  refused : (P : SystemState → Type 0) → after ≡ old.systems s → P after → (new : Fleet) × (P (old.systems s) × (new ≡ old)) × (new.systems ≡ systems)
  refused P same h = (old, (subst P same h, refl), same_again same)

  received : (p : ℕ) (octets : List ℕ) (answer : Reply) (o : Option Place) (line : List Message)
      → CarriesFirst o line octets → CallPromise (gives s) (old.systems s) (Call.Receive p octets) answer after
      → (new : Fleet) × FleetReceives gives far s p octets answer accepts o line old new × (new.systems ≡ systems)
  received p octets answer None line h promise = let m = promise.moves.2 in
      let a = called (Call.Receive p octets) answer (ModelCall.Receive p m.0) 0 old.net promise (inl m.2) in
      (fleet_after a.0, (m.0, 0, m.1, a.1), refl)
  received p octets answer (Some place) [] h promise = absurd h
  received p octets answer (Some place) (Control pdu stamp ∷ ms) h promise = let m = promise.moves.2 in
      let a = called (Call.Receive p octets) answer (ModelCall.Receive p (Some pdu)) stamp old.net promise
      (told_received p octets promise.moves.0 m.0 pdu m.1 m.2 h) in
      (fleet_after (without_first s p a.0), (a.0, h, a.1, refl), refl)
  received p octets answer (Some place) (Data origin g k serial ∷ ms) h promise =
      let a = called (Call.Receive p octets) answer (ModelCall.Receive p None) 0 old.net promise
      (nothing promise.moves.2.0 promise.moves.2.1 promise.moves.2.2) in
      (fleet_after (handed_up_from s (Some place) (handed_up_in answer) g k serial (without_first s p a.0)), (a.0, a.1, refl), refl)
    where
      nothing : (o : Option ControlMessage) → FrameSeenAs octets o → promise.moves.0 ≡ ModelCall.Receive p o → IsTold promise.moves.0 (ModelCall.Receive p None)
      nothing None x e = inl e
      nothing (Some message) x e = absurd (h message x)

  each_call : (call : Call) (answer : Reply) → IsTrueOf far s old.net call → CallPromise (gives s) (old.systems s) call answer after
      → GoesOn gives far s old (Makes_call s call answer accepts) after
  each_call Call.Tick answer h promise = made Call.Tick answer ModelCall.Tick promise promise.moves.2
  each_call (Call.Transmit p) answer h promise = made (Call.Transmit p) answer ModelCall.Transmit promise promise.moves.2
  each_call (Call.Set_link p up) answer h promise =
      let a = called (Call.Set_link p up) answer (ModelCall.Set_link p up) 0 old.net promise (inl promise.moves.2) in
      (fleet_after a.0, (h, a.1), refl)
  each_call (Call.Receive p octets) answer h promise = received p octets answer (far s p) (old.net.towards s p) h promise
  each_call (Call.Configure p to) answer h promise = made (Call.Configure p to) answer ModelCall.Configure promise promise.moves.2
  each_call Call.Restart reply.Restart h promise = let emptied : Network = record old.net {
    view = at_system old.net.view s (model_view (systems s));
    towards = λ t q. cond (ends_at (fleet_setup far old.systems) s t q) [] (old.net.towards t q);
  } in (
    fleet_after (record emptied { count = counted old.net emptied }),
    record {
      promise = subst (CallPromise (gives s) (old.systems s) Call.Restart reply.Restart) (sym is_after) promise;
      others = ap (at_system old.systems s) (sym is_after);
      count = counted old.net emptied;
      counts = counts old.net emptied;
      leaves = refl;
    },
    refl,
  )
  each_call Call.Restart answer h promise = absurd (let x = promise.step in x)
  each_call (Call.Offer agg frame) answer h promise = made (Call.Offer agg frame) answer ModelCall.Offer promise promise.moves.2
  each_call (Call.Move_conversation agg k p) answer h promise = made (Call.Move_conversation agg k p) answer ModelCall.Move_conversation promise promise.moves.2
  each_call (Call.Force agg k) (reply.Force (Ok unit)) h promise = done (Forces agg k) (ModelCall.Force agg.0 k) []
      (record old.net { forced = at_system old.net.forced s (at_two (old.net.forced s) agg.0 k true) }) (promise, refl, refl)
  each_call (Call.Force agg k) (reply.Force (Err fault)) h promise =
      refused (CallPromise (gives s) (old.systems s) (Call.Force agg k) (reply.Force (Err fault)))
      (refused_same agg k (system_force_result (old.systems s) agg k) fault (old.systems s) after promise.step) promise
  each_call (Call.Force agg k) answer h promise = absurd (let x = promise.step in x)

  each_host_call : (call : HostCall) (answer : HostReply) → IsOther call → HostPromise (gives s) (old.systems s) call answer after
      → GoesOn gives far s old (Asks_call s call answer accepts) after
  each_host_call (host.OfferConversation agg conv) (told.OfferConversation answer) h promise =
      done (Offers agg conv answer) ModelCall.Offer (offered agg conv answer) old.net (promise, refl, refl)
  each_host_call (host.LeaveConversation agg conv) (told.LeaveConversation answer) h promise =
      done (Leaves agg conv answer) ModelCall.Move_conversation [] old.net (promise, refl, refl)
  each_host_call (host.Probe port) (told.Probe answer) h promise =
      done (Probes port answer) ModelCall.Transmit promise.1.0 old.net (promise, refl, refl)
  each_host_call (host.Rest agg conv) (told.Rest (Ok unit)) h promise = done (Rests agg conv) (ModelCall.Force agg.0 conv) []
      (record old.net { forced = at_system old.net.forced s (at_two (old.net.forced s) agg.0 conv true) }) (promise, refl, refl)
  each_host_call (host.Rest agg conv) (told.Rest (Err fault)) h promise =
      refused (HostPromise (gives s) (old.systems s) (host.Rest agg conv) (told.Rest (Err fault)))
      (refused_same agg conv (system_rest_result (old.systems s) agg conv) fault (old.systems s) after promise.0) promise
  each_host_call (host.ForcePort port) (told.ForcePort (Ok count)) h promise = (
    fleet_after (record old.net {
      view = at_system old.net.view s (model_view (systems s));
      forced = at_system old.net.forced s (also_forced (is_held port (old.systems s)) (old.net.forced s));
    }),
    record {
      promise = subst (HostPromise (gives s) (old.systems s) (host.ForcePort port) (told.ForcePort (Ok count))) (sym is_after) promise;
      others = ap (at_system old.systems s) (sym is_after);
      leaves = refl;
    },
    refl,
  )
  each_host_call (host.ForcePort port) (told.ForcePort (Err fault)) h promise =
      refused (HostPromise (gives s) (old.systems s) (host.ForcePort port) (told.ForcePort (Err fault))) promise.1.same promise
  each_host_call (host.Call call) answer h promise = absurd h
  each_host_call call answer h promise = absurd promise

pub calls_are_events : (gives : FleetAlgorithms) → EachCallIsAnEvent gives
calls_are_events gives far s old call answer accepts after h promise = each_call gives far s old accepts after call answer h promise

pub host_calls_are_events : (gives : FleetAlgorithms) → EachHostCallIsAnEvent gives
host_calls_are_events gives far s old call answer accepts after h promise = each_host_call gives far s old accepts after call answer h promise

pub settings_are_events : (gives : FleetAlgorithms) → EachSettingIsAnEvent gives
settings_are_events gives far s old setting answer after promise =
    done gives far s old (λ a. true) after (Sets setting answer) ModelCall.Tick [] old.net (promise, refl, refl)
