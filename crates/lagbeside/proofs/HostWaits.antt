-- No call of a host leaves a conversation waiting for a response for 30 ticks, or a timer above its bound.
use Rattle.lagbeside.proofs.Common.{Bool, Err, List, Ok, Option, Result, arith, false, if◌then◌else◌, subst, suc, sym, true, zero, ℕ, ◌≡◌, nat_tests}
use Rattle.lagbeside.proofs.Common.{AggId, Machines, Assignment, leave_result, after_mark, assignment_of, next_identifier, Answer, SystemFault}
use Rattle.lagbeside.proofs.Common.{SystemPort, Call, Force, Step, in_system, aggregator_numbered, SendsMarkerOf, SystemState, port_index}
use Rattle.lagbeside.proofs.Common.{EachCallKeepsTimed, EachHostCallKeepsTimed, EachHostCallKeepsWaits, IsAwaited, WaitsAreShort}
use Rattle.distributor.specs.declared.fault.DistFault.{DistFault}
use Rattle.lagsystem.specs.declared.drive.HostCall.{HostCall}
use Rattle.lagsystem.specs.declared.drive.HostReply.{HostReply}
use Rattle.lagsystem.specs.Drives.{call_of}
use Rattle.lagsystem.specs.HostCalls.{HostPromise}
use Rattle.lagsystem.specs.Probing.{Probes, ProbesAt, ProbesIf}
use Rattle.distributor.specs.declared.fault.DistFault.TheVariants as dist
use Rattle.lagsystem.specs.declared.drive.HostCall.TheVariants as host
use Rattle.lagsystem.specs.declared.drive.HostReply.TheVariants as told
use Rattle.lagsystem.specs.declared.drive.Reply.TheVariants as reply
use Rattle.lagsystem.specs.declared.fault.SystemFault.TheVariants.{NoAggregator}
use Rattle.lagsystem.specs.Assigning.{OffersIf}
use Rattle.lagsystem.specs.Forcing.{ForcesFirst, ForcesIfHeld, ForcesIn, ForcesPort}
use Rattle.lagsystem.specs.Leaving.{system_leave_result}
use Rattle.lagbeside.proofs.EachPort.{OfEach}
use Rattle.lagbeside.proofs.TableSteps.{Turns, gives_turn, turns_by}
use Rattle.lagbeside.proofs.Waits.{Stays, Step-waits, marked, stays}

stay_same : (old new : SystemState) → new ≡ old → WaitsAreShort old → WaitsAreShort new
stay_same old new e w = subst WaitsAreShort (sym e) w

turned : (old new : SystemState) → Turns Stays stays old.table new.table → WaitsAreShort old → WaitsAreShort new
turned old new h w g k = h g k (w g k)

offers : (there known : Bool) (gives : ℕ → ℕ → ℕ → Type 0) (agg : AggId) (conv : ℕ) (old : SystemState) (answer : Result ℕ SystemFault)
    (new : SystemState) → OffersIf there known gives agg conv old answer new → WaitsAreShort old → WaitsAreShort new
offers there known gives agg conv old answer new h w = grind (arith, nat_tests)

left_to : (b c : Bool) (r : Result Assignment DistFault) (s : Assignment)
    → (if b then in_system (if c then r else Err dist.NotAssigned) else Err NoAggregator) ≡ Ok s → r ≡ Ok s
left_to b c r s e = grind (arith, nat_tests)

left : (next : Option ℕ) (a s : Assignment) → leave_result next a ≡ Ok s → IsAwaited s
left next a s h = grind (arith, nat_tests)

marks : (o : Option ℕ) (port : ℕ) (mac : List ℕ) (old : SystemState) (answer : Option (List ℕ)) (new : SystemState)
    → SendsMarkerOf o port mac old answer new → WaitsAreShort old → WaitsAreShort new
marks o port mac old answer new h w = grind (arith, nat_tests, stay_same, turned, turns_by, stays, after_mark, marked)

probes_if : (up : Bool) (system_port : SystemPort) (old : SystemState) (answer : Option (List ℕ)) (new : SystemState)
    → ProbesIf up system_port old answer new → WaitsAreShort old → WaitsAreShort new
probes_if false system_port old answer new h w = stay_same old new h.1 w
probes_if true system_port old answer new h w = marks (next_identifier old.table) system_port.number system_port.mac old answer new h w

probes_at : (o : Option ℕ) (old : SystemState) (answer : Option (List ℕ)) (new : SystemState) → ProbesAt o old answer new
    → WaitsAreShort old → WaitsAreShort new
probes_at o old answer new h w = grind (arith, nat_tests, probes_if)

probes : (port : ℕ) (old : SystemState) (answer : Result (Option (List ℕ)) SystemFault) (new : SystemState) → Probes port old answer new
    → WaitsAreShort old → WaitsAreShort new
probes port old (Ok answer) new h w = probes_at (port_index port old.system_ports) old answer new h w
probes port old (Err fault) new h w = stay_same old new h.same w

-- what each call of a system keeps, a `force_port` keeps
module _ (gives : ℕ → ℕ → ℕ → Type 0) (P : SystemState → Type 0)
    (k : (old new : SystemState) (call : Call) (a : Answer) → Step gives old call a new → P old → P new) where
  forces_one : (port : ℕ) (agg : AggId) (conv : ℕ) (old : SystemState) (forced : Bool) (new : SystemState)
      → ForcesIfHeld gives port agg conv old forced new → P old → P new
  forces_one port agg conv old true new h w = k old new (Force agg conv) (reply.Force (Ok tt)) h.1.step w
  forces_one port agg conv old false new h w = subst P (sym h.1) w

  forces_in : (port : ℕ) (agg : AggId) (c : ℕ) (old : SystemState) (n : ℕ) (new : SystemState) → ForcesIn gives port agg c old n new → P old → P new
  forces_in port agg zero old n new h w = subst P (sym h.0) w
  forces_in port agg (suc c) old n new h w = forces_one port agg c h.0 h.2 new h.4 (forces_in port agg c old h.1 h.0 h.3 w)

  forces_first : (port g : ℕ) (old : SystemState) (n : ℕ) (new : SystemState) → ForcesFirst gives port g old n new → P old → P new
  forces_first port zero old n new h w = subst P (sym h.0) w
  forces_first port (suc g) old n new h w =
      forces_in port (aggregator_numbered (suc g)) h.0.conversations h.0 h.2 new h.4 (forces_first port g old h.1 h.0 h.3 w)

  pub forces_port : (port : ℕ) (old : SystemState) (answer : Result ℕ SystemFault) (new : SystemState) → ForcesPort gives port old answer new → P old → P new
  forces_port port old (Ok n) new h w = forces_first port _ old n new h.1 w
  forces_port port old (Err fault) new h w = subst P (sym h.same) w

pub Host-waits : (gives : ℕ → ℕ → ℕ → Type 0) → EachHostCallKeepsWaits gives
Host-waits gives old new (host.Call call) (told.Call answer) h w = Step-waits gives old new (call_of call) answer h.step w
Host-waits gives old new (host.OfferConversation agg conv) (told.OfferConversation answer) h w = offers _ _ gives agg conv old answer new h.0 w
Host-waits gives old new (host.LeaveConversation agg conv) (told.LeaveConversation answer) h w =
    turned old new (gives_turn Stays stays agg conv (system_leave_result old agg conv) old answer new
    (λ s x w. left (next_identifier old.table) (assignment_of old.table agg.0 conv) s (left_to _ _ _ s x)) h.0) w
Host-waits gives old new (host.Probe port) (told.Probe answer) h w = probes port old answer new h.0 w
Host-waits gives old new (host.Rest agg conv) (told.Rest (Ok done)) h w =
    Step-waits gives old new (Force agg conv) (reply.Force (Ok tt)) h.1.step w
Host-waits gives old new (host.Rest agg conv) (told.Rest (Err fault)) h w = grind (arith, nat_tests)
Host-waits gives old new (host.ForcePort port) (told.ForcePort answer) h w = grind (arith, nat_tests)
Host-waits gives old new call answer h w = absurd h

pub host_keeps : (gives : ℕ → ℕ → ℕ → Type 0) (P : Machines → Type 0) → ((old new : SystemState) (call : Call) (a : Answer)
    → Step gives old call a new → OfEach (λ n p. P p) old.system_ports → OfEach (λ n p. P p) new.system_ports)
    → (old new : SystemState) (call : HostCall) (answer : HostReply) → HostPromise gives old call answer new
    → OfEach (λ n p. P p) old.system_ports → OfEach (λ n p. P p) new.system_ports
host_keeps gives P k old new call answer h t = grind (arith, nat_tests)

pub Host-timed : (gives : ℕ → ℕ → ℕ → Type 0) → EachCallKeepsTimed gives → EachHostCallKeepsTimed gives
Host-timed gives kept old new call answer h = grind (arith, nat_tests)
