-- Every call preserves the invariant of a system, and the invariant implies that the ports agree.
use Rattle.lagsystem.proofs.Common.{List, [], ap, refl, subst, sym, ℕ, ◌∷◌, Members, View, members_call, members_first, one_partner}
use Rattle.lagsystem.proofs.Common.{partner_synchronized, selected, Table, Reply, SystemPort, Call, Step, IsFirst, JoinedByLawfulMoves}
use Rattle.lagsystem.proofs.Common.{MuxesConsistent, model_setup, model_view, CallPromise, DistributeAsMuxDoes, HasPorts, IsSound, PortsAgree}
use Rattle.lagsystem.proofs.Common.{SystemState, KeepsTransmitLimit}
use Rattle.lagsystem.proofs.FirstView.{configured_setup, first_shows}
use Rattle.lagsystem.proofs.HeldPorts.{Step-apart, Step-free, first_apart}
use Rattle.lagsystem.proofs.Keeps.{Step-aggregators, Step-conversations, Step-frame, Step-ports}
use Rattle.lagsystem.proofs.OccupantSteps.{Step-placed, first_placed}
use Rattle.lagsystem.proofs.OnPorts.{Step-carried, first_carried}
use Rattle.lagsystem.proofs.Conversing.{rest_distributes}
use Rattle.lagsystem.proofs.Rest.{Step-rested, first_rested}
use Rattle.lagsystem.proofs.Rising.{ports_rise}
use Rattle.lagsystem.proofs.Steps.{Step-joins}
use Rattle.lagsystem.proofs.StillSteps.{Step-quiet, first_quiet}
use Rattle.lagsystem.proofs.Windows.{Step-three, first_three, window_law}

pub first_sound : (s : SystemState) → HasPorts s → IsFirst s → IsSound s
first_sound s p h = record {
  ports = p;
  aggregators = ap (λ (t : Table). t.aggs) h.3;
  conversations = ap (λ (t : Table). t.conversations) h.3;
  carried = first_carried s h;
  rested = first_rested s h;
  windowed = first_three s h;
  members = subst (λ (v : View). Members (model_setup s) v.port) (sym (first_shows s h))
      (members_first (model_setup s) (configured_setup s));
  quiet = let q = first_quiet s p h in (q.0, q.1);
  promoted = (first_quiet s p h).2;
  occupants = (first_placed s h).0;
  limited = (first_placed s h).1;
  held = first_apart s h;
}

pub joins : (gives : ℕ → ℕ → ℕ → Type 0) (old : SystemState) (call : Call) (answer : Reply) (new : SystemState)
    → Step gives old call answer new → IsSound old → JoinedByLawfulMoves old call answer new
joins gives old call answer new h s = Step-joins gives old call answer new (ports_rise old s.ports) s.rested s.occupants h

pub Step-sound : (gives : ℕ → ℕ → ℕ → Type 0) (old : SystemState) (call : Call) (answer : Reply) (new : SystemState)
    → Step gives old call answer new → IsSound old → IsSound new
Step-sound gives old call answer new h s = let j = joins gives old call answer new h s in
    let kept = members_call (model_setup old) j.0 (model_view old) (model_view new) j.1 (configured_setup old) j.4 s.members in record {
      ports = Step-ports gives old call answer new h s.ports;
      aggregators = Step-aggregators gives old call answer new h s.aggregators;
      conversations = Step-conversations gives old call answer new h s.conversations;
      carried = Step-carried gives old call answer new h s.carried;
      rested = Step-rested gives old call answer new h s.rested;
      windowed = Step-three gives old call answer new h s.windowed;
      quiet = let q = Step-quiet gives old call answer new h s.ports (s.quiet.0, s.quiet.1, s.promoted) in (q.0, q.1);
      promoted = (Step-quiet gives old call answer new h s.ports (s.quiet.0, s.quiet.1, s.promoted)).2;
      occupants = (Step-placed gives old call answer new h s.ports (s.occupants, s.limited)).0;
      limited = (Step-placed gives old call answer new h s.ports (s.occupants, s.limited)).1;
      held = Step-apart gives old call answer new h s.held;
      members = subst (λ u. Members u (model_view new).port) (sym (ap model_setup (Step-frame gives old call answer new h))) kept;
    }

-- at rest a port distributes exactly if its mux machine does
all_distribute : (system_ports : List SystemPort) → MuxesConsistent system_ports → DistributeAsMuxDoes system_ports
all_distribute [] h = tt
all_distribute (x ∷ xs) h = (rest_distributes x.port.mux (selected x.port) (partner_synchronized x.port) h.0, all_distribute xs h.1)

pub agrees : (s : SystemState) → IsSound s → PortsAgree s
agrees s h = record {
  ports = h.ports;
  rested = h.rested.0;
  windowed = h.windowed;
  members = h.members;
  one_partner = one_partner (model_setup s) (model_view s) h.members;
  limited = h.limited;
  distribute = all_distribute s.system_ports h.rested.1;
}

-- a single call keeps the window
pub one_windowed : (gives : ℕ → ℕ → ℕ → Type 0) (old : SystemState) (call : Call) (answer : Reply) (new : SystemState)
    → Step gives old call answer new → IsSound old → KeepsTransmitLimit old (call ∷ []) (answer ∷ [])
one_windowed gives old call answer new h s = window_law gives old new (call ∷ []) (answer ∷ []) s.windowed (new, h, refl)

-- a step of a sound system is what every call promises
pub answers : (gives : ℕ → ℕ → ℕ → Type 0) (old : SystemState) (call : Call) (reply : Reply) (new : SystemState)
    → Step gives old call reply new → IsSound old → CallPromise gives old call reply new
answers gives old call reply new h s = record {
  step = h;
  moves = joins gives old call reply new h s;
  window = one_windowed gives old call reply new h s;
  agrees = agrees new (Step-sound gives old call reply new h s);
  configured = ap model_setup (Step-frame gives old call reply new h);
  conversations = ap (λ (s : SystemState). s.conversations) (Step-frame gives old call reply new h);
  max_links = ap (λ (s : SystemState). s.max_links) (Step-frame gives old call reply new h);
  held = Step-free gives old call reply new h;
}
