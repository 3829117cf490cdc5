-- Lists of all calls keep the transmit limit, and ports that agree.
use Rattle.lagsystem.proofs.Common.{Bool, List, None, Ok, Option, Result, Some, [], ap, arith, subst, sym, ℕ, ◌∙◌, ◌∷◌, ◌≡◌, nat_tests}
use Rattle.lagsystem.proofs.Common.{next_identifier, SystemFault, SystemPort, Transmit, call_of, model_setup, Probes, ProbesAt, ProbesIf}
use Rattle.lagsystem.proofs.Common.{SendsMarkerOf, PortsAgree, SystemState, machines_of, port_index, with_table, remembered_sends, sends_after}
use Rattle.lagsystem.specs.declared.drive.HostCall.{HostCall}
use Rattle.lagsystem.specs.declared.drive.HostCall.TheVariants as host
use Rattle.lagsystem.specs.declared.drive.HostReply.{HostReply}
use Rattle.lagsystem.specs.declared.drive.HostReply.TheVariants as told
use Rattle.lagsystem.specs.declared.drive.Reply.TheVariants as reply
use Rattle.lagsystem.specs.HostCalls.{HostAgreementLaw, HostPromise, HostRun, HostWindowLaw, KeepsAgreement, StaysWindowedForHosts, sends_after_host}
use Rattle.lagsystem.specs.HostCalls.{tick_after_host}
use Rattle.lagsystem.proofs.Preserves.{marker_silent, none_silent}
use Rattle.lagsystem.proofs.Windows.{GoodIn, good_end, good_few, good_step, found, port_in}

-- ---- the five calls change the conversations alone

abbrev pub TableAlone : SystemState → SystemState → Type 0
TableAlone old new = new ≡ with_table old new.table

unmoved : (old new : SystemState) → new ≡ old → TableAlone old new
unmoved old new e = grind (arith, nat_tests)

-- the call is none of those of `drive`
abbrev pub IsOther : HostCall → Type 0
IsOther (host.Call call) = ⊥
IsOther call = Unit

pub host_alone : (gives : ℕ → ℕ → ℕ → Type 0) (old : SystemState) (call : HostCall) (answer : HostReply) (new : SystemState)
    → HostPromise gives old call answer new → IsOther call → TableAlone old new
host_alone gives old call answer new h k = grind (arith, nat_tests)

-- ---- the transmit limit

marker_probe : (o : Option ℕ) (n now port : ℕ) (number : ℕ) (mac : List ℕ) (before : List ℕ) (old : SystemState) (answer : Option (List ℕ)) (new : SystemState)
    → SendsMarkerOf o number mac old answer new → sends_after n now (Transmit port) (reply.Transmit (Ok answer)) before ≡ before
marker_probe None n now port number mac before old answer new h = (none_silent port answer h.0 n now before).1
marker_probe (Some id) n now port number mac before old answer new h = (marker_silent port id number mac old answer new h n now before).1

up_probe : (up : Bool) (n now port : ℕ) (system_port : SystemPort) (before : List ℕ) (old : SystemState) (answer : Option (List ℕ)) (new : SystemState)
    → ProbesIf up system_port old answer new → sends_after n now (Transmit port) (reply.Transmit (Ok answer)) before ≡ before
up_probe up n now port system_port before old answer new h = grind (arith, nat_tests, none_silent, marker_probe, next_identifier)

place_probe : (o : Option ℕ) (n now port : ℕ) (before : List ℕ) (old : SystemState) (answer : Option (List ℕ)) (new : SystemState)
    → ProbesAt o old answer new → sends_after n now (Transmit port) (reply.Transmit (Ok answer)) before ≡ before
place_probe o n now port before old answer new h = grind (arith, nat_tests, up_probe)

-- what is probed is no LACPDU
probe_silent : (n now port : ℕ) (before : List ℕ) (old : SystemState) (answer : Result (Option (List ℕ)) SystemFault) (new : SystemState)
    → Probes port old answer new → sends_after n now (Transmit port) (reply.Transmit answer) before ≡ before
probe_silent n now port before old answer new h = grind (arith, nat_tests, place_probe, port_index)

good_alone : (n now : ℕ) (before : List ℕ) (old new : SystemState) → TableAlone old new → GoodIn n now before old.system_ports
    → GoodIn n now before new.system_ports
good_alone n now before old new e g = subst (GoodIn n now before) (sym (ap (λ (s : SystemState). s.system_ports) e)) g

pub good_host : (gives : ℕ → ℕ → ℕ → Type 0) (n now : ℕ) (before : List ℕ) (old : SystemState) (call : HostCall) (answer : HostReply)
    (new : SystemState) → HostPromise gives old call answer new → GoodIn n now before old.system_ports
    → GoodIn n (tick_after_host call now) (sends_after_host n now call answer before) new.system_ports
good_host gives n now before old (host.Call call) (told.Call answer) new h g =
    good_step gives n now before old (call_of call) answer new h.step g
good_host gives n now before old (host.OfferConversation agg conv) (told.OfferConversation answer) new h g = grind (arith, nat_tests)
good_host gives n now before old (host.LeaveConversation agg conv) (told.LeaveConversation answer) new h g = grind (arith, nat_tests)
good_host gives n now before old (host.Probe port) (told.Probe answer) new h g =
    subst (λ sends. GoodIn n now sends new.system_ports) (sym (probe_silent n now port before old answer new h.0))
    (good_alone n now before old new (host_alone gives old (host.Probe port) (told.Probe answer) new h tt) g)
good_host gives n now before old (host.Rest agg conv) (told.Rest answer) new h g = grind (arith, nat_tests)
good_host gives n now before old (host.ForcePort port) (told.ForcePort answer) new h g = grind (arith, nat_tests)
good_host gives n now before old call answer new h g = absurd h

good_hosts : (gives : ℕ → ℕ → ℕ → Type 0) (n now : ℕ) (before : List ℕ) (old new : SystemState) (calls : List HostCall) (answers : List HostReply)
    → HostRun gives old calls answers new → GoodIn n now before old.system_ports → StaysWindowedForHosts n now before calls answers
good_hosts gives n now before old new [] [] h g = good_end now before _ g
good_hosts gives n now before old new [] (a ∷ answers) h g = absurd h
good_hosts gives n now before old new (c ∷ calls) [] h g = absurd h
good_hosts gives n now before old new (c ∷ calls) (a ∷ answers) h g = (
  good_end now before _ g,
  good_hosts gives n (tick_after_host c now) (sends_after_host n now c a before) h.0 new calls answers h.2
      (good_host gives n now before old c a h.0 h.1 g),
)

pub host_window : (gives : ℕ → ℕ → ℕ → Type 0) → HostWindowLaw gives
host_window gives old new calls answers three run n now since = grind (arith, nat_tests, good_hosts, remembered_sends, machines_of, port_in, found, good_few)

-- ---- the ports agree

pub agrees_beside : (old new : SystemState) → TableAlone old new → PortsAgree old → PortsAgree new
agrees_beside old new e a = subst PortsAgree (sym e) (record {
  ports = record { accepted = a.ports.accepted; same = a.ports.same };
  rested = a.rested;
  windowed = a.windowed;
  members = a.members;
  one_partner = a.one_partner;
  limited = a.limited;
  distribute = a.distribute;
})

pub keeps_beside : (old new : SystemState) → TableAlone old new → PortsAgree old → KeepsAgreement old new
keeps_beside old new e a = record {
  agrees = agrees_beside old new e a;
  configured = ap model_setup e;
  conversations = ap (λ (s : SystemState). s.conversations) e;
  max_links = ap (λ (s : SystemState). s.max_links) e;
}

pub keeps_agreement : (gives : ℕ → ℕ → ℕ → Type 0) (old : SystemState) (call : HostCall) (answer : HostReply) (new : SystemState)
    → PortsAgree old → HostPromise gives old call answer new → KeepsAgreement old new
keeps_agreement gives old (host.Call call) (told.Call answer) new a h = grind (arith, nat_tests)
keeps_agreement gives old (host.OfferConversation agg conv) answer new a h =
    keeps_beside old new (host_alone gives old (host.OfferConversation agg conv) answer new h tt) a
keeps_agreement gives old (host.LeaveConversation agg conv) answer new a h = grind (arith, nat_tests)
keeps_agreement gives old (host.Probe port) answer new a h = keeps_beside old new (host_alone gives old (host.Probe port) answer new h tt) a
keeps_agreement gives old (host.Rest agg conv) answer new a h =
    keeps_beside old new (host_alone gives old (host.Rest agg conv) answer new h tt) a
keeps_agreement gives old (host.ForcePort port) answer new a h =
    keeps_beside old new (host_alone gives old (host.ForcePort port) answer new h tt) a
keeps_agreement gives old call answer new a h = absurd h

pub host_agreement : (gives : ℕ → ℕ → ℕ → Type 0) → HostAgreementLaw gives
host_agreement gives old new [] [] a h = grind (arith, nat_tests)
host_agreement gives old new [] (r ∷ answers) a h = absurd h
host_agreement gives old new (c ∷ calls) [] a h = absurd h
host_agreement gives old new (c ∷ calls) (r ∷ answers) a h = let one = keeps_agreement gives old c r h.0 a h.1 in
    let more = host_agreement gives h.0 new calls answers one.agrees h.2 in record {
      agrees = more.agrees;
      configured = more.configured ∙ one.configured;
      conversations = more.conversations ∙ one.conversations;
      max_links = more.max_links ∙ one.max_links;
    }
