-- The calls of `HostCall`: those of `drive`, and five more, of hosts with a data plane. Settings are none of them (profile).
use Rattle.std.specs.Prelude.{◌≡◌, ℕ, List, [], ◌∷◌, IfOk, Ok, length}
use Rattle.lagmodel.specs.View.{ModelCall}
use Rattle.portmachines.specs.Window.{KeepsWindow}
use Rattle.lagsystem.specs.declared.drive.HostCall.{HostCall}
use Rattle.lagsystem.specs.declared.drive.HostCall.TheVariants as host
use Rattle.lagsystem.specs.declared.drive.HostReply.{HostReply}
use Rattle.lagsystem.specs.declared.drive.HostReply.TheVariants as told
use Rattle.lagsystem.specs.declared.drive.Reply.TheVariants as reply
use Rattle.lagsystem.specs.Assigning.{OffersConversation}
use Rattle.lagsystem.specs.Calls.{Force, Offer, Transmit}
use Rattle.lagsystem.specs.Drives.{call_of}
use Rattle.lagsystem.specs.Forcing.{ForcesPort, FreesHeld}
use Rattle.lagsystem.specs.Leaving.{system_leave_result, system_rest_result}
use Rattle.lagsystem.specs.ModelView.{model_setup}
use Rattle.lagsystem.specs.Offers.{GivesOrRefuses, MayBeOffered}
use Rattle.lagsystem.specs.Probing.{Probes, ProbesLawfully}
use Rattle.lagsystem.specs.Promises.{TablePromise}
use Rattle.lagsystem.specs.Readers.{number_of_conversation}
use Rattle.lagsystem.specs.Sound.{CallPromise, PortsAgree}
use Rattle.lagsystem.specs.State.{SystemState, machines_of}
use Rattle.lagsystem.specs.Windows.{AgesSince, EachAtMostThreeAges, remembered_sends, sends_after, tick_after}

-- the aggregators and the conversations are those of the configuration
pub record HasConversations (s : SystemState) : Type 0 where
  pub aggregators : s.table.aggs ≡ length s.keys
  pub conversations : s.table.conversations ≡ s.conversations

-- What the contract of each call promises. A call of `drive` keeps what every call promises; to the model, an offer by number
-- is an `offer` of a frame of the conversation, a leave a move, a probe a `transmit`, and a rest and a `force_port` force.
abbrev pub HostPromise : (ℕ → ℕ → ℕ → Type 0) → SystemState → HostCall → HostReply → SystemState → Type 0
HostPromise gives old (host.Call call) (told.Call answer) new = CallPromise gives old (call_of call) answer new
HostPromise gives old (host.OfferConversation agg conv) (told.OfferConversation answer) new =
    OffersConversation gives agg conv old answer new
    × ((octets : List ℕ) → MayBeOffered octets → number_of_conversation old octets ≡ conv
    → CallPromise gives old (Offer agg octets) (reply.Offer answer) new)
HostPromise gives old (host.LeaveConversation agg conv) (told.LeaveConversation answer) new =
    GivesOrRefuses agg conv (system_leave_result old agg conv) old answer new × TablePromise ModelCall.Move_conversation [] old new
HostPromise gives old (host.Probe port) (told.Probe answer) new = Probes port old answer new × ProbesLawfully port old answer new
HostPromise gives old (host.Rest agg conv) (told.Rest answer) new =
    GivesOrRefuses agg conv (system_rest_result old agg conv) old answer new
    × IfOk answer (λ done. CallPromise gives old (Force agg conv) (reply.Force (Ok tt)) new)
HostPromise gives old (host.ForcePort port) (told.ForcePort answer) new =
    HasConversations old × ForcesPort gives port old answer new × IfOk answer (λ count. FreesHeld port old new)
HostPromise gives old call answer new = ⊥

-- these calls, made one after another, may have these replies and lead to the last state
abbrev pub HostRun : (ℕ → ℕ → ℕ → Type 0) → SystemState → List HostCall → List HostReply → SystemState → Type 0
HostRun gives old [] [] new = new ≡ old
HostRun gives old (call ∷ calls) (answer ∷ answers) new =
    (mid : SystemState) × HostPromise gives old call answer mid × HostRun gives mid calls answers new
HostRun gives old [] (answer ∷ answers) new = ⊥
HostRun gives old (call ∷ calls) [] new = ⊥

-- the number of the current tick after the call, if it is this one before
abbrev pub tick_after_host : HostCall → ℕ → ℕ
tick_after_host (host.Call call) now = tick_after (call_of call) now
tick_after_host call now = now

-- the ticks at which the port with the number n sent an LACPDU, after a call at this tick; a probe counts as a `transmit`
abbrev pub sends_after_host : ℕ → ℕ → HostCall → HostReply → List ℕ → List ℕ
sends_after_host n now (host.Call call) (told.Call answer) before = sends_after n now (call_of call) answer before
sends_after_host n now (host.Probe port) (told.Probe answer) before = sends_after n now (Transmit port) (reply.Transmit answer) before
sends_after_host n now call answer before = before

-- Before each of these calls with these replies, and after the last one, any eleven consecutive ticks since the last start
-- hold at most three LACPDUs of the port with the number n; `now` and `before` as in `StaysWindowed`.
abbrev pub StaysWindowedForHosts : ℕ → ℕ → List ℕ → List HostCall → List HostReply → Type 0
StaysWindowedForHosts n now before [] answers = KeepsWindow before
StaysWindowedForHosts n now before (call ∷ calls) [] = KeepsWindow before
StaysWindowedForHosts n now before (call ∷ calls) (answer ∷ answers) = KeepsWindow before
    × StaysWindowedForHosts n (tick_after_host call now) (sends_after_host n now call answer before) calls answers

-- each port keeps its transmit limit over every list of calls, whatever indices the algorithm returns (6.4.16)
abbrev pub HostWindowLaw : (ℕ → ℕ → ℕ → Type 0) → Type 0
HostWindowLaw gives = (old new : SystemState) (calls : List HostCall) (answers : List HostReply) → EachAtMostThreeAges old
    → HostRun gives old calls answers new → (n now : ℕ) → AgesSince now (machines_of n old)
    → StaysWindowedForHosts n now (remembered_sends now (machines_of n old)) calls answers

-- the ports agree, and the configuration stays, with the count of conversations and the limit of links
pub record KeepsAgreement (old new : SystemState) : Type 0 where
  pub agrees : PortsAgree new
  pub configured : model_setup new ≡ model_setup old
  pub conversations : new.conversations ≡ old.conversations
  pub max_links : new.max_links ≡ old.max_links

-- ports that agree do so after every list of calls
abbrev pub HostAgreementLaw : (ℕ → ℕ → ℕ → Type 0) → Type 0
HostAgreementLaw gives = (old new : SystemState) (calls : List HostCall) (answers : List HostReply) → PortsAgree old
    → HostRun gives old calls answers new → KeepsAgreement old new
