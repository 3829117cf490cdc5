-- A walk over the calls of a system: what holds after each kind of change holds after every call.
use Rattle.lagsystem.proofs.Common.{Bool, Err, List, None, Ok, Option, Result, Some, [], ap, arith, false, if◌then◌else◌, refl, slice_get, slice_set}
use Rattle.lagsystem.proofs.Common.{true, ℕ, ◌&&◌, ◌++◌, ◌==◌, ◌∙◌, ◌∷◌, ◌≡◌, nat_tests, AggId, Lacpdu, frame_octets, HoldsNumber, IsAddress}
use Rattle.lagsystem.proofs.Common.{read_field, framed_payload, after_sending, is_due, Assignment, ChangesAssignments, Marks, after_release}
use Rattle.lagsystem.proofs.Common.{marker_due, PortChange, Reply, SystemFault, FrameEffect, Answered, ProcessLacpdu, Response, Received, TookLacpdu}
use Rattle.lagsystem.proofs.Common.{SystemPort, Call, ChangesParty, Configure, Force, Move_conversation, Offer, OnlyPortChangesBy, Performs}
use Rattle.lagsystem.proofs.Common.{ProcessesLacpdu, Receive, Releases, Restart, Set_link, SetsLink, Step, ThenSettles, Tick, Ticks, Transmit}
use Rattle.lagsystem.proofs.Common.{is_own_response, IsFirst, GivesAssignment, GivesOrRefuses, Offers, system_force_result, system_move_result}
use Rattle.lagsystem.proofs.Common.{IsLacpduOf, SendsMarkerOf, TransmitsAt, TransmitsIf, SystemState, port_index, with_system_ports, with_table}
use Rattle.lagsystem.proofs.Common.{sends_after, subtype, tick_after}
use Rattle.slowpdu.proofs.LayoutLemmas.{octet_stands}
use Rattle.lagsystem.specs.declared.drive.Reply.TheVariants as reply

-- no tick, no start, and no LACPDU in the reply: the ticks at which a port sent stay as they are
abbrev pub IsSilent : Call → Reply → Type 0
IsSilent call answer = (n now : ℕ) (before : List ℕ) → (tick_after call now ≡ now) × (sends_after n now call answer before ≡ before)

-- the octet behind the header of a control frame
subtype_of : (mac payload : List ℕ) (k : ℕ) → IsAddress mac → HoldsNumber payload (read_field 0 1 k) → subtype (frame_octets mac payload) ≡ k
subtype_of mac payload k a h = grind (arith, nat_tests, framed_payload, octet_stands)

pub lacpdu_subtype : (max_delay : ℕ) (x : SystemPort) (octets : List ℕ) → IsLacpduOf max_delay x octets → subtype octets ≡ 1
lacpdu_subtype max_delay x octets h = ap subtype h.3 ∙ subtype_of x.mac h.0 1 h.1 h.2.table.fields_hold.0

pub none_silent : (n : ℕ) (answer : Option (List ℕ)) → answer ≡ None → IsSilent (Transmit n) (reply.Transmit (Ok answer))
none_silent n answer e m now before = (refl, ap (λ a. sends_after m now (Transmit n) (reply.Transmit (Ok a)) before) e)

pub marker_silent : (n id port : ℕ) (mac : List ℕ) (old : SystemState) (answer : Option (List ℕ)) (new : SystemState)
    → SendsMarkerOf (Some id) port mac old answer new → IsSilent (Transmit n) (reply.Transmit (Ok answer))
marker_silent n id port mac old answer new h m now before = (
  refl,
  ap (λ a. sends_after m now (Transmit n) (reply.Transmit (Ok a)) before) h.3
      ∙ ap (λ k. if (n == m) && (k == 1) then before ++ now ∷ [] else before) (subtype_of mac h.0 2 h.1 h.2.table.fields_hold.0)
      ∙ other (n == m),
)
  where
    other : (b : Bool) → (if b && false then before ++ now ∷ [] else before) ≡ before
    other b = grind (arith, nat_tests)

module _ (gives : ℕ → ℕ → ℕ → Type 0) (old : SystemState) (P : Call → Reply → SystemState → Type 0) where
  -- P, which speaks of a call, its reply and the state after it, holds after each change of a port, from the state old
  pub record PreservesOnPorts : Type 0 where
    pub tick : (new : SystemState) → ThenSettles Ticks old new → P Tick reply.Tick new
    pub link : (n : ℕ) (up : Bool) (done : Unit) (new : SystemState) → ThenSettles (SetsLink n up) old new → P (Set_link n up) (reply.SetLink (Ok done)) new
    pub take : (n : ℕ) (octets : List ℕ) (v : Lacpdu) (answer : Received) (new : SystemState) → answer ≡ TookLacpdu
        → ThenSettles (OnlyPortChangesBy (port_index n old.system_ports) (ProcessesLacpdu v)) old new → P (Receive n octets) (reply.Receive (Ok answer)) new
    pub change : (n : ℕ) (change : PortChange) (new : SystemState)
        → ThenSettles (OnlyPortChangesBy (port_index n old.system_ports) (ChangesParty change)) old new → P (Configure n change) (reply.Configure (Ok true)) new
    pub restart : (new : SystemState) → new ≡ with_table (with_system_ports old new.system_ports) new.table → IsFirst new → P Restart reply.Restart new
    pub send : (n i : ℕ) (x : SystemPort) (answer : Option (List ℕ)) (octets : List ℕ) (new : SystemState) → port_index n old.system_ports ≡ Some i
        → slice_get old.system_ports i ≡ Some x → is_due x.port ≡ true → IsLacpduOf old.max_delay x octets → answer ≡ Some octets
        → new ≡ with_system_ports old (slice_set old.system_ports i (record x { port = after_sending x.port }))
        → P (Transmit n) (reply.Transmit (Ok answer)) new

  -- so too after each change of conversations, and where nothing changes
  pub record Preserves : Type 0 where
    pub ports : PreservesOnPorts
    pub same : (call : Call) (answer : Reply) (new : SystemState) → IsSilent call answer → new ≡ old → P call answer new
    pub mark : (n port id : ℕ) (answer : Option (List ℕ)) (new : SystemState) → IsSilent (Transmit n) (reply.Transmit (Ok answer))
        → Marks old.table new.table port id → new ≡ with_table old new.table → P (Transmit n) (reply.Transmit (Ok answer)) new
    pub release : (n port id : ℕ) (octets : List ℕ) (answer : Received) (new : SystemState) → ChangesAssignments old.table new.table (after_release port id)
        → new ≡ with_table old new.table → P (Receive n octets) (reply.Receive (Ok answer)) new
    pub offer : (agg : AggId) (octets : List ℕ) (port : ℕ) (new : SystemState) → Offers gives agg octets old (Ok port) new
        → P (Offer agg octets) (reply.Offer (Ok port)) new
    pub move : (agg : AggId) (conv port : ℕ) (s : Assignment) (answer : Result Unit SystemFault) (new : SystemState)
        → system_move_result old agg conv port ≡ Ok s → GivesAssignment agg conv s old new
        → P (Move_conversation agg conv port) (reply.MoveConversation answer) new
    pub force : (agg : AggId) (conv : ℕ) (s : Assignment) (answer : Result Unit SystemFault) (new : SystemState) → system_force_result old agg conv ≡ Ok s
        → GivesAssignment agg conv s old new → P (Force agg conv) (reply.Force answer) new

  module _ (k : Preserves) where
    receives : (n : ℕ) (octets : List ℕ) (effect : FrameEffect) (port : ℕ) (answer : Received) (new : SystemState)
        → Performs effect port (port_index n old.system_ports) old answer new → P (Receive n octets) (reply.Receive (Ok answer)) new
    receives n octets (ProcessLacpdu v) port answer new h = k.ports.take n octets v answer new h.0 h.1
    receives n octets (Answered effect) port answer new h = k.same (Receive n octets) (reply.Receive (Ok answer)) new (λ m now before. (refl, refl)) h.1
    receives n octets (Response m) port answer new h = releases (is_own_response old port m) h
      where
        releases : (own : Bool) → Releases own port m old answer new → P (Receive n octets) (reply.Receive (Ok answer)) new
        releases false h = k.same (Receive n octets) (reply.Receive (Ok answer)) new (λ m now before. (refl, refl)) h.1
        releases true h = k.release n port m.id octets answer new h.1 h.2

    marks : (n : ℕ) (id : Option ℕ) (port : ℕ) (mac : List ℕ) (answer : Option (List ℕ)) (new : SystemState)
        → SendsMarkerOf id port mac old answer new → P (Transmit n) (reply.Transmit (Ok answer)) new
    marks n None port mac answer new h = k.same (Transmit n) (reply.Transmit (Ok answer)) new (none_silent n answer h.0) h.1
    marks n (Some id) port mac answer new h = k.mark n port id answer new (marker_silent n id port mac old answer new h) h.4 h.5

    transmits_if : (n i : ℕ) (x : SystemPort) (up due : Bool) (answer : Option (List ℕ)) (new : SystemState) → port_index n old.system_ports ≡ Some i
        → slice_get old.system_ports i ≡ Some x → is_due x.port ≡ due → TransmitsIf up due i x old answer new → P (Transmit n) (reply.Transmit (Ok answer)) new
    transmits_if n i x false due answer new at e d h = grind (arith, nat_tests)
    transmits_if n i x true false answer new at e d h = marks n (marker_due old.table x.number) x.number x.mac answer new h
    transmits_if n i x true true answer new at e d h = k.ports.send n i x answer h.0 new at e d h.1 h.2 h.3

    transmits : (n : ℕ) (o : Option ℕ) (answer : Option (List ℕ)) (new : SystemState) → port_index n old.system_ports ≡ o
        → TransmitsAt o old answer new → P (Transmit n) (reply.Transmit (Ok answer)) new
    transmits n None answer new at h = absurd h
    transmits n (Some i) answer new at h = transmits_if n i h.0 h.0.port.enabled (is_due h.0.port) answer new at h.1 refl h.2

    moves : (agg : AggId) (conv port : ℕ) (what : Result Assignment SystemFault) (answer : Result Unit SystemFault)
        (new : SystemState) → system_move_result old agg conv port ≡ what → GivesOrRefuses agg conv what old answer new
        → P (Move_conversation agg conv port) (reply.MoveConversation answer) new
    moves agg conv port what answer new e h = grind (arith, nat_tests)

    forces : (agg : AggId) (conv : ℕ) (what : Result Assignment SystemFault) (answer : Result Unit SystemFault) (new : SystemState)
        → system_force_result old agg conv ≡ what → GivesOrRefuses agg conv what old answer new → P (Force agg conv) (reply.Force answer) new
    forces agg conv what answer new e h = grind (arith, nat_tests)

    -- so it holds after every call
    pub Step-preserves : (call : Call) (answer : Reply) (new : SystemState) → Step gives old call answer new → P call answer new
    Step-preserves Tick reply.Tick new h = k.ports.tick new h
    Step-preserves (Set_link n up) (reply.SetLink (Ok done)) new h = k.ports.link n up done new h
    Step-preserves (Set_link n up) (reply.SetLink (Err fault)) new h = k.same (Set_link n up) (reply.SetLink (Err fault)) new (λ m now before. (refl, refl)) h.same
    Step-preserves (Receive n octets) (reply.Receive (Ok answer)) new h = receives n octets h.1 h.0.number answer new h.4
    Step-preserves (Receive n octets) (reply.Receive (Err fault)) new h = grind (arith, nat_tests)
    Step-preserves (Configure n change) (reply.Configure (Ok true)) new h = k.ports.change n change new h
    Step-preserves (Configure n change) (reply.Configure (Ok false)) new h = grind (arith, nat_tests)
    Step-preserves (Configure n change) (reply.Configure (Err fault)) new h = grind (arith, nat_tests)
    Step-preserves Restart reply.Restart new h = k.ports.restart new h.0 h.1
    Step-preserves (Transmit n) (reply.Transmit (Ok answer)) new h = transmits n (port_index n old.system_ports) answer new refl h
    Step-preserves (Transmit n) (reply.Transmit (Err fault)) new h = k.same (Transmit n) (reply.Transmit (Err fault)) new (λ m now before. (refl, refl)) h.same
    Step-preserves (Offer agg octets) (reply.Offer (Ok port)) new h = k.offer agg octets port new h
    Step-preserves (Offer agg octets) (reply.Offer (Err fault)) new h = k.same (Offer agg octets) (reply.Offer (Err fault)) new (λ m now before. (refl, refl)) h.1
    Step-preserves (Move_conversation agg conv port) (reply.MoveConversation answer) new h = grind (arith, nat_tests)
    Step-preserves (Force agg conv) (reply.Force answer) new h = grind (arith, nat_tests)
    Step-preserves call answer new h = absurd h

  -- the same if nothing that is done to conversations matters to P
  pub Step-preserves_ports : ((call : Call) (answer : Reply) (new : SystemState) → IsSilent call answer
      → new.system_ports ≡ old.system_ports → P call answer new)
      → PreservesOnPorts → (call : Call) (answer : Reply) (new : SystemState) → Step gives old call answer new → P call answer new
  Step-preserves_ports stay k = Step-preserves (record {
    ports = k;
    same = λ call answer new none e. stay call answer new none (ports e);
    mark = λ n port id answer new none m e. stay (Transmit n) (reply.Transmit (Ok answer)) new none (ports e);
    release = λ n port id octets answer new m e. stay (Receive n octets) (reply.Receive (Ok answer)) new (λ m now before. (refl, refl)) (ports e);
    offer = λ agg octets port new h. stay (Offer agg octets) (reply.Offer (Ok port)) new (λ m now before. (refl, refl)) (ports h.2.1);
    move = λ agg conv port s answer new e h. stay (Move_conversation agg conv port) (reply.MoveConversation answer) new (λ m now before. (refl, refl)) (ports h.1);
    force = λ agg conv s answer new e h. stay (Force agg conv) (reply.Force answer) new (λ m now before. (refl, refl)) (ports h.1);
  })
    where
      ports : {a b : SystemState} → a ≡ b → a.system_ports ≡ b.system_ports
      ports e = ap (λ (s : SystemState). s.system_ports) e
