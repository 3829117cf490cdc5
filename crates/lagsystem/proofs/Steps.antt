-- Each call of a system is a list of lawful moves.
use Rattle.lagsystem.proofs.Common.{Bool, Err, IsSome, List, None, Ok, Option, Result, Some, [], ap, append-nil, arith, cond, false, if◌then◌else◌}
use Rattle.lagsystem.proofs.Common.{ltb, refl, slice_get, slice_set, subst, sym, true, ℕ, ◌&&◌, ◌<◌, ◌^◌, ◌∙◌, ◌∷◌, ◌≡◌, and_from, and_parts}
use Rattle.lagsystem.proofs.Common.{Decides-eqb, nat_tests, none-some, same_Some, AggId, Choice, is_selected, Lacpdu, Marker, answer_of, Act}
use Rattle.lagsystem.proofs.Common.{LawfulMoves, Move, PortMove, Sends_frame, Shows, Took, DistributorFacts, Lacp, Message, SystemSetup, Told}
use Rattle.lagsystem.proofs.Common.{Told_receive, moves_joined, CollectingDistributing, Machines, is_synchronized, mux_rows, partner_synchronized}
use Rattle.lagsystem.proofs.Common.{same_mux_state, RunsPeriodic, receive_rows, RunsToRest, after_sending, count_down, pdu_of, Assignment, DistFault}
use Rattle.lagsystem.proofs.Common.{force_result, move_result, ChangesAssignments, Marks, after_release, marker_due, wants_marker, Table}
use Rattle.lagsystem.proofs.Common.{assignment_of, count_conversations, next_identifier, model_distributor, conversations_tick, down_moves}
use Rattle.lagsystem.proofs.Common.{force_moves, mark_moves, move_moves, release_moves, send_moves, Reply, SystemFault, FrameEffect, Answered}
use Rattle.lagsystem.proofs.Common.{ProcessLacpdu, Response, Received, Disabled, Dropped, Ignored, Released, Up, SystemPort, AnswersMarker, Call}
use Rattle.lagsystem.proofs.Common.{Carries, ChangesParty, Configure, Data_frame, Faulty, Force, FreesIfDown, GivesEffect, IsFrame, Move_conversation}
use Rattle.lagsystem.proofs.Common.{Offer, OnlyPortChangesBy, ParsesWhere, Performs, PortAtChangesBy, ProcessesLacpdu, Receive, ReceivedFrame}
use Rattle.lagsystem.proofs.Common.{Releases, Restart, Runt, Set_link, SetsLink, SetsPortEnabled, Step, ThenSettles, Tick, Ticks, Transmit}
use Rattle.lagsystem.proofs.Common.{is_own_response, up_or_dropped, CallSeenAs, EffectsSeenAs, JoinedByLawfulMoves, PortsConsistent, can_receive}
use Rattle.lagsystem.proofs.Common.{control_message, lacp_message, marker_message, model_port, model_setup, model_view, model_view_at, mux_consistent}
use Rattle.lagsystem.proofs.Common.{none_enabled, number_of_port, selected_number, OccupantsAgree, GivesOrRefuses, Offers, assignment_of_frame}
use Rattle.lagsystem.proofs.Common.{in_system, system_force_result, system_move_result, collecting, distributing, number_of_conversation, SendsLacpdu}
use Rattle.lagsystem.proofs.Common.{SendsMarkerOf, TransmitsAt, TransmitsIf, own_marker, PortChangesBy, PortsChangeBy, SettlesPorts, Settling}
use Rattle.lagsystem.proofs.Common.{ready_of, SystemState, aggregators_value, port_index, port_numbers, system_port_at, with_system_ports, with_table}
use Rattle.lagsystem.proofs.Common.{views}
use Rattle.std.proofs.lemmas.Slice.Eq.{bytes_eq-Decides}
use Rattle.slowpdu.specs.declared.pdu.MarkerKind.{MarkerKind}
use Rattle.slowpdu.specs.declared.pdu.MarkerKind.TheVariants as kind
use Rattle.slowpdu.specs.declared.pdu.Pdu.TheVariants as pdu
use Rattle.lagsystem.specs.declared.drive.Reply.TheVariants as reply
use Rattle.lagsystem.proofs.Conversing.{assigned_may, carrying_moves, leaving_moves, table_moves}
use Rattle.lagsystem.proofs.Keeps.{Keeps, choosing_numbers, keeps_link, keeps_place, keeps_tick, ports_table, settling_parts, zip_numbers}
use Rattle.lagsystem.proofs.FirstView.{restarted_shows}
use Rattle.lagsystem.proofs.Lists.{AllZip-weaker}
use Rattle.lagsystem.proofs.Rest.{can_receive_at_rest, zip_all}
use Rattle.lagsystem.proofs.Rising.{Rises, all-get, are_numbered, found_place}
use Rattle.lagsystem.proofs.SettlingLemmas.{RunsReady, set_same, settles_in}
use Rattle.lagsystem.proofs.OfPort.{PortMoves, SlotMoves, slot_moves, all_slots_move}
use Rattle.lagsystem.proofs.Rows.{QuietMoves, loudly, settles_moves, mux_moves, runs_periodic_moves}
use Rattle.lagsystem.proofs.Effects.{tick_moves, links_moves, taking_moves, configures_moves, sending}
use Rattle.lagsystem.proofs.Choose.{Fits, StandbyIsIdle, choosing_moves}
use Rattle.lagsystem.proofs.Occupying.{EachStays, configure_stays, link_stays, mux_stays, place_stays, stay_agrees, taking_stays, tick_stays}
use Rattle.lagsystem.proofs.Occupying.{zip_stay}

-- each port moves
each_moves : (u : SystemSetup) (call : Told) (f : DistributorFacts) (R : Machines → Machines → Type 0)
    → ((n : ℕ) (p q : Machines) → R p q → QuietMoves u call n p [] q) → (olds news : List SystemPort) → Rises 0 (port_numbers olds) → PortsChangeBy R olds news
    → LawfulMoves u call (model_view_at f olds) [] (model_view_at f news)
each_moves u call f R k olds news r h = all_slots_move u call f olds news (are_numbered 0 olds r)
    (AllZip-weaker (PortChangesBy R) (SlotMoves u call)
    (λ x y m. (ap number_of_port m.0, loudly u call x.number x.port y.port [] (k x.number x.port y.port m.1))) olds news h)

rising : (s t : SystemState) → Keeps s t → Rises 0 (port_numbers s.system_ports) → Rises 0 (port_numbers t.system_ports)
rising s t k r = subst (λ ns. Rises 0 ns) (sym k.same) r

fitting : (u : SystemSetup) (s t : SystemState) → Keeps s t → Fits u s.keys → Fits u t.keys
fitting u s t k fits = subst (λ (x : SystemState). Fits u x.keys) (sym k.frame) fits

-- at rest a STANDBY port does not distribute
rest_idle : (x y : SystemPort) → PortChangesBy (RunsToRest (mux_rows false)) x y → StandbyIsIdle y
rest_idle x y m e = grind (arith, nat_tests)

-- the steps of settling that look at ports alone
ports_moves : (u : SystemSetup) (call : Told) (f : DistributorFacts) (old new : SystemState) → Fits u old.keys
    → Rises 0 (port_numbers old.system_ports) → OccupantsAgree old.keys old.system_ports → SettlesPorts old new
    → LawfulMoves u call (model_view_at f old.system_ports) [] (model_view_at f new.system_ports)
ports_moves u call f old new fits r agree h = let s = settles_in old new h in
    let aggs = aggregators_value old in
    let keys = old.keys in
    let view = model_view_at f in
    let free : Machines → Machines → Type 0 = λ p q. RunsToRest (mux_rows false) p q in
    let run : (ready : Bool) (n : ℕ) (p q : Machines) → RunsToRest (mux_rows ready) p q → QuietMoves u call n p [] q =
    λ ready n. settles_moves u call n (mux_rows ready) (mux_moves u call n ready) in
    let n1 = zip_numbers free old.system_ports s.one s.stops in
    let n2 = choosing_numbers aggs s.one s.two s.chooses ∙ n1 in
    let n4 = zip_numbers (RunsReady keys (views s.two)) s.two s.four s.runs ∙ n2 in
    let rise : (l : List SystemPort) → port_numbers l ≡ port_numbers old.system_ports → Rises 0 (port_numbers l) =
    λ l e. subst (λ ns. Rises 0 ns) (sym e) r in
    let m1 = each_moves u call f free (run false) old.system_ports s.one r s.stops in
    let a1 = stay_agrees keys old.system_ports s.one (zip_stay free (mux_stays false) old.system_ports s.one s.stops) agree in
    let idle = zip_all (PortChangesBy free) StandbyIsIdle rest_idle old.system_ports s.one s.stops in
    let m2 = choosing_moves u call f aggs s.one s.two fits (rise s.one n1) a1 idle s.chooses in
    let m4 = each_moves u call f (RunsReady keys (views s.two)) (λ n p q x. run (ready_of keys (views s.two) p.choice) n p q x) s.two s.four
    (rise s.two n2) s.runs in
    let m5 = each_moves u call f RunsPeriodic (λ n p q x. runs_periodic_moves u call n p q x) s.four new.system_ports (rise s.four n4) s.paces in
    moves_joined u call (view old.system_ports) (view s.one) (view new.system_ports) [] [] m1
    (moves_joined u call (view s.one) (view s.two) (view new.system_ports) [] [] m2
    (moves_joined u call (view s.two) (view s.four) (view new.system_ports) [] [] m4 m5))

-- settling
pub settling_moves : (u : SystemSetup) (call : Told) (old new : SystemState) → Fits u old.keys → Rises 0 (port_numbers old.system_ports)
    → OccupantsAgree old.keys old.system_ports → Settling old new → LawfulMoves u call (model_view old) [] (model_view new)
settling_moves u call old new fits r agree h = let p = settling_parts old new h in
    let f = model_distributor old.table in
    let ports = subst (λ (t : Table). LawfulMoves u call (model_view old) [] (model_view_at (model_distributor t) p.0.system_ports))
    (sym (ports_table old p.0 p.1)) (ports_moves u call f old p.0 fits r agree p.1) in
    moves_joined u call (model_view old) (model_view p.0) (model_view new) [] [] ports (leaving_moves u call p.0 new p.2)

settled_moves : (u : SystemSetup) (call : Told) (own : SystemState → SystemState → Type 0) (seen : List Act) (s t : SystemState)
    → Fits u s.keys → Rises 0 (port_numbers s.system_ports) → OccupantsAgree s.keys s.system_ports
    → ((mid : SystemState) → own s mid → Keeps s mid) → ((mid : SystemState) → own s mid → EachStays s.system_ports mid.system_ports)
    → ((mid : SystemState) → own s mid → LawfulMoves u call (model_view s) seen (model_view mid))
    → ThenSettles own s t → LawfulMoves u call (model_view s) seen (model_view t)
settled_moves u call own seen s t fits r agree keeps stay moves h = let k = keeps h.0 h.1 in
    let a : OccupantsAgree h.0.keys h.0.system_ports = subst (λ (x : SystemState). OccupantsAgree x.keys h.0.system_ports) (sym k.frame)
    (stay_agrees s.keys s.system_ports h.0.system_ports (stay h.0 h.1) agree) in
    subst (λ l. LawfulMoves u call (model_view s) l (model_view t)) (append-nil seen)
    (moves_joined u call (model_view s) (model_view h.0) (model_view t) seen [] (moves h.0 h.1)
    (settling_moves u call h.0 t (fitting u s h.0 k fits) (rising s h.0 k r) a h.2))

-- ports alone
slots_moved : (u : SystemSetup) (call : Told) (seen : List Act) (old mid : SystemState) → mid ≡ with_system_ports old mid.system_ports
    → LawfulMoves u call (model_view old) seen (model_view_at (model_distributor old.table) mid.system_ports)
    → LawfulMoves u call (model_view old) seen (model_view mid)
slots_moved u call seen old mid e h = grind (arith, nat_tests)

-- conversations alone
pub table_moved : (u : SystemSetup) (call : Told) (seen : List Act) (old new : SystemState) → new ≡ with_table old new.table
    → LawfulMoves u call (model_view old) seen (model_view_at (model_distributor new.table) old.system_ports)
    → LawfulMoves u call (model_view old) seen (model_view new)
table_moved u call seen old new e h = grind (arith, nat_tests)

-- the port with a number moves
one_moves : (u : SystemSetup) (call : Told) (f : DistributorFacts) (n i : ℕ) (system_ports : List SystemPort) (s : SystemPort) (q : Machines) (seen : List Act)
    → Rises 0 (port_numbers system_ports) → port_index n system_ports ≡ Some i → slice_get system_ports i ≡ Some s → QuietMoves u call n s.port seen q
    → LawfulMoves u call (model_view_at f system_ports) seen (model_view_at f (slice_set system_ports i (record s { port = q })))
one_moves u call f n i system_ports s q seen r e h k = let same : s.number ≡ n = found_place n system_ports i s e h in
    let loud : PortMoves u call n (model_port s.port) seen (model_port q) = loudly u call n s.port q seen k in
    slot_moves u call f system_ports i s (record s { port = q }) seen (are_numbered 0 system_ports r) h refl
    (subst (λ m. PortMoves u call m (model_port s.port) seen (model_port q)) (sym same) loud)

place_moves : (u : SystemSetup) (call : Told) (f : DistributorFacts) (R : Machines → Machines → Type 0) (n : ℕ) (old new : List SystemPort) (seen : List Act)
    → Rises 0 (port_numbers old) → ((s : SystemPort) (q : Machines) (i : ℕ) → slice_get old i ≡ Some s → R s.port q → QuietMoves u call n s.port seen q)
    → (o : Option ℕ) → port_index n old ≡ o → PortAtChangesBy R o old new → LawfulMoves u call (model_view_at f old) seen (model_view_at f new)
place_moves u call f R n old new seen r k None e h = absurd h
place_moves u call f R n old new seen r k (Some i) e h =
    subst (λ l. LawfulMoves u call (model_view_at f old) seen (model_view_at f l)) (sym h.4)
    (one_moves u call f n i old h.0 h.1 seen r e h.2 (k h.0 h.1 i h.2 h.3))

-- an LACPDU is taken if the link is enabled
where_awake : (b x : Bool) → b ≡ true → (if b then x else true) ≡ true → x ≡ true
where_awake b x e h = grind (arith, nat_tests)

clash : (b : Bool) → b ≡ true → b ≡ false → ⊥
clash b h k = grind (arith, nat_tests)

takes_moves : (u : SystemSetup) (n : ℕ) (v : Lacpdu) (p q : Machines) → p.enabled ≡ true → can_receive p ≡ true → ProcessesLacpdu v p q
    → QuietMoves u (Told_receive n (Some (Lacp (lacp_message v)))) n p (Took n (lacp_message v) ∷ []) q
takes_moves u n v p q e a h = grind (arith, nat_tests, taking_moves, clash, and_from, where_awake)

-- a port that says synchronized is a member
where_member : (b x rest : Bool) → ((if b then x else true) && rest) ≡ true → b ≡ true → x ≡ true
where_member b x rest h e = grind (arith, nat_tests)

is_member : (c : Choice) → is_selected c ≡ true → IsSome (selected_number c)
is_member c h = grind (arith, nat_tests)

-- what a port heard
not_both : (v : Lacpdu) (r : Received) → ProcessLacpdu v ≡ Answered r → ⊥
not_both v r e = cc

not_answered : (r : Received) (m : Marker) → Answered r ≡ Response m → ⊥
not_answered r m e = cc

abbrev answer_or : Received → FrameEffect → Received
answer_or d (Answered r) = r
answer_or d effect = d

heard_taken : (system_port : SystemPort) (octets : List ℕ) (v : Lacpdu) (b : Bool) → ParsesWhere b system_port octets (ProcessLacpdu v)
    → (b ≡ true) × IsFrame octets (Carries (pdu.Lacpdu v))
heard_taken system_port octets v b h = grind (arith, nat_tests)

-- a response came
heard_response : (system_port : SystemPort) (octets : List ℕ) (w : Marker) (b : Bool) → ParsesWhere b system_port octets (Response w)
    → IsFrame octets (Carries (pdu.Marker w)) × (w.kind ≡ kind.Response)
heard_response system_port octets w b h = grind (arith, nat_tests)

-- an answer, without effect
abbrev Tellable : SystemState → SystemSetup → DistributorFacts → ℕ → List ℕ → List SystemPort → Received → Type 0
Tellable w u f n octets system_ports answer = (told : Told) × (seen : List Act) × CallSeenAs (Receive n octets) told
    × EffectsSeenAs w (Receive n octets) (reply.Receive (Ok answer)) seen
    × LawfulMoves u told (model_view_at f system_ports) seen (model_view_at f system_ports)

silent : (w : SystemState) (u : SystemSetup) (f : DistributorFacts) (n : ℕ) (octets : List ℕ) (system_ports : List SystemPort)
    (answer : Received) → EffectsSeenAs w (Receive n octets) (reply.Receive (Ok answer)) [] → Tellable w u f n octets system_ports answer
silent w u f n octets system_ports answer s = (Told_receive n None, [], (None, tt, refl), s, ([], tt, refl, refl))

handed_silently : (w : SystemState) (u : SystemSetup) (f : DistributorFacts) (n : ℕ) (octets : List ℕ) (system_ports : List SystemPort)
    (o : Option AggId) → Tellable w u f n octets system_ports (up_or_dropped o)
handed_silently w u f n octets system_ports None = silent w u f n octets system_ports Dropped refl
handed_silently w u f n octets system_ports (Some agg) = silent w u f n octets system_ports (Up agg) refl

-- a marker is answered
responds : (w : SystemState) (u : SystemSetup) (f : DistributorFacts) (n i : ℕ) (octets : List ℕ) (system_ports : List SystemPort)
    (system_port : SystemPort) (m : Marker) (k : MarkerKind) (answer : Received) → Rises 0 (port_numbers system_ports)
    → port_index n system_ports ≡ Some i → slice_get system_ports i ≡ Some system_port
    → m.kind ≡ k → IsFrame octets (Carries (pdu.Marker m)) → AnswersMarker system_port.mac m (answer_of k m) (Answered answer)
    → Tellable w u f n octets system_ports answer
responds w u f n i octets system_ports system_port m kind.Response answer r e g is h a = absurd (not_answered answer m a)
responds w u f n i octets system_ports system_port m kind.Information answer r e g is h a =
    let call = Told_receive n (Some (Message.Marker m.system m.port m.id)) in
    let seen : List Act = Shows n (Message.Response m.system m.port m.id) ∷ [] in
    let brought : Message.Marker m.system m.port m.id ≡ marker_message m.kind m = ap (λ k. marker_message k m) (sym is) in
    let moves = one_moves u call f n i system_ports system_port system_port.port seen r e g (
      PortMove.Respond m.system m.port m.id
          ∷ [],
      (λ ports. refl, tt),
      refl,
      refl,
    ) in
    let same : slice_set system_ports i (record system_port { port = system_port.port }) ≡ system_ports =
    set_same system_ports i system_port g in
    subst (Tellable w u f n octets system_ports) (sym (ap (answer_or answer) a.3)) (
      call,
      seen,
      (Some (Message.Marker m.system m.port m.id), (pdu.Marker m, h, brought), refl),
      (record m { kind = kind.Response }, (system_port.mac, a.0, a.1, a.2, refl), refl),
      subst (λ l. LawfulMoves u call (model_view_at f system_ports) seen (model_view_at f l)) same moves,
    )

answered_by : (w : SystemState) (u : SystemSetup) (f : DistributorFacts) (n i : ℕ) (octets : List ℕ) (system_ports : List SystemPort)
    (system_port : SystemPort) (answer : Received) (frame : ReceivedFrame) → Rises 0 (port_numbers system_ports)
    → port_index n system_ports ≡ Some i → slice_get system_ports i ≡ Some system_port
    → IsFrame octets frame → GivesEffect system_port frame (Answered answer) → Tellable w u f n octets system_ports answer
answered_by w u f n i octets system_ports system_port answer Runt r e g h m = subst (Tellable w u f n octets system_ports)
    (sym (ap (answer_or answer) m)) (silent w u f n octets system_ports Dropped refl)
answered_by w u f n i octets system_ports system_port answer Data_frame r e g h m = subst (Tellable w u f n octets system_ports)
    (sym (ap (answer_or answer) m)) (handed_silently w u f n octets system_ports (collecting system_port.port))
answered_by w u f n i octets system_ports system_port answer (Faulty fault) r e g h m = subst (Tellable w u f n octets system_ports)
    (sym (ap (answer_or answer) m)) (silent w u f n octets system_ports (Ignored fault) refl)
answered_by w u f n i octets system_ports system_port answer (Carries (pdu.Lacpdu v)) r e g h m = absurd (not_both v answer (sym m))
answered_by w u f n i octets system_ports system_port answer (Carries (pdu.Marker m)) r e g h a = responds w u f n i octets system_ports
    system_port m m.kind answer r e g refl h a

heard_answer : (w : SystemState) (u : SystemSetup) (f : DistributorFacts) (n i : ℕ) (octets : List ℕ) (system_ports : List SystemPort)
    (system_port : SystemPort) (answer : Received) (b : Bool) → Rises 0 (port_numbers system_ports) → port_index n system_ports ≡ Some i
    → slice_get system_ports i ≡ Some system_port
    → ParsesWhere b system_port octets (Answered answer) → Tellable w u f n octets system_ports answer
heard_answer w u f n i octets system_ports system_port answer false r e g h = subst (Tellable w u f n octets system_ports)
    (sym (ap (answer_or answer) h)) (silent w u f n octets system_ports Disabled refl)
heard_answer w u f n i octets system_ports system_port answer true r e g h = answered_by w u f n i octets system_ports system_port
    answer h.0 r e g h.1 h.2

-- a frame without effect
pub nothing : (old : SystemState) (call : Call) (answer : Reply) (new : SystemState) (told : Told) → CallSeenAs call told
    → EffectsSeenAs old call answer [] → new ≡ old → JoinedByLawfulMoves old call answer new
nothing old call answer new told t s e = (told, [], t, s, ([], tt, refl, ap model_view e))

-- a response for this system frees what waits for it
names_us : (s : SystemState) (n : ℕ) (m : Marker) → is_own_response s n m ≡ true → (m.port ≡ n) × (m.system ≡ s.system.mac)
names_us s n m h = grind (arith, nat_tests, Decides-eqb, and_parts, bytes_eq-Decides)

releases : (b : Bool) (n port : ℕ) (octets : List ℕ) (m : Marker) (old : SystemState) (answer : Received) (new : SystemState) → port ≡ n
    → is_own_response old port m ≡ b → IsFrame octets (Carries (pdu.Marker m)) → m.kind ≡ kind.Response
    → Releases b port m old answer new → JoinedByLawfulMoves old (Receive n octets) (reply.Receive (Ok answer)) new
releases false n port octets m old answer new p b is k h =
    subst (λ a. JoinedByLawfulMoves old (Receive n octets) (reply.Receive (Ok a)) new) (sym h.0)
    (nothing old (Receive n octets) (reply.Receive (Ok (Released 0))) new (Told_receive n None) (None, tt, refl) refl h.1)
releases true n port octets m old answer new p b is k h = let u = model_setup old in
    let mac = old.system.mac in
    let us = names_us old port m b in
    let call = Told_receive n (Some (Message.Response mac n m.id)) in
    let brought : Message.Response mac n m.id ≡ control_message (pdu.Marker m) =
    (λ i. Message.Response (sym us.1 i) (sym (us.0 ∙ p) i) m.id) ∙ ap (λ k. marker_message k m) (sym k) in
    let moves = release_moves mac old.table new.table n m.id
    (subst (λ q. ChangesAssignments old.table new.table (after_release q m.id)) p h.1) in
    let all = table_moved u call [] old new h.2 (table_moves u call old.system_ports old.table new.table [] moves) in
    subst (λ a. JoinedByLawfulMoves old (Receive n octets) (reply.Receive (Ok a)) new) (sym h.0)
    (call, [], (Some (Message.Response mac n m.id), (pdu.Marker m, is, brought), refl), refl, all)

receives : (old : SystemState) (n : ℕ) (octets : List ℕ) (system_port : SystemPort) (effect : FrameEffect) (answer : Received) (new : SystemState) (i : ℕ)
    → Rises 0 (port_numbers old.system_ports) → PortsConsistent old.system_ports → OccupantsAgree old.keys old.system_ports
    → port_index n old.system_ports ≡ Some i → slice_get old.system_ports i ≡ Some system_port → ParsesWhere system_port.port.enabled system_port octets effect
    → Performs effect system_port.number (Some i) old answer new → JoinedByLawfulMoves old (Receive n octets) (reply.Receive (Ok answer)) new
receives old n octets system_port (ProcessLacpdu v) answer new i r rested agree e g h d =
    let x = heard_taken system_port octets v system_port.port.enabled h in
    let u = model_setup old in
    let f = model_distributor old.table in
    let call = Told_receive n (Some (Lacp (lacp_message v))) in
    let seen : List Act = Took n (lacp_message v) ∷ [] in
    let one : (mid : SystemState) → OnlyPortChangesBy (Some i) (ProcessesLacpdu v) old mid
    → LawfulMoves u call (model_view old) seen (model_view mid) =
    λ mid own.
    let same : system_port ≡ own.0.0 = same_Some system_port own.0.0 (sym g ∙ own.0.2) in
    let up : own.0.0.port.enabled ≡ true = subst (λ (y : SystemPort). y.port.enabled ≡ true) same x.0 in
    let quietly = takes_moves u n v own.0.0.port own.0.1 up
    (can_receive_at_rest own.0.0.port
    (all-get (λ y. none_enabled receive_rows y.port ≡ true) old.system_ports i own.0.0 own.0.2 rested.0)) own.0.3 in
    slots_moved u call seen old mid own.1 (subst (λ l. LawfulMoves u call (model_view_at f old.system_ports) seen (model_view_at f l))
    (sym own.0.4) (one_moves u call f n i old.system_ports own.0.0 own.0.1 seen r e own.0.2 quietly)) in
    let moves = settled_moves u call (OnlyPortChangesBy (Some i) (ProcessesLacpdu v)) seen old new (λ g. refl) r agree
    (λ mid own. keeps_place (ProcessesLacpdu v) (Some i) old mid own)
    (λ mid own. place_stays (ProcessesLacpdu v) (taking_stays v) (Some i) old.system_ports mid.system_ports own.0) one d.1 in
    subst (λ a. JoinedByLawfulMoves old (Receive n octets) (reply.Receive (Ok a)) new) (sym d.0)
    (call, seen, (Some (Lacp (lacp_message v)), (pdu.Lacpdu v, x.1, refl), refl), (v, x.1, refl), moves)
receives old n octets system_port (Response m) answer new i r rested agree e g h d =
    let x = heard_response system_port octets m system_port.port.enabled h in
    releases (is_own_response old system_port.number m) n system_port.number octets m old answer new
    (found_place n old.system_ports i system_port e g) refl x.0 x.1 d
receives old n octets system_port (Answered a) answer new i r rested agree e g h d =
    let t = heard_answer old (model_setup old) (model_distributor old.table) n i octets old.system_ports system_port a
    system_port.port.enabled r e g h in
    subst (λ (s : SystemState). JoinedByLawfulMoves old (Receive n octets) (reply.Receive (Ok answer)) s) (sym d.1)
    (subst (λ a. JoinedByLawfulMoves old (Receive n octets) (reply.Receive (Ok a)) old) (sym d.0) t)

receives_place : (old : SystemState) (n : ℕ) (octets : List ℕ) (system_port : SystemPort) (effect : FrameEffect) (answer : Received)
    (new : SystemState) (o : Option ℕ) → Rises 0 (port_numbers old.system_ports) → PortsConsistent old.system_ports → OccupantsAgree old.keys old.system_ports
    → port_index n old.system_ports ≡ o → system_port_at o old.system_ports ≡ Some system_port
    → ParsesWhere system_port.port.enabled system_port octets effect → Performs effect system_port.number o old answer new
    → JoinedByLawfulMoves old (Receive n octets) (reply.Receive (Ok answer)) new
receives_place old n octets system_port effect answer new None r rested agree e g h d = absurd (none-some system_port g)
receives_place old n octets system_port effect answer new (Some i) r rested agree e g h d = grind (arith, nat_tests, receives)

-- what is sent
sends_lacpdu : (old : SystemState) (n i : ℕ) (system_port : SystemPort) (answer : Option (List ℕ)) (new : SystemState) → Rises 0 (port_numbers old.system_ports)
    → PortsConsistent old.system_ports → port_index n old.system_ports ≡ Some i → slice_get old.system_ports i ≡ Some system_port
    → SendsLacpdu i system_port old answer new → JoinedByLawfulMoves old (Transmit n) (reply.Transmit (Ok answer)) new
sends_lacpdu old n i system_port answer new r rested e g h = let p = system_port.port in
    let v = pdu_of p old.max_delay in
    let seen : List Act = Shows n (Lacp (lacp_message v)) ∷ [] in
    let u = model_setup old in
    let f = model_distributor old.table in
    let member = all-get (λ y. mux_consistent y.port ≡ true) old.system_ports i system_port g rested.1 in
    let quietly = sending u Told.Transmit n old.max_delay p refl
    (λ says. is_member p.choice
    (where_member (is_synchronized p.mux) (is_selected p.choice)
    (if same_mux_state CollectingDistributing p.mux then partner_synchronized p else true) member says)) in
    let moves = one_moves u Told.Transmit f n i old.system_ports system_port (after_sending p) seen r e g quietly in
    let whole = subst (λ (s : SystemState). LawfulMoves u Told.Transmit (model_view old) seen (model_view s)) (sym h.3) moves in
    subst (λ a. JoinedByLawfulMoves old (Transmit n) (reply.Transmit (Ok a)) new) (sym h.2)
    (Told.Transmit, seen, refl, (pdu.Lacpdu v, (system_port.mac, h.1.0, h.1.1, h.1.2, h.1.3), refl), whole)

pub below : (o : Option ℕ) (b : Bool) (n id : ℕ) → cond b (cond (ltb n (2 ^ 32)) (Some n) None) None ≡ Some id → id < 2 ^ 32
below o b n id e = grind (arith, nat_tests)

-- a marker goes out
pub marker_goes : (id : ℕ) (old : SystemState) (n port : ℕ) (mac : List ℕ) (answer : Option (List ℕ)) (new : SystemState) → id < 2 ^ 32 → port ≡ n
    → SendsMarkerOf (Some id) port mac old answer new → JoinedByLawfulMoves old (Transmit n) (reply.Transmit (Ok answer)) new
marker_goes id old n port mac answer new fits p h = let u = model_setup old in
    let m = own_marker old port id in
    let seen : List Act = Shows n (Message.Marker old.system.mac n id) ∷ [] in
    let moves = mark_moves old.system.mac Told.Transmit old.table new.table n id refl fits
    (subst (λ q. Marks old.table new.table q id) p h.4) in
    let all = table_moved u Told.Transmit seen old new h.5 (table_moves u Told.Transmit old.system_ports old.table new.table seen moves) in
    let told : Shows n (Message.Marker old.system.mac n id) ∷ [] ≡ Shows n (control_message (pdu.Marker m))
    ∷ [] = λ i. Shows n (Message.Marker old.system.mac (sym p i) id) ∷ [] in
    subst (λ a. JoinedByLawfulMoves old (Transmit n) (reply.Transmit (Ok a)) new) (sym h.3)
    (Told.Transmit, seen, refl, (pdu.Marker m, (mac, h.0, h.1, h.2, refl), told), all)

sends_marker : (o : Option ℕ) (old : SystemState) (n port : ℕ) (mac : List ℕ) (answer : Option (List ℕ)) (new : SystemState) → marker_due old.table port ≡ o
    → port ≡ n → SendsMarkerOf o port mac old answer new → JoinedByLawfulMoves old (Transmit n) (reply.Transmit (Ok answer)) new
sends_marker None old n port mac answer new d p h = grind (arith, nat_tests)
sends_marker (Some id) old n port mac answer new d p h =
    marker_goes id old n port mac answer new (below None (ltb 0 (count_conversations (wants_marker port) old.table)) old.table.next id d) p h

sends_where : (up due : Bool) (old : SystemState) (n i : ℕ) (system_port : SystemPort) (answer : Option (List ℕ)) (new : SystemState)
    → Rises 0 (port_numbers old.system_ports) → PortsConsistent old.system_ports → port_index n old.system_ports ≡ Some i
    → slice_get old.system_ports i ≡ Some system_port
    → TransmitsIf up due i system_port old answer new → JoinedByLawfulMoves old (Transmit n) (reply.Transmit (Ok answer)) new
sends_where false due old n i system_port answer new r rested e g h = grind (arith, nat_tests)
sends_where true true old n i system_port answer new r rested e g h = sends_lacpdu old n i system_port answer new r rested e g h
sends_where true false old n i system_port answer new r rested e g h =
    sends_marker (marker_due old.table system_port.number) old n system_port.number system_port.mac answer new refl
    (found_place n old.system_ports i system_port e g) h

sends_place : (old : SystemState) (n : ℕ) (o : Option ℕ) (answer : Option (List ℕ)) (new : SystemState)
    → Rises 0 (port_numbers old.system_ports) → PortsConsistent old.system_ports → port_index n old.system_ports ≡ o
    → TransmitsAt o old answer new → JoinedByLawfulMoves old (Transmit n) (reply.Transmit (Ok answer)) new
sends_place old n o answer new r rested e h = grind (arith, nat_tests, sends_where)

-- what becomes of a conversation
offers : (gives : ℕ → ℕ → ℕ → Type 0) (agg : AggId) (octets : List ℕ) (old : SystemState) (answer : Result ℕ SystemFault)
    (new : SystemState) → Rises 0 (port_numbers old.system_ports) → PortsConsistent old.system_ports
    → Offers gives agg octets old answer new → JoinedByLawfulMoves old (Offer agg octets) (reply.Offer answer) new
offers gives agg octets old (Ok port) new r rested h = let u = model_setup old in
    let conv = number_of_conversation old octets in
    let ports = distributing agg old.system_ports in
    let may = assigned_may gives conv ports (assignment_of_frame old agg octets) port h.1 in
    let seen : List Act = Sends_frame port agg.0 conv ∷ [] in
    let moves = send_moves old.system.mac Told.Offer old.table new.table agg.0 conv port ports refl may h.2.0 in (
      Told.Offer,
      seen,
      refl,
      refl,
      table_moved u Told.Offer seen old new h.2.1
          (carrying_moves u Told.Offer agg old.system_ports old.table new.table seen r rested.1 moves),
    )
offers gives agg octets old (Err fault) new r rested h = grind (arith, nat_tests, nothing)

pub if_ok : (b : Bool) (x : Result Assignment SystemFault) (fault : SystemFault) (s : Assignment) → (if b then x else Err fault) ≡ Ok s → x ≡ Ok s
if_ok b x fault s e = grind (arith, nat_tests)

pub known_ok : (b : Bool) (x : Result Assignment DistFault) (fault : DistFault) (s : Assignment) → in_system (if b then x else Err fault) ≡ Ok s → x ≡ Ok s
known_ok b x fault s e = grind (arith, nat_tests)

-- what a conversation that is moved, or freed by force, becomes
pub moved_to : (agg : AggId) (conv port : ℕ) (old : SystemState) (s : Assignment) → system_move_result old agg conv port ≡ Ok s
    → move_result (next_identifier old.table) (distributing agg old.system_ports) port (assignment_of old.table agg.0 conv) ≡ Ok s
moved_to agg conv port old s e = grind (arith, nat_tests, known_ok, if_ok)

pub forced_to : (agg : AggId) (conv : ℕ) (old : SystemState) (s : Assignment) → system_force_result old agg conv ≡ Ok s
    → force_result (assignment_of old.table agg.0 conv) ≡ Ok s
forced_to agg conv old s e = grind (arith, nat_tests, known_ok, if_ok)

moves_conversation : (agg : AggId) (conv port : ℕ) (what : Result Assignment SystemFault) (old : SystemState)
    (answer : Result Unit SystemFault) (new : SystemState) → system_move_result old agg conv port ≡ what
    → GivesOrRefuses agg conv what old answer new
    → JoinedByLawfulMoves old (Move_conversation agg conv port) (reply.MoveConversation answer) new
moves_conversation agg conv port (Ok s) old answer new e h = let u = model_setup old in
    let call = Told.Move_conversation in
    let moves = move_moves old.system.mac call old.table new.table agg.0 conv port (next_identifier old.table)
    (distributing agg old.system_ports) s (moved_to agg conv port old s e) h.1.0 in
    subst (λ a. JoinedByLawfulMoves old (Move_conversation agg conv port) (reply.MoveConversation a) new) (sym h.0)
    (call, [], refl, refl, table_moved u call [] old new h.1.1 (table_moves u call old.system_ports old.table new.table [] moves))
moves_conversation agg conv port (Err fault) old answer new e h = grind (arith, nat_tests, nothing)

forces : (agg : AggId) (conv : ℕ) (what : Result Assignment SystemFault) (old : SystemState) (answer : Result Unit SystemFault) (new : SystemState)
    → system_force_result old agg conv ≡ what → GivesOrRefuses agg conv what old answer new → JoinedByLawfulMoves old (Force agg conv) (reply.Force answer) new
forces agg conv (Ok s) old answer new e h = let u = model_setup old in
    let call = Told.Force agg.0 conv in
    let moves = force_moves old.system.mac old.table new.table agg.0 conv s (forced_to agg conv old s e) h.1.0 in
    subst (λ a. JoinedByLawfulMoves old (Force agg conv) (reply.Force a) new) (sym h.0)
    (call, [], refl, refl, table_moved u call [] old new h.1.1 (table_moves u call old.system_ports old.table new.table [] moves))
forces agg conv (Err fault) old answer new e h = grind (arith, nat_tests, nothing)

-- the own effects of a tick and of a link
ticks : (u : SystemSetup) (old mid : SystemState) → Rises 0 (port_numbers old.system_ports) → Ticks old mid
    → LawfulMoves u Told.Tick (model_view old) [] (model_view mid)
ticks u old mid r h = let f = model_distributor old.table in
    let own : Machines → Machines → Type 0 = λ p q. RunsToRest receive_rows (count_down p) q in
    let ports = each_moves u Told.Tick f own (λ n p q y. tick_moves u Told.Tick n p q y) old.system_ports mid.system_ports r h.0 in
    moves_joined u Told.Tick (model_view old) (model_view_at f mid.system_ports) (model_view mid) [] [] ports
    (table_moves u Told.Tick mid.system_ports old.table mid.table [] (conversations_tick u.system.mac Told.Tick old.table mid.table h.1))

frees : (u : SystemSetup) (n : ℕ) (up : Bool) (system_ports : List SystemPort) (t new : Table) → FreesIfDown up n t new
    → LawfulMoves u (Told.Set_link n up) (model_view_at (model_distributor t) system_ports) [] (model_view_at (model_distributor new) system_ports)
frees u n true system_ports t new h = ([], tt, refl, ap (λ (x : Table). model_view_at (model_distributor x) system_ports) h)
frees u n false system_ports t new h = table_moves u (Told.Set_link n false) system_ports t new [] (down_moves u.system.mac t new n h)

links : (u : SystemSetup) (n : ℕ) (up : Bool) (old mid : SystemState) → Rises 0 (port_numbers old.system_ports) → SetsLink n up old mid
    → LawfulMoves u (Told.Set_link n up) (model_view old) [] (model_view mid)
links u n up old mid r h = let call = Told.Set_link n up in
    let f = model_distributor old.table in
    let ports = place_moves u call f (SetsPortEnabled old.max_links up) n old.system_ports mid.system_ports [] r
    (λ s q i at y. links_moves u call n old.max_links up s.port q y) (port_index n old.system_ports) refl h.0 in
    moves_joined u call (model_view old) (model_view_at f mid.system_ports) (model_view mid) [] [] ports
    (frees u n up mid.system_ports old.table mid.table h.1)

-- a call joins the views
pub Step-joins : (gives : ℕ → ℕ → ℕ → Type 0) (old : SystemState) (call : Call) (answer : Reply) (new : SystemState) → Rises 0 (port_numbers old.system_ports)
    → PortsConsistent old.system_ports → OccupantsAgree old.keys old.system_ports → Step gives old call answer new → JoinedByLawfulMoves old call answer new
Step-joins gives old Tick reply.Tick new r rested agree h = let u = model_setup old in (
  Told.Tick,
  [],
  refl,
  refl,
  settled_moves u Told.Tick Ticks [] old new (λ g. refl) r agree (λ mid x. keeps_tick old mid x)
      (λ mid x. zip_stay (λ p q. RunsToRest receive_rows (count_down p) q) tick_stays old.system_ports mid.system_ports x.0)
      (λ mid x. ticks u old mid r x) h,
)
Step-joins gives old (Set_link n up) (reply.SetLink (Ok done)) new r rested agree h = let u = model_setup old in
    let call = Told.Set_link n up in (
      call,
      [],
      refl,
      refl,
      settled_moves u call (SetsLink n up) [] old new (λ g. refl) r agree (λ mid x. keeps_link n up old mid x)
          (λ mid x. place_stays (SetsPortEnabled old.max_links up) (link_stays old.max_links up) (port_index n old.system_ports)
          old.system_ports mid.system_ports x.0)
          (λ mid x. links u n up old mid r x) h,
    )
Step-joins gives old (Set_link n up) (reply.SetLink (Err fault)) new r rested agree h = grind (arith, nat_tests)
Step-joins gives old (Receive n octets) (reply.Receive (Ok answer)) new r rested agree h = grind (arith, nat_tests, receives_place, port_index)
Step-joins gives old (Receive n octets) (reply.Receive (Err fault)) new r rested agree h = nothing old (Receive n octets)
    (reply.Receive (Err fault)) new (Told_receive n None) (None, tt, refl) refl h.same
Step-joins gives old (Configure n change) (reply.Configure (Ok true)) new r rested agree h = let u = model_setup old in
    let f = model_distributor old.table in
    let o = port_index n old.system_ports in
    let moves = settled_moves u Told.Configure (OnlyPortChangesBy o (ChangesParty change)) [] old new (λ g. refl) r agree
    (λ mid x. keeps_place (ChangesParty change) o old mid x)
    (λ mid x. place_stays (ChangesParty change) (configure_stays change) o old.system_ports mid.system_ports x.0)
    (λ mid x. slots_moved u Told.Configure [] old mid x.1
    (place_moves u Told.Configure f (ChangesParty change) n old.system_ports mid.system_ports [] r
    (λ s q i at y. configures_moves u n change s.port q y) o refl x.0)) h in
    (Told.Configure, [], refl, refl, moves)
Step-joins gives old (Configure n change) (reply.Configure (Ok false)) new r rested agree h = grind (arith, nat_tests)
Step-joins gives old (Configure n change) (reply.Configure (Err fault)) new r rested agree h = grind (arith, nat_tests)
Step-joins gives old Restart reply.Restart new r rested agree h =
    (Told.Restart, [], refl, refl, (Move.Restart ∷ [], (refl, tt), refl, restarted_shows old new h.0 h.1))
Step-joins gives old (Transmit n) (reply.Transmit (Ok answer)) new r rested agree h = grind (arith, nat_tests, sends_place, port_index)
Step-joins gives old (Transmit n) (reply.Transmit (Err fault)) new r rested agree h = grind (arith, nat_tests)
Step-joins gives old (Offer agg octets) (reply.Offer answer) new r rested agree h = offers gives agg octets old answer new r rested h
Step-joins gives old (Move_conversation agg conv port) (reply.MoveConversation answer) new r rested agree h = grind (arith, nat_tests, moves_conversation, system_move_result)
Step-joins gives old (Force agg conv) (reply.Force answer) new r rested agree h = grind (arith, nat_tests, forces, system_force_result)
Step-joins gives old call answer new r rested agree h = absurd h
