-- A marker that asks whether the peer answers markers is a lawful move.
use Rattle.lagsystem.proofs.Common.{Bool, Err, List, None, Ok, Option, Result, Some, arith, false, refl, slice_get, subst, true, ℕ, ◌≡◌, nat_tests}
use Rattle.lagsystem.proofs.Common.{LawfulMoves, ModelCall, next_identifier, SystemFault, SystemPort, Transmit, JoinedByLawfulMoves, model_setup}
use Rattle.lagsystem.proofs.Common.{model_view, Probes, ProbesAt, ProbesIf, ProbesLawfully, SendsMarkerOf, IsSound, SystemState, port_index}
use Rattle.lagsystem.proofs.Common.{with_table}
use Rattle.lagsystem.specs.declared.drive.Reply.TheVariants as reply
use Rattle.lagsystem.proofs.OnPorts.{marker_carried}
use Rattle.lagsystem.proofs.PromiseLemmas.{table_promise, table_sound}
use Rattle.lagsystem.proofs.Rising.{found_place}
use Rattle.lagsystem.proofs.Steps.{below, marker_goes}

-- the marker of the port at the place with the link up is a probe
pub probes_marker : (s : SystemState) (number i : ℕ) (system_port second : SystemPort) (answer : Option (List ℕ)) (new : SystemState)
    → port_index number s.system_ports ≡ Some i → slice_get s.system_ports i ≡ Some system_port → slice_get s.system_ports i ≡ Some second
    → system_port.port.enabled ≡ true → SendsMarkerOf (next_identifier s.table) number second.mac s answer new
    → ProbesAt (port_index number s.system_ports) s answer new
probes_marker s number i system_port second answer new ep at too up h = grind (arith, nat_tests, found_place)

-- what a probe of a sound system leaves
record Probed (n : ℕ) (old : SystemState) (answer : Result (Option (List ℕ)) SystemFault) (new : SystemState) : Type 0 where
  stays : new ≡ with_table old new.table
  sound : IsSound new
  joined : JoinedByLawfulMoves old (Transmit n) (reply.Transmit answer) new

silent : (n : ℕ) (old : SystemState) (answer : Option (List ℕ)) (new : SystemState) → answer ≡ None → new ≡ old → IsSound old → Probed n old (Ok answer) new
silent n old answer new a e s = grind (arith, nat_tests)

marker_probed : (o : Option ℕ) (n port : ℕ) (mac : List ℕ) (old : SystemState) (answer : Option (List ℕ)) (new : SystemState)
    → next_identifier old.table ≡ o → port ≡ n → SendsMarkerOf o port mac old answer new → IsSound old → Probed n old (Ok answer) new
marker_probed None n port mac old answer new d p h s = silent n old answer new h.0 h.1 s
marker_probed (Some id) n port mac old answer new d p h s = record {
  stays = h.5;
  sound = table_sound old new h.5 h.4.aggs h.4.conversations (marker_carried (Some id) port mac old answer new h s.carried) s;
  joined = marker_goes id old n port mac answer new (below None true old.table.next id d) p h;
}

where_probed : (up : Bool) (n i : ℕ) (system_port : SystemPort) (old : SystemState) (answer : Option (List ℕ)) (new : SystemState)
    → port_index n old.system_ports ≡ Some i → slice_get old.system_ports i ≡ Some system_port
    → ProbesIf up system_port old answer new → IsSound old → Probed n old (Ok answer) new
where_probed false n i system_port old answer new e g h s = silent n old answer new h.0 h.1 s
where_probed true n i system_port old answer new e g h s =
    marker_probed (next_identifier old.table) n system_port.number system_port.mac old answer new refl
    (found_place n old.system_ports i system_port e g) h s

place_probed : (o : Option ℕ) (n : ℕ) (old : SystemState) (answer : Option (List ℕ)) (new : SystemState)
    → port_index n old.system_ports ≡ o → ProbesAt o old answer new → IsSound old → Probed n old (Ok answer) new
place_probed None n old answer new e h s = absurd h
place_probed (Some i) n old answer new e h s = where_probed h.0.port.enabled n i h.0 old answer new e h.1 h.2 s

probed : (n : ℕ) (old : SystemState) (answer : Result (Option (List ℕ)) SystemFault) (new : SystemState) → Probes n old answer new
    → IsSound old → Probed n old answer new
probed n old (Ok answer) new h s = place_probed (port_index n old.system_ports) n old answer new refl h s
probed n old (Err fault) new h s = grind (arith, nat_tests)

pub probes_sound : (n : ℕ) (old : SystemState) (answer : Result (Option (List ℕ)) SystemFault) (new : SystemState)
    → Probes n old answer new → IsSound old → IsSound new
probes_sound n old answer new h s = (probed n old answer new h s).sound

pub probes_lawfully : (n : ℕ) (old : SystemState) (answer : Result (Option (List ℕ)) SystemFault) (new : SystemState)
    → Probes n old answer new → IsSound old → ProbesLawfully n old answer new
probes_lawfully n old answer new h s = let p = probed n old answer new h s in
    let j = p.joined in
    let moves : LawfulMoves (model_setup old) ModelCall.Transmit (model_view old) j.1 (model_view new) =
    subst (λ (call : ModelCall). LawfulMoves (model_setup old) call (model_view old) j.1 (model_view new)) j.2 j.4 in
    (j.1, j.3, table_promise ModelCall.Transmit j.1 old new p.stays moves p.sound)
