-- What probe does (6.5.3.3; profile).
use Rattle.std.specs.Prelude.{◌≡◌, ℕ, Bool, true, false, List, Option, Some, None, slice_get, Result, Ok, Err}
use Rattle.lagmodel.specs.Move.{Act}
use Rattle.lagmodel.specs.View.{ModelCall}
use Rattle.distributor.specs.Conversations.{next_identifier}
use Rattle.lagsystem.specs.declared.drive.Reply.TheVariants as reply
use Rattle.lagsystem.specs.declared.fault.SystemFault.{SystemFault}
use Rattle.lagsystem.specs.declared.system_ports.SystemPort.{SystemPort}
use Rattle.lagsystem.specs.Calls.{RefusesNoPort, Transmit}
use Rattle.lagsystem.specs.ModelView.{EffectsSeenAs}
use Rattle.lagsystem.specs.Promises.{TablePromise}
use Rattle.lagsystem.specs.Sending.{SendsMarkerOf}
use Rattle.lagsystem.specs.State.{SystemState, port_index}

-- the first argument: the link of the port is up. Then the next marker is sent, if an identifier is left; else nothing.
abbrev pub ProbesIf : Bool → SystemPort → SystemState → Option (List ℕ) → SystemState → Type 0
ProbesIf false system_port old answer new = (answer ≡ None) × (new ≡ old)
ProbesIf true system_port old answer new = SendsMarkerOf (next_identifier old.table) system_port.number system_port.mac old answer new

-- what probe does on the port at this index
abbrev pub ProbesAt : Option ℕ → SystemState → Option (List ℕ) → SystemState → Type 0
ProbesAt None old answer new = ⊥
ProbesAt (Some i) old answer new = (system_port : SystemPort) × (slice_get old.system_ports i ≡ Some system_port)
    × ProbesIf system_port.port.enabled system_port old answer new

-- what probe does on the port with this number
abbrev pub Probes : ℕ → SystemState → Result (Option (List ℕ)) SystemFault → SystemState → Type 0
Probes port old (Ok answer) new = ProbesAt (port_index port old.system_ports) old answer new
Probes port old (Err fault) new = RefusesNoPort (port_index port old.system_ports) fault old new

-- to the model it is a transmit that sends just the frame that was answered
abbrev pub ProbesLawfully : ℕ → SystemState → Result (Option (List ℕ)) SystemFault → SystemState → Type 0
ProbesLawfully port old answer new =
    (acts : List Act) × EffectsSeenAs old (Transmit port) (reply.Transmit answer) acts × TablePromise ModelCall.Transmit acts old new
