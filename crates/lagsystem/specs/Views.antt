-- What the Selection Logic reads of the ports.
use Rattle.std.specs.Prelude.{ℕ, Bool, ◌==◌, ◌||◌, ◌&&◌, not, List, map}
use Rattle.slowpdu.specs.Parties.{party_of}
use Rattle.portmachines.specs.declared.mux.MuxState.{MuxState}
use Rattle.portmachines.specs.declared.mux.MuxState.TheVariants.{Detached, Waiting, Attached, CollectingDistributing}
use Rattle.portmachines.specs.declared.receive.ReceiveState.TheVariants.{Defaulted, Current}
use Rattle.portmachines.specs.Receive.{same_receive_state}
use Rattle.selection.specs.declared.view.PortView.{PortView}
use Rattle.selection.specs.declared.view.Stage.{Stage}
use Rattle.selection.specs.declared.view.Stage.TheVariants as stage
use Rattle.selection.specs.Views.{is_eligible}
use Rattle.lagsystem.specs.declared.system_ports.SystemPort.{SystemPort}

-- how far the mux machine has come, from its state and the ticks that wait_while has left
abbrev pub stage_of : MuxState → ℕ → Stage
stage_of Detached wait_while = stage.Detached
stage_of Waiting wait_while = stage.Waiting (wait_while == 0)
stage_of Attached wait_while = stage.Joined
stage_of CollectingDistributing wait_while = stage.Joined

-- what the Selection Logic reads of a port
abbrev pub selection_view : SystemPort → PortView
selection_view s =
    record {
      number = s.number;
      party = s.port.party;
      partner = party_of s.port.partner;
      enabled = s.port.enabled;
      settled = same_receive_state Current s.port.receive || same_receive_state Defaulted s.port.receive;
      stage = stage_of s.port.mux s.port.wait_while;
      choice = s.port.choice;
    }

-- what the Selection Logic reads of all ports, in their order
abbrev pub views : List SystemPort → List PortView
views system_ports = map selection_view system_ports

-- the port may choose an aggregator: it is eligible, and the host does not hold it (profile)
abbrev pub may_choose : SystemPort → Bool
may_choose s = is_eligible (selection_view s) && not s.held
