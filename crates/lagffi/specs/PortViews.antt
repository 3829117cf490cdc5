-- What there is to show of a port, and which ports show something else than before (profile).
use Rattle.std.specs.Prelude.{ℕ, ◌==◌, ◌&&◌, Bool, false, not, List, [], ◌∷◌, map, Option, None, Some}
use Rattle.std.specs.Str.{bytes_eq}
use Rattle.lagtypes.specs.Choices.{is_standby}
use Rattle.lagtypes.specs.Same.{same_bit}
use Rattle.portmachines.specs.Machines.{Machines}
use Rattle.portmachines.specs.Transmit.{actor_state}
use Rattle.lagsystem.specs.PortStatus.{status_number, status_of_port}
use Rattle.lagsystem.specs.State.{SystemState, port_index, system_port_at}
use Rattle.lagsystem.specs.declared.system_ports.SystemPort.{SystemPort}
use Rattle.lagffi.specs.ReaderValues.{choice_number, mux_state_number, no_mac, receive_state_number}
use Rattle.lagffi.specs.declared.views.LagView.{LagView}

-- of a port that is not there
abbrev pub no_view : ℕ → LagView
no_view n =
    record {
      port = n;
      aggregator = 0;
      up = false;
      standby = false;
      defaulted = false;
      state = 0;
      receive_state = 0;
      mux_state = 0;
      port_status = 0;
      partner_state = 0;
      partner_mac = no_mac;
      partner_priority = 0;
      partner_key = 0;
      partner_port_priority = 0;
      partner_port = 0;
    }

-- of the port with this number and these machines, but for its status
abbrev pub view_of_machines : ℕ → Machines → LagView
view_of_machines n p =
    record {
      port = n;
      aggregator = choice_number p.choice;
      up = p.enabled;
      standby = is_standby p.choice;
      defaulted = p.defaulted;
      state = (actor_state p).0;
      receive_state = receive_state_number p.receive;
      mux_state = mux_state_number p.mux;
      port_status = 0;
      partner_state = p.partner.state.0;
      partner_mac = p.partner.system.mac;
      partner_priority = p.partner.system.priority;
      partner_key = p.partner.key.0;
      partner_port_priority = p.partner.port.priority;
      partner_port = p.partner.port.number;
    }

-- of the port with this number, if there is one
abbrev pub view_if_there : ℕ → Option SystemPort → LagView
view_if_there n None = no_view n
view_if_there n (Some x) = record (view_of_machines n x.port) { port_status = status_number (status_of_port x) }

-- of the port with this number
abbrev pub view_at : SystemState → ℕ → LagView
view_at s n = view_if_there n (system_port_at (port_index n s.system_ports) s.system_ports)

-- of each of the ports with these numbers
abbrev pub views_of : SystemState → List ℕ → List LagView
views_of s numbers = map (view_at s) numbers

-- each field is equal
abbrev pub same_view : LagView → LagView → Bool
same_view v w =
    (v.port == w.port)
    && (v.aggregator == w.aggregator)
    && same_bit v.up w.up
    && same_bit v.standby w.standby
    && same_bit v.defaulted w.defaulted
    && (v.state == w.state)
    && (v.receive_state == w.receive_state)
    && (v.mux_state == w.mux_state)
    && (v.port_status == w.port_status)
    && (v.partner_state == w.partner_state)
    && bytes_eq v.partner_mac w.partner_mac
    && (v.partner_priority == w.partner_priority)
    && (v.partner_key == w.partner_key)
    && (v.partner_port_priority == w.partner_port_priority)
    && (v.partner_port == w.partner_port)

-- where the second list differs from what stood in its place
abbrev pub changed : List LagView → List LagView → List Bool
changed olds [] = []
changed [] (new ∷ news) = []
changed (old ∷ olds) (new ∷ news) = not (same_view old new) ∷ changed olds news
