-- How a port starts (6.4.12, 6.4.15).
use Rattle.std.specs.Prelude.{◌≡◌, true, false, []}
use Rattle.lagtypes.specs.declared.party.Choice.TheVariants.{Unselected}
use Rattle.portmachines.specs.declared.port.Setup.{Setup}
use Rattle.portmachines.specs.declared.receive.ReceiveState.TheVariants.{Initialize}
use Rattle.portmachines.specs.declared.periodic.PeriodicState.TheVariants.{NoPeriodic}
use Rattle.portmachines.specs.declared.mux.MuxState.TheVariants.{Detached}
use Rattle.portmachines.specs.Machines.{Machines}
use Rattle.portmachines.specs.Rows.{RunsToRest}
use Rattle.portmachines.specs.Receive.{receive_rows, start_receive, default_partner}
use Rattle.portmachines.specs.Mux.{start_mux}

-- the receive and mux machines start (BEGIN, or reinit)
abbrev pub Starts : Machines → Machines → Type 0
Starts old new = (mid : Machines) × RunsToRest receive_rows (start_receive old) mid × (new ≡ start_mux mid)

-- a port before its machines start: the link is down, and every timer is 0
abbrev pub before_start : Setup → Machines
before_start s =
    record {
      party = s.party;
      active = s.active;
      short = s.short;
      enabled = false;
      receive = Initialize;
      current_while = 0;
      partner = default_partner;
      defaulted = true;
      expired = false;
      periodic = NoPeriodic;
      periodic_timer = 0;
      mux = Detached;
      wait_while = 0;
      choice = Unselected;
      ntt = false;
      ages = [];
    }
