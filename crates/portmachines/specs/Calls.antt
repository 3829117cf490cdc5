-- The calls of a port, and the relation that the contract of each states (profile).
use Rattle.std.specs.Prelude.{◌≡◌, ◌≤◌, ◌<◌, ℕ, zero, suc, Bool, true, false, not, ◌&&◌, if◌then◌else◌}
use Rattle.lagtypes.specs.declared.party.Party.{Party}
use Rattle.lagtypes.specs.declared.party.Choice.{Choice}
use Rattle.lagtypes.specs.Same.{same_bit}
use Rattle.slowpdu.specs.declared.pdu.Lacpdu.{Lacpdu}
use Rattle.portmachines.specs.Machines.{Machines}
use Rattle.portmachines.specs.Rows.{AtRest, RunsToRest, FiresIfEnabled}
use Rattle.portmachines.specs.declared.receive.ReceiveState.TheVariants.{Current}
use Rattle.portmachines.specs.Receive.{receive_rows, lacpdu_rows, same_receive_state}
use Rattle.portmachines.specs.Periodic.{RunsPeriodic}
use Rattle.portmachines.specs.Mux.{mux_rows}
use Rattle.portmachines.specs.Transmit.{count_down, is_due, after_sending}
use Rattle.portmachines.specs.Start.{Starts}

-- current_while of a port with this LACP_Timeout from now on. In CURRENT it starts with Long_Timeout_Time if Long Timeout follows Short
-- Timeout: the partner sends for the LACP_Timeout that it was told, and once it is told the new one, its next LACPDU may come a slow period
-- later. Else it goes on: it was started for what the partner was told (6.4.4, 6.4.12; profile).
abbrev pub current_while_with : Bool → Machines → ℕ
current_while_with short p = if same_receive_state Current p.receive && (p.short && not short) then 900 else p.current_while

-- LACP_Activity and LACP_Timeout of the port's own side are these; NTT becomes true if one of them was another (6.4.2.3,
-- 6.4.7; profile)
abbrev pub with_mode : Bool → Bool → Machines → Machines
with_mode active short p =
    record p {
      active = active;
      short = short;
      current_while = current_while_with short p;
      ntt = if same_bit p.active active && same_bit p.short short then p.ntt else true;
    }

-- a call of a port
pub data PortCall : Type 0 where
  Tick : PortCall
  Transmit : (max_delay : ℕ) → PortCall
  Set_link : (enabled : Bool) → PortCall
  Take : (pdu : Lacpdu) → PortCall
  Mux : (ready : Bool) → PortCall
  Periodic : PortCall
  Select : (choice : Choice) → PortCall
  Reinit : (party : Party) → PortCall
  Set_mode : (active short : Bool) → PortCall

-- the relation that the contract of a call states between the port before and after it
abbrev pub CallEffect : PortCall → Machines → Machines → Type 0
CallEffect Tick old new = RunsToRest receive_rows (count_down old) new
CallEffect (Transmit max_delay) old new = new ≡ (if is_due old then after_sending old else old)
CallEffect (Set_link enabled) old new = RunsToRest receive_rows (record old { enabled = enabled }) new
CallEffect (Take pdu) old new = FiresIfEnabled (lacpdu_rows pdu) old new
CallEffect (Mux ready) old new = RunsToRest (mux_rows ready) old new
CallEffect Periodic old new = RunsPeriodic old new
CallEffect (Select choice) old new = new ≡ record old { choice = choice }
CallEffect (Reinit party) old new = Starts (record old { party = party }) new
CallEffect (Set_mode active short) old new = new ≡ with_mode active short old

-- the machines are deterministic: if the receive machine is at rest, each call has exactly one effect
abbrev pub OneEffect : Type 0
OneEffect =
    (call : PortCall) (old one other : Machines)
    → AtRest receive_rows old → CallEffect call old one → CallEffect call old other → one ≡ other

-- this many ticks pass, and no LACPDU comes
abbrev pub TicksPass : ℕ → Machines → Machines → Type 0
TicksPass zero old new = new ≡ old
TicksPass (suc n) old new = (mid : Machines) × TicksPass n old mid × CallEffect Tick mid new

-- LACP_Timeout may be set at any time without a port that expires for it. current_while has no fewer ticks than before; and a port in CURRENT
-- that turns to Long Timeout stays in CURRENT for any 899 ticks from then on, with no LACPDU, while its link is up.
pub record ModeExpiresNone : Type 0 where
  pub longer : (active short : Bool) (p : Machines) → p.current_while ≤ 900 → p.current_while ≤ (with_mode active short p).current_while
  pub stays : (active : Bool) (n : ℕ) (p q : Machines) → p.receive ≡ Current → p.short ≡ true → p.enabled ≡ true → n < 900
      → TicksPass n (with_mode active false p) q → q.receive ≡ Current
