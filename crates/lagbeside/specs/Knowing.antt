-- What a port heard it knows until current_while expires (6.4.12).
use Rattle.std.specs.Prelude.{◌≡◌, ◌<◌, ℕ, Bool, true, false, List, Some, slice_get}
use Rattle.lagtypes.specs.States.{bits_of}
use Rattle.slowpdu.specs.declared.pdu.Info.{Info}
use Rattle.slowpdu.specs.declared.pdu.Lacpdu.{Lacpdu}
use Rattle.slowpdu.specs.Parties.{party_of}
use Rattle.portmachines.specs.declared.receive.ReceiveState.{ReceiveState}
use Rattle.portmachines.specs.declared.receive.ReceiveState.TheVariants.{Current}
use Rattle.portmachines.specs.Machines.{Machines}
use Rattle.lagsystem.specs.declared.drive.Reply.{Reply}
use Rattle.lagsystem.specs.declared.system_ports.SystemPort.{SystemPort}
use Rattle.lagsystem.specs.Calls.{Call, OnlyPortChangesBy, ProcessesLacpdu, ThenSettles}
use Rattle.lagsystem.specs.Sound.{IsSound}
use Rattle.lagsystem.specs.State.{SystemState}
use Rattle.lagbeside.specs.Hearing.{LeavesUnheard}
use Rattle.lagbeside.specs.Runs.{LeavesPort, Runs}
use Rattle.lagbeside.specs.Timers.{timeout_time}
use Rattle.lagbeside.specs.Heartbeat.{EachCall, tick_count}

-- CURRENT, on no defaults and not Expired, and the partner is the actor of the LACPDU: its six parameters, its Activity
-- and its Timeout
pub record IsRecorded (v : Lacpdu) (receive : ReceiveState) (partner : Info) (defaulted expired : Bool) : Type 0 where
  pub current : receive ≡ Current
  pub party : party_of partner ≡ party_of v.actor
  pub active : (bits_of partner.state).activity ≡ (bits_of v.actor.state).activity
  pub short : (bits_of partner.state).timeout ≡ (bits_of v.actor.state).timeout
  pub present : defaulted ≡ false
  pub heard : expired ≡ false

-- so the port is
abbrev pub HasRecorded : Lacpdu → Machines → Type 0
HasRecorded v p = IsRecorded v p.receive p.partner p.defaulted p.expired

-- A port of a sound system whose link is up processes an LACPDU, and a settling follows. It has recorded the actor of the LACPDU after any
-- calls that leave its link up and the port as it is configured, in which it processed no other LACPDU, and with fewer ticks among them than
-- current_while starts with, and what may stand between them.
abbrev pub IsKnown : (ℕ → ℕ → ℕ → Type 0) → Type 0
IsKnown gives = (old mid new : SystemState) (v : Lacpdu) (calls : List Call) (replies : List Reply) (states : List SystemState) (i : ℕ)
    (w x y : SystemPort)
    → IsSound old → IsSound mid → slice_get old.system_ports i ≡ Some w → w.port.enabled ≡ true
    → ThenSettles (OnlyPortChangesBy (Some i) (ProcessesLacpdu v)) old mid → slice_get mid.system_ports i ≡ Some x
    → Runs (LeavesPort x.number) gives mid calls replies states new → EachCall (LeavesUnheard x.number) calls replies
    → tick_count calls < timeout_time x.port.short → slice_get new.system_ports i ≡ Some y → HasRecorded v y.port
