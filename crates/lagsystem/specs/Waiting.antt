-- In how many ticks something happens in a system by itself (profile).
use Rattle.std.specs.Prelude.{ℕ, ◌-◌, ◌&&◌, nat_lt, List, [], ◌∷◌, map, Option, Some, None, if◌then◌else◌}
use Rattle.portmachines.specs.Machines.{Machines}
use Rattle.distributor.specs.Waiting.{sooner, ticks_until_next_wanted}
use Rattle.lagsystem.specs.declared.system_ports.SystemPort.{SystemPort}
use Rattle.lagsystem.specs.Hosts.{would_transmit}
use Rattle.lagsystem.specs.State.{SystemState}

-- the soonest of the list; None is never
abbrev pub soonest : List (Option ℕ) → Option ℕ
soonest [] = None
soonest (x ∷ xs) = sooner x (soonest xs)

-- a timer that runs expires in as many ticks as it has left; one that has none left has expired (6.4.10)
abbrev pub ticks_until_expired : ℕ → Option ℕ
ticks_until_expired left = if nat_lt 0 left then Some left else None

-- an LACPDU leaves the transmit window when its age becomes 11 (6.4.16)
abbrev pub ticks_in_window : ℕ → Option ℕ
ticks_in_window age = Some (11 - age)

-- while the link is up and an LACPDU is to be sent: in how many ticks the first LACPDU leaves the transmit window
abbrev pub ticks_until_room : Machines → Option ℕ
ticks_until_room p = if p.enabled && p.ntt then soonest (map ticks_in_window p.ages) else None

-- a frame that is due waits for no tick
abbrev pub ticks_until_frame : SystemState → SystemPort → Option ℕ
ticks_until_frame s system_port = if would_transmit s system_port then Some 0 else None

-- in how many ticks something happens on the port by itself: what is soonest of a frame that is due, the timers and room
-- in the transmit window
abbrev pub ticks_until_due_on : SystemState → SystemPort → Option ℕ
ticks_until_due_on s system_port =
    soonest
    (ticks_until_frame s system_port
    ∷ ticks_until_expired system_port.port.current_while
    ∷ ticks_until_expired system_port.port.periodic_timer
    ∷ ticks_until_expired system_port.port.wait_while
    ∷ ticks_until_room system_port.port
    ∷ [])

-- In how many ticks something happens by itself: what is soonest of the conversations that wait for a response, and of
-- all ports. None: nothing happens without a call from outside.
abbrev pub ticks_until_due : SystemState → Option ℕ
ticks_until_due s = sooner (ticks_until_next_wanted s.table) (soonest (map (ticks_until_due_on s) s.system_ports))
