-- Timers, and the transmit machine with its limit (6.4.16).
use Rattle.std.specs.Prelude.{ℕ, ◌+◌, ◌-◌, Bool, false, ◌&&◌, List, [], ◌∷◌, ◌++◌, length, map, filter, nat_lt}
use Rattle.lagtypes.specs.States.{state_from_bits}
use Rattle.lagtypes.specs.declared.state.State.{State}
use Rattle.slowpdu.specs.declared.pdu.Info.{Info}
use Rattle.slowpdu.specs.declared.pdu.Lacpdu.{Lacpdu}
use Rattle.portmachines.specs.declared.mux.MuxState.TheVariants.{CollectingDistributing}
use Rattle.portmachines.specs.Machines.{Machines}
use Rattle.portmachines.specs.Mux.{same_mux_state, is_synchronized}

-- each age becomes one tick older, and one that becomes 11 is removed
abbrev pub aged : List ℕ → List ℕ
aged ages = filter (λ a. nat_lt a 11) (map (λ a. a + 1) ages)

-- each timer above 0 counts down by one tick, and each age in the transmit window becomes one tick older
abbrev pub count_down : Machines → Machines
count_down p =
    record p {
      current_while = p.current_while - 1;
      periodic_timer = p.periodic_timer - 1;
      wait_while = p.wait_while - 1;
      ages = aged p.ages;
    }

-- an LACPDU is due: NTT is true, and fewer than three were sent in the last eleven ticks
abbrev pub is_due : Machines → Bool
is_due p = p.ntt && nat_lt (length p.ages) 3

-- sending an LACPDU adds the age 0 and makes NTT false
abbrev pub after_sending : Machines → Machines
after_sending p = record p { ntt = false; ages = p.ages ++ 0 ∷ [] }

-- Actor_State: the state octet of the port's own side
abbrev pub actor_state : Machines → State
actor_state p =
    state_from_bits
    (record {
      activity = p.active;
      timeout = p.short;
      aggregation = p.party.aggregatable;
      synchronization = is_synchronized p.mux;
      collecting = same_mux_state CollectingDistributing p.mux;
      distributing = same_mux_state CollectingDistributing p.mux;
      defaulted = p.defaulted;
      expired = p.expired;
    })

-- the Actor's information in an LACPDU of the port
abbrev pub actor_of : Machines → Info
actor_of p = record { system = p.party.system; key = p.party.key; port = p.party.port; state = actor_state p }

-- an LACPDU of the port; the number is its CollectorMaxDelay
abbrev pub pdu_of : Machines → ℕ → Lacpdu
pdu_of p max_delay = record { actor = actor_of p; partner = p.partner; max_delay = max_delay }
