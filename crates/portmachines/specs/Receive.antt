-- The receive machine (6.4.12), with its functions (6.4.9).
use Rattle.std.specs.Prelude.{◌==◌, Bool, true, false, not, ◌&&◌, ◌||◌, List, [], ◌∷◌, if◌then◌else◌}
use Rattle.lagtypes.specs.States.{bits_of, state_from_bits, with_synchronization, with_timeout}
use Rattle.lagtypes.specs.declared.party.Party.{Party}
use Rattle.lagtypes.specs.declared.party.Choice.TheVariants.{Unselected}
use Rattle.slowpdu.specs.Parties.{party_of}
use Rattle.slowpdu.specs.declared.pdu.Info.{Info}
use Rattle.slowpdu.specs.declared.pdu.Lacpdu.{Lacpdu}
use Rattle.portmachines.specs.declared.receive.ReceiveState.{ReceiveState}
use Rattle.portmachines.specs.declared.receive.ReceiveState.TheVariants.{Initialize, PortDisabled, Expired, Defaulted, Current}
use Rattle.portmachines.specs.Machines.{Machines}
use Rattle.portmachines.specs.Rows.{Row}
use Rattle.lagtypes.specs.Same.{same_party, same_bit}
use Rattle.portmachines.specs.Mux.{is_synchronized}

-- the administrative default values of the partner: all zero, but the state is 0x08 (Synchronization) (profile)
abbrev pub default_partner : Info
default_partner =
    record {
      system = record { priority = 0; mac = 0 ∷ 0 ∷ 0 ∷ 0 ∷ 0 ∷ 0 ∷ [] };
      key = record { 0 = 0 };
      port = record { priority = 0; number = 0 };
      state =
          state_from_bits
          (record {
            activity = false;
            timeout = false;
            aggregation = false;
            synchronization = true;
            collecting = false;
            distributing = false;
            defaulted = false;
            expired = false;
          });
    }

-- recordDefault: the partner gets the administrative default values
abbrev pub record_default : Machines → Machines
record_default p = record p { partner = default_partner; defaulted = true }

-- Partner_Oper_Port_State.Synchronization false
abbrev pub partner_not_synchronized : Machines → Machines
partner_not_synchronized p =
    record p { partner = record p.partner { state = with_synchronization false p.partner.state } }

-- the actions of EXPIRED: partner Synchronization false; partner Timeout short; current_while starts with 30 ticks;
-- Expired true
abbrev pub enter_expired : Machines → Machines
enter_expired p =
    record p {
      partner = record p.partner { state = with_timeout true (with_synchronization false p.partner.state) };
      current_while = 30;
      expired = true;
    }

-- update_Selected, with the PDU's Actor, and update_Default_Selected, with the administrative default: Selected becomes
-- UNSELECTED if these parameters differ from the partner's
abbrev pub update_selected : Party → Machines → Machines
update_selected party p =
    record p { choice = if same_party party (party_of p.partner) then p.choice else Unselected }

-- the actions of DEFAULTED: update_Default_Selected; recordDefault; Expired false
abbrev pub enter_defaulted : Machines → Machines
enter_defaulted p = record (record_default (update_selected (party_of default_partner) p)) { expired = false }

-- BEGIN, or reinit in any state; to INITIALIZE; Selected UNSELECTED; recordDefault; Expired false
abbrev pub start_receive : Machines → Machines
start_receive p = record (record_default p) { receive = Initialize; choice = Unselected; expired = false }

-- whether the two states are the same
abbrev pub same_receive_state : ReceiveState → ReceiveState → Bool
same_receive_state Initialize Initialize = true
same_receive_state PortDisabled PortDisabled = true
same_receive_state Expired Expired = true
same_receive_state Defaulted Defaulted = true
same_receive_state Current Current = true
same_receive_state _ _ = false

-- a row: from states that pass the test, if the condition holds, to that state, with the action
abbrev pub receive_row : (ReceiveState → Bool) → (Machines → Bool) → ReceiveState → (Machines → Machines) → Row
receive_row from guard to effect =
    record {
      enabled = λ p. from p.receive && guard p;
      effect = λ p. effect (record p { receive = to });
    }

-- current_while has no ticks left
abbrev pub current_while_expired : Machines → Bool
current_while_expired p = p.current_while == 0

-- all rows of the receive machine but that for an LACPDU
abbrev pub receive_rows : List Row
receive_rows =
    -- INITIALIZE; at once; to PORT_DISABLED; partner Synchronization false
    receive_row (same_receive_state Initialize) (λ p. true) PortDisabled partner_not_synchronized
    -- any but PORT_DISABLED; link down; to PORT_DISABLED; partner Synchronization false
    ∷ receive_row (λ s. not (same_receive_state PortDisabled s)) (λ p. not p.enabled) PortDisabled partner_not_synchronized
    -- PORT_DISABLED; link up; to EXPIRED, with its actions
    ∷ receive_row (same_receive_state PortDisabled) (λ p. p.enabled) Expired enter_expired
    -- EXPIRED; current_while expired; to DEFAULTED, with its actions
    ∷ receive_row (same_receive_state Expired) current_while_expired Defaulted enter_defaulted
    -- CURRENT; current_while expired; to EXPIRED, with its actions
    ∷ receive_row (same_receive_state Current) current_while_expired Expired enter_expired
    ∷ []

-- the partner's view of this port is up to date: the Partner information of the PDU equals the port's own parameters,
-- and its Activity, Timeout and Synchronization bits are the port's own
abbrev pub partner_is_up_to_date : Info → Machines → Bool
partner_is_up_to_date pdu_partner p =
    same_party (party_of pdu_partner) p.party
    && same_bit (bits_of pdu_partner.state).activity p.active
    && same_bit (bits_of pdu_partner.state).timeout p.short
    && same_bit (bits_of pdu_partner.state).synchronization (is_synchronized p.mux)

-- update_NTT: NTT becomes true unless the partner's view of this port is up to date
abbrev pub update_ntt : Lacpdu → Machines → Machines
update_ntt pdu p = record p { ntt = if partner_is_up_to_date pdu.partner p then p.ntt else true }

-- the link is actively maintained: the PDU's Actor is active, or both this port and the PDU's Partner information are
-- active
abbrev pub is_maintained : Lacpdu → Machines → Bool
is_maintained pdu p = (bits_of pdu.actor.state).activity || (p.active && (bits_of pdu.partner.state).activity)

-- the value of the partner's Synchronization that recordPDU records
abbrev pub recorded_synchronization : Lacpdu → Machines → Bool
recorded_synchronization pdu p =
    (bits_of pdu.actor.state).synchronization
    && is_maintained pdu p
    && (same_party (party_of pdu.partner) p.party || not (bits_of pdu.actor.state).aggregation)

-- recordPDU: the partner gets the values of the PDU
abbrev pub record_pdu : Lacpdu → Machines → Machines
record_pdu pdu p =
    record p {
      partner = record pdu.actor { state = with_synchronization (recorded_synchronization pdu p) pdu.actor.state };
      defaulted = false;
    }

-- current_while starts with 30 ticks if the port has Short Timeout, else with 900; Expired false
abbrev pub start_current_while : Machines → Machines
start_current_while p = record p { current_while = if p.short then 30 else 900; expired = false }

-- the row for an LACPDU; one is processed only while the link is up
abbrev pub lacpdu_rows : Lacpdu → List Row
lacpdu_rows pdu =
    -- EXPIRED, DEFAULTED, CURRENT; an LACPDU came; to CURRENT; update_Selected; update_NTT; recordPDU; current_while
    -- starts; Expired false
    receive_row (λ s. same_receive_state Expired s || same_receive_state Defaulted s || same_receive_state Current s)
    (λ p. p.enabled) Current
    (λ p. start_current_while (record_pdu pdu (update_ntt pdu (update_selected (party_of pdu.actor) p))))
    ∷ []
