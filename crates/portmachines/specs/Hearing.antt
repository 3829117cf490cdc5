-- An LACPDU that says what a port in COLLECTING_DISTRIBUTING has recorded already.
use Rattle.std.specs.Prelude.{◌≡◌, true, false}
use Rattle.lagtypes.specs.Choices.{is_selected}
use Rattle.lagtypes.specs.Same.{same_party}
use Rattle.lagtypes.specs.States.{with_synchronization}
use Rattle.slowpdu.specs.Parties.{party_of}
use Rattle.slowpdu.specs.declared.pdu.Lacpdu.{Lacpdu}
use Rattle.portmachines.specs.declared.mux.MuxState.TheVariants.{CollectingDistributing}
use Rattle.portmachines.specs.declared.receive.ReceiveState.TheVariants.{Current}
use Rattle.portmachines.specs.Machines.{Machines}
use Rattle.portmachines.specs.Mux.{mux_rows, partner_synchronized}
use Rattle.portmachines.specs.Receive.{lacpdu_rows, partner_is_up_to_date, recorded_synchronization, start_current_while}
use Rattle.portmachines.specs.Rows.{AtRest, Fires}

-- the link is up, the receive machine is in CURRENT, the mux machine in COLLECTING_DISTRIBUTING, and stays there
pub record DistributesAtRest (p : Machines) : Type 0 where
  pub up : p.enabled ≡ true
  pub current : p.receive ≡ Current
  pub distributes : p.mux ≡ CollectingDistributing
  pub selected : is_selected p.choice ≡ true
  pub heard : p.defaulted ≡ false
  pub synchronized : partner_synchronized p ≡ true

-- its actor is the partner on record, which knows this port, in Synchronization
pub record SaysWhatIsRecorded (v : Lacpdu) (p : Machines) : Type 0 where
  pub actor : same_party (party_of v.actor) (party_of p.partner) ≡ true
  pub told : partner_is_up_to_date v.partner p ≡ true
  pub agreed : recorded_synchronization v p ≡ true
  pub state : with_synchronization true v.actor.state ≡ p.partner.state

-- the row for the LACPDU fires: current_while starts, Expired is false, and nothing else changes; the mux machine is at rest
pub record HearsAgain (v : Lacpdu) (old new : Machines) : Type 0 where
  pub fires : Fires (lacpdu_rows v) old new
  pub same : new ≡ start_current_while old
  pub rest : AtRest (mux_rows false) new
