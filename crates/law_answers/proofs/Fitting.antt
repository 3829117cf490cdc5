-- What the machines of a port hold of numbers fits whatever rows fire.
use native.Mathlib.Omega.{arith}
use Rattle.std.proofs.Common.{Bool, [], false, inl, inr, if◌then◌else◌, refl, subst, sym, true, ℕ, ◌<◌, ◌≡◌, ◌≤◌, ◌∷◌}
use Rattle.lagtypes.specs.Octet.{octet}
use Rattle.lagtypes.specs.States.{bits_of, state_from_bits, with_synchronization}
use Rattle.lagtypes.specs.declared.state.StateBits.{StateBits}
use Rattle.slowpdu.specs.declared.pdu.Info.{Info}
use Rattle.slowpdu.specs.declared.pdu.Lacpdu.{Lacpdu}
use Rattle.slowpdu.specs.Layout.{IsAddress}
use Rattle.slowpdu.specs.Writing.{InfoFits}
use Rattle.slowpdu.specs.Parties.{party_of}
use Rattle.portmachines.specs.declared.receive.ReceiveState.TheVariants.{Current}
use Rattle.portmachines.specs.Machines.{Machines}
use Rattle.portmachines.specs.Mux.{mux_rows, start_mux}
use Rattle.portmachines.specs.Periodic.{RunsPeriodic, clear_ntt, periodic_rows, periodic_table}
use Rattle.portmachines.specs.Receive.{default_partner, lacpdu_rows, receive_rows, recorded_synchronization, start_receive, update_ntt, update_selected}
use Rattle.portmachines.specs.Rows.{FiresIfEnabled, RunsToRest}
use Rattle.portmachines.specs.Start.{Starts}
use Rattle.portmachines.proofs.Runs.{EachRelates, Fires-relates, Joins, Rests-relates}
use Rattle.law_answers.specs.Fits.{MachinesFit, PartnerFits, PartyFits}
use Rattle.law_answers.proofs.Firing.{in_order_too}

weighs : (set : Bool) (bit : ℕ) → (if set then bit else 0) ≤ bit
weighs true bit = omega arith
weighs false bit = omega arith

-- eight bits make an octet
pub bits_fit : (b : StateBits) → octet (state_from_bits b) < 256
bits_fit b = omega (
  arith,
  weighs b.activity 1,
  weighs b.timeout 2,
  weighs b.aggregation 4,
  weighs b.synchronization 8,
  weighs b.collecting 16,
  weighs b.distributing 32,
  weighs b.defaulted 64,
  weighs b.expired 128,
)

-- the parameters with other bits
with_bits : (info : Info) (b : StateBits) → InfoFits info → PartnerFits (record info { state = state_from_bits b })
with_bits info b h = record {
  numbers = record {
    address = h.address;
    system_priority = h.system_priority;
    key = h.key;
    port_priority = h.port_priority;
    port = h.port;
  };
  state = bits_fit b;
}

zeros_address : IsAddress (0 ∷ 0 ∷ 0 ∷ 0 ∷ 0 ∷ 0 ∷ [])
zeros_address = (refl, λ i. grind arith)

default_fits : PartnerFits default_partner
default_fits = record {
  numbers = record { address = zeros_address; system_priority = omega arith; key = omega arith; port_priority = omega arith; port = omega arith };
  state = bits_fit (record {
    activity = false;
    timeout = false;
    aggregation = false;
    synchronization = true;
    collecting = false;
    distributing = false;
    defaulted = false;
    expired = false;
  });
}

-- both have the same numbers
abbrev pub KeepsFit : Machines → Machines → Type 0
KeepsFit p q = MachinesFit p → MachinesFit q

-- what the receive machine writes into the partner's state
abbrev not_synchronized : Machines → StateBits
not_synchronized p = record (bits_of p.partner.state) { synchronization = false }

abbrev short_not_synchronized : Machines → StateBits
short_not_synchronized p = record (bits_of (with_synchronization false p.partner.state)) { timeout = true }

joins : Joins KeepsFit
joins = record { same = λ p q e h. subst MachinesFit (sym e) h; both = λ p q r f g h. g (f h) }

receive_fits : EachRelates KeepsFit receive_rows
receive_fits = (
  λ p e h. record { own = h.own; partner = with_bits p.partner (not_synchronized p) h.partner.numbers },
  (
    λ p e h. record { own = h.own; partner = with_bits p.partner (not_synchronized p) h.partner.numbers },
    (
      λ p e h. record { own = h.own; partner = with_bits p.partner (short_not_synchronized p) h.partner.numbers },
      (
        λ p e h. record { own = h.own; partner = default_fits },
        (λ p e h. record { own = h.own; partner = with_bits p.partner (short_not_synchronized p) h.partner.numbers }, tt),
      ),
    ),
  ),
)

-- neither the parameters of the port nor those of its partner change
pub kept : (p q : Machines) → q.party ≡ p.party → q.partner ≡ p.partner → KeepsFit p q
kept p q e f h = record { own = subst PartyFits (sym e) h.own; partner = subst PartnerFits (sym f) h.partner }

mux_fits : (ready : Bool) → EachRelates KeepsFit (mux_rows ready)
mux_fits ready = (
  λ p e. kept p _ refl refl,
  (λ p e. kept p _ refl refl, (λ p e. kept p _ refl refl, (λ p e. kept p _ refl refl, (λ p e. kept p _ refl refl, (λ p e. kept p _ refl refl, tt))))),
)

table_fits : EachRelates KeepsFit periodic_table
table_fits = (
  λ p e. kept p _ refl refl,
  (
    λ p e. kept p _ refl refl,
    (λ p e. kept p _ refl refl, (λ p e. kept p _ refl refl, (λ p e. kept p _ refl refl, (λ p e. kept p _ refl refl, (λ p e. kept p _ refl refl, tt))))),
  ),
)

periodic_fits : EachRelates KeepsFit periodic_rows
periodic_fits = in_order_too KeepsFit (λ p. false) periodic_table table_fits

pub receive_keeps : (p q : Machines) → RunsToRest receive_rows p q → KeepsFit p q
receive_keeps p q h = Rests-relates KeepsFit joins receive_rows receive_fits p q h

pub mux_keeps : (ready : Bool) (p q : Machines) → RunsToRest (mux_rows ready) p q → KeepsFit p q
mux_keeps ready p q h = Rests-relates KeepsFit joins (mux_rows ready) (mux_fits ready) p q h

pub periodic_keeps : (p q : Machines) → RunsPeriodic p q → KeepsFit p q
periodic_keeps p q h m = subst MachinesFit (sym h.2)
    (kept h.0 (clear_ntt h.0) refl refl (Rests-relates KeepsFit joins periodic_rows periodic_fits p h.0 h.1 m))

pub lacpdu_keeps : (v : Lacpdu) → InfoFits v.actor → (p q : Machines) → FiresIfEnabled (lacpdu_rows v) p q → KeepsFit p q
lacpdu_keeps v fits p q h m = elim h [
  | inl fired ↦ Fires-relates KeepsFit (lacpdu_rows v) (
    (λ r e k. record {
      own = k.own;
      partner = with_bits v.actor (record (bits_of v.actor.state) {
        synchronization = recorded_synchronization v (update_ntt v (update_selected (party_of v.actor) (record r { receive = Current })));
      }) fits;
    }),
    tt,
  ) p q fired m
  | inr x ↦ subst MachinesFit (sym x.1) m
]

-- a port that starts has the default partner
pub start_fits : (p q : Machines) → PartyFits p.party → Starts p q → MachinesFit q
start_fits p q h x =
    let begun : MachinesFit (start_receive p) = record { own = h; partner = default_fits } in
    subst MachinesFit (sym x.2) (kept x.0 (start_mux x.0) refl refl (receive_keeps (start_receive p) x.0 x.1 begun))
