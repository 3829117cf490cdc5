-- An LACPDU that says what is recorded: its row changes no more than current_while and Expired.
use native.Mathlib.Omega.{arith}
use Rattle.portmachines.proofs.Common.{ap, cond, false, refl, sym, true, if◌then◌else◌, ◌∙◌, ◌≡◌, Machines, mux_rows, AtRest}
use Rattle.lagtypes.proofs.SameLemmas.{exact_party}
use Rattle.lagtypes.specs.States.{with_synchronization}
use Rattle.lagtypes.specs.Same.{same_party}
use Rattle.lagtypes.specs.declared.party.Choice.TheVariants.{Unselected}
use Rattle.slowpdu.specs.Parties.{party_of}
use Rattle.slowpdu.specs.declared.pdu.Lacpdu.{Lacpdu}
use Rattle.portmachines.specs.Hearing.{DistributesAtRest, HearsAgain, SaysWhatIsRecorded}
use Rattle.portmachines.specs.Receive.{lacpdu_rows, partner_is_up_to_date, recorded_synchronization, start_current_while}
use Rattle.portmachines.specs.declared.receive.ReceiveState.TheVariants.{Current}
use Rattle.portmachines.specs.Rows.{Fires}

-- the partner that is recorded is the one on record
same_partner : (v : Lacpdu) (p : Machines) → SaysWhatIsRecorded v p
    → p.partner ≡ record v.actor { state = with_synchronization (recorded_synchronization v p) v.actor.state }
same_partner v p h = let party : party_of p.partner ≡ party_of v.actor = sym (exact_party (party_of v.actor) (party_of p.partner) h.actor) in
    let state : p.partner.state ≡ with_synchronization (recorded_synchronization v p) v.actor.state =
    sym h.state ∙ ap (λ b. with_synchronization b v.actor.state) (sym h.agreed) in
    λ i. record { system = (party i).system; key = (party i).key; port = (party i).port; state = state i }

enabled : (v : Lacpdu) (p q : Machines) → DistributesAtRest p
    → q ≡ record p {
      receive = Current;
      choice = cond (same_party (party_of v.actor) (party_of p.partner)) p.choice Unselected;
      ntt = cond (partner_is_up_to_date v.partner p) p.ntt true;
      partner = record v.actor { state = with_synchronization (recorded_synchronization v p) v.actor.state };
      defaulted = false;
      current_while = if p.short then 30 else 900;
      expired = false;
    } → Fires (lacpdu_rows v) p q
enabled v p q d e = grind arith

-- nothing else changes
same_port : (v : Lacpdu) (p : Machines) → DistributesAtRest p → SaysWhatIsRecorded v p
    → start_current_while p ≡ record p {
      receive = Current;
      choice = cond (same_party (party_of v.actor) (party_of p.partner)) p.choice Unselected;
      ntt = cond (partner_is_up_to_date v.partner p) p.ntt true;
      partner = record v.actor { state = with_synchronization (recorded_synchronization v p) v.actor.state };
      defaulted = false;
      current_while = if p.short then 30 else 900;
      expired = false;
    }
same_port v p d h = let partner = same_partner v p h in
    λ i. record p {
      receive = d.current i;
      choice = cond (sym h.actor i) p.choice Unselected;
      ntt = cond (sym h.told i) p.ntt true;
      partner = partner i;
      defaulted = d.heard i;
      current_while = if p.short then 30 else 900;
      expired = false;
    }

mux_rests : (p : Machines) → DistributesAtRest p → AtRest (mux_rows false) (start_current_while p)
mux_rests p d = grind arith

pub heard_again : (v : Lacpdu) (p : Machines) → DistributesAtRest p → SaysWhatIsRecorded v p → HearsAgain v p (start_current_while p)
heard_again v p d h = record { fires = enabled v p (start_current_while p) d (same_port v p d h); same = refl; rest = mux_rests p d }
