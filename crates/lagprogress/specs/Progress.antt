-- What an end of a cable comes to: it knows the other end, and it distributes (6.4.12 to 6.4.15).
use Rattle.std.specs.Prelude.{◌≡◌, true, false}
use Rattle.lagtypes.specs.States.{bits_of}
use Rattle.slowpdu.specs.Parties.{party_of}
use Rattle.portmachines.specs.Machines.{Machines}
use Rattle.portmachines.specs.Mux.{selected}
use Rattle.portmachines.specs.declared.mux.MuxState.TheVariants.{CollectingDistributing}
use Rattle.portmachines.specs.declared.receive.ReceiveState.TheVariants.{Current}
use Rattle.lagmodel.specs.World.{Side, peer}
use Rattle.lagworld.specs.State.{LinkState, WorldState}
use Rattle.lagprogress.specs.Rounds.{AtEnd}

-- p is CURRENT, on no defaults and not Expired, and has recorded q as it is: its parameters, its Activity and its Timeout
pub record Knows (p q : Machines) : Type 0 where
  pub current : p.receive ≡ Current
  pub party : party_of p.partner ≡ q.party
  pub active : (bits_of p.partner.state).activity ≡ q.active
  pub short : (bits_of p.partner.state).timeout ≡ q.short
  pub present : p.defaulted ≡ false
  pub heard : p.expired ≡ false

-- the end of the cable at system s knows the other end
abbrev pub EndKnows : Side → LinkState → WorldState → Type 0
EndKnows s l j = AtEnd (λ p. AtEnd (λ q. Knows p q) (peer s) l j) s l j

-- the port is SELECTED, and in COLLECTING_DISTRIBUTING
abbrev pub Distributes : Machines → Type 0
Distributes p = (p.mux ≡ CollectingDistributing) × (selected p ≡ true)
