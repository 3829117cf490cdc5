-- An LACPDU that is due goes onto the cable of its port, and the port at the other end processes it (6.4.12, 6.4.16).
use Rattle.std.specs.Prelude.{◌≡◌, ℕ, suc, true, List, [], ◌∷◌, ◌++◌, Some, slice_get, slice_set}
use Rattle.lagmodel.specs.World.{Side, peer}
use Rattle.portmachines.specs.Transmit.{after_sending, is_due, pdu_of}
use Rattle.lagsystem.specs.declared.system_ports.SystemPort.{SystemPort}
use Rattle.lagsystem.specs.Calls.{OnlyPortChangesBy, ProcessesLacpdu, ThenSettles}
use Rattle.lagsystem.specs.Sending.{IsLacpduOf}
use Rattle.lagsystem.specs.State.{port_index, with_system_ports}
use Rattle.lagscript.specs.declared.event.Event.TheVariants as event
use Rattle.lagworld.specs.declared.reply.Reply.{Reply}
use Rattle.lagworld.specs.Events.{Algorithms, WorldSteps, side_of}
use Rattle.lagworld.specs.State.{ItemValue, LinkState, WorldState, accepts, half, link_index, port_at, towards, with_towards}

-- the port that the cable joins at system s is this one, at this index, and its link is up
pub record EndIsUp (s : Side) (l : LinkState) (k : ℕ) (x : SystemPort) (j : WorldState) : Type 0 where
  pub place : port_index (port_at s l) (half s j).state.system_ports ≡ Some k
  pub there : slice_get (half s j).state.system_ports k ≡ Some x
  pub up : x.port.enabled ≡ true

-- the port x of system s has sent the LACPDU that was due, from old to new: it went behind all that is on the cable at
-- index i in its direction
pub record IsSentOn (s : Side) (i k : ℕ) (l : LinkState) (x : SystemPort) (old new : WorldState) : Type 0 where
  pub item : ItemValue
  pub lacpdu : IsLacpduOf (half s old).state.max_delay x item.octets
  pub last : new.links ≡ slice_set old.links i (with_towards (peer s) (towards (peer s) l ++ item ∷ []) l)
  pub sender : (half s new).state ≡ with_system_ports (half s old).state
      (slice_set (half s old).state.system_ports k (record x { port = after_sending x.port }))
  pub peer : (half (peer s) new).state ≡ (half (peer s) old).state

-- An Emit event of a port whose LACPDU is due sends it on the port's cable, the one at index i, if that accepts it.
abbrev pub EmitSendsLacpdu : Algorithms → Type 0
EmitSendsLacpdu gives = (n : ℕ) (s : Side) (i k : ℕ) (l : LinkState) (x : SystemPort) (r : Reply) (old new : WorldState)
    → side_of n ≡ Some s → link_index s (port_at s l) old.links ≡ Some i → slice_get old.links i ≡ Some l → accepts s l ≡ true
    → EndIsUp s l k x old → is_due x.port ≡ true → WorldSteps gives old (event.Emit n (port_at s l)) r new
    → IsSentOn s i k l x old new

-- the port at index k of system s has processed the LACPDU that the port x sends, from old to new: it was the first item
-- on the cable at index i in its direction, and the rest is left
pub record IsHeardOn (s : Side) (i k : ℕ) (l : LinkState) (x : SystemPort) (d : ℕ) (rest : List ItemValue) (old new : WorldState)
    : Type 0 where
  pub processed : ThenSettles (OnlyPortChangesBy (Some k) (ProcessesLacpdu (pdu_of x.port d))) (half s old).state (half s new).state
  pub left : new.links ≡ slice_set old.links i (with_towards s rest l)
  pub peer : (half (peer s) new).state ≡ (half (peer s) old).state

-- A Deliver event of a cable whose first item is the LACPDU of a port x, with any CollectorMaxDelay: the port at the end
-- that it comes to processes just that LACPDU, if its link is up.
abbrev pub DeliverProcessesLacpdu : Algorithms → Type 0
DeliverProcessesLacpdu gives = (n : ℕ) (s : Side) (i k : ℕ) (l : LinkState) (x y : SystemPort) (d : ℕ) (item : ItemValue)
    (rest : List ItemValue) (r : Reply) (old new : WorldState) → side_of n ≡ Some s → slice_get old.links i ≡ Some l
    → towards s l ≡ item ∷ rest → EndIsUp s l k y old → IsLacpduOf d x item.octets
    → WorldSteps gives old (event.Deliver (suc i) n) r new → IsHeardOn s i k l x d rest old new
