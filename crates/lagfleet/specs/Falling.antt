-- What the law of cables that are moved asks of a port, of a link that goes down.
use Rattle.std.specs.Prelude.{◌≡◌, ℕ, true, false, Some, Ok}
use Rattle.portmachines.specs.Machines.{Machines}
use Rattle.lagsystem.specs.declared.drive.Reply.TheVariants as reply
use Rattle.lagsystem.specs.Calls.{Call}
use Rattle.lagsystem.specs.ModelView.{model_view}
use Rattle.lagsystem.specs.Sound.{CallPromise, PortsAgree}
use Rattle.lagsystem.specs.State.{SystemState, machines_of}
use Rattle.lagnetwork.specs.Network.{Moved_down, moved_of}

-- A port whose link was up is down to the law once its link is said to be down (6.4.12). The premise on the system is what every call leaves.
abbrev pub EachFallIsSeen : (ℕ → ℕ → ℕ → Type 0) → Type 0
EachFallIsSeen gives = (old new : SystemState) (p : ℕ) (x : Machines) → PortsAgree old → machines_of p old ≡ Some x → x.enabled ≡ true
    → CallPromise gives old (Call.Set_link p false) (reply.SetLink (Ok tt)) new → moved_of ((model_view new).port p) ≡ Moved_down
