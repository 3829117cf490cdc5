-- `is_due` and `transmit` agree.
use Rattle.std.specs.Prelude.{◌≡◌, ℕ, List, Option, Some, is_some}
use Rattle.lagsystem.specs.Hosts.{would_transmit_at}
use Rattle.lagsystem.specs.Sending.{TransmitsAt}
use Rattle.lagsystem.specs.State.{SystemState, port_index}

-- transmit returns a frame on a port exactly if one is due there
abbrev pub TransmitsWhatIsDue : Type 0
TransmitsWhatIsDue = (n : ℕ) (old new : SystemState) (answer : Option (List ℕ)) → TransmitsAt (port_index n old.system_ports) old answer new
    → would_transmit_at n old ≡ Some (is_some answer)
