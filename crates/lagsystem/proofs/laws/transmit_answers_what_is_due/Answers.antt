use Rattle.lagsystem.proofs.Common.{Bool, List, Option, Some, arith, is_some, option_map, ℕ, ◌&&◌, ◌||◌, ◌≡◌, nat_tests, marker_due, SystemPort}
use Rattle.lagsystem.proofs.Common.{would_transmit, TransmitsAt, TransmitsIf, SystemState, system_port_at}
use Rattle.lagsystem.proofs.laws.transmit_answers_what_is_due.Goals as goal

frame_sent : (up due : Bool) (i : ℕ) (system_port : SystemPort) (old new : SystemState) (answer : Option (List ℕ))
    → TransmitsIf up due i system_port old answer new → (up && (due || is_some (marker_due old.table system_port.number))) ≡ is_some answer
frame_sent up due i system_port old new answer h = grind (arith, nat_tests)

at_place : (o : Option ℕ) (old new : SystemState) (answer : Option (List ℕ)) → TransmitsAt o old answer new
    → option_map (would_transmit old) (system_port_at o old.system_ports) ≡ Some (is_some answer)
at_place o old new answer h = grind (arith, nat_tests)

pub returns : goal.returns
returns c = λ n old new answer h. at_place _ old new answer h
