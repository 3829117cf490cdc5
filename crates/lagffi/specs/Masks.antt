-- Masks of ports. Their lowest bit tells of the first port, in the order of the port numbers (profile).
use Rattle.std.specs.Prelude.{ℕ, ◌+◌, ◌*◌, Bool, false, cond, List, [], ◌∷◌, map, Option, None, Some}
use Rattle.lagsystem.specs.Hosts.{would_transmit_at}
use Rattle.lagsystem.specs.State.{SystemState}

-- the number whose bit of value 2 ^ k is 1 exactly if the list has true at place k, from 0
abbrev pub mask : List Bool → ℕ
mask [] = 0
mask (bit ∷ bits) = cond bit 1 0 + 2 * mask bits

-- it is told, and so
abbrev pub is_so : Option Bool → Bool
is_so None = false
is_so (Some is) = is

-- whether a frame is due on each of the ports with these numbers
abbrev pub due_on : SystemState → List ℕ → List Bool
due_on s numbers = map (λ n. is_so (would_transmit_at n s)) numbers
