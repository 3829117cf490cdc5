-- What a run of moves comes to (profile).
use Rattle.std.specs.Prelude.{◌≡◌, ◌≢◌, ℕ, ◌*◌, List, [], ◌∷◌, slice_set, sum_by}
use Rattle.dataplane.specs.declared.balance.moves.Carried.{Carried}
use Rattle.dataplane.specs.declared.balance.moves.Move.{Move}
use Rattle.dataplane.specs.Moves.{load_on, conversation_at, IsMove}

-- a port is none of these
abbrev pub IsNew : ℕ → List ℕ → Type 0
IsNew port [] = Unit {0}
IsNew port (other ∷ ports) = (port ≢ other) × IsNew port ports

-- no port stands twice
abbrev pub AllDiffer : List ℕ → Type 0
AllDiffer [] = Unit {0}
AllDiffer (port ∷ ports) = IsNew port ports × AllDiffer ports

-- each conversation counts one
abbrev pub CountsOne : List Carried → Type 0
CountsOne [] = Unit {0}
CountsOne (one ∷ carried) = (one.load ≡ 1) × CountsOne carried

-- the conversations once a move is completed
abbrev pub moved : List Carried → Move → List Carried
moved carried m =
    slice_set carried m.conversation (record { port = m.port; load = (conversation_at carried m.conversation).load })

-- each is a move, once those before it are completed
abbrev pub IsRunOfMoves : List ℕ → List Carried → List Move → Type 0
IsRunOfMoves ports carried [] = Unit {0}
IsRunOfMoves ports carried (m ∷ ms) = IsMove ports carried m × IsRunOfMoves ports (moved carried m) ms

-- the sum of the squares of the loads of these ports
abbrev pub squares : List ℕ → List Carried → ℕ
squares ports carried = sum_by (λ p. load_on p carried * load_on p carried) ports
