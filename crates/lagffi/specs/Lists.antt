-- Lists in a buffer (profile).
use Rattle.std.specs.Prelude.{ℕ, List, ◌++◌, drop, length}

-- the places of a buffer for what is told of each port
abbrev pub port_list_length : ℕ
port_list_length = 64

-- the buffer after these were put at its front
abbrev pub put_first : {A : Type 0} → List A → List A → List A
put_first items old = items ++ drop (length items) old
