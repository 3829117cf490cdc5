-- The transmit limit over all calls of one port (6.4.16): at most three LACPDUs in eleven ticks.
use Rattle.std.specs.Prelude.{◌≡◌, ℕ, ◌+◌, ◌-◌, ◌≤◌, Bool, false, ◌&&◌, List, [], ◌∷◌, ◌++◌, length, map, nat_le, nat_lt, if◌then◌else◌}
use Rattle.std.specs.List.{AllByRecursion}
use Rattle.portmachines.specs.Machines.{Machines}
use Rattle.portmachines.specs.Transmit.{is_due}
use Rattle.portmachines.specs.Calls.{PortCall, Tick, Transmit, Set_link, Take, Mux, Periodic, Select, Reinit, Set_mode, CallEffect}

-- whether the call returns an LACPDU
abbrev pub returns_lacpdu : PortCall → Machines → Bool
returns_lacpdu Tick p = false
returns_lacpdu (Transmit max_delay) p = is_due p
returns_lacpdu (Set_link enabled) p = false
returns_lacpdu (Take pdu) p = false
returns_lacpdu (Mux ready) p = false
returns_lacpdu Periodic p = false
returns_lacpdu (Select choice) p = false
returns_lacpdu (Reinit party) p = false
returns_lacpdu (Set_mode active short) p = false

-- the number of the current tick after the call, if it is this one before
abbrev pub tick_after_port_call : PortCall → ℕ → ℕ
tick_after_port_call Tick now = now + 1
tick_after_port_call (Transmit max_delay) now = now
tick_after_port_call (Set_link enabled) now = now
tick_after_port_call (Take pdu) now = now
tick_after_port_call (Mux ready) now = now
tick_after_port_call Periodic now = now
tick_after_port_call (Select choice) now = now
tick_after_port_call (Reinit party) now = now
tick_after_port_call (Set_mode active short) now = now

-- the calls begin at this tick, and the port sends LACPDUs at the ticks in the last list
abbrev pub SendsAtTicks : ℕ → List PortCall → Machines → List ℕ → Type 0
SendsAtTicks now [] old ticks = ticks ≡ []
SendsAtTicks now (call ∷ calls) old ticks =
    (mid : Machines) × (rest : List ℕ) × CallEffect call old mid × SendsAtTicks (tick_after_port_call call now) calls mid rest
    × (ticks ≡ (if returns_lacpdu call old then now ∷ rest else rest))

-- the ticks at which LACPDUs of these ages were sent, if this is the current tick
abbrev pub sent_before : ℕ → List ℕ → List ℕ
sent_before now ages = map (λ a. now - a) ages

-- how many elements of the list pass the test
abbrev pub count_passing : (ℕ → Bool) → List ℕ → ℕ
count_passing test [] = 0
count_passing test (x ∷ xs) = (if test x then 1 else 0) + count_passing test xs

-- how many ticks of the list are among the eleven that begin with this one
abbrev pub within_eleven : ℕ → List ℕ → ℕ
within_eleven first ticks = count_passing (λ s. nat_le first s && nat_lt s (first + 11)) ticks

-- any eleven consecutive ticks hold at most three of these
abbrev pub KeepsWindow : List ℕ → Type 0
KeepsWindow ticks = (first : ℕ) → within_eleven first ticks ≤ 3

-- Over every list of calls, the LACPDUs that the port sends, and those of its ages before the calls, keep the limit: at
-- most three in any eleven consecutive ticks.
abbrev pub WindowLaw : Type 0
WindowLaw =
    (now : ℕ) (calls : List PortCall) (old : Machines) (ticks : List ℕ)
    → AllByRecursion (λ a. a ≤ now) old.ages → length old.ages ≤ 3
    → SendsAtTicks now calls old ticks → KeepsWindow (sent_before now old.ages ++ ticks)
