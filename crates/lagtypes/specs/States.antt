-- The state octet by the names of its bits (6.4.2.3, Actor_State).
use Rattle.std.specs.Prelude.{ℕ, ◌+◌, ◌==◌, Bool, if◌then◌else◌}
use Rattle.std.specs.Int.RustNames.{bit_and}
use Rattle.lagtypes.specs.declared.state.State.{State}
use Rattle.lagtypes.specs.declared.state.StateBits.{StateBits}

-- the bit with this value is 1 in the state
abbrev pub has_bit : State → ℕ → Bool
has_bit s bit = bit_and s.0 bit == bit

-- bits 0 to 7, the least significant first
abbrev pub bits_of : State → StateBits
bits_of s = record {
  activity = has_bit s 1;
  timeout = has_bit s 2;
  aggregation = has_bit s 4;
  synchronization = has_bit s 8;
  collecting = has_bit s 16;
  distributing = has_bit s 32;
  defaulted = has_bit s 64;
  expired = has_bit s 128;
}

-- what a bit adds to the octet: its value if it is 1, else nothing
abbrev weight : Bool → ℕ → ℕ
weight set bit = if set then bit else 0

-- the state octet with just these bits
abbrev pub state_from_bits : StateBits → State
state_from_bits b = record {
  0 = weight b.activity 1 + weight b.timeout 2 + weight b.aggregation 4 + weight b.synchronization 8
      + weight b.collecting 16 + weight b.distributing 32 + weight b.defaulted 64 + weight b.expired 128;
}

-- the same state, but Synchronization has this value
abbrev pub with_synchronization : Bool → State → State
with_synchronization on s = state_from_bits (record (bits_of s) { synchronization = on })

-- the same state, but LACP_Timeout has this value
abbrev pub with_timeout : Bool → State → State
with_timeout on s = state_from_bits (record (bits_of s) { timeout = on })
