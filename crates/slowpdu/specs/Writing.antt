-- Octets written into a payload (6.4.2.3).
use Rattle.std.specs.Prelude.{ℕ, ◌+◌, ◌^◌, ◌<◌, List, [], ◌∷◌, ◌++◌, length, take, drop}
use Rattle.byteorder.specs.Endian.{big_bytes}
use Rattle.lagtypes.specs.Octet.{octet}
use Rattle.slowpdu.specs.declared.pdu.Info.{Info}
use Rattle.slowpdu.specs.Layout.{IsAddress}

-- b, but with xs instead of its octets from this offset on
abbrev pub replaced : List ℕ → ℕ → List ℕ → List ℕ
replaced b offset xs = take offset b ++ (xs ++ drop (offset + length xs) b)

-- the octets that are sent for one end
abbrev pub info_octets : Info → List ℕ
info_octets info = big_bytes 2 info.system.priority ++ (info.system.mac ++ (big_bytes 2 info.key.0 ++ (big_bytes 2 info.port.priority
    ++ (big_bytes 2 info.port.number ++ octet info.state ∷ []))))

-- each number of one end fits into its field
pub record InfoFits (info : Info) : Type 0 where
  pub address : IsAddress info.system.mac
  pub system_priority : info.system.priority < 2 ^ 16
  pub key : info.key.0 < 2 ^ 16
  pub port_priority : info.port.priority < 2 ^ 16
  pub port : info.port.number < 2 ^ 16
