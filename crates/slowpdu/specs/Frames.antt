-- Frames of the slow protocols (6.4.2.2, 6.5.3.2; profile: what a received frame is).
use Rattle.std.specs.Prelude.{◌≡◌, ◌≤◌, ◌<◌, ◌++◌, ℕ, List, [], ◌∷◌, length, drop, slice_index}
use Rattle.slowpdu.specs.declared.frames.Kind.{Kind}
use Rattle.slowpdu.specs.declared.frames.Kind.TheVariants.{Control, Data, TooShort}

-- the Slow_Protocols_Multicast address
abbrev pub slow_group : List ℕ
slow_group = 0x01 ∷ 0x80 ∷ 0xc2 ∷ 0x00 ∷ 0x00 ∷ 0x02 ∷ []

-- the EtherType of the slow protocols
abbrev pub slow_type : List ℕ
slow_type = 0x88 ∷ 0x09 ∷ []

-- a control frame: destination, source, EtherType and payload
abbrev pub frame_octets : List ℕ → List ℕ → List ℕ
frame_octets source payload = slow_group ++ (source ++ (slow_type ++ payload))

-- the EtherType is that of the slow protocols
abbrev pub IsSlowProtocolsFrame : List ℕ → Type 0
IsSlowProtocolsFrame octets = (slice_index octets 12 ≡ 0x88) × (slice_index octets 13 ≡ 0x09)

-- a control frame with this payload
abbrev pub IsControl : List ℕ → Kind → Type 0
IsControl payload (Control rest) = rest.now ≡ payload
IsControl payload Data = ⊥
IsControl payload TooShort = ⊥

-- the octets are a frame of this kind
abbrev pub IsFrameOfKind : List ℕ → Kind → Type 0
IsFrameOfKind octets (Control rest) = (14 ≤ length octets) × IsSlowProtocolsFrame octets × (rest.now ≡ drop 14 octets)
IsFrameOfKind octets Data = (14 ≤ length octets) × (IsSlowProtocolsFrame octets → ⊥)
IsFrameOfKind octets TooShort = length octets < 14
