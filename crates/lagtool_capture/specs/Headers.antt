-- What stands before the payload of a captured frame: addresses and EtherType of an Ethernet frame (IEEE 802.3, 3.1.1),
-- or the header of LINKTYPE_LINUX_SLL and LINKTYPE_LINUX_SLL2 (draft-ietf-opsawg-pcaplinktype); behind them tags (IEEE
-- 802.1Q, 9.5).
use Rattle.std.specs.Prelude.{◌==◌, ◌||◌, ◌+◌, ◌-◌, ℕ, not, Bool, List, Option, Some, None, length, nat_lt, option_map, slice_range, if◌then◌else◌}
use Rattle.captures.specs.declared.link.LinkType.{LinkType}
use Rattle.captures.specs.declared.link.LinkType.TheVariants as links
use Rattle.captures.specs.declared.packet.Packet.{Packet}
use Rattle.slowpdu.specs.Readings.{number_at}
use Rattle.lagtool_capture.specs.declared.header.Header.{Header}

-- the address in the six octets from this offset on
abbrev pub mac_at : List ℕ → ℕ → List ℕ
mac_at b at = slice_range b at (at + 6)

-- destination, source, EtherType
abbrev pub of_ethernet : ℕ → List ℕ → Header
of_ethernet interface b = record {
  interface = interface;
  destination = Some (mac_at b 0);
  source = mac_at b 6;
  tags = 0;
  ether_type = number_at b 12 2;
  start = 14;
}

-- packet type, kind of device, length of the address, the address in eight octets, EtherType
abbrev pub of_cooked : ℕ → List ℕ → Header
of_cooked interface b = record {
  interface = interface;
  destination = None;
  source = mac_at b 6;
  tags = 0;
  ether_type = number_at b 14 2;
  start = 16;
}

-- EtherType, two reserved octets, index of the interface, kind of device, packet type, length of the address, the
-- address in eight octets
abbrev pub of_cooked2 : List ℕ → Header
of_cooked2 b = record {
  interface = number_at b 4 4;
  destination = None;
  source = mac_at b 12;
  tags = 0;
  ether_type = number_at b 0 2;
  start = 20;
}

-- a value, if there are so many octets
abbrev pub with_octets : ℕ → List ℕ → Header → Option Header
with_octets n b header = if nat_lt (length b) n then None else Some header

-- the header of a packet with this link type and interface, up to the first EtherType
abbrev pub outer_of_link : LinkType → ℕ → List ℕ → Option Header
outer_of_link links.Ethernet interface b = with_octets 14 b (of_ethernet interface b)
outer_of_link links.Cooked interface b = with_octets 16 b (of_cooked interface b)
outer_of_link links.Cooked2 interface b = with_octets 20 b (of_cooked2 b)

abbrev pub outer_header : Packet → List ℕ → Option Header
outer_header packet b = outer_of_link packet.link packet.interface b

-- the EtherTypes of a C-VLAN tag and of an S-VLAN tag
abbrev pub is_tag : ℕ → Bool
is_tag ether_type = (ether_type == 0x8100) || (ether_type == 0x88a8)

-- the header behind a tag that is wholly captured: two octets of the tag, and the EtherType behind it
abbrev pub behind_tag : List ℕ → Header → Header
behind_tag b e =
    if not (is_tag e.ether_type) || nat_lt (length b - e.start) 4 then e
    else record e { tags = e.tags + 1; ether_type = number_at b (e.start + 2) 2; start = e.start + 4 }

-- the header of a packet, behind at most two tags
abbrev pub header_of : Packet → List ℕ → Option Header
header_of packet b = option_map (λ e. behind_tag b (behind_tag b e)) (outer_header packet b)
