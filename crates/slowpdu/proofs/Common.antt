-- The names that proofs of this crate import, passed on from one place. Declares nothing; tools/maintain/proof-imports writes it.
pub use Rattle.std.proofs.Common.{Bool, Err, List, None, Ok, Result, Some, [], ap, append-nil, append_assoc, arith, cond, drop, false, inl, inr}
pub use Rattle.std.proofs.Common.{length, length-append, length-drop, map, nat_le, not, refl, replicate, rules, slice_index, subst, suc, sym, take}
pub use Rattle.std.proofs.Common.{take-append-drop, take_all, true, zero, zero-add, ℕ, ◌%◌, ◌&&◌, ◌*◌, ◌++◌, ◌+◌, ◌-◌, ◌/◌, ◌<◌, ◌==◌, ◌^◌, ◌||◌, ◌↔◌}
pub use Rattle.std.proofs.Common.{◌∙◌, ◌∷◌, ◌≡◌, ◌≤◌, ◌⊎◌}
pub use Rattle.std.proofs.lemmas.Bool.{and_parts, cases_Bool, cases_lt, le-ltb, leb-true, or_cases}
pub use Rattle.std.proofs.lemmas.List.{drop-append-le, drop-drop, drop_all, drop_at, ext_get_or, get_or-drop, get_or-take, get_or_append_left}
pub use Rattle.std.proofs.lemmas.List.{get_or_past, length-take, take_at}
pub use Rattle.std.specs.List.{AllByRecursion, list_all}
pub use Rattle.byteorder.specs.Endian.{big_bytes, big_from, big_number}
pub use Rattle.lagtypes.specs.Octet.{octet}
pub use Rattle.slowpdu.specs.declared.fault.WireFault.TheVariants.{BadLength, MarkerTlv, OtherSubtype, Short}
pub use Rattle.slowpdu.specs.declared.pdu.Info.{Info}
pub use Rattle.slowpdu.specs.declared.pdu.Lacpdu.{Lacpdu}
pub use Rattle.slowpdu.specs.declared.pdu.Marker.{Marker}
pub use Rattle.slowpdu.specs.declared.pdu.MarkerKind.{MarkerKind}
pub use Rattle.slowpdu.specs.declared.pdu.Pdu.{Pdu}
pub use Rattle.slowpdu.specs.Faults.{Cause, fault_of, first_cause}
pub use Rattle.slowpdu.specs.Lacpdus.{Reads, Writes, info_fields, lacpdu_table}
pub use Rattle.slowpdu.specs.Layout.{AreOctets, Field, HoldsNumber, IsAddress, ReadsTable, WritesTable, ignored_field, is_covered, is_within}
pub use Rattle.slowpdu.specs.Layout.{payload_len, read_field, read_fields}
pub use Rattle.slowpdu.specs.Markers.{ReadsMarker, WritesMarker, marker_table, tlv_type}
pub use Rattle.slowpdu.specs.Pdus.{IsDecoded, ReadsPdu, WritesPdu}
pub use Rattle.slowpdu.specs.Writing.{InfoFits, info_octets, replaced}
