-- The names that proofs of this crate import, passed on from one place. Declares nothing; tools/maintain/proof-imports writes it.
pub use Rattle.std.proofs.Common.{Bool, Err, IfErr, IfOk, IfSome, List, None, Ok, OnOk, Option, Result, Some, [], ap, append-nil, append_assoc, arith}
pub use Rattle.std.proofs.Common.{cond, drop, eqb, eqb-true, false, get_or, inl, inr, leb, length, length-append, length-drop, ltb-false, min, nat_lt}
pub use Rattle.std.proofs.Common.{option_map, refl, replicate, set, slice_get, subst, suc, sym, take, true, true≢false, zero, ℕ, ◌&&◌, ◌*◌, ◌++◌, ◌+◌}
pub use Rattle.std.proofs.Common.{◌-◌, ◌/◌, ◌<◌, ◌^◌, ◌∙◌, ◌∷◌, ◌≡◌, ◌≤◌, ◌⊎◌}
pub use Rattle.std.proofs.lemmas.Bool.{and_cases, and_parts, eqb-false, le-leb, leb-false, leb-true, lt-leb}
pub use Rattle.std.proofs.lemmas.List.{drop-append-le, drop-drop, flat_map_more, length-map, take_more, take_rest}
pub use Rattle.std.specs.Fmt.{HasWritten, IsPlainFormatter}
pub use Rattle.std.specs.Io.KnownBytes.{Consumes, IsAtEnd}
pub use Rattle.std.specs.List.{cons_option}
pub use Rattle.std.specs.Prelude.{flat_map, not, unwrap_or, ⊤, ◌||◌}
pub use Rattle.slowpdu.specs.declared.pdu.Lacpdu.{Lacpdu}
pub use Rattle.captures.specs.declared.fault.Fault.{Fault}
pub use Rattle.captures.specs.declared.packet.Packet.{Packet}
pub use Rattle.captures.specs.Steps.{ReaderState, step}
pub use Rattle.captures.specs.Whole.{Capture, Captured, IsSettled, ReadsTo, at_start, behind, capture_from, capture_in, ending, numbered_in}
pub use Rattle.captures.specs.Whole.{refused_from}
pub use Rattle.findings.specs.declared.finding.Finding.{Finding}
pub use Rattle.findings.specs.declared.slow_frame.LinkEnd.{LinkEnd}
pub use Rattle.findings.specs.declared.slow_frame.SlowFrame.{SlowFrame}
pub use Rattle.findings.specs.declared.slow_frame.What.{What}
pub use Rattle.findings.specs.Ends.{end_of}
pub use Rattle.findings.specs.Knows.{ends_of}
pub use Rattle.lagtool_capture.specs.declared.fault.ReadFault.{ReadFault}
pub use Rattle.lagtool_capture.specs.declared.names.Identity.{Identity}
pub use Rattle.lagtool_capture.specs.declared.noticing.Noticed.{Noticed}
pub use Rattle.lagtool_capture.specs.declared.settings.Settings.{Settings}
pub use Rattle.lagtool_capture.specs.CaptureReadings.{Feeds, IsBefore, ReadingState, Takes, ended, is_free, is_read_on, refused_at, refused_end}
pub use Rattle.lagtool_capture.specs.CaptureReadings.{refused_if_any, skipped, summary_of}
pub use Rattle.lagtool_capture.specs.Counting.{one_more, sum_of}
pub use Rattle.lagtool_capture.specs.Ends.{Sent, end_index, end_index_from, gap_between, gaps_between, latest_time, named_by}
pub use Rattle.lagtool_capture.specs.Gaps.{IsMedianOf, count_up_to, gaps_of, median, tenths_of, tenths_up_to}
pub use Rattle.lagtool_capture.specs.Json.{ends_records, findings_records}
pub use Rattle.lagtool_capture.specs.Links.{counted_from, far_end, far_from, has_other_link, is_before, key_apart, link_counts, until_from, until_of}
pub use Rattle.lagtool_capture.specs.Names.{identity_of, names_text, number_from, number_of}
pub use Rattle.lagtool_capture.specs.Noticing.{Agrees, Follows, IsKnown, Log, finding_by, findings_by, findings_in, if_timed, logged, logged_all}
pub use Rattle.lagtool_capture.specs.Noticing.{logged_next, nothing_logged}
pub use Rattle.lagtool_capture.specs.Reporting.{ReportState, after, after_all, after_any, after_indexed, after_what, closing_records, closing_texts}
pub use Rattle.lagtool_capture.specs.Reporting.{counted, frame_line, is_new, lacpdu_line, last_shown, legend_line, name_number, named, nothing_seen}
pub use Rattle.lagtool_capture.specs.Reporting.{with_end, with_ends, with_line}
pub use Rattle.lagtool_capture.specs.Reports.{Completes, counts_of, found_in, lines, report, reported, summary}
pub use Rattle.lagtool_capture.specs.SlowFrames.{frame_in, what_of}
pub use Rattle.lagtool_capture.specs.Standing.{IsClear, Stands, Waits, next_octets, next_place, preceded}
pub use Rattle.lagtool_capture.specs.Taking.{StepsThrough, Stops, stopped_at}
