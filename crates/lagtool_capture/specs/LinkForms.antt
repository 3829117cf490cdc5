-- The links of a capture, each as a line or as a record.
use Rattle.std.specs.Prelude.{ℕ, List, [], Option, Some, None, flat_map}
use Rattle.lagtool_capture.specs.declared.ends.LacpduSender.{LacpduSender}
use Rattle.lagtool_capture.specs.declared.link_forms.LinkForm.{LinkForm}
use Rattle.lagtool_capture.specs.declared.link_forms.LinkForm.TheVariants as as_a
use Rattle.lagtool_capture.specs.declared.links.Link.{Link}
use Rattle.lagtool_capture.specs.Json.{link_record}
use Rattle.lagtool_capture.specs.Links.{link_of}
use Rattle.lagtool_capture.specs.LinkTexts.{link_line}

abbrev pub link_text : LinkForm → Option ℕ → Link → List ℕ
link_text as_a.Line first l = link_line first l
link_text as_a.Record first l = link_record first l

abbrev pub link_part : LinkForm → Option ℕ → Option Link → List ℕ
link_part form first None = []
link_part form first (Some l) = link_text form first l

-- the link of an end among all ends, unless it is told at an end before it
unfoldable pub part_of_end : LinkForm → Option ℕ → List LacpduSender → Option ℕ → LacpduSender → List ℕ
part_of_end form first all until e = link_part form first (link_of all until e)

-- the links of these ends among all ends
abbrev pub links_text : LinkForm → Option ℕ → List LacpduSender → Option ℕ → List LacpduSender → List ℕ
links_text form first all until es = flat_map (part_of_end form first all until) es

abbrev pub links_lines : Option ℕ → List LacpduSender → Option ℕ → List LacpduSender → List ℕ
links_lines = links_text as_a.Line

abbrev pub links_records : Option ℕ → List LacpduSender → Option ℕ → List LacpduSender → List ℕ
links_records = links_text as_a.Record
