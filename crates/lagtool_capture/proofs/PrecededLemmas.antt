-- What is said does not depend on what is not written yet: a text in front of that stays in front.
use Rattle.lagtool_capture.proofs.Common.{Bool, List, None, Option, Some, [], ap, append-nil, append_assoc, cond, false, length, refl, sym, true, ℕ}
use Rattle.lagtool_capture.proofs.Common.{◌++◌, ◌+◌, ◌∙◌, ◌∷◌, ◌≡◌, not, ◌||◌, Lacpdu, Packet, Captured, Finding, SlowFrame, What, end_of, Identity}
use Rattle.lagtool_capture.proofs.Common.{one_more, end_index, identity_of, number_of, ReportState, after, after_all, after_any, after_what}
use Rattle.lagtool_capture.proofs.Common.{closing_records, closing_texts, counted, frame_line, is_new, lacpdu_line, legend_line, name_number, named}
use Rattle.lagtool_capture.proofs.Common.{with_end, with_ends, with_line, frame_in, preceded}
use Rattle.lagtool_capture.specs.Reporting.{after_frame}
use Rattle.lagtool_capture.specs.Reporting.{after_lacpdu, after_named, observed}
use Rattle.findings.specs.declared.slow_frame.What.TheVariants as held
use Rattle.lagtool_capture.specs.declared.line.WhatText.{WhatText}
use Rattle.lagtool_capture.specs.declared.line.WhatText.TheVariants as what

line_preceded : (out : List ℕ) (time : Option ℕ) (e : SlowFrame) (t : WhatText) (s : ReportState)
    → with_line time e t (preceded out s) ≡ preceded out (with_line time e t s)
line_preceded out time e t s =
    ap (λ (w : List ℕ). record s { to_write = w }) (by (frame_line s.settings.json s.first time e t) s.settings.frames)
  where
    by : (line : List ℕ) (frames : Bool) → cond frames ((out ++ s.to_write) ++ line) (out ++ s.to_write) ≡ out ++ cond frames (s.to_write ++ line) s.to_write
    by line true = append_assoc out s.to_write line
    by line false = refl

named_preceded : (out : List ℕ) (a : Identity) (s : ReportState) → named a (preceded out s) ≡ preceded out (named a s)
named_preceded out a s =
    ap (λ (w : List ℕ). record (named a s) { to_write = w }) (by (legend_line (length s.names + 1) a) (is_new (number_of s.names a) s.names) (s.settings.json || not s.settings.frames))
  where
    by : (line : List ℕ) (new unsaid : Bool) → cond new (cond unsaid (out ++ s.to_write) ((out ++ s.to_write) ++ line)) (out ++ s.to_write)
        ≡ out ++ cond new (cond unsaid s.to_write (s.to_write ++ line)) s.to_write
    by line true true = refl
    by line true false = append_assoc out s.to_write line
    by line false unsaid = refl

after_named_preceded : (out : List ℕ) (actor partner time : Option ℕ) (e : SlowFrame) (v : Lacpdu) (s : ReportState)
    → after_named actor partner time e v (preceded out s) ≡ preceded out (after_named actor partner time e v s)
unfolding after_named
after_named_preceded out actor partner time e v s = let index = end_index s.ends (end_of e) in
    ap (with_end index (end_of e) time v) (line_preceded out time e (lacpdu_line actor partner index v s) s)

lacpdu_preceded : (out : List ℕ) (time : Option ℕ) (e : SlowFrame) (v : Lacpdu) (s : ReportState)
    → after_lacpdu time e v (preceded out s) ≡ preceded out (after_lacpdu time e v s)
unfolding after_lacpdu
lacpdu_preceded out time e v s = let a = identity_of v.actor in
    let p = identity_of v.partner in
    ap (λ t. after_named (name_number a s) (name_number p t) time e v (named p t)) (named_preceded out a s)
    ∙ ap (after_named (name_number a s) (name_number p (named a s)) time e v) (named_preceded out p (named a s))
    ∙ after_named_preceded out (name_number a s) (name_number p (named a s)) time e v (named p (named a s))

what_preceded : (out : List ℕ) (time : Option ℕ) (f : SlowFrame) (h : What) (s : ReportState)
    → after_what time f h (preceded out s) ≡ preceded out (after_what time f h s)
what_preceded out time f (held.Lacpdu v) s = lacpdu_preceded out time f v s
what_preceded out time f (held.Marker m) s = line_preceded out time f (what.Marker m) s
what_preceded out time f (held.Refused e) s = line_preceded out time f (what.Refused e) s

any_preceded : (out : List ℕ) (time : Option ℕ) (o : Option SlowFrame) (s : ReportState) → after_any time o (preceded out s) ≡ preceded out (after_any time o s)
unfolding after_frame
any_preceded out time None s = refl
any_preceded out time (Some f) s = what_preceded out time f f.what (record s { slow = one_more s.slow })

observed_preceded : (out : List ℕ) (p : Packet) (b : List ℕ) (s : ReportState) → observed p b (preceded out s) ≡ preceded out (observed p b s)
unfolding observed
observed_preceded out p b s = any_preceded out p.time (frame_in (one_more s.number) p b) (counted p.time s)

after_preceded : (out : List ℕ) (x : Option Captured) (s : ReportState) → after x (preceded out s) ≡ preceded out (after x s)
after_preceded out None s = refl
after_preceded out (Some c) s = observed_preceded out c.packet c.octets s

pub all_preceded : (out : List ℕ) (xs : List (Option Captured)) (s : ReportState) → after_all xs (preceded out s) ≡ preceded out (after_all xs s)
all_preceded out [] s = refl
all_preceded out (x ∷ xs) s = ap (after_all xs) (after_preceded out x s) ∙ all_preceded out xs (after x s)

pub ends_preceded : (out : List ℕ) (fs : List Finding) (s : ReportState) → with_ends fs (preceded out s) ≡ preceded out (with_ends fs s)
ends_preceded out fs s = ap (λ (w : List ℕ). record s { findings = length fs; to_write = w })
    (append_assoc out s.to_write (cond s.settings.json (closing_records fs s) (closing_texts fs s)))

-- once that is written, it stands in front
pub written_preceded : (out : List ℕ) (s : ReportState) → preceded out s ≡ preceded (out ++ s.to_write) (record s { to_write = [] })
written_preceded out s = ap (λ (w : List ℕ). record s { to_write = w }) (sym (append-nil (out ++ s.to_write)))
