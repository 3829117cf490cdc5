-- What a packet more adds, by the frame of the slow protocols in it.
use Rattle.lagtool_capture.proofs.Common.{List, None, OnOk, Option, Result, Some, ap, refl, subst, sym, ℕ, ◌∙◌, ◌≡◌, cons_option, unwrap_or, Packet}
use Rattle.lagtool_capture.proofs.Common.{SlowFrame, What, Noticed, one_more, Agrees, IsKnown, Log, if_timed, logged, logged_next, ReportState}
use Rattle.lagtool_capture.proofs.Common.{after_any, after_what, counted, frame_in}
use Rattle.lagtool_capture.specs.Reporting.{after_frame, after_lacpdu, after_named, observed}
use Rattle.findings.specs.declared.slow_frame.What.TheVariants.{Lacpdu, Marker, Refused}
use Rattle.lagtool_capture.proofs.ReportingLemmas.{on_ok-map}

-- there is a frame in it, which is explained
pub observed_some : {T E : Type 0} (r : Result T E) (p : Packet) (b : List ℕ) (n : ℕ) (o : Option SlowFrame) (f : SlowFrame) (s t w : ReportState)
    → n ≡ one_more s.number → t ≡ counted p.time s → o ≡ frame_in n p b → o ≡ Some f → OnOk r (w ≡ after_frame p.time f t) → OnOk r (w ≡ observed p b s)
unfolding observed
observed_some r p b n o f s t w number count is some h = on_ok-map r (λ i. i ∙ ap (after_frame p.time f) count
    ∙ ap (λ k. after_any p.time k (counted p.time s)) (sym some ∙ is ∙ ap (λ k. frame_in k p b) number)) h

-- there is none
pub observed_none : (p : Packet) (b : List ℕ) (n : ℕ) (o : Option SlowFrame) (s t : ReportState)
    → n ≡ one_more s.number → t ≡ counted p.time s → o ≡ frame_in n p b → o ≡ None → t ≡ observed p b s
unfolding observed
observed_none p b n o s t number count is none =
    count ∙ ap (λ k. after_any p.time k (counted p.time s)) (sym none ∙ is ∙ ap (λ k. frame_in k p b) number)

same_number : (time : Option ℕ) (f : SlowFrame) (h : What) (s : ReportState) → (after_what time f h s).number ≡ s.number
unfolding after_lacpdu after_named
same_number time f (Lacpdu v) s = refl
same_number time f (Marker m) s = refl
same_number time f (Refused e) s = refl

any_number : (time : Option ℕ) (o : Option SlowFrame) (s : ReportState) → (after_any time o s).number ≡ s.number
unfolding after_frame
any_number time None s = refl
any_number time (Some f) s = same_number time f f.what (record s { slow = one_more s.slow })

-- a packet is counted once
observed_number : (p : Packet) (b : List ℕ) (s : ReportState) → (observed p b s).number ≡ one_more s.number
unfolding observed
observed_number p b s = any_number p.time (frame_in (one_more s.number) p b) (counted p.time s)

module _ (p : Packet) (b : List ℕ) (l : Log) (n : ℕ) (o : Option SlowFrame) (s w : ReportState) (x y : Noticed) (i : Agrees l s.number x)
    (number : n ≡ one_more s.number) (is : o ≡ frame_in n p b) (noted : y ≡ record x { until = unwrap_or p.time x.until })
    (seen : w ≡ observed p b s) where
  known : IsKnown l.frames y.findings
  known = subst (λ (z : Noticed). IsKnown l.frames z.findings) (sym noted) i.follows.frames

  until_is : y.until ≡ unwrap_or p.time l.until
  until_is = ap (λ (z : Noticed). z.until) noted ∙ ap (unwrap_or p.time) i.follows.until

  frame_is : o ≡ frame_in (one_more l.number) p b
  frame_is = is ∙ ap (λ k. frame_in k p b) (number ∙ ap one_more i.number_is)

  number_now : w.number ≡ one_more l.number
  number_now = ap (λ (e : ReportState). e.number) seen ∙ observed_number p b s ∙ ap one_more i.number_is

  -- there is a frame in it, which is noticed
  pub follows_some : (f : SlowFrame) (z : Noticed) → o ≡ Some f → z.until ≡ y.until
      → ((h : List SlowFrame) → IsKnown h y.findings → IsKnown (cons_option (if_timed (Some f) p.time) h) z.findings) → Agrees (logged p b l) w.number z
  follows_some f z some until more = record {
    number_is = number_now;
    follows = record {
      until = until ∙ until_is;
      frames = subst (λ k. IsKnown (cons_option (if_timed k p.time) l.frames) z.findings) (sym some ∙ frame_is) (more l.frames known);
    };
  }

  -- there is none
  pub follows_none : o ≡ None → Agrees (logged p b l) w.number y
  follows_none none = record {
    number_is = number_now;
    follows = record {
      until = until_is;
      frames = subst (λ k. IsKnown (cons_option (if_timed k p.time) l.frames) y.findings) (sym none ∙ frame_is) known;
    };
  }

-- a record without a packet is counted
pub follows_record : (l : Log) (s w : ReportState) (x : Noticed) → Agrees l s.number x → w ≡ counted None s → Agrees (logged_next None l) w.number x
follows_record l s w x i count = record {
  number_is = ap (λ (e : ReportState). e.number) count ∙ ap one_more i.number_is;
  follows = record { until = i.follows.until; frames = i.follows.frames };
}
