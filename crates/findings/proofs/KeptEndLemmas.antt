-- What is kept of an end before its first frame.
use Rattle.std.proofs.Common.{◌≡◌, ◌∷◌, ◌∙◌, [], ℕ, Bool, List, Option, None, Some, refl, sym, ap, false}
use Rattle.findings.specs.declared.slow_frame.LinkEnd.{LinkEnd}
use Rattle.findings.specs.declared.slow_frame.SlowFrame.{SlowFrame}
use Rattle.findings.specs.Ends.{Relation, Unsent, answers, faces, frames_of, intrudes, is_fellow, is_named, is_sibling, lacpdus, latest, rivals, said}
use Rattle.findings.specs.Ends.{standing, end_of, same_end, others}
use Rattle.findings.specs.Markers.{first_overdue, open_marker, response_in, unless_answered, asking}
use Rattle.slowpdu.specs.declared.pdu.Marker.{Marker}
use Rattle.findings.specs.Responses.{first_response, is_overdue, is_unasked, none_wait, request, responding, waiting}
use Rattle.findings.specs.KeptEnds.{frame_rules, lacpdu_rules, recent_of, kept_end}
use Rattle.findings.specs.declared.kept_end.KeptEnd.{KeptEnd}
use Rattle.findings.specs.declared.asking.Asked.{Asked}
use Rattle.findings.specs.declared.asking.Asking.{Asking}
use Rattle.findings.specs.declared.responding.Responding.{Responding}
use Rattle.findings.specs.declared.waiting.Waiting.{Waiting}
use Rattle.findings.specs.declared.others.Others.{Others}

none_said : (e : LinkEnd) (h : List SlowFrame) → Unsent e h → said e h ≡ None
none_said e [] u = refl
none_said e (o ∷ h) u = rw (u.0, none_said e h u.1) refl

none_latest : (relation : Relation) (e : LinkEnd) (h : List SlowFrame) → Unsent e h → latest relation e h ≡ None
none_latest relation e [] u = refl
none_latest relation e (o ∷ h) u = rw (u.0, none_said e h u.1, none_latest relation e h u.1) refl

no_lacpdus : (e : LinkEnd) (h : List SlowFrame) → Unsent e h → lacpdus e h ≡ []
no_lacpdus e [] u = refl
no_lacpdus e (o ∷ h) u = rw (u.0, no_lacpdus e h u.1) refl

no_frames : (e : LinkEnd) (h : List SlowFrame) → Unsent e h → frames_of e h ≡ []
no_frames e [] u = refl
no_frames e (o ∷ h) u = rw (u.0, no_frames e h u.1) refl

none_open : (e : LinkEnd) (h : List SlowFrame) → Unsent e h → open_marker e h ≡ None
none_open e [] u = refl
none_open e (o ∷ h) u = rw (u.0, none_open e h u.1) (nothing_answered e o (response_in o.what))
  where
    nothing_answered : (e : LinkEnd) (o : SlowFrame) (r : Option Marker) → unless_answered e o r None ≡ None
    nothing_answered e o None = refl
    nothing_answered e o (Some r) = refl

none_overdue : (e : LinkEnd) (h : List SlowFrame) → Unsent e h → first_overdue e h ≡ None
none_overdue e [] u = refl
none_overdue e (o ∷ h) u = rw (none_overdue e h u.1, none_open e h u.1) refl

no_request : (e : LinkEnd) (h : List SlowFrame) → Unsent e h → request e h ≡ None
no_request e [] u = refl
no_request e (o ∷ h) u = rw (u.0, none_said e h u.1, no_request e h u.1) refl

no_waiting : (e : LinkEnd) (h : List SlowFrame) → Unsent e h → waiting e h ≡ none_wait
no_waiting e [] u = refl
no_waiting e (o ∷ h) u = rw (u.0, none_said e h u.1, no_waiting e h u.1) refl

none_standing : (relation : Relation) (e : LinkEnd) (h : List SlowFrame) → Unsent e h → standing relation e h ≡ None
none_standing relation e [] u = refl
none_standing relation e (o ∷ h) u = rw (u.0, none_said e h u.1, none_standing relation e h u.1) refl

no_response : (holds : Waiting → Option Asked → ℕ → Marker → Bool) (e : LinkEnd) (h : List SlowFrame) → Unsent e h → first_response holds e h ≡ None
no_response holds e [] u = refl
no_response holds e (o ∷ h) u = rw (u.0, none_said e h u.1, no_response holds e h u.1) refl

-- an end that has sent nothing is kept_end as before all frames
pub before_first : (e : LinkEnd) (h : List SlowFrame) → Unsent e h → kept_end e [] ≡ kept_end e h
before_first e h u = λ i. record {
  end = e;
  said = sym (none_said e h u) i;
  asking = record { waiting = sym (none_open e h u) i; overdue = sym (none_overdue e h u) i };
  responding = record {
    request = sym (no_request e h u) i;
    waiting = sym (no_waiting e h u) i;
    unasked = sym (no_response (λ w m time. is_unasked w) e h u) i;
    late = sym (no_response (λ w m time. is_overdue time m) e h u) i;
  };
  others = record {
    answer = sym (none_latest answers e h u) i;
    rival = sym (none_latest rivals e h u) i;
    sibling = sym (none_standing is_sibling e h u) i;
    facing = sym (none_latest faces e h u) i;
    third = sym (none_latest intrudes e h u) i;
    named = sym (none_latest is_named e h u) i;
    fellow = sym (none_latest is_fellow e h u) i;
  };
  recent = recent_of (sym (no_lacpdus e h u) i);
  lacpdus = lacpdu_rules (sym (no_lacpdus e h u) i);
  frames = frame_rules (sym (no_frames e h u) i);
}

same_said : (e : LinkEnd) (o : SlowFrame) (h : List SlowFrame) → same_end (end_of o) e ≡ false → said e h ≡ said e (o ∷ h)
same_said e o h other = rw other refl

same_lacpdus : (e : LinkEnd) (o : SlowFrame) (h : List SlowFrame) → same_end (end_of o) e ≡ false → lacpdus e h ≡ lacpdus e (o ∷ h)
same_lacpdus e o h other = rw other refl

same_frames : (e : LinkEnd) (o : SlowFrame) (h : List SlowFrame) → same_end (end_of o) e ≡ false → frames_of e h ≡ frames_of e (o ∷ h)
same_frames e o h other = rw other refl

-- a frame of another end changes what is kept of markers, of responses and of other ends alone
pub other_frame : (e : LinkEnd) (o : SlowFrame) (h : List SlowFrame) (w : KeptEnd) (a : Asking) (t : Others) (r : Responding) → same_end (end_of o) e ≡ false
    → w ≡ kept_end e h → a ≡ asking e (o ∷ h) → t ≡ others e (o ∷ h) → r ≡ responding e (o ∷ h)
    → record { end = w.end; said = w.said; asking = a; responding = r; others = t; recent = w.recent; lacpdus = w.lacpdus; frames = w.frames } ≡ kept_end e (o ∷ h)
other_frame e o h w a t r other is asked related responds = λ i. record {
  end = ap (λ (v : KeptEnd). v.end) is i;
  said = (ap (λ (v : KeptEnd). v.said) is ∙ same_said e o h other) i;
  asking = asked i;
  responding = responds i;
  others = related i;
  recent = (ap (λ (v : KeptEnd). v.recent) is ∙ ap recent_of (same_lacpdus e o h other)) i;
  lacpdus = (ap (λ (v : KeptEnd). v.lacpdus) is ∙ ap lacpdu_rules (same_lacpdus e o h other)) i;
  frames = (ap (λ (v : KeptEnd). v.frames) is ∙ ap frame_rules (same_frames e o h other)) i;
}
