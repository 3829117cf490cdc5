-- A reading over pieces is one over all octets, however they are cut.
use Rattle.lagtool_capture.proofs.Common.{Err, List, None, Ok, Option, Result, Some, [], ap, append-nil, append_assoc, arith, drop, inl, inr, length}
use Rattle.lagtool_capture.proofs.Common.{length-append, length-drop, min, option_map, refl, subst, suc, sym, zero, ℕ, ◌++◌, ◌+◌, ◌-◌, ◌<◌, ◌^◌, ◌∙◌}
use Rattle.lagtool_capture.proofs.Common.{◌≡◌, ◌≤◌, ◌⊎◌, drop-append-le, drop-drop, ⊤, Fault, Capture, Captured, IsSettled, at_start, behind}
use Rattle.lagtool_capture.proofs.Common.{capture_from, capture_in, ending, refused_from, ends_of, ReadFault, Settings, Feeds, IsBefore, ReadingState}
use Rattle.lagtool_capture.proofs.Common.{Takes, ended, refused_at, refused_end, refused_if_any, skipped, summary_of, sum_of, Agrees, Follows, Log}
use Rattle.lagtool_capture.proofs.Common.{findings_in, logged_all, nothing_logged, ReportState, after_all, nothing_seen, with_ends, counts_of}
use Rattle.lagtool_capture.proofs.Common.{found_in, lines, report, reported, summary, IsClear, Stands, Waits, next_octets, next_place, preceded}
use Rattle.lagtool_capture.proofs.Common.{Stops}
use Rattle.captures.specs.Steps.{end_of}
use Rattle.std.proofs.Math.Seq.{drop-append-add, drop-length}
use Rattle.captures.proofs.StepLemmas.{step_refused}
use Rattle.captures.proofs.WholeLemmas.{both_behind, ends_refused, ends_waiting}
use Rattle.lagtool_capture.proofs.PrecededLemmas.{all_preceded, ends_preceded, written_preceded}
use Rattle.lagtool_capture.proofs.TakingLemmas.{after_both, logged_both}

abbrev Goes : List ℕ → ReadingState → List (Option Captured) → ℕ → ReadingState → Type 0
Goes piece old found taken new = (at steps : ℕ) (more : List ℕ) → length (next_octets old (piece ++ more)) ≤ steps
    → (left : ℕ) × (length (next_octets new more) ≤ left)
    × (capture_from steps (next_place at old (piece ++ more)) old.reader (next_octets old (piece ++ more))
    ≡ behind found (capture_from left (next_place (at + taken) new more) new.reader (next_octets new more)))

-- a piece was read: whatever follows says the rest
record Fed (piece : List ℕ) (old new : ReadingState) : Type 0 where
  found : List (Option Captured)
  taken : ℕ
  seen : new.report ≡ after_all found old.report
  noticed : (l : Log) → Agrees l old.report.number old.noticed → Agrees (logged_all found l) new.report.number new.noticed
  at : new.at ≡ sum_of old.at taken
  clear : IsClear new
  goes : Goes piece old found taken new
  waits : Waits new new.fault

sums : (a b c : ℕ) → sum_of (sum_of a b) c ≡ sum_of a (b + c)
sums a b c = both (2 ^ 64 - 1)
  where
    both : (m : ℕ) → min (min (a + b) m + c) m ≡ min (a + (b + c)) m
    both m = omega arith

-- a piece that is taken already
past : (rest piece more : List ℕ) (skip : ℕ) → rest ≡ [] → length piece ≤ skip → drop skip (rest ++ (piece ++ more)) ≡ drop (skip - length piece) (rest ++ more)
past rest piece more skip none le = let sum : skip ≡ length piece + (skip - length piece) = omega (arith, le) in
    ap (λ r. drop skip (r ++ (piece ++ more))) none ∙ ap (λ k. drop k (piece ++ more)) sum ∙ drop-append-add piece more (skip - length piece)
    ∙ ap (λ r. drop (skip - length piece) (r ++ more)) (sym none)

past_place : (at skip n m r : ℕ) → r ≡ 0 → n ≤ skip → at + min skip (r + (n + m)) ≡ (at + n) + min (skip - n) (r + m)
past_place at skip n m r none le = omega (arith, none, le)

lengths : (a b c : List ℕ) → length (a ++ (b ++ c)) ≡ length a + (length b + length c)
lengths a b c = length-append a (b ++ c) ∙ ap (λ k. length a + k) (length-append b c)

fed_past : (piece : List ℕ) (w : ReadingState) → w.rest ≡ [] → w.fault ≡ None → length piece < w.skip → Fed piece w (skipped (length piece) w)
fed_past piece w none free lt = let n = length piece in
    record {
      found = [];
      taken = n;
      seen = refl;
      noticed = λ l h. h;
      at = refl;
      clear = inr none;
      goes = λ at steps more le.
          let same = past w.rest piece more w.skip none (omega (arith, lt)) in
          let e : next_place at w (piece ++ more) ≡ (at + n) + min (w.skip - n) (length (w.rest ++ more)) =
          ap (λ k. at + min w.skip k) (lengths w.rest piece more)
          ∙ past_place at w.skip n (length more) (length w.rest) (ap length none) (omega (arith, lt))
          ∙ ap (λ k. (at + n) + min (w.skip - n) k) (sym (length-append w.rest more)) in (
            steps,
            subst (λ k. length k ≤ steps) same le,
            ap (λ k. capture_from steps k w.reader (next_octets w (piece ++ more))) e
                ∙ ap (capture_from steps ((at + n) + min (w.skip - n) (length (w.rest ++ more))) w.reader) same,
          );
      waits = subst (Waits (skipped n w)) (sym free) (inl (let l = length-drop (w.skip - n) (w.rest ++ []) in
          let k = length-append w.rest [] in let z = ap length none in omega (arith, l, k, z)));
    }

-- octets of which some are taken already, and those behind them
joined : (rest piece more : List ℕ) (skip : ℕ) → (skip ≡ 0) ⊎ (rest ≡ []) → skip ≤ length piece
    → drop skip (rest ++ (piece ++ more)) ≡ (rest ++ drop skip piece) ++ more
joined rest piece more skip (inl none_skipped) le =
    ap (λ k. drop k (rest ++ (piece ++ more))) none_skipped ∙ sym (append_assoc rest piece more)
    ∙ ap (λ k. (rest ++ drop k piece) ++ more) (sym none_skipped)
joined rest piece more skip (inr none) le =
    ap (λ r. drop skip (r ++ (piece ++ more))) none ∙ drop-append-le skip piece more le ∙ ap (λ r. (r ++ drop skip piece) ++ more) (sym none)

-- what is left of octets, of which some are taken and some behind them are, too
left_over : (b more : List ℕ) (count skip : ℕ) → count ≤ length b → drop skip (drop count b ++ more) ≡ drop (count + skip) (b ++ more)
left_over b more count skip le = ap (drop skip) (sym (drop-append-le count b more le)) ∙ drop-drop skip count (b ++ more)

left_place : (at k count skip b m l : ℕ) → count ≤ b → l ≡ (b - count) + m → (at + k) + min (count + skip) (b + m) ≡ (at + (k + count)) + min skip l
left_place at k count skip b m l le e = omega (arith, le, e)

start_place : (at skip l : ℕ) → skip ≤ l → at + min skip l ≡ at + skip
start_place at skip l le = omega (arith, le)

module _ (piece : List ℕ) (w v : ReadingState) (clear : IsClear w) (le : w.skip ≤ length piece)
    (h : Takes (drop w.skip piece) (skipped w.skip w) v) where
  abbrev b : List ℕ
  b = w.rest ++ drop w.skip piece

  left_is : (more : List ℕ) → next_octets v more ≡ drop (h.taken.count + h.taken.skip) (b ++ more)
  left_is more = ap (λ k. drop k (v.rest ++ more)) h.skip ∙ ap (λ r. drop h.taken.skip (r ++ more)) h.rest
      ∙ left_over b more h.taken.count h.taken.skip h.steps.count

  place_is : (at : ℕ) (more : List ℕ) → (at + w.skip) + min (h.taken.count + h.taken.skip) (length (b ++ more))
      ≡ next_place (at + (w.skip + h.taken.count)) v more
  place_is at more = ap (λ k. (at + w.skip) + min (h.taken.count + h.taken.skip) k) (length-append b more)
      ∙ left_place at w.skip h.taken.count h.taken.skip (length b) (length more) (length (v.rest ++ more)) h.steps.count
      (length-append v.rest more ∙ ap (λ r. length r + length more) h.rest ∙ ap (λ k. k + length more) (length-drop h.taken.count b))
      ∙ ap (λ k. (at + (w.skip + h.taken.count)) + min k (length (v.rest ++ more))) (sym h.skip)

  goes_on : Goes piece w h.steps.found (w.skip + h.taken.count) v
  goes_on at steps more enough = let whole = joined w.rest piece more w.skip clear le in
      let fits : w.skip ≤ length (w.rest ++ (piece ++ more)) = (let l = lengths w.rest piece more in omega (arith, l, le)) in
      let (left, few, is) = h.steps.reads (at + w.skip) steps more (subst (λ k. length k ≤ steps) whole enough) in (
        left,
        subst (λ k. length k ≤ left) (sym (left_is more)) few,
        ap (λ k. capture_from steps k w.reader (next_octets w (piece ++ more))) (start_place at w.skip (length (w.rest ++ (piece ++ more))) fits)
            ∙ ap (capture_from steps (at + w.skip) w.reader) whole ∙ is
            ∙ ap (λ k. behind h.steps.found (capture_from left k v.reader (drop (h.taken.count + h.taken.skip) (b ++ more)))) (place_is at more)
            ∙ ap (λ k. behind h.steps.found (capture_from left (next_place (at + (w.skip + h.taken.count)) v more) v.reader k)) (sym (left_is more)),
      )

  clear_still : IsClear v
  clear_still = by h.steps.skip
    where
      by : (h.taken.skip ≡ 0) ⊎ ((h.taken.count ≡ length b) × (h.taken.fault ≡ None)) → IsClear v
      by (inl none_skipped) = inl (h.skip ∙ none_skipped)
      by (inr (all, free)) = inr (h.rest ∙ ap (λ k. drop k b) all ∙ drop-length b)

  waits_so : (o : Option Fault) → h.taken.fault ≡ o → Waits v (refused_if_any v.at o)
  waits_so None e =
      subst (λ k. Stops k v.reader None) (sym (left_is [] ∙ ap (drop (h.taken.count + h.taken.skip)) (append-nil b)))
      (subst (Stops (drop (h.taken.count + h.taken.skip) b) v.reader) e h.steps.stops)
  waits_so (Some f) e = by h.steps.skip
    where
      by : (h.taken.skip ≡ 0) ⊎ ((h.taken.count ≡ length b) × (h.taken.fault ≡ None)) → Waits v (Some (refused_at v.at f))
      by (inr (all, free)) = absurd (some_none f (sym e ∙ free))
        where
          some_none : (f : Fault) → Some f ≡ None → ⊥
          some_none f p = subst is_there p tt
            where
              is_there : Option Fault → Type 0
              is_there None = ⊥
              is_there (Some x) = ⊤
      by (inl none_skipped) = let sum : h.taken.count + h.taken.skip ≡ h.taken.count = omega (arith, none_skipped) in
          let same : drop (h.taken.count + h.taken.skip) b ≡ v.rest = ap (λ k. drop k b) sum ∙ sym h.rest in (
            h.skip ∙ none_skipped,
            (f, (refl, subst (λ k. Stops k v.reader (Some f)) same (subst (Stops (drop (h.taken.count + h.taken.skip) b) v.reader) e h.steps.stops))),
          )

  fed_takes : Fed piece w v
  fed_takes = record {
    found = h.steps.found;
    taken = w.skip + h.taken.count;
    seen = h.steps.seen;
    noticed = h.steps.noticed;
    at = h.at ∙ sums w.at w.skip h.taken.count;
    clear = clear_still;
    goes = goes_on;
    waits = subst (Waits v) (sym h.fault) (waits_so h.taken.fault refl);
  }

fed : (piece : List ℕ) (w v : ReadingState) → IsClear w → w.fault ≡ None → Feeds piece w v → Fed piece w v
fed piece w v clear free (inl (lt, is)) = by clear
  where
    by : IsClear w → Fed piece w v
    by (inl none_skipped) = absurd (omega (arith, lt, none_skipped))
    by (inr none) = subst (Fed piece w) (sym is) (fed_past piece w none free lt)
fed piece w v clear free (inr (le, takes)) = fed_takes piece w v clear le takes

pub stands_first : (settings : Settings) (w : ReadingState) → IsBefore settings w → Stands settings [] [] w
stands_first settings w h = record {
  found = [];
  at = 0;
  at_is = h.at;
  seen = sym h.report;
  noticed = record { number_is = ap (λ (e : ReportState). e.number) h.report; follows = h.noticed };
  clear = inl h.skip;
  goes = λ more. (
    length more,
    subst (λ k. length k ≤ length more) (sym (nothing more)) (omega arith),
    ap (λ k. capture_from (length more) k at_start more) (place more)
        ∙ ap (λ r. capture_from (length more) (next_place 0 w more) r more) (sym h.reader)
        ∙ ap (capture_from (length more) (next_place 0 w more) w.reader) (sym (nothing more)),
  );
  waits = subst (Waits w) (sym h.fault) (inl (ap length (nothing [])));
}
  where
    nothing : (more : List ℕ) → next_octets w more ≡ more
    nothing more = ap (λ k. drop k (w.rest ++ more)) h.skip ∙ ap (λ r. r ++ more) h.rest

    place : (more : List ℕ) → 0 ≡ next_place 0 w more
    place more = let z = h.skip in none w.skip (length (w.rest ++ more)) z
      where
        none : (k l : ℕ) → k ≡ 0 → 0 ≡ 0 + min k l
        none k l z = omega (arith, z)

pub stands_fed : (settings : Settings) (octets out piece : List ℕ) (w v : ReadingState) → Stands settings octets out w → w.fault ≡ None
    → Feeds piece w v → Stands settings (octets ++ piece) out v
stands_fed settings octets out piece w v s free feeds = let f = fed piece w v s.clear free feeds in
    record {
      found = s.found ++ f.found;
      at = s.at + f.taken;
      at_is = f.at ∙ ap (λ k. sum_of k f.taken) s.at_is ∙ sums 0 s.at f.taken;
      seen = after_both s.found f.found (nothing_seen settings) ∙ ap (after_all f.found) s.seen ∙ all_preceded out f.found w.report
          ∙ ap (preceded out) (sym f.seen);
      noticed = subst (λ l. Agrees l v.report.number v.noticed) (sym (logged_both s.found f.found nothing_logged))
          (f.noticed (logged_all s.found nothing_logged) s.noticed);
      clear = f.clear;
      goes = λ more.
          let (left, enough, is) = s.goes (piece ++ more) in
          let (last, few, so) = f.goes s.at left more enough in (
            last,
            few,
            ap capture_in (append_assoc octets piece more) ∙ is ∙ ap (behind s.found) so
                ∙ both_behind s.found f.found (capture_from last (next_place (s.at + f.taken) v more) v.reader (next_octets v more)),
          );
      waits = f.waits;
    }

pub stands_written : (settings : Settings) (octets out : List ℕ) (w v : ReadingState) → Stands settings octets out w
    → v ≡ record w { report = record w.report { to_write = [] } } → Stands settings octets (out ++ w.report.to_write) v
stands_written settings octets out w v s e = subst (Stands settings octets (out ++ w.report.to_write)) (sym e) (record {
  found = s.found;
  at = s.at;
  at_is = s.at_is;
  seen = s.seen ∙ written_preceded out w.report;
  noticed = s.noticed;
  clear = s.clear;
  goes = s.goes;
  waits = by w.fault s.waits;
})
  where
    by : (o : Option ReadFault) → Waits w o → Waits (record w { report = record w.report { to_write = [] } }) o
    by None h = h
    by (Some f) h = h

all_left : (w : ReadingState) → IsClear w → next_octets w [] ≡ w.rest
all_left w (inl none_skipped) = ap (λ k. drop k (w.rest ++ [])) none_skipped ∙ append-nil w.rest
all_left w (inr none) = ap (λ r. drop w.skip (r ++ [])) none ∙ empty w.skip ∙ sym none
  where
    empty : (k : ℕ) → ◌≡◌ {A = List ℕ} (drop k []) []
    empty zero = refl
    empty (suc k) = refl

no_place : (at : ℕ) (w : ReadingState) → IsClear w → next_place at w [] ≡ at
no_place at w (inl none_skipped) = by w.skip (length (w.rest ++ [])) none_skipped
  where
    by : (k l : ℕ) → k ≡ 0 → at + min k l ≡ at
    by k l z = omega (arith, z)
no_place at w (inr none) = by w.skip (length (w.rest ++ [])) (ap (λ r. length (r ++ [])) none)
  where
    by : (k l : ℕ) → l ≡ 0 → at + min k l ≡ at
    by k l z = omega (arith, z)

-- what a capture of just these octets holds
record Closes (c : Capture) (found : List (Option Captured)) (why : Option ReadFault) : Type 0 where
  numbered : c.numbered ≡ found
  fault : option_map (refused_at 0) c.fault ≡ why

placed : (at place : ℕ) (f : Fault) → at ≡ sum_of 0 place → refused_at 0 (record { at = place + f.at; cause = f.cause }) ≡ refused_at at f
placed at place f e =
    ap (λ (k : ℕ). record { at = k; cause = f.cause }) (sym (sums 0 place f.at) ∙ ap (λ k. sum_of k f.at) (sym e))

ending_is : (at place : ℕ) (r : Result (Unit {0}) Fault) → at ≡ sum_of 0 place → option_map (refused_at 0) (ending place r).fault ≡ refused_end None at r
ending_is at place (Ok x) e = refl
ending_is at place (Err f) e = ap Some (placed at place f e)

ending_none : (place : ℕ) (r : Result (Unit {0}) Fault) → (ending place r).numbered ≡ []
ending_none place (Ok x) = refl
ending_none place (Err f) = refl

-- the capture is not read on: whatever follows
refused_ends : (settings : Settings) (octets out : List ℕ) (w : ReadingState) (s : Stands settings octets out w) (f : Fault) (more : List ℕ)
    → w.skip ≡ 0 → Stops w.rest w.reader (Some f) → capture_in (octets ++ more) ≡ behind s.found (refused_from s.at f)
refused_ends settings octets out w s f more none_skipped (some, is) = let (left, enough, so) = s.goes more in
    let next : next_octets w more ≡ w.rest ++ more = ap (λ k. drop k (w.rest ++ more)) none_skipped in
    let l = length-append w.rest more in
    let place : next_place s.at w more ≡ s.at = by s.at w.skip (length (w.rest ++ more)) none_skipped in
    so ∙ ap (λ k. behind s.found (capture_from left k w.reader (next_octets w more))) place
    ∙ ap (λ k. behind s.found (capture_from left s.at w.reader k)) next
    ∙ ap (behind s.found) (ends_refused left s.at w.reader (w.rest ++ more) f (subst (λ k. length k ≤ left) next enough)
    (omega (arith, l, some)) (step_refused w.reader w.rest more f is))
  where
    by : (at k l : ℕ) → k ≡ 0 → at + min k l ≡ at
    by at k l z = omega (arith, z)

closes_by : (settings : Settings) (octets out : List ℕ) (w : ReadingState) (s : Stands settings octets out w) (o : Option ReadFault) → Waits w o
    → Closes (capture_in octets) s.found (refused_end o w.at (end_of w.reader.format (length w.rest)))
closes_by settings octets out w s None h = let (left, enough, so) = s.goes [] in
    let r = end_of w.reader.format (length w.rest) in
    let is : capture_in octets ≡ behind s.found (ending s.at r) =
    ap capture_in (sym (append-nil octets)) ∙ so
    ∙ ap (behind s.found) (ends_waiting left (next_place s.at w []) w.reader (next_octets w []) h)
    ∙ ap (λ k. behind s.found (ending k (end_of w.reader.format (length (next_octets w []))))) (no_place s.at w s.clear)
    ∙ ap (λ k. behind s.found (ending s.at (end_of w.reader.format (length k)))) (all_left w s.clear) in
    record {
      numbered = ap (λ (c : Capture). c.numbered) is ∙ ap (λ k. s.found ++ k) (ending_none s.at r) ∙ append-nil s.found;
      fault = ap (λ (c : Capture). option_map (refused_at 0) c.fault) is ∙ ending_is w.at s.at r s.at_is;
    }
closes_by settings octets out w s (Some fault) (none_skipped, (f, (e, stops))) =
    let is : capture_in octets ≡ behind s.found (refused_from s.at f) =
    ap capture_in (sym (append-nil octets)) ∙ refused_ends settings octets out w s f [] none_skipped stops in
    record {
      numbered = ap (λ (c : Capture). c.numbered) is ∙ append-nil s.found;
      fault = ap (λ (c : Capture). option_map (refused_at 0) c.fault) is ∙ ap Some (placed w.at s.at f s.at_is ∙ sym e);
    }

settled_by : (settings : Settings) (octets out : List ℕ) (w : ReadingState) (s : Stands settings octets out w) (fault : ReadFault) → Waits w (Some fault)
    → IsSettled octets
settled_by settings octets out w s fault (none_skipped, (f, (e, stops))) = λ more.
    refused_ends settings octets out w s f more none_skipped stops
    ∙ sym (ap capture_in (sym (append-nil octets)) ∙ refused_ends settings octets out w s f [] none_skipped stops)

-- whatever follows what was read of a capture that is not read on, it changes nothing
pub stands_settled : (settings : Settings) (octets out : List ℕ) (w : ReadingState) (fault : ReadFault) → Stands settings octets out w
    → w.fault ≡ Some fault → IsSettled octets
stands_settled settings octets out w fault s e = settled_by settings octets out w s fault (subst (Waits w) e s.waits)

-- octets behind a fault say nothing
pub stands_refused : (settings : Settings) (octets out piece : List ℕ) (w : ReadingState) (fault : ReadFault) → Stands settings octets out w
    → w.fault ≡ Some fault → Stands settings (octets ++ piece) out w
stands_refused settings octets out piece w fault s e = record {
  found = s.found;
  at = s.at;
  at_is = s.at_is;
  seen = s.seen;
  noticed = s.noticed;
  clear = s.clear;
  goes = λ more.
      let (left, enough, so) = s.goes more in
      let settled = stands_settled settings octets out w fault s e in (
        left,
        enough,
        ap capture_in (append_assoc octets piece more) ∙ settled (piece ++ more) ∙ sym (settled more) ∙ so,
      );
  waits = s.waits;
}

-- what is said before the end
pub stands_lines : (settings : Settings) (octets out : List ℕ) (w : ReadingState) → Stands settings octets out w
    → lines settings octets ≡ out ++ w.report.to_write
stands_lines settings octets out w s = let closes = closes_by settings octets out w s w.fault s.waits in
    ap (λ xs. (after_all xs (nothing_seen settings)).to_write) closes.numbered ∙ ap (λ (e : ReportState). e.to_write) s.seen

-- what is said at the end
reported_is : (settings : Settings) (octets out : List ℕ) (w : ReadingState) (s : Stands settings octets out w)
    → reported settings (capture_in octets) ≡ preceded out (ended (logged_all s.found nothing_logged) w).report
reported_is settings octets out w s = let closes = closes_by settings octets out w s w.fault s.waits in
    let l = logged_all s.found nothing_logged in
    ap (λ xs. with_ends (found_in (logged_all xs nothing_logged)) (after_all xs (nothing_seen settings))) closes.numbered
    ∙ ap (with_ends (found_in l)) s.seen ∙ ends_preceded out (found_in l) w.report
    ∙ ap (λ es. preceded out (with_ends (findings_in l es) w.report)) (sym s.noticed.follows.frames.ends)

pub stands_reports : (settings : Settings) (octets out : List ℕ) (w v : ReadingState) → Stands settings octets out w
    → ((l : Log) → Follows l w.noticed → v ≡ ended l w) → report settings octets ≡ out ++ v.report.to_write
stands_reports settings octets out w v s e = ap (λ (x : ReportState). x.to_write) (reported_is settings octets out w s)
    ∙ ap (λ (k : ReadingState). out ++ k.report.to_write) (sym (e (logged_all s.found nothing_logged) s.noticed.follows))

pub stands_counts : (settings : Settings) (octets out : List ℕ) (w v u : ReadingState) → Stands settings octets out w
    → ((l : Log) → Follows l w.noticed → v ≡ ended l w) → u ≡ record v { report = record v.report { to_write = [] } } → summary_of u ≡ summary settings octets
stands_counts settings octets out w v u s e cleared = let closes = closes_by settings octets out w s w.fault s.waits in
    let l = logged_all s.found nothing_logged in
    ap summary_of cleared ∙ ap summary_of (e l s.noticed.follows)
    ∙ sym (ap (λ x. counts_of x (capture_in octets)) (reported_is settings octets out w s)
    ∙ ap (λ (k : Option ReadFault). record { packets = w.report.number; slow = w.report.slow; findings = length (findings_in l (ends_of w.noticed.findings.kept.items)); fault = k })
    closes.fault)
