-- The steps that were taken so far, and one more.
use Rattle.lagtool_capture.proofs.Common.{Err, IfSome, List, None, Ok, Option, Some, [], ap, arith, drop, inl, inr, length, length-drop, refl, subst}
use Rattle.lagtool_capture.proofs.Common.{sym, take, ℕ, ◌++◌, ◌+◌, ◌-◌, ◌<◌, ◌∙◌, ◌∷◌, ◌≡◌, ◌≤◌, take_rest, Fault, ReaderState, step, Captured}
use Rattle.lagtool_capture.proofs.Common.{ReadsTo, numbered_in, Noticed, Agrees, Log, logged_all, ReportState, after_all, StepsThrough, Stops}
use Rattle.lagtool_capture.proofs.Common.{stopped_at}
use Rattle.captures.proofs.WholeLemmas as whole
use Rattle.captures.specs.Wanted.{IsWithin}
use Rattle.captures.specs.declared.fault.Stop.{Stop}
use Rattle.captures.specs.declared.fault.Stop.TheVariants.{Refused, Wants}
use Rattle.captures.specs.declared.reader.Step.{Step}
use Rattle.lagtool_capture.specs.declared.taking.Taken.{Taken}

-- what has a number so far, and what was seen of it
pub record Reads (b : List ℕ) (old new : ReaderState) (before after : ReportState) (earlier later : Noticed) (n : ℕ) : Type 0 where
  pub found : List (Option Captured)
  pub reads : ReadsTo b old found n new
  pub seen : after ≡ after_all found before
  pub noticed : (l : Log) → Agrees l before.number earlier → Agrees (logged_all found l) after.number later

pub reads_none : (b : List ℕ) (r : ReaderState) (e : ReportState) (m : Noticed) → Reads b r r e e m m 0
reads_none b r e m = record { found = []; reads = whole.reads_none b r; seen = refl; noticed = λ l h. h }

pub after_both : (xs ys : List (Option Captured)) (e : ReportState) → after_all (xs ++ ys) e ≡ after_all ys (after_all xs e)
after_both [] ys e = refl
after_both (None ∷ xs) ys e = after_both xs ys _
after_both (Some c ∷ xs) ys e = after_both xs ys _

pub logged_both : (xs ys : List (Option Captured)) (l : Log) → logged_all (xs ++ ys) l ≡ logged_all ys (logged_all xs l)
logged_both [] ys l = refl
logged_both (None ∷ xs) ys l = logged_both xs ys _
logged_both (Some c ∷ xs) ys l = logged_both xs ys _

-- a step more, in the octets h, which are all behind the place n
pub reads_more : (b h : List ℕ) (x : Step) (u r s : ReaderState) (e f g : ReportState) (m o p : Noticed) (n : ℕ) → h ≡ drop n b → Reads b r s e f m o n
    → n < length b → 0 < x.taken → step s h ≡ Ok (x, u) → IfSome x.packet (λ k. IsWithin h k) → g ≡ after_all (numbered_in x h) f
    → ((l : Log) → Agrees l f.number o → Agrees (logged_all (numbered_in x h) l) g.number p) → Reads b r u e g m p (n + x.taken)
reads_more b h x u r s e f g m o p n all so lt takes is within same more = record {
  found = so.found ++ numbered_in x (drop n b);
  reads = whole.reads_more b r s u so.found n x so.reads lt takes (ap (step s) (sym all) ∙ is)
      (subst (λ k. IfSome x.packet (λ y. IsWithin k y)) all within);
  seen = same ∙ ap (λ k. after_all (numbered_in x k) f) all ∙ ap (after_all (numbered_in x (drop n b))) so.seen
      ∙ sym (after_both so.found (numbered_in x (drop n b)) e);
  noticed = λ l i. subst (λ k. Agrees k g.number p) (sym (logged_both so.found (numbered_in x (drop n b)) l))
      (subst (λ k. Agrees (logged_all (numbered_in x k) (logged_all so.found l)) g.number p) all (more (logged_all so.found l) (so.noticed l i)));
}

pub rest_length : (b : List ℕ) (n : ℕ) → length (take (length b - n) (drop n b)) ≡ length b - n
rest_length b n = ap length (take_rest b n) ∙ length-drop n b

-- the last step takes more octets than there are
pub ends_behind : (b : List ℕ) (r s : ReaderState) (e f : ReportState) (m o : Noticed) (n taken : ℕ) → Reads b r s e f m o (n + taken) → n ≤ length b
    → length (take (length b - n) (drop n b)) < taken
    → StepsThrough b r s e f m o (record { count = length b; skip = taken - length (take (length b - n) (drop n b)); fault = None })
ends_behind b r s e f m o n taken h le lt = let rest = taken - length (take (length b - n) (drop n b)) in
    let sum : n + taken ≡ length b + rest = omega (arith, rest_length b n, le, lt) in
    let none : length b - (length b + rest) ≡ 0 = omega arith in
    record {
      found = h.found;
      reads = subst (λ k. ReadsTo b r h.found k s) sum h.reads;
      seen = h.seen;
      noticed = h.noticed;
      count = omega arith;
      skip = inr (refl, refl);
      stops = inl (length-drop (length b + rest) b ∙ none);
    }

-- no step begins behind the last
pub ends_there : (b : List ℕ) (r s : ReaderState) (e f : ReportState) (m o : Noticed) (n : ℕ) (fault : Option Fault) → Reads b r s e f m o n
    → n ≤ length b → Stops (drop n b) s fault → StepsThrough b r s e f m o (record { count = n; skip = 0; fault = fault })
ends_there b r s e f m o n fault h le stops = let sum : n ≡ n + 0 = omega arith in
    record {
      found = h.found;
      reads = subst (λ k. ReadsTo b r h.found k s) sum h.reads;
      seen = h.seen;
      noticed = h.noticed;
      count = le;
      skip = inl refl;
      stops = subst (λ k. Stops (drop k b) s fault) sum stops;
    }

-- octets are wanted, or the capture is not read on
pub stops_by : (b : List ℕ) (stop : Stop) (taken : Taken) (r s t : ReaderState) (e f : ReportState) (m o : Noticed) (n : ℕ) → Reads b r s e f m o n
    → n < length b → t ≡ s → step s (take (length b - n) (drop n b)) ≡ Err stop → taken ≡ stopped_at n stop → StepsThrough b r t e f m o taken
stops_by b stop taken r s t e f m o n h lt same is made =
    subst (λ k. StepsThrough b r k e f m o taken) (sym same) (subst (StepsThrough b r s e f m o) (sym made) (by stop (ap (step s) (sym (take_rest b n)) ∙ is)))
  where
    by : (stop : Stop) → step s (drop n b) ≡ Err stop → StepsThrough b r s e f m o (stopped_at n stop)
    by (Wants k) is = ends_there b r s e f m o n None h (omega (arith, lt)) (inr (k, is))
    by (Refused fault) is = ends_there b r s e f m o n (Some fault) h (omega (arith, lt)) (let l = length-drop n b in omega (arith, l, lt), is)

-- all octets are taken
pub ends_whole : (b : List ℕ) (r s : ReaderState) (e f : ReportState) (m o : Noticed) (n : ℕ) → Reads b r s e f m o n
    → n ≤ length b → length b ≤ n → StepsThrough b r s e f m o (record { count = n; skip = 0; fault = None })
ends_whole b r s e f m o n h le ge = ends_there b r s e f m o n None h le (inl (let l = length-drop n b in omega (arith, l, ge)))
