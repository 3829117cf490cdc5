-- How what is known follows one more frame.
use Rattle.std.proofs.Common.{take, drop, ◌≡◌, ◌<◌, ◌≤◌, ◌+◌, ◌-◌, ◌^◌, ◌||◌, ◌∷◌, ◌++◌, ◌∙◌, ℕ, suc, Bool, true, false, List, [], length, refl, ap}
use Rattle.std.proofs.Common.{sym, subst, arith, length-append, take-append-drop, take_all, min}
use Rattle.std.proofs.Math.Bool.{or-true}
use Rattle.std.proofs.Math.Seq.{take-append_seam}
use Rattle.std.proofs.lemmas.List.{length-map, length-take, take-append-le}
use Rattle.std.proofs.lemmas.List.Folds.{list_any-append}
use Rattle.std.specs.List.{AllByRecursion, AllZip, refill}
use Rattle.findings.specs.declared.slow_frame.LinkEnd.{LinkEnd}
use Rattle.findings.specs.declared.slow_frame.SlowFrame.{SlowFrame}
use Rattle.findings.specs.declared.kept_end.KeptEnd.{KeptEnd}
use Rattle.findings.specs.declared.order.Order.{Order}
use Rattle.findings.specs.Counts.{counted}
use Rattle.findings.specs.Ends.{Unsent, end_of, same_end}
use Rattle.findings.specs.KeptEnds.{kept_end}
use Rattle.findings.specs.Orders.{order_of}
use Rattle.findings.specs.Knows.{IsExact, Knows, Takes, ends_of, first_ends, firsts, frames_beyond, has_end, is_among, with_end}
use Rattle.findings.proofs.EndLemmas.{exact_end, itself}
use Rattle.findings.proofs.KeptEndLemmas.{before_first}

pub still_exact : (now : SlowFrame) (h : List SlowFrame) (olds news : List KeptEnd) → AllZip (Takes now) olds news → AllByRecursion (IsExact h) olds
    → AllByRecursion (IsExact (now ∷ h)) news
still_exact now h [] [] t e = tt
still_exact now h [] (n ∷ ns) t e = absurd t
still_exact now h (o ∷ os) [] t e = absurd t
still_exact now h (o ∷ os) (n ∷ ns) t e = (t.0.exact h e.0, still_exact now h os ns t.1 e.1)

pub same_ends : (now : SlowFrame) (olds news : List KeptEnd) → AllZip (Takes now) olds news → ends_of news ≡ ends_of olds
same_ends now [] [] t = refl
same_ends now [] (n ∷ ns) t = absurd t
same_ends now (o ∷ os) [] t = absurd t
same_ends now (o ∷ os) (n ∷ ns) t = λ i. t.0.end i ∷ same_ends now os ns t.1 i

pub same_length : (now : SlowFrame) (olds news : List KeptEnd) → AllZip (Takes now) olds news → length news ≡ length olds
same_length now [] [] t = refl
same_length now [] (n ∷ ns) t = absurd t
same_length now (o ∷ os) [] t = absurd t
same_length now (o ∷ os) (n ∷ ns) t = ap suc (same_length now os ns t.1)

decided : (b : Bool) → (b ≡ true → b ≡ false) → b ≡ false
decided true h = h refl
decided false h = refl

-- each frame is of one of these ends
Covered : List LinkEnd → List SlowFrame → Type 0
Covered es = AllByRecursion (λ o. is_among (end_of o) es ≡ true)

among_ends : (e : LinkEnd) (ws : List KeptEnd) → has_end e ws ≡ is_among e (ends_of ws)
among_ends e [] = refl
among_ends e (w ∷ ws) = ap (λ b. same_end w.end e || b) (among_ends e ws)

among_more : (e : LinkEnd) (es fs : List LinkEnd) → is_among e es ≡ true → is_among e (es ++ fs) ≡ true
among_more e es fs h = list_any-append (λ f. same_end f e) es fs ∙ ap (λ b. b || is_among e fs) h

among_last : (e : LinkEnd) (es : List LinkEnd) → is_among e (es ++ e ∷ []) ≡ true
among_last e [] = ap (λ b. b || false) (itself e)
among_last e (f ∷ fs) = ap (λ b. same_end f e || b) (among_last e fs) ∙ or-true (same_end f e)

with_known : (e : LinkEnd) (es : List LinkEnd) → is_among e es ≡ true → with_end e es ≡ es
with_known e es h = rw h refl

with_new : (e : LinkEnd) (es : List LinkEnd) → is_among e es ≡ false → with_end e es ≡ es ++ e ∷ []
with_new e es h = rw h refl

still_covered : (es fs : List LinkEnd) (h : List SlowFrame) → Covered es h → Covered (es ++ fs) h
unfolding Covered
still_covered es fs [] c = tt
still_covered es fs (o ∷ h) c = (among_more (end_of o) es fs c.0, still_covered es fs h c.1)

covered_one : (o : SlowFrame) (h : List SlowFrame) (es : List LinkEnd) → Covered es h → (b : Bool) → is_among (end_of o) es ≡ b
    → Covered (with_end (end_of o) es) (o ∷ h)
unfolding Covered
covered_one o h es c true known = subst (λ fs. Covered fs (o ∷ h)) (sym (with_known (end_of o) es known)) (known, c)
covered_one o h es c false new =
    subst (λ fs. Covered fs (o ∷ h)) (sym (with_new (end_of o) es new)) (among_last (end_of o) es, still_covered es (end_of o ∷ []) h c)

covered : (h : List SlowFrame) → Covered (firsts h) h
unfolding Covered
covered [] = tt
covered (o ∷ h) = covered_one o h (firsts h) (covered h) (is_among (end_of o) (firsts h)) refl

-- an end that is not among those of the frames has sent none
unsent : (e : LinkEnd) (es : List LinkEnd) (h : List SlowFrame) → Covered es h → is_among e es ≡ false → Unsent e h
unfolding Covered
unsent e es [] c new = tt
unsent e es (o ∷ h) c new = (
  decided (same_end (end_of o) e) (λ same. let at : is_among (end_of o) es ≡ is_among e es = ap (λ g. is_among g es) (exact_end (end_of o) e same) in
      let one : is_among (end_of o) es ≡ true = c.0 in cc),
  unsent e es h c.1 new,
)

none_beyond : (es : List LinkEnd) (h : List SlowFrame) → Covered es h → frames_beyond es h ≡ []
unfolding Covered
none_beyond es [] c = refl
none_beyond es (o ∷ h) c = rw (c.0, none_beyond es h c.1) refl

-- fewer than 64 are all
few : (es : List LinkEnd) → length (take 64 es) < 64 → length es < 64
few es room = omega (arith, length-take 64 es)

many : (es : List LinkEnd) → length (take 64 es) ≡ 64 → 64 ≤ length es
many es full = omega (arith, length-take 64 es)

kept_known : (e : LinkEnd) (es : List LinkEnd) → is_among e (take 64 es) ≡ true → take 64 (with_end e es) ≡ take 64 es
kept_known e es known = ap (λ fs. take 64 fs)
    (with_known e es (subst (λ fs. is_among e fs ≡ true) (take-append-drop 64 es) (among_more e (take 64 es) (drop 64 es) known)))

kept_full : (e : LinkEnd) (es : List LinkEnd) → length (take 64 es) ≡ 64 → (b : Bool) → is_among e es ≡ b → take 64 (with_end e es) ≡ take 64 es
kept_full e es full true known = ap (λ fs. take 64 fs) (with_known e es known)
kept_full e es full false new = ap (λ fs. take 64 fs) (with_new e es new) ∙ take-append-le 64 es (e ∷ []) (many es full)

kept_new : (e : LinkEnd) (es : List LinkEnd) → length (take 64 es) < 64 → is_among e es ≡ false → take 64 (with_end e es) ≡ es ++ e ∷ []
kept_new e es room new =
    ap (λ fs. take 64 fs) (with_new e es new) ∙ take_all 64 (es ++ e ∷ []) (omega (arith, few es room, length-append es (e ∷ [])))

beyond_known : (es : List LinkEnd) (o : SlowFrame) (h : List SlowFrame) → is_among (end_of o) es ≡ true → frames_beyond es (o ∷ h) ≡ frames_beyond es h
beyond_known es o h known = rw known refl

beyond_new : (es : List LinkEnd) (o : SlowFrame) (h : List SlowFrame) → is_among (end_of o) es ≡ false → frames_beyond es (o ∷ h) ≡ o ∷ frames_beyond es h
beyond_new es o h new = rw new refl

counted_one : (left n more : ℕ) → left ≡ counted n → more ≡ min (left + 1) (2 ^ 64 - 1) → more ≡ counted (suc n)
unfolding counted
counted_one left n more before after = one_of left n more (2 ^ 64 - 1) before after
  where
    one_of : (left n more most : ℕ) → left ≡ min n most → more ≡ min (left + 1) most → more ≡ min (suc n) most
    one_of left n more most before after = omega arith

among_first : (now : SlowFrame) (h : List SlowFrame) (olds news : List KeptEnd) (was : Order) (left : ℕ) (b : Bool) → AllZip (Takes now) olds news
    → has_end (end_of now) news ≡ b → Knows h olds was left → is_among (end_of now) (first_ends h) ≡ b
among_first now h olds news was left b t known k =
    ap (λ es. is_among (end_of now) es) (sym (same_ends now olds news t ∙ k.ends)) ∙ (sym (among_ends (end_of now) news) ∙ known)

-- the frame is one of an end that is kept
pub known_end : (now : SlowFrame) (h : List SlowFrame) (olds news : List KeptEnd) (was is : Order) (left : ℕ) → AllZip (Takes now) olds news
    → has_end (end_of now) news ≡ true → ((g : List SlowFrame) → was ≡ order_of g → is ≡ order_of (now ∷ g))
    → Knows h olds was left → Knows (now ∷ h) news is left
known_end now h olds news was is left t known o k = let among = among_first now h olds news was left true t known k in
    let same : first_ends (now ∷ h) ≡ first_ends h = kept_known (end_of now) (firsts h) among in
    record {
      sequence = o h k.sequence;
      exact = still_exact now h olds news t k.exact;
      ends = same_ends now olds news t ∙ (k.ends ∙ sym same);
      counts = k.counts
          ∙ ap (λ fs. counted (length fs)) (sym (ap (λ es. frames_beyond es (now ∷ h)) same ∙ beyond_known (first_ends h) now h among));
    }

-- the frame is left out, since as many ends are kept as may be
pub left_out : (now : SlowFrame) (h : List SlowFrame) (olds news : List KeptEnd) (was is : Order) (left more : ℕ) → AllZip (Takes now) olds news
    → has_end (end_of now) news ≡ false → length news ≡ 64 → more ≡ min (left + 1) (2 ^ 64 - 1) → ((g : List SlowFrame) → was ≡ order_of g → is ≡ order_of (now ∷ g))
    → Knows h olds was left → Knows (now ∷ h) news is more
left_out now h olds news was is left more t unknown full one o k =
    let among = among_first now h olds news was left false t unknown k in
    let many : length (first_ends h) ≡ 64
    = ap length (sym (same_ends now olds news t ∙ k.ends)) ∙ (length-map news (λ (w : KeptEnd). w.end) ∙ full) in
    let same : first_ends (now ∷ h) ≡ first_ends h = kept_full (end_of now) (firsts h) many (is_among (end_of now) (firsts h)) refl in
    record {
      sequence = o h k.sequence;
      exact = still_exact now h olds news t k.exact;
      ends = same_ends now olds news t ∙ (k.ends ∙ sym same);
      counts = counted_one left (length (frames_beyond (first_ends h) h)) more k.counts one
          ∙ ap (λ fs. counted (length fs)) (sym (ap (λ es. frames_beyond es (now ∷ h)) same ∙ beyond_new (first_ends h) now h among));
    }

pub push_all : {A : Type 0} (P : A → Type 0) (xs : List A) (x : A) → AllByRecursion P xs → P x → AllByRecursion P (xs ++ x ∷ [])
push_all P [] x all one = (one, tt)
push_all P (y ∷ ys) x all one = (all.0, push_all P ys x all.1 one)

pushed_ends : (ws : List KeptEnd) (w : KeptEnd) → ends_of (ws ++ w ∷ []) ≡ ends_of ws ++ w.end ∷ []
pushed_ends [] w = refl
pushed_ends (v ∷ ws) w = ap (λ es. v.end ∷ es) (pushed_ends ws w)

-- the frame is the first of its end
pub new_end : (now : SlowFrame) (h : List SlowFrame) (olds news : List KeptEnd) (was is : Order) (w : KeptEnd) (left : ℕ) → AllZip (Takes now) olds news
    → has_end (end_of now) news ≡ false → length news < 64 → Takes now (kept_end (end_of now) []) w → ((g : List SlowFrame) → was ≡ order_of g → is ≡ order_of (now ∷ g))
    → Knows h olds was left → Knows (now ∷ h) (news ++ w ∷ []) is left
new_end now h olds news was is w left t unknown room first o k =
    let kept : ends_of news ≡ first_ends h = same_ends now olds news t ∙ k.ends in
    let fewer : length (first_ends h) < 64 = subst (λ n. n < 64) (sym (length-map news (λ (w : KeptEnd). w.end)) ∙ ap length kept) room in
    let all : first_ends h ≡ firsts h = take_all 64 (firsts h) (omega (arith, few (firsts h) fewer)) in
    let new : is_among (end_of now) (firsts h) ≡ false
    = subst (λ es. is_among (end_of now) es ≡ false) all (among_first now h olds news was left false t unknown k) in
    let longer : first_ends (now ∷ h) ≡ firsts h ++ end_of now ∷ [] = kept_new (end_of now) (firsts h) fewer new in
    let none : Unsent (end_of now) h = unsent (end_of now) (firsts h) h (covered h) new in
    record {
      sequence = o h k.sequence;
      exact = push_all (IsExact (now ∷ h)) news w (still_exact now h olds news t k.exact) (first.exact h (before_first (end_of now) h none));
      ends = pushed_ends news w ∙ (ap (λ es. es ++ w.end ∷ []) (kept ∙ all) ∙ (ap (λ e. firsts h ++ e ∷ []) first.end ∙ sym longer));
      counts = k.counts
          ∙ ap (λ fs. counted (length fs))
          (ap (λ es. frames_beyond es h) all ∙ none_beyond (firsts h) h (covered h)
          ∙ sym (ap (λ es. frames_beyond es (now ∷ h)) (longer ∙ sym (with_new (end_of now) (firsts h) new))
          ∙ none_beyond (firsts (now ∷ h)) (now ∷ h) (covered (now ∷ h))));
    }

-- before the first frame
pub nothing_known : Knows [] [] (order_of []) 0
unfolding counted
nothing_known = record { sequence = refl; exact = tt; ends = refl; counts = refl }

-- a list that takes the place of one as long
pub refill_same : (olds news : List KeptEnd) → length news ≡ length olds → refill (length olds) olds news ≡ news
refill_same olds news e = subst (λ n. take n (news ++ drop (length news) olds) ≡ news) e (take-append_seam news (drop (length news) olds))
