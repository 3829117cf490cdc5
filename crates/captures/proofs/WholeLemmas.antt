-- A capture is read step by step, whatever follows.
use Rattle.std.proofs.Common.{◌≡◌, ◌++◌, ◌≤◌, ◌<◌, ◌+◌, ◌-◌, ◌∙◌, ◌⊎◌, ℕ, zero, suc, Bool, List, [], ◌∷◌, length, drop, min, slice_range, Ok, Err}
use Rattle.std.proofs.Common.{Option, IfSome, ap, refl, sym, arith, inl, inr, append_assoc, length-append, length-drop}
use Rattle.std.proofs.lemmas.List.{drop-append-le, drop-drop, take-append-le}
use Rattle.captures.specs.declared.fault.Fault.{Fault}
use Rattle.captures.specs.declared.fault.Stop.TheVariants.{Wants, Refused}
use Rattle.captures.specs.declared.format.Format.{Format}
use Rattle.captures.specs.declared.format.Format.TheVariants as formats
use Rattle.captures.specs.declared.packet.Packet.{Packet}
use Rattle.captures.specs.declared.reader.Step.{Step}
use Rattle.captures.specs.Steps.{ReaderState, end_of, step, step_in}
use Rattle.captures.specs.Wanted.{IsWithin}
use Rattle.captures.specs.Whole.{Capture, Captured, ReadsTo, behind, capture_from, ending, numbered_if, numbered_in, refused_from, stepped}
use Rattle.captures.proofs.StepLemmas.{step_taken}

range_same : (b more : List ℕ) (i j : ℕ) → i ≤ j → j ≤ length b → slice_range (b ++ more) i j ≡ slice_range b i j
range_same b more i j le inside = grind (arith, drop-append-le, take-append-le, drop, length-drop)

numbered_if_same : (o : Option Packet) (is_record : Bool) (b more : List ℕ) → IfSome o (λ p. IsWithin b p)
    → numbered_if o is_record (b ++ more) ≡ numbered_if o is_record b
numbered_if_same o is_record b more w = grind (arith, range_same)

one_step : (m at : ℕ) (t u : ReaderState) (x : Step) (b : List ℕ) → step t b ≡ Ok (x, u)
    → capture_from (suc m) at t b ≡ behind (numbered_in x b) (capture_from m (at + min x.taken (length b)) u (drop x.taken b))
unfolding capture_from
one_step m at t u x b e = ap (stepped (capture_from m) at t b) e

pub reads_none : (b : List ℕ) (s : ReaderState) → ReadsTo b s [] 0 s
reads_none b s = λ at steps more le. (steps, le, ap (λ k. capture_from steps k s (b ++ more)) (none at (length (b ++ more))))
  where
    none : (at l : ℕ) → at ≡ at + min 0 l
    none at l = omega arith

pub both_behind : (xs ys : List (Option Captured)) (c : Capture) → behind xs (behind ys c) ≡ behind (xs ++ ys) c
both_behind xs ys c = ap (λ k. record { numbered = k; fault = c.fault }) (sym (append_assoc xs ys c.numbered))

place : (at n taken all rest : ℕ) → n ≤ all → rest ≡ all - n → at + min n all + min taken rest ≡ at + min (n + taken) all
place at n taken all rest le e = omega (arith, le, e)

-- a step more
pub reads_more : (b : List ℕ) (s t u : ReaderState) (found : List (Option Captured)) (n : ℕ) (x : Step) → ReadsTo b s found n t → n < length b → 0 < x.taken
    → step t (drop n b) ≡ Ok (x, u) → IfSome x.packet (λ p. IsWithin (drop n b) p) → ReadsTo b s (found ++ numbered_in x (drop n b)) (n + x.taken) u
reads_more b s t u found n x h lt takes is within = λ at steps more le. let (left, enough, so) = h at steps more le in by at steps more left enough so
  where
    by : (at steps : ℕ) (more : List ℕ) (left : ℕ) → length (drop n (b ++ more)) ≤ left
        → capture_from steps at s (b ++ more) ≡ behind found (capture_from left (at + min n (length (b ++ more))) t (drop n (b ++ more)))
        → (rest : ℕ) × (length (drop (n + x.taken) (b ++ more)) ≤ rest)
        × (capture_from steps at s (b ++ more) ≡ behind (found ++ numbered_in x (drop n b))
        (capture_from rest (at + min (n + x.taken) (length (b ++ more))) u (drop (n + x.taken) (b ++ more))))
    by at steps more zero enough so =
        let all = length-append b more in let l = length-drop n (b ++ more) in absurd (omega (arith, enough, all, l, lt))
    by at steps more (suc m) enough so = let all = length-append b more in
        let l = length-drop n (b ++ more) in
        let k = length-drop (n + x.taken) (b ++ more) in
        let joined = drop-append-le n b more (omega (arith, lt)) in (
          m,
          omega (arith, enough, l, k, takes),
          so ∙ ap (behind found) (one_step m (at + min n (length (b ++ more))) t u x (drop n (b ++ more))
              (ap (step t) joined ∙ step_taken t (drop n b) more (x, u) is)
              ∙ ap (λ ys. behind ys (capture_from m (at + min n (length (b ++ more)) + min x.taken (length (drop n (b ++ more)))) u (drop x.taken (drop n (b ++ more)))))
              (ap (numbered_in x) joined ∙ numbered_if_same x.packet x.is_record (drop n b) more within)
              ∙ ap (λ p. behind (numbered_in x (drop n b)) (capture_from m p u (drop x.taken (drop n (b ++ more)))))
              (place at n x.taken (length (b ++ more)) (length (drop n (b ++ more))) (omega (arith, all, lt)) l)
              ∙ ap (λ r. behind (numbered_in x (drop n b)) (capture_from m (at + min (n + x.taken) (length (b ++ more))) u r))
              (drop-drop x.taken n (b ++ more)))
              ∙ both_behind found (numbered_in x (drop n b)) (capture_from m (at + min (n + x.taken) (length (b ++ more))) u (drop (n + x.taken) (b ++ more))),
        )

nothing_in : (f : Format) (s : ReaderState) → (n : ℕ) × (step_in f s [] ≡ Err (Wants n))
nothing_in formats.Start s = (4, refl)
nothing_in (formats.Packet order unit link) s = (16, refl)
nothing_in (formats.Block order) s = (8, refl)
nothing_in (formats.SecondLength order n) s = (4, refl)

-- no step is taken: nothing is left, or octets are wanted
pub ends_waiting : (steps at : ℕ) (s : ReaderState) (b : List ℕ) → (length b ≡ 0) ⊎ ((n : ℕ) × (step s b ≡ Err (Wants n)))
    → capture_from steps at s b ≡ ending at (end_of s.format (length b))
unfolding capture_from
ends_waiting zero at s b h = refl
ends_waiting (suc m) at s b (inr (n, e)) = ap (stepped (capture_from m) at s b) e
ends_waiting (suc m) at s [] (inl none) = let (n, e) = nothing_in s.format s in ap (stepped (capture_from m) at s []) e
ends_waiting (suc m) at s (x ∷ b) (inl none) = absurd (omega (arith, none))

-- the next step is refused
pub ends_refused : (steps at : ℕ) (s : ReaderState) (b : List ℕ) (fault : Fault) → length b ≤ steps → 0 < length b
    → step s b ≡ Err (Refused fault) → capture_from steps at s b ≡ refused_from at fault
unfolding capture_from
ends_refused zero at s b fault le some e = absurd (omega (arith, le, some))
ends_refused (suc m) at s b fault le some e = ap (stepped (capture_from m) at s b) e
