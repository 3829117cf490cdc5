-- What is left of a list of octets is no longer than the list; how a place and a subject are told.
use Rattle.std.proofs.Common.{◌≡◌, ◌≤◌, ◌<◌, ◌++◌, ◌^◌, ◌∙◌, ℕ, suc, Bool, true, false, cond, List, [], ◌∷◌, filter, length, reverse, take}
use Rattle.std.proofs.Common.{take_while, ap, append_assoc, arith, codes, decimal, subst, sym, Option, Some, Result, Ok, Err, IfOk, String}
use Rattle.std.proofs.Common.{string_bytes, Global}
use Rattle.std.specs.declared.alloc.AllocError.{AllocError}
use Rattle.std.specs.List.{prefix_len}
use Rattle.std.proofs.lemmas.List.{length-reverse, length-take-le}
use Rattle.std.proofs.lemmas.List.Sums.{prefix_len-le-length}
use Rattle.std.proofs.Math.Seq.{take-append_seam}
use Rattle.std.specs.Io.{StartsWith}
use Rattle.toml.specs.Data.{Members}
use Rattle.lagscript.specs.declared.fault.ScriptFault.{ScriptFault}
use Rattle.lagexplain.specs.Explanations.{SaysWhereIn, place_text, subject_text}
use Rattle.lagexplain.specs.TextPlaces.{column_behind, line_behind}

pub few_filtered : (p : ℕ → Bool) (l : List ℕ) → length (filter p l) ≤ length l
few_filtered p [] = omega arith
few_filtered p (x ∷ xs) = one (p x) (few_filtered p xs)
  where
    one : (b : Bool) → length (filter p xs) ≤ length xs → length (cond b (x ∷ filter p xs) (filter p xs)) ≤ suc (length xs)
    one true h = omega (arith, h)
    one false h = omega (arith, h)

few_taken : (p : ℕ → Bool) (l : List ℕ) → length (take_while p l) ≤ length l
few_taken p l = omega (arith, length-take-le (prefix_len p l) l (prefix_len-le-length p l), prefix_len-le-length p l)

pub few_behind : (p q : ℕ → Bool) (l : List ℕ) → length (filter p (take_while q (reverse l))) ≤ length l
few_behind p q l = omega (arith, few_filtered p (take_while q (reverse l)), few_taken q (reverse l), length-reverse l)

pub colons_joined : (a b c : List ℕ) → 58 ∷ (a ++ 58 ∷ (b ++ 58 ∷ 32 ∷ c)) ≡ (58 ∷ (a ++ 58 ∷ (b ++ 58 ∷ 32 ∷ []))) ++ c
colons_joined a b c = sym (ap (λ t. 58 ∷ t) (append_assoc a (58 ∷ (b ++ 58 ∷ 32 ∷ [])) c
    ∙ ap (λ t. a ++ 58 ∷ t) (append_assoc b (58 ∷ 32 ∷ []) c)))

-- what is formed of a place and a message tells the place
pub tells_place : (r : Result (String Global) AllocError) (text octets message : List ℕ) (start line column : ℕ) → octets ≡ text → start ≤ length text
    → length text < 2 ^ 32 → (length (take start octets) < 2 ^ 32 → line ≡ line_behind (take start octets))
    → (length (take start octets) < 2 ^ 32 → column ≡ column_behind (take start octets))
    → IfOk r (λ why. string_bytes why ≡ 58 ∷ (decimal line ++ 58 ∷ (decimal column ++ 58 ∷ 32 ∷ message)))
    → IfOk r (λ why. StartsWith (string_bytes why) (place_text (take start text)))
tells_place (Err refused) text octets message start line column same within small l c e = tt
tells_place (Ok why) text octets message start line column same within small l c e =
    let fits : start ≤ length octets = omega (arith, ap length same, within) in
    let few : length (take start octets) < 2 ^ 32 = omega (arith, length-take-le start octets fits, within, small) in
    let before = take start text in
    let on_line = subst (λ t. line ≡ line_behind (take start t)) same (l few) in
    let in_column = subst (λ t. column ≡ column_behind (take start t)) same (c few) in
    let whole : string_bytes why ≡ place_text before ++ message = e
    ∙ ap (λ n. 58 ∷ (decimal n ++ 58 ∷ (decimal column ++ 58 ∷ 32 ∷ message))) on_line
    ∙ ap (λ n. 58 ∷ (decimal (line_behind before) ++ 58 ∷ (decimal n ++ 58 ∷ 32 ∷ message))) in_column
    ∙ colons_joined (decimal (line_behind before)) (decimal (column_behind before)) message in
    ap (take (length (place_text before))) whole ∙ take-append_seam (place_text before) message

-- what is formed of a subject and what is wrong with it says the subject first
pub says_subject : (r : Result (String Global) AllocError) (text : List ℕ) (document : Option Members) (top : Members) (e : ScriptFault)
    (rest : List ℕ) → document ≡ Some top → IfOk r (λ why. string_bytes why ≡ 58 ∷ 32 ∷ (subject_text e ++ rest))
    → IfOk r (λ why. SaysWhereIn document text e (string_bytes why))
says_subject (Err refused) text document top e rest read formed = tt
says_subject (Ok why) text document top e rest read formed = subst (λ d. SaysWhereIn d text e (string_bytes why)) (sym read)
    (ap (take (length (codes ": " ++ subject_text e))) formed ∙ take-append_seam (codes ": " ++ subject_text e) rest)
