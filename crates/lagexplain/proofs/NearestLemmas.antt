-- The nearest of the names so far.
use Rattle.std.proofs.Common.{◌≡◌, ◌≤◌, ◌<◌, ◌+◌, ◌++◌, ◌∙◌, ℕ, All, List, [], ◌∷◌, length, Option, Some, None, ap, append_assoc, arith, get_or, inr}
use Rattle.std.proofs.Common.{map, option_map, refl, sym, subst, take}
use Rattle.std.proofs.lemmas.List.Elements.{All-append, All-cons, All-nil, All-push, All-weaker}
use Rattle.std.proofs.lemmas.List.{map-append, take_more}
use Rattle.lagscript.specs.Results.{Word, word_octets}
use Rattle.lagexplain.specs.Nearest.{FindsNearest, IsNearest, edits_between}

-- what was found among these names, with so many edits; 3 where nothing was found
abbrev pub NearestSoFar : List ℕ → List (List ℕ) → ℕ → Option (List ℕ) → Type 0
NearestSoFar word names fewest None = (fewest ≡ 3) × All (λ name. 3 ≤ edits_between word name) names
NearestSoFar word names fewest (Some found) = (fewest ≡ edits_between word found) × IsNearest word names found

fewest_at_most_3 : (word : List ℕ) (names : List (List ℕ)) (fewest : ℕ) (found : Option (List ℕ)) → NearestSoFar word names fewest found → fewest ≤ 3
fewest_at_most_3 word names fewest None h = omega (arith, h.0)
fewest_at_most_3 word names fewest (Some found) h = let near = h.1.near in omega (arith, h.0, near)

least_so_far : (word : List ℕ) (names : List (List ℕ)) (fewest : ℕ) (found : Option (List ℕ)) → NearestSoFar word names fewest found
    → All (λ name. fewest ≤ edits_between word name) names
least_so_far word names fewest None h = subst (λ n. All (λ name. n ≤ edits_between word name) names) (sym h.0) h.1
least_so_far word names fewest (Some found) h = let found_is = h.0 in
    subst (All (λ other. fewest ≤ edits_between word other)) (sym h.1.among)
    (All-append (λ other. fewest ≤ edits_between word other) h.1.before (found ∷ h.1.behind)
    (All-weaker (λ other. edits_between word found < edits_between word other) (λ other. fewest ≤ edits_between word other)
    (λ other k. omega (arith, k, found_is)) h.1.before h.1.first)
    (All-cons (λ other. fewest ≤ edits_between word other) found h.1.behind (omega (arith, found_is))
    (All-weaker (λ other. edits_between word found ≤ edits_between word other) (λ other. fewest ≤ edits_between word other)
    (λ other k. omega (arith, k, found_is)) h.1.behind h.1.least)))

nearer : (word : List ℕ) (names : List (List ℕ)) (fewest : ℕ) (found : Option (List ℕ)) (name : List ℕ) → NearestSoFar word names fewest found
    → edits_between word name < fewest → NearestSoFar word (names ++ name ∷ []) (edits_between word name) (Some name)
nearer word names fewest found name h less = let high = fewest_at_most_3 word names fewest found h in
    let few : edits_between word name ≤ 2 = omega (arith, high, less) in (
      refl,
      record {
        before = names;
        behind = [];
        among = refl;
        near = few;
        first = All-weaker (λ other. fewest ≤ edits_between word other) (λ other. edits_between word name < edits_between word other)
            (λ other k. omega (arith, k, less)) names (least_so_far word names fewest found h);
        least = All-nil (λ other. edits_between word name ≤ edits_between word other);
      },
    )

no_nearer : (word : List ℕ) (names : List (List ℕ)) (fewest : ℕ) (found : Option (List ℕ)) (name : List ℕ)
    → NearestSoFar word names fewest found → fewest ≤ edits_between word name → NearestSoFar word (names ++ name ∷ []) fewest found
no_nearer word names fewest None name h far = (h.0, All-push (λ other. 3 ≤ edits_between word other) names name h.1 (omega (arith, h.0, far)))
no_nearer word names fewest (Some found) name h far = let found_is = h.0 in
    let more : edits_between word found ≤ edits_between word name = omega (arith, found_is, far) in (
      h.0,
      record {
        before = h.1.before;
        behind = h.1.behind ++ name ∷ [];
        among = ap (λ ns. ns ++ name ∷ []) h.1.among ∙ append_assoc h.1.before (found ∷ h.1.behind) (name ∷ []);
        near = h.1.near;
        first = h.1.first;
        least = All-push (λ other. edits_between word found ≤ edits_between word other) h.1.behind name h.1.least more;
      },
    )

one_more : (names : List Word) (i : ℕ) (d : Word) → i < length names
    → map word_octets (take (i + 1) names) ≡ map word_octets (take i names) ++ word_octets (get_or names i d) ∷ []
one_more names i d lt = ap (map word_octets) (take_more names i d lt) ∙ map-append word_octets (take i names) (get_or names i d ∷ [])

-- one more name, which is nearer
pub nearer_next : (word : List ℕ) (names : List Word) (i : ℕ) (d : Word) (fewest edits : ℕ) (found : Option Word) → i < length names
    → NearestSoFar word (map word_octets (take i names)) fewest (option_map word_octets found) → edits ≡ edits_between word (word_octets (get_or names i d))
    → edits < fewest → NearestSoFar word (map word_octets (take (i + 1) names)) edits (Some (word_octets (get_or names i d)))
nearer_next word names i d fewest edits found lt h e less = let x = word_octets (get_or names i d) in
    let grown = nearer word (map word_octets (take i names)) fewest (option_map word_octets found) x h (omega (arith, e, less)) in
    subst (λ n. NearestSoFar word (map word_octets (take (i + 1) names)) n (Some x)) (sym e)
    (subst (λ ns. NearestSoFar word ns (edits_between word x) (Some x)) (sym (one_more names i d lt)) grown)

-- one more name, which is no nearer
pub no_nearer_next : (word : List ℕ) (names : List Word) (i : ℕ) (d : Word) (fewest edits : ℕ) (found : Option Word) → i < length names
    → NearestSoFar word (map word_octets (take i names)) fewest (option_map word_octets found) → edits ≡ edits_between word (word_octets (get_or names i d))
    → fewest ≤ edits → NearestSoFar word (map word_octets (take (i + 1) names)) fewest (option_map word_octets found)
no_nearer_next word names i d fewest edits found lt h e far = let x = word_octets (get_or names i d) in
    let grown = no_nearer word (map word_octets (take i names)) fewest (option_map word_octets found) x h (omega (arith, e, far)) in
    subst (λ ns. NearestSoFar word ns fewest (option_map word_octets found)) (sym (one_more names i d lt)) grown

pub nearest_found : (word : List ℕ) (names : List (List ℕ)) (fewest : ℕ) (found : Option (List ℕ)) → length word ≤ 40
    → NearestSoFar word names fewest found → FindsNearest word names found
nearest_found word names fewest None short h =
    inr (All-weaker (λ name. 3 ≤ edits_between word name) (λ name. 2 < edits_between word name) (λ name k. omega (arith, k)) names h.1)
nearest_found word names fewest (Some found) short h = (short, h.1)
