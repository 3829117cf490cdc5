-- The lines of a report, one after another.
use Rattle.lagtool_jobs.proofs.Common.{List, None, Option, Some, [], ap, append_assoc, ap₂, arith, decimal, get_or, length, option_map, refl}
use Rattle.lagtool_jobs.proofs.Common.{slice_get, suc, sym, take, zero, ℕ, ◌++◌, ◌+◌, ◌<◌, ◌∙◌, ◌∷◌, ◌≡◌, ◌≤◌, take_more, none-some, range_with_len}
use Rattle.lagtool_jobs.proofs.Common.{flat_map, agreement_line, agreements_text, collected_text, entries_text, entry_line, Event, Reply}
use Rattle.lagtool_jobs.proofs.Common.{agreement_at, agreement_of, end_facts, Algorithms, WorldRuns, LinkState, WorldState}
use Rattle.lagtool_jobs.specs.ReplayReport.{cable_numbers}
use Rattle.std.proofs.lemmas.List.Concat.{flat_map-append}
use Rattle.lagworld.specs.declared.agreement.Agreement.{Agreement}

-- a text to which one is appended, and then another
pub appended_both : (t u v a b c : List ℕ) → u ≡ t ++ a → v ≡ u ++ b → a ++ b ≡ c → v ≡ t ++ c
appended_both t u v a b c first second both = second ∙ ap (λ x. x ++ b) first ∙ append_assoc t a b ∙ ap (λ x. t ++ x) both

last : (a n j : ℕ) → a + n ≡ j → range_with_len a (suc n) ≡ range_with_len a n ++ j ∷ []
last a zero j e = let same : a ≡ j = omega arith in ap (λ k. k ∷ []) same
last a (suc n) j e = ap (λ l. a ∷ l) (last (a + 1) n j (omega arith))

pub append_none : (xs : List ℕ) → xs ++ [] ≡ xs
append_none [] = refl
append_none (x ∷ xs) = ap (λ l. x ∷ l) (append_none xs)

-- the texts of the numbers from a on, and of one more
pub range_more : (f : ℕ → List ℕ) (a n m j : ℕ) → a + n ≡ j → m ≡ n + 1 → flat_map f (range_with_len a n) ++ f j ≡ flat_map f (range_with_len a m)
range_more f a n m j e more = let on : m ≡ suc n = omega arith in
    sym (ap (λ k. flat_map f (range_with_len a k)) on ∙ ap (flat_map f) (last a n j e) ∙ flat_map-append f (range_with_len a n) (j ∷ [])
    ∙ ap (λ t. flat_map f (range_with_len a n) ++ t) (append_none (f j)))

-- the texts of some items, and of one more
pub items_more : {X : Type 0} (f : X → List ℕ) (xs : List X) (i : ℕ) (d : X) → i < length xs → flat_map f (take i xs)
    ++ f (get_or xs i d) ≡ flat_map f (take (i + 1) xs)
items_more f xs i d lt = sym (ap (flat_map f) (take_more xs i d lt) ∙ flat_map-append f (take i xs) (get_or xs i d ∷ [])
    ∙ ap (λ t. flat_map f (take i xs) ++ t) (append_none (f (get_or xs i d))))

-- the lines of some entries, and of one more
entries_next : (n i : ℕ) (es : List Event) (rs : List Reply) (e : Event) (r : Reply) → i < length es → i < length rs
    → entries_text n (take i es) (take i rs) ++ entry_line (n + i) (get_or es i e) (get_or rs i r) ≡ entries_text n (take (suc i) es) (take (suc i) rs)
entries_next n i [] rs e r lt lu = absurd (omega arith)
entries_next n i (x ∷ es) [] e r lt lu = absurd (omega arith)
entries_next n zero (x ∷ es) (y ∷ rs) e r lt lu =
    let here : n + 0 ≡ n = omega arith in ap (λ k. entry_line k x y) here ∙ sym (append_none (entry_line n x y))
entries_next n (suc i) (x ∷ es) (y ∷ rs) e r lt lu = let there : n + suc i ≡ (n + 1) + i = omega arith in
    append_assoc (entry_line n x y) (entries_text (n + 1) (take i es) (take i rs)) (entry_line (n + suc i) (get_or es i e) (get_or rs i r))
    ∙ ap (λ k. entry_line n x y ++ (entries_text (n + 1) (take i es) (take i rs) ++ entry_line k (get_or es i e) (get_or rs i r))) there
    ∙ ap (λ t. entry_line n x y ++ t) (entries_next (n + 1) i es rs e r (omega arith) (omega arith))

pub entries_more : (n i : ℕ) (es : List Event) (rs : List Reply) (e : Event) (r : Reply) → i < length es → i < length rs
    → entries_text n (take i es) (take i rs) ++ entry_line (n + i) (get_or es i e) (get_or rs i r) ≡ entries_text n (take (i + 1) es) (take (i + 1) rs)
entries_more n i es rs e r lt lu = let on : i + 1 ≡ suc i = omega arith in
    entries_next n i es rs e r lt lu ∙ ap (λ k. entries_text n (take k es) (take k rs)) (sym on)

pub empties : (f : ℕ → List ℕ) (a m : ℕ) → ((c : ℕ) → a ≤ c → f c ≡ []) → flat_map f (range_with_len a m) ≡ []
empties f a zero h = refl
empties f a (suc m) h = ap₂ (λ x y. x ++ y) (h a (omega arith)) (empties f (a + 1) m (λ c le. h c (omega arith)))

-- numbers with no text may be left out at the end
pub range_rest : (f : ℕ → List ℕ) (a n m : ℕ) → n ≤ m → ((c : ℕ) → a + n ≤ c → f c ≡ []) → flat_map f (range_with_len a n) ≡ flat_map f (range_with_len a m)
range_rest f a zero m le h = sym (empties f a m (λ c lt. h c (omega arith)))
range_rest f a (suc n) zero le h = absurd (omega arith)
range_rest f a (suc n) (suc m) le h = ap (λ t. f a ++ t) (range_rest f (a + 1) n m (omega arith) (λ c lt. h c (omega arith)))

-- if there is no cable with a number, there is none with a higher one
past : (ls : List LinkState) (i k : ℕ) → slice_get ls i ≡ None → i ≤ k → slice_get ls k ≡ None
past [] i k h le = refl
past (l ∷ ls) zero k h le = absurd (none-some l (sym h))
past (l ∷ ls) (suc i) zero h le = absurd (omega arith)
past (l ∷ ls) (suc i) (suc k) h le = past ls i k h (omega arith)

none_agrees : {A B : Type 0} (f : A → B) (o : Option A) → option_map f o ≡ None → o ≡ None
none_agrees f None h = refl
none_agrees f (Some x) h = absurd (none-some (f x) (sym h))

pub no_more_cables : (j : WorldState) (c d : ℕ) → 1 ≤ c → c ≤ d → agreement_at j c ≡ None → agreement_at j d ≡ None
no_more_cables j zero d one le h = absurd (omega arith)
no_more_cables j (suc i) zero one le h = absurd (omega arith)
no_more_cables j (suc i) (suc k) one le h =
    ap (option_map (λ (l : LinkState). agreement_of (end_facts j.one l.one) (end_facts j.two l.two)))
    (past j.links i k (none_agrees _ (slice_get j.links i) h) (omega arith))

-- as many replies as events
pub as_many : (gives : Algorithms) (old new : WorldState) (es : List Event) (rs : List Reply) → WorldRuns gives old es rs new → length rs ≡ length es
as_many gives old new [] [] h = refl
as_many gives old new [] (r ∷ rs) h = absurd h
as_many gives old new (e ∷ es) [] h = absurd h
as_many gives old new (e ∷ es) (r ∷ rs) (mid, step, rest) = ap suc (as_many gives mid new es rs rest)

pub collected_some : (xs : List ℕ) → 0 < length xs → flat_map (λ serial. 32 ∷ decimal serial) xs ≡ collected_text xs
collected_some [] h = absurd (omega arith)
collected_some (x ∷ xs) h = refl

numbers : cable_numbers ≡ 65535
unfolding cable_numbers
numbers = refl

-- the lines of all cables, if there is none with the next number
pub cables_end : (j : WorldState) (i : ℕ) → i < 65535 → agreement_at j (i + 1) ≡ None
    → flat_map (λ c. agreement_line c (agreement_at j c)) (range_with_len 1 i) ≡ agreements_text j
cables_end j i lt none = range_rest (λ c. agreement_line c (agreement_at j c)) 1 i cable_numbers (omega (arith, numbers, lt))
    (λ c le. ap (agreement_line c) (no_more_cables j (i + 1) c (omega arith) (omega (arith, le)) none))

-- the lines of all cables, if each number was looked at
pub cables_all : (j : WorldState) (i : ℕ) → i ≤ 65535 → 65535 ≤ i → flat_map (λ c. agreement_line c (agreement_at j c)) (range_with_len 1 i) ≡ agreements_text j
cables_all j i le ge = let all : i ≡ cable_numbers = omega (arith, numbers, le, ge) in
    ap (λ n. flat_map (λ c. agreement_line c (agreement_at j c)) (range_with_len 1 n)) all

-- one more line
pub cable_more : (t u v : List ℕ) (j : WorldState) (i : ℕ) (a : Agreement) → u ≡ t ++ flat_map (λ c. agreement_line c (agreement_at j c)) (range_with_len 1 i)
    → Some a ≡ agreement_at j (i + 1) → v ≡ u ++ agreement_line (i + 1) (Some a)
    → v ≡ t ++ flat_map (λ c. agreement_line c (agreement_at j c)) (range_with_len 1 (i + 1))
cable_more t u v j i a before at said =
    appended_both t u v (flat_map (λ c. agreement_line c (agreement_at j c)) (range_with_len 1 i))
    (agreement_line (i + 1) (Some a)) _ before said
    (ap (λ o. flat_map (λ c. agreement_line c (agreement_at j c)) (range_with_len 1 i) ++ agreement_line (i + 1) o) at
    ∙ range_more (λ c. agreement_line c (agreement_at j c)) 1 i (i + 1) (i + 1) (omega arith) refl)

-- one more entry
pub entries_grow : (t u v : List ℕ) (i : ℕ) (es : List Event) (rs : List Reply) (e : Event) (d : Reply) → i < length es → i < length rs
    → u ≡ t ++ entries_text 1 (take i es) (take i rs) → v ≡ u ++ entry_line (i + 1) e (get_or rs i d) → e ≡ get_or es i e
    → v ≡ t ++ entries_text 1 (take (i + 1) es) (take (i + 1) rs)
entries_grow t u v i es rs e d lt lu before said at = let place : i + 1 ≡ 1 + i = omega arith in
    appended_both t u v (entries_text 1 (take i es) (take i rs)) (entry_line (1 + i) (get_or es i e) (get_or rs i d)) _ before
    (said ∙ ap (λ x. u ++ entry_line (i + 1) x (get_or rs i d)) at ∙ ap (λ k. u ++ entry_line k (get_or es i e) (get_or rs i d)) place)
    (entries_more 1 i es rs e d lt lu)
