-- Rings of slots: one taken out, one put in, and what stays as it is.
use Rattle.distributor.proofs.Common.{Bool, List, None, Some, [], ap, append-nil, arith, cond, eq-eqb, eqb, eqb-true, false, get_or, length, refl}
use Rattle.distributor.proofs.Common.{set, subst, sym, true, ℕ, ⊎_elim, ◌++◌, ◌+◌, ◌<◌, ◌∙◌, ◌∷◌, ◌≡◌, ◌≤◌, cases_eq, cond-false, cond-true}
use Rattle.distributor.proofs.Common.{false≢true, ne_eqb, get_or-set_other, get_or-set_same, get_or_past, length-set, Assignment, Free, IsChained}
use Rattle.distributor.proofs.Common.{Path, assignment_port, chain_of, is_in_chain, occurs, slot_state}

abbrev pub last_of : ℕ → List ℕ → ℕ
last_of a [] = a
last_of a (x ∷ xs) = last_of x xs

abbrev pub first_of : List ℕ → ℕ → ℕ
first_of [] b = b
first_of (x ∷ xs) b = x

-- what holds of each of two, where it is chosen, holds of the one that is chosen
pub chosen : {X : Type 0} (P : X → Type 0) (b : Bool) (x y : X) → (b ≡ true → P x) → (b ≡ false → P y) → P (cond b x y)
chosen P b x y h k = grind arith

-- 1 if the numbers are one
abbrev pub one : ℕ → ℕ → ℕ
one k x = cond (eqb k x) 1 0

pub one_same : (k : ℕ) → one k k ≡ 1
one_same k = cond-true (eqb k k) 1 0 (eq-eqb k k refl)

pub one_other : (k x : ℕ) → (k ≡ x → ⊥) → one k x ≡ 0
one_other k x n = cond-false (eqb k x) 1 0 (ne_eqb k x n)

pub occurs_append : (k : ℕ) (xs ys : List ℕ) → occurs k (xs ++ ys) ≡ occurs k xs + occurs k ys
occurs_append k [] ys = omega arith
occurs_append k (x ∷ xs) ys = omega (arith, occurs_append k xs ys)

last_occurs : (a : ℕ) (xs : List ℕ) → 0 < occurs (last_of a xs) (a ∷ xs)
last_occurs a [] = omega (arith, one_same a)
last_occurs a (x ∷ xs) = omega (arith, last_occurs x xs)

first_occurs : (xs : List ℕ) (b : ℕ) → 0 < occurs (first_of xs b) (b ∷ xs)
first_occurs xs b = grind arith

pub path_last : (next prev : List ℕ) (a : ℕ) (xs : List ℕ) (b : ℕ) → Path next prev a xs b → get_or prev b 0 ≡ last_of a xs
path_last next prev a [] b h = h.1
path_last next prev a (x ∷ xs) b h = path_last next prev x xs b h.1

pub path_first : (next prev : List ℕ) (a : ℕ) (xs : List ℕ) (b : ℕ) → Path next prev a xs b → get_or next a 0 ≡ first_of xs b
path_first next prev a xs b h = grind arith

pub path_split : (next prev : List ℕ) (a : ℕ) (ys : List ℕ) (i : ℕ) (zs : List ℕ) (b : ℕ) → Path next prev a (ys ++ i ∷ zs) b
    → Path next prev a ys i × Path next prev i zs b
path_split next prev a [] i zs b h = (h.0, h.1)
path_split next prev a (y ∷ ys) i zs b h = let k = path_split next prev y ys i zs b h.1 in ((h.0, k.0), k.1)

pub path_join : (next prev : List ℕ) (a : ℕ) (ys : List ℕ) (i : ℕ) (zs : List ℕ) (b : ℕ) → Path next prev a ys i → Path next prev i zs b
    → Path next prev a (ys ++ i ∷ zs) b
path_join next prev a [] i zs b h k = (h, k)
path_join next prev a (y ∷ ys) i zs b h k = (h.0, path_join next prev y ys i zs b h.1 k)

-- links that are written elsewhere
pub path_kept : (next prev next' prev' : List ℕ) (a : ℕ) (xs : List ℕ) (b : ℕ) → ((k : ℕ) → 0 < occurs k (a ∷ xs) → get_or next' k 0 ≡ get_or next k 0)
    → ((k : ℕ) → 0 < occurs k (b ∷ xs) → get_or prev' k 0 ≡ get_or prev k 0) → Path next prev a xs b → Path next' prev' a xs b
path_kept next prev next' prev' a [] b n p h = (n a (omega (arith, one_same a)) ∙ h.0, p b (omega (arith, one_same b)) ∙ h.1)
path_kept next prev next' prev' a (x ∷ xs) b n p h = (
  (n a (omega (arith, one_same a)) ∙ h.0.0, p x (omega (arith, one_same x)) ∙ h.0.1),
  path_kept next prev next' prev' x xs b (λ k l. n k (omega (arith, l))) (λ k l. p k (omega (arith, l))) h.1,
)

-- the last link of a path leads elsewhere
retarget : (next prev : List ℕ) (a : ℕ) (ys : List ℕ) (i q : ℕ) → Path next prev a ys i → last_of a ys < length next → q < length prev
    → ((k : ℕ) → occurs k (a ∷ ys) ≤ 1) → occurs q ys ≡ 0 → Path (set next (last_of a ys) q) (set prev q (last_of a ys)) a ys q
retarget next prev a [] i q h u v few none = (get_or-set_same next a q 0 u, get_or-set_same prev q a 0 v)
retarget next prev a (y ∷ ys) i q h u v few none =
    let apart : a ≡ last_of y ys → ⊥ = λ e. omega (arith, few a, one_same a, last_occurs y ys, ap (λ k. occurs k (y ∷ ys)) e) in
    let other : y ≡ q → ⊥ = λ e. omega (arith, none, one_same q, ap (one q) e) in (
      (get_or-set_other next (last_of y ys) a q 0 apart ∙ h.0.0, get_or-set_other prev q y (last_of y ys) 0 other ∙ h.0.1),
      retarget next prev y ys i q h.1 u v (λ k. omega (arith, few k)) (omega (arith, none)),
    )

bypass : (next prev : List ℕ) (e : ℕ) (ys : List ℕ) (i : ℕ) (zs : List ℕ) → Path next prev e ys i → Path next prev i zs e
    → ((k : ℕ) → occurs k (e ∷ (ys ++ i ∷ zs)) ≤ 1) → last_of e ys < length next → first_of zs e < length prev
    → Path (set next (last_of e ys) (first_of zs e)) (set prev (first_of zs e) (last_of e ys)) e (ys ++ zs) e
bypass next prev e ys i [] h t few u v =
    subst (λ l. Path (set next (last_of e ys) e) (set prev e (last_of e ys)) e l e) (sym (append-nil ys))
    (retarget next prev e ys i e h u v (λ k. omega (arith, few k, occurs_append k ys (i ∷ [])))
    (omega (arith, few e, one_same e, occurs_append e ys (i ∷ []))))
bypass next prev e ys i (z ∷ zs) h t few u v = let p = last_of e ys in
    let joined = retarget next prev e ys i z h u v (λ k. omega (arith, few k, occurs_append k ys (i ∷ z ∷ zs)))
    (omega (arith, few z, one_same z, occurs_append z ys (i ∷ z ∷ zs))) in
    let n : (k : ℕ) → 0 < occurs k (z ∷ zs) → get_or (set next p z) k 0 ≡ get_or next k 0 =
    λ k l. get_or-set_other next p k z 0 (λ (m : k ≡ p). omega (
      arith,
      l,
      few p,
      last_occurs e ys,
      occurs_append p ys (i ∷ z ∷ zs),
      ap (λ j. occurs j (z ∷ zs)) m,
    )) in
    let b : (k : ℕ) → 0 < occurs k (e ∷ zs) → get_or (set prev z p) k 0 ≡ get_or prev k 0 =
    λ k l. get_or-set_other prev z k p 0
    (λ (m : k ≡ z). omega (arith, l, few z, one_same z, occurs_append z ys (i ∷ z ∷ zs), ap (λ j. occurs j (e ∷ zs)) m)) in
    path_join _ _ e ys z zs e joined (path_kept next prev _ _ z zs e n b t.1)

-- a slot is taken out of its ring
pub path_out : (next prev : List ℕ) (e : ℕ) (ys : List ℕ) (i : ℕ) (zs : List ℕ) → Path next prev e (ys ++ i ∷ zs) e
    → ((k : ℕ) → occurs k (e ∷ (ys ++ i ∷ zs)) ≤ 1) → get_or prev i 0 < length next → get_or next i 0 < length prev
    → Path (set next (get_or prev i 0) (get_or next i 0)) (set prev (get_or next i 0) (get_or prev i 0)) e (ys ++ zs) e
path_out next prev e ys i zs h few u v = grind (arith, path_split, path_last, path_first, bypass)

insert : (next prev : List ℕ) (e i : ℕ) (xs : List ℕ) → Path next prev e xs e → ((k : ℕ) → occurs k (e ∷ xs) ≤ 1) → occurs i (e ∷ xs) ≡ 0
    → i < length next → e < length next → i < length prev → first_of xs e < length prev
    → Path (set (set next i (first_of xs e)) e i) (set (set prev i e) (first_of xs e) i) e (i ∷ xs) e
insert next prev e i [] h few none u v w z = grind (arith, one_same, one, get_or-set_same, set, length-set, get_or-set_other)
insert next prev e i (x ∷ xs) h few none u v w z = grind (arith, one_same, one, occurs, get_or, set, get_or-set_other, get_or-set_same, length-set, path_kept)

-- a slot is put right after the end of a ring
pub path_in : (next prev : List ℕ) (e i : ℕ) (xs : List ℕ) → Path next prev e xs e → ((k : ℕ) → occurs k (e ∷ xs) ≤ 1) → occurs i (e ∷ xs) ≡ 0 → i < length next
    → e < length next → i < length prev → get_or next e 0 < length prev
    → Path (set (set next i (get_or next e 0)) e i) (set (set prev i e) (get_or next e 0) i) e (i ∷ xs) e
path_in next prev e i xs h few none u v w z = let after : get_or next e 0 ≡ first_of xs e = path_first next prev e xs e h in
    subst (λ f. Path (set (set next i f) e i) (set (set prev i e) f i) e (i ∷ xs) e) (sym after)
    (insert next prev e i xs h few none u v w (omega (arith, z, after)))

-- ---- all 64 rings

-- 1 for true
abbrev pub counted : Bool → ℕ
counted b = cond b 1 0

-- the chains with other slots in one of them
abbrev pub put_chain : (ℕ → List ℕ) → ℕ → List ℕ → ℕ → List ℕ
put_chain chains c xs d = cond (eqb c d) xs (chains d)

-- a number that comes in a list splits it
pub split_at : (i : ℕ) (xs : List ℕ) → 0 < occurs i xs → (ys : List ℕ) × (zs : List ℕ) × (xs ≡ ys ++ i ∷ zs)
split_at i [] l = absurd (omega (arith, l))
split_at i (x ∷ xs) l = ⊎_elim
    (λ (e : i ≡ x). ([], xs, ap (λ y. y ∷ xs) (sym e)))
    (λ (n : i ≡ x → ⊥). (let r = split_at i xs (omega (arith, l, one_other i x n)) in (x ∷ r.0, r.1, ap (λ ws. x ∷ ws) r.2)))
    (cases_eq i x)

-- each slot is once in the chain of its state, also after one has got another state
pub homes_set : (states : List Assignment) (i : ℕ) (s : Assignment) (d : ℕ) (xs : List ℕ) → i < length states
    → occurs i xs ≡ counted (is_in_chain d s) → ((k : ℕ) → (k ≡ i → ⊥) → occurs k xs ≡ counted (is_in_chain d (slot_state states k)))
    → (k : ℕ) → occurs k xs ≡ counted (is_in_chain d (slot_state (set states i s) k))
homes_set states i s d xs inside here others k = grind (arith, get_or-set_same, get_or-set_other)

cond_few : (b : Bool) → cond b 1 0 ≤ 1
cond_few b = grind arith

cond_some : (b : Bool) → 0 < cond b 1 0 → b ≡ true
cond_some b h = grind arith

-- a state stands in one chain at most
pub stands_once : (c d : ℕ) (s : Assignment) → is_in_chain c s ≡ true → is_in_chain d s ≡ true → c ≡ d
stands_once c d s h k = grind arith

-- the state of a port stands in the port's chain alone, a free one in none
pub stands_some : (c port : ℕ) (s : Assignment) → assignment_port s ≡ Some port → is_in_chain c s ≡ eqb (chain_of port) c
stands_some c port s h = grind arith

pub stands_none : (c : ℕ) (s : Assignment) → assignment_port s ≡ None → is_in_chain c s ≡ false
stands_none c s h = grind arith

module _ (count : ℕ) (states : List Assignment) (next prev : List ℕ) (h : IsChained count states next prev) where
  pub member_stands : (c k : ℕ) → 0 < occurs k (h.chains c) → is_in_chain c (slot_state states k) ≡ true
  member_stands c k l = cond_some _ (omega (arith, l, h.homes c k))

  pub member_below : (c k : ℕ) → 0 < occurs k (h.chains c) → k < count
  member_below c k l = let past : count ≤ k
      → ⊥ = λ m. false≢true (ap (is_in_chain c) (sym (get_or_past states k (Free None) (omega (arith, m, h.states_len))))
      ∙ member_stands c k l) in
      omega (arith, past)

  end_apart : (c k : ℕ) → k ≡ count + c → occurs k (h.chains c) ≡ 0
  end_apart c k m = let no : 0 < occurs k (h.chains c) → ⊥ = λ l. omega (arith, m, member_below c k l) in
      omega (arith, no)

  pub few_on : (c k : ℕ) → occurs k ((count + c) ∷ h.chains c) ≤ 1
  few_on c k = ⊎_elim
      (λ (m : k ≡ count + c). omega (arith, end_apart c k m, cond_few (eqb k (count + c))))
      (λ (n : k ≡ count + c → ⊥). omega (arith, one_other k (count + c) n, h.homes c k, cond_few (is_in_chain c (slot_state states k))))
      (cases_eq k (count + c))

  -- a place is on one ring at most
  on_once : (c d k : ℕ) → 0 < occurs k ((count + c) ∷ h.chains c) → 0 < occurs k ((count + d) ∷ h.chains d) → c ≡ d
  on_once c d k l m = ⊎_elim
      (λ (e : k ≡ count + c). ⊎_elim
      (λ (f : k ≡ count + d). omega (arith, e, f))
      (λ (g : k ≡ count + d → ⊥). absurd (omega (arith, e, member_below d k (omega (arith, m, one_other k (count + d) g)))))
      (cases_eq k (count + d)))
      (λ (n : k ≡ count + c → ⊥). (let low = member_below c k (omega (arith, l, one_other k (count + c) n)) in
      let g : k ≡ count + d → ⊥ = λ f. omega (arith, f, low) in
      stands_once c d (slot_state states k) (member_stands c k (omega (arith, l, one_other k (count + c) n)))
      (member_stands d k (omega (arith, m, one_other k (count + d) g)))))
      (cases_eq k (count + c))

  off : (c d x k : ℕ) → eqb c d ≡ false → 0 < occurs x ((count + c) ∷ h.chains c) → 0 < occurs k ((count + d) ∷ h.chains d) → k ≡ x → ⊥
  off c d x k f l m e = false≢true (sym f ∙ eq-eqb c d (on_once c d k (subst (λ y. 0 < occurs y ((count + c) ∷ h.chains c)) (sym e) l) m))

  -- a place on a ring is a place
  pub on_below : (c k : ℕ) → c < 64 → 0 < occurs k ((count + c) ∷ h.chains c) → k < count + 64
  on_below c k lt l = ⊎_elim
      (λ (m : k ≡ count + c). omega (arith, m, lt))
      (λ (n : k ≡ count + c → ⊥). omega (arith, member_below c k (omega (arith, l, one_other k (count + c) n))))
      (cases_eq k (count + c))

  module _ (c i : ℕ) (ys zs : List ℕ) (lt : c < 64) (split : h.chains c ≡ ys ++ i ∷ zs) where
    ring : Path next prev (count + c) (ys ++ i ∷ zs) (count + c)
    ring = subst (λ l. Path next prev (count + c) l (count + c)) split (h.joined c lt)

    few : (k : ℕ) → occurs k ((count + c) ∷ (ys ++ i ∷ zs)) ≤ 1
    few k = subst (λ l. occurs k ((count + c) ∷ l) ≤ 1) split (few_on c k)

    pub before_on : 0 < occurs (get_or prev i 0) ((count + c) ∷ h.chains c)
    before_on = let e : get_or prev i 0 ≡ last_of (count + c) ys = path_last next prev (count + c) ys i
        (path_split next prev (count + c) ys i zs (count + c) ring).0 in
        subst (λ l. 0 < occurs (get_or prev i 0) ((count + c) ∷ l)) (sym split)
        (subst (λ x. 0 < occurs x ((count + c) ∷ (ys ++ i ∷ zs))) (sym e)
        (omega (arith, last_occurs (count + c) ys, occurs_append (last_of (count + c) ys) ys (i ∷ zs))))

    pub after_on : 0 < occurs (get_or next i 0) ((count + c) ∷ h.chains c)
    after_on = let e : get_or next i 0 ≡ first_of zs (count + c) = path_first next prev i zs (count + c)
        (path_split next prev (count + c) ys i zs (count + c) ring).1 in
        subst (λ l. 0 < occurs (get_or next i 0) ((count + c) ∷ l)) (sym split)
        (subst (λ x. 0 < occurs x ((count + c) ∷ (ys ++ i ∷ zs))) (sym e)
        (omega (arith, first_occurs zs (count + c), occurs_append (first_of zs (count + c)) ys (i ∷ zs))))

    member : 0 < occurs i (h.chains c)
    member = subst (λ l. 0 < occurs i l) (sym split) (omega (arith, one_same i, occurs_append i ys (i ∷ zs)))

    pub out_joined : (d : ℕ) → d < 64 → Path (set next (get_or prev i 0) (get_or next i 0)) (set prev (get_or next i 0) (get_or prev i 0))
        (count + d) (put_chain h.chains c (ys ++ zs) d) (count + d)
    out_joined d l = chosen (λ xs. Path N P (count + d) xs (count + d)) (eqb c d) _ _
        (λ e. subst (λ x. Path N P (count + x) (ys ++ zs) (count + x)) (eqb-true c d e)
        (path_out next prev (count + c) ys i zs ring few (omega (arith, on_below c p lt before_on, h.next_len))
        (omega (arith, on_below c q lt after_on, h.prev_len))))
        (λ f. path_kept next prev N P (count + d) (h.chains d) (count + d)
        (λ k m. get_or-set_other next p k q 0 (off c d p k f before_on m))
        (λ k m. get_or-set_other prev q k p 0 (off c d q k f after_on m)) (h.joined d l))
      where
        p : ℕ
        p = get_or prev i 0

        q : ℕ
        q = get_or next i 0

        N : List ℕ
        N = set next p q

        P : List ℕ
        P = set prev q p

    pub out_homes : (s : Assignment) → ((d : ℕ) → is_in_chain d s ≡ false) → (d k : ℕ)
        → occurs k (put_chain h.chains c (ys ++ zs) d) ≡ cond (is_in_chain d (slot_state (set states i s) k)) 1 0
    out_homes s free d = homes_set states i s d (put_chain h.chains c (ys ++ zs) d) (omega (arith, member_below c i member, h.states_len))
        (gone ∙ sym (ap counted (free d))) (λ k n. same k n ∙ h.homes d k)
      where
        gone : occurs i (put_chain h.chains c (ys ++ zs) d) ≡ 0
        gone = chosen (λ xs. occurs i xs ≡ 0) (eqb c d) _ _
            (λ e. omega (arith, few i, one_same i, occurs_append i ys (i ∷ zs), occurs_append i ys zs))
            (λ f. let no : 0 < occurs i (h.chains d) → ⊥ = λ l. false≢true (sym f
            ∙ eq-eqb c d (stands_once c d (slot_state states i) (member_stands c i member) (member_stands d i l))) in
            omega (arith, no))

        same : (k : ℕ) → (k ≡ i → ⊥) → occurs k (put_chain h.chains c (ys ++ zs) d) ≡ occurs k (h.chains d)
        same k n = chosen (λ xs. occurs k xs ≡ occurs k (h.chains d)) (eqb c d) _ _
            (λ e. let less : occurs k (ys ++ zs) ≡ occurs k (ys ++ i ∷ zs) =
            omega (arith, one_other k i n, occurs_append k ys (i ∷ zs), occurs_append k ys zs) in
            less ∙ ap (occurs k) (sym split) ∙ ap (λ x. occurs k (h.chains x)) (eqb-true c d e))
            (λ f. refl)

    -- the slot is taken out of its chain, and becomes free
    abbrev pub taken_out : (s : Assignment) → ((d : ℕ) → is_in_chain d s ≡ false)
        → IsChained count (set states i s) (set next (get_or prev i 0) (get_or next i 0)) (set prev (get_or next i 0) (get_or prev i 0))
    taken_out s free = record {
      few = h.few;
      states_len = length-set states i s ∙ h.states_len;
      next_len = length-set next (get_or prev i 0) (get_or next i 0) ∙ h.next_len;
      prev_len = length-set prev (get_or next i 0) (get_or prev i 0) ∙ h.prev_len;
      chains = put_chain h.chains c (ys ++ zs);
      joined = out_joined;
      homes = out_homes s free;
    }

  -- a free slot is put in front of a chain, by a state that stands there
  module _ (c i : ℕ) (s : Assignment) (lt : c < 64) (inside : i < count) (free : (d : ℕ) → is_in_chain d (slot_state states i) ≡ false)
      (stands : (d : ℕ) → is_in_chain d s ≡ eqb c d) where
    nowhere : (d : ℕ) → occurs i ((count + d) ∷ h.chains d) ≡ 0
    nowhere d = let apart : i ≡ count + d → ⊥ = λ e. omega (arith, e, inside) in
        omega (arith, one_other i (count + d) apart, h.homes d i ∙ ap counted (free d))

    pub first_on : 0 < occurs (get_or next (count + c) 0) ((count + c) ∷ h.chains c)
    first_on =
        let e : get_or next (count + c) 0 ≡ first_of (h.chains c) (count + c) = path_first next prev (count + c) (h.chains c)
        (count + c) (h.joined c lt) in
        subst (λ x. 0 < occurs x ((count + c) ∷ h.chains c)) (sym e) (first_occurs (h.chains c) (count + c))

    end_on : 0 < occurs (count + c) ((count + c) ∷ h.chains c)
    end_on = omega (arith, one_same (count + c))

    missed : (d k : ℕ) → 0 < occurs k ((count + d) ∷ h.chains d) → k ≡ i → ⊥
    missed d k l e = omega (arith, l, nowhere d, ap (λ x. occurs x ((count + d) ∷ h.chains d)) e)

    pub in_joined : (d : ℕ) → d < 64
        → Path (set (set next i (get_or next (count + c) 0)) (count + c) i) (set (set prev i (count + c)) (get_or next (count + c) 0) i)
        (count + d) (put_chain h.chains c (i ∷ h.chains c) d) (count + d)
    in_joined d l = chosen (λ xs. Path N P (count + d) xs (count + d)) (eqb c d) _ _
        (λ e. subst (λ x. Path N P (count + x) (i ∷ h.chains c) (count + x)) (eqb-true c d e)
        (path_in next prev (count + c) i (h.chains c) (h.joined c lt) (few_on c) (nowhere c) (omega (arith, inside, h.next_len))
        (omega (arith, lt, h.next_len)) (omega (arith, inside, h.prev_len)) (omega (arith, on_below c f lt first_on, h.prev_len))))
        (λ g. path_kept next prev N P (count + d) (h.chains d) (count + d)
        (λ k m. get_or-set_other (set next i f) (count + c) k i 0 (off c d (count + c) k g end_on m)
        ∙ get_or-set_other next i k f 0 (missed d k m))
        (λ k m. get_or-set_other (set prev i (count + c)) f k i 0 (off c d f k g first_on m)
        ∙ get_or-set_other prev i k (count + c) 0 (missed d k m)) (h.joined d l))
      where
        f : ℕ
        f = get_or next (count + c) 0

        N : List ℕ
        N = set (set next i f) (count + c) i

        P : List ℕ
        P = set (set prev i (count + c)) f i

    pub in_homes : (d k : ℕ) → occurs k (put_chain h.chains c (i ∷ h.chains c) d) ≡ cond (is_in_chain d (slot_state (set states i s) k)) 1 0
    in_homes d = homes_set states i s d (put_chain h.chains c (i ∷ h.chains c) d) (omega (arith, inside, h.states_len))
        (here ∙ sym (ap counted (stands d))) (λ k n. same k n ∙ h.homes d k)
      where
        here : occurs i (put_chain h.chains c (i ∷ h.chains c) d) ≡ counted (eqb c d)
        here = chosen (λ xs. occurs i xs ≡ counted (eqb c d)) (eqb c d) _ _
            (λ e. let once : occurs i (i ∷ h.chains c) ≡ 1 = omega (arith, one_same i, nowhere c) in once ∙ sym (ap counted e))
            (λ f. let none : occurs i (h.chains d) ≡ 0 = omega (arith, nowhere d) in none ∙ sym (ap counted f))

        same : (k : ℕ) → (k ≡ i → ⊥) → occurs k (put_chain h.chains c (i ∷ h.chains c) d) ≡ occurs k (h.chains d)
        same k n = chosen (λ xs. occurs k xs ≡ occurs k (h.chains d)) (eqb c d) _ _
            (λ e. let less : occurs k (i ∷ h.chains c) ≡ occurs k (h.chains c) = omega (arith, one_other k i n) in
            less ∙ ap (λ x. occurs k (h.chains x)) (eqb-true c d e))
            (λ f. refl)

    abbrev pub put_in : IsChained count (set states i s) (set (set next i (get_or next (count + c) 0)) (count + c) i)
        (set (set prev i (count + c)) (get_or next (count + c) 0) i)
    put_in = record {
      few = h.few;
      states_len = length-set states i s ∙ h.states_len;
      next_len = length-set (set next i (get_or next (count + c) 0)) (count + c) i
          ∙ length-set next i (get_or next (count + c) 0) ∙ h.next_len;
      prev_len = length-set (set prev i (count + c)) (get_or next (count + c) 0) i ∙ length-set prev i (count + c) ∙ h.prev_len;
      chains = put_chain h.chains c (i ∷ h.chains c);
      joined = in_joined;
      homes = in_homes;
    }

  -- a slot takes another state that stands where the old one did
  abbrev pub stayed : (i : ℕ) (s : Assignment) → i < count → ((d : ℕ) → is_in_chain d s ≡ is_in_chain d (slot_state states i))
      → IsChained count (set states i s) next prev
  stayed i s inside alike = record {
    few = h.few;
    states_len = length-set states i s ∙ h.states_len;
    next_len = h.next_len;
    prev_len = h.prev_len;
    chains = h.chains;
    joined = h.joined;
    homes = λ d. homes_set states i s d (h.chains d) (omega (arith, inside, h.states_len)) (h.homes d i ∙ ap counted (sym (alike d)))
        (λ k n. h.homes d k);
  }
