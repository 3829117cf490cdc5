-- A walk along one chain that changes each state on its way.
use Rattle.distributor.proofs.Common.{Bool, List, None, Option, Some, [], ap, append_assoc, arith, cond, eq-eqb, eqb, eqb-true, false, get_or, inl}
use Rattle.distributor.proofs.Common.{inr, length, ltb, map, refl, replicate, set, subst, suc, sym, true, zero, ℕ, ⊎_elim, ◌&&◌, ◌++◌, ◌+◌, ◌<◌, ◌^◌}
use Rattle.distributor.proofs.Common.{◌∙◌, ◌∷◌, ◌≡◌, ◌≤◌, ◌⊎◌, and_left, and_right, cases_Bool, cases_eq, cond-false, cond-true, false≢true, lt-ltb}
use Rattle.distributor.proofs.Common.{ne_eqb, ext_get_or, get_or-map, get_or-replicate, get_or-set_other, get_or-set_same, get_or_past, get_or_read}
use Rattle.distributor.proofs.Common.{length-map, length-replicate, Assignment, Free, Change, IsChained, Path, assignment_port, changed_in_chain}
use Rattle.distributor.proofs.Common.{is_in_chain, occurs, passes, slot_state, after_change}
use Rattle.distributor.specs.Conversations.{sum_below}
use Rattle.distributor.proofs.FoldLemmas.{fold_same, sum_fold}
use Rattle.distributor.proofs.ChainLemmas.{last_of, first_of, one, one_same, one_other, occurs_append, path_first, path_split, stands_none}
use Rattle.distributor.proofs.ChainLemmas.{member_stands, member_below, few_on, on_below, before_on, after_on, taken_out, stayed}

abbrev pub after_first : List ℕ → List ℕ
after_first [] = []
after_first (x ∷ xs) = xs

pub split_first : (rest : List ℕ) (at e : ℕ) → at ≡ first_of rest e → (at ≡ e → ⊥) → rest ≡ at ∷ after_first rest
split_first rest at e m n = grind arith

-- how many steps the links lead from a place to the end, at most so many
abbrev pub steps : List ℕ → ℕ → ℕ → ℕ → ℕ
steps next end zero at = 0
steps next end (suc fuel) at = cond (eqb at end) 0 (1 + steps next end fuel (get_or next at 0))

pub steps_path : (next prev : List ℕ) (a : ℕ) (xs : List ℕ) (end fuel : ℕ) → Path next prev a xs end → occurs end xs ≡ 0 → length xs ≤ fuel
    → steps next end fuel (first_of xs end) ≡ length xs
steps_path next prev a [] end zero h none long = refl
steps_path next prev a [] end (suc fuel) h none long = cond-true (eqb end end) 0 _ (eq-eqb end end refl)
steps_path next prev a (x ∷ xs) end zero h none long = absurd (omega arith)
steps_path next prev a (x ∷ xs) end (suc fuel) h none long =
    let apart : x ≡ end → ⊥ = λ e. omega (arith, none, one_same end, ap (one end) e) in
    let rest = ap (steps next end fuel) (path_first next prev x xs end h.1)
    ∙ steps_path next prev x xs end fuel h.1 (omega (arith, none)) (omega arith) in
    cond-false (eqb x end) 0 _ (ne_eqb x end apart) ∙ omega (arith, rest)

-- ---- sums

pub same_sum : (f h : ℕ → ℕ) (n : ℕ) → ((k : ℕ) → k < n → f k ≡ h k) → sum_below f n ≡ sum_below h n
same_sum = fold_same sum_fold

-- one term is greater
pub greater_sum : (f h : ℕ → ℕ) (n k d : ℕ) → k < n → f k ≡ d + h k → ((j : ℕ) → (j ≡ k → ⊥) → f j ≡ h j) → sum_below f n ≡ d + sum_below h n
unfolding sum_below
greater_sum f h zero k d lt at others = absurd (omega arith)
greater_sum f h (suc n) k d lt at others = elim (cases_Bool (eqb n k)) [
  | inl e ↦ (let m : n ≡ k = eqb-true n k e in
      let here : f n ≡ d + h n = ap f m ∙ at ∙ ap (λ j. d + h j) (sym m) in
      let rest = same_sum f h n (λ j lt. others j (λ i. omega arith)) in
      omega (arith, here, rest))
  | inr e ↦ (let apart : n ≡ k → ⊥ = λ m. false≢true (sym e ∙ eq-eqb n k m) in
      let below : k < n = omega (arith, apart) in
      let rest = greater_sum f h n k d below at others in
      let here = others n apart in
      omega (arith, here, rest))
]

pub small_sum : (f : ℕ → ℕ) (n : ℕ) → ((k : ℕ) → f k ≤ 1) → sum_below f n ≤ n
unfolding sum_below
small_sum f zero few = omega arith
small_sum f (suc n) few = omega (arith, small_sum f n few, few n)

pub none_sum : (n : ℕ) → sum_below (λ k. 0) n ≡ 0
unfolding sum_below
none_sum zero = refl
none_sum (suc n) = omega (arith, none_sum n)

length_sum : (xs : List ℕ) (n : ℕ) → ((k : ℕ) → 0 < occurs k xs → k < n) → sum_below (λ k. occurs k xs) n ≡ length xs
length_sum [] n below = none_sum n
length_sum (x ∷ xs) n below =
    let more = greater_sum (λ k. occurs k (x ∷ xs)) (λ k. occurs k xs) n x 1 (below x (omega (arith, one_same x)))
    (omega (arith, one_same x)) (λ j m. omega (arith, one_other j x m)) in
    let rest = length_sum xs n (λ k l. below k (omega (arith, l))) in
    omega (arith, more, rest)

-- numbers below n that come once are n at most
pub few_long : (xs : List ℕ) (n : ℕ) → ((k : ℕ) → occurs k xs ≤ 1) → ((k : ℕ) → 0 < occurs k xs → k < n) → length xs ≤ n
few_long xs n once below = omega (arith, length_sum xs n below, small_sum (λ k. occurs k xs) n once)

-- ---- changes

pub stands_alike : (d : ℕ) (s t : Assignment) (o : Option ℕ) → assignment_port s ≡ o → assignment_port t ≡ o → is_in_chain d s ≡ is_in_chain d t
stands_alike d s t o h k = grind arith

path_drop : (next prev : List ℕ) (a : ℕ) (ys rest : List ℕ) (b : ℕ) → Path next prev a (ys ++ rest) b → Path next prev (last_of a ys) rest b
path_drop next prev a [] rest b h = h
path_drop next prev a (y ∷ ys) rest b h = path_drop next prev y ys rest b h.1

-- a walk along a chain that ends at `end` has come to the place `at`
pub record Standing (chain count : ℕ) (states : List Assignment) (next prev : List ℕ) (end at : ℕ) : Type 0 where
  pub chained : IsChained count states next prev
  pub lt : chain < 64
  pub ended : end ≡ count + chain
  pub front : List ℕ
  pub rest : List ℕ
  pub split : chained.chains chain ≡ front ++ rest
  pub here : at ≡ first_of rest end

abbrev pub stand_first : {count : ℕ} {states : List Assignment} {next prev : List ℕ} (h : IsChained count states next prev)
    (chain end at : ℕ) → chain < 64 → end ≡ count + chain → at ≡ get_or next end at → Standing chain count states next prev end at
stand_first {count} {states} {next} {prev} h chain end at lt e read = record {
  chained = h;
  lt = lt;
  ended = e;
  front = [];
  rest = h.chains chain;
  split = refl;
  here = get_or_read next end at (omega (arith, h.next_len, lt)) read 0
      ∙ path_first next prev end (h.chains chain) end (subst (λ x. Path next prev x (h.chains chain) x) (sym e) (h.joined chain lt));
}

module _ {chain count : ℕ} {states : List Assignment} {next prev : List ℕ} {end at : ℕ}
    (w : Standing chain count states next prev end at) where
  few_rest : (k : ℕ) → occurs k w.rest ≤ 1
  few_rest k = omega (arith, few_on _ _ _ _ w.chained chain k, ap (occurs k) w.split, occurs_append k w.front w.rest)

  rest_below : (k : ℕ) → 0 < occurs k w.rest → k < count
  rest_below k l = member_below _ _ _ _ w.chained chain k (omega (arith, l, ap (occurs k) w.split, occurs_append k w.front w.rest))

  no_end : occurs end w.rest ≡ 0
  no_end = let no : 0 < occurs end w.rest → ⊥ = λ l. omega (arith, rest_below end l, w.ended) in
      omega (arith, no)

  ring : Path next prev end (w.front ++ w.rest) end
  ring = subst (λ e. Path next prev e (w.front ++ w.rest) e) (sym w.ended)
      (subst (λ l. Path next prev (count + chain) l (count + chain)) w.split (w.chained.joined chain w.lt))

  pub steps_left : steps next end count at ≡ length w.rest
  steps_left = ap (steps next end count) w.here
      ∙ steps_path next prev (last_of end w.front) w.rest end count (path_drop next prev end w.front w.rest end ring) no_end
      (few_long w.rest count few_rest rest_below)

  pub walk_over : at ≡ end → w.rest ≡ []
  walk_over e = over w.rest w.here no_end
    where
      over : (rest : List ℕ) → at ≡ first_of rest end → occurs end rest ≡ 0 → rest ≡ []
      over [] m z = refl
      over (x ∷ xs) m z = absurd (omega (arith, z, one_same end, ap (one end) (sym m ∙ e)))

  module _ (n : at ≡ end → ⊥) where
    on : w.rest ≡ at ∷ after_first w.rest
    on = split_first w.rest at end w.here n

    pub walk_split : w.chained.chains chain ≡ w.front ++ at ∷ after_first w.rest
    walk_split = w.split ∙ ap (λ l. w.front ++ l) on

    pub comes : occurs at w.rest ≡ 1
    comes = omega (arith, few_rest at, ap (occurs at) on, one_same at)

    pub walk_below : at < count
    walk_below = rest_below at (omega (arith, comes))

    pub walk_once : occurs at (after_first w.rest) ≡ 0
    walk_once = omega (arith, few_rest at, ap (occurs at) on, one_same at)

    pub less_rest : (k : ℕ) → (k ≡ at → ⊥) → occurs k w.rest ≡ occurs k (after_first w.rest)
    less_rest k m = omega (arith, ap (occurs k) on, one_other k at m)

    walk_shorter : length (after_first w.rest) < length w.rest
    walk_shorter = omega (arith, ap length on)

    -- what is read at this place
    pub read_state : (s : Assignment) → s ≡ get_or states at s → s ≡ slot_state states at
    read_state s r = get_or_read states at s (omega (arith, walk_below, w.chained.states_len)) r (Free None)

    pub read_next : (place : ℕ) → place ≡ get_or next at place → place ≡ first_of (after_first w.rest) end
    read_next place r = get_or_read next at place (omega (arith, walk_below, w.chained.next_len)) r 0
        ∙ path_first next prev at (after_first w.rest) end
        (path_split next prev end w.front at (after_first w.rest) end
        (subst (λ l. Path next prev end (w.front ++ l) end) on ring)).1

    pub stands_here : is_in_chain chain (slot_state states at) ≡ true
    stands_here = member_stands _ _ _ _ w.chained chain at
        (omega (arith, comes, ap (occurs at) w.split, occurs_append at w.front w.rest))

    pub walk_after : get_or next at 0 < count + 64
    walk_after = on_below _ _ _ _ w.chained chain _ w.lt
        (after_on _ _ _ _ w.chained chain at w.front (after_first w.rest) w.lt walk_split)

    pub walk_before : get_or prev at 0 < count + 64
    walk_before = on_below _ _ _ _ w.chained chain _ w.lt
        (before_on _ _ _ _ w.chained chain at w.front (after_first w.rest) w.lt walk_split)

    module _ (place : ℕ) (read : place ≡ get_or next at place) where
      -- the walk goes on, and nothing changes
      abbrev pub stand_next : Standing chain count states next prev end place
      stand_next = record {
        chained = w.chained;
        lt = w.lt;
        ended = w.ended;
        front = w.front ++ at ∷ [];
        rest = after_first w.rest;
        split = walk_split ∙ sym (append_assoc w.front (at ∷ []) (after_first w.rest));
        here = read_next place read;
      }

      -- the state at this place stays in its chain
      abbrev pub stand_stays : (new : Assignment) → assignment_port new ≡ assignment_port (slot_state states at)
          → Standing chain count (set states at new) next prev end place
      stand_stays new same = record {
        chained = stayed _ _ _ _ w.chained at new walk_below (λ d. stands_alike d _ _ (assignment_port (slot_state states at)) same refl);
        lt = w.lt;
        ended = w.ended;
        front = w.front ++ at ∷ [];
        rest = after_first w.rest;
        split = walk_split ∙ sym (append_assoc w.front (at ∷ []) (after_first w.rest));
        here = read_next place read;
      }

      -- the state at this place leaves its chain
      pub stand_leaves : (new : Assignment) → assignment_port new ≡ None → (next' prev' : List ℕ)
          → next' ≡ set next (get_or prev at 0) (get_or next at 0) → prev' ≡ set prev (get_or next at 0) (get_or prev at 0)
          → (v : Standing chain count (set states at new) next' prev' end place) × (v.rest ≡ after_first w.rest)
      stand_leaves new free next' prev' nexts prevs = rw (nexts, prevs) (
        record {
          chained = taken_out _ _ _ _ w.chained chain at w.front (after_first w.rest) w.lt walk_split new (λ d. stands_none d _ free);
          lt = w.lt;
          ended = w.ended;
          front = w.front;
          rest = after_first w.rest;
          split = cond-true (eqb chain chain) (w.front ++ after_first w.rest) (w.chained.chains chain) (eq-eqb chain chain refl);
          here = read_next place read;
        },
        refl,
      )

-- the walk goes on from a place to the next one
module _ {chain count : ℕ} {states states' : List Assignment} {next prev next' prev' : List ℕ} {end at place : ℕ}
    (w : Standing chain count states next prev end at) (n : at ≡ end → ⊥)
    (v : Standing chain count states' next' prev' end place) (left : v.rest ≡ after_first w.rest) where
  pub steps_fewer : steps next' end count place < steps next end count at
  steps_fewer = omega (arith, steps_left v, ap length left, walk_shorter w n, steps_left w)

-- a walk along a chain changes each state by f; found says which states it may have left
pub record Walking (chain : ℕ) (f : Assignment → Assignment) (count : ℕ) (olds states : List Assignment) (next prev : List ℕ) (end at : ℕ)
    (found : Assignment → Bool) : Type 0 where
  pub standing : Standing chain count states next prev end at
  pub olds_len : length olds ≡ count
  pub changed : (k : ℕ) → slot_state states k ≡ cond (ltb 0 (occurs k standing.rest)) (slot_state olds k) (changed_in_chain chain f (slot_state olds k))
  pub noted : (k : ℕ) → occurs k standing.rest ≡ 0 → is_in_chain chain (slot_state states k) ≡ true → found (slot_state states k) ≡ true

abbrev pub walk_begins : {count : ℕ} {states : List Assignment} {next prev : List ℕ} (h : IsChained count states next prev)
    (chain end at : ℕ) → chain < 64 → end ≡ count + chain → at ≡ get_or next end at → (f : Assignment → Assignment)
    (found : Assignment → Bool) → Walking chain f count states states next prev end at found
walk_begins {states} h chain end at lt e read f found = record {
  standing = stand_first h chain end at lt e read;
  olds_len = h.states_len;
  changed = λ k. elim (cases_Bool (is_in_chain chain (slot_state states k))) [
    | inl e ↦ (let comes : 0 < occurs k (h.chains chain) = omega (arith, h.homes chain k ∙ ap (λ b. cond b 1 0) e) in
        sym (cond-true (ltb 0 (occurs k (h.chains chain))) _ _ (lt-ltb 0 (occurs k (h.chains chain)) comes)))
    | inr g ↦ (let none : occurs k (h.chains chain) ≡ 0 = h.homes chain k ∙ ap (λ b. cond b 1 0) g in
        sym (ap (λ n. cond (ltb 0 n) (slot_state states k) (changed_in_chain chain f (slot_state states k))) none
        ∙ cond-false (is_in_chain chain (slot_state states k)) _ _ g))
  ];
  noted = λ k none e. absurd (omega (arith, none, h.homes chain k ∙ ap (λ b. cond b 1 0) e));
}

module _ {chain : ℕ} {f : Assignment → Assignment} {count : ℕ} {olds states : List Assignment} {next prev : List ℕ} {end at : ℕ}
    {found : Assignment → Bool} (w : Walking chain f count olds states next prev end at found) where
  -- at the end every state in the chain is changed, and is one that the walk has found
  pub walk_all : at ≡ end → (k : ℕ) → slot_state states k ≡ changed_in_chain chain f (slot_state olds k)
  walk_all e k = w.changed k
      ∙ ap (λ l. cond (ltb 0 (occurs k l)) (slot_state olds k) (changed_in_chain chain f (slot_state olds k))) (walk_over w.standing e)

  pub walk_found : at ≡ end → (k : ℕ) → is_in_chain chain (slot_state states k) ≡ true → found (slot_state states k) ≡ true
  walk_found e k = w.noted k (ap (occurs k) (walk_over w.standing e))

  pub walk_ends : at ≡ end → states ≡ map (changed_in_chain chain f) olds
  walk_ends e = ext_get_or (Free None) states (map (changed_in_chain chain f) olds) (w.standing.chained.states_len ∙ sym w.olds_len
      ∙ sym (length-map olds (changed_in_chain chain f)))
      (λ k lt. walk_all e k
      ∙ sym (get_or-map (changed_in_chain chain f) olds k (Free None) (Free None)
      (omega (arith, lt, w.standing.chained.states_len, w.olds_len))))

  -- the state at this place is changed
  abbrev pub walk_on : {new : Assignment} {next' prev' : List ℕ} {place : ℕ} (n : at ≡ end → ⊥)
      (v : Standing chain count (set states at new) next' prev' end place) → v.rest ≡ after_first w.standing.rest
      → new ≡ f (slot_state states at) → (found' : Assignment → Bool) → ((s : Assignment) → found s ≡ true → found' s ≡ true)
      → found' new ≡ true → Walking chain f count olds (set states at new) next' prev' end place found'
  walk_on {new} n v left is found' more noted = record {
    standing = v;
    olds_len = w.olds_len;
    changed = λ k. ⊎_elim
        (λ (e : k ≡ at). subst (λ x. slot_state (set states at new) x ≡ cond (ltb 0 (occurs x v.rest)) (slot_state olds x)
        (changed_in_chain chain f (slot_state olds x))) (sym e)
        (written ∙ is ∙ ap f old_here
        ∙ sym (ap (λ m. cond (ltb 0 m) (slot_state olds at) (changed_in_chain chain f (slot_state olds at)))
        (ap (occurs at) left ∙ walk_once w.standing n)
        ∙ cond-true (is_in_chain chain (slot_state olds at)) _ _ (ap (is_in_chain chain) (sym old_here) ∙ stands_here w.standing n))))
        (λ (m : k ≡ at → ⊥). get_or-set_other states at k new (Free None) m ∙ w.changed k
        ∙ ap (λ x. cond (ltb 0 x) (slot_state olds k) (changed_in_chain chain f (slot_state olds k)))
        (less_rest w.standing n k m ∙ sym (ap (occurs k) left)))
        (cases_eq k at);
    noted = λ k none e. ⊎_elim
        (λ (m : k ≡ at). ap (λ x. found' (slot_state (set states at new) x)) m ∙ ap found' written ∙ noted)
        (λ (m : k ≡ at → ⊥). (let same = get_or-set_other states at k new (Free None) m in
        ap found' same ∙ more (slot_state states k)
        (w.noted k (less_rest w.standing n k m ∙ sym (ap (occurs k) left) ∙ none) (sym (ap (is_in_chain chain) same) ∙ e))))
        (cases_eq k at);
  }
    where
      written : slot_state (set states at new) at ≡ new
      written = get_or-set_same states at new (Free None) (omega (arith, walk_below w.standing n, w.standing.chained.states_len))

      old_here : slot_state states at ≡ slot_state olds at
      old_here = w.changed at ∙ ap (λ m. cond (ltb 0 m) (slot_state olds at) (changed_in_chain chain f (slot_state olds at)))
          (comes w.standing n)

abbrev Stays : Assignment → Assignment → Type 0
Stays s t = (assignment_port t ≡ None) ⊎ (assignment_port t ≡ assignment_port s)

-- a change leaves a conversation at its port, or makes it free
pub after_port : (change : Change) (s : Assignment) → (assignment_port (after_change change s) ≡ None)
    ⊎ (assignment_port (after_change change s) ≡ assignment_port s)
after_port change s = grind arith

-- if it does not become free, it stays at its port
pub port_kept : (change : Change) (s : Assignment) (port : ℕ) → assignment_port (after_change change s) ≡ Some port
    → assignment_port (after_change change s) ≡ assignment_port s
port_kept change s port h = ⊎_elim (λ e. absurd (cc)) (λ e. e) (after_port change s)

-- ---- counting

-- 1 for true
abbrev pub bit : Bool → ℕ
bit b = cond b 1 0

-- 1 for a state that passes and is not left to be looked at
abbrev pub seen : (Assignment → Bool) → List Assignment → List ℕ → ℕ → ℕ
seen p states rest k = bit (p (slot_state states k) && eqb (occurs k rest) 0)

-- a walk along a chain has counted what it has seen
pub record Counting (chain : ℕ) (p : Assignment → Bool) (count : ℕ) (states : List Assignment) (next prev : List ℕ)
    (end at n : ℕ) : Type 0 where
  pub standing : Standing chain count states next prev end at
  pub counted : n ≡ sum_below (seen p states standing.rest) count

seen_few : (p : Assignment → Bool) (states : List Assignment) (rest : List ℕ) (k : ℕ) → seen p states rest k ≤ 1
seen_few p states rest k = grind arith

and_true : (b c : Bool) → c ≡ true → (b && c) ≡ b
and_true b c h = grind arith

-- what passes stands in the chain
pub counting_begins : {count : ℕ} {states : List Assignment} {next prev : List ℕ} (h : IsChained count states next prev)
    (chain end at : ℕ) → chain < 64 → end ≡ count + chain → at ≡ get_or next end at → (p : Assignment → Bool)
    → ((s : Assignment) → is_in_chain chain s ≡ false → p s ≡ false) → Counting chain p count states next prev end at 0
counting_begins {count} {states} h chain end at lt e read p stands = record {
  standing = stand_first h chain end at lt e read;
  counted = sym (same_sum (seen p states (h.chains chain)) (λ k. 0) count (λ k l. none k) ∙ none_sum count);
}
  where
    none : (k : ℕ) → seen p states (h.chains chain) k ≡ 0
    none k = elim (cases_Bool (is_in_chain chain (slot_state states k))) [
      | inl e ↦ (let one : occurs k (h.chains chain) ≡ 1 = h.homes chain k ∙ ap bit e in
          ap bit (and_right (p (slot_state states k)) (eqb (occurs k (h.chains chain)) 0)
          (ne_eqb (occurs k (h.chains chain)) 0 (λ z. omega (arith, one, z)))))
      | inr g ↦ ap bit (and_left (p (slot_state states k)) (eqb (occurs k (h.chains chain)) 0) (stands (slot_state states k) g))
    ]

module _ {chain : ℕ} {p : Assignment → Bool} {count : ℕ} {states : List Assignment} {next prev : List ℕ} {end at m : ℕ}
    (h : Counting chain p count states next prev end at m) where
  pub counting_few : m ≤ count
  counting_few = omega (arith, h.counted, small_sum (seen p states h.standing.rest) count (seen_few p states h.standing.rest))

  pub counting_ends : at ≡ end → m ≡ sum_below (λ k. bit (p (slot_state states k))) count
  counting_ends e = h.counted ∙ same_sum (seen p states h.standing.rest) (λ k. bit (p (slot_state states k))) count (λ k l.
      ap bit (and_true (p (slot_state states k)) (eqb (occurs k h.standing.rest) 0)
      (ap (λ xs. eqb (occurs k xs) 0) (walk_over h.standing e))))

  module _ (n : at ≡ end → ⊥) where
    more : sum_below (seen p states (after_first h.standing.rest)) count ≡ bit (p (slot_state states at)) + sum_below (seen p states h.standing.rest) count
    more = greater_sum (seen p states (after_first h.standing.rest)) (seen p states h.standing.rest) count at
        (bit (p (slot_state states at))) (walk_below h.standing n) here
        (λ j m. ap (λ x. bit (p (slot_state states j) && eqb x 0)) (sym (less_rest h.standing n j m)))
      where
        here : seen p states (after_first h.standing.rest) at ≡ bit (p (slot_state states at)) + seen p states h.standing.rest at
        here = let left = ap bit (and_true (p (slot_state states at)) (eqb (occurs at (after_first h.standing.rest)) 0)
            (eq-eqb (occurs at (after_first h.standing.rest)) 0 (walk_once h.standing n)))
            in
            let right = ap bit (and_right (p (slot_state states at)) (eqb (occurs at h.standing.rest) 0)
            (ne_eqb (occurs at h.standing.rest) 0 (λ z. omega (arith, z, comes h.standing n)))) in
            omega (arith, left, right)

    pub counting_on : (b : Bool) (m' place : ℕ) → p (slot_state states at) ≡ b → m' ≡ bit b + m → place ≡ get_or next at place
        → Counting chain p count states next prev end place m'
    counting_on b m' place e f read = record {
      standing = stand_next h.standing n place read;
      counted = f ∙ ap (λ x. bit b + x) h.counted
          ∙ sym (more ∙ ap (λ x. bit x + sum_below (seen p states h.standing.rest) count) e);
    }

-- past the last slot a state reads as free
pub free_past : (count : ℕ) (states : List Assignment) → length states ≡ count → ((k : ℕ) → k < count → slot_state states k ≡ Free None)
    → (k : ℕ) → slot_state states k ≡ Free None
free_past count states long free k = grind (arith, get_or_past)

-- if the end of every chain is a ring of its own and every slot is free, the slots are chained
pub all_free : (count : ℕ) (states : List Assignment) (next prev : List ℕ) → count + 64 < 2 ^ 32 → length states ≡ count → length next ≡ count + 64
    → length prev ≡ count + 64 → ((k : ℕ) → count ≤ k → k < count + 64 → get_or next k 0 ≡ k) → ((k : ℕ) → count ≤ k → k < count + 64 → get_or prev k 0 ≡ k)
    → ((k : ℕ) → k < count → slot_state states k ≡ Free None) → IsChained count states next prev
all_free count states next prev few long nexts_long prevs_long nexts prevs free = record {
  few = few;
  states_len = long;
  next_len = nexts_long;
  prev_len = prevs_long;
  chains = λ c. [];
  joined = λ c lt. (nexts (count + c) (omega arith) (omega (arith, lt)), prevs (count + c) (omega arith) (omega (arith, lt)));
  homes = λ c k. sym (ap (λ s. bit (is_in_chain c s)) (free_past count states long free k));
}
