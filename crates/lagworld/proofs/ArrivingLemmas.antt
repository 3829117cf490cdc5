-- An item arrives, step by step.
use Rattle.lagworld.proofs.Common.{Bool, IsSomeAnd, List, None, Option, Result, Some, [], ap, arith, cond, drop, false, get_or, length, map, nat_lt}
use Rattle.lagworld.proofs.Common.{not, option_map, position, refl, set, slice_get, slice_set, subst, suc, sym, true, zero, ℕ, ◌+◌, ◌<◌, ◌==◌, ◌∙◌}
use Rattle.lagworld.proofs.Common.{◌∷◌, ◌≡◌, ◌≤◌, true≢false, nat_tests, length-set, map-set, set_past, cond_some, none-some, same_Some}
use Rattle.lagworld.proofs.Common.{slice_get-map, slice_get_read, position_or_len, IfSome, Lacpdu, lacpdu_in, Side, Item, Stamp, SystemFault}
use Rattle.lagworld.proofs.Common.{Received, Receive, CallPromise, SystemState, PortHistory, StampedLacpdu, Cabled, Reply, CarriesLacpdu, Concludes}
use Rattle.lagworld.proofs.Common.{HalfReceives, HalfReceivesFirst, IsToRecord, WorldDelivers, WorldReceivesFirst, WorldRepeats, first_head, head_in}
use Rattle.lagworld.proofs.Common.{history_index, is_data, last_lacpdu_recorded, Algorithms, DeliversFrom, InHalf, RepeatsFrom, WorldReceives}
use Rattle.lagworld.proofs.Common.{set_last_lacpdu, stamped_in, set_taken, link_state, link_states, item_value, payload_in, stamp_count, IsReserved}
use Rattle.lagworld.proofs.Common.{is_reserved, FlowValue, HalfState, ItemValue, LinkState, WorldState, link_index, port_at, towards, with_links}
use Rattle.lagworld.proofs.Common.{with_towards, without_first}
use Rattle.lagworld.proofs.Effects.{told}
use Rattle.cables.specs.declared.item.Stamp.TheVariants as stamp
use Rattle.lagsystem.specs.declared.received.Received.TheVariants as received
use Rattle.lagsystem.specs.declared.drive.Reply.TheVariants as answer
use Rattle.lagworld.specs.declared.delivering.Head.{Head}
use Rattle.lagworld.proofs.LineLemmas.{on_place, seen_at}
use Rattle.lagworld.proofs.Arrives.{lacpdu_read}

abbrev make_heard : Lacpdu → ℕ → StampedLacpdu
make_heard v n = record { pdu = v; stamp = n }

abbrev make_head : ℕ → Stamp → Head
make_head p st = record { port = p; stamp = st }

-- what is to be kept of it
pub heard_is : (octets b : List ℕ) (st : Stamp) (found v : Lacpdu) (n : ℕ) → CarriesLacpdu octets v → b ≡ octets
    → ((v : Lacpdu) → CarriesLacpdu b v → Some found ≡ Some v) → n ≡ stamp_count st
    → Some (make_heard found n) ≡ Some (stamped_in (record { octets = octets; stamp = st }))
heard_is octets b st found v n h same only e = grind (arith, nat_tests, same_Some, make_heard, lacpdu_read, payload_in, lacpdu_in)

pub none_heard : (octets b : List ℕ) (v : Lacpdu) → CarriesLacpdu octets v → b ≡ octets → ((v : Lacpdu) → CarriesLacpdu b v → None ≡ Some v) → ⊥
none_heard octets b v h same only = none-some v (only v (subst (λ b. CarriesLacpdu b v) (sym same) h))

heard_next : (p : ℕ) (lacpdu : StampedLacpdu) (d history : PortHistory) (histories : List PortHistory) (rest : ℕ) (b : Bool)
    → set_last_lacpdu p lacpdu histories ≡ set histories rest (set_taken lacpdu (get_or histories rest d))
    → cond b (set_taken lacpdu history ∷ histories) (history ∷ set_last_lacpdu p lacpdu histories) ≡ set (history ∷ histories)
    (cond (not b) (1 + rest) 0) (set_taken lacpdu (get_or (history ∷ histories) (cond (not b) (1 + rest) 0) d))
heard_next p lacpdu d history histories rest b ih = grind (arith, nat_tests)

-- the history of the first port with the number
pub heard_at : (p : ℕ) (lacpdu : StampedLacpdu) (d : PortHistory) (histories : List PortHistory)
    → set_last_lacpdu p lacpdu histories ≡ set histories (position_or_len (λ history. history.number == p) histories)
    (set_taken lacpdu (get_or histories (position_or_len (λ history. history.number == p) histories) d))
heard_at p lacpdu d [] = refl
heard_at p lacpdu d (history ∷ histories) = heard_next p lacpdu d history histories
    (position_or_len (λ history. history.number == p) histories) (history.number == p) (heard_at p lacpdu d histories)

pub heard_found : (p : ℕ) (lacpdu : StampedLacpdu) (histories : List PortHistory) (i : ℕ) (history : PortHistory) → Some i ≡ history_index p histories
    → history ≡ get_or histories i history → set histories i (set_taken lacpdu history) ≡ set_last_lacpdu p lacpdu histories
heard_found p lacpdu histories i history found read = grind (arith, nat_tests, cond_some, nat_lt, position_or_len, set, set_taken, heard_at, get_or)

pub heard_nowhere : (p : ℕ) (lacpdu : StampedLacpdu) (histories : List PortHistory) → None ≡ history_index p histories
    → histories ≡ set_last_lacpdu p lacpdu histories
heard_nowhere p lacpdu [] none = refl
heard_nowhere p lacpdu (history ∷ histories) none = sym (heard_at p lacpdu history (history ∷ histories)
    ∙ set_past (history ∷ histories) (position_or_len (λ l. l.number == p) (history ∷ histories)) _
    (past (position_or_len (λ l. l.number == p) (history ∷ histories)) (length (history ∷ histories))
    (nat_lt (position_or_len (λ l. l.number == p) (history ∷ histories)) (length (history ∷ histories))) refl none))
  where
    past : (n m : ℕ) (b : Bool) → nat_lt n m ≡ b → None ≡ cond b (Some n) None → m ≤ n
    past n m true e h = absurd (none-some n h)
    past n m false e h = grind (arith, nat_tests)

abbrev make_half : SystemState → List PortHistory → List (List FlowValue) → HalfState
make_half state histories flows = record { state = state; histories = histories; flows = flows }

pub comes_from : (gives : ℕ → ℕ → ℕ → Type 0) (p : ℕ) (item : ItemValue) (a : Result Received SystemFault) (b : List ℕ)
    (lacpdu : Option StampedLacpdu) (old : HalfState) (state : SystemState) (histories : List PortHistory)
    → b ≡ item.octets → CallPromise gives old.state (Receive p b) (answer.Receive a) state
    → IsToRecord a item lacpdu → histories ≡ last_lacpdu_recorded p lacpdu old.histories
    → HalfReceives gives p item a old (make_half state histories old.flows)
comes_from gives p item a b lacpdu old state histories same answers h e = grind (arith, nat_tests)

-- the first item on a cable
pub told_first : (p : ℕ) (xs : List Item) (x : Item) → Some x ≡ slice_get xs 0 → Some (make_head p x.stamp) ≡ first_head p (map item_value xs)
told_first p [] x h = absurd (none-some x (sym h))
told_first p (y ∷ ys) x h = ap (λ (z : Item). Some (make_head p z.stamp)) (same_Some x y h)

pub told_none : (p : ℕ) (xs : List Item) → None ≡ slice_get xs 0 → None ≡ first_head p (map item_value xs)
told_none p [] h = refl
told_none p (y ∷ ys) h = absurd (none-some y h)

pub first_comes : (gives : ℕ → ℕ → ℕ → Type 0) (p : ℕ) (xs : List Item) (x : Item) (a : Result Received SystemFault) (old new : HalfState)
    → Some x ≡ slice_get xs 0 → HalfReceives gives p (item_value x) a old new → HalfReceivesFirst gives p (map item_value xs) (Some a) old new
first_comes gives p [] x a old new h k = absurd (none-some x (sym h))
first_comes gives p (y ∷ ys) x a old new h k = subst (λ (z : Item). HalfReceives gives p (item_value z) a old new) (same_Some x y h) k

pub none_comes : (gives : ℕ → ℕ → ℕ → Type 0) (p : ℕ) (xs : List Item) (old : HalfState) → None ≡ slice_get xs 0
    → HalfReceivesFirst gives p (map item_value xs) None old old
none_comes gives p [] old h = (refl, refl)
none_comes gives p (y ∷ ys) old h = absurd (none-some y h)

-- what was read of a cable at a place, and written there
pub taken_at : {X Y : Type 0} (f : X → Y) (h : Y → Y) (P : Y → Type 0) (xs : List X) (i : ℕ) (x new : X) → i < length xs → x ≡ get_or xs i x → P (f x)
    → f new ≡ h (f x) → IsSomeAnd (slice_get (map f xs) i) (λ y. P y × (map f (set xs i new) ≡ set (map f xs) i (h y)))
taken_at f h P xs i x new lt read told e = seen_at f _ xs i x lt read (told, map-set f xs i new ∙ ap (set (map f xs) i) e)

-- the first that is found, after something was written that is found as what was there
same_place : {X : Type 0} (q : X → Bool) (xs : List X) (i : ℕ) (x new : X) → slice_get xs i ≡ Some x → q new ≡ q x
    → position_or_len q (set xs i new) ≡ position_or_len q xs
same_place q [] i x new h e = refl
same_place q (y ∷ ys) zero x new h e = ap (λ b. cond (not b) (1 + position_or_len q ys) 0) (e ∙ ap q (sym (same_Some y x h)))
same_place q (y ∷ ys) (suc i) x new h e = ap (λ n. cond (not (q y)) (1 + n) 0) (same_place q ys i x new h e)

same_position : {X : Type 0} (q : X → Bool) (xs : List X) (i : ℕ) (x new : X) → slice_get xs i ≡ Some x → q new ≡ q x
    → position q (set xs i new) ≡ position q xs
same_position q xs i x new h e = grind (arith, nat_tests, nat_lt, set, same_place, position_or_len, length-set)

holds_after : {X : Type 0} (Q : X → Type 0) (xs : List X) (i k : ℕ) (x new : X) → slice_get xs i ≡ Some x → (Q x → Q new)
    → IfSome (slice_get xs k) Q → IfSome (slice_get (set xs i new) k) Q
holds_after Q [] i k x new h w there = there
holds_after Q (y ∷ ys) zero zero x new h w there = w (subst Q (same_Some y x h) there)
holds_after Q (y ∷ ys) zero (suc k) x new h w there = there
holds_after Q (y ∷ ys) (suc i) zero x new h w there = there
holds_after Q (y ∷ ys) (suc i) (suc k) x new h w there = holds_after Q ys i k x new h w there

-- what is reserved for a system stays so if the first item towards it is taken off
pub still_reserved : {C : Type 0} (items : C → List Item) (limit : C → Option ℕ) (reserved : C → Bool) (s : Side) (p : ℕ)
    (ls : List (Cabled C)) (i : ℕ) (x new : Cabled C)
    → i < length ls → x ≡ get_or ls i x → link_state items limit new ≡ without_first s (link_state items limit x)
    → is_reserved reserved s new ≡ is_reserved reserved s x
    → IsReserved items limit reserved s p ls → IsReserved items limit reserved s p (set ls i new)
still_reserved {C = C} items limit reserved s p ls i x new lt read e kept h =
    let there : slice_get ls i ≡ Some x = slice_get_read ls (length ls) i x refl lt read in
    let seen : slice_get (link_states items limit ls) i ≡ Some (link_state items limit x) = slice_get-map (link_state items limit) ls i
    ∙ ap (option_map (link_state items limit)) there in
    grind (arith, nat_tests, link_index, link_states, set, map-set, link_state, same_position, port_at, slice_get, holds_after, is_reserved)

-- the first item came, was answered, and what the answer leads to was done
pub arrived : (gives : Algorithms) (s : Side) (p : ℕ) (item : ItemValue) (a : Result Received SystemFault) (links : List LinkState)
    (old mid : WorldState) (r : Reply) (new : WorldState)
    → InHalf s (HalfReceives (gives s) p item a) old mid → Concludes s p item.stamp a (with_links mid links) r new
    → WorldReceives gives s p item (with_links old links) r new
arrived gives s p item a links old mid r new h k = grind (arith, nat_tests)

pub delivered : (gives : Algorithms) (s : Side) (i : ℕ) (l : LinkState) (xs : List ItemValue) (head : Head)
    (a : Result Received SystemFault) (old mid : WorldState) (r : Reply) (new : WorldState)
    → first_head (port_at s l) xs ≡ Some head → WorldReceivesFirst gives s (port_at s l) xs (Some a) old mid
    → Concludes s head.port head.stamp a (with_links mid (slice_set old.links i (with_towards s (drop 1 xs) l))) r new
    → DeliversFrom gives s i l xs old r new
delivered gives s i l [] head a old mid r new e h k = absurd (none-some head e)
delivered gives s i l (item ∷ rest) head a old mid r new e h k =
    arrived gives s (port_at s l) item a (slice_set old.links i (with_towards s rest l)) old mid r new h
    (subst (λ (z : Head). Concludes s z.port z.stamp a (with_links mid (slice_set old.links i (with_towards s rest l))) r new)
    (sym (same_Some (make_head (port_at s l) item.stamp) head e)) k)

both : {X : Type 0} (P Q : X → Type 0) (o : Option X) → IsSomeAnd o P → IsSomeAnd o Q → IsSomeAnd o (λ x. P x × Q x)
both P Q o h k = grind (arith, nat_tests)

-- the first item was looked at, came, was taken off, and what its answer leads to was done
pub deliver_does : (gives : Algorithms) (s : Side) (c i : ℕ) (head : Head) (a : Result Received SystemFault) (first : LinkState → Type 0)
    (links : List LinkState) (old ready lacpdu : WorldState) (r : Reply) (new : WorldState)
    → c ≡ i + 1 → ready ≡ old → lacpdu.links ≡ ready.links
    → IsSomeAnd (slice_get old.links i) (λ l. Some head ≡ head_in s l)
    → IsSomeAnd (slice_get ready.links i) (λ l. WorldReceivesFirst gives s (port_at s l) (towards s l) (Some a) ready lacpdu)
    → IsSomeAnd (slice_get lacpdu.links i) (λ l. first l × (links ≡ slice_set lacpdu.links i (without_first s l)))
    → Concludes s head.port head.stamp a (with_links lacpdu links) r new
    → WorldDelivers gives s c old r new
deliver_does gives s c i head a first links old ready lacpdu r new e same kept told comes taken ends = grind (arith, nat_tests, told, slice_get, port_at, towards, slice_set, without_first, on_place, delivered, with_links, both, head_in)

repeated : (gives : Algorithms) (s : Side) (l : LinkState) (xs : List ItemValue) (head : Head) (a : Result Received SystemFault)
    (old mid : WorldState) (r : Reply) (new : WorldState)
    → first_head (port_at s l) xs ≡ Some head → is_data head.stamp ≡ false → WorldReceivesFirst gives s (port_at s l) xs (Some a) old mid
    → Concludes s head.port head.stamp a mid r new
    → RepeatsFrom gives s l xs old r new
repeated gives s l xs head a old mid r new e control h k = grind (arith, nat_tests)

-- the first item is a control frame: it was looked at, came, and what its answer leads to was done
pub repeat_does : (gives : Algorithms) (s : Side) (c i : ℕ) (head : Head) (a : Result Received SystemFault) (old ready lacpdu : WorldState)
    (r : Reply) (new : WorldState)
    → c ≡ i + 1 → ready ≡ old → is_data head.stamp ≡ false
    → IsSomeAnd (slice_get old.links i) (λ l. Some head ≡ head_in s l)
    → IsSomeAnd (slice_get ready.links i) (λ l. WorldReceivesFirst gives s (port_at s l) (towards s l) (Some a) ready lacpdu)
    → Concludes s head.port head.stamp a lacpdu r new
    → WorldRepeats gives s c old r new
repeat_does gives s c i head a old ready lacpdu r new e same control told comes ends = grind (arith, nat_tests, told, slice_get, port_at, towards, on_place, repeated, both, head_in)
