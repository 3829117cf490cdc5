-- What an LACPDU that overtakes leaves as it is: the order of data, and of markers among them.
use Rattle.lagmodel.proofs.Common.{Bool, List, Option, Some, [], ap, cond, eqb, false, subst, sym, true, ℕ, ◌&&◌, ◌++◌, ◌∙◌, ◌∷◌, ◌≡◌, ◌⊎◌}
use Rattle.lagmodel.proofs.Common.{false≢true, IsSubsequence, same_side, serials, Conversation, DistributorFacts, conversation_port, Control, Data}
use Rattle.lagmodel.proofs.Common.{Message, Side, at_cable}
use native.Mathlib.Omega.{arith}
use Rattle.lagmodel.specs.Overtaking.{IsLacpdu, Overtakes}
use Rattle.lagmodel.proofs.LaneMoves.{at_cable_each}
use Rattle.lagmodel.proofs.Lanes.{Lanes}
use Rattle.lagmodel.proofs.Lines.{Every, IsFrom, MarkerBelow, NoneBehind, ResponseBelow, answers}
use Rattle.lagmodel.proofs.Orderly.{Orderly}

every_swapped : (P : Message → Type 0) (front : List Message) (a b : Message) (back : List Message) → Every P (front ++ a ∷ b ∷ back)
    → Every P (front ++ b ∷ a ∷ back)
every_swapped P [] a b back h = (h.1.0, (h.0, h.1.1))
every_swapped P (m ∷ front) a b back h = (h.0, every_swapped P front a b back h.1)

-- an LACPDU is no frame
serials_by : (s : Side) (g k : ℕ) (a b : Message) (back : List Message) → IsLacpdu b → serials s g k (b ∷ a ∷ back) ≡ serials s g k (a ∷ b ∷ back)
serials_by s g k a b back is = grind arith

serials_swapped : (s : Side) (g k : ℕ) (front : List Message) (a b : Message) (back : List Message) → IsLacpdu b
    → serials s g k (front ++ b ∷ a ∷ back) ≡ serials s g k (front ++ a ∷ b ∷ back)
serials_swapped s g k [] a b back is = serials_by s g k a b back is
serials_swapped s g k (Control pdu stamp ∷ front) a b back is = serials_swapped s g k front a b back is
serials_swapped s g k (Data origin h j n ∷ front) a b back is =
    ap (λ (l : List ℕ). cond (same_side origin s && (eqb h g && eqb j k)) (n ∷ l) l) (serials_swapped s g k front a b back is)

behind_swapped : (s : Side) (g k n : ℕ) (front : List Message) (a b : Message) (back : List Message) → IsLacpdu b
    → NoneBehind s g k n (front ++ a ∷ b ∷ back) → NoneBehind s g k n (front ++ b ∷ a ∷ back)
behind_swapped s g k n [] a b back is h = grind arith
behind_swapped s g k n (m ∷ front) a b back is h =
    (λ e. serials_swapped s g k front a b back is ∙ h.0 e, behind_swapped s g k n front a b back is h.1)

module _ {old new : List Message} (o : Overtakes old new) where
  pub every_overtaken : (P : Message → Type 0) → Every P old → Every P new
  every_overtaken P h = subst (Every P) (sym o.after) (every_swapped P o.front o.other o.lacpdu o.back (subst (Every P) o.before h))

  serials_overtaken : (s : Side) (g k : ℕ) → serials s g k new ≡ serials s g k old
  serials_overtaken s g k = ap (serials s g k) o.after ∙ serials_swapped s g k o.front o.other o.lacpdu o.back o.one_is
      ∙ sym (ap (serials s g k) o.before)

  behind_overtaken : (s : Side) (g k n : ℕ) → NoneBehind s g k n old → NoneBehind s g k n new
  behind_overtaken s g k n h = subst (NoneBehind s g k n) (sym o.after)
      (behind_swapped s g k n o.front o.other o.lacpdu o.back o.one_is (subst (NoneBehind s g k n) o.before h))

  overtaken_none : old ≡ [] → new ≡ []
  overtaken_none e = absurd (go o.front (sym o.before ∙ e))
    where
      go : (front : List Message) → front ++ o.other ∷ o.lacpdu ∷ o.back ≡ [] → ⊥
      go [] e = cc
      go (m ∷ front) e = cc

  orderly_out : (me : Side) (g k : ℕ) (e : Option ℕ) (c : Conversation) (back : List Message) (sent collected : List ℕ)
      → Orderly me g k e c old back sent collected → Orderly me g k e c new back sent collected
  orderly_out me g k e c back sent collected i = let same = sym (serials_overtaken me g k) in
      record {
        place = subst (λ l. (l ≡ []) ⊎ ((p : ℕ) × (e ≡ Some p) × (conversation_port c ≡ Some p))) same i.place;
        behind = λ p n f x. behind_overtaken me g k n (i.behind p n f x);
        answered = λ p n f x. subst (λ l. Every (λ m. answers n m ≡ true → l ≡ []) back) same (i.answered p n f x);
        in_order = subst (λ l. IsSubsequence (collected ++ l) sent) same i.in_order;
      }

  orderly_back : (me : Side) (g k : ℕ) (e : Option ℕ) (c : Conversation) (out : List Message) (sent collected : List ℕ)
      → Orderly me g k e c out old sent collected → Orderly me g k e c out new sent collected
  orderly_back me g k e c out sent collected i = record {
    place = i.place;
    behind = i.behind;
    answered = λ p n f x. every_overtaken (λ m. answers n m ≡ true → serials me g k out ≡ []) (i.answered p n f x);
    in_order = i.in_order;
  }

module _ (me : Side) (ends : ℕ → Option ℕ) (f : DistributorFacts) (whole : ℕ → Bool) (sent collected : ℕ → ℕ → List ℕ)
    (forced : ℕ → ℕ → Bool) where
  -- on a cable away from a system
  pub lanes_out_overtaken : (out back : ℕ → List Message) (c : ℕ) (ms : List Message) → Overtakes (out c) ms
      → Lanes me ends f out back whole sent collected forced → Lanes me ends f (at_cable out c ms) back whole sent collected forced
  lanes_out_overtaken out back c ms o i = record {
    waits = i.waits;
    markers = at_cable_each (λ d l. Every (MarkerBelow f.next) l) out c ms (every_overtaken o _ (i.markers c)) (λ d n. i.markers d);
    responses = i.responses;
    origin = at_cable_each (λ d l. Every (IsFrom me) l) out c ms (every_overtaken o _ (i.origin c)) (λ d n. i.origin d);
    cut = at_cable_each (λ d l. whole d ≡ false → l ≡ []) out c ms (λ e. overtaken_none o (i.cut c e)) (λ d n. i.cut d);
    orderly = λ g k d u. at_cable_each (λ d l. Orderly me g k (ends d) (f.state g k) l (back d) (sent g k) (collected g k)) out c ms
        (orderly_out o me g k (ends c) (f.state g k) (back c) (sent g k) (collected g k) (i.orderly g k c u))
        (λ d n. i.orderly g k d u) d;
  }

  -- on a cable towards it
  pub lanes_back_overtaken : (out back : ℕ → List Message) (c : ℕ) (ms : List Message) → Overtakes (back c) ms
      → Lanes me ends f out back whole sent collected forced → Lanes me ends f out (at_cable back c ms) whole sent collected forced
  lanes_back_overtaken out back c ms o i = record {
    waits = i.waits;
    markers = i.markers;
    responses = at_cable_each (λ d l. Every (ResponseBelow f.next) l) back c ms (every_overtaken o _ (i.responses c))
        (λ d n. i.responses d);
    origin = i.origin;
    cut = i.cut;
    orderly = λ g k d u. at_cable_each (λ d l. Orderly me g k (ends d) (f.state g k) (out d) l (sent g k) (collected g k)) back c ms
        (orderly_back o me g k (ends c) (f.state g k) (out c) (sent g k) (collected g k) (i.orderly g k c u))
        (λ d n. i.orderly g k d u) d;
  }
