-- What the ends of a cable took last bears the present change counts.
use Rattle.lagprogress.proofs.Common.{Bool, Err, List, Ok, Result, Some, [], ap, arith, eqb, eqb-true, false, inl, inr, is_some, refl, subst, sym}
use Rattle.lagprogress.proofs.Common.{true, ℕ, ◌++◌, ◌==◌, ◌∙◌, ◌∷◌, ◌≡◌, ◌≤◌, ◌⊎◌, cases_Bool, true≢false, nat_tests, none-some, AllByRecursion}
use Rattle.lagprogress.proofs.Common.{Lacpdu, all-append, Side, peer, cond_false, cond_true, Machines, SystemFault, Received, Carries, IsFrame}
use Rattle.lagprogress.proofs.Common.{Receive, CallPromise, SystemState, PortHistory, Reply, is_stamp, Algorithms, WorldSteps, set_last_lacpdu}
use Rattle.lagprogress.proofs.Common.{side_of, stamped_in, set_taken, ItemValue, WorldState, change_count_in, half, history_at, taken_in, count_heard}
use Rattle.lagprogress.proofs.Common.{read_log, HostEvent, Plays, LeavesPorts, StepReplies}
use Rattle.lagprogress.proofs.HostRound.{KeptBeside, MadeByTick}
use Rattle.lagprogress.proofs.Linked.{Link, end_here, same_items, asked_which, each_side, is_took, peer_twice, put_other, put_there}
use Rattle.lagprogress.proofs.OneCable.{Arrives, IsStamped, OnCable, logged, ticks, Back, Beside, asks, delivers, push, push_each, put}
use Rattle.lagprogress.proofs.Passing.{receives_lacpdu, marker_carries_none}
use Rattle.lagprogress.proofs.Quieting.{leaves_cable, leaves_logs}
use Rattle.lagworld.specs.declared.histories.StampedLacpdu.{StampedLacpdu}
use Rattle.slowpdu.specs.declared.pdu.Pdu.TheVariants as pdu
use Rattle.lagsystem.specs.declared.drive.Reply.TheVariants as answer
use Rattle.lagscript.specs.declared.event.Event.TheVariants as event
use Rattle.lagsystem.specs.declared.received.Received.TheVariants as received

-- histories

taken_there : (p : ℕ) (lacpdu : StampedLacpdu) (logs : List PortHistory) → is_some (history_at logs p) ≡ true
    → taken_in (history_at (set_last_lacpdu p lacpdu logs) p) ≡ Some lacpdu
taken_there p lacpdu [] h = absurd (true≢false (sym h))
taken_there p lacpdu (x ∷ xs) h = elim (cases_Bool (x.number == p)) [
  | inl e ↦ (let same : x.number ≡ p = eqb-true x.number p e in
      let back : eqb p x.number ≡ true = grind (arith, nat_tests) in
      ap (λ l. taken_in (history_at l p)) (cond_true (x.number == p) (set_taken lacpdu x ∷ xs) (x ∷ set_last_lacpdu p lacpdu xs) e)
      ∙ ap taken_in (cond_true (eqb p x.number) (Some (set_taken lacpdu x)) (history_at xs p) back))
  | inr e ↦ (let other : eqb p x.number ≡ false = grind (arith, nat_tests) in
      ap (λ l. taken_in (history_at l p)) (cond_false (x.number == p) (set_taken lacpdu x ∷ xs) (x ∷ set_last_lacpdu p lacpdu xs) e)
      ∙ (ap taken_in (cond_false (eqb p x.number) (Some x) (history_at (set_last_lacpdu p lacpdu xs) p) other)
      ∙ taken_there p lacpdu xs (sym (ap is_some (cond_false (eqb p x.number) (Some x) (history_at xs p) other)) ∙ h)))
]

counts_stay : (a : Result Received SystemFault) (p : ℕ) (item : ItemValue) (logs : List PortHistory) (q : ℕ)
    → change_count_in (history_at (logged a p item logs) q) ≡ change_count_in (history_at logs q)
counts_stay a p item logs q = grind (arith, nat_tests, count_heard, stamped_in)

still_there : (a : Result Received SystemFault) (p : ℕ) (item : ItemValue) (logs : List PortHistory) (q : ℕ)
    → is_some (history_at (logged a p item logs) q) ≡ is_some (history_at logs q)
still_there (Ok received.TookLacpdu) p item logs q = read_log is_some p (stamped_in item) q (λ h. inr refl) logs
still_there a p item logs q = refl

-- the invariant

-- these are the change counts of the ports at the ends, and these have a history
pub record Stamped (b : ℕ) (at : Side → ℕ) (k : Side → ℕ) (kept : Side → Bool) (j : WorldState) : Type 0 where
  pub flying : Side → List ItemValue
  pub index : ℕ
  pub links : OnCable index at flying j.links
  pub counts : (s : Side) → change_count_in (history_at (half s j).histories (at s)) ≡ k s
  pub there : (s : Side) → is_some (history_at (half s j).histories (at s)) ≡ kept s
  pub items : 1 ≤ b → (t : Side) → AllByRecursion (IsStamped (k (peer t))) (flying t)

-- the LACPDU that the end of t took last has the present count of its sender as its stamp, if its port has a history
abbrev pub Took : (Side → ℕ) → (Side → ℕ) → (Side → Bool) → Side → WorldState → Type 0
Took at k kept t j = kept t ≡ true → is_stamp (k (peer t)) (taken_in (history_at (half t j).histories (at t))) ≡ true

-- what an event leaves
pub record Stamping (b : ℕ) (at k : Side → ℕ) (kept : Side → Bool) (old new : WorldState) : Type 0 where
  pub world : Stamped b at k kept new
  pub took : 1 ≤ b → (t : Side) → Took at k kept t old → Took at k kept t new

pub took_same : (at k : Side → ℕ) (kept : Side → Bool) (t : Side) (old new : WorldState) → (half t new).histories ≡ (half t old).histories → Took at k kept t old
    → Took at k kept t new
took_same at k kept t old new e h there = subst (λ l. is_stamp (k (peer t)) (taken_in (history_at l (at t))) ≡ true) (sym e) (h there)

pub stamps_emit : (gives : Algorithms) (n : ℕ) (s : Side) (b : ℕ) (at k : Side → ℕ) (kept : Side → Bool) (r : Reply) (old new : WorldState) → side_of n ≡ Some s
    → Stamped b at k kept old → WorldSteps gives old (event.Emit n (at s)) r new → Stamping b at k kept old new
stamps_emit gives n s b at k kept r old new told l h = let a = asks gives n s l.index at l.flying r old new told l.links h in
    record {
      world = record {
        flying = a.now;
        index = a.index;
        links = a.links;
        counts = λ t. ap (λ g. change_count_in (history_at g (at t))) (a.logs t) ∙ l.counts t;
        there = λ t. ap (λ g. is_some (history_at g (at t))) (a.logs t) ∙ l.there t;
        items = λ i. stamps_all a.stamps (l.items i);
      };
      took = λ i t y. took_same at k kept t old new (a.logs t) y;
    }
  where
    stamps_all : {fl now : Side → List ItemValue} → ((now ≡ fl) ⊎ ((item : ItemValue)
        × IsStamped (change_count_in (history_at (half s old).histories (at s))) item × (now ≡ push (peer s) item fl)))
        → ((t : Side) → AllByRecursion (IsStamped (k (peer t))) (fl t)) → (t : Side) → AllByRecursion (IsStamped (k (peer t))) (now t)
    stamps_all (inl e) all = subst (λ (f : Side → List ItemValue). (t : Side) → AllByRecursion (IsStamped (k (peer t))) (f t)) (sym e) all
    stamps_all {fl} (inr (item, is, e)) all =
        subst (λ (f : Side → List ItemValue). (t : Side) → AllByRecursion (IsStamped (k (peer t))) (f t)) (sym e)
        (push_each (λ t. IsStamped (k (peer t))) (peer s) item fl
        (λ x c. is x c ∙ subst (λ t. change_count_in (history_at (half s old).histories (at s)) ≡ k t) (sym (peer_twice s)) (l.counts s)) all)

-- the event leaves the cable to itself
stamps_beside : (gives : Algorithms) (b : ℕ) (at k : Side → ℕ) (kept : Side → Bool) (old new : WorldState) (l : Stamped b at k kept old)
    → Beside gives at l.flying old new → Stamping b at k kept old new
stamps_beside gives b at k kept old new l hyp1 = grind (arith, nat_tests, is_some, true)

-- any port is asked
pub stamps_ask : (gives : Algorithms) (n p b : ℕ) (at k : Side → ℕ) (kept : Side → Bool) (r : Reply) (old new : WorldState) → Stamped b at k kept old
    → WorldSteps gives old (event.Emit n p) r new → Stamping b at k kept old new
stamps_ask gives n p b at k kept r old new l h = elim (asked_which gives n p l.index at l.flying r old new l.links h) [
  | inl (s, told, is) ↦ stamps_emit gives n s b at k kept r old new told l (subst (λ q. WorldSteps gives old (event.Emit n q) r new) is h)
  | inr m ↦ stamps_beside gives b at k kept old new l m
]

-- an arrival

back_all : (P : Side → ItemValue → Type 0) (gives : ℕ → ℕ → ℕ → Type 0) (s : Side) (n : ℕ) (octets : List ℕ) (a : Result Received SystemFault)
    (old new : SystemState) (fl now : Side → List ItemValue)
    → ((t : Side) (item : ItemValue) → ((x : Lacpdu) → IsFrame item.octets (Carries (pdu.Lacpdu x)) → ⊥) → P t item)
    → CallPromise gives old (Receive n octets) (answer.Receive a) new → Back s a fl now
    → ((t : Side) → AllByRecursion (P t) (fl t)) → (t : Side) → AllByRecursion (P t) (now t)
back_all P gives s n octets (Ok (received.Respond frame)) old new fl now z k h g = let m = k.moves.3 in
    let one = z (peer s) h.0 (λ x c. marker_carries_none frame x m.0 (subst (λ o. IsFrame o (Carries (pdu.Lacpdu x))) h.1 c) m.1) in
    subst (λ (f : Side → List ItemValue). (t : Side) → AllByRecursion (P t) (f t)) (sym h.2) (push_each P (peer s) h.0 fl one g)
back_all P gives s n octets a old new fl now z k h g = subst (λ (f : Side → List ItemValue). (t : Side) → AllByRecursion (P t) (f t)) (sym h) g

-- an LACPDU that bears the present count is taken
pub took_in : (gives : ℕ → ℕ → ℕ → Type 0) (at k : Side → ℕ) (kept : Side → Bool) (s : Side) (item : ItemValue) (a : Result Received SystemFault)
    (old new : WorldState) → a ≡ Ok received.TookLacpdu → is_some (history_at (half s old).histories (at s)) ≡ kept s
    → IsStamped (k (peer s)) item
    → CallPromise gives (half s old).state (Receive (at s) item.octets) (answer.Receive a) (half s new).state
    → (half s new).histories ≡ logged a (at s) item (half s old).histories → Took at k kept s new
took_in gives at k kept s item a old new hyp1 hyp2 hyp3 hyp4 hyp5 = grind (arith, nat_tests, taken_there, true)

came_in : (gives : ℕ → ℕ → ℕ → Type 0) (at k : Side → ℕ) (kept : Side → Bool) (s : Side) (item : ItemValue) (a : Result Received SystemFault) (old new : WorldState)
    → is_some (history_at (half s old).histories (at s)) ≡ kept s → IsStamped (k (peer s)) item
    → CallPromise gives (half s old).state (Receive (at s) item.octets) (answer.Receive a) (half s new).state
    → (half s new).histories ≡ logged a (at s) item (half s old).histories → Took at k kept s new ⊎ ((half s new).histories ≡ (half s old).histories)
came_in gives at k kept s item (Err fault) old new there good h log = inr log
came_in gives at k kept s item (Ok o) old new there good h log = elim (is_took o) [
  | inl e ↦ inl (took_in gives at k kept s item (Ok o) old new (ap (λ q. Ok q) e) there good h log)
  | inr not ↦ inr (log ∙ unlogged o not)
]
  where
    unlogged : (o : Received) → (o ≡ received.TookLacpdu → ⊥) → logged (Ok o) (at s) item (half s old).histories ≡ (half s old).histories
    unlogged received.TookLacpdu n = absurd (n refl)
    unlogged o n = refl

stamps_arrive : (gives : Algorithms) (s : Side) (b : ℕ) (at k : Side → ℕ) (kept : Side → Bool) (old new : WorldState) (l : Stamped b at k kept old)
    → Arrives gives s at l.flying old new → Stamping b at k kept old new
stamps_arrive gives s b at k kept old new l a = record {
  world = record {
    flying = a.now;
    index = a.index;
    links = a.links;
    counts = each_side (λ t. change_count_in (history_at (half t new).histories (at t)) ≡ k t) s
        (ap (λ g. change_count_in (history_at g (at s))) a.log ∙ (counts_stay a.a (at s) a.item (half s old).histories (at s) ∙ l.counts s))
        (ap (λ g. change_count_in (history_at g (at (peer s)))) a.peer_log ∙ l.counts (peer s));
    there = each_side (λ t. is_some (history_at (half t new).histories (at t)) ≡ kept t) s
        (ap (λ g. is_some (history_at g (at s))) a.log ∙ (still_there a.a (at s) a.item (half s old).histories (at s) ∙ l.there s))
        (ap (λ g. is_some (history_at g (at (peer s)))) a.peer_log ∙ l.there (peer s));
    items = λ i. back_all (λ t. IsStamped (k (peer t))) (gives s) s (at s) a.item.octets a.a (half s old).state (half s new).state
        (put s a.rest l.flying) a.now (λ t item none x c. absurd (none x c)) a.promise a.back
        (each_side (λ t. AllByRecursion (IsStamped (k (peer t))) (put s a.rest l.flying t)) s
        (subst (AllByRecursion (IsStamped (k (peer s)))) (sym (put_there s a.rest l.flying)) (first i).1)
        (subst (AllByRecursion (IsStamped (k (peer (peer s))))) (sym (put_other s a.rest l.flying)) (l.items i (peer s))));
  };
  took = λ i t. each_side (λ t. Took at k kept t old → Took at k kept t new) s
      (λ y. elim (own i) [ inl z ↦ z | inr same ↦ took_same at k kept s old new same y ])
      (λ y. took_same at k kept (peer s) old new a.peer_log y) t;
}
  where
    first : 1 ≤ b → AllByRecursion (IsStamped (k (peer s))) (a.item ∷ a.rest)
    first i = subst (AllByRecursion (IsStamped (k (peer s)))) a.first (l.items i s)

    own : 1 ≤ b → Took at k kept s new ⊎ ((half s new).histories ≡ (half s old).histories)
    own i = came_in (gives s) at k kept s a.item a.a old new (l.there s) (first i).0 a.promise a.log

pub stamps_deliver : (gives : Algorithms) (cn n b : ℕ) (at k : Side → ℕ) (kept : Side → Bool) (r : Reply) (old new : WorldState) → Stamped b at k kept old
    → WorldSteps gives old (event.Deliver cn n) r new → Stamping b at k kept old new
stamps_deliver gives cn n b at k kept r old new l h = elim (delivers gives cn n l.index at l.flying r old new l.links h) [
  | inl a ↦ stamps_arrive gives a.0 b at k kept old new l a.1
  | inr m ↦ stamps_beside gives b at k kept old new l m
]

-- the LACPDU that the end of t took last bears the present change count of its sender, if the port at the end has a history
abbrev pub Present : (Side → ℕ) → Side → WorldState → Type 0
Present at t j = is_some (history_at (half t j).histories (at t)) ≡ true
    → is_stamp (change_count_in (history_at (half (peer t) j).histories (at (peer t)))) (taken_in (history_at (half t j).histories (at t))) ≡ true

-- What the ends of a cable took last bears the present change counts, in healthy rounds of hosts.

module _ (gives : Algorithms) (b : ℕ) (at k : Side → ℕ) (kept : Side → Bool) where
  abbrev St : WorldState → Type 0
  St = Stamped b at k kept

  grown : (t : Side) (fl now : Side → List ItemValue)
      → (now t ≡ fl t) ⊎ ((item : ItemValue) × ((x : Lacpdu) → IsFrame item.octets (Carries (pdu.Lacpdu x)) → ⊥) × (now t ≡ fl t ++ item ∷ []))
      → AllByRecursion (IsStamped (k (peer t))) (fl t) → AllByRecursion (IsStamped (k (peer t))) (now t)
  grown t fl now h a = grind (arith, nat_tests, all-append)

  -- what each event leaves
  stamps_step : (e : HostEvent) (r : Reply) (i j : WorldState) → LeavesPorts at e → StepReplies gives i e r j → St i → Stamping b at k kept i j
  stamps_step (Plays (event.Emit n p)) r i j q h l = stamps_ask gives n p b at k kept r i j l h
  stamps_step (Plays (event.Deliver cn n)) r i j q h l = stamps_deliver gives cn n b at k kept r i j l h
  stamps_step e r i j q h l = let g = leaves_cable gives e l.index at l.flying r i j q h l.links in
      let logs = leaves_logs gives e at r i j q h in
      record {
        world = record {
          flying = g.flying;
          index = l.index;
          links = g.on;
          counts = λ t. ap (λ x. change_count_in (history_at x (at t))) (logs t) ∙ l.counts t;
          there = λ t. ap (λ x. is_some (history_at x (at t))) (logs t) ∙ l.there t;
          items = λ m t. grown t l.flying g.flying (g.grew t) (l.items m t);
        };
        took = λ m t y. took_same at k kept t i j (logs t) y;
      }

  pub stamped_between : KeptBeside at gives St
  stamped_between e r i j q h l = (stamps_step e r i j q h l).world

  pub stamped_tick : (s : Side) → MadeByTick gives s St St
  stamped_tick s n r i j numbered h l = grind (arith, nat_tests, ticks)

  -- and the end of t has taken one
  abbrev pub Took-it : Side → WorldState → Type 0
  Took-it t j = Stamped b at k kept j × Took at k kept t j

  pub took_between : 1 ≤ b → (t : Side) → KeptBeside at gives (Took-it t)
  took_between some t e r i j q h (l, y) = let s = stamps_step e r i j q h l in (s.world, s.took some t y)

  pub took_tick : (t s : Side) → MadeByTick gives s (Took-it t) (Took-it t)
  took_tick t s n r i j numbered h l = grind (arith, nat_tests, ticks, stamped_tick, took_same)

  -- an LACPDU arrives at the end of t
  pub took_now : 1 ≤ b → (d : ℕ) (w : Side → Lacpdu) (c : Side → ℕ) (x : Side) (Y : Machines → Type 0) (t : Side) (i j : WorldState)
      (l : Link d at w c x Y i) (a : Arrives gives t at l.flying i j) (v : Lacpdu) → IsFrame a.item.octets (Carries (pdu.Lacpdu v))
      → St j → St i → Took-it t j
  took_now some d w c x Y t i j l a v carries now st = (now, by_answer a.a a.promise a.log)
    where
      stamped : IsStamped (k (peer t)) a.item
      stamped = (subst (AllByRecursion (IsStamped (k (peer t)))) (same_items l.index st.index at l.flying st.flying i l.links st.links t ∙ a.first)
          (st.items some t)).0

      by_answer : (o : Result Received SystemFault) → CallPromise (gives t) (half t i).state (Receive (at t) a.item.octets) (answer.Receive o) (half t j).state
          → (half t j).histories ≡ logged o (at t) a.item (half t i).histories → Took at k kept t j
      by_answer (Err fault) p log = absurd (none-some (l.place t).0 (sym p.step.cause ∙ (l.place t).1))
      by_answer (Ok o) p log = let z = end_here at w d c x Y i l t in
          let took = (receives_lacpdu (at t) z.index z.port a.item.octets v (half t i).state o (half t j).state z.place z.there z.is.1.0 carries p.step).0 in
          took_in (gives t) at k kept t a.item (Ok o) i j (ap (λ q. Ok q) took) (st.there t) stamped p log
