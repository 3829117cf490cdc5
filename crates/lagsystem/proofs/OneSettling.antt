-- Settling is deterministic: the ports after it, and the state of each conversation.
use Rattle.lagsystem.proofs.Common.{List, None, Option, [], ap, arith, false, refl, subst, suc, sym, zero, ℕ, ◌+◌, ◌∙◌, ◌∷◌, ◌≡◌, nat_tests}
use Rattle.lagsystem.proofs.Common.{none-some, AllByRecursion, AggId, Machines, mux_rows, RunsPeriodic, RunsToRest, one_mux, one_periodic}
use Rattle.lagsystem.proofs.Common.{AggregatorsValue, next_standby_index, Assignment, Table, assignment_of, SystemPort, PortAtChangesBy}
use Rattle.lagsystem.proofs.Common.{SameConversations, aggregator_numbered, distributing, ChoosesIn, PortsChangeBy, PromotesAll, PromotesFirst}
use Rattle.lagsystem.proofs.Common.{PromotesNext, PromotesTimes, Settling, held_unless_on, ready_of, SystemState, aggregators_value, views}
use Rattle.lagsystem.proofs.Keeps.{settling_in}
use Rattle.lagsystem.proofs.SettlingLemmas.{RunsReady, SettlesIn}
use Rattle.lagsystem.proofs.Rising.{all-get}

-- where P holds, the relation leads to one port
abbrev pub LeadsToOne : (Machines → Type 0) → (Machines → Machines → Type 0) → Type 0
LeadsToOne P R = (p q r : Machines) → P p → R p q → R p r → q ≡ r

abbrev pub Any : Machines → Type 0
Any p = Unit {0}

any_port : (l : List SystemPort) → AllByRecursion (λ x. Any x.port) l
any_port [] = tt
any_port (x ∷ xs) = (tt, any_port xs)

pub one_of_each : (P : Machines → Type 0) (R : Machines → Machines → Type 0) → LeadsToOne P R → (l a b : List SystemPort)
    → AllByRecursion (λ x. P x.port) l → PortsChangeBy R l a → PortsChangeBy R l b → a ≡ b
one_of_each P R one [] [] [] all h k = refl
one_of_each P R one [] [] (z ∷ zs) all h k = absurd k
one_of_each P R one [] (y ∷ ys) b all h k = absurd h
one_of_each P R one (x ∷ xs) [] b all h k = absurd h
one_of_each P R one (x ∷ xs) (y ∷ ys) [] all h k = absurd k
one_of_each P R one (x ∷ xs) (y ∷ ys) (z ∷ zs) all h k = grind (arith, nat_tests, one_of_each P R one xs ys zs all.1 h.1 k.1)

pub one_at : (P : Machines → Type 0) (R : Machines → Machines → Type 0) → LeadsToOne P R → (o : Option ℕ) (l a b : List SystemPort)
    → AllByRecursion (λ x. P x.port) l → PortAtChangesBy R o l a → PortAtChangesBy R o l b → a ≡ b
one_at P R one o l a b all h k = grind (arith, nat_tests, all-get)

-- promotions
next_one : (aggs : AggregatorsValue) (agg : AggId) (l a b : List SystemPort) → PromotesNext aggs agg l a → PromotesNext aggs agg l b → a ≡ b
next_one aggs agg l a b h k = grind (arith, nat_tests)

abbrev Goes : AggregatorsValue → AggId → ℕ → List SystemPort → List SystemPort → Type 0
Goes aggs agg zero old new = new ≡ old
Goes aggs agg (suc n) old new = (mid : List SystemPort) × PromotesNext aggs agg old mid × Goes aggs agg n mid new

goes-more : (aggs : AggregatorsValue) (agg : AggId) (n : ℕ) (l m k : List SystemPort) → Goes aggs agg n l m → PromotesNext aggs agg m k
    → Goes aggs agg (suc n) l k
goes-more aggs agg zero l m k run next = (k, subst (λ x. PromotesNext aggs agg x k) run next, refl)
goes-more aggs agg (suc n) l m k run next = (run.0, run.1, goes-more aggs agg n run.0 m k run.2 next)

goes : (aggs : AggregatorsValue) (agg : AggId) (n : ℕ) (l m : List SystemPort) → PromotesTimes aggs agg n l m → Goes aggs agg n l m
goes aggs agg zero l m run = run
goes aggs agg (suc n) l m run = goes-more aggs agg n l run.0 m (goes aggs agg n l run.0 run.1) run.2

none_follows : (aggs : AggregatorsValue) (agg : AggId) (l a m : List SystemPort) → a ≡ l → next_standby_index aggs (views a) agg ≡ None
    → PromotesNext aggs agg l m → ⊥
none_follows aggs agg l a m e n h = none-some h.0 (sym n ∙ ap (λ x. next_standby_index aggs (views x) agg) e ∙ h.2)

one_end : (aggs : AggregatorsValue) (agg : AggId) (n m : ℕ) (l a b : List SystemPort) → Goes aggs agg n l a → Goes aggs agg m l b
    → next_standby_index aggs (views a) agg ≡ None → next_standby_index aggs (views b) agg ≡ None → a ≡ b
one_end aggs agg zero zero l a b g h x y = g ∙ sym h
one_end aggs agg zero (suc m) l a b g h x y = absurd (none_follows aggs agg l a h.0 g x h.1)
one_end aggs agg (suc n) zero l a b g h x y = absurd (none_follows aggs agg l b g.0 h y g.1)
one_end aggs agg (suc n) (suc m) l a b g h x y = let e : g.0 ≡ h.0 = next_one aggs agg l g.0 h.0 g.1 h.1 in
    one_end aggs agg n m g.0 a b g.2 (subst (λ x. Goes aggs agg m x b) (sym e) h.2) x y

all_one : (aggs : AggregatorsValue) (agg : AggId) (l a b : List SystemPort) → PromotesAll aggs agg l a → PromotesAll aggs agg l b → a ≡ b
all_one aggs agg l a b h k = one_end aggs agg h.0 k.0 l a b (goes aggs agg h.0 l a h.1) (goes aggs agg k.0 l b k.1) h.2 k.2

first_one : (aggs : AggregatorsValue) (n : ℕ) (l a b : List SystemPort) → PromotesFirst aggs n l a → PromotesFirst aggs n l b → a ≡ b
first_one aggs zero l a b h k = h ∙ sym k
first_one aggs (suc n) l a b h k = let agg = aggregator_numbered (suc n) in
    let mid : h.0 ≡ k.0 = first_one aggs n l h.0 k.0 h.1 k.1 in
    all_one aggs agg h.0 a b h.2 (subst (λ x. PromotesAll aggs agg x b) (sym mid) k.2)

choosing_one : (aggs : AggregatorsValue) (l a b : List SystemPort) → ChoosesIn aggs l a → ChoosesIn aggs l b → a ≡ b
choosing_one aggs l a b h k = grind (arith, nat_tests, first_one)

settled_one : (aggs : AggregatorsValue) (l a b : List SystemPort) → SettlesIn aggs l a → SettlesIn aggs l b → a ≡ b
settled_one aggs l a b h k = let one : h.one ≡ k.one =
    one_of_each Any (RunsToRest (mux_rows false)) (λ p q r t. one_mux false p q r) l h.one k.one (any_port l) h.stops k.stops in
    let two : h.two ≡ k.two = choosing_one aggs h.one h.two k.two h.chooses (subst (λ x. ChoosesIn aggs x k.two) (sym one) k.chooses) in
    let four : h.four ≡ k.four = one_of_each Any (RunsReady aggs.keys (views h.two))
    (λ p q r t. one_mux (ready_of aggs.keys (views h.two) p.choice) p q r) h.two h.four k.four (any_port h.two) h.runs
    (subst (λ x. PortsChangeBy (RunsReady aggs.keys (views x)) x k.four) (sym two) k.runs) in
    one_of_each Any RunsPeriodic (λ p q r t. one_periodic p q r) h.four a b (any_port h.four) h.paces
    (subst (λ x. PortsChangeBy RunsPeriodic x b) (sym four) k.paces)

-- each conversation changes by the function, and the next marker has an identifier so much higher
pub record Changed (f : ℕ → ℕ → Assignment → Assignment) (n : ℕ) (old new : Table) : Type 0 where
  pub aggs : new.aggs ≡ old.aggs
  pub conversations : new.conversations ≡ old.conversations
  pub first : new.first ≡ old.first
  pub next : new.next ≡ old.next + n
  pub states : (a c : ℕ) → assignment_of new a c ≡ f a c (assignment_of old a c)

pub changed_one : (f : ℕ → ℕ → Assignment → Assignment) (n : ℕ) (t u a b : Table) → SameConversations t u → Changed f n t a → Changed f n u b
    → SameConversations a b
changed_one f n t u a b same h k = grind (arith, nat_tests)

pub stayed_one : (t u a b : Table) → SameConversations t u → a ≡ t → b ≡ u → SameConversations a b
stayed_one t u a b same h k = subst (λ x. SameConversations x b) (sym h) (subst (λ x. SameConversations t x) (sym k) same)

-- two settlings
abbrev pub SameAfter : SystemState → SystemState → Type 0
SameAfter s t = (t.system_ports ≡ s.system_ports) × SameConversations s.table t.table

no_more : (n : ℕ) → n ≡ n + 0
no_more n = omega arith

holds : (old new : SystemState) → Settling old new
    → Changed (λ g k x. held_unless_on (distributing (aggregator_numbered g) new.system_ports) x) 0 old.table new.table
holds old new h = grind (arith, nat_tests)

pub settlings_one : (s t new last : SystemState) → SameAfter s t → aggregators_value t ≡ aggregators_value s → Settling s new
    → Settling t last → SameAfter new last
settlings_one s t new last same aggs h k = let theirs : SettlesIn (aggregators_value s) s.system_ports last.system_ports =
    subst (λ l. SettlesIn (aggregators_value s) l last.system_ports) same.0
    (subst (λ a. SettlesIn a t.system_ports last.system_ports) aggs (settling_in t last k)) in
    let ports : new.system_ports ≡ last.system_ports = settled_one (aggregators_value s) s.system_ports new.system_ports
    last.system_ports (settling_in s new h) theirs in (
      sym ports,
      changed_one _ 0 s.table t.table new.table last.table same.1 (holds s new h)
          (subst (λ l. Changed (λ g k x. held_unless_on (distributing (aggregator_numbered g) l) x) 0 t.table last.table) (sym ports)
          (holds t last k)),
    )
