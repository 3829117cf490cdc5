-- The ports of one system: the members of an aggregator have its key and one group.
use Rattle.lagmodel.proofs.Common.{IsSome, IsSomeAnd, None, Option, Some, ap, false, inl, inr, is_some, refl, subst, sym, true, ℕ, ◌∙◌, ◌≡◌, ◌⊎◌}
use Rattle.lagmodel.proofs.Common.{and_parts, cases_eq, false≢true, same_Some, Party, Pair, SamePair, individual, pair_of, Members, OnePartner}
use Rattle.lagmodel.proofs.Common.{Announce, Default, Desynchronize, Distribute, Join, Leave, PortAllowed, PortMove, Reconfigure, Respond, Stop, Take}
use Rattle.lagmodel.proofs.Common.{pair_at, port_after, IsSystemSetup, ModelCall, PortFacts, SystemSetup, View, at_port, first_view}
use native.Mathlib.Omega.{arith}
use Rattle.lagtypes.specs.declared.group.End.{End}
use Rattle.lagmodel.proofs.Base.{none-is_some, same_value, value_of}

pub group_sym : (g h : Pair) → SamePair g h → SamePair h g
group_sym g h e = elim e [ inl x ↦ inl (sym x.0, sym x.1) | inr x ↦ inr (sym x.1, sym x.0) ]

pub individual_along : (a b c d : Party) → SamePair (pair_of a b) (pair_of c d) → individual a b ≡ false → individual c d ≡ false
individual_along a b c d e h = grind arith

-- a port after a change of port p is the changed one, or was there before
pub changed_port : (ports : ℕ → Option PortFacts) (p q : ℕ) (f : PortFacts → PortFacts) (a b : PortFacts) → ports p ≡ Some a → at_port ports p f q ≡ Some b
    → ((q ≡ p) × (f a ≡ b)) ⊎ ((q ≡ p → ⊥) × (ports q ≡ Some b))
changed_port ports p q f a b h e = grind arith

-- a change of one port leaves which ports are there
same_ports : (ports : ℕ → Option PortFacts) (p : ℕ) (f : PortFacts → PortFacts) (q : ℕ) → is_some (at_port ports p f q) ≡ is_some (ports q)
same_ports ports p f q = grind arith

-- One port changed from a to b, and the facts that its new state owes.
pub record Owes (u : SystemSetup) (ports : ℕ → Option PortFacts) (p : ℕ) (a b : PortFacts) : Type 0 where
  pub number : b.party.port.number ≡ a.party.port.number
  pub own : b.party.system ≡ a.party.system
  pub key : (g : ℕ) → b.aggregator ≡ Some g → u.key g ≡ Some b.party.key
  pub group : (g q : ℕ) (c : PortFacts) → (q ≡ p → ⊥) → ports q ≡ Some c → b.aggregator ≡ Some g → c.aggregator ≡ Some g
      → SamePair (pair_at b) (pair_at c) × (individual b.party b.partner ≡ false)
  pub member : b.distributes ≡ true → IsSome b.aggregator × (b.synchronized ≡ true)

pub changed : (u : SystemSetup) (ports : ℕ → Option PortFacts) (p : ℕ) (f : PortFacts → PortFacts) (a : PortFacts) → ports p ≡ Some a
    → Members u ports → Owes u ports p a (f a) → Members u (at_port ports p f)
changed u ports p f a h i o = record {
  configured = λ q. same_ports ports p f q ∙ i.configured q;
  number = λ q b e. elim (changed_port ports p q f a b h e) [
    | inl x ↦ subst (λ (b : PortFacts). b.party.port.number ≡ q) x.1 (o.number ∙ i.number p a h ∙ sym x.0)
    | inr x ↦ i.number q b x.1
  ];
  own = λ q b e. elim (changed_port ports p q f a b h e) [
    | inl x ↦ subst (λ (b : PortFacts). b.party.system ≡ u.system) x.1 (o.own ∙ i.own p a h)
    | inr x ↦ i.own q b x.1
  ];
  key = λ q g b e m. elim (changed_port ports p q f a b h e) [
    | inl x ↦ subst (λ (b : PortFacts). b.aggregator ≡ Some g → u.key g ≡ Some b.party.key) x.1 (o.key g) m
    | inr x ↦ i.key q g b x.1 m
  ];
  group = λ g q r b c ne eb ec mb mc. elim (changed_port ports p q f a b h eb) [
    | inl x ↦ elim (changed_port ports p r f a c h ec) [
      | inl y ↦ absurd (ne (x.0 ∙ sym y.0))
      | inr y ↦ subst (λ (b : PortFacts). b.aggregator ≡ Some g → SamePair (pair_at b) (pair_at c) × (individual b.party b.partner ≡ false))
          x.1 (λ m. o.group g r c y.0 y.1 m mc) mb
    ]
    | inr x ↦ elim (changed_port ports p r f a c h ec) [
      | inl y ↦ subst (λ (c : PortFacts). c.aggregator ≡ Some g → SamePair (pair_at b) (pair_at c)
          × (individual b.party b.partner ≡ false)) y.1
          (λ m. let s = o.group g q b x.0 x.1 m mb in
          (group_sym (pair_at (f a)) (pair_at b) s.0, individual_along (f a).party (f a).partner b.party b.partner s.0 s.1)) mc
      | inr y ↦ i.group g q r b c ne x.1 y.1 mb mc
    ]
  ];
  member = λ q b e d. elim (changed_port ports p q f a b h e) [
    | inl x ↦ subst (λ (b : PortFacts). b.distributes ≡ true → IsSome b.aggregator × (b.synchronized ≡ true)) x.1 o.member d
    | inr x ↦ i.member q b x.1 d
  ];
}

-- a port that keeps its aggregator, its party and its partner
steady : (u : SystemSetup) (ports : ℕ → Option PortFacts) (p : ℕ) (a b : PortFacts) → ports p ≡ Some a → Members u ports → b.aggregator ≡ a.aggregator
    → b.party ≡ a.party → b.partner ≡ a.partner → (b.distributes ≡ true → IsSome b.aggregator × (b.synchronized ≡ true)) → Owes u ports p a b
steady u ports p a b h i e1 e2 e3 m = record {
  number = ap (λ (x : Party). x.port.number) e2;
  own = ap (λ (x : Party). x.system) e2;
  key = λ g x. i.key p g a h (sym e1 ∙ x) ∙ ap (λ (x : Party). Some x.key) (sym e2);
  group = λ g q c ne hq x y.
      let s = i.group g p q a c (λ e. ne (sym e)) h hq (sym e1 ∙ x) y in
      subst (λ (z : Party). SamePair (pair_of z b.partner) (pair_at c) × (individual z b.partner ≡ false)) (sym e2)
      (subst (λ (z : Party). SamePair (pair_of a.party z) (pair_at c) × (individual a.party z ≡ false)) (sym e3) s);
  member = m;
}

-- a port outside every aggregator that does not distribute
outside : (u : SystemSetup) (ports : ℕ → Option PortFacts) (p : ℕ) (a b : PortFacts) → b.party.port.number ≡ a.party.port.number
    → b.party.system ≡ a.party.system → b.aggregator ≡ None → (b.distributes ≡ true → ⊥) → Owes u ports p a b
outside u ports p a b l e n d = grind arith

idle : (u : SystemSetup) (ports : ℕ → Option PortFacts) (p : ℕ) (a : PortFacts) → ports p ≡ Some a → Members u ports → a.aggregator ≡ None
    → a.distributes ≡ true → ⊥
idle u ports p a h i n d = none-is_some a.aggregator n ((i.member p a h d).0)

owed : (u : SystemSetup) (call : ModelCall) (ports : ℕ → Option PortFacts) (p : ℕ) (m : PortMove) (a : PortFacts) → ports p ≡ Some a
    → Members u ports → PortAllowed u call ports p m a → Owes u ports p a (port_after m a)
owed u call ports p Stop a h i x = steady u ports p a _ h i refl refl refl (λ d. absurd (false≢true d))
owed u call ports p Leave a h i x = outside u ports p a _ refl refl refl (λ d. false≢true d)
owed u call ports p Desynchronize a h i x = steady u ports p a _ h i refl refl refl (λ d. absurd (false≢true d))
owed u call ports p (Reconfigure party) a h i x = outside u ports p a _ x.3 x.2 x.1 (idle u ports p a h i x.1)
owed u call ports p Default a h i x = elim x [
  | inl n ↦ outside u ports p a _ refl refl n (idle u ports p a h i n)
  | inr z ↦ steady u ports p a _ h i refl refl (sym z) (λ d. ((i.member p a h d).0, refl))
]
owed u call ports p (Take pdu synchronized) a h i x = elim x.1 [
  | inl e ↦ steady u ports p a _ h i refl refl e (λ d. let b = and_parts synchronized a.distributes d in ((i.member p a h b.1).0, b.0))
  | inr n ↦ outside u ports p a _ refl refl n (λ d. idle u ports p a h i n ((and_parts synchronized a.distributes d).1))
]
owed u call ports p (Join g) a h i x = record {
  number = refl;
  own = refl;
  key = λ k e. subst (λ k. u.key k ≡ Some a.party.key) (same_Some g k e) x.2;
  group = λ k q c ne hq e y. let z : c.aggregator ≡ Some g = y ∙ ap (λ (k : ℕ). Some k) (sym (same_Some g k e)) in elim x.3 [
    | inl none ↦ absurd (none q c hq z)
    | inr all ↦ (group_sym (pair_at c) (pair_at a) (all.0 q c hq z), all.1)
  ];
  member = λ d. absurd (idle u ports p a h i x.0 d);
}
owed u call ports p Distribute a h i x = steady u ports p a _ h i refl refl refl (λ d. x)
owed u call ports p (Announce synchronized) a h i x = steady u ports p a _ h i refl refl refl (i.member p a h)
owed u call ports p (Respond mac port identifier) a h i x = steady u ports p a _ h i refl refl refl (i.member p a h)

-- a move of a port keeps the facts
pub members_kept : (u : SystemSetup) (call : ModelCall) (ports : ℕ → Option PortFacts) (p : ℕ) (m : PortMove)
    → IsSomeAnd (ports p) (PortAllowed u call ports p m) → Members u ports → Members u (at_port ports p (port_after m))
members_kept u call ports p m x i = let v = value_of (ports p) (PortAllowed u call ports p m) x in
    changed u ports p (port_after m) v.0 v.1 i (owed u call ports p m v.0 v.1 i v.2)

-- they hold at first
pub members_first : (u : SystemSetup) → IsSystemSetup u → Members u ((first_view u).port)
members_first u i = grind arith

-- and they give that distributing ports of one aggregator name one partner
pub one_partner : (u : SystemSetup) (v : View) → Members u v.port → OnePartner v
one_partner u v i g p q a b h hb e eb d db = elim (cases_eq p q) [
  | inl same ↦ (let x : a ≡ b = same_value (v.port q) a b (subst (λ r. v.port r ≡ Some a) same h) hb in
      (ap (λ (a : PortFacts). a.partner.system) x, ap (λ (a : PortFacts). a.partner.key) x))
  | inr ne ↦ (let s = i.group g p q a b ne h hb e eb in
      let system : a.party.system ≡ b.party.system = i.own p a h ∙ sym (i.own q b hb) in
      let key : a.party.key ≡ b.party.key = same_Some a.party.key b.party.key (sym (i.key p g a h e) ∙ i.key q g b hb eb) in
      elim s.0 [
        | inl y ↦ (ap (λ (z : End). z.system) y.1, ap (λ (z : End). z.key) y.1)
        | inr y ↦ (
          ap (λ (z : End). z.system) y.1 ∙ sym system ∙ ap (λ (z : End). z.system) y.0,
          ap (λ (z : End). z.key) y.1 ∙ sym key
              ∙ ap (λ (z : End). z.key) y.0,
        )
      ])
]
