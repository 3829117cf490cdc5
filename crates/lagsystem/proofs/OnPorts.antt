-- After every call a conversation is On a port only if the port distributes in its aggregator.
use Rattle.lagsystem.proofs.Common.{Bool, List, Option, Some, [], ap, arith, cond, filter, inl, inr, map, refl, slice_get, slice_set, subst, suc, sym}
use Rattle.lagsystem.proofs.Common.{true, zero, ℕ, ◌∙◌, ◌∷◌, ◌≡◌, ◌⊎◌, nat_tests, AggId, Conversation, after_sending, Assignment, On, MaySend}
use Rattle.lagsystem.proofs.Common.{is_among, SetsAssignment, after_mark, after_release, assignment_of, next_identifier, model_conversation}
use Rattle.lagsystem.proofs.Common.{is_forced, is_moved, Reply, SystemPort, Call, Step, IsFirst, assignment_of_frame, aggregator_numbered}
use Rattle.lagsystem.proofs.Common.{conversation_number, distributes_in, distributing, SendsMarkerOf, HoldsConversations, Settling}
use Rattle.lagsystem.proofs.Common.{OnlyOnDistributing, SystemState, with_table}
use Rattle.lagsystem.proofs.Conversing.{assigned_may}
use Rattle.lagsystem.proofs.Keeps.{settling_parts}
use Rattle.lagsystem.proofs.Preserves.{Step-preserves}
use Rattle.lagsystem.proofs.Steps.{forced_to, moved_to}

same_port : (p q : ℕ) → On p ≡ On q → p ≡ q
same_port p q e = cc

pub not_on : (p : ℕ) (a : Assignment) → a ≡ On p → model_conversation a ≡ Conversation.On p
not_on p a e = ap model_conversation e

pub first_carried : (s : SystemState) → IsFirst s → OnlyOnDistributing s
first_carried s h g k p e = grind (arith, nat_tests)

-- step 6 leaves those that are on ports that distribute
pub leaves_carried : (old new : SystemState) → HoldsConversations old new → OnlyOnDistributing new
leaves_carried old new h g k p e = grind (arith, nat_tests)

-- the ports stay, and a conversation is where it was or on a port that distributes in its aggregator
abbrev pub Carried : SystemState → ℕ → Assignment → ℕ → Type 0
Carried old g was p = (was ≡ On p) ⊎ (is_among (distributing (aggregator_numbered g) old.system_ports) p ≡ true)

pub table_carried : (old new : SystemState) → new ≡ with_table old new.table → OnlyOnDistributing old
    → ((g k p : ℕ) → assignment_of new.table g k ≡ On p → Carried old g (assignment_of old.table g k) p) → OnlyOnDistributing new
table_carried old new f c h g k p e =
    subst (λ (s : SystemState). is_among (distributing (aggregator_numbered g) s.system_ports) p ≡ true) (sym f)
    (elim (h g k p e) [ inl w ↦ c g k p w | inr d ↦ d ])

released : (port id p : ℕ) (a : Assignment) → after_release port id a ≡ On p → a ≡ On p
released port id p a e = grind (arith, nat_tests)

pub marked : (port id p : ℕ) (a : Assignment) → after_mark port id a ≡ On p → a ≡ On p
marked port id p a e = grind (arith, nat_tests)

-- sending an LACPDU leaves what a port distributes in
filtered : (b : Bool) (x y : SystemPort) (xs ys : List ℕ) → x.number ≡ y.number → xs ≡ ys → cond b (x.number ∷ xs) xs ≡ cond b (y.number ∷ ys) ys
filtered b x y xs ys e h = grind (arith, nat_tests)

through : (b : Bool) (x : SystemPort) (xs : List SystemPort) → map (λ (s : SystemPort). s.number) (cond b (x ∷ xs) xs) ≡ cond b (x.number
    ∷ map (λ (s : SystemPort). s.number) xs) (map (λ (s : SystemPort). s.number) xs)
through b x xs = grind (arith, nat_tests)

more : (agg : AggId) (x : SystemPort) (xs : List SystemPort)
    → distributing agg (x ∷ xs) ≡ cond (distributes_in agg x) (x.number ∷ distributing agg xs) (distributing agg xs)
more agg x xs = through (distributes_in agg x) x (filter (distributes_in agg) xs)

sent_distributing : (agg : AggId) (system_ports : List SystemPort) (i : ℕ) (s : SystemPort) → slice_get system_ports i ≡ Some s
    → distributing agg (slice_set system_ports i (record s { port = after_sending s.port })) ≡ distributing agg system_ports
sent_distributing agg [] i s e = refl
sent_distributing agg (x ∷ xs) zero s e = grind (arith, nat_tests)
sent_distributing agg (x ∷ xs) (suc i) s e = grind (arith, nat_tests, sent_distributing agg xs i s e)

pub marker_carried : (o : Option ℕ) (port : ℕ) (mac : List ℕ) (old : SystemState) (answer : Option (List ℕ)) (new : SystemState)
    → SendsMarkerOf o port mac old answer new → OnlyOnDistributing old → OnlyOnDistributing new
marker_carried o port mac old answer new h c = grind (arith, nat_tests)

-- one conversation takes a state
pub sets_carried : (agg : AggId) (conv : ℕ) (s : Assignment) (old new : SystemState) → SetsAssignment old.table new.table agg.0 conv s
    → new ≡ with_table old new.table → OnlyOnDistributing old
    → ((p : ℕ) → s ≡ On p → Carried old agg.0 (assignment_of old.table agg.0 conv) p) → OnlyOnDistributing new
sets_carried agg conv s old new h f c here = grind (arith, nat_tests)

pub may_carry : (old : SystemState) (g p port : ℕ) (a : Assignment) → MaySend (distributing (aggregator_numbered g) old.system_ports) a port
    → On port ≡ On p → Carried old g a p
may_carry old g p port a m e = grind (arith, nat_tests)

pub Step-carried : (gives : ℕ → ℕ → ℕ → Type 0) (old : SystemState) (call : Call) (answer : Reply) (new : SystemState)
    → Step gives old call answer new → OnlyOnDistributing old → OnlyOnDistributing new
Step-carried gives old call answer new h c = Step-preserves gives old (λ call answer new. OnlyOnDistributing new) (record {
  ports = record {
    tick = λ new h. settled new h.0 h.2;
    link = λ n up done new h. settled new h.0 h.2;
    take = λ n octets v answer new told h. settled new h.0 h.2;
    change = λ n change new h. settled new h.0 h.2;
    restart = λ new e first. first_carried new first;
    send = λ n i x answer octets new at e due is told set. λ g k p on.
        let agg = aggregator_numbered g in
        let same : distributing agg new.system_ports ≡ distributing agg old.system_ports =
        ap (λ (s : SystemState). distributing agg s.system_ports) set ∙ sent_distributing agg old.system_ports i x e in
        subst (λ l. is_among l p ≡ true) (sym same)
        (c g k p (sym (ap (λ (s : SystemState). assignment_of s.table g k) set) ∙ on));
  };
  same = λ call answer new none e. subst OnlyOnDistributing (sym e) c;
  mark = λ n port id answer new none m e. table_carried old new e c
      (λ g k p on. inl (marked port id p (assignment_of old.table g k) (sym (m.states g k) ∙ on)));
  release = λ n port id octets answer new m e. table_carried old new e c
      (λ g k p on. inl (released port id p (assignment_of old.table g k) (sym (m.states g k) ∙ on)));
  offer = λ agg octets port new h.
      let conv = conversation_number old octets in
      let may = assigned_may gives conv (distributing agg old.system_ports) (assignment_of_frame old agg octets) port h.1 in
      sets_carried agg conv (On port) old new h.2.0 h.2.1 c
      (λ p e. may_carry old agg.0 p port (assignment_of_frame old agg octets) may e);
  move = λ agg conv port s answer new e h.
      let was = assignment_of old.table agg.0 conv in
      let m = is_moved (next_identifier old.table) (distributing agg old.system_ports) port was s (moved_to agg conv port old s e) in
      sets_carried agg conv s old new h.0 h.1 c (λ p x. absurd (wanted m.0 p (sym m.2 ∙ not_on p s x)));
  force = λ agg conv s answer new e h.
      let free = is_forced (assignment_of old.table agg.0 conv) s (forced_to agg conv old s e) in
      sets_carried agg conv s old new h.0 h.1 c (λ p x. absurd (freed p (sym free ∙ not_on p s x)));
}) call answer new h
  where
    settled : (new mid : SystemState) → Settling mid new → OnlyOnDistributing new
    settled new mid h = let p = settling_parts mid new h in leaves_carried p.0 new p.2

    wanted : (q p : ℕ) → Conversation.Wanted q ≡ Conversation.On p → ⊥
    wanted q p x = cc

    freed : (p : ℕ) → Conversation.Free ≡ Conversation.On p → ⊥
    freed p x = cc
