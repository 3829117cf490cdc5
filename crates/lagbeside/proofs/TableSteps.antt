-- What each call does to each conversation.
use Rattle.lagbeside.proofs.Common.{Err, List, Ok, Option, Result, ap, arith, subst, sym, ℕ, ◌≡◌, nat_tests, AggId, Assignment, SetsAssignment}
use Rattle.lagbeside.proofs.Common.{after_mark, after_release, after_tick, Table, assignment_of, SystemFault, Received, Receive, Step, Tick, Transmit}
use Rattle.lagbeside.proofs.Common.{GivesOrRefuses, Settling, held_unless_on, SystemState, port_index, ports_table, settling_parts}
use Rattle.lagsystem.proofs.Performed.{TableChanges, table_changes}
use Rattle.lagsystem.specs.declared.drive.Reply.TheVariants as answer

-- R holds of a conversation before and after each of these changes, and of changes one after another
pub record Turning (R : Assignment → Assignment → Type 0) : Type 0 where
  pub same : (a : Assignment) → R a a
  pub through : (a b c : Assignment) → R a b → R b c → R a c
  pub tick : (a : Assignment) → R a (after_tick a)
  pub mark : (port id : ℕ) (a : Assignment) → R a (after_mark port id a)
  pub release : (port id : ℕ) (a : Assignment) → R a (after_release port id a)
  pub held : (ports : List ℕ) (a : Assignment) → R a (held_unless_on ports a)

module _ (R : Assignment → Assignment → Type 0) (k : Turning R) where
  -- R holds of each conversation
  abbrev pub Turns : Table → Table → Type 0
  Turns t u = (g c : ℕ) → R (assignment_of t g c) (assignment_of u g c)

  pub same_turns : (old new : SystemState) → new.table ≡ old.table → Turns old.table new.table
  same_turns old new e g c = subst (R (assignment_of old.table g c)) (sym (ap (λ t. assignment_of t g c) e)) (k.same (assignment_of old.table g c))

  pub turns_by : (f : Assignment → Assignment) (t u : Table) → ((g c : ℕ) → assignment_of u g c ≡ f (assignment_of t g c))
      → ((a : Assignment) → R a (f a)) → Turns t u
  turns_by f t u h keeps g c = subst (R (assignment_of t g c)) (sym (h g c)) (keeps (assignment_of t g c))

  pub turns_through : (t u v : Table) → Turns t u → Turns u v → Turns t v
  turns_through t u v a b g c = k.through (assignment_of t g c) (assignment_of u g c) (assignment_of v g c) (a g c) (b g c)

  pub settles_turn : (old new : SystemState) → Settling old new → Turns old.table new.table
  settles_turn old new h g c = grind (arith, nat_tests, settling_parts, ports_table)

  pub asks_turn : (gives : ℕ → ℕ → ℕ → Type 0) (n : ℕ) (a : Result (Option (List ℕ)) SystemFault) (old new : SystemState)
      → Step gives old (Transmit n) (answer.Transmit a) new → Turns old.table new.table
  asks_turn gives n a old new h = grind (arith, nat_tests)

  changes_turn : (index : Option ℕ) (old new : SystemState) → TableChanges index old new → Turns old.table new.table
  changes_turn index old new h = grind (arith, nat_tests)

  pub comes_turn : (gives : ℕ → ℕ → ℕ → Type 0) (n : ℕ) (octets : List ℕ) (a : Result Received SystemFault) (old new : SystemState)
      → Step gives old (Receive n octets) (answer.Receive a) new → Turns old.table new.table
  comes_turn gives n octets (Err fault) old new h = same_turns old new (ap (λ (s : SystemState). s.table) h.same)
  comes_turn gives n octets (Ok o) old new h =
      changes_turn (port_index n old.system_ports) old new (table_changes h.1 h.0.number (port_index n old.system_ports) old o new h.4)

  pub ticks_turn : (gives : ℕ → ℕ → ℕ → Type 0) (old new : SystemState) → Step gives old Tick answer.Tick new → Turns old.table new.table
  ticks_turn gives old new h = grind (arith, nat_tests)

  pub sets_turn : (agg conv : ℕ) (state : Assignment) (old new : Table) → SetsAssignment old new agg conv state
      → R (assignment_of old agg conv) state → Turns old new
  sets_turn agg conv state old new h r g c = grind (arith, nat_tests)

  pub gives_turn : (agg : AggId) (conv : ℕ) (what : Result Assignment SystemFault) (old : SystemState) (a : Result Unit SystemFault) (new : SystemState)
      → ((s : Assignment) → what ≡ Ok s → R (assignment_of old.table agg.0 conv) s) → GivesOrRefuses agg conv what old a new → Turns old.table new.table
  gives_turn agg conv what old a new r h = grind (arith, nat_tests)
