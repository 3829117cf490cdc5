-- The calls that settle: their own effect, from what its parts do, and the ports that distributed before it.
use Rattle.selection.specs.Limits.{with_use}
use Rattle.lagsystem.specs.Uses.{PutsInUse, choice_with_use}
use Rattle.lagsystem.proofs.Common.{Bool, List, Option, Some, ap, arith, inr, subst, sym, ℕ, ◌∙◌, ◌≡◌, nat_tests, AggId, Machines, receive_rows}
use Rattle.lagsystem.proofs.Common.{RunsToRest, count_down, AggregatorsValue, Assignment, On, ChangesAssignments, after_tick, Table, assignment_of}
use Rattle.lagsystem.proofs.Common.{SystemPort, FreesIfDown, OnlyPortChangesBy, PortAtChangesBy, SetsLink, SetsPortEnabled, Ticks, choice_with_link}
use Rattle.lagsystem.proofs.Common.{WereInUse, aggregators_in_use, IsAlready, LimitsLinks, OnlyPortBecomes, PortBecomes, SetsPort, PortsChangeBy}
use Rattle.lagsystem.proofs.Common.{Settling, IsSound, SystemState, aggregators_value, port_index, port_numbers, with_system_ports, with_table}
use Rattle.lagsystem.proofs.Keeps.{Keeps, keeps_link, keeps_place, keeps_slots, keeps_tick, numbers_set, zip_numbers}

-- a state of these fields, with other ports and conversations
abbrev pub moved_on : SystemState → List SystemPort → Table → SystemState
moved_on s system_ports table =
    record s { first_marker = table.first; conversations = table.conversations; system_ports = system_ports; table = table }

pub is_moved_on : (s : SystemState) (system_ports : List SystemPort) (t : Table) → t.first ≡ s.first_marker
    → t.conversations ≡ s.conversations → moved_on s system_ports t ≡ with_table (with_system_ports s system_ports) t
is_moved_on s system_ports t h k = λ i. record s { first_marker = h i; conversations = k i; system_ports = system_ports; table = t }

were_carried : (old mid : SystemState) (were : List (Option AggId)) → IsSound old → Keeps old mid → were ≡ aggregators_in_use old.system_ports
    → ((g k p : ℕ) → assignment_of mid.table g k ≡ On p → assignment_of old.table g k ≡ On p) → WereInUse were mid
were_carried old mid were s k e c = record { old = old; sound = s; before = e; same = k.same; carried = c }

-- a tick brings no conversation onto a port
ticked_on : (a : Assignment) (p : ℕ) → after_tick a ≡ On p → a ≡ On p
ticked_on a p e = grind (arith, nat_tests)

pub tick_made : (old : SystemState) (olds ws news : List SystemPort) (t : Table) → olds ≡ old.system_ports → news ≡ ws → old.first_marker ≡ old.table.first
    → old.conversations ≡ old.table.conversations → PortsChangeBy (λ p q. RunsToRest receive_rows (count_down p) q) olds ws
    → ChangesAssignments old.table t after_tick → Ticks old (moved_on old news t)
tick_made old olds ws news t e w f k h c = grind (arith, nat_tests)

pub tick_carried : (old mid : SystemState) (were : List (Option AggId)) → IsSound old → Ticks old mid
    → were ≡ aggregators_in_use old.system_ports → WereInUse were mid
tick_carried old mid were s h e = grind (arith, nat_tests, were_carried, keeps_tick, ticked_on)

-- nor does a link that goes down
frees_on : (up : Bool) (port : ℕ) (t new : Table) → FreesIfDown up port t new → (g k p : ℕ) → assignment_of new g k ≡ On p → assignment_of t g k ≡ On p
frees_on up port t new h g k p e = grind (arith, nat_tests)

pub link_made : (n : ℕ) (up : Bool) (old : SystemState) (olds ws news : List SystemPort) (t : Table) → olds ≡ old.system_ports → news ≡ ws
    → old.first_marker ≡ old.table.first → old.conversations ≡ old.table.conversations
    → PortAtChangesBy (SetsPortEnabled old.max_links up) (port_index n olds) olds ws → FreesIfDown up n old.table t → SetsLink n up old (moved_on old news t)
link_made n up old olds ws news t e w f k h c = grind (arith, nat_tests)

pub link_carried : (n : ℕ) (up : Bool) (old mid : SystemState) (were : List (Option AggId)) → IsSound old → SetsLink n up old mid
    → were ≡ aggregators_in_use old.system_ports → WereInUse were mid
link_carried n up old mid were s h e = were_carried old mid were s (keeps_link n up old mid h) e (frees_on up n old.table mid.table h.1)

-- one port goes on, and the conversations stay
pub place_carried : (R : Machines → Machines → Type 0) (o : Option ℕ) (old mid : SystemState) (were : List (Option AggId)) → IsSound old
    → OnlyPortChangesBy o R old mid → were ≡ aggregators_in_use old.system_ports → WereInUse were mid
place_carried R o old mid were s h e = grind (arith, nat_tests, were_carried, keeps_place)

-- a setting of one port
becomes_numbers : (already : SystemPort → Bool) (change : SystemPort → SystemPort) (i : ℕ) (old new : List SystemPort)
    → ((x : SystemPort) → (change x).number ≡ x.number) → PortBecomes already change i old new → port_numbers new ≡ port_numbers old
becomes_numbers already change i old new k h = ap port_numbers h.3 ∙ numbers_set old i h.0 (change h.0) h.1 (k h.0)

pub becomes_made : (already : SystemPort → Bool) (change : SystemPort → SystemPort) (i : ℕ) (old : SystemState) (olds ws news : List SystemPort)
    → olds ≡ old.system_ports → news ≡ ws → PortBecomes already change i olds ws → OnlyPortBecomes already change i old (with_system_ports old news)
becomes_made already change i old olds ws news e w h = grind (arith, nat_tests)

pub becomes_carried : (already : SystemPort → Bool) (change : SystemPort → SystemPort) (i : ℕ) (old mid : SystemState)
    (were : List (Option AggId)) → ((x : SystemPort) → (change x).number ≡ x.number) → IsSound old
    → OnlyPortBecomes already change i old mid → were ≡ aggregators_in_use old.system_ports → WereInUse were mid
becomes_carried already change i old mid were k s h e = were_carried old mid were s
    (keeps_slots old mid h.1 (becomes_numbers already change i old.system_ports mid.system_ports k h.0)) e
    (λ g k p a. sym (ap (λ (x : SystemState). assignment_of x.table g k) h.1) ∙ a)

pub becomes_settled : (already : SystemPort → Bool) (change : SystemPort → SystemPort) (o : Option ℕ) (i : ℕ) (old mid new : SystemState)
    → o ≡ Some i → OnlyPortBecomes already change i old mid → Settling mid new → SetsPort already change o old new
becomes_settled already change o i old mid new e own h = subst (λ o. SetsPort already change o old new) (sym e) (inr (mid, own, h))

pub is_so_already : (already : SystemPort → Bool) (change : SystemPort → SystemPort) (o : Option ℕ) (i : ℕ) (old new : SystemState)
    (olds : List SystemPort) → o ≡ Some i → olds ≡ old.system_ports → IsAlready already i olds → new ≡ old → SetsPort already change o old new
is_so_already already change o i old new olds e v a same = grind (arith, nat_tests)

-- a limit of links
pub limits_made : (max_links : Option ℕ) (old : SystemState) (aggs : AggregatorsValue) (olds ws news : List SystemPort)
    → aggs ≡ record (aggregators_value old) { max_links = max_links } → olds ≡ old.system_ports → news ≡ ws
    → PortsChangeBy (λ p q. q ≡ record p { choice = choice_with_link max_links p.enabled p.choice }) olds ws
    → LimitsLinks max_links old (record old { keys = aggs.keys; max_links = aggs.max_links; in_use = aggs.in_use; system_ports = news })
limits_made max_links old aggs olds ws news a e w h = grind (arith, nat_tests)

pub limits_carried : (max_links : Option ℕ) (old mid : SystemState) (were : List (Option AggId)) → IsSound old
    → LimitsLinks max_links old mid → were ≡ aggregators_in_use old.system_ports → WereInUse were mid
limits_carried max_links old mid were s h e = grind (arith, nat_tests, zip_numbers, choice_with_link, assignment_of)

-- an aggregator that is put in use, or out of use
pub uses_made : (agg : AggId) (now : Bool) (old : SystemState) (aggs : AggregatorsValue) (olds ws news : List SystemPort)
    → aggs ≡ record (aggregators_value old) { in_use = with_use old.keys agg now old.in_use } → olds ≡ old.system_ports → news ≡ ws
    → PortsChangeBy (λ p q. q ≡ record p { choice = choice_with_use agg now p.choice }) olds ws
    → PutsInUse agg now old (record old { keys = aggs.keys; max_links = aggs.max_links; in_use = aggs.in_use; system_ports = news })
uses_made agg now old aggs olds ws news a e w h = grind (arith, nat_tests)

pub uses_carried : (agg : AggId) (now : Bool) (old mid : SystemState) (were : List (Option AggId)) → IsSound old
    → PutsInUse agg now old mid → were ≡ aggregators_in_use old.system_ports → WereInUse were mid
uses_carried agg now old mid were s h e = grind (arith, nat_tests, zip_numbers, choice_with_use, assignment_of)
