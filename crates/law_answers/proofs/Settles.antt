-- Each state settles, and the numbers of its ports fit as before.
use native.Mathlib.Omega.{arith}
use Rattle.std.proofs.Common.{List, None, Option, Some, [], false, inl, inr, length, refl, slice_get, slice_set, suc, zero, ℕ, ◌<◌, ◌∷◌, ◌≡◌, ◌≤◌, ◌⊎◌}
use Rattle.std.specs.List.{AllByRecursion}
use Rattle.lagtypes.specs.declared.identifiers.AggId.{AggId}
use Rattle.lagtypes.specs.declared.party.Choice.{Choice}
use Rattle.lagtypes.specs.declared.party.Choice.TheVariants.{Selected}
use Rattle.portmachines.specs.Machines.{Machines}
use Rattle.portmachines.specs.Mux.{mux_rows}
use Rattle.portmachines.specs.Periodic.{RunsPeriodic}
use Rattle.portmachines.specs.Rows.{RunsToRest}
use Rattle.distributor.specs.Conversations.{Table}
use Rattle.selection.specs.Limits.{AggregatorsValue, next_standby_index}
use Rattle.lagsystem.specs.declared.system_ports.SystemPort.{SystemPort}
use Rattle.lagsystem.specs.Promoting.{count_standby}
use Rattle.lagsystem.specs.Readers.{aggregator_numbered, distributing}
use Rattle.lagsystem.specs.Settling.{ChoosesIn, PortsChangeBy, PromotesAll, PromotesFirst, PromotesNext, PromotesTimes, Settling, SettlesPorts, after_choices}
use Rattle.lagsystem.specs.Settling.{held_unless_on, ready_of, with_choice}
use Rattle.lagsystem.specs.State.{SystemState, aggregators_value, with_system_ports, with_table}
use Rattle.lagsystem.specs.Views.{views}
use Rattle.lagsystem.proofs.NextLemmas.{next_within, promoted_fewer}
use Rattle.lagsystem.proofs.PromotionLemmas.{choosing_keeps}
use Rattle.lagsystem.proofs.Rising.{all-get}
use Rattle.lagsystem.proofs.Keeps.{settling_joined}
use Rattle.law_answers.specs.Fits.{PortFits}
use Rattle.law_answers.proofs.Firing.{mux_rests, periodic_rests}
use Rattle.law_answers.proofs.Fitting.{KeepsFit, mux_keeps, periodic_keeps}
use Rattle.law_answers.proofs.Tables.{changes_each}

abbrev pub EachFits : List SystemPort → Type 0
EachFits l = AllByRecursion PortFits l

-- the port with other machines
pub with_machines : (x : SystemPort) (q : Machines) → KeepsFit x.port q → PortFits x → PortFits (record x { port = q })
with_machines x q k h = record { address = h.address; number = h.number; machines = k h.machines }

-- each port changes
pub each_changes : (R : Machines → Machines → Type 0) → ((p : Machines) → (q : Machines) × R p q) → ((p q : Machines) → R p q → KeepsFit p q)
    → (xs : List SystemPort) → (ys : List SystemPort) × PortsChangeBy R xs ys × (EachFits xs → EachFits ys)
each_changes R goes keeps [] = ([], tt, λ h. tt)
each_changes R goes keeps (x ∷ xs) = let a = goes x.port in
    let more = each_changes R goes keeps xs in (
      record x { port = a.0 } ∷ more.0,
      ((refl, a.1), more.1),
      λ h. (with_machines x a.0 (keeps x.port a.0 a.1) h.0, more.2 h.1),
    )

-- one port changes
pub set_fits : (l : List SystemPort) (i : ℕ) (y : SystemPort) → EachFits l → PortFits y → EachFits (slice_set l i y)
set_fits [] i y h k = tt
set_fits (x ∷ xs) zero y h k = (k, h.1)
set_fits (x ∷ xs) (suc i) y h k = (h.0, set_fits xs i y h.1 k)

pub fits_at : (l : List SystemPort) (i : ℕ) (x : SystemPort) → slice_get l i ≡ Some x → EachFits l → PortFits x
fits_at l i x e h = all-get PortFits l i x e h

chosen_fits : (x : SystemPort) (o : Option Choice) → PortFits x → PortFits (with_choice x o)
chosen_fits x None h = h
chosen_fits x (Some choice) h = record {
  address = h.address;
  number = h.number;
  machines = record { own = h.machines.own; partner = h.machines.partner };
}

-- STANDBY ports become SELECTED until none comes next

pub there : (l : List SystemPort) (i : ℕ) → i < length l → (x : SystemPort) × (slice_get l i ≡ Some x)
there [] i lt = absurd (omega (arith, lt))
there (x ∷ xs) zero lt = (x, refl)
there (x ∷ xs) (suc i) lt = there xs i (omega (arith, lt))

one_more : (aggs : AggregatorsValue) (agg : AggId) (l : List SystemPort)
    → (next_standby_index aggs (views l) agg ≡ None) ⊎ ((m : List SystemPort) × PromotesNext aggs agg l m)
one_more aggs agg l = by_index (next_standby_index aggs (views l) agg) refl
  where
    by_index : (o : Option ℕ) → next_standby_index aggs (views l) agg ≡ o
        → (next_standby_index aggs (views l) agg ≡ None) ⊎ ((m : List SystemPort) × PromotesNext aggs agg l m)
    by_index None e = inl e
    by_index (Some i) e = let x = there l i (next_within aggs l agg i e) in
        inr (slice_set l i (with_choice x.0 (Some (Selected agg))), (i, x.0, e, x.1, refl))

promotes_more : (aggs : AggregatorsValue) (agg : AggId) (k n : ℕ) (old l : List SystemPort) → PromotesTimes aggs agg n old l
    → count_standby agg l ≤ k → (new : List SystemPort) × PromotesAll aggs agg old new
promotes_more aggs agg zero n old l run le = elim (one_more aggs agg l) [
  | inl none ↦ (l, (n, run, none))
  | inr x ↦ (let fewer = promoted_fewer aggs agg l x.0 x.1 in absurd (omega (arith, le, fewer)))
]
promotes_more aggs agg (suc k) n old l run le = elim (one_more aggs agg l) [
  | inl none ↦ (l, (n, run, none))
  | inr x ↦ (let fewer = promoted_fewer aggs agg l x.0 x.1 in
      promotes_more aggs agg k (suc n) old x.0 (l, run, x.1) (omega (arith, le, fewer)))
]

promotes_first : (aggs : AggregatorsValue) (n : ℕ) (l : List SystemPort) → (new : List SystemPort) × PromotesFirst aggs n l new
promotes_first aggs zero l = (l, refl)
promotes_first aggs (suc n) l = let m = promotes_first aggs n l in
    let agg = aggregator_numbered (suc n) in
    let x = promotes_more aggs agg (count_standby agg m.0) 0 m.0 m.0 refl (omega arith) in
    (x.0, (m.0, m.1, x.1))

chooses : (aggs : AggregatorsValue) (l : List SystemPort) → (new : List SystemPort) × ChoosesIn aggs l new × (EachFits l → EachFits new)
chooses aggs l = let m = promotes_first aggs (length aggs.keys) l in
    let new = after_choices aggs (length m.0) m.0 in
    let done : ChoosesIn aggs l new = (m.0, m.1, refl) in
    (new, done, choosing_keeps EachFits (λ xs i x o e h. set_fits xs i (with_choice x o) h (chosen_fits x o (fits_at xs i x e h))) aggs l new done)

-- the five steps that look at ports alone
pub ports_settle : (s : SystemState) → (l : List SystemPort) × SettlesPorts s (with_system_ports s l) × (EachFits s.system_ports → EachFits l)
ports_settle s =
    let one = each_changes (RunsToRest (mux_rows false)) (mux_rests false) (mux_keeps false) s.system_ports in
    let two = chooses (aggregators_value s) one.0 in
    let ready = λ (p : Machines). ready_of s.keys (views two.0) p.choice in
    let four = each_changes (λ p q. RunsToRest (mux_rows (ready p)) p q) (λ p. mux_rests (ready p) p) (λ p q. mux_keeps (ready p) p q) two.0 in
    let five = each_changes RunsPeriodic periodic_rests periodic_keeps four.0 in (
      five.0,
      (
        with_system_ports s one.0,
        (one.1, refl),
        (
          with_system_ports s two.0,
          (two.1, refl),
          (with_system_ports s two.0, refl, (with_system_ports s four.0, (four.1, refl), (with_system_ports s five.0, (five.1, refl), refl))),
        ),
      ),
      λ h. five.2 (four.2 (two.2 (one.2 h))),
    )

-- and the last: each conversation On a port that does not distribute becomes Wanted there
pub settles : (s : SystemState) → (l : List SystemPort) × (t : Table) × Settling s (with_table (with_system_ports s l) t)
    × (EachFits s.system_ports → EachFits l)
settles s =
    let ports = ports_settle s in
    let held = changes_each s.table (λ g. held_unless_on (distributing (aggregator_numbered g) ports.0)) (λ g. refl) in
    let t : Table = record s.table { states = held.0 } in (
      ports.0,
      t,
      settling_joined s (with_system_ports s ports.0) (with_table (with_system_ports s ports.0) t) ports.1 (record {
        frame = refl;
        aggs = refl;
        conversations = refl;
        first = refl;
        next = refl;
        states = held.1;
      }),
      ports.2,
    )
