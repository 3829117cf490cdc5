-- How long it is until the next conversation that waits for a Marker Response wants another marker (profile).
use Rattle.std.specs.Prelude.{ℕ, zero, suc, ◌+◌, ◌-◌, min, Bool, true, false, nat_le, Option, Some, None}
use Rattle.distributor.specs.declared.assignment.Assignment.{Assignment}
use Rattle.distributor.specs.declared.assignment.Assignment.TheVariants.{Free, On, Wanted, Flushing}
use Rattle.distributor.specs.Conversations.{Table, assignment_of}

-- the sooner of two numbers of ticks; None is never
abbrev pub sooner : Option ℕ → Option ℕ → Option ℕ
sooner None None = None
sooner None (Some m) = Some m
sooner (Some n) None = Some n
sooner (Some n) (Some m) = Some (min n m)

-- whether the first of two numbers of ticks is no later than the second; None is never
abbrev pub is_by : Option ℕ → Option ℕ → Bool
is_by None None = true
is_by None (Some m) = false
is_by (Some n) None = true
is_by (Some n) (Some m) = nat_le n m

-- in how many ticks the conversation is Wanted again: one that is Flushing, at the 30th tick after its marker
abbrev pub ticks_until_wanted : Assignment → Option ℕ
ticks_until_wanted (Free preferred) = None
ticks_until_wanted (On port) = None
ticks_until_wanted (Wanted port preferred) = None
ticks_until_wanted (Flushing port id preferred age) = Some (30 - age)

-- the soonest of f over the numbers below n
unfoldable pub soonest_below : (ℕ → Option ℕ) → ℕ → Option ℕ
soonest_below f zero = None
soonest_below f (suc n) = sooner (soonest_below f n) (f n)

-- in how many ticks the next of all conversations is Wanted again; None if none is Flushing
abbrev pub ticks_until_next_wanted : Table → Option ℕ
ticks_until_next_wanted t = soonest_below
    (λ a. soonest_below (λ c. ticks_until_wanted (assignment_of t (a + 1) c)) t.conversations) t.aggs
