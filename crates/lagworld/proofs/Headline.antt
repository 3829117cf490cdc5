-- Every world on the way of a run is sound, so the headline holds of each.
use Rattle.lagworld.proofs.Common.{Bool, List, None, [], arith, false, refl, subst, sym, true, ℕ, ◌++◌, ◌<◌, ◌∷◌, ◌≡◌, ◌≤◌, nat_tests, Event, Reply}
use Rattle.lagworld.proofs.Common.{Algorithms, WorldRuns, WorldSteps, cause, first_event_cause, most_events, IsSound, WorldState}
use Rattle.lagworld.specs.Headline.{Headline, HoldsAllTheWay, LimitsHoldOnTheWay}
use Rattle.lagworld.proofs.Keeping.{steps_sound}
use Rattle.lagworld.proofs.Running.{one_partner_of, agree_of, in_order_of}

-- no reason to refuse it holds
no_cause : (a b c : Bool) → a ≡ true → b ≡ true → c ≡ false → first_event_cause a b c ≡ None
no_cause a b c h k l = rw (h, k, l) refl

-- an event that acted was accepted
pub accepted : (gives : Algorithms) (e : Event) (r : Reply) (old new : WorldState) → WorldSteps gives old e r new → new.acted ≤ most_events → cause old e ≡ None
accepted gives e r old new x few = grind (arith, nat_tests)

-- events only count up
pub rises : (gives : Algorithms) (es : List Event) (rs : List Reply) (old new : WorldState) → WorldRuns gives old es rs new → old.acted ≤ new.acted
rises gives [] [] old new h = subst (λ (j : WorldState). old.acted ≤ j.acted) (sym h) (omega arith)
rises gives [] (r ∷ rs) old new h = absurd h
rises gives (e ∷ es) [] old new h = absurd h
rises gives (e ∷ es) (r ∷ rs) old new h = let below = rises gives es rs h.0 new h.2 in omega (arith, h.1.1, below)

-- a sound world has it
pub headline_of : (j : WorldState) → IsSound j → Headline j
headline_of j i = record {
  one_partner = one_partner_of j i;
  agree = agree_of j i;
  in_order = in_order_of j i;
  limited = λ s. (i.kept s).agrees.limited;
}

-- and each world of a run is sound
pub holds_all_the_way : (gives : Algorithms) (es : List Event) (rs : List Reply) (old new : WorldState) (h : WorldRuns gives old es rs new)
    → IsSound old → new.acted ≤ most_events → HoldsAllTheWay gives es rs old new h
holds_all_the_way gives [] [] old new h i few = headline_of old i
holds_all_the_way gives [] (r ∷ rs) old new h i few = absurd h
holds_all_the_way gives (e ∷ es) [] old new h i few = absurd h
holds_all_the_way gives (e ∷ es) (r ∷ rs) old new h i few = let above = rises gives es rs h.0 new h.2 in
    let mid = steps_sound gives e r old h.0 i (accepted gives e r old h.0 h.1 (omega (arith, above, few))) h.1 in
    (headline_of old i, holds_all_the_way gives es rs h.0 new h.2 mid few)

-- two runs, one after the other
pub runs_on : (gives : Algorithms) (es fs : List Event) (rs qs : List Reply) (old mid new : WorldState) → WorldRuns gives old es rs mid
    → WorldRuns gives mid fs qs new → WorldRuns gives old (es ++ fs) (rs ++ qs) new
runs_on gives [] fs [] qs old mid new h k = subst (λ (j : WorldState). WorldRuns gives j fs qs new) h k
runs_on gives [] fs (r ∷ rs) qs old mid new h k = absurd h
runs_on gives (e ∷ es) fs [] qs old mid new h k = absurd h
runs_on gives (e ∷ es) fs (r ∷ rs) qs old mid new h k = (h.0, h.1, runs_on gives es fs rs qs h.0 mid new h.2 k)

-- the headline holds of the first world of a run
first_of : (gives : Algorithms) (es : List Event) (rs : List Reply) (old new : WorldState) (h : WorldRuns gives old es rs new)
    → HoldsAllTheWay gives es rs old new h → Headline old
first_of gives [] [] old new h w = w
first_of gives [] (r ∷ rs) old new h w = absurd w
first_of gives (e ∷ es) [] old new h w = absurd w
first_of gives (e ∷ es) (r ∷ rs) old new h w = w.0

-- and of the one between two
middle_of : (gives : Algorithms) (es fs : List Event) (rs qs : List Reply) (old mid new : WorldState) (h : WorldRuns gives old es rs mid)
    (k : WorldRuns gives mid fs qs new) → HoldsAllTheWay gives (es ++ fs) (rs ++ qs) old new (runs_on gives es fs rs qs old mid new h k)
    → Headline mid
unfolding runs_on
middle_of gives [] fs [] qs old mid new h k w = subst Headline (sym h)
    (first_of gives fs qs old new (subst (λ (j : WorldState). WorldRuns gives j fs qs new) h k) w)
middle_of gives [] fs (r ∷ rs) qs old mid new h k w = absurd h
middle_of gives (e ∷ es) fs [] qs old mid new h k w = absurd h
middle_of gives (e ∷ es) fs (r ∷ rs) qs old mid new h k w = middle_of gives es fs rs qs h.0 mid new h.2 k w.1

pub limits_hold : (gives : Algorithms) → LimitsHoldOnTheWay gives
limits_hold gives es fs rs qs old mid new h k i few = let run = runs_on gives es fs rs qs old mid new h k in
    (middle_of gives es fs rs qs old mid new h k (holds_all_the_way gives (es ++ fs) (rs ++ qs) old new run i few)).limited
