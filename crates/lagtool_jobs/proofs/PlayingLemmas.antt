-- A script is refused nothing but memory.
use Rattle.lagtool_jobs.proofs.Common.{Bool, List, None, Option, Some, [], ap, ap₂, arith, false, if◌then◌else◌, inl, inr, is_some, length}
use Rattle.lagtool_jobs.proofs.Common.{length-append, map, nat_le, refl, slice_get, subst, suc, sym, take, true, zero, ℕ, ◌&&◌, ◌++◌, ◌+◌, ◌<◌, ◌==◌}
use Rattle.lagtool_jobs.proofs.Common.{◌∙◌, ◌∷◌, ◌≡◌, ◌≤◌, and_parts, true≢false, nat_tests, length-map, length-take-le, none-some, same_Some}
use Rattle.lagtool_jobs.proofs.Common.{slice_get_within, list_all, WorldSetup, AnyCable, any_items, any_limit, AllNameExisting, is_cable}
use Rattle.lagtool_jobs.proofs.Common.{names_existing, empty_link, empty_links, or_first, Event, cable_named, system_named, Reply, Algorithms}
use Rattle.lagtool_jobs.proofs.Common.{WorldRuns, cause, cause_or_no_memory, first_event_cause, has_cable, has_system, most_events, RefusesToMake}
use Rattle.lagtool_jobs.proofs.Common.{are_empty_lines, first_link, has_empty_directions, item_value, link_ends, world_setup, RefusesNext, RunStops}
use Rattle.lagtool_jobs.proofs.Common.{next_of, LinkState, WorldState}
use Rattle.lagscript.specs.declared.config.BadWorld.{BadWorld}
use Rattle.lagscript.specs.declared.config.BadWorld.TheVariants.{Lines}
use Rattle.lagworld.specs.declared.fault.RunFault.{RunFault}
use Rattle.lagworld.specs.declared.fault.WorldFault.{WorldFault}
use Rattle.lagworld.specs.declared.fault.WorldFault.TheVariants.{NoMemory}

-- ---- a world is made

pub nothing_to_refuse : (reason : Option BadWorld) (empty : Bool) (fault : WorldFault) → reason ≡ None → empty ≡ true
    → RefusesToMake (or_first reason (if empty then None else Some Lines)) fault → fault ≡ NoMemory
nothing_to_refuse None true fault r e (inl h) = h
nothing_to_refuse None true fault r e (inr (bad, is, h)) = absurd (none-some bad is)
nothing_to_refuse reason empty fault r e h = absurd (let f = r in let g = e in cc)

-- nothing is on either direction of a cable
abbrev pub is_bare : LinkState → Bool
is_bare l = (length l.to_one == 0) && (length l.to_two == 0)

bare_line : (line : AnyCable × AnyCable) → has_empty_directions any_items line ≡ is_bare (first_link any_items any_limit (0, 0) line)
bare_line line = ap₂ (λ m n. (m == 0) && (n == 0)) (sym (length-map (any_items line.0) item_value))
    (sym (length-map (any_items line.1) item_value))

bare_lines : (lines : List (AnyCable × AnyCable))
    → list_all (has_empty_directions any_items) lines ≡ list_all is_bare (map (first_link any_items any_limit (0, 0)) lines)
bare_lines [] = refl
bare_lines (line ∷ lines) = ap₂ (λ x y. x && y) (bare_line line) (bare_lines lines)

both : (a b : Bool) → a ≡ true → b ≡ true → (a && b) ≡ true
both a b e f = ap (λ x. x && b) e ∙ f

-- as many lines as cables, of cables that are bare
pub lines_there : (cables : List (ℕ × ℕ)) (lines : List (AnyCable × AnyCable)) (firsts : List LinkState)
    → map (first_link any_items any_limit (0, 0)) lines ≡ firsts
    → length firsts ≡ length cables → list_all is_bare firsts ≡ true → are_empty_lines any_items cables lines ≡ true
lines_there cables lines firsts same long bare =
    both (length lines == length cables) (list_all (has_empty_directions any_items) lines)
    (let counted : length lines ≡ length cables = sym (length-map lines (first_link any_items any_limit (0, 0))) ∙ ap length same
    ∙ long in grind (arith, nat_tests))
    (bare_lines lines ∙ ap (list_all is_bare) same ∙ bare)

pub first_bare : (limits : List (Option ℕ)) → list_all is_bare (map (empty_link (0, 0)) limits) ≡ true
first_bare [] = refl
first_bare (l ∷ limits) = first_bare limits

-- one cable for each pair of ends, if there are as many limits
pub cables_counted : (cables : List (ℕ × ℕ)) (limits : List (Option ℕ)) → length limits ≡ length cables → length (empty_links cables limits) ≡ length cables
cables_counted [] limits h = refl
cables_counted (ends ∷ cables) [] h = absurd (omega (arith, h))
cables_counted (ends ∷ cables) (l ∷ limits) h = let rest = cables_counted cables limits (omega (arith, h)) in
    omega (arith, rest)

-- ---- events are played

-- each event counts
acted_by : (gives : Algorithms) (es : List Event) (rs : List Reply) (old new : WorldState) → WorldRuns gives old es rs new → new.acted ≡ old.acted + length es
acted_by gives [] [] old new x = ap (λ (j : WorldState). j.acted) x ∙ (let none : old.acted ≡ old.acted + 0 = omega arith in none)
acted_by gives [] (r ∷ rs) old new x = absurd x
acted_by gives (e ∷ es) [] old new x = absurd x
acted_by gives (e ∷ es) (r ∷ rs) old new (mid, step, rest) = let more = acted_by gives es rs mid new rest in
    let next : mid.acted ≡ old.acted + 1 = step.1 in
    omega (arith, more, next)

cables_kept : (old new : WorldState) → world_setup new ≡ world_setup old → length new.links ≡ length old.links
cables_kept old new e = sym (length-map new.links link_ends) ∙ ap (λ (x : WorldSetup). length x.cables) e ∙ length-map old.links link_ends

there : {X : Type 0} (xs : List X) (i : ℕ) → i < length xs → is_some (slice_get xs i) ≡ true
there [] i lt = absurd (omega (arith, lt))
there (x ∷ xs) zero lt = refl
there (x ∷ xs) (suc i) lt = there xs i (omega (arith, lt))

cable_there : (j : WorldState) (o : Option ℕ) → is_cable (length j.links) o ≡ true → has_cable j o ≡ true
cable_there j None h = refl
cable_there j (Some zero) h = absurd (true≢false (sym (and_parts (nat_le 1 0) (nat_le 0 (length j.links)) h).0))
cable_there j (Some (suc i)) h = let within = (and_parts (nat_le 1 (suc i)) (nat_le (suc i) (length j.links)) h).1 in
    there j.links i (grind (arith, nat_tests))

no_cause : (cable system spent : Bool) → cable ≡ true → system ≡ true → spent ≡ false → first_event_cause cable system spent ≡ None
no_cause cable system spent c s p = rw (c, s, p) refl

named_at : (p : Event → Bool) (es : List Event) (i : ℕ) (e : Event) → list_all p es ≡ true → slice_get es i ≡ Some e → p e ≡ true
named_at p [] i e all at = absurd (none-some e at)
named_at p (x ∷ es) zero e all at = subst (λ y. p y ≡ true) (same_Some x e at) (and_parts (p x) (list_all p es) all).0
named_at p (x ∷ es) (suc i) e all at = named_at p es i e (and_parts (p x) (list_all p es) all).1 at

not_spent : (n k : ℕ) → n ≡ k → k < most_events → nat_le most_events n ≡ false
not_spent n k e lt = grind (arith, nat_tests)

-- the next event has no cause to be refused
next_fine : (gives : Algorithms) (old new : WorldState) (es : List Event) (rs : List Reply) (done : ℕ) (e : Event) → WorldRuns gives old (take done es) rs new
    → done ≤ length es → world_setup new ≡ world_setup old → AllNameExisting (length old.links) es → old.acted + length es ≤ most_events
    → slice_get es done ≡ Some e → cause new e ≡ None
next_fine gives old new es rs done e ran within fixed named few at =
    let held = and_parts (is_cable (length old.links) (cable_named e)) (has_system (system_named e))
    (named_at (names_existing (length old.links)) es done e named at) in
    let more = acted_by gives (take done es) rs old new ran in
    let long = length-take-le done es within in
    let lt = slice_get_within es done e at in
    let count : new.acted ≡ old.acted + done = omega (arith, more, long) in
    no_cause (has_cable new (cable_named e)) (has_system (system_named e)) (nat_le most_events new.acted)
    (cable_there new (cable_named e) (subst (λ n. is_cable n (cable_named e) ≡ true) (sym (cables_kept old new fixed)) held.0))
    held.1
    (not_spent new.acted (old.acted + done) count (omega (arith, lt, few)))

-- so a run stops only for lack of memory
stops_for_memory : (gives : Algorithms) (old new : WorldState) (es : List Event) (stop : RunFault) → world_setup new ≡ world_setup old
    → AllNameExisting (length old.links) es → old.acted + length es ≤ most_events → RunStops gives old es stop new → stop.fault ≡ NoMemory
stops_for_memory gives old new es stop fixed named few s =
    elim s.fault [ inl h ↦ h.1 | inr h ↦ by_next (next_of es stop.done) refl h ]
  where
    by_next : (o : Option Event) → next_of es stop.done ≡ o → RefusesNext new o stop.fault → stop.fault ≡ NoMemory
    by_next None at h = absurd h
    by_next (Some e) at h = h.named
        ∙ ap cause_or_no_memory (next_fine gives old new es s.replies stop.done e s.acted s.within fixed named few at)

-- ---- events are played in pieces

named_behind : (p : Event → Bool) (es fs : List Event) → list_all p (es ++ fs) ≡ true → list_all p fs ≡ true
named_behind p [] fs all = all
named_behind p (e ∷ es) fs all = named_behind p es fs (and_parts (p e) (list_all p (es ++ fs)) all).1

named_before : (p : Event → Bool) (es fs : List Event) → list_all p (es ++ fs) ≡ true → list_all p es ≡ true
named_before p [] fs all = refl
named_before p (e ∷ es) fs all = let first = and_parts (p e) (list_all p (es ++ fs)) all in
    both (p e) (list_all p es) first.0 (named_before p es fs first.1)

-- a piece behind what has been played stops only for lack of memory
pub piece_stops_for_memory : (gives : Algorithms) (old mid new : WorldState) (all done piece rest : List Event) (rs : List Reply) (stop : RunFault)
    → WorldRuns gives old done rs mid → all ≡ done ++ (piece ++ rest) → world_setup mid ≡ world_setup old → world_setup new ≡ world_setup mid → old.acted ≡ 0
    → AllNameExisting (length old.links) all → length all ≤ most_events → RunStops gives mid piece stop new → stop.fault ≡ NoMemory
piece_stops_for_memory gives old mid new all done piece rest rs stop ran parts kept fixed acted named few s =
    let p = names_existing (length old.links) in
    let behind = named_behind p done (piece ++ rest) (subst (λ es. list_all p es ≡ true) parts named) in
    let here = named_before p piece rest behind in
    let more = acted_by gives done rs old mid ran in
    let long = ap length parts ∙ length-append done (piece ++ rest) in
    let long_behind = length-append piece rest in
    stops_for_memory gives mid new piece stop fixed
    (subst (λ n. list_all (names_existing n) piece ≡ true) (sym (cables_kept old mid kept)) here)
    (omega (arith, more, acted, few, long, long_behind))
    s
