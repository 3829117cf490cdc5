-- Healthy rounds that are played.
use Rattle.lagprogress.proofs.Common.{Bool, IfErr, IfOk, List, None, Option, Result, Some, [], ap, append_assoc, arith, drop, get_or, inl, inr}
use Rattle.lagprogress.proofs.Common.{is_some, length, map, nat_le, option_map, refl, slice_get, subst, suc, sym, take, true, zero, ℕ, ◌&&◌, ◌++◌}
use Rattle.lagprogress.proofs.Common.{◌+◌, ◌<◌, ◌∙◌, ◌∷◌, ◌≡◌, ◌≤◌, ◌⊎◌, cases_Bool, nat_tests, none-some, same_Some, slice_get-get_or, slice_get-map}
use Rattle.lagprogress.proofs.Common.{slice_get_within, AllByRecursion, IsErrAnd, all-append, Ends, Side, WorldSetup, Event, WorldFault, Reply}
use Rattle.lagprogress.proofs.Common.{Algorithms, WorldRuns, WorldSteps, cause, cause_or_no_memory, first_event_cause, has_cable, may_take_memory}
use Rattle.lagprogress.proofs.Common.{most_events, side_of, link_ends, world_setup, ends_of_cable, RefusesNext, next_of, LinkState, WorldState}
use Rattle.lagprogress.proofs.Common.{towards, Delivers, HasTooManyCables, IsOutOfMemoryOrSpent, NamesNoCable, PlaysPart, RefusesDelivery, RunsAll}
use Rattle.lagprogress.proofs.Common.{RunsPart, found_nothing, IsRound, NothingInFlight, Rounds, asks_all, asks_ends, ticks_of_both}
use Rattle.lagprogress.specs.Played.{most_cables}
use Rattle.std.proofs.lemmas.List.{length-map, take_more}
use Rattle.lagscript.specs.declared.event.Event.TheVariants as event
use Rattle.lagworld.specs.declared.fault.WorldFault.TheVariants.{NoCable}

-- of an answer
pub if_err : {T E : Type 0} (P Q : E → Type 0) (r : Result T E) → ((x : E) → P x → Q x) → IfErr r P → IfErr r Q
if_err P Q r k h = grind (arith, nat_tests)

pub if_ok : {T E : Type 0} (P Q : T → Type 0) (r : Result T E) → ((x : T) → P x → Q x) → IfOk r P → IfOk r Q
if_ok P Q r k h = grind (arith, nat_tests)

-- lists of events

pub runs_append : (gives : Algorithms) (es fs : List Event) (rs qs : List Reply) (old mid new : WorldState)
    → WorldRuns gives old es rs mid → WorldRuns gives mid fs qs new → WorldRuns gives old (es ++ fs) (rs ++ qs) new
runs_append gives [] fs [] qs old mid new h x = subst (λ j. WorldRuns gives j fs qs new) h x
runs_append gives (e ∷ es) fs (r ∷ rs) qs old mid new h x = (h.0, h.1, runs_append gives es fs rs qs h.0 mid new h.2 x)
runs_append gives es fs rs qs old mid new h x = absurd h

pub runs_both : (gives : Algorithms) (es fs : List Event) (old mid new : WorldState) → RunsAll gives es old mid → RunsAll gives fs mid new
    → RunsAll gives (es ++ fs) old new
runs_both gives es fs old mid new hyp1 hyp2 = grind (arith, nat_tests, runs_append)

-- a part of the second list, behind the whole first one
pub part_behind : (gives : Algorithms) (es fs : List Event) (fault : WorldFault) (old mid new : WorldState) → RunsAll gives es old mid
    → RunsPart gives fs fault mid new → RunsPart gives (es ++ fs) fault old new
part_behind gives es fs fault old mid new a p = record {
  first = es ++ p.first;
  next = p.next;
  rest = p.rest;
  parts = append_assoc es p.first (p.next ∷ p.rest) ∙ ap (λ xs. es ++ xs) p.parts;
  acts = runs_both gives es p.first old mid new a p.acts;
  refused = p.refused;
}

-- a part of the first list is a part of both
pub part_before : (gives : Algorithms) (es fs : List Event) (fault : WorldFault) (old new : WorldState) → RunsPart gives es fault old new
    → RunsPart gives (es ++ fs) fault old new
part_before gives es fs fault old new hyp1 = grind (arith, nat_tests, append_assoc)

parts_at : (es : List Event) (n : ℕ) (d : Event) → n < length es → take n es ++ (get_or es n d ∷ drop (suc n) es) ≡ es
parts_at [] n d l = absurd (omega (arith, l))
parts_at (e ∷ es) zero d l = refl
parts_at (e ∷ es) (suc n) d l = ap (λ xs. e ∷ xs) (parts_at es n d (omega (arith, l)))

-- one event more of a list acts
pub runs_next : (gives : Algorithms) (es : List Event) (n : ℕ) (e : Event) (r : Reply) (old mid new : WorldState) → n < length es
    → e ≡ get_or es n e → RunsAll gives (take n es) old mid → WorldSteps gives mid e r new → RunsAll gives (take (n + 1) es) old new
runs_next gives es n e r old mid new l is a x =
    subst (λ xs. RunsAll gives xs old new) (ap (λ d. take n es ++ (d ∷ [])) is ∙ sym (take_more es n e l))
    (runs_both gives (take n es) (e ∷ []) old mid new a (record { replies = r ∷ []; acts = (new, x, refl) }))

-- it is refused, and nothing changes
pub stopped_part : (gives : Algorithms) (es : List Event) (n : ℕ) (e : Event) (fault : WorldFault) (old mid new : WorldState) → n < length es
    → e ≡ get_or es n e → RunsAll gives (take n es) old mid → new ≡ mid → fault ≡ cause_or_no_memory (cause mid e)
    → (cause mid e ≡ None → may_take_memory e ≡ true) → RunsPart gives es fault old new
stopped_part gives es n e fault old mid new l is a same f m = subst (λ j. RunsPart gives es fault old j) (sym same) (record {
  first = take n es;
  next = e;
  rest = drop (suc n) es;
  parts = ap (λ d. take n es ++ (d ∷ drop (suc n) es)) is ∙ parts_at es n e l;
  acts = a;
  refused = record { named = f; memory = m };
})

-- refusals

spent_or_not : (fault : WorldFault) (j : WorldState) (spent : Bool) → nat_le most_events j.acted ≡ spent
    → fault ≡ cause_or_no_memory (first_event_cause true true spent) → IsOutOfMemoryOrSpent fault j
spent_or_not fault j spent e h = grind (arith, nat_tests)

-- an event whose cable and system exist
pub refused_event : (fault : WorldFault) (j : WorldState) (cable system : Bool) → cable ≡ true → system ≡ true
    → fault ≡ cause_or_no_memory (first_event_cause cable system (nat_le most_events j.acted)) → IsOutOfMemoryOrSpent fault j
refused_event fault j cable system c s h = grind (arith, nat_tests, spent_or_not)

refused_next : (fault : WorldFault) (es : List Event) (n : ℕ) (j : WorldState) → AllByRecursion NamesNoCable es
    → RefusesNext j (next_of es n) fault → IsOutOfMemoryOrSpent fault j
refused_next fault [] n j all h = absurd h
refused_next fault (e ∷ es) zero j all h = refused_event fault j _ _ (ap (has_cable j) all.0.0) all.0.1 h.named
refused_next fault (e ∷ es) (suc n) j all h = refused_next fault es n j all.1 h

-- one of a list of events that name no cable
pub refused_one : (fault : WorldFault) (es : List Event) (n : ℕ) (e : Event) (old new : WorldState) → n < length es → e ≡ get_or es n e
    → new ≡ old → fault ≡ cause_or_no_memory (cause old e) → (cause old e ≡ None → may_take_memory e ≡ true)
    → AllByRecursion NamesNoCable es → IsOutOfMemoryOrSpent fault new
refused_one fault es n e old new l is same f m all =
    subst (IsOutOfMemoryOrSpent fault) (sym same) (refused_next fault es n old all
    (subst (λ o. RefusesNext old o fault) (ap Some is ∙ sym (slice_get-get_or es n e l)) (record { named = f; memory = m })))

pub some_within : {X : Type 0} (xs : List X) (i : ℕ) → i < length xs → is_some (slice_get xs i) ≡ true
some_within [] i h = absurd (omega (arith, h))
some_within (x ∷ xs) zero h = refl
some_within (x ∷ xs) (suc i) h = some_within xs i (omega (arith, h))

-- worlds with the same setup have as many cables
pub as_many : (a b : WorldState) → world_setup a ≡ world_setup b → length a.links ≡ length b.links
as_many a b e = sym (length-map a.links link_ends) ∙ (ap (λ (x : WorldSetup). length x.cables) e ∙ length-map b.links link_ends)

pub delivery_refused : (fault : WorldFault) (c n : ℕ) (old new : WorldState) → new ≡ old
    → fault ≡ cause_or_no_memory (cause old (event.Deliver c n)) → RefusesDelivery fault new
delivery_refused fault c n old new same f = grind (arith, nat_tests)

-- a Deliver event of a cable that exists
pub refused_delivery : (fault : WorldFault) (n i : ℕ) (s : Side) (start old new : WorldState) → side_of n ≡ Some s → i < length start.links
    → world_setup old ≡ world_setup start → fault ≡ cause_or_no_memory (cause old (event.Deliver (i + 1) n)) → new ≡ old → IsOutOfMemoryOrSpent fault new
refused_delivery fault n i s start old new hyp1 hyp2 hyp3 hyp4 hyp5 = grind (arith, nat_tests, length, as_many, is_some, true, some_within, refused_event)

-- asking

abbrev pub asks_pair : ℕ × ℕ → List Event
asks_pair p = event.Emit 1 p.0 ∷ event.Emit 1 p.0 ∷ event.Emit 2 p.1 ∷ event.Emit 2 p.1 ∷ []

abbrev ports : LinkState → ℕ × ℕ
ports l = (l.one, l.two)

abbrev ports_of : Ends → ℕ × ℕ
ports_of e = (e.one, e.two)

ends_first : (o : Option LinkState) → option_map ports o ≡ option_map ports_of (option_map link_ends o)
ends_first o = grind (arith, nat_tests)

ports_by_ends : (xs : List LinkState) (n : ℕ) → option_map ports (slice_get xs n) ≡ option_map ports_of (slice_get (map link_ends xs) n)
ports_by_ends xs n = ends_first (slice_get xs n) ∙ ap (option_map ports_of) (sym (slice_get-map link_ends xs n))

-- the cable at an index joins the same ports in a world with the same setup
ports_stay : (a b : WorldState) (n : ℕ) → world_setup a ≡ world_setup b → option_map ports (slice_get a.links n) ≡ option_map ports (slice_get b.links n)
ports_stay a b n e = grind (arith, nat_tests, ports_by_ends, option_map, ports_of, slice_get)

asked_there : (o : Option LinkState) (one two : ℕ) → option_map ports o ≡ Some (one, two)
    → (l : LinkState) × (o ≡ Some l) × (asks_ends l ≡ asks_pair (one, two))
asked_there o one two h = grind (arith, nat_tests)

-- the cable at the next index of the first world, from the ports that its number joins
pub cable_at : (n one two : ℕ) (old mid : WorldState) → world_setup mid ≡ world_setup old → Some (one, two) ≡ ends_of_cable (n + 1) mid
    → (l : LinkState) × (slice_get old.links n ≡ Some l) × (asks_ends l ≡ asks_pair (one, two))
cable_at n one two old mid fixed h = let next : n + 1 ≡ suc n = omega arith in
    grind (arith, nat_tests, asked_there, slice_get, ports_stay, ends_of_cable)

asks_next : (n : ℕ) (links : List LinkState) (l : LinkState) → slice_get links n ≡ Some l
    → asks_all (take n links) ++ asks_ends l ≡ asks_all (take (suc n) links)
asks_next n [] l h = absurd (none-some l h)
asks_next zero (x ∷ links) l h = ap asks_ends (sym (same_Some x l h))
asks_next (suc n) (x ∷ links) l h = ap (λ es. asks_ends x ++ es) (asks_next n links l h)

asks_split : (n : ℕ) (links : List LinkState) (l : LinkState) → slice_get links n ≡ Some l
    → asks_all (take n links) ++ (asks_ends l ++ asks_all (drop (suc n) links)) ≡ asks_all links
asks_split n [] l h = absurd (none-some l h)
asks_split zero (x ∷ links) l h = ap (λ m. asks_ends m ++ asks_all links) (sym (same_Some x l h))
asks_split (suc n) (x ∷ links) l h = ap (λ es. asks_ends x ++ es) (asks_split n links l h)

-- one cable more is asked
pub asks_more : (gives : Algorithms) (n one two : ℕ) (old mid new : WorldState) → RunsAll gives (asks_all (take n old.links)) old mid
    → world_setup mid ≡ world_setup old → Some (one, two) ≡ ends_of_cable (n + 1) mid → RunsAll gives (asks_pair (one, two)) mid new
    → RunsAll gives (asks_all (take (n + 1) old.links)) old new
asks_more gives n one two old mid new a fixed h b = let k = cable_at n one two old mid fixed h in
    let next : suc n ≡ n + 1 = omega arith in
    subst (λ es. RunsAll gives es old new)
    (ap (λ es. asks_all (take n old.links) ++ es) (sym k.2) ∙ (asks_next n old.links k.0 k.1 ∙ ap (λ m. asks_all (take m old.links)) next))
    (runs_both gives (asks_all (take n old.links)) (asks_pair (one, two)) old mid new a b)

-- it is refused
pub asks_part : (gives : Algorithms) (n one two : ℕ) (fault : WorldFault) (old mid new : WorldState) → RunsAll gives (asks_all (take n old.links)) old mid
    → world_setup mid ≡ world_setup old → Some (one, two) ≡ ends_of_cable (n + 1) mid → RunsPart gives (asks_pair (one, two)) fault mid new
    → RunsPart gives (asks_all old.links) fault old new
asks_part gives n one two fault old mid new a fixed h b = let k = cable_at n one two old mid fixed h in
    let rest = asks_all (drop (suc n) old.links) in
    subst (λ es. RunsPart gives es fault old new)
    (ap (λ es. asks_all (take n old.links) ++ (es ++ rest)) (sym k.2) ∙ asks_split n old.links k.0 k.1)
    (part_behind gives (asks_all (take n old.links)) (asks_pair (one, two) ++ rest) fault old mid new a
    (part_before gives (asks_pair (one, two)) rest fault mid new b))

abbrev asks_by_ends : List Ends → List Event
asks_by_ends [] = []
asks_by_ends (e ∷ es) = asks_pair (ports_of e) ++ asks_by_ends es

all_by_ends : (links : List LinkState) → asks_all links ≡ asks_by_ends (map link_ends links)
all_by_ends [] = refl
all_by_ends (l ∷ links) = ap (λ es. asks_ends l ++ es) (all_by_ends links)

-- the asks are the same in a world with the same setup
asks_stay : (a b : WorldState) → world_setup a ≡ world_setup b → asks_all a.links ≡ asks_all b.links
asks_stay a b e = all_by_ends a.links ∙ (ap (λ (x : WorldSetup). asks_by_ends x.cables) e ∙ sym (all_by_ends b.links))

-- delivering

pub delivers_both : (gives : Algorithms) (old mid new : WorldState) → Delivers gives old mid → Delivers gives mid new → Delivers gives old new
delivers_both gives old mid new hyp1 hyp2 = grind (arith, nat_tests, all-append, runs_both)

pub one_more : (gives : Algorithms) (c n : ℕ) (r : Reply) (old mid new : WorldState) → Delivers gives old mid
    → WorldSteps gives mid (event.Deliver c n) r new → Delivers gives old new
one_more gives c n r old mid new h x = delivers_both gives old mid new h (record {
  delivers = event.Deliver c n ∷ [];
  arrives = (tt, tt);
  acts = record { replies = r ∷ []; acts = (new, x, refl) };
})

-- no cable changed, and nothing is on those before this index
pub record IsQuiet (n : ℕ) (old new : WorldState) : Type 0 where
  pub same : new.links ≡ old.links
  pub before : (s : Side) (i : ℕ) (l : LinkState) → i < n → slice_get old.links i ≡ Some l → towards s l ≡ []

pub below_or_same : (i n : ℕ) → i < n + 1 → (i < n) ⊎ (i ≡ n)
below_or_same i n h = grind (arith, nat_tests, cases_Bool)

pub nothing_left : (n : ℕ) (old new : WorldState) → length old.links ≤ n → IsQuiet n old new → NothingInFlight new
nothing_left n old new h q s i l f = grind (arith, nat_tests, slice_get_within)

pub nothing_before : (n : ℕ) (old new : WorldState) → length old.links ≤ n → IsQuiet n old new → NothingInFlight old
nothing_before n old new h q s i l f = grind (arith, nat_tests, slice_get_within)

-- a round

pub round_played : (gives : Algorithms) (old ticked asked new : WorldState) → world_setup ticked ≡ world_setup old → RunsAll gives ticks_of_both old ticked
    → RunsAll gives (asks_all ticked.links) ticked asked → Delivers gives asked new → NothingInFlight new → IsRound gives old new
round_played gives old ticked asked new fixed a b d empty =
    let asks = subst (λ es. RunsAll gives es ticked asked) (asks_stay ticked old fixed) b in
    let all = runs_both gives ticks_of_both (asks_all old.links ++ d.delivers) old ticked new a
    (runs_both gives (asks_all old.links) d.delivers ticked asked new asks d.acts) in
    record { delivers = d.delivers; replies = all.replies; arrives = d.arrives; acts = all.acts; empties = empty }

pub stops_delivering : (gives : Algorithms) (fault : WorldFault) (old ticked asked new : WorldState) → world_setup ticked ≡ world_setup old
    → RunsAll gives ticks_of_both old ticked → RunsAll gives (asks_all ticked.links) ticked asked → Delivers gives asked new
    → RefusesDelivery fault new → PlaysPart gives fault old new
stops_delivering gives fault old ticked asked new fixed a b d f = inr (inl (record {
  asked = asked;
  asks = runs_both gives ticks_of_both (asks_all old.links) old ticked asked a
      (subst (λ es. RunsAll gives es ticked asked) (asks_stay ticked old fixed) b);
  delivers = d;
  refused = f;
}))

pub stops_asking : (gives : Algorithms) (fault : WorldFault) (old ticked new : WorldState) → world_setup ticked ≡ world_setup old
    → RunsAll gives ticks_of_both old ticked → RunsPart gives (asks_all ticked.links) fault ticked new → PlaysPart gives fault old new
stops_asking gives fault old ticked new fixed a b = inl (part_behind gives ticks_of_both (asks_all old.links) fault old ticked new a
    (subst (λ es. RunsPart gives es fault ticked new) (asks_stay ticked old fixed) b))

pub stops_ticking : (gives : Algorithms) (fault : WorldFault) (old new : WorldState) → RunsPart gives ticks_of_both fault old new
    → PlaysPart gives fault old new
stops_ticking gives fault old new a = inl (part_before gives ticks_of_both (asks_all old.links) fault old new a)

-- rounds

pub round_more : (gives : Algorithms) (n : ℕ) (old mid new : WorldState) → Rounds gives n old mid → IsRound gives mid new → Rounds gives (n + 1) old new
round_more gives n old mid new h x = let e : suc n ≡ n + 1 = omega arith in subst (λ k. Rounds gives k old new) e (mid, h, x)

pub quiet_more : (gives : Algorithms) (n : ℕ) (q r : Reply) (empty now : Bool) (start old mid new : WorldState) → (empty ≡ true → IsQuiet n start old)
    → WorldSteps gives old (event.Deliver (n + 1) 1) q mid → WorldSteps gives mid (event.Deliver (n + 1) 2) r new
    → now ≡ ((empty && found_nothing q) && found_nothing r) → now ≡ true → IsQuiet (n + 1) start new
quiet_more gives n q r empty now start old mid new h x y e all = grind (arith, nat_tests)

pub on_err : {T : Type 0} (P : WorldFault → Type 0) (why : WorldFault) (r : Result T WorldFault) → IsErrAnd r (λ e. e ≡ why) → P why → IfErr r P
on_err P why r e h = grind (arith, nat_tests)

over_most : (n m : ℕ) → n ≡ m → (n < 65536 → ⊥) → most_cables < m
unfolding most_cables
over_most n m e h = omega (arith, e, h)

-- there are more cables than events can name
pub too_many : (n : ℕ) (j : WorldState) → n ≡ length j.links → (n < 65536 → ⊥) → HasTooManyCables NoCable j j
too_many n j e h = (refl, over_most n (length j.links) e h, refl)
