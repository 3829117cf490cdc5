-- The entries of a script name only systems and cables that exist.
use Rattle.lagtool_jobs.proofs.Common.{Bool, Err, List, None, Ok, Option, Result, Some, [], ap, arith, codes, false, if◌then◌else◌, is_some, length}
use Rattle.lagtool_jobs.proofs.Common.{nat_le, option_and_then, refl, subst, suc, sym, true, ℕ, ◌&&◌, ◌+◌, ◌==◌, ◌||◌, ◌∙◌, ◌∷◌, ◌≡◌, ◌≤◌, and_parts}
use Rattle.lagtool_jobs.proofs.Common.{true≢false, nat_tests, length-map, none-some, same_Some, list_all, Data, Members, as_str, get_member, One, Two}
use Rattle.lagtool_jobs.proofs.Common.{AllNameExisting, is_cable, names_existing, Event, ScriptFault, Plan, refusal_of_all, EntryForm, EventValue}
use Rattle.lagtool_jobs.proofs.Common.{WordValue, aggregation, cable, cable_said, event_value, event_values, first_said, number, octets, or_number}
use Rattle.lagtool_jobs.proofs.Common.{system, system_said, each_at_place, if_or_fault, or_fault, ◌>>=◌, HasPlan, PlanValue, cables_in, ends_of}
use Rattle.lagtool_jobs.proofs.Common.{entries_in, events_in, no_fault, plan_in, plan_value, planned, script_fault_for, systems_in, top_keys}
use Rattle.lagtool_jobs.proofs.Common.{up_to_most, has_system, most_events}
use Rattle.lagscript.specs.Entries.{event_at, event_in, event_of_form, event_of_form_if_any, event_of_words, events_from, at_entry, form_named}
use Rattle.lagscript.specs.Entries.{aggregation_word, cable_word, hex_word, number_word, system_word, ticks_word, word_value, words_said}
use Rattle.lagscript.specs.Keys.{keys_among, list_in, value_at, value_or}
use Rattle.lagtypes.specs.Words.{words_of}
use Rattle.lagscript.specs.declared.fault.EntryFault.{EntryFault}
use Rattle.lagscript.specs.declared.fault.ScriptFault.TheVariants as script
use Rattle.lagscript.specs.declared.forms.WordKind.{WordKind}
use Rattle.lagscript.specs.declared.forms.WordKind.TheVariants.{System, Ticks, Cable, Number, Aggregation, Octets}

-- ---- a reading that answers a value

abbrev value_or_this : {A E : Type 0} → A → Result A E → A
value_or_this d (Ok x) = x
value_or_this d (Err fault) = d

abbrev good : (E : Type 0) {A : Type 0} → A → Result A E
good E x = Ok x

same_ok : {A E : Type 0} (x y : A) → good E x ≡ good E y → x ≡ y
same_ok x y e = ap (value_or_this x) e

bind_ok : {A B E : Type 0} (r : Result A E) (f : A → Result B E) (y : B) → (r >>= f) ≡ Ok y → (x : A) × (r ≡ Ok x) × (f x ≡ Ok y)
bind_ok (Ok x) f y e = (x, refl, e)
bind_ok (Err fault) f y e = absurd (let h = e in cc)

unless_ok : {A E : Type 0} (b : Bool) (fault : E) (r : Result A E) (y : A) → if_or_fault b fault r ≡ Ok y → (b ≡ true) × (r ≡ Ok y)
unless_ok true fault r y e = (refl, e)
unless_ok false fault r y e = absurd (let h = e in cc)

-- a word names only a cable of this many, and only system 1 or 2
abbrev word_names : ℕ → WordValue → Bool
word_names cables w = is_cable cables (cable_said w) && has_system (system_said w)

-- what an act names
abbrev act_names : ℕ → EventValue → Bool
act_names cables act = is_cable cables (first_said cable_said act.words) && has_system (first_said system_said act.words)

-- ---- words

one_of_two : (a b : Bool) → (a || b) ≡ true → is_some (if a then Some One else (if b then Some Two else None)) ≡ true
one_of_two true b h = refl
one_of_two false true h = refl
one_of_two false false h = absurd (true≢false (sym h))

system_ok : (w : List ℕ) (s : ℕ) → system_word w ≡ Ok s → has_system (Some s) ≡ true
system_ok w s e = let read = bind_ok (number_word w) _ s e in
    let held = unless_ok ((read.0 == 1) || (read.0 == 2)) _ _ s read.2 in
    subst (λ n. has_system (Some n) ≡ true) (same_ok read.0 s held.1) (one_of_two (read.0 == 1) (read.0 == 2) held.0)

cable_ok : (cables : ℕ) (w : List ℕ) (c : ℕ) → cable_word cables w ≡ Ok c → is_cable cables (Some c) ≡ true
cable_ok cables w c e = let read = bind_ok (number_word w) _ c e in
    let held = unless_ok (nat_le 1 read.0 && nat_le read.0 cables) _ _ c read.2 in
    subst (λ n. is_cable cables (Some n) ≡ true) (same_ok read.0 c held.1) held.0

both : (a b : Bool) → a ≡ true → b ≡ true → (a && b) ≡ true
both a b e f = ap (λ x. x && b) e ∙ f

-- ---- entries

-- a word that was read
said_ok : {A : Type 0} (P : WordValue → Type 0) (r : Result A EntryFault) (make : A → WordValue) (said : WordValue)
    → ((x : A) → r ≡ Ok x → P (make x)) → (r >>= λ x. Ok (make x)) ≡ Ok said → P said
said_ok P r make said h e = let x = bind_ok r _ said e in
    subst P (same_ok (make x.0) said x.2) (h x.0 x.1)

word_ok : (cables : ℕ) (kind : WordKind) (w : List ℕ) (said : WordValue) → word_value cables kind w ≡ Ok said → word_names cables said ≡ true
word_ok cables System w said = said_ok (λ v. word_names cables v ≡ true) (system_word w) system said (λ n e. system_ok w n e)
word_ok cables Ticks w said = said_ok (λ v. word_names cables v ≡ true) (ticks_word w) number said (λ n e. refl)
word_ok cables Cable w said = said_ok (λ v. word_names cables v ≡ true) (cable_word cables w) cable said
    (λ n e. both (is_cable cables (Some n)) true (cable_ok cables w n e) refl)
word_ok cables Number w said = said_ok (λ v. word_names cables v ≡ true) (number_word w) number said (λ n e. refl)
word_ok cables Aggregation w said = said_ok (λ v. word_names cables v ≡ true) (aggregation_word w) aggregation said (λ b e. refl)
word_ok cables Octets w said = said_ok (λ v. word_names cables v ≡ true) (hex_word w) octets said (λ os e. refl)

said_all : (cables : ℕ) (kinds : List WordKind) (ws : List (List ℕ)) (said : List WordValue) → words_said cables kinds ws ≡ Ok said
    → list_all (word_names cables) said ≡ true
said_all cables (kind ∷ kinds) (w ∷ ws) said e = let first = bind_ok (word_value cables kind w) _ said e in
    let rest = bind_ok (words_said cables kinds ws) _ said first.2 in
    subst (λ xs. list_all (word_names cables) xs ≡ true) (same_ok (first.0 ∷ rest.0) said rest.2)
    (both (word_names cables first.0) (list_all (word_names cables) rest.0) (word_ok cables kind w first.0 first.1)
    (said_all cables kinds ws rest.0 rest.1))
said_all cables [] ws said e = subst (λ xs. list_all (word_names cables) xs ≡ true) (same_ok [] said e) refl
said_all cables (kind ∷ kinds) [] said e = subst (λ xs. list_all (word_names cables) xs ≡ true) (same_ok [] said e) refl

-- the first that f gives is as all that it gives
first_ok : (P : Option ℕ → Bool) (f : WordValue → Option ℕ) (said : List WordValue) → P None ≡ true
    → list_all (λ w. P (f w)) said ≡ true → P (first_said f said) ≡ true
first_ok P f [] none all = none
first_ok P f (w ∷ ws) none all = let parts = and_parts (P (f w)) (list_all (λ v. P (f v)) ws) all in
    one (f w) (first_said f ws) parts.0 (first_ok P f ws none parts.1)
  where
    one : (o other : Option ℕ) → P o ≡ true → P other ≡ true → P (or_number o other) ≡ true
    one None other h g = g
    one (Some n) other h g = h

-- each of two tests of words that are true together
each_all : (f g : WordValue → Bool) (said : List WordValue) → list_all (λ w. f w && g w) said ≡ true → (list_all f said ≡ true) × (list_all g said ≡ true)
each_all f g [] all = (refl, refl)
each_all f g (w ∷ ws) all = let parts = and_parts (f w && g w) (list_all (λ v. f v && g v) ws) all in
    let here = and_parts (f w) (g w) parts.0 in
    let rest = each_all f g ws parts.1 in
    (both (f w) (list_all f ws) here.0 rest.0, both (g w) (list_all g ws) here.1 rest.1)

form_ok : (cables : ℕ) (f : EntryForm) (ws : List (List ℕ)) (act : EventValue) → event_of_form cables f ws ≡ Ok act → act_names cables act ≡ true
form_ok cables f ws act e = let held = unless_ok (length ws == length f.kinds) _ _ act e in
    let said = bind_ok (words_said cables f.kinds ws) _ act held.1 in
    let each = each_all (λ w. is_cable cables (cable_said w)) (λ w. has_system (system_said w)) said.0
    (said_all cables f.kinds ws said.0 said.1) in
    subst (λ x. act_names cables x ≡ true) (same_ok (record { name = f.name; words = said.0 }) act said.2)
    (both (is_cable cables (first_said cable_said said.0)) (has_system (first_said system_said said.0))
    (first_ok (is_cable cables) cable_said said.0 refl each.0) (first_ok has_system system_said said.0 refl each.1))

words_ok : (cables : ℕ) (ws : List (List ℕ)) (act : EventValue) → event_of_words cables ws ≡ Ok act → act_names cables act ≡ true
words_ok cables [] act e = absurd (let h = e in cc)
words_ok cables (name ∷ ws) act e = by (form_named name) e
  where
    by : (o : Option EntryForm) → event_of_form_if_any cables o ws ≡ Ok act → act_names cables act ≡ true
    by None h = absurd (let k = h in cc)
    by (Some f) h = form_ok cables f ws act h

entry_ok : {A : Type 0} (place : ℕ) (r : Result A EntryFault) (x : A) → at_entry place r ≡ Ok x → r ≡ Ok x
entry_ok place (Ok y) x e = ap (good EntryFault) (same_ok y x e)
entry_ok place (Err fault) x e = absurd (let h = e in cc)

acts_ok : (cables place : ℕ) (texts : List (List ℕ)) (events : List EventValue) → each_at_place (event_at cables) place texts ≡ Ok events
    → list_all (act_names cables) events ≡ true
acts_ok cables place [] events e = subst (λ xs. list_all (act_names cables) xs ≡ true) (same_ok [] events e) refl
acts_ok cables place (text ∷ texts) events e = let first = bind_ok (event_at cables place text) _ events e in
    let rest = bind_ok (each_at_place (event_at cables) (place + 1) texts) _ events first.2 in
    subst (λ xs. list_all (act_names cables) xs ≡ true) (same_ok (first.0 ∷ rest.0) events rest.2)
    (both (act_names cables first.0) (list_all (act_names cables) rest.0)
    (words_ok cables (words_of text) first.0 (entry_ok place (event_in cables text) first.0 first.1))
    (acts_ok cables (place + 1) texts rest.0 rest.1))

-- ---- scripts

no_fault_ok : {A : Type 0} (o : Option ScriptFault) (x y : A) → no_fault o x ≡ Ok y → x ≡ y
no_fault_ok None x y e = same_ok x y e
no_fault_ok (Some fault) x y e = absurd (let h = e in cc)

-- the entries that a document's parts make
steps_ok : {S X Y : Type 0} (known : Bool) (rs : Result S ScriptFault) (rc : Result (List X) ScriptFault) (ra : ℕ
    → Result (List EventValue) ScriptFault) (bad : S → List X → Option ScriptFault) (made : S → List X → List EventValue → Y) (y : Y)
    → if_or_fault known script.ExtraKey (rs >>= λ systems. rc >>= λ cables. ra (length cables) >>= λ events. no_fault (bad systems cables)
    (made systems cables events)) ≡ Ok y
    → (systems : S) × (cables : List X) × (events : List EventValue) × (ra (length cables) ≡ Ok events) × (made systems cables events ≡ y)
steps_ok true (Ok systems) (Ok cables) ra bad made y e =
    let events = bind_ok (ra (length cables)) (λ events. no_fault (bad systems cables) (made systems cables events)) y e in
    (systems, cables, events.0, events.1, no_fault_ok (bad systems cables) (made systems cables events.0) y events.2)
steps_ok true (Ok systems) (Err x) ra bad made y e = absurd (let h = e in cc)
steps_ok true (Err x) rc ra bad made y e = absurd (let h = e in cc)
steps_ok false rs rc ra bad made y e = absurd (let h = e in cc)

-- the entries of a plan are those of its document
plan_acts : (ms : Members) (p : PlanValue) → plan_in ms ≡ Ok p → events_in (length p.script.cables) ms ≡ Ok p.script.events
plan_acts ms p e = let parts = steps_ok (keys_among top_keys ms) (systems_in ms) (cables_in ms) (λ n. events_in n ms)
    (λ systems cables. option_and_then script_fault_for (refusal_of_all systems (ends_of cables))) planned p e in
    subst (λ (q : PlanValue). events_in (length q.script.cables) ms ≡ Ok q.script.events) parts.4
    (subst (λ n. events_in n ms ≡ Ok parts.2) (sym (length-map parts.1 (λ c. c.ends))) parts.3)

acts_named : (cables : ℕ) (ms : Members) (events : List EventValue) → events_in cables ms ≡ Ok events → list_all (act_names cables) events ≡ true
acts_named cables ms events e =
    let texts = bind_ok (or_fault script.Events (value_at (codes "events") entries_in (Some []) ms)) (events_from cables 1) events e in
    acts_ok cables 1 texts.0 events texts.2

events_named : (cables : ℕ) (es : List Event) → list_all (act_names cables) (event_values es) ≡ true → AllNameExisting cables es
events_named cables [] h = refl
events_named cables (e ∷ es) h =
    let parts = and_parts (act_names cables (event_value e)) (list_all (act_names cables) (event_values es)) h in
    both (names_existing cables e) (list_all (names_existing cables) es) parts.0
    (events_named cables es parts.1)

-- the events of a plan name nothing but what there is
pub plan_names : (text : List ℕ) (plan : Plan) → HasPlan text (plan_value plan) → AllNameExisting (length plan.config.cables.items) plan.events.items
plan_names text plan (ms, parsed, read) = events_named (length plan.config.cables.items) plan.events.items
    (acts_named (length plan.config.cables.items) ms (event_values plan.events.items) (plan_acts ms (plan_value plan) read))

-- ---- how many entries a script has

in_place_long : {A X E : Type 0} (f : ℕ → X → Result A E) (place : ℕ) (xs : List X) (ys : List A) → each_at_place f place xs ≡ Ok ys → length ys ≡ length xs
in_place_long f place [] ys e = ap length (sym (same_ok [] ys e))
in_place_long f place (x ∷ xs) ys e = let first = bind_ok (f place x) _ ys e in
    let rest = bind_ok (each_at_place f (place + 1) xs) _ ys first.2 in
    ap length (sym (same_ok (first.0 ∷ rest.0) ys rest.2)) ∙ ap suc (in_place_long f (place + 1) xs rest.0 rest.1)

abbrev some : {A : Type 0} → A → Option A
some x = Some x

there_ok : {A E : Type 0} (fault : E) (o : Option A) (x : A) → or_fault fault o ≡ Ok x → o ≡ Some x
there_ok fault None x e = absurd (let h = e in cc)
there_ok fault (Some y) x e = ap some (same_ok y x e)

few_texts : (o : Option Data) (texts : List (List ℕ)) → value_or (Some []) entries_in o ≡ Some texts → length texts ≤ 100000
few_texts None texts e = subst (λ (xs : List (List ℕ)). length xs ≤ 100000) (same_Some [] texts e) (omega arith)
few_texts (Some d) texts e = listed (list_in as_str d) e
  where
    within : (xs : List (List ℕ)) (b : Bool) → nat_le (length xs) 100000 ≡ b → (if b then Some xs else None) ≡ Some texts → length texts ≤ 100000
    within xs true le h = subst (λ (ys : List (List ℕ)). length ys ≤ 100000) (same_Some xs texts h) (grind (arith, nat_tests))
    within xs false le h = absurd (none-some texts h)

    listed : (p : Option (List (List ℕ))) → option_and_then up_to_most p ≡ Some texts → length texts ≤ 100000
    listed None h = absurd (none-some texts h)
    listed (Some xs) h = within xs (nat_le (length xs) 100000) refl h

few_acts : (cables : ℕ) (ms : Members) (events : List EventValue) → events_in cables ms ≡ Ok events → length events ≤ 100000
few_acts cables ms events e =
    let texts = bind_ok (or_fault script.Events (value_at (codes "events") entries_in (Some []) ms)) (events_from cables 1) events e in
    let few = few_texts (get_member (codes "events") ms) texts.0
    (there_ok script.Events (value_at (codes "events") entries_in (Some []) ms) texts.0 texts.1) in
    let long = in_place_long (event_at cables) 1 texts.0 events texts.2 in
    subst (λ (n : ℕ). n ≤ 100000) (sym long) few

-- a plan has no more entries than a world may see
pub plan_few : (text : List ℕ) (plan : Plan) → HasPlan text (plan_value plan) → length plan.events.items ≤ most_events
plan_few text plan (ms, parsed, read) =
    let few = few_acts (length plan.config.cables.items) ms (event_values plan.events.items) (plan_acts ms (plan_value plan) read) in
    let same = length-map plan.events.items event_value in
    omega (arith, few, same)
