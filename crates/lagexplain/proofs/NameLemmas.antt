-- The words that are said to be wrong are those that lagscript refuses.
use Rattle.std.proofs.Common.{◌≡◌, ◌∙◌, ◌+◌, ℕ, suc, Bool, true, false, List, [], ◌∷◌, Option, Some, None, Result, Ok, Err, ap, arith, is_some}
use Rattle.std.proofs.Common.{length, option_and_then, option_map, refl, slice_get, sym, subst, if◌then◌else◌, eq-eqb}
use Rattle.std.specs.Result.{result_err}
use Rattle.std.proofs.lemmas.Bool.{ne_eqb}
use Rattle.lagscript.specs.EventValues.{EntryForm, EventValue}
use Rattle.lagscript.specs.Entries.{event_named, event_of_form, event_of_form_if_any, form_named, number_word, system_word, ticks_word}
use Rattle.lagscript.specs.Entries.{aggregation_word, cable_word, hex_word, kinds_named, word_value, words_said}
use Rattle.lagscript.specs.Readings.{◌>>=◌}
use Rattle.lagscript.specs.declared.fault.EntryFault.{EntryFault}
use Rattle.lagscript.specs.declared.fault.EntryFault.TheVariants.{Count, Word}
use Rattle.lagscript.specs.declared.forms.WordKind.{WordKind}
use Rattle.lagscript.specs.declared.forms.WordKind.TheVariants.{System, Ticks, Cable, Number, Aggregation, Octets}
use Rattle.lagexplain.specs.Entries.{fault_at, first_fault, first_wrong, is_wrong_at, word_fault}

abbrev Reads : Type 0
Reads = List (List ℕ) → Result EventValue EntryFault

-- what reads the words behind a name: as many as there are kinds, and each as its kind
abbrev ReadsKinds : ℕ → List WordKind → Reads → Type 0
ReadsKinds cables kinds reads = ((words : List (List ℕ)) → ¬ (length words ≡ length kinds) → reads words ≡ Err Count)
    × ((words : List (List ℕ)) → length words ≡ length kinds → result_err (reads words) ≡ first_fault cables kinds words)

-- what reads the words behind a name has these kinds; it reads no event where the name has none
abbrev pub AreOfName : ℕ → Option (List WordKind) → Reads → Type 0
AreOfName cables None reads = (words : List (List ℕ)) → reads words ≡ Err Word
AreOfName cables (Some kinds) reads = ReadsKinds cables kinds reads

-- ---- one word

made_err : {A B : Type 0} (r : Result A EntryFault) (make : A → B) → result_err r ≡ result_err (r >>= λ x. Ok (make x))
made_err (Ok x) make = refl
made_err (Err e) make = refl

-- a word is wrong where it cannot be read
fault_of_word : (cables : ℕ) (kind : WordKind) (w : List ℕ) → word_fault cables kind w ≡ result_err (word_value cables kind w)
fault_of_word cables System w = made_err (system_word w) _
fault_of_word cables Ticks w = made_err (ticks_word w) _
fault_of_word cables Cable w = made_err (cable_word cables w) _
fault_of_word cables Number w = made_err (number_word w) _
fault_of_word cables Aggregation w = made_err (aggregation_word w) _
fault_of_word cables Octets w = made_err (hex_word w) _

-- One word more: its fault if it has one, else what the words behind it give.
one_more : {A B : Type 0} (r : Result A EntryFault) (rest : A → Result B EntryFault) (fault : Option EntryFault) (at : ℕ → Option EntryFault)
    (place : ℕ) (behind : Option ℕ) → fault ≡ result_err r → at place ≡ fault
    → ((x : A) → result_err (rest x) ≡ option_and_then at behind)
    → result_err (r >>= rest) ≡ option_and_then at (if is_some fault then Some place else behind)
one_more {A} r rest fault at place behind e here h =
    subst (λ o. result_err (r >>= rest) ≡ option_and_then at (if is_some o then Some place else behind)) (sym e) (on r (here ∙ e) h)
  where
    on : (r : Result A EntryFault) → at place ≡ result_err r → ((x : A) → result_err (rest x) ≡ option_and_then at behind)
        → result_err (r >>= rest) ≡ option_and_then at (if is_some (result_err r) then Some place else behind)
    on (Ok x) found h = h x
    on (Err y) found h = sym found

-- ---- all words

-- a kind in front moves each place by one
moved : (cables : ℕ) (kind : WordKind) (kinds : List WordKind) (place : ℕ) (ws : List (List ℕ))
    → first_wrong cables (kind ∷ kinds) (suc place) ws ≡ option_map suc (first_wrong cables kinds place ws)
moved cables kind kinds place [] = refl
moved cables kind kinds place (w ∷ ws) =
    by (is_wrong_at cables (slice_get kinds place) w) (first_wrong cables (kind ∷ kinds) (suc place + 1) ws)
    (first_wrong cables kinds (place + 1) ws)
    (subst (λ n. first_wrong cables (kind ∷ kinds) n ws ≡ option_map suc (first_wrong cables kinds (place + 1) ws)) (omega arith)
    (moved cables kind kinds (place + 1) ws))
  where
    by : (b : Bool) (x y : Option ℕ) → x ≡ option_map suc y → (if b then Some (suc place) else x) ≡ option_map suc (if b then Some place else y)
    by true x y e = refl
    by false x y e = e

-- a word in front of places that are moved by one
behind_one : (at : ℕ → Option EntryFault) (o : Option ℕ) → option_and_then at (option_map suc o) ≡ option_and_then (λ place. at (suc place)) o
behind_one at None = refl
behind_one at (Some place) = refl

-- the fault of words that are as many as their kinds
fault_of_words : (cables : ℕ) (kinds : List WordKind) (ws : List (List ℕ)) → length ws ≡ length kinds
    → result_err (words_said cables kinds ws) ≡ first_fault cables kinds ws
fault_of_words cables [] [] same = refl
fault_of_words cables [] (w ∷ ws) same = absurd (omega (arith, same))
fault_of_words cables (kind ∷ kinds) [] same = absurd (omega (arith, same))
fault_of_words cables (kind ∷ kinds) (w ∷ ws) same = let at = fault_at cables (kind ∷ kinds) (w ∷ ws) in
    one_more (word_value cables kind w) _ (word_fault cables kind w) at 0 (first_wrong cables (kind ∷ kinds) 1 ws)
    (fault_of_word cables kind w) refl
    (λ said. sym (made_err (words_said cables kinds ws) _)
    ∙ fault_of_words cables kinds ws (omega (arith, same))
    ∙ sym (behind_one at (first_wrong cables kinds 0 ws))
    ∙ sym (ap (option_and_then at) (moved cables kind kinds 0 ws)))

reads_form : (cables : ℕ) (f : EntryForm) → ReadsKinds cables f.kinds (event_of_form cables f)
reads_form cables f = (counts, faults)
  where
    counts : (words : List (List ℕ)) → ¬ (length words ≡ length f.kinds) → event_of_form cables f words ≡ Err Count
    counts words other = rw (ne_eqb (length words) (length f.kinds) other) refl

    faults : (words : List (List ℕ)) → length words ≡ length f.kinds → result_err (event_of_form cables f words) ≡ first_fault cables f.kinds words
    faults words same = rw (eq-eqb (length words) (length f.kinds) same)
        (sym (made_err (words_said cables f.kinds words) _) ∙ fault_of_words cables f.kinds words same)

pub names_agree : (cables : ℕ) (name : List ℕ) → AreOfName cables (kinds_named name) (event_named cables name)
names_agree cables name = by (form_named name)
  where
    by : (o : Option EntryForm) → AreOfName cables (option_map (λ f. f.kinds) o) (event_of_form_if_any cables o)
    by None = λ words. refl
    by (Some f) = reads_form cables f
