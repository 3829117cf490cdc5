-- If `clap` states no fault for the words of a command line, they name a subcommand with each argument that it takes.
use Rattle.std.proofs.Common.{◌≡◌, ◌∙◌, ◌&&◌, Bool, true, false, cond, not, ap, ap₂, refl, subst, sym, inl, inr, codes, List, [], ◌∷◌, Option, Some}
use Rattle.std.proofs.Common.{None, is_some, find, option_map, ◌≢◌}
use Rattle.std.proofs.lemmas.Bool.{not-false, or_parts}
use Rattle.std.specs.Prelude.{⊤}
use Rattle.std.specs.List.{list_any}
use Rattle.std.specs.Option.{option_map_or}
use Rattle.clap.specs.Kinds.{HasKind, IsAmong, Kinds, check_kinds, or_else}
use Rattle.clap.specs.Values.{kind_of}
use Rattle.clap.specs.declared.error.Error.{Error}
use Rattle.clap.specs.declared.error.kind.ErrorKind.TheVariants.{DisplayHelp, DisplayVersion, OutOfMemory}
use Rattle.clap.specs.Faults.{check_fault, defaults_fault, entered_fault, fault_of, level_fault, settle_fault, walk_fault}
use Rattle.clap.specs.Simple.{App, Shape, argument_words, built, built_leaf, entered, inherited, is_simple, label_of, marked_built, names_of, rows_at}
use Rattle.clap.specs.Simple.{subcommand_of, with_leaf_noted}
use Rattle.clap.specs.Takes.{is_given}
use Rattle.clap.specs.Walk.{Row, Rule, Text, answers_to, finished, nothing_held, rows_after, settled, walk, walk_from}
use Rattle.lagtool.specs.Lines.{IsHelpOrVersion, IsCause, KeepsKind, capture_subcommand, check_subcommand, decode_subcommand, has_text}
use Rattle.lagtool.specs.Lines.{has_each_argument, program, replay_subcommand, respond_subcommand, vectors_subcommand}
use Rattle.lagtool.specs.declared.line.LineFault.{LineFault}
use Rattle.lagtool.specs.declared.line.LineFault.TheVariants.{Help, Usage, NoMemory}
use Rattle.clap.specs.Words.{app_of, is_simple_and_free, subcommand_rows_of, HasMatchesOf}
use Rattle.clap.specs.declared.builder.command.Command.{Command}
use Rattle.clap.specs.declared.parser.matches.ArgMatches.{ArgMatches}
use Rattle.lagtool.proofs.RowLemmas.{AreWordsOrHelp, given_has_value, is_checked, neither, rows_filled}

nothing_missing : (b : Bool) → check_kinds false false b ≡ [] → b ≡ false
nothing_missing true e = cc
nothing_missing false e = refl

-- an argument that is required was given
abbrev AllGiven : List Row → List Rule → Type 0
AllGiven rows [] = ⊤
AllGiven rows (a ∷ c) = ((a.required && not (is_given a.id rows)) ≡ false) × AllGiven rows c

all_given : (rows : List Row) (c : List Rule) → list_any (λ a. a.required && not (is_given a.id rows)) c ≡ false → AllGiven rows c
all_given rows [] e = tt
all_given rows (a ∷ c) e =
    let parts = or_parts (a.required && not (is_given a.id rows)) (list_any (λ a. a.required && not (is_given a.id rows)) c) e in
    (parts.0, all_given rows c parts.1)

-- a subcommand as it is built
abbrev line_of : App → Shape
line_of a = built_leaf (inherited (with_leaf_noted (marked_built program.top)) a.top)

text_given : (s : Shape) (words : List Text) (id : Text) → AreWordsOrHelp s.rules → level_fault s [] nothing_held words false [] ≡ []
    → not (is_given id (rows_after s.rules [] words)) ≡ false → has_text id (rows_after s.rules [] words) ≡ true
text_given s words id good e given =
    ap is_some (given_has_value id (rows_after s.rules [] words) (rows_filled s words good e) (not-false _ given)).1

abbrev IsWholeLine : Shape → Type 0
IsWholeLine s = (words : List Text) → level_fault s [] nothing_held words false [] ≡ [] → has_each_argument (Some (rows_at s words)) ≡ true

decode_whole : IsWholeLine (line_of decode_subcommand)
decode_whole words e = let s = line_of decode_subcommand in
    let given = all_given (rows_after s.rules [] words) s.rules (nothing_missing _ (is_checked s words e)) in
    text_given s words (codes "HEX") (inl (refl, refl), (inr refl, tt)) e given.0

respond_whole : IsWholeLine (line_of respond_subcommand)
respond_whole words e = let s = line_of respond_subcommand in
    let good : AreWordsOrHelp s.rules = (inl (refl, refl), (inl (refl, refl), (inr refl, tt))) in
    let given = all_given (rows_after s.rules [] words) s.rules (nothing_missing _ (is_checked s words e)) in
    ap₂ (λ x y. x && y) (text_given s words (codes "MAC") good e given.0) (text_given s words (codes "HEX") good e given.1.0)

check_whole : IsWholeLine (line_of check_subcommand)
check_whole words e = let s = line_of check_subcommand in
    let given = all_given (rows_after s.rules [] words) s.rules (nothing_missing _ (is_checked s words e)) in
    text_given s words (codes "FILE") (inl (refl, refl), (inr refl, tt)) e given.0

capture_whole : IsWholeLine (line_of capture_subcommand)
capture_whole words e = let s = line_of capture_subcommand in
    let given = all_given (rows_after s.rules [] words) s.rules (nothing_missing _ (is_checked s words e)) in
    text_given s words (codes "FILE") (inl (refl, refl), (inr refl, tt)) e given.0

replay_whole : IsWholeLine (line_of replay_subcommand)
replay_whole words e = let s = line_of replay_subcommand in
    let given = all_given (rows_after s.rules [] words) s.rules (nothing_missing _ (is_checked s words e)) in
    text_given s words (codes "SCRIPT") (inl (refl, refl), (inr refl, tt)) e given.0

vectors_whole : IsWholeLine (line_of vectors_subcommand)
vectors_whole words e = refl

abbrev AreWholeLines : List Shape → Type 0
AreWholeLines [] = ⊤
AreWholeLines (s ∷ ss) = IsWholeLine s × AreWholeLines ss

abbrev IsWholeIfFound : Option Shape → Type 0
IsWholeIfFound None = ⊤
IsWholeIfFound (Some s) = IsWholeLine s

whole_found : (p : Shape → Bool) (ss : List Shape) → AreWholeLines ss → IsWholeIfFound (find p ss)
whole_found p [] g = tt
whole_found p (s ∷ ss) g = go (p s) (whole_found p ss g.1)
  where
    go : (b : Bool) → IsWholeIfFound (find p ss) → IsWholeIfFound (cond b (Some s) (find p ss))
    go true rest = g.0
    go false rest = rest

lines_whole : AreWholeLines (built program).subs
lines_whole = (decode_whole, (respond_whole, (check_whole, (capture_whole, (replay_whole, (vectors_whole, tt))))))

entered_whole : (found : Option Shape) (words : List Text) → IsWholeIfFound found
    → option_map_or (λ s. level_fault s [] nothing_held words false []) found [] ≡ []
    → is_some (option_map (λ s. rows_at s words) found) ≡ true → has_each_argument (option_map (λ s. rows_at s words) found) ≡ true
entered_whole None words g e has = cc
entered_whole (Some s) words g e has = g words e

stopped_whole : (stop : Option (Text × List Text)) → entered_fault (built program) stop ≡ [] → is_some (entered (built program) stop) ≡ true
    → has_each_argument (entered (built program) stop) ≡ true
stopped_whole None e has = cc
stopped_whole (Some p) e has = entered_whole _ p.1 (whole_found (λ s. answers_to p.0 (label_of s)) (built program).subs lines_whole) e has

-- a subcommand is required
met : (has other : Bool) → check_kinds (not has && false) (not has && true) other ≡ [] → has ≡ true
met true other e = refl
met false other e = cc

pub whole_line : (words : List Text) → fault_of program words ≡ [] → has_each_argument (subcommand_of program words) ≡ true
whole_line words e = let a = built program in
    let rest = argument_words program words in
    let w = walk a.top.rules (names_of a) nothing_held rest in
    let has = is_some (entered a w.stopped) in
    let walks = walk_fault a.top (names_of a) (walk_from nothing_held) rest in
    let below = entered_fault a w.stopped in
    let settles = settle_fault a.top.rules a.top.args_override_self w.held in
    let defaults = defaults_fault (settled a.top.rules w.held).rows a.top.rules in
    let checks = check_fault a.top (finished a.top.rules w.held) has in
    let first = neither walks (or_else below (or_else settles (or_else defaults checks))) e in
    let second = neither below (or_else settles (or_else defaults checks)) first.1 in
    let third = neither settles (or_else defaults checks) second.1 in
    let fourth = neither defaults checks third.1 in
    let wants = not (a.top.subcommand_negates_reqs && has)
    && list_any (λ (r : Rule). r.required && not (is_given r.id (finished a.top.rules w.held))) a.top.rules in
    stopped_whole w.stopped second.0 (met has wants fourth.1)

-- a parse that succeeds states no fault for the program's words
pub faultless : (c : Command) (words : List Text) → app_of c ≡ program
    → (is_simple_and_free (app_of c) ≡ true → fault_of (app_of c) words ≡ []) → fault_of program words ≡ []
faultless c words shape kinds = ap (λ (a : App). fault_of a words) (sym shape) ∙ kinds (ap is_simple_and_free shape)

-- and finds such a subcommand
pub whole_matches : (c : Command) (words : List Text) (m : ArgMatches) → app_of c ≡ program → HasMatchesOf (app_of c) words m
    → (is_simple_and_free (app_of c) ≡ true → fault_of (app_of c) words ≡ []) → has_each_argument (subcommand_rows_of m) ≡ true
whole_matches c words m shape matches kinds =
    let found = (matches (ap is_simple shape)).1 ∙ ap (λ (a : App). subcommand_of a words) shape in
    ap has_each_argument found ∙ whole_line words (faultless c words shape kinds)

-- an error of one of the kinds is a cause of the fault that keeps it
cause_of : (kinds : Kinds) (e : Error) (f : LineFault) → HasKind kinds e → KeepsKind e f → IsCause kinds f
cause_of kinds e (Help error) h k = subst (λ (x : Error). IsHelpOrVersion (kind_of x) × IsAmong (kind_of x) kinds)
    (sym k.0) (k.1, among h k.1)
  where
    among : HasKind kinds e → IsHelpOrVersion (kind_of e) → IsAmong (kind_of e) kinds
    among (inl o) (inl p) = let bad : OutOfMemory ≡ DisplayHelp = sym o ∙ p in cc
    among (inl o) (inr p) = let bad : OutOfMemory ≡ DisplayVersion = sym o ∙ p in cc
    among (inr a) p = a
cause_of kinds e (Usage error) h k =
    subst (λ (x : Error). (kind_of x ≢ DisplayHelp) × (kind_of x ≢ DisplayVersion) × IsAmong (kind_of x) kinds)
    (sym k.0) (k.1, k.2, among h)
  where
    among : HasKind kinds e → IsAmong (kind_of e) kinds
    among (inl o) = absurd (k.3 o)
    among (inr a) = a
cause_of kinds e NoMemory h k = tt

-- and so if a parse fails by the program's words
pub line_cause : (c : Command) (words : List Text) (e : Error) (f : LineFault) → app_of c ≡ program
    → (is_simple_and_free (app_of c) ≡ true → HasKind (fault_of (app_of c) words) e) → KeepsKind e f → IsCause (fault_of program words) f
line_cause c words e f shape kinds k =
    cause_of _ e f (subst (λ (a : App). HasKind (fault_of a words) e) shape (kinds (ap is_simple_and_free shape))) k
