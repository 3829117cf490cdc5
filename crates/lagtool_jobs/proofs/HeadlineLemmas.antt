-- The last lines of a report say what holds of every world.
use Rattle.lagtool_jobs.proofs.Common.{Err, List, None, Ok, Option, Some, ap, arith, false, get_or, length, refl, subst, sym, ℕ, ◌+◌, ◌<◌, ◌∙◌, ◌≡◌}
use Rattle.lagtool_jobs.proofs.Common.{ext_get_or, none-some, same_Some, range_with_len, Members, Side, HasNoScript, ScriptFault, ◌>>=◌, HasScript}
use Rattle.lagtool_jobs.proofs.Common.{Script, plan_in, script_of, flow_of_system, IsSound, WorldState, collected_in, forced_in, sent_in}
use Rattle.std.proofs.lemmas.List.FromFn.{get_or-range_with_len, length-range_with_len}
use Rattle.toml.specs.Parse.{parse_document}
use Rattle.lagmodel.specs.Law.{IsSubsequence}
use Rattle.lagscript.specs.declared.fault.ScriptFault.TheVariants as script
use Rattle.lagworld.proofs.Running.{carries_of, in_order_of}

counted : (xs : List ℕ) → ((i : ℕ) → i < length xs → get_or xs i 0 ≡ i) → xs ≡ range_with_len 0 (length xs)
counted xs h = ext_get_or 0 xs (range_with_len 0 (length xs)) (sym (length-range_with_len 0 (length xs)))
    (λ k lt. let at : 0 + k ≡ k = omega arith in h k lt ∙ sym (get_or-range_with_len 0 (length xs) k 0 lt ∙ at))

-- a flow of a sound world that was not forced
pub flow_in_order : (j : WorldState) (o : Option Side) (agg conv : ℕ) → IsSound j → forced_in (flow_of_system o agg conv j) ≡ false
    → IsSubsequence (collected_in (flow_of_system o agg conv j)) (range_with_len 0 (length (sent_in (flow_of_system o agg conv j))))
flow_in_order j None agg conv sound free = tt
flow_in_order j (Some s) agg conv sound free = subst (IsSubsequence (collected_in (flow_of_system (Some s) agg conv j)))
    (counted (sent_in (flow_of_system (Some s) agg conv j)) (λ i lt. (carries_of j sound).counts_from_zero s agg conv i lt))
    (in_order_of j sound s agg conv free)

not_both : (text : List ℕ) (fault : ScriptFault) (s : Script) → (ms : Members) × (parse_document text ≡ Some ms)
    × (plan_in ms ≡ Err fault) → HasScript text s → ⊥
not_both text fault s (ms, parsed, refused) (ns, again, read) = let same : ms ≡ ns = same_Some ms ns (sym parsed ∙ again) in
    let both : Err fault ≡ Ok s = sym (ap (λ r. r >>= λ plan. Ok plan.script) refused) ∙ ap script_of same ∙ read in
    absurd (let e = both in cc)

none_both : (text : List ℕ) (s : Script) → parse_document text ≡ None → HasScript text s → ⊥
none_both text s none (ms, parsed, read) = none-some ms (sym none ∙ parsed)

-- a text with a script is not refused
pub not_refused : (text : List ℕ) (fault : ScriptFault) (s : Script) → HasNoScript text fault → HasScript text s → ⊥
not_refused text script.NotToml s h k = none_both text s h.1 k
not_refused text script.NoMemory s h k = h.0 refl
not_refused text fault s h k = not_both text fault s h.1 k
