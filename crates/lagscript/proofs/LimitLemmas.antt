-- No cable of a document has the limit 0.
use Rattle.lagscript.proofs.Common.{All, Bool, Err, List, None, Ok, Option, Result, Some, [], ap, codes, false, if◌then◌else◌, nat_le}
use Rattle.lagscript.proofs.Common.{option_and_then, option_map, refl, subst, true, ℕ, ◌+◌, ◌∙◌, ◌∷◌, ◌≡◌, ◌≢◌, Data, Members, as_table, get_member}
use Rattle.lagscript.proofs.Common.{ScriptFault, CablePlan, ends_in, from_one, integer_in, keys_among, limit_in, list_in, value_at, value_or}
use Rattle.lagscript.proofs.Common.{each_at_place, if_or_fault, or_fault, ◌>>=◌, cables_in, limits_of, cable_keys, cable_of, limit_of}
use Rattle.std.proofs.lemmas.List.Elements.{All-cons, All-map, All-nil}
use Rattle.lagscript.specs.declared.fault.ScriptFault.TheVariants as fault

abbrev IsLimit : Option ℕ → Type 0
IsLimit limit = limit ≢ Some 0

tested : (w : ScriptFault) (limit : Option ℕ) (n : ℕ) (b : Bool) → nat_le 1 n ≡ b
    → or_fault w (option_map Some (if b then Some n else None)) ≡ Ok limit → IsLimit limit
tested w limit n false h e z = cc
tested w limit n true h e z = let zero_is : n ≡ 0 = cc in
    let no : nat_le 1 0 ≡ true = subst (λ m. nat_le 1 m ≡ true) zero_is h in
    absurd (let f = no in cc)

numbered : (w : ScriptFault) (limit : Option ℕ) (o : Option ℕ) → or_fault w (option_map Some (option_and_then from_one o)) ≡ Ok limit → IsLimit limit
numbered w limit None e z = cc
numbered w limit (Some n) e z = tested w limit n (nat_le 1 n) refl e z

said : (w : ScriptFault) (limit : Option ℕ) (o : Option Data)
    → or_fault w (value_or (Some None) (λ d. option_map Some (limit_in d)) o) ≡ Ok limit → IsLimit limit
said w limit None e z = cc
said w limit (Some d) e z = numbered w limit (integer_in 65536 d) e z

joined : (place : ℕ) (c : CablePlan) (known : Bool) (ends : Option (ℕ × ℕ)) (limit : Result (Option ℕ) ScriptFault)
    → ((l : Option ℕ) → limit ≡ Ok l → IsLimit l)
    → if_or_fault known (fault.CableExtraKey place) (or_fault (fault.CableEnds place) ends >>= λ ends. limit >>= λ limit. Ok
    (record { ends = ends; limit = limit })) ≡ Ok c → IsLimit c.limit
joined place c false ends limit h e z = cc
joined place c true None limit h e z = cc
joined place c true (Some x) (Err w) h e z = cc
joined place c true (Some x) (Ok l) h e z = let made : CablePlan = record { ends = x; limit = l } in
    let same : made ≡ c = cc in
    h l refl (ap (λ k. k.limit) same ∙ z)

cable_has : (place : ℕ) (ms : Members) (c : CablePlan) → cable_of place ms ≡ Ok c → IsLimit c.limit
cable_has place ms c e = joined place c (keys_among cable_keys ms) (value_at (codes "ends") ends_in None ms) (limit_of place ms)
    (λ l. said (fault.CableLimit place) l (get_member (codes "limit") ms)) e

each_has : (place : ℕ) (mss : List Members) (cables : List CablePlan) → each_at_place cable_of place mss ≡ Ok cables → All (λ c. IsLimit c.limit) cables
each_has place [] [] e = All-nil (λ c. IsLimit c.limit)
each_has place [] (c ∷ cs) e = absurd (let f = e in cc)
each_has place (ms ∷ mss) cables e = read (cable_of place ms) (each_at_place cable_of (place + 1) mss) (cable_has place ms)
    (each_has (place + 1) mss) e
  where
    read : (r : Result CablePlan ScriptFault) (rest : Result (List CablePlan) ScriptFault) → ((c : CablePlan) → r ≡ Ok c → IsLimit c.limit)
        → ((cs : List CablePlan) → rest ≡ Ok cs → All (λ c. IsLimit c.limit) cs)
        → (r >>= λ y. rest >>= λ ys. Ok (y ∷ ys)) ≡ Ok cables → All (λ c. IsLimit c.limit) cables
    read (Err w) rest h g e = absurd (let f = e in cc)
    read (Ok c) (Err w) h g e = absurd (let f = e in cc)
    read (Ok c) (Ok cs) h g e = let same : c ∷ cs ≡ cables = cc in
        subst (All (λ k. IsLimit k.limit)) same (All-cons (λ k. IsLimit k.limit) c cs (h c refl) (g cs refl))

-- of the cables of a document
pub limits_are : (ms : Members) (cables : List CablePlan) → cables_in ms ≡ Ok cables → All (λ limit. limit ≢ Some 0) (limits_of cables)
limits_are ms cables e = All-map (λ limit. limit ≢ Some 0) (λ c. c.limit) cables
    (among (value_at (codes "cable") (list_in as_table) (Some []) ms) e)
  where
    among : (o : Option (List Members)) → (or_fault fault.Cables o >>= each_at_place cable_of 1) ≡ Ok cables → All (λ c. IsLimit c.limit) cables
    among None e = absurd (let f = e in cc)
    among (Some mss) e = each_has 1 mss cables e
