-- What stands first in a text that is formed of parts.
use Rattle.lagtool_jobs.proofs.Common.{Bool, Err, Global, IfOk, List, Ok, Result, String, [], ap, append_assoc, codes, decimal, false, length}
use Rattle.lagtool_jobs.proofs.Common.{string_bytes, subst, sym, take, ℕ, ◌++◌, ◌+◌, ◌∙◌, ◌∷◌, ◌≡◌, take-append_seam, SaysUnreadOf, character_text}
use Rattle.lagtool_jobs.proofs.Common.{name_of, utf8_text}
use Rattle.std.specs.declared.alloc.AllocError.{AllocError}
use Rattle.std.specs.Io.{StartsWith}
use Rattle.lagexplain.specs.TextPlaces.{column_behind, line_behind}
use Rattle.lagexplain.proofs.PlaceLemmas.{colons_joined}

-- a text of two parts begins with the first
begins : (said first rest : List ℕ) → said ≡ first ++ rest → StartsWith said first
begins said first rest formed = ap (take (length first)) formed ∙ take-append_seam first rest

-- what is formed of the name of a file and a cause begins with the name
pub names_file : (r : Result (String Global) AllocError) (is_input : Bool) (called file why : List ℕ) → is_input ≡ false → called ≡ file
    → IfOk r (λ t. string_bytes t ≡ called ++ 58 ∷ 32 ∷ why) → IfOk r (λ t. SaysUnreadOf is_input file (string_bytes t))
names_file (Err refused) is_input called file why not_input same formed = tt
names_file (Ok text) is_input called file why not_input same formed =
    subst (λ b. SaysUnreadOf b file (string_bytes text)) (sym not_input)
    (begins (string_bytes text) (file ++ 58 ∷ 32 ∷ []) why
    (formed ∙ ap (λ f. f ++ 58 ∷ 32 ∷ why) same ∙ sym (append_assoc file (58 ∷ 32 ∷ []) why)))

character_joined : (name number said : List ℕ) → name ++ (codes ": character " ++ (number ++ 32 ∷ said))
    ≡ (name ++ (codes ": character " ++ (number ++ 32 ∷ []))) ++ said
character_joined name number said = sym (append_assoc name (codes ": character " ++ (number ++ 32 ∷ [])) said
    ∙ ap (λ t. name ++ t) (append_assoc (codes ": character ") (number ++ 32 ∷ []) said
    ∙ ap (λ t. codes ": character " ++ t) (append_assoc number (32 ∷ []) said)))

-- what is formed of a name, the number of a character and more begins with the name and the number
pub says_character : (r : Result (String Global) AllocError) (name said : List ℕ) (n digits : ℕ) → n ≡ digits + 1
    → IfOk r (λ t. string_bytes t ≡ name ++ (codes ": character " ++ (decimal n ++ 32 ∷ said)))
    → IfOk r (λ t. StartsWith (string_bytes t) (character_text name digits))
says_character (Err refused) name said n digits same formed = tt
says_character (Ok text) name said n digits same formed = begins (string_bytes text) (character_text name digits) said
    (formed ∙ ap (λ k. name ++ (codes ": character " ++ (decimal k ++ 32 ∷ said))) same
    ∙ character_joined name (decimal (digits + 1)) said)

-- what is formed of a name, a place and the number of an octet tells them
pub tells_octet : (r : Result (String Global) AllocError) (called file before : List ℕ) (line column n : ℕ) → called ≡ name_of file → line ≡ line_behind before
    → column ≡ column_behind before → n ≡ length before + 1
    → IfOk r (λ t. string_bytes t ≡ called ++ 58 ∷ (decimal line ++ 58 ∷ (decimal column ++ (codes ": octet " ++ (decimal n ++ codes " is not UTF-8")))))
    → IfOk r (λ t. string_bytes t ≡ utf8_text file before)
tells_octet (Err refused) called file before line column n named on_line in_column counted formed = tt
tells_octet (Ok text) called file before line column n named on_line in_column counted formed =
    let behind : List ℕ = codes "octet " ++ (decimal (length before + 1) ++ codes " is not UTF-8") in
    formed
    ∙ ap (λ t. t ++ 58 ∷ (decimal line ++ 58 ∷ (decimal column ++ (codes ": octet " ++ (decimal n ++ codes " is not UTF-8"))))) named
    ∙ ap (λ k. name_of file ++ 58 ∷ (decimal k ++ 58 ∷ (decimal column ++ (codes ": octet " ++ (decimal n ++ codes " is not UTF-8"))))) on_line
    ∙ ap (λ k. name_of file ++ 58 ∷ (decimal (line_behind before) ++ 58 ∷ (decimal k ++ (codes ": octet " ++ (decimal n ++ codes " is not UTF-8"))))) in_column
    ∙ ap (λ k. name_of file ++ 58 ∷ (decimal (line_behind before) ++ 58 ∷ (decimal (column_behind before) ++ (codes ": octet " ++ (decimal k ++ codes " is not UTF-8"))))) counted
    ∙ ap (λ t. name_of file ++ t) (colons_joined (decimal (line_behind before)) (decimal (column_behind before)) behind)
